-- What a ring leaves that was closed.
use Rattle.std.specs.Prelude.{◌≡◌, ℕ, ◌<◌, ◌≤◌, ◌++◌, List, [], ◌∷◌, length, slice_index, Option, Some, None}
use Rattle.tx_model.specs.declared.history.Commit.{Commit}
use Rattle.tx_model.specs.declared.view.Owned.{Owned}
use Rattle.tx_model.specs.declared.view.PassView.{PassView}
use Rattle.tx_model.specs.declared.word.Word.{Word}
use Rattle.tx_model.specs.Memory.{after, words_from}
use Rattle.tx_model.specs.History.{state_at, IsLegal}
use Rattle.tx_model.specs.Made.{Made}
use Rattle.ring_core.specs.declared.shape.Shape.{Shape}
use Rattle.ring_core.specs.Shape.{IsShape}
use Rattle.ring_words.specs.declared.table.Knowledge.{Knowledge}
use Rattle.ring_words.specs.Ring.{made_of}
use Rattle.ring_words.specs.Known.{history_known, owned_known}
use Rattle.ring_words.specs.Layout.{heap_index}
use Rattle.ring_words.specs.Sealings.{sealing_commits}

-- what it was made with, the one history, and the regions that are still owned
pub record Ending (S : Type 0) : Type 0 where
  pub made : Made S
  pub history : List Commit
  pub owned : List Owned

abbrev pub ending : {S : Type 0} → Made S → PassView → Ending S
ending made view = record { made = made; history = view.history; owned = view.owned }

-- all words of the regions that are owned, as their owners left them
abbrev pub contents_of : List Owned → List Word
contents_of [] = []
contents_of (o ∷ owned) = words_from o.region.base o.now ++ contents_of owned

-- the words of the last state; in a region that is still sealed, the owner's
abbrev pub last_words : {S : Type 0} → Ending S → List ℕ
last_words e = after (state_at e.made.opening e.history (length e.history)) (contents_of e.owned)

-- what the last seat knew
abbrev pub made_known : {S : Type 0} → S → Option (Knowledge S) → Made S
made_known sense None = record { sense = sense; opening = []; regions = []; life = 0 }
made_known sense (Some k) = made_of k.about

abbrev pub ending_known : {S : Type 0} → S → Option (Knowledge S) → Ending S
ending_known sense known = record { made = made_known sense known; history = history_known known; owned = owned_known known }

-- these words of a table are what the ring leaves, with so many sealing commits
pub record IsClosing {S : Type 0} (sense : S) (shape : Shape) (words : List ℕ) (seals : ℕ) (e : Ending S) : Type 0 where
  pub limits : IsShape shape
  pub sense_is : e.made.sense ≡ sense
  pub room : length e.made.opening ≡ shape.heap
  pub legal : IsLegal e.made.opening e.history
  pub lasts : length e.history ≤ shape.life
  pub index : slice_index words 0 ≡ length e.history
  pub heap : (addr : ℕ) → addr < shape.heap → slice_index words (heap_index shape addr) ≡ slice_index (last_words e) addr
  pub counted : seals ≡ sealing_commits e.history
