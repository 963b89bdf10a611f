-- What an attempt did that read the messages of keys, by what it read alone.
use Rattle.std.specs.Prelude.{◌≡◌, ℕ, List, [], ◌∷◌, Option, Some, None}
use Rattle.tx_model.specs.declared.gate.TheConstants.{GATE_SEALED}
use Rattle.tx_model.specs.declared.view.Attempt.{Attempt}
use Rattle.tx_model.specs.Memory.{Agrees}
use Rattle.mail_words.specs.Key.{KeyNumbers}
use Rattle.tx_heap.specs.Layout.{mail_layout}
use Rattle.tx_heap.specs.Heap.{Heap, gate_of}
use Rattle.tx_heap.specs.Index.{rows_of}
use Rattle.tx_heap.specs.Mail.{IsGoodMail, mail_heap}
use Rattle.tx_postings.specs.Laws.{HasNonePacked}
use Rattle.mail_answers.specs.Lists.{ListMap, HasLists, HasKeys}
use Rattle.mail_answers.specs.declared.attempt.Unread.{Unread}
use Rattle.mail_answers.specs.declared.attempt.Unread.TheVariants.{Memory, Sealed}

-- the numbers of keys, one key after the other
abbrev pub numbers_in : List KeyNumbers → List ℕ
numbers_in [] = []
numbers_in (key ∷ keys) = key.k0 ∷ key.k1 ∷ key.k2 ∷ key.k3 ∷ numbers_in keys

module _ (lists : List (List KeyNumbers)) (opening : List ℕ) where
  -- this holds of the index in every good memory that has the attempt's reads
  abbrev pub OfRead : Attempt → (Heap → Type 0) → Type 0
  OfRead attempt P = (memory : List ℕ) → IsGoodMail lists opening memory → Agrees attempt.reads memory → P (mail_heap lists memory)

  module _ (keys : List KeyNumbers) (read : ListMap) where
    -- it wrote nothing, and each key has a list: the messages of the rows of those memories that have no packed gate
    pub record DidRead (attempt : Attempt) : Type 0 where
      pub wrote_none : attempt.writes ≡ []
      pub all : HasKeys read keys
      pub of_rows : OfRead attempt (λ heap. HasNonePacked heap → HasLists read (rows_of mail_layout heap))

    -- or it didn't read them all, for want of memory or at a sealed segment
    abbrev pub DidAsk : Option Unread → Attempt → Type 0
    DidAsk None attempt = DidRead attempt
    DidAsk (Some Memory) attempt = attempt.writes ≡ []
    DidAsk (Some (Sealed segment)) attempt = OfRead attempt (λ heap. gate_of heap segment ≡ GATE_SEALED)
