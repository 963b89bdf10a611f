-- What a seat knows, where it knows anything.
use Rattle.std.specs.Prelude.{ℕ, List, [], Option, Some, None}
use Rattle.tx_model.specs.declared.history.Commit.{Commit}
use Rattle.tx_model.specs.declared.pass.PassState.{PassState}
use Rattle.tx_model.specs.declared.view.Owned.{Owned}
use Rattle.tx_model.specs.declared.view.PassView.{PassView}
use Rattle.ring_core.specs.declared.kind.Kind.{Kind}
use Rattle.ring_words.specs.declared.table.Knowledge.{Knowledge}
use Rattle.ring_words.specs.Ring.{front_of, mine_of, share_of}

module _ {S : Type 0} where
  abbrev pub history_known : Option (Knowledge S) → List Commit
  history_known None = []
  history_known (Some k) = k.history

  abbrev pub front_known : Option (Knowledge S) → ℕ
  front_known None = 0
  front_known (Some k) = front_of k.process

  abbrev pub owned_known : Option (Knowledge S) → List Owned
  owned_known None = []
  owned_known (Some k) = k.process.owned

  -- how many steps it has made
  abbrev pub steps_known : Option (Knowledge S) → ℕ
  steps_known None = 0
  steps_known (Some k) = k.steps

  -- the word that the last of them found, and its kind
  abbrev pub found_known : Option (Knowledge S) → ℕ
  found_known None = 0
  found_known (Some k) = k.found

  abbrev pub kind_known : Option (Knowledge S) → Option Kind
  kind_known None = None
  kind_known (Some k) = k.kind

  -- a caller in this state, with what its seat knows, as a pass
  abbrev pub view_known : PassState → Option (Knowledge S) → PassView
  view_known state known =
      record {
        state = state;
        history = history_known known;
        front = front_known known;
        mine = mine_of known;
        owned = owned_known known;
        share = share_of known;
      }
