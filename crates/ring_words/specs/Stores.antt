-- Steps that store a word.
use Rattle.std.specs.Prelude.{ℕ}
use Rattle.ring_core.specs.declared.action.Action.{Action}
use Rattle.ring_core.specs.declared.action.Action.TheVariants as action

abbrev pub IsStore : Action → Type 0
IsStore (action.StoreTag slot tag) = Unit {0}
IsStore (action.StoreSig slot word value) = Unit {0}
IsStore (action.StoreHeap addr value) = Unit {0}
IsStore _ = ⊥

-- the word that it stores
abbrev pub word_stored : Action → ℕ
word_stored (action.StoreTag slot tag) = tag
word_stored (action.StoreSig slot word value) = value
word_stored (action.StoreHeap addr value) = value
word_stored _ = 0
