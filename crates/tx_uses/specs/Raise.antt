-- What it is to raise a word of a memory that counts down.
use Rattle.std.specs.Prelude.{◌≡◌, ℕ, ◌+◌, ◌-◌, ◌<◌, ◌^◌, List, [], ◌∷◌, length, All, Contains, Option, Some, None}
use Rattle.tx_model.specs.declared.word.Word.{Word}
use Rattle.tx_model.specs.declared.view.Attempt.{Attempt}
use Rattle.tx_uses.specs.declared.raise.Raise.{Raise}
use Rattle.tx_uses.specs.declared.raise.RaiseRefusal.{RaiseRefusal}
use Rattle.tx_uses.specs.declared.raise.RaiseRefusal.TheVariants.{Spent, Full}

-- the word that is raised
abbrev pub word_of : Raise → ℕ
word_of body = body.word

-- the words are in the memory, and none is the one that counts
abbrev pub MayRaise : List ℕ → List ℕ → Type 0
MayRaise opening task = All (λ word. (0 < word) × (word < length opening)) task

abbrev pub at : ℕ → ℕ → Word
at addr value = record { addr = addr; value = value }

-- an attempt that read word 0 and the word, and wrote the one lower and the other greater by one
pub record Raises (word : ℕ) (attempt : Attempt) : Type 0 where
  pub count : ℕ
  pub value : ℕ
  pub some_left : 0 < count
  pub reads : attempt.reads ≡ at 0 count ∷ at word value ∷ []
  pub writes : attempt.writes ≡ at 0 (count - 1) ∷ at word (value + 1) ∷ []
  pub no_region : (attempt.sealed ≡ []) × (attempt.published ≡ [])

-- what the attempt did, by why it refused, if it did
abbrev pub DidRaise : ℕ → Option RaiseRefusal → Attempt → Type 0
DidRaise word None attempt = Raises word attempt
DidRaise word (Some Spent) attempt = Contains attempt.reads (at 0 0)
DidRaise word (Some Full) attempt = Contains attempt.reads (at word (2 ^ 64 - 1))
