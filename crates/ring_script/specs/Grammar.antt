-- The grammar of one line of a script.
use Rattle.std.specs.Prelude.{◌≡◌, ℕ, ◌≤◌, Bool, true, false, List, [], ◌∷◌, ◌++◌, codes}
use Rattle.ring_runs.specs.declared.event.Act.{Act}
use Rattle.ring_runs.specs.declared.event.Act.TheVariants as act
use Rattle.ring_script.specs.Lines.{IsNumber}

-- the tokens are these numbers, in order
abbrev pub AreNumbers : List (List ℕ) → List ℕ → Type 0
AreNumbers [] [] = Unit {0}
AreNumbers (token ∷ tokens) (number ∷ numbers) = IsNumber token number × AreNumbers tokens numbers
AreNumbers [] (number ∷ numbers) = ⊥
AreNumbers (token ∷ tokens) [] = ⊥

-- the first line: the ring, the bits of a signature, the words of the memory, the callers, and the most commits
pub record IsRingLine (tokens : List (List ℕ)) (ring bits words callers life : ℕ) : Type 0 where
  pub r : List ℕ
  pub b : List ℕ
  pub n : List ℕ
  pub p : List ℕ
  pub l : List ℕ
  pub whole : tokens ≡ codes "ring" ∷ r ∷ codes "bits" ∷ b ∷ codes "words" ∷ n ∷ codes "callers" ∷ p ∷ codes "life" ∷ l ∷ []
  pub numbers : AreNumbers (r ∷ b ∷ n ∷ p ∷ l ∷ []) (ring ∷ bits ∷ words ∷ callers ∷ life ∷ [])

-- a line of a name and numbers
pub record IsNamedLine (tokens : List (List ℕ)) (name : List ℕ) (numbers : List ℕ) : Type 0 where
  pub given : List (List ℕ)
  pub whole : tokens ≡ name ∷ given
  pub are : AreNumbers given numbers

-- ---- events
-- the tokens behind the caller's number
abbrev pub AsksFor : List (List ℕ) → Act → Type 0
AsksFor tokens act.Begin = IsNamedLine tokens (codes "begin") []
AsksFor tokens (act.Read addr) = IsNamedLine tokens (codes "read") (addr ∷ [])
AsksFor tokens (act.Write addr value) = IsNamedLine tokens (codes "write") (addr ∷ value ∷ [])
AsksFor tokens act.Stamp = IsNamedLine tokens (codes "stamp") []
AsksFor tokens act.Turn = IsNamedLine tokens (codes "turn") []
AsksFor tokens act.Done = IsNamedLine tokens (codes "done") []
AsksFor tokens act.GiveUp = IsNamedLine tokens (codes "give-up") []
AsksFor tokens (act.Seal region) = IsNamedLine tokens (codes "seal") (region ∷ [])
AsksFor tokens (act.Publish region) = IsNamedLine tokens (codes "publish") (region ∷ [])
AsksFor tokens (act.Load addr) = IsNamedLine tokens (codes "load") (addr ∷ [])
AsksFor tokens (act.Store addr value) = IsNamedLine tokens (codes "store") (addr ∷ value ∷ [])
AsksFor tokens (act.Step count) = IsNamedLine tokens (codes "step") (count ∷ []) × (1 ≤ count) × (count ≤ 1000000)
AsksFor tokens act.Run = IsNamedLine tokens (codes "run") []

-- the requests that may be run on their line
abbrev pub may_run : Act → Bool
may_run act.Begin = true
may_run (act.Read addr) = true
may_run act.Stamp = true
may_run act.Turn = true
may_run (act.Load addr) = true
may_run (act.Store addr value) = true
may_run _ = false

-- a caller's number and what it is asked for
pub record IsEventLine (tokens : List (List ℕ)) (who : ℕ) (act : Act) : Type 0 where
  pub caller : List ℕ
  pub asked : List (List ℕ)
  pub whole : tokens ≡ caller ∷ asked
  pub number : IsNumber caller who
  pub asks : AsksFor asked act

-- the same with the further token `run`
pub record IsRunLine (tokens : List (List ℕ)) (who : ℕ) (act : Act) : Type 0 where
  pub before : List (List ℕ)
  pub whole : tokens ≡ before ++ codes "run" ∷ []
  pub request : IsEventLine before who act
  pub may : may_run act ≡ true
