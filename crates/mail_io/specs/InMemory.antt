-- What contracts see of a source or a sink in memory.
use Rattle.std.specs.Prelude.{ℕ, ◌≡◌, List, length, min, Result, Ok, Err, IfOk}
use Rattle.mail_io.specs.Counts.{counted_up}
use Rattle.mail_io.specs.declared.errors.PutError.{PutError}
use Rattle.mail_io.specs.declared.errors.PutError.TheVariants.{Failed, Memory}

-- `QuietSource`: the bytes left, the most that a call gives, and the number of calls so far
pub record Quiet : Type 0 where
  pub left : List ℕ
  pub piece : ℕ
  pub calls : ℕ

-- `MemSource`: the same, the numbers of the calls that fail, and how many have failed
pub record Failing : Type 0 where
  pub left : List ℕ
  pub piece : ℕ
  pub calls : ℕ
  pub fail_at : List ℕ
  pub faults : ℕ

-- `QuietSink`: the bytes held, the most that a call takes, and how often memory was refused
pub record QuietStore : Type 0 where
  pub held : List ℕ
  pub piece : ℕ
  pub wants : ℕ

-- `MemSink`: the same, the number of calls so far, the numbers of those that fail, and how many have failed
pub record FailingStore : Type 0 where
  pub held : List ℕ
  pub piece : ℕ
  pub wants : ℕ
  pub calls : ℕ
  pub fail_at : List ℕ
  pub faults : ℕ

-- the count of faults after a call of `put`
abbrev pub faults_after : ℕ → Result ℕ PutError → ℕ
faults_after before (Ok _) = before
faults_after before (Err Failed) = counted_up before
faults_after before (Err Memory) = before

-- the count of wants after a call of `put`
abbrev pub wants_after : ℕ → Result ℕ PutError → ℕ
wants_after before (Ok _) = before
wants_after before (Err Failed) = before
wants_after before (Err Memory) = counted_up before

-- a call of `put` on a `QuietSink`: what it takes of what it is offered
abbrev pub QuietOffered : QuietStore → List ℕ → Result ℕ PutError → QuietStore → Type 0
QuietOffered before piece result after = IfOk result (λ n. n ≡ min before.piece (length piece))

-- a call of `put` on a `MemSink`: its number, and what it takes of what it is offered
pub record MemOffered (before : FailingStore) (piece : List ℕ) (result : Result ℕ PutError) (after : FailingStore) : Type 0 where
  pub counted : after.calls ≡ counted_up before.calls
  pub taken : IfOk result (λ n. n ≡ min before.piece (length piece))
