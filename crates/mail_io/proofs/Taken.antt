-- What stands between two calls of `take`, and where some bytes were taken, and then some more.
use Rattle.std.proofs.Common.{◌≡◌, ℕ, ◌+◌, ◌<◌, ◌≤◌, ◌↔◌, List, ◌++◌, length, None, Some, Err, IsErrOf, refl, ap, arith, length-append}
use Rattle.std.proofs.lemmas.Result.{IfErr-at_err}
use Rattle.std.proofs.KnownBytes.{Consumes-trans}
use Rattle.std.specs.declared.option.Option.{Option}
use Rattle.std.specs.Io.KnownBytes.{Consumes}
use Rattle.mail_io.specs.declared.errors.ReadError.{ReadError}
use Rattle.mail_io.specs.declared.errors.ReadError.TheVariants.{TooLarge}
use Rattle.mail_io.specs.Reading.{TakesAll}

-- these are the bytes that were taken, no fault came, and each call gave a byte
pub record IsTaken (before now : Option (List ℕ)) (faults_before faults_now calls_before calls_now : ℕ) (limit : ℕ) (bytes : List ℕ) : Type 0 where
  pub within : length bytes ≤ limit
  pub moved : Consumes before now bytes
  pub no_fault : faults_now ≡ faults_before
  pub few_calls : calls_now ≤ calls_before + length bytes

-- an error is the same whatever an `Ok` would have
same_error : {T U : Type 0} (e f : ReadError) → IsErrOf {T = T} (Err e) f → IsErrOf {T = U} (Err e) f
same_error e f same = ap (λ x. Err x) (IfErr-at_err (λ y. e ≡ y) same refl)

-- the last of them aren't kept: they pass the limit, or there is no memory for them
pub TakesAll-refused : {T : Type 0} (a b c : Option (List ℕ)) (limit rest : ℕ) (bytes more : List ℕ) (e : ReadError) → Consumes a b bytes → Consumes b c more
    → length bytes + rest ≡ limit → length more ≤ rest + 1 → (IsErrOf {T = T} (Err e) TooLarge ↔ (rest < length more)) → TakesAll a c limit (Err e)
TakesAll-refused a b c limit rest bytes more e p q all most large = record {
  taken = bytes ++ more;
  moved = Consumes-trans a b c bytes more p q;
  at_most = omega (arith, length-append bytes more);
  exactly_large = (
    λ same. omega (arith, length-append bytes more, large.0 (same_error e TooLarge same)),
    λ over. same_error e TooLarge (large.1 (omega (arith, length-append bytes more))),
  );
  ok = tt;
}

-- a source that tells its bytes had more than the limit
pub TakesAll-told_large : (left : List ℕ) (after : Option (List ℕ)) (limit : ℕ) → TakesAll (Some left) after limit (Err TooLarge) → limit < length left
TakesAll-told_large left None limit takes = absurd takes.moved
TakesAll-told_large left (Some rest) limit takes = rw takes.moved (omega (arith, length-append takes.taken rest, takes.exactly_large.0 refl))
