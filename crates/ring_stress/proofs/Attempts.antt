-- What reads and writes leave of an attempt that has counted its commit.
use Rattle.std.proofs.Common.{◌≡◌, ◌≢◌, ℕ, ◌+◌, ◌-◌, ◌<◌, ◌≤◌, List, [], ◌∷◌, None, Some, Result, Ok, Err, OnOk, true, is_ok, length, set, get_or, take, sum, slice_get, refl, sym, ◌∙◌, ap, subst, arith}
use Rattle.std.proofs.lemmas.List.{length-take-le, get_or-take, take-set-le}
use Rattle.std.proofs.lemmas.List.Sums.{sum_by-set}
use Rattle.std.proofs.lemmas.Option.{get_or_from_slice_get}
use Rattle.std.proofs.Math.Seq.{take-set-lt}
use Rattle.tx_model.specs.declared.word.Word.{Word}
use Rattle.tx_model.specs.declared.view.Attempt.{Attempt}
use Rattle.tx_model.specs.declared.view.Owned.{Owned}
use Rattle.tx_model.specs.declared.view.PassView.{PassView}
use Rattle.tx_model.specs.Words.{AreApart, index_of, put, value_of}
use Rattle.tx_model.specs.Memory.{after, Agrees}
use Rattle.tx_model.specs.Attempt.{starting_at, MayCommit}
use Rattle.tx_model.specs.Calls.{GoesOnWith, Read, with_write}
use Rattle.tx_model.proofs.lemmas.Attempts.{agrees_last, reads_agree}
use Rattle.tx_model.proofs.lemmas.Memories.{after_commit_none, after_put, reads_unwritten}
use Rattle.tx_model.proofs.lemmas.States.{after_length}
use Rattle.tx_model.proofs.lemmas.Values.{no_value, put_last}
use Rattle.ring_stress.specs.declared.sense.TheConstants.{CALLERS}
use Rattle.ring_stress.specs.Counts.{CountsDown, commits_left}
use Rattle.ring_stress.specs.Ready.{HasCounted}

-- ---- the word that counts
sum_set : (xs : List ℕ) (i y : ℕ) → i < length xs → sum (set xs i y) + get_or xs i 0 ≡ sum xs + y
sum_set xs i y below = sum_by-set (λ (n : ℕ). n) xs i y 0 below

one_less : (memory : List ℕ) (at count : ℕ) → CALLERS < length memory → at < CALLERS → slice_get memory at ≡ Some count → count ≢ 0
    → commits_left (set memory at (count - 1)) < commits_left memory
one_less memory at count long below there some =
    let front = take CALLERS memory in
    let wide : length front ≡ CALLERS = length-take-le CALLERS memory (omega (arith, long)) in
    let is : take CALLERS (set memory at (count - 1)) ≡ set front at (count - 1) = take-set-lt CALLERS memory at (count - 1) below in
    let is_count = get_or-take CALLERS memory at 0 below ∙ get_or_from_slice_get memory at count 0 there in
    omega (arith, sum_set front at (count - 1) (omega (arith, wide, below)), ap sum is, is_count, some)

put_some : (words : List Word) (addr value : ℕ) → put words addr value ≢ []
put_some words addr value none =
    let is : None ≡ Some value = sym (no_value addr) ∙ ap (λ ws. value_of ws addr) (sym none) ∙ put_last words addr value in cc

put_first : (addr value : ℕ) → put [] addr value ≡ record { addr = addr; value = value } ∷ []
unfolding index_of
put_first addr value = refl

pub counted_down : {opening : List ℕ} {old mid new : PassView} {before between now : Attempt} (at count : ℕ) → at < CALLERS
    → CALLERS < length opening → count ≢ 0 → before ≡ starting_at before.start → Read opening old mid before between at count → new ≡ mid
    → now ≡ with_write between at (count - 1) → HasCounted (length opening) new now
counted_down {opening = opening} {new = new} {before = before} {between = between} at count below wide some fresh read same written =
    let none : before.writes ≡ [] = ap (λ (attempt : Attempt). attempt.writes) fresh in
    let unwritten : between.writes ≡ [] = read.writes ∙ none in
    let reads = read.reads ∙ reads_unwritten before at count none in
    let one : put between.writes at (count - 1) ≡ record { addr = at; value = count - 1 } ∷ [] =
    ap (λ words. put words at (count - 1)) unwritten ∙ put_first at (count - 1)
    in
    subst (λ attempt. HasCounted (length opening) new attempt) (sym written)
    (record {
      active = ap (λ (view : PassView). view.state) same ∙ read.goes_on.active;
      wrote = put_some between.writes at (count - 1);
      lowers = λ memory long agrees.
          subst (λ words. commits_left (after memory words) < commits_left memory) (sym one)
          (one_less memory at count (omega (arith, long, wide)) below (agrees_last before.reads (record { addr = at; value = count }) memory
          (subst (λ words. Agrees words memory) reads agrees)) some);
      none_published = read.published ∙ ap (λ (attempt : Attempt). attempt.published) fresh;
    })

-- ---- a read and a write more
pub counted_read : {size : ℕ} {opening : List ℕ} {old new : PassView} {before now : Attempt} {addr value : ℕ} → HasCounted size old before
    → Read opening old new before now addr value → HasCounted size new now
counted_read {before = before} {addr = addr} {value = value} counted read =
    record {
      active = read.goes_on.active;
      wrote = λ none. counted.wrote (sym read.writes ∙ none);
      lowers = λ memory long agrees.
          subst (λ words. commits_left (after memory words) < commits_left memory) (sym read.writes)
          (counted.lowers memory long
          (reads_agree before.writes before.reads addr value memory (subst (λ words. Agrees words memory) read.reads agrees)));
      none_published = read.published ∙ counted.none_published;
    }

pub counted_write : {size : ℕ} {old new : PassView} {before now : Attempt} (addr value : ℕ) → HasCounted size old before → new ≡ old
    → AreApart before.writes → CALLERS ≤ addr → now ≡ with_write before addr value → HasCounted size new now
counted_write {size = size} {new = new} {before = before} addr value counted same apart behind written =
    subst (λ attempt. HasCounted size new attempt) (sym written)
    (record {
      active = ap (λ (view : PassView). view.state) same ∙ counted.active;
      wrote = put_some before.writes addr value;
      lowers = λ memory long agrees.
          let front : take CALLERS (after memory (put before.writes addr value)) ≡ take CALLERS (after memory before.writes) =
          ap (take CALLERS) (after_put memory before.writes addr value apart) ∙ take-set-le CALLERS (after memory before.writes) addr value behind
          in
          omega (arith, ap sum front, counted.lowers memory long agrees);
      none_published = counted.none_published;
    })

-- ---- what may be committed
pub still_counted : {size : ℕ} {old new : PassView} {before now : Attempt} → HasCounted size old before
    → GoesOnWith old new before now before.reads before.writes → HasCounted size new now
still_counted {before = before} {now = now} counted goes =
    record {
      active = goes.goes_on.active;
      wrote = λ none. counted.wrote (sym goes.writes ∙ none);
      lowers = λ memory long agrees.
          subst (λ words. commits_left (after memory words) < commits_left memory) (sym goes.writes)
          (counted.lowers memory long (subst (λ words. Agrees words memory) goes.reads agrees));
      none_published = goes.published ∙ counted.none_published;
    }

pub may_commit : {opening : List ℕ} {view : PassView} {attempt : Attempt} (owned : List Owned) → HasCounted (length opening) view attempt
    → MayCommit (CountsDown opening) commits_left attempt owned
may_commit {opening = opening} {attempt = attempt} owned counted memory good fits =
    let less = counted.lowers memory good.size fits.reads in
    subst (λ (m : List ℕ). CountsDown opening m × (commits_left m < commits_left memory))
    (sym (after_commit_none memory attempt owned counted.none_published))
    (record { size = after_length memory attempt.writes ∙ good.size; left = omega (arith, less, good.left) }, less)

-- what an `Ok` tells
pub wrote : {T E : Type 0} {Did : Type 0} {result : Result T E} {value : T} → result ≡ Ok value → OnOk result Did → Did
wrote {Did = Did} is told = subst (λ result. OnOk result Did) is told

pub wrote_if : {T E : Type 0} {Did : Type 0} (result : Result T E) → true ≡ is_ok result → OnOk result Did → Did
wrote_if (Ok value) is told = told
wrote_if (Err error) is told = cc
