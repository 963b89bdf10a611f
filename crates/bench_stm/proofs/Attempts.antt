-- What reads and writes leave of an attempt of the benchmark.
use Rattle.std.proofs.Common.{◌≡◌, ◌≢◌, ℕ, ◌+◌, ◌-◌, ◌<◌, ◌≤◌, ◌++◌, List, [], ◌∷◌, Some, Result, Ok, OnOk, length, set, get_or, take, sum, slice_get, refl, sym, ◌∙◌, ap, subst, arith}
use Rattle.std.proofs.lemmas.List.{length-take-le, get_or-take, take-set-le}
use Rattle.std.proofs.lemmas.List.Sums.{sum_by-set}
use Rattle.std.proofs.lemmas.Option.{get_or_from_slice_get}
use Rattle.std.proofs.Math.Seq.{take-set-lt}
use Rattle.tx_model.specs.declared.pass.PassState.TheVariants.{Active}
use Rattle.tx_model.specs.declared.pass.Stop.{Stop}
use Rattle.tx_model.specs.declared.history.Commit.{Commit}
use Rattle.tx_model.specs.declared.word.Word.{Word}
use Rattle.tx_model.specs.declared.view.Attempt.{Attempt}
use Rattle.tx_model.specs.declared.view.PassView.{PassView}
use Rattle.tx_model.specs.Words.{AreApart, index_of, put}
use Rattle.tx_model.specs.Memory.{after, Agrees}
use Rattle.tx_model.specs.History.{after_commit}
use Rattle.tx_model.specs.Made.{Made}
use Rattle.tx_model.specs.Attempt.{commit_of, starting_at}
use Rattle.tx_model.specs.Calls.{GoesOn, OnlyReads, Read, IsStopped, with_write}
use Rattle.tx_model.specs.Opacity.{IsShown}
use Rattle.tx_model.specs.Tries.{ReadyToCommit}
use Rattle.tx_model.proofs.lemmas.Attempts.{agrees_left, agrees_last, put_few}
use Rattle.tx_model.proofs.lemmas.Calls.{goes_on_then, goes_on_writing, ended_after, later_itself}
use Rattle.tx_model.proofs.lemmas.Memories.{after_commit_none, after_put, reads_unwritten}
use Rattle.tx_model.proofs.lemmas.States.{after_length}
use Rattle.bench_stm.specs.declared.addresses.TheConstants.{COUNTS, WORDS}
use Rattle.bench_stm.specs.declared.sense.Countdowns.{Countdowns}
use Rattle.bench_stm.specs.Countdowns.{CountsDown, commits_left}
use Rattle.bench_stm.specs.Work.{Lowers, HasCounted}

-- ---- one after another
pub shown_since : {shows : List Commit → ℕ → List ℕ → Stop → Type 0} {opening : List ℕ} {history : List Commit} {earlier since : ℕ} {stop : Stop}
    → earlier ≤ since → IsShown shows opening history since stop → IsShown shows opening history earlier stop
shown_since before shown =
    record {
      start = shown.start;
      reads = shown.reads;
      asked = shown.asked;
      no_older = omega (arith, before, shown.no_older);
      one_state = shown.one_state;
      shown = shown.shown;
    }

pub stopped_after : {shows : List Commit → ℕ → List ℕ → Stop → Type 0} {opening : List ℕ} {old mid new : PassView} {before between : Attempt} {stop : Stop}
    → GoesOn old mid before between → IsStopped shows opening mid new between stop → IsStopped shows opening old new before stop
stopped_after went (ended, shown) = (ended_after went ended, shown_since went.start shown)

pub counted_reads : {most : ℕ} {old mid new : PassView} {before between now : Attempt} → HasCounted most old mid before between
    → OnlyReads mid new between now → HasCounted most old new before now
counted_reads {between = between} counted only =
    record {
      goes_on = goes_on_then counted.goes_on only.goes_on;
      lowers = λ memory long agrees.
          subst (λ words. commits_left (after memory words) < commits_left memory) (sym only.writes) (counted.lowers memory long
          (agrees_left between.reads only.reads.0 memory (subst (λ words. Agrees words memory) only.reads.1 agrees)));
      none_published = only.published ∙ counted.none_published;
      few = omega (arith, ap length only.writes, counted.few);
    }

pub counted_more : (more : ℕ) {most : ℕ} {old mid new : PassView} {before between now : Attempt} → HasCounted most old mid before between
    → HasCounted (length between.writes + more) mid new between now → HasCounted (most + more) old new before now
counted_more more first then' =
    record {
      goes_on = goes_on_then first.goes_on then'.goes_on;
      lowers = then'.lowers;
      none_published = then'.none_published;
      few = omega (arith, first.few, then'.few);
    }

-- ---- a write of an account
pub account_written : {old new : PassView} {before now : Attempt} (addr value : ℕ) → old.state ≡ Active → new ≡ old → AreApart before.writes
    → COUNTS ≤ addr → Lowers before → before.published ≡ [] → now ≡ with_write before addr value
    → HasCounted (length before.writes + 1) old new before now
account_written {old = old} {new = new} {before = before} addr value active same apart behind lowers none written =
    subst (λ attempt. HasCounted (length before.writes + 1) old new before attempt) (sym written)
    (record {
      goes_on = goes_on_writing {between = before} (record { active = active; later = later_itself old; start = omega arith }) same refl;
      lowers = λ memory long agrees.
          let front : take COUNTS (after memory (put before.writes addr value)) ≡ take COUNTS (after memory before.writes) =
          ap (take COUNTS) (after_put memory before.writes addr value apart) ∙ take-set-le COUNTS (after memory before.writes) addr value behind
          in
          omega (arith, ap sum front, lowers memory long agrees);
      none_published = none;
      few = put_few before.writes addr value;
    })

-- ---- the word that counts
sum_set : (xs : List ℕ) (i y : ℕ) → i < length xs → sum (set xs i y) + get_or xs i 0 ≡ sum xs + y
sum_set xs i y below = sum_by-set (λ (n : ℕ). n) xs i y 0 below

one_less : (memory : List ℕ) (at count : ℕ) → length memory ≡ WORDS → at < COUNTS → slice_get memory at ≡ Some count → count ≢ 0
    → commits_left (set memory at (count - 1)) < commits_left memory
one_less memory at count long below there some =
    let front = take COUNTS memory in
    let wide : length front ≡ COUNTS = length-take-le COUNTS memory (omega (arith, long)) in
    let is : take COUNTS (set memory at (count - 1)) ≡ set front at (count - 1) = take-set-lt COUNTS memory at (count - 1) below in
    let is_count = get_or-take COUNTS memory at 0 below ∙ get_or_from_slice_get memory at count 0 there in
    omega (arith, sum_set front at (count - 1) (omega (arith, wide, below)), ap sum is, is_count, some)

put_first : (addr value : ℕ) → put [] addr value ≡ record { addr = addr; value = value } ∷ []
unfolding index_of
put_first addr value = refl

pub counted_down : {opening : List ℕ} {old mid new : PassView} {before between now : Attempt} (at count : ℕ) → at < COUNTS → count ≢ 0
    → before ≡ starting_at before.start → Read opening old mid before between at count → new ≡ mid → now ≡ with_write between at (count - 1)
    → HasCounted 1 old new before now
counted_down {old = old} {new = new} {before = before} {between = between} at count below some fresh read same written =
    let none : before.writes ≡ [] = ap (λ (attempt : Attempt). attempt.writes) fresh in
    let unwritten : between.writes ≡ [] = read.writes ∙ none in
    let reads = read.reads ∙ reads_unwritten before at count none in
    let one : put between.writes at (count - 1) ≡ record { addr = at; value = count - 1 } ∷ [] =
    ap (λ words. put words at (count - 1)) unwritten ∙ put_first at (count - 1)
    in
    subst (λ attempt. HasCounted 1 old new before attempt) (sym written)
    (record {
      goes_on = goes_on_writing {between = between} read.goes_on same refl;
      lowers = λ memory long agrees.
          subst (λ words. commits_left (after memory words) < commits_left memory) (sym one)
          (one_less memory at count long below (agrees_last before.reads (record { addr = at; value = count }) memory
          (subst (λ words. Agrees words memory) reads agrees)) some);
      none_published = read.published ∙ ap (λ (attempt : Attempt). attempt.published) fresh;
      few = omega (arith, ap length one);
    })

-- ---- what may be committed
pub ready : {made : Made Countdowns} {most : ℕ} {old new : PassView} {before now : Attempt} → length made.opening ≡ WORDS
    → HasCounted most old new before now → ReadyToCommit (λ _. CountsDown) (λ _. commits_left) made old new before now
ready {made = made} {new = new} {now = now} words counted =
    record {
      goes_on = counted.goes_on;
      may = λ some memory good fits.
          let less = counted.lowers memory (good.size ∙ words) fits.reads in
          subst (λ (m : List ℕ). CountsDown made.opening m × (commits_left m < commits_left memory))
          (sym (after_commit_none memory now new.owned counted.none_published))
          (record { size = after_length memory now.writes ∙ good.size; left = omega (arith, less, good.left) }, less);
    }

pub ready_unwritten : {made : Made Countdowns} {old new : PassView} {before now : Attempt} → before ≡ starting_at before.start
    → OnlyReads old new before now → ReadyToCommit (λ _. CountsDown) (λ _. commits_left) made old new before now
ready_unwritten fresh only =
    record {
      goes_on = only.goes_on;
      may = λ some. absurd (some (only.writes ∙ ap (λ (attempt : Attempt). attempt.writes) fresh));
    }

-- what an `Ok` tells
pub wrote : {T E : Type 0} {Did : Type 0} {result : Result T E} {value : T} → result ≡ Ok value → OnOk result Did → Did
wrote {Did = Did} is told = subst (λ result. OnOk result Did) is told
