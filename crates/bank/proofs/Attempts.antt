-- What some reads leave of an attempt that has written nothing.
use Rattle.std.proofs.Common.{◌≡◌, ℕ, ◌++◌, List, [], ◌∷◌, Result, Ok, OnOk, refl, sym, ◌∙◌, ap, subst, arith}
use Rattle.std.proofs.lemmas.List.{append_assoc, append-nil}
use Rattle.tx_model.specs.declared.pass.PassState.TheVariants.{Active}
use Rattle.tx_model.specs.declared.pass.Stop.{Stop}
use Rattle.tx_model.specs.declared.history.Commit.{Commit}
use Rattle.tx_model.specs.declared.word.Word.{Word}
use Rattle.tx_model.specs.declared.view.Attempt.{Attempt}
use Rattle.tx_model.specs.declared.view.PassView.{PassView}
use Rattle.tx_model.specs.Words.{addresses, put}
use Rattle.tx_model.specs.Attempt.{starting_at}
use Rattle.tx_model.specs.Opacity.{ReadFromState, IsShown}
use Rattle.tx_model.specs.Calls.{GoesOn, Read, Ended, with_write}
use Rattle.tx_model.proofs.lemmas.Calls.{goes_on_then, later_itself, read_stays}
use Rattle.tx_model.proofs.lemmas.Memories.{reads_unwritten}

abbrev pub at : ℕ → ℕ → Word
at addr value = record { addr = addr; value = value }

-- the attempt read these words more, and did nothing else
pub record HasRead (old new : PassView) (before now : Attempt) (words : List Word) : Type 0 where
  pub goes_on : GoesOn old new before now
  pub reads : now.reads ≡ before.reads ++ words
  pub writes : now.writes ≡ before.writes
  pub no_region : (now.sealed ≡ before.sealed) × (now.published ≡ before.published)

pub read_nothing : (view : PassView) (attempt : Attempt) → view.state ≡ Active → HasRead view view attempt attempt []
read_nothing view attempt active =
    record {
      goes_on = record { active = active; later = later_itself view; start = omega arith };
      reads = sym
          (append-nil attempt.reads);
      writes = refl;
      no_region = (refl, refl);
    }

pub read_more : {opening : List ℕ} {old mid new : PassView} {before between now : Attempt} {words : List Word} {addr value : ℕ}
    → HasRead old mid before between words → before.writes ≡ [] → Read opening mid new between now addr value
    → HasRead old new before now (words ++ at addr value ∷ [])
read_more {before = before} {between = between} {words = words} {addr = addr} {value = value} has none read =
    record {
      goes_on = goes_on_then has.goes_on read.goes_on;
      reads =
          read.reads ∙ reads_unwritten between addr value (has.writes ∙ none) ∙ ap (λ reads. reads ++ at addr value ∷ []) has.reads
          ∙ append_assoc before.reads words (at addr value ∷ []);
      writes = read.writes ∙ has.writes;
      no_region = (read.sealed ∙ has.no_region.0, read.published ∙ has.no_region.1);
    }

-- a stop of a further read is shown by what was read, from one state, and by the address asked for
pub stop_is_shown : (shows : List Commit → ℕ → List ℕ → Stop
    → Type 0) {opening : List ℕ} {old mid new : PassView} {before between : Attempt} {words : List Word} (addr : ℕ) (stop : Stop)
    → HasRead old mid before between words → ReadFromState opening mid.history between.reads between.start → Ended mid new between
    → shows new.history between.start (addr ∷ addresses between.reads) stop → IsShown shows opening new.history before.start stop
stop_is_shown shows {between = between} addr stop has one_state ended shown =
    record {
      start = between.start;
      reads = between.reads;
      asked = addr;
      no_older = has.goes_on.start;
      one_state = read_stays ended.later.history one_state;
      shown = shown;
    }

-- ---- of an attempt that began
module _ {old new : PassView} {before now : Attempt} {words : List Word} (fresh : before ≡ starting_at before.start)
    (has : HasRead old new before now words) where
  pub all_reads : now.reads ≡ words
  all_reads = has.reads ∙ ap (λ (attempt : Attempt). attempt.reads ++ words) fresh

  pub no_writes : now.writes ≡ []
  no_writes = has.writes ∙ ap (λ (attempt : Attempt). attempt.writes) fresh

  pub none_published : now.published ≡ []
  none_published = has.no_region.1 ∙ ap (λ (attempt : Attempt). attempt.published) fresh

pub read_first : {opening : List ℕ} {old new : PassView} {before now : Attempt} {addr value : ℕ} → old.state ≡ Active → before ≡ starting_at before.start
    → Read opening old new before now addr value → HasRead old new before now (at addr value ∷ [])
read_first active fresh read = read_more (read_nothing _ _ active) (ap (λ (attempt : Attempt). attempt.writes) fresh) read

pub read_next : {opening : List ℕ} {old mid new : PassView} {before between now : Attempt} {words : List Word} {addr value : ℕ}
    → before ≡ starting_at before.start → HasRead old mid before between words → Read opening mid new between now addr value
    → HasRead old new before now (words ++ at addr value ∷ [])
read_next fresh has read = read_more has (ap (λ (attempt : Attempt). attempt.writes) fresh) read

-- ---- words that were written
pub wrote : {T E : Type 0} {Did : Type 0} {result : Result T E} {value : T} → result ≡ Ok value → OnOk result Did → Did
wrote {Did = Did} is told = subst (λ result. OnOk result Did) is told

-- the attempt wrote these words more, and did nothing else
pub record HasWritten (before now : Attempt) (words : List Word) : Type 0 where
  pub reads : now.reads ≡ before.reads
  pub writes : now.writes ≡ words
  pub published : now.published ≡ before.published
  pub start : now.start ≡ before.start

pub three_written : {a b c d : Attempt} (one two three x y z : ℕ) → a.writes ≡ [] → b ≡ with_write a one x → c ≡ with_write b two y → d ≡ with_write c three z
    → HasWritten a d (put (put (put [] one x) two y) three z)
three_written one two three x y z none first second third =
    record {
      reads = ap (λ (attempt : Attempt). attempt.reads) third ∙ ap (λ (attempt : Attempt). attempt.reads) second
          ∙ ap (λ (attempt : Attempt). attempt.reads) first;
      writes =
          ap (λ (attempt : Attempt). attempt.writes) third ∙ ap (λ (attempt : Attempt). put attempt.writes three z) second
          ∙ ap (λ (attempt : Attempt). put (put attempt.writes two y) three z) first
          ∙ ap (λ (words : List Word). put (put (put words one x) two y) three z) none;
      published =
          ap (λ (attempt : Attempt). attempt.published) third ∙ ap (λ (attempt : Attempt). attempt.published) second
          ∙ ap (λ (attempt : Attempt). attempt.published) first;
      start = ap (λ (attempt : Attempt). attempt.start) third ∙ ap (λ (attempt : Attempt). attempt.start) second
          ∙ ap (λ (attempt : Attempt). attempt.start) first;
    }
