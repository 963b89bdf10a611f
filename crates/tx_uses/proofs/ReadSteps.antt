-- What an attempt that has written nothing knows after one more read, and after two.
use Rattle.std.proofs.Common.{◌≡◌, ℕ, ◌+◌, ◌++◌, Some, List, [], ◌∷◌, length, refl, sym, ◌∙◌, ap, subst, arith}
use Rattle.std.specs.Prelude.{slice_get}
use Rattle.std.proofs.lemmas.List.{length-append, get_or-append-add, get_or_at, append_assoc}
use Rattle.tx_model.specs.declared.gate.Region.{Region}
use Rattle.tx_model.specs.declared.word.Word.{Word}
use Rattle.tx_model.specs.declared.view.Attempt.{Attempt}
use Rattle.tx_model.specs.declared.view.PassView.{PassView}
use Rattle.tx_model.specs.Memory.{Agrees}
use Rattle.tx_model.specs.History.{state_at}
use Rattle.tx_model.specs.Laws.{StateStays}
use Rattle.tx_model.specs.Calls.{Began, Read, Ended}
use Rattle.tx_uses.specs.Raised.{HadValue}
use Rattle.tx_model.proofs.lemmas.Histories.{beginning_length}
use Rattle.tx_model.proofs.lemmas.Memories.{reads_unwritten}
use Rattle.tx_uses.specs.Raise.{at}
use Rattle.tx_uses.specs.Reads.{HadBoth, with_both}

-- ---- attempts with the same parts are the same
abbrev attempt_of : ℕ → List Word → List Word → List Region → List Region → Attempt
attempt_of start reads writes sealed published = record { start = start; reads = reads; writes = writes; sealed = sealed; published = published }

same_parts : (start : ℕ) {reads more writes known : List Word} {sealed kept published given : List Region} → reads ≡ more → writes ≡ known → sealed ≡ kept
    → published ≡ given
    → attempt_of start reads writes sealed published ≡ attempt_of start more known kept given
same_parts start {reads} {more} {writes} {known} {sealed} {kept} {published} {given} p q r s =
    ap (λ list. attempt_of start list writes sealed published) p ∙ ap (λ list. attempt_of start more list sealed published) q
    ∙ ap (λ list. attempt_of start more known list published) r
    ∙ ap (attempt_of start more known kept) s

-- ---- two reads
module _ {opening : List ℕ} {old mid : PassView} {before between : Attempt} {first a : ℕ}
    (unwritten : before.writes ≡ []) (one : Read opening old mid before between first a) where
  pub one_reads : between.reads ≡ before.reads ++ at first a ∷ []
  one_reads = one.reads ∙ reads_unwritten before first a unwritten

  pub one_writes : between.writes ≡ []
  one_writes = one.writes ∙ unwritten

  -- ---- both values were there at one time
  module _ {new : PassView} {now : Attempt} {second b : ℕ} (two : Read opening mid new between now second b) where
    pub two_reads : now.reads ≡ before.reads ++ at first a ∷ at second b ∷ []
    two_reads =
        two.reads ∙ reads_unwritten between second b one_writes ∙ ap (λ reads. reads ++ at second b ∷ []) one_reads
        ∙ append_assoc before.reads (at first a ∷ []) (at second b ∷ [])

    pub with_two : now ≡ with_both before now.start first a second b
    with_two =
        same_parts now.start two_reads (two.writes ∙ one.writes) (two.sealed ∙ one.sealed) (two.published ∙ one.published)

    pub had_both : HadBoth opening new.history before.start first a second b
    had_both =
        let count = length before.reads in
        let agree : Agrees (before.reads ++ at first a ∷ at second b ∷ []) (state_at opening new.history now.start) =
        subst (λ reads. Agrees reads (state_at opening new.history now.start)) two_reads two.one_state.agree in
        let long = length-append before.reads (at first a ∷ at second b ∷ []) in
        let there : Word → Type 0 = λ w. slice_get (state_at opening new.history now.start) w.addr ≡ Some w.value in
        record {
          state = now.start;
          from_start = omega (arith, one.goes_on.start, two.goes_on.start);
          happened = two.one_state.happened;
          first_there = subst there (get_or_at before.reads (at first a) (at second b ∷ []) (at 0 0) count refl) (agree count (at 0 0) (omega (arith, long)));
          second_there = subst there (get_or-append-add before.reads (at first a ∷ at second b ∷ []) 1 (at 0 0))
              (agree (count + 1) (at 0 0) (omega (arith, long)));
        }

-- ---- the one read of an attempt that began, and was then given up
pub had_value : {opening : List ℕ} {old begun mid new : PassView} {start now : Attempt} {addr value : ℕ} → StateStays → Began old begun start
    → Read opening begun mid start now addr value → Ended mid new now → HadValue opening old new addr value
had_value {opening} {old} {begun} {mid} {new} {start} {now} {addr} {value} stays began one ended =
    let none = ap (λ (attempt : Attempt). attempt.writes) began.empty in
    let reads : now.reads ≡ at addr value ∷ [] = one.reads ∙ reads_unwritten start addr value none
    ∙ ap (λ (attempt : Attempt). attempt.reads ++ at addr value ∷ []) began.empty in
    let agree : Agrees (at addr value ∷ []) (state_at opening mid.history now.start) =
    subst (λ words. Agrees words (state_at opening mid.history now.start)) reads one.one_state.agree in
    record {
      state = now.start;
      no_older = omega (arith, began.fresh, one.goes_on.start);
      happened = omega (arith, one.one_state.happened, beginning_length _ _ ended.later.history);
      there = subst (λ memory. slice_get memory addr ≡ Some value)
          (sym (stays opening mid.history new.history now.start ended.later.history one.one_state.happened)) (agree 0 (at addr value) (omega arith));
    }
