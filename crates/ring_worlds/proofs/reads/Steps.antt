-- The next step of a caller, at each stage.
use Rattle.std.proofs.Common.{◌≡◌, ℕ, ◌+◌, ◌-◌, ◌*◌, ◌%◌, ◌<◌, ◌≤◌, ◌==◌, ◌&&◌, nat_lt, nat_le, true, false, List, [], ◌++◌, length, slice_index, Contains, refl, sym, ◌∙◌, ap, subst, arith, inl, inr}
use Rattle.std.proofs.Math.Nat.{add-mod_right}
use Rattle.std.proofs.lemmas.Bool.{cases_lt, cond_both, ltb-false, eqb-false}
use Rattle.std.proofs.lemmas.Bool.Decides.{nat_tests}
use Rattle.tx_model.specs.declared.gate.Region.{Region}
use Rattle.tx_model.specs.declared.pass.PassState.TheVariants as state
use Rattle.tx_model.specs.Words.{addresses}
use Rattle.tx_model.specs.Memory.{Agrees}
use Rattle.tx_model.specs.History.{state_at}
use Rattle.ring_sig.specs.Signature.{IsWordCount, IsSignatureOf}
use Rattle.ring_core.specs.declared.shape.Shape.{Shape}
use Rattle.ring_core.specs.declared.stage.Stage.{Stage}
use Rattle.ring_core.specs.declared.stage.Stage.TheVariants.{Closed, BeginIndex, BeginTag, ReadHeap, Check, StampSlot, StampSwap, Turn, Between}
use Rattle.ring_core.specs.declared.stage.Purpose.{Purpose}
use Rattle.ring_core.specs.declared.stage.CheckStage.TheVariants.{Index, First, Words, Second}
use Rattle.ring_core.specs.declared.stage.TurnStage.{TurnStage}
use Rattle.ring_core.specs.declared.stage.TurnStage.TheVariants.{Filling, Signature, Writing, Earlier, EarlierWords, EarlierAgain, Heap, Before, Complete}
use Rattle.ring_core.specs.declared.stage.Walk.{Walk}
use Rattle.ring_core.specs.Shape.{IsShape}
use Rattle.ring_core.specs.Sound as core
use Rattle.ring_core.specs.Request.{action_at, is_open}
use Rattle.ring_core.specs.Outcomes.{Outcome, begin_from, begin_tag, stamp_slot, stamp_swap, outcome_at}
use Rattle.ring_core.specs.Words.{IsWordAt, IsCheckTag}
use Rattle.ring_worlds.specs.declared.process.Process.{Process}
use Rattle.ring_worlds.specs.World.{Board, tag_of}
use Rattle.ring_worlds.specs.Board.{IsBoard}
use Rattle.ring_worlds.specs.Reader.{IsReaderAt, IsRuled, IsLoaded}
use Rattle.ring_worlds.specs.Steps.{found_in}
use Rattle.ring_worlds.specs.Answers.{Keeps}
use Rattle.ring_worlds.proofs.reads.Checks.{second_keeps, first_keeps, words_keep, index_keeps}
use Rattle.ring_worlds.proofs.reads.HeapLoad.{heap_keeps}
use Rattle.ring_worlds.proofs.reads.Stages.{bounded, is_complete, wide, starts, turns, IsFound, stamped_not_idle, stamped_not_active}

module _ (shape : Shape) (good : IsShape shape) (opening : List ℕ) (regions : List Region) (b : Board) (ok : IsBoard shape opening regions b) (heap : List ℕ)
  where
    some_entry : 1 ≤ shape.ring
    some_entry = good.some_entry

    -- the tag of an entry in a check
    check_tag : (walk : Walk) (start : ℕ) (purpose : Purpose) → core.IsWalk shape start purpose walk → walk.top ≤ length b.history
        → IsCheckTag shape walk (tag_of shape b walk.at)
    check_tag walk start purpose w known = (
      bounded shape good opening regions b ok walk.at,
      λ newer. ok.published walk.at (omega (arith, w.after)) (omega (arith, newer, known)),
    )

    module _ (p : Process) (sized : core.IsSized shape p.caller.start p.caller.read_sig p.caller.writes p.caller.write_sig p.caller.loaded)
        (comes : (addr : ℕ) → addr < shape.heap → IsRuled shape opening regions p.reads addr → Agrees p.reads (state_at opening b.history p.caller.start)
        → IsLoaded shape opening regions b p.caller.start (length b.history) addr (slice_index heap addr))
        (within : p.caller.state ≡ state.Stamped → p.caller.stamp ≤ length b.history) where
      abbrev KeptAt : Stage → Outcome → Type 0
      KeptAt stage o = Keeps shape opening regions b p stage o

      -- ---- begin
      empty_signed : (stage : Stage) → IsReaderAt shape opening regions b p stage → IsSignatureOf (addresses (p.reads ++ [])) p.caller.read_sig
          → addresses p.reads ≡ [] → p.reads ≡ [] → IsSignatureOf [] p.caller.read_sig
      empty_signed stage r signed none same = subst (λ reads. IsSignatureOf (addresses (reads ++ [])) p.caller.read_sig) same signed

      begins_from : (stage : Stage) → IsReaderAt shape opening regions b p stage → IsSignatureOf (addresses (p.reads ++ [])) p.caller.read_sig
          → p.caller.state ≡ state.Idle → (top at : ℕ) → top ≤ length b.history → p.front ≤ at
          → KeptAt stage (begin_from shape p.caller top at)
      begins_from stage r signed is_idle top at known front =
          cond_both (nat_lt (top - shape.ring) at) _ _ (KeptAt stage)
          (λ more. record {
            later = λ e. omega arith;
            tells = tt;
            reader = record {
              behind = r.behind;
              signed = signed;
              ruled = λ addr among. absurd (let gone : Contains [] addr = subst (λ reads. Contains (addresses (reads ++ [])) addr) (r.fresh is_idle) among in
                  let none : gone.0 < 0 = gone.1 in omega (arith, none));
              fresh = r.fresh;
              agree = r.agree;
              knows = (known, front);
            };
          })
          (λ none. starts shape good opening regions b ok p stage sized r is_idle (λ e. empty_signed stage r signed e (r.fresh is_idle)) (top - shape.ring)
          (omega (arith, known, ok.near)) (let n = ltb-false _ _ none in omega (arith, front, n)))

      begins_at : {top at : ℕ} (r : IsReaderAt shape opening regions b p (BeginTag top at)) → p.caller.state ≡ state.Idle → at ≤ top → 1 ≤ at
          → p.front ≤ b.complete → KeptAt (BeginTag top at) (begin_tag shape p.caller top at (tag_of shape b at))
      begins_at {top} {at} r is_idle within first front =
          let known = r.knows.0 in
          cond_both (nat_le (4 * at + 3) (tag_of shape b at)) _ _ (KeptAt (BeginTag top at))
          (λ done. starts shape good opening regions b ok p (BeginTag top at) sized r is_idle
          (λ e. empty_signed (BeginTag top at) r r.signed e (r.fresh is_idle)) at
          (is_complete shape good opening regions b ok at (omega (arith, within, known)) (grind (arith, nat_tests, done))) r.knows.1)
          (λ not_yet. begins_from (BeginTag top at) r r.signed is_idle top (at - 1) known (elim (cases_lt b.complete at) [
            | inl above ↦ omega (arith, above, front)
            | inr below ↦ let d = ok.done at first (omega (arith, below)) in absurd (grind (arith, nat_tests, not_yet, d))
          ]))

      -- ---- stamp
      -- the slot that is wanted is free of its old entry
      slot_free : (top : ℕ) → top ≤ length b.history
          → ((nat_lt shape.ring (top + 1) && nat_lt (tag_of shape b (top + 1)) (4 * (top + 1 - shape.ring) + 3)) ≡ false)
          → top + 1 ≤ b.complete + shape.ring
      slot_free top known test =
          elim (cases_lt shape.ring (top + 1)) [
            | inl wraps ↦
                let old : ℕ = top + 1 - shape.ring in
                let same : tag_of shape b (top + 1) ≡ tag_of shape b old =
                ap (slice_index b.tags) (ap (λ n. n % shape.ring) (let e : top + 1 ≡ old + shape.ring = omega (arith, wraps) in e)
                ∙ add-mod_right old shape.ring) in
                let done : 4 * old + 3 ≤ tag_of shape b (top + 1) = grind (arith, nat_tests, test, wraps) in
                let here = is_complete shape good opening regions b ok old (let e = some_entry in omega (arith, known, e)) (omega (arith, done, same)) in
                omega (arith, here)
            | inr near ↦ omega (arith, near)
          ]

      -- else its old entry isn't complete
      busy_old : (top : ℕ) → top ≤ length b.history
          → ((nat_lt shape.ring (top + 1) && nat_lt (tag_of shape b (top + 1)) (4 * (top + 1 - shape.ring) + 3)) ≡ true)
          → (tag_of shape b (top + 1) ≡ tag_of shape b (top + 1 - shape.ring)) × (tag_of shape b (top + 1) < 4 * (top + 1 - shape.ring) + 3)
          × (top ≡ top + 1 - shape.ring + shape.ring - 1)
      busy_old top known test =
          let wraps : shape.ring < top + 1 = grind (arith, nat_tests, test) in
          let old : ℕ = top + 1 - shape.ring in (
            ap (slice_index b.tags) (ap (λ n. n % shape.ring) (let e : top + 1 ≡ old + shape.ring = omega (arith, wraps) in e) ∙ add-mod_right old shape.ring),
            grind (arith, nat_tests, test),
            omega (arith, wraps),
          )

      slots : {top : ℕ} (r : IsReaderAt shape opening regions b p (StampSlot top))
          → KeptAt (StampSlot top) (stamp_slot shape p.caller top (tag_of shape b (top + 1)))
      slots {top} r =
          let known = r.knows in
          cond_both (nat_lt shape.ring (top + 1) && nat_lt (tag_of shape b (top + 1)) (4 * (top + 1 - shape.ring) + 3)) _ _ (KeptAt (StampSlot top))
          (λ busy. record {
            later = λ e. omega arith;
            tells = busy_old top known.known busy;
            reader = record { behind = r.behind; signed = r.signed; ruled = r.ruled; fresh = r.fresh; agree = r.agree; knows = tt };
          })
          (λ free. record {
            later = λ e. omega arith;
            tells = tt;
            reader = record {
              behind = r.behind;
              signed = r.signed;
              ruled = r.ruled;
              fresh = r.fresh;
              agree = r.agree;
              knows = (known, slot_free top known.known free);
            };
          })

      swaps : {top : ℕ} (found : ℕ) → found ≡ length b.history → (r : IsReaderAt shape opening regions b p (StampSwap top))
          → KeptAt (StampSwap top) (stamp_swap p.caller top found)
      swaps {top} found here r =
          cond_both (found == top) _ _ (KeptAt (StampSwap top))
          (λ won. record {
            later = λ e. omega arith;
            tells = tt;
            reader = record {
              behind = r.behind;
              signed = r.signed;
              ruled = r.ruled;
              fresh = λ e. absurd (stamped_not_idle e);
              agree = λ e. absurd (stamped_not_active e);
              knows = tt;
            };
          })
          (λ lost. record {
            later = λ e. omega arith;
            tells = (
              here,
              let k = r.knows.0.known in let other = eqb-false _ _ lost in
                  omega (arith, here, k, other),
            );
            reader = record {
              behind = r.behind;
              signed = r.signed;
              ruled = r.ruled;
              fresh = r.fresh;
              agree = r.agree;
              knows =
                  tt;
            };
          })

      -- ---- every stage
      pub record Does (stage : Stage) : Type 0 where
        pub can : IsWordAt shape p.caller stage (found_in shape (length b.history) b heap (action_at shape p.caller stage))
        pub keeps : KeptAt stage (outcome_at shape p.caller stage (found_in shape (length b.history) b heap (action_at shape p.caller stage)))

      counted : IsWordCount (length p.caller.read_sig)
      counted = subst IsWordCount (sym sized.reads) good.words

      pub does : (stage : Stage) → p.front ≤ b.complete → is_open stage ≡ true → core.IsStage shape p.caller stage
          → IsReaderAt shape opening regions b p stage → Does stage
      does Closed front is staged r = absurd cc
      does (Between at) front is staged r = absurd cc
      does BeginIndex front is staged r = record {
        can = ok.lived;
        keeps = begins_from BeginIndex r r.signed staged (length b.history) (length b.history) (omega arith) (omega (arith, front, ok.counted));
      }
      does (BeginTag top at) front is staged r = record {
        can = bounded shape good opening regions b ok at;
        keeps = begins_at r staged.0 staged.2 (omega (arith, staged.3)) front;
      }
      does (ReadHeap addr) front is staged r =
          record {
            can = tt;
            keeps = record {
              later = λ e. omega arith;
              tells = tt;
              reader = heap_keeps shape opening regions some_entry b ok p addr (slice_index heap addr) staged.0 r.behind counted r.signed r.ruled
                  (r.agree staged.0) r.knows
                  (comes addr staged.1 r.knows (r.agree staged.0));
            };
          }
      does (Check purpose Index) front is staged r =
          record {
            can = (omega (arith, r.behind, ok.counted), ok.lived);
            keeps = index_keeps shape opening regions some_entry b ok p purpose Index staged.0 r.behind r.signed r.ruled (r.agree staged.0) r.knows staged.1;
          }
      does (Check purpose (First walk)) front is staged r =
          record {
            can = check_tag walk p.caller.start purpose staged.2 r.knows.known;
            keeps = first_keeps shape opening regions some_entry b ok p purpose (First walk) staged.0 r.behind r.signed r.ruled (r.agree staged.0) walk refl
                staged.2 r.knows;
          }
      does (Check purpose (Words walk word)) front is staged r =
          record {
            can = tt;
            keeps = words_keep shape opening regions some_entry b ok p purpose (Words walk word) staged.0 r.behind r.signed r.ruled (r.agree staged.0) walk word
                staged.2.1 (wide shape good opening regions b ok p (Check purpose (Words walk word)) sized r) r.knows;
          }
      does (Check purpose (Second walk)) front is staged r =
          record {
            can = check_tag walk p.caller.start purpose staged.2 r.knows.0.known;
            keeps = second_keeps shape opening regions some_entry b ok p purpose (Second walk) staged.0 r.behind r.signed r.ruled (r.agree staged.0) walk
                staged.2 (wide shape good opening regions b ok p (Check purpose (Second walk)) sized r) sized.reads r.knows;
          }
      does (StampSlot top) front is staged r = record { can = bounded shape good opening regions b ok (top + 1); keeps = slots r }
      does (StampSwap top) front is staged r = record { can = (r.knows.0.known, ok.lived); keeps = swaps (length b.history) refl r }
      does (Turn at) front is staged r = record {
        can = can at;
        keeps = turns shape good opening regions b ok p (Turn at) sized r staged.0.stamped r.signed r.ruled at _ (within staged.0.stamped) staged.1 r.knows
            (finds at);
      }
        where
          can : (where_ : TurnStage) → IsWordAt shape p.caller (Turn where_) (found_in shape (length b.history) b heap (action_at shape p.caller (Turn where_)))
          can Filling = refl
          can (Signature j) = refl
          can Writing = refl
          can (Earlier entry) = bounded shape good opening regions b ok entry
          can (EarlierWords entry j) = tt
          can (EarlierAgain entry) = bounded shape good opening regions b ok entry
          can (Heap index) = refl
          can Before = bounded shape good opening regions b ok (p.caller.stamp - 1)
          can Complete = refl

          finds : (where_ : TurnStage)
              → IsFound shape good opening regions b ok p (Turn at) sized r staged.0.stamped r.signed r.ruled where_
              (found_in shape (length b.history) b heap (action_at shape p.caller (Turn where_)))
          finds Filling = tt
          finds (Signature j) = tt
          finds Writing = tt
          finds (Earlier entry) = refl
          finds (EarlierWords entry j) = refl
          finds (EarlierAgain entry) = refl
          finds (Heap index) = tt
          finds Before = refl
          finds Complete = tt
