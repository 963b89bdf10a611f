-- A run of two callers, step by step.
use Rattle.std.proofs.Common.{◌≡◌, ℕ, ◌<◌, [], replicate, length, slice_index, Some, refl, arith, inl}
use Rattle.std.proofs.lemmas.List.{length-replicate}
use Rattle.tx_model.specs.Attempt.{MayWrite}
use Rattle.tx_model.specs.Words.{index_of}
use Rattle.ring_sig.specs.Signature.{place_of, with_place}
use Rattle.ring_core.specs.Shape.{IsShape}
use Rattle.ring_core.specs.declared.kind.Kind.{Kind}
use Rattle.ring_core.specs.declared.kind.Kind.TheVariants as kind
use Rattle.ring_core.specs.declared.stage.Stage.TheVariants.{BeginIndex, Check, StampSlot, StampSwap, Turn}
use Rattle.ring_core.specs.declared.stage.TurnStage.TheVariants.{Filling, Signature, Writing}
use Rattle.ring_core.specs.declared.stage.Purpose.TheVariants.{Stamp}
use Rattle.ring_core.specs.declared.stage.CheckStage.TheVariants.{Index}
use mathlib.Core.Option.{some}
use lib.ListN.{get_elem?}
use Rattle.ring_core.specs.Kinds.{kind_at}
use Rattle.ring_core.specs.Machine.{resumed, IsFull}
use Rattle.ring_worlds.specs.declared.process.Process.{Process}
use Rattle.ring_worlds.specs.World.{World, attempt_of, moved_at, with_process}
use Rattle.ring_worlds.specs.Steps.{StepsTo, seen, with_tag, with_sig, with_heap, with_commit}
use Rattle.ring_worlds.specs.Moves.{IsMove, at_stage, with_written, begins, writes, stamps, turns}
use Rattle.ring_worlds.specs.Runs.{resting, MayOpen, Happens, Runs, start, more, step, move}
use Rattle.ring_worlds.specs.Examples.{four, first_world, reader, RunExample}
use Rattle.ring_worlds.proofs.lemmas.Members.{contains_none}

pub limits : IsShape four
limits = record {
  some_entry = omega arith;
  entries = omega arith;
  words = refl;
  some_word = omega arith;
  heap = omega arith;
  some_commit = omega arith;
  life = omega arith;
}

-- a memory without regions
pub may_open : MayOpen four [] (replicate 64 0)
may_open =
    record {
      limits = limits;
      room = length-replicate {A = ℕ} 64 0;
      well_formed = record {
        lie_in = λ region among. absurd (contains_none region among);
        lie_apart = λ i j before below. absurd (let none : j < 0 = below in omega (arith, none));
        gates_apart = λ i j before below. absurd (let none : j < 0 = below in omega (arith, none));
        gates_outside = λ region other among. absurd (contains_none region among);
        gates_opening = λ region among. absurd (contains_none region among);
      };
    }

may_write : (p : Process) (addr value : ℕ) → MayWrite [] (attempt_of p) addr value
may_write p addr value =
    record {
      gate_read = λ region among. absurd (contains_none region among);
      writable = λ region among. absurd (contains_none region among);
      opens = λ region among. absurd (contains_none region among);
    }

-- the caller of this number, which is this one, makes a move to that one
makes : (w : World) (who : ℕ) (p q : Process) → get_elem? w.processes who ≡ some p → IsMove w.shape w.regions p q → Happens w (with_process w who q)
makes w who p q here m = move who (record { process = p; here = here; moved = q; moves = m; after = refl })

takes : (w next : World) (who : ℕ) (p : Process) (k : Kind) → get_elem? w.processes who ≡ some p → kind_at p.caller.stage ≡ Some k
    → StepsTo w who p k next → Happens w next
takes w next who p k here is to = step who k (record { process = p; here = here; is_kind = is; steps = to })

-- ---- the two beginnings
abbrev at_begin : Process
at_begin = at_stage (resting four) BeginIndex

abbrev w1 : World
w1 = with_process first_world 0 at_begin

abbrev w2 : World
w2 = seen w1 0 at_begin 0

abbrev w3 : World
w3 = with_process w2 1 at_begin

abbrev w4 : World
w4 = seen w3 1 at_begin 0

begun : Runs first_world w4
begun =
    more (more (more (more start (makes first_world 0 (resting four) at_begin refl (begins refl refl refl)))
    (takes w1 w2 0 at_begin kind.LoadIndex refl refl (refl, refl)))
    (makes w2 1 (resting four) at_begin refl (begins refl refl refl))) (takes w3 w4 1 at_begin kind.LoadIndex refl refl (refl, refl))

-- ---- the second caller writes and stamps
abbrev one : Process
one = with_written reader 1 5

abbrev two : Process
two = with_written one 2 6

abbrev checking : Process
checking = at_stage two (Check Stamp Index)

abbrev w5 : World
w5 = with_process w4 1 one

abbrev w6 : World
w6 = with_process w5 1 two

abbrev w7 : World
w7 = with_process w6 1 checking

written : Runs first_world w7
unfolding index_of
written =
    more (more (more begun (makes w4 1 reader one refl (writes 1 5 (record { active = refl; closed = refl }) (omega arith) (may_write reader 1 5)
    (λ full. let e = full.1 in omega (arith, e)) refl)))
    (makes w5 1 one two refl (writes 2 6 (record { active = refl; closed = refl }) (omega arith) (may_write one 2 6) few refl)))
    (makes w6 1 two checking refl (stamps (record { active = refl; closed = refl }) wrote refl))
  where
    few : IsFull one.caller 2 → ⊥
    few full = let e = full.1 in omega (arith, e)

    wrote : 0 < length two.caller.writes
    wrote = omega arith

-- its stamp finds the index as it was
abbrev slotting : Process
slotting = moved_at four (replicate 64 0) [] checking (Check Stamp Index) 0

abbrev swapping : Process
swapping = moved_at four (replicate 64 0) [] slotting (StampSlot 0) 0

abbrev stamped : Process
stamped = moved_at four (replicate 64 0) [] swapping (StampSwap 0) 0

abbrev w8 : World
w8 = seen w7 1 checking 0

abbrev w9 : World
w9 = seen w8 1 slotting 0

abbrev w10 : World
w10 = with_commit w9 1 swapping

joined : Runs first_world w10
joined =
    more (more (more written (takes w7 w8 1 checking kind.LoadIndex refl refl (refl, refl))) (takes w8 w9 1 slotting kind.LoadTag refl refl (1, (refl, refl))))
    (takes w9 w10 1 swapping kind.SwapIndex refl refl (0, refl, inl (refl, refl)))

-- ---- its turn makes four steps
abbrev turning : Process
turning = at_stage stamped (resumed stamped.caller.stage)

abbrev signing : Process
signing = moved_at four (replicate 64 0) w10.history turning (Turn Filling) 0

abbrev tagging : Process
tagging = moved_at four (replicate 64 0) w10.history signing (Turn (Signature 0)) 0

abbrev storing : Process
storing = moved_at four (replicate 64 0) w10.history tagging (Turn Writing) 0

abbrev w11 : World
w11 = with_process w10 1 turning

abbrev w12 : World
w12 = with_tag w11 1 turning 1 5

abbrev w13 : World
w13 = with_sig w12 1 signing 1 0 (slice_index signing.caller.write_sig 0)

abbrev w14 : World
w14 = with_tag w13 1 tagging 1 6

abbrev w15 : World
w15 = with_heap w14 1 storing 1 5

turned : Runs first_world w15
unfolding index_of
turned =
    more (more (more (more (more joined (makes w10 1 stamped turning refl (turns refl refl refl)))
    (takes w11 w12 1 turning kind.StoreTagFilling refl refl (1, 5, refl, refl)))
    (takes w12 w13 1 signing kind.StoreSig refl refl (1, 0, _, refl, refl))) (takes w13 w14 1 tagging kind.StoreTagWriting refl refl (1, 6, refl, refl)))
    (takes w14 w15 1 storing kind.StoreHeap refl refl (1, 5, refl, refl))

pub run : RunExample
unfolding index_of with_place place_of
run = turned
