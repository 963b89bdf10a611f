-- Worlds that aren't sound.
use Rattle.std.proofs.Common.{◌<◌, refl, arith, inl, inr}
use Rattle.std.proofs.lemmas.Bool.{cases_lt}
use Rattle.tx_model.specs.Words.{no_word}
use Rattle.ring_worlds.specs.World.{commit_of}
use Rattle.ring_worlds.specs.Examples.{rival, NotSound, early_world, stale_world, hasty_world, lost_world, disordered_world, unwaited_world, intruded_world, owner}
use Rattle.ring_worlds.proofs.memory.Meeting.{common_meets}

pub early : NotSound early_world
early s = let t = s.board.tagged 2 (omega arith) in omega (arith, t)

pub stale : NotSound stale_world
stale s = let read = (s.each 0 _ refl).reader.agree refl 0 no_word (omega arith) in absurd cc

-- an entry that is still writing isn't complete
pub hasty : NotSound hasty_world
hasty s =
    let start = (s.each 0 _ refl).reader.behind in
    let done = s.board.done 1 (omega arith) start in
    omega (arith, done)

pub lost : NotSound lost_world
lost s = let read = s.board.legal 1 _ refl 0 no_word (omega arith) in absurd cc

pub disordered : NotSound disordered_world
disordered s =
    elim (cases_lt s.complete 2) [
      | inl before ↦ let t = s.board.undone 2 before (omega arith) in omega (arith, t)
      | inr done ↦ let t = s.board.done 1 (omega arith) (omega (arith, done)) in omega (arith, t)
    ]

pub unwaited : NotSound unwaited_world
unwaited s =
    let none : s.complete < 1 = elim (cases_lt s.complete 1) [
      | inl before ↦ before
      | inr done ↦ let t = s.board.done 1 (omega arith) done in absurd (omega (arith, t))
    ] in
    let counted = (s.memory.writing 1 _ refl).counted refl in
    elim (s.memory.waited 0 1 1 (commit_of (rival 1 5)) (commit_of (rival 2 6)) (omega arith) refl refl counted (omega arith)) [
      | inl early ↦ omega (arith, early, none)
      | inr clear ↦ clear (common_meets 64 (rival 1 5).caller.writes (rival 2 6).caller.writes 0 0 (omega arith) (omega arith) refl)
    ]

pub intruded : NotSound intruded_world
intruded s = let words = s.memory.contents 0 owner _ refl (0, omega arith, refl) in cc
