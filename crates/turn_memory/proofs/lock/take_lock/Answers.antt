-- The lock is taken where it was free, and else the seat knows what it knew.
use Rattle.std.proofs.Common.{arith, eqb, ◌∙◌, subst}
use prog.Atomic.{either}
use Rattle.turn_memory.specs.Lock.{Told}
use Rattle.turn_memory.proofs.Steps.{taken_if_free}
use Rattle.turn_memory.proofs.lock.take_lock.Goals as goal

pub compare_exchange-requires : goal.compare_exchange-requires
compare_exchange-requires g c = (
  c.requires.table.0,
  c.requires.table.1,
  c.requires.may (λ n. either (eqb n 0) 1 n) taken_if_free _,
)

pub loop-init : goal.loop-init
loop-init g c =
    let told = c.compare_exchange.ensures in
    (tt, tt, told.0, told.1, c.requires.waits _ _ c.if-compare_exchange-eq0.false (_, told.2))

pub swap-requires : goal.swap-requires
swap-requires g c =
    let kept = c.loop.invariant in
    (kept.2 ∙ c.requires.table.0, c.requires.table.1, rw (kept.4, kept.3) (c.requires.may (λ _. 2) (λ n two. omega (arith, two)) _))

pub loop-preserved : goal.loop-preserved
loop-preserved g c =
    let kept = c.loop.invariant in
    let told = c.swap.ensures in
    let same = c.requires.waits _ _ c.if-swap-eq0.false (subst (λ me. Told g.M.Play.then me c.swap.result c.swap.new.seat.me) kept.4 (_, told.2)) in
    (tt, tt, told.0 ∙ kept.2, told.1 ∙ kept.3, same)

pub returns-then-swap-eq0-clause-took : goal.returns-then-swap-eq0-clause-took
returns-then-swap-eq0-clause-took g c =
    subst (λ me. Told g.M.Play.then me 0 c.swap.new.seat.me) c.loop.invariant.4
    (subst (λ n. Told g.M.Play.then c.loop.seat.me n c.swap.new.seat.me) c.if-swap-eq0.true (_, c.swap.ensures.2))
