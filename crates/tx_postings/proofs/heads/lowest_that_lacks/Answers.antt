-- None of the first lanes lacks words, or this one does.
use Rattle.std.proofs.Common.{◌≡◌, None, sym, ◌∙◌, ap, subst, arith, inl, inr, get_or}
use Rattle.std.proofs.lemmas.Bool.{cases_eq}
use Rattle.tx_postings.specs.Heads.{Lacks}
use Rattle.tx_postings.specs.declared.heads.Head.{Head}
use Rattle.tx_postings.proofs.Pending.{same_head}
use Rattle.tx_postings.proofs.heads.lowest_that_lacks.Goals.{in-Some+else-free_words-head, in_default}
use Rattle.tx_postings.proofs.heads.lowest_that_lacks.Goals as goal

pub loop-lane-init : goal.loop-lane-init
loop-lane-init c = λ other head below is. absurd (omega (arith, below))

pub returns-then-free_words-head : goal.returns-then-free_words-head
returns-then-free_words-head c =
    (c.loop-lane-test.true, c.in-Some.is, omega (arith, c.if-free_words-head.true, c.free_words.ensures), c.loop-lane.invariant)

pub loop-lane-preserved : goal.loop-lane-preserved
loop-lane-preserved c other head below is =
    elim (cases_eq other c.loop-lane.lane) [
      | inl at ↦
          elim c.match-heads-lane.branch [
            | in-Some+else-free_words-head w ↦
                let same : head ≡ w.in-Some.head = same_head head w.in-Some.head (sym is ∙ ap (λ i. get_or c.args.heads.now i None) at ∙ w.in-Some.is) in
                subst (λ (h : Head). ¬ Lacks h) (sym same) (λ few. omega (arith, few, w.free_words.ensures, w.if-free_words-head.false))
            | in_default w ↦ absurd (w.in_default.not-Some head (ap (λ i. get_or c.args.heads.now i None) (sym at) ∙ is))
          ]
      | inr off ↦ c.loop-lane.invariant other head (omega (arith, below, off)) is
    ]

pub returns : goal.returns
returns c lane head below is = c.loop-lane.invariant lane head (omega (arith, below, c.loop-lane-test.false)) is
