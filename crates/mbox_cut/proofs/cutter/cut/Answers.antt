use Rattle.std.proofs.Common.{◌≡◌, None, Vec, Global, true, false, List, ◌++◌, length, sym, ap, subst, ◌∙◌, arith}
use Rattle.std.proofs.lemmas.Result.{IfErr-at_err, IfOk-weaker, err_from_is_err_and}
use Rattle.mbox_cut.specs.Cutting.{HasCut, HasTooMany, IsInOrder, open_message}
use Rattle.std.specs.List.{All, AllPairs}
use Rattle.mbox_cut.specs.Spans.{EndsBefore, LiesIn}
use Rattle.mbox_cut.proofs.InOrder.{closed-in_order, later-in_order}
use Rattle.mbox_cut.specs.Mbox.{begins_as_mbox, messages_of}
use Rattle.mbox_cut.specs.declared.error.CutError.TheVariants.{NotMbox, TooMany, Memory}
use Rattle.mbox_cut.specs.declared.span.Span.{Span}
use Rattle.mbox_cut.proofs.AllLines.{is_mbox-cut, length-messages_of, messages_of-cut, messages_of-too_many, starts_line-first}
use Rattle.mbox_cut.proofs.LinesBelow.{lines_between-more, lines_of-around}
use Rattle.mbox_cut.proofs.cutter.cut.Goals as goal

pub loop-start-init : goal.loop-start-init
loop-start-init c = record {
  within = omega arith;
  starts = starts_line-first c.args.bytes.now;
  has_cut = c.new-cutter.ensures.has_cut c.args.bytes.now;
  in_order = c.new-cutter.ensures.in_order;
  limit = c.new-cutter.ensures.limit;
}

pub returns-in_err-take_line-clause-exactly_not_mbox : goal.returns-in_err-take_line-clause-exactly_not_mbox
returns-in_err-take_line-clause-exactly_not_mbox c =
    let starts = c.loop-start.invariant.starts (omega arith) in
    let same = err_from_is_err_and c.from_residual.result c.from_residual.ensures.1 in
    record {
      only = λ is.
          ap (begins_as_mbox c.args.bytes.now) (lines_of-around c.args.bytes.now c.loop-start.start c.end_of_line-end.result c.end_of_line-end.ensures starts)
          ∙ c.in_err-take_line.ensures.not_mbox (cc) _ _ c.loop-start.invariant.has_cut;
      always = λ _. c.from_residual.ensures.0;
    }

pub returns-in_err-take_line-clause-exactly_too_many : goal.returns-in_err-take_line-clause-exactly_too_many
returns-in_err-take_line-clause-exactly_too_many c =
    let starts = c.loop-start.invariant.starts (omega arith) in
    let same = err_from_is_err_and c.from_residual.result c.from_residual.ensures.1 in
    record {
      only = λ is.
          let AreTooMany : List Span → Type 0 = λ lines. HasTooMany c.args.bytes.now lines c.loop-start.cutter.limit in
          let too_many = subst AreTooMany (sym (lines_of-around c.args.bytes.now c.loop-start.start c.end_of_line-end.result c.end_of_line-end.ensures starts))
          (c.in_err-take_line.ensures.too_many (cc) _ _ c.loop-start.invariant.has_cut) in
          omega (arith, messages_of-too_many c.args.bytes.now c.loop-start.cutter.limit too_many, c.loop-start.invariant.limit);
      always = λ _. c.from_residual.ensures.0;
    }

pub loop-start-preserved : goal.loop-start-preserved
loop-start-preserved c =
    let starts = c.loop-start.invariant.starts (omega arith) in
    record {
      within = c.end_of_line-end.ensures.within;
      starts = c.end_of_line-end.ensures.next;
      has_cut =
          let HasCutAfter : List Span → Type 0 = λ lines. HasCut c.args.bytes.now lines c.take_line.new.self in
          subst HasCutAfter (sym (lines_between-more c.args.bytes.now c.loop-start.start c.end_of_line-end.result c.end_of_line-end.ensures starts))
          (c.in_ok-take_line.ensures.ok _ c.loop-start.invariant.has_cut);
      in_order = c.in_ok-take_line.ensures.in_order c.loop-start.invariant.in_order;
      limit = c.in_ok-take_line.ensures.limit ∙ c.loop-start.invariant.limit;
    }

-- what the cutter has when the bytes end
abbrev Finished : goal.After-finish → Vec Span Global → Type 0
Finished c spans = spans.items ≡ c.loop-start.cutter.messages.items ++ open_message c.loop-start.cutter.message_start (length c.args.bytes.now)

pub returns-clause-ok : goal.returns-clause-ok
returns-clause-ok c =
    let whole : c.loop-start.start ≡ length c.args.bytes.now = omega arith in
    let messages = messages_of-cut c.args.bytes.now c.loop-start.start whole c.loop-start.cutter c.loop-start.invariant.has_cut in
    IfOk-weaker c.finish.result
    (Finished c)
    (λ spans. spans.items ≡ messages_of c.args.bytes.now)
    (λ spans is. is ∙ sym messages)
    c.finish.ensures.closed

in_order-finished : (c : goal.After-finish)
    → IsInOrder (c.loop-start.cutter.messages.items ++ open_message c.loop-start.cutter.message_start (length c.args.bytes.now)) None (length c.args.bytes.now)
in_order-finished c =
    closed-in_order _ _ _ (later-in_order _ _ c.loop-start.start (length c.args.bytes.now) c.loop-start.invariant.within c.loop-start.invariant.in_order)

pub returns-clause-within : goal.returns-clause-within
returns-clause-within c =
    IfOk-weaker c.finish.result (Finished c) (λ spans. All (LiesIn (length c.args.bytes.now)) spans.items)
    (λ spans is. let WithinAll : List Span → Type 0 = λ items. All (LiesIn (length c.args.bytes.now)) items in
    subst WithinAll (sym is) (in_order-finished c).within)
    c.finish.ensures.closed

pub returns-clause-rising : goal.returns-clause-rising
returns-clause-rising c =
    IfOk-weaker c.finish.result (Finished c) (λ spans. AllPairs EndsBefore spans.items)
    (λ spans is. let RisingAll : List Span → Type 0 = λ items. AllPairs EndsBefore items in subst RisingAll (sym is) (in_order-finished c).rising)
    c.finish.ensures.closed

pub returns-clause-exactly_not_mbox : goal.returns-clause-exactly_not_mbox
returns-clause-exactly_not_mbox c =
    let whole : c.loop-start.start ≡ length c.args.bytes.now = omega arith in
    let mbox = is_mbox-cut c.args.bytes.now c.loop-start.start whole c.loop-start.cutter c.loop-start.invariant.has_cut in
    record {
      only = λ is. let memory : NotMbox ≡ Memory = IfErr-at_err (λ e. e ≡ Memory) is c.finish.ensures.memory in cc;
      always = λ no. let impossible : true ≡ false = sym mbox ∙ no in cc;
    }

pub returns-clause-exactly_too_many : goal.returns-clause-exactly_too_many
returns-clause-exactly_too_many c =
    let whole : c.loop-start.start ≡ length c.args.bytes.now = omega arith in
    let count = length-messages_of c.args.bytes.now c.loop-start.start whole c.loop-start.cutter c.loop-start.invariant.has_cut in
    record {
      only = λ is. let memory : TooMany ≡ Memory = IfErr-at_err (λ e. e ≡ Memory) is c.finish.ensures.memory in cc;
      always = λ more. absurd (omega (arith, more, count, c.loop-start.invariant.limit));
    }
