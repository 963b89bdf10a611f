-- The last token is `run`, and the others are a request that may be run.
use Rattle.std.proofs.Common.{◌≡◌, ◌-◌, true, length, codes, sym, ◌∙◌, ap, subst}
use Rattle.ring_script.specs.Grammar.{IsEventLine, IsRunLine, may_run}
use Rattle.ring_script.specs.Reading.{HasAt}
use Rattle.ring_script.specs.declared.reading.Request.{Request}
use Rattle.ring_script.proofs.Tokens.{texts, texts_front, texts_length}
use Rattle.ring_script.proofs.Said.{run_last, last_run}
use Rattle.ring_script.proofs.reading.run_of.Goals as goal

pub returns-in_err-request : goal.returns-in_err-request
returns-in_err-request c request =
    let tokens = c.args.tokens.now in (
      λ e. absurd (cc (e, c.from_residual.ensures)),
      λ line.
          let last = run_last (texts tokens) request.who request.act line in
          let found = (c.request_of.ensures request).1 (subst (λ ts. IsEventLine ts request.who request.act) (texts_front tokens) last.1) in
          absurd (cc (found, c.in_err-request.was)),
    )

pub returns-then-may_run : goal.returns-then-may_run
returns-then-may_run c request =
    let tokens = c.args.tokens.now in
    let read = c.in_ok-request.request in
    let front : IsEventLine _ read.who read.act = (c.request_of.ensures read).0 c.in_ok-request.was in
    let before = subst (λ ts. IsEventLine ts read.who read.act) (sym (texts_front tokens)) front in
    let at = c.has_at.ensures.0 c.if-not-has_at.false in
    let here : HasAt (texts tokens) (length (texts tokens) - 1) (codes "run") =
    subst (λ n. HasAt (texts tokens) (n - 1) (codes "run")) (sym (texts_length tokens)) at in
    let may : may_run read.act ≡ true = sym c.may_run.ensures ∙ c.if-may_run.true in (
      λ e.
          let same : read ≡ request = cc (e) in
          subst (λ (r : Request). IsRunLine (texts tokens) r.who r.act) same (last_run (texts tokens) read.who read.act here before may),
      λ line.
          let last = run_last (texts tokens) request.who request.act line in
          let found = (c.request_of.ensures request).1 (subst (λ ts. IsEventLine ts request.who request.act) (texts_front tokens) last.1) in
          sym c.in_ok-request.was ∙ found,
    )

pub returns-else-may_run : goal.returns-else-may_run
returns-else-may_run c request =
    let tokens = c.args.tokens.now in
    let read = c.in_ok-request.request in (
      λ e. absurd (cc (e)),
      λ line.
          let last = run_last (texts tokens) request.who request.act line in
          let found = (c.request_of.ensures request).1 (subst (λ ts. IsEventLine ts request.who request.act) (texts_front tokens) last.1) in
          let same : read ≡ request = cc (found, c.in_ok-request.was) in
          let may : may_run read.act ≡ true = ap (λ (r : Request). may_run r.act) same ∙ line.may in
          absurd (cc (may, c.may_run.ensures, c.if-may_run.false)),
    )
