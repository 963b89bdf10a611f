-- One line after the other.
use Rattle.std.proofs.Common.{◌≡◌, ◌+◌, [], ◌∷◌, ℕ, List, length, take, drop, refl, sym, ap, ◌∙◌, subst, arith, true, false, Err}
use Rattle.std.specs.List.{concat}
use Rattle.std.specs.Io.KnownBytes.{Appends}
use Rattle.mail_io.specs.Writing.{Offers, Sends}
use Rattle.mail_query.specs.Answers.{answer_line}
use Rattle.mail_answers.specs.Hits.{hits_in, lines_in}
use Rattle.mail_answers.specs.Sending.{SendsAll, sink_seen}
use Rattle.mail_answers.proofs.AskSteps.{as_before_then}
use Rattle.mail_answers.proofs.lemmas.Sending.{sends_none, sends_more}
use Rattle.mail_answers.proofs.SentSteps.{lines_at, lines_more, more_bytes, stopped_before, refused_at}
use Rattle.mail_answers.proofs.answering.answer_queries.Goals as goal

pub loop-query-init : goal.loop-query-init
loop-query-init g c = record {
  of = c.requires.of;
  as_before = record { idle = c.requires.idle; share = refl; history = refl };
  sent = sends_none g.K.Sink.offered _;
  counted = refl;
}

pub returns-in-Err-clause-sent : goal.returns-in-Err-clause-sent
returns-in-Err-clause-sent g c =
    let l = c.loop-query in
    stopped_before g.K.Sink.offered _ _ _ _ _ l.sent
    (lines_at (g.M.TxMemory.made c.args.mem.now).sense c.args.queries.now l.query-index c.query-item.result c.loop-query-test.true c.query-item.is)
    l.invariant.counted l.invariant.sent

pub returns-in_default-clause-sent : goal.returns-in_default-clause-sent
returns-in_default-clause-sent g c =
    let l = c.loop-query in
    stopped_before g.K.Sink.offered _ _ _ _ _ l.sent
    (lines_at (g.M.TxMemory.made c.args.mem.now).sense c.args.queries.now l.query-index c.query-item.result c.loop-query-test.true c.query-item.is)
    l.invariant.counted l.invariant.sent

pub returns-in-Err-write_all-clause-sent : goal.returns-in-Err-write_all-clause-sent
returns-in-Err-write_all-clause-sent g c =
    let l = c.loop-query in
    let sink = g.K.Sink in
    let lists = (g.M.TxMemory.made c.args.mem.now).sense in
    let queries = c.args.queries.now in
    let q = c.query-item.result in
    let error = c.in-Err-write_all.error in
    let a = sink_seen sink.held sink.faults sink.wants c.args.sink.now in
    let b = sink_seen sink.held sink.faults sink.wants l.sink in
    let d = sink_seen sink.held sink.faults sink.wants c.write_all.new.sink in
    let sent = c.in-Err-write_all.ensures in
    let line : c.deref.result.now ≡ answer_line (hits_in lists q) = c.deref.ensures.value ∙ c.in-Ok.ensures.line in
    let refused = refused_at sink.offered a b d (lines_in lists (take l.query-index queries)) (lines_in lists (drop (l.query-index + 1) queries))
    (lines_in lists queries) (answer_line (hits_in lists q)) l.sent error
    (lines_at lists queries l.query-index q c.loop-query-test.true c.query-item.is) l.invariant.counted l.invariant.sent
    (subst (λ (x : List ℕ). Sends {T = Unit {0}} b.held d.held x (Err error)) line sent.bytes)
    (subst (λ (x : List ℕ). Offers sink.offered b.sink (x ∷ []) true d.sink) line sent.offered) sent.fault_cause in
    rw (c.counted.ensures) refused

pub loop-query-preserved : goal.loop-query-preserved
loop-query-preserved g c =
    let l = c.loop-query in
    let sink = g.K.Sink in
    let lists = (g.M.TxMemory.made c.args.mem.now).sense in
    let queries = c.args.queries.now in
    let q = c.query-item.result in
    let a = sink_seen sink.held sink.faults sink.wants c.args.sink.now in
    let b = sink_seen sink.held sink.faults sink.wants l.sink in
    let d = sink_seen sink.held sink.faults sink.wants c.write_all.new.sink in
    let sent = c.in-Ok-write_all.ensures in
    let pieces = lines_in lists (take l.query-index queries) in
    let line : c.deref.result.now ≡ answer_line (hits_in lists q) = c.deref.ensures.value ∙ c.in-Ok.ensures.line in
    let lines = lines_more lists queries l.query-index q c.loop-query-test.true c.query-item.is in
    record {
      of = c.in-Ok.ensures.of;
      as_before = as_before_then l.invariant.as_before c.in-Ok.ensures.as_before;
      sent = subst (λ (x : List (List ℕ)). SendsAll sink.offered a d x) (sym lines)
          (sends_more sink.offered a b d pieces (answer_line (hits_in lists q)) l.invariant.sent
          (subst (λ (x : List ℕ). Appends b.held d.held x) line sent.bytes)
          (subst (λ (x : List ℕ). Offers sink.offered b.sink (x ∷ []) false d.sink) line sent.offered)
          sent.fault_cause.kept sent.want_cause.kept);
      counted =
          let total : c.in-Some.then ≡ l.sent + length (answer_line (hits_in lists q)) = omega
          (arith, c.in-Some.ensures, c.len.ensures, ap length c.in-Ok.ensures.line) in
          total ∙ ap (λ (n : ℕ). n + length (answer_line (hits_in lists q))) l.invariant.counted
          ∙ sym (ap (λ (ls : List (List ℕ)). length (concat ls)) lines ∙ more_bytes pieces (answer_line (hits_in lists q)));
    }
