-- The numbers are compared one after the other.
use Rattle.std.proofs.Common.{eqb, refl, ◌∙◌, sym, ap, subst}
use Rattle.std.proofs.lemmas.Result.{err_from_is_err_and}
use Rattle.mail_words.specs.Key.{KeyNumbers}
use Rattle.tx_buckets.specs.Reading.{ReadKey}
use Rattle.tx_model.proofs.lemmas.Attempts.{only_reads_then}
use Rattle.tx_heap.proofs.lemmas.Stops.{stopped_after}
use Rattle.tx_buckets.proofs.ReadSteps.{other_key, whole_key}
use Rattle.tx_buckets.proofs.reading.has_key.Goals as goal

pub returns-in_err-second-clause-cause : goal.returns-in_err-second-clause-cause
returns-in_err-second-clause-cause g c =
    let p = err_from_is_err_and c.from_residual-in_err-second.result c.from_residual-in_err-second.ensures.1 in
    rw (p.1, p.2) (stopped_after c.in_ok-first.ensures.word.only c.in_err-second.ensures.cause)

pub returns-then-second-key-clause-key : goal.returns-then-second-key-clause-key
returns-then-second-key-clause-key g c =
    other_key c.args.at c.args.key.now (λ (k : KeyNumbers). k.k1) (λ words. refl) c.in_ok-first.ensures.word.only c.in_ok-second.ensures.word
    (λ same. c.if-second-key.true (same ∙ sym (ap (λ (k : KeyNumbers). k.k1) c.key.view_is)))

pub returns-in_err-third-clause-cause : goal.returns-in_err-third-clause-cause
returns-in_err-third-clause-cause g c =
    let p = err_from_is_err_and c.from_residual-in_err-third.result c.from_residual-in_err-third.ensures.1 in
    rw (p.1, p.2) (stopped_after (only_reads_then c.in_ok-first.ensures.word.only c.in_ok-second.ensures.word.only) c.in_err-third.ensures.cause)

pub returns-then-third-key-clause-key : goal.returns-then-third-key-clause-key
returns-then-third-key-clause-key g c =
    other_key c.args.at c.args.key.now (λ (k : KeyNumbers). k.k2) (λ words. refl)
    (only_reads_then c.in_ok-first.ensures.word.only c.in_ok-second.ensures.word.only) c.in_ok-third.ensures.word
    (λ same. c.if-third-key.true (same ∙ sym (ap (λ (k : KeyNumbers). k.k2) c.key.view_is)))

pub returns-in_err-fourth-clause-cause : goal.returns-in_err-fourth-clause-cause
returns-in_err-fourth-clause-cause g c =
    let p = err_from_is_err_and c.from_residual-in_err-fourth.result c.from_residual-in_err-fourth.ensures.1 in
    rw (p.1, p.2) (stopped_after (only_reads_then (only_reads_then c.in_ok-first.ensures.word.only c.in_ok-second.ensures.word.only)
    c.in_ok-third.ensures.word.only) c.in_err-fourth.ensures.cause)

pub returns-clause-key : goal.returns-clause-key
returns-clause-key g c =
    subst (λ b. ReadKey (g.M.TxMemory.made c.args.mem.now) (g.M.TxMemory.view c.args.pass.now) (g.M.TxMemory.view c.read_word-4.new.pass)
    (g.M.TxMemory.attempt c.args.pass.now) (g.M.TxMemory.attempt c.read_word-4.new.pass) c.args.segment c.args.at c.args.key.now b)
    (ap (eqb c.in_ok-fourth.fourth) (sym (ap (λ (k : KeyNumbers). k.k3) c.key.view_is)))
    (whole_key c.args.at c.args.key.now c.in_ok-first.ensures.word c.in_ok-second.ensures.word c.in_ok-third.ensures.word c.in_ok-fourth.ensures.word
    (c.if-first-key.false ∙ ap (λ (k : KeyNumbers). k.k0) c.key.view_is) (c.if-second-key.false ∙ ap (λ (k : KeyNumbers). k.k1) c.key.view_is)
    (c.if-third-key.false ∙ ap (λ (k : KeyNumbers). k.k2) c.key.view_is))
