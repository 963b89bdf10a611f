use Rattle.std.proofs.Common.{arith, ◌∙◌, sym, rules}
use Rattle.std.proofs.lemmas.Grind.{common_steps}
use Rattle.mail_query.proofs.Tokens.{run_cut, front_whole}
use Rattle.mail_query.specs.Tokens.{tokens_of}
use Rattle.mail_query.proofs.token.next_token.Goals as goal

pub returns-then-is_ascii_alphanumeric-clause-token : goal.returns-then-is_ascii_alphanumeric-clause-token
returns-then-is_ascii_alphanumeric-clause-token c =
    c.loop-byte.invariant.0
    ∙ run_cut c.loop-byte.rest.now c.split_at.result.0.now c.split_at.result.1.now c.in-Some.after.now c.in-Some.byte.now c.run_len.result
    c.in-Some.ensures.cases.0 (sym c.is_ascii_alphanumeric.ensures.value
    ∙ c.if-is_ascii_alphanumeric.true) c.run_len.ensures.value c.split_at.ensures.front c.split_at.ensures.back

pub returns-then-is_ascii_alphanumeric-clause-whole : goal.returns-then-is_ascii_alphanumeric-clause-whole
returns-then-is_ascii_alphanumeric-clause-whole c =
    front_whole c.loop-byte.rest.now c.split_at.result.0.now (tokens_of c.split_at.result.1.now)
    (run_cut c.loop-byte.rest.now c.split_at.result.0.now c.split_at.result.1.now c.in-Some.after.now c.in-Some.byte.now c.run_len.result
    c.in-Some.ensures.cases.0 (sym c.is_ascii_alphanumeric.ensures.value
    ∙ c.if-is_ascii_alphanumeric.true) c.run_len.ensures.value c.split_at.ensures.front c.split_at.ensures.back)

pub loop-byte-preserved : goal.loop-byte-preserved
loop-byte-preserved c = search rules

pub returns-clause-token : goal.returns-clause-token
returns-clause-token c = grind (arith, common_steps)
