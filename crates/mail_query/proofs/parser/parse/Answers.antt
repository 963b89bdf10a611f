use Rattle.std.proofs.Common.{arith}
use Rattle.mail_query.proofs.Parsed.{IsParsed, whole_refusal, parsed_reads, parsed_limits, parsed_in_form, parsed_only}
use Rattle.mail_query.proofs.parser.parse.Goals as goal

parsed : (c : goal.After-read) → IsParsed c.args.text.now c.read.result
parsed c = record { refused = whole_refusal c.args.text.now c.read.result (omega arith) c.read.ensures.refused; reading = c.read.ensures.reading }

pub returns-clause-reads : goal.returns-clause-reads
returns-clause-reads c = parsed_reads c.args.text.now c.read.result (parsed c)

pub returns-clause-limits : goal.returns-clause-limits
returns-clause-limits c = parsed_limits c.args.text.now c.read.result (parsed c)

pub returns-clause-in_form : goal.returns-clause-in_form
returns-clause-in_form c = parsed_in_form c.args.text.now c.read.result c.key_and_word_give_each_other.ensures.key (parsed c)

pub returns-clause-only : goal.returns-clause-only
returns-clause-only c = parsed_only c.args.text.now c.read.result (parsed c)
