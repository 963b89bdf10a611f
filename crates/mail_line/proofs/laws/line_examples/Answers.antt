use Rattle.mail_line.proofs.ExamplesHold.{bits, numbers, options, queries, refused, replays, report, ring}
use Rattle.mail_line.proofs.laws.line_examples.Goals as goal

pub returns-clause-options : goal.returns-clause-options
returns-clause-options c = options

pub returns-clause-numbers : goal.returns-clause-numbers
returns-clause-numbers c = numbers

pub returns-clause-ring : goal.returns-clause-ring
returns-clause-ring c = ring

pub returns-clause-bits : goal.returns-clause-bits
returns-clause-bits c = bits

pub returns-clause-report : goal.returns-clause-report
returns-clause-report c = report

pub returns-clause-queries : goal.returns-clause-queries
returns-clause-queries c = queries

pub returns-clause-replays : goal.returns-clause-replays
returns-clause-replays c = replays

pub returns-clause-refused : goal.returns-clause-refused
returns-clause-refused c = refused
