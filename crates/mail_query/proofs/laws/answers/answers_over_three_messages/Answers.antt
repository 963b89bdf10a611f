use Rattle.mail_query.specs.Examples.{three_messages}
use Rattle.mail_query.proofs.Worked.{numbers_without_ring, numbers_of_two}
use Rattle.mail_query.proofs.laws.answers.answers_over_three_messages.Goals as goal

pub returns-clause-hello_without_ring : goal.returns-clause-hello_without_ring
returns-clause-hello_without_ring c = numbers_without_ring three_messages 3

pub returns-clause-ring_or_bloom : goal.returns-clause-ring_or_bloom
returns-clause-ring_or_bloom c = numbers_of_two three_messages 3

pub returns-clause-two_messages : goal.returns-clause-two_messages
returns-clause-two_messages c = numbers_of_two three_messages 2
