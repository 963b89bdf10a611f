use Rattle.mail_query.proofs.Tables.{has_messages, rises_messages, is_messages}
use Rattle.mail_query.proofs.laws.answers.messages_of_a_key.Goals as goal

pub returns-clause-rise : goal.returns-clause-rise
returns-clause-rise c = rises_messages

pub returns-clause-members : goal.returns-clause-members
returns-clause-members c = has_messages

pub returns-clause-no_other : goal.returns-clause-no_other
returns-clause-no_other c = is_messages
