use Rattle.mbox_cut.proofs.AllLines.{length-messages_of_mbox}
use Rattle.mbox_cut.proofs.laws.one_message_for_each_separator.Goals as goal

pub returns : goal.returns
returns c = length-messages_of_mbox c.args.bytes.now
