use Rattle.std.proofs.Common.{ℕ, List, subst}
use Rattle.ring_replay.specs.Outcome.{source_seen}
use Rattle.mail_search.specs.Outcome.{AreListed, AreLists}
use Rattle.mail_search.proofs.Listed.{AreMailboxes, listed, no_input}
use Rattle.mail_search.proofs.Sent.{handed_on}
use Rattle.mail_search.proofs.searched.searched_lists.Goals as goal

pub returns-in_err-bytes-clause-listed : goal.returns-in_err-bytes-clause-listed
returns-in_err-bytes-clause-listed g c =
    let source = source_seen g.S.Source.left g.S.Source.faults in
    let status = c.in_err-bytes.field-0.0 in
    handed_on (AreListed c.args.generate (source c.args.source.now) (source c.input_of.new.source)) c.from_residual.result status
    c.from_residual.ensures.1 (no_input c.args.generate status c.in_err-bytes.ensures.taken)

pub returns-clause-listed : goal.returns-clause-listed
returns-clause-listed g c =
    let are : AreMailboxes = record {
      mbox = c.mailbox_of_messages.ensures.mbox;
      messages = c.mailbox_of_messages.ensures.messages;
      bytes = c.mailbox_within_limits.ensures.bytes;
      postings = c.mailbox_within_limits.ensures.postings;
    } in
    listed are c.args.generate c.requires.few c.in_ok-bytes.ensures.taken c.lists_in.result
    (subst (λ (bytes : List ℕ). AreLists bytes c.lists_in.result) c.deref.ensures.value c.lists_in.ensures)
