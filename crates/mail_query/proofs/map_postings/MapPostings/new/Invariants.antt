use Rattle.std.proofs.Common.{take}
use Rattle.mail_query.specs.ListTable.{GrewBy, pairs_of}
use Rattle.mail_query.proofs.Posted.{HasFirst}
use Rattle.mail_query.proofs.map_postings.MapPostings.new.Given as goal

abbrev pub invariant-loop-index : goal.invariant-loop-index
invariant-loop-index l = HasFirst l.index l.lists l.messages

abbrev pub invariant-loop-key : goal.invariant-loop-key
invariant-loop-key l = GrewBy l.initial.messages l.messages (pairs_of (take l.key-index l.key-items) l.message)
