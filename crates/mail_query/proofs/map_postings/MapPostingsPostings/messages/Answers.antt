use Rattle.std.proofs.Common.{rules}
use Rattle.mail_query.proofs.map_postings.MapPostingsPostings.messages.Goals as goal

pub returns-in_ok-extend_from_slice-clause-list : goal.returns-in_ok-extend_from_slice-clause-list
returns-in_ok-extend_from_slice-clause-list c = search rules

pub returns-in_ok-extend_from_slice-clause-kept : goal.returns-in_ok-extend_from_slice-clause-kept
returns-in_ok-extend_from_slice-clause-kept c = search rules
