-- The lemmas that are offered.
use Rattle.tx_postings.proofs.lemmas.Moves.{no_move, move_then, committed_moves, filled_moves, left_moves}
use Rattle.tx_postings.proofs.laws.move_laws.Goals as goal

pub returns-clause-none : goal.returns-clause-none
returns-clause-none c heap = no_move heap

pub returns-clause-then : goal.returns-clause-then
returns-clause-then c one two three first next = move_then first next

pub returns-clause-commit : goal.returns-clause-commit
returns-clause-commit c made old new attempt receipt writes knows committed wrote = committed_moves writes knows.0 knows.1 committed wrote

pub returns-clause-filled : goal.returns-clause-filled
returns-clause-filled c made old new before now message left start fill = filled_moves start fill

pub returns-clause-left : goal.returns-clause-left
returns-clause-left c made attempt lane segment fresh left = left_moves {made = made} left
