-- The lemmas that are offered.
use Rattle.tx_postings.proofs.lemmas.Listed.{listed_rows}
use Rattle.tx_postings.proofs.lemmas.Once.{listed_once}
use Rattle.tx_postings.proofs.laws.list_laws.Goals as goal

pub returns-clause-rows : goal.returns-clause-rows
returns-clause-rows c layout heap key messages index none_packed below listed message = listed_rows index none_packed key below messages listed message

pub returns-clause-once : goal.returns-clause-once
returns-clause-once c layout heap key messages index once below listed = listed_once index once key below messages listed
