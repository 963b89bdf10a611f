-- What the whole passes know before and after.
use Rattle.std.proofs.Common.{◌∙◌, ap}
use Rattle.std.specs.List.{range_with_len}
use Rattle.mail_workers.proofs.Wholes.{on_ok, all_moves, are_indexed}
use Rattle.mail_workers.proofs.run.run_workers.Goals as goal

pub returns-in-Ok-clause-moves : goal.returns-in-Ok-clause-moves
returns-in-Ok-clause-moves g c =
    let did = c.work_together-outcome.ensures in
    all_moves c.pass_knows.ensures c.pass_knows-2.ensures c.requires.idle did.idle c.requires.whole did.share did.gained

pub returns-in-Err-clause-moves : goal.returns-in-Err-clause-moves
returns-in-Err-clause-moves g c =
    let did = c.work_together-outcome.ensures in
    all_moves c.pass_knows.ensures c.pass_knows-2.ensures c.requires.idle did.idle c.requires.whole did.share did.gained

pub returns-in-Ok-clause-owns_none : goal.returns-in-Ok-clause-owns_none
returns-in-Ok-clause-owns_none g c = c.work_together-outcome.ensures.gained.owned ∙ c.requires.owns_none

pub returns-in-Err-clause-owns_none : goal.returns-in-Err-clause-owns_none
returns-in-Err-clause-owns_none g c = c.work_together-outcome.ensures.gained.owned ∙ c.requires.owns_none

pub returns-in-Ok-clause-indexed : goal.returns-in-Ok-clause-indexed
returns-in-Ok-clause-indexed g c =
    let did = c.work_together-outcome.ensures in
    let all = c.in-Ok.ensures.all (did.job_share ∙ c.requires.whole_job) ∙ ap (range_with_len 1) (did.total ∙ c.requires.filled) in
    on_ok c.all_drawn-in-Ok.result
    (are_indexed c.pass_knows.ensures c.pass_knows-2.ensures c.requires.idle did.idle c.requires.whole did.share did.gained c.made_well.ensures
    (did.gained.owned ∙ c.requires.owns_none) c.requires.none_drawn all)
