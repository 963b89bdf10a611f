-- What the calls' clauses say of a queue and of its passes.
use Rattle.std.specs.Prelude.{◌≢◌, []}
use Rattle.crossbeam_queue.specs.Passes as queue
use Rattle.mail_workers.specs.declared.rule.JobView.{JobView}
use Rattle.mail_workers.specs.declared.jobs.Jobs.{Jobs}
use Rattle.mail_workers.specs.declared.jobs.JobPass.{JobPass}

abbrev pub job_view : JobPass → JobView
job_view pass = queue.view pass.seat

-- it is a pass of this queue, and it wasn't spent
pub record IsJobPassOf (jobs : Jobs) (pass : JobPass) : Type 0 where
  pub seat : queue.IsPassOf jobs.queue pass.seat
  pub named : (job_view pass).share ≢ []
