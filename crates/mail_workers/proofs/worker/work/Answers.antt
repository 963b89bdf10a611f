-- One message more was drawn, and is in the index.
use Rattle.std.proofs.Common.{◌∙◌, ◌++◌, ◌∷◌, [], ap, sym}
use Rattle.std.proofs.lemmas.List.{append_assoc}
use Rattle.mail_workers.specs.JobPasses.{job_view}
use Rattle.mail_workers.proofs.Moves.{moved_then, finished_more}
use Rattle.mail_workers.proofs.worker.work.Goals as goal

pub loop-preserved : goal.loop-preserved
loop-preserved g c =
    let view = g.M.TxMemory.view in
    let so_far = c.loop.invariant in
    let drew = c.in-Some-draw.ensures.drew in
    let message = c.in-Some-draw.message in
    let before = (job_view c.args.mine.now).drawn in
    record {
      of = c.index_message.ensures.of;
      idle = c.index_message.ensures.idle;
      moved = moved_then so_far.moved c.index_message.ensures.moved;
      mine = c.draw.ensures.of;
      total = ap (λ v. v.total) drew.now ∙ so_far.total;
      share = ap (λ v. v.share) drew.now ∙ so_far.share;
      drawn = ap (λ v. v.drawn) drew.now ∙ ap (λ d. d ++ message ∷ []) so_far.drawn ∙ append_assoc before c.loop.drawn.items (message ∷ [])
          ∙ ap (λ d. before ++ d) (sym (c.push_reserved.ensures.items ∙ ap (λ d. d ++ message ∷ []) c.in-Ok.ensures.items));
      finished = finished_more (view c.args.pass.now).front before (job_view c.loop.mine).drawn (job_view c.draw.new.pass).drawn (view c.loop.pass)
          (view c.index_message.new.pass) message
          so_far.moved.front (ap (λ v. v.drawn) drew.now) so_far.finished c.index_message.ensures.moved.history c.index_message.ensures.finished;
    }
