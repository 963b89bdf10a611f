-- The opening is what a memory may be made with, it leaves room for fewer commits than the memory may have, and the workers leave all words in
-- the index.
use Rattle.std.proofs.Common.{◌<◌, List, sym, ◌∙◌, ap, subst, arith}
use Rattle.mail_words.specs.Key.{KeyNumbers}
use Rattle.mail_words.specs.Lists.{postings_in}
use Rattle.tx_model.specs.declared.view.PassView.{PassView}
use Rattle.tx_model.specs.Made.{Made, AreWellFormed}
use Rattle.tx_heap.specs.Layout.{regions_of}
use Rattle.tx_heap.specs.Mail.{mail_budget}
use Rattle.mail_workers.proofs.Lemmas.{life_enough}
use Rattle.mail_index.proofs.Opened.{made_is, indexed}
use Rattle.mail_index.proofs.indexing.index_lists.Goals as goal

pub new-requires-clause-made : goal.new-requires-clause-made
new-requires-clause-made g c =
    let allowed = c.in_ok-regions.ensures ∙ ap regions_of c.plan-plan.ensures.plan in
    record {
      allowed = allowed;
      opening_good = c.in_ok-words.ensures.good;
      well_formed = subst (AreWellFormed c.in_ok-words.words.items) (sym allowed) c.in_ok-words.ensures.regions;
      size = c.in_ok-words.ensures.size;
      life_span = (omega arith, omega arith);
    }

pub run_workers-report-requires-clause-life : goal.run_workers-report-requires-clause-life
run_workers-report-requires-clause-life g c κs within =
    subst (λ (m : Made (List (List KeyNumbers))). mail_budget m.sense m.opening < m.life) (sym c.in_ok-ring.ensures.made)
    (omega (arith, life_enough c.of-sense.result c.in_ok-words.words.items c.in_ok-words.ensures.good, ap postings_in c.of-sense.ensures, c.requires.postings))

pub returns-in-Ok-clause-indexed : goal.returns-in-Ok-clause-indexed
returns-in-Ok-clause-indexed g c =
    let regions = c.in_ok-regions.ensures ∙ ap regions_of c.plan-plan.ensures.plan in
    let made = c.in_ok-ring.ensures.made ∙ made_is c.of-sense.ensures c.in_ok-words.ensures.opening regions in
    let first = c.in_ok-ring.ensures.view in
    indexed made (ap (λ (view : PassView). view.history) first) c.in-Ok.ensures.idle
    (c.in-Ok.ensures.share ∙ ap (λ (view : PassView). view.share) first) c.in-Ok.ensures.indexed
