-- The opening, its regions and a life are what a memory may be made with, and the life is greater than the budget.
use Rattle.std.proofs.Common.{◌<◌, sym, ◌∙◌, ap, subst, arith}
use Rattle.mail_words.specs.Lists.{postings_in}
use Rattle.tx_model.specs.Made.{AreWellFormed}
use Rattle.tx_heap.specs.Layout.{Sizes, regions_of}
use Rattle.mail_workers.proofs.Lemmas.{life_enough}
use Rattle.bench_index.proofs.start.start_of.Goals as goal

pub returns-clause-made : goal.returns-clause-made
returns-clause-made c =
    let allowed = c.in_ok-regions.ensures ∙ ap regions_of c.plan-plan.ensures.plan in
    record {
      allowed = allowed;
      opening_good = c.in_ok-words.ensures.good;
      well_formed = subst (AreWellFormed c.in_ok-words.words.items) (sym allowed) c.in_ok-words.ensures.regions;
      size = c.in_ok-words.ensures.size;
      life_span = (
        omega arith,
        omega (
          arith,
          c.postings.ensures,
          ap postings_in c.lists.ensures,
          ap (λ (s : Sizes). s.segments) c.plan.view_is,
          ap (λ (s : Sizes). s.segments) c.plan-plan.ensures.plan,
          c.plan-plan.ensures.limits.segments,
        ),
      );
    }

pub returns-clause-life : goal.returns-clause-life
returns-clause-life c =
    omega (
      arith,
      life_enough c.args.sense c.in_ok-words.words.items c.in_ok-words.ensures.good,
      c.postings.ensures,
      ap postings_in c.lists.ensures,
      ap (λ (s : Sizes). s.segments) c.plan.view_is,
      ap (λ (s : Sizes). s.segments) c.plan-plan.ensures.plan,
    )
