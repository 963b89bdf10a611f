-- The opening, its regions and a life are what a memory may be made with.
use Rattle.std.proofs.Common.{sym, ◌∙◌, ap, subst, arith}
use Rattle.tx_model.specs.Made.{AreWellFormed}
use Rattle.tx_heap.specs.Layout.{regions_of}
use Rattle.index_tests.proofs.mailbox.index_of.Goals as goal

pub new-requires : goal.new-requires
new-requires c =
    let allowed = c.in_ok-regions.ensures ∙ ap regions_of c.plan.ensures.plan in
    record {
      allowed = allowed;
      opening_good = c.in_ok-words.ensures.good;
      well_formed = subst (AreWellFormed c.in_ok-words.words.items) (sym allowed) c.in_ok-words.ensures.regions;
      size = c.in_ok-words.ensures.size;
      life_span = (omega arith, omega arith);
    }
