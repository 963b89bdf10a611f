-- The words are the opening of the lists.
use Rattle.std.proofs.Common.{◌^◌, ◌≤◌, length, sym, subst}
use Rattle.tx_model.specs.Made.{AreWellFormed}
use Rattle.tx_heap.specs.Layout.{sizes_of, regions_of}
use Rattle.tx_heap.specs.Mail.{IsGoodMail}
use Rattle.tx_heap.proofs.lemmas.Opening.{opening_good}
use Rattle.tx_heap.proofs.lemmas.Regions.{opening_well_formed, opening_size}
use Rattle.tx_heap.proofs.memory.opening.Goals as goal

pub returns-in-Ok-clause-good : goal.returns-in-Ok-clause-good
returns-in-Ok-clause-good c =
    let lists = c.args.sense.now in
    subst (λ words. IsGoodMail lists words words) (sym c.in-Ok.ensures.opening) (opening_good lists)

pub returns-in-Ok-clause-regions : goal.returns-in-Ok-clause-regions
returns-in-Ok-clause-regions c =
    let lists = c.args.sense.now in
    subst (λ words. AreWellFormed words (regions_of (sizes_of lists))) (sym c.in-Ok.ensures.opening) (opening_well_formed lists)

pub returns-in-Ok-clause-size : goal.returns-in-Ok-clause-size
returns-in-Ok-clause-size c =
    subst (λ words. (1 ≤ length words) × (length words ≤ 2 ^ 27)) (sym c.in-Ok.ensures.opening) (opening_size c.args.sense.now c.in-Ok.ensures.limits)
