-- The workers began with the opening.
use Rattle.std.proofs.Common.{List, sym, ◌∙◌, ap}
use Rattle.tx_model.specs.declared.view.PassView.{PassView}
use Rattle.tx_model.specs.Made.{Made}
use Rattle.mail_words.specs.Key.{KeyNumbers}
use Rattle.tx_heap.specs.Opening.{opening_of}
use Rattle.mail_index.proofs.lemmas.Complete.{all_indexed}
use Rattle.index_tests.proofs.indexed.in_turn_memory.Goals as goal

pub returns-in-Ok-clause-complete : goal.returns-in-Ok-clause-complete
returns-in-Ok-clause-complete g c =
    let made = c.in_ok-mem.ensures.made in
    let opening = ap (λ (m : Made (List (List KeyNumbers))). m.opening) made ∙ c.in_ok-sense.ensures.made.opening_good.opened
    ∙ sym (ap (λ (m : Made (List (List KeyNumbers))). opening_of m.sense) made) in
    all_indexed opening (ap (λ (view : PassView). view.history) c.in_ok-mem.ensures.view) c.in-Ok.ensures.indexed
