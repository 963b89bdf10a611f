-- What shows a stop on the ring shows it in a longer history too, and has a commit after the start.
use Rattle.std.specs.Prelude.{◌*◌}
use Rattle.tx_model.specs.declared.pass.Stop.TheVariants.{Met, Overrun}
use Rattle.tx_model.specs.Opacity.{StaysShown, HasLaterCommit}
use Rattle.tx_model.proofs.lemmas.Stops.{conflict_stays, conflict_later, overrun_stays, overrun_later}
use Rattle.ring_core.specs.declared.shape.Shape.{Shape}
use Rattle.ring_words.specs.Pass.{shows_in}

pub shown_stays : (shape : Shape) → StaysShown (shows_in shape)
shown_stays shape history longer start read (Met stamp) beginning shown = conflict_stays start read beginning (64 * shape.sig_words) stamp shown
shown_stays shape history longer start read (Overrun stamp seen) beginning shown = overrun_stays start read beginning shape.ring stamp seen shown

pub shown_later : (shape : Shape) → HasLaterCommit (shows_in shape)
shown_later shape history start read (Met stamp) shown = conflict_later (64 * shape.sig_words) history start read stamp shown
shown_later shape history start read (Overrun stamp seen) shown = overrun_later shape.ring history start stamp seen shown
