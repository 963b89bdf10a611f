-- Address 1 has place 39 of 64.
use Rattle.std.proofs.Common.{refl, arith, rules}
use Rattle.ring_sig.specs.Signature.{place_of}
use Rattle.tx_model.specs.declared.pass.Stop.TheVariants.{Met, Overrun}
use Rattle.tx_model.specs.Opacity.{StaysShown, HasLaterCommit}
use Rattle.tx_model.specs.CallExamples.{shows_stop, raising}
use Rattle.tx_model.proofs.lemmas.Stops.{conflict_stays, overrun_stays, conflict_later, overrun_later}
use Rattle.tx_model.proofs.laws.examples.commit_call_examples.Goals as goal

stays : StaysShown shows_stop
stays history longer start read (Met stamp) beginning shown = conflict_stays start read beginning 64 stamp shown
stays history longer start read (Overrun stamp seen) beginning shown = overrun_stays start read beginning 1 stamp seen shown

later : HasLaterCommit shows_stop
later history start read (Met stamp) shown = conflict_later 64 history start read stamp shown
later history start read (Overrun stamp seen) shown = overrun_later 1 history start stamp seen shown

pub returns-clause-shows : goal.returns-clause-shows
returns-clause-shows c = (stays, later)

pub returns-clause-stopped_commit : goal.returns-clause-stopped_commit
unfolding place_of
returns-clause-stopped_commit c = (
  search rules,
  record {
    later = omega arith;
    commit = raising;
    there = refl;
    shared = (39, (0, omega arith, refl), (0, omega arith, refl));
  },
)
