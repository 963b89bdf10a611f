-- An index whose pass was used, and has no further commit.
use Rattle.std.proofs.Common.{◌≡◌, List, refl, sym, subst}
use Rattle.tx_model.specs.declared.history.Commit.{Commit}
use Rattle.tx_model.specs.declared.pass.PassState.TheVariants.{Idle}
use Rattle.tx_model.specs.declared.view.PassView.{PassView}
use Rattle.tx_model.specs.Made.{Made}
use Rattle.tx_model.specs.Pass.{IsWhole}
use Rattle.mail_words.specs.Key.{KeyNumbers}
use Rattle.mail_answers.specs.Complete.{IsComplete, last_index}
use Rattle.mail_index.specs.Indexed.{IsIndexed}

pub still_indexed : {lists : List (List KeyNumbers)} {made : Made (List (List KeyNumbers))} {old : PassView} (new : PassView) → IsIndexed lists made old
    → new.state ≡ Idle → IsWhole new → new.history ≡ old.history → IsIndexed made.sense made new
still_indexed {made = made} new was idle whole same = record {
  sense = refl;
  opening = was.opening;
  idle = idle;
  whole = whole;
  complete = subst (λ (h : List Commit). IsComplete made.sense (last_index made h)) (sym same) was.complete;
}
