-- What an answered request to stamp says, and that its steps were few.
use Rattle.std.proofs.Common.{◌≡◌, ◌≢◌, ℕ, ◌+◌, ◌≤◌, List, [], length, ◌∙◌, ap, arith}
use Rattle.atomic_table.specs.Seated.{TableId}
use Rattle.tx_model.specs.Pass.{AreStamps}
use Rattle.ring_core.specs.declared.action.Progress.{Progress}
use Rattle.ring_core.specs.Machine.{steps_of}
use Rattle.ring_words.specs.declared.table.About.{About}
use Rattle.ring_words.specs.declared.pass.RingPass.{RingPass}
use Rattle.ring_words.specs.Known.{steps_known}
use Rattle.ring_words.specs.Sealings.{seals_of}
use Rattle.ring_words.specs.Told.{Swapped, found_expected, found_other}
use Rattle.ring_words.specs.Pass.{process_now, attempt_now, view_of, steps_made}
use Rattle.ring_words.specs.Stamping.{IsAnswered, by_load, by_swap}
use Rattle.ring_words.proofs.Seated.{steps_after}
use Rattle.ring_words.proofs.StampSteps as steps
use Rattle.ring_words.proofs.SwapSeated as swap
use Rattle.ring_words.proofs.StampAnswers.{Says, load_said, swap_said}
use Rattle.ring_words.proofs.StampWon.{won_said, won_counted}
use Rattle.ring_words.proofs.Sealings.{seals_later}

-- ---- all requests
module _ {S : Type 0} (good : S → List ℕ → List ℕ → Type 0) (budget : S → List ℕ → ℕ) (about : About S) (table : TableId) (old new : RingPass S)
    (progress : Progress) where
  pub said : IsAnswered good budget about table old new progress → (attempt_now old).writes ≢ [] → Says about old new progress
  said (by_load last p kept t fewer loads over) wrote =
      load_said good budget about table old wrote last p kept new progress t fewer over
      (steps.follows good budget about table old last new progress kept p t fewer loads)
  said (by_swap last p kept x fewer) wrote = by_seat x.seat
    where
      by_seat : Swapped good budget (process_now last) x.from x.word last.seat.me new.seat.me → Says about old new progress
      by_seat (found_expected same v) = won_said good budget about table old last p kept new progress x same v
      by_seat (found_other other l) =
          swap_said good budget about table old wrote last p kept new progress (swap.as_step good budget about table last p new progress x l) fewer
          x.from x.stage other

  pub counted : IsAnswered good budget about table old new progress → AreStamps (length (view_of old).history) (view_of old).mine
      → old.seals ≡ seals_of (view_of old).history (view_of old).mine → new.seals ≡ seals_of (view_of new).history (view_of new).mine
  counted (by_load last p kept t fewer loads over) are was =
      seals_later (view_of old) (view_of new) old.seals new.seals (steps.later_on good budget about table old last new progress kept p t fewer) are was
      (t.seals ∙ kept.seals)
  counted (by_swap last p kept x fewer) are was = by_seat x.seat
    where
      by_seat : Swapped good budget (process_now last) x.from x.word last.seat.me new.seat.me → new.seals ≡ seals_of (view_of new).history (view_of new).mine
      by_seat (found_expected same v) = won_counted good budget about table old last p kept new progress x same v are was
      by_seat (found_other other l) =
          seals_later (view_of old) (view_of new) old.seals new.seals
          (steps.later_on good budget about table old last new progress kept p (swap.as_step good budget about table last p new progress x l) fewer) are was
          (x.seals ∙ kept.seals)

  pub few : IsAnswered good budget about table old new progress → steps_made new ≤ steps_made old + steps_of old.local
  few (by_load last p kept t fewer loads over) =
      omega (arith, kept.steps, steps_after good budget about table last p new progress t, fewer)
  few (by_swap last p kept x fewer) = by_seat x.seat
    where
      by_seat : Swapped good budget (process_now last) x.from x.word last.seat.me new.seat.me → steps_made new ≤ steps_made old + steps_of old.local
      by_seat (found_expected same v) =
          let rose = ap (λ known. steps_known known) (swap.from good budget about table last p new progress x v).now in
          omega (arith, kept.steps, fewer, rose, ap (λ known. steps_known known) p.known)
      by_seat (found_other other l) =
          let step = swap.as_step good budget about table last p new progress x l in
          omega (arith, kept.steps, fewer, steps_after good budget about table last p new progress step)
