-- The only pass meets nobody.
use Rattle.std.proofs.Common.{◌≡◌, ◌≢◌, ℕ, ◌<◌, ◌≤◌, List, length, ◌∙◌, arith}
use Rattle.std.proofs.lemmas.Option.{slice_get_within}
use Rattle.tx_model.specs.declared.history.Commit.{Commit}
use Rattle.tx_model.specs.declared.pass.PassState.TheVariants as state
use Rattle.tx_model.specs.declared.pass.Stop.{Stop}
use Rattle.tx_model.specs.declared.pass.Stop.TheVariants.{Met, Overrun}
use Rattle.tx_model.specs.Pass.{IsPass, IsWhole, KnowsAll}
use Rattle.tx_model.specs.Calls.{IsLater}
use Rattle.tx_model.proofs.lemmas.Passes.{knows_all_same, active_not_stamped, idle_not_stamped}
use Rattle.ring_core.specs.declared.shape.Shape.{Shape}
use Rattle.ring_core.specs.declared.action.Later.{Later}
use Rattle.ring_core.specs.declared.action.Later.TheVariants as reason
use Rattle.ring_words.specs.declared.stamp.Stamp.{Stamp}
use Rattle.ring_words.specs.declared.stamp.Stamp.TheVariants as stamp
use Rattle.ring_words.specs.declared.table.About.{About}
use Rattle.ring_words.specs.declared.pass.RingPass.{RingPass}
use Rattle.ring_words.specs.Ring.{made_of}
use Rattle.ring_words.specs.Pass.{view_of, attempt_now, shows_in}
use Rattle.ring_words.specs.Stamping.{IsBusy, AnswersStamp, MeetsNobody}

-- what shows a stop has a commit after the start
shown_later : (shape : Shape) (history : List Commit) (start : ℕ) (read : List ℕ) (stop : Stop) → shows_in shape history start read stop
    → start < length history
shown_later shape history start read (Met entry) shown =
    let at = slice_get_within history _ shown.commit shown.there in
    omega (arith, shown.later, at)
shown_later shape history start read (Overrun entry seen) shown = omega (arith, shown.later, shown.gone, shown.happened)

module _ {S : Type 0} (good : S → List ℕ → List ℕ → Type 0) (budget : S → List ℕ → ℕ) (about : About S) (some_entry : 1 ≤ about.shape.ring)
    (old new : RingPass S) (was : IsPass good budget (made_of about) (view_of old) (attempt_now old)) (active : (view_of old).state ≡ state.Active)
    (now : IsPass good budget (made_of about) (view_of new) (attempt_now new)) (whole : IsWhole (view_of old)) where
  knew : KnowsAll (view_of old)
  knew = was.whole whole (active_not_stamped (view_of old).state active)

  begun : (attempt_now old).start ≡ length (view_of old).history
  begun = was.last whole active

  knows : IsLater (view_of old) (view_of new) → (view_of new).state ≢ state.Stamped → KnowsAll (view_of new)
  knows later free = now.whole (later.share ∙ whole) free

  long : IsLater (view_of old) (view_of new) → (view_of new).state ≢ state.Stamped → length (view_of new).history ≡ length (view_of old).history
  long later free = knows_all_same (view_of old) (view_of new) later knew (knows later free)

  never_busy : IsLater (view_of old) (view_of new) → (view_of new).state ≢ state.Stamped → (why : Later) → IsBusy about old new why → ⊥
  never_busy later free (reason.Lost index) ((top, loaded, less), is, found) = omega (arith, loaded.happened.known, less, is, long later free)
  never_busy later free (reason.Unpublished entry tag) (loaded, low, ahead, found) =
      omega (arith, loaded.happened.happened, ahead, (knows later free).front)
  never_busy later free (reason.SlotBusy entry tag) ((top, loaded, slot), low, ahead, found) =
      omega (arith, loaded.happened.happened, ahead, (knows later free).front, slot, some_entry)
  never_busy later free (reason.Order entry tag) busy = busy

  pub meets_nobody : (result : Stamp) → AnswersStamp about old new result → MeetsNobody result
  meets_nobody (stamp.Stamped number) said = tt
  meets_nobody (stamp.Later why) said =
      never_busy said.0.goes_on.later (active_not_stamped (view_of new).state said.0.goes_on.active) why said.1
  meets_nobody (stamp.Stopped stop) said =
      let shown = shown_later about.shape (view_of new).history (attempt_now old).start _ stop said.1 in
      omega (arith, shown, begun, long said.0.later (idle_not_stamped (view_of new).state said.0.idle))
  meets_nobody (stamp.Worn index) said = tt
