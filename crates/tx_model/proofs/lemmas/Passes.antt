-- What a pass knows from one call to the next.
use Rattle.std.proofs.Common.{◌≡◌, ◌≢◌, ℕ, ◌-◌, ◌<◌, List, Some, length, sym, ◌∙◌, ap, subst, arith, inl, inr, Contains}
use Rattle.std.proofs.lemmas.List.Elements.{Contains-push_cases}
use Rattle.std.proofs.lemmas.Option.{slice_get_within, get_or_from_slice_get}
use Rattle.std.proofs.lemmas.List.FromFn.{length-range_with_len}
use Rattle.tx_model.specs.declared.gate.Region.{Region}
use Rattle.tx_model.specs.declared.gate.TheConstants.{GATE_SEALED}
use Rattle.tx_model.specs.declared.history.Commit.{Commit}
use Rattle.tx_model.specs.declared.view.Owned.{Owned}
use Rattle.tx_model.specs.declared.pass.PassState.{PassState}
use Rattle.tx_model.specs.declared.pass.PassState.TheVariants.{Idle, Active, Stamped}
use Rattle.tx_model.specs.declared.pass.Stop.{Stop}
use Rattle.tx_model.specs.declared.view.Attempt.{Attempt}
use Rattle.tx_model.specs.declared.view.PassView.{PassView}
use Rattle.tx_model.specs.Made.{Made}
use Rattle.tx_model.specs.Words.{value_of, HasAddress}
use Rattle.tx_model.specs.History.{state_at}
use Rattle.tx_model.specs.Attempt.{Fits, commit_of}
use Rattle.tx_model.specs.Pass.{IsWhole, KnowsAll, HasPublished, IsStamped, IsPass}
use Rattle.tx_model.proofs.lemmas.Values.{has_value, value_agrees}
use Rattle.tx_model.specs.Calls.{IsLater, Ended}
use Rattle.tx_model.specs.Opacity.{HasLaterCommit}

pub idle_not_stamped : (state : PassState) → state ≡ Idle → state ≢ Stamped
idle_not_stamped state idle stamped = let e : Idle ≡ Stamped = sym idle ∙ stamped in cc

pub active_not_stamped : (state : PassState) → state ≡ Active → state ≢ Stamped
active_not_stamped state active stamped = let e : Active ≡ Stamped = sym active ∙ stamped in cc

pub active_not_idle : (state : PassState) → state ≡ Active → state ≢ Idle
active_not_idle state active idle = let e : Active ≡ Idle = sym active ∙ idle in cc

-- where a pass knows all before and after, the history is as long as it was
pub knows_all_same : (old new : PassView) → IsLater old new → KnowsAll old → KnowsAll new → length new.history ≡ length old.history
knows_all_same old new later before now =
    sym (length-range_with_len 1 (length new.history))
    ∙ ap length (sym now.mine ∙ later.mine ∙ before.mine)
    ∙ length-range_with_len 1 (length old.history)

pub never_stops : {S : Type 0} (good : S → List ℕ → List ℕ → Type 0) (budget : S → List ℕ
    → ℕ) (made : Made S) (old new : PassView) (before now : Attempt) (shows : List Commit → ℕ → List ℕ → Stop → Type 0)
    → HasLaterCommit shows → IsPass good budget made old before → IsPass good budget made new now → IsWhole old → old.state ≡ Active → Ended old new before
    → (read : List ℕ) (stop : Stop) → ¬ shows new.history before.start read stop
never_stops good budget made old new before now shows has_later was is whole active ended read stop shown =
    let all = was.whole whole (active_not_stamped old.state active) in
    let still = is.whole (ended.later.share ∙ whole) (idle_not_stamped new.state ended.idle) in
    omega (arith, was.last whole active, knows_all_same old new ended.later all still, has_later new.history before.start read stop shown)

-- ---- what a pass owns, in the states that its attempt and its commit come from
module _ {S : Type 0} (good : S → List ℕ → List ℕ → Type 0) (budget : S → List ℕ
    → ℕ) (made : Made S) (view : PassView) (attempt : Attempt) (known : IsPass good budget made view attempt) where
  -- an attempt that has read the gate of a region that the pass owns has read it as sealed
  pub owned_gate_read : (o : Owned) → view.state ≡ Active → Contains view.owned o → HasAddress attempt.reads o.region.gate
      → value_of attempt.reads o.region.gate ≡ Some GATE_SEALED
  owned_gate_read o active among has =
      let doing = known.attempting (active_not_idle view.state active) in
      let owner = known.owners o among in
      let (value, is) = has_value attempt.reads o.region.gate has in
      let here = value_agrees attempt.reads (state_at made.opening view.history attempt.start) o.region.gate value doing.from_one.reads is in
      let sealed = owner.is_sealed attempt.start (owner.began (active_not_idle view.state active)) doing.started
      (λ published. active_not_stamped view.state active published.0) in
      is ∙ ap (λ (v : ℕ). Some v) (sym (get_or_from_slice_get (state_at made.opening view.history attempt.start) o.region.gate value 0 here) ∙ sealed)

  module _ (stamped : view.state ≡ Stamped) (s : IsStamped view attempt) where
    -- no state before the pass's commit is after one that publishes
    not_published : (region : Region) (k : ℕ) → k < s.stamp → ¬ HasPublished view attempt region k
    not_published region k below (is, among, (own, has, incomplete, reached)) =
        elim (Contains-push_cases s.before s.stamp own (subst (λ mine. Contains mine own) s.mine has)) [
          | inl earlier ↦ omega (arith, s.complete own earlier, incomplete)
          | inr last ↦ omega (arith, last, reached, below)
        ]

    -- the state before the commit of a stamped pass fits its attempt
    pub stamped_fits : Fits (state_at made.opening view.history (s.stamp - 1)) attempt view.owned
    stamped_fits =
        record {
          reads = known.legal (s.stamp - 1) (commit_of attempt view.owned) s.there;
          contents = λ o among.
              let owner = known.owners o among in
              let within = slice_get_within view.history (s.stamp - 1) (commit_of attempt view.owned) s.there in
              let began = owner.began (λ idle. idle_not_stamped view.state idle stamped) in
              owner.as_sealed (s.stamp - 1) (omega (arith, began, s.after_start)) (omega (arith, within))
              (not_published o.region (s.stamp - 1) (omega (arith, s.after_start)));
        }
