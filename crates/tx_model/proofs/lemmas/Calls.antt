-- What a pass still has and knows after several calls: `IsLater`, `GoesOn`, `Ended`, `Committed` and others, one after another.
use Rattle.std.proofs.Common.{◌≡◌, Option, ℕ, ◌-◌, ◌++◌, List, [], ◌∷◌, Some, refl, sym, ◌∙◌, ap, subst, arith, inl, inr}
use Rattle.tx_model.proofs.lemmas.Histories.{beginning_of_itself, beginning_then, beginning_length, state_stays}
use Rattle.tx_model.specs.declared.pass.Receipt.{Receipt}
use Rattle.tx_model.specs.declared.pass.Stop.{Stop}
use Rattle.tx_model.specs.declared.pass.CommitError.{CommitError}
use Rattle.tx_model.specs.declared.pass.CommitError.TheVariants.{Worn}
use Rattle.tx_model.specs.declared.body.BodyStep.{BodyStep}
use Rattle.tx_model.specs.declared.body.BodyStep.TheVariants.{Refused}
use Rattle.tx_model.specs.declared.history.Commit.{Commit}
use Rattle.tx_model.specs.declared.word.Word.{Word}
use Rattle.tx_model.specs.declared.view.Attempt.{Attempt}
use Rattle.tx_model.specs.declared.view.Owned.{Owned}
use Rattle.tx_model.specs.declared.view.PassView.{PassView}
use Rattle.tx_model.specs.History.{IsBeginning, state_at}
use Rattle.tx_model.specs.Memory.{Agrees}
use Rattle.tx_model.specs.Opacity.{ReadFromState}
use Rattle.tx_model.specs.Attempt.{commit_of, owned_after, Fits}
use Rattle.tx_model.specs.Tries.{StepStopped}
use Rattle.tx_model.specs.Calls as refused
use Rattle.tx_model.specs.Calls.{IsLater, GoesOn, Ended, Wrote, OnlyRead, Received, Committed, WornOut}

pub later_itself : (view : PassView) → IsLater view view
later_itself view = record { history = beginning_of_itself view.history; front = omega arith; mine = refl; owned = refl; share = refl }

pub later_then : {old mid new : PassView} → IsLater old mid → IsLater mid new → IsLater old new
later_then p q =
    record {
      history = beginning_then _ _ _ p.history q.history;
      front = omega (arith, p.front, q.front);
      mine = q.mine ∙ p.mine;
      owned = q.owned ∙ p.owned;
      share = q.share ∙ p.share;
    }

pub goes_on_then : {old mid new : PassView} {before between now : Attempt} → GoesOn old mid before between → GoesOn mid new between now
    → GoesOn old new before now
goes_on_then p q = record { active = q.active; later = later_then p.later q.later; start = omega (arith, p.start, q.start) }

-- writes leave what the pass stands for as it was
pub goes_on_writing : {old mid new : PassView} {before between now : Attempt} → GoesOn old mid before between → new ≡ mid → now.start ≡ between.start
    → GoesOn old new before now
goes_on_writing {old} {mid} {new} {before} {between} {now} p same start =
    subst (λ view. GoesOn old view before now) (sym same)
    (record { active = p.active; later = p.later; start = omega (arith, p.start, start) })

-- an attempt that went on, and then ended
pub ended_after : {old mid new : PassView} {before between : Attempt} → GoesOn old mid before between → Ended mid new between → Ended old new before
ended_after p e = record { idle = e.idle; later = later_then p.later e.later; front = omega (arith, p.start, e.front) }

pub ended_then : {old mid new : PassView} {attempt : Attempt} → IsLater old mid → Ended mid new attempt → Ended old new attempt
ended_then p e = record { idle = e.idle; later = later_then p e.later; front = e.front }

pub worn_then : {life : ℕ} {old mid new : PassView} {attempt : Attempt} {index : ℕ} → IsLater old mid → WornOut life mid new attempt index
    → WornOut life old new attempt index
worn_then p w = record { ended = ended_then p w.ended; wrote = w.wrote; last = w.last; full = w.full }

wrote_then : {opening : List ℕ} {old mid new : PassView} {attempt : Attempt} {stamp : ℕ} → IsLater old mid → Wrote opening mid new attempt stamp
    → Wrote opening old new attempt stamp
wrote_then {opening} {old} {mid} {new} {attempt} {stamp} p w =
    record {
      history = beginning_then _ _ _ p.history w.history;
      there = w.there ∙ ap (λ (owned : List Owned). Some (commit_of attempt owned)) p.owned;
      fits = subst (Fits (state_at opening new.history (stamp - 1)) attempt) p.owned w.fits;
      later = omega (arith, w.later, beginning_length _ _ p.history);
      after_start = w.after_start;
      complete = w.complete;
      front = omega (arith, p.front, w.front);
      mine = w.mine ∙ ap (λ mine. mine ++ stamp ∷ []) p.mine;
      owned = w.owned ∙ ap (owned_after (state_at opening new.history stamp) attempt) p.owned;
      share = w.share ∙ p.share;
    }

read_then : {opening : List ℕ} {old mid new : PassView} {attempt : Attempt} {stamp : ℕ} → IsLater old mid → OnlyRead opening mid new attempt stamp
    → OnlyRead opening old new attempt stamp
read_then p r = record { later = later_then p r.later; from_state = r.from_state; no_older = r.no_older; front = r.front }

pub committed_then : {opening : List ℕ} {old mid new : PassView} {attempt : Attempt} {receipt : Receipt} → IsLater old mid
    → Committed opening mid new attempt receipt → Committed opening old new attempt receipt
committed_then p c =
    record {
      idle = c.idle;
      received = elim c.received [
        | inl (wrote, some, w) ↦ inl (wrote, some, wrote_then p w)
        | inr (wrote, none, r) ↦ inr (wrote, none, read_then p r)
      ];
    }

pub read_stays : {opening : List ℕ} {earlier later : List Commit} {reads : List Word} {k : ℕ} → IsBeginning earlier later
    → ReadFromState opening earlier reads k → ReadFromState opening later reads k
read_stays {opening} {earlier} {later} {reads} {k} p r =
    record {
      happened = omega (arith, r.happened, beginning_length _ _ p);
      agree = subst (Agrees reads) (sym (state_stays opening earlier later k p r.happened)) r.agree;
    }

pub refused_stopped : {T : Type 0} (shows : List Commit → ℕ → List ℕ → Stop → Type 0) (did : Option T → Attempt
    → Type 0) (opening : List ℕ) (old new : PassView) (before now : Attempt) (step : BodyStep T) (refusal : T)
    → step ≡ Refused refusal → StepStopped shows did opening old new before now step → GoesOn old new before now × did (Some refusal) now
refused_stopped shows did opening old new before now step refusal is told = subst (StepStopped shows did opening old new before now) is told

pub refused_worn : (shows : List Commit → ℕ → List ℕ → Stop → Type 0) (life : ℕ) (old new : PassView) (attempt : Attempt) (error : CommitError) (index : ℕ)
    → error ≡ Worn index → refused.Refused shows life old new attempt error → WornOut life old new attempt index
refused_worn shows life old new attempt error index is told = subst (refused.Refused shows life old new attempt) is told
