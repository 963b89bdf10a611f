-- A read of a word that the attempt has not written, and a write.
use Rattle.std.proofs.Common.{◌≡◌, ◌≢◌, ◌↔◌, ℕ, ◌+◌, ◌*◌, ◌<◌, ◌≤◌, List, ◌∷◌, length, None, Ok, Err, Result, IsErr, OnOk, OnErr, refl, sym, ap, subst, arith, inl, inr}
use Rattle.atomic_table.specs.Seated.{TableId}
use Rattle.std.proofs.lemmas.Bool.{false≢true}
use Rattle.tx_model.specs.declared.pass.PassState.TheVariants as state
use Rattle.tx_model.specs.declared.pass.Stop.{Stop}
use Rattle.tx_model.specs.Words.{value_of, addresses}
use Rattle.tx_model.specs.Attempt.{MayRead, MayWrite}
use Rattle.tx_model.specs.Pass.{AreStamps}
use Rattle.tx_model.specs.Calls.{Read, Ended}
use Rattle.tx_model.proofs.lemmas.Values.{none_missing}
use Rattle.ring_core.specs.declared.action.Progress.{Progress}
use Rattle.ring_core.specs.declared.action.Progress.TheVariants as answer
use Rattle.ring_core.specs.declared.stage.Stage.TheVariants.{ReadHeap}
use Rattle.ring_core.specs.Machine.{Machine, IsClosed, IsFull, with_caller, written}
use Rattle.ring_core.specs.declared.shape.Shape.{Shape}
use Rattle.ring_core.specs.Moves.{IsMoved, opens_read}
use Rattle.ring_core.specs.Shape.{IsShape}
use Rattle.ring_core.specs.Laws as core_laws
use Rattle.ring_worlds.specs.World.{attempt_of}
use Rattle.ring_worlds.specs.Laws.{MoveKeeps}
use Rattle.ring_worlds.specs.declared.process.Process.{Process}
use Rattle.ring_words.specs.declared.table.About.{About}
use Rattle.ring_words.specs.declared.pass.RingPass.{RingPass}
use Rattle.ring_words.specs.Sealings.{seals_of}
use Rattle.ring_words.specs.Ring.{made_of}
use Rattle.ring_words.specs.Pass.{IsSeated, view_of, attempt_now, steps_made, shows_in, staged}
use Rattle.ring_words.specs.Requests.{Answered}
use Rattle.ring_words.proofs.Seated.{now_is}
use Rattle.ring_words.proofs.PassMoves.{read_opened, word_written}
use Rattle.ring_words.proofs.Answers.{valued, halted, only, counted_on, few}

module _ {S : Type 0} (good : S → List ℕ → List ℕ → Type 0) (budget : S → List ℕ → ℕ) (about : About S) (table : TableId) (pass : RingPass S)
    (p : IsSeated good budget about table pass) (closed : IsClosed pass.local) (active : pass.local.caller.state ≡ state.Active)
    (law : core_laws.MoveKeeps) (limits : IsShape about.shape) (moves : MoveKeeps) (room : length (made_of about).opening ≡ about.shape.heap)
    (addr : ℕ) (within : addr < length (made_of about).opening) where
  -- ---- a read
  module _ (may : MayRead (made_of about).regions (attempt_now pass) addr) (none : value_of pass.local.caller.writes addr ≡ None) where
    abbrev asking : RingPass S
    asking = staged pass (ReadHeap addr)

    moved : IsMoved pass.local.shape pass.local.caller asking.local.caller
    moved =
        opens_read addr (record { active = active; closed = closed }) (omega (arith, within, room, ap (λ (s : Shape). s.heap) p.shaped))
        (none_missing pass.local.caller.writes addr none) refl

    pub read_seated : IsSeated good budget about table asking
    read_seated =
        read_opened good budget about table pass p active closed law limits moves addr (omega (arith, within, room))
        (none_missing pass.local.caller.writes addr none)
        (subst (λ (q : Process). MayRead (made_of about).regions (attempt_of q) addr) (now_is good budget about table pass p) may) asking.local refl moved

    module _ (new : RingPass S) (progress : Progress) (a : Answered good budget about table asking new progress) where
      pub read_counted : AreStamps (length (view_of pass).history) (view_of pass).mine →
          pass.seals ≡ seals_of (view_of pass).history (view_of pass).mine → new.seals ≡ seals_of (view_of new).history (view_of new).mine
      read_counted are counted = counted_on good budget about table asking new progress read_seated a tt pass.local.caller.state are counted

      pub read_few : steps_made new ≤ steps_made pass + (2 + about.shape.ring * (about.shape.sig_words + 2))
      read_few =
          let most : steps_made new ≤ steps_made pass + (2 + pass.local.shape.ring * (pass.local.shape.sig_words + 2)) =
          few good budget about table asking new progress read_seated a tt in
          subst (λ (s : Shape). steps_made new ≤ steps_made pass + (2 + s.ring * (s.sig_words + 2))) p.shaped most

      pub read_value : (value : ℕ) → progress ≡ answer.Value value →
          Read (made_of about).opening (view_of pass) (view_of new) (attempt_now pass) (attempt_now new) addr value
      read_value value e =
          subst (λ (b : About S). Read (made_of b).opening (view_of asking) (view_of new) (attempt_now asking) (attempt_now new) addr value) a.seated.told
          (valued good budget about table asking new progress read_seated a tt active addr refl none value e)

      pub read_stopped : (stop : Stop) → progress ≡ answer.Stopped stop
          → Ended (view_of pass) (view_of new) (attempt_now pass) ×
          shows_in about.shape (view_of new).history (attempt_now pass).start (addr ∷ addresses (attempt_now pass).reads) stop
      read_stopped stop e =
          subst (λ (b : About S). Ended (view_of asking) (view_of new) (attempt_now asking) ×
          shows_in b.shape (view_of new).history (attempt_now asking).start (addr ∷ addresses (attempt_now asking).reads) stop) a.seated.told
          (halted good budget about table asking new progress read_seated a tt active addr refl none stop e)

      pub read_only : ((value : ℕ) → progress ≢ answer.Value value) → ((stop : Stop) → progress ≢ answer.Stopped stop) → ⊥
      read_only no_value no_stop =
          elim (only good budget about table asking new progress read_seated a tt active addr refl none) [
            | inl (value, e) ↦ no_value value e
            | inr (stop, e) ↦ no_stop stop e
          ]

  -- ---- a write
  pub write_seated : (value : ℕ) → MayWrite (made_of about).regions (attempt_now pass) addr value →
      {T E : Type 0} (result : Result T E) (local : Machine) → IsErr result ↔ IsFull pass.local.caller addr
      → OnOk result (local ≡ with_caller pass.local (written pass.local.caller addr value)) →
      OnOk result (IsMoved pass.local.shape pass.local.caller local.caller) → OnErr result (local ≡ pass.local)
      → IsSeated good budget about table record { local = local; seat = pass.seat; seals = pass.seals }
  write_seated value may result local full ok moved kept = go result full ok moved kept
    where
      go : {T E : Type 0} (result : Result T E) → IsErr result ↔ IsFull pass.local.caller addr →
          OnOk result (local ≡ with_caller pass.local (written pass.local.caller addr value)) →
          OnOk result (IsMoved pass.local.shape pass.local.caller local.caller)
          → OnErr result (local ≡ pass.local) → IsSeated good budget about table record { local = local; seat = pass.seat; seals = pass.seals }
      go (Ok x) full ok moved kept =
          word_written good budget about table pass p active closed law limits moves addr value (omega (arith, within, room)) within
          (λ is_full. false≢true (full.1 is_full))
          (subst (λ (q : Process). MayWrite (made_of about).regions (attempt_of q) addr value) (now_is good budget about table pass p) may) local ok moved
      go (Err x) full ok moved kept = subst (λ (m : Machine). IsSeated good budget about table record {
        local = m;
        seat = pass.seat;
        seals = pass.seals;
      }) (sym kept) p

-- no request is open after it
pub write_closed : {S : Type 0} (pass : RingPass S) → IsClosed pass.local → (addr value : ℕ) →
    {T E : Type 0} (result : Result T E) (local : Machine) → OnOk result (local ≡ with_caller pass.local (written pass.local.caller addr value))
    → OnErr result (local ≡ pass.local) → IsClosed local
write_closed pass closed addr value (Ok x) local ok kept = subst IsClosed (sym ok) closed
write_closed pass closed addr value (Err x) local ok kept = subst IsClosed (sym kept) closed
