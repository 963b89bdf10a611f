-- A pass whose caller made a move.
use Rattle.std.proofs.Common.{◌≡◌, ◌≢◌, ℕ, ◌<◌, List, length, refl, sym, ◌∙◌, ap, subst}
use Rattle.atomic_table.specs.Seated.{TableId}
use Rattle.tx_model.specs.declared.pass.PassState.TheVariants as state
use Rattle.tx_model.specs.Words.{HasAddress}
use Rattle.tx_model.specs.Attempt.{MayRead, MayWrite}
use Rattle.tx_model.proofs.lemmas.Rule.{write_follows}
use Rattle.ring_core.specs.declared.shape.Shape.{Shape}
use Rattle.ring_core.specs.declared.caller.Caller.{Caller}
use Rattle.ring_core.specs.declared.stage.Stage.TheVariants.{BeginIndex, ReadHeap, Check}
use Rattle.ring_core.specs.declared.stage.Purpose.TheVariants.{Stamp}
use Rattle.ring_core.specs.declared.stage.CheckStage.TheVariants.{Index}
use Rattle.ring_core.specs.Machine.{Machine, IsClosed, IsFull, at_stage, with_caller, written, ended}
use Rattle.ring_core.specs.Moves.{IsMoved}
use Rattle.ring_core.specs.Outcomes.{idle}
use Rattle.ring_core.specs.Shape.{IsShape}
use Rattle.ring_core.specs.Sound as core
use Rattle.ring_core.specs.Laws as core_laws
use Rattle.ring_worlds.specs.declared.process.Process.{Process}
use Rattle.ring_worlds.specs.World.{attempt_of}
use Rattle.ring_worlds.specs.Moves.{writes, reads, stamps}
use Rattle.ring_worlds.specs.Laws.{MoveKeeps, BecomeKeeps}
use Rattle.ring_words.specs.declared.table.About.{About}
use Rattle.ring_words.specs.declared.pass.RingPass.{RingPass}
use Rattle.ring_words.specs.Ring.{Given, given_of}
use Rattle.ring_words.specs.Pass.{HasMoved, process_with, IsSeated}
use Rattle.ring_words.proofs.Rests.{moved_to_rest, idle_sound}
use Rattle.ring_words.proofs.Moves.{may_more}

idle_free : state.Idle ≢ state.Stamped
idle_free e = cc

active_free : state.Active ≢ state.Stamped
active_free e = cc

module _ {S : Type 0} (good : S → List ℕ → List ℕ → Type 0) (budget : S → List ℕ → ℕ) (about : About S) (table : TableId) (pass : RingPass S)
    (p : IsSeated good budget about table pass) where
  abbrev given : Given
  given = given_of about

  abbrev c : Caller
  c = pass.local.caller

  abbrev q : Process
  q = process_with p.knowledge.process c

  -- the seat knows what it knew
  pub seated_moved : (local : Machine) → local.shape ≡ pass.local.shape → HasMoved given p.knowledge.process (process_with p.knowledge.process local.caller)
      → IsSeated good budget about table record { local = local; seat = pass.seat; seals = pass.seals }
  seated_moved local shape moved =
      record {
        at_table = p.at_table;
        no_slot = p.no_slot;
        shaped = shape ∙ p.shaped;
        knowledge = p.knowledge;
        known = p.known;
        told = p.told;
        settled = p.settled;
        knows = p.knows;
        moved = moved;
        unowned = p.unowned;
        unsealed = p.unsealed;
      }

  -- a machine after a move is sound
  pub sound_after : core_laws.MoveKeeps → IsShape about.shape → (d : Caller) → IsMoved pass.local.shape c d → core.IsSound about.shape d
  sound_after law limits d moved = law about.shape limits c d p.moved.machine (subst (λ (s : Shape). IsMoved s c d) p.shaped moved)

  -- a beginning is opened
  pub begin_opened : core_laws.MoveKeeps → IsShape about.shape → BecomeKeeps → c.state ≡ state.Idle → (local : Machine) →
      local ≡ at_stage pass.local BeginIndex → IsMoved pass.local.shape c local.caller
      → IsSeated good budget about table record { local = local; seat = pass.seat; seals = pass.seals }
  begin_opened law limits becomes is_idle local is moved =
      seated_moved local (ap (λ (m : Machine). m.shape) is)
      (subst (λ (m : Machine). core.IsSound about.shape m.caller → HasMoved given p.knowledge.process (process_with p.knowledge.process m.caller)) (sym is)
      (λ sound. moved_to_rest becomes given p.knowledge.process (record c { stage = BeginIndex }) sound is_idle tt
      (λ was. idle_free (sym is_idle ∙ p.moved.stays was)) p.moved.start)
      (sound_after law limits local.caller moved))

  -- its attempt is over
  pub attempt_ended : BecomeKeeps → c.state ≡ state.Active → (local : Machine) → local ≡ ended pass.local →
      IsSeated good budget about table record { local = local; seat = pass.seat; seals = pass.seals }
  attempt_ended becomes active local is =
      seated_moved local (ap (λ (m : Machine). m.shape) is)
      (subst (λ (m : Machine). HasMoved given p.knowledge.process (process_with p.knowledge.process m.caller)) (sym is)
      (moved_to_rest becomes given p.knowledge.process (idle pass.local.shape c)
      (subst (λ (s : Shape). core.IsSound s (idle pass.local.shape c)) (sym (sym p.shaped)) over) refl tt (λ was. active_free (sym active ∙ p.moved.stays was))
      p.moved.start))
    where
      over : core.IsSound pass.local.shape (idle pass.local.shape c)
      over = idle_sound pass.local.shape c (subst (λ (s : Shape). core.IsSound s c) (sym p.shaped) p.moved.machine)

  -- ---- in an attempt, between two requests
  module _ (active : c.state ≡ state.Active) (closed : IsClosed pass.local) where
    -- a read of a word that the attempt has not written is opened
    pub read_opened : core_laws.MoveKeeps → IsShape about.shape → MoveKeeps → (addr : ℕ) → addr < about.shape.heap → (HasAddress c.writes addr → ⊥) →
        MayRead given.regions (attempt_of q) addr
        → (local : Machine) → local ≡ at_stage pass.local (ReadHeap addr) → IsMoved pass.local.shape c local.caller →
        IsSeated good budget about table record { local = local; seat = pass.seat; seals = pass.seals }
    read_opened law limits moves addr within new may local is moved =
        seated_moved local (ap (λ (m : Machine). m.shape) is)
        (subst (λ (m : Machine). core.IsSound about.shape m.caller → HasMoved given p.knowledge.process (process_with p.knowledge.process m.caller)) (sym is)
        (λ sound. record {
          may = may_more moves given p.knowledge.process q (process_with p.knowledge.process (record c { stage = ReadHeap addr })) p.moved.may
              (reads addr (record { active = active; closed = closed }) within new may refl);
          machine = sound;
          stays = p.moved.stays;
          stamped = λ stamped. absurd (active_free (sym active ∙ stamped));
          active = p.moved.active;
          start = p.moved.start;
          follows = p.moved.follows;
        }) (sound_after law limits local.caller moved))

    -- a stamp is opened
    pub stamp_opened : core_laws.MoveKeeps → IsShape about.shape → MoveKeeps → 0 < length c.writes → (local : Machine) →
        local ≡ at_stage pass.local (Check Stamp Index) → IsMoved pass.local.shape c local.caller
        → IsSeated good budget about table record { local = local; seat = pass.seat; seals = pass.seals }
    stamp_opened law limits moves wrote local is moved =
        seated_moved local (ap (λ (m : Machine). m.shape) is)
        (subst (λ (m : Machine). core.IsSound about.shape m.caller → HasMoved given p.knowledge.process (process_with p.knowledge.process m.caller)) (sym is)
        (λ sound. record {
          may = may_more moves given p.knowledge.process q (process_with p.knowledge.process (record c { stage = Check Stamp Index })) p.moved.may
              (stamps (record { active = active; closed = closed }) wrote refl);
          machine = sound;
          stays = p.moved.stays;
          stamped = λ stamped. absurd (active_free (sym active ∙ stamped));
          active = p.moved.active;
          start = p.moved.start;
          follows = p.moved.follows;
        }) (sound_after law limits local.caller moved))

    -- one more word is written
    pub word_written : core_laws.MoveKeeps → IsShape about.shape → MoveKeeps → (addr value : ℕ) → addr < about.shape.heap →
        addr < length given.opening → (IsFull c addr → ⊥) → MayWrite given.regions (attempt_of q) addr value
        → (local : Machine) → local ≡ with_caller pass.local (written c addr value) → IsMoved pass.local.shape c local.caller →
        IsSeated good budget about table record { local = local; seat = pass.seat; seals = pass.seals }
    word_written law limits moves addr value within inside room may local is moved =
        seated_moved local (ap (λ (m : Machine). m.shape) is)
        (subst (λ (m : Machine). core.IsSound about.shape m.caller → HasMoved given p.knowledge.process (process_with p.knowledge.process m.caller)) (sym is)
        (λ sound. record {
          may = may_more moves given p.knowledge.process q (process_with p.knowledge.process (written c addr value)) p.moved.may
              (writes addr value (record { active = active; closed = closed }) within may room refl);
          machine = sound;
          stays = p.moved.stays;
          stamped = λ stamped. absurd (active_free (sym active ∙ stamped));
          active = p.moved.active;
          start = p.moved.start;
          follows = write_follows given.opening given.regions (attempt_of q) addr value inside may p.moved.follows;
        }) (sound_after law limits local.caller moved))
