-- The address that an open read asks for stays until the answer, and the answer has it.
use Rattle.std.proofs.Common.{◌≡◌, ◌≢◌, ℕ, List, [], ◌∷◌, ◌++◌, Option, Some, None, false, refl, subst, sym, ◌∙◌, ap}
use Rattle.tx_model.specs.declared.word.Word.{Word}
use Rattle.ring_core.specs.declared.shape.Shape.{Shape}
use Rattle.ring_core.specs.declared.caller.Caller.{Caller}
use Rattle.ring_core.specs.declared.action.Progress.{Progress}
use Rattle.ring_core.specs.declared.action.Progress.TheVariants as answer
use Rattle.ring_core.specs.declared.stage.Stage.{Stage}
use Rattle.ring_core.specs.declared.stage.Stage.TheVariants.{Closed, BeginIndex, BeginTag, ReadHeap, Check, StampSlot, StampSwap, Turn, Between}
use Rattle.ring_core.specs.declared.stage.Purpose.{Purpose}
use Rattle.ring_core.specs.declared.stage.Purpose.TheVariants.{Read, Stamp}
use Rattle.ring_core.specs.declared.stage.CheckStage.{CheckStage}
use Rattle.ring_core.specs.declared.stage.Walk.{Walk}
use Rattle.ring_core.specs.Request.{is_open}
use Rattle.ring_core.specs.Outcomes.{Outcome, made, checked, outcome_at, absorbed}
use Rattle.ring_core.specs.Machine.{Machine, with_caller}
use Rattle.ring_worlds.specs.World.{read_of, reads_after, front_after}
use Rattle.ring_state.specs.Plain.{MemberView, process_of, read_address, reads_with, still_asked, member_after, after_word}
use Rattle.ring_worlds.proofs.lemmas.Outcomes.{begins_from, begins_at, checks, slots, swaps, turns}

-- the value answers a read of this stage
pub record IsAnswer (stage : Stage) (value : ℕ) : Type 0 where
  pub addr : ℕ
  pub asked : read_address stage ≡ Some addr
  pub read : read_of stage ≡ record { addr = addr; value = value } ∷ []

pub record FitsRead (stage : Stage) (o : Outcome) : Type 0 where
  pub going : o.progress ≡ answer.Going → read_address o.caller.stage ≡ read_address stage
  pub value : (value : ℕ) → o.progress ≡ answer.Value value → IsAnswer stage value

still_fits : (stage : Stage) (o : Outcome) → o.progress ≡ answer.Going → read_address o.caller.stage ≡ read_address stage → FitsRead stage o
still_fits stage o goes same = record { going = λ _. same; value = λ value is. absurd cc }

-- the request is over, with no value
abbrev IsOver : Progress → Type 0
IsOver answer.Going = ⊥
IsOver (answer.Value value) = ⊥
IsOver _ = Unit {0}

over_fits : (stage : Stage) (o : Outcome) → IsOver o.progress → FitsRead stage o
over_fits stage o over = record { going = λ is. absurd (subst IsOver is over); value = λ value is. absurd (subst IsOver is over) }

value_fits : (addr value : ℕ) (stage : CheckStage) (o : Outcome) → o.progress ≡ answer.Value value → FitsRead (Check (Read addr value) stage) o
value_fits addr value stage o answers = record {
  going = λ is. absurd cc;
  value = λ other is.
      let same : value ≡ other = cc in
      record { addr = addr; asked = refl; read = ap (λ (v : ℕ). record { addr = addr; value = v } ∷ []) same };
}

-- the stage of a check doesn't matter
same_read : (purpose : Purpose) (stage other : CheckStage) → read_address (Check purpose stage) ≡ read_address (Check purpose other)
same_read (Read addr value) stage other = refl
same_read Stamp stage other = refl

module _ (shape : Shape) (c : Caller) where
  checked_fits : (purpose : Purpose) (stage : CheckStage) (walk : Walk) → FitsRead (Check purpose stage) (checked c purpose walk)
  checked_fits (Read addr value) stage walk = value_fits addr value stage _ refl
  checked_fits Stamp stage walk = still_fits _ _ refl refl

  fits : (stage : Stage) (word : ℕ) → stage ≡ c.stage → FitsRead stage (outcome_at shape c stage word)
  fits Closed word is = still_fits _ _ refl (ap read_address (sym is))
  fits BeginIndex index is = begins_from shape c (FitsRead BeginIndex) (λ top at. still_fits _ _ refl refl) (λ start. over_fits _ _ tt) index index
  fits (BeginTag top at) tag is = begins_at shape c (FitsRead (BeginTag top at)) (λ top at. still_fits _ _ refl refl) (λ start. over_fits _ _ tt) top at tag
  fits (ReadHeap addr) value is = still_fits _ _ refl refl
  fits (Check purpose stage) word is =
      checks shape c (FitsRead (Check purpose stage)) purpose (λ loaded next. still_fits _ _ refl (same_read purpose next stage)) (checked_fits purpose stage)
      (λ stop. over_fits _ _ tt) (λ index. over_fits _ _ tt) (λ stamp entry tag. over_fits _ _ tt) stage word
  fits (StampSlot top) tag is = slots shape c (FitsRead (StampSlot top)) top tag (λ entry. over_fits _ _ tt) (still_fits _ _ refl refl)
  fits (StampSwap top) found is = swaps shape c (FitsRead (StampSwap top)) top found (λ won. over_fits _ _ tt) (λ lost. over_fits _ _ tt)
  fits (Turn stage) word is =
      turns shape c (FitsRead (Turn stage)) (λ loaded next. still_fits _ _ refl refl) (λ next entry tag. over_fits _ _ tt) stage word (λ last. over_fits _ _ tt)
  fits (Between stage) word is = still_fits _ _ refl (ap read_address (sym is))

-- no read is open where no request is
pub closed_reads : (stage : Stage) → is_open stage ≡ false → read_address stage ≡ None
closed_reads Closed closed = refl
closed_reads BeginIndex closed = refl
closed_reads (BeginTag top at) closed = refl
closed_reads (ReadHeap addr) closed = absurd cc
closed_reads (Check purpose stage) closed = absurd cc
closed_reads (StampSlot top) closed = refl
closed_reads (StampSwap top) closed = refl
closed_reads (Turn stage) closed = refl
closed_reads (Between stage) closed = refl

-- the reads after an answer
pub reads_agree : (stage : Stage) (reads : List Word) (progress : Progress) → ((value : ℕ) → progress ≡ answer.Value value → IsAnswer stage value)
    → reads_with (read_address stage) reads progress ≡ reads_after stage reads progress
reads_agree stage reads (answer.Value value) answers =
    let is = answers value refl in
    ap (λ asked. reads_with asked reads (answer.Value value)) is.asked ∙ ap (λ read. reads ++ read) (sym is.read)
reads_agree stage reads _ answers = refl

-- ---- a caller as it is stored
pub fits_after : (shape : Shape) (c d : Caller) (word : ℕ) (progress : Progress) → made d progress ≡ absorbed shape c word → FitsRead c.stage (made d progress)
fits_after shape c d word progress e = subst (FitsRead c.stage) (sym e) (fits shape c c.stage word refl)

pub asked_after : (asked : Option ℕ) (stage : Stage) (d : Caller) (progress : Progress) → FitsRead stage (made d progress) → asked ≡ read_address stage
    → (progress ≢ answer.Going → is_open d.stage ≡ false) → still_asked asked progress ≡ read_address d.stage
asked_after asked stage d answer.Going fit e closed = e ∙ sym (fit.going refl)
asked_after asked stage d _ fit e closed = sym (closed_reads d.stage (closed (λ g. cc)))

pub view_after : (m : MemberView) (local : Machine) (progress : Progress) (front : ℕ) (reads : List Word) (word : ℕ) → local.shape ≡ m.machine.shape
    → made local.caller progress ≡ absorbed m.machine.shape m.machine.caller word → front ≡ front_after (process_of m) progress
    → reads ≡ reads_with (read_address m.machine.caller.stage) m.reads progress
    → record { machine = local; front = front; reads = reads } ≡ after_word m word
view_after m local progress front reads word shape e fronts noted =
    let fit = fits_after m.machine.shape m.machine.caller local.caller word progress e in
    let machine : local ≡ with_caller m.machine local.caller = ap (λ (s : Shape). record { shape = s; caller = local.caller }) shape in
    let joined : reads ≡ reads_after m.machine.caller.stage m.reads progress = noted ∙ reads_agree m.machine.caller.stage m.reads progress fit.value in
    let base : record { machine = local; front = front; reads = reads } ≡ member_after m (made local.caller progress) = cc in
    base ∙ ap (member_after m) e
