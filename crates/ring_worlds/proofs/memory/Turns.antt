-- The steps of a turn but the stores of the heap and the last one: the tags, and the walk past the earlier entries.
use Rattle.std.proofs.Common.{◌≡◌, ◌⊎◌, ℕ, ◌+◌, ◌-◌, ◌*◌, ◌<◌, ◌≤◌, nat_lt, nat_le, false, List, length, take, set, slice_get, Some, refl, sym, ◌∙◌, ap, subst, arith, inl, inr, length-set}
use Rattle.std.proofs.lemmas.Bool.{cond_both, leb-true, ltb-false, false≢true}
use Rattle.std.proofs.lemmas.List.{length-take-le}
use Rattle.tx_model.specs.declared.history.Commit.{Commit}
use Rattle.tx_model.specs.declared.pass.PassState.TheVariants as state
use Rattle.tx_model.specs.Words.{addresses, word_at}
use Rattle.tx_model.specs.declared.word.Word.{Word}
use Rattle.ring_sig.specs.Signature.{IsSignatureOf, Meet, meets}
use Rattle.ring_sig.specs.Laws.{SignaturesMeet}
use Rattle.ring_sig.proofs.Lemmas.{words_at_most}
use Rattle.ring_core.specs.declared.shape.Shape.{Shape}
use Rattle.ring_core.specs.declared.caller.Caller.{Caller}
use Rattle.ring_core.specs.declared.stage.Stage.TheVariants.{Turn}
use Rattle.ring_core.specs.declared.stage.TurnStage.{TurnStage}
use Rattle.ring_core.specs.declared.stage.TurnStage.TheVariants.{Filling, Signature, Writing, Earlier, EarlierWords, EarlierAgain, Heap, Before, Complete}
use Rattle.ring_core.specs.Shape.{IsShape}
use Rattle.ring_core.specs.Sound as core
use Rattle.ring_core.specs.Outcomes.{Outcome, goes, earlier_from, turn_after, compared}
use Rattle.ring_worlds.specs.declared.process.Process.{Process}
use Rattle.ring_worlds.proofs.memory.Needs.{TurnKeeps, Stores}
use Rattle.ring_worlds.specs.World.{moved_at, moved_on, owned_after}
use Rattle.ring_worlds.specs.Stored.{stored_in, stored_at, IsClearOf}
use Rattle.ring_worlds.specs.Memory.{IsOwned, IsMemory, IsWriting, HasCleared, HasClearedIn, Cleared, Told}
use Rattle.ring_worlds.proofs.memory.Moves.{kept, cleared_from, cleared_more, none_yet}

module _ (shape : Shape) (good : IsShape shape) (complete : ℕ) (history : List Commit) (counts : List ℕ) where
  abbrev Writes : Caller → Outcome → Type 0
  Writes c outcome = IsWriting shape complete history counts outcome.caller × (outcome.caller.writes ≡ c.writes) × (outcome.caller.stamp ≡ c.stamp)

  abbrev Has : Caller → ℕ → Type 0
  Has c count = c.state ≡ state.Stamped → slice_get counts (c.stamp - 1) ≡ Some count

  -- the walk goes on at an entry, or is over
  walks : (c : Caller) → c.start ≤ complete → Has c 0 → (at : ℕ) → Cleared shape complete history c at → Writes c (earlier_from c at)
  walks c behind none at cleared = (
    record {
      counted = λ e. none e ∙ ap (λ (k : ℕ). Some k) (sym (none_yet c at));
      cleared = cleared_from shape complete history c behind at cleared;
    },
    refl,
    refl,
  )

  -- its entry is complete
  passes : (c : Caller) → c.start ≤ complete → Has c 0 → (at : ℕ) → c.start < at → Cleared shape complete history c at → at ≤ complete
      → Writes c (earlier_from c (at - 1))
  passes c behind none at after cleared early =
      walks c behind none (at - 1) (cleared_more shape complete history c behind at (omega (arith, after)) cleared
      (λ commit there. inl (omega (arith, early, after))))

  -- its signature is loaded
  compares : SignaturesMeet → (c : Caller) → c.start ≤ complete → Has c 0 → (at : ℕ) → c.start < at → Cleared shape complete history c at
      → IsSignatureOf (addresses c.writes) c.write_sig → length c.write_sig ≡ shape.sig_words → length c.loaded ≡ 16
      → (at ≤ complete) ⊎ ((commit : Commit) → slice_get history (at - 1) ≡ Some commit
      → IsSignatureOf (addresses commit.writes) (take shape.sig_words c.loaded))
      → Writes c (compared shape c at)
  compares law c behind none at after cleared signed long sixteen told =
      cond_both (meets (take shape.sig_words c.loaded) c.write_sig) _ _ (Writes c)
      (λ yes. (record { counted = none; cleared = cleared }, refl, refl))
      (λ not. walks c behind none (at - 1) (cleared_more shape complete history c behind at (omega (arith, after)) cleared (apart not)))
    where
      loaded_length : length (take shape.sig_words c.loaded) ≡ shape.sig_words
      loaded_length = length-take-le shape.sig_words c.loaded (let most = words_at_most shape.sig_words good.words in omega (arith, most.1, sixteen))

      apart : meets (take shape.sig_words c.loaded) c.write_sig ≡ false → (commit : Commit) → slice_get history (at - 1) ≡ Some commit
          → (at - 1 < complete) ⊎ IsClearOf (64 * shape.sig_words) commit (addresses c.writes)
      apart not commit there =
          elim told [
            | inl early ↦ inl (omega (arith, early, after))
            | inr words ↦ inr (λ meet.
                let yes = (law (addresses commit.writes) (addresses c.writes) (take shape.sig_words c.loaded) c.write_sig (words commit there) signed
                (loaded_length ∙ sym long)).1
                (subst (λ n. Meet (64 * n) (addresses commit.writes) (addresses c.writes)) (sym loaded_length) meet) in
                false≢true (sym not ∙ yes))
          ]

  module _ (law : SignaturesMeet) (c : Caller) (behind : c.start ≤ complete) (signed : IsSignatureOf (addresses c.writes) c.write_sig)
      (sized : core.IsSized shape c.start c.read_sig c.writes c.write_sig c.loaded) (stamped : core.IsStamped shape c.state c.writes c.start c.stamp) where
    goes_to : (stage : TurnStage) → Has c (stored_in c stage) → HasClearedIn shape complete history c stage → Writes c (goes c (Turn stage))
    goes_to stage has cleared = (record { counted = has; cleared = cleared }, refl, refl)

    pub turns : (stage : TurnStage) (word : ℕ) → Stores stage → core.IsTurnStage shape c stage → Has c (stored_in c stage)
        → HasClearedIn shape complete history c stage → Told shape complete history c stage word → Writes c (turn_after shape c stage word)
    turns Filling word stores fits has cleared told = goes_to (Signature 0) has tt
    turns (Signature j) word stores fits has cleared told =
        cond_both (nat_lt (j + 1) shape.sig_words) _ _ (λ stage. Writes c (goes c (Turn stage))) (λ yes. goes_to (Signature (j + 1)) has tt)
        (λ not. goes_to Writing has tt)
    turns Writing word stores fits has cleared told = walks c behind has (c.stamp - 1) (λ k commit from before there. absurd (omega (arith, from, before)))
    turns (Earlier at) tag stores fits has cleared told =
        cond_both (nat_le (4 * at + 3) tag) _ _ (Writes c)
        (λ yes. passes c behind has at fits.0 cleared (told (leb-true _ _ yes)))
        (λ not. goes_to (EarlierWords at 0) has cleared)
    turns (EarlierWords at j) word stores fits has cleared told =
        let c' : Caller = record c { loaded = set c.loaded j word } in
        cond_both (nat_lt (j + 1) shape.sig_words) _ _ (Writes c)
        (λ yes. (record { counted = has; cleared = cleared }, refl, refl))
        (λ not. compares law c' behind has at fits.0.0 cleared signed sized.wrote (length-set c.loaded j word ∙ sized.scratch)
        (told (let last = ltb-false (j + 1) shape.sig_words not in omega (arith, last, fits.1))))
    turns (EarlierAgain at) tag stores fits has cleared told =
        cond_both (nat_le (4 * at + 3) tag) _ _ (Writes c)
        (λ yes. passes c behind has at fits.0 cleared (told (leb-true _ _ yes)))
        (λ not. (record { counted = has; cleared = cleared }, refl, refl))
    turns Before tag stores fits has cleared told =
        cond_both (nat_le (4 * (c.stamp - 1) + 3) tag) _ _ (Writes c)
        (λ yes. goes_to Complete has tt)
        (λ not. (record { counted = has; cleared = tt }, refl, refl))
    turns (Heap at) word stores fits has cleared told = absurd stores
    turns Complete word stores fits has cleared told = absurd stores

-- no such step completes a commit
module _ (shape : Shape) (opening : List ℕ) (history : List Commit) (p : Process) where
  abbrev Keeps : Outcome → Type 0
  Keeps o = owned_after opening history p o.progress ≡ p.owned

  same_owned : (stage : TurnStage) (word : ℕ) → Stores stage → (moved_at shape opening history p (Turn stage) word).owned ≡ p.owned
  same_owned Filling word stores = refl
  same_owned (Signature j) word stores = refl
  same_owned Writing word stores = refl
  same_owned (Earlier at) tag stores = cond_both (nat_le (4 * at + 3) tag) _ _ Keeps (λ yes. refl) (λ not. refl)
  same_owned (EarlierWords at j) word stores =
      cond_both (nat_lt (j + 1) shape.sig_words) _ _ Keeps (λ more. refl)
      (λ all. cond_both (meets (take shape.sig_words (set p.caller.loaded j word)) p.caller.write_sig) _ _ Keeps (λ met. refl) (λ apart. refl))
  same_owned (EarlierAgain at) tag stores = cond_both (nat_le (4 * at + 3) tag) _ _ Keeps (λ yes. refl) (λ not. refl)
  same_owned Before tag stores = cond_both (nat_le (4 * (p.caller.stamp - 1) + 3) tag) _ _ Keeps (λ yes. refl) (λ not. refl)
  same_owned (Heap at) word stores = absurd stores
  same_owned Complete word stores = absurd stores

-- the same of a world, whatever tag or word of a signature the step stored
pub turn_kept : SignaturesMeet → TurnKeeps
turn_kept law shape w complete ring mem who p stage word tags sigs here is stores told =
    let mine = ring.each who p here in
    let machine = mine.machine in
    let at : core.IsStamped shape p.caller.state p.caller.writes p.caller.start p.caller.stamp
    × core.IsTurnStage shape p.caller stage = subst (core.IsStage shape p.caller) is machine.stage in
    let back = mem.writing who p here in
    let has : p.caller.state ≡ state.Stamped → slice_get mem.counts (p.caller.stamp - 1) ≡ Some (stored_in p.caller stage) =
    subst (λ stage. p.caller.state ≡ state.Stamped → slice_get mem.counts (p.caller.stamp - 1) ≡ Some (stored_at p.caller stage)) is back.counted in
    let cleared : HasClearedIn shape complete w.history p.caller stage = subst (HasCleared shape complete w.history p.caller) is back.cleared in
    let q : Process = moved_at shape w.opening w.history p (Turn stage) word in
    let next : moved_on shape w.opening w.history p word ≡ q = ap (λ stage. moved_at shape w.opening w.history p stage word) is in
    let turned = turns shape ring.limits complete w.history mem.counts law p.caller mine.behind mine.signed machine.sized at.0 stage word stores at.1 has
    cleared told in
    let fits : IsWriting shape complete w.history mem.counts q.caller = turned.0 in
    let spare : (j : ℕ) → q.caller.state ≡ state.Stamped → stored_at q.caller q.caller.stage ≤ j → j < length q.caller.writes
    → ¬ IsOwned w.processes (word_at q.caller.writes j).addr =
    λ j stamped from below.
    let same : stored_at p.caller p.caller.stage ≡ stored_at q.caller q.caller.stage =
    (let e = sym (back.counted at.0.stamped) ∙ ap (λ n. slice_get mem.counts (n - 1)) (sym turned.2) ∙ fits.counted stamped in cc) in
    subst (λ (ws : List Word). ¬ IsOwned w.processes (word_at ws j).addr) (sym turned.1)
    (mem.spared who p j here at.0.stamped (omega (arith, same, from)) (subst (λ (ws : List Word). j < length ws) turned.1 below)) in
    subst (λ (r : Process). IsMemory shape complete (record w { tags = tags; sigs = sigs; processes = set w.processes who r })) (sym next)
    (kept shape complete w mem who p q here (same_owned shape w.opening w.history p stage word stores) spare fits w.index tags sigs)
