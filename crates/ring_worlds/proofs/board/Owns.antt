-- What a stamped caller knows of its slot, after its own steps and those of others.
use native.Mathlib.Decide.{ℕ_discrete}
use Rattle.std.proofs.Common.{◌≡◌, ◌≢◌, ℕ, ◌+◌, ◌-◌, ◌*◌, ◌/◌, ◌%◌, ◌<◌, ◌≤◌, ◌==◌, nat_lt, nat_le, List, length, take, set, slice_index, refl, sym, ◌∙◌, ap, arith, mod-lt, get_or-set_same, get_or-set_other}
use Rattle.std.proofs.lemmas.Bool.{cond_both, eqb-true}
use Rattle.std.proofs.lemmas.Bool.Decides.{nat_tests}
use Rattle.std.proofs.lemmas.Nat.{div-mul-add, mul-le}
use Rattle.tx_model.specs.declared.gate.Region.{Region}
use Rattle.ring_sig.specs.Signature.{meets}
use Rattle.ring_core.specs.declared.shape.Shape.{Shape}
use Rattle.ring_core.specs.declared.stage.Stage.{Stage}
use Rattle.ring_core.specs.declared.stage.Stage.TheVariants.{Turn, Between}
use Rattle.ring_core.specs.declared.stage.TurnStage.{TurnStage}
use Rattle.ring_core.specs.declared.stage.TurnStage.TheVariants.{Filling, Signature, Writing, Earlier, EarlierWords, EarlierAgain, Heap, Before, Complete}
use Rattle.ring_core.specs.Outcomes.{Outcome, below, earlier_from, turn_after}
use Rattle.ring_worlds.specs.declared.process.Process.{Process}
use Rattle.ring_worlds.specs.World.{Board, tag_of, sig_word, process_after}
use Rattle.ring_worlds.specs.Board.{IsBoard}
use Rattle.ring_worlds.specs.Own.{HasStored, TagFits, IsOwn, IsOwnAt, with_tag, with_word, completed}
use Rattle.ring_worlds.proofs.reads.Stages.{is_complete}
use Rattle.ring_core.specs.Shape.{IsShape}

-- ---- steps in a turn
module _ (shape : Shape) (good : IsShape shape) (opening : List ℕ) (regions : List Region) (b : Board) (ok : IsBoard shape opening regions b) (p : Process)
  where
    -- a stage at which the tag is `writing`
    abbrev pub IsAtHeap : TurnStage → Type 0
    IsAtHeap Filling = ⊥
    IsAtHeap (Signature j) = ⊥
    IsAtHeap Writing = ⊥
    IsAtHeap Complete = ⊥
    IsAtHeap _ = Unit {0}

    abbrev Owns : Stage → Outcome → Type 0
    Owns stage o = IsOwnAt shape b (process_after opening b.history p stage o) o.caller.stage

    module _ (stage : TurnStage) (own : IsOwn shape b p stage) (tag : tag_of shape b p.caller.stamp ≡ 4 * p.caller.stamp + 2) where
      -- the caller at another stage with the same tag
      still : (next : TurnStage) (loaded : List ℕ) → TagFits shape b p.caller.stamp p.caller.write_sig next
          → IsOwn shape b ((record p { caller = record p.caller { loaded = loaded; stage = Turn next } })) next
      still next loaded fits = record { newer = own.newer; there = own.there; tag = fits }

      earlier_owns : (stage : Stage) (loaded : List ℕ) (at : ℕ)
          → IsOwnAt shape b (record {
            caller = (earlier_from (record p.caller { loaded = loaded }) at).caller;
            front = p.front;
            reads = p.reads;
            sealed = p.sealed;
            published = p.published;
            owned = p.owned;
          }) (earlier_from (record p.caller { loaded = loaded }) at).caller.stage
      earlier_owns stage loaded at =
          cond_both (nat_lt p.caller.start at) (Earlier at) (Heap 0)
          (λ next. IsOwn shape b ((record p { caller = record p.caller { loaded = loaded; stage = Turn next } })) next)
          (λ more. still (Earlier at) loaded tag) (λ end. still (Heap 0) loaded tag)

      waits_owns : (next : TurnStage) → TagFits shape b p.caller.stamp p.caller.write_sig next
          → IsOwn shape b ((record p { caller = record p.caller { stage = Between next } })) next
      waits_owns next fits = record { newer = own.newer; there = own.there; tag = fits }

      -- the last one before is complete, so this one is next
      next_one : 1 ≤ p.caller.stamp → p.caller.stamp - 1 ≤ b.complete → b.complete + 1 ≡ p.caller.stamp
      next_one first early = omega (arith, first, early, own.newer)

    -- the loads of a turn, and the stores of the heap
    pub turn_owns : (stage : TurnStage) (word : ℕ) → IsAtHeap stage → (own : IsOwn shape b p stage) → 1 ≤ length p.caller.writes
        → ((at : ℕ) → stage ≡ Before → word ≡ tag_of shape b (p.caller.stamp - 1)) → p.caller.stamp ≤ length b.history →
        IsOwnAt shape b (process_after opening b.history p (Turn stage) (turn_after shape p.caller stage word))
        (turn_after shape p.caller stage word).caller.stage × ((turn_after shape p.caller stage word).caller.stamp ≡ p.caller.stamp)
    turn_owns Filling word at own some found within = absurd at
    turn_owns (Signature j) word at own some found within = absurd at
    turn_owns Writing word at own some found within = absurd at
    turn_owns Complete word at own some found within = absurd at
    turn_owns (Earlier entry) word at own some found within =
        cond_both (nat_le (4 * entry + 3) word) _ _ (λ (o : Outcome). IsOwnAt shape b (process_after opening b.history p (Turn (Earlier entry)) o)
        o.caller.stage × (o.caller.stamp ≡ p.caller.stamp))
        (λ done. (let e = earlier_owns (Earlier entry) own own.tag (Turn (Earlier entry)) p.caller.loaded (entry - 1) in (e, refl)))
        (λ more. (still (Earlier entry) own own.tag (EarlierWords entry 0) p.caller.loaded own.tag, refl))
    turn_owns (EarlierWords entry j) word at own some found within =
        cond_both (nat_lt (j + 1) shape.sig_words) _ _ (λ (o : Outcome). IsOwnAt shape b (process_after opening b.history p (Turn (EarlierWords entry j)) o)
        o.caller.stage × (o.caller.stamp ≡ p.caller.stamp))
        (λ more. (still (EarlierWords entry j) own own.tag (EarlierWords entry (j + 1)) (set p.caller.loaded j word) own.tag, refl))
        (λ all. cond_both (meets (take shape.sig_words (set p.caller.loaded j word)) p.caller.write_sig) _ _
        (λ (o : Outcome). IsOwnAt shape b (process_after opening b.history p (Turn (EarlierWords entry j)) o) o.caller.stage
        × (o.caller.stamp ≡ p.caller.stamp))
        (λ met. (still (EarlierWords entry j) own own.tag (EarlierAgain entry) (set p.caller.loaded j word) own.tag, refl))
        (λ apart. (let e = earlier_owns (EarlierWords entry j) own own.tag (Turn (EarlierWords entry j)) (set p.caller.loaded j word) (entry - 1) in
        (e, refl))))
    turn_owns (EarlierAgain entry) word at own some found within =
        cond_both (nat_le (4 * entry + 3) word) _ _ (λ (o : Outcome). IsOwnAt shape b (process_after opening b.history p (Turn (EarlierAgain entry)) o)
        o.caller.stage × (o.caller.stamp ≡ p.caller.stamp))
        (λ done. (let e = earlier_owns (EarlierAgain entry) own own.tag (Turn (EarlierAgain entry)) p.caller.loaded (entry - 1) in (e, refl)))
        (λ not_yet. (waits_owns (EarlierAgain entry) own own.tag (EarlierAgain entry) own.tag, refl))
    turn_owns (Heap index) word at own some found within =
        cond_both (nat_lt (index + 1) (length p.caller.writes)) _ _
        (λ next. IsOwn shape b ((record p { caller = record p.caller { stage = Turn next } })) next × (p.caller.stamp ≡ p.caller.stamp))
        (λ more. (still (Heap index) own own.tag (Heap (index + 1)) p.caller.loaded own.tag, refl))
        (λ all. cond_both (p.caller.stamp == 1) _ _ (λ next. IsOwn shape b ((record p { caller = record p.caller { stage = Turn next } })) next
        × (p.caller.stamp ≡ p.caller.stamp))
        (λ first. (
          still (Heap index) own own.tag Complete p.caller.loaded
              (own.tag, next_one (Heap index) own own.tag (let e = eqb-true _ _ first in omega (arith, e)) (let e = eqb-true _ _ first in omega (arith, e))),
          refl,
        ))
        (λ later. (still (Heap index) own own.tag Before p.caller.loaded own.tag, refl)))
    turn_owns Before word at own some found within =
        cond_both (nat_le (4 * (p.caller.stamp - 1) + 3) word) _ _
        (λ (o : Outcome). IsOwnAt shape b (process_after opening b.history p (Turn Before) o) o.caller.stage × (o.caller.stamp ≡ p.caller.stamp))
        (λ done. (
          still Before own own.tag Complete p.caller.loaded (
            own.tag,
            next_one Before own own.tag (omega (arith, own.newer))
                (is_complete shape good opening regions b ok (p.caller.stamp - 1) (omega (arith, within))
                (let f = found 0 refl in grind (arith, nat_tests, done, f))),
          ),
          refl,
        ))
        (λ not_yet. (waits_owns Before own own.tag Before own.tag, refl))

-- ---- the others
module _ (shape : Shape) (some_entry : 1 ≤ shape.ring) (b : Board) (q : Process) (n : ℕ) (apart : q.caller.stamp % shape.ring ≢ n % shape.ring) where
  same_tag : (tag : ℕ) → tag_of shape (with_tag shape b n tag) q.caller.stamp ≡ tag_of shape b q.caller.stamp
  same_tag tag = get_or-set_other b.tags (n % shape.ring) (q.caller.stamp % shape.ring) tag 0 apart

  fits_tag : (stage : TurnStage) (tag : ℕ) → TagFits shape b q.caller.stamp q.caller.write_sig stage
      → TagFits shape (with_tag shape b n tag) q.caller.stamp q.caller.write_sig stage
  fits_tag Filling tag f = let t = same_tag tag in omega (arith, t, f)
  fits_tag (Signature j) tag f = (same_tag tag ∙ f.0, f.1)
  fits_tag Writing tag f = (same_tag tag ∙ f.0, f.1)
  fits_tag (Earlier at) tag f = same_tag tag ∙ f
  fits_tag (EarlierWords at j) tag f = same_tag tag ∙ f
  fits_tag (EarlierAgain at) tag f = same_tag tag ∙ f
  fits_tag (Heap index) tag f = same_tag tag ∙ f
  fits_tag Before tag f = same_tag tag ∙ f
  fits_tag Complete tag f = (same_tag tag ∙ f.0, f.1)

  pub own_tag : (stage : TurnStage) (tag : ℕ) → IsOwn shape b q stage → IsOwn shape (with_tag shape b n tag) q stage
  own_tag stage tag own = record { newer = own.newer; there = own.there; tag = fits_tag stage tag own.tag }

  pub own_word : (stage : TurnStage) (word value : ℕ) → word < shape.sig_words → ((j : ℕ) → stage ≡ Signature j → j ≤ shape.sig_words)
      → IsOwn shape b q stage → IsOwn shape (with_word shape b n word value) q stage
  own_word stage word value small limit own = record { newer = own.newer; there = own.there; tag = fits stage limit own.tag }
    where
      elsewhere : (s t k j : ℕ) → k < shape.sig_words → j < shape.sig_words → s ≢ t → s * shape.sig_words + k ≢ t * shape.sig_words + j
      elsewhere s t k j below below' other e = other (sym (div-mul-add s shape.sig_words k below) ∙ ap (λ m. m / shape.sig_words) e
          ∙ div-mul-add t shape.sig_words j below')

      same : (k : ℕ) → k < shape.sig_words
          → sig_word shape (with_word shape b n word value) (q.caller.stamp % shape.ring) k ≡ sig_word shape b (q.caller.stamp % shape.ring) k
      same k below = get_or-set_other b.sigs (n % shape.ring * shape.sig_words + word) (q.caller.stamp % shape.ring * shape.sig_words + k) value 0
          (elsewhere (q.caller.stamp % shape.ring) (n % shape.ring) k word below small apart)

      stored : (count : ℕ) → count ≤ shape.sig_words → HasStored shape b q.caller.stamp q.caller.write_sig count
          → HasStored shape (with_word shape b n word value) q.caller.stamp q.caller.write_sig count
      stored count most had k below = same k (omega (arith, below, most)) ∙ had k below

      fits : (p : TurnStage) → ((j : ℕ) → p ≡ Signature j → j ≤ shape.sig_words) → TagFits shape b q.caller.stamp q.caller.write_sig p
          → TagFits shape (with_word shape b n word value) q.caller.stamp q.caller.write_sig p
      fits Filling most f = f
      fits (Signature j) most f = (f.0, stored j (most j refl) f.1)
      fits Writing most f = (f.0, stored shape.sig_words (omega arith) f.1)
      fits (Earlier at) most f = f
      fits (EarlierWords at j) most f = f
      fits (EarlierAgain at) most f = f
      fits (Heap index) most f = f
      fits Before most f = f
      fits Complete most f = f

  -- the entry that completes is another one
  pub own_completed : (stage : TurnStage) → n ≡ b.complete + 1 → q.caller.stamp ≢ n → (stage ≡ Complete → ⊥) → IsOwn shape b q stage
      → IsOwn shape (completed shape b n) q stage
  own_completed stage next other not_last own = record { newer = omega (arith, own.newer, next, other); there = own.there; tag = fits stage not_last own.tag }
    where
      fits : (p : TurnStage) → (p ≡ Complete → ⊥) → TagFits shape b q.caller.stamp q.caller.write_sig p
          → TagFits shape (completed shape b n) q.caller.stamp q.caller.write_sig p
      fits Filling most f = let t = same_tag (4 * n + 3) in omega (arith, t, f)
      fits (Signature j) most f = (same_tag (4 * n + 3) ∙ f.0, f.1)
      fits Writing most f = (same_tag (4 * n + 3) ∙ f.0, f.1)
      fits (Earlier at) most f = same_tag (4 * n + 3) ∙ f
      fits (EarlierWords at j) most f = same_tag (4 * n + 3) ∙ f
      fits (EarlierAgain at) most f = same_tag (4 * n + 3) ∙ f
      fits (Heap index) most f = same_tag (4 * n + 3) ∙ f
      fits Before most f = same_tag (4 * n + 3) ∙ f
      fits Complete most f = absurd (most refl)

-- ---- after its own stores
module _ (shape : Shape) (good : IsShape shape) (opening : List ℕ) (regions : List Region) (b : Board) (ok : IsBoard shape opening regions b) (p : Process)
  where
    pub slot_inside : p.caller.stamp % shape.ring < length b.tags
    slot_inside = let m : p.caller.stamp % shape.ring < shape.ring = mod-lt p.caller.stamp (let s = good.some_entry in omega (arith, s)) in
        omega (arith, m, ok.slots)

    pub own_slot : (tag : ℕ) → tag_of shape (with_tag shape b p.caller.stamp tag) p.caller.stamp ≡ tag
    own_slot tag = get_or-set_same b.tags (p.caller.stamp % shape.ring) tag 0 slot_inside

    pub after_filling : IsOwn shape b p Filling
        → IsOwn shape (with_tag shape b p.caller.stamp (4 * p.caller.stamp + 1)) ((record p { caller = record p.caller { stage = Turn (Signature 0) } }))
        (Signature 0)
    after_filling own = record {
      newer = own.newer;
      there = own.there;
      tag = (own_slot (4 * p.caller.stamp + 1), λ word below. absurd (let none : word < 0 = below in omega (arith, none)));
    }

    -- one more word is stored
    pub one_more : (j : ℕ) → j < shape.sig_words → HasStored shape b p.caller.stamp p.caller.write_sig j
        → HasStored shape (with_word shape b p.caller.stamp j (slice_index p.caller.write_sig j)) p.caller.stamp p.caller.write_sig (j + 1)
    one_more j small had k below =
        elim (ℕ_discrete k j) [
          | yes same ↦
              let inside : p.caller.stamp % shape.ring < shape.ring = mod-lt p.caller.stamp (let s = good.some_entry in omega (arith, s)) in
              let room : p.caller.stamp % shape.ring * shape.sig_words + shape.sig_words ≤ shape.ring * shape.sig_words = let r =
              mul-le (p.caller.stamp % shape.ring + 1) shape.sig_words shape.ring shape.sig_words (omega (arith, inside)) (omega arith) in omega (arith, r) in
              ap (sig_word shape (with_word shape b p.caller.stamp j (slice_index p.caller.write_sig j)) (p.caller.stamp % shape.ring)) same
              ∙ get_or-set_same b.sigs (p.caller.stamp % shape.ring * shape.sig_words + j) (slice_index p.caller.write_sig j) 0
              (omega (arith, small, room, ok.words))
              ∙ ap (slice_index p.caller.write_sig) (sym same)
          | no other ↦ get_or-set_other b.sigs (p.caller.stamp % shape.ring * shape.sig_words + j) (p.caller.stamp % shape.ring * shape.sig_words + k)
              (slice_index p.caller.write_sig j) 0 (λ e. other (omega (arith, e))) ∙ had k (omega (arith, below, other))
        ]
