-- The words of the table after a store.
use Rattle.std.proofs.Common.{◌≡◌, ℕ, suc, ◌+◌, ◌*◌, ◌-◌, ◌<◌, ◌≤◌, ◌++◌, ◌∷◌, length, set, sym, ◌∙◌, ap, subst, arith}
use Rattle.std.proofs.lemmas.List.{set-append_left, set-append_right}
use Rattle.ring_core.specs.declared.action.Action.{Action}
use Rattle.ring_core.specs.declared.action.Action.TheVariants as action
use Rattle.ring_core.specs.declared.kind.Kind.{Kind}
use Rattle.ring_core.specs.declared.kind.Kind.TheVariants as kind
use Rattle.ring_core.specs.Request.{next_action}
use Rattle.ring_worlds.specs.declared.process.Process.{Process}
use Rattle.ring_worlds.specs.World.{World, moved_on, with_process}
use Rattle.ring_worlds.specs.Sound.{Sound}
use Rattle.ring_worlds.specs.Steps.{StepsTo}
use Rattle.ring_worlds.specs.Table.{words_of}
use Rattle.ring_words.specs.Layout.{index_at, IsInside}
use Rattle.ring_words.specs.Stores.{IsStore, word_stored}

-- a world whose word was stored, and whose caller became `new`
abbrev pub with_store : World → ℕ → Process → Action → World
with_store w who new (action.StoreTag slot tag) = record w { tags = set w.tags slot tag; processes = set w.processes who new }
with_store w who new (action.StoreSig slot word value) = record w {
  sigs = set w.sigs (slot * w.shape.sig_words + word) value;
  processes = set w.processes who new;
}
with_store w who new (action.StoreHeap addr value) = record w { heap = set w.heap addr value; processes = set w.processes who new }
with_store w who new _ = with_process w who new

-- a store leads there
pub store_leads : (w : World) (who : ℕ) (p : Process) (kind : Kind) (next : World) → StepsTo w who p kind next → IsStore (next_action w.shape p.caller)
    → next ≡ with_store w who (moved_on w.shape w.opening w.history p 0) (next_action w.shape p.caller)
store_leads w who p kind.LoadIndex next (acts, is) l = absurd (subst IsStore acts l)
store_leads w who p kind.LoadTag next (slot, (acts, is)) l = absurd (subst IsStore acts l)
store_leads w who p kind.LoadSig next (slot, word, (acts, is)) l = absurd (subst IsStore acts l)
store_leads w who p kind.LoadHeap next (addr, (acts, is)) l = absurd (subst IsStore acts l)
store_leads w who p kind.SwapIndex next (from, acts, is) l = absurd (subst IsStore acts l)
store_leads w who p kind.StoreTagFilling next (slot, tag, acts, is) l =
    is ∙ ap (with_store w who (moved_on w.shape w.opening w.history p 0)) (sym acts)
store_leads w who p kind.StoreSig next (slot, word, value, acts, is) l =
    is ∙ ap (with_store w who (moved_on w.shape w.opening w.history p 0)) (sym acts)
store_leads w who p kind.StoreTagWriting next (slot, tag, acts, is) l =
    is ∙ ap (with_store w who (moved_on w.shape w.opening w.history p 0)) (sym acts)
store_leads w who p kind.StoreHeap next (addr, value, acts, is) l =
    is ∙ ap (with_store w who (moved_on w.shape w.opening w.history p 0)) (sym acts)
store_leads w who p kind.StoreTagComplete next (slot, tag, acts, is) l =
    is ∙ ap (with_store w who (moved_on w.shape w.opening w.history p 0)) (sym acts)

-- ---- its words
module _ (w : World) (s : Sound w) where
  set_behind : (n value : ℕ) → set (words_of w) (1 + w.shape.ring + n) value ≡ w.index ∷ (w.tags ++ set (w.sigs ++ w.heap) n value)
  set_behind n value =
      let at : 1 + w.shape.ring + n ≡ suc (w.shape.ring + n) = omega arith in
      let past : w.shape.ring ≤ w.shape.ring + n = omega arith in
      let back : w.shape.ring + n - w.shape.ring ≡ n = omega arith in
      ap (λ i. set (words_of w) i value) at
      ∙ ap (λ l. w.index ∷ l) (set-append_right w.tags (w.sigs ++ w.heap) w.shape.ring (w.shape.ring + n) value s.board.slots past
      ∙ ap (λ i. w.tags ++ set (w.sigs ++ w.heap) i value) back)

  pub words_after : (who : ℕ) (new : Process) (a : Action) → IsStore a → IsInside w.shape a
      → set (words_of w) (index_at w.shape a) (word_stored a) ≡ words_of (with_store w who new a)
  words_after who new (action.StoreTag slot tag) store inside =
      let at : 1 + slot ≡ suc slot = omega arith in
      let below : slot < length w.tags = omega (arith, inside, s.board.slots) in
      ap (λ i. set (words_of w) i tag) at ∙ ap (λ l. w.index ∷ l) (set-append_left w.tags (w.sigs ++ w.heap) slot tag below)
  words_after who new (action.StoreSig slot word value) store inside =
      let n : ℕ = slot * w.shape.sig_words + word in
      let below : n < length w.sigs = subst (λ m. n < m) (sym s.board.words) inside in
      set_behind n value ∙ ap (λ l. w.index ∷ (w.tags ++ l)) (set-append_left w.sigs w.heap n value below)
  words_after who new (action.StoreHeap addr value) store inside =
      let rows : ℕ = w.shape.ring * w.shape.sig_words in
      let at : 1 + w.shape.ring + rows + addr ≡ 1 + w.shape.ring + (rows + addr) = omega arith in
      let past : rows ≤ rows + addr = omega arith in
      let back : rows + addr - rows ≡ addr = omega arith in
      ap (λ i. set (words_of w) i value) at ∙ set_behind (rows + addr) value
      ∙ ap (λ l. w.index ∷ (w.tags ++ l)) (set-append_right w.sigs w.heap rows (rows + addr) value s.board.words past
      ∙ ap (λ i. w.sigs ++ set w.heap i value) back)
  words_after who new action.LoadIndex store inside = absurd store
  words_after who new (action.LoadTag slot) store inside = absurd store
  words_after who new (action.LoadSig slot word) store inside = absurd store
  words_after who new (action.LoadHeap addr) store inside = absurd store
  words_after who new (action.SwapIndex from) store inside = absurd store
  words_after who new action.Idle store inside = absurd store
