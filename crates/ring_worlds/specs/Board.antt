-- What always holds of the index, the tags, the signature words and the history.
-- Entry i has the slot i mod ring. It is published where its slot's tag is at least `writing i`, and complete from `complete i` on, also where the slot was
-- filled again.
use Rattle.std.specs.Prelude.{◌≡◌, ◌⊎◌, ℕ, ◌+◌, ◌*◌, ◌%◌, ◌-◌, ◌<◌, ◌≤◌, List, length, Some, slice_get, slice_index}
use Rattle.tx_model.specs.declared.gate.Region.{Region}
use Rattle.tx_model.specs.declared.history.Commit.{Commit}
use Rattle.tx_model.specs.Words.{addresses}
use Rattle.tx_model.specs.History.{IsBeginning, IsLegal}
use Rattle.tx_model.specs.Rule.{FollowsRules}
use Rattle.ring_sig.specs.Signature.{IsSignatureOf}
use Rattle.ring_core.specs.declared.shape.Shape.{Shape}
use Rattle.ring_core.specs.Tags.{filling, writing, complete, entry_of}
use Rattle.ring_worlds.specs.World.{Board, tag_of, slot_words, sig_word}

-- ---- the tag of a slot
-- the tag of an entry of the slot, or 0 where none has filled it yet, which is said as entry 0
abbrev pub IsTagOf : Shape → Board → ℕ → ℕ → Type 0
IsTagOf shape b slot entry =
    ((entry ≡ 0) × (slice_index b.tags slot ≡ 0))
    ⊎ ((1 ≤ entry) × (entry ≤ length b.history) × (entry % shape.ring ≡ slot) × (filling entry ≤ slice_index b.tags slot)
    × (slice_index b.tags slot ≤ complete entry))

-- it is that of the greatest entry. The newest one may not have filled its slot yet, which then has the tag of the entry before it there, complete, or 0
pub record IsNamed (shape : Shape) (b : Board) (slot : ℕ) : Type 0 where
  pub entry : ℕ
  pub tag : IsTagOf shape b slot entry
  pub greatest : (later : ℕ) → entry < later → later ≤ length b.history → later % shape.ring ≡ slot
      → (later ≡ length b.history) × ((slice_index b.tags slot ≡ 0) ⊎ (slice_index b.tags slot ≡ complete entry))

module _ (shape : Shape) (opening : List ℕ) (regions : List Region) where
  pub record IsBoard (b : Board) : Type 0 where
    pub slots : length b.tags ≡ shape.ring
    pub words : length b.sigs ≡ shape.ring * shape.sig_words
    pub lived : length b.history ≤ shape.life
    pub legal : IsLegal opening b.history
    pub rules : FollowsRules opening regions b.history
    pub named : (slot : ℕ) → slot < shape.ring → IsNamed shape b slot
    -- no tag is of an entry past the index
    pub tagged : (slot : ℕ) → slot < shape.ring → slice_index b.tags slot ≤ complete (length b.history)
    -- every entry below the index is published
    pub published : (i : ℕ) → 1 ≤ i → i < length b.history → writing i ≤ tag_of shape b i
    -- exactly the entries 1 to `complete` are complete, and all but the last of the ring are
    pub counted : b.complete ≤ length b.history
    pub near : length b.history ≤ b.complete + shape.ring
    pub done : (i : ℕ) → 1 ≤ i → i ≤ b.complete → complete i ≤ tag_of shape b i
    pub undone : (i : ℕ) → b.complete < i → i ≤ length b.history → tag_of shape b i ≤ writing i
    -- a slot that is writing or complete has the signature of its entry's writes
    pub signed : (i : ℕ) (commit : Commit) → 1 ≤ i → slice_get b.history (i - 1) ≡ Some commit → writing i ≤ tag_of shape b i → tag_of shape b i ≤ complete i
        → IsSignatureOf (addresses commit.writes) (slot_words shape b (i % shape.ring))
    -- a slot whose tag is past an entry is that of a later entry
    pub refilled : (i : ℕ) → 1 ≤ i → i ≤ length b.history → complete i < tag_of shape b i
        → (i + shape.ring ≤ entry_of (tag_of shape b i)) × (entry_of (tag_of shape b i) ≤ length b.history)

-- a later board
pub record IsLater (shape : Shape) (b later : Board) : Type 0 where
  pub history : IsBeginning b.history later.history
  pub complete : b.complete ≤ later.complete
  pub tags : (slot : ℕ) → slot < shape.ring → slice_index b.tags slot ≤ slice_index later.tags slot
  -- a signature word changes only in a slot that is being filled
  pub words : (slot word : ℕ) → slot < shape.ring → word < shape.sig_words
      → (sig_word shape later slot word ≡ sig_word shape b slot word) ⊎ ((n : ℕ) × (slice_index b.tags slot ≡ filling n))
