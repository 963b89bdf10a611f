-- An entry whose signature doesn't meet that of the addresses read leaves these words as they were.
use Rattle.std.proofs.Common.{set, ◌≡◌, ◌≢◌, ◌⊎◌, ℕ, ◌+◌, ◌-◌, ◌*◌, ◌/◌, ◌%◌, ◌<◌, ◌≤◌, Bool, true, false, List, [], ◌∷◌, ◌++◌, length, take, drop, slice_get, slice_index, get_or, Some, Contains, refl, sym, ◌∙◌, ap, subst, arith, inl, inr, mod-lt, get_or-set_same, get_or-set_other}
use native.Mathlib.Decide.{ℕ_discrete}
use Rattle.std.proofs.lemmas.Bool.{cases_lt, both_ways}
use Rattle.std.proofs.lemmas.Nat.{mul-le}
use Rattle.std.proofs.lemmas.List.{length-take, length-drop, get_or-take, get_or-drop, ext_get_or}
use Rattle.tx_model.specs.declared.gate.Region.{Region}
use Rattle.tx_model.specs.declared.word.Word.{Word}
use Rattle.tx_model.specs.declared.history.Commit.{Commit}
use Rattle.tx_model.specs.Words.{addresses}
use Rattle.tx_model.specs.Memory.{Agrees}
use Rattle.tx_model.specs.History.{state_at}
use Rattle.ring_sig.specs.Signature.{IsSignatureOf, meets}
use Rattle.ring_sig.proofs.Lemmas.{common_address, meets_from_shares}
use Rattle.ring_core.specs.declared.shape.Shape.{Shape}
use Rattle.ring_worlds.specs.Reader.{Touches, AreSame, HasWords, IsRuled}
use Rattle.ring_worlds.proofs.board.Guards.{guards}
use Rattle.ring_worlds.specs.World.{Board, slot_words, sig_word}
use Rattle.ring_worlds.specs.Board.{IsBoard}
use Rattle.ring_worlds.proofs.reads.StateFacts.{untouched}

-- sets whose signatures don't meet have no common address
pub no_common : (xs ys s t : List ℕ) → IsSignatureOf xs s → IsSignatureOf ys t → length s ≡ length t → meets s t ≡ false → (addr : ℕ)
    → Contains xs addr → Contains ys addr → ⊥
no_common xs ys s t of_s of_t same apart addr in_xs in_ys =
    both_ways (meets s t) apart (meets_from_shares s t (common_address xs ys s t of_s of_t same addr in_xs in_ys))

-- the address of a word is among the addresses
pub address_of : (words : List Word) (k : ℕ) (d : Word) → k < length words → Contains (addresses words) (get_or words k d).addr
address_of [] k d below = absurd (omega (arith, below))
address_of (word ∷ words) Rattle.std.proofs.Common.zero d below = (0, omega arith, refl)
address_of (word ∷ words) (Rattle.std.proofs.Common.suc k) d below =
    let rest = address_of words k d (omega (arith, below)) in (Rattle.std.proofs.Common.suc rest.0, omega (arith, rest.1), rest.2)

pub has_address : (words : List Word) (word : Word) → Contains words word → Contains (addresses words) word.addr
has_address words word (k, below, at) = subst (λ (w : Word). Contains (addresses words) w.addr) at (address_of words k word below)

pub read_there : (words : List Word) (memory : List ℕ) (word : Word) → Agrees words memory → Contains words word → slice_get memory word.addr ≡ Some word.value
read_there words memory word agrees (k, below, at) = subst (λ (w : Word). slice_get memory w.addr ≡ Some w.value) at (agrees k word below)

-- words that agree with a memory agree with another one that has the same there
pub agrees_there : (words : List Word) (m n : List ℕ) → Agrees words m
    → ((addr : ℕ) → Contains (addresses words) addr → slice_get n addr ≡ slice_get m addr) → Agrees words n
agrees_there words m n agrees same k d below = same (get_or words k d).addr (address_of words k d below) ∙ agrees k d below

pub agrees_one : (m : List ℕ) (addr value : ℕ) → slice_get m addr ≡ Some value → Agrees (record { addr = addr; value = value } ∷ []) m
agrees_one m addr value e Rattle.std.proofs.Common.zero d below = e
agrees_one m addr value e (Rattle.std.proofs.Common.suc k) d below = absurd (omega (arith, below))

module _ (shape : Shape) (opening : List ℕ) (regions : List Region) (b : Board) (ok : IsBoard shape opening regions b) where
  -- the commit of an entry
  pub commit_of_entry : (i : ℕ) → 1 ≤ i → i ≤ length b.history → (commit : Commit) × (slice_get b.history (i - 1) ≡ Some commit)
  commit_of_entry i some within = go b.history (i - 1) (omega (arith, some, within))
    where
      go : (history : List Commit) (k : ℕ) → k < length history → (commit : Commit) × (slice_get history k ≡ Some commit)
      go [] k below = absurd (omega (arith, below))
      go (first ∷ rest) Rattle.std.proofs.Common.zero below = (first, refl)
      go (first ∷ rest) (Rattle.std.proofs.Common.suc k) below = go rest k (omega (arith, below))

  -- the words loaded of an entry's signature are those of its slot
  pub slot_loaded : (loaded : List ℕ) (slot : ℕ) → slot < shape.ring → shape.sig_words ≤ length loaded
      → ((word : ℕ) → word < shape.sig_words → slice_index loaded word ≡ sig_word shape b slot word)
      → take shape.sig_words loaded ≡ slot_words shape b slot
  slot_loaded loaded slot inside long each =
      let room : slot * shape.sig_words + shape.sig_words ≤ shape.ring * shape.sig_words = let r =
      mul-le (slot + 1) shape.sig_words shape.ring shape.sig_words (omega (arith, inside)) (omega arith) in omega (arith, r) in
      let here : length (take shape.sig_words loaded) ≡ shape.sig_words = rw length-take (omega (arith, long)) in
      let there : length (slot_words shape b slot) ≡ shape.sig_words = rw (length-take, length-drop) (omega (arith, ok.words, room)) in
      ext_get_or 0 _ _ (here ∙ sym there)
      (λ k below.
      let in_sig : k < shape.sig_words = omega (arith, below, here) in
      get_or-take shape.sig_words loaded k 0 in_sig ∙ each k in_sig
      ∙ sym (get_or-take shape.sig_words (drop (slot * shape.sig_words) b.sigs) k 0 in_sig ∙ get_or-drop (slot * shape.sig_words) b.sigs k 0))

  -- one more word is loaded
  pub word_loaded : (loaded : List ℕ) (at word : ℕ) → word < shape.sig_words → shape.sig_words ≤ length loaded → HasWords shape opening regions b loaded at word
      → HasWords shape opening regions b (set loaded word (sig_word shape b (at % shape.ring) word)) at (word + 1)
  word_loaded loaded at word inside long words now j below =
      elim (ℕ_discrete j word) [
        | yes here ↦ ap (slice_index (set loaded word value)) here ∙ get_or-set_same loaded word value 0 (omega (arith, inside, long))
            ∙ ap (sig_word shape b (at % shape.ring)) (sym here)
        | no other ↦ get_or-set_other loaded word j value 0 other ∙ words now j (omega (arith, below, other))
      ]
    where
      value : ℕ
      value = sig_word shape b (at % shape.ring) word

  module _ (addrs : List ℕ) (reads : List Word) (upto : (addr : ℕ) → Contains (addresses reads) addr → Contains addrs addr)
      (ruled : (addr : ℕ) → Contains addrs addr → IsRuled shape opening regions reads addr) where
    -- a commit that wrote none of the addresses touches none: what it carries lies in regions whose gates it wrote
    pub not_touched : (k : ℕ) (commit : Commit) → slice_get b.history k ≡ Some commit
        → ((addr : ℕ) → Contains (addresses commit.writes) addr → Contains addrs addr → ⊥)
        → (addr : ℕ) → Contains addrs addr → Touches commit addr → ⊥
    not_touched k commit there apart addr among (inl wrote) = apart addr wrote among
    not_touched k commit there apart addr among (inr carried) =
        let guard = (guards opening regions commit (ok.rules k commit there)).carries addr carried in
        apart guard.0.gate guard.3 (upto guard.0.gate (has_address reads _ (ruled addr among guard.0 guard.1 guard.2).read))

    -- so these words are the same from the state before it on
    pub same_below : (at high : ℕ) (commit : Commit) → 1 ≤ at → slice_get b.history (at - 1) ≡ Some commit
        → ((addr : ℕ) → Contains (addresses commit.writes) addr → Contains addrs addr → ⊥)
        → AreSame shape opening regions b.history addrs at high → AreSame shape opening regions b.history addrs (at - 1) high
    same_below at high commit some there apart same k low below addr among =
        elim (cases_lt (at - 1) k) [
          | inl later ↦
              same k (omega (arith, later)) below addr among
              ∙ ap (λ n. slice_get (state_at opening b.history n) addr) (let e : at ≡ at - 1 + 1 = omega (arith, some) in e)
              ∙ untouched opening b.history (at - 1) commit there addr (λ touches. not_touched (at - 1) commit there apart addr among touches)
          | inr not_later ↦ ap (λ n. slice_get (state_at opening b.history n) addr) (let e : k ≡ at - 1 = omega (arith, low, not_later) in e)
        ]
