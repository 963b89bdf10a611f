-- Stores of a stamped caller keep what holds of tags and slots.
use native.Mathlib.Decide.{ℕ_discrete}
use Rattle.std.proofs.Common.{◌≡◌, ◌≢◌, ◌⊎◌, ℕ, ◌+◌, ◌-◌, ◌*◌, ◌/◌, ◌%◌, ◌<◌, ◌≤◌, List, length, drop, set, min, slice_get, slice_index, Some, refl, sym, ◌∙◌, ap, subst, arith, inl, inr, mod-lt, get_or-set_same, get_or-set_other}
use Rattle.std.proofs.Math.Nat.{mod-add-div}
use Rattle.std.proofs.lemmas.Bool.{cases_lt}
use Rattle.std.proofs.lemmas.Nat.{div-mul-add, mul-le}
use Rattle.std.proofs.lemmas.List.{length-set, length-take, length-drop, get_or-take, get_or-drop, ext_get_or}
use Rattle.std.proofs.lemmas.Option.{slice_get_within}
use Rattle.tx_model.specs.declared.gate.Region.{Region}
use Rattle.tx_model.specs.declared.history.Commit.{Commit}
use Rattle.tx_model.specs.Words.{addresses}
use Rattle.ring_sig.specs.Signature.{IsSignatureOf}
use Rattle.ring_core.specs.declared.shape.Shape.{Shape}
use Rattle.ring_core.specs.declared.stage.TurnStage.{TurnStage}
use Rattle.ring_core.specs.declared.stage.TurnStage.TheVariants.{Filling, Signature, Writing, Complete}
use Rattle.ring_worlds.specs.declared.process.Process.{Process}
use Rattle.ring_worlds.specs.World.{Board, tag_of, slot_words, commit_of}
use Rattle.ring_worlds.specs.Board.{IsNamed, IsBoard}
use Rattle.ring_worlds.specs.Own.{HasStored, IsOwn, with_tag, with_word, completed}

-- two entries of one slot are at least the ring apart
pub far_apart : (i n ring : ℕ) → i % ring ≡ n % ring → i < n → i + ring ≤ n
far_apart i n ring same before =
    let a = mod-add-div i ring in
    let c = mod-add-div n ring in
    elim (cases_lt (i / ring) (n / ring)) [
      | inl more ↦
          let step : ring * (i / ring) + ring ≤ ring * (n / ring) = let m = mul-le ring (i / ring + 1) ring (n / ring) (omega arith) (omega (arith, more)) in
          omega (arith, m) in
          omega (arith, a, c, same, step)
      | inr less ↦
          let down : ring * (n / ring) ≤ ring * (i / ring) = mul-le ring (n / ring) ring (i / ring) (omega arith) (omega (arith, less)) in
          absurd (omega (arith, a, c, same, down, before))
    ]

module _ (shape : Shape) (opening : List ℕ) (regions : List Region) (some_entry : 1 ≤ shape.ring) (b : Board) (ok : IsBoard shape opening regions b) where
  -- an entry that isn't complete is alone in its slot among such
  pub alone : (i n : ℕ) → b.complete < i → i ≤ length b.history → b.complete < n → n ≤ length b.history → i % shape.ring ≡ n % shape.ring → i ≡ n
  alone i n newer within newer' within' same =
      elim (cases_lt i n) [
        | inl before ↦ let f = far_apart i n shape.ring same before in absurd (omega (arith, f, newer, within', ok.near))
        | inr not_before ↦
            elim (cases_lt n i) [
              | inl after ↦ let f = far_apart n i shape.ring (sym same) after in absurd (omega (arith, f, newer', within, ok.near))
              | inr not_after ↦ omega (arith, not_before, not_after)
            ]
      ]

  module _ (n : ℕ) (newer : b.complete < n) (within : n ≤ length b.history) where
    slot : ℕ
    slot = n % shape.ring

    inside : n % shape.ring < length b.tags
    inside = let m : n % shape.ring < shape.ring = mod-lt n (omega (arith, some_entry)) in omega (arith, m, ok.slots)

    at_slot : (tag i : ℕ) → i % shape.ring ≡ n % shape.ring → tag_of shape (with_tag shape b n tag) i ≡ tag
    at_slot tag i same = ap (slice_index (set b.tags (n % shape.ring) tag)) same ∙ get_or-set_same b.tags (n % shape.ring) tag 0 inside

    elsewhere : (tag i : ℕ) → i % shape.ring ≢ n % shape.ring → tag_of shape (with_tag shape b n tag) i ≡ tag_of shape b i
    elsewhere tag i other = get_or-set_other b.tags (n % shape.ring) (i % shape.ring) tag 0 other

    -- a slot with a tag of this entry is named by it: a later one would be past the index
    named_here : (tag : ℕ) → 4 * n < tag → tag ≤ 4 * n + 3 → (tags : List ℕ) (complete : ℕ) → slice_index tags (n % shape.ring) ≡ tag
        → IsNamed shape (record b { tags = tags; complete = complete }) (n % shape.ring)
    named_here tag low high tags complete is =
        record {
          entry = n;
          tag = inr (omega (arith, newer), within, refl, omega (arith, is, low), omega (arith, is, high));
          greatest = λ later past upto same. let f = far_apart n later shape.ring (sym same) past in absurd (omega (arith, f, upto, newer, ok.near));
        }

    -- any other is named as before
    named_else : (s : ℕ) (tags : List ℕ) (complete : ℕ) → slice_index tags s ≡ slice_index b.tags s → IsNamed shape b s
        → IsNamed shape (record b { tags = tags; complete = complete }) s
    named_else s tags complete same old =
        record {
          entry = old.entry;
          tag = subst (λ t. ((old.entry ≡ 0) × (t ≡ 0)) ⊎ ((1 ≤ old.entry) × (old.entry ≤ length b.history) × (old.entry % shape.ring ≡ s)
              × (4 * old.entry + 1 ≤ t) × (t ≤ 4 * old.entry + 3))) (sym same) old.tag;
          greatest = λ later past upto at. subst (λ t. (later ≡ length b.history) × ((t ≡ 0) ⊎ (t ≡ 4 * old.entry + 3))) (sym same)
              (old.greatest later past upto at);
        }

    named_now : (tag complete : ℕ) → 4 * n < tag → tag ≤ 4 * n + 3 → (s : ℕ) → s < shape.ring
        → IsNamed shape (record b { tags = set b.tags (n % shape.ring) tag; complete = complete }) s
    named_now tag complete low high s below =
        elim (ℕ_discrete s (n % shape.ring)) [
          | yes same ↦ subst (IsNamed shape (record b { tags = set b.tags (n % shape.ring) tag; complete = complete })) (sym same)
              (named_here tag low high (set b.tags (n % shape.ring) tag) complete (get_or-set_same b.tags (n % shape.ring) tag 0 inside))
          | no other ↦ named_else s (set b.tags (n % shape.ring) tag) complete (get_or-set_other b.tags (n % shape.ring) s tag 0 other) (ok.named s below)
        ]

    -- a tag of its own is stored: it rises, and isn't `complete`
    pub tag_stored : (tag : ℕ) → 4 * n < tag → tag ≤ 4 * n + 2
        → ((commit : Commit) → tag ≡ 4 * n + 2 → slice_get b.history (n - 1) ≡ Some commit
        → IsSignatureOf (addresses commit.writes) (slot_words shape b (n % shape.ring)))
        → (tag ≡ 4 * n + 1 → n ≡ length b.history) → IsBoard shape opening regions (with_tag shape b n tag)
    tag_stored tag low high signs newest =
        record {
          slots = length-set b.tags (n % shape.ring) tag ∙ ok.slots;
          words = ok.words;
          lived = ok.lived;
          legal = ok.legal;
          rules = ok.rules;
          named = named_now tag b.complete low (omega (arith, high));
          tagged = λ s below. elim (ℕ_discrete s (n % shape.ring)) [
            | yes same ↦ let t = ap (slice_index (set b.tags (n % shape.ring) tag)) same
                ∙ get_or-set_same b.tags (n % shape.ring) tag 0 inside in omega (arith, t, high, within)
            | no other ↦ let t = get_or-set_other b.tags (n % shape.ring) s tag 0 other in let o = ok.tagged s below in omega (arith, t, o)
          ];
          published = λ i first below. elim (ℕ_discrete (i % shape.ring) (n % shape.ring)) [
            | yes same ↦ let t = at_slot tag i same in elim (cases_lt i n) [
              | inl before ↦ omega (arith, t, low, before)
              | inr not_before ↦ let e = alone i n (omega (arith, not_before, newer)) (omega (arith, below)) newer within same in
                  elim (cases_lt tag (4 * n + 2)) [
                    | inl filling ↦ let top = newest (omega (arith, filling, low)) in absurd (omega (arith, top, e, below))
                    | inr writing ↦ omega (arith, t, writing, e)
                  ]
            ]
            | no other ↦ let t = elsewhere tag i other in let o = ok.published i first below in omega (arith, t, o)
          ];
          counted = ok.counted;
          near = ok.near;
          done = λ i first upto. elim (ℕ_discrete (i % shape.ring) (n % shape.ring)) [
            | yes same ↦ let t = at_slot tag i same in omega (arith, t, low, upto, newer)
            | no other ↦ let t = elsewhere tag i other in let o = ok.done i first upto in omega (arith, t, o)
          ];
          undone = λ i above upto. elim (ℕ_discrete (i % shape.ring) (n % shape.ring)) [
            | yes same ↦ let t = at_slot tag i same in let e = alone i n above upto newer within same in omega (arith, t, high, e)
            | no other ↦ let t = elsewhere tag i other in let o = ok.undone i above upto in omega (arith, t, o)
          ];
          signed = λ i commit first there from upto. elim (ℕ_discrete (i % shape.ring) (n % shape.ring)) [
            | yes same ↦
                let t = at_slot tag i same in
                let e : n ≡ i = omega (arith, t, low, high, from, upto) in
                subst (λ s. IsSignatureOf (addresses commit.writes) (slot_words shape b s)) (sym same)
                (signs commit (omega (arith, t, from, high, e)) (subst (λ k. slice_get b.history (k - 1) ≡ Some commit) (sym e) there))
            | no other ↦ let t = elsewhere tag i other in ok.signed i commit first there (omega (arith, t, from)) (omega (arith, t, upto))
          ];
          refilled = λ i first upto past. elim (ℕ_discrete (i % shape.ring) (n % shape.ring)) [
            | yes same ↦
                let t = at_slot tag i same in
                let before : i < n = omega (arith, t, past, high) in
                let f = far_apart i n shape.ring same before in
                let q : tag_of shape (with_tag shape b n tag) i / 4 ≡ n = omega (arith, t, low, high) in
                (omega (arith, f, q), omega (arith, q, within))
            | no other ↦ subst (λ t. (i + shape.ring ≤ t / 4) × (t / 4 ≤ length b.history)) (sym (elsewhere tag i other))
                (ok.refilled i first upto (let t = elsewhere tag i other in omega (arith, t, past)))
          ];
        }

    -- the tag `complete` is stored: the next entry is complete
    pub tag_completed : n ≡ b.complete + 1 → 4 * n + 2 ≤ tag_of shape b n → tag_of shape b n ≤ 4 * n + 2 → IsBoard shape opening regions (completed shape b n)
    tag_completed next low high =
        let tag : ℕ = 4 * n + 3 in
        record {
          slots = length-set b.tags (n % shape.ring) tag ∙ ok.slots;
          words = ok.words;
          lived = ok.lived;
          legal = ok.legal;
          rules = ok.rules;
          named = named_now tag n (omega arith) (omega arith);
          tagged = λ s below. elim (ℕ_discrete s (n % shape.ring)) [
            | yes same ↦ let t = ap (slice_index (set b.tags (n % shape.ring) tag)) same
                ∙ get_or-set_same b.tags (n % shape.ring) tag 0 inside in omega (arith, t, within)
            | no other ↦ let t = get_or-set_other b.tags (n % shape.ring) s tag 0 other in let o = ok.tagged s below in omega (arith, t, o)
          ];
          published = λ i first below. elim (ℕ_discrete (i % shape.ring) (n % shape.ring)) [
            | yes same ↦ let t = at_slot tag i same in elim (cases_lt b.complete i) [
              | inl above ↦ let e = alone i n above (omega (arith, below)) newer within same in omega (arith, t, e)
              | inr done ↦ omega (arith, t, done, newer)
            ]
            | no other ↦ let t = elsewhere tag i other in let o = ok.published i first below in omega (arith, t, o)
          ];
          counted = within;
          near = omega (arith, ok.near, next);
          done = λ i first upto. elim (ℕ_discrete (i % shape.ring) (n % shape.ring)) [
            | yes same ↦ let t = at_slot tag i same in omega (arith, t, upto)
            | no other ↦
                let t = elsewhere tag i other in
                let old : i ≤ b.complete = elim (ℕ_discrete i n) [
                  | yes e ↦ absurd (other (ap (λ k. k % shape.ring) e))
                  | no e ↦
                      omega (arith, e, upto, next)
                ] in
                let o = ok.done i first old in omega (arith, t, o)
          ];
          undone = λ i above upto. elim (ℕ_discrete (i % shape.ring) (n % shape.ring)) [
            | yes same ↦ let e = alone i n (omega (arith, above, newer)) upto newer within same in absurd (omega (arith, e, above))
            | no other ↦ let t = elsewhere tag i other in let o = ok.undone i (omega (arith, above, newer)) upto in omega (arith, t, o)
          ];
          signed = λ i commit first there from upto. elim (ℕ_discrete (i % shape.ring) (n % shape.ring)) [
            | yes same ↦
                let t = at_slot tag i same in
                let e : n ≡ i = omega (arith, t, from, upto) in
                ok.signed i commit first there (subst (λ k. 4 * k + 2 ≤ tag_of shape b k) e low)
                (let h = subst (λ k. tag_of shape b k ≤ 4 * k + 2) e high in omega (arith, h))
            | no other ↦ let t = elsewhere tag i other in ok.signed i commit first there (omega (arith, t, from)) (omega (arith, t, upto))
          ];
          refilled = λ i first upto past. elim (ℕ_discrete (i % shape.ring) (n % shape.ring)) [
            | yes same ↦
                let t = at_slot tag i same in
                let before : i < n = omega (arith, t, past) in
                let f = far_apart i n shape.ring same before in
                let q : tag_of shape (with_tag shape b n tag) i / 4 ≡ n = omega (arith, t) in
                (omega (arith, f, q), omega (arith, q, within))
            | no other ↦ subst (λ t. (i + shape.ring ≤ t / 4) × (t / 4 ≤ length b.history)) (sym (elsewhere tag i other))
                (ok.refilled i first upto (let t = elsewhere tag i other in omega (arith, t, past)))
          ];
        }

    -- a word of its signature is stored while its slot is being filled
    pub word_kept : (word value : ℕ) → word < shape.sig_words → tag_of shape b n ≡ 4 * n + 1 → IsBoard shape opening regions (with_word shape b n word value)
    word_kept word value small filling =
        record {
          slots = ok.slots;
          words = length-set b.sigs _ value ∙ ok.words;
          lived = ok.lived;
          legal = ok.legal;
          rules = ok.rules;
          named = λ s below. let old = ok.named s below in record { entry = old.entry; tag = old.tag; greatest = old.greatest };
          tagged = ok.tagged;
          published = ok.published;
          counted = ok.counted;
          near = ok.near;
          done = ok.done;
          undone = ok.undone;
          signed = λ i commit first there from upto. elim (ℕ_discrete (i % shape.ring) (n % shape.ring)) [
            | yes same ↦ let t : tag_of shape b i ≡ 4 * n + 1 = ap (slice_index b.tags) same ∙ filling in absurd (omega (arith, t, from, upto))
            | no other ↦ subst (IsSignatureOf (addresses commit.writes)) (sym (other_slot (i % shape.ring) other)) (ok.signed i commit first there from upto)
          ];
          refilled = ok.refilled;
        }
      where
        other_slot : (s : ℕ) → s ≢ n % shape.ring → slot_words shape (with_word shape b n word value) s ≡ slot_words shape b s
        other_slot s other =
            ext_get_or 0 _ _ (length-take _ _ ∙ ap (min shape.sig_words)
            (length-drop _ _ ∙ ap (λ k. k - s * shape.sig_words) (length-set b.sigs _ value) ∙ sym (length-drop _ _)) ∙ sym (length-take _ _))
            (λ k below.
            let small' : k < shape.sig_words = let l = length-take shape.sig_words
            (drop (s * shape.sig_words) (set b.sigs (n % shape.ring * shape.sig_words + word) value)) in omega (arith, l, below) in
            get_or-take shape.sig_words (drop (s * shape.sig_words) (set b.sigs (n % shape.ring * shape.sig_words + word) value)) k 0 small'
            ∙ get_or-drop (s * shape.sig_words) (set b.sigs (n % shape.ring * shape.sig_words + word) value) k 0
            ∙ get_or-set_other b.sigs (n % shape.ring * shape.sig_words + word) (s * shape.sig_words + k) value 0
            (apart s (n % shape.ring) k word small' small other)
            ∙ sym (get_or-take shape.sig_words (drop (s * shape.sig_words) b.sigs) k 0 small' ∙ get_or-drop (s * shape.sig_words) b.sigs k 0))
          where
            apart : (s t k j : ℕ) → k < shape.sig_words → j < shape.sig_words → s ≢ t → s * shape.sig_words + k ≢ t * shape.sig_words + j
            apart s t k j fits fits' other e = other (sym (div-mul-add s shape.sig_words k fits) ∙ ap (λ m. m / shape.sig_words) e
                ∙ div-mul-add t shape.sig_words j fits')

  -- ---- a stamped caller's own slot
  module _ (p : Process) (stage : TurnStage) (own : IsOwn shape b p stage) where
    pub own_within : p.caller.stamp ≤ length b.history
    own_within = let w = slice_get_within b.history (p.caller.stamp - 1) (commit_of p) own.there in omega (arith, w)

    -- its slot's words are its signature once all are stored
    pub own_words : IsSignatureOf (addresses p.caller.writes) p.caller.write_sig → length p.caller.write_sig ≡ shape.sig_words
        → HasStored shape b p.caller.stamp p.caller.write_sig shape.sig_words
        → IsSignatureOf (addresses p.caller.writes) (slot_words shape b (p.caller.stamp % shape.ring))
    own_words signed sized stored =
        let inside : p.caller.stamp % shape.ring < shape.ring = mod-lt p.caller.stamp (omega (arith, some_entry)) in
        let room : p.caller.stamp % shape.ring * shape.sig_words + shape.sig_words ≤ shape.ring * shape.sig_words = let r =
        mul-le (p.caller.stamp % shape.ring + 1) shape.sig_words shape.ring shape.sig_words (omega (arith, inside)) (omega arith) in omega (arith, r) in
        let long : length (slot_words shape b (p.caller.stamp % shape.ring)) ≡ shape.sig_words =
        rw (length-take, length-drop) (omega (arith, ok.words, room)) in
        subst (IsSignatureOf (addresses p.caller.writes))
        (ext_get_or 0 p.caller.write_sig (slot_words shape b (p.caller.stamp % shape.ring)) (sized ∙ sym long)
        (λ k below.
        let small : k < shape.sig_words = omega (arith, below, sized) in
        sym (get_or-take shape.sig_words (drop (p.caller.stamp % shape.ring * shape.sig_words) b.sigs) k 0 small
        ∙ get_or-drop (p.caller.stamp % shape.ring * shape.sig_words) b.sigs k 0 ∙ stored k small)))
        signed

  -- the four stores
  pub fills : (p : Process) (own : IsOwn shape b p Filling) → IsBoard shape opening regions (with_tag shape b p.caller.stamp (4 * p.caller.stamp + 1))
  fills p own =
      let within = own_within p Filling own in
      tag_stored p.caller.stamp own.newer within (4 * p.caller.stamp + 1) (omega arith) (omega arith) (λ commit e. absurd (omega (arith, e)))
      (λ _. elim (cases_lt p.caller.stamp (length b.history)) [
        | inl older ↦ let o = ok.published p.caller.stamp (omega (arith, own.newer)) older in let t = own.tag in absurd (omega (arith, o, t))
        | inr newest ↦ omega (arith, newest, within)
      ])

  pub stores_word : (p : Process) (j : ℕ) (own : IsOwn shape b p (Signature j)) → j < shape.sig_words
      → IsBoard shape opening regions (with_word shape b p.caller.stamp j (slice_index p.caller.write_sig j))
  stores_word p j own small = word_kept p.caller.stamp own.newer (own_within p (Signature j) own) j (slice_index p.caller.write_sig j) small own.tag.0

  pub writes : (p : Process) (own : IsOwn shape b p Writing) → IsSignatureOf (addresses p.caller.writes) p.caller.write_sig
      → length p.caller.write_sig ≡ shape.sig_words → IsBoard shape opening regions (with_tag shape b p.caller.stamp (4 * p.caller.stamp + 2))
  writes p own signed sized =
      tag_stored p.caller.stamp own.newer (own_within p Writing own) (4 * p.caller.stamp + 2) (omega arith) (omega arith)
      (λ commit e there. let same : commit_of p ≡ commit = let q = sym own.there
      ∙ there in cc in subst (λ (c : Commit). IsSignatureOf (addresses c.writes) (slot_words shape b (p.caller.stamp % shape.ring))) same
      (own_words p Writing own signed sized own.tag.1))
      (λ e. absurd (omega (arith, e)))

  pub completes : (p : Process) (own : IsOwn shape b p Complete) → IsBoard shape opening regions (completed shape b p.caller.stamp)
  completes p own =
      let t = own.tag.0 in
      tag_completed p.caller.stamp own.newer (own_within p Complete own) (sym own.tag.1) (omega (arith, t)) (omega (arith, t))
