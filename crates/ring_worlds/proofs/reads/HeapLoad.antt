-- The load of a word of the heap, and the exchange of the index.
use Rattle.std.proofs.Common.{◌≡◌, ◌≢◌, ◌⊎◌, ℕ, ◌+◌, ◌-◌, ◌*◌, ◌/◌, ◌%◌, ◌<◌, ◌≤◌, ◌==◌, List, [], ◌∷◌, ◌++◌, length, slice_get, slice_index, Some, Contains, refl, sym, ◌∙◌, ap, subst, arith, inl, inr, mod-lt, cond, ne_eqb, eq-eqb}
use Rattle.std.proofs.lemmas.Bool.{cases_lt}
use Rattle.std.proofs.lemmas.List.{map-append, append-nil, length-append}
use Rattle.std.proofs.lemmas.List.Elements.{Contains-append_cases}
use Rattle.tx_model.specs.declared.gate.Region.{Region}
use Rattle.tx_model.specs.declared.word.Word.{Word}
use Rattle.tx_model.specs.declared.history.Commit.{Commit}
use Rattle.tx_model.specs.declared.pass.PassState.TheVariants as state
use Rattle.tx_model.specs.Words.{addresses}
use Rattle.tx_model.specs.Memory.{Agrees}
use Rattle.tx_model.specs.History.{state_at}
use Rattle.ring_sig.specs.Signature.{IsWordCount, IsSignatureOf}
use Rattle.ring_sig.proofs.Lemmas.{gains_last}
use Rattle.ring_core.specs.declared.shape.Shape.{Shape}
use Rattle.ring_core.specs.declared.stage.Stage.TheVariants.{ReadHeap}
use Rattle.ring_core.specs.Outcomes.{read_heap}
use Rattle.ring_worlds.specs.declared.process.Process.{Process}
use Rattle.ring_worlds.specs.World.{Board, tag_of, process_after}
use Rattle.ring_worlds.specs.Board.{IsNamed, IsBoard}
use Rattle.tx_model.specs.Rule.{FollowsRule}
use Rattle.ring_worlds.specs.Reader.{IsLoaded, IsChecked, IsRuled, IsReader}
use Rattle.ring_worlds.proofs.board.Stores.{far_apart}
use Rattle.ring_worlds.proofs.reads.Walks.{idle_not_active}
use Rattle.ring_worlds.proofs.reads.StateFacts.{legal_grows}
use Rattle.ring_worlds.proofs.lemmas.Lists.{at_last}

module _ (shape : Shape) (opening : List ℕ) (regions : List Region) (some_entry : 1 ≤ shape.ring) (b : Board) (ok : IsBoard shape opening regions b) where
  pub heap_keeps : (p : Process) (addr value : ℕ) → p.caller.state ≡ state.Active → p.caller.start ≤ b.complete → IsWordCount (length p.caller.read_sig)
      → IsSignatureOf (addresses (p.reads ++ [])) p.caller.read_sig
      → ((a : ℕ) → Contains (addresses (p.reads ++ [])) a → IsRuled shape opening regions p.reads a)
      → Agrees p.reads (state_at opening b.history p.caller.start)
      → IsRuled shape opening regions p.reads addr → IsLoaded shape opening regions b p.caller.start (length b.history) addr value
      → IsReader shape opening regions b (process_after opening b.history p (ReadHeap addr) (read_heap p.caller addr value))
  heap_keeps p addr value active behind counted signed ruled agree free loaded =
      record {
        behind = behind;
        signed = subst (λ addrs. IsSignatureOf addrs (read_heap p.caller addr value).caller.read_sig) (sym asks)
            (gains_last (addresses p.reads) p.caller.read_sig addr counted (subst (λ addrs. IsSignatureOf addrs p.caller.read_sig) before signed));
        ruled = λ a among. elim (Contains-append_cases (addresses p.reads) (addr ∷ []) a (subst (λ addrs. Contains addrs a) asks among)) [
          | inl old ↦ ruled a (subst (λ addrs. Contains addrs a) (sym before) old)
          | inr last ↦ subst (IsRuled shape opening regions p.reads) (only last) free
        ];
        fresh = λ e. absurd (idle_not_active (sym e ∙ active));
        agree = λ e. agree;
        knows = loaded;
      }
    where
      before : addresses (p.reads ++ []) ≡ addresses p.reads
      before = ap addresses (append-nil p.reads)

      asks : addresses (p.reads ++ record { addr = addr; value = value } ∷ []) ≡ addresses p.reads ++ addr ∷ []
      asks = map-append (λ (word : Word). word.addr) p.reads (record { addr = addr; value = value } ∷ [])

      only : {x a : ℕ} → Contains (x ∷ []) a → x ≡ a
      only (Rattle.std.proofs.Common.zero, below, at) = at
      only (Rattle.std.proofs.Common.suc k, below, at) = absurd (omega (arith, below))

  -- ---- the exchange that finds the index that was checked
  module _ (p : Process) (commit : Commit) (reads : commit.reads ≡ p.reads) (rule : FollowsRule opening regions commit)
      (known : IsChecked shape opening regions b p.caller.start p.reads (length b.history))
      (early : p.caller.start ≤ length b.history) (free : length b.history < shape.life) (slot : length b.history + 1 ≤ b.complete + shape.ring) where
    abbrev pub joined : Board
    joined = record { history = b.history ++ commit ∷ []; tags = b.tags; sigs = b.sigs; complete = b.complete }

    long : length joined.history ≡ length b.history + 1
    long = length-append b.history (commit ∷ [])

    in_slot : (i : ℕ) → tag_of shape b i ≤ 4 * length b.history + 3
    in_slot i = ok.tagged (i % shape.ring) (mod-lt i (omega (arith, some_entry)))

    -- the new entry has not filled its slot, whose entry before it is complete; and the one that was the newest has filled its own
    named_now : (s : ℕ) → s < shape.ring → IsNamed shape joined s
    named_now s below =
        let old = ok.named s below in
        record {
          entry = old.entry;
          tag = elim old.tag [
            | inl none ↦ inl none
            | inr (some, upto, at, low, high) ↦ inr (some, omega (arith, upto, long), at, low, high)
          ];
          greatest = λ later past upto at. elim (cases_lt (length b.history) later) [
            | inl newest ↦ (omega (arith, newest, upto, long), unused old later past at (omega (arith, newest, upto, long)))
            | inr older ↦ absurd (filled old later (old.greatest later past (omega (arith, older)) at) past at)
          ];
        }
      where
        unused : (old : IsNamed shape b s) (later : ℕ) → old.entry < later → later % shape.ring ≡ s → later ≡ length b.history + 1
            → (slice_index b.tags s ≡ 0) ⊎ (slice_index b.tags s ≡ 4 * old.entry + 3)
        unused old later past at is =
            elim old.tag [
              | inl (none, zero) ↦ inl zero
              | inr (some, upto, there, low, high) ↦
                  let f = far_apart old.entry later shape.ring (there ∙ sym at) past in
                  let done = ok.done old.entry some (omega (arith, f, is, slot)) in
                  let tag : tag_of shape b old.entry ≡ slice_index b.tags s = ap (slice_index b.tags) there in
                  inr (omega (arith, done, tag, high))
            ]

        filled : (old : IsNamed shape b s) (later : ℕ)
            → (later ≡ length b.history) × ((slice_index b.tags s ≡ 0) ⊎ (slice_index b.tags s ≡ 4 * old.entry + 3)) → old.entry < later
            → later % shape.ring ≡ s → ⊥
        filled old later (is, tag) past at =
            let seen = known.published (omega (arith, is, past)) in
            let here : tag_of shape b (length b.history) ≡ slice_index b.tags s = ap (λ n. slice_index b.tags (n % shape.ring)) (sym is)
            ∙ ap (slice_index b.tags) at in
            elim tag [
              | inl zero ↦ omega (arith, seen, here, zero)
              | inr complete ↦ omega (arith, seen, here, complete, past, is)
            ]

    pub joins : IsBoard shape opening regions joined
    joins =
        record {
          slots = ok.slots;
          words = ok.words;
          lived = omega (arith, long, free);
          legal = legal_grows opening b.history commit ok.legal
              (subst (λ r. Agrees r (state_at opening b.history (length b.history))) (sym reads) (known.agree (length b.history) early (omega arith)));
          rules = λ k other there. elim (at_last b.history commit other k there) [
            | inl (below, was) ↦ ok.rules k other was
            | inr (at, same) ↦ subst (FollowsRule opening regions) same rule
          ];
          named = named_now;
          tagged = λ s below. let t = ok.tagged s below in omega (arith, t, long);
          published = λ i some below. elim (cases_lt i (length b.history)) [
            | inl older ↦ ok.published i some older
            | inr newest ↦
                let e : length b.history ≡ i = omega (arith, newest, below, long) in
                subst (λ n. 4 * n + 2 ≤ tag_of shape b n) e (known.published (omega (arith, e, some)))
          ];
          counted = omega (arith, ok.counted, long);
          near = omega (arith, slot, long);
          done = ok.done;
          undone = λ i above within. elim (cases_lt (length b.history) i) [
            | inl newest ↦ let t = in_slot i in omega (arith, t, newest)
            | inr older ↦ ok.undone i above (omega (arith, older))
          ];
          signed = λ i other some there low high. elim (at_last b.history commit other (i - 1) there) [
            | inl (below, was) ↦ ok.signed i other some was low high
            | inr (at, same) ↦ let t = in_slot i in absurd (omega (arith, t, low, at, some))
          ];
          refilled = λ i some within past. elim (cases_lt (length b.history) i) [
            | inl newest ↦ let t = in_slot i in absurd (omega (arith, t, newest, past))
            | inr older ↦ let r = ok.refilled i some (omega (arith, older)) past in (r.0, omega (arith, r.1, long))
          ];
        }
