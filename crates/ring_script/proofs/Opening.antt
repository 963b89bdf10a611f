-- A world may be opened with what a script says.
use Rattle.std.proofs.Common.{◌≡◌, ◌⊎◌, inl, inr, ℕ, suc, List, [], ◌∷◌, length, replicate, get_or, slice_set, Contains, refl, sym, ◌∙◌, ap, subst, arith, get_or-set_same, get_or-set_other}
use Rattle.std.proofs.lemmas.Bool.{cases_lt}
use Rattle.std.proofs.lemmas.List.{length-replicate, set_past}
use Rattle.tx_model.specs.declared.word.Word.{Word}
use Rattle.tx_model.specs.Memory.{after}
use Rattle.ring_script.specs.Laws.{ScriptsOpen}
use Rattle.ring_script.specs.Draft.{IsUnsealed}
use Rattle.ring_script.proofs.Ending.{after_length}

same_or : (n m : ℕ) → (n ≡ m) ⊎ (n ≡ m → ⊥)
same_or n m =
    elim (cases_lt n m) [
      | inl below ↦ inr (λ is. omega (arith, below, is))
      | inr above ↦ elim (cases_lt m n) [ inl more ↦ inr (λ is. omega (arith, more, is)) | inr also ↦ inl (omega (arith, above, also)) ]
    ]

-- the value of one word after another one was set
set_value : (P : ℕ → Type 0) (memory : List ℕ) (addr value at : ℕ) → P (get_or memory at 0) → (addr ≡ at → P value)
    → P (get_or (slice_set memory addr value) at 0)
set_value P memory addr value at old new =
    elim (same_or addr at) [
      | inl same ↦
          elim (cases_lt addr (length memory)) [
            | inl below ↦
                let here : get_or (slice_set memory addr value) at 0 ≡ value =
                ap (λ k. get_or (slice_set memory addr value) k 0) (sym same) ∙ get_or-set_same memory addr value 0 below in
                subst P (sym here) (new same)
            | inr past ↦ subst (λ ms. P (get_or ms at 0)) (sym (set_past memory addr value past)) old
          ]
      | inr other ↦ subst P (sym (get_or-set_other memory addr at value 0 (λ is. other (sym is)))) old
    ]

value_after : (P : ℕ → Type 0) (memory : List ℕ) (words : List Word) (at : ℕ) → P (get_or memory at 0)
    → ((word : Word) → Contains words word → word.addr ≡ at → P word.value) → P (get_or (after memory words) at 0)
value_after P memory [] at old new = old
value_after P memory (word ∷ words) at old new =
    value_after P (slice_set memory word.addr word.value) words at
    (set_value P memory word.addr word.value at old (new word (0, omega arith, refl)))
    (λ w among same. new w (suc among.0, omega (arith, among.1), among.2) same)

pub scripts_open : ScriptsOpen
scripts_open lines setup events s =
    let words = setup.shape.heap in
    let zeros : List ℕ = replicate words 0 in
    let count : length {A = ℕ} zeros ≡ words = length-replicate words 0 in
    let size : length setup.first ≡ length {A = ℕ} zeros = ap length s.first ∙ after_length zeros s.words in
    let formed = s.well_formed in (
      record {
        limits = record {
          some_entry = s.ring_length.0;
          entries = s.ring_length.1;
          words = s.signature;
          some_word = s.memory.0;
          heap = omega (arith, s.memory.1);
          some_commit = s.life.0;
          life = s.life.1;
        };
        room = size ∙ count;
        well_formed = record {
          lie_in = λ region among.
              let lies = formed.lie_in region among in
              (lies.0, omega (arith, lies.1, size), omega (arith, lies.2, size));
          lie_apart = formed.lie_apart;
          gates_apart = formed.gates_apart;
          gates_outside = formed.gates_outside;
          gates_opening = λ region among.
              subst (λ ms. IsUnsealed (get_or ms region.gate 0)) (sym s.first)
              (
              value_after IsUnsealed zeros s.words region.gate (formed.gates_opening region among)
              (λ word known at. let may = s.may_open word known in may.gate region among at)
              );
        };
      },
      s.callers.0,
      s.callers.1,
    )
