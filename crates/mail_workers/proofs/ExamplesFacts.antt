-- What the worked examples have in common: each need and each gate in turn.
use Rattle.std.proofs.Common.{◌≡◌, ℕ, zero, suc, ◌-◌, ◌≤◌, [], ◌∷◌, get_or, refl, subst, arith, inr}
use Rattle.std.specs.Prelude.{Contains}
use Rattle.tx_heap.specs.Examples.{all_added, grown}
use Rattle.tx_heap.specs.Heap.{need_of}
use Rattle.mail_workers.specs.Indexing.{index_at, Indexes, IsFinished, AreMoves, AreFinished}
use Rattle.mail_workers.specs.IndexingExamples.{with_packed, the_made, sets_need, with_commit}

pub opened : (k : ℕ) → get_or all_added.gates k 0 ≤ get_or grown.gates k 0
opened zero = omega arith
opened (suc zero) = omega arith
opened (suc (suc k)) = omega arith

pub none_packed : (k : ℕ) → get_or grown.gates k 0 ≡ 3 → get_or all_added.gates k 0 ≡ 3
none_packed zero packed = absurd (omega (arith, packed))
none_packed (suc zero) packed = absurd (omega (arith, packed))
none_packed (suc (suc k)) packed = absurd (omega (arith, packed))

pub raised : (k : ℕ) → get_or all_added.gates k 0 ≤ get_or with_packed.gates k 0
raised zero = omega arith
raised (suc zero) = omega arith
raised (suc (suc k)) = omega arith

needs_fall : (k : ℕ) → get_or (index_at the_made (sets_need 0 ∷ []) 1).needs k 0 ≤ get_or (index_at the_made (sets_need 0 ∷ []) 0).needs k 0
needs_fall zero = omega arith
needs_fall (suc k) = omega arith

pub comes_in : Indexes the_made (sets_need 0 ∷ []) 1
comes_in = record {
  least = omega arith;
  happened = omega arith;
  step = record {
    moves = record { needs = λ message. needs_fall (message - 1); gates = λ segment. omega arith };
    packs_none = λ segment packed. packed;
  };
}

-- ---- states in which the word is still to come
pub not_yet : (state : ℕ) → state ≤ 0 → need_of (index_at the_made [] state) 1 ≡ 0 → ⊥
not_yet zero within none = omega (arith, none)
not_yet (suc state) within none = omega (arith, within)

pub again : (state : ℕ) → 2 ≤ state → state ≤ 2 → need_of (index_at the_made (sets_need 0 ∷ sets_need 1 ∷ []) state) 1 ≡ 0 → ⊥
again zero from within none = omega (arith, from)
again (suc zero) from within none = omega (arith, from)
again (suc (suc zero)) from within none = omega (arith, none)
again (suc (suc (suc state))) from within none = omega (arith, within)

-- ---- the one commit, and the one message
pub none_among : (x : ℕ) → Contains [] x → ⊥
none_among x (i, below, is) = omega (arith, below)

pub one_move : AreMoves the_made [] (with_commit (sets_need 0))
one_move stamp (zero, below, is) = inr (subst (Indexes the_made (sets_need 0 ∷ [])) is comes_in)
one_move stamp (suc i, below, is) = absurd (omega (arith, below))

pub one_finished : AreFinished the_made 0 [] (1 ∷ []) (with_commit (sets_need 0))
one_finished message (zero, below, is) =
    inr (subst (IsFinished the_made (sets_need 0 ∷ []) 0) is (record { state = 1; no_older = omega arith; happened = omega arith; need = refl }))
one_finished message (suc i, below, is) = absurd (omega (arith, below))
