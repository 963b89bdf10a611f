-- The one commit, the one message and the one state.
use Rattle.std.proofs.Common.{◌≡◌, [], ◌∷◌, refl, subst, arith, inl, inr}
use Rattle.tx_heap.specs.Heap.{need_of}
use Rattle.mail_workers.specs.Indexing.{index_at, Indexes}
use Rattle.mail_workers.specs.IndexingExamples.{the_made, sets_need}
use Rattle.mail_workers.proofs.ExamplesFacts.{comes_in, not_yet, none_among, one_move, one_finished}
use Rattle.mail_workers.proofs.laws.pass_examples.Goals as goal

pub returns-clause-moved : goal.returns-clause-moved
returns-clause-moved c = record {
  history = (sets_need 0 ∷ [], refl);
  front = omega arith;
  mine = (1 ∷ [], refl);
  moves = one_move;
  owned = refl;
  share = refl;
}

pub returns-clause-not_moved : goal.returns-clause-not_moved
returns-clause-not_moved c = λ moved. elim (moved.moves 1 (0, omega arith, refl)) [
  | inl none ↦ none_among 1 none
  | inr move ↦ omega (arith, move.step.moves.needs 1)
]

pub returns-clause-gained : goal.returns-clause-gained
returns-clause-gained c = record {
  history = (sets_need 0 ∷ [], refl);
  front = omega arith;
  moves = one_move;
  finished = one_finished;
  owned = refl;
}

pub returns-clause-dropped : goal.returns-clause-dropped
returns-clause-dropped c = λ gained. elim (gained.finished 1 (0, omega arith, refl)) [
  | inl none ↦ none_among 1 none
  | inr was ↦ not_yet was.state was.happened was.need
]

pub returns-clause-indexed : goal.returns-clause-indexed
returns-clause-indexed c = (
  λ stamp past within. (let is : 1 ≡ stamp = omega (arith, past, within) in subst (Indexes the_made (sets_need 0 ∷ [])) is comes_in),
  record {
    needs = λ message from to.
        (let is : 1 ≡ message = omega (arith, from, to) in subst (λ m. need_of (index_at the_made (sets_need 0 ∷ []) 1) m ≡ 0) is refl);
    none_sealed = λ segment below sealed. omega (arith, sealed);
    packs_none = λ segment packed. packed;
  },
  λ is. omega (arith, is.needs 1 (omega arith) (omega arith)),
)

pub returns-clause-joined_back : goal.returns-clause-joined_back
returns-clause-joined_back c = refl
