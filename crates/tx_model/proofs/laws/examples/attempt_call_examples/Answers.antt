use Rattle.std.proofs.Common.{◌≡◌, ℕ, Some, None, refl, rules}
use Rattle.tx_model.specs.Words.{index_of}
use Rattle.tx_model.proofs.laws.examples.attempt_call_examples.Goals as goal

no_last : (value last : ℕ) → None ≡ Some last → value ≡ last
no_last value last e = cc

pub returns-clause-read : goal.returns-clause-read
unfolding index_of
returns-clause-read c = record {
  goes_on = search rules;
  written = λ last e. no_last 7 last e;
  reads = refl;
  writes = refl;
  sealed = refl;
  published = refl;
  one_state = search rules;
}

pub returns-clause-write : goal.returns-clause-write
unfolding index_of
returns-clause-write c = refl

some_not_none : (value : ℕ) → Some value ≡ None → ⊥
some_not_none value e = cc

pub returns-clause-full : goal.returns-clause-full
unfolding index_of
returns-clause-full c = ((refl, refl), λ full. some_not_none 7 full.0)
