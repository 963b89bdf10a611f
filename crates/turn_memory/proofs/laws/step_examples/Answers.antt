-- The seat has the lock, and knows of two commits.
use Rattle.std.proofs.Common.{[], ◌∷◌, refl, sym, subst, arith, rules}
use Rattle.tx_model.specs.Made.{Made}
use Rattle.tx_model.specs.ShareLaws.{whole}
use Rattle.turn_memory.specs.declared.table.About.{About}
use Rattle.turn_memory.specs.Lock.{knowing, HasLock, HoldsLast, LeadsOn}
use Rattle.turn_memory.specs.Examples.{AnyWords, one_commit, two_commits, resting_heap, open_heap, idle, kept, AnySense, room_left, giving, at_work}
use Rattle.turn_memory.proofs.ExamplesFacts.{writing_ok, example_history}
use Rattle.turn_memory.proofs.laws.step_examples.Goals as goal

abbrev lock : (about : About AnySense) → HasLock (giving about)
lock about = record { knowledge = knowing about at_work; known = refl; active = refl; slot = refl }

pub returns-clause-takes : goal.returns-clause-takes
returns-clause-takes c about made step = (
  λ found. (
    knowing about (idle one_commit 1 [] kept),
    refl,
    record {
      history = two_commits;
      heap = resting_heap;
      now = refl;
      longer = search rules;
      is_known = record { history_is = example_history about made; plain = search rules; whole = λ all. cc };
      last = subst (λ (made : Made AnySense). HoldsLast made.opening two_commits resting_heap) (sym made) (record { words = refl; commits = refl });
    },
  ),
  λ found. absurd (found refl),
)

pub returns-clause-looks : goal.returns-clause-looks
returns-clause-looks c about made step = (
  record { about = about; pass = idle two_commits 2 (1 ∷ 2 ∷ []) whole; other = one_commit },
  refl,
  record {
    now = refl;
    other = search rules;
    is_known = record { history_is = example_history about made; plain = search rules; whole = λ all. record { front = refl; mine = refl } };
  },
)

pub returns-clause-may_release : goal.returns-clause-may_release
returns-clause-may_release c about made =
    record {
      lock = lock about;
      last = subst (λ (made : Made AnySense). HoldsLast made.opening two_commits resting_heap) (sym made) (record { words = refl; commits = refl });
    }

pub returns-clause-may_publish : goal.returns-clause-may_publish
returns-clause-may_publish c about made = record {
  lock = lock about;
  leads_on = subst (λ (made : Made AnySense). LeadsOn AnyWords room_left made two_commits (record open_heap { commits = 3 })) (sym made) (record {
    reads = search rules;
    writes = λ e. cc;
    apart = search rules;
    follows = writing_ok 2 9 (omega arith) (omega arith);
    words = refl;
    commits = refl;
    unsealed = search rules;
    room = omega arith;
    is_good = tt;
    budget_falls = omega arith;
  });
}
