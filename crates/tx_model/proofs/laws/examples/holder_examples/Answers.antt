-- The pass was alone, and is split.
use Rattle.std.proofs.Common.{◌≡◌, ℕ, ◌≤◌, zero, suc, List, [], ◌∷◌, refl, sym, ◌∙◌, subst, arith, Contains}
use mathlib.Core.Option.{some}
use lib.ListN.{get_elem?}
use Rattle.tx_model.specs.declared.view.PassView.{PassView}
use Rattle.tx_model.specs.ShareLaws.{whole}
use Rattle.tx_model.specs.Holders.{AreNamed, HaveAll, HaveOnce}
use Rattle.tx_model.specs.Calls.{left_of, right_of}
use Rattle.tx_model.specs.Examples.{the_pass}
use Rattle.tx_model.specs.PassExamples.{names_of, own_of}
use Rattle.tx_model.proofs.ShareNames.{contains_none}
use Rattle.tx_model.proofs.ShareLaws.{split_apart, split_others}
use Rattle.tx_model.proofs.lemmas.Holders.{names_split, all_split, once_split}
use Rattle.tx_model.proofs.lemmas.Lists.{only_item}
use Rattle.tx_model.proofs.laws.examples.holder_examples.Goals as goal

abbrev alone : List PassView
alone = the_pass ∷ []

named : AreNamed names_of alone
named i j one other e f apart =
    absurd (apart ((only_item the_pass i one e).0 ∙ sym (only_item the_pass j other f).0))

own : (number : ℕ) → 1 ≤ number → number ≤ 2 → Contains (1 ∷ 2 ∷ []) number
own zero least most = absurd (omega (arith, least))
own (suc zero) least most = (0, omega arith, refl)
own (suc (suc zero)) least most = (1, omega arith, refl)
own (suc (suc (suc number))) least most = absurd (omega (arith, most))

all : HaveAll own_of alone 2
all number least most = (0, the_pass, refl, own number least most)

once : HaveOnce own_of alone
once i j one other number e f has has' = (only_item the_pass i one e).0 ∙ sym (only_item the_pass j other f).0

pub returns-clause-together : goal.returns-clause-together
returns-clause-together c = (
  names_split alone 0 the_pass (left_of the_pass) (right_of the_pass) refl names_of (split_apart whole ((λ other has. absurd (contains_none other has)), tt)).2
      (split_others whole) named,
  all_split alone 0 the_pass (left_of the_pass) (right_of the_pass) refl own_of refl 2 all,
  once_split alone 0 the_pass (left_of the_pass) (right_of the_pass) refl own_of refl refl once,
)

-- the pass that was given has no commit
nothing : (i : ℕ) (one : PassView) → get_elem? (right_of the_pass ∷ []) i ≡ some one → Contains one.mine 1 → ⊥
nothing i one e has = contains_none 1 (subst (λ (v : PassView). Contains v.mine 1) (sym (only_item (right_of the_pass) i one e).1) has)

pub returns-clause-not_together : goal.returns-clause-not_together
returns-clause-not_together c = (
  λ named. (named 0 1 the_pass the_pass refl refl (λ same. omega (arith, same)) [] [] (0, omega arith, refl) (0, omega arith, refl)).0 ([], refl),
  λ all. let (i, one, e, has) = all 1 (omega arith) (omega arith) in nothing i one e has,
)
