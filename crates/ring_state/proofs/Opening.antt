-- The world before the first step, as it is stored.
use Rattle.std.proofs.Common.{◌≡◌, ℕ, zero, suc, ◌*◌, List, [], ◌∷◌, map, replicate, refl, sym, ◌∙◌, ap}
use mathlib.Core.Option.{some, some-injective, some-ne-none}
use lib.ListN.{get_elem?}
use Rattle.tx_model.specs.declared.gate.Region.{Region}
use Rattle.ring_core.specs.declared.shape.Shape.{Shape}
use Rattle.ring_state.specs.declared.plain.Plain.{Plain}
use Rattle.ring_worlds.specs.Runs.{resting, opening_world}
use Rattle.ring_state.specs.Plain.{MemberView, process_of, resting_member}
use Rattle.ring_state.specs.Kept.{world_of, HaveShape}

resting_processes : (shape : Shape) (n : ℕ) → map process_of (replicate n (resting_member shape)) ≡ replicate n (resting shape)
resting_processes shape zero = refl
resting_processes shape (suc n) = ap (λ processes. resting shape ∷ processes) (resting_processes shape n)

one_of : (x : MemberView) (n i : ℕ) (y : MemberView) → get_elem? (replicate n x) i ≡ some y → x ≡ y
one_of x zero i y e = absurd (some-ne-none y (sym e))
one_of x (suc n) zero y e = some-injective x y e
one_of x (suc n) (suc i) y e = one_of x n i y e

module _ (d : Plain) (callers : ℕ) (members : d.members.items ≡ replicate callers (resting_member d.shape)) where
  pub opens : (regions : List Region) (first : List ℕ) → d.regions ≡ regions → d.opening ≡ first → d.index ≡ 0 → d.tags.items ≡ replicate d.shape.ring 0
      → d.sigs.items ≡ replicate (d.shape.ring * d.shape.sig_words) 0 → d.heap.items ≡ first → d.history.items ≡ []
      → world_of d ≡ opening_world d.shape regions first callers
  opens regions first same_regions same_first index tags sigs heap history =
      let processes : map process_of d.members.items ≡ replicate callers (resting d.shape) = ap (map process_of) members ∙ resting_processes d.shape callers in
      cc

  pub have_shape : HaveShape d
  have_shape who m at =
      sym (ap (λ (m : MemberView). m.machine.shape) (one_of (resting_member d.shape) callers who m (ap (λ members. get_elem? members who) (sym members) ∙ at)))
