-- Maps of lists with one list more.
use Rattle.std.proofs.Common.{◌≡◌, ◌⊎◌, ℕ, Bool, true, false, cond, refl, sym, ap, ◌∙◌, subst, Vec, Some, Option, inl, inr, IsSome, ◌↔◌}
use Rattle.std.specs.declared.alloc.Global.{Global}
use Rattle.std.specs.BTreeMap.{get, is_at}
use Rattle.std.specs.Cmp.{IsTotalOrder}
use Rattle.std.specs.Ordering.{is_eq}
use Rattle.std.proofs.lemmas.Cmp.{tied_itself}
use Rattle.mail_words.specs.Key.{KeyNumbers, key_cmp, same_key}
use Rattle.mail_answers.specs.Lists.{ListMap}

-- what is known of keys, as a law of theirs says it
pub record AreKeys : Type 0 where
  pub total : IsTotalOrder key_cmp
  pub ties : (key other : KeyNumbers) → same_key key other ≡ is_eq (key_cmp key other)
  pub same : (key other : KeyNumbers) → (same_key key other ≡ true) ↔ (key ≡ other)

module _ (keys : AreKeys) (before after : ListMap) (key : KeyNumbers) (list : Vec ℕ Global)
    (updates : (q : KeyNumbers) → get key_cmp after q ≡ cond (is_at (key_cmp key) q) (Some list) (get key_cmp before q)) where
  entry_at : (q : KeyNumbers) (other : Vec ℕ Global) (b : Bool) → is_at (key_cmp key) q ≡ b → get key_cmp after q ≡ Some other
      → ((key ≡ q) × (list ≡ other)) ⊎ (get key_cmp before q ≡ Some other)
  entry_at q other true at is =
      let here : Some list ≡ Some other = sym (updates q ∙ ap (λ b. cond b (Some list) (get key_cmp before q)) at) ∙ is in
      inl ((keys.same key q).0 (keys.ties key q ∙ at), (cc))
  entry_at q other false at is = inr (sym (updates q ∙ ap (λ b. cond b (Some list) (get key_cmp before q)) at) ∙ is)

  -- what holds of the new list and of the old ones holds of all
  pub each_list : (Holds : KeyNumbers → Vec ℕ Global → Type 0) → Holds key list
      → ((q : KeyNumbers) (other : Vec ℕ Global) → get key_cmp before q ≡ Some other → Holds q other)
      → (q : KeyNumbers) (other : Vec ℕ Global) → get key_cmp after q ≡ Some other → Holds q other
  each_list Holds new old q other is = from (entry_at q other (is_at (key_cmp key) q) refl is)
    where
      from : ((key ≡ q) × (list ≡ other)) ⊎ (get key_cmp before q ≡ Some other) → Holds q other
      from (inl here) = subst (λ (k : KeyNumbers). Holds k other) here.0 (subst (λ (l : Vec ℕ Global). Holds key l) here.1 new)
      from (inr there) = old q other there

  some_at : (q : KeyNumbers) (b : Bool) → is_at (key_cmp key) q ≡ b → IsSome (get key_cmp before q) → IsSome (get key_cmp after q)
  some_at q true at some = subst (λ (o : Option (Vec ℕ Global)). IsSome o) (sym (updates q ∙ ap (λ b. cond b (Some list) (get key_cmp before q)) at)) refl
  some_at q false at some = subst (λ (o : Option (Vec ℕ Global)). IsSome o) (sym (updates q ∙ ap (λ b. cond b (Some list) (get key_cmp before q)) at)) some

  pub has_more : (q : KeyNumbers) → IsSome (get key_cmp before q) ⊎ (q ≡ key) → IsSome (get key_cmp after q)
  has_more q (inl some) = some_at q (is_at (key_cmp key) q) refl some
  has_more q (inr same) =
      let itself : is_at (key_cmp key) q ≡ true = ap (λ k. is_eq (key_cmp key k)) same ∙ ap is_eq (tied_itself keys.total key) in
      subst (λ (o : Option (Vec ℕ Global)). IsSome o) (sym (updates q ∙ ap (λ b. cond b (Some list) (get key_cmp before q)) itself)) refl
