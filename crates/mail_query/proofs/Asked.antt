-- What is known of the messages of keys, as they are asked for.
use Rattle.std.proofs.Common.{◌≡◌, ◌⊎◌, ℕ, Bool, true, false, cond, List, refl, sym, ap, ◌∙◌, subst, Some, Option, inl, inr, IsSome}
use Rattle.std.specs.BTreeMap.{BTreeMap, get, is_at}
use Rattle.std.specs.Ordering.{is_eq}
use Rattle.std.specs.List.{Contains}
use Rattle.std.proofs.lemmas.Cmp.{tied_itself}
use Rattle.mail_words.specs.Key.{KeyNumbers, key_cmp}
use Rattle.mail_query.specs.declared.found.Found.{Found}
use Rattle.mail_query.specs.Answers.{Table, messages_with}
use Rattle.mail_query.specs.Bits.{IsSetOf, found_has, has_word, Knows}
use Rattle.mail_query.specs.Numbers.{has_number}
use Rattle.mail_query.proofs.KeyOrder.{KeyOrder}
use Rattle.mail_query.proofs.Tables.{has_messages}

-- ---- one entry more

abbrev pub Updates : BTreeMap KeyNumbers Found → BTreeMap KeyNumbers Found → KeyNumbers → Found → Type 0
Updates before after key found = (q : KeyNumbers) → get key_cmp after q ≡ cond (is_at (key_cmp key) q) (Some found) (get key_cmp before q)

module _ (order : KeyOrder) (before after : BTreeMap KeyNumbers Found) (key : KeyNumbers) (found : Found) (updates : Updates before after key found) where
  entry_at : (q : KeyNumbers) (set : Found) (b : Bool) → is_at (key_cmp key) q ≡ b → get key_cmp after q ≡ Some set
      → ((key ≡ q) × (found ≡ set)) ⊎ (get key_cmp before q ≡ Some set)
  entry_at q set true at is =
      let here : Some found ≡ Some set = sym (updates q ∙ ap (λ b. cond b (Some found) (get key_cmp before q)) at) ∙ is in
      inl (order.same key q (order.ties key q ∙ at), (cc))
  entry_at q set false at is = inr (sym (updates q ∙ ap (λ b. cond b (Some found) (get key_cmp before q)) at) ∙ is)

  -- what holds of the new entry and of the old ones holds of all
  pub each_entry : (Holds : KeyNumbers → Found → Type 0) → Holds key found → ((q : KeyNumbers) (set : Found) → get key_cmp before q ≡ Some set → Holds q set)
      → (q : KeyNumbers) (set : Found) → get key_cmp after q ≡ Some set → Holds q set
  each_entry Holds new old q set is = from (entry_at q set (is_at (key_cmp key) q) refl is)
    where
      from : ((key ≡ q) × (found ≡ set)) ⊎ (get key_cmp before q ≡ Some set) → Holds q set
      from (inl here) = subst (λ (k : KeyNumbers). Holds k set) here.0 (subst (λ (s : Found). Holds key s) here.1 new)
      from (inr there) = old q set there

  some_at : (q : KeyNumbers) (b : Bool) → is_at (key_cmp key) q ≡ b → IsSome (get key_cmp before q) → IsSome (get key_cmp after q)
  some_at q true at some = subst (λ (o : Option Found). IsSome o) (sym (updates q ∙ ap (λ b. cond b (Some found) (get key_cmp before q)) at)) refl
  some_at q false at some = subst (λ (o : Option Found). IsSome o) (sym (updates q ∙ ap (λ b. cond b (Some found) (get key_cmp before q)) at)) some

  pub has_more : (q : KeyNumbers) → IsSome (get key_cmp before q) ⊎ (q ≡ key) → IsSome (get key_cmp after q)
  has_more q (inl some) = some_at q (is_at (key_cmp key) q) refl some
  has_more q (inr same) =
      let itself : is_at (key_cmp key) q ≡ true = ap (λ k. is_eq (key_cmp key k)) same ∙ ap is_eq (tied_itself order.total key) in
      subst (λ (o : Option Found). IsSome o) (sym (updates q ∙ ap (λ b. cond b (Some found) (get key_cmp before q)) itself)) refl

-- the messages of a key, as they were listed
pub found_right : (count : ℕ) (found : Found) (numbers : List ℕ) (table : Table) (key : KeyNumbers)
    → IsSetOf count (found_has found) (λ number. has_number number numbers)
    → numbers ≡ messages_with table key → IsSetOf count (found_has found) (has_word table key)
found_right count found numbers table key set is number low high =
    set number low high ∙ ap (has_number number) is ∙ has_messages table key number

-- ---- some of the keys

pub narrower : (count : ℕ) (found : BTreeMap KeyNumbers Found) (few many : List KeyNumbers) (table : Table)
    → ((key : KeyNumbers) → Contains few key → Contains many key)
    → Knows count found many table → Knows count found few table
narrower count found few many table within knows = record { right = knows.right; all = λ key there. knows.all key (within key there) }
