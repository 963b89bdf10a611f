-- What proofs take of the order of keys. It is a law of the crate of the keys.
use Rattle.std.proofs.Common.{◌≡◌, true, ◌↔◌}
use Rattle.std.specs.Ordering.{is_eq}
use Rattle.std.specs.Cmp.{IsTotalOrder}
use Rattle.mail_words.specs.Key.{KeyNumbers, key_cmp, same_key}

pub record KeyOrder : Type 0 where
  pub total : IsTotalOrder key_cmp
  pub ties : (key other : KeyNumbers) → same_key key other ≡ is_eq (key_cmp key other)
  pub same : (key other : KeyNumbers) → same_key key other ≡ true → key ≡ other

-- from the clauses of the law
pub key_order : IsTotalOrder key_cmp → ((key other : KeyNumbers) → same_key key other ≡ is_eq (key_cmp key other))
    → ((key other : KeyNumbers) → (same_key key other ≡ true) ↔ (key ≡ other)) → KeyOrder
key_order total ties same = record { total = total; ties = ties; same = λ key other. (same key other).0 }
