-- A search along the chain of a bucket.
use Rattle.std.proofs.Common.{◌≡◌, ◌≢◌, ℕ, suc, ◌+◌, ◌-◌, ◌<◌, ◌≤◌, List, [], ◌∷◌, ◌++◌, length, get_or, refl, sym, ◌∙◌, ap, subst, arith}
use Rattle.std.specs.Prelude.{Contains}
use Rattle.std.specs.List.{All, range_with_len}
use Rattle.std.proofs.lemmas.List.{append-nil, append_assoc}
use Rattle.std.proofs.lemmas.List.Elements.{All-nil, All-push, All-contains, Contains-append_right}
use Rattle.mail_words.specs.Key.{KeyNumbers}
use Rattle.tx_heap.specs.Layout.{Layout}
use Rattle.tx_heap.specs.Segment.{chain, free_of, head_at, first_at, next_at, key_at, KeyRecord, bucket, record_at, IsOfBucket, IsInForm}
use Rattle.tx_heap.proofs.lemmas.Lanes.{contains_first, contains_rest}
use Rattle.tx_buckets.specs.Records.{IsRecordOf}
use Rattle.tx_buckets.proofs.lemmas.Buckets.{record_among, record_whole, record_falls}
use Rattle.tx_buckets.proofs.lemmas.Lists.{mapped_from, flat_from, range_below}
use Rattle.tx_buckets.proofs.lemmas.Chains.{chain_end, chain_step, chain_long}

-- ---- the search for a key in its bucket
-- so far the search has passed records of other keys
pub record IsSearch (words : List ℕ) (number : ℕ) (key : KeyNumbers) (at : ℕ) : Type 0 where
  pub passed : List ℕ
  pub split : chain words next_at (length words) (get_or words (head_at number) 0) ≡ passed ++ chain words next_at (length words) at
  pub others : All (λ o. key_at words o ≢ key) passed

module _ (layout : Layout) (lane : ℕ) (words : List ℕ) (form : IsInForm layout lane words) (key : KeyNumbers)
    (in_range : layout.bucket_of key < layout.buckets) where
  abbrev offsets : ℕ → List ℕ
  offsets at = chain words next_at (length words) at

  abbrev head : ℕ
  head = get_or words (head_at (layout.bucket_of key)) 0

  -- ---- the steps of a search
  pub search_start : IsSearch words (layout.bucket_of key) key head
  search_start = record { passed = []; split = refl; others = All-nil (λ o. key_at words o ≢ key) }

  module _ (at : ℕ) (search : IsSearch words (layout.bucket_of key) key at) where
    within_head : (o : ℕ) → Contains (offsets at) o → Contains (offsets head) o
    within_head o among = subst (λ xs. Contains xs o) (sym search.split) (Contains-append_right search.passed (offsets at) o among)

    module _ (some : at ≢ 0) where
      -- an offset that isn't 0 is that of a record; the head of a chain is at most the number of words, or there is no word
      here : Contains (offsets head) at
      here =
          within_head at
          (subst (λ most. Contains (chain words next_at most at) at) (sym size)
          (subst (λ xs. Contains xs at) (sym (chain_step words next_at (length words - 1) at some))
          (contains_first at (chain words next_at (length words - 1) (get_or words (at + next_at) 0)))))
        where
          size : length words ≡ suc (length words - 1)
          size = omega (arith, form.begins, form.ends)

      pub search_whole : (first_at layout ≤ at) × (at + 6 ≤ free_of words)
      search_whole = record_whole form (layout.bucket_of key) in_range at here

      pub search_falls : get_or words (at + next_at) 0 < at
      search_falls = record_falls form (layout.bucket_of key) in_range at here

      -- the rest of the chain
      rest_is : offsets at ≡ at ∷ offsets (get_or words (at + next_at) 0)
      rest_is =
          let next = get_or words (at + next_at) 0 in
          let size : length words ≡ suc (length words - 1) = omega (arith, form.begins, form.ends) in
          let whole = search_whole in
          let falls = search_falls in
          let step = ap (λ most. chain words next_at most at) size ∙ chain_step words next_at (length words - 1) at some in
          step
          ∙ ap (λ rest. at ∷ rest) (chain_long words next_at (length words - 1) (length words) next (omega (arith, falls, whole.1, form.ends))
          (omega (arith, falls, whole.1, form.ends)) (λ o among.
          record_falls form (layout.bucket_of key) in_range o
          (within_head o (subst (λ xs. Contains xs o) (sym step) (contains_rest at o (chain words next_at (length words - 1) next) among)))))

      pub search_next : key_at words at ≢ key → IsSearch words (layout.bucket_of key) key (get_or words (at + next_at) 0)
      search_next other = record {
        passed = search.passed ++ at ∷ [];
        split = search.split ∙ ap (λ rest. search.passed ++ rest) rest_is
            ∙ sym (append_assoc search.passed (at ∷ []) (offsets (get_or words (at + next_at) 0)));
        others = All-push (λ o. key_at words o ≢ key) search.passed at search.others other;
      }

      pub search_found : key_at words at ≡ key → IsRecordOf layout words key at
      search_found has = record { among = record_among form (layout.bucket_of key) in_range at here; has_key = has }

    -- a record of the key would have been passed
    pub search_ended : at ≡ 0 → (o : ℕ) → ¬ IsRecordOf layout words key o
    search_ended none o is =
        let (number, among_numbers, in_bucket) = flat_from (bucket words) (range_with_len 0 layout.buckets) (record_at words o) is.among in
        let of_bucket = All-contains (IsOfBucket layout number) (bucket words number) (record_at words o)
        (form.buckets number (range_below layout.buckets number among_numbers)) in_bucket in
        let own : number ≡ layout.bucket_of key = sym of_bucket ∙ ap layout.bucket_of is.has_key in
        let (offset, among, same) = mapped_from (record_at words) (offsets head) (record_at words o)
        (subst (λ n. Contains (bucket words n) (record_at words o)) own in_bucket) in
        let offset_is : offset ≡ o = ap (λ (r : KeyRecord). r.at) same in
        let all = search.split ∙ ap (λ rest. search.passed ++ rest) (chain_end words next_at (length words) at none) ∙ append-nil search.passed in
        let was_passed = subst (λ xs. Contains xs o) all (subst (Contains (offsets head)) offset_is among) in
        All-contains (λ p. key_at words p ≢ key) search.passed o search.others was_passed is.has_key
