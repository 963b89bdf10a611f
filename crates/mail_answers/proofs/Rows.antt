-- What a query finds in the rows of a complete index.
use Rattle.std.proofs.Common.{◌≡◌, ℕ, suc, ◌+◌, ◌-◌, ◌<◌, ◌≤◌, Bool, true, false, cond, List, [], ◌∷◌, length, get_or, take, map, filter, refl, sym, ap, ◌∙◌, subst, arith, Contains}
use mathlib.Core.Path.{fun_ext}
use Rattle.std.specs.List.{range_with_len}
use Rattle.std.proofs.lemmas.List.{take_all}
use Rattle.mail_words.specs.Key.{KeyNumbers}
use Rattle.mail_query.specs.Answers.{Table, keys_with, numbers_where}
use Rattle.mail_query.specs.Truth.{satisfies, satisfies_step, has_key}
use Rattle.mail_query.specs.declared.query.Query.{Query}
use Rattle.mail_query.specs.declared.query.Query.TheFolds.{fold-Query}
use Rattle.mail_query.specs.declared.query.Query.TheOpen.{Query-F}
use Rattle.tx_heap.specs.Layout.{mail_layout}
use Rattle.tx_heap.specs.Heap.{Heap}
use Rattle.tx_heap.specs.Index.{list_of, added_keys, rows_of, IsGoodIndex}
use Rattle.mail_answers.specs.Complete.{IsComplete}
use Rattle.mail_answers.specs.Hits.{hits_from, hits_in}
use Rattle.mail_answers.proofs.Maps.{AreKeys}
use Rattle.mail_answers.proofs.Members.{same_tests, key_among, has_key_among, pair_among, key_of_pair}

-- ---- a query sees the keys alone
same_step : (keys others : List KeyNumbers) → ((key : KeyNumbers) → has_key key keys ≡ has_key key others)
    → (layer : Query-F Bool (List Bool)) → satisfies_step keys layer ≡ satisfies_step others layer
same_step keys others same (Query-F.Word key) = same key
same_step keys others same (Query-F.Not of) = refl
same_step keys others same (Query-F.All of) = refl
same_step keys others same (Query-F.Any of) = refl

pub same_truth : (keys others : List KeyNumbers) → ((key : KeyNumbers) → has_key key keys ≡ has_key key others) → (query : Query)
    → satisfies query keys ≡ satisfies query others
same_truth keys others same query =
    ap (λ (step : Query-F Bool (List Bool) → Bool). fold-Query Bool (List Bool) step (λ queries. queries.members) query)
    (fun_ext (same_step keys others same))

-- ---- numbers and lists, one after the other
kept_number : (b c : Bool) (number : ℕ) (keys : List KeyNumbers) (numbers : List ℕ) (rest : List (ℕ × List KeyNumbers)) → b ≡ c
    → numbers ≡ map (λ (list : ℕ × List KeyNumbers). list.0) rest
    → cond b (number ∷ numbers) numbers ≡ map (λ (list : ℕ × List KeyNumbers). list.0) (cond c ((number, keys) ∷ rest) rest)
kept_number true true number keys numbers rest same later = ap (λ l. number ∷ l) later
kept_number true false number keys numbers rest same later = let e : ⊥ = cc in absurd e
kept_number false true number keys numbers rest same later = let e : ⊥ = cc in absurd e
kept_number false false number keys numbers rest same later = later

hits_where : (query : Query) (table : Table) (from : ℕ) (lists : List (List KeyNumbers))
    → ((k : ℕ) → k < length lists → satisfies query (keys_with table (from + k)) ≡ satisfies query (get_or lists k []))
    → filter (λ number. satisfies query (keys_with table number)) (range_with_len from (length lists)) ≡ hits_from from lists query
hits_where query table from [] same = refl
hits_where query table from (keys ∷ lists) same =
    let here : from + 0 ≡ from = omega arith in
    let first : satisfies query (keys_with table from) ≡ satisfies query keys =
    ap (λ (n : ℕ). satisfies query (keys_with table n)) (sym here) ∙ same 0 (omega arith) in
    kept_number (satisfies query (keys_with table from)) (satisfies query keys) from keys _ _ first
    (hits_where query table (from + 1) lists (λ k within.
    let at : from + 1 + k ≡ from + suc k = omega arith in
    ap (λ (n : ℕ). satisfies query (keys_with table n)) at ∙ same (suc k) (omega (arith, within))))

-- ---- a complete index
module _ (are : AreKeys) {lists : List (List KeyNumbers)} {heap : Heap} (good : IsGoodIndex mail_layout lists heap) (complete : IsComplete lists heap) where
  all_added : (message : ℕ) → 1 ≤ message → message ≤ length lists → added_keys lists heap message ≡ list_of lists message
  all_added message from to =
      ap (λ need. take (length (list_of lists message) - need) (list_of lists message)) (complete.needs message from to)
      ∙ take_all (length (list_of lists message) - 0) (list_of lists message) (omega arith)

  -- the keys that the rows pair with a message are those of its list
  same_keys : (message : ℕ) → 1 ≤ message → message ≤ length lists → (key : KeyNumbers)
      → has_key key (keys_with (rows_of mail_layout heap) message) ≡ has_key key (list_of lists message)
  same_keys message from to key =
      let rows = rows_of mail_layout heap in
      same_tests (has_key key (keys_with rows message)) (has_key key (list_of lists message))
      (λ has. has_key_among are key (list_of lists message)
      (subst (λ keys. Contains keys key) (all_added message from to)
      ((good.rows.exactly (key, message)).0 (pair_among rows key message (key_among are key (keys_with rows message) has))).2))
      (λ has. has_key_among are key (keys_with rows message)
      (key_of_pair rows key message ((good.rows.exactly (key, message)).1
      (from, to, subst (λ keys. Contains keys key) (sym (all_added message from to)) (key_among are key (list_of lists message) has)))))

  -- so a query finds in the rows what it finds in the lists
  pub hits_of_rows : (query : Query) → numbers_where query (rows_of mail_layout heap) (length lists) ≡ hits_in lists query
  hits_of_rows query =
      hits_where query (rows_of mail_layout heap) 1 lists (λ k within.
      let at : 1 + k - 1 ≡ k = omega arith in
      same_truth (keys_with (rows_of mail_layout heap) (1 + k)) (get_or lists k []) (λ key.
      same_keys (1 + k) (omega arith) (omega (arith, within)) key ∙ ap (λ (i : ℕ). has_key key (get_or lists i [])) at) query)
