-- The printed form of a query in form reads as that query.
use Rattle.std.proofs.Common.{◌≡◌, refl, ℕ, ◌≤◌, ◌==◌, true, ◌&&◌, nat_le, List, [], ◌∷◌, ◌++◌, length, map, sym, ◌∙◌, ap, subst, eqb-true, arith}
use Rattle.std.proofs.lemmas.List.{length-map}
use Rattle.std.proofs.lemmas.Bool.{and_parts, leb-true}
use Rattle.std.specs.List.{list_all, AllByRecursion}
use Rattle.std.specs.Char.{is_ascii_alphanumeric, to_ascii_lowercase}
use Rattle.mail_words.specs.Key.{KeyNumbers, is_word, is_key, lowered, key_of, word_of, same_key}
use Rattle.mail_query.specs.declared.query.Query.{Query}
use Rattle.mail_query.specs.declared.query.Query.TheVariants as query
use Rattle.mail_query.specs.Printed.{Context}
use Rattle.mail_query.specs.Printed.Context.{Alone, InAny, InAll, UnderNot}
use Rattle.mail_query.specs.Members.{all_of, any_of}
use Rattle.mail_query.specs.Grammar.{is_cut, ReadsAsPrim, ReadsAsItem, ReadsAsItems, ReadsAsConjs, ReadsAs}
use Rattle.mail_query.specs.InForm.{in_form, has_words}
use Rattle.mail_query.specs.Printed.{joined, printed_at, printed}
use Rattle.mail_query.proofs.Folds.{Cases, induction}
use Rattle.mail_query.proofs.Members.{all_of_several, any_of_several}
use Rattle.mail_query.proofs.Cuts.{no_letter_behind}
use Rattle.mail_query.proofs.InForm.{IsGood, in_form-all, in_form-any, in_form-not, has_words-word, has_words-not, has_words-all, has_words-any, each_from-map}
use Rattle.mail_query.proofs.Complete.{word_letters}
use Rattle.mail_query.proofs.Printed.{texts_at, printed-word, printed-not, printed-all, printed-any}

-- a query is read back in each context
pub record IsReadBack (q : Query) : Type 0 where
  pub prim : ReadsAsPrim (printed_at q UnderNot) q
  pub item : ReadsAsItem (printed_at q InAll) q
  pub items : List Query
  pub all_is : all_of items ≡ q
  pub conj : ReadsAsItems (printed_at q InAny) items
  pub alt : ReadsAs (printed_at q Alone) q

-- a word
lowered_same : (word : List ℕ) → list_all (λ byte. to_ascii_lowercase byte == byte) word ≡ true → lowered word ≡ word
lowered_same [] all = refl
lowered_same (byte ∷ word) all =
    let parts = and_parts (to_ascii_lowercase byte == byte) (list_all (λ b. to_ascii_lowercase b == b) word) all in
    ap (λ b. b ∷ lowered word) (eqb-true (to_ascii_lowercase byte) byte parts.0) ∙ ap (λ bytes. byte ∷ bytes) (lowered_same word parts.1)

numbers : ℕ → ℕ → ℕ → ℕ → KeyNumbers
numbers a b c d = record { k0 = a; k1 = b; k2 = c; k3 = d }

same_key_is : (a b : KeyNumbers) → same_key a b ≡ true → a ≡ b
unfolding numbers
same_key_is a b same =
    let first = and_parts (a.k0 == b.k0) _ same in
    let second = and_parts (a.k1 == b.k1) _ first.1 in
    let third = and_parts (a.k2 == b.k2) _ second.1 in
    ap (λ n. numbers n a.k1 a.k2 a.k3) (eqb-true a.k0 b.k0 first.0) ∙ ap (λ n. numbers b.k0 n a.k2 a.k3) (eqb-true a.k1 b.k1 second.0)
    ∙ ap (λ n. numbers b.k0 b.k1 n a.k3) (eqb-true a.k2 b.k2 third.0) ∙ ap (λ n. numbers b.k0 b.k1 b.k2 n) (eqb-true a.k3 b.k3 third.1)

record IsKey (key : KeyNumbers) : Type 0 where
  word : is_word (word_of key) ≡ true
  back : key_of (lowered (word_of key)) ≡ key

key_parts : (key : KeyNumbers) → is_key key ≡ true → IsKey key
unfolding is_key
key_parts key is =
    let outer = and_parts (is_word (word_of key) && list_all (λ byte. to_ascii_lowercase byte == byte) (word_of key))
    (same_key (key_of (word_of key)) key) is in
    let inner = and_parts (is_word (word_of key)) (list_all (λ byte. to_ascii_lowercase byte == byte) (word_of key)) outer.0 in
    record { word = inner.0; back = ap key_of (lowered_same (word_of key) inner.1) ∙ same_key_is (key_of (word_of key)) key outer.1 }

word_prim : (key : KeyNumbers) → is_key key ≡ true → ReadsAsPrim (word_of key) (query.Word key)
word_prim key is =
    let parts = key_parts key is in
    subst (λ k. ReadsAsPrim (word_of key) (query.Word k)) parts.back (ReadsAsPrim.word (word_of key) parts.word)

-- items that are a query
alt_of : (text : List ℕ) (qs : List Query) (q : Query) → all_of qs ≡ q → ReadsAsItems text qs → ReadsAs text q
alt_of text qs q e reads = subst (ReadsAs text) e (ReadsAs.alt text (all_of qs ∷ []) (ReadsAsConjs.one_conj text qs reads))

word_back : (key : KeyNumbers) → is_key key ≡ true → IsReadBack (query.Word key)
word_back key is =
    let q = query.Word key in
    let prim : (context : Context) → ReadsAsPrim (printed_at q context) q =
    λ context. subst (λ text. ReadsAsPrim text q) (sym (printed-word key context)) (word_prim key is) in
    let item : (context : Context) → ReadsAsItems (printed_at q context) (q ∷ []) =
    λ context. ReadsAsItems.one_item (printed_at q context) q (ReadsAsItem.plain (printed_at q context) q (prim context)) in
    record {
      prim = prim UnderNot;
      item = ReadsAsItem.plain (printed_at q InAll) q (prim InAll);
      items = q ∷ [];
      all_is = refl;
      conj = item InAny;
      alt = alt_of (printed_at q Alone) (q ∷ []) q refl (item Alone);
    }

not_back : (q : Query) → IsReadBack q → IsReadBack (query.Not q)
not_back q back =
    let text = 33 ∷ printed_at q UnderNot in
    let p = query.Not q in
    let item : ReadsAsItem text p = ReadsAsItem.negated (printed_at q UnderNot) q back.prim in
    let items : ReadsAsItems text (p ∷ []) = ReadsAsItems.one_item text p item in
    let alt : ReadsAs text p = alt_of text (p ∷ []) p refl items in
    record {
      prim = subst (λ t. ReadsAsPrim t p) (sym (printed-not q UnderNot)) (ReadsAsPrim.group text p alt);
      item = subst (λ t. ReadsAsItem t p) (sym (printed-not q InAll)) item;
      items = p ∷ [];
      all_is = refl;
      conj = subst (λ t. ReadsAsItems t (p ∷ [])) (sym (printed-not q InAny)) items;
      alt = subst (λ t. ReadsAs t p) (sym (printed-not q Alone)) alt;
    }

-- items side by side
space_cut : (text rest : List ℕ) → is_cut text rest ≡ true → is_cut (32 ∷ text) rest ≡ true
space_cut [] rest cut = refl
space_cut (byte ∷ text) rest cut = cut

space_items : (text : List ℕ) (qs : List Query) → ReadsAsItems text qs → ReadsAsItems (32 ∷ text) qs
space_items _ _ (ReadsAsItems.one_item text q reads) = ReadsAsItems.one_item (32 ∷ text) q (ReadsAsItem.space_before_item text q reads)
space_items _ _ (ReadsAsItems.more_items text rest q qs reads cut more) =
    ReadsAsItems.more_items (32 ∷ text) rest q qs (ReadsAsItem.space_before_item text q reads) (space_cut text rest cut) more

items_joined : (q : Query) (qs : List Query) → AllByRecursion IsReadBack (q ∷ qs) → ReadsAsItems (joined 32 (texts_at InAll (q ∷ qs))) (q ∷ qs)
items_joined q [] back = ReadsAsItems.one_item (printed_at q InAll) q back.0.item
items_joined q (p ∷ qs) back =
    let text = printed_at q InAll in
    let rest = joined 32 (texts_at InAll (p ∷ qs)) in
    ReadsAsItems.more_items text (32 ∷ rest) q (p ∷ qs) back.0.item (no_letter_behind text (32 ∷ rest) refl)
    (space_items rest (p ∷ qs) (items_joined p qs back.1))

conjs_joined : (q : Query) (qs : List Query) → AllByRecursion IsReadBack (q ∷ qs) → ReadsAsConjs (joined 124 (texts_at InAny (q ∷ qs))) (q ∷ qs)
conjs_joined q [] back = subst (λ p. ReadsAsConjs (printed_at q InAny) (p ∷ [])) back.0.all_is
    (ReadsAsConjs.one_conj (printed_at q InAny) back.0.items back.0.conj)
conjs_joined q (p ∷ qs) back =
    let text = printed_at q InAny in
    let rest = joined 124 (texts_at InAny (p ∷ qs)) in
    subst (λ r. ReadsAsConjs (text ++ (124 ∷ rest)) (r ∷ p ∷ qs)) back.0.all_is
    (ReadsAsConjs.more_conjs text rest back.0.items (p ∷ qs) back.0.conj (conjs_joined p qs back.1))

-- at least two
two_or_more : (qs : List Query) → nat_le 2 (length (map in_form qs)) ≡ true → 2 ≤ length qs
two_or_more qs e = let long : 2 ≤ length (map in_form qs) = leb-true 2 (length (map in_form qs)) e in omega (arith, length-map qs in_form)

not_one : (qs : List Query) → 2 ≤ length qs → length qs ≡ 1 → ⊥
not_one qs long one = omega arith

some_items : (qs : List Query) → 2 ≤ length qs → AllByRecursion IsReadBack qs → ReadsAsItems (joined 32 (texts_at InAll qs)) qs
some_items [] long back = absurd (omega arith)
some_items (q ∷ qs) long back = items_joined q qs back

some_conjs : (qs : List Query) → 2 ≤ length qs → AllByRecursion IsReadBack qs → ReadsAsConjs (joined 124 (texts_at InAny qs)) qs
some_conjs [] long back = absurd (omega arith)
some_conjs (q ∷ qs) long back = conjs_joined q qs back

all_back : (qs : List Query) → 2 ≤ length qs → AllByRecursion IsReadBack qs → IsReadBack (query.All (record { members = qs }))
all_back qs long back =
    let p = query.All (record { members = qs }) in
    let text = joined 32 (texts_at InAll qs) in
    let is : all_of qs ≡ p = sym (all_of_several qs (not_one qs long)) in
    let items : ReadsAsItems text qs = some_items qs long back in
    let alt : ReadsAs text p = alt_of text qs p is items in
    let wrapped : ReadsAsPrim (40 ∷ (text ++ (41 ∷ []))) p = ReadsAsPrim.group text p alt in
    record {
      prim = subst (λ t. ReadsAsPrim t p) (sym (printed-all qs UnderNot)) wrapped;
      item = ReadsAsItem.plain (printed_at p InAll) p (subst (λ t. ReadsAsPrim t p) (sym (printed-all qs InAll)) wrapped);
      items = qs;
      all_is = is;
      conj = subst (λ t. ReadsAsItems t qs) (sym (printed-all qs InAny)) items;
      alt = subst (λ t. ReadsAs t p) (sym (printed-all qs Alone)) alt;
    }

any_back : (qs : List Query) → 2 ≤ length qs → AllByRecursion IsReadBack qs → IsReadBack (query.Any (record { members = qs }))
any_back qs long back =
    let p = query.Any (record { members = qs }) in
    let text = joined 124 (texts_at InAny qs) in
    let is : any_of qs ≡ p = sym (any_of_several qs (not_one qs long)) in
    let alt : ReadsAs text p = subst (ReadsAs text) is (ReadsAs.alt text qs (some_conjs qs long back)) in
    let wrapped : ReadsAsPrim (40 ∷ (text ++ (41 ∷ []))) p = ReadsAsPrim.group text p alt in
    let any_item : ReadsAsItem (40 ∷ (text ++ (41 ∷ []))) p = ReadsAsItem.plain (40 ∷ (text ++ (41 ∷ []))) p wrapped in
    record {
      prim = subst (λ t. ReadsAsPrim t p) (sym (printed-any qs UnderNot)) wrapped;
      item = subst (λ t. ReadsAsItem t p) (sym (printed-any qs InAll)) any_item;
      items = p ∷ [];
      all_is = refl;
      conj = subst (λ t. ReadsAsItems t (p ∷ [])) (sym (printed-any qs InAny)) (ReadsAsItems.one_item (40 ∷ (text ++ (41 ∷ []))) p any_item);
      alt = subst (λ t. ReadsAs t p) (sym (printed-any qs Alone)) alt;
    }

abbrev GoodIsBack : Query → Type 0
GoodIsBack q = IsGood q → IsReadBack q

each_back : (qs : List Query) → AllByRecursion GoodIsBack qs → AllByRecursion (λ q. in_form q ≡ true) qs → AllByRecursion (λ q. has_words q ≡ true) qs
    → AllByRecursion IsReadBack qs
each_back [] back formed worded = tt
each_back (q ∷ qs) back formed worded = (back.0 (record { formed = formed.0; worded = worded.0 }), each_back qs back.1 formed.1 worded.1)

back_all : (qs : List Query) → AllByRecursion GoodIsBack qs → GoodIsBack (query.All (record { members = qs }))
back_all qs back good =
    let formed = and_parts (nat_le 2 (length (map in_form qs))) (list_all (λ member. member) (map in_form qs)) (sym (in_form-all qs) ∙ good.formed) in
    all_back qs (two_or_more qs formed.0)
    (each_back qs back (each_from-map in_form qs formed.1) (each_from-map has_words qs (sym (has_words-all qs) ∙ good.worded)))

back_any : (qs : List Query) → AllByRecursion GoodIsBack qs → GoodIsBack (query.Any (record { members = qs }))
back_any qs back good =
    let formed = and_parts (nat_le 2 (length (map in_form qs))) (list_all (λ member. member) (map in_form qs)) (sym (in_form-any qs) ∙ good.formed) in
    any_back qs (two_or_more qs formed.0)
    (each_back qs back (each_from-map in_form qs formed.1) (each_from-map has_words qs (sym (has_words-any qs) ∙ good.worded)))

back_cases : Cases GoodIsBack
back_cases = record {
  word = λ key good. word_back key (sym (has_words-word key) ∙ good.worded);
  negation = λ q back good. not_back q (back (record { formed = sym (in_form-not q) ∙ good.formed; worded = sym (has_words-not q) ∙ good.worded }));
  conjunction = back_all;
  disjunction = back_any;
}

pub is_read_back : (q : Query) → IsGood q → IsReadBack q
is_read_back = induction GoodIsBack back_cases

pub reads_back : (q : Query) → in_form q ≡ true → has_words q ≡ true → ReadsAs (printed q) q
reads_back q formed worded = (is_read_back q (record { formed = formed; worded = worded })).alt

-- the letters of a key's word
pub key_letters : (key : KeyNumbers) → is_key key ≡ true → list_all is_ascii_alphanumeric (word_of key) ≡ true
key_letters key is = word_letters (word_of key) (key_parts key is).word
