-- What a text reads as is in form, and its keys are keys of words.
use Rattle.std.proofs.Common.{◌≡◌, refl, ℕ, ◌≤◌, Bool, true, ◌&&◌, nat_le, List, [], ◌∷◌, length, map, ◌∙◌, arith}
use Rattle.std.proofs.lemmas.List.{length-map}
use Rattle.std.proofs.lemmas.Bool.{and_from, and_parts, le-leb}
use Rattle.std.specs.List.{list_all, AllByRecursion}
use Rattle.mail_words.specs.Key.{KeyNumbers, is_word, is_key, lowered, key_of}
use Rattle.mail_query.specs.declared.query.Query.{Query}
use Rattle.mail_query.specs.declared.query.Query.TheVariants as query
use Rattle.mail_query.specs.Members.{all_of, any_of}
use Rattle.mail_query.specs.Grammar.{ReadsAsPrim, ReadsAsItem, ReadsAsItems, ReadsAsConjs, ReadsAs}
use Rattle.mail_query.specs.InForm.{in_form_step, in_form, has_words_step, has_words}
use Rattle.mail_query.proofs.Folds.{folded_word, folded_not, folded_all, folded_any}

each_of-map : (test : Query → Bool) (qs : List Query) → AllByRecursion (λ q. test q ≡ true) qs → list_all (λ member. member) (map test qs) ≡ true
each_of-map test [] each = refl
each_of-map test (q ∷ qs) each = and_from (test q) (list_all (λ member. member) (map test qs)) each.0 (each_of-map test qs each.1)

pub each_from-map : (test : Query → Bool) (qs : List Query) → list_all (λ member. member) (map test qs) ≡ true → AllByRecursion (λ q. test q ≡ true) qs
each_from-map test [] all = tt
each_from-map test (q ∷ qs) all =
    let parts = and_parts (test q) (list_all (λ member. member) (map test qs)) all in
    (parts.0, each_from-map test qs parts.1)

-- in form
pub in_form-all : (qs : List Query)
    → in_form (query.All (record { members = qs })) ≡ nat_le 2 (length (map in_form qs)) && list_all (λ member. member) (map in_form qs)
in_form-all qs = folded_all Bool in_form_step qs

pub in_form-any : (qs : List Query)
    → in_form (query.Any (record { members = qs })) ≡ nat_le 2 (length (map in_form qs)) && list_all (λ member. member) (map in_form qs)
in_form-any qs = folded_any Bool in_form_step qs

pub in_form-not : (q : Query) → in_form (query.Not q) ≡ in_form q
in_form-not q = folded_not Bool in_form_step q

several_in_form : (qs : List Query) → 2 ≤ length qs → AllByRecursion (λ q. in_form q ≡ true) qs
    → nat_le 2 (length (map in_form qs)) && list_all (λ member. member) (map in_form qs) ≡ true
several_in_form qs two each =
    and_from (nat_le 2 (length (map in_form qs))) (list_all (λ member. member) (map in_form qs))
    (le-leb 2 (length (map in_form qs)) (omega (arith, length-map qs in_form))) (each_of-map in_form qs each)

-- words
pub has_words-word : (key : KeyNumbers) → has_words (query.Word key) ≡ is_key key
has_words-word key = folded_word Bool has_words_step key

pub has_words-not : (q : Query) → has_words (query.Not q) ≡ has_words q
has_words-not q = folded_not Bool has_words_step q

pub has_words-all : (qs : List Query) → has_words (query.All (record { members = qs })) ≡ list_all (λ member. member) (map has_words qs)
has_words-all qs = folded_all Bool has_words_step qs

pub has_words-any : (qs : List Query) → has_words (query.Any (record { members = qs })) ≡ list_all (λ member. member) (map has_words qs)
has_words-any qs = folded_any Bool has_words_step qs

-- a query is in form and has words
pub record IsGood (q : Query) : Type 0 where
  pub formed : in_form q ≡ true
  pub worded : has_words q ≡ true

formed_each : (qs : List Query) → AllByRecursion IsGood qs → AllByRecursion (λ q. in_form q ≡ true) qs
formed_each [] each = tt
formed_each (q ∷ qs) each = (each.0.formed, formed_each qs each.1)

worded_each : (qs : List Query) → AllByRecursion IsGood qs → AllByRecursion (λ q. has_words q ≡ true) qs
worded_each [] each = tt
worded_each (q ∷ qs) each = (each.0.worded, worded_each qs each.1)

-- one query or more, each of them good
abbrev pub SomeGood : List Query → Type 0
SomeGood [] = ⊥
SomeGood (q ∷ qs) = AllByRecursion IsGood (q ∷ qs)

pub each_good : (qs : List Query) → SomeGood qs → AllByRecursion IsGood qs
each_good [] some = absurd some
each_good (q ∷ qs) some = some

two : (p q : Query) (qs : List Query) → 2 ≤ length (p ∷ q ∷ qs)
two p q qs = omega arith

pub all_good : (qs : List Query) → SomeGood qs → IsGood (all_of qs)
all_good [] some = absurd some
all_good (q ∷ []) some = some.0
all_good (p ∷ q ∷ qs) some = record {
  formed = in_form-all (p ∷ q ∷ qs) ∙ several_in_form (p ∷ q ∷ qs) (two p q qs) (formed_each (p ∷ q ∷ qs) some);
  worded = has_words-all (p ∷ q ∷ qs) ∙ each_of-map has_words (p ∷ q ∷ qs) (worded_each (p ∷ q ∷ qs) some);
}

pub any_good : (qs : List Query) → SomeGood qs → IsGood (any_of qs)
any_good [] some = absurd some
any_good (q ∷ []) some = some.0
any_good (p ∷ q ∷ qs) some = record {
  formed = in_form-any (p ∷ q ∷ qs) ∙ several_in_form (p ∷ q ∷ qs) (two p q qs) (formed_each (p ∷ q ∷ qs) some);
  worded = has_words-any (p ∷ q ∷ qs) ∙ each_of-map has_words (p ∷ q ∷ qs) (worded_each (p ∷ q ∷ qs) some);
}

-- the key of a word is the key of one
abbrev pub KeysAreKeys : Type 0
KeysAreKeys = (word : List ℕ) → is_word word ≡ true → is_key (key_of (lowered word)) ≡ true

word_good : (key : KeyNumbers) → is_key key ≡ true → IsGood (query.Word key)
word_good key is = record { formed = folded_word Bool in_form_step key; worded = has_words-word key ∙ is }

not_good : (q : Query) → IsGood q → IsGood (query.Not q)
not_good q good = record { formed = in_form-not q ∙ good.formed; worded = has_words-not q ∙ good.worded }

mutual
  pub prim_good : (text : List ℕ) (q : Query) → ReadsAsPrim text q → KeysAreKeys → IsGood q
  prim_good _ _ (ReadsAsPrim.word text word) keys = word_good (key_of (lowered text)) (keys text word)
  prim_good _ _ (ReadsAsPrim.group text q reads) keys = alt_good text q reads keys
  prim_good _ _ (ReadsAsPrim.space_before text q reads) keys = prim_good text q reads keys
  prim_good _ _ (ReadsAsPrim.space_after text q reads) keys = prim_good text q reads keys

  pub item_good : (text : List ℕ) (q : Query) → ReadsAsItem text q → KeysAreKeys → IsGood q
  item_good _ _ (ReadsAsItem.plain text q reads) keys = prim_good text q reads keys
  item_good _ _ (ReadsAsItem.negated text q reads) keys = not_good q (prim_good text q reads keys)
  item_good _ _ (ReadsAsItem.space_before_item text q reads) keys = item_good text q reads keys

  pub items_good : (text : List ℕ) (qs : List Query) → ReadsAsItems text qs → KeysAreKeys → SomeGood qs
  items_good _ _ (ReadsAsItems.one_item text q reads) keys = (item_good text q reads keys, tt)
  items_good _ _ (ReadsAsItems.more_items text rest q qs reads cut more) keys = (item_good text q reads keys, each_good qs (items_good rest qs more keys))

  pub conjs_good : (text : List ℕ) (qs : List Query) → ReadsAsConjs text qs → KeysAreKeys → SomeGood qs
  conjs_good _ _ (ReadsAsConjs.one_conj text ps reads) keys = (all_good ps (items_good text ps reads keys), tt)
  conjs_good _ _ (ReadsAsConjs.more_conjs text rest ps qs reads more) keys =
      (all_good ps (items_good text ps reads keys), each_good qs (conjs_good rest qs more keys))

  pub alt_good : (text : List ℕ) (q : Query) → ReadsAs text q → KeysAreKeys → IsGood q
  alt_good _ _ (ReadsAs.alt text qs reads) keys = any_good qs (conjs_good text qs reads keys)

pub reads_good : (text : List ℕ) (q : Query) → KeysAreKeys → ReadsAs text q → IsGood q
reads_good text q keys reads = alt_good text q reads keys
