-- The printed form of a query has no more parentheses open at once than a text that reads as it.
use Rattle.std.proofs.Common.{◌≡◌, refl, ℕ, ◌+◌, ◌≤◌, Bool, true, false, List, [], ◌∷◌, ◌++◌, length, sym, ◌∙◌, ap, subst, ◌⊎◌, inl, inr, arith}
use Rattle.std.specs.List.{list_all, AllByRecursion}
use Rattle.std.specs.Char.{is_ascii_alphanumeric}
use Rattle.mail_words.specs.Key.{KeyNumbers, is_key, word_of, key_of, lowered}
use Rattle.mail_query.specs.declared.query.Query.{Query}
use Rattle.mail_query.specs.declared.query.Query.TheVariants as query
use Rattle.mail_query.specs.Members.{all_of, any_of}
use Rattle.mail_query.specs.Grammar.{ReadsAsPrim, ReadsAsItem, ReadsAsItems, ReadsAsConjs, ReadsAs}
use Rattle.mail_query.specs.Printed.{Context, wraps_not, wraps_all, wraps_any, grouped, joined, printed_at, printed}
use Rattle.mail_query.specs.Printed.Context.{Alone, InAny, InAll, UnderNot}
use Rattle.mail_query.specs.Limits.{count_of, IsWithinLimits}
use Rattle.mail_query.proofs.Folds.{induction}
use Rattle.mail_query.proofs.Limits.{Balanced, Shallow, count-append, count-letters, item_balanced, items_balanced, alt_balanced, shallow_front, shallow_back, shallow_group, shallow_cons}
use Rattle.mail_query.proofs.InForm.{IsGood, KeysAreKeys, SomeGood, all_good, any_good, prim_good, item_good, items_good, conjs_good}
use Rattle.mail_query.proofs.Printed.{texts_at, printed-word, printed-not, printed-all, printed-any}
use Rattle.mail_query.proofs.ReadsBack.{is_read_back, key_letters}

-- Two parts of a text that is also in two other parts: the front of the ones is in the front of the others, or goes on behind it.
abbrev InFront : (text front : List ℕ) → Type 0
InFront text front = (rest : List ℕ) × (text ≡ front ++ rest)

abbrev Behind : (text more front back : List ℕ) → Type 0
Behind text more front back = (rest : List ℕ) × ((front ≡ text ++ rest) × (more ≡ rest ++ back))

parts : (text more front back : List ℕ) → text ++ more ≡ front ++ back → InFront text front ⊎ Behind text more front back
parts [] more front back e = inr (front, (refl, e))
parts (byte ∷ text) more [] back e = inl (byte ∷ text, refl)
parts (byte ∷ text) more (first ∷ front) back e =
    let same : byte ≡ first = cc in
    let rest : text ++ more ≡ front ++ back = cc in
    elim (parts text more front back rest) [
      | inl within ↦ inl (within.0, ap (λ b. b ∷ text) same ∙ ap (λ t. first ∷ t) within.1)
      | inr behind ↦ inr (behind.0, (ap (λ t. first ∷ t) behind.1.0 ∙ ap (λ b. b ∷ (text ++ behind.0)) (sym same), behind.1.1))
    ]

shallow_part : (depth : ℕ) (text more front back : List ℕ) → Shallow depth text → Balanced text → Shallow depth more
    → InFront text front ⊎ Behind text more front back →
    count_of 40 front + depth ≤ count_of 41 front + 32
shallow_part depth text more front back first balanced second (inl within) = first front within.0 within.1
shallow_part depth text more front back first balanced second (inr behind) =
    let here : count_of 40 behind.0 + depth ≤ count_of 41 behind.0 + 32 = second behind.0 back behind.1.1 in
    omega (arith, ap (count_of 40) behind.1.0, ap (count_of 41) behind.1.0, count-append 40 text behind.0, count-append 41 text behind.0)

shallow_append : (depth : ℕ) (text more : List ℕ) → Shallow depth text → Balanced text → Shallow depth more → Shallow depth (text ++ more)
shallow_append depth text more first balanced second front back e = shallow_part depth text more front back first balanced second (parts text more front back e)

low_of : (depth : ℕ) (text : List ℕ) → Shallow depth text → depth ≤ 32
low_of depth text shallow = let here : count_of 40 [] + depth ≤ count_of 41 [] + 32 = shallow [] text refl in omega arith

-- a byte that is no parenthesis
one_byte : (depth byte : ℕ) → depth ≤ 32 → count_of 40 (byte ∷ []) ≡ 0 → Shallow depth (byte ∷ [])
one_byte depth byte low none front back e =
    let all : count_of 40 (byte ∷ []) ≡ count_of 40 front + count_of 40 back = ap (count_of 40) e ∙ count-append 40 front back in
    omega arith

wrapped_part : (depth : ℕ) (text front back : List ℕ) → Shallow (depth + 1) text → Balanced text → InFront text front ⊎ Behind text (41 ∷ []) front back →
    count_of 40 (40 ∷ front) + depth ≤ count_of 41 (40 ∷ front) + 32
wrapped_part depth text front back inner balanced (inl within) =
    let here : count_of 40 front + (depth + 1) ≤ count_of 41 front + 32 = inner front within.0 within.1 in omega arith
wrapped_part depth text front back inner balanced (inr behind) =
    let low : depth + 1 ≤ 32 = low_of (depth + 1) text inner in
    let all : count_of 40 (41 ∷ []) ≡ count_of 40 behind.0 + count_of 40 back = ap (count_of 40) behind.1.1 ∙ count-append 40 behind.0 back in
    omega (arith, ap (count_of 40) behind.1.0, ap (count_of 41) behind.1.0, count-append 40 text behind.0, count-append 41 text behind.0)

less : (depth : ℕ) (text : List ℕ) → Shallow (depth + 1) text → Shallow depth text
less depth text inner front back e = let here : count_of 40 front + (depth + 1) ≤ count_of 41 front + 32 = inner front back e in omega arith

shallow_wrapped : (depth : ℕ) (text : List ℕ) → Shallow (depth + 1) text → Balanced text → Shallow depth (40 ∷ (text ++ (41 ∷ [])))
shallow_wrapped depth text inner balanced =
    shallow_cons 40 (text ++ (41 ∷ [])) depth (low_of depth text (less depth text inner)) (λ front back e.
    wrapped_part depth text front back inner balanced (parts text (41 ∷ []) front back e))

shallow_grouped : (wrapped : Bool) (depth : ℕ) (text : List ℕ) → Shallow (depth + 1) text → Balanced text → Shallow depth (grouped wrapped text)
shallow_grouped true depth text inner balanced = shallow_wrapped depth text inner balanced
shallow_grouped false depth text inner balanced = less depth text inner

-- texts that are joined
record Fit (depth : ℕ) (text : List ℕ) : Type 0 where
  shallow : Shallow depth text
  balanced : Balanced text

fit_joined : (depth between : ℕ) (text : List ℕ) (texts : List (List ℕ)) → count_of 40 (between ∷ []) ≡ 0 → count_of 41 (between ∷ []) ≡ 0
    → AllByRecursion (Fit depth) (text ∷ texts) →
    Shallow depth (joined between (text ∷ texts))
fit_joined depth between text [] none none' fit = fit.0.shallow
fit_joined depth between text (next ∷ texts) none none' fit =
    shallow_append depth text (between ∷ joined between (next ∷ texts)) fit.0.shallow fit.0.balanced
    (shallow_append depth (between ∷ []) (joined between (next ∷ texts)) (one_byte depth between (low_of depth text fit.0.shallow) none) (none ∙ sym none')
    (fit_joined depth between next texts none none' fit.1))

-- the printed form in a context is the one alone, perhaps in parentheses
abbrev Wrapping : Query → Type 0
Wrapping q = (context : Context) → (wrapped : Bool) × (printed_at q context ≡ grouped wrapped (printed q))

wrapping : (q : Query) → Wrapping q
wrapping = induction Wrapping (record {
  word = λ key context. (false, printed-word key context ∙ sym (printed-word key Alone));
  negation = λ q inner context. (wraps_not context, printed-not q context ∙ ap (grouped (wraps_not context)) (sym (printed-not q Alone)));
  conjunction = λ qs inner context. (wraps_all context, printed-all qs context ∙ ap (grouped (wraps_all context)) (sym (printed-all qs Alone)));
  disjunction = λ qs inner context. (wraps_any context, printed-any qs context ∙ ap (grouped (wraps_any context)) (sym (printed-any qs Alone)));
})

-- what a query's printed forms keep to
record PrimFits (depth : ℕ) (q : Query) : Type 0 where
  good : IsGood q
  everywhere : (context : Context) → Shallow depth (printed_at q context)

record ItemFits (depth : ℕ) (q : Query) : Type 0 where
  good : IsGood q
  in_all : Shallow depth (printed_at q InAll)
  in_any : Shallow depth (printed_at q InAny)
  alone : Shallow depth (printed_at q Alone)

record ConjFits (depth : ℕ) (q : Query) : Type 0 where
  good : IsGood q
  in_any : Shallow depth (printed_at q InAny)
  alone : Shallow depth (printed_at q Alone)

record AltFits (depth : ℕ) (q : Query) : Type 0 where
  good : IsGood q
  alone : Shallow depth (printed_at q Alone)

word_shallow : (depth : ℕ) (text : List ℕ) → depth ≤ 32 → list_all is_ascii_alphanumeric text ≡ true → Shallow depth text
word_shallow depth text low letters front back e =
    let all : count_of 40 text ≡ count_of 40 front + count_of 40 back = ap (count_of 40) e ∙ count-append 40 front back in
    omega (arith, count-letters 40 text refl letters)

word_fits : (depth : ℕ) (key : KeyNumbers) → depth ≤ 32 → is_key key ≡ true → IsGood (query.Word key) → PrimFits depth (query.Word key)
word_fits depth key low is good = record {
  good = good;
  everywhere = λ context. subst (Shallow depth) (sym (printed-word key context)) (word_shallow depth (word_of key) low (key_letters key is));
}

group_fits : (depth : ℕ) (q : Query) → AltFits (depth + 1) q → PrimFits depth q
group_fits depth q inner = record {
  good = inner.good;
  everywhere = λ context. subst (Shallow depth) (sym (wrapping q context).1)
      (shallow_grouped (wrapping q context).0 depth (printed q) inner.alone (alt_balanced (printed q) q (is_read_back q inner.good).alt));
}

plain_fits : (depth : ℕ) (q : Query) → PrimFits depth q → ItemFits depth q
plain_fits depth q fits = record { good = fits.good; in_all = fits.everywhere InAll; in_any = fits.everywhere InAny; alone = fits.everywhere Alone }

negated_fits : (depth : ℕ) (q : Query) → IsGood (query.Not q) → PrimFits depth q → ItemFits depth (query.Not q)
negated_fits depth q good fits =
    let low = low_of depth (printed_at q UnderNot) (fits.everywhere UnderNot) in
    let text : Shallow depth (33 ∷ printed_at q UnderNot) =
    shallow_append depth (33 ∷ []) (printed_at q UnderNot) (one_byte depth 33 low refl) refl (fits.everywhere UnderNot) in
    record {
      good = good;
      in_all = subst (Shallow depth) (sym (printed-not q InAll)) text;
      in_any = subst (Shallow depth) (sym (printed-not q InAny)) text;
      alone = subst (Shallow depth) (sym (printed-not q Alone)) text;
    }

items_texts : (depth : ℕ) (qs : List Query) → AllByRecursion (ItemFits depth) qs → AllByRecursion (Fit depth) (texts_at InAll qs)
items_texts depth [] fits = tt
items_texts depth (q ∷ qs) fits =
    (record { shallow = fits.0.in_all; balanced = item_balanced (printed_at q InAll) q (is_read_back q fits.0.good).item }, items_texts depth qs fits.1)

all_fits : (depth : ℕ) (qs : List Query) → SomeGood qs → AllByRecursion (ItemFits depth) qs → ConjFits depth (all_of qs)
all_fits depth [] some fits = absurd some
all_fits depth (q ∷ []) some fits = record { good = fits.0.good; in_any = fits.0.in_any; alone = fits.0.alone }
all_fits depth (p ∷ q ∷ qs) some fits =
    let text : Shallow depth (joined 32 (texts_at InAll (p ∷ q ∷ qs))) =
    fit_joined depth 32 (printed_at p InAll) (texts_at InAll (q ∷ qs)) refl refl (items_texts depth (p ∷ q ∷ qs) fits) in
    record {
      good = all_good (p ∷ q ∷ qs) some;
      in_any = subst (Shallow depth) (sym (printed-all (p ∷ q ∷ qs) InAny)) text;
      alone = subst (Shallow depth) (sym (printed-all (p ∷ q ∷ qs) Alone)) text;
    }

conjs_texts : (depth : ℕ) (qs : List Query) → AllByRecursion (ConjFits depth) qs → AllByRecursion (Fit depth) (texts_at InAny qs)
conjs_texts depth [] fits = tt
conjs_texts depth (q ∷ qs) fits =
    let back = is_read_back q fits.0.good in
    (record { shallow = fits.0.in_any; balanced = items_balanced (printed_at q InAny) back.items back.conj }, conjs_texts depth qs fits.1)

any_fits : (depth : ℕ) (qs : List Query) → SomeGood qs → AllByRecursion (ConjFits depth) qs → AltFits depth (any_of qs)
any_fits depth [] some fits = absurd some
any_fits depth (q ∷ []) some fits = record { good = fits.0.good; alone = fits.0.alone }
any_fits depth (p ∷ q ∷ qs) some fits = record {
  good = any_good (p ∷ q ∷ qs) some;
  alone = subst (Shallow depth) (sym (printed-any (p ∷ q ∷ qs) Alone))
      (fit_joined depth 124 (printed_at p InAny) (texts_at InAny (q ∷ qs)) refl refl (conjs_texts depth (p ∷ q ∷ qs) fits));
}

mutual
  prim_fits : (text : List ℕ) (q : Query) → ReadsAsPrim text q → KeysAreKeys → (depth : ℕ) → Shallow depth text → PrimFits depth q
  prim_fits _ _ (ReadsAsPrim.word text word) keys depth shallow =
      word_fits depth (key_of (lowered text)) (low_of depth text shallow) (keys text word)
      (prim_good text (query.Word (key_of (lowered text))) (ReadsAsPrim.word text word) keys)
  prim_fits _ _ (ReadsAsPrim.group text q reads) keys depth shallow =
      group_fits depth q (alt_fits text q reads keys (depth + 1) (shallow_group depth text shallow))
  prim_fits _ _ (ReadsAsPrim.space_before text q reads) keys depth shallow = prim_fits text q reads keys depth (shallow_back depth (32 ∷ []) text refl shallow)
  prim_fits _ _ (ReadsAsPrim.space_after text q reads) keys depth shallow = prim_fits text q reads keys depth (shallow_front depth text (32 ∷ []) shallow)

  item_fits : (text : List ℕ) (q : Query) → ReadsAsItem text q → KeysAreKeys → (depth : ℕ) → Shallow depth text → ItemFits depth q
  item_fits _ _ (ReadsAsItem.plain text q reads) keys depth shallow = plain_fits depth q (prim_fits text q reads keys depth shallow)
  item_fits _ _ (ReadsAsItem.negated text q reads) keys depth shallow =
      negated_fits depth q (item_good (33 ∷ text) (query.Not q) (ReadsAsItem.negated text q reads) keys)
      (prim_fits text q reads keys depth (shallow_back depth (33 ∷ []) text refl shallow))
  item_fits _ _ (ReadsAsItem.space_before_item text q reads) keys depth shallow =
      item_fits text q reads keys depth (shallow_back depth (32 ∷ []) text refl shallow)

  items_fit : (text : List ℕ) (qs : List Query) → ReadsAsItems text qs → KeysAreKeys → (depth : ℕ) → Shallow depth text → AllByRecursion (ItemFits depth) qs
  items_fit _ _ (ReadsAsItems.one_item text q reads) keys depth shallow = (item_fits text q reads keys depth shallow, tt)
  items_fit _ _ (ReadsAsItems.more_items text rest q qs reads cut more) keys depth shallow = (
    item_fits text q reads keys depth (shallow_front depth text rest shallow),
    items_fit rest qs more keys depth (shallow_back depth text rest (item_balanced text q reads) shallow),
  )

  conjs_fit : (text : List ℕ) (qs : List Query) → ReadsAsConjs text qs → KeysAreKeys → (depth : ℕ) → Shallow depth text → AllByRecursion (ConjFits depth) qs
  conjs_fit _ _ (ReadsAsConjs.one_conj text ps reads) keys depth shallow =
      (all_fits depth ps (items_good text ps reads keys) (items_fit text ps reads keys depth shallow), tt)
  conjs_fit _ _ (ReadsAsConjs.more_conjs text rest ps qs reads more) keys depth shallow = (
    all_fits depth ps (items_good text ps reads keys) (items_fit text ps reads keys depth (shallow_front depth text (124 ∷ rest) shallow)),
    conjs_fit rest qs more keys depth
        (shallow_back depth (124 ∷ []) rest refl (shallow_back depth text (124 ∷ rest) (items_balanced text ps reads) shallow)),
  )

  alt_fits : (text : List ℕ) (q : Query) → ReadsAs text q → KeysAreKeys → (depth : ℕ) → Shallow depth text → AltFits depth q
  alt_fits _ _ (ReadsAs.alt text qs reads) keys depth shallow = any_fits depth qs (conjs_good text qs reads keys) (conjs_fit text qs reads keys depth shallow)

-- where it isn't too long, the printed form of a text within the limits is within them
pub printed_within : (text : List ℕ) (q : Query) → KeysAreKeys → ReadsAs text q → IsWithinLimits text → length (printed q) ≤ 4096 → IsWithinLimits (printed q)
printed_within text q keys reads limits short =
    let shallow : Shallow 0 text = λ front back e. let here = limits.shallow front back e in omega (arith, here) in
    let fits = alt_fits text q reads keys 0 shallow in
    record {
      short = short;
      shallow = λ front back e. let here : count_of 40 front + 0 ≤ count_of 41 front + 32 = fits.alone front back e in omega arith;
    }
