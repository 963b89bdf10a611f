-- The equations of the printed form, and of texts that are joined.
use Rattle.std.proofs.Common.{◌≡◌, refl, ℕ, ◌+◌, ◌<◌, ◌≤◌, replicate, Result, Ok, Err, OnOk, ◌⊎◌, inl, inr, Bool, true, ◌&&◌, List, [], ◌∷◌, ◌++◌, length, take, get_or, map, sym, ◌∙◌, ap, append_assoc, arith}
use Rattle.std.proofs.lemmas.List.{append-nil, map-append, take_more, take-take, take_at, length-map, length-take-le}
use Rattle.std.proofs.lemmas.Bool.{and_from, and_parts}
use Rattle.std.specs.List.{list_all}
use Rattle.mail_words.specs.Key.{KeyNumbers, word_of, padded}
use Rattle.mail_query.specs.declared.query.Query.{Query}
use Rattle.mail_query.specs.declared.query.Query.TheVariants as query
use Rattle.mail_query.specs.Printed.{Context}
use Rattle.mail_query.specs.Printed.Context.{InAny, InAll, UnderNot}
use Rattle.mail_query.specs.InForm.{has_words}
use Rattle.mail_query.specs.Printed.{wraps_any, wraps_all, wraps_not, grouped, joined, printed_step, printed_at}
use Rattle.mail_query.proofs.Folds.{folded_word, folded_not, folded_all, folded_any}
use Rattle.mail_query.proofs.InForm.{has_words-all, has_words-any}

-- the texts of queries in a context
abbrev pub texts_at : Context → List Query → List (List ℕ)
texts_at context qs = map (λ q. printed_at q context) qs

map_at : (context : Context) (qs : List Query) → map (λ (member : Context → List ℕ). member context) (map printed_at qs) ≡ texts_at context qs
map_at context [] = refl
map_at context (q ∷ qs) = ap (λ texts. printed_at q context ∷ texts) (map_at context qs)

pub printed-word : (key : KeyNumbers) (context : Context) → printed_at (query.Word key) context ≡ word_of key
printed-word key context = ap (λ (f : Context → List ℕ). f context) (folded_word (Context → List ℕ) printed_step key)

pub printed-not : (q : Query) (context : Context) → printed_at (query.Not q) context ≡ grouped (wraps_not context) (33 ∷ printed_at q UnderNot)
printed-not q context = ap (λ (f : Context → List ℕ). f context) (folded_not (Context → List ℕ) printed_step q)

pub printed-all : (qs : List Query) (context : Context)
    → printed_at (query.All (record { members = qs })) context ≡ grouped (wraps_all context) (joined 32 (texts_at InAll qs))
printed-all qs context =
    ap (λ (f : Context → List ℕ). f context) (folded_all (Context → List ℕ) printed_step qs)
    ∙ ap (λ texts. grouped (wraps_all context) (joined 32 texts)) (map_at InAll qs)

pub printed-any : (qs : List Query) (context : Context)
    → printed_at (query.Any (record { members = qs })) context ≡ grouped (wraps_any context) (joined 124 (texts_at InAny qs))
printed-any qs context =
    ap (λ (f : Context → List ℕ). f context) (folded_any (Context → List ℕ) printed_step qs)
    ∙ ap (λ texts. grouped (wraps_any context) (joined 124 texts)) (map_at InAny qs)

-- a text behind others
pub joined-end : (between : ℕ) (first : List ℕ) (texts : List (List ℕ)) (text : List ℕ)
    → joined between ((first ∷ texts) ++ text ∷ []) ≡ joined between (first ∷ texts) ++ between ∷ text
joined-end between first [] text = refl
joined-end between first (next ∷ texts) text =
    ap (λ t. first ++ between ∷ t) (joined-end between next texts text) ∙ sym (append_assoc first (between ∷ joined between (next ∷ texts)) (between ∷ text))

joined-behind : (between : ℕ) (texts : List (List ℕ)) (text : List ℕ) → 0 < length texts
    → joined between (texts ++ text ∷ []) ≡ joined between texts ++ between ∷ text
joined-behind between [] text some = absurd (omega arith)
joined-behind between (first ∷ texts) text some = joined-end between first texts text

all_words : (qs : List Query) → list_all (λ member. member) (map has_words qs) ≡ list_all has_words qs
all_words [] = refl
all_words (q ∷ qs) = ap (λ test. has_words q && test) (all_words qs)

pub words-all : (qs : List Query) → list_all has_words qs ≡ true → has_words (query.All (record { members = qs })) ≡ true
words-all qs words = has_words-all qs ∙ all_words qs ∙ words

pub words-any : (qs : List Query) → list_all has_words qs ≡ true → has_words (query.Any (record { members = qs })) ≡ true
words-any qs words = has_words-any qs ∙ all_words qs ∙ words

-- a fact at `Ok` from another
pub on_ok : {T E P Q : Type 0} (result : Result T E) → (P → Q) → OnOk result P → OnOk result Q
on_ok (Ok value) f p = f p
on_ok (Err error) f p = tt

-- a word in its 32 bytes
pub word_in : (word : List ℕ) (len : ℕ) → len ≡ length word → len ≤ 32 → take len (padded word) ≡ word
word_in word len e short =
    take-take len 32 (word ++ replicate 32 0) short ∙ take_at word (replicate 32 0) len (sym e)

texts-more : (context : Context) (qs : List Query) (at : ℕ) (q : Query) → at < length qs → q ≡ get_or qs at q →
    texts_at context (take (at + 1) qs) ≡ texts_at context (take at qs) ++ printed_at q context ∷ []
texts-more context qs at q below is =
    ap (texts_at context) (take_more qs at q below ∙ ap (λ (p : Query). take at qs ++ p ∷ []) (sym is))
    ∙ map-append (λ p. printed_at p context) (take at qs) (q ∷ [])

-- one more member is printed
pub member_printed : (old before mid after : List ℕ) (between : ℕ) (context : Context) (qs : List Query) (at : ℕ) (q : Query) → at < length qs
    → q ≡ get_or qs at q → before ≡ old ++ joined between (texts_at context (take at qs))
    → ((0 < at) × (mid ≡ before ++ between ∷ [])) ⊎ ((at ≡ 0) × (mid ≡ before))
    → after ≡ mid ++ printed_at q context → after ≡ old ++ joined between (texts_at context (take (at + 1) qs))
member_printed old before mid after between context qs at q below is so_far (inl behind) e =
    let texts = texts_at context (take at qs) in
    let text = printed_at q context in
    let some : 0 < length texts = omega (arith, behind.0, length-map (take at qs) (λ p. printed_at p context), length-take-le at qs (omega arith)) in
    e ∙ ap (λ t. t ++ text) (behind.1 ∙ ap (λ t. t ++ between ∷ []) so_far)
    ∙ append_assoc (old ++ joined between texts) (between ∷ []) text ∙ append_assoc old (joined between texts) (between ∷ text)
    ∙ ap (λ t. old ++ t) (sym (joined-behind between texts text some) ∙ ap (joined between) (sym (texts-more context qs at q below is)))
member_printed old before mid after between context qs at q below is so_far (inr first) e =
    let text = printed_at q context in
    let none : take at qs ≡ [] = ap (λ n. take n qs) first.0 in
    let start : before ≡ old = so_far ∙ ap (λ (ps : List Query). old ++ joined between (texts_at context ps)) none ∙ append-nil old in
    let one : joined between (texts_at context (take (at + 1) qs)) ≡ text =
    ap (joined between) (texts-more context qs at q below is ∙ ap (λ (ps : List Query). texts_at context ps ++ text ∷ []) none) in
    e ∙ ap (λ t. t ++ text) (first.1 ∙ start) ∙ ap (λ t. old ++ t) (sym one)

all-append : (test : Query → Bool) (qs : List Query) (q : Query) → list_all test qs ≡ true → test q ≡ true → list_all test (qs ++ q ∷ []) ≡ true
all-append test [] q all is = and_from (test q) true is refl
all-append test (p ∷ qs) q all is =
    let parts = and_parts (test p) (list_all test qs) all in
    and_from (test p) (list_all test (qs ++ q ∷ [])) parts.0 (all-append test qs q parts.1 is)

pub member_words : (qs : List Query) (at : ℕ) (q : Query) → at < length qs → q ≡ get_or qs at q → list_all has_words (take at qs) ≡ true → has_words q ≡ true →
    list_all has_words (take (at + 1) qs) ≡ true
member_words qs at q below is all word =
    ap (list_all has_words) (take_more qs at q below ∙ ap (λ (p : Query). take at qs ++ p ∷ []) (sym is)) ∙ all-append has_words (take at qs) q all word
