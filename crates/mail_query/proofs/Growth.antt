-- Items and alternatives that grow at their end.
use Rattle.std.proofs.Common.{◌≡◌, refl, ℕ, true, not, ◌&&◌, List, [], ◌∷◌, ◌++◌, sym, ◌∙◌, ap, subst, append_assoc}
use Rattle.std.proofs.lemmas.Bool.{false≢true}
use Rattle.mail_words.specs.Key.{is_word}
use Rattle.mail_query.specs.declared.query.Query.{Query}
use Rattle.mail_query.specs.Members.{all_of}
use Rattle.mail_query.specs.Tokens.{Token, begins_in_word, tokens_of}
use Rattle.mail_query.specs.Grammar.{ends_in_word, is_cut, ReadsAsPrim, ReadsAsItem, ReadsAsItems, ReadsAsConjs}
use Rattle.mail_query.proofs.Cuts.{cut_at}
use Rattle.mail_query.proofs.Means.{Means, sign_between}

-- at least one byte
abbrev IsFull : List ℕ → Type 0
IsFull text = (byte : ℕ) × ((bytes : List ℕ) × (text ≡ byte ∷ bytes))

full_append : (text more : List ℕ) → IsFull text → IsFull (text ++ more)
full_append text more full = (full.0, (full.1.0 ++ more, ap (λ t. t ++ more) full.1.1))

full_before : (text : List ℕ) (byte : ℕ) → IsFull (text ++ byte ∷ [])
full_before [] byte = (byte, ([], refl))
full_before (first ∷ bytes) byte = (first, (bytes ++ byte ∷ [], refl))

word_full : (text : List ℕ) → is_word text ≡ true → IsFull text
word_full [] word = absurd (false≢true word)
word_full (byte ∷ bytes) word = (byte, (bytes, refl))

prim_full : (text : List ℕ) (q : Query) → ReadsAsPrim text q → IsFull text
prim_full _ _ (ReadsAsPrim.word text word) = word_full text word
prim_full _ _ (ReadsAsPrim.group text q reads) = (40, (text ++ (41 ∷ []), refl))
prim_full _ _ (ReadsAsPrim.space_before text q reads) = (32, (text, refl))
prim_full _ _ (ReadsAsPrim.space_after text q reads) = full_before text 32

item_full : (text : List ℕ) (q : Query) → ReadsAsItem text q → IsFull text
item_full _ _ (ReadsAsItem.plain text q reads) = prim_full text q reads
item_full _ _ (ReadsAsItem.negated text q reads) = (33, (text, refl))
item_full _ _ (ReadsAsItem.space_before_item text q reads) = (32, (text, refl))

items_full : (text : List ℕ) (qs : List Query) → ReadsAsItems text qs → IsFull text
items_full _ _ (ReadsAsItems.one_item text q reads) = item_full text q reads
items_full _ _ (ReadsAsItems.more_items text rest q qs reads cut more) = full_append text rest (item_full text q reads)

begins-full : (text more : List ℕ) → IsFull text → begins_in_word (text ++ more) ≡ begins_in_word text
begins-full text more full = ap (λ t. begins_in_word (t ++ more)) full.1.1 ∙ ap begins_in_word (sym full.1.1)

ends-cons : (text : List ℕ) (byte next : ℕ) (bytes : List ℕ) → ends_in_word (text ++ byte ∷ next ∷ bytes) ≡ ends_in_word (next ∷ bytes)
ends-cons [] byte next bytes = refl
ends-cons (first ∷ []) byte next bytes = refl
ends-cons (first ∷ second ∷ text) byte next bytes = ends-cons (second ∷ text) byte next bytes

ends-at : (text : List ℕ) (byte : ℕ) (bytes : List ℕ) → ends_in_word (text ++ byte ∷ bytes) ≡ ends_in_word (byte ∷ bytes)
ends-at [] byte bytes = refl
ends-at (first ∷ []) byte bytes = refl
ends-at (first ∷ second ∷ text) byte bytes = ends-at (second ∷ text) byte bytes

ends-full : (text more : List ℕ) → IsFull more → ends_in_word (text ++ more) ≡ ends_in_word more
ends-full text more full = ap (λ m. ends_in_word (text ++ m)) full.1.1 ∙ ends-at text full.0 full.1.0 ∙ ap ends_in_word (sym full.1.1)

items_snoc : (text : List ℕ) (qs : List Query) → ReadsAsItems text qs → (more : List ℕ) (q : Query) → ReadsAsItem more q → is_cut text more ≡ true
    → ReadsAsItems (text ++ more) (qs ++ q ∷ [])
items_snoc _ _ (ReadsAsItems.one_item text p reads) more q item cut = ReadsAsItems.more_items text more p (q ∷ []) reads cut (ReadsAsItems.one_item more q item)
items_snoc _ _ (ReadsAsItems.more_items text rest p ps reads inner items) more q item cut =
    let full = items_full rest ps items in
    let outer : is_cut text (rest ++ more) ≡ true = ap (λ b. not (ends_in_word text && b)) (begins-full rest more full) ∙ inner in
    let behind : is_cut rest more ≡ true = ap (λ b. not (b && begins_in_word more)) (sym (ends-full text rest full)) ∙ cut in
    subst (λ t. ReadsAsItems t (p ∷ (ps ++ q ∷ []))) (sym (append_assoc text rest more))
    (ReadsAsItems.more_items text (rest ++ more) p (ps ++ q ∷ []) reads outer (items_snoc rest ps items more q item behind))

conjs_snoc : (text : List ℕ) (ps : List Query) → ReadsAsConjs text ps → (more : List ℕ) (qs : List Query) → ReadsAsItems more qs
    → ReadsAsConjs (text ++ (124 ∷ more)) (ps ++ all_of qs ∷ [])
conjs_snoc _ _ (ReadsAsConjs.one_conj text ps items) more qs last =
    ReadsAsConjs.more_conjs text more ps (all_of qs ∷ []) items (ReadsAsConjs.one_conj more qs last)
conjs_snoc _ _ (ReadsAsConjs.more_conjs text rest ps rs items conjs) more qs last =
    subst (λ t. ReadsAsConjs t (all_of ps ∷ (rs ++ all_of qs ∷ []))) (sym (append_assoc text (124 ∷ rest) (124 ∷ more)))
    (ReadsAsConjs.more_conjs text (rest ++ (124 ∷ more)) ps (rs ++ all_of qs ∷ []) items (conjs_snoc rest rs conjs more qs last))

-- the tokens of items so far
abbrev pub ItemsMean : List Query → List Token → Type 0
ItemsMean [] tokens = tokens ≡ []
ItemsMean (q ∷ qs) tokens = Means (λ text. ReadsAsItems text (q ∷ qs)) tokens

-- the tokens of the alternatives so far, each with its `|`
abbrev pub DoneMeans : List Query → List Token → Type 0
DoneMeans [] tokens = tokens ≡ []
DoneMeans (q ∷ qs) tokens = (front : List Token) × ((tokens ≡ front ++ Token.Bar ∷ []) × Means (λ text. ReadsAsConjs text (q ∷ qs)) front)

first_item : (front : List Token) (q : Query) (back : List Token) → front ≡ [] → Means (λ text. ReadsAsItem text q) back
    → Means (λ text. ReadsAsItems text (q ∷ [])) (front ++ back)
first_item front q back none item text e = ReadsAsItems.one_item text q (item text (e ∙ ap (λ t. t ++ back) none))

next_item : (p : Query) (ps : List Query) (front : List Token) (q : Query) (back : List Token) → Means (λ text. ReadsAsItems text (p ∷ ps)) front
    → Means (λ text. ReadsAsItem text q) back →
    Means (λ text. ReadsAsItems text (p ∷ (ps ++ q ∷ []))) (front ++ back)
next_item p ps front q back items item text e =
    let c = cut_at text front back e in
    subst (λ t. ReadsAsItems t (p ∷ (ps ++ q ∷ []))) (sym c.whole)
    (items_snoc c.before (p ∷ ps) (items c.before c.front_is) c.after q (item c.after c.back_is) c.cut)

pub items_grow : (qs : List Query) (front : List Token) (q : Query) (back : List Token) → ItemsMean qs front → Means (λ text. ReadsAsItem text q) back →
    ItemsMean (qs ++ q ∷ []) (front ++ back)
items_grow [] front q back none item = first_item front q back none item
items_grow (p ∷ ps) front q back items item = next_item p ps front q back items item

-- the alternatives with one more, which ends here
pub alternatives_mean : (done qs : List Query) (front back : List Token) → DoneMeans done front → Means (λ text. ReadsAsItems text qs) back →
    Means (λ text. ReadsAsConjs text (done ++ all_of qs ∷ [])) (front ++ back)
alternatives_mean [] qs front back none items text e = ReadsAsConjs.one_conj text qs (items text (e ∙ ap (λ t. t ++ back) none))
alternatives_mean (p ∷ ps) qs front back done items text e =
    let tokens : tokens_of text ≡ done.0 ++ Token.Bar ∷ back = e ∙ ap (λ t. t ++ back) done.1.0 ∙ append_assoc done.0 (Token.Bar ∷ []) back in
    let s = sign_between text done.0 Token.Bar back refl tokens in
    subst (λ t. ReadsAsConjs t (p ∷ (ps ++ all_of qs ∷ []))) (sym s.whole)
    (conjs_snoc s.before (p ∷ ps) (done.1.1 s.before s.front_is) s.after qs (items s.after s.back_is))

pub done_grows : (done qs : List Query) (front back : List Token) → DoneMeans done front → Means (λ text. ReadsAsItems text qs) back →
    DoneMeans (done ++ all_of qs ∷ []) ((front ++ back) ++ Token.Bar ∷ [])
done_grows [] qs front back none items = (front ++ back, (refl, alternatives_mean [] qs front back none items))
done_grows (p ∷ ps) qs front back done items = (front ++ back, (refl, alternatives_mean (p ∷ ps) qs front back done items))
