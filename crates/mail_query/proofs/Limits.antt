-- Within the limits, a text that reads as a query isn't refused; and a text that isn't refused is within the limits.
use Rattle.std.proofs.Common.{◌≡◌, refl, ℕ, ◌+◌, ◌-◌, ◌≤◌, ◌<◌, ◌==◌, suc, Bool, true, false, not, ◌&&◌, nat_lt, nat_le, List, [], ◌∷◌, ◌++◌, length, cond, sym, ◌∙◌, ap, subst, ◌⊎◌, inl, inr, append_assoc, Option, Some, None, zero-add, arith}
use Rattle.std.proofs.lemmas.List.{append-nil}
use Rattle.std.proofs.lemmas.Bool.{cases_Bool, false≢true, and_parts, ne_eqb, lt-ltb, le-ltb, leb-true, ltb-false, ltb-true, eqb-false}
use Rattle.std.specs.List.{list_all}
use Rattle.std.specs.Char.{is_ascii_alphanumeric}
use Rattle.mail_words.specs.Key.{is_word}
use Rattle.mail_query.specs.declared.query.Query.{Query}
use Rattle.mail_query.specs.declared.error.QueryError.{QueryError}
use Rattle.mail_query.specs.declared.error.QueryError.TheVariants.{LongWord, Deep, Long}
use Rattle.mail_query.specs.Refusals.{Before}
use Rattle.mail_query.specs.Tokens.{Token, begins_in_word, sign_of, tokens_of}
use Rattle.mail_query.specs.Grammar.{ReadsAsPrim, ReadsAsItem, ReadsAsItems, ReadsAsConjs, ReadsAs}
use Rattle.mail_query.specs.Refusals.{or_later, bad_unless, ends_query, is_bang, refusal_at, first_refusal, refusal_of}
use Rattle.mail_query.specs.Limits.{count_of, IsWithinLimits}
use Rattle.mail_query.proofs.Tokens.{Kind, kind_of, letter_alone, letter_joins, space_first, sign_first, begins_with_run, sign_is_no_run}
use Rattle.mail_query.proofs.Means.{byte_of, is_named, byte_of-sign_of}
use Rattle.mail_query.proofs.Complete.{word_letters, word_token, tokens-group, tokens-space_after, tokens-items, tokens-bar}
use Rattle.mail_query.proofs.Sound.{later_none, may_stand, no_error}

pub count-append : (byte : ℕ) (front back : List ℕ) → count_of byte (front ++ back) ≡ count_of byte front + count_of byte back
count-append byte [] back = omega arith
count-append byte (first ∷ front) back = omega (arith, count-append byte front back)

-- another byte counts nothing
count-other : (byte first : ℕ) (bytes : List ℕ) → (first == byte) ≡ false → count_of byte (first ∷ bytes) ≡ count_of byte bytes
count-other byte first bytes other = ap (λ test. cond test 1 0 + count_of byte bytes) other ∙ zero-add (count_of byte bytes)

no_letter : (byte first : ℕ) → is_ascii_alphanumeric byte ≡ false → is_ascii_alphanumeric first ≡ true → (first == byte) ≡ false
no_letter byte first other is = ne_eqb first byte (λ e. false≢true (sym other ∙ ap is_ascii_alphanumeric (sym e) ∙ is))

pub count-letters : (byte : ℕ) (text : List ℕ) → is_ascii_alphanumeric byte ≡ false → list_all is_ascii_alphanumeric text ≡ true → count_of byte text ≡ 0
count-letters byte [] other all = refl
count-letters byte (first ∷ text) other all =
    let parts = and_parts (is_ascii_alphanumeric first) (list_all is_ascii_alphanumeric text) all in
    count-other byte first text (no_letter byte first other parts.0) ∙ count-letters byte text other parts.1

-- as many parentheses are closed as opened
abbrev pub Balanced : List ℕ → Type 0
Balanced text = count_of 40 text ≡ count_of 41 text

pub balanced_append : (text rest : List ℕ) → Balanced text → Balanced rest → Balanced (text ++ rest)
balanced_append text rest first second = omega (arith, count-append 40 text rest, count-append 41 text rest)

balanced_group : (text : List ℕ) → Balanced text → Balanced (40 ∷ (text ++ (41 ∷ [])))
balanced_group text inner = omega (arith, count-append 40 text (41 ∷ []), count-append 41 text (41 ∷ []))

mutual
  pub prim_balanced : (text : List ℕ) (q : Query) → ReadsAsPrim text q → Balanced text
  prim_balanced _ _ (ReadsAsPrim.word text word) = count-letters 40 text refl (word_letters text word)
      ∙ sym (count-letters 41 text refl (word_letters text word))
  prim_balanced _ _ (ReadsAsPrim.group text q reads) = balanced_group text (alt_balanced text q reads)
  prim_balanced _ _ (ReadsAsPrim.space_before text q reads) = balanced_append (32 ∷ []) text refl (prim_balanced text q reads)
  prim_balanced _ _ (ReadsAsPrim.space_after text q reads) = balanced_append text (32 ∷ []) (prim_balanced text q reads) refl

  pub item_balanced : (text : List ℕ) (q : Query) → ReadsAsItem text q → Balanced text
  item_balanced _ _ (ReadsAsItem.plain text q reads) = prim_balanced text q reads
  item_balanced _ _ (ReadsAsItem.negated text q reads) = balanced_append (33 ∷ []) text refl (prim_balanced text q reads)
  item_balanced _ _ (ReadsAsItem.space_before_item text q reads) = balanced_append (32 ∷ []) text refl (item_balanced text q reads)

  pub items_balanced : (text : List ℕ) (qs : List Query) → ReadsAsItems text qs → Balanced text
  items_balanced _ _ (ReadsAsItems.one_item text q reads) = item_balanced text q reads
  items_balanced _ _ (ReadsAsItems.more_items text rest q qs reads cut more) =
      balanced_append text rest (item_balanced text q reads) (items_balanced rest qs more)

  conjs_balanced : (text : List ℕ) (qs : List Query) → ReadsAsConjs text qs → Balanced text
  conjs_balanced _ _ (ReadsAsConjs.one_conj text ps reads) = items_balanced text ps reads
  conjs_balanced _ _ (ReadsAsConjs.more_conjs text rest ps qs reads more) =
      balanced_append text (124 ∷ rest) (items_balanced text ps reads) (balanced_append (124 ∷ []) rest refl (conjs_balanced rest qs more))

  pub alt_balanced : (text : List ℕ) (q : Query) → ReadsAs text q → Balanced text
  alt_balanced _ _ (ReadsAs.alt text qs reads) = conjs_balanced text qs reads

-- behind so many open parentheses no position of the text has more than 32
abbrev pub Shallow : ℕ → List ℕ → Type 0
Shallow depth text = (front back : List ℕ) → text ≡ front ++ back → count_of 40 front + depth ≤ count_of 41 front + 32

pub shallow_front : (depth : ℕ) (text rest : List ℕ) → Shallow depth (text ++ rest) → Shallow depth text
shallow_front depth text rest shallow front back e = shallow front (back ++ rest) (ap (λ t. t ++ rest) e ∙ append_assoc front back rest)

pub shallow_back : (depth : ℕ) (text rest : List ℕ) → Balanced text → Shallow depth (text ++ rest) → Shallow depth rest
shallow_back depth text rest balanced shallow front back e =
    let here : count_of 40 (text ++ front) + depth ≤ count_of 41 (text ++ front) + 32 =
    shallow (text ++ front) back (ap (λ t. text ++ t) e ∙ sym (append_assoc text front back)) in
    omega (arith, count-append 40 text front, count-append 41 text front)

pub shallow_group : (depth : ℕ) (text : List ℕ) → Shallow depth (40 ∷ (text ++ (41 ∷ []))) → Shallow (depth + 1) text
shallow_group depth text shallow front back e =
    let here : count_of 40 (40 ∷ front) + depth ≤ count_of 41 (40 ∷ front) + 32 =
    shallow (40 ∷ front) (back ++ (41 ∷ [])) (ap (λ t. 40 ∷ (t ++ (41 ∷ []))) e ∙ ap (λ t. 40 ∷ t) (append_assoc front back (41 ∷ []))) in
    omega arith

opens_below : (depth : ℕ) (text : List ℕ) → Shallow depth (40 ∷ text) → depth < 32
opens_below depth text shallow = let here : count_of 40 (40 ∷ []) + depth ≤ count_of 41 (40 ∷ []) + 32 = shallow (40 ∷ []) text refl in omega arith

-- the tokens of the text are not refused
abbrev Stands : List ℕ → Type 0
Stands text = (depth : ℕ) (behind : Before) (tokens : List Token) → is_bang behind ≡ false → Shallow depth text →
    first_refusal behind depth (tokens_of text ++ tokens) ≡ first_refusal Before.Item depth tokens

abbrev PrimStands : List ℕ → Type 0
PrimStands text = (depth : ℕ) (behind : Before) (tokens : List Token) → Shallow depth text →
    first_refusal behind depth (tokens_of text ++ tokens) ≡ first_refusal Before.Item depth tokens

word_stands : (text : List ℕ) → is_word text ≡ true → PrimStands text
word_stands text word depth behind tokens shallow =
    let short = (and_parts (nat_lt 0 (length text)) (nat_le (length text) 32)
    (and_parts (nat_lt 0 (length text) && nat_le (length text) 32) (list_all is_ascii_alphanumeric text) word).0).1 in
    ap (λ ts. first_refusal behind depth (ts ++ tokens)) (word_token text word)
    ∙ ap (λ test. or_later (cond test (Some LongWord) None) (first_refusal Before.Item depth tokens))
    (le-ltb 32 (length text) (leb-true (length text) 32 short))

opened_stands : (depth : ℕ) (behind : Before) (tokens : List Token) → depth < 32
    → first_refusal behind depth (Token.Open ∷ tokens) ≡ first_refusal Before.Start (depth + 1) tokens
opened_stands depth behind tokens below =
    ap (λ test. or_later (cond test (Some Deep) None) (first_refusal Before.Start (depth + 1) tokens)) (ne_eqb depth 32 (λ e. absurd (omega arith)))

closed_stands : (depth : ℕ) (tokens : List Token) → first_refusal Before.Item (depth + 1) (Token.Close ∷ tokens) ≡ first_refusal Before.Item depth tokens
closed_stands depth tokens =
    let same : (depth + 1) - 1 ≡ depth = omega arith in
    ap (λ test. or_later (bad_unless (true && test)) (first_refusal Before.Item ((depth + 1) - 1) tokens)) (lt-ltb 0 (depth + 1) (omega arith))
    ∙ ap (λ d. first_refusal Before.Item d tokens) same

bang_stands : (depth : ℕ) (behind : Before) (tokens : List Token) → is_bang behind ≡ false
    → first_refusal behind depth (Token.Bang ∷ tokens) ≡ first_refusal Before.Bang depth tokens
bang_stands depth behind tokens other = ap (λ test. or_later (bad_unless (not test)) (first_refusal Before.Bang depth tokens)) other

mutual
  prim_stands : (text : List ℕ) (q : Query) → ReadsAsPrim text q → PrimStands text
  prim_stands _ _ (ReadsAsPrim.word text word) depth behind tokens shallow = word_stands text word depth behind tokens shallow
  prim_stands _ _ (ReadsAsPrim.group text q reads) depth behind tokens shallow =
      ap (first_refusal behind depth) (tokens-group text tokens)
      ∙ opened_stands depth behind (tokens_of text ++ Token.Close ∷ tokens) (opens_below depth (text ++ (41 ∷ [])) shallow)
      ∙ alt_stands text q reads (depth + 1) Before.Start (Token.Close ∷ tokens) refl (shallow_group depth text shallow) ∙ closed_stands depth tokens
  prim_stands _ _ (ReadsAsPrim.space_before text q reads) depth behind tokens shallow =
      prim_stands text q reads depth behind tokens (shallow_back depth (32 ∷ []) text refl shallow)
  prim_stands _ _ (ReadsAsPrim.space_after text q reads) depth behind tokens shallow =
      ap (first_refusal behind depth) (tokens-space_after text tokens)
      ∙ prim_stands text q reads depth behind tokens (shallow_front depth text (32 ∷ []) shallow)

  item_stands : (text : List ℕ) (q : Query) → ReadsAsItem text q → Stands text
  item_stands _ _ (ReadsAsItem.plain text q reads) depth behind tokens other shallow = prim_stands text q reads depth behind tokens shallow
  item_stands _ _ (ReadsAsItem.negated text q reads) depth behind tokens other shallow =
      bang_stands depth behind (tokens_of text ++ tokens) other
      ∙ prim_stands text q reads depth Before.Bang tokens (shallow_back depth (33 ∷ []) text refl shallow)
  item_stands _ _ (ReadsAsItem.space_before_item text q reads) depth behind tokens other shallow =
      item_stands text q reads depth behind tokens other (shallow_back depth (32 ∷ []) text refl shallow)

  items_stand : (text : List ℕ) (qs : List Query) → ReadsAsItems text qs → Stands text
  items_stand _ _ (ReadsAsItems.one_item text q reads) depth behind tokens other shallow = item_stands text q reads depth behind tokens other shallow
  items_stand _ _ (ReadsAsItems.more_items text rest q qs reads cut more) depth behind tokens other shallow =
      ap (first_refusal behind depth) (tokens-items text rest tokens cut)
      ∙ item_stands text q reads depth behind (tokens_of rest ++ tokens) other (shallow_front depth text rest shallow)
      ∙ items_stand rest qs more depth Before.Item tokens refl (shallow_back depth text rest (item_balanced text q reads) shallow)

  conjs_stand : (text : List ℕ) (qs : List Query) → ReadsAsConjs text qs → Stands text
  conjs_stand _ _ (ReadsAsConjs.one_conj text ps reads) depth behind tokens other shallow = items_stand text ps reads depth behind tokens other shallow
  conjs_stand _ _ (ReadsAsConjs.more_conjs text rest ps qs reads more) depth behind tokens other shallow =
      ap (first_refusal behind depth) (tokens-bar text rest tokens)
      ∙ items_stand text ps reads depth behind (Token.Bar ∷ (tokens_of rest ++ tokens)) other (shallow_front depth text (124 ∷ rest) shallow)
      ∙ conjs_stand rest qs more depth Before.Start tokens refl
      (shallow_back depth (124 ∷ []) rest refl (shallow_back depth text (124 ∷ rest) (items_balanced text ps reads) shallow))

  alt_stands : (text : List ℕ) (q : Query) → ReadsAs text q → Stands text
  alt_stands _ _ (ReadsAs.alt text qs reads) depth behind tokens other shallow = conjs_stand text qs reads depth behind tokens other shallow

-- within the limits a text that reads as a query isn't refused
pub unrefused : (text : List ℕ) (q : Query) → ReadsAs text q → IsWithinLimits text → refusal_of text ≡ None
unrefused text q reads limits =
    let shallow : Shallow 0 text = λ front back e. let here = limits.shallow front back e in omega (arith, here) in
    ap (λ test. cond test (Some Long) (first_refusal Before.Start 0 (tokens_of text))) (le-ltb 4096 (length text) limits.short)
    ∙ ap (first_refusal Before.Start 0) (sym (append-nil (tokens_of text))) ∙ alt_stands text q reads 0 Before.Start [] refl shallow

-- a text that begins with a byte
pub shallow_cons : (byte : ℕ) (bytes : List ℕ) (depth : ℕ) → depth ≤ 32 →
    ((front back : List ℕ) → bytes ≡ front ++ back → count_of 40 (byte ∷ front) + depth ≤ count_of 41 (byte ∷ front) + 32) → Shallow depth (byte ∷ bytes)
shallow_cons byte bytes depth low inside [] back e = omega arith
shallow_cons byte bytes depth low inside (first ∷ front) back e =
    let same : byte ≡ first = cc in
    let rest : bytes ≡ front ++ back = cc in
    subst (λ b. count_of 40 (b ∷ front) + depth ≤ count_of 41 (b ∷ front) + 32) same (inside front back rest)

shallow_other : (byte : ℕ) (bytes : List ℕ) (depth : ℕ) → depth ≤ 32 → (byte == 40) ≡ false → (byte == 41) ≡ false → Shallow depth bytes
    → Shallow depth (byte ∷ bytes)
shallow_other byte bytes depth low opens closes inside = shallow_cons byte bytes depth low (λ front back e.
    let here : count_of 40 front + depth ≤ count_of 41 front + 32 = inside front back e in
    omega (arith, count-other 40 byte front opens, count-other 41 byte front closes))

-- a text that isn't refused nowhere has more open
abbrev IsShallow : List ℕ → Type 0
IsShallow text = (behind : Before) (depth : ℕ) → depth ≤ 32 → first_refusal behind depth (tokens_of text) ≡ None → Shallow depth text

letter_inside : (byte : ℕ) (bytes : List ℕ) → is_ascii_alphanumeric byte ≡ true → (begins_in_word bytes ≡ true) ⊎ (begins_in_word bytes ≡ false) →
    (behind : Before) (depth : ℕ) → first_refusal behind depth (tokens_of (byte ∷ bytes)) ≡ None
    → (b : Before) × (first_refusal b depth (tokens_of bytes) ≡ None)
letter_inside byte bytes is (inl goes_on) behind depth none =
    let run = begins_with_run bytes goes_on in
    let joined = ap (first_refusal behind depth) (sym (letter_joins byte bytes run.0 run.1.0 is goes_on run.1.1)) ∙ none in
    let parts = later_none (refusal_at behind depth (Token.Run (byte ∷ run.0))) (first_refusal Before.Item depth run.1.0) joined in
    let long : nat_lt 32 (suc (length run.0)) ≡ false = no_error (nat_lt 32 (suc (length run.0))) LongWord parts.0 in
    let below : suc (length run.0) ≤ 32 = ltb-false 32 (suc (length run.0)) long in (
      behind,
      ap (first_refusal behind depth) run.1.1
          ∙ ap (λ test. or_later (cond test (Some LongWord) None) (first_refusal Before.Item depth run.1.0)) (le-ltb 32 (length run.0) (omega arith)) ∙ parts.1,
    )
letter_inside byte bytes is (inr ends) behind depth none =
    let alone = ap (first_refusal behind depth) (sym (letter_alone byte bytes is ends)) ∙ none in
    (Before.Item, (later_none (refusal_at behind depth (Token.Run (byte ∷ []))) (first_refusal Before.Item depth (tokens_of bytes)) alone).1)

below_limit : (depth : ℕ) → depth ≤ 32 → (depth ≡ 32 → ⊥) → depth + 1 ≤ 32
below_limit depth low room = omega arith

sign_byte : (byte : ℕ) (token : Token) → is_named token ≡ true → sign_of byte ≡ token → byte ≡ byte_of token
sign_byte byte token named e = byte_of-sign_of byte (ap is_named e ∙ named) ∙ ap byte_of e

sign_inside : (byte : ℕ) (bytes : List ℕ) (token : Token) → sign_of byte ≡ token → IsShallow bytes → (behind : Before) (depth : ℕ) → depth ≤ 32 →
    first_refusal behind depth (token ∷ tokens_of bytes) ≡ None → Shallow depth (byte ∷ bytes)
sign_inside byte bytes (Token.Run run) e inside behind depth low none = absurd (sign_is_no_run byte run e)
sign_inside byte bytes Token.Bang e inside behind depth low none =
    let parts = later_none (refusal_at behind depth Token.Bang) (first_refusal Before.Bang depth (tokens_of bytes)) none in
    let is = sign_byte byte Token.Bang refl e in
    shallow_other byte bytes depth low (ap (λ b. b == 40) is) (ap (λ b. b == 41) is) (inside Before.Bang depth low parts.1)
sign_inside byte bytes Token.Bar e inside behind depth low none =
    let parts = later_none (refusal_at behind depth Token.Bar) (first_refusal Before.Start depth (tokens_of bytes)) none in
    let is = sign_byte byte Token.Bar refl e in
    shallow_other byte bytes depth low (ap (λ b. b == 40) is) (ap (λ b. b == 41) is) (inside Before.Start depth low parts.1)
sign_inside byte bytes Token.Open e inside behind depth low none =
    let parts = later_none (refusal_at behind depth Token.Open) (first_refusal Before.Start (depth + 1) (tokens_of bytes)) none in
    let room : depth ≡ 32 → ⊥ = eqb-false depth 32 (no_error (depth == 32) Deep parts.0) in
    let deeper = inside Before.Start (depth + 1) (below_limit depth low room) parts.1 in
    subst (λ b. Shallow depth (b ∷ bytes)) (sym (sign_byte byte Token.Open refl e)) (shallow_cons 40 bytes depth low (λ front back whole.
    let here : count_of 40 front + (depth + 1) ≤ count_of 41 front + 32 = deeper front back whole in
    omega arith))
sign_inside byte bytes Token.Close e inside behind depth low none =
    let parts = later_none (refusal_at behind depth Token.Close) (first_refusal Before.Item (depth - 1) (tokens_of bytes)) none in
    let stands = and_parts (ends_query behind) (nat_lt 0 depth) (may_stand (ends_query behind && nat_lt 0 depth) parts.0) in
    let some : 0 < depth = ltb-true 0 depth stands.1 in
    let outside = inside Before.Item (depth - 1) (omega arith) parts.1 in
    subst (λ b. Shallow depth (b ∷ bytes)) (sym (sign_byte byte Token.Close refl e)) (shallow_cons 41 bytes depth low (λ front back whole.
    let here : count_of 40 front + (depth - 1) ≤ count_of 41 front + 32 = outside front back whole in
    omega arith))
sign_inside byte bytes Token.Other e inside behind depth low none = cc

byte_inside : (byte : ℕ) (bytes : List ℕ) → Kind byte → IsShallow bytes → IsShallow (byte ∷ bytes)
byte_inside byte bytes (Kind.letter is) inside behind depth low none =
    let next = letter_inside byte bytes is (cases_Bool (begins_in_word bytes)) behind depth none in
    shallow_other byte bytes depth low (no_letter 40 byte refl is) (no_letter 41 byte refl is) (inside next.0 depth low next.1)
byte_inside byte bytes (Kind.space is) inside behind depth low none =
    shallow_other byte bytes depth low (ap (λ b. b == 40) is) (ap (λ b. b == 41) is)
    (inside behind depth low (ap (first_refusal behind depth) (sym (space_first byte bytes is)) ∙ none))
byte_inside byte bytes (Kind.sign other not) inside behind depth low none =
    sign_inside byte bytes (sign_of byte) refl inside behind depth low (ap (first_refusal behind depth) (sym (sign_first byte bytes other not)) ∙ none)

no_text : (behind : Before) (depth : ℕ) → depth ≤ 32 → Shallow depth []
no_text behind depth low [] back e = omega arith
no_text behind depth low (first ∷ front) back e = cc

is_shallow : (text : List ℕ) → IsShallow text
is_shallow [] = λ behind depth low none. no_text behind depth low
is_shallow (byte ∷ bytes) = byte_inside byte bytes (kind_of byte) (is_shallow bytes)

short_of : (b : Bool) (later : Option QueryError) → cond b (Some Long) later ≡ None → (b ≡ false) × (later ≡ None)
short_of true later e = cc
short_of false later e = (refl, e)

-- a text that isn't refused is within the limits
pub within_limits : (text : List ℕ) → refusal_of text ≡ None → IsWithinLimits text
within_limits text none =
    let parts = short_of (nat_lt 4096 (length text)) (first_refusal Before.Start 0 (tokens_of text)) none in
    let shallow = is_shallow text Before.Start 0 (omega arith) parts.1 in
    record {
      short = ltb-false 4096 (length text) parts.0;
      shallow = λ front back e. let here : count_of 40 front + 0 ≤ count_of 41 front + 32 = shallow front back e in omega arith;
    }
