-- Where the tokens of a text are cut, the text is cut; and the tokens of a text that is cut are those of its parts.
use Rattle.std.proofs.Common.{◌≡◌, refl, ℕ, Bool, true, false, not, ◌&&◌, List, [], ◌∷◌, ◌++◌, sym, ◌∙◌, ap, ◌⊎◌, inl, inr}
use Rattle.std.proofs.lemmas.Bool.{cases_Bool, not-true}
use Rattle.std.specs.Char.{is_ascii_alphanumeric}
use Rattle.mail_query.specs.Tokens.{Token, begins_in_word, sign_of, tokens_of}
use Rattle.mail_query.specs.Grammar.{ends_in_word, is_cut}
use Rattle.mail_query.proofs.Tokens.{Kind, kind_of, space_first, sign_first, letter_alone, letter_joins, begins_with_run}

pub begins-front : (byte : ℕ) (bytes after : List ℕ) → begins_in_word ((byte ∷ bytes) ++ after) ≡ begins_in_word (byte ∷ bytes)
begins-front byte bytes after = refl

-- a cut stays one where more stands before it
cut_longer : (byte : ℕ) (before after : List ℕ) → is_cut before after ≡ true → (before ≡ [] → is_cut (byte ∷ []) after ≡ true)
    → is_cut (byte ∷ before) after ≡ true
cut_longer byte [] after cut alone = alone refl
cut_longer byte (next ∷ before) after cut alone = cut

cut_shorter : (byte : ℕ) (before after : List ℕ) → is_cut (byte ∷ before) after ≡ true → is_cut before after ≡ true
cut_shorter byte [] after cut = refl
cut_shorter byte (next ∷ before) after cut = cut

-- a byte that is no letter may stand before a cut, and a text that begins with none behind it
no_letter_before : (byte : ℕ) (after : List ℕ) → is_ascii_alphanumeric byte ≡ false → is_cut (byte ∷ []) after ≡ true
no_letter_before byte after other = ap (λ test. not (test && begins_in_word after)) other

and_false : (b : Bool) → b && false ≡ false
and_false true = refl
and_false false = refl

pub no_letter_behind : (before after : List ℕ) → begins_in_word after ≡ false → is_cut before after ≡ true
no_letter_behind before after other = ap (λ test. not (ends_in_word before && test)) other ∙ ap not (and_false (ends_in_word before))

letter_ends : (byte : ℕ) (after : List ℕ) → is_ascii_alphanumeric byte ≡ true → is_cut (byte ∷ []) after ≡ true → begins_in_word after ≡ false
letter_ends byte after is cut = ap (λ test. test && begins_in_word after) (sym is) ∙ not-true (is_ascii_alphanumeric byte && begins_in_word after) cut

-- a text in two parts, with these tokens
pub record Cut (text : List ℕ) (front back : List Token) : Type 0 where
  pub before : List ℕ
  pub after : List ℕ
  pub whole : text ≡ before ++ after
  pub front_is : tokens_of before ≡ front
  pub back_is : tokens_of after ≡ back
  pub cut : is_cut before after ≡ true

abbrev CutsAnywhere : List ℕ → Type 0
CutsAnywhere text = (front back : List Token) → tokens_of text ≡ front ++ back → Cut text front back

tail_same : (s t : Token) (ss ts : List Token) → s ∷ ss ≡ t ∷ ts → ss ≡ ts
tail_same s t ss ts e = cc

begins_part : (bytes before after : List ℕ) → bytes ≡ before ++ after → begins_in_word bytes ≡ false → begins_in_word before ≡ false
begins_part bytes [] after whole ends = refl
begins_part bytes (byte ∷ before) after whole ends = sym (ap begins_in_word whole) ∙ ends

goes_on_part : (bytes before after : List ℕ) (run : List ℕ) (tokens : List Token) → bytes ≡ before ++ after → tokens_of before ≡ Token.Run run ∷ tokens →
    begins_in_word bytes ≡ true → begins_in_word before ≡ true
goes_on_part bytes [] after run tokens whole e goes_on = cc
goes_on_part bytes (byte ∷ before) after run tokens whole e goes_on = sym (ap begins_in_word whole) ∙ goes_on

cut_joined : (byte : ℕ) (before after run : List ℕ) (tokens : List Token) → tokens_of before ≡ Token.Run run ∷ tokens → is_cut before after ≡ true
    → is_cut (byte ∷ before) after ≡ true
cut_joined byte [] after run tokens e cut = cc
cut_joined byte (next ∷ before) after run tokens e cut = cut

letter_cut : (byte : ℕ) (bytes : List ℕ) → is_ascii_alphanumeric byte ≡ true → CutsAnywhere bytes →
    (begins_in_word bytes ≡ true) ⊎ (begins_in_word bytes ≡ false) →
    (token : Token) (front back : List Token) → tokens_of (byte ∷ bytes) ≡ token ∷ front ++ back → Cut (byte ∷ bytes) (token ∷ front) back
letter_cut byte bytes is inside (inl goes_on) token front back e =
    let behind = begins_with_run bytes goes_on in
    let joined = letter_joins byte bytes behind.0 behind.1.0 is goes_on behind.1.1 in
    let more : behind.1.0 ≡ front ++ back = cc in
    let run : Token.Run (byte ∷ behind.0) ≡ token = cc in
    let c = inside (Token.Run behind.0 ∷ front) back (behind.1.1 ∙ ap (λ ts. Token.Run behind.0 ∷ ts) more) in
    record {
      before = byte ∷ c.before;
      after = c.after;
      whole = ap (λ bs. byte ∷ bs) c.whole;
      front_is = letter_joins byte c.before behind.0 front is (goes_on_part bytes c.before c.after behind.0 front c.whole c.front_is goes_on) c.front_is
          ∙ ap (λ t. t ∷ front) run;
      back_is = c.back_is;
      cut = cut_joined byte c.before c.after behind.0 front c.front_is c.cut;
    }
letter_cut byte bytes is inside (inr ends) token front back e =
    let alone = letter_alone byte bytes is ends in
    let more : tokens_of bytes ≡ front ++ back = cc in
    let run : Token.Run (byte ∷ []) ≡ token = cc in
    let c = inside front back more in
    record {
      before = byte ∷ c.before;
      after = c.after;
      whole = ap (λ bs. byte ∷ bs) c.whole;
      front_is = letter_alone byte c.before is (begins_part bytes c.before c.after c.whole ends) ∙ ap (λ ts. Token.Run (byte ∷ []) ∷ ts) c.front_is
          ∙ ap (λ t. t ∷ front) run;
      back_is = c.back_is;
      cut = cut_longer byte c.before c.after c.cut (λ none.
          no_letter_behind (byte ∷ []) c.after (sym (ap begins_in_word (c.whole ∙ ap (λ bs. bs ++ c.after) none)) ∙ ends));
    }

byte_cut : (byte : ℕ) (bytes : List ℕ) → Kind byte → CutsAnywhere bytes →
    (token : Token) (front back : List Token) → tokens_of (byte ∷ bytes) ≡ token ∷ front ++ back → Cut (byte ∷ bytes) (token ∷ front) back
byte_cut byte bytes (Kind.letter is) inside token front back e = letter_cut byte bytes is inside (cases_Bool (begins_in_word bytes)) token front back e
byte_cut byte bytes (Kind.space is) inside token front back e =
    let c = inside (token ∷ front) back (sym (space_first byte bytes is) ∙ e) in
    record {
      before = byte ∷ c.before;
      after = c.after;
      whole = ap (λ bs. byte ∷ bs) c.whole;
      front_is = space_first byte c.before is ∙ c.front_is;
      back_is = c.back_is;
      cut = cut_longer byte c.before c.after c.cut (λ none. no_letter_before byte c.after (ap is_ascii_alphanumeric is));
    }
byte_cut byte bytes (Kind.sign other not) inside token front back e =
    let first = sign_first byte bytes other not in
    let more : tokens_of bytes ≡ front ++ back = cc in
    let same : sign_of byte ≡ token = cc in
    let c = inside front back more in
    record {
      before = byte ∷ c.before;
      after = c.after;
      whole = ap (λ bs. byte ∷ bs) c.whole;
      front_is = sign_first byte c.before other not ∙ ap (λ ts. sign_of byte ∷ ts) c.front_is ∙ ap (λ t. t ∷ front) same;
      back_is = c.back_is;
      cut = cut_longer byte c.before c.after c.cut (λ none. no_letter_before byte c.after other);
    }

pub cut_at : (text : List ℕ) (front back : List Token) → tokens_of text ≡ front ++ back → Cut text front back
cut_at text [] back e = record { before = []; after = text; whole = refl; front_is = refl; back_is = e; cut = refl }
cut_at [] (token ∷ front) back e = cc
cut_at (byte ∷ bytes) (token ∷ front) back e = byte_cut byte bytes (kind_of byte) (cut_at bytes) token front back e

letter_append : (byte : ℕ) (before after : List ℕ) → is_ascii_alphanumeric byte ≡ true → is_cut (byte ∷ before) after ≡ true
    → tokens_of (before ++ after) ≡ tokens_of before ++ tokens_of after →
    (begins_in_word before ≡ true) ⊎ (begins_in_word before ≡ false) → tokens_of (byte ∷ (before ++ after)) ≡ tokens_of (byte ∷ before) ++ tokens_of after
letter_append byte [] after is cut inside goes_on =
    letter_alone byte after is (letter_ends byte after is cut) ∙ ap (λ ts. ts ++ tokens_of after) (sym (letter_alone byte [] is refl))
letter_append byte (next ∷ before) after is cut inside (inl goes_on) =
    let behind = begins_with_run (next ∷ before) goes_on in
    letter_joins byte ((next ∷ before) ++ after) behind.0 (behind.1.0 ++ tokens_of after) is goes_on (inside ∙ ap (λ ts. ts ++ tokens_of after) behind.1.1)
    ∙ ap (λ ts. ts ++ tokens_of after) (sym (letter_joins byte (next ∷ before) behind.0 behind.1.0 is goes_on behind.1.1))
letter_append byte (next ∷ before) after is cut inside (inr ends) =
    letter_alone byte ((next ∷ before) ++ after) is ends ∙ ap (λ ts. Token.Run (byte ∷ []) ∷ ts) inside
    ∙ ap (λ ts. ts ++ tokens_of after) (sym (letter_alone byte (next ∷ before) is ends))

byte_append : (byte : ℕ) (before after : List ℕ) → Kind byte → is_cut (byte ∷ before) after ≡ true
    → tokens_of (before ++ after) ≡ tokens_of before ++ tokens_of after →
    tokens_of (byte ∷ (before ++ after)) ≡ tokens_of (byte ∷ before) ++ tokens_of after
byte_append byte before after (Kind.letter is) cut inside = letter_append byte before after is cut inside (cases_Bool (begins_in_word before))
byte_append byte before after (Kind.space is) cut inside = space_first byte (before ++ after) is ∙ inside
    ∙ ap (λ ts. ts ++ tokens_of after) (sym (space_first byte before is))
byte_append byte before after (Kind.sign other not) cut inside =
    sign_first byte (before ++ after) other not ∙ ap (λ ts. sign_of byte ∷ ts) inside
    ∙ ap (λ ts. ts ++ tokens_of after) (sym (sign_first byte before other not))

pub tokens-append : (before after : List ℕ) → is_cut before after ≡ true → tokens_of (before ++ after) ≡ tokens_of before ++ tokens_of after
tokens-append [] after cut = refl
tokens-append (byte ∷ before) after cut = byte_append byte before after (kind_of byte) cut (tokens-append before after (cut_shorter byte before after cut))
