-- Tokens that read as something in each text that has them.
use Rattle.std.proofs.Common.{◌≡◌, refl, ℕ, ◌==◌, Bool, true, false, not, List, [], ◌∷◌, ◌++◌, take, drop, sym, ◌∙◌, ap, subst, inl, inr, eqb-true, append_assoc}
use Rattle.std.proofs.lemmas.List.{append-nil, take-append-drop}
use Rattle.std.proofs.lemmas.Bool.{cases_Bool, false≢true, cond_both}
use Rattle.std.specs.Char.{is_ascii_alphanumeric}
use Rattle.mail_words.specs.Key.{is_word, lowered, key_of}
use Rattle.mail_query.specs.declared.query.Query.{Query}
use Rattle.mail_query.specs.declared.query.Query.TheVariants as query
use Rattle.mail_query.specs.Tokens.{Token, begins_in_word, sign_of, tokens_of}
use Rattle.mail_query.specs.Grammar.{ReadsAsPrim, ReadsAsItem, ReadsAs}
use Rattle.mail_query.proofs.Tokens.{Kind, kind_of, space_first, sign_first, run_first, run_len, sign_is_no_run}
use Rattle.mail_query.proofs.Cuts.{cut_at, tokens-append, no_letter_behind}

-- each text with these tokens is as P says
abbrev pub Means : (List ℕ → Type 0) → List Token → Type 0
Means P tokens = (text : List ℕ) → tokens_of text ≡ tokens → P text

-- a letter at the front is a token
letter_is_token : (byte : ℕ) (bytes : List ℕ) → is_ascii_alphanumeric byte ≡ true → (tokens_of (byte ∷ bytes) ≡ []) → ⊥
letter_is_token byte bytes is e = let first = run_first byte bytes is in cc

no_letter_in_front : (bytes : List ℕ) → tokens_of bytes ≡ [] → begins_in_word bytes ≡ false
no_letter_in_front [] e = refl
no_letter_in_front (byte ∷ bytes) e = elim (cases_Bool (is_ascii_alphanumeric byte)) [ inl is ↦ absurd (letter_is_token byte bytes is e) | inr other ↦ other ]

-- spaces behind
space_of : (byte : ℕ) (bytes : List ℕ) → Kind byte → tokens_of (byte ∷ bytes) ≡ [] → (byte ≡ 32) × (tokens_of bytes ≡ [])
space_of byte bytes (Kind.letter is) e = absurd (letter_is_token byte bytes is e)
space_of byte bytes (Kind.space is) e = (is, sym (space_first byte bytes is) ∙ e)
space_of byte bytes (Kind.sign other not) e = let first = sign_first byte bytes other not in cc

pub spaces_after : (q : Query) (spaces text : List ℕ) → tokens_of spaces ≡ [] → ReadsAsPrim text q → ReadsAsPrim (text ++ spaces) q
spaces_after q [] text e reads = subst (λ t. ReadsAsPrim t q) (sym (append-nil text)) reads
spaces_after q (byte ∷ spaces) text e reads =
    let parts = space_of byte spaces (kind_of byte) e in
    subst (λ t. ReadsAsPrim t q) (append_assoc text (byte ∷ []) spaces)
    (spaces_after q spaces (text ++ (byte ∷ [])) parts.1 (subst (λ b. ReadsAsPrim (text ++ (b ∷ [])) q) (sym parts.0) (ReadsAsPrim.space_after text q reads)))

pub spaces_before : (q : Query) (spaces text : List ℕ) → tokens_of spaces ≡ [] → ReadsAsPrim text q → ReadsAsPrim (spaces ++ text) q
spaces_before q [] text e reads = reads
spaces_before q (byte ∷ spaces) text e reads =
    let parts = space_of byte spaces (kind_of byte) e in
    subst (λ b. ReadsAsPrim (b ∷ (spaces ++ text)) q) (sym parts.0) (ReadsAsPrim.space_before (spaces ++ text) q (spaces_before q spaces text parts.1 reads))

pub spaces_before_item : (q : Query) (spaces text : List ℕ) → tokens_of spaces ≡ [] → ReadsAsItem text q → ReadsAsItem (spaces ++ text) q
spaces_before_item q [] text e reads = reads
spaces_before_item q (byte ∷ spaces) text e reads =
    let parts = space_of byte spaces (kind_of byte) e in
    subst (λ b. ReadsAsItem (b ∷ (spaces ++ text)) q) (sym parts.0)
    (ReadsAsItem.space_before_item (spaces ++ text) q (spaces_before_item q spaces text parts.1 reads))

-- the byte of a sign
abbrev pub byte_of : Token → ℕ
byte_of Token.Bang = 33
byte_of Token.Bar = 124
byte_of Token.Open = 40
byte_of Token.Close = 41
byte_of _ = 0

abbrev pub is_named : Token → Bool
is_named Token.Bang = true
is_named Token.Bar = true
is_named Token.Open = true
is_named Token.Close = true
is_named _ = false

pub byte_of-sign_of : (byte : ℕ) → is_named (sign_of byte) ≡ true → byte ≡ byte_of (sign_of byte)
byte_of-sign_of byte =
    let P : Token → Type 0 = λ token. is_named token ≡ true → byte ≡ byte_of token in
    cond_both (byte == 33) Token.Bang _ P (λ e named. eqb-true byte 33 e) (λ _.
    cond_both (byte == 124) Token.Bar _ P (λ e named. eqb-true byte 124 e) (λ _.
    cond_both (byte == 40) Token.Open _ P (λ e named. eqb-true byte 40 e) (λ _.
    cond_both (byte == 41) Token.Close Token.Other P (λ e named. eqb-true byte 41 e) (λ _ named. absurd (false≢true named)))))

-- spaces, a sign, and the rest
pub record SignFirst (text : List ℕ) (token : Token) (tokens : List Token) : Type 0 where
  pub spaces : List ℕ
  pub rest : List ℕ
  pub whole : text ≡ spaces ++ byte_of token ∷ rest
  pub are_spaces : tokens_of spaces ≡ []
  pub rest_is : tokens_of rest ≡ tokens

no_sign : (run : List ℕ) (token : Token) → is_named token ≡ true → Token.Run run ≡ token → ⊥
no_sign run token named e = false≢true (ap is_named e ∙ named)

byte_sign : (byte : ℕ) (bytes : List ℕ) (token : Token) (tokens : List Token) → Kind byte → is_named token ≡ true →
    (tokens_of bytes ≡ token ∷ tokens → SignFirst bytes token tokens) → tokens_of (byte ∷ bytes) ≡ token ∷ tokens → SignFirst (byte ∷ bytes) token tokens
byte_sign byte bytes token tokens (Kind.letter is) named inside e =
    let first = run_first byte bytes is in
    let same : Token.Run (take (run_len (byte ∷ bytes)) (byte ∷ bytes)) ≡ token = cc in
    absurd (no_sign _ token named same)
byte_sign byte bytes token tokens (Kind.space is) named inside e =
    let s = inside (sym (space_first byte bytes is) ∙ e) in
    record {
      spaces = byte ∷ s.spaces;
      rest = s.rest;
      whole = ap (λ bs. byte ∷ bs) s.whole;
      are_spaces = space_first byte s.spaces is ∙ s.are_spaces;
      rest_is = s.rest_is;
    }
byte_sign byte bytes token tokens (Kind.sign other not) named inside e =
    let first = sign_first byte bytes other not in
    let same : sign_of byte ≡ token = cc in
    let rest : tokens_of bytes ≡ tokens = cc in
    record {
      spaces = [];
      rest = bytes;
      whole = ap (λ b. b ∷ bytes) (byte_of-sign_of byte (ap is_named same ∙ named) ∙ ap byte_of same);
      are_spaces = refl;
      rest_is = rest;
    }

pub sign_cut : (text : List ℕ) (token : Token) (tokens : List Token) → is_named token ≡ true → tokens_of text ≡ token ∷ tokens → SignFirst text token tokens
sign_cut [] token tokens named e = cc
sign_cut (byte ∷ bytes) token tokens named e = byte_sign byte bytes token tokens (kind_of byte) named (sign_cut bytes token tokens named) e

-- a text, a sign and a text
pub record SignBetween (text : List ℕ) (front : List Token) (token : Token) (back : List Token) : Type 0 where
  pub before : List ℕ
  pub after : List ℕ
  pub whole : text ≡ before ++ byte_of token ∷ after
  pub front_is : tokens_of before ≡ front
  pub back_is : tokens_of after ≡ back

pub sign_between : (text : List ℕ) (front : List Token) (token : Token) (back : List Token) → is_named token ≡ true → tokens_of text ≡ front ++ token ∷ back →
    SignBetween text front token back
sign_between text front token back named e =
    let c = cut_at text front (token ∷ back) e in
    let s = sign_cut c.after token back named c.back_is in
    record {
      before = c.before ++ s.spaces;
      after = s.rest;
      whole = c.whole ∙ ap (λ t. c.before ++ t) s.whole ∙ sym (append_assoc c.before s.spaces (byte_of token ∷ s.rest));
      front_is = tokens-append c.before s.spaces (no_letter_behind c.before s.spaces (no_letter_in_front s.spaces s.are_spaces))
          ∙ ap (λ ts. tokens_of c.before ++ ts) s.are_spaces ∙ append-nil (tokens_of c.before) ∙ c.front_is;
      back_is = s.rest_is;
    }

-- a word
word_front : (byte : ℕ) (bytes run : List ℕ) → is_ascii_alphanumeric byte ≡ true → is_word run ≡ true → tokens_of (byte ∷ bytes) ≡ Token.Run run ∷ [] →
    ReadsAsPrim (byte ∷ bytes) (query.Word (key_of (lowered run)))
word_front byte bytes run is word e =
    let first = run_first byte bytes is in
    let n = run_len (byte ∷ bytes) in
    let same : take n (byte ∷ bytes) ≡ run = cc in
    let rest : tokens_of (drop n (byte ∷ bytes)) ≡ [] = cc in
    let whole : byte ∷ bytes ≡ run ++ drop n (byte ∷ bytes) = sym (take-append-drop n (byte ∷ bytes)) ∙ ap (λ t. t ++ drop n (byte ∷ bytes)) same in
    subst (λ t. ReadsAsPrim t (query.Word (key_of (lowered run)))) (sym whole)
    (spaces_after (query.Word (key_of (lowered run))) (drop n (byte ∷ bytes)) run rest (ReadsAsPrim.word run word))

byte_word : (byte : ℕ) (bytes run : List ℕ) → Kind byte → is_word run ≡ true
    → (tokens_of bytes ≡ Token.Run run ∷ [] → ReadsAsPrim bytes (query.Word (key_of (lowered run)))) →
    tokens_of (byte ∷ bytes) ≡ Token.Run run ∷ [] → ReadsAsPrim (byte ∷ bytes) (query.Word (key_of (lowered run)))
byte_word byte bytes run (Kind.letter is) word inside e = word_front byte bytes run is word e
byte_word byte bytes run (Kind.space is) word inside e =
    subst (λ b. ReadsAsPrim (b ∷ bytes) (query.Word (key_of (lowered run)))) (sym is)
    (ReadsAsPrim.space_before bytes (query.Word (key_of (lowered run))) (inside (sym (space_first byte bytes is) ∙ e)))
byte_word byte bytes run (Kind.sign other not) word inside e =
    let first = sign_first byte bytes other not in
    let same : sign_of byte ≡ Token.Run run = cc in
    absurd (sign_is_no_run byte run same)

pub word_means : (run : List ℕ) → is_word run ≡ true → Means (λ text. ReadsAsPrim text (query.Word (key_of (lowered run)))) (Token.Run run ∷ [])
word_means run word [] e = cc
word_means run word (byte ∷ bytes) e = byte_word byte bytes run (kind_of byte) word (word_means run word bytes) e

-- a group
pub group_means : (q : Query) (tokens : List Token) → Means (λ text. ReadsAs text q) tokens
    → Means (λ text. ReadsAsPrim text q) (Token.Open ∷ tokens ++ Token.Close ∷ [])
group_means q tokens inner text e =
    let opened = sign_cut text Token.Open (tokens ++ Token.Close ∷ []) refl e in
    let closed = sign_between opened.rest tokens Token.Close [] refl opened.rest_is in
    let reads : ReadsAsPrim (40 ∷ (closed.before ++ (41 ∷ []))) q = ReadsAsPrim.group closed.before q (inner closed.before closed.front_is) in
    let spaced : ReadsAsPrim ((40 ∷ (closed.before ++ (41 ∷ []))) ++ closed.after) q = spaces_after q closed.after _ closed.back_is reads in
    let regrouped : (40 ∷ (closed.before ++ (41 ∷ []))) ++ closed.after ≡ 40 ∷ opened.rest =
    ap (λ t. 40 ∷ t) (append_assoc closed.before (41 ∷ []) closed.after ∙ sym closed.whole) in
    subst (λ t. ReadsAsPrim t q) (sym opened.whole)
    (spaces_before q opened.spaces (40 ∷ opened.rest) opened.are_spaces (subst (λ t. ReadsAsPrim t q) regrouped spaced))

-- an item
pub plain_means : (q : Query) (tokens : List Token) → Means (λ text. ReadsAsPrim text q) tokens → Means (λ text. ReadsAsItem text q) tokens
plain_means q tokens means text e = ReadsAsItem.plain text q (means text e)

pub negated_means : (q : Query) (tokens : List Token) → Means (λ text. ReadsAsPrim text q) tokens
    → Means (λ text. ReadsAsItem text (query.Not q)) (Token.Bang ∷ tokens)
negated_means q tokens means text e =
    let s = sign_cut text Token.Bang tokens refl e in
    subst (λ t. ReadsAsItem t (query.Not q)) (sym s.whole)
    (spaces_before_item (query.Not q) s.spaces (33 ∷ s.rest) s.are_spaces (ReadsAsItem.negated s.rest q (means s.rest s.rest_is)))
