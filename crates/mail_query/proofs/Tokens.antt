-- The tokens of a text, from its front.
use Rattle.std.proofs.Common.{◌≡◌, refl, ℕ, ◌==◌, ◌+◌, suc, Bool, true, false, List, [], ◌∷◌, length, take, drop, cond, sym, ◌∙◌, ap, eqb-true, subst, arith, ◌⊎◌, inl, inr, ◌&&◌, nat_lt}
use Rattle.std.proofs.lemmas.Bool.{cases_Bool, false≢true, cond_both, and_from, and_parts, lt-ltb}
use Rattle.std.specs.List.{prefix_len, list_all, AllByRecursion}
use Rattle.std.specs.Char.{is_ascii_alphanumeric}
use Rattle.mail_query.specs.Tokens.{Token, begins_in_word, with_letter, sign_of, is_run, IsWhole, tokens_of}

-- what a byte is
pub data Kind (byte : ℕ) : Type 0 where
  letter : is_ascii_alphanumeric byte ≡ true → Kind byte
  space : byte ≡ 32 → Kind byte
  sign : is_ascii_alphanumeric byte ≡ false → (byte == 32) ≡ false → Kind byte

no_letter : (byte : ℕ) → is_ascii_alphanumeric byte ≡ false → (byte == 32 ≡ true) ⊎ (byte == 32 ≡ false) → Kind byte
no_letter byte other (inl is) = space (eqb-true byte 32 is)
no_letter byte other (inr not) = sign other not

kind_by : (byte : ℕ) → (is_ascii_alphanumeric byte ≡ true) ⊎ (is_ascii_alphanumeric byte ≡ false) → Kind byte
kind_by byte (inl is) = letter is
kind_by byte (inr other) = no_letter byte other (cases_Bool (byte == 32))

pub kind_of : (byte : ℕ) → Kind byte
kind_of byte = kind_by byte (cases_Bool (is_ascii_alphanumeric byte))

abbrev unless_letter : ℕ → List ℕ → List Token
unless_letter byte bytes = cond (byte == 32) (tokens_of bytes) (sign_of byte ∷ tokens_of bytes)

pub letter_first : (byte : ℕ) (bytes : List ℕ) → is_ascii_alphanumeric byte ≡ true →
    tokens_of (byte ∷ bytes) ≡ with_letter byte (begins_in_word bytes) (tokens_of bytes)
letter_first byte bytes is = ap (λ test. cond test (with_letter byte (begins_in_word bytes) (tokens_of bytes)) (unless_letter byte bytes)) is

pub space_first : (byte : ℕ) (bytes : List ℕ) → byte ≡ 32 → tokens_of (byte ∷ bytes) ≡ tokens_of bytes
space_first byte bytes is = ap (λ b. tokens_of (b ∷ bytes)) is

pub sign_first : (byte : ℕ) (bytes : List ℕ) → is_ascii_alphanumeric byte ≡ false → (byte == 32) ≡ false →
    tokens_of (byte ∷ bytes) ≡ sign_of byte ∷ tokens_of bytes
sign_first byte bytes other not =
    ap (λ test. cond test (with_letter byte (begins_in_word bytes) (tokens_of bytes)) (unless_letter byte bytes)) other
    ∙ ap (λ test. cond test (tokens_of bytes) (sign_of byte ∷ tokens_of bytes)) not

-- a letter with no letter behind it is a run
pub letter_alone : (byte : ℕ) (bytes : List ℕ) → is_ascii_alphanumeric byte ≡ true → begins_in_word bytes ≡ false →
    tokens_of (byte ∷ bytes) ≡ Token.Run (byte ∷ []) ∷ tokens_of bytes
letter_alone byte bytes is ends = letter_first byte bytes is ∙ ap (λ test. with_letter byte test (tokens_of bytes)) ends

-- a letter with a letter behind it is in that run
pub letter_joins : (byte : ℕ) (bytes run : List ℕ) (tokens : List Token) → is_ascii_alphanumeric byte ≡ true → begins_in_word bytes ≡ true →
    tokens_of bytes ≡ Token.Run run ∷ tokens → tokens_of (byte ∷ bytes) ≡ Token.Run (byte ∷ run) ∷ tokens
letter_joins byte bytes run tokens is goes_on behind =
    letter_first byte bytes is ∙ ap (λ test. with_letter byte test (tokens_of bytes)) goes_on ∙ ap (with_letter byte true) behind

head_same : (s t : Token) (ss ts : List Token) → s ∷ ss ≡ t ∷ ts → s ≡ t
head_same s t ss ts e = cc

-- how many letters and digits a text begins with
abbrev pub run_len : List ℕ → ℕ
run_len text = prefix_len is_ascii_alphanumeric text

run_len-letter : (byte : ℕ) (bytes : List ℕ) → is_ascii_alphanumeric byte ≡ true → run_len (byte ∷ bytes) ≡ suc (run_len bytes)
run_len-letter byte bytes is = ap (λ test. cond test (1 + run_len bytes) 0) is ∙ omega arith

run_len-end : (bytes : List ℕ) → begins_in_word bytes ≡ false → run_len bytes ≡ 0
run_len-end [] ends = refl
run_len-end (byte ∷ bytes) ends = ap (λ test. cond test (1 + run_len bytes) 0) ends

abbrev run_then_rest : ℕ → List ℕ → List Token
run_then_rest n text = Token.Run (take n text) ∷ tokens_of (drop n text)

run_behind : (byte : ℕ) (bytes : List ℕ) → is_ascii_alphanumeric byte ≡ true
    → (begins_in_word bytes ≡ true → tokens_of bytes ≡ run_then_rest (run_len bytes) bytes) →
    (begins_in_word bytes ≡ true) ⊎ (begins_in_word bytes ≡ false) → tokens_of (byte ∷ bytes) ≡ run_then_rest (suc (run_len bytes)) (byte ∷ bytes)
run_behind byte bytes is behind (inl goes_on) =
    letter_joins byte bytes (take (run_len bytes) bytes) (tokens_of (drop (run_len bytes) bytes)) is goes_on (behind goes_on)
run_behind byte bytes is behind (inr ends) = letter_alone byte bytes is ends ∙ ap (λ n. run_then_rest (suc n) (byte ∷ bytes)) (sym (run_len-end bytes ends))

-- the run that a text begins with, and what is behind it
pub run_first : (byte : ℕ) (bytes : List ℕ) → is_ascii_alphanumeric byte ≡ true
    → tokens_of (byte ∷ bytes) ≡ run_then_rest (run_len (byte ∷ bytes)) (byte ∷ bytes)
run_first byte [] is = run_behind byte [] is (λ goes_on. absurd (false≢true goes_on)) (cases_Bool false)
    ∙ ap (λ n. run_then_rest n (byte ∷ [])) (sym (run_len-letter byte [] is))
run_first byte (next ∷ bytes) is =
    run_behind byte (next ∷ bytes) is (run_first next bytes) (cases_Bool (begins_in_word (next ∷ bytes)))
    ∙ ap (λ n. run_then_rest n (byte ∷ next ∷ bytes)) (sym (run_len-letter byte (next ∷ bytes) is))

-- the same of a text that is cut behind its run
pub run_cut : (text run rest bytes : List ℕ) (byte n : ℕ) → text ≡ byte ∷ bytes → is_ascii_alphanumeric byte ≡ true → n ≡ run_len text →
    run ≡ take n text → rest ≡ drop n text → tokens_of text ≡ Token.Run run ∷ tokens_of rest
run_cut text run rest bytes byte n e is len front back =
    let whole : tokens_of text ≡ run_then_rest (run_len text) text = subst (λ t. tokens_of t ≡ run_then_rest (run_len t) t) (sym e) (run_first byte bytes is) in
    whole ∙ ap (λ k. run_then_rest k text) (sym len) ∙ ap (λ r. Token.Run r ∷ tokens_of (drop n text)) (sym front)
    ∙ ap (λ r. Token.Run run ∷ tokens_of r) (sym back)

-- a text that begins with a letter begins with a run
pub begins_with_run : (text : List ℕ) → begins_in_word text ≡ true → (run : List ℕ) × ((tokens : List Token) × (tokens_of text ≡ Token.Run run ∷ tokens))
begins_with_run [] begins = absurd (false≢true begins)
begins_with_run (byte ∷ bytes) begins =
    (take (run_len (byte ∷ bytes)) (byte ∷ bytes), (tokens_of (drop (run_len (byte ∷ bytes)) (byte ∷ bytes)), run_first byte bytes begins))

abbrev pub is_sign : Token → Bool
is_sign (Token.Run run) = false
is_sign _ = true

pub sign_of-sign : (byte : ℕ) → is_sign (sign_of byte) ≡ true
sign_of-sign byte =
    let P : Token → Type 0 = λ token. is_sign token ≡ true in
    cond_both (byte == 33) Token.Bang _ P (λ e. refl) (λ e.
    cond_both (byte == 124) Token.Bar _ P (λ e. refl) (λ e.
    cond_both (byte == 40) Token.Open _ P (λ e. refl) (λ e.
    cond_both (byte == 41) Token.Close _ P (λ e. refl) (λ e. refl))))

pub sign_is_no_run : (byte : ℕ) (run : List ℕ) → sign_of byte ≡ Token.Run run → ⊥
sign_is_no_run byte run e = false≢true (sym (ap is_sign e) ∙ sign_of-sign byte)

one_letter : (byte : ℕ) → is_ascii_alphanumeric byte ≡ true → is_run (byte ∷ []) ≡ true
one_letter byte is = and_from true (is_ascii_alphanumeric byte && true) refl (and_from (is_ascii_alphanumeric byte) true is refl)

more_letters : (byte : ℕ) (run : List ℕ) → is_ascii_alphanumeric byte ≡ true → is_run run ≡ true → is_run (byte ∷ run) ≡ true
more_letters byte run is inner =
    and_from (nat_lt 0 (suc (length run))) (is_ascii_alphanumeric byte && list_all is_ascii_alphanumeric run) (lt-ltb 0 (suc (length run)) (omega arith))
    (and_from (is_ascii_alphanumeric byte) (list_all is_ascii_alphanumeric run) is
    (and_parts (nat_lt 0 (length run)) (list_all is_ascii_alphanumeric run) inner).1)

-- the runs at the front of a text are runs
abbrev FrontWhole : List ℕ → Type 0
FrontWhole text = (run : List ℕ) (tokens : List Token) → tokens_of text ≡ Token.Run run ∷ tokens → is_run run ≡ true

letter_whole : (byte : ℕ) (bytes : List ℕ) → is_ascii_alphanumeric byte ≡ true → FrontWhole bytes →
    (begins_in_word bytes ≡ true) ⊎ (begins_in_word bytes ≡ false) → FrontWhole (byte ∷ bytes)
letter_whole byte bytes is inside (inl goes_on) run tokens e =
    let behind = begins_with_run bytes goes_on in
    let joined = letter_joins byte bytes behind.0 behind.1.0 is goes_on behind.1.1 in
    let same : run ≡ byte ∷ behind.0 = cc in
    ap is_run same ∙ more_letters byte behind.0 is (inside behind.0 behind.1.0 behind.1.1)
letter_whole byte bytes is inside (inr ends) run tokens e =
    let alone = letter_alone byte bytes is ends in
    let same : run ≡ byte ∷ [] = cc in
    ap is_run same ∙ one_letter byte is

byte_whole : (byte : ℕ) (bytes : List ℕ) → Kind byte → FrontWhole bytes → FrontWhole (byte ∷ bytes)
byte_whole byte bytes (letter is) inside run tokens e = letter_whole byte bytes is inside (cases_Bool (begins_in_word bytes)) run tokens e
byte_whole byte bytes (space is) inside run tokens e = inside run tokens (sym (space_first byte bytes is) ∙ e)
byte_whole byte bytes (sign other not) inside run tokens e = absurd (sign_is_no_run byte run (head_same _ _ _ _ (sym (sign_first byte bytes other not) ∙ e)))

pub front_whole : (text : List ℕ) → FrontWhole text
front_whole [] run tokens e = cc
front_whole (byte ∷ bytes) run tokens e = byte_whole byte bytes (kind_of byte) (front_whole bytes) run tokens e

letter_tokens : (byte : ℕ) (bytes : List ℕ) → is_ascii_alphanumeric byte ≡ true → AllByRecursion IsWhole (tokens_of bytes) →
    (begins_in_word bytes ≡ true) ⊎ (begins_in_word bytes ≡ false) → AllByRecursion IsWhole (tokens_of (byte ∷ bytes))
letter_tokens byte bytes is inside (inl goes_on) =
    let behind = begins_with_run bytes goes_on in
    let whole : AllByRecursion IsWhole (Token.Run behind.0 ∷ behind.1.0) = subst (AllByRecursion IsWhole) behind.1.1 inside in
    subst (AllByRecursion IsWhole) (sym (letter_joins byte bytes behind.0 behind.1.0 is goes_on behind.1.1)) (more_letters byte behind.0 is whole.0, whole.1)
letter_tokens byte bytes is inside (inr ends) = subst (AllByRecursion IsWhole) (sym (letter_alone byte bytes is ends)) (one_letter byte is, inside)

sign_whole : (token : Token) → is_sign token ≡ true → IsWhole token
sign_whole (Token.Run run) is = absurd (false≢true is)
sign_whole Token.Bang is = tt
sign_whole Token.Bar is = tt
sign_whole Token.Open is = tt
sign_whole Token.Close is = tt
sign_whole Token.Other is = tt

byte_tokens : (byte : ℕ) (bytes : List ℕ) → Kind byte → AllByRecursion IsWhole (tokens_of bytes) → AllByRecursion IsWhole (tokens_of (byte ∷ bytes))
byte_tokens byte bytes (letter is) inside = letter_tokens byte bytes is inside (cases_Bool (begins_in_word bytes))
byte_tokens byte bytes (space is) inside = subst (AllByRecursion IsWhole) (sym (space_first byte bytes is)) inside
byte_tokens byte bytes (sign other not) inside =
    subst (AllByRecursion IsWhole) (sym (sign_first byte bytes other not)) (sign_whole (sign_of byte) (sign_of-sign byte), inside)

-- the runs of a text are runs
pub tokens_whole : (text : List ℕ) → AllByRecursion IsWhole (tokens_of text)
tokens_whole [] = tt
tokens_whole (byte ∷ bytes) = byte_tokens byte bytes (kind_of byte) (tokens_whole bytes)
