-- Lines of plain tokens: how their text falls into lines, and each line into its tokens.
use Rattle.std.proofs.Common.{◌≡◌, ℕ, suc, ◌+◌, ◌<◌, ◌≤◌, ◌&&◌, nat_le, not, Bool, true, false, cond, List, [], ◌∷◌, ◌++◌, length, map, filter, refl, sym, ◌∙◌, ap, arith, eq-eqb, ne_eqb, leb-true, append_assoc}
use Rattle.std.specs.List.{concat}
use Rattle.std.proofs.lemmas.List.{append-nil}
use Rattle.ring_script.specs.Lines.{Line, pieces, onto_first, contents, without_return, numbered, is_read, lines_of, parted, behind_first, tokens_of}
use Rattle.ring_script.proofs.Pieces.{next_line}

-- ---- bytes
-- no byte is lower
abbrev pub AllFrom : ℕ → List ℕ → Type 0
AllFrom low [] = Unit {0}
AllFrom low (byte ∷ bytes) = (low ≤ byte) × AllFrom low bytes

abbrev all_from : ℕ → List ℕ → Bool
all_from low [] = true
all_from low (byte ∷ bytes) = nat_le low byte && all_from low bytes

pub both_are : (p q : Bool) → (p && q) ≡ true → (p ≡ true) × (q ≡ true)
both_are true true is = (refl, refl)
both_are true false is = absurd (cc (is))
both_are false q is = absurd (cc (is))

from_true : (low : ℕ) (bytes : List ℕ) → all_from low bytes ≡ true → AllFrom low bytes
from_true low [] is = tt
from_true low (byte ∷ bytes) is =
    let both = both_are (nat_le low byte) (all_from low bytes) is in
    (leb-true low byte both.0, from_true low bytes both.1)

lower : (low high : ℕ) (bytes : List ℕ) → low ≤ high → AllFrom high bytes → AllFrom low bytes
lower low high [] below all = tt
lower low high (byte ∷ bytes) below all = (omega (arith, below, all.0), lower low high bytes below all.1)

from_append : (low : ℕ) (bytes more : List ℕ) → AllFrom low bytes → AllFrom low more → AllFrom low (bytes ++ more)
from_append low [] more all also = also
from_append low (byte ∷ bytes) more all also = (all.0, from_append low bytes more all.1 also)

-- what is before the separator is a piece
cut_piece : (separator low : ℕ) (bytes rest : List ℕ) → separator < low → AllFrom low bytes
    → pieces separator (bytes ++ separator ∷ rest) ≡ bytes ∷ pieces separator rest
cut_piece separator low [] rest below all =
    ap (λ (t : Bool). cond t ([] ∷ pieces separator rest) (onto_first separator (pieces separator rest))) (eq-eqb separator separator refl)
cut_piece separator low (byte ∷ bytes) rest below all =
    let other : byte ≡ separator → ⊥ = λ is. omega (arith, below, all.0, is) in
    let more = pieces separator (bytes ++ separator ∷ rest) in
    ap (λ (t : Bool). cond t ([] ∷ more) (onto_first byte more)) (ne_eqb byte separator other)
    ∙ ap (onto_first byte) (cut_piece separator low bytes rest below all.1)

only_piece : (separator low : ℕ) (bytes : List ℕ) → separator < low → AllFrom low bytes → pieces separator bytes ≡ bytes ∷ []
only_piece separator low [] below all = refl
only_piece separator low (byte ∷ bytes) below all =
    let other : byte ≡ separator → ⊥ = λ is. omega (arith, below, all.0, is) in
    let more = pieces separator bytes in
    ap (λ (t : Bool). cond t ([] ∷ more) (onto_first byte more)) (ne_eqb byte separator other)
    ∙ ap (onto_first byte) (only_piece separator low bytes below all.1)

-- ---- tokens
-- neither empty, nor with a space or a byte that ends a line or skips it
abbrev pub IsPlain : List ℕ → Type 0
IsPlain token = (0 < length token) × AllFrom 36 token

abbrev pub ArePlain : List (List ℕ) → Type 0
ArePlain [] = Unit {0}
ArePlain (token ∷ tokens) = IsPlain token × ArePlain tokens

-- a token that is written out
pub plain_text : (token : List ℕ) → (nat_le 1 (length token) && all_from 36 token) ≡ true → IsPlain token
plain_text token is =
    let both = both_are (nat_le 1 (length token)) (all_from 36 token) is in
    (leb-true 1 (length token) both.0, from_true 36 token both.1)

pub plain_append : (tokens more : List (List ℕ)) → ArePlain tokens → ArePlain more → ArePlain (tokens ++ more)
plain_append [] more are also = also
plain_append (token ∷ tokens) more are also = (are.0, plain_append tokens more are.1 also)

-- each behind a space
abbrev pub behind_spaces : List (List ℕ) → List ℕ
behind_spaces [] = []
behind_spaces (token ∷ tokens) = 32 ∷ (token ++ behind_spaces tokens)

pub spaces_append : (tokens more : List (List ℕ)) → behind_spaces (tokens ++ more) ≡ behind_spaces tokens ++ behind_spaces more
spaces_append [] more = refl
spaces_append (token ∷ tokens) more =
    ap (λ l. 32 ∷ (token ++ l)) (spaces_append tokens more) ∙ sym (ap (λ l. 32 ∷ l) (append_assoc token (behind_spaces tokens) (behind_spaces more)))

-- the tokens, parted by one space
abbrev pub joined : List (List ℕ) → List ℕ
joined [] = []
joined (token ∷ tokens) = token ++ behind_spaces tokens

abbrev pub IsLine : List (List ℕ) → Type 0
IsLine [] = ⊥
IsLine (token ∷ tokens) = IsPlain token × ArePlain tokens

pieces_joined : (token : List ℕ) (tokens : List (List ℕ)) → IsPlain token → ArePlain tokens → pieces 32 (token ++ behind_spaces tokens) ≡ token ∷ tokens
pieces_joined token [] is are = ap (pieces 32) (append-nil token) ∙ only_piece 32 36 token (omega arith) is.1
pieces_joined token (next ∷ tokens) is are =
    cut_piece 32 36 token (next ++ behind_spaces tokens) (omega arith) is.1 ∙ ap (λ ps. token ∷ ps) (pieces_joined next tokens are.0 are.1)

parted_plain : (tokens : List (List ℕ)) → ArePlain tokens → parted tokens ≡ tokens
parted_plain [] are = refl
parted_plain (token ∷ []) are = refl
parted_plain ([] ∷ next ∷ tokens) are = let some = are.0 in absurd (omega (arith, some.0))
parted_plain ((byte ∷ bytes) ∷ next ∷ tokens) are = ap (λ ts. (byte ∷ bytes) ∷ ts) (parted_plain (next ∷ tokens) are.1)

-- a line has its tokens
pub tokens_joined : (tokens : List (List ℕ)) → IsLine tokens → tokens_of (joined tokens) ≡ tokens
tokens_joined [] is = absurd is
tokens_joined (token ∷ tokens) is =
    ap behind_first (pieces_joined token tokens is.0 is.1) ∙ ap (λ ts. token ∷ ts) (parted_plain tokens is.1)

-- ---- lines
spaces_from : (tokens : List (List ℕ)) → ArePlain tokens → AllFrom 32 (behind_spaces tokens)
spaces_from [] are = tt
spaces_from (token ∷ tokens) are =
    let plain = are.0 in
    (omega arith, from_append 32 token (behind_spaces tokens) (lower 32 36 token (omega arith) plain.1) (spaces_from tokens are.1))

joined_from : (tokens : List (List ℕ)) → IsLine tokens → AllFrom 32 (joined tokens)
joined_from [] is = tt
joined_from (token ∷ tokens) is =
    let plain = is.0 in
    from_append 32 token (behind_spaces tokens) (lower 32 36 token (omega arith) plain.1) (spaces_from tokens is.1)

no_return : (bytes : List ℕ) → AllFrom 32 bytes → without_return bytes ≡ bytes
no_return [] all = refl
no_return (byte ∷ []) all = ap (λ (t : Bool). cond t [] (byte ∷ [])) (ne_eqb byte 13 (λ is. omega (arith, all.0, is)))
no_return (byte ∷ next ∷ bytes) all = ap (λ l. byte ∷ l) (no_return (next ∷ bytes) all.1)

read_first : (bytes more : List ℕ) → 0 < length bytes → AllFrom 36 bytes → is_read (bytes ++ more) ≡ true
read_first [] more some all = absurd (omega (arith, some))
read_first (byte ∷ bytes) more some all = ap not (ne_eqb byte 35 (λ is. omega (arith, all.0, is)))

joined_read : (tokens : List (List ℕ)) → IsLine tokens → is_read (joined tokens) ≡ true
joined_read [] is = absurd is
joined_read (token ∷ tokens) is = let plain = is.0 in read_first token (behind_spaces tokens) plain.0 plain.1

abbrev pub line_of : List (List ℕ) → List ℕ
line_of tokens = joined tokens ++ 10 ∷ []

abbrev pub text_of_lines : List (List (List ℕ)) → List ℕ
text_of_lines lines = concat (map line_of lines)

abbrev pub AreLines : List (List (List ℕ)) → Type 0
AreLines [] = Unit {0}
AreLines (tokens ∷ lines) = IsLine tokens × AreLines lines

pub lines_append : (lines more : List (List (List ℕ))) → AreLines lines → AreLines more → AreLines (lines ++ more)
lines_append [] more are also = also
lines_append (tokens ∷ lines) more are also = (are.0, lines_append lines more are.1 also)

contents_of : (lines : List (List (List ℕ))) → AreLines lines → contents (pieces 10 (text_of_lines lines)) ≡ map joined lines ++ [] ∷ []
contents_of [] are = refl
contents_of (tokens ∷ lines) are =
    let line = joined tokens in
    let rest = text_of_lines lines in
    let all = joined_from tokens are.0 in
    let cut : pieces 10 (line_of tokens ++ rest) ≡ line ∷ pieces 10 rest =
    ap (pieces 10) (append_assoc line (10 ∷ []) rest) ∙ cut_piece 10 32 line rest (omega arith) all in
    next_line (line_of tokens ++ rest) line rest cut ∙ ap (λ l. l ∷ contents (pieces 10 rest)) (no_return line all)
    ∙ ap (λ ls. line ∷ ls) (contents_of lines are.1)

-- the lines with their numbers
abbrev pub numbered_lines : ℕ → List (List (List ℕ)) → List Line
numbered_lines number lines = numbered number (map joined lines)

read_lines : (number : ℕ) (lines : List (List (List ℕ))) → AreLines lines
    → filter (λ line. is_read line.content) (numbered number (map joined lines ++ [] ∷ [])) ≡ numbered_lines number lines
read_lines number [] are = refl
read_lines number (tokens ∷ lines) are =
    let line : Line = record { number = number; content = joined tokens } in
    let rest : List Line = filter (λ l. is_read l.content) (numbered (number + 1) (map joined lines ++ [] ∷ [])) in
    ap (λ (t : Bool). cond t (line ∷ rest) rest) (joined_read tokens are.0) ∙ ap (λ ls. line ∷ ls) (read_lines (number + 1) lines are.1)

pub lines_of_text : (lines : List (List (List ℕ))) → AreLines lines → lines_of (text_of_lines lines) ≡ numbered_lines 1 lines
lines_of_text lines are =
    ap (λ cs. filter (λ line. is_read line.content) (numbered 1 cs)) (contents_of lines are) ∙ read_lines 1 lines are

pub numbered_append : (number : ℕ) (lines more : List (List (List ℕ)))
    → numbered_lines number (lines ++ more) ≡ numbered_lines number lines ++ numbered_lines (number + length lines) more
numbered_append number [] more = let same : number ≡ number + 0 = omega arith in ap (λ n. numbered_lines n more) same
numbered_append number (tokens ∷ lines) more =
    let counted : number + 1 + length lines ≡ number + length (tokens ∷ lines) = omega arith in
    ap (λ ls. record { number = number; content = joined tokens } ∷ ls)
    (numbered_append (number + 1) lines more ∙ ap (λ n. numbered_lines (number + 1) lines ++ numbered_lines n more) counted)

pub numbered_length : (number : ℕ) (lines : List (List (List ℕ))) → length (numbered_lines number lines) ≡ length lines
numbered_length number [] = refl
numbered_length number (tokens ∷ lines) = ap (λ n. suc n) (numbered_length (number + 1) lines)

-- ---- texts
pub text_append : (lines more : List (List (List ℕ))) → text_of_lines (lines ++ more) ≡ text_of_lines lines ++ text_of_lines more
text_append [] more = refl
text_append (tokens ∷ lines) more =
    ap (λ l. line_of tokens ++ l) (text_append lines more) ∙ sym (append_assoc (line_of tokens) (text_of_lines lines) (text_of_lines more))
