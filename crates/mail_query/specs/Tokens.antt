-- The tokens of a query's text.
use Rattle.std.specs.Prelude.{ℕ, Bool, true, false, ◌==◌, ◌&&◌, nat_lt, IsTrue, List, [], ◌∷◌, length, if◌then◌else◌}
use Rattle.std.specs.List.{list_all}
use Rattle.std.specs.Char.{is_ascii_alphanumeric}

-- the first byte is a letter or a digit
abbrev pub begins_in_word : List ℕ → Bool
begins_in_word [] = false
begins_in_word (byte ∷ bytes) = is_ascii_alphanumeric byte

-- a run of letters and digits, one of the four signs, or a byte that is none of these
pub data Token : Type 0 where
  Run : List ℕ → Token
  Bang : Token
  Bar : Token
  Open : Token
  Close : Token
  Other : Token

-- at least one letter or digit, and nothing else
abbrev pub is_run : List ℕ → Bool
is_run run = nat_lt 0 (length run) && list_all is_ascii_alphanumeric run

-- a run of a text is one
abbrev pub IsWhole : Token → Type 0
IsWhole (Token.Run run) = IsTrue (is_run run)
IsWhole _ = Unit {0}

-- the token of a byte that is no letter, digit or space
abbrev pub sign_of : ℕ → Token
sign_of byte =
    if byte == 33 then Token.Bang
    else (if byte == 124 then Token.Bar else (if byte == 40 then Token.Open else (if byte == 41 then Token.Close else Token.Other)))

-- The tokens with a letter or a digit before them: where another letter or digit follows, it joins that run.
abbrev pub with_letter : ℕ → Bool → List Token → List Token
with_letter byte true (Token.Run run ∷ tokens) = Token.Run (byte ∷ run) ∷ tokens
with_letter byte _ tokens = Token.Run (byte ∷ []) ∷ tokens

-- the tokens of a text, from the left; spaces are none
abbrev pub tokens_of : List ℕ → List Token
tokens_of [] = []
tokens_of (byte ∷ bytes) =
    if is_ascii_alphanumeric byte then with_letter byte (begins_in_word bytes) (tokens_of bytes)
    else (if byte == 32 then tokens_of bytes else sign_of byte ∷ tokens_of bytes)
