-- Which text is refused, and for what: by tokens from the left.
use Rattle.std.specs.Prelude.{ℕ, ◌+◌, ◌-◌, ◌==◌, ◌&&◌, Bool, true, false, not, nat_lt, List, [], ◌∷◌, length, if◌then◌else◌, Option, Some, None, Result, Ok, Err, ◌≡◌}
use Rattle.mail_query.specs.declared.error.QueryError.{QueryError}
use Rattle.mail_query.specs.declared.error.QueryError.TheVariants.{Bad, LongWord, Deep, Long, Memory}
use Rattle.mail_query.specs.Tokens.{Token, tokens_of}

-- what stands before a token: nothing, `|` or `(`, behind which a query begins; `!`; or a run or `)`
pub data Before : Type 0 where
  Start : Before
  Bang : Before
  Item : Before

-- what stands before the token that is behind this one
abbrev pub before_next : Token → Before
before_next (Token.Run run) = Before.Item
before_next Token.Bang = Before.Bang
before_next Token.Bar = Before.Start
before_next Token.Open = Before.Start
before_next Token.Close = Before.Item
before_next Token.Other = Before.Start

-- a query may end behind a run and behind `)`
abbrev pub ends_query : Before → Bool
ends_query Before.Start = false
ends_query Before.Bang = false
ends_query Before.Item = true

abbrev pub is_bang : Before → Bool
is_bang Before.Start = false
is_bang Before.Bang = true
is_bang Before.Item = false

-- `Bad`, unless the token may stand there
abbrev pub bad_unless : Bool → Option QueryError
bad_unless may_stand = if may_stand then None else Some Bad

-- what a token is refused for, given what stands before it and the number of parentheses open there
abbrev pub refusal_at : Before → ℕ → Token → Option QueryError
refusal_at behind depth (Token.Run run) = if nat_lt 32 (length run) then Some LongWord else None
refusal_at behind depth Token.Bang = bad_unless (not (is_bang behind))
refusal_at behind depth Token.Bar = bad_unless (ends_query behind)
refusal_at behind depth Token.Open = if depth == 32 then Some Deep else None
refusal_at behind depth Token.Close = bad_unless (ends_query behind && nat_lt 0 depth)
refusal_at behind depth Token.Other = Some Bad

-- what the end of the text is refused for
abbrev pub refusal_at_end : Before → ℕ → Option QueryError
refusal_at_end behind depth = bad_unless (ends_query behind && depth == 0)

-- how many parentheses are open after a token
abbrev pub open_after : ℕ → Token → ℕ
open_after depth Token.Open = depth + 1
open_after depth Token.Close = depth - 1
open_after depth _ = depth

-- a refusal, or else the one that comes later
abbrev pub or_later : Option QueryError → Option QueryError → Option QueryError
or_later None later = later
or_later (Some refusal) later = Some refusal

-- the first refusal in the tokens
abbrev pub first_refusal : Before → ℕ → List Token → Option QueryError
first_refusal behind depth [] = refusal_at_end behind depth
first_refusal behind depth (token ∷ tokens) =
    or_later (refusal_at behind depth token) (first_refusal (before_next token) (open_after depth token) tokens)

-- what a text is refused for: too many bytes before all, then the first refusal in it
abbrev pub refusal_of : List ℕ → Option QueryError
refusal_of text = if nat_lt 4096 (length text) then Some Long else first_refusal Before.Start 0 (tokens_of text)

-- An error is this refusal; want of memory may come instead of any answer.
abbrev pub IsRefusal : QueryError → Option QueryError → Type 0
IsRefusal Bad refusal = refusal ≡ Some Bad
IsRefusal LongWord refusal = refusal ≡ Some LongWord
IsRefusal Deep refusal = refusal ≡ Some Deep
IsRefusal Long refusal = refusal ≡ Some Long
IsRefusal Memory refusal = Unit {0}

-- The result is an `Ok` exactly where there is no refusal, and else it is that refusal.
abbrev pub Refuses : {T : Type 0} → Result T QueryError → Option QueryError → Type 0
Refuses (Ok value) refusal = refusal ≡ None
Refuses (Err error) refusal = IsRefusal error refusal

-- The result is this value, unless memory is wanting.
abbrev pub Gives : {T : Type 0} → Result T QueryError → T → Type 0
Gives (Ok value) wanted = value ≡ wanted
Gives (Err error) wanted = error ≡ Memory
