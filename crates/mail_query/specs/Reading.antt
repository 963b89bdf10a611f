-- A query read token by token, as the parser does.
use Rattle.std.specs.Prelude.{ℕ, Bool, true, false, if◌then◌else◌, List, [], ◌∷◌, ◌++◌, map, reverse, length, ◌≡◌}
use Rattle.mail_words.specs.Key.{lowered, key_of}
use Rattle.mail_query.specs.declared.query.Query.{Query}
use Rattle.mail_query.specs.declared.query.Query.TheVariants.{Word, Not}
use Rattle.mail_query.specs.declared.group.Group as code
use Rattle.mail_query.specs.declared.reading.Reading as parser
use Rattle.mail_query.specs.Refusals.{Before}
use Rattle.mail_query.specs.Members.{members_of, all_of, any_of}
use Rattle.mail_query.specs.Tokens.{Token, tokens_of}
use Rattle.mail_query.specs.Refusals.{before_next, open_after}

-- what stands in a pair of parentheses so far
pub record Group : Type 0 where
  pub done : List Query
  pub items : List Query
  pub negated : Bool

-- the group that a `Group` stands for
abbrev pub group_of : code.Group → Group
group_of group = record { done = members_of group.alternatives; items = members_of group.items; negated = group.negated }

abbrev pub fresh : Group
fresh = record { done = []; items = []; negated = false }

-- `q`, or its negation where a `!` waits
abbrev pub item_of : Bool → Query → Query
item_of negated q = if negated then Not q else q

abbrev pub with_item : Query → Group → Group
with_item q group = record { done = group.done; items = group.items ++ item_of group.negated q ∷ []; negated = false }

abbrev pub with_bang : Group → Group
with_bang group = record { done = group.done; items = group.items; negated = true }

abbrev pub with_bar : Group → Group
with_bar group = record { done = group.done ++ all_of group.items ∷ []; items = []; negated = false }

abbrev pub query_of : Group → Query
query_of group = any_of (group.done ++ all_of group.items ∷ [])

abbrev pub before_items : List Query → Before
before_items [] = Before.Start
before_items (q ∷ qs) = Before.Item

-- what stands before the next token
abbrev pub before_of : Group → Before
before_of group = if group.negated then Before.Bang else before_items group.items

-- the query that the tokens are, behind a group in the groups round it, the innermost first
abbrev pub read_from : Group → List Group → List Token → Query
read_from group outer [] = query_of group
read_from group outer (Token.Run run ∷ tokens) = read_from (with_item (Word (key_of (lowered run))) group) outer tokens
read_from group outer (Token.Bang ∷ tokens) = read_from (with_bang group) outer tokens
read_from group outer (Token.Bar ∷ tokens) = read_from (with_bar group) outer tokens
read_from group outer (Token.Open ∷ tokens) = read_from fresh (group ∷ outer) tokens
read_from group [] (Token.Close ∷ tokens) = read_from group [] tokens
read_from group (parent ∷ outer) (Token.Close ∷ tokens) = read_from (with_item (query_of group) parent) outer tokens
read_from group outer (Token.Other ∷ tokens) = read_from group outer tokens

-- the innermost group that is open, and the groups round it, the innermost first
pub record Reading : Type 0 where
  pub group : Group
  pub outer : List Group

-- what a `Reading` stands for
abbrev pub reading_of : parser.Reading → Reading
reading_of reading = record { group = group_of reading.group; outer = reverse (map group_of reading.outer.items) }

abbrev pub opening : Reading
opening = record { group = fresh; outer = [] }

-- The token may stand there, and is read.
pub record Took (old : Reading) (token : Token) (new : Reading) : Type 0 where
  pub before : before_of new.group ≡ before_next token
  pub depth : length new.outer ≡ open_after (length old.outer) token
  pub rest : (tokens : List Token) → read_from old.group old.outer (token ∷ tokens) ≡ read_from new.group new.outer tokens

-- the query that a text is, as the parser reads it
abbrev pub reading_text : List ℕ → Query
reading_text text = read_from fresh [] (tokens_of text)
