-- Which text reads as which query, by cases on how the text is put together.
use Rattle.std.specs.Prelude.{ℕ, Bool, false, ◌&&◌, List, [], ◌∷◌, ◌++◌, IsTrue, not}
use Rattle.std.specs.Char.{is_ascii_alphanumeric}
use Rattle.mail_words.specs.Key.{is_word, lowered, key_of}
use Rattle.mail_query.specs.declared.query.Query.{Query}
use Rattle.mail_query.specs.declared.query.Query.TheVariants as query
use Rattle.mail_query.specs.Members.{all_of, any_of}
use Rattle.mail_query.specs.Tokens.{begins_in_word}

-- the last byte is a letter or a digit
abbrev pub ends_in_word : List ℕ → Bool
ends_in_word [] = false
ends_in_word (byte ∷ []) = is_ascii_alphanumeric byte
ends_in_word (byte ∷ next ∷ bytes) = ends_in_word (next ∷ bytes)

-- no letter or digit stands on both sides of the cut
abbrev pub is_cut : List ℕ → List ℕ → Bool
is_cut before after = not (ends_in_word before && begins_in_word after)

mutual
  -- prim = word / "(" alt ")", with spaces round it
  pub data ReadsAsPrim : List ℕ → Query → Type 0 where
    word : (text : List ℕ) → IsTrue (is_word text) → ReadsAsPrim text (query.Word (key_of (lowered text)))
    group : (text : List ℕ) (q : Query) → ReadsAs text q → ReadsAsPrim (40 ∷ (text ++ (41 ∷ []))) q
    space_before : (text : List ℕ) (q : Query) → ReadsAsPrim text q → ReadsAsPrim (32 ∷ text) q
    space_after : (text : List ℕ) (q : Query) → ReadsAsPrim text q → ReadsAsPrim (text ++ (32 ∷ [])) q

  -- item = ["!"] prim, with spaces round it
  pub data ReadsAsItem : List ℕ → Query → Type 0 where
    plain : (text : List ℕ) (q : Query) → ReadsAsPrim text q → ReadsAsItem text q
    negated : (text : List ℕ) (q : Query) → ReadsAsPrim text q → ReadsAsItem (33 ∷ text) (query.Not q)
    space_before_item : (text : List ℕ) (q : Query) → ReadsAsItem text q → ReadsAsItem (32 ∷ text) q

  -- 1*item, each with its query
  pub data ReadsAsItems : List ℕ → List Query → Type 0 where
    one_item : (text : List ℕ) (q : Query) → ReadsAsItem text q → ReadsAsItems text (q ∷ [])
    more_items : (text rest : List ℕ) (q : Query) (qs : List Query) →
        ReadsAsItem text q → IsTrue (is_cut text rest) → ReadsAsItems rest qs → ReadsAsItems (text ++ rest) (q ∷ qs)

  -- conj *("|" conj), each with its query, where conj = 1*item, which all hold
  pub data ReadsAsConjs : List ℕ → List Query → Type 0 where
    one_conj : (text : List ℕ) (qs : List Query) → ReadsAsItems text qs → ReadsAsConjs text (all_of qs ∷ [])
    more_conjs : (text rest : List ℕ) (ps qs : List Query) →
        ReadsAsItems text ps → ReadsAsConjs rest qs → ReadsAsConjs (text ++ (124 ∷ rest)) (all_of ps ∷ qs)

  -- alt = conj *("|" conj), of which one holds
  pub data ReadsAs : List ℕ → Query → Type 0 where
    alt : (text : List ℕ) (qs : List Query) → ReadsAsConjs text qs → ReadsAs text (any_of qs)
