-- What the text reads as is what the parser reads, so a text reads as one query at most.
use Rattle.std.proofs.Common.{◌≡◌, refl, ℕ, true, false, ◌&&◌, nat_lt, nat_le, List, [], ◌∷◌, ◌++◌, length, sym, ◌∙◌, ap, append_assoc}
use Rattle.std.proofs.lemmas.List.{append-nil}
use Rattle.std.proofs.lemmas.Bool.{false≢true, and_parts}
use Rattle.std.specs.List.{list_all}
use Rattle.std.specs.Char.{is_ascii_alphanumeric}
use Rattle.mail_words.specs.Key.{is_word}
use Rattle.mail_query.specs.declared.query.Query.{Query}
use Rattle.mail_query.specs.Members.{all_of, any_of}
use Rattle.mail_query.specs.Tokens.{Token, tokens_of}
use Rattle.mail_query.specs.Grammar.{is_cut, ReadsAsPrim, ReadsAsItem, ReadsAsItems, ReadsAsConjs, ReadsAs}
use Rattle.mail_query.specs.Reading.{Group, fresh, with_item, query_of, read_from, reading_text}
use Rattle.mail_query.proofs.Tokens.{letter_alone, letter_joins}
use Rattle.mail_query.proofs.Cuts.{tokens-append, no_letter_behind}

-- the token of a word
letters_token : (byte : ℕ) (bytes : List ℕ) → is_ascii_alphanumeric byte ≡ true → list_all is_ascii_alphanumeric bytes ≡ true
    → tokens_of (byte ∷ bytes) ≡ Token.Run (byte ∷ bytes) ∷ []
letters_token byte [] is all = letter_alone byte [] is refl
letters_token byte (next ∷ bytes) is all =
    let parts = and_parts (is_ascii_alphanumeric next) (list_all is_ascii_alphanumeric bytes) all in
    letter_joins byte (next ∷ bytes) (next ∷ bytes) [] is parts.0 (letters_token next bytes parts.0 parts.1)

pub word_letters : (text : List ℕ) → is_word text ≡ true → list_all is_ascii_alphanumeric text ≡ true
word_letters text word = (and_parts (nat_lt 0 (length text) && nat_le (length text) 32) (list_all is_ascii_alphanumeric text) word).1

word_token_by : (text : List ℕ) → is_word text ≡ true → list_all is_ascii_alphanumeric text ≡ true → tokens_of text ≡ Token.Run text ∷ []
word_token_by [] word all = absurd (false≢true word)
word_token_by (byte ∷ bytes) word all =
    let parts = and_parts (is_ascii_alphanumeric byte) (list_all is_ascii_alphanumeric bytes) all in
    letters_token byte bytes parts.0 parts.1

pub word_token : (text : List ℕ) → is_word text ≡ true → tokens_of text ≡ Token.Run text ∷ []
word_token text word = word_token_by text word (word_letters text word)

-- the tokens of the parts
pub tokens-group : (text : List ℕ) (tokens : List Token)
    → tokens_of (40 ∷ (text ++ (41 ∷ []))) ++ tokens ≡ Token.Open ∷ (tokens_of text ++ Token.Close ∷ tokens)
tokens-group text tokens =
    ap (λ ts. Token.Open ∷ ts ++ tokens) (tokens-append text (41 ∷ []) (no_letter_behind text (41 ∷ []) refl))
    ∙ ap (λ ts. Token.Open ∷ ts) (append_assoc (tokens_of text) (Token.Close ∷ []) tokens)

pub tokens-space_after : (text : List ℕ) (tokens : List Token) → tokens_of (text ++ (32 ∷ [])) ++ tokens ≡ tokens_of text ++ tokens
tokens-space_after text tokens =
    ap (λ ts. ts ++ tokens) (tokens-append text (32 ∷ []) (no_letter_behind text (32 ∷ []) refl) ∙ append-nil (tokens_of text))

pub tokens-items : (text rest : List ℕ) (tokens : List Token) → is_cut text rest ≡ true
    → tokens_of (text ++ rest) ++ tokens ≡ tokens_of text ++ (tokens_of rest ++ tokens)
tokens-items text rest tokens cut = ap (λ ts. ts ++ tokens) (tokens-append text rest cut) ∙ append_assoc (tokens_of text) (tokens_of rest) tokens

pub tokens-bar : (text rest : List ℕ) (tokens : List Token)
    → tokens_of (text ++ (124 ∷ rest)) ++ tokens ≡ tokens_of text ++ Token.Bar ∷ (tokens_of rest ++ tokens)
tokens-bar text rest tokens = tokens-items text (124 ∷ rest) tokens (no_letter_behind text (124 ∷ rest) refl)

abbrev plain : List Query → List Query → Group
plain done items = record { done = done; items = items; negated = false }

-- what is read of a text, wherever it stands
abbrev PrimIsRead : List ℕ → Query → Type 0
PrimIsRead text q = (group : Group) (outer : List Group) (tokens : List Token)
    → read_from group outer (tokens_of text ++ tokens) ≡ read_from (with_item q group) outer tokens

abbrev ItemsAreRead : List ℕ → List Query → Type 0
ItemsAreRead text qs = (done items : List Query) (outer : List Group) (tokens : List Token) →
    read_from (plain done items) outer (tokens_of text ++ tokens) ≡ read_from (plain done (items ++ qs)) outer tokens

pub record ConjsAreRead (text : List ℕ) (qs done : List Query) : Type 0 where
  pub group : Group
  pub queries : group.done ++ all_of group.items ∷ [] ≡ done ++ qs
  pub read : (outer : List Group) (tokens : List Token) → read_from (plain done []) outer (tokens_of text ++ tokens) ≡ read_from group outer tokens

pub record IsRead (text : List ℕ) (q : Query) : Type 0 where
  pub group : Group
  pub query_is : query_of group ≡ q
  pub read : (outer : List Group) (tokens : List Token) → read_from fresh outer (tokens_of text ++ tokens) ≡ read_from group outer tokens

group_read : (text : List ℕ) (q : Query) → IsRead text q → PrimIsRead (40 ∷ (text ++ (41 ∷ []))) q
group_read text q inner group outer tokens =
    ap (read_from group outer) (tokens-group text tokens) ∙ inner.read (group ∷ outer) (Token.Close ∷ tokens)
    ∙ ap (λ p. read_from (with_item p group) outer tokens) inner.query_is

mutual
  prim_read : (text : List ℕ) (q : Query) → ReadsAsPrim text q → PrimIsRead text q
  prim_read _ _ (ReadsAsPrim.word text word) group outer tokens = ap (λ ts. read_from group outer (ts ++ tokens)) (word_token text word)
  prim_read _ _ (ReadsAsPrim.group text q reads) group outer tokens = group_read text q (alt_read text q reads) group outer tokens
  prim_read _ _ (ReadsAsPrim.space_before text q reads) group outer tokens = prim_read text q reads group outer tokens
  prim_read _ _ (ReadsAsPrim.space_after text q reads) group outer tokens =
      ap (read_from group outer) (tokens-space_after text tokens) ∙ prim_read text q reads group outer tokens

  item_read : (text : List ℕ) (q : Query) → ReadsAsItem text q → ItemsAreRead text (q ∷ [])
  item_read _ _ (ReadsAsItem.plain text q reads) done items outer tokens = prim_read text q reads (plain done items) outer tokens
  item_read _ _ (ReadsAsItem.negated text q reads) done items outer tokens =
      prim_read text q reads (record { done = done; items = items; negated = true }) outer tokens
  item_read _ _ (ReadsAsItem.space_before_item text q reads) done items outer tokens = item_read text q reads done items outer tokens

  items_read : (text : List ℕ) (qs : List Query) → ReadsAsItems text qs → ItemsAreRead text qs
  items_read _ _ (ReadsAsItems.one_item text q reads) done items outer tokens = item_read text q reads done items outer tokens
  items_read _ _ (ReadsAsItems.more_items text rest q qs reads cut more) done items outer tokens =
      ap (read_from (plain done items) outer) (tokens-items text rest tokens cut) ∙ item_read text q reads done items outer (tokens_of rest ++ tokens)
      ∙ items_read rest qs more done (items ++ q ∷ []) outer tokens ∙ ap (λ all. read_from (plain done all) outer tokens) (append_assoc items (q ∷ []) qs)

  conjs_read : (text : List ℕ) (qs : List Query) → ReadsAsConjs text qs → (done : List Query) → ConjsAreRead text qs done
  conjs_read _ _ (ReadsAsConjs.one_conj text ps reads) done = record {
    group = plain done ps;
    queries = refl;
    read = λ outer tokens. items_read text ps reads done [] outer tokens;
  }
  conjs_read _ _ (ReadsAsConjs.more_conjs text rest ps qs reads more) done =
      let behind = conjs_read rest qs more (done ++ all_of ps ∷ []) in
      record {
        group = behind.group;
        queries = behind.queries ∙ append_assoc done (all_of ps ∷ []) qs;
        read = λ outer tokens. ap (read_from (plain done []) outer) (tokens-bar text rest tokens)
            ∙ items_read text ps reads done [] outer (Token.Bar ∷ (tokens_of rest ++ tokens))
            ∙ behind.read outer tokens;
      }

  alt_read : (text : List ℕ) (q : Query) → ReadsAs text q → IsRead text q
  alt_read _ _ (ReadsAs.alt text qs reads) =
      let all = conjs_read text qs reads [] in
      record { group = all.group; query_is = ap any_of all.queries; read = all.read }

-- the query that a text reads as is the one that the parser reads
pub complete : (text : List ℕ) (q : Query) → ReadsAs text q → reading_text text ≡ q
complete text q reads =
    let is = alt_read text q reads in
    ap (read_from fresh []) (sym (append-nil (tokens_of text))) ∙ is.read [] [] ∙ is.query_is

-- so there is one at most
pub one_reading : (text : List ℕ) (p q : Query) → ReadsAs text p → ReadsAs text q → p ≡ q
one_reading text p q first second = sym (complete text p first) ∙ complete text q second
