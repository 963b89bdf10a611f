-- What single words find, for worked examples.
use Rattle.std.proofs.Common.{◌≡◌, ℕ, Bool, cond, not, List, [], ◌∷◌, map, refl, ap, ◌∙◌}
use Rattle.std.specs.List.{enumerate_from, filter}
use Rattle.mbox_cut.specs.declared.span.Span.{Span}
use Rattle.mbox_cut.specs.Mbox.{bytes_of, messages_of}
use Rattle.mail_words.specs.Key.{KeyNumbers}
use Rattle.mail_words.specs.Words.{word_list}
use Rattle.mail_query.specs.declared.query.Query.{Query}
use Rattle.mail_query.specs.declared.query.Query.TheVariants.{Word, Not}
use Rattle.mail_query.specs.Truth.{satisfies, has_key}
use Rattle.mail_search.specs.Answers.{hits_of}

same_filter : {X : Type 0} (p q : X → Bool) → ((x : X) → p x ≡ q x) → (xs : List X) → filter p xs ≡ filter q xs
same_filter p q same [] = refl
same_filter p q same (x ∷ xs) = ap (λ b. cond b (x ∷ filter p xs) (filter p xs)) (same x) ∙ ap (λ l. cond (q x) (x ∷ l) l) (same_filter p q same xs)

-- the numbers of the messages whose keys pass
abbrev pub hits_with : List ℕ → (List KeyNumbers → Bool) → List ℕ
hits_with bytes test = map (λ message. message.0) (filter (λ message. test (word_list (bytes_of bytes message.1))) (enumerate_from 1 (messages_of bytes)))

hits_like : (bytes : List ℕ) (query : Query) (test : List KeyNumbers → Bool) → ((keys : List KeyNumbers) → satisfies query keys ≡ test keys)
    → hits_of bytes query ≡ hits_with bytes test
hits_like bytes query test same =
    ap (map (λ (message : ℕ × Span). message.0))
    (same_filter (λ (message : ℕ × Span). satisfies query (word_list (bytes_of bytes message.1))) (λ message. test (word_list (bytes_of bytes message.1)))
    (λ message. same (word_list (bytes_of bytes message.1))) (enumerate_from 1 (messages_of bytes)))

-- what holds of a query that is a word, or of one that is negated, is a law of the crate of the queries
module _ (word : (key : KeyNumbers) (keys : List KeyNumbers) → satisfies (Word key) keys ≡ has_key key keys) where
  pub word_hits : (bytes : List ℕ) (key : KeyNumbers) → hits_of bytes (Word key) ≡ hits_with bytes (has_key key)
  word_hits bytes key = hits_like bytes (Word key) (has_key key) (word key)

  pub hits_without : ((q : Query) (keys : List KeyNumbers) → satisfies (Not q) keys ≡ not (satisfies q keys))
      → (bytes : List ℕ) (key : KeyNumbers) → hits_of bytes (Not (Word key)) ≡ hits_with bytes (λ keys. not (has_key key keys))
  hits_without negation bytes key =
      hits_like bytes (Not (Word key)) (λ keys. not (has_key key keys)) (λ keys. negation (Word key) keys ∙ ap not (word key keys))
