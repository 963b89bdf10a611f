-- The answer lines over the word lists are those over the messages.
use Rattle.std.proofs.Common.{◌≡◌, ℕ, ◌+◌, Bool, true, false, cond, List, [], ◌∷◌, map, filter, refl, ap, ◌∙◌}
use Rattle.std.specs.List.{enumerate_from}
use Rattle.mbox_cut.specs.declared.span.Span.{Span}
use Rattle.mbox_cut.specs.Mbox.{bytes_of, messages_of}
use Rattle.mail_words.specs.Key.{KeyNumbers}
use Rattle.mail_words.specs.Words.{word_list}
use Rattle.mail_words.specs.Lists.{word_lists}
use Rattle.mail_query.specs.Answers.{answer_line}
use Rattle.mail_query.specs.Truth.{satisfies}
use Rattle.mail_query.specs.declared.query.Query.{Query}
use Rattle.mail_answers.specs.Hits.{hits_from, lines_in}
use Rattle.mail_search.specs.Answers.{holds_of, hits_among, lines_of}
use Rattle.mail_search.specs.Outcome.{lists_of}

kept : (b : Bool) (number : ℕ) (keys : List KeyNumbers) (span : Span) (lists : List (ℕ × List KeyNumbers)) (spans : List (ℕ × Span))
    → map (λ (list : ℕ × List KeyNumbers). list.0) lists ≡ map (λ (message : ℕ × Span). message.0) spans
    → map (λ (list : ℕ × List KeyNumbers). list.0) (cond b ((number, keys) ∷ lists) lists)
    ≡ map (λ (message : ℕ × Span). message.0) (cond b ((number, span) ∷ spans) spans)
kept true number keys span lists spans same = ap (λ l. number ∷ l) same
kept false number keys span lists spans same = same

hits_over : (bytes : List ℕ) (query : Query) (from : ℕ) (spans : List Span)
    → hits_from from (word_lists bytes spans) query
    ≡ map (λ (message : ℕ × Span). message.0) (filter (λ (message : ℕ × Span). holds_of query (bytes_of bytes message.1)) (enumerate_from from spans))
hits_over bytes query from [] = refl
hits_over bytes query from (span ∷ spans) =
    kept (satisfies query (word_list (bytes_of bytes span))) from (word_list (bytes_of bytes span)) span _ _ (hits_over bytes query (from + 1) spans)

pub lines_over : (bytes : List ℕ) (queries : List Query) → lines_in (lists_of bytes) queries ≡ lines_of bytes queries
lines_over bytes [] = refl
lines_over bytes (query ∷ queries) =
    ap (λ hits. answer_line hits ∷ lines_in (lists_of bytes) queries) (hits_over bytes query 1 (messages_of bytes))
    ∙ ap (λ lines. answer_line (hits_among bytes query (messages_of bytes)) ∷ lines) (lines_over bytes queries)
