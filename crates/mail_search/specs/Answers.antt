-- What is printed for queries: of which messages of the mailbox each holds.
use Rattle.std.specs.Prelude.{ℕ, List, Bool, map, filter}
use Rattle.std.specs.List.{enumerate_from, concat}
use Rattle.mbox_cut.specs.declared.span.Span.{Span}
use Rattle.mbox_cut.specs.Mbox.{messages_of, bytes_of}
use Rattle.mail_words.specs.Words.{word_list}
use Rattle.mail_query.specs.Answers.{answer_line}
use Rattle.mail_query.specs.Truth.{satisfies}
use Rattle.mail_query.specs.declared.query.Query.{Query}

-- the query holds of the words of the message
abbrev pub holds_of : Query → List ℕ → Bool
holds_of query message = satisfies query (word_list message)

-- the numbers, from 1 on, of the messages of which the query holds
abbrev pub hits_among : List ℕ → Query → List Span → List ℕ
hits_among bytes query messages =
    map (λ message. message.0) (filter (λ message. holds_of query (bytes_of bytes message.1)) (enumerate_from 1 messages))

-- the same for the messages of a mailbox
abbrev pub hits_of : List ℕ → Query → List ℕ
hits_of bytes query = hits_among bytes query (messages_of bytes)

-- the answer lines of the queries over the bytes of a mailbox, in order
abbrev pub lines_of : List ℕ → List Query → List (List ℕ)
lines_of bytes queries = map (λ query. answer_line (hits_of bytes query)) queries

-- what is printed where no report is asked for
abbrev pub output_of : List ℕ → List Query → List ℕ
output_of bytes queries = concat (lines_of bytes queries)
