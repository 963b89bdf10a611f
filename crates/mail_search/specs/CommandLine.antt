-- What the words of the command line ask for.
use Rattle.std.specs.Prelude.{ℕ, Bool, ◌+◌, List, [], ◌∷◌, Option, None, Some, ⊤}
use Rattle.mail_line.specs.CommandLine.{Asked, replay, ask, settings_of}
use Rattle.mail_query.specs.declared.error.QueryError.{QueryError}
use Rattle.mail_query.specs.declared.query.Query.{Query}
use Rattle.mail_query.specs.Grammar.{ReadsAs}
use Rattle.mail_query.specs.Refusals.{refusal_of}

-- the texts of queries, of how many messages a mailbox is made, where none is read, and whether a report is asked for
pub record Asking : Type 0 where
  pub report : Bool
  pub generate : Option ℕ
  pub texts : List (List ℕ)

-- a replay asks no query
abbrev pub asking_by : Option Asked → Option Asking
asking_by None = None
asking_by (Some replay) = None
asking_by (Some (ask workers ring bits report generate texts)) = Some (record { report = report; generate = generate; texts = texts })

-- what the words ask
abbrev pub asking_of : List (List ℕ) → Option Asking
asking_of words = asking_by (settings_of words)

-- a refusal of the text with this number, or else the first of a later text
abbrev pub refused_or_later : ℕ → Option QueryError → Option (ℕ × QueryError) → Option (ℕ × QueryError)
refused_or_later number None later = later
refused_or_later number (Some error) later = Some (number, error)

-- the number of the first text that is refused as a query, and its refusal, where the texts are numbered from this number on
abbrev pub first_refused : ℕ → List (List ℕ) → Option (ℕ × QueryError)
first_refused number [] = None
first_refused number (text ∷ texts) = refused_or_later number (refusal_of text) (first_refused (number + 1) texts)

-- the texts read as the queries, each as one
abbrev pub AllRead : List (List ℕ) → List Query → Type 0
AllRead [] [] = ⊤
AllRead [] (query ∷ queries) = ⊥
AllRead (text ∷ texts) [] = ⊥
AllRead (text ∷ texts) (query ∷ queries) = ReadsAs text query × AllRead texts queries
