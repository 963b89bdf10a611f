-- What follows from the parser's refusals and from what it reads.
use Rattle.std.proofs.Common.{◌≡◌, ◌≤◌, ℕ, List, length, sym, ◌∙◌, ap, subst, cond, Result, Ok, Err, IfOk, IsTrue, Option, Some, None}
use Rattle.std.proofs.lemmas.Bool.{le-ltb}
use Rattle.mail_query.specs.declared.query.Query.{Query}
use Rattle.mail_query.specs.declared.error.QueryError.{QueryError}
use Rattle.mail_query.specs.declared.error.QueryError.TheVariants.{Bad, LongWord, Deep, Long, Memory}
use Rattle.mail_query.specs.Refusals.{Before}
use Rattle.mail_query.specs.Tokens.{tokens_of}
use Rattle.mail_query.specs.Grammar.{ReadsAs}
use Rattle.mail_query.specs.Limits.{IsWithinLimits}
use Rattle.mail_query.specs.InForm.{in_form}
use Rattle.mail_query.specs.Refusals.{first_refusal, refusal_of, IsRefusal, Refuses, Gives}
use Rattle.mail_query.specs.Reading.{reading_text}
use Rattle.mail_query.proofs.Sound.{sound}
use Rattle.mail_query.proofs.Complete.{complete}
use Rattle.mail_query.proofs.Limits.{unrefused, within_limits}
use Rattle.mail_query.proofs.InForm.{KeysAreKeys, reads_good}

-- the first refusal decides where the text isn't too long
pub whole_refusal : (text : List ℕ) (result : Result Query QueryError) → length text ≤ 4096 → Refuses result (first_refusal Before.Start 0 (tokens_of text))
    → Refuses result (refusal_of text)
whole_refusal text result short refuses =
    subst (Refuses result) (sym (ap (λ test. cond test (Some Long) (first_refusal Before.Start 0 (tokens_of text))) (le-ltb 4096 (length text) short))) refuses

-- what a parser knows that refuses exactly
pub record IsParsed (text : List ℕ) (result : Result Query QueryError) : Type 0 where
  pub refused : Refuses result (refusal_of text)
  pub reading : IfOk result (λ q. q ≡ reading_text text)

pub parsed_reads : (text : List ℕ) (result : Result Query QueryError) → IsParsed text result → IfOk result (λ q. ReadsAs text q)
parsed_reads text (Ok q) parsed = subst (ReadsAs text) (sym parsed.reading) (sound text parsed.refused)
parsed_reads text (Err error) parsed = tt

pub parsed_limits : (text : List ℕ) (result : Result Query QueryError) → IsParsed text result → IfOk result (λ q. IsWithinLimits text)
parsed_limits text (Ok q) parsed = within_limits text parsed.refused
parsed_limits text (Err error) parsed = tt

pub parsed_in_form : (text : List ℕ) (result : Result Query QueryError) → KeysAreKeys → IsParsed text result → IfOk result (λ q. IsTrue (in_form q))
parsed_in_form text (Ok q) keys parsed = (reads_good text q keys (subst (ReadsAs text) (sym parsed.reading) (sound text parsed.refused))).formed
parsed_in_form text (Err error) keys parsed = tt

refused_not : (error : QueryError) (refusal : Option QueryError) → IsRefusal error refusal → refusal ≡ None → error ≡ Memory
refused_not Bad refusal is none = cc
refused_not LongWord refusal is none = cc
refused_not Deep refusal is none = cc
refused_not Long refusal is none = cc
refused_not Memory refusal is none = cc

pub parsed_only : (text : List ℕ) (result : Result Query QueryError) → IsParsed text result → (q : Query) → ReadsAs text q → IsWithinLimits text
    → Gives result q
parsed_only text (Ok p) parsed q reads limits = parsed.reading ∙ complete text q reads
parsed_only text (Err error) parsed q reads limits = refused_not error (refusal_of text) parsed.refused (unrefused text q reads limits)
