-- What an evaluation says, over the meanings of the postings that it reads.
use Rattle.std.specs.Prelude.{◌≡◌, ℕ, List}
use Rattle.std.specs.List.{Contains}
use Rattle.mail_words.specs.Key.{KeyNumbers}
use Rattle.mail_query.specs.declared.evaluation.EvalStop.{EvalStop}
use Rattle.mail_query.specs.declared.evaluation.EvalStop.TheVariants.{Memory, Postings}
use Rattle.mail_query.specs.Answers.{Table}

-- Every table that fits now fitted before, and has this answer.
abbrev pub Answered : {S : Type 0} → (S → Table → Type 0) → (Table → List ℕ) → S → S → List ℕ → Type 0
Answered fits answer old new numbers = (table : Table) → fits new table → fits old table × (numbers ≡ answer table)

-- The postings stopped at one of the keys, and what came before it in this call kept them.
abbrev pub StoppedAt : {S T : Type 0} → (S → S → Type 0) → (S → KeyNumbers → S → T → Type 0) → List KeyNumbers → S → S → T → Type 0
StoppedAt {S} kept stopped keys old new stop =
    (before : S) × ((key : KeyNumbers) × (kept old before × (Contains keys key × stopped before key new stop)))

-- What holds after an evaluation that gives no answer.
abbrev pub EvalStopped : {S T : Type 0} → (S → S → Type 0) → (S → KeyNumbers → S → T → Type 0) → List KeyNumbers → S → S → EvalStop T → Type 0
EvalStopped kept stopped keys old new Memory = kept old new
EvalStopped kept stopped keys old new (Postings stop) = StoppedAt kept stopped keys old new stop
