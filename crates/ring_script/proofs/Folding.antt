-- The lines of a text, one after the other.
use Rattle.std.proofs.Common.{◌≡◌, ◌⊎◌, inl, inr, ℕ, ◌+◌, ◌<◌, ◌≤◌, Bool, true, false, cond, List, [], ◌∷◌, ◌++◌, length, filter, Option, Some, None, MatchOption, IfSome, Ok, Err, refl, sym, ◌∙◌, ap, subst, arith, append_assoc, append-nil, Bor}
use Rattle.ring_script.specs.declared.error.ScriptError.{ScriptError}
use Rattle.ring_script.specs.declared.error.ScriptError.TheVariants as script
use Rattle.ring_script.specs.declared.draft.Draft.{Draft}
use Rattle.ring_script.specs.Lines.{Line, pieces, contents, numbered, is_read, lines_of}
use Rattle.ring_script.specs.Script.{IsScriptWithin, IsSomeWithin, IsFirstBadWithin, ReadsWithin, missing, bad}
use Rattle.ring_script.specs.Draft.{IsDraft, IsSoFar, HasLine, HasPiece, read_line, setup_of}

-- the lines that are read, from this number on
abbrev pub lines_from : ℕ → List (List ℕ) → List Line
lines_from number contents = filter (λ line. is_read line.content) (numbered number contents)

-- those that are left behind the line of this number
abbrev pub left : ℕ → Option (Bor (List ℕ)) → List Line
left number None = []
left number (Some rest) = lines_from (number + 1) (contents (pieces 10 rest.now))

abbrev pub size : Option (Bor (List ℕ)) → ℕ
size None = 0
size (Some rest) = length rest.now + 1

pub record IsFolding (limit : ℕ) (text : List ℕ) (number : ℕ) (rest : Option (Bor (List ℕ))) (draft : Option Draft) : Type 0 where
  pub good : List Line
  pub whole : lines_of text ≡ good ++ left number rest
  pub so_far : IsSoFar limit good draft
  pub counted : number + size rest ≤ length text + 1

read_more : (b : Bool) (line : Line) (more : List Line) → cond b (line ∷ more) more ≡ cond b (line ∷ []) [] ++ more
read_more true line more = refl
read_more false line more = refl

-- the first of the lines that are left, and those behind it
pub next_left : (number : ℕ) (rest : Bor (List ℕ)) (content : List ℕ) (behind : Option (Bor (List ℕ)))
    → MatchOption behind (contents (pieces 10 rest.now) ≡ content ∷ []) (λ r. contents (pieces 10 rest.now) ≡ content ∷ contents (pieces 10 r.now))
    → left number (Some rest) ≡ read_line (record { number = number + 1; content = content }) ++ left (number + 1) behind
next_left number rest content None is =
    ap (lines_from (number + 1)) is ∙ read_more (is_read content) (record { number = number + 1; content = content }) []
next_left number rest content (Some r) is =
    ap (lines_from (number + 1)) is
    ∙ read_more (is_read content) (record { number = number + 1; content = content }) (lines_from (number + 1 + 1) (contents (pieces 10 r.now)))

-- a line that is read, and one that isn't
pub read_piece : (limit : ℕ) (lines : List Line) (line : Line) (d : Draft) → is_read line.content ≡ true → IsDraft limit (lines ++ line ∷ []) d
    → IsSoFar limit (lines ++ read_line line) (Some d)
read_piece limit lines line d read draft = subst (λ b. IsDraft limit (lines ++ cond b (line ∷ []) []) d) (sym read) draft

pub skipped_piece : (limit : ℕ) (lines : List Line) (line : Line) (draft : Option Draft) → is_read line.content ≡ false → IsSoFar limit lines draft
    → IsSoFar limit (lines ++ read_line line) draft
skipped_piece limit lines line draft skipped is =
    let same : lines ≡ lines ++ read_line line = sym (append-nil lines) ∙ ap (λ b. lines ++ cond b (line ∷ []) []) (sym skipped) in
    subst (λ ls. IsSoFar limit ls draft) same is

pub piece_of_line : (limit : ℕ) (lines : List Line) (line : Line) (error : ScriptError) → is_read line.content ≡ true → HasLine limit lines line (Err error)
    → HasPiece limit lines line (Err error)
piece_of_line limit lines line (script.BadLine number) read is = (read, is.0, is.1)
piece_of_line limit lines line script.Memory read is = tt

-- the beginning that is read says something, or has no line
some_so_far : (limit : ℕ) (lines : List Line) (draft : Option Draft) → IsSoFar limit lines draft → (lines ≡ []) ⊎ IsSomeWithin limit lines
some_so_far limit lines None is = inl is
some_so_far limit lines (Some d) is = inr (setup_of d, d.events.items, is.script)

-- the first line with which the text is no longer a script
pub first_bad : (limit : ℕ) (text : List ℕ) (number : ℕ) (rest : Bor (List ℕ)) (draft : Option Draft) (content : List ℕ)
    (behind : Option (Bor (List ℕ))) (at : ℕ)
    → IsFolding limit text number (Some rest) draft
    → MatchOption behind (contents (pieces 10 rest.now) ≡ content ∷ []) (λ r. contents (pieces 10 rest.now) ≡ content ∷ contents (pieces 10 r.now))
    → ((lines : List Line) → IsSoFar limit lines draft → HasPiece limit lines (record { number = number + 1; content = content }) (Err (script.BadLine at)))
    → IsFirstBadWithin limit (lines_of text) at
first_bad limit text number rest draft content behind at fold cut piece =
    let line : Line = record { number = number + 1; content = content } in
    let refused = piece fold.good fold.so_far in
    let whole : lines_of text ≡ fold.good ++ (line ∷ left (number + 1) behind) =
    fold.whole ∙ ap (λ ls. fold.good ++ ls) (next_left number rest content behind cut)
    ∙ ap (λ b. fold.good ++ (cond b (line ∷ []) [] ++ left (number + 1) behind)) refused.0 in
    bad fold.good line (left (number + 1) behind) whole (some_so_far limit fold.good draft fold.so_far) refused.2 refused.1

pub folded : (limit : ℕ) (text : List ℕ) (number : ℕ) (rest : Bor (List ℕ)) (draft next : Option Draft) (content : List ℕ) (behind : Option (Bor (List ℕ)))
    → IsFolding limit text number (Some rest) draft
    → MatchOption behind (contents (pieces 10 rest.now) ≡ content ∷ []) (λ r. contents (pieces 10 rest.now) ≡ content ∷ contents (pieces 10 r.now))
    → size behind ≤ length rest.now
    → ((lines : List Line) → IsSoFar limit lines draft → HasPiece limit lines (record { number = number + 1; content = content }) (Ok next))
    → IsFolding limit text (number + 1) behind next
folded limit text number rest draft next content behind fold cut shorter piece =
    let line : Line = record { number = number + 1; content = content } in
    record {
      good = fold.good ++ read_line line;
      whole = fold.whole ∙ ap (λ ls. fold.good ++ ls) (next_left number rest content behind cut)
          ∙ sym (append_assoc fold.good (read_line line) (left (number + 1) behind));
      so_far = piece fold.good fold.so_far;
      counted = omega (arith, fold.counted, shorter);
    }

pub behind_size : (rest : List ℕ) (behind : Option (Bor (List ℕ))) → IfSome behind (λ r. length r.now < length rest) → size behind ≤ length rest
behind_size rest None shorter = omega arith
behind_size rest (Some r) shorter = omega (arith, shorter)

-- at the end all lines are read
pub all_read : (limit : ℕ) (text : List ℕ) (number : ℕ) (d : Draft) → IsFolding limit text number None (Some d)
    → IsScriptWithin limit (lines_of text) (setup_of d) d.events.items
all_read limit text number d fold =
    let all : lines_of text ≡ fold.good = fold.whole ∙ append-nil fold.good in
    subst (λ ls. IsScriptWithin limit ls (setup_of d) d.events.items) (sym all) fold.so_far.script

pub none_read : (limit : ℕ) (text : List ℕ) (number : ℕ) → IsFolding limit text number None None → IsFirstBadWithin limit (lines_of text) 1
none_read limit text number fold = missing (fold.whole ∙ append-nil fold.good ∙ fold.so_far) refl

-- the text isn't read, by the first line that is refused
pub refused : (limit : ℕ) (text : List ℕ) (number : ℕ) (rest : Bor (List ℕ)) (draft : Option Draft) (content : List ℕ)
    (behind : Option (Bor (List ℕ))) (error : ScriptError)
    → IsFolding limit text number (Some rest) draft
    → MatchOption behind (contents (pieces 10 rest.now) ≡ content ∷ []) (λ r. contents (pieces 10 rest.now) ≡ content ∷ contents (pieces 10 r.now))
    → ((lines : List Line) → IsSoFar limit lines draft → HasPiece limit lines (record { number = number + 1; content = content }) (Err error))
    → ReadsWithin limit text (Err error)
refused limit text number rest draft content behind (script.BadLine at) fold cut piece = first_bad limit text number rest draft content behind at fold cut piece
refused limit text number rest draft content behind script.Memory fold cut piece = tt
