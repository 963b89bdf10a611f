-- How a text falls into pieces, lines and tokens, piece by piece.
use Rattle.std.proofs.Common.{◌≡◌, ℕ, zero, suc, ◌<◌, ◌≤◌, Bool, true, false, cond, List, [], ◌∷◌, length, take, drop, get_or, refl, sym, ◌∙◌, ap, arith, eq-eqb, ne_eqb}
use Rattle.ring_script.specs.Lines.{pieces, onto_first, contents, without_return, parted, behind_first, tokens_of}

-- ---- pieces
pub whole_piece : (separator : ℕ) (bytes : List ℕ) → ((k : ℕ) → k < length bytes → get_or bytes k 0 ≡ separator → ⊥)
    → pieces separator bytes ≡ bytes ∷ []
whole_piece separator [] none = refl
whole_piece separator (byte ∷ bytes) none =
    let other : byte ≡ separator → ⊥ = none 0 (omega arith) in
    ap (λ (t : Bool). cond t ([] ∷ pieces separator bytes) (onto_first byte (pieces separator bytes))) (ne_eqb byte separator other)
    ∙ ap (onto_first byte) (whole_piece separator bytes (λ k below same. none (suc k) (omega (arith, below)) same))

pub first_piece : (separator : ℕ) (bytes : List ℕ) (i : ℕ) → i < length bytes → ((k : ℕ) → k < i → get_or bytes k 0 ≡ separator → ⊥)
    → get_or bytes i 0 ≡ separator → pieces separator bytes ≡ take i bytes ∷ pieces separator (drop (suc i) bytes)
first_piece separator [] i below none here = absurd (omega (arith, below))
first_piece separator (byte ∷ bytes) zero below none here =
    ap (λ (t : Bool). cond t ([] ∷ pieces separator bytes) (onto_first byte (pieces separator bytes))) (eq-eqb byte separator here)
first_piece separator (byte ∷ bytes) (suc i) below none here =
    let other : byte ≡ separator → ⊥ = none 0 (omega arith) in
    ap (λ (t : Bool). cond t ([] ∷ pieces separator bytes) (onto_first byte (pieces separator bytes))) (ne_eqb byte separator other)
    ∙ ap (onto_first byte) (first_piece separator bytes i (omega (arith, below)) (λ k less same. none (suc k) (omega (arith, less)) same) here)

-- there is a first piece
pub record IsCut (cut : List (List ℕ)) : Type 0 where
  pub first : List ℕ
  pub rest : List (List ℕ)
  pub is : cut ≡ first ∷ rest

onto_cut : (byte : ℕ) (cut : List (List ℕ)) → IsCut (onto_first byte cut)
onto_cut byte [] = record { first = byte ∷ []; rest = []; is = refl }
onto_cut byte (piece ∷ more) = record { first = byte ∷ piece; rest = more; is = refl }

choice_cut : (t : Bool) (one other : List (List ℕ)) → IsCut one → IsCut other → IsCut (cond t one other)
choice_cut true one other a b = a
choice_cut false one other a b = b

pub some_piece : (separator : ℕ) (bytes : List ℕ) → IsCut (pieces separator bytes)
some_piece separator [] = record { first = []; rest = []; is = refl }
some_piece separator (byte ∷ bytes) =
    choice_cut _ _ _ (record { first = []; rest = pieces separator bytes; is = refl }) (onto_cut byte (pieces separator bytes))

-- ---- lines
contents_more : (line : List ℕ) (more : List (List ℕ)) → IsCut more → contents (line ∷ more) ≡ without_return line ∷ contents more
contents_more line [] cut = absurd (cc (cut.is))
contents_more line (next ∷ lines) cut = refl

pub next_line : (text line rest : List ℕ) → pieces 10 text ≡ line ∷ pieces 10 rest → contents (pieces 10 text) ≡ without_return line ∷ contents (pieces 10 rest)
next_line text line rest is = ap contents is ∙ contents_more line (pieces 10 rest) (some_piece 10 rest)

-- ---- tokens
parted_space : (more : List (List ℕ)) → IsCut more → parted ([] ∷ more) ≡ parted more
parted_space [] cut = absurd (cc (cut.is))
parted_space (next ∷ tokens) cut = refl

-- spaces at the beginning part nothing
pub past_spaces : (content : List ℕ) (i : ℕ) → i ≤ length content → ((k : ℕ) → k < i → get_or content k 0 ≡ 32)
    → parted (pieces 32 content) ≡ parted (pieces 32 (drop i content))
past_spaces content zero within spaces = refl
past_spaces [] (suc i) within spaces = refl
past_spaces (byte ∷ bytes) (suc i) within spaces =
    let space : byte ≡ 32 = spaces 0 (omega arith) in
    ap (λ (t : Bool). parted (cond t ([] ∷ pieces 32 bytes) (onto_first byte (pieces 32 bytes)))) (eq-eqb byte 32 space)
    ∙ parted_space (pieces 32 bytes) (some_piece 32 bytes)
    ∙ past_spaces bytes i (omega (arith, within)) (λ k below. spaces (suc k) (omega (arith, below)))

parted_token : (byte : ℕ) (more : List (List ℕ)) → parted (onto_first byte more) ≡ behind_first (onto_first byte more)
parted_token byte [] = refl
parted_token byte (piece ∷ []) = refl
parted_token byte (piece ∷ next ∷ tokens) = refl

-- a token begins where no space is
pub at_token : (content : List ℕ) → 0 < length content → (get_or content 0 0 ≡ 32 → ⊥) → parted (pieces 32 content) ≡ tokens_of content
at_token [] some other = absurd (omega (arith, some))
at_token (byte ∷ bytes) some other =
    let is : pieces 32 (byte ∷ bytes) ≡ onto_first byte (pieces 32 bytes) =
    ap (λ (t : Bool). cond t ([] ∷ pieces 32 bytes) (onto_first byte (pieces 32 bytes))) (ne_eqb byte 32 other) in
    ap parted is ∙ parted_token byte (pieces 32 bytes) ∙ sym (ap behind_first is)

-- a line has a token
tokens_cut : (cut : List (List ℕ)) → IsCut cut → 1 ≤ length (behind_first cut)
tokens_cut [] some = absurd (cc (some.is))
tokens_cut (token ∷ tokens) some = omega arith

pub some_token : (content : List ℕ) → 1 ≤ length (tokens_of content)
some_token content = tokens_cut (pieces 32 content) (some_piece 32 content)

pub returned : (line : List ℕ) (n : ℕ) → length line ≡ suc n → get_or line n 0 ≡ 13 → without_return line ≡ take n line
returned [] n is last = absurd (omega (arith, is))
returned (byte ∷ []) zero is last = ap (λ (t : Bool). cond t [] (byte ∷ [])) (eq-eqb byte 13 last)
returned (byte ∷ []) (suc n) is last = absurd (omega (arith, is))
returned (byte ∷ next ∷ bytes) zero is last = absurd (omega (arith, is))
returned (byte ∷ next ∷ bytes) (suc n) is last = ap (λ l. byte ∷ l) (returned (next ∷ bytes) n (omega (arith, is)) last)

pub unreturned : (line : List ℕ) (n : ℕ) → length line ≡ suc n → (get_or line n 0 ≡ 13 → ⊥) → without_return line ≡ line
unreturned [] n is other = absurd (omega (arith, is))
unreturned (byte ∷ []) zero is other = ap (λ (t : Bool). cond t [] (byte ∷ [])) (ne_eqb byte 13 other)
unreturned (byte ∷ []) (suc n) is other = absurd (omega (arith, is))
unreturned (byte ∷ next ∷ bytes) zero is other = absurd (omega (arith, is))
unreturned (byte ∷ next ∷ bytes) (suc n) is other = ap (λ l. byte ∷ l) (unreturned (next ∷ bytes) n (omega (arith, is)) other)

pub unreturned_nil : (line : List ℕ) → length line ≡ 0 → without_return line ≡ line
unreturned_nil [] is = refl
unreturned_nil (byte ∷ bytes) is = absurd (omega (arith, is))
