-- Tokens that are numbers.
use Rattle.std.proofs.Common.{◌≡◌, ℕ, zero, suc, ◌<◌, List, [], ◌∷◌, ◌++◌, length, map, take, drop, get_or, refl, sym, ◌∙◌, ap, subst, arith, Bor, Option, Some, None, MatchOption, ◌-◌}
use Rattle.std.proofs.lemmas.List.{take_rest, drop-map, take-map, length-map}
use Rattle.ring_script.specs.Lines.{IsNumber}
use Rattle.ring_script.specs.Grammar.{AreNumbers, IsNamedLine}

abbrev pub texts : List (Bor (List ℕ)) → List (List ℕ)
texts tokens = map (λ t. t.now) tokens

pub text_at : (tokens : List (Bor (List ℕ))) (i : ℕ) (d : Bor (List ℕ)) → i < length tokens → get_or (texts tokens) i [] ≡ (get_or tokens i d).now
text_at [] i d below = absurd (omega (arith, below))
text_at (token ∷ tokens) zero d below = refl
text_at (token ∷ tokens) (suc i) d below = text_at tokens i d (omega (arith, below))

pub number_same : (token : List ℕ) (n m : ℕ) → IsNumber token n → IsNumber token m → n ≡ m
number_same token n m a b = sym a.value ∙ b.value

pub numbers_length : (tokens : List (List ℕ)) (numbers : List ℕ) → AreNumbers tokens numbers → length tokens ≡ length numbers
numbers_length [] [] are = refl
numbers_length [] (number ∷ numbers) are = absurd are
numbers_length (token ∷ tokens) [] are = absurd are
numbers_length (token ∷ tokens) (number ∷ numbers) are = ap (λ n. suc n) (numbers_length tokens numbers are.1)

pub numbers_same : (tokens : List (List ℕ)) (numbers others : List ℕ) → AreNumbers tokens numbers → AreNumbers tokens others → numbers ≡ others
numbers_same [] [] [] are also = refl
numbers_same [] [] (other ∷ others) are also = absurd also
numbers_same [] (number ∷ numbers) others are also = absurd are
numbers_same (token ∷ tokens) [] others are also = absurd are
numbers_same (token ∷ tokens) (number ∷ numbers) [] are also = absurd also
numbers_same (token ∷ tokens) (number ∷ numbers) (other ∷ others) are also =
    let first : number ≡ other = number_same token number other are.0 also.0 in
    let rest : numbers ≡ others = numbers_same tokens numbers others are.1 also.1 in
    cc

pub numbers_push : (tokens : List (List ℕ)) (numbers : List ℕ) (token : List ℕ) (number : ℕ) → AreNumbers tokens numbers → IsNumber token number
    → AreNumbers (tokens ++ token ∷ []) (numbers ++ number ∷ [])
numbers_push [] [] token number are is = (is, tt)
numbers_push [] (other ∷ numbers) token number are is = absurd are
numbers_push (first ∷ tokens) [] token number are is = absurd are
numbers_push (first ∷ tokens) (other ∷ numbers) token number are is = (are.0, numbers_push tokens numbers token number are.1 is)

pub number_at : (tokens : List (List ℕ)) (numbers : List ℕ) (i : ℕ) → AreNumbers tokens numbers → i < length tokens
    → IsNumber (get_or tokens i []) (get_or numbers i 0)
number_at [] numbers i are below = absurd (omega (arith, below))
number_at (token ∷ tokens) [] i are below = absurd are
number_at (token ∷ tokens) (number ∷ numbers) zero are below = are.0
number_at (token ∷ tokens) (number ∷ numbers) (suc i) are below = number_at tokens numbers i are.1 (omega (arith, below))

-- the last of the tokens isn't a number
pub last_is_number : (tokens : List (List ℕ)) (token : List ℕ) (numbers : List ℕ) → AreNumbers (tokens ++ token ∷ []) numbers
    → (number : ℕ) × IsNumber token number
last_is_number [] token [] are = absurd are
last_is_number [] token (number ∷ numbers) are = (number, are.0)
last_is_number (first ∷ tokens) token [] are = absurd are
last_is_number (first ∷ tokens) token (number ∷ numbers) are = last_is_number tokens token numbers are.1

-- the name is the first token, and the numbers are the others
pub named_first : (tokens : List (List ℕ)) (name : List ℕ) (numbers : List ℕ) → IsNamedLine tokens name numbers
    → (0 < length tokens) × (get_or tokens 0 [] ≡ name) × AreNumbers (drop 1 tokens) numbers
named_first tokens name numbers line =
    let whole = line.whole in
    let some : 0 < length tokens = omega (arith, ap length whole) in
    (some, ap (λ ts. get_or ts 0 []) whole, subst (λ ts. AreNumbers ts numbers) (sym (ap (drop 1) whole)) line.are)

pub first_named : (tokens : List (List ℕ)) (name : List ℕ) (numbers : List ℕ) → 0 < length tokens → get_or tokens 0 [] ≡ name
    → AreNumbers (drop 1 tokens) numbers → IsNamedLine tokens name numbers
first_named [] name numbers some is are = absurd (omega (arith, some))
first_named (token ∷ tokens) name numbers some is are = record { given = tokens; whole = ap (λ t. t ∷ tokens) is; are = are }

pub texts_rest : (tokens : List (Bor (List ℕ))) → texts (take (length tokens - 1) (drop 1 tokens)) ≡ drop 1 (texts tokens)
texts_rest tokens = ap texts (take_rest tokens 1) ∙ sym (drop-map (λ (t : Bor (List ℕ)). t.now) 1 tokens)

pub texts_length : (tokens : List (Bor (List ℕ))) → length (texts tokens) ≡ length tokens
texts_length tokens = length-map tokens (λ t. t.now)

pub match_weaker : {A : Type 0} (o : Option A) (P R : Type 0) (Q S : A → Type 0) → (P → R) → ((x : A) → Q x → S x) → MatchOption o P Q → MatchOption o R S
match_weaker None P R Q S none some is = none is
match_weaker (Some x) P R Q S none some is = some x is

-- the line says one list of numbers
pub line_same : (tokens : List (List ℕ)) (name : List ℕ) (numbers others : List ℕ) → IsNamedLine tokens name numbers → IsNamedLine tokens name others
    → numbers ≡ others
line_same tokens name numbers others line also =
    let first = named_first tokens name numbers line in
    let second = named_first tokens name others also in
    numbers_same (drop 1 tokens) numbers others first.2 second.2

pub texts_front : (tokens : List (Bor (List ℕ))) → take (length (texts tokens) - 1) (texts tokens) ≡ texts (take (length tokens - 1) tokens)
texts_front tokens =
    ap (λ n. take (n - 1) (texts tokens)) (texts_length tokens) ∙ take-map (λ (t : Bor (List ℕ)). t.now) (length tokens - 1) tokens
