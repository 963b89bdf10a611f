-- Lists of 32 bytes: a word and the zero bytes after it, and the same in four parts of eight.
use Rattle.std.proofs.Common.{◌≡◌, ℕ, suc, zero, ◌||◌, ◌+◌, ◌-◌, ◌<◌, ◌≤◌, ◌==◌, Bool, true, false, not, List, [], ◌∷◌, ◌++◌, length, map, take, drop, replicate, slice_range, get_or, refl, sym, ap, ◌∙◌, arith, append_assoc, length-append, add-one, set}
use Rattle.std.specs.List.{list_all, take_while}
use Rattle.std.specs.Char.{is_ascii_alphanumeric, to_ascii_lowercase}
use Rattle.std.proofs.lemmas.Bool.{and_parts, and_from, agree_below_at, cond-true}
use Rattle.std.proofs.lemmas.Bool.Decides.{nat_tests}
use Rattle.std.proofs.lemmas.List.{take-append-drop, drop-drop, length-drop, length-map, length-replicate, take-replicate, take_all, length-take-le, map_more, set_at}
use Rattle.std.proofs.lemmas.List.Sums.{take_while-cons}
use Rattle.std.proofs.Math.Seq.{take-append-add}
use Rattle.mail_words.specs.Key.{padded, lowered}

-- ---- letters and digits

pub alphanumeric-below : (byte : ℕ) → is_ascii_alphanumeric byte ≡ true → byte < 123
alphanumeric-below byte is = grind (arith, nat_tests)

pub alphanumeric-not_zero : (byte : ℕ) → is_ascii_alphanumeric byte ≡ true → not (byte == 0) ≡ true
alphanumeric-not_zero byte is = grind (arith, nat_tests)

or_right_from : (x y : Bool) → x ≡ true → (not x || y) ≡ true → y ≡ true
or_right_from true y is both = both
or_right_from false y is both = cc

pub alphanumeric-lowercase : (byte : ℕ) → is_ascii_alphanumeric byte ≡ true → is_ascii_alphanumeric (to_ascii_lowercase byte) ≡ true
alphanumeric-lowercase byte is =
    let f : ℕ → Bool = λ b. not (is_ascii_alphanumeric b) || is_ascii_alphanumeric (to_ascii_lowercase b) in
    let both : f byte ≡ true = agree_below_at f (λ _. true) 123 byte refl (alphanumeric-below byte is) in
    or_right_from (is_ascii_alphanumeric byte) (is_ascii_alphanumeric (to_ascii_lowercase byte)) is both

pub lowercase-lowercase : (byte : ℕ) → (to_ascii_lowercase (to_ascii_lowercase byte) == to_ascii_lowercase byte) ≡ true
lowercase-lowercase byte = grind (arith, nat_tests)

-- ---- what holds of each element, as a test

pub list_all-weaker : {X : Type 0} (p q : X → Bool) → ((x : X) → p x ≡ true → q x ≡ true) → (xs : List X) → list_all p xs ≡ true → list_all q xs ≡ true
list_all-weaker p q each [] all = refl
list_all-weaker p q each (x ∷ xs) all =
    let parts = and_parts (p x) (list_all p xs) all in
    and_from (q x) (list_all q xs) (each x parts.0) (list_all-weaker p q each xs parts.1)

pub list_all-mapped : {X Y : Type 0} (p : Y → Bool) (q : X → Bool) (f : X → Y) → ((x : X) → q x ≡ true → p (f x) ≡ true) → (xs : List X) → list_all q xs ≡ true
    → list_all p (map f xs) ≡ true
list_all-mapped p q f each [] all = refl
list_all-mapped p q f each (x ∷ xs) all =
    let parts = and_parts (q x) (list_all q xs) all in
    and_from (p (f x)) (list_all p (map f xs)) (each x parts.0) (list_all-mapped p q f each xs parts.1)

below_zeros : (n index : ℕ) → get_or (replicate n 0) index 0 < 256
below_zeros zero index = omega arith
below_zeros (suc n) zero = omega arith
below_zeros (suc n) (suc index) = below_zeros n index

below_with_zeros : (word : List ℕ) (n : ℕ) → list_all is_ascii_alphanumeric word ≡ true → (index : ℕ) → get_or (word ++ replicate n 0) index 0 < 256
below_with_zeros [] n all index = below_zeros n index
below_with_zeros (x ∷ word) n all zero =
    let parts = and_parts (is_ascii_alphanumeric x) (list_all is_ascii_alphanumeric word) all in
    let small : x < 123 = alphanumeric-below x parts.0 in
    omega arith
below_with_zeros (x ∷ word) n all (suc index) =
    let parts = and_parts (is_ascii_alphanumeric x) (list_all is_ascii_alphanumeric word) all in
    below_with_zeros word n parts.1 index

-- ---- a word and zero bytes

padded_to : (n : ℕ) (word : List ℕ) → length word ≤ n → take n (word ++ replicate n 0) ≡ word ++ replicate (n - length word) 0
padded_to n word short =
    let whole : n ≡ length word + (n - length word) = omega arith in
    let cut : take (length word + (n - length word)) (word ++ replicate n 0) ≡ word ++ take (n - length word) (replicate n 0) =
    take-append-add word (replicate n 0) (n - length word) in
    let rest : take (n - length word) (replicate n 0) ≡ replicate (n - length word) 0 = take-replicate (n - length word) n 0 (omega arith) in
    ap (λ m. take m (word ++ replicate n 0)) whole ∙ cut ∙ ap (λ zeros. word ++ zeros) rest

pub padded-is : (word : List ℕ) → length word ≤ 32 → padded word ≡ word ++ replicate (32 - length word) 0
padded-is word short = padded_to 32 word short

pub length-padded : (word : List ℕ) → length word ≤ 32 → length (padded word) ≡ 32
length-padded word short =
    ap length (padded-is word short) ∙ length-append word (replicate (32 - length word) 0) ∙ omega (arith, length-replicate {A = ℕ} (32 - length word) 0)

pub padded-below : (word : List ℕ) → length word ≤ 32 → list_all is_ascii_alphanumeric word ≡ true → (index : ℕ) → get_or (padded word) index 0 < 256
padded-below word short all index =
    let at : get_or (padded word) index 0 ≡ get_or (word ++ replicate (32 - length word) 0) index 0 =
    ap (λ bytes. get_or bytes index 0) (padded-is word short) in
    let below : get_or (word ++ replicate (32 - length word) 0) index 0 < 256 = below_with_zeros word (32 - length word) all index in
    omega arith

-- the bytes before the first that fails
pub take_while-append : {X : Type 0} (p : X → Bool) (xs ys : List X) → list_all p xs ≡ true → take_while p ys ≡ [] → take_while p (xs ++ ys) ≡ xs
take_while-append p [] ys all none = none
take_while-append p (x ∷ xs) ys all none =
    let parts = and_parts (p x) (list_all p xs) all in
    take_while-cons p x (xs ++ ys) ∙ cond-true (p x) (x ∷ take_while p (xs ++ ys)) [] parts.0 ∙ ap (λ word. x ∷ word) (take_while-append p xs ys parts.1 none)

-- ---- 32 bytes in four parts

pub four_parts : (bytes : List ℕ) → length bytes ≡ 32
    → slice_range bytes 0 8 ++ slice_range bytes 8 16 ++ slice_range bytes 16 24 ++ slice_range bytes 24 32 ≡ bytes
four_parts bytes long =
    let rest_3 : take 8 (drop 24 bytes) ≡ drop 24 bytes = take_all 8 (drop 24 bytes) (omega (arith, length-drop 24 bytes)) in
    let rest_2 : take 8 (drop 16 bytes) ++ drop 24 bytes ≡ drop 16 bytes =
    ap (λ rest. take 8 (drop 16 bytes) ++ rest) (sym (drop-drop 8 16 bytes)) ∙ take-append-drop 8 (drop 16 bytes) in
    let rest_1 : take 8 (drop 8 bytes) ++ drop 16 bytes ≡ drop 8 bytes =
    ap (λ rest. take 8 (drop 8 bytes) ++ rest) (sym (drop-drop 8 8 bytes)) ∙ take-append-drop 8 (drop 8 bytes) in
    let rest_0 : take 8 bytes ++ drop 8 bytes ≡ bytes = take-append-drop 8 bytes in
    rw (rest_3, append_assoc, append_assoc, rest_2, rest_1) rest_0

-- ---- a loop that writes the bytes in lower case, one after the other

replicate-first : (n m : ℕ) → n ≡ m + 1 → replicate {A = ℕ} n 0 ≡ 0 ∷ replicate m 0
replicate-first n m is = ap (λ k. replicate {A = ℕ} k 0) (is ∙ add-one m)

pub lowered_more : (word bytes : List ℕ) (index : ℕ) → index < length word → length word ≤ 32
    → bytes ≡ map to_ascii_lowercase (take index word) ++ replicate (32 - index) 0
    → set bytes index (to_ascii_lowercase (get_or word index 0)) ≡ map to_ascii_lowercase (take (index + 1) word) ++ replicate (32 - (index + 1)) 0
lowered_more word bytes index here short is =
    let byte = to_ascii_lowercase (get_or word index 0) in
    let done = map to_ascii_lowercase (take index word) in
    let long : length done ≡ index = length-map (take index word) to_ascii_lowercase ∙ length-take-le index word (omega arith) in
    let zeros : replicate (32 - index) 0 ≡ 0 ∷ replicate (32 - (index + 1)) 0 = replicate-first (32 - index) (32 - (index + 1)) (omega arith) in
    let more : map to_ascii_lowercase (take (index + 1) word) ≡ done ++ byte ∷ [] = map_more to_ascii_lowercase word index 0 here in
    ap (λ xs. set xs index byte) (is ∙ ap (λ xs. done ++ xs) zeros)
    ∙ set_at done 0 (replicate (32 - (index + 1)) 0) byte index long
    ∙ sym (append_assoc done (byte ∷ []) (replicate (32 - (index + 1)) 0))
    ∙ ap (λ xs. xs ++ replicate (32 - (index + 1)) 0) (sym more)

pub lowered_all : (word bytes : List ℕ) (index : ℕ) → length word ≤ index → length word ≤ 32 → index ≤ length word
    → bytes ≡ map to_ascii_lowercase (take index word) ++ replicate (32 - index) 0
    → bytes ≡ padded (lowered word)
lowered_all word bytes index past short within is =
    let all : take index word ≡ word = take_all index word past in
    let long : length (lowered word) ≡ length word = length-map word to_ascii_lowercase in
    let same : 32 - index ≡ 32 - length (lowered word) = omega arith in
    is
    ∙ ap (λ xs. map to_ascii_lowercase xs ++ replicate (32 - index) 0) all
    ∙ ap (λ n. lowered word ++ replicate n 0) same
    ∙ sym (padded-is (lowered word) (omega arith))
