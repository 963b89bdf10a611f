-- The order of keys is the byte order of their words.
use Rattle.std.proofs.Common.{◌≡◌, ℕ, suc, zero, ◌+◌, ◌-◌, ◌*◌, ◌^◌, ◌<◌, ◌≤◌, true, List, [], ◌∷◌, ◌++◌, length, drop, replicate, slice_range, get_or, refl, sym, ap, ◌∙◌, subst, arith, inl, inr, Ordering, append_assoc}
use Rattle.std.specs.declared.cmp.Ordering.TheVariants.{Less, Equal, Greater}
use Rattle.std.specs.Ordering.{nat_cmp, ordering_then}
use Rattle.std.specs.Cmp.Lexicographic.{slice_cmp}
use Rattle.std.specs.Int.{w64, from_be_bytes}
use Rattle.std.specs.List.{list_all}
use Rattle.std.specs.Char.{is_ascii_alphanumeric}
use Rattle.std.proofs.lemmas.Bool.{cases_order, and_parts}
use Rattle.std.proofs.lemmas.Bool.Decides.{nat_tests}
use Rattle.std.proofs.lemmas.Cmp.{nat_list_cmp_total, tied_itself}
use Rattle.std.proofs.lemmas.List.{length-take-le, length-drop}
use Rattle.std.proofs.Math.Nat.{mul-le-mul_left, pow-suc}
use Rattle.mail_words.specs.Key.{is_word, padded, key_of, key_cmp}
use Rattle.mail_words.proofs.Bytes.{padded-is, length-padded, padded-below, four_parts}
use Rattle.mail_words.proofs.Keys.{word_parts, below_taken, below_dropped}

then-then : (a b c : Ordering) → ordering_then (ordering_then a b) c ≡ ordering_then a (ordering_then b c)
then-then Less b c = refl
then-then Equal b c = refl
then-then Greater b c = refl

less : (a b : ℕ) → a < b → nat_cmp a b ≡ Less
less a b h = grind (arith, nat_tests)

greater : (a b : ℕ) → b < a → nat_cmp a b ≡ Greater
greater a b h = grind (arith, nat_tests)

equal : (a b : ℕ) → a ≡ b → nat_cmp a b ≡ Equal
equal a b h = grind (arith, nat_tests)

shifted : (c x y : ℕ) → nat_cmp (c + x) (c + y) ≡ nat_cmp x y
shifted c x y =
    elim (cases_order x y) [
      | inl same ↦ equal (c + x) (c + y) (ap (λ n. c + n) same) ∙ sym (equal x y same)
      | inr apart ↦ elim apart [
        | inl below ↦ less (c + x) (c + y) (omega arith) ∙ sym (less x y below)
        | inr above ↦ greater (c + x) (c + y) (omega arith) ∙ sym (greater x y above)
      ]
    ]

-- one digit more on the left
digit_lt : (a b x p : ℕ) → a < b → x < p → a * p + x < b * p
digit_lt a b x p h in_x =
    let more : (a + 1) * p ≤ b * p = grind (arith, mul-le-mul_left p h) in
    let wide : (a + 1) * p ≡ a * p + p = omega arith in
    omega arith

digit : (a b x y p : ℕ) → x < p → y < p → nat_cmp (a * p + x) (b * p + y) ≡ ordering_then (nat_cmp a b) (nat_cmp x y)
digit a b x y p in_x in_y =
    elim (cases_order a b) [
      | inl same ↦
          ap (λ n. nat_cmp (n * p + x) (b * p + y)) same ∙ shifted (b * p) x y ∙ ap (λ o. ordering_then o (nat_cmp x y)) (sym (equal a b same))
      | inr apart ↦ elim apart [
        | inl below ↦
            let under = digit_lt a b x p below in_x in
            less (a * p + x) (b * p + y) (omega arith) ∙ ap (λ o. ordering_then o (nat_cmp x y)) (sym (less a b below))
        | inr above ↦
            let under = digit_lt b a y p above in_y in
            greater (a * p + x) (b * p + y) (omega arith) ∙ ap (λ o. ordering_then o (nat_cmp x y)) (sym (greater a b above))
      ]
    ]

-- the number that bytes spell, the first the highest
abbrev spelled : List ℕ → ℕ
spelled [] = 0
spelled (b ∷ bs) = b * 256 ^ length bs + spelled bs

abbrev Small : List ℕ → Type 0
Small bs = (index : ℕ) → get_or bs index 0 < 256

rest-small : (b : ℕ) (bs : List ℕ) → Small (b ∷ bs) → Small bs
rest-small b bs small = λ index. small (suc index)

digit_lt_all : (b x p : ℕ) → b < 256 → x < p → b * p + x < p * 256
digit_lt_all b x p small below =
    let under = digit_lt b 256 x p small below in
    omega arith

spelled-below : (bs : List ℕ) → Small bs → spelled bs < 256 ^ length bs
spelled-below [] small = omega arith
spelled-below (b ∷ bs) small =
    let rest = spelled-below bs (rest-small b bs small) in
    subst (λ n. b * 256 ^ length bs + spelled bs < n) (sym (pow-suc 256 (length bs))) (digit_lt_all b (spelled bs) (256 ^ length bs) (small 0) rest)

spelled-cmp : (xs ys : List ℕ) → length xs ≡ length ys → Small xs → Small ys → nat_cmp (spelled xs) (spelled ys) ≡ slice_cmp nat_cmp xs ys
spelled-cmp [] [] same small_x small_y = refl
spelled-cmp [] (y ∷ ys) same small_x small_y = absurd (omega arith)
spelled-cmp (x ∷ xs) [] same small_x small_y = absurd (omega arith)
spelled-cmp (x ∷ xs) (y ∷ ys) same small_x small_y =
    let long : length xs ≡ length ys = omega arith in
    let above_x = spelled-below xs (rest-small x xs small_x) in
    let above_y : spelled ys < 256 ^ length xs = subst (λ n. spelled ys < 256 ^ n) (sym long) (spelled-below ys (rest-small y ys small_y)) in
    ap (λ n. nat_cmp (x * 256 ^ length xs + spelled xs) (y * 256 ^ n + spelled ys)) (sym long)
    ∙ digit x y (spelled xs) (spelled ys) (256 ^ length xs) above_x above_y
    ∙ ap (ordering_then (nat_cmp x y)) (spelled-cmp xs ys long (rest-small x xs small_x) (rest-small y ys small_y))

eight-spelled : (bs : List ℕ) → length bs ≡ 8 → from_be_bytes w64 bs ≡ spelled bs
eight-spelled [] l = absurd (omega arith)
eight-spelled (a ∷ []) l = absurd (omega arith)
eight-spelled (a ∷ b ∷ []) l = absurd (omega arith)
eight-spelled (a ∷ b ∷ c ∷ []) l = absurd (omega arith)
eight-spelled (a ∷ b ∷ c ∷ d ∷ []) l = absurd (omega arith)
eight-spelled (a ∷ b ∷ c ∷ d ∷ e ∷ []) l = absurd (omega arith)
eight-spelled (a ∷ b ∷ c ∷ d ∷ e ∷ f ∷ []) l = absurd (omega arith)
eight-spelled (a ∷ b ∷ c ∷ d ∷ e ∷ f ∷ g ∷ []) l = absurd (omega arith)
eight-spelled (a ∷ b ∷ c ∷ d ∷ e ∷ f ∷ g ∷ h ∷ []) l = omega arith
eight-spelled (a ∷ b ∷ c ∷ d ∷ e ∷ f ∷ g ∷ h ∷ x ∷ bs) l = absurd (omega arith)

-- ---- lists in parts

cmp-append : (xs ys us vs : List ℕ) → length xs ≡ length ys
    → slice_cmp nat_cmp (xs ++ us) (ys ++ vs) ≡ ordering_then (slice_cmp nat_cmp xs ys) (slice_cmp nat_cmp us vs)
cmp-append [] [] us vs same = refl
cmp-append [] (y ∷ ys) us vs same = absurd (omega arith)
cmp-append (x ∷ xs) [] us vs same = absurd (omega arith)
cmp-append (x ∷ xs) (y ∷ ys) us vs same =
    ap (ordering_then (nat_cmp x y)) (cmp-append xs ys us vs (omega arith)) ∙ sym (then-then (nat_cmp x y) (slice_cmp nat_cmp xs ys) (slice_cmp nat_cmp us vs))

long_part : (bytes : List ℕ) (from : ℕ) → length bytes ≡ 32 → from ≤ 24 → length (slice_range bytes from (from + 8)) ≡ 8
long_part bytes from long inside =
    let wide : from + 8 - from ≡ 8 = omega arith in
    length-take-le (from + 8 - from) (drop from bytes) (omega (arith, length-drop from bytes)) ∙ wide

part-cmp : (xs ys : List ℕ) (from : ℕ) → length xs ≡ 32 → length ys ≡ 32 → from ≤ 24 → Small xs → Small ys
    → nat_cmp (from_be_bytes w64 (slice_range xs from (from + 8))) (from_be_bytes w64 (slice_range ys from (from + 8))) ≡ slice_cmp nat_cmp
    (slice_range xs from (from + 8)) (slice_range ys from (from + 8))
part-cmp xs ys from long_x long_y inside small_x small_y =
    let eight_x = long_part xs from long_x inside in
    let eight_y = long_part ys from long_y inside in
    ap (λ n. nat_cmp n (from_be_bytes w64 (slice_range ys from (from + 8)))) (eight-spelled (slice_range xs from (from + 8)) eight_x)
    ∙ ap (nat_cmp (spelled (slice_range xs from (from + 8)))) (eight-spelled (slice_range ys from (from + 8)) eight_y)
    ∙ spelled-cmp (slice_range xs from (from + 8)) (slice_range ys from (from + 8)) (eight_x ∙ sym eight_y)
    (below_taken (from + 8 - from) (drop from xs) (below_dropped from xs small_x))
    (below_taken (from + 8 - from) (drop from ys) (below_dropped from ys small_y))

four_cmp : (a b c d s t u v : List ℕ) → length a ≡ length s → length b ≡ length t → length c ≡ length u
    → slice_cmp nat_cmp (a ++ b ++ c ++ d) (s ++ t ++ u ++ v) ≡ ordering_then (slice_cmp nat_cmp a s)
    (ordering_then (slice_cmp nat_cmp b t) (ordering_then (slice_cmp nat_cmp c u) (slice_cmp nat_cmp d v)))
four_cmp a b c d s t u v in_a in_b in_c =
    ap (λ xs. slice_cmp nat_cmp xs (s ++ t ++ u ++ v)) (append_assoc (a ++ b) c d ∙ append_assoc a b (c ++ d))
    ∙ ap (slice_cmp nat_cmp (a ++ (b ++ (c ++ d)))) (append_assoc (s ++ t) u v ∙ append_assoc s t (u ++ v))
    ∙ cmp-append a s (b ++ (c ++ d)) (t ++ (u ++ v)) in_a
    ∙ ap (ordering_then (slice_cmp nat_cmp a s)) (cmp-append b t (c ++ d) (u ++ v) in_b ∙ ap (ordering_then (slice_cmp nat_cmp b t)) (cmp-append c u d v in_c))

-- ---- words with zero bytes after them

letter_above : (x : ℕ) → is_ascii_alphanumeric x ≡ true → 0 < x
letter_above x is = grind (arith, nat_tests)

zeros-cmp : (v w : List ℕ) (n m : ℕ) → n + length v ≡ m + length w → list_all is_ascii_alphanumeric v ≡ true → list_all is_ascii_alphanumeric w ≡ true
    → slice_cmp nat_cmp (v ++ replicate n 0) (w ++ replicate m 0) ≡ slice_cmp nat_cmp v w
zeros-cmp [] [] n m same all_v all_w =
    ap (λ k. slice_cmp nat_cmp (replicate {A = ℕ} n 0) (replicate k 0)) (omega arith) ∙ tied_itself nat_list_cmp_total (replicate {A = ℕ} n 0)
zeros-cmp [] (y ∷ w) zero m same all_v all_w = absurd (omega arith)
zeros-cmp [] (y ∷ w) (suc n) m same all_v all_w =
    let parts = and_parts (is_ascii_alphanumeric y) (list_all is_ascii_alphanumeric w) all_w in
    ap (λ o. ordering_then o (slice_cmp nat_cmp (replicate {A = ℕ} n 0) (w ++ replicate m 0))) (less 0 y (letter_above y parts.0))
zeros-cmp (x ∷ v) [] n zero same all_v all_w = absurd (omega arith)
zeros-cmp (x ∷ v) [] n (suc m) same all_v all_w =
    let parts = and_parts (is_ascii_alphanumeric x) (list_all is_ascii_alphanumeric v) all_v in
    ap (λ o. ordering_then o (slice_cmp nat_cmp (v ++ replicate n 0) (replicate {A = ℕ} m 0))) (greater x 0 (letter_above x parts.0))
zeros-cmp (x ∷ v) (y ∷ w) n m same all_v all_w =
    let parts_v = and_parts (is_ascii_alphanumeric x) (list_all is_ascii_alphanumeric v) all_v in
    let parts_w = and_parts (is_ascii_alphanumeric y) (list_all is_ascii_alphanumeric w) all_w in
    ap (ordering_then (nat_cmp x y)) (zeros-cmp v w n m (omega arith) parts_v.1 parts_w.1)

four_thens : (a b c d s t u v : Ordering) → a ≡ s → b ≡ t → c ≡ u → d ≡ v
    → ordering_then a (ordering_then b (ordering_then c d)) ≡ ordering_then s (ordering_then t (ordering_then u v))
four_thens a b c d s t u v is_s is_t is_u is_v = cc

sums : (a b : ℕ) → a ≤ 32 → b ≤ 32 → 32 - a + a ≡ 32 - b + b
sums a b in_a in_b = omega arith

pub key_cmp-words : (v w : List ℕ) → is_word v ≡ true → is_word w ≡ true → key_cmp (key_of v) (key_of w) ≡ slice_cmp nat_cmp v w
key_cmp-words v w is_v is_w =
    let in_v = word_parts v is_v in
    let in_w = word_parts w is_w in
    let long_v = length-padded v in_v.shorter in
    let long_w = length-padded w in_w.shorter in
    let small_v = padded-below v in_v.shorter in_v.all in
    let small_w = padded-below w in_w.shorter in_w.all in
    four_thens _ _ _ _ _ _ _ _ (part-cmp (padded v) (padded w) 0 long_v long_w (omega arith) small_v small_w)
    (part-cmp (padded v) (padded w) 8 long_v long_w (omega arith) small_v small_w)
    (part-cmp (padded v) (padded w) 16 long_v long_w (omega arith) small_v small_w)
    (part-cmp (padded v) (padded w) 24 long_v long_w (omega arith) small_v small_w)
    ∙ sym (four_cmp _ _ _ _ _ _ _ _ (long_part (padded v) 0 long_v (omega arith) ∙ sym (long_part (padded w) 0 long_w (omega arith)))
    (long_part (padded v) 8 long_v (omega arith) ∙ sym (long_part (padded w) 8 long_w (omega arith)))
    (long_part (padded v) 16 long_v (omega arith) ∙ sym (long_part (padded w) 16 long_w (omega arith))))
    ∙ ap (λ xs. slice_cmp nat_cmp xs
    (slice_range (padded w) 0 8 ++ slice_range (padded w) 8 16 ++ slice_range (padded w) 16 24 ++ slice_range (padded w) 24 32))
    (four_parts (padded v) long_v)
    ∙ ap (slice_cmp nat_cmp (padded v)) (four_parts (padded w) long_w)
    ∙ ap (λ xs. slice_cmp nat_cmp xs (padded w)) (padded-is v in_v.shorter)
    ∙ ap (slice_cmp nat_cmp (v ++ replicate {A = ℕ} (32 - length v) 0)) (padded-is w in_w.shorter)
    ∙ zeros-cmp v w (32 - length v) (32 - length w) (sums (length v) (length w) in_v.shorter in_w.shorter) in_v.all in_w.all
