-- What the tokens behind a caller's number ask for, by their name and their numbers.
use Rattle.std.proofs.Common.{◌≡◌, ℕ, ◌≤◌, ◌&&◌, nat_le, Bool, true, false, cond, List, [], ◌∷◌, length, Some, None, option_map, codes, refl, ap, subst, arith, le-leb, leb-true}
use Rattle.tx_model.specs.declared.word.Word.{Word}
use Rattle.ring_runs.specs.declared.event.Act.{Act}
use Rattle.ring_runs.specs.declared.event.Act.TheVariants as act
use Rattle.ring_script.specs.Grammar.{IsNamedLine, AsksFor}
use Rattle.ring_script.specs.Names.{text_of, one_in, word_in, without, steps_of, act_named}
use Rattle.ring_script.specs.declared.name.Name.{Name}
use Rattle.ring_script.specs.declared.name.Name.TheVariants as name

-- ---- from an act to its name and numbers
abbrev pub name_for : Act → Name
name_for act.Begin = name.Begin
name_for (act.Read addr) = name.Read
name_for (act.Write addr value) = name.Write
name_for act.Stamp = name.Stamp
name_for act.Turn = name.Turn
name_for act.Done = name.Done
name_for act.GiveUp = name.GiveUp
name_for (act.Seal region) = name.Seal
name_for (act.Publish region) = name.Publish
name_for (act.Load addr) = name.Load
name_for (act.Store addr value) = name.Store
name_for (act.Step count) = name.Step
name_for act.Run = name.Run

abbrev pub numbers_for : Act → List ℕ
numbers_for (act.Read addr) = addr ∷ []
numbers_for (act.Write addr value) = addr ∷ value ∷ []
numbers_for (act.Seal region) = region ∷ []
numbers_for (act.Publish region) = region ∷ []
numbers_for (act.Load addr) = addr ∷ []
numbers_for (act.Store addr value) = addr ∷ value ∷ []
numbers_for (act.Step count) = count ∷ []
numbers_for _ = []

pub few_numbers : (a : Act) → length (numbers_for a) ≤ 3
few_numbers act.Begin = omega arith
few_numbers (act.Read addr) = omega arith
few_numbers (act.Write addr value) = omega arith
few_numbers act.Stamp = omega arith
few_numbers act.Turn = omega arith
few_numbers act.Done = omega arith
few_numbers act.GiveUp = omega arith
few_numbers (act.Seal region) = omega arith
few_numbers (act.Publish region) = omega arith
few_numbers (act.Load addr) = omega arith
few_numbers (act.Store addr value) = omega arith
few_numbers (act.Step count) = omega arith
few_numbers act.Run = omega arith

pub both_true : (p q : Bool) → p ≡ true → q ≡ true → (p && q) ≡ true
both_true true q a b = b
both_true false q a b = absurd (cc (a))

counted : (count : ℕ) → 1 ≤ count → count ≤ 1000000 → steps_of count ≡ Some (act.Step count)
counted count some most =
    ap (λ (t : Bool). cond t (Some (act.Step count)) None) (both_true (nat_le 1 count) (nat_le count 1000000) (le-leb 1 count some) (le-leb count 1000000 most))

pub record IsNamedAct (tokens : List (List ℕ)) (a : Act) : Type 0 where
  pub line : IsNamedLine tokens (text_of (name_for a)) (numbers_for a)
  pub named : act_named (name_for a) (numbers_for a) ≡ Some a

pub asks_named : (tokens : List (List ℕ)) (a : Act) → AsksFor tokens a → IsNamedAct tokens a
asks_named tokens act.Begin asks = record { line = asks; named = refl }
asks_named tokens (act.Read addr) asks = record { line = asks; named = refl }
asks_named tokens (act.Write addr value) asks = record { line = asks; named = refl }
asks_named tokens act.Stamp asks = record { line = asks; named = refl }
asks_named tokens act.Turn asks = record { line = asks; named = refl }
asks_named tokens act.Done asks = record { line = asks; named = refl }
asks_named tokens act.GiveUp asks = record { line = asks; named = refl }
asks_named tokens (act.Seal region) asks = record { line = asks; named = refl }
asks_named tokens (act.Publish region) asks = record { line = asks; named = refl }
asks_named tokens (act.Load addr) asks = record { line = asks; named = refl }
asks_named tokens (act.Store addr value) asks = record { line = asks; named = refl }
asks_named tokens (act.Step count) (line, some, most) = record { line = line; named = counted count some most }
asks_named tokens act.Run asks = record { line = asks; named = refl }

-- ---- from a name and numbers to the act
without_is : (numbers : List ℕ) (a b : Act) → without numbers a ≡ Some b → (numbers ≡ []) × (a ≡ b)
without_is [] a b is = (refl, cc)
without_is (number ∷ numbers) a b is = absurd (cc (is))

record IsOne (numbers : List ℕ) (f : ℕ → Act) (b : Act) : Type 0 where
  pub number : ℕ
  pub whole : numbers ≡ number ∷ []
  pub same : f number ≡ b

one_is : (numbers : List ℕ) (f : ℕ → Act) (b : Act) → option_map f (one_in numbers) ≡ Some b → IsOne numbers f b
one_is [] f b is = absurd (cc (is))
one_is (number ∷ []) f b is = record { number = number; whole = refl; same = cc }
one_is (number ∷ next ∷ numbers) f b is = absurd (cc (is))

record IsWord (numbers : List ℕ) (f : Word → Act) (b : Act) : Type 0 where
  pub word : Word
  pub whole : numbers ≡ word.addr ∷ word.value ∷ []
  pub same : f word ≡ b

word_is : (numbers : List ℕ) (f : Word → Act) (b : Act) → option_map f (word_in numbers) ≡ Some b → IsWord numbers f b
word_is [] f b is = absurd (cc (is))
word_is (number ∷ []) f b is = absurd (cc (is))
word_is (addr ∷ value ∷ []) f b is = record { word = record { addr = addr; value = value }; whole = refl; same = cc }
word_is (addr ∷ value ∷ next ∷ numbers) f b is = absurd (cc (is))

record IsCount (count : ℕ) (b : Act) : Type 0 where
  pub some : 1 ≤ count
  pub most : count ≤ 1000000
  pub same : act.Step count ≡ b

count_is_by : (p q : Bool) (count : ℕ) (b : Act) → (p ≡ true → 1 ≤ count) → (q ≡ true → count ≤ 1000000)
    → cond (p && q) (Some (act.Step count)) None ≡ Some b → IsCount count b
count_is_by true true count b some most is = record { some = some refl; most = most refl; same = cc }
count_is_by true false count b some most is = absurd (cc (is))
count_is_by false q count b some most is = absurd (cc (is))

count_is : (count : ℕ) (b : Act) → steps_of count ≡ Some b → IsCount count b
count_is count b is = count_is_by (nat_le 1 count) (nat_le count 1000000) count b (leb-true 1 count) (leb-true count 1000000) is

abbrev Named : List (List ℕ) → List ℕ → List ℕ → Type 0
Named tokens text numbers = IsNamedLine tokens text numbers

asks_without : (tokens : List (List ℕ)) (text : List ℕ) (numbers : List ℕ) (a b : Act) → (Named tokens text [] → AsksFor tokens a) → without numbers a ≡ Some b
    → Named tokens text numbers → AsksFor tokens b
asks_without tokens text numbers a b asks is line =
    let parts = without_is numbers a b is in
    subst (λ x. AsksFor tokens x) parts.1 (asks (subst (λ ns. Named tokens text ns) parts.0 line))

asks_one : (tokens : List (List ℕ)) (text : List ℕ) (numbers : List ℕ) (f : ℕ → Act) (b : Act) → ((n : ℕ) → Named tokens text (n ∷ []) → AsksFor tokens (f n))
    → option_map f (one_in numbers) ≡ Some b → Named tokens text numbers → AsksFor tokens b
asks_one tokens text numbers f b asks is line =
    let one = one_is numbers f b is in
    subst (λ x. AsksFor tokens x) one.same (asks one.number (subst (λ ns. Named tokens text ns) one.whole line))

asks_word : (tokens : List (List ℕ)) (text : List ℕ) (numbers : List ℕ) (f : Word → Act) (b : Act)
    → ((w : Word) → Named tokens text (w.addr ∷ w.value ∷ []) → AsksFor tokens (f w)) → option_map f (word_in numbers) ≡ Some b → Named tokens text numbers
    → AsksFor tokens b
asks_word tokens text numbers f b asks is line =
    let word = word_is numbers f b is in
    subst (λ x. AsksFor tokens x) word.same (asks word.word (subst (λ ns. Named tokens text ns) word.whole line))

asks_count : (tokens : List (List ℕ)) (numbers : List ℕ) (b : Act) → act_named name.Step numbers ≡ Some b → Named tokens (codes "step") numbers
    → AsksFor tokens b
asks_count tokens [] b is line = absurd (cc (is))
asks_count tokens (count ∷ []) b is line =
    let counts = count_is count b is in
    subst (λ x. AsksFor tokens x) counts.same (line, counts.some, counts.most)
asks_count tokens (count ∷ next ∷ numbers) b is line = absurd (cc (is))

pub named_asks : (tokens : List (List ℕ)) (n : Name) (numbers : List ℕ) (b : Act) → act_named n numbers ≡ Some b → IsNamedLine tokens (text_of n) numbers
    → AsksFor tokens b
named_asks tokens name.Begin numbers b is line = asks_without tokens (codes "begin") numbers act.Begin b (λ l. l) is line
named_asks tokens name.Read numbers b is line = asks_one tokens (codes "read") numbers (λ n. act.Read n) b (λ n l. l) is line
named_asks tokens name.Write numbers b is line = asks_word tokens (codes "write") numbers (λ w. act.Write w.addr w.value) b (λ w l. l) is line
named_asks tokens name.Stamp numbers b is line = asks_without tokens (codes "stamp") numbers act.Stamp b (λ l. l) is line
named_asks tokens name.Turn numbers b is line = asks_without tokens (codes "turn") numbers act.Turn b (λ l. l) is line
named_asks tokens name.Done numbers b is line = asks_without tokens (codes "done") numbers act.Done b (λ l. l) is line
named_asks tokens name.GiveUp numbers b is line = asks_without tokens (codes "give-up") numbers act.GiveUp b (λ l. l) is line
named_asks tokens name.Seal numbers b is line = asks_one tokens (codes "seal") numbers (λ n. act.Seal n) b (λ n l. l) is line
named_asks tokens name.Publish numbers b is line = asks_one tokens (codes "publish") numbers (λ n. act.Publish n) b (λ n l. l) is line
named_asks tokens name.Load numbers b is line = asks_one tokens (codes "load") numbers (λ n. act.Load n) b (λ n l. l) is line
named_asks tokens name.Store numbers b is line = asks_word tokens (codes "store") numbers (λ w. act.Store w.addr w.value) b (λ w l. l) is line
named_asks tokens name.Step numbers b is line = asks_count tokens numbers b is line
named_asks tokens name.Run numbers b is line = asks_without tokens (codes "run") numbers act.Run b (λ l. l) is line
