-- What a line asks for is within its bounds.
use Rattle.std.proofs.Common.{◌≡◌, ◌≢◌, ℕ, ◌≤◌, Bool, true, false, List, [], length, ◌&&◌, cond, refl, sym, ◌∙◌, ap, subst, arith, Some, None}
use Rattle.std.specs.Prelude.{codes, Option, nat_eq, nat_lt, nat_le, option_map, option_and_then, unwrap_or}
use Rattle.std.specs.Option.{option_map_or}
use Rattle.std.specs.Str.Parse.{digits_value}
use Rattle.std.proofs.lemmas.Option.{same_Some}
use Rattle.clap.specs.Words.{Row, Text, first_of}
use Rattle.mail_line.specs.CommandLine.{Asked, ask, replay, is_number, number_in, number_given, is_bit_count, only_bit_counts, bits_given, is_set, has_none, options_in, settings_with, settings_by, queries_in, given, AreWithinBounds, StaysWithinBounds}
use Rattle.mail_line.specs.declared.options.Options.{Options}

-- ---- the number of an option
by_test : (a b c : Bool) (value n : ℕ) → option_map (λ (k : ℕ). Some k) (cond (a && (b && c)) (Some value) None) ≡ Some (Some n)
    → (b ≡ true) × (c ≡ true) × (value ≡ n)
by_test true true true value n e = (refl, refl, same_Some value n (same_Some (Some value) (Some n) e))
by_test true true false value n e = cc
by_test true false c value n e = cc
by_test false b c value n e = cc

at_least : (low n : ℕ) → nat_le low n ≡ true → low ≤ n
at_least low n e = grind arith

number_bounds : (low high n : ℕ) (first : Option Text)
    → option_map_or (λ text. option_map (λ (k : ℕ). Some k) (number_in low high text)) first (Some None) ≡ Some (Some n)
    → (low ≤ n) × (n ≤ high)
number_bounds low high n None e = cc
number_bounds low high n (Some text) e =
    let (from, to, is) = by_test (is_number text) (nat_le low (digits_value 10 text)) (nat_le (digits_value 10 text) high) (digits_value 10 text) n e in
    (subst (λ k. low ≤ k) is (at_least low (digits_value 10 text) from), subst (λ k. k ≤ high) is (at_least (digits_value 10 text) high to))

-- ---- the bits of a signature
only_counts : (given : Option (Option ℕ)) (n : ℕ) → option_and_then only_bit_counts given ≡ Some (Some n) → is_bit_count n ≡ true
only_counts None n e = cc
only_counts (Some None) n e = cc
only_counts (Some (Some k)) n e =
    let (counts, is) = by_count (is_bit_count k) k n e in subst (λ j. is_bit_count j ≡ true) is counts
  where
    by_count : (b : Bool) (k n : ℕ) → cond b (Some (Some k)) None ≡ Some (Some n) → (b ≡ true) × (k ≡ n)
    by_count true k n e = (refl, same_Some k n (same_Some (Some k) (Some n) e))
    by_count false k n e = cc

-- ---- the options
-- each number that is given is within its bounds
record AreGiven (options : Options) : Type 0 where
  workers : (n : ℕ) → options.workers ≡ Some n → (1 ≤ n) × (n ≤ 64)
  ring : (n : ℕ) → options.ring ≡ Some n → (1 ≤ n) × (n ≤ 4096)
  bits : (n : ℕ) → options.bits ≡ Some n → is_bit_count n ≡ true
  generate : (n : ℕ) → options.generate ≡ Some n → (0 ≤ n) × (n ≤ 100000)

abbrev options_of : Bool → Option (Option ℕ) → Option (Option ℕ) → Option (Option ℕ) → Option (Option ℕ) → Option Options
options_of report ws rs bs gs =
    option_and_then (λ w. option_and_then (λ r. option_and_then (λ b. option_map (λ g.
    record { workers = w; ring = r; bits = b; report = report; generate = g }) gs) bs) rs) ws

given_options : (report : Bool) (ws rs bs gs : Option (Option ℕ)) (options : Options)
    → ((n : ℕ) → ws ≡ Some (Some n) → (1 ≤ n) × (n ≤ 64)) → ((n : ℕ) → rs ≡ Some (Some n) → (1 ≤ n) × (n ≤ 4096))
    → ((n : ℕ) → bs ≡ Some (Some n) → is_bit_count n ≡ true) → ((n : ℕ) → gs ≡ Some (Some n) → (0 ≤ n) × (n ≤ 100000))
    → options_of report ws rs bs gs ≡ Some options → AreGiven options
given_options report None rs bs gs options wb rb bb gb e = cc
given_options report (Some w) None bs gs options wb rb bb gb e = cc
given_options report (Some w) (Some r) None gs options wb rb bb gb e = cc
given_options report (Some w) (Some r) (Some b) None options wb rb bb gb e = cc
given_options report (Some w) (Some r) (Some b) (Some g) options wb rb bb gb e =
    let same = same_Some _ options e in
    record {
      workers = λ n is. wb n (ap (λ (o : Option ℕ). Some o) (ap (λ (o : Options). o.workers) same ∙ is));
      ring = λ n is. rb n (ap (λ (o : Option ℕ). Some o) (ap (λ (o : Options). o.ring) same ∙ is));
      bits = λ n is. bb n (ap (λ (o : Option ℕ). Some o) (ap (λ (o : Options). o.bits) same ∙ is));
      generate = λ n is. gb n (ap (λ (o : Option ℕ). Some o) (ap (λ (o : Options). o.generate) same ∙ is));
    }

-- ---- the settings
-- an option that isn't given has a number within the same bounds
or_else : {Holds : ℕ → Type 0} (o : Option ℕ) (n : ℕ) → ((k : ℕ) → o ≡ Some k → Holds k) → Holds n → Holds (unwrap_or o n)
or_else None n bound holds = holds
or_else (Some k) n bound holds = bound k refl

-- what the line asks for is what the options and queries say
record Says (options : Options) (qs : List Text) (workers ring bits : ℕ) (generate : Option ℕ) (queries : List Text) : Type 0 where
  few : nat_lt 0 (length qs) && nat_le (length qs) 64 ≡ true
  is_workers : unwrap_or options.workers 4 ≡ workers
  is_ring : unwrap_or options.ring 1024 ≡ ring
  is_bits : unwrap_or options.bits 1024 ≡ bits
  is_generate : options.generate ≡ generate
  is_queries : qs ≡ queries

no_replay : (alone : Bool) (a : Asked) → a ≢ replay → cond alone (Some replay) None ≡ Some a → ⊥
no_replay true a other e = other (sym (same_Some replay a e))
no_replay false a other e = cc

with_settings : (alone : Bool) (options : Options) (qs : List Text) (workers ring bits : ℕ) (report : Bool) (generate : Option ℕ) (queries : List Text)
    → settings_with alone options qs ≡ Some (ask workers ring bits report generate queries) → Says options qs workers ring bits generate queries
with_settings true options qs workers ring bits report generate queries e =
    absurd (no_replay (has_none options && nat_eq (length qs) 0) (ask workers ring bits report generate queries) (λ is. cc) e)
with_settings false options qs workers ring bits report generate queries e = by_count (nat_lt 0 (length qs) && nat_le (length qs) 64) refl e
  where
    by_count : (few : Bool) → nat_lt 0 (length qs) && nat_le (length qs) 64 ≡ few
        → cond few (Some
        (ask (unwrap_or options.workers 4) (unwrap_or options.ring 1024) (unwrap_or options.bits 1024) options.report options.generate qs)) None
        ≡ Some (ask workers ring bits report generate queries)
        → Says options qs workers ring bits generate queries
    by_count true few e =
        let same = same_Some (ask _ _ _ _ _ _) (ask workers ring bits report generate queries) e in
        record { few = few; is_workers = cc; is_ring = cc; is_bits = cc; is_generate = cc; is_queries = cc }
    by_count false few e = cc

count_of : (n : ℕ) → nat_lt 0 n && nat_le n 64 ≡ true → (1 ≤ n) × (n ≤ 64)
count_of n e = grind arith

by_options : (given : Option Options) (alone : Bool) (qs : List Text) (workers ring bits : ℕ) (report : Bool) (generate : Option ℕ) (queries : List Text)
    → ((options : Options) → given ≡ Some options → AreGiven options)
    → option_and_then (λ options. settings_with alone options qs) given ≡ Some (ask workers ring bits report generate queries)
    → AreWithinBounds workers ring bits generate queries
by_options None alone qs workers ring bits report generate queries bounds e = cc
by_options (Some options) alone qs workers ring bits report generate queries bounds e =
    let says = with_settings alone options qs workers ring bits report generate queries e in
    let bound = bounds options refl in
    let of_workers = or_else {Holds = λ n. (1 ≤ n) × (n ≤ 64)} options.workers 4 bound.workers (omega arith, omega arith) in
    let of_ring = or_else {Holds = λ n. (1 ≤ n) × (n ≤ 4096)} options.ring 1024 bound.ring (omega arith, omega arith) in
    let of_bits = or_else {Holds = λ n. is_bit_count n ≡ true} options.bits 1024 bound.bits refl in
    let count = count_of (length qs) says.few in
    record {
      some_workers = subst (λ n. 1 ≤ n) says.is_workers of_workers.0;
      few_workers = subst (λ n. n ≤ 64) says.is_workers of_workers.1;
      some_entries = subst (λ n. 1 ≤ n) says.is_ring of_ring.0;
      few_entries = subst (λ n. n ≤ 4096) says.is_ring of_ring.1;
      bit_count = subst (λ n. is_bit_count n ≡ true) says.is_bits of_bits;
      few_messages = λ n is. (bound.generate n (says.is_generate ∙ is)).1;
      some_queries = subst (λ (q : List Text). 1 ≤ length q) says.is_queries count.0;
      few_queries = subst (λ (q : List Text). length q ≤ 64) says.is_queries count.1;
    }

by_rows : (found : Option (List Row)) (workers ring bits : ℕ) (report : Bool) (generate : Option ℕ) (queries : List Text)
    → option_and_then settings_by found ≡ Some (ask workers ring bits report generate queries) → AreWithinBounds workers ring bits generate queries
by_rows None workers ring bits report generate queries e = cc
by_rows (Some rows) workers ring bits report generate queries e =
    by_options (options_in rows) (is_set (codes "replay") rows) (queries_in rows) workers ring bits report generate queries
    (λ options is. given_options (is_set (codes "report") rows)
    (number_given (codes "workers") 1 64 rows) (number_given (codes "ring") 1 4096 rows) (bits_given rows)
    (number_given (codes "generate") 0 100000 rows) options
    (λ n given. number_bounds 1 64 n (first_of (codes "workers") rows) given)
    (λ n given. number_bounds 1 4096 n (first_of (codes "ring") rows) given)
    (λ n given. only_counts (number_given (codes "bits") 64 1024 rows) n given)
    (λ n given. number_bounds 0 100000 n (first_of (codes "generate") rows) given) is) e

pub within_bounds : StaysWithinBounds
within_bounds words workers ring bits report generate queries e = by_rows (given words) workers ring bits report generate queries e
