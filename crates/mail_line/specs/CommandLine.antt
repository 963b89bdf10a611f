-- The command line: what `clap` reads of the words, and then the program's own rules.
use Rattle.std.specs.Prelude.{◌≡◌, ℕ, ◌≤◌, Bool, true, false, not, ◌&&◌, ◌||◌, ◌==◌, List, [], Option, Some, None, is_none, length, codes, nat_eq, nat_lt, nat_le, if◌then◌else◌, option_map, option_and_then, unwrap_or}
use Rattle.std.specs.List.{list_all}
use Rattle.std.specs.Option.{option_map_or}
use Rattle.std.specs.Char.{is_ascii_digit}
use Rattle.std.specs.Str.{bytes_eq}
use Rattle.std.specs.Str.Parse.{digits_value}
use Rattle.clap.specs.Words.{App, Row, Rule, Shape, Text, all_of, first_of, fault_of, matches_of, new_app, new_rule, with_rule}
use Rattle.clap.specs.Simple.{on_top}
use Rattle.clap.specs.declared.builder.action.ArgAction.TheVariants.{Set, Append, SetTrue}
use Rattle.clap.specs.Walk.{is_empty}
use Rattle.mail_line.specs.declared.options.Options.{Options}

-- ---- the command
-- an option with a value, and one without
abbrev pub option_rule : Text → Rule
option_rule name = record (new_rule name) { long = Some name; action = Some Set }

abbrev pub flag_rule : Text → Rule
flag_rule name = record (new_rule name) { long = Some name; action = Some SetTrue }

abbrev pub queries_rule : Rule
queries_rule = record (new_rule (codes "queries")) { action = Some Append }

-- words without the program's name, and no help
abbrev pub bare : App
bare = on_top (λ (s : Shape). record s { no_binary_name = true; disable_help_flag = true }) (new_app (codes "mailring"))

abbrev pub line_app : App
line_app =
    with_rule (with_rule (with_rule (with_rule (with_rule (with_rule (with_rule bare (option_rule (codes "workers"))) (option_rule (codes "ring")))
    (option_rule (codes "bits"))) (flag_rule (codes "report"))) (option_rule (codes "generate"))) (flag_rule (codes "replay"))) queries_rule

-- what `clap` finds, where it refuses nothing
abbrev pub given : List Text → Option (List Row)
given words = if is_empty (fault_of line_app words) then Some (matches_of line_app words) else None

-- ---- the program's own rules
-- 1 to 9 decimal digits
abbrev pub is_number : Text → Bool
is_number text = nat_lt 0 (length text) && (nat_lt (length text) 10 && list_all is_ascii_digit text)

abbrev pub number_in : ℕ → ℕ → Text → Option ℕ
number_in low high text =
    if is_number text && (nat_le low (digits_value 10 text) && nat_le (digits_value 10 text) high) then Some (digits_value 10 text)
    else None

-- the number that an option has, if it is given; none at all where its value is no number within the bounds
abbrev pub number_given : Text → ℕ → ℕ → List Row → Option (Option ℕ)
number_given option low high rows = option_map_or (λ text. option_map (λ n. Some n) (number_in low high text)) (first_of option rows) (Some None)

-- how many bits a signature may have
abbrev pub is_bit_count : ℕ → Bool
is_bit_count bits = bits == 64 || (bits == 128 || (bits == 256 || (bits == 512 || bits == 1024)))

abbrev pub only_bit_counts : Option ℕ → Option (Option ℕ)
only_bit_counts None = Some None
only_bit_counts (Some bits) = if is_bit_count bits then Some (Some bits) else None

abbrev pub bits_given : List Row → Option (Option ℕ)
bits_given rows = option_and_then only_bit_counts (number_given (codes "bits") 64 1024 rows)

-- whether a flag is set
abbrev pub is_set : Text → List Row → Bool
is_set flag rows = option_map_or (λ text. bytes_eq text (codes "true")) (first_of flag rows) false

abbrev pub queries_in : List Row → List Text
queries_in rows = unwrap_or (all_of (codes "queries") rows) []

-- the options that are given, or nothing where one has a value that it can't have
abbrev pub options_in : List Row → Option Options
options_in rows =
    option_and_then (λ workers. option_and_then (λ ring. option_and_then (λ bits. option_map (λ generate. record {
      workers = workers;
      ring = ring;
      bits = bits;
      report = is_set (codes "report") rows;
      generate = generate;
    }) (number_given (codes "generate") 0 100000 rows)) (bits_given rows)) (number_given (codes "ring") 1 4096 rows))
    (number_given (codes "workers") 1 64 rows)

-- no option is given
abbrev pub has_none : Options → Bool
has_none options =
    is_none options.workers && (is_none options.ring && (is_none options.bits && (not options.report && is_none options.generate)))

-- what a line asks for
pub data Asked : Type 0 where
  replay : Asked
  ask : (workers : ℕ) → (ring : ℕ) → (bits : ℕ) → (report : Bool) → (generate : Option ℕ) → (queries : List Text) → Asked

-- A replay stands alone. Else there are 1 to 64 queries, and where no other number is given 4 workers, a ring of 1,024 entries and signatures of
-- 1,024 bits.
abbrev pub settings_with : Bool → Options → List Text → Option Asked
settings_with true options queries = if has_none options && nat_eq (length queries) 0 then Some replay else None
settings_with false options queries =
    if nat_lt 0 (length queries) && nat_le (length queries) 64 then Some
    (ask (unwrap_or options.workers 4) (unwrap_or options.ring 1024) (unwrap_or options.bits 1024) options.report options.generate queries)
    else None

abbrev pub settings_by : List Row → Option Asked
settings_by rows = option_and_then (λ options. settings_with (is_set (codes "replay") rows) options (queries_in rows)) (options_in rows)

-- what the words ask for, or nothing
abbrev pub settings_of : List Text → Option Asked
settings_of words = option_and_then settings_by (given words)

-- ---- bounds
-- 1 to 64 workers, a ring of 1 to 4,096 entries, one of the five numbers of bits, at most 100,000 messages, 1 to 64 queries
pub record AreWithinBounds (workers ring bits : ℕ) (generate : Option ℕ) (queries : List Text) : Type 0 where
  pub some_workers : 1 ≤ workers
  pub few_workers : workers ≤ 64
  pub some_entries : 1 ≤ ring
  pub few_entries : ring ≤ 4096
  pub bit_count : is_bit_count bits ≡ true
  pub few_messages : (count : ℕ) → generate ≡ Some count → count ≤ 100000
  pub some_queries : 1 ≤ length queries
  pub few_queries : length queries ≤ 64

-- what a line asks for is within its bounds
abbrev pub StaysWithinBounds : Type 0
StaysWithinBounds =
    (words : List Text) (workers ring bits : ℕ) (report : Bool) (generate : Option ℕ) (queries : List Text)
    → settings_of words ≡ Some (ask workers ring bits report generate queries) → AreWithinBounds workers ring bits generate queries
