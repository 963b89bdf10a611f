-- The worked examples of scripts.
use Rattle.std.proofs.Common.{◌≡◌, ℕ, ◌-◌, ◌≤◌, [], ◌∷◌, Contains, refl, ap, arith, inl, inr}
use Rattle.std.specs.Prelude.{codes}
use Rattle.std.proofs.lemmas.List.Elements.{All-nil, All-cons}
use Rattle.tx_model.specs.declared.word.Word.{Word}
use Rattle.ring_worlds.proofs.lemmas.Members.{contains_none, contains_cases}
use Rattle.ring_runs.specs.declared.event.Act.TheVariants.{Begin}
use Rattle.ring_script.specs.Lines.{IsNumber}
use Rattle.ring_script.specs.Script.{MayOpenWith}
use Rattle.ring_script.specs.Examples.{LinesExample, TokensExample, NumberExample, NoStepExample, ScriptExample}

pub lines_example : LinesExample
lines_example = refl

pub tokens_example : TokensExample
tokens_example = (refl, refl)

-- ---- numbers
abbrev IsDigit : ℕ → Type 0
IsDigit digit = (48 ≤ digit) × (digit ≤ 57)

one_digit : (d : ℕ) → 48 ≤ d → d ≤ 57 → IsNumber (d ∷ []) (d - 48)
one_digit d low high = record {
  some = omega arith;
  most = omega arith;
  digits = All-cons IsDigit d [] (low, high) (All-nil IsDigit);
  value = omega arith;
  fits = omega (arith, high);
}

sixty_four : IsNumber (codes "64") 64
sixty_four = record {
  some = omega arith;
  most = omega arith;
  digits = All-cons IsDigit 54 (52 ∷ []) (omega arith, omega arith) (All-cons IsDigit 52 [] (omega arith, omega arith) (All-nil IsDigit));
  value = refl;
  fits = omega arith;
}

seven : IsNumber (codes "007") 7
seven = record {
  some = omega arith;
  most = omega arith;
  digits = All-cons IsDigit 48 (48 ∷ 55 ∷ []) (omega arith, omega arith) (All-cons IsDigit 48 (55 ∷ []) (omega arith, omega arith)
      (All-cons IsDigit 55 [] (omega arith, omega arith) (All-nil IsDigit)));
  value = refl;
  fits = omega arith;
}

pub number_example : NumberExample
number_example = (
  seven,
  λ number is.
      let value : 18446744073709551616 ≡ number = is.value in
      omega (arith, value, is.fits),
)

pub no_step : NoStepExample
no_step (named, some, most) = omega (arith, some)

-- ---- a script
opens_with : (word : Word) → Contains (record { addr = 1; value = 7 } ∷ []) word → MayOpenWith [] 8 word
opens_with word among =
    elim (contains_cases (record { addr = 1; value = 7 }) [] word among) [
      | inl same ↦
          let at : 1 ≡ word.addr = ap (λ (w : Word). w.addr) same in
          record { within = omega (arith, at); gate = λ region known. absurd (contains_none region known) }
      | inr other ↦ absurd (contains_none word other)
    ]

pub script_example : ScriptExample
script_example = record {
  head = record { number = 1; content = codes "ring 4 bits 64 words 8 callers 1 life 3" };
  region_lines = [];
  word_lines = record { number = 2; content = codes "word 1 7" } ∷ [];
  event_lines = record { number = 3; content = codes "0 begin run" } ∷ [];
  whole = refl;
  ring = record {
    r = codes "4";
    b = codes "64";
    n = codes "8";
    p = codes "1";
    l = codes "3";
    whole = refl;
    numbers = (
      one_digit 52 (omega arith) (omega arith),
      (
        sixty_four,
        (
          one_digit 56 (omega arith) (omega arith),
          (
            one_digit 49 (omega arith) (omega arith),
            (one_digit 51 (omega arith) (omega arith), tt),
          ),
        ),
      ),
    );
  };
  ring_length = (omega arith, omega arith);
  signature = refl;
  memory = (omega arith, omega arith);
  callers = (omega arith, omega arith);
  life = (omega arith, omega arith);
  regions = tt;
  few_regions = omega arith;
  well_formed = record {
    lie_in = λ region known. absurd (contains_none region known);
    lie_apart = λ i j before below. absurd (omega (arith, below));
    gates_apart = λ i j before below. absurd (omega (arith, below));
    gates_outside = λ region other known. absurd (contains_none region known);
    gates_opening = λ region known. absurd (contains_none region known);
  };
  words = record { addr = 1; value = 7 } ∷ [];
  opens = (
    record {
      given = codes "1" ∷ codes "7" ∷ [];
      whole = refl;
      are = (one_digit 49 (omega arith) (omega arith), (one_digit 55 (omega arith) (omega arith), tt));
    },
    tt,
  );
  may_open = opens_with;
  first = refl;
  happens = (
    [],
    record {
      who = 0;
      act = Begin;
      asks = inr (
        record {
          before = codes "0" ∷ codes "begin" ∷ [];
          whole = refl;
          request = record {
            caller = codes "0";
            asked = codes "begin" ∷ [];
            whole = refl;
            number = one_digit 48 (omega arith) (omega arith);
            asks = record { given = []; whole = refl; are = tt };
          };
          may = refl;
        },
        refl,
      );
    },
    refl,
  );
  few_events = omega arith;
}
