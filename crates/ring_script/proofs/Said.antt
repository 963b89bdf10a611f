-- What the tokens of a line say, by their indexes.
use Rattle.std.proofs.Common.{◌≡◌, ◌⊎◌, inl, inr, ℕ, ◌+◌, ◌-◌, ◌<◌, ◌≤◌, Bool, true, false, List, [], ◌∷◌, ◌++◌, length, take, drop, get_or, Option, Some, codes, refl, sym, ◌∙◌, ap, subst, arith, take_at}
use Rattle.std.proofs.lemmas.List.{take_more, take_all, drop_more, drop_all, get_or_at, length_push}
use Rattle.tx_model.specs.declared.gate.Region.{Region}
use Rattle.tx_model.specs.declared.word.Word.{Word}
use Rattle.ring_runs.specs.declared.event.Act.{Act}
use Rattle.ring_script.specs.Lines.{IsNumber}
use Rattle.ring_script.specs.Grammar.{IsRingLine, IsEventLine, IsRunLine, AreNumbers, AsksFor, may_run}
use Rattle.ring_script.specs.Names.{region_in, word_in}
use Rattle.ring_script.specs.Reading.{HasAt, IsNamedAt, IsAsked, AsksBy}
use Rattle.ring_script.specs.declared.reading.Asked.{Asked}
use Rattle.ring_script.specs.declared.reading.Head.{Head}
use Rattle.ring_script.specs.declared.reading.Request.{Request}
use Rattle.ring_script.proofs.Tokens.{named_first, last_is_number}
use Rattle.ring_script.proofs.Asking.{numbers_for, asks_named}

-- ---- regions and words
pub region_is : (numbers : List ℕ) (region : Region) → region_in numbers ≡ Some region → numbers ≡ region.gate ∷ region.base ∷ region.len ∷ []
region_is [] region is = absurd (cc (is))
region_is (a ∷ []) region is = absurd (cc (is))
region_is (a ∷ b ∷ []) region is = absurd (cc (is))
region_is (a ∷ b ∷ c ∷ []) region is =
    let read : Region = record { gate = a; base = b; len = c } in
    let same : read ≡ region = cc (is) in
    ap (λ (r : Region). r.gate ∷ r.base ∷ r.len ∷ []) same
region_is (a ∷ b ∷ c ∷ d ∷ numbers) region is = absurd (cc (is))

pub word_is : (numbers : List ℕ) (word : Word) → word_in numbers ≡ Some word → numbers ≡ word.addr ∷ word.value ∷ []
word_is [] word is = absurd (cc (is))
word_is (a ∷ []) word is = absurd (cc (is))
word_is (a ∷ b ∷ []) word is =
    let read : Word = record { addr = a; value = b } in
    let same : read ≡ word = cc (is) in
    ap (λ (w : Word). w.addr ∷ w.value ∷ []) same
word_is (a ∷ b ∷ c ∷ numbers) word is = absurd (cc (is))

-- ---- events
pub event_first : (tokens : List (List ℕ)) (who : ℕ) (act : Act) → IsEventLine tokens who act
    → (0 < length tokens) × IsNumber (get_or tokens 0 []) who × AsksFor (drop 1 tokens) act
event_first tokens who act line =
    let whole = line.whole in (
      omega (arith, ap length whole),
      subst (λ t. IsNumber t who) (sym (ap (λ ts. get_or ts 0 []) whole)) line.number,
      subst (λ ts. AsksFor ts act) (sym (ap (drop 1) whole)) line.asks,
    )

pub first_event : (tokens : List (List ℕ)) (who : ℕ) (act : Act) → 0 < length tokens → IsNumber (get_or tokens 0 []) who → AsksFor (drop 1 tokens) act
    → IsEventLine tokens who act
first_event [] who act some number asks = absurd (omega (arith, some))
first_event (token ∷ tokens) who act some number asks = record { caller = token; asked = tokens; whole = refl; number = number; asks = asks }

pub run_last : (tokens : List (List ℕ)) (who : ℕ) (act : Act) → IsRunLine tokens who act
    → HasAt tokens (length tokens - 1) (codes "run") × IsEventLine (take (length tokens - 1) tokens) who act
run_last tokens who act line =
    let whole = line.whole in
    let before = line.before in
    let counted : length tokens ≡ length before + 1 = ap length whole ∙ length_push before (codes "run") in
    let at : length before ≡ length tokens - 1 = omega (arith, counted) in
    let some : length tokens - 1 < length tokens = omega (arith, counted) in
    let last : get_or tokens (length tokens - 1) [] ≡ codes "run" =
    ap (λ ts. get_or ts (length tokens - 1) []) whole ∙ get_or_at before (codes "run") [] [] (length tokens - 1) at in
    let front : take (length tokens - 1) tokens ≡ before = ap (take (length tokens - 1)) whole ∙ take_at before (codes "run" ∷ []) (length tokens - 1) at in
    ((some, last), subst (λ ts. IsEventLine ts who act) (sym front) line.request)

pub last_run : (tokens : List (List ℕ)) (who : ℕ) (act : Act) → HasAt tokens (length tokens - 1) (codes "run")
    → IsEventLine (take (length tokens - 1) tokens) who act → may_run act ≡ true → IsRunLine tokens who act
last_run tokens who act at request may =
    let n = length tokens - 1 in
    let more = take_more tokens n [] at.0 in
    let end : length tokens ≤ n + 1 = omega (arith, at.0) in
    let all : take (n + 1) tokens ≡ tokens = take_all (n + 1) tokens end in
    let whole : tokens ≡ take n tokens ++ codes "run" ∷ [] = sym all ∙ more ∙ ap (λ t. take n tokens ++ t ∷ []) at.1 in
    record { before = take n tokens; whole = whole; request = request; may = may }

-- a name is no number
run_is_none : (number : ℕ) → IsNumber (codes "run") number → ⊥
run_is_none number is = let first = is.digits 0 0 (omega arith) in omega (arith, first.1)

-- a line with a request that is run is no line with one event
pub run_apart : (tokens : List (List ℕ)) (who other : ℕ) (act also : Act) → IsRunLine tokens who act → IsEventLine tokens other also → ⊥
run_apart tokens who other act also run line =
    let request = run.request in
    let act' = asks_named request.asked act request.asks in
    let given = act'.line.given in
    let before : run.before ≡ request.caller ∷ (_ ∷ given) = request.whole ∙ ap (λ ts. request.caller ∷ ts) act'.line.whole in
    let behind : drop 1 tokens ≡ _ ∷ (given ++ codes "run" ∷ []) = ap (drop 1) (run.whole ∙ ap (λ ts. ts ++ codes "run" ∷ []) before) in
    let event = event_first tokens other also line in
    let also' = asks_named (drop 1 tokens) also event.2 in
    let first = named_first (drop 1 tokens) _ (numbers_for also) also'.line in
    let are : AreNumbers (given ++ codes "run" ∷ []) (numbers_for also) = subst (λ ts. AreNumbers (drop 1 ts) (numbers_for also)) behind first.2 in
    let last = last_is_number given (codes "run") (numbers_for also) are in
    run_is_none last.0 last.1

asked_by : (b : Bool) (tokens : List (List ℕ)) (asked : Asked) → AsksBy b tokens asked
    → ((b ≡ true) × IsRunLine tokens asked.request.who asked.request.act) ⊎ ((b ≡ false) × IsEventLine tokens asked.request.who asked.request.act)
asked_by true tokens asked is = inl (refl, is)
asked_by false tokens asked is = inr (refl, is)

pub asked_cases : (tokens : List (List ℕ)) (asked : Asked) → IsAsked tokens asked
    → ((asked.runs ≡ true) × IsRunLine tokens asked.request.who asked.request.act)
    ⊎ ((asked.runs ≡ false) × IsEventLine tokens asked.request.who asked.request.act)
asked_cases tokens asked is = asked_by asked.runs tokens asked is

-- ---- the first line
pub record HasHead (tokens : List (List ℕ)) (ring bits words callers life : ℕ) : Type 0 where
  pub ring_at : IsNamedAt tokens 0 (codes "ring") ring
  pub bits_at : IsNamedAt tokens 2 (codes "bits") bits
  pub words_at : IsNamedAt tokens 4 (codes "words") words
  pub callers_at : IsNamedAt tokens 6 (codes "callers") callers
  pub life_at : IsNamedAt tokens 8 (codes "life") life

pub head_has : (tokens : List (List ℕ)) (ring bits words callers life : ℕ) → IsRingLine tokens ring bits words callers life
    → (length tokens ≡ 10) × HasHead tokens ring bits words callers life
head_has tokens ring bits words callers life line =
    let w = line.whole in
    let n = line.numbers in
    let ten : length tokens ≡ 10 = ap length w in
    let all : List (List ℕ) =
    codes "ring" ∷ line.r ∷ codes "bits" ∷ line.b ∷ codes "words" ∷ line.n ∷ codes "callers" ∷ line.p ∷ codes "life" ∷ line.l ∷ [] in
    let at : (k : ℕ) → get_or tokens k [] ≡ get_or all k [] =
    λ k. ap (λ ts. get_or ts k []) w in (
      ten,
      record {
        ring_at = record { named = (omega (arith, ten), at 0); numbered = subst (λ t. IsNumber t ring) (sym (at 1)) n.0 };
        bits_at = record { named = (omega (arith, ten), at 2); numbered = subst (λ t. IsNumber t bits) (sym (at 3)) n.1.0 };
        words_at = record { named = (omega (arith, ten), at 4); numbered = subst (λ t. IsNumber t words) (sym (at 5)) n.1.1.0 };
        callers_at = record { named = (omega (arith, ten), at 6); numbered = subst (λ t. IsNumber t callers) (sym (at 7)) n.1.1.1.0 };
        life_at = record { named = (omega (arith, ten), at 8); numbered = subst (λ t. IsNumber t life) (sym (at 9)) n.1.1.1.1.0 };
      },
    )

pub has_head : (tokens : List (List ℕ)) (ring bits words callers life : ℕ) → length tokens ≡ 10 → HasHead tokens ring bits words callers life
    → IsRingLine tokens ring bits words callers life
has_head tokens ring bits words callers life ten has =
    let g : ℕ → List ℕ = λ k. get_or tokens k [] in
    let e10 : drop 10 tokens ≡ [] = drop_all 10 tokens (omega (arith, ten)) in
    let e9 : drop 9 tokens ≡ g 9 ∷ [] = drop_more tokens 9 [] (omega (arith, ten)) ∙ ap (λ l. g 9 ∷ l) e10 in
    let e8 : drop 8 tokens ≡ codes "life" ∷ g 9 ∷ [] =
    drop_more tokens 8 [] (omega (arith, ten)) ∙ ap (λ l. g 8 ∷ l) e9 ∙ ap (λ t. t ∷ g 9 ∷ []) has.life_at.named.1 in
    let e7 : drop 7 tokens ≡ g 7 ∷ codes "life" ∷ g 9 ∷ [] = drop_more tokens 7 [] (omega (arith, ten)) ∙ ap (λ l. g 7 ∷ l) e8 in
    let e6 : drop 6 tokens ≡ codes "callers" ∷ g 7 ∷ codes "life" ∷ g 9 ∷ [] =
    drop_more tokens 6 [] (omega (arith, ten)) ∙ ap (λ l. g 6 ∷ l) e7 ∙ ap (λ t. t ∷ g 7 ∷ codes "life" ∷ g 9 ∷ []) has.callers_at.named.1 in
    let e5 : drop 5 tokens ≡ g 5 ∷ codes "callers" ∷ g 7 ∷ codes "life" ∷ g 9 ∷ [] = drop_more tokens 5 [] (omega (arith, ten)) ∙ ap (λ l. g 5 ∷ l) e6 in
    let e4 : drop 4 tokens ≡ codes "words" ∷ g 5 ∷ codes "callers" ∷ g 7 ∷ codes "life" ∷ g 9 ∷ [] =
    drop_more tokens 4 [] (omega (arith, ten)) ∙ ap (λ l. g 4 ∷ l) e5
    ∙ ap (λ t. t ∷ g 5 ∷ codes "callers" ∷ g 7 ∷ codes "life" ∷ g 9 ∷ []) has.words_at.named.1 in
    let e3 : drop 3 tokens ≡ g 3 ∷ codes "words" ∷ g 5 ∷ codes "callers" ∷ g 7 ∷ codes "life" ∷ g 9 ∷ [] =
    drop_more tokens 3 [] (omega (arith, ten)) ∙ ap (λ l. g 3 ∷ l) e4 in
    let e2 : drop 2 tokens ≡ codes "bits" ∷ g 3 ∷ codes "words" ∷ g 5 ∷ codes "callers" ∷ g 7 ∷ codes "life" ∷ g 9 ∷ [] =
    drop_more tokens 2 [] (omega (arith, ten)) ∙ ap (λ l. g 2 ∷ l) e3
    ∙ ap (λ t. t ∷ g 3 ∷ codes "words" ∷ g 5 ∷ codes "callers" ∷ g 7 ∷ codes "life" ∷ g 9 ∷ []) has.bits_at.named.1 in
    let e1 : drop 1 tokens ≡ g 1 ∷ codes "bits" ∷ g 3 ∷ codes "words" ∷ g 5 ∷ codes "callers" ∷ g 7 ∷ codes "life" ∷ g 9 ∷ [] =
    drop_more tokens 1 [] (omega (arith, ten)) ∙ ap (λ l. g 1 ∷ l) e2 in
    let e0 : tokens ≡ codes "ring" ∷ g 1 ∷ codes "bits" ∷ g 3 ∷ codes "words" ∷ g 5 ∷ codes "callers" ∷ g 7 ∷ codes "life" ∷ g 9 ∷ [] =
    drop_more tokens 0 [] (omega (arith, ten)) ∙ ap (λ l. g 0 ∷ l) e1
    ∙ ap (λ t. t ∷ g 1 ∷ codes "bits" ∷ g 3 ∷ codes "words" ∷ g 5 ∷ codes "callers" ∷ g 7 ∷ codes "life" ∷ g 9 ∷ []) has.ring_at.named.1 in
    record {
      r = g 1;
      b = g 3;
      n = g 5;
      p = g 7;
      l = g 9;
      whole = e0;
      numbers = (has.ring_at.numbered, (has.bits_at.numbered, (has.words_at.numbered, (has.callers_at.numbered, (has.life_at.numbered, tt)))));
    }

-- ---- what was read, part by part
pub some_same : {A : Type 0} (a b : A) → Some a ≡ Some b → a ≡ b
some_same a b is = cc (is)

pub some_request : (who : ℕ) (act : Act) (request : Request) → who ≡ request.who → act ≡ request.act
    → Some (record { who = who; act = act }) ≡ Some request
some_request who act request same_who same_act =
    let at : ℕ → Act → Option Request = λ w a. Some (record { who = w; act = a }) in
    ap (λ w. at w act) same_who ∙ ap (at request.who) same_act

pub some_asked : (request : Request) (runs : Bool) (asked : Asked) → request ≡ asked.request → runs ≡ asked.runs
    → Some (record { request = request; runs = runs }) ≡ Some asked
some_asked request runs asked same_request same_runs =
    let at : Request → Bool → Option Asked = λ r b. Some (record { request = r; runs = b }) in
    ap (λ r. at r runs) same_request ∙ ap (at asked.request) same_runs

pub some_head : (ring bits words callers life : ℕ) (head : Head) → ring ≡ head.ring → bits ≡ head.bits → words ≡ head.words → callers ≡ head.callers
    → life ≡ head.life → Some (record { ring = ring; bits = bits; words = words; callers = callers; life = life }) ≡ Some head
some_head ring bits words callers life head same_ring same_bits same_words same_callers same_life =
    let at : ℕ → ℕ → ℕ → ℕ → ℕ → Option Head = λ r b n p l. Some (record { ring = r; bits = b; words = n; callers = p; life = l }) in
    ap (λ r. at r bits words callers life) same_ring ∙ ap (λ b. at head.ring b words callers life) same_bits
    ∙ ap (λ n. at head.ring head.bits n callers life) same_words ∙ ap (λ p. at head.ring head.bits head.words p life) same_callers
    ∙ ap (at head.ring head.bits head.words head.callers) same_life
