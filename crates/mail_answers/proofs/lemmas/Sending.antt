-- What a sink was sent, one piece after the other.
use Rattle.std.proofs.Common.{◌≡◌, ℕ, ◌+◌, ◌<◌, ◌≤◌, ◌⊎◌, min, inl, inr, Bool, true, false, List, [], ◌∷◌, ◌++◌, length, take, drop, refl, sym, ap, ◌∙◌, subst, arith, Result, take-add}
use Rattle.std.proofs.lemmas.Bool.{true≢false, cases_lt}
use Rattle.std.proofs.KnownBytes.{Appends-nil, Appends-trans}
use Rattle.std.specs.List.{concat}
use Rattle.std.specs.Io.KnownBytes.{Appends}
use Rattle.std.proofs.lemmas.List.{take_at, drop_at, take_all, take-append-le, append-nil}
use Rattle.std.proofs.lemmas.List.Folds.{concat-append}
use Rattle.mail_io.specs.Writing.{Offers}
use Rattle.mail_io.specs.Writing.Offers.{all_taken, next_piece, some_taken, call_refused}
use Rattle.mail_io.specs.declared.errors.PutError.{PutError}
use Rattle.mail_answers.specs.Sending.{Output, SendsAll, SendsPart, SendsSome}

module _ {K : Type 0} (offered : K → List ℕ → Result ℕ PutError → K → Type 0) where
  -- pieces that were taken, and then more
  pub offers-more : (a b c : K) (pieces more : List (List ℕ)) (r s : Bool) → r ≡ false → Offers offered a pieces r b → Offers offered b more s c
      → Offers offered a (pieces ++ more) s c
  offers-more _ _ c _ more _ s none (all_taken sink) rest = rest
  offers-more _ _ c _ more _ s none (next_piece sink end pieces r offers) rest =
      next_piece sink c (pieces ++ more) s (offers-more sink end c pieces more r s none offers rest)
  offers-more _ _ c _ more _ s none (some_taken sink next end piece pieces count r some call offers) rest =
      some_taken sink next c piece (pieces ++ more) count s some call (offers-more next end c (drop count piece ∷ pieces) more r s none offers rest)
  offers-more _ _ c _ more _ s none (call_refused sink end piece pieces error some call) rest = absurd (true≢false none)

  -- a call was refused, so the pieces behind it don't matter
  pub offers-refused : (a b : K) (pieces more : List (List ℕ)) (r : Bool) → r ≡ true → Offers offered a pieces r b → Offers offered a (pieces ++ more) true b
  offers-refused _ _ _ more _ refused (all_taken sink) = absurd (true≢false (sym refused))
  offers-refused _ _ _ more _ refused (next_piece sink end pieces r offers) =
      next_piece sink end (pieces ++ more) true (offers-refused sink end pieces more r refused offers)
  offers-refused _ _ _ more _ refused (some_taken sink next end piece pieces count r some call offers) =
      some_taken sink next end piece (pieces ++ more) count true some call (offers-refused next end (drop count piece ∷ pieces) more r refused offers)
  offers-refused _ _ _ more _ refused (call_refused sink end piece pieces error some call) = call_refused sink end piece (pieces ++ more) error some call

  -- nothing was sent so far
  pub sends_none : (a : Output K) → SendsAll offered a a []
  sends_none a = record { grown = Appends-nil a.held; calls = all_taken a.sink; no_fault = refl; no_want = refl }

  -- one more piece was sent
  pub sends_more : (a b c : Output K) (pieces : List (List ℕ)) (piece : List ℕ) → SendsAll offered a b pieces → Appends b.held c.held piece
      → Offers offered b.sink (piece ∷ []) false c.sink → c.faults ≡ b.faults → c.wants ≡ b.wants → SendsAll offered a c (pieces ++ piece ∷ [])
  sends_more a b c pieces piece sent grown calls no_fault no_want =
      let bytes : concat (pieces ++ piece ∷ []) ≡ concat pieces ++ piece =
      concat-append pieces (piece ∷ []) ∙ ap (λ l. concat pieces ++ l) (append-nil piece) in
      record {
        grown = subst (λ (x : List ℕ). Appends a.held c.held x) (sym bytes) (Appends-trans a.held b.held c.held (concat pieces) piece sent.grown grown);
        calls = offers-more a.sink b.sink c.sink pieces (piece ∷ []) false false refl sent.calls calls;
        no_fault = no_fault ∙ sent.no_fault;
        no_want = no_want ∙ sent.no_want;
      }

  -- the pieces so far are some of all
  abbrev pub sends_some : (a b : Output K) (pieces rest : List (List ℕ)) → SendsAll offered a b pieces → SendsSome offered a b (pieces ++ rest)
  sends_some a b pieces rest sent = record {
    sent = length (concat pieces);
    grown = subst (λ (x : List ℕ). Appends a.held b.held x)
        (sym (ap (take (length (concat pieces))) (concat-append pieces rest) ∙ take_at (concat pieces) (concat rest) (length (concat pieces)) refl)) sent.grown;
    whole = length pieces;
    refused = false;
    calls = subst (λ (x : List (List ℕ)). Offers offered a.sink x false b.sink) (sym (take_at pieces rest (length pieces) refl)) sent.calls;
  }

  -- the next piece was cut short
  abbrev pub sends_part : (a b c : Output K) (pieces rest : List (List ℕ)) (piece : List ℕ) (sent : ℕ) → SendsAll offered a b pieces → sent ≤ length piece
      → Appends b.held c.held (take sent piece) → Offers offered b.sink (piece ∷ []) true c.sink → SendsPart offered a c (pieces ++ piece ∷ rest)
  sends_part a b c pieces rest piece sent before short grown calls =
      let all : concat (pieces ++ piece ∷ rest) ≡ concat pieces ++ (piece ++ concat rest) = concat-append pieces (piece ∷ rest) in
      let bytes : take (length (concat pieces) + sent) (concat (pieces ++ piece ∷ rest)) ≡ concat pieces ++ take sent piece =
      ap (take (length (concat pieces) + sent)) all
      ∙ take-add (length (concat pieces)) sent (concat pieces ++ (piece ++ concat rest))
      ∙ ap (λ l. l ++ take sent (drop (length (concat pieces)) (concat pieces ++ (piece ++ concat rest))))
      (take_at (concat pieces) (piece ++ concat rest) (length (concat pieces)) refl)
      ∙ ap (λ l. concat pieces ++ take sent l) (drop_at (concat pieces) (piece ++ concat rest) (length (concat pieces)) refl)
      ∙ ap (λ l. concat pieces ++ l) (take-append-le sent piece (concat rest) short) in
      record {
        sent = length (concat pieces) + sent;
        grown = subst (λ (x : List ℕ). Appends a.held c.held x) (sym bytes)
            (Appends-trans a.held b.held c.held (concat pieces) (take sent piece) before.grown grown);
        calls = offers-more a.sink b.sink c.sink pieces (piece ∷ rest) false true refl before.calls
            (offers-refused b.sink c.sink (piece ∷ []) rest true refl calls);
      }

  -- which are some of all
  abbrev pub some_of_part : (a b : Output K) (pieces : List (List ℕ)) → SendsPart offered a b pieces → SendsSome offered a b pieces
  some_of_part a b pieces part = record {
    sent = part.sent;
    grown = part.grown;
    whole = length pieces;
    refused = true;
    calls = subst (λ (x : List (List ℕ)). Offers offered a.sink x true b.sink) (sym (take_all (length pieces) pieces (omega arith))) part.calls;
  }

  -- ---- pieces, and then more
  -- a beginning of a list, of one that goes on
  take_least : {X : Type 0} (n : ℕ) (xs ys : List X) → take n xs ≡ take (min n (length xs)) (xs ++ ys)
  take_least n xs ys = by_length (cases_lt (length xs) n)
    where
      by_length : (length xs < n) ⊎ (n ≤ length xs) → take n xs ≡ take (min n (length xs)) (xs ++ ys)
      by_length (inr within) =
          let least : min n (length xs) ≡ n = omega (arith, within) in
          sym (take-append-le n xs ys within) ∙ ap (λ k. take k (xs ++ ys)) (sym least)
      by_length (inl past) =
          let least : min n (length xs) ≡ length xs = omega (arith, past) in
          take_all n xs (omega (arith, past)) ∙ sym (take_at xs ys (length xs) refl) ∙ ap (λ k. take k (xs ++ ys)) (sym least)

  bytes_more : (sent : ℕ) (pieces rest : List (List ℕ)) → take sent (concat pieces) ≡ take (min sent (length (concat pieces))) (concat (pieces ++ rest))
  bytes_more sent pieces rest =
      take_least sent (concat pieces) (concat rest) ∙ ap (take (min sent (length (concat pieces)))) (sym (concat-append pieces rest))

  -- a beginning of some pieces is one of more
  pub part_more : (a b : Output K) (pieces rest : List (List ℕ)) → SendsPart offered a b pieces → SendsPart offered a b (pieces ++ rest)
  part_more a b pieces rest part = record {
    sent = min part.sent (length (concat pieces));
    grown = subst (λ (x : List ℕ). Appends a.held b.held x) (bytes_more part.sent pieces rest) part.grown;
    calls = offers-refused a.sink b.sink pieces rest true refl part.calls;
  }

  pub some_more : (a b : Output K) (pieces rest : List (List ℕ)) → SendsSome offered a b pieces → SendsSome offered a b (pieces ++ rest)
  some_more a b pieces rest some = record {
    sent = min some.sent (length (concat pieces));
    grown = subst (λ (x : List ℕ). Appends a.held b.held x) (bytes_more some.sent pieces rest) some.grown;
    whole = min some.whole (length pieces);
    refused = some.refused;
    calls = subst (λ (x : List (List ℕ)). Offers offered a.sink x some.refused b.sink) (take_least some.whole pieces rest) some.calls;
  }

  -- all pieces were sent, and then others
  pub all_then : (a b c : Output K) (pieces more : List (List ℕ)) → SendsAll offered a b pieces → SendsAll offered b c more
      → SendsAll offered a c (pieces ++ more)
  all_then a b c pieces more first then = record {
    grown = subst (λ (x : List ℕ). Appends a.held c.held x) (sym (concat-append pieces more))
        (Appends-trans a.held b.held c.held (concat pieces) (concat more) first.grown then.grown);
    calls = offers-more a.sink b.sink c.sink pieces more false false refl first.calls then.calls;
    no_fault = then.no_fault ∙ first.no_fault;
    no_want = then.no_want ∙ first.no_want;
  }

  bytes_then : (sent : ℕ) (pieces more : List (List ℕ)) → concat pieces ++ take sent (concat more) ≡ take (length (concat pieces) + sent) (concat
      (pieces ++ more))
  bytes_then sent pieces more =
      let front = concat pieces in
      let behind = concat more in
      sym (ap (take (length front + sent)) (concat-append pieces more)
      ∙ take-add (length front) sent (front ++ behind)
      ∙ ap (λ l. l ++ take sent (drop (length front) (front ++ behind))) (take_at front behind (length front) refl)
      ∙ ap (λ l. front ++ take sent l) (drop_at front behind (length front) refl))

  -- and then some of others
  pub all_then_part : (a b c : Output K) (pieces more : List (List ℕ)) → SendsAll offered a b pieces → SendsPart offered b c more
      → SendsPart offered a c (pieces ++ more)
  all_then_part a b c pieces more first part = record {
    sent = length (concat pieces) + part.sent;
    grown = subst (λ (x : List ℕ). Appends a.held c.held x) (bytes_then part.sent pieces more)
        (Appends-trans a.held b.held c.held (concat pieces) (take part.sent (concat more)) first.grown part.grown);
    calls = offers-more a.sink b.sink c.sink pieces more false true refl first.calls part.calls;
  }

  pub all_then_some : (a b c : Output K) (pieces more : List (List ℕ)) → SendsAll offered a b pieces → SendsSome offered b c more
      → SendsSome offered a c (pieces ++ more)
  all_then_some a b c pieces more first some = record {
    sent = length (concat pieces) + some.sent;
    grown = subst (λ (x : List ℕ). Appends a.held c.held x) (bytes_then some.sent pieces more)
        (Appends-trans a.held b.held c.held (concat pieces) (take some.sent (concat more)) first.grown some.grown);
    whole = length pieces + some.whole;
    refused = some.refused;
    calls = subst (λ (x : List (List ℕ)). Offers offered a.sink x some.refused c.sink)
        (sym (take-add (length pieces) some.whole (pieces ++ more)
        ∙ ap (λ l. l ++ take some.whole (drop (length pieces) (pieces ++ more))) (take_at pieces more (length pieces) refl)
        ∙ ap (λ l. pieces ++ take some.whole l) (drop_at pieces more (length pieces) refl)))
        (offers-more a.sink b.sink c.sink pieces (take some.whole more) false some.refused refl first.calls some.calls);
  }
