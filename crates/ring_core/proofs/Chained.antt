-- The chains of a write set, as it is searched, grows and is emptied.
use Rattle.std.proofs.Common.{◌≡◌, ◌≢◌, ℕ, ◌+◌, ◌-◌, ◌<◌, ◌≤◌, ◌⊎◌, inl, inr, Option, Some, None, List, [], ◌∷◌, ◌++◌, length, get_or, set, replicate, refl, sym, ◌∙◌, ap, subst, arith}
use Rattle.std.proofs.lemmas.Bool.{cases_lt, cases_eq}
use Rattle.std.proofs.lemmas.List.{get_or_default, length-set, length-map, length-append, length-replicate, get_or-map, get_or-replicate, get_or_append_left, get_or-append_right, get_or-set_same, get_or-set_other, map-append}
use Rattle.tx_model.specs.declared.word.Word.{Word}
use Rattle.tx_model.specs.Words.{no_word, word_at, addresses, index_of, put_at, AreApart}
use Rattle.tx_model.specs.WordLaws.{PutApart, PutAddresses}
use Rattle.ring_sig.specs.Signature.{place_of}
use Rattle.ring_core.specs.Chains.{place_at, IsNewest, IsChained, IsIndexed}
use Rattle.tx_model.proofs.lemmas.WordIndexes.{index_is, index_is_none, has_address_found}

addr_of : (writes : List Word) (index : ℕ) → index < length writes → get_or (addresses writes) index 0 ≡ (word_at writes index).addr
addr_of writes index below = get_or-map (λ (w : Word). w.addr) writes index no_word 0 below

pub place_here : (writes : List Word) (index : ℕ) (write : Word) → index < length writes → write ≡ get_or writes index write
    → place_of write.addr 512 ≡ place_at (addresses writes) index
place_here writes index write below is =
    ap (λ (w : Word). place_of w.addr 512) (is ∙ get_or_default writes index write no_word below) ∙ ap (λ a. place_of a 512) (sym (addr_of writes index below))

-- ---- a search
-- none of the writes from `number` on is to this address, and the one before has its place
pub record IsSought (writes : List Word) (addr number : ℕ) : Type 0 where
  pub within : number ≤ length writes
  pub itself : 0 < number → place_at (addresses writes) (number - 1) ≡ place_of addr 512
  pub others : (index : ℕ) → number ≤ index → index < length writes → (word_at writes index).addr ≢ addr

module _ (writes : List Word) (newest older : List ℕ) (is : IsIndexed writes newest older) (addr : ℕ) where
  elsewhere : (index place : ℕ) → index < length writes → place ≡ place_of addr 512 → place_at (addresses writes) index ≢ place
      → (word_at writes index).addr ≢ addr
  elsewhere index place below at apart same =
      apart (ap (λ a. place_of a 512) (addr_of writes index below ∙ same) ∙ sym at)

  pub search_begins : place_of addr 512 < 512 → IsSought writes addr (get_or newest (place_of addr 512) 0)
  search_begins small =
      let head = is.chained.heads (place_of addr 512) small in
      let long : length (addresses writes) ≡ length writes = length-map writes (λ (w : Word). w.addr) in
      record {
        within = subst (λ n. get_or newest (place_of addr 512) 0 ≤ n) long head.within;
        itself = head.itself;
        others = λ index from below. elsewhere index _ below refl (head.others index from (omega (arith, long, below)));
      }

  module _ (number : ℕ) (sought : IsSought writes addr number) (some : 0 < number) where
    pub search_found : (word_at writes (number - 1)).addr ≡ addr → index_of writes addr ≡ Some (number - 1)
    search_found same =
        let within = sought.within in
        index_is writes addr (number - 1) (omega arith) same
        (λ index before again. is.apart index (number - 1) before (omega arith) (again ∙ sym same))

    pub search_goes_on : (word_at writes (number - 1)).addr ≢ addr → IsSought writes addr (get_or older (number - 1) 0)
    search_goes_on other =
        let long : length (addresses writes) ≡ length writes = length-map writes (λ (w : Word). w.addr) in
        let within = sought.within in
        let next = is.chained.nexts (number - 1) (omega arith) in
        record {
          within = let less = next.within in omega arith;
          itself = λ more. next.itself more ∙ sought.itself some;
          others = λ index from below. elim (cases_lt index (number - 1)) [
            | inl before ↦ elsewhere index _ below (sought.itself some) (next.others index from before)
            | inr after ↦ elim (cases_lt index number) [
              | inl now ↦ let e : index ≡ number - 1 = omega arith in λ same. other (ap (λ k. (word_at writes k).addr) (sym e) ∙ same)
              | inr past ↦ sought.others index past below
            ]
          ];
        }

    pub search_falls : get_or older (number - 1) 0 < number
    search_falls =
        let long : length (addresses writes) ≡ length writes = length-map writes (λ (w : Word). w.addr) in
        let within = sought.within in
        let less = (is.chained.nexts (number - 1) (omega arith)).within in
        omega arith

pub search_ends : (writes : List Word) (addr : ℕ) → IsSought writes addr 0 → index_of writes addr ≡ None
search_ends writes addr sought = index_is_none writes addr (λ index below. sought.others index (omega arith) below)

-- ---- a write joins
abbrev get_at : List ℕ → ℕ → ℕ
get_at xs index = get_or xs index 0

-- the arrays after a write of this place, with so many before it
abbrev newest_with : List ℕ → ℕ → ℕ → List ℕ
newest_with newest place count = set newest place (count + 1)

abbrev older_with : List ℕ → List ℕ → ℕ → ℕ → List ℕ
older_with newest older place count = set older count (get_or newest place 0)

newest_is : {addrs : List ℕ} {place place' limit limit' number number' : ℕ} → IsNewest addrs place limit number → place ≡ place' → limit ≡ limit'
    → number ≡ number' → IsNewest addrs place' limit' number'
newest_is {addrs = addrs} {place = place} {place' = place'} {limit = limit} {limit' = limit'} {number = number} n p l e =
    subst (λ number. IsNewest addrs place' limit' number) e (subst (λ limit. IsNewest addrs place' limit number) l
    (subst (λ place. IsNewest addrs place limit number) p n))

module _ (addrs : List ℕ) (addr : ℕ) where
  kept_at : (index : ℕ) → index < length addrs → place_at (addrs ++ addr ∷ []) index ≡ place_at addrs index
  kept_at index below = ap (λ a. place_of a 512) (get_or_append_left addrs (addr ∷ []) 0 index below)

  last_at : (index : ℕ) → index ≡ length addrs → place_at (addrs ++ addr ∷ []) index ≡ place_of addr 512
  last_at index last =
      let first : index - length addrs ≡ 0 = omega (arith, last) in
      let here : get_or (addrs ++ addr ∷ []) index 0 ≡ get_or (addr ∷ []) (index - length addrs) 0 =
      get_or-append_right addrs (addr ∷ []) (length addrs) index 0 refl (omega (arith, last)) in
      ap (λ a. place_of a 512) (here ∙ ap (get_at (addr ∷ [])) first)

  longer : length (addrs ++ addr ∷ []) ≡ length addrs + 1
  longer = length-append addrs (addr ∷ [])

  newest_kept : (place limit number : ℕ) → limit ≤ length addrs → IsNewest addrs place limit number → IsNewest (addrs ++ addr ∷ []) place limit number
  newest_kept place limit number most n =
      let within = n.within in
      record {
        within = n.within;
        itself = λ some. kept_at (number - 1) (omega (arith, within, some, most)) ∙ n.itself some;
        others = λ index from below at. n.others index from below (sym (kept_at index (omega (arith, below, most))) ∙ at);
      }

  newest_past : (place number : ℕ) → place_of addr 512 ≢ place → IsNewest addrs place (length addrs) number
      → IsNewest (addrs ++ addr ∷ []) place (length addrs + 1) number
  newest_past place number other n =
      let old = newest_kept place (length addrs) number (omega arith) n in
      let within = n.within in
      record {
        within = omega (arith, within);
        itself = old.itself;
        others = λ index from below. elim (cases_lt index (length addrs)) [
          | inl before ↦ old.others index from before
          | inr after ↦ λ at. other (sym (last_at index (omega (arith, below, after))) ∙ at)
        ];
      }

  newest_itself : IsNewest (addrs ++ addr ∷ []) (place_of addr 512) (length addrs + 1) (length addrs + 1)
  newest_itself = record {
    within = omega arith;
    itself = λ some. last_at (length addrs + 1 - 1) (omega arith);
    others = λ index from below. absurd (omega (arith, from, below));
  }

  module _ (newest older : List ℕ) (is : IsChained addrs newest older) (small : place_of addr 512 < 512) (room : length addrs < 256) where
    abbrev place : ℕ
    place = place_of addr 512

    chain_grows : IsChained (addrs ++ addr ∷ []) (newest_with newest place (length addrs)) (older_with newest older place (length addrs))
    chain_grows = record {
      places = length-set newest _ _ ∙ is.places;
      room = length-set older _ _ ∙ is.room;
      heads = λ q below. elim (cases_eq q place) [
        | inl same ↦
            let here : get_or (newest_with newest place (length addrs)) place 0 ≡ length addrs + 1 =
            get_or-set_same newest place _ 0 (omega (arith, is.places, small)) in
            newest_is newest_itself (sym same) (sym longer) (sym (ap (get_at (newest_with newest place (length addrs))) same ∙ here))
        | inr other ↦
            newest_is (newest_past q _ (λ same. other (sym same)) (is.heads q below)) refl (sym longer) (sym (get_or-set_other newest place q _ 0 other))
      ];
      nexts = λ index below. elim (cases_lt index (length addrs)) [
        | inl before ↦
            let apart : index ≢ length addrs = λ e. omega (arith, before, e) in
            newest_is (newest_kept _ index _ (omega (arith, before)) (is.nexts index before)) (sym (kept_at index before)) refl
            (sym (get_or-set_other older (length addrs) index _ 0 apart))
        | inr after ↦
            let last : index ≡ length addrs = omega (arith, below, longer, after) in
            let here : get_or (older_with newest older place (length addrs)) (length addrs) 0 ≡ get_or newest place 0 =
            get_or-set_same older (length addrs) _ 0 (omega (arith, is.room, room)) in
            newest_is (newest_kept _ (length addrs) _ (omega arith) (is.heads place small)) (sym (last_at index last)) (sym last)
            (sym (ap (get_at (older_with newest older place (length addrs))) last ∙ here))
      ];
    }

module _ (put_apart : PutApart) (put_addresses : PutAddresses) (writes : List Word) (newest older : List ℕ) where
  put_is_apart : (write : Word) (o : Option ℕ) → AreApart writes → index_of writes write.addr ≡ o → AreApart (put_at o writes write)
  put_is_apart write o apart e = subst (λ o. AreApart (put_at o writes write)) e (put_apart writes write.addr write.value apart)

  -- with a write to a new address, of this place and after so many
  pub index_grows : IsIndexed writes newest older → (write : Word) (place count : ℕ) (after : List Word)
      → index_of writes write.addr ≡ None → place < 512 → length writes < 256
      → place ≡ place_of write.addr 512 → count ≡ length writes → after ≡ writes ++ write ∷ []
      → IsIndexed after (newest_with newest place count) (older_with newest older place count)
  index_grows is write place count after new small room at so_many now =
      let long : length (addresses writes) ≡ length writes = length-map writes (λ (w : Word). w.addr) in
      let grown = chain_grows (addresses writes) write.addr newest older is.chained (subst (λ p. p < 512) at small) (omega (arith, long, room)) in
      let last : addresses after ≡ addresses writes ++ write.addr ∷ [] = ap addresses now ∙ map-append (λ (w : Word). w.addr) writes (write ∷ []) in
      let IsGrown : List ℕ → ℕ → ℕ → Type 0 = λ addrs p n. IsChained addrs (newest_with newest p n) (older_with newest older p n) in
      record {
        apart = subst (λ ws. AreApart ws) (sym now) (put_is_apart write None is.apart new);
        chained =
            subst (λ addrs. IsGrown addrs place count) (sym last)
            (subst (λ p. IsGrown (addresses writes ++ write.addr ∷ []) p count) (sym at)
            (subst (λ n. IsGrown (addresses writes ++ write.addr ∷ []) (place_of write.addr 512) n) (long ∙ sym so_many) grown));
      }

  -- with another value for an address
  pub index_kept : IsIndexed writes newest older → (write : Word) (index : ℕ) → index_of writes write.addr ≡ Some index
      → IsIndexed (set writes index write) newest older
  index_kept is write index there =
      let has = has_address_found writes write.addr index there in
      let same : addresses (set writes index write) ≡ addresses writes =
      ap (λ o. addresses (put_at o writes write)) (sym there) ∙ (put_addresses writes write.addr write.value).0 has in
      record {
        apart = put_is_apart write (Some index) is.apart there;
        chained = subst (λ addrs. IsChained addrs newest older) (sym same) is.chained;
      }

-- ---- the set is emptied
-- a write after the first `done` ones, of this place
abbrev IsLeft : List ℕ → ℕ → ℕ → ℕ → Type 0
IsLeft addrs done place number =
    (done < number) × (number ≤ length addrs) × (place_at addrs (number - 1) ≡ place)

-- what the places still have that weren't emptied with the first `done` writes
pub record IsEmptying (addrs newest : List ℕ) (done : ℕ) : Type 0 where
  pub places : length newest ≡ 512
  pub left : (place : ℕ) → place < 512 → (get_or newest place 0 ≡ 0) ⊎ IsLeft addrs done place (get_or newest place 0)

pub emptying_begins : (addrs newest older : List ℕ) → IsChained addrs newest older → IsEmptying addrs newest 0
emptying_begins addrs newest older is = record {
  places = is.places;
  left = λ place below.
      let head = is.heads place below in
      elim (cases_lt 0 (get_or newest place 0)) [
        | inl some ↦ inr (some, head.within, head.itself some)
        | inr none ↦ inl (omega (arith, none))
      ];
}

pub emptying_goes_on : (addrs newest : List ℕ) (done place : ℕ) → place ≡ place_at addrs done → place < 512 → IsEmptying addrs newest done
    → IsEmptying addrs (set newest place 0) (done + 1)
emptying_goes_on addrs newest done place at small is = record {
  places = length-set newest _ _ ∙ is.places;
  left = λ q below. elim (cases_eq q place) [
    | inl same ↦ inl (ap (λ p. get_or (set newest place 0) p 0) same ∙ get_or-set_same newest place 0 0 (omega (arith, is.places, small)))
    | inr other ↦
        let kept : get_or newest q 0 ≡ get_or (set newest place 0) q 0 = sym (get_or-set_other newest place q 0 0 other) in
        subst (λ n. (n ≡ 0) ⊎ IsLeft addrs (done + 1) q n) kept
        (elim (is.left q below) [
          | inl none ↦ inl none
          | inr (later, most, its) ↦ inr (
            elim (cases_eq (get_or newest q 0) (done + 1)) [
              | inl now ↦ absurd (other (sym its ∙ ap (λ n. place_at addrs n) (let e : get_or newest q 0 - 1 ≡ done = omega (arith, now) in e) ∙ sym at))
              | inr apart ↦ omega (arith, later, apart)
            ],
            most,
            its,
          )
        ])
  ];
}

pub emptying_ends : (addrs newest older : List ℕ) → length older ≡ 256 → IsEmptying addrs newest (length addrs) → IsIndexed [] newest older
emptying_ends addrs newest older room is = record {
  apart = λ i j before below. absurd (omega (arith, below));
  chained = record {
    places = is.places;
    room = room;
    heads = λ place below.
        let none : get_or newest place 0 ≡ 0 = elim (is.left place below) [ inl none ↦ none | inr (later, most, its) ↦ absurd (omega (arith, later, most)) ] in
        let nothing : IsNewest [] place 0 0 = record {
          within = omega arith;
          itself = λ some. absurd (omega (arith, some));
          others = λ index from under. absurd (omega (arith, under));
        } in
        newest_is nothing refl refl (sym none);
    nexts = λ index below. absurd (omega (arith, below));
  };
}

-- no write, and no place that has one
pub index_opens : IsIndexed [] (replicate 512 0) (replicate 256 0)
index_opens =
    emptying_ends [] (replicate 512 0) (replicate 256 0) (length-replicate {A = ℕ} 256 0)
    (record { places = length-replicate {A = ℕ} 512 0; left = λ place below. inl (get_or-replicate 512 place 0 0 below) })
