-- Shares and own numbers over a list of all who have them: a change of one, one more number, a split, a join, and one that has the whole.
use Rattle.std.proofs.Common.{◌≡◌, ◌≢◌, ◌⊎◌, ◌↔◌, ℕ, ◌+◌, ◌<◌, ◌≤◌, ◌++◌, List, [], ◌∷◌, length, set, refl, sym, ◌∙◌, ap, subst, arith, inl, inr, Contains, length-set}
use Rattle.std.proofs.lemmas.Bool.{cases_eq, cases_lt}
use Rattle.std.proofs.lemmas.List.{append-nil}
use Rattle.std.proofs.lemmas.List.Elements.{Contains-append_left, Contains-push, Contains-push_cases}
use mathlib.Core.Option.{some, some-injective}
use lib.ListN.{get_elem?}
use Rattle.tx_model.proofs.lemmas.Lists.{at_set, set_here, set_else, at_end, at_longer, index_below}
use Rattle.tx_model.specs.Shares.{Name, AreSharesApart}
use Rattle.tx_model.specs.Holders.{AreNamed, HaveAll, HaveOnce}
use Rattle.tx_model.proofs.ShareNames.{contains_none}

pub apart_back : (share other : List Name) → AreSharesApart share other → AreSharesApart other share
apart_back share other apart name next has has' = let t = apart next name has' has in (t.1, t.0)

-- ---- one of them changes
module _ {V : Type 0} (views : List V) (id : ℕ) (old new : V) (at : get_elem? views id ≡ some old) where
  -- what holds of the changed one and of the others holds of all
  pub each_view : (K : ℕ → V → Type 0) → K id new → ((i : ℕ) (one : V) → get_elem? views i ≡ some one → K i one)
      → (i : ℕ) (one : V) → get_elem? (set views id new) i ≡ some one → K i one
  each_view K mine others i one e =
      elim (at_set views id i new one e) [
        | inl (here, is) ↦ subst (λ k. K k one) (sym here) (subst (K id) is mine)
        | inr (apart, there) ↦ others i one there
      ]

  -- whatever keeps a part is seen by that part
  was : {P : Type 0} (part : V → P) → part new ≡ part old → (i : ℕ) (one : V) → get_elem? (set views id new) i ≡ some one
      → (before : V) × (get_elem? views i ≡ some before) × (part one ≡ part before)
  was part same i one e =
      elim (at_set views id i new one e) [
        | inl (here, is) ↦ (old, subst (λ k. get_elem? views k ≡ some old) (sym here) at, ap part (sym is) ∙ same)
        | inr (apart, there) ↦ (one, there, refl)
      ]

  -- who was there is there, or was the changed one
  pub still_there : (i : ℕ) (one : V) → get_elem? views i ≡ some one
      → (get_elem? (set views id new) i ≡ some one) ⊎ ((one ≡ old) × (get_elem? (set views id new) id ≡ some new))
  still_there i one e =
      elim (cases_eq i id) [
        | inl same ↦ inr (some-injective one old (sym e ∙ ap (get_elem? views) same ∙ at), set_here views id new old at)
        | inr apart ↦ inl (set_else views id i new apart ∙ e)
      ]

  pub names_kept : (share_of : V → List Name) → share_of new ≡ share_of old → AreNamed share_of views → AreNamed share_of (set views id new)
  names_kept share_of same named i j one other e f apart name next has has' =
      let (before, there, is) = was share_of same i one e in
      let (before', there', is') = was share_of same j other f in
      named i j before before' there there' apart name next (subst (λ share. Contains share name) is has) (subst (λ share. Contains share next) is' has')

  module _ (mine_of : V → List ℕ) where
    pub once_kept : mine_of new ≡ mine_of old → HaveOnce mine_of views → HaveOnce mine_of (set views id new)
    once_kept same once i j one other number e f has has' =
        let (before, there, is) = was mine_of same i one e in
        let (before', there', is') = was mine_of same j other f in
        once i j before before' number there there' (subst (λ mine. Contains mine number) is has) (subst (λ mine. Contains mine number) is' has')

    -- it has all that it had
    pub all_kept : (count : ℕ) → ((number : ℕ) → Contains (mine_of old) number → Contains (mine_of new) number) → HaveAll mine_of views count
        → HaveAll mine_of (set views id new) count
    all_kept count keeps all number least most =
        let (i, one, e, has) = all number least most in
        elim (still_there i one e) [
          | inl there ↦ (i, one, there, has)
          | inr (is, there) ↦ (id, new, there, keeps number (subst (λ one. Contains (mine_of one) number) is has))
        ]

    -- ---- with one more number
    module _ (count : ℕ) (more : mine_of new ≡ mine_of old ++ (count + 1) ∷ []) where
      has_more : (number : ℕ) → Contains (mine_of old) number → Contains (mine_of new) number
      has_more number has = subst (λ mine. Contains mine number) (sym more) (Contains-append_left (mine_of old) ((count + 1) ∷ []) number has)

      pub all_more : HaveAll mine_of views count → HaveAll mine_of (set views id new) (count + 1)
      all_more all number least most =
          elim (cases_lt count number) [
            | inl past ↦
                let last : count + 1 ≡ number = omega (arith, past, most) in (
                  id,
                  new,
                  set_here views id new old at,
                  subst (λ mine. Contains mine number) (sym more)
                      (subst (Contains (mine_of old ++ (count + 1) ∷ [])) last (Contains-push (mine_of old) (count + 1))),
                )
            | inr upto ↦ all_kept count has_more all number least upto
          ]

      -- where nobody had a number past the count
      module _ (within : (i : ℕ) (one : V) (number : ℕ) → get_elem? views i ≡ some one → Contains (mine_of one) number → number ≤ count) where
        -- what it has after the change it had before, or it is the new number
        had : (i : ℕ) (one : V) (number : ℕ) → get_elem? (set views id new) i ≡ some one → Contains (mine_of one) number
            → ((before : V) × (get_elem? views i ≡ some before) × Contains (mine_of before) number) ⊎ ((i ≡ id) × (number ≡ count + 1))
        had i one number e has =
            elim (at_set views id i new one e) [
              | inl (here, is) ↦
                  elim (Contains-push_cases (mine_of old) (count + 1) number
                  (subst (λ mine. Contains mine number) more (subst (λ one. Contains (mine_of one) number) (sym is) has))) [
                    | inl before ↦ inl (old, subst (λ k. get_elem? views k ≡ some old) (sym here) at, before)
                    | inr last ↦ inr (here, sym last)
                  ]
              | inr (apart, there) ↦ inl (one, there, has)
            ]

        pub once_more : HaveOnce mine_of views → HaveOnce mine_of (set views id new)
        once_more once i j one other number e f has has' = go (had i one number e has) (had j other number f has')
          where
            go : ((before : V) × (get_elem? views i ≡ some before) × Contains (mine_of before) number) ⊎ ((i ≡ id) × (number ≡ count + 1))
                → ((before : V) × (get_elem? views j ≡ some before) × Contains (mine_of before) number) ⊎ ((j ≡ id) × (number ≡ count + 1)) → i ≡ j
            go (inl (before, there, one')) (inl (before', there', two')) = once i j before before' number there there' one' two'
            go (inl (before, there, one')) (inr (here, last)) = absurd (omega (arith, within i before number there one', last))
            go (inr (here, last)) (inl (before, there, one')) = absurd (omega (arith, within j before number there one', last))
            go (inr (here, last)) (inr (here', last')) = here ∙ sym here'

-- ---- one of them is split
module _ {V : Type 0} (views : List V) (id : ℕ) (old left right : V) (at : get_elem? views id ≡ some old) where
  abbrev split_views : List V
  split_views = set views id left ++ right ∷ []

  -- who is there after the split was there before, is the half that stayed, or the one that was given
  pub data SplitOrigin (i : ℕ) (one : V) : Type 0 where
    as_before : i ≢ id → i < length views → get_elem? views i ≡ some one → SplitOrigin i one
    kept : i ≡ id → left ≡ one → SplitOrigin i one
    given : i ≡ length views → right ≡ one → SplitOrigin i one

  pub split_origin : (i : ℕ) (one : V) → get_elem? split_views i ≡ some one → SplitOrigin i one
  split_origin i one e =
      elim (at_end (set views id left) right one i e) [
        | inl there ↦
            elim (at_set views id i left one there) [
              | inl (here, is) ↦ kept here is
              | inr (apart, old_there) ↦ as_before apart (index_below views i one old_there) old_there
            ]
        | inr (last, is) ↦ given (last ∙ length-set views id left) is
      ]

  pub split_left : get_elem? split_views id ≡ some left
  split_left = at_longer (set views id left) (right ∷ []) id left (set_here views id left old at)

  pub split_other : (i : ℕ) (one : V) → i ≢ id → get_elem? views i ≡ some one → get_elem? split_views i ≡ some one
  split_other i one apart e = at_longer (set views id left) (right ∷ []) i one (set_else views id i left apart ∙ e)

  module _ (share_of : V → List Name) (between : AreSharesApart (share_of left) (share_of right))
      (halves : (other : List Name) → AreSharesApart (share_of old) other → AreSharesApart (share_of left) other × AreSharesApart (share_of right) other) where
    pub names_split : AreNamed share_of views → AreNamed share_of split_views
    names_split named i j one next e f apart = go (split_origin i one e) (split_origin j next f)
      where
        both : (k : ℕ) (one : V) → k ≢ id → get_elem? views k ≡ some one
            → AreSharesApart (share_of left) (share_of one) × AreSharesApart (share_of right) (share_of one)
        both k one ne there = halves (share_of one) (named id k old one at there (λ same. ne (sym same)))

        go : SplitOrigin i one → SplitOrigin j next → AreSharesApart (share_of one) (share_of next)
        go (as_before ne below there) (as_before ne' below' there') = named i j one next there there' apart
        go (as_before ne below there) (kept here is) =
            subst (λ k. AreSharesApart (share_of one) (share_of k)) is (apart_back (share_of left) (share_of one) (both i one ne there).0)
        go (as_before ne below there) (given last is) =
            subst (λ k. AreSharesApart (share_of one) (share_of k)) is (apart_back (share_of right) (share_of one) (both i one ne there).1)
        go (kept here is) (as_before ne below there) = subst (λ k. AreSharesApart (share_of k) (share_of next)) is (both j next ne there).0
        go (kept here is) (kept here' is') = absurd (apart (here ∙ sym here'))
        go (kept here is) (given last is') =
            subst (λ k. AreSharesApart (share_of k) (share_of next)) is (subst (λ k. AreSharesApart (share_of left) (share_of k)) is' between)
        go (given last is) (as_before ne below there) = subst (λ k. AreSharesApart (share_of k) (share_of next)) is (both j next ne there).1
        go (given last is) (kept here is') =
            subst (λ k. AreSharesApart (share_of k) (share_of next)) is
            (subst (λ k. AreSharesApart (share_of right) (share_of k)) is' (apart_back (share_of left) (share_of right) between))
        go (given last is) (given last' is') = absurd (apart (last ∙ sym last'))

  module _ (mine_of : V → List ℕ) (mine : mine_of left ≡ mine_of old) where
    pub all_split : (count : ℕ) → HaveAll mine_of views count → HaveAll mine_of split_views count
    all_split count all number least most =
        let (i, one, e, has) = all number least most in
        elim (cases_eq i id) [
          | inl same ↦ (
            id,
            left,
            split_left,
            subst (λ list. Contains list number) (sym mine)
                (subst (λ k. Contains (mine_of k) number) (some-injective one old (sym e ∙ ap (get_elem? views) same ∙ at)) has),
          )
          | inr apart ↦ (i, one, split_other i one apart e, has)
        ]

    pub once_split : mine_of right ≡ [] → HaveOnce mine_of views → HaveOnce mine_of split_views
    once_split none once i j one next number e f has has' =
        let (before, there, had) = was_there i one (split_origin i one e) has in
        let (before', there', had') = was_there j next (split_origin j next f) has' in
        once i j before before' number there there' had had'
      where
        was_there : (k : ℕ) (one : V) → SplitOrigin k one → Contains (mine_of one) number
            → (before : V) × (get_elem? views k ≡ some before) × Contains (mine_of before) number
        was_there k one (as_before ne below there) has = (one, there, has)
        was_there k one (kept here is) has = (
          old,
          subst (λ n. get_elem? views n ≡ some old) (sym here) at,
          subst (λ list. Contains list number) mine
              (subst (λ v. Contains (mine_of v) number) (sym is) has),
        )
        was_there k one (given last is) has =
            absurd (contains_none number (subst (λ list. Contains list number) none (subst (λ v. Contains (mine_of v) number) (sym is) has)))

-- ---- two of them become one, and the other is spent
module _ {V : Type 0} (views : List V) (id from : ℕ) (old more both spent : V) (at : get_elem? views id ≡ some old) (from_at : get_elem? views from ≡ some more)
    (differ : id ≢ from) where
  abbrev join_views : List V
  join_views = set (set views id both) from spent

  pub data JoinOrigin (i : ℕ) (one : V) : Type 0 where
    as_it_was : i ≢ id → i ≢ from → get_elem? views i ≡ some one → JoinOrigin i one
    made : i ≡ id → both ≡ one → JoinOrigin i one
    emptied : i ≡ from → spent ≡ one → JoinOrigin i one

  pub join_origin : (i : ℕ) (one : V) → get_elem? join_views i ≡ some one → JoinOrigin i one
  join_origin i one e =
      elim (at_set (set views id both) from i spent one e) [
        | inl (here, is) ↦ emptied here is
        | inr (not_from, there) ↦
            elim (at_set views id i both one there) [
              | inl (here, is) ↦ made here is
              | inr (not_id, old_there) ↦ as_it_was not_id not_from old_there
            ]
      ]

  pub join_both : get_elem? join_views id ≡ some both
  join_both = set_else (set views id both) from id spent differ ∙ set_here views id both old at

  pub join_other : (i : ℕ) (one : V) → i ≢ id → i ≢ from → get_elem? views i ≡ some one → get_elem? join_views i ≡ some one
  join_other i one not_id not_from e = set_else (set views id both) from i spent not_from ∙ set_else views id i both not_id ∙ e

  module _ (share_of : V → List Name) (nameless : share_of spent ≡ [])
      (joins : (other : List Name) → AreSharesApart (share_of old) other → AreSharesApart (share_of more) other → AreSharesApart (share_of both) other) where
    pub names_join : AreNamed share_of views → AreNamed share_of join_views
    names_join named i j one next e f apart = go (join_origin i one e) (join_origin j next f)
      where
        with_both : (k : ℕ) (one : V) → k ≢ id → k ≢ from → get_elem? views k ≡ some one → AreSharesApart (share_of both) (share_of one)
        with_both k one not_id not_from there =
            joins (share_of one) (named id k old one at there (λ same. not_id (sym same))) (named from k more one from_at there (λ same. not_from (sym same)))

        none : (v : V) (name : Name) → spent ≡ v → Contains (share_of v) name → ⊥
        none v name is has = contains_none name (subst (λ list. Contains list name) nameless (subst (λ w. Contains (share_of w) name) (sym is) has))

        go : JoinOrigin i one → JoinOrigin j next → AreSharesApart (share_of one) (share_of next)
        go (emptied here is) origin = λ name other has has'. absurd (none one name is has)
        go (as_it_was a b there) (emptied here is) = λ name other has has'. absurd (none next other is has')
        go (made here is) (emptied here' is') = λ name other has has'. absurd (none next other is' has')
        go (as_it_was a b there) (as_it_was a' b' there') = named i j one next there there' apart
        go (as_it_was a b there) (made here is) =
            subst (λ k. AreSharesApart (share_of one) (share_of k)) is (apart_back (share_of both) (share_of one) (with_both i one a b there))
        go (made here is) (as_it_was a b there) = subst (λ k. AreSharesApart (share_of k) (share_of next)) is (with_both j next a b there)
        go (made here is) (made here' is') = absurd (apart (here ∙ sym here'))

  module _ (mine_of : V → List ℕ) (members : (number : ℕ)
      → Contains (mine_of both) number ↔ (Contains (mine_of old) number ⊎ Contains (mine_of more) number)) where
    pub all_join : (count : ℕ) → HaveAll mine_of views count → HaveAll mine_of join_views count
    all_join count all number least most =
        let (i, one, e, has) = all number least most in
        elim (cases_eq i id) [
          | inl same ↦ (
            id,
            both,
            join_both,
            (members number).1
                (inl (subst (λ k. Contains (mine_of k) number) (some-injective one old (sym e ∙ ap (get_elem? views) same ∙ at)) has)),
          )
          | inr not_id ↦
              elim (cases_eq i from) [
                | inl same ↦ (
                  id,
                  both,
                  join_both,
                  (members number).1
                      (inr (subst (λ k. Contains (mine_of k) number) (some-injective one more (sym e ∙ ap (get_elem? views) same ∙ from_at)) has)),
                )
                | inr not_from ↦ (i, one, join_other i one not_id not_from e, has)
              ]
        ]

    -- who has a number after the join, or one of the two that were joined, had it before
    record HadBefore (i number : ℕ) : Type 0 where
      place : ℕ
      before : V
      there : get_elem? views place ≡ some before
      has : Contains (mine_of before) number
      same : (place ≡ i) ⊎ ((i ≡ id) × ((place ≡ id) ⊎ (place ≡ from)))
      -- the spent one has none
      alive : i ≢ from

    pub once_join : mine_of spent ≡ [] → HaveOnce mine_of views → HaveOnce mine_of join_views
    once_join none once i j one next number e f has has' = meet (had i one (join_origin i one e) has) (had j next (join_origin j next f) has')
      where
        had : (k : ℕ) (v : V) → JoinOrigin k v → Contains (mine_of v) number → HadBefore k number
        had k v (as_it_was a b there) has = record { place = k; before = v; there = there; has = has; same = inl refl; alive = b }
        had k v (emptied here is) has =
            absurd (contains_none number (subst (λ list. Contains list number) none (subst (λ w. Contains (mine_of w) number) (sym is) has)))
        had k v (made here is) has =
            elim ((members number).0 (subst (λ w. Contains (mine_of w) number) (sym is) has)) [
              | inl one' ↦ record { place = id; before = old; there = at; has = one'; same = inr (here, inl refl); alive = λ same. differ (sym here ∙ same) }
              | inr two' ↦ record {
                place = from;
                before = more;
                there = from_at;
                has = two';
                same = inr (here, inr refl);
                alive = λ same. differ (sym here ∙ same);
              }
            ]

        meet : HadBefore i number → HadBefore j number → i ≡ j
        meet p q = go p.same q.same
          where
            one_place : p.place ≡ q.place
            one_place = once p.place q.place p.before q.before number p.there q.there p.has q.has

            go : (p.place ≡ i) ⊎ ((i ≡ id) × ((p.place ≡ id) ⊎ (p.place ≡ from))) → (q.place ≡ j) ⊎ ((j ≡ id) × ((q.place ≡ id) ⊎ (q.place ≡ from))) → i ≡ j
            go (inl here) (inl here') = sym here ∙ one_place ∙ here'
            go (inr (here, either)) (inr (here', either')) = here ∙ sym here'
            go (inl here) (inr (here', inl is)) = sym here ∙ one_place ∙ is ∙ sym here'
            go (inl here) (inr (here', inr is)) = absurd (p.alive (sym here ∙ one_place ∙ is))
            go (inr (here, inl is)) (inl here') = here ∙ sym is ∙ one_place ∙ here'
            go (inr (here, inr is)) (inl here') = absurd (q.alive (sym here' ∙ sym one_place ∙ is))

-- ---- one of them has the whole
module _ {V : Type 0} (share_of : V → List Name) (views : List V) (named : AreNamed share_of views) (id : ℕ) (one : V) (at : get_elem? views id ≡ some one)
    (whole : share_of one ≡ [] ∷ []) where
  -- another one has no name, since the empty name is the ending of each
  pub whole_alone : (i : ℕ) (other : V) → get_elem? views i ≡ some other → i ≢ id → share_of other ≡ []
  whole_alone i other e apart = go (share_of other) refl
    where
      go : (share : List Name) → share_of other ≡ share → share_of other ≡ []
      go [] is = is
      go (name ∷ names) is =
          let has : Contains (share_of one) [] = subst (λ share. Contains share []) (sym whole) (0, omega arith, refl) in
          let also : Contains (share_of other) name = subst (λ share. Contains share name) (sym is) (0, omega arith, refl) in
          absurd ((named id i one other at e (λ same. apart (sym same)) [] name has also).0 (name, sym (append-nil name)))

  -- it has all numbers, where who has no name has none
  pub whole_has_all : (mine_of : V → List ℕ) (count : ℕ) → ((i : ℕ) (other : V) → get_elem? views i ≡ some other → share_of other ≡ [] → mine_of other ≡ [])
      → HaveAll mine_of views count → (number : ℕ) → 1 ≤ number → number ≤ count → Contains (mine_of one) number
  whole_has_all mine_of count nothing all number least most =
      let (i, other, e, has) = all number least most in
      elim (cases_eq i id) [
        | inl same ↦ subst (λ v. Contains (mine_of v) number) (some-injective other one (sym e ∙ ap (get_elem? views) same ∙ at)) has
        | inr apart ↦ absurd (contains_none number (subst (λ list. Contains list number) (nothing i other e (whole_alone i other e apart)) has))
      ]
