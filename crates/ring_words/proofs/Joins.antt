-- Two seats that are made one keep the rule.
use Rattle.std.proofs.Common.{◌≡◌, ◌≢◌, ◌⊎◌, ℕ, ◌≤◌, ◌++◌, max, List, [], length, map, set, Contains, Option, Some, None, refl, sym, ◌∙◌, ap, subst, arith, inl, inr}
use Rattle.std.proofs.lemmas.Bool.{cond-true, cond-false, lt-ltb, le-ltb, cases_lt, cases_eq}
use Rattle.std.proofs.lemmas.List.{append-nil}
use mathlib.Core.Option.{some, some-injective}
use lib.ListN.{get_elem?}
use lib.Seq.{map-set}
use Rattle.atomic_table.specs.Table.{State, Joins}
use Rattle.tx_model.specs.declared.gate.Region.{Region}
use Rattle.tx_model.specs.declared.history.Commit.{Commit}
use Rattle.tx_model.specs.declared.pass.PassState.TheVariants as state
use Rattle.tx_model.specs.declared.view.Owned.{Owned}
use Rattle.tx_model.specs.History.{IsBeginning}
use Rattle.tx_model.specs.Pass.{OwnsRegion}
use Rattle.tx_model.specs.Shares.{AreSharesApart}
use Rattle.tx_model.specs.ShareLaws as shares
use Rattle.tx_model.specs.Laws.{MergedStamps, MergedMembers}
use Rattle.tx_model.proofs.lemmas.Holders.{JoinOrigin, as_it_was, made, emptied, join_origin, join_both, join_other, names_join, all_join, once_join}
use Rattle.tx_model.proofs.lemmas.Lists.{set_here, set_else}
use Rattle.tx_model.proofs.lemmas.Stamps.{stamps_wider}
use Rattle.ring_core.specs.Outcomes.{idle}
use Rattle.ring_worlds.specs.declared.process.Process.{Process}
use Rattle.ring_worlds.specs.World.{World, board_of, with_process}
use Rattle.ring_worlds.specs.Sound.{Sound}
use Rattle.ring_worlds.specs.Runs.{resting}
use Rattle.ring_worlds.specs.Laws.{BecomeKeeps, SpendKeeps}
use Rattle.ring_worlds.proofs.lemmas.Lists.{set_twice}
use Rattle.ring_words.specs.declared.table.About.{About}
use Rattle.ring_words.specs.declared.table.Knowledge.{Knowledge}
use Rattle.ring_words.specs.Ring.{both_parts, Given, front_of, process_of, share_of, mine_of, both_known, longer, shorter, IsRing, IsSeat, IsPlain, HasOwner}
use Rattle.ring_words.proofs.Whole.{caller_here}
use Rattle.ring_words.proofs.Rests.{resting_with, rests_beside, idle_sound}

some_same : {X : Type 0} {x y : X} → Some x ≡ Some y → x ≡ y
some_same e = cc

none_some : {X : Type 0} {x : X} → None ≡ Some x → ⊥
none_some e = cc

idle_free : state.Idle ≢ state.Stamped
idle_free e = cc

-- one of two histories is the longer one, and the other one is the shorter
pub which : (history other : List Commit)
    → ((longer history other ≡ other) × (shorter history other ≡ history) × (length history ≤ length other)) ⊎
    ((longer history other ≡ history) × (shorter history other ≡ other) × (length other ≤ length history))
which history other =
    elim (cases_lt (length history) (length other)) [
      | inl less ↦ inl (cond-true _ other history (lt-ltb _ _ less), cond-true _ history other (lt-ltb _ _ less), omega (arith, less))
      | inr late ↦ inr (cond-false _ other history (le-ltb _ _ late), cond-false _ history other (le-ltb _ _ late), late)
    ]

-- what both have is theirs that has something
pub both_owned : (one more : List Owned) → more ≡ [] → one ++ more ≡ one
both_owned one more none = ap (λ l. one ++ l) none ∙ append-nil one

-- ---- the world in which the one caller knows what either knew, and the other is as at first
module _ (becomes : BecomeKeeps) (spends : SpendKeeps) (w : World) (s : Sound w) (who other : ℕ) (p q : Process)
    (here : get_elem? w.processes who ≡ some p) (there : get_elem? w.processes other ≡ some q) (differ : other ≢ who) (free : p.caller.state ≢ state.Stamped)
    (free_other : q.caller.state ≢ state.Stamped) (nothing : q.owned ≡ []) where
  abbrev front : ℕ
  front = max (front_of p) (front_of q)

  abbrev one : Process
  one = resting_with (idle w.shape p.caller) front p.owned

  one_sound : Sound (with_process w who one)
  one_sound =
      let me = s.each who p here in
      let him = s.each other q there in
      becomes w who p one s here
      (rests_beside w.shape (idle w.shape p.caller) (idle_sound w.shape p.caller me.machine) refl tt w.opening w.regions (board_of w s.complete) p me
      front me.reader.behind (omega arith)
      (omega (arith, me.since.known, me.reader.behind, him.since.known, him.reader.behind)))
      refl free idle_free

  still : get_elem? (set w.processes who one) other ≡ some q
  still = set_else w.processes who other one differ ∙ there

  abbrev two : Process
  two = resting_with (idle w.shape q.caller) (front_of q) q.owned

  abbrev between : World
  between = with_process w who one

  two_sound : Sound (with_process between other two)
  two_sound =
      let him = one_sound.each other q still in
      becomes between other q two one_sound still
      (rests_beside w.shape (idle w.shape q.caller) (idle_sound w.shape q.caller him.machine) refl tt w.opening w.regions
      (board_of between one_sound.complete) q him (front_of q) him.reader.behind (omega arith)
      (omega (arith, him.since.known, him.reader.behind)))
      refl free_other idle_free

  both_sound : Sound (record w { processes = set (set w.processes who one) other (resting w.shape) })
  both_sound =
      subst (λ l. Sound (record w { processes = l })) (set_twice (set w.processes who one) other two (resting w.shape))
      (spends (with_process between other two) other two two_sound (set_here between.processes other two q still) refl nothing)

module _ (within : shares.JoinedApart) (others_apart : shares.JoinedOthers) (normal : shares.JoinedNormal) (not_empty : shares.JoinedNotEmpty)
    (stamps : MergedStamps) (members : MergedMembers) (becomes : BecomeKeeps) (spends : SpendKeeps) {S : Type 0} (good : S → List ℕ → List ℕ →
    Type 0) (budget : S → List ℕ → ℕ)
    (old more : Knowledge S) (free : old.process.caller.state ≢ state.Stamped) (free_more : more.process.caller.state ≢ state.Stamped)
    (nothing : more.process.owned ≡ []) where
  abbrev about : About S
  about = old.about

  abbrev both : Knowledge S
  both = both_parts old more

  module _ (s : State ℕ (Option (Knowledge S))) (r : IsRing good budget old.about s) (id from : ℕ) (at : get_elem? s.views id ≡ some (Some old))
      (ne : from ≢ id) (from_at : get_elem? s.views from ≡ some (Some more)) where
    abbrev w : World
    w = r.world

    abbrev views : List (Option (Knowledge S))
    views = set (set s.views id (Some both)) from None

    differ : id ≢ from
    differ same = ne (sym same)

    abbrev Origin : ℕ → Option (Knowledge S) → Type 0
    Origin = JoinOrigin s.views id from (Some old) (Some more) (Some both) None at from_at differ

    origin : (i : ℕ) (known : Option (Knowledge S)) → get_elem? views i ≡ some known → Origin i known
    origin = join_origin s.views id from (Some old) (Some more) (Some both) None at from_at differ

    seat_old : IsSeat about w.history old
    seat_old = r.seats id old at

    seat_more : IsSeat about w.history more
    seat_more = r.seats from more from_at

    one_known : IsBeginning both.history w.history
    one_known =
        elim (which old.history more.history) [
          | inl (is, is', len) ↦ subst (λ h. IsBeginning h w.history) (sym is) seat_more.known
          | inr (is, is', len) ↦ subst (λ h. IsBeginning h w.history) (sym is) seat_old.known
        ]

    two_known : IsBeginning both.other w.history
    two_known =
        elim (which old.history more.history) [
          | inl (is, is', len) ↦ subst (λ h. IsBeginning h w.history) (sym is') seat_old.known
          | inr (is, is', len) ↦ subst (λ h. IsBeginning h w.history) (sym is') seat_more.known
        ]

    lengths : (length both.other ≤ length both.history) × (length old.history ≤ length both.history) × (length more.history ≤ length both.history)
    lengths =
        elim (which old.history more.history) [
          | inl (is, is', len) ↦ (omega (arith, ap length is, ap length is', len), omega (arith, ap length is, len), omega (arith, ap length is))
          | inr (is, is', len) ↦ (omega (arith, ap length is, ap length is', len), omega (arith, ap length is), omega (arith, ap length is, len))
        ]

    shares_apart : AreSharesApart old.share more.share
    shares_apart = r.names id from (Some old) (Some more) at from_at (λ same. ne (sym same))

    mine_once : (own : ℕ) → Contains old.mine own → Contains more.mine own → ⊥
    mine_once own has has' = ne (sym (r.once id from (Some old) (Some more) own at from_at has has'))

    plain_both : IsPlain both
    plain_both =
        record {
          reached = omega (arith, seat_old.plain.reached, seat_more.plain.reached, lengths.1, lengths.2);
          rested = λ e. omega arith;
          mine = stamps (length both.history) old.mine more.mine (stamps_wider _ _ _ lengths.1 seat_old.plain.mine)
              (stamps_wider _ _ _ lengths.2 seat_more.plain.mine) mine_once;
          settled = λ e own has. elim ((members old.mine more.mine own).0 has) [
            | inl mine ↦ omega (arith, seat_old.plain.settled free own mine)
            | inr his ↦ omega (arith, seat_more.plain.settled free_more own his)
          ];
          stamped = λ e. absurd (idle_free e);
          named = (not_empty old.share more.share).0 seat_old.plain.named;
          joined = normal old.share more.share seat_old.plain.joined;
          apart = within old.share more.share seat_old.plain.apart seat_more.plain.apart shares_apart;
        }

    seat_both : IsSeat about w.history both
    seat_both = record { told = refl; known = one_known; other = two_known; shorter = lengths.0; plain = plain_both }

    seats : (i : ℕ) (k : Knowledge S) → get_elem? views i ≡ some (Some k) → IsSeat about w.history k
    seats i k e = go (origin i (Some k) e)
      where
        go : Origin i (Some k) → IsSeat about w.history k
        go (as_it_was a b there) = r.seats i k there
        go (made here is) = subst (IsSeat about w.history) (some_same is) seat_both
        go (emptied here is) = absurd (none_some is)

    abbrev after : List Process
    after = set (set w.processes id both.process) from (resting about.shape)

    callers : map (process_of about.shape) views ≡ after
    callers =
        map-set (process_of about.shape) (set s.views id (Some both)) from None
        ∙ ap (λ l. set l from (resting about.shape)) (map-set (process_of about.shape) s.views id (Some both) ∙ ap (λ l. set l id both.process) r.callers)

    sound : Sound (record w { processes = after })
    sound =
        subst (λ owned. Sound (record w {
          processes =
              set (set w.processes id (resting_with (idle about.shape old.process.caller) both.process.front owned)) from (resting about.shape);
        }))
        (sym (both_owned old.process.owned more.process.owned nothing))
        (subst (λ (g : Given). Sound (record w {
          processes =
              set (set w.processes id (resting_with (idle g.shape old.process.caller) both.process.front old.process.owned)) from (resting g.shape);
        })) r.made
        (both_sound becomes spends w r.sound id from old.process more.process (caller_here good budget about s r id old at)
        (caller_here good budget about s r from more from_at) ne free free_more nothing))

    still_owned : (region : Region) → HasOwner s.views region → HasOwner views region
    still_owned region owner =
        elim (cases_eq owner.seat id) [
          | inl same ↦
              let is : owner.knowledge ≡ old = some_same
              (some-injective (Some owner.knowledge) (Some old) (sym owner.here ∙ ap (get_elem? s.views) same ∙ at)) in
              elim owner.owns [
                | inl owns ↦
                    record {
                      seat = id;
                      knowledge = both;
                      here = join_both s.views id from (Some old) (Some more) (Some both) None at from_at differ;
                      owns = inl (subst (λ owned. OwnsRegion owned region) (ap (λ (x : Knowledge S). x.process.owned) is ∙
                          sym (both_owned old.process.owned more.process.owned nothing)) owns);
                    }
                | inr (stamped, seals) ↦ absurd (free (sym (ap (λ (x : Knowledge S). x.process.caller.state) is) ∙ stamped))
              ]
          | inr not_id ↦
              elim (cases_eq owner.seat from) [
                | inl same ↦
                    let is : owner.knowledge ≡ more = some_same
                    (some-injective (Some owner.knowledge) (Some more) (sym owner.here ∙ ap (get_elem? s.views) same ∙ from_at)) in
                    elim owner.owns [
                      | inl owns ↦ absurd (none_owned (subst (λ owned. OwnsRegion owned region) (ap (λ (x : Knowledge S). x.process.owned) is ∙ nothing) owns))
                      | inr (stamped, seals) ↦ absurd (free_more (sym (ap (λ (x : Knowledge S). x.process.caller.state) is) ∙ stamped))
                    ]
                | inr not_from ↦
                    record {
                      seat = owner.seat;
                      knowledge = owner.knowledge;
                      here = join_other s.views id from (Some old) (Some more) (Some both) None at from_at differ owner.seat (Some owner.knowledge)
                          not_id not_from owner.here;
                      owns = owner.owns;
                    }
              ]
        ]
      where
        none_owned : OwnsRegion [] region → ⊥
        none_owned (i, o, below, there, is) = omega (arith, below)

    pub join_keeps : IsRing good budget about record { words = s.words; homes = s.homes; views = views }
    join_keeps =
        record {
          world = record w { processes = after };
          made = r.made;
          sound = sound;
          words = r.words;
          callers = callers;
          writers = r.writers;
          good_states = r.good_states;
          seats = seats;
          names = names_join s.views id from (Some old) (Some more) (Some both) None at from_at differ share_of refl
              (λ other apart apart'. others_apart old.share more.share other apart apart') r.names;
          all = all_join s.views id from (Some old) (Some more) (Some both) None at from_at differ mine_of (members old.mine more.mine)
              (length w.history) r.all;
          once = once_join s.views id from (Some old) (Some more) (Some both) None at from_at differ mine_of (members old.mine more.mine) refl r.once;
          owners = λ region among sealed. still_owned region (r.owners region among sealed);
        }

  pub joins_seats : (about : About S) (id other : ℕ) (me him : Option (Knowledge S)) → me ≡ Some old → him ≡ Some more → old.about ≡ about →
      Joins (IsRing good budget about) id me other him (both_known me him) None
  joins_seats its id other me him is is' told =
      subst (λ (m : Option (Knowledge S)). Joins (IsRing good budget its) id m other him (both_known m him) None) (sym is)
      (subst (λ (h : Option (Knowledge S)). Joins (IsRing good budget its) id (Some old) other h (both_known (Some old) h) None) (sym is')
      (subst (λ (a : About S). Joins (IsRing good budget a) id (Some old) other (Some more) (both_known (Some old) (Some more)) None) told
      (λ s r at apart there. join_keeps s r id other at apart (sym (set_else s.views id other (Some both) apart) ∙ there))))
