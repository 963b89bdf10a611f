-- Where a stamped seat is the only one, all entries before its own are complete.
use Rattle.std.proofs.Common.{◌≡◌, ℕ, ◌<◌, ◌≤◌, List, [], length, Contains, Option, Some, None, refl, sym, subst, arith, inl, inr}
use Rattle.std.proofs.lemmas.List.Elements.{Contains-push, Contains-push_cases}
use mathlib.Core.Option.{some}
use lib.ListN.{get_elem?}
use Rattle.atomic_table.specs.Table.{State}
use Rattle.tx_model.specs.declared.pass.PassState.TheVariants.{Stamped}
use Rattle.tx_model.specs.Pass.{IsWhole}
use Rattle.tx_model.proofs.lemmas.Stamps.{stamps_within}
use Rattle.tx_model.proofs.lemmas.Histories.{beginning_length}
use Rattle.tx_model.proofs.lemmas.Holders.{whole_has_all}
use Rattle.ring_worlds.specs.World.{board_of}
use Rattle.ring_worlds.specs.Sound.{IsProcess}
use Rattle.ring_words.specs.declared.table.About.{About}
use Rattle.ring_words.specs.declared.table.Knowledge.{Knowledge}
use Rattle.ring_words.specs.Ring.{Given, front_of, share_of, mine_of, IsRing, IsSeat, IsLast}
use Rattle.ring_words.specs.Told.{AreEarlierComplete, pass_in}
use Rattle.ring_words.proofs.Whole.{caller_here}

module _ {S : Type 0} (good : S → List ℕ → List ℕ → Type 0) (budget : S → List ℕ → ℕ) (about : About S) (s : State ℕ (Option (Knowledge S)))
    (r : IsRing good budget about s) (id : ℕ) (k : Knowledge S) (at : get_elem? s.views id ≡ some (Some k)) where
  seat : IsSeat about r.world.history k
  seat = r.seats id k at

  me : IsProcess r.world.shape r.world.opening r.world.regions (board_of r.world r.sound.complete) k.process
  me = r.sound.each id k.process (caller_here good budget about s r id k at)

  module _ (whole : IsWhole (pass_in k.process.caller.state k)) (stamped : k.process.caller.state ≡ Stamped) where
    nothing : (i : ℕ) (other : Option (Knowledge S)) → get_elem? s.views i ≡ some other → share_of other ≡ [] → mine_of other ≡ []
    nothing i None e nameless = refl
    nothing i (Some other) e nameless = absurd ((r.seats i other e).plain.named nameless)

    has_all : (stamp : ℕ) → 1 ≤ stamp → stamp ≤ length r.world.history → Contains k.mine stamp
    has_all = whole_has_all share_of s.views r.names id (Some k) at whole mine_of (length r.world.history) nothing r.all

    last : IsLast k.process k.mine
    last = seat.plain.stamped stamped

    -- its own commit has happened
    happened : k.process.caller.stamp ≤ length r.world.history
    happened =
        let own : Contains k.mine k.process.caller.stamp =
        subst (λ l. Contains l k.process.caller.stamp) (sym last.last)
        (Contains-push last.before k.process.caller.stamp) in
        let within = stamps_within (length k.history) k.mine seat.plain.mine k.process.caller.stamp own in
        omega (arith, within.1, beginning_length k.history r.world.history seat.known)

    -- an earlier one is its own too, and complete
    known_complete : (entry : ℕ) → 1 ≤ entry → entry < k.process.caller.stamp → entry ≤ front_of k.process
    known_complete entry first earlier =
        elim (Contains-push_cases last.before k.process.caller.stamp entry
        (subst (λ l. Contains l entry) last.last (has_all entry first (omega (arith, earlier, happened))))) [
          | inl before ↦ last.complete entry before
          | inr same ↦ absurd (omega (arith, same, earlier))
        ]

    pub earlier_complete : AreEarlierComplete about.shape r.world.tags k.process.caller.stamp
    earlier_complete =
        subst (λ (g : Given). AreEarlierComplete g.shape r.world.tags k.process.caller.stamp) r.made
        (λ entry first earlier.
        let known = known_complete entry first earlier in
        r.sound.board.done entry first (omega (arith, known, me.since.known, me.reader.behind)))
