-- The owner of a region stores a word of it: nobody else sees a change.
use Rattle.std.proofs.Common.{List, ◌≡◌, ◌≢◌, ℕ, ◌-◌, ◌<◌, length, set, slice_get, Some, Contains, refl, sym, ◌∙◌, ap, subst, inl, inr}
use mathlib.Core.Option.{some}
use lib.ListN.{get_elem?}
use Rattle.std.proofs.lemmas.Bool.{cases_eq}
use Rattle.std.proofs.lemmas.List.{length-set}
use Rattle.std.proofs.lemmas.Option.{slice_get_within}
use Rattle.tx_model.specs.declared.gate.Region.{Region}
use Rattle.tx_model.specs.declared.view.Owned.{Owned}
use Rattle.tx_model.specs.declared.pass.PassState.TheVariants as state
use Rattle.tx_model.specs.Made.{IsIn}
use Rattle.tx_model.specs.Pass.{OwnsRegion}
use Rattle.ring_worlds.specs.declared.process.Process.{Process}
use Rattle.ring_worlds.specs.World.{World}
use Rattle.ring_worlds.specs.Owner.{IsOwner}
use Rattle.ring_worlds.specs.Own.{IsOwnAt}
use Rattle.ring_worlds.specs.Sound.{Sound, IsProcess, OwnApart, MayAsk}
use Rattle.ring_worlds.specs.Reader.{Knows}
use Rattle.ring_core.specs.declared.stage.Purpose.TheVariants.{Read, Stamp}
use Rattle.ring_worlds.specs.Moves.{with_owned}
use Rattle.ring_worlds.specs.Laws.{OwnedStoreKeeps}
use Rattle.ring_core.specs.declared.stage.Stage.{Stage}
use Rattle.ring_core.specs.declared.stage.Stage.TheVariants.{Closed, BeginIndex, BeginTag, ReadHeap, Check, StampSlot, StampSwap, Turn, Between}
use Rattle.ring_core.specs.Sound as core
use Rattle.ring_worlds.proofs.lemmas.Lists.{at_set, get_changed, get_kept}
use Rattle.ring_worlds.proofs.lemmas.Members.{index_in, among_at}
use Rattle.ring_worlds.proofs.memory.OwnedStore as memory
use Rattle.ring_worlds.proofs.worlds.Needs.{b, needs}
use Rattle.ring_worlds.proofs.worlds.Changed.{each_after, apart_after, belongs_after}

module _ (w : World) (s : Sound w) (who : ℕ) (p : Process) (index : ℕ) (o : Owned) (addr value : ℕ) (here : get_elem? w.processes who ≡ some p)
    (mine : slice_get p.owned index ≡ Some o) (inside : IsIn addr o.region) (free : p.caller.state ≢ state.Stamped) where
  abbrev changed : Owned
  changed = record o { now = set o.now (addr - o.region.base) value }

  abbrev q : Process
  q = record p { owned = set p.owned index changed }

  me : IsProcess w.shape w.opening w.regions (b w s) p
  me = s.each who p here

  below : index < length p.owned
  below = slice_get_within p.owned index o mine

  -- at each index there is a region that was there, with other words perhaps
  was : (k : ℕ) (x : Owned) → slice_get (set p.owned index changed) k ≡ Some x → (y : Owned) × (slice_get p.owned k ≡ Some y) × (y.region ≡ x.region)
  was k x at =
      elim (cases_eq k index) [
        | inl same ↦
            let now = get_changed p.owned index changed below in
            let at' : slice_get (set p.owned index changed) index ≡ Some x = subst (λ j. slice_get (set p.owned index changed) j ≡ Some x) same at in
            let is : changed ≡ x = cc in
            (o, subst (λ j. slice_get p.owned j ≡ Some o) (sym same) mine, ap (λ (z : Owned). z.region) is)
        | inr other ↦ (x, sym (get_kept p.owned index k changed other) ∙ at, refl)
      ]

  -- a region that it owned, whatever its words are now
  owner_as : (x : Owned) (now : List ℕ) → IsOwner w.opening w.regions (b w s) p x → length now ≡ x.region.len
      → IsOwner w.opening w.regions (b w s) q (record x { now = now })
  owner_as x now old words = record {
    ownable = record { region = old.ownable.region; sealed_words = old.ownable.sealed_words; words = words };
    entry = old.entry;
    some = old.some;
    noted = old.noted;
    commit = old.commit;
    there = old.there;
    seals = old.seals;
    still = old.still;
    kept = old.kept;
  }

  owner_changed : IsOwner w.opening w.regions (b w s) q changed
  owner_changed =
      let old = me.owns o (among_at p.owned index o mine) in
      owner_as o changed.now old (length-set o.now (addr - o.region.base) value ∙ old.ownable.words)

  owns : (x : Owned) → Contains q.owned x → IsOwner w.opening w.regions (b w s) q x
  owns x among =
      let (k, at) = index_in q.owned x among in
      elim (cases_eq k index) [
        | inl same ↦
            let now = get_changed p.owned index changed below in
            let at' : slice_get (set p.owned index changed) index ≡ Some x = subst (λ j. slice_get (set p.owned index changed) j ≡ Some x) same at in
            let is : changed ≡ x = cc in
            subst (IsOwner w.opening w.regions (b w s) q) is owner_changed
        | inr other ↦
            let old = me.owns x (among_at p.owned k x (sym (get_kept p.owned index k changed other) ∙ at)) in
            owner_as x x.now old old.ownable.words
      ]

  publishes : (region : Region) → Contains p.published region → OwnsRegion q.owned region
  publishes region published =
      let (k, y, less, at, is) = me.lawful.publishes region published in
      let (j, there) = index_in p.owned y (k, less, at) in
      elim (cases_eq j index) [
        | inl same ↦
            let there' : slice_get p.owned index ≡ Some y = subst (λ i. slice_get p.owned i ≡ Some y) same there in
            let that : o ≡ y = cc in
            let (m, short, found) = among_at q.owned index changed (get_changed p.owned index changed below) in
            (m, changed, short, found, ap (λ (z : Owned). z.region) that ∙ is)
        | inr other ↦ let (m, short, found) = among_at q.owned j y (get_kept p.owned index j changed other ∙ there) in (m, y, short, found, is)
      ]

  -- of a caller that isn't stamped nothing is owed of a slot
  no_slot : (stage : Stage) → core.IsStage w.shape p.caller stage → IsOwnAt w.shape (b w s) q stage
  no_slot Closed staged = tt
  no_slot BeginIndex staged = tt
  no_slot (BeginTag top at) staged = tt
  no_slot (ReadHeap a) staged = tt
  no_slot (Check why at) staged = tt
  no_slot (StampSlot top) staged = tt
  no_slot (StampSwap top) staged = tt
  no_slot (Turn at) staged = absurd (free staged.0.stamped)
  no_slot (Between at) staged = absurd (free staged.0.stamped)

  own_apart : OwnApart (set w.processes who q)
  own_apart i j a c k l x other at_addr e f at at' in_x in_other =
      elim (at_set w.processes who i q a e) [
        | inl (same, is) ↦
            elim (at_set w.processes who j q c f) [
              | inl (same', is') ↦
                  let one = was k x (subst (λ (z : Process). slice_get z.owned k ≡ Some x) (sym is) at) in
                  let two = was l other (subst (λ (z : Process). slice_get z.owned l ≡ Some other) (sym is') at') in
                  let r = s.own_apart who who p p k l one.0 two.0 at_addr here here one.1 two.1 (subst (IsIn at_addr) (sym one.2) in_x)
                  (subst (IsIn at_addr) (sym two.2) in_other) in
                  (same ∙ sym same', r.1)
              | inr (away, there) ↦
                  let one = was k x (subst (λ (z : Process). slice_get z.owned k ≡ Some x) (sym is) at) in
                  absurd (away (sym (s.own_apart who j p c k l one.0 other at_addr here there one.1 at' (subst (IsIn at_addr) (sym one.2) in_x) in_other).0))
            ]
        | inr (away, there) ↦
            elim (at_set w.processes who j q c f) [
              | inl (same', is') ↦
                  let two = was l other (subst (λ (z : Process). slice_get z.owned l ≡ Some other) (sym is') at') in
                  absurd (away (s.own_apart i who a p k l x two.0 at_addr there here at two.1 in_x (subst (IsIn at_addr) (sym two.2) in_other)).0)
              | inr (away', there') ↦ s.own_apart i j a c k l x other at_addr there there' at at' in_x in_other
            ]
      ]

  pub stored_sound : Sound (with_owned w who p index o addr value)
  stored_sound =
      record {
        complete = s.complete;
        opened = record { limits = s.opened.limits; regions = s.opened.regions; room = s.opened.room; heap = length-set w.heap addr value ∙ s.opened.heap };
        indexed = s.indexed;
        board = s.board;
        each = each_after w.processes who p q here
            (record {
              machine = me.machine;
              since = record { known = me.since.known; since = me.since.since };
              reader = record {
                behind = me.reader.behind;
                signed = me.reader.signed;
                ruled = me.reader.ruled;
                fresh = me.reader.fresh;
                agree = me.reader.agree;
                knows = known p.caller.stage me.reader.knows;
              };
              own = no_slot p.caller.stage me.machine.stage;
              lawful = record { follows = me.lawful.follows; asks = asks p.caller.stage me.lawful.asks; publishes = publishes; quiet = me.lawful.quiet };
              owns = owns;
            }) (λ i x away there. s.each i x there);
        apart = apart_after w.processes who p q here s.apart (λ e. absurd (free e));
        belongs = λ k above less. belongs_after w.processes who p q here k (λ stamped eq. absurd (free stamped)) (s.belongs k above less);
        own_apart = own_apart;
        memory = memory.stores w.shape w s.complete (needs w s) s.memory who p index o addr value here mine inside free;
      }
    where
      known : (stage : Stage) → Knows w.shape w.opening w.regions (b w s) p stage → Knows w.shape w.opening w.regions (b w s) q stage
      known Closed k = tt
      known BeginIndex k = tt
      known (BeginTag top at) k = k
      known (ReadHeap a) k = k
      known (Check why at) k = k
      known (StampSlot top) k = k
      known (StampSwap top) k = k
      known (Turn stage) k = k
      known (Between stage) k = k

      asks : (stage : Stage) → MayAsk w.regions p stage → MayAsk w.regions q stage
      asks Closed k = tt
      asks BeginIndex k = tt
      asks (BeginTag top at) k = tt
      asks (ReadHeap a) k = record {
        may = record { gate_read = k.may.gate_read; readable = k.may.readable; not_published = k.may.not_published };
        not_written = k.not_written;
      }
      asks (Check (Read a v) at) k = record {
        may = record { gate_read = k.may.gate_read; readable = k.may.readable; not_published = k.may.not_published };
        not_written = k.not_written;
      }
      asks (Check Stamp at) k = tt
      asks (StampSlot top) k = tt
      asks (StampSwap top) k = tt
      asks (Turn stage) k = tt
      asks (Between stage) k = tt

pub owned_store_keeps : OwnedStoreKeeps
owned_store_keeps w next who s store =
    subst Sound (sym store.after) (stored_sound w s who store.process store.index store.owned store.addr store.value store.here store.owns store.inside
    store.free)
