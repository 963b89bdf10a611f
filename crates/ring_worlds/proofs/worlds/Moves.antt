-- What a caller does without a step keeps a world sound.
use Rattle.std.proofs.Common.{◌≡◌, ◌≢◌, ℕ, ◌-◌, ◌<◌, ◌≤◌, ◌++◌, false, List, [], ◌∷◌, length, slice_get, Some, Contains, refl, sym, ◌∙◌, subst, arith, inl, inr}
use mathlib.Core.Option.{some}
use lib.ListN.{get_elem?}
use Rattle.std.proofs.lemmas.List.{append-nil, get_or_default}
use Rattle.std.proofs.lemmas.List.Elements.{Contains-append_cases}
use Rattle.tx_model.specs.declared.gate.Region.{Region}
use Rattle.tx_model.specs.declared.gate.TheConstants.{GATE_UNUSED, GATE_OPEN, GATE_SEALED, GATE_PACKED}
use Rattle.tx_model.specs.declared.view.Owned.{Owned}
use Rattle.tx_model.specs.declared.pass.PassState.TheVariants as state
use Rattle.tx_model.specs.Words.{no_word, word_at, value_of, HasAddress}
use Rattle.tx_model.specs.Attempt.{MayRead, MayWrite}
use Rattle.tx_model.specs.Rule.{WasOpen, AttemptFollows, MaySeal, MayPublish}
use Rattle.tx_model.specs.Pass.{OwnsRegion}
use Rattle.tx_model.proofs.lemmas.Rule.{open_was, packed_was, start_follows, write_follows, seal_follows, publish_follows}
use Rattle.tx_model.proofs.lemmas.Values.{value_place}
use Rattle.ring_core.specs.declared.shape.Shape.{Shape}
use Rattle.ring_core.specs.declared.caller.Caller.{Caller}
use Rattle.ring_core.specs.declared.stage.Stage.{Stage}
use Rattle.ring_core.specs.declared.stage.Stage.TheVariants.{Closed, BeginIndex, BeginTag, ReadHeap, Check, StampSlot, StampSwap, Turn, Between}
use Rattle.ring_core.specs.declared.stage.Purpose.TheVariants.{Stamp}
use Rattle.ring_core.specs.declared.stage.CheckStage.TheVariants.{Index}
use Rattle.ring_core.specs.declared.stage.TurnStage.{TurnStage}
use Rattle.ring_core.specs.declared.stage.TurnStage.TheVariants.{Filling, Signature, Writing, Earlier, EarlierWords, EarlierAgain, Heap, Before, Complete}
use Rattle.ring_core.specs.Sound as core
use Rattle.ring_core.specs.Laws as core_laws
use Rattle.ring_core.specs.Moves.{IsMoved}
use Rattle.ring_core.specs.Moves as moved
use Rattle.ring_core.specs.Machine.{resumed, written, IsFull}
use Rattle.ring_core.specs.Request.{is_open}
use Rattle.ring_core.specs.Outcomes.{idle}
use Rattle.ring_worlds.specs.declared.process.Process.{Process}
use Rattle.ring_worlds.specs.World.{World, Board, attempt_of, with_process}
use Rattle.ring_worlds.specs.Board.{IsLater}
use Rattle.ring_worlds.specs.Reader.{IsReaderAt, IsOpenTo, IsRuled}
use Rattle.ring_worlds.specs.Own.{IsOwn, IsOwnAt}
use Rattle.ring_worlds.specs.Owner.{IsOwner}
use Rattle.ring_worlds.specs.Stored.{stored_at}
use Rattle.ring_worlds.specs.Memory.{IsMemory, HasCleared}
use Rattle.ring_worlds.specs.Sound.{Sound, IsProcess, MayAsk}
use Rattle.ring_worlds.specs.Moves.{IsClosed, IsBetween, at_stage, with_written, with_seal, with_publish, ended, IsMove, Moves}
use Rattle.ring_worlds.specs.Moves as moves
use Rattle.ring_worlds.specs.Laws.{MoveKeeps}
use Rattle.ring_worlds.proofs.reads.Walks.{idles}
use Rattle.ring_worlds.proofs.memory.Moves.{kept, not_writing}
use Rattle.ring_worlds.proofs.worlds.Needs.{b}
use Rattle.ring_worlds.proofs.worlds.Changed.{each_after, apart_after, belongs_after, own_apart_after, owner_later}
use Rattle.ring_worlds.proofs.lemmas.Lists.{set_again}
use Rattle.ring_worlds.proofs.lemmas.Members.{contains_none, contains_cases}

-- ---- a caller becomes another one beside the same board
module _ (w : World) (s : Sound w) (who : ℕ) (p : Process) (here : get_elem? w.processes who ≡ some p) where
  abbrev board : Board
  board = b w s

  same_board : IsLater w.shape board board
  same_board = record {
    history = ([], sym (append-nil w.history));
    complete = omega arith;
    tags = λ slot inside. omega arith;
    words = λ slot j inside below. inl refl;
  }

  pub owners_kept : (q : Process) → q.owned ≡ p.owned → p.front ≤ q.front → (o : Owned) → Contains q.owned o → IsOwner w.opening w.regions board q o
  owners_kept q same front o among =
      owner_later w.shape w.opening w.regions s.opened.limits.some_entry board board s.board same_board refl p q front o
      ((s.each who p here).owns o (subst (λ (l : List Owned). Contains l o) same among))

  -- it keeps its stamp
  pub record KeepsStamp (q : Process) : Type 0 where
    pub was : q.caller.state ≡ state.Stamped → (p.caller.state ≡ state.Stamped) × (q.caller.stamp ≡ p.caller.stamp)
    pub still : p.caller.state ≡ state.Stamped → (q.caller.state ≡ state.Stamped) × (q.caller.stamp ≡ p.caller.stamp)

  pub becomes : (q : Process) → IsProcess w.shape w.opening w.regions board q → q.owned ≡ p.owned → KeepsStamp q
      → IsMemory w.shape s.complete (with_process w who q) → Sound (with_process w who q)
  becomes q mine same stamps memory =
      record {
        complete = s.complete;
        opened = record { limits = s.opened.limits; regions = s.opened.regions; room = s.opened.room; heap = s.opened.heap };
        indexed = s.indexed;
        board = s.board;
        each = each_after w.processes who p q here mine (λ i o away there. s.each i o there);
        apart = apart_after w.processes who p q here s.apart (λ e. inl (stamps.was e));
        belongs = λ k above below. belongs_after w.processes who p q here k (λ stamped eq. let still = stamps.still stamped in (still.0, still.1 ∙ eq))
            (s.belongs k above below);
        own_apart = own_apart_after w.processes who p q here same s.own_apart;
        memory = memory;
      }

  -- and isn't stamped before or after
  pub becomes_free : (q : Process) → IsProcess w.shape w.opening w.regions board q → q.owned ≡ p.owned → p.caller.state ≢ state.Stamped
      → q.caller.state ≢ state.Stamped → Sound (with_process w who q)
  becomes_free q mine same not not' =
      becomes q mine same (record { was = λ e. absurd (not' e); still = λ e. absurd (not e) })
      (kept w.shape s.complete w s.memory who p q here same (λ j stamped. absurd (not' stamped))
      (not_writing w.shape s.complete w.history s.memory.counts q.caller mine.machine not') w.index w.tags w.sigs)

-- ---- where no request is open
closed_stage : (shape : Shape) (c : Caller) (stage : Stage) → is_open stage ≡ false → core.IsStage shape c stage → c.state ≢ state.Stamped → stage ≡ Closed
closed_stage shape c Closed e staged not = refl
closed_stage shape c (Between at) e staged not = absurd (not staged.0.stamped)
closed_stage shape c BeginIndex e staged not = absurd cc
closed_stage shape c (BeginTag top at) e staged not = absurd cc
closed_stage shape c (ReadHeap addr) e staged not = absurd cc
closed_stage shape c (Check why at) e staged not = absurd cc
closed_stage shape c (StampSlot top) e staged not = absurd cc
closed_stage shape c (StampSwap top) e staged not = absurd cc
closed_stage shape c (Turn at) e staged not = absurd cc

stamped_stage : (shape : Shape) (c : Caller) (stage : Stage) → is_open stage ≡ false → core.IsStage shape c stage → c.state ≡ state.Stamped
    → (at : TurnStage) × (stage ≡ Between at)
stamped_stage shape c Closed e staged stamped = absurd (staged stamped)
stamped_stage shape c (Between at) e staged stamped = (at, refl)
stamped_stage shape c BeginIndex e staged stamped = absurd cc
stamped_stage shape c (BeginTag top at) e staged stamped = absurd cc
stamped_stage shape c (ReadHeap addr) e staged stamped = absurd cc
stamped_stage shape c (Check why at) e staged stamped = absurd cc
stamped_stage shape c (StampSlot top) e staged stamped = absurd cc
stamped_stage shape c (StampSwap top) e staged stamped = absurd cc
stamped_stage shape c (Turn at) e staged stamped = absurd cc

-- ---- each move
module _ (law : core_laws.MoveKeeps) (w : World) (s : Sound w) (who : ℕ) (p : Process) (here : get_elem? w.processes who ≡ some p) where
  abbrev at_board : Board
  at_board = b w s

  mine : IsProcess w.shape w.opening w.regions at_board p
  mine = s.each who p here

  machine : (d : Caller) → IsMoved w.shape p.caller d → core.IsSound w.shape d
  machine d is = law w.shape s.opened.limits p.caller d mine.machine is

  idle_free : p.caller.state ≡ state.Idle → p.caller.state ≢ state.Stamped
  idle_free is e = let no : state.Idle ≡ state.Stamped = sym is ∙ e in cc

  active_free : p.caller.state ≡ state.Active → p.caller.state ≢ state.Stamped
  active_free is e = let no : state.Active ≡ state.Stamped = sym is ∙ e in cc

  at_rest : IsBetween p → moved.IsAtRest p.caller
  at_rest between = record { active = between.active; closed = between.closed }

  -- the caller reads from where it did
  reader_closed : p.caller.stage ≡ Closed → IsReaderAt w.shape w.opening w.regions at_board p Closed
  reader_closed is = subst (IsReaderAt w.shape w.opening w.regions at_board p) is mine.reader

  -- a word that the attempt may read: the gate of its region was read as not sealed
  free_word : (addr : ℕ) → MayRead w.regions (attempt_of p) addr → IsRuled w.shape w.opening w.regions p.reads addr
  free_word addr may region among inside =
      elim (may.readable region among inside) [
        | inl is ↦ from_open (open_was w.regions (attempt_of p) mine.lawful.follows.uses region among is)
        | inr is ↦ read_as GATE_PACKED (λ e. omega (arith, e))
            (packed_was w.regions (attempt_of p) mine.lawful.follows.uses region among (may.not_published region among inside) is)
      ]
    where
      read_as : (value : ℕ) → value ≢ GATE_SEALED → value_of p.reads region.gate ≡ Some value → IsOpenTo w.shape w.opening w.regions p.reads region
      read_as value not is =
          let (i, below, at, same) = value_place p.reads region.gate value is in
          let word : word_at p.reads i ≡ record { addr = region.gate; value = value } =
          subst (λ a. word_at p.reads i ≡ record { addr = a; value = value }) at
          (subst (λ v. word_at p.reads i ≡ record { addr = (word_at p.reads i).addr; value = v }) same refl) in
          record { value = value; read = (i, below, get_or_default p.reads i _ no_word below ∙ word); not_sealed = not }

      from_open : WasOpen p.reads p.caller.writes region → IsOpenTo w.shape w.opening w.regions p.reads region
      from_open (inl is) = read_as GATE_OPEN (λ e. omega (arith, e)) is
      from_open (inr (is, wrote)) = read_as GATE_UNUSED (λ e. omega (arith, e)) is

  begins : p.caller.state ≡ state.Idle → IsClosed p → Sound (with_process w who (at_stage p BeginIndex))
  begins is_idle closed =
      let free = idle_free is_idle in
      let r = reader_closed (closed_stage w.shape p.caller p.caller.stage closed mine.machine.stage free) in
      becomes_free w s who p here (at_stage p BeginIndex)
      (record {
        machine = machine (record p.caller { stage = BeginIndex }) (moved.opens_begin is_idle closed refl);
        since = record { known = mine.since.known; since = mine.since.since };
        reader = record { behind = r.behind; signed = r.signed; ruled = r.ruled; fresh = r.fresh; agree = r.agree; knows = tt };
        own = tt;
        lawful = record { follows = mine.lawful.follows; asks = tt; publishes = mine.lawful.publishes; quiet = mine.lawful.quiet };
        owns = owners_kept w s who p here (at_stage p BeginIndex) refl (omega arith);
      }) refl free free

  stamps : IsBetween p → 0 < length p.caller.writes → Sound (with_process w who (at_stage p (Check Stamp Index)))
  stamps between wrote =
      let free = active_free between.active in
      let r = reader_closed (closed_stage w.shape p.caller p.caller.stage between.closed mine.machine.stage free) in
      becomes_free w s who p here (at_stage p (Check Stamp Index))
      (record {
        machine = machine (record p.caller { stage = Check Stamp Index }) (moved.opens_stamp (at_rest between) wrote refl);
        since = record { known = mine.since.known; since = mine.since.since };
        reader = record { behind = r.behind; signed = r.signed; ruled = r.ruled; fresh = r.fresh; agree = r.agree; knows = tt };
        own = tt;
        lawful = record { follows = mine.lawful.follows; asks = tt; publishes = mine.lawful.publishes; quiet = mine.lawful.quiet };
        owns = owners_kept w s who p here (at_stage p (Check Stamp Index)) refl (omega arith);
      }) refl free free

  reads : (addr : ℕ) → IsBetween p → addr < w.shape.heap → (HasAddress p.caller.writes addr → ⊥) → MayRead w.regions (attempt_of p) addr
      → Sound (with_process w who (at_stage p (ReadHeap addr)))
  reads addr between inside not_written may =
      let free = active_free between.active in
      let r = reader_closed (closed_stage w.shape p.caller p.caller.stage between.closed mine.machine.stage free) in
      becomes_free w s who p here (at_stage p (ReadHeap addr))
      (record {
        machine = machine (record p.caller { stage = ReadHeap addr }) (moved.opens_read addr (at_rest between) inside not_written refl);
        since = record { known = mine.since.known; since = mine.since.since };
        reader = record { behind = r.behind; signed = r.signed; ruled = r.ruled; fresh = r.fresh; agree = r.agree; knows = free_word addr may };
        own = tt;
        lawful = record {
          follows = mine.lawful.follows;
          asks = record { may = record { gate_read = may.gate_read; readable = may.readable; not_published = may.not_published }; not_written = not_written };
          publishes = mine.lawful.publishes;
          quiet = mine.lawful.quiet;
        };
        owns = owners_kept w s who p here (at_stage p (ReadHeap addr)) refl (omega arith);
      }) refl free free

  -- a write to the write set, by which the attempt may seal and publish regions
  puts : (addr value : ℕ) (sealed published : List Region) → IsBetween p → addr < w.shape.heap → (IsFull p.caller addr → ⊥)
      → AttemptFollows w.opening w.regions (record {
        start = p.caller.start;
        reads = p.reads;
        writes = (written p.caller addr value).writes;
        sealed = sealed;
        published = published;
      })
      → ((region : Region) → Contains published region → OwnsRegion p.owned region)
      → Sound (with_process w who (record p { caller = written p.caller addr value; sealed = sealed; published = published }))
  puts addr value sealed published between inside room follows owned =
      let free = active_free between.active in
      let at_closed = closed_stage w.shape p.caller p.caller.stage between.closed mine.machine.stage free in
      let q : Process = record p { caller = written p.caller addr value; sealed = sealed; published = published } in
      let r = reader_closed at_closed in
      let reader : IsReaderAt w.shape w.opening w.regions at_board q Closed =
      record { behind = r.behind; signed = r.signed; ruled = r.ruled; fresh = r.fresh; agree = r.agree; knows = tt } in
      becomes_free w s who p here q
      (record {
        machine = machine q.caller (moved.puts_write addr value (at_rest between) inside room refl);
        since = record { known = mine.since.known; since = mine.since.since };
        reader = subst (IsReaderAt w.shape w.opening w.regions at_board q) (sym at_closed) reader;
        own = subst (IsOwnAt w.shape at_board q) (sym at_closed) tt;
        lawful = record {
          follows = follows;
          asks = subst (MayAsk w.regions q) (sym at_closed) tt;
          publishes = owned;
          quiet = λ e. let no : state.Active ≡ state.Idle = sym between.active ∙ e in cc;
        };
        owns = owners_kept w s who p here q refl (omega arith);
      }) refl free free

  writes : (addr value : ℕ) → IsBetween p → addr < w.shape.heap → MayWrite w.regions (attempt_of p) addr value → (IsFull p.caller addr → ⊥)
      → Sound (with_process w who (with_written p addr value))
  writes addr value between inside may room =
      puts addr value p.sealed p.published between inside room
      (write_follows w.opening w.regions (attempt_of p) addr value (omega (arith, inside, s.opened.room)) may mine.lawful.follows) mine.lawful.publishes

  gate_inside : (region : Region) → Contains w.regions region → region.gate < w.shape.heap
  gate_inside region among = omega (arith, (s.opened.regions.lie_in region among).2, s.opened.room)

  seals : (region : Region) → IsBetween p → MaySeal w.regions (attempt_of p) region → (IsFull p.caller region.gate → ⊥)
      → Sound (with_process w who (with_seal p region))
  seals region between may room =
      puts region.gate GATE_SEALED (p.sealed ++ region ∷ []) p.published between (gate_inside region may.of_memory) room
      (seal_follows w.opening w.regions (attempt_of p) region s.opened.regions may mine.lawful.follows) mine.lawful.publishes

  publishes : (region : Region) → IsBetween p → MayPublish w.regions (attempt_of p) region → OwnsRegion p.owned region
      → (IsFull p.caller region.gate → ⊥) → Sound (with_process w who (with_publish p region))
  publishes region between may own room =
      puts region.gate GATE_PACKED p.sealed (p.published ++ region ∷ []) between (gate_inside region may.of_memory) room
      (publish_follows w.opening w.regions (attempt_of p) region s.opened.regions may mine.lawful.follows) also
    where
      also : (other : Region) → Contains (p.published ++ region ∷ []) other → OwnsRegion p.owned other
      also other among =
          elim (Contains-append_cases p.published (region ∷ []) other among) [
            | inl before ↦ mine.lawful.publishes other before
            | inr last ↦ elim (contains_cases region [] other last) [
              | inl same ↦ subst (OwnsRegion p.owned) same own
              | inr none ↦ absurd (contains_none other none)
            ]
          ]

  ends : IsBetween p → Sound (with_process w who (ended w.shape p))
  ends between =
      becomes_free w s who p here (ended w.shape p)
      (record {
        machine = machine (idle w.shape p.caller) (moved.ends_attempt (at_rest between) refl);
        since = record { known = omega (arith, mine.since.known, mine.reader.behind); since = λ e. absurd (e refl) };
        reader = idles w.shape w.opening w.regions at_board s.board p _ _ _ _ mine.reader.behind;
        own = tt;
        lawful = record {
          follows = start_follows w.opening w.regions p.caller.start;
          asks = tt;
          publishes = λ region among. absurd (contains_none region among);
          quiet = λ e. (refl, refl);
        };
        owns = owners_kept w s who p here (ended w.shape p) refl (omega arith);
      }) refl (active_free between.active) (λ e. let no : state.Idle ≡ state.Stamped = e in cc)

  turns : p.caller.state ≡ state.Stamped → IsClosed p → Sound (with_process w who (at_stage p (resumed p.caller.stage)))
  turns stamped closed =
      let (stage, is) = stamped_stage w.shape p.caller p.caller.stage closed mine.machine.stage stamped in
      let q : Process = at_stage p (Turn stage) in
      let r = subst (IsReaderAt w.shape w.opening w.regions at_board p) is mine.reader in
      let own : IsOwn w.shape at_board p stage = subst (IsOwnAt w.shape at_board p) is mine.own in
      let writing = s.memory.writing who p here in
      let counted = subst (λ (stage : Stage). p.caller.state ≡ state.Stamped
      → slice_get s.memory.counts (p.caller.stamp - 1) ≡ Some (stored_at p.caller stage)) is writing.counted in
      let cleared = subst (HasCleared w.shape s.complete w.history p.caller) is writing.cleared in
      subst (λ (stage : Stage). Sound (with_process w who (at_stage p (resumed stage)))) (sym is)
      (becomes w s who p here q
      (record {
        machine = subst (λ (stage : Stage). core.IsSound w.shape (record p.caller { stage = resumed stage })) is
            (machine (record p.caller { stage = resumed p.caller.stage }) (moved.opens_turn stamped closed refl));
        since = record { known = mine.since.known; since = mine.since.since };
        reader = record { behind = r.behind; signed = r.signed; ruled = r.ruled; fresh = r.fresh; agree = r.agree; knows = r.knows };
        own = record { newer = own.newer; there = own.there; tag = own.tag };
        lawful = record { follows = mine.lawful.follows; asks = tt; publishes = mine.lawful.publishes; quiet = mine.lawful.quiet };
        owns = owners_kept w s who p here q refl (omega arith);
      }) refl (record { was = λ e. (stamped, refl); still = λ e. (stamped, refl) })
      (kept w.shape s.complete w s.memory who p q here refl
      (λ j e from below. s.memory.spared who p j here stamped (subst (λ (stage : Stage). stored_at p.caller stage ≤ j) (sym is) from) below)
      (record { counted = counted; cleared = turn_cleared stage cleared }) w.index w.tags w.sigs))
    where
      turn_cleared : (stage : TurnStage) → HasCleared w.shape s.complete w.history p.caller (Between stage)
          → HasCleared w.shape s.complete w.history (record p.caller { stage = Turn stage }) (Turn stage)
      turn_cleared Filling h = tt
      turn_cleared (Signature j) h = tt
      turn_cleared Writing h = tt
      turn_cleared (Earlier at) h = h
      turn_cleared (EarlierWords at j) h = h
      turn_cleared (EarlierAgain at) h = h
      turn_cleared (Heap at) h = h
      turn_cleared Before h = tt
      turn_cleared Complete h = tt

  pub move_sound : (q : Process) → IsMove w.shape w.regions p q → Sound (with_process w who q)
  move_sound q (moves.begins is_idle closed is) = subst (λ (x : Process). Sound (with_process w who x)) (sym is) (begins is_idle closed)
  move_sound q (moves.reads addr between inside not_written may is) =
      subst (λ (x : Process). Sound (with_process w who x)) (sym is) (reads addr between inside not_written may)
  move_sound q (moves.rereads addr between wrote may is) =
      subst (λ (x : Process). Sound (with_process w who x)) (sym is)
      (subst (λ (l : List Process). Sound (record w { processes = l })) (sym (set_again w.processes who p here)) s)
  move_sound q (moves.writes addr value between inside may room is) =
      subst (λ (x : Process). Sound (with_process w who x)) (sym is) (writes addr value between inside may room)
  move_sound q (moves.seals region between may room is) = subst (λ (x : Process). Sound (with_process w who x)) (sym is) (seals region between may room)
  move_sound q (moves.publishes region between may own room is) =
      subst (λ (x : Process). Sound (with_process w who x)) (sym is) (publishes region between may own room)
  move_sound q (moves.stamps between wrote is) = subst (λ (x : Process). Sound (with_process w who x)) (sym is) (stamps between wrote)
  move_sound q (moves.turns stamped closed is) = subst (λ (x : Process). Sound (with_process w who x)) (sym is) (turns stamped closed)
  move_sound q (moves.ends between is) = subst (λ (x : Process). Sound (with_process w who x)) (sym is) (ends between)

pub moves_keep : core_laws.MoveKeeps → MoveKeeps
moves_keep law w next who s move = subst Sound (sym move.after) (move_sound law w s who move.process move.here move.moved move.moves)
