-- Stores of a turn, but for the last one: of the tags `filling` and `writing`, of a signature word, and of a word of the heap.
use Rattle.std.proofs.Common.{◌≡◌, ◌≢◌, ℕ, ◌+◌, ◌-◌, ◌*◌, ◌%◌, ◌<◌, ◌≤◌, nat_lt, true, List, [], length, set, slice_index, Contains, refl, sym, ◌∙◌, ap, subst, arith, inl}
use mathlib.Core.Option.{some}
use lib.ListN.{get_elem?}
use Rattle.std.proofs.lemmas.Bool.{cond_both, ltb-false}
use Rattle.std.proofs.lemmas.List.{append-nil, length-set}
use Rattle.std.proofs.lemmas.Option.{slice_get_within}
use Rattle.tx_model.specs.declared.view.Owned.{Owned}
use Rattle.tx_model.specs.Words.{word_at}
use Rattle.ring_sig.specs.Laws.{SignaturesMeet}
use Rattle.ring_core.specs.declared.stage.Stage.{Stage}
use Rattle.ring_core.specs.declared.stage.Stage.TheVariants as stages
use Rattle.ring_core.specs.declared.stage.TurnStage.{TurnStage}
use Rattle.ring_core.specs.declared.stage.TurnStage.TheVariants.{Filling, Signature, Writing, Earlier, Heap, Complete}
use Rattle.ring_core.specs.Sound as core
use Rattle.ring_core.specs.Laws.{StepKeeps}
use Rattle.ring_core.specs.Request.{is_open, action_at}
use Rattle.ring_worlds.specs.declared.process.Process.{Process}
use Rattle.ring_worlds.specs.World.{World, Board, moved_at, moved_on}
use Rattle.ring_worlds.specs.Board.{IsBoard, IsLater}
use Rattle.ring_worlds.specs.Reader.{IsReader, IsSince}
use Rattle.ring_worlds.specs.Own.{IsOwn, IsOwnAt, with_tag, with_word}
use Rattle.ring_worlds.specs.Owner.{IsOwner}
use Rattle.ring_worlds.specs.Memory.{IsMemory}
use Rattle.ring_worlds.specs.Sound.{Sound, IsProcess, IsLawful}
use Rattle.ring_worlds.specs.Steps.{found}
use Rattle.ring_worlds.proofs.board.Stores.{alone, fills, stores_word, writes}
use Rattle.ring_worlds.proofs.board.Owns.{turn_owns, own_tag, own_word, after_filling, one_more, own_slot, slot_inside}
use Rattle.ring_worlds.proofs.reads.Later.{reader_later, tag_rises, word_stored}
use Rattle.ring_worlds.proofs.memory.Turns.{turn_kept}
use Rattle.ring_worlds.proofs.memory.HeapStore as heap_store
use Rattle.ring_worlds.proofs.worlds.Needs.{b, commit_here, needs}
use Rattle.ring_worlds.proofs.worlds.Lawful.{lawful_at}
use Rattle.ring_worlds.proofs.worlds.Since.{since_at}
use Rattle.ring_worlds.proofs.worlds.Changed.{each_after, apart_after, belongs_after, own_apart_after, owner_later, process_later}
use Rattle.ring_worlds.proofs.worlds.Seen.{me, word, told, machine, same_owned, front_up, stays_stamped, stamp_within}

module _ (keeps : StepKeeps) (w : World) (s : Sound w) (who : ℕ) (p : Process) (here : get_elem? w.processes who ≡ some p) (stage : TurnStage)
    (is : p.caller.stage ≡ stages.Turn stage) (not_last : stage ≢ Complete)
    (zero : found w (action_at w.shape p.caller (stages.Turn stage)) ≡ 0) where
  abbrev pub board : Board
  board = b w s

  pub opened : is_open p.caller.stage ≡ true
  opened = ap is_open is

  mine : IsProcess w.shape w.opening w.regions board p
  mine = me keeps w s who p here opened

  pub fits : core.IsStamped w.shape p.caller.state p.caller.writes p.caller.start p.caller.stamp × core.IsTurnStage w.shape p.caller stage
  fits = subst (core.IsStage w.shape p.caller) is mine.machine.stage

  pub own_here : IsOwn w.shape board p stage
  own_here = subst (IsOwnAt w.shape board p) is mine.own

  pub within : p.caller.stamp ≤ length w.history
  within = stamp_within keeps w s who p here opened fits.0.stamped

  abbrev pub next : Process
  next = moved_at w.shape w.opening w.history p (stages.Turn stage) 0

  same_next : moved_on w.shape w.opening w.history p 0 ≡ next
  same_next = ap (λ stage. moved_at w.shape w.opening w.history p stage 0) is

  from_step : (P : Process → Type 0) → P (moved_on w.shape w.opening w.history p (word keeps w s who p here opened)) → P next
  from_step P holds = subst P (ap (moved_on w.shape w.opening w.history p) (ap (λ stage. found w (action_at w.shape p.caller stage)) is ∙ zero) ∙ same_next)
      holds

  not_complete : p.caller.stage ≢ stages.Turn Complete
  not_complete e = not_last (let h : stages.Turn stage ≡ stages.Turn Complete = sym is ∙ e in cc)

  stays : (next.caller.state ≡ p.caller.state) × (next.caller.stamp ≡ p.caller.stamp)
  stays = stays_stamped w.shape w.opening w.history p board stage 0 not_last

  owned_same : next.owned ≡ p.owned
  owned_same = same_owned w.shape w.opening w.history p (stages.Turn stage) 0 (λ e. not_last (let h : stages.Turn stage ≡ stages.Turn Complete = e in cc))

  next_machine : core.IsSound w.shape next.caller
  next_machine = from_step (λ x. core.IsSound w.shape x.caller) (machine keeps w s who p here opened)

  -- another stamped caller has another slot
  pub slots_apart : (o : Process) (at : TurnStage) → o.caller.stamp ≢ p.caller.stamp → IsOwn w.shape board o at
      → o.caller.stamp ≤ length w.history → o.caller.stamp % w.shape.ring ≢ p.caller.stamp % w.shape.ring
  slots_apart o at ne own short same =
      ne (alone w.shape w.opening w.regions s.opened.limits.some_entry board s.board o.caller.stamp p.caller.stamp own.newer short own_here.newer within same)

  module _ (tags sigs heap : List ℕ) (long : length heap ≡ w.shape.heap)
      (board_now : IsBoard w.shape w.opening w.regions (record { history = w.history; tags = tags; sigs = sigs; complete = s.complete }))
      (on : IsLater w.shape board (record { history = w.history; tags = tags; sigs = sigs; complete = s.complete }))
      (own_now : IsOwnAt w.shape (record { history = w.history; tags = tags; sigs = sigs; complete = s.complete }) next next.caller.stage)
      (others : (o : Process) (at : TurnStage) → core.IsTurnStage w.shape o.caller at → o.caller.stamp ≢ p.caller.stamp → o.caller.stamp ≤ length w.history
      → IsOwn w.shape board o at → IsOwn w.shape (record { history = w.history; tags = tags; sigs = sigs; complete = s.complete }) o at)
      (memory : IsMemory w.shape s.complete (record w {
        tags = tags;
        sigs = sigs;
        heap = heap;
        processes = set w.processes who (moved_on w.shape w.opening w.history p 0);
      })) where
    abbrev later : Board
    later = record { history = w.history; tags = tags; sigs = sigs; complete = s.complete }

    owners : (o q : Process) → o.front ≤ q.front → ((x : Owned) → Contains o.owned x → IsOwner w.opening w.regions board o x) → (x : Owned)
        → Contains o.owned x → IsOwner w.opening w.regions later q x
    owners o q front owns x among = owner_later w.shape w.opening w.regions s.opened.limits.some_entry board later s.board on refl o q front x (owns x among)

    now : IsProcess w.shape w.opening w.regions later next
    now =
        record {
          machine = next_machine;
          since = let old = from_step (IsSince board) (since_at w.shape w.opening w.regions board p mine.since mine.reader.behind p.caller.stage
              (word keeps w s who p here opened) opened not_complete mine.machine.stage (told keeps w s who p here opened)) in
              record { known = old.known; since = old.since };
          reader = reader_later w.shape w.opening w.regions s.opened.limits.some_entry board later s.board on next next_machine
              (from_step (IsReader w.shape w.opening w.regions board) (told keeps w s who p here opened).reader);
          own = own_now;
          lawful = from_step (IsLawful w.opening w.regions) (lawful_at w.shape w.opening w.regions w.history p mine.lawful mine.machine p.caller.stage
              (word keeps w s who p here opened) opened mine.machine.stage mine.lawful.asks);
          owns = λ x among. owners p next (from_step (λ x'. p.front ≤ x'.front) (front_up p _)) mine.owns x
              (subst (λ (l : List Owned). Contains l x) owned_same among);
        }

    other_own : (i : ℕ) (o : Process) → i ≢ who → get_elem? w.processes i ≡ some o → (stage : Stage) → core.IsStage w.shape o.caller stage
        → IsOwnAt w.shape board o stage → IsOwnAt w.shape later o stage
    other_own i o away there (stages.Turn at) staged own = others o at staged.1 (s.apart i who o p there here away staged.0.stamped fits.0.stamped)
        (let c = commit_here w s i o there staged.0.stamped in let at' = slice_get_within w.history (o.caller.stamp - 1) _ c.there in
        omega (arith, at', c.later)) own
    other_own i o away there (stages.Between at) staged own =
        others o at staged.1 (s.apart i who o p there here away staged.0.stamped fits.0.stamped)
        (let c = commit_here w s i o there staged.0.stamped in let at' = slice_get_within w.history (o.caller.stamp - 1) _ c.there in
        omega (arith, at', c.later)) own
    other_own i o away there stages.Closed staged own = tt
    other_own i o away there stages.BeginIndex staged own = tt
    other_own i o away there (stages.BeginTag top entry) staged own = tt
    other_own i o away there (stages.ReadHeap addr) staged own = tt
    other_own i o away there (stages.Check why at) staged own = tt
    other_own i o away there (stages.StampSlot top) staged own = tt
    other_own i o away there (stages.StampSwap top) staged own = tt

    pub stored : Sound (record w { tags = tags; sigs = sigs; heap = heap; processes = set w.processes who (moved_on w.shape w.opening w.history p 0) })
    stored =
        record {
          complete = s.complete;
          opened = record { limits = s.opened.limits; regions = s.opened.regions; room = s.opened.room; heap = long };
          indexed = s.indexed;
          board = board_now;
          each = each_after w.processes who p (moved_on w.shape w.opening w.history p 0) here
              (subst (IsProcess w.shape w.opening w.regions later) (sym same_next) now)
              (λ i o away there. let old = s.each i o there in process_later w.shape w.opening w.regions s.opened.limits.some_entry board later s.board on o
              old (other_own i o away there o.caller.stage old.machine.stage old.own) (owners o o (omega arith) old.owns));
          apart = apart_after w.processes who p (moved_on w.shape w.opening w.history p 0) here s.apart
              (λ e. inl (fits.0.stamped, ap (λ (x : Process). x.caller.stamp) same_next ∙ stays.1));
          belongs = λ k above below. belongs_after w.processes who p (moved_on w.shape w.opening w.history p 0) here k
              (λ stamped eq. (
                ap (λ (x : Process). x.caller.state) same_next ∙ stays.0 ∙ stamped,
                ap (λ (x : Process). x.caller.stamp) same_next ∙ stays.1
                    ∙ eq,
              )) (s.belongs k above below);
          own_apart = own_apart_after w.processes who p (moved_on w.shape w.opening w.history p 0) here (ap (λ (x : Process). x.owned) same_next ∙ owned_same)
              s.own_apart;
          memory = memory;
        }

-- ---- each store
module _ (keeps : StepKeeps) (law : SignaturesMeet) (w : World) (s : Sound w) (who : ℕ) (p : Process) (here : get_elem? w.processes who ≡ some p) where
  abbrev board0 : Board
  board0 = b w s

  abbrev stamp : ℕ
  stamp = p.caller.stamp

  pub fills_sound : p.caller.stage ≡ stages.Turn Filling
      → Sound (record w {
        tags = set w.tags (stamp % w.shape.ring) (4 * stamp + 1);
        processes = set w.processes who (moved_on w.shape w.opening w.history p 0);
      })
  fills_sound is =
      let own = own_here keeps w s who p here Filling is (λ e. cc) refl in
      let apart = slots_apart keeps w s who p here Filling is (λ e. cc) refl in
      stored keeps w s who p here Filling is (λ e. cc) refl (set w.tags (stamp % w.shape.ring) (4 * stamp + 1)) w.sigs w.heap s.opened.heap
      (fills w.shape w.opening w.regions s.opened.limits.some_entry board0 s.board p own)
      (tag_rises w.shape board0 (stamp % w.shape.ring) (4 * stamp + 1) s.complete (let t = own.tag in omega (arith, t)) (omega arith)
      (slot_inside w.shape s.opened.limits w.opening w.regions board0 s.board p))
      (after_filling w.shape s.opened.limits w.opening w.regions board0 s.board p own)
      (λ o at fits' ne short other. own_tag w.shape s.opened.limits.some_entry board0 o stamp (apart o at ne other short) at (4 * stamp + 1) other)
      (turn_kept law w.shape w s.complete (needs w s) s.memory who p Filling 0 (set w.tags (stamp % w.shape.ring) (4 * stamp + 1)) w.sigs here is tt tt)

  pub signature_sound : (j : ℕ) → p.caller.stage ≡ stages.Turn (Signature j)
      → Sound (record w {
        sigs = set w.sigs (stamp % w.shape.ring * w.shape.sig_words + j) (slice_index p.caller.write_sig j);
        processes = set w.processes who (moved_on w.shape w.opening w.history p 0);
      })
  signature_sound j is =
      let own = own_here keeps w s who p here (Signature j) is (λ e. cc) refl in
      let apart = slots_apart keeps w s who p here (Signature j) is (λ e. cc) refl in
      let small : j < w.shape.sig_words = (fits keeps w s who p here (Signature j) is (λ e. cc) refl).1 in
      let sigs : List ℕ = set w.sigs (stamp % w.shape.ring * w.shape.sig_words + j) (slice_index p.caller.write_sig j) in
      let later : Board = with_word w.shape board0 stamp j (slice_index p.caller.write_sig j) in
      let more = one_more w.shape s.opened.limits w.opening w.regions board0 s.board p j small own.tag.1 in
      stored keeps w s who p here (Signature j) is (λ e. cc) refl w.tags sigs w.heap s.opened.heap
      (stores_word w.shape w.opening w.regions s.opened.limits.some_entry board0 s.board p j own small)
      (word_stored w.shape board0 stamp (stamp % w.shape.ring) j (slice_index p.caller.write_sig j) own.tag.0 small)
      (cond_both (nat_lt (j + 1) w.shape.sig_words) (Signature (j + 1)) Writing
      (λ n. IsOwn w.shape later (record p { caller = record p.caller { stage = stages.Turn n } }) n)
      (λ further. record { newer = own.newer; there = own.there; tag = (own.tag.0, more) })
      (λ all. record {
        newer = own.newer;
        there = own.there;
        tag = (own.tag.0, λ k below. more k (let last = ltb-false _ _ all in omega (arith, last, below)));
      }))
      (λ o at ok ne short other. own_word w.shape s.opened.limits.some_entry board0 o stamp (apart o at ne other short) at j
      (slice_index p.caller.write_sig j) small
      (λ k at_k. let inside = subst (core.IsTurnStage w.shape o.caller) at_k ok in omega (arith, inside)) other)
      (turn_kept law w.shape w s.complete (needs w s) s.memory who p (Signature j) 0 w.tags sigs here is tt tt)

  pub writes_sound : p.caller.stage ≡ stages.Turn Writing
      → Sound (record w {
        tags = set w.tags (stamp % w.shape.ring) (4 * stamp + 2);
        processes = set w.processes who (moved_on w.shape w.opening w.history p 0);
      })
  writes_sound is =
      let own = own_here keeps w s who p here Writing is (λ e. cc) refl in
      let apart = slots_apart keeps w s who p here Writing is (λ e. cc) refl in
      let sized = (s.each who p here).machine.sized in
      let later : Board = with_tag w.shape board0 stamp (4 * stamp + 2) in
      let tag = own_slot w.shape s.opened.limits w.opening w.regions board0 s.board p (4 * stamp + 2) in
      stored keeps w s who p here Writing is (λ e. cc) refl (set w.tags (stamp % w.shape.ring) (4 * stamp + 2)) w.sigs w.heap s.opened.heap
      (writes w.shape w.opening w.regions s.opened.limits.some_entry board0 s.board p own sized.signed sized.wrote)
      (tag_rises w.shape board0 (stamp % w.shape.ring) (4 * stamp + 2) s.complete (let t = own.tag.0 in omega (arith, t)) (omega arith)
      (slot_inside w.shape s.opened.limits w.opening w.regions board0 s.board p))
      (cond_both (nat_lt p.caller.start (stamp - 1)) (Earlier (stamp - 1)) (Heap 0)
      (λ n. IsOwn w.shape later (record p { caller = record p.caller { stage = stages.Turn n } }) n)
      (λ more. record { newer = own.newer; there = own.there; tag = tag }) (λ none. record { newer = own.newer; there = own.there; tag = tag }))
      (λ o at fits' ne short other. own_tag w.shape s.opened.limits.some_entry board0 o stamp (apart o at ne other short) at (4 * stamp + 2) other)
      (turn_kept law w.shape w s.complete (needs w s) s.memory who p Writing 0 (set w.tags (stamp % w.shape.ring) (4 * stamp + 2)) w.sigs here is tt tt)

  pub heap_sound : (index : ℕ) → p.caller.stage ≡ stages.Turn (Heap index)
      → Sound (record w {
        heap = set w.heap (word_at p.caller.writes index).addr (word_at p.caller.writes index).value;
        processes = set w.processes who (moved_on w.shape w.opening w.history p 0);
      })
  heap_sound index is =
      let own = own_here keeps w s who p here (Heap index) is (λ e. cc) refl in
      let stamped = (fits keeps w s who p here (Heap index) is (λ e. cc) refl).0 in
      let short = within keeps w s who p here (Heap index) is (λ e. cc) refl in
      stored keeps w s who p here (Heap index) is (λ e. cc) refl w.tags w.sigs
      (set w.heap (word_at p.caller.writes index).addr (word_at p.caller.writes index).value)
      (length-set w.heap (word_at p.caller.writes index).addr (word_at p.caller.writes index).value ∙ s.opened.heap) s.board
      (record {
        history = ([], sym (append-nil w.history));
        complete = omega arith;
        tags = λ slot inside. omega arith;
        words = λ slot j inside below. inl refl;
      })
      (turn_owns w.shape s.opened.limits w.opening w.regions board0 s.board p (Heap index) 0 tt own (omega (arith, stamped.wrote)) (λ e eq. absurd cc) short).0
      (λ o at fits' ne short' other. other)
      (heap_store.stores w.shape w s.complete (needs w s) s.memory who p here index is)
