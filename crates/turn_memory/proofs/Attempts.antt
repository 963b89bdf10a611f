-- What a read and a write leave of a pass in an attempt, and how the attempt ends: it is undone, it only read, or it is a commit.
use Rattle.std.proofs.Common.{set, ◌≢◌, ◌≡◌, ◌↔◌, ℕ, ◌<◌, List, length, slice_index, slice_get, Option, Some, None, Result, Ok, Err, OnOk, OnErr, IsErr, refl, sym, ◌∙◌, ap, arith, inl, inr, ◌+◌, ◌-◌, Bool, true, nat_lt, unwrap_or, ◌≤◌, [], ◌∷◌}
use Rattle.std.proofs.lemmas.Bool.{cases_lt, cases_eq, false≢true}
use Rattle.std.proofs.lemmas.List.{get_or-set_same, get_or-set_other}
use Rattle.std.proofs.lemmas.List.Elements.{All-push}
use Rattle.std.proofs.lemmas.Option.{slice_get-get_or}
use Rattle.atomic_table.specs.Seated.{TableId}
use Rattle.tx_model.specs.declared.gate.Region.{Region}
use Rattle.tx_model.specs.declared.history.Commit.{Commit}
use Rattle.tx_model.specs.declared.pass.TheConstants.{MAX_WRITES}
use Rattle.tx_model.specs.declared.word.Word.{Word}
use Rattle.tx_model.specs.Words.{value_of, put}
use Rattle.tx_model.specs.Memory.{Agrees, after}
use Rattle.tx_model.specs.History.{state_at}
use Rattle.tx_model.specs.Attempt.{reads_with, MayRead, MayWrite, Fits, MayCommit}
use Rattle.tx_model.specs.Calls.{Read, IsFull, IsLater, Ended, Committed}
use Rattle.tx_model.proofs.lemmas.Calls.{later_itself}
use Rattle.tx_model.proofs.lemmas.Rule.{read_follows, write_follows, commit_follows}
use Rattle.tx_model.proofs.lemmas.States.{state_length, after_length}
use Rattle.turn_memory.specs.declared.table.About.{About}
use Rattle.turn_memory.specs.declared.pass.TurnPass.{TurnPass}
use Rattle.turn_memory.specs.Heap.{HeapView, read, value_in, words_of, written, resting}
use Rattle.turn_memory.specs.Lock.{GoodOf, BudgetOf, made_of, attempt_on, knowing, IsTable, LeadsOn, MayStep, Releases, Publishes, Told, idle_again, with_commit, with_pass, last_state, NoneSealed}
use Rattle.turn_memory.specs.TurnPass.{IsBuilt, HasHeap, IsOpen, view_of, attempt_of}
use Rattle.turn_memory.proofs.Known.{knows_view, as_seen}
use Rattle.tx_model.specs.declared.pass.Receipt.{Receipt}
use Rattle.tx_model.specs.declared.view.PassView.{PassView}
use Rattle.tx_model.specs.declared.view.Attempt.{Attempt}
use Rattle.tx_model.specs.Made.{IsMade}
use Rattle.tx_model.proofs.lemmas.Histories.{beginning_of_itself, entry_last, state_stays}
use Rattle.tx_model.proofs.lemmas.Memories.{after_commit_none, after_put}
use Rattle.tx_model.proofs.lemmas.Values.{value_cases, value_has, none_missing, put_length}
use Rattle.turn_memory.proofs.Steps.{gives_lock, publishes_commit}
use Rattle.turn_memory.proofs.Views.{plain_idle, known_published}

module _ {opening : List ℕ} {regions : List Region} {history : List Commit} {heap : HeapView} (o : IsOpen opening regions history heap) where
  abbrev last : List ℕ
  last = state_at opening history (length history)

  abbrev attempt : Attempt
  attempt = attempt_on history heap

  pub open_within : (addr : ℕ) → addr < length opening → addr < length heap.words
  open_within addr below = omega (arith, below, ap length o.last, state_length opening history (length history))

  module _ (addr : ℕ) (inside : addr < length opening) where
    -- ---- a read
    new_read : (known : Option ℕ) → Agrees (reads_with known heap.reads addr (slice_index heap.words addr)) last
    new_read (Some old) = o.reads
    new_read None =
        All-push (λ (w : Word). slice_get last w.addr ≡ Some w.value) heap.reads (record { addr = addr; value = slice_index heap.words addr }) o.reads
        (rw (← o.last) (slice_get-get_or heap.words addr 0 (open_within addr inside)))

    pub open_read : MayRead regions attempt addr → IsOpen opening regions history (read heap addr)
    open_read may = record {
      last = o.last;
      reads = new_read (value_of heap.writes addr);
      follows = read_follows opening regions attempt addr _ may o.follows;
      few = o.few;
      commits = o.commits;
      unsealed = o.unsealed;
    }

    -- ---- a write
    module _ (new : ℕ) (may : MayWrite regions attempt addr new) where
      few_written : ((value_of heap.writes addr ≡ None) × (length heap.writes ≡ MAX_WRITES) → ⊥) → length (put heap.writes addr new) ≤ MAX_WRITES
      few_written room =
          elim (value_cases heap.writes addr) [
            | inl (old, is) ↦ omega (arith, o.few, (put_length heap.writes addr new).0 (value_has heap.writes addr old is))
            | inr none ↦
                let more = (put_length heap.writes addr new).1 (none_missing heap.writes addr none) in
                let less : length heap.writes ≢ MAX_WRITES = λ full. room (none, full) in
                omega (arith, o.few, more, less)
          ]

      still_unsealed : NoneSealed regions (words_of (written heap addr new))
      still_unsealed region has =
          rw (after_put heap.words heap.writes addr new o.follows.placed.apart)
          (elim (cases_eq region.gate addr) [
            | inl same ↦ λ is.
                let below : addr < length (words_of heap) = omega (arith, after_length heap.words heap.writes, open_within addr inside) in
                let there = ap (slice_index (set (words_of heap) addr new)) same ∙ get_or-set_same (words_of heap) addr new 0 below in
                omega (arith, is, (may.opens region has (sym same)).1, there)
            | inr apart ↦ λ is. o.unsealed region has (sym (get_or-set_other (words_of heap) addr region.gate new 0 apart) ∙ is)
          ])

      -- it left the heap written, or as it was
      pub open_after : {A B : Type 0} (result : Result A B) → IsErr result ↔ IsFull attempt addr
          → (after : HeapView) → OnOk result (after ≡ written heap addr new) → OnErr result (after ≡ heap) → IsOpen opening regions history after
      open_after (Err full) exactly after ok err = rw err o
      open_after (Ok done) exactly after ok err =
          rw ok (record {
            last = o.last;
            reads = o.reads;
            follows = write_follows opening regions attempt addr new inside may o.follows;
            few = few_written (λ full. false≢true (exactly.1 full));
            commits = o.commits;
            unsealed = still_unsealed;
          })

module _ {S : Type 0} {good : GoodOf S} {budget : BudgetOf S} {about : About S} {table : TableId} {pass : TurnPass S}
    (p : IsBuilt good budget about table pass) {heap : HeapView} (w : HasHeap about p.view pass heap) where
  -- the same pass with another heap of the attempt
  pub still_built : {other : HeapView} (now : TurnPass S) → now.seat ≡ pass.seat → now.heap ≡ Some other
      → IsOpen (made_of about).opening (made_of about).regions p.view.history other → IsBuilt good budget about table now
  still_built now seat has is_open = record {
    seat = ap (λ seat. seat.table_id) seat ∙ p.seat;
    view = p.view;
    is_known = p.is_known;
    doing = inr (_, record { active = w.active; me = ap (λ seat. seat.me) seat ∙ w.me; has_heap = has; open_on = is_open });
  }

  pub reads : (addr : ℕ) → addr < length (made_of about).opening
      → Read (made_of about).opening p.view p.view (attempt_on p.view.history heap) (attempt_on p.view.history (read heap addr)) addr (value_in heap addr)
  reads addr inside = record {
    goes_on = record { active = w.active; later = later_itself p.view; start = omega arith };
    written = λ last is. rw is refl;
    reads = new_reads (value_of heap.writes addr);
    writes = refl;
    sealed = refl;
    published = refl;
    one_state = record { happened = omega arith; agree = new_read w.open_on addr inside (value_of heap.writes addr) };
  }
    where
      -- a word that isn't among the writes is as it was before
      new_reads : (known : Option ℕ) → reads_with known heap.reads addr (slice_index heap.words addr)
          ≡ reads_with known heap.reads addr (unwrap_or known (slice_index heap.words addr))
      new_reads None = refl
      new_reads (Some last) = refl

  -- ---- nothing was committed
  abbrev undone : HeapView
  undone = resting heap.words heap.commits

  pub may_release : (slots : ℕ) (other : HeapView) → other ≡ undone
      → MayStep (IsTable good budget about) Releases slots pass.seat.id (pass.seat.me.0, (0, Some other) ∷ []) (λ _. 0)
  may_release slots other is step =
      gives_lock good budget about slots pass.seat.id (pass.seat.me.0, (0, Some other) ∷ []) (knowing about p.view) undone
      (λ i. (knows_view p i, (0, Some (is i)) ∷ [])) w.active (record { words = w.open_on.last; commits = w.open_on.commits })

  module _ (now : TurnPass S) (other : HeapView) (gave : (n : ℕ) × Told Releases (pass.seat.me.0, (0, Some other) ∷ []) n now.seat.me) where
    released_me : now.seat.me ≡ (Some (knowing about (idle_again p.view)), [])
    released_me = gave.1.1 ∙ ap (λ known. (with_pass idle_again known, [])) (knows_view p)

    pub released_built : now.seat.table_id ≡ pass.seat.table_id → now.heap ≡ None → IsBuilt good budget about table now
    released_built seat none =
        record {
          seat = seat ∙ p.seat;
          view = idle_again p.view;
          is_known = record {
            history_is = p.is_known.history_is;
            plain = plain_idle p.view p.is_known.plain;
            whole = λ whole. let all = p.is_known.whole whole in record { front = all.front; mine = all.mine };
          };
          doing = inl (record { idle = refl; me = released_me; no_heap = none });
        }

    later : IsLater p.view (idle_again p.view)
    later = record { history = beginning_of_itself p.view.history; front = omega arith; mine = refl; owned = refl; share = refl }

    over : Ended p.view (idle_again p.view) (attempt_on p.view.history heap)
    over = record { idle = refl; later = later; front = omega (arith, p.is_known.plain.front) }

    pub ended : Ended (view_of pass) (view_of now) (attempt_of pass)
    ended = as_seen p now released_me w.has_heap Ended over

  -- ---- the attempt is a commit
  abbrev counted : HeapView
  counted = record heap { commits = heap.commits + 1 }

  -- where it wrote, there is room for one more, and it leads on from each state that fits
  module _ {allows : _} (made : IsMade allows good (made_of about)) {commits life : ℕ} {wrote : Bool} (tells : wrote ≡ nat_lt 0 (length heap.writes))
      (written : wrote ≡ true) (same_commits : commits ≡ heap.commits) (same_life : about.life ≡ life) (more : commits ≢ life)
      (may : (attempt_of pass).writes ≢ []
      → MayCommit (good (made_of about).sense (made_of about).opening) (budget (made_of about).sense) (attempt_of pass) (view_of pass).owned) where
    has_written : heap.writes ≢ []
    has_written none = false≢true (sym (ap (λ writes. nat_lt 0 (length writes)) none) ∙ sym tells ∙ written)

    fits_last : Fits (last_state (made_of about) p.view.history) (attempt_on p.view.history heap) p.view.owned
    fits_last = record { reads = w.open_on.reads; contents = rw p.is_known.plain.owned (λ o (k, below, is). absurd (omega (arith, below))) }

    room : length p.view.history < about.life
    room =
        elim (cases_lt (length p.view.history) about.life) [
          | inl less ↦ less
          | inr late ↦ absurd (more (omega (arith, same_commits, w.open_on.commits, late, p.is_known.history_is.lasts, same_life)))
        ]

    pub leads : LeadsOn good budget (made_of about) p.view.history counted
    leads =
        let asked = rw (w.me, w.has_heap) at may in
        let last = last_state (made_of about) p.view.history in
        let next = after_commit_none last (attempt_on p.view.history heap) p.view.owned refl ∙ ap (λ words. after words heap.writes) (sym w.open_on.last) in
        let good_last = p.is_known.history_is.good_states.states (length p.view.history) (omega arith) in
        let ends = asked has_written last good_last fits_last in
        record {
          words = w.open_on.last;
          reads = w.open_on.reads;
          writes = has_written;
          apart = w.open_on.follows.placed.apart;
          follows = commit_follows (made_of about).opening (made_of about).regions (attempt_on p.view.history heap) [] made.well_formed w.open_on.follows
              (λ o (n, below, at). absurd (omega (arith, below))) (λ i j before below. absurd (omega (arith, below)))
              (λ region (n, below, at). absurd (omega (arith, below)));
          commits = ap (λ n. n + 1) w.open_on.commits;
          unsealed = w.open_on.unsealed;
          room = room;
          is_good = rw next at ends.0;
          budget_falls = rw next at ends.1;
        }

    pub may_give : (slots : ℕ) (other : HeapView) → other ≡ counted
        → MayStep (IsTable good budget about) Publishes slots pass.seat.id (pass.seat.me.0, (0, Some other) ∷ []) (λ _. 0)
    may_give slots other is step =
        publishes_commit good budget about slots pass.seat.id (pass.seat.me.0, (0, Some other) ∷ []) (knowing about p.view) counted
        (λ i. (knows_view p i, (0, Some (is i)) ∷ [])) w.active leads

    module _ (now : TurnPass S) (other : HeapView) (is : other ≡ counted)
        (gave : (n : ℕ) × Told Publishes (pass.seat.me.0, (0, Some other) ∷ []) n now.seat.me) where
      abbrev grown : PassView
      grown = with_commit counted p.view

      published_me : now.seat.me ≡ (Some (knowing about grown), [])
      published_me = gave.1.1 other refl ∙ λ i. (with_pass (with_commit (is i)) (knows_view p i), [])

      pub published_built : now.seat.table_id ≡ pass.seat.table_id → now.heap ≡ None → IsBuilt good budget about table now
      published_built seat none = record {
        seat = seat ∙ p.seat;
        view = grown;
        is_known = known_published p.view counted leads p.is_known;
        doing = inl (record { idle = refl; me = published_me; no_heap = none });
      }

      state_before : state_at (made_of about).opening grown.history (length p.view.history) ≡ last_state (made_of about) p.view.history
      state_before = state_stays (made_of about).opening p.view.history grown.history (length p.view.history) (_, refl) (omega arith)

      pub committed : (receipt : Receipt) → receipt.stamp ≡ commits + 1 → receipt.wrote ≡ wrote
          → Committed (made_of about).opening (view_of pass) (view_of now) (attempt_of pass) receipt
      committed receipt stamp says =
          let number : receipt.stamp ≡ length p.view.history + 1 = omega (arith, stamp, same_commits, w.open_on.commits) in
          let index : receipt.stamp - 1 ≡ length p.view.history = omega (arith, number) in
          let none = p.is_known.plain.owned in
          as_seen p now published_me w.has_heap (λ v v' a. Committed (made_of about).opening v v' a receipt) (record {
            idle = refl;
            received = inl (
              says ∙ written,
              has_written,
              record {
                history = (_, refl);
                there = rw (index, none) (entry_last p.view.history _);
                fits = rw (index, state_before) fits_last;
                later = omega (arith, number);
                after_start = omega (arith, number);
                complete = omega (arith, number);
                front = omega (arith, p.is_known.plain.front);
                mine = rw number refl;
                owned = rw none refl;
                share = refl;
              },
            );
          })
