-- What holds of a caller beside a board holds beside a later one.
use native.Mathlib.Decide.{ℕ_discrete}
use Rattle.std.proofs.lemmas.List.{append-nil}
use Rattle.std.proofs.lemmas.Nat.{div-mul-add}
use Rattle.std.proofs.Common.{get_or-set_same, get_or-set_other, set, ◌/◌, ◌≡◌, ◌≢◌, ℕ, ◌+◌, ◌-◌, ◌*◌, ◌%◌, ◌<◌, ◌≤◌, List, [], ◌∷◌, ◌++◌, length, slice_get, slice_index, Some, refl, sym, ◌∙◌, ap, subst, arith, inl, inr, mod-lt}
use Rattle.tx_model.specs.declared.gate.Region.{Region}
use Rattle.tx_model.specs.declared.word.Word.{Word}
use Rattle.tx_model.specs.declared.history.Commit.{Commit}
use Rattle.tx_model.specs.Words.{addresses}
use Rattle.tx_model.specs.Memory.{Agrees}
use Rattle.tx_model.specs.History.{state_at, IsBeginning}
use Rattle.tx_model.proofs.lemmas.Histories.{state_stays, beginning_length}
use Rattle.ring_core.specs.declared.shape.Shape.{Shape}
use Rattle.ring_core.specs.declared.caller.Caller.{Caller}
use Rattle.ring_core.specs.declared.stage.Stage.{Stage}
use Rattle.ring_core.specs.declared.stage.Stage.TheVariants.{Closed, BeginIndex, BeginTag, ReadHeap, Check, StampSlot, StampSwap, Turn, Between}
use Rattle.ring_core.specs.declared.stage.Purpose.{Purpose}
use Rattle.ring_core.specs.declared.stage.Purpose.TheVariants.{Read, Stamp}
use Rattle.ring_core.specs.declared.stage.CheckStage.{CheckStage}
use Rattle.ring_core.specs.declared.stage.CheckStage.TheVariants.{Index, First, Words, Second}
use Rattle.ring_core.specs.declared.stage.Walk.{Walk}
use Rattle.ring_core.specs.declared.stage.TurnStage.{TurnStage}
use Rattle.ring_core.specs.declared.stage.TurnStage.TheVariants.{Filling, Signature, Writing, Earlier, EarlierWords, EarlierAgain, Heap, Before, Complete}
use Rattle.ring_core.specs.Sound as core
use Rattle.ring_worlds.specs.declared.process.Process.{Process}
use Rattle.ring_worlds.specs.World.{Board, tag_of, read_for}
use Rattle.ring_worlds.specs.Board.{IsBoard, IsLater}
use Rattle.ring_worlds.specs.Reader.{AreSame, IsLoaded, IsValue, IsWalking, IsSeen, HasWords, KnowsCheck, KnowsTurn, IsChecked, Knows, IsReader, good_to}
use Rattle.ring_worlds.proofs.lemmas.Lists.{get_earlier}

module _ (shape : Shape) (opening : List ℕ) (regions : List Region) (some_entry : 1 ≤ shape.ring) (b later : Board) (ok : IsBoard shape opening regions b)
    (on : IsLater shape b later) where
  longer : length b.history ≤ length later.history
  longer = beginning_length b.history later.history on.history

  stays : (k : ℕ) → k ≤ length b.history → state_at opening later.history k ≡ state_at opening b.history k
  stays k within = state_stays opening b.history later.history k on.history within

  rose : (i : ℕ) → tag_of shape b i ≤ tag_of shape later i
  rose i = on.tags (i % shape.ring) (mod-lt i (omega (arith, some_entry)))

  agrees_later : (reads : List Word) (k : ℕ) → k ≤ length b.history → Agrees reads (state_at opening b.history k)
      → Agrees reads (state_at opening later.history k)
  agrees_later reads k within agrees = subst (Agrees reads) (sym (stays k within)) agrees

  same_later : (addrs : List ℕ) (low high : ℕ) → high ≤ length b.history → low ≤ length b.history
      → AreSame shape opening regions b.history addrs low high → AreSame shape opening regions later.history addrs low high
  same_later addrs low high within low_within same k from upto addr among =
      ap (λ memory. slice_get memory addr) (stays k (omega (arith, upto, within))) ∙ same k from upto addr among
      ∙ sym (ap (λ memory. slice_get memory addr) (stays low low_within))

  loaded_later : (start limit limit' addr value : ℕ) → limit ≤ length b.history → limit ≤ limit'
      → IsLoaded shape opening regions b start limit addr value → IsLoaded shape opening regions later start limit' addr value
  loaded_later start limit limit' addr value within more v =
      record {
        entry = v.entry;
        after = v.after;
        within = omega (arith, v.within, more);
        source = λ newer.
            let s = v.source newer in
            record {
              published = omega (arith, s.published, rose v.entry);
              commit = s.commit;
              there = subst (λ h. slice_get h (v.entry - 1) ≡ Some s.commit) (sym on.history.1)
                  (get_earlier b.history on.history.0 (v.entry - 1) s.commit s.there);
              touches = s.touches;
            };
        value = elim v.value [
          | inl e ↦ inl (ap (λ memory. slice_get memory addr) (stays v.entry (omega (arith, v.within, within))) ∙ e)
          | inr (newer, sealing) ↦ inr (
            newer,
            record {
              commit = sealing.commit;
              there = subst (λ h. slice_get h (v.entry - 1) ≡ Some sealing.commit) (sym on.history.1)
                  (get_earlier b.history on.history.0 (v.entry - 1) sealing.commit sealing.there);
              region = sealing.region;
              seals = sealing.seals;
              inside =
                  sealing.inside;
            },
          )
        ];
      }

  value_later : (start limit limit' : ℕ) (purpose : Purpose) → limit ≤ length b.history → limit ≤ limit'
      → IsValue shape opening regions b start limit purpose → IsValue shape opening regions later start limit' purpose
  value_later start limit limit' (Read addr value) within more v = loaded_later start limit limit' addr value within more v
  value_later start limit limit' Stamp within more v = tt

  good_within : (purpose : Purpose) (walk : Walk) → walk.candidate ≤ walk.top → good_to purpose walk ≤ walk.top
  good_within (Read addr value) walk h = h
  good_within Stamp walk h = omega arith

  walking_later : (start : ℕ) (addrs : List ℕ) (purpose : Purpose) (walk : Walk) → core.IsWalk shape start purpose walk
      → IsWalking shape opening regions b start addrs purpose walk → IsWalking shape opening regions later start addrs purpose walk
  walking_later start addrs purpose walk w walking =
      record {
        known = omega (arith, walking.known, longer);
        same = same_later addrs walk.at (good_to purpose walk) (let g = good_within purpose walk w.most in omega (arith, g, walking.known))
            (omega (arith, w.within, walking.known)) walking.same;
        moves = λ past. walking.moves (omega (arith, past, on.complete));
        value = value_later start walk.at walk.at purpose (omega (arith, w.within, walking.known)) (omega arith) walking.value;
        published = λ is newer. let p = walking.published is newer in omega (arith, p, rose walk.top);
      }

  seen_later : (walk : Walk) → IsSeen shape opening regions b walk → IsSeen shape opening regions later walk
  seen_later walk seen = omega (arith, seen, rose walk.at)

  -- while the slot isn't filled again its words stay
  words_later : (loaded : List ℕ) (at count : ℕ) → count ≤ shape.sig_words → 4 * at + 2 ≤ tag_of shape b at
      → HasWords shape opening regions b loaded at count → HasWords shape opening regions later loaded at count
  words_later loaded at count most seen words now word below =
      let still : tag_of shape b at ≤ 4 * at + 3 = omega (arith, now, rose at) in
      elim (on.words (at % shape.ring) word (mod-lt at (omega (arith, some_entry))) (omega (arith, below, most))) [
        | inl same ↦ words still word below ∙ sym same
        | inr (n, filling) ↦ absurd (omega (arith, filling, still, seen))
      ]

  check_later : (c : Caller) (addrs : List ℕ) (purpose : Purpose) (stage : CheckStage) → core.IsCheckStage shape c.start purpose stage
      → KnowsCheck shape opening regions b c addrs purpose stage → KnowsCheck shape opening regions later c addrs purpose stage
  check_later c addrs purpose Index w known = value_later c.start (length b.history) (length later.history) purpose (omega arith) longer known
  check_later c addrs purpose (First walk) w known = walking_later c.start addrs purpose walk w known
  check_later c addrs purpose (Words walk word) w known =
      (walking_later c.start addrs purpose walk w.0 known.0, seen_later walk known.1, words_later c.loaded walk.at word (omega (arith, w.1)) known.1 known.2)
  check_later c addrs purpose (Second walk) w known =
      (walking_later c.start addrs purpose walk w known.0, seen_later walk known.1, words_later c.loaded walk.at shape.sig_words (omega arith) known.1 known.2)

  checked_later : (start : ℕ) (reads : List Word) (top : ℕ) → IsChecked shape opening regions b start reads top
      → IsChecked shape opening regions later start reads top
  checked_later start reads top known =
      record {
        known = omega (arith, known.known, longer);
        agree = λ k low high. agrees_later reads k (omega (arith, high, known.known)) (known.agree k low high);
        published = λ some. let p = known.published some in omega (arith, p, rose top);
      }

  turn_later : (p : Process) (stage : TurnStage) → core.IsTurnStage shape p.caller stage → KnowsTurn shape opening regions b p.caller.loaded stage
      → KnowsTurn shape opening regions later p.caller.loaded stage
  turn_later p (EarlierWords at word) fits known =
      (omega (arith, known.0, longer), words_later p.caller.loaded at word (omega (arith, fits.1)) (ok.published at (omega (arith, fits.0.0)) known.0) known.1)
  turn_later p Filling fits known = tt
  turn_later p (Signature j) fits known = tt
  turn_later p Writing fits known = tt
  turn_later p (Earlier at) fits known = tt
  turn_later p (EarlierAgain at) fits known = tt
  turn_later p (Heap index) fits known = tt
  turn_later p Before fits known = tt
  turn_later p Complete fits known = tt

  knows_later : (p : Process) (stage : Stage) → core.IsStage shape p.caller stage → Knows shape opening regions b p stage
      → Knows shape opening regions later p stage
  knows_later p Closed staged known = tt
  knows_later p BeginIndex staged known = tt
  knows_later p (BeginTag top at) staged known = (omega (arith, known.0, longer), known.1)
  knows_later p (ReadHeap addr) staged known = known
  knows_later p (Check purpose at) staged known = check_later p.caller (addresses (p.reads ++ read_for purpose)) purpose at staged.2 known
  knows_later p (StampSlot top) staged known = checked_later p.caller.start p.reads top known
  knows_later p (StampSwap top) staged known = (checked_later p.caller.start p.reads top known.0, omega (arith, known.1, on.complete))
  knows_later p (Turn at) staged known = turn_later p at staged.1 known
  knows_later p (Between at) staged known = turn_later p at staged.1 known

  pub reader_later : (p : Process) → core.IsSound shape p.caller → IsReader shape opening regions b p → IsReader shape opening regions later p
  reader_later p sound r =
      record {
        behind = omega (arith, r.behind, on.complete);
        signed = r.signed;
        ruled = r.ruled;
        fresh = r.fresh;
        agree = λ active. agrees_later p.reads p.caller.start (omega (arith, r.behind, ok.counted)) (r.agree active);
        knows = knows_later p p.caller.stage sound.stage r.knows;
      }

-- ---- the boards that steps lead to are later
module _ (shape : Shape) (b : Board) where
  -- a tag rises, and perhaps the number of complete entries with it
  pub tag_rises : (slot tag complete : ℕ) → slice_index b.tags slot ≤ tag → b.complete ≤ complete → slot < length b.tags
      → IsLater shape b (record b { tags = set b.tags slot tag; complete = complete })
  tag_rises slot tag complete low more inside =
      record {
        history = ([], sym (append-nil b.history));
        complete = more;
        tags = λ s below. elim (ℕ_discrete s slot) [
          | yes same ↦ omega (arith, ap (slice_index b.tags) same, ap (slice_index (set b.tags slot tag)) same, get_or-set_same b.tags slot tag 0 inside, low)
          | no other ↦ omega (arith, get_or-set_other b.tags slot s tag 0 other)
        ];
        words = λ s word below small. inl refl;
      }

  -- a signature word is stored in a slot that is being filled
  pub word_stored : (n slot word value : ℕ) → slice_index b.tags slot ≡ 4 * n + 1 → word < shape.sig_words
      → IsLater shape b (record b { sigs = set b.sigs (slot * shape.sig_words + word) value })
  word_stored n slot word value filling small =
      record {
        history = ([], sym (append-nil b.history));
        complete = omega arith;
        tags = λ s below. omega arith;
        words = λ s k below fits. elim (ℕ_discrete s slot) [
          | yes same ↦ inr (n, ap (slice_index b.tags) same ∙ filling)
          | no other ↦ inl (get_or-set_other b.sigs (slot * shape.sig_words + word) (s * shape.sig_words + k) value 0 (apart s slot k word fits small other))
        ];
      }
    where
      apart : (s t k j : ℕ) → k < shape.sig_words → j < shape.sig_words → s ≢ t → s * shape.sig_words + k ≢ t * shape.sig_words + j
      apart s t k j fits small' other e = other (sym (div-mul-add s shape.sig_words k fits) ∙ ap (λ n. n / shape.sig_words) e
          ∙ div-mul-add t shape.sig_words j small')

  -- a commit joins
  pub commit_joins : (commit : Commit) → IsLater shape b (record b { history = b.history ++ commit ∷ [] })
  commit_joins commit = record {
    history = (commit ∷ [], refl);
    complete = omega arith;
    tags = λ slot inside. omega arith;
    words = λ slot word inside below. inl refl;
  }

-- what is known of the reads is known of the state in any beginning of the history that has come so far
pub handed_out : (opening : List ℕ) (view history : List Commit) (reads : List Word) (k : ℕ) → IsBeginning view history → k ≤ length view
    → Agrees reads (state_at opening history k) → Agrees reads (state_at opening view k)
handed_out opening view history reads k begins within agrees = subst (Agrees reads) (state_stays opening view history k begins within) agrees
