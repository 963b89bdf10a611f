-- A commit from its first request to stamp to its last turn.
use Rattle.std.proofs.Common.{◌≡◌, ◌≢◌, ℕ, ◌-◌, ◌<◌, ◌≤◌, ◌++◌, List, [], ◌∷◌, length, Some, Contains, refl, sym, ◌∙◌, ap, subst, arith, inl}
use Rattle.tx_model.specs.declared.history.Commit.{Commit}
use Rattle.tx_model.specs.declared.pass.PassState.TheVariants.{Active, Stamped}
use Rattle.tx_model.specs.declared.pass.Receipt.{Receipt}
use Rattle.tx_model.specs.declared.pass.Stop.{Stop}
use Rattle.tx_model.specs.declared.pass.Stop.TheVariants.{Met, Overrun}
use Rattle.tx_model.specs.declared.view.Attempt.{Attempt}
use Rattle.tx_model.specs.declared.view.Owned.{Owned}
use Rattle.tx_model.specs.declared.view.PassView.{PassView}
use Rattle.tx_model.specs.declared.word.Word.{Word}
use Rattle.tx_model.specs.Words.{addresses}
use Rattle.tx_model.specs.Memory.{Agrees, words_in}
use Rattle.tx_model.specs.History.{state_at, after_commit}
use Rattle.tx_model.specs.Attempt.{Fits, MayCommit, carry_of, commit_of, owned_after}
use Rattle.tx_model.specs.Calls.{GoesOnWith, Ended, WornOut, Wrote, Committed}
use Rattle.tx_model.proofs.lemmas.Calls.{later_itself, later_then, goes_on_then, ended_after}
use Rattle.tx_model.proofs.lemmas.Histories.{beginning_then, beginning_length, state_stays}
use Rattle.ring_core.specs.declared.shape.Shape.{Shape}
use Rattle.ring_words.specs.Pass.{shows_in}
use Rattle.ring_words.specs.Stamping.{BecameCommit}
use Rattle.ring_words.specs.Turns.{Finished, StillStamped}

-- ---- an attempt that goes on as it was, but for its start
abbrev pub GoesOnSame : PassView → PassView → Attempt → Attempt → Type 0
GoesOnSame old new before now = GoesOnWith old new before now before.reads before.writes

pub same_itself : (view : PassView) (attempt : Attempt) → view.state ≡ Active → GoesOnSame view view attempt attempt
same_itself view attempt active =
    record {
      goes_on = record { active = active; later = later_itself view; start = omega arith };
      reads = refl;
      writes = refl;
      sealed = refl;
      published = refl;
    }

pub same_then : {old mid new : PassView} {before between now : Attempt} → GoesOnSame old mid before between → GoesOnSame mid new between now
    → GoesOnSame old new before now
same_then p q =
    record {
      goes_on = goes_on_then p.goes_on q.goes_on;
      reads = q.reads ∙ p.reads;
      writes = q.writes ∙ p.writes;
      sealed = q.sealed ∙ p.sealed;
      published = q.published ∙ p.published;
    }

module _ {old mid : PassView} {before between : Attempt} (p : GoesOnSame old mid before between) where
  -- it would make the same commit
  same_commit : commit_of between mid.owned ≡ commit_of before old.owned
  same_commit =
      λ i. record {
        reads = p.reads i;
        writes = p.writes i;
        sealed = p.sealed i;
        published = p.published i;
        carry = carry_of (p.goes_on.later.owned i) (p.published i);
      }

  fits_before : (memory : List ℕ) → Fits memory between mid.owned → Fits memory before old.owned
  fits_before memory fits =
      record {
        reads = subst (λ (reads : List Word). Agrees reads memory) p.reads fits.reads;
        contents = subst (λ (owned : List Owned). (o : Owned) → Contains owned o → words_in memory o.region ≡ o.at_sealing)
            p.goes_on.later.owned fits.contents;
      }

  pub may_still : (good : List ℕ → Type 0) (budget : List ℕ → ℕ) → MayCommit good budget before old.owned → MayCommit good budget between mid.owned
  may_still good budget may memory is_good fits =
      subst (λ (c : Commit). good (after_commit memory c) × (budget (after_commit memory c) < budget memory)) (sym same_commit)
      (may memory is_good (fits_before memory fits))

  -- ---- its answers
  pub became_then : (opening : List ℕ) {new : PassView} {now : Attempt} (number : ℕ) → BecameCommit opening mid new between now number
      → BecameCommit opening old new before now number
  became_then opening {new} {now} number b =
      record {
        stamped = b.stamped;
        history = beginning_then _ _ _ p.goes_on.later.history b.history;
        last = b.last;
        there = b.there ∙ ap (λ c. Some c) same_commit;
        fits = fits_before _ b.fits;
        later = omega (arith, b.later, beginning_length _ _ p.goes_on.later.history);
        after_start = omega (arith, b.after_start, p.goes_on.start);
        front = omega (arith, b.front, p.goes_on.later.front);
        mine = b.mine ∙ ap (λ mine. mine ++ number ∷ []) p.goes_on.later.mine;
        owned = b.owned ∙ p.goes_on.later.owned;
        share = b.share ∙ p.goes_on.later.share;
        reads = b.reads ∙ p.reads;
        writes = b.writes ∙ p.writes;
        sealed = b.sealed ∙ p.sealed;
        published = b.published ∙ p.published;
      }

  pub ended_since : {new : PassView} → Ended mid new between → Ended old new before
  ended_since e = ended_after p.goes_on e

  -- what is shown of a later start is shown of the earlier one
  pub shows_since : (shape : Shape) (history : List Commit) (stop : Stop) → shows_in shape history between.start (addresses between.reads) stop
      → shows_in shape history before.start (addresses before.reads) stop
  shows_since shape history (Met entry) shown =
      subst (λ (reads : List Word). shows_in shape history before.start (addresses reads) (Met entry)) p.reads
      (record { later = omega (arith, shown.later, p.goes_on.start); commit = shown.commit; there = shown.there; shared = shown.shared })
  shows_since shape history (Overrun entry seen) shown =
      record { later = omega (arith, shown.later, p.goes_on.start); gone = shown.gone; happened = shown.happened }

  pub worn_since : {life : ℕ} {new : PassView} {index : ℕ} → WornOut life mid new between index → WornOut life old new before index
  worn_since w =
      record { ended = ended_since w.ended; wrote = λ none. w.wrote (p.writes ∙ none); last = w.last; full = w.full }

-- ---- turns
pub still_itself : (view : PassView) (attempt : Attempt) → view.state ≡ Stamped → StillStamped view view attempt attempt
still_itself view attempt stamped = record { stamped = stamped; later = later_itself view; same = refl }

pub still_then : {old mid new : PassView} {before between now : Attempt} → StillStamped old mid before between → StillStamped mid new between now
    → StillStamped old new before now
still_then p q = record { stamped = q.stamped; later = later_then p.later q.later; same = q.same ∙ p.same }

pub finished_then : (opening : List ℕ) {old mid new : PassView} {before between : Attempt} (receipt : Receipt) → StillStamped old mid before between
    → Finished opening mid new between receipt → Finished opening old new before receipt
finished_then opening {old} {mid} {new} {before} {between} receipt p f =
    record {
      idle = f.idle;
      wrote = f.wrote;
      own = record { before = f.own.before; last = sym p.later.mine ∙ f.own.last };
      history = beginning_then _ _ _ p.later.history f.history;
      there = f.there ∙ (λ i. Some (commit_of (p.same i) (p.later.owned i)));
      complete = f.complete;
      front = omega (arith, f.front, p.later.front);
      mine = f.mine ∙ p.later.mine;
      owned = f.owned ∙ (λ i. owned_after (state_at opening new.history receipt.stamp) (p.same i) (p.later.owned i));
      share = f.share ∙ p.later.share;
    }

-- ---- both together
-- lists of numbers that are the same have the same last one
last_same : (xs ys : List ℕ) (x y : ℕ) → xs ++ x ∷ [] ≡ ys ++ y ∷ [] → x ≡ y
last_same [] [] x y same = let e : x ∷ [] ≡ y ∷ [] = same in cc
last_same [] (z ∷ []) x y same = absurd (let e : x ∷ [] ≡ z ∷ y ∷ [] = same in cc)
last_same [] (z ∷ w ∷ zs) x y same = absurd (let e : x ∷ [] ≡ z ∷ w ∷ (zs ++ y ∷ []) = same in cc)
last_same (z ∷ []) [] x y same = absurd (let e : z ∷ x ∷ [] ≡ y ∷ [] = same in cc)
last_same (z ∷ w ∷ zs) [] x y same = absurd (let e : z ∷ w ∷ (zs ++ x ∷ []) ≡ y ∷ [] = same in cc)
last_same (z ∷ zs) (w ∷ ws) x y same = last_same zs ws x y (let e : z ∷ (zs ++ x ∷ []) ≡ w ∷ (ws ++ y ∷ []) = same in cc)

pub some_by : (words : List Word) (count : ℕ) → count ≡ length words → count ≢ 0 → words ≢ []
some_by words count is some none = some (is ∙ ap length none)

pub committed_by : (opening : List ℕ) {old mid new : PassView} {before between : Attempt} (number : ℕ) (receipt : Receipt) → before.writes ≢ []
    → BecameCommit opening old mid before between number → Finished opening mid new between receipt → Committed opening old new before receipt
committed_by opening {old} {mid} {new} {before} {between} number receipt some b f =
    record { idle = f.idle; received = inl (f.wrote, some, wrote) }
  where
    same : number ≡ receipt.stamp
    same = last_same old.mine f.own.before number receipt.stamp (sym b.mine ∙ f.own.last)

    same_attempt : commit_of between mid.owned ≡ commit_of before old.owned
    same_attempt =
        λ i. record {
          reads = b.reads i;
          writes = b.writes i;
          sealed = b.sealed i;
          published = b.published i;
          carry = carry_of (b.owned i) (b.published i);
        }

    same_owned : (memory : List ℕ) → owned_after memory between mid.owned ≡ owned_after memory before old.owned
    same_owned memory = λ i. owned_after memory (record {
      start = before.start;
      reads = before.reads;
      writes = before.writes;
      sealed = b.sealed i;
      published = b.published i;
    }) (b.owned i)

    reached : receipt.stamp - 1 ≤ length mid.history
    reached = omega (arith, same, b.last)

    wrote : Wrote opening old new before receipt.stamp
    wrote =
        record {
          history = beginning_then _ _ _ b.history f.history;
          there = f.there ∙ ap (λ c. Some c) same_attempt;
          fits = subst (λ (memory : List ℕ). Fits memory before old.owned)
              (sym (state_stays opening mid.history new.history (receipt.stamp - 1) f.history reached))
              (subst (λ n. Fits (state_at opening mid.history (n - 1)) before old.owned) same b.fits);
          later = omega (arith, same, b.later);
          after_start = omega (arith, same, b.after_start);
          complete = f.complete;
          front = omega (arith, b.front, f.front);
          mine = f.mine ∙ b.mine ∙ ap (λ n. old.mine ++ n ∷ []) same;
          owned = f.owned ∙ same_owned (state_at opening new.history receipt.stamp);
          share = f.share ∙ b.share;
        }
