-- What a pass's caller becomes by moves and by steps.
use Rattle.std.proofs.Common.{◌≡◌, ◌≢◌, ◌≤◌, max, List, length, refl, sym, ◌∙◌, ap, subst, arith}
use Rattle.tx_model.specs.declared.pass.PassState.{PassState}
use Rattle.tx_model.specs.declared.pass.PassState.TheVariants as state
use Rattle.tx_model.specs.declared.history.Commit.{Commit}
use Rattle.tx_model.specs.declared.view.Attempt.{Attempt}
use Rattle.tx_model.specs.Memory.{Agrees}
use Rattle.tx_model.specs.History.{state_at}
use Rattle.tx_model.specs.Rule.{AttemptFollows}
use Rattle.tx_model.proofs.lemmas.Lists.{set_here}
use Rattle.ring_core.specs.declared.caller.Caller.{Caller}
use Rattle.ring_worlds.specs.declared.process.Process.{Process}
use Rattle.ring_worlds.specs.World.{attempt_of, with_process}
use Rattle.ring_worlds.specs.Sound.{Sound}
use Rattle.ring_worlds.specs.Moves.{IsMove}
use Rattle.ring_worlds.specs.Laws.{MoveKeeps}
use Rattle.ring_worlds.proofs.lemmas.Lists.{set_again, set_twice}
use Rattle.ring_words.specs.Ring.{Given, front_of}
use Rattle.ring_words.specs.Told.{IsKnown}
use Rattle.ring_words.specs.Pass.{MayBecome, HasMoved, process_with, process_by, front_in}
use Rattle.ring_words.proofs.Rests.{rest_follows}
use Rattle.ring_words.proofs.Requests.{IsNoted, now_same, noted_by}
use Rattle.ring_words.proofs.Loads.{IsLoading}

stamped_not : state.Stamped ≢ state.Idle
stamped_not e = cc

-- one more move
pub may_more : MoveKeeps → (given : Given) (p q r : Process) → MayBecome given p q → IsMove given.shape given.regions q r → MayBecome given p r
may_more moves given p q r may move w who made s here =
    subst (λ l. Sound (record w { processes = l })) (set_twice w.processes who q r)
    (moves (with_process w who q) (with_process (with_process w who q) who r) who (may w who made s here)
    (record {
      process = q;
      here = set_here w.processes who q p here;
      moved = r;
      moves = subst (λ (g : Given). IsMove g.shape g.regions q r) (sym made) move;
      after = refl;
    }))

-- after a step the seat has the caller as it is
module _ (given : Given) (history : List Commit) (p : Process) (known : IsKnown given history p)
    (rested : p.caller.state ≡ state.Idle → p.caller.start ≤ p.front) where
  same_may : MayBecome given p (process_with p p.caller)
  same_may w who made s here =
      let me = s.each who p here in
      let noted : IsNoted p = record {
        reads = me.reader.fresh;
        sealed = λ is. (me.lawful.quiet is).0;
        published = λ is. (me.lawful.quiet is).1;
        rested = rested;
      } in
      subst (λ q. Sound (with_process w who q)) (sym (now_same p noted))
      (subst (λ l. Sound (record w { processes = l })) (sym (set_again w.processes who p here)) s)

  same_follows : (st : PassState) → p.caller.state ≡ st → AttemptFollows given.opening given.regions (attempt_of (process_by st p p.caller))
  same_follows state.Idle is = rest_follows given.shape p.caller known.machine is given.opening given.regions (front_of p) p.owned
  same_follows state.Active is = known.follows
  same_follows state.Stamped is = known.follows

  pub synced : HasMoved given p (process_with p p.caller)
  synced =
      record {
        may = same_may;
        machine = known.machine;
        stays = λ is. is;
        stamped = λ is. record { was = is; stamp = refl; same = ap (λ (st : PassState). attempt_of (process_by st p p.caller)) is };
        active = λ is. is;
        start = refl;
        follows = same_follows p.caller.state refl;
      }

-- what the step of a caller asks of it
pub loading_of : (given : Given) (history : List Commit) (p : Process) (c : Caller) → IsKnown given history p → front_of p ≤ length history
    → HasMoved given p (process_with p c) → IsLoading given history p (process_with p c)
loading_of given history p c known reached moved =
    record {
      may = moved.may;
      stays = moved.stays;
      stamped = moved.stamped;
      started = omega (arith, moved.start, reached);
      agree = λ is.
          let kept = moved.stamped is in
          subst (λ (a : Attempt). Agrees a.reads (state_at given.opening history a.start)) (sym kept.same)
          (known.agree (λ idle. stamped_not (sym kept.was ∙ idle)));
      owned = refl;
      front = up c.state;
      rests = (noted_by p c moved.start).rested;
    }
  where
    up : (st : PassState) → front_of p ≤ max (front_in st p) c.start
    up state.Idle = omega arith
    up state.Active = omega (arith, moved.start)
    up state.Stamped = omega (arith, moved.start)
