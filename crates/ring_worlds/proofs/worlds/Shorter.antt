-- A step leaves fewer steps in the request of its caller.
use Rattle.std.proofs.Common.{◌≡◌, ℕ, ◌<◌, List, length, get_or, set, refl, sym, ◌∙◌, ap, subst, ⊎_elim}
use Rattle.std.proofs.lemmas.List.{length-set, get_or-set_same}
use Rattle.ring_core.specs.declared.kind.Kind.{Kind}
use Rattle.ring_core.specs.declared.kind.Kind.TheVariants as kind
use Rattle.ring_core.specs.Request.{next_action}
use Rattle.ring_core.specs.Steps.{steps_left}
use Rattle.ring_core.proofs.Lemmas.{absorbed_keeps}
use Rattle.ring_worlds.specs.declared.process.Process.{Process}
use Rattle.ring_worlds.specs.World.{World, moved_on}
use Rattle.ring_worlds.specs.Runs.{resting}
use Rattle.ring_worlds.specs.Steps.{StepsTo, found}
use Rattle.ring_worlds.specs.Calls.{process_at}
use Rattle.ring_worlds.specs.Laws.{MayAbsorb, StepsShorten}
use Rattle.ring_worlds.proofs.lemmas.Elements.{below_length}
use Rattle.ring_worlds.proofs.lemmas.Kinds.{open_at}

module _ (w : World) (who : ℕ) (p : Process) (next : World) where
  -- the caller has taken in what it found, and the others are as they were
  record HasMoved : Type 0 where
    pub processes : next.processes ≡ set w.processes who (moved_on w.shape w.opening w.history p (found w (next_action w.shape p.caller)))
    pub shape : next.shape ≡ w.shape

  moved : (other : World) (word : ℕ) → next ≡ other → other.processes ≡ set w.processes who (moved_on w.shape w.opening w.history p word)
      → other.shape ≡ w.shape → word ≡ found w (next_action w.shape p.caller) → HasMoved
  moved other word is there shape finds = record {
    processes = ap (λ (v : World). v.processes) is ∙ there
        ∙ ap (λ (word : ℕ). set w.processes who (moved_on w.shape w.opening w.history p word)) finds;
    shape = ap (λ (v : World). v.shape) is ∙ shape;
  }

  has_moved : (kind : Kind) → StepsTo w who p kind next → HasMoved
  has_moved kind.LoadIndex s = moved _ _ s.1 refl refl (ap (found w) (sym s.0))
  has_moved kind.LoadTag (slot, s) = moved _ _ s.1 refl refl (ap (found w) (sym s.0))
  has_moved kind.LoadSig s = moved _ _ s.2.1 refl refl (ap (found w) (sym s.2.0))
  has_moved kind.LoadHeap (addr, s) = moved _ _ s.1 refl refl (ap (found w) (sym s.0))
  has_moved kind.SwapIndex (from, is, found_there) =
      ⊎_elim (λ s. moved _ w.index s.1 refl refl (ap (found w) (sym is))) (λ s. moved _ w.index s.1 refl refl (ap (found w) (sym is))) found_there
  has_moved kind.StoreTagFilling (slot, tag, is, stored) = moved _ 0 stored refl refl (ap (found w) (sym is))
  has_moved kind.StoreSig (slot, word, value, is, stored) = moved _ 0 stored refl refl (ap (found w) (sym is))
  has_moved kind.StoreTagWriting (slot, tag, is, stored) = moved _ 0 stored refl refl (ap (found w) (sym is))
  has_moved kind.StoreHeap (addr, value, is, stored) = moved _ 0 stored refl refl (ap (found w) (sym is))
  has_moved kind.StoreTagComplete (slot, tag, is, stored) = moved _ 0 stored refl refl (ap (found w) (sym is))

pub steps_shorten : MayAbsorb → StepsShorten
steps_shorten absorbs w next who kind s step =
    let p = step.process in
    let went = has_moved w who p next kind step.steps in
    let word : ℕ = found w (next_action w.shape p.caller) in
    let q : Process = moved_on w.shape w.opening w.history p word in
    let fits = absorbs w who p s step.here (open_at p.caller.stage kind step.is_kind) in
    let fewer = (absorbed_keeps w.shape s.opened.limits p.caller (s.each who p step.here).machine word fits).fewer in
    let same_default : next.shape ≡ w.shape = went.shape in
    let there : process_at next who ≡ q =
    ap (λ (ps : List Process). get_or ps who (resting next.shape)) went.processes
    ∙ get_or-set_same w.processes who q (resting next.shape) (below_length w.processes who p step.here)
    in
    record {
      fewer = subst (λ (r : Process). steps_left w.shape r.caller < steps_left w.shape p.caller) (sym there) fewer;
      shape = went.shape;
      callers = ap length went.processes ∙ length-set w.processes who q;
    }
