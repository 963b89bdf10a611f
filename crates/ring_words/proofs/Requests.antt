-- What a step of a beginning or of a read may lead to.
use Rattle.std.proofs.Common.{◌≡◌, ℕ, ◌+◌, ◌-◌, ◌*◌, ◌≤◌, nat_lt, List, [], ◌∷◌, take, refl, sym, ap, subst, arith}
use Rattle.tx_model.specs.declared.pass.PassState.{PassState}
use Rattle.tx_model.specs.declared.pass.PassState.TheVariants as state
use Rattle.tx_model.specs.declared.pass.Stop.{Stop}
use Rattle.tx_model.specs.declared.word.Word.{Word}
use Rattle.tx_model.specs.Words.{addresses}
use Rattle.ring_core.specs.declared.shape.Shape.{Shape}
use Rattle.ring_core.specs.declared.caller.Caller.{Caller}
use Rattle.ring_core.specs.declared.action.Progress.TheVariants as answer
use Rattle.ring_core.specs.declared.stage.Stage.{Stage}
use Rattle.ring_core.specs.declared.stage.Stage.TheVariants.{Closed, BeginIndex, BeginTag, ReadHeap, Check, StampSlot, StampSwap, Turn, Between}
use Rattle.ring_core.specs.declared.stage.Purpose.TheVariants.{Read, Stamp}
use Rattle.ring_core.specs.declared.stage.CheckStage.{CheckStage}
use Rattle.ring_core.specs.declared.stage.CheckStage.TheVariants.{Index, First, Words, Second}
use Rattle.ring_core.specs.Request.{action_at, check_action}
use Rattle.ring_core.specs.Outcomes.{Outcome, ends, started, stops, check_from, check_after, outcome_at}
use Rattle.ring_sig.specs.Signature.{meets}
use Rattle.std.proofs.lemmas.Bool.{cond_both}
use Rattle.ring_core.specs.declared.stage.Walk.{Walk}
use Rattle.ring_worlds.specs.declared.process.Process.{Process}
use Rattle.ring_worlds.specs.World.{read_of, asked_first}
use Rattle.ring_worlds.proofs.lemmas.Outcomes.{begins_from, begins_at}
use Rattle.ring_words.specs.Layout.{IsLoad}
use Rattle.ring_words.specs.Pass.{process_with, noted_in, front_in}
use Rattle.ring_words.specs.Requests.{beginning, reading, asked_at, IsShort}

-- each step of such a request loads a word
check_loads : (shape : Shape) (inner : CheckStage) → IsLoad (check_action shape inner)
check_loads shape Index = tt
check_loads shape (First walk) = tt
check_loads shape (Words walk word) = tt
check_loads shape (Second walk) = tt

pub short_loads : (shape : Shape) (c : Caller) (stage : Stage) → IsShort (asked_at stage) → IsLoad (action_at shape c stage)
short_loads shape c BeginIndex short = tt
short_loads shape c (BeginTag top at) short = tt
short_loads shape c (ReadHeap addr) short = tt
short_loads shape c (Check (Read addr value) inner) short = check_loads shape inner
short_loads shape c (Check Stamp inner) short = absurd short
short_loads shape c Closed short = absurd short
short_loads shape c (StampSlot top) short = absurd short
short_loads shape c (StampSwap top) short = absurd short
short_loads shape c (Turn inner) short = absurd short
short_loads shape c (Between inner) short = absurd short

-- a step leads on, or to the answer of the request. `stage` is the caller's
pub data Follows (shape : Shape) (c : Caller) (stage : Stage) (o : Outcome) : Type 0 where
  goes_on : o.progress ≡ answer.Going → o.caller.state ≡ c.state → o.caller.start ≡ c.start → o.caller.writes ≡ c.writes →
      asked_at o.caller.stage ≡ asked_at stage
      → Follows shape c stage o
  begins : (start : ℕ) → asked_at stage ≡ beginning → o ≡ started c start → Follows shape c stage o
  reads : (addr value start : ℕ) → asked_at stage ≡ reading addr → read_of stage ≡ record { addr = addr; value = value } ∷ []
      → o ≡ ends (record c { start = start }) (answer.Value value) → Follows shape c stage o
  stopped : (addr : ℕ) (stop : Stop) → asked_at stage ≡ reading addr → ((reads : List Word) → asked_first stage reads ≡ addr ∷ addresses reads) →
      o ≡ stops shape c stop → Follows shape c stage o

module _ (shape : Shape) (c : Caller) where
  -- ---- the check of a read
  module _ (addr value : ℕ) where
    abbrev P : CheckStage → Outcome → Type 0
    P inner = Follows shape c (Check (Read addr value) inner)

    from : (inner : CheckStage) (walk : Walk) → P inner (check_from c (Read addr value) walk)
    from inner walk =
        cond_both (nat_lt c.start walk.at) _ _ (P inner) (λ more. goes_on refl refl refl refl refl) (λ end. reads addr value walk.candidate refl refl refl)

    check_follows : (inner : CheckStage) (word : ℕ) → P inner (check_after shape c (Read addr value) inner word)
    check_follows Index index = cond_both (nat_lt shape.ring (index - c.start)) _ _ (P Index) (λ lost. stopped addr _ refl (λ reads. refl) refl)
        (λ near. from Index _)
    check_follows (First walk) tag =
        cond_both (nat_lt (4 * walk.at + 3) tag) _ _ (P (First walk)) (λ refilled. stopped addr _ refl (λ reads. refl) refl)
        (λ current. cond_both (nat_lt tag (4 * walk.at + 2)) _ _ (P (First walk)) (λ not_yet. from (First walk) _)
        (λ published. goes_on refl refl refl refl refl))
    check_follows (Words walk word) found = goes_on refl refl refl refl refl
    check_follows (Second walk) tag =
        cond_both (nat_lt (4 * walk.at + 3) tag) _ _ (P (Second walk)) (λ refilled. stopped addr _ refl (λ reads. refl) refl)
        (λ current. cond_both (meets (take shape.sig_words c.loaded) c.read_sig) _ _ (P (Second walk))
        (λ met. stopped addr _ refl (λ reads. refl) refl) (λ apart. from (Second walk) _))

  pub follows_at : (stage : Stage) (word : ℕ) → IsShort (asked_at stage) → Follows shape c stage (outcome_at shape c stage word)
  follows_at BeginIndex index short =
      begins_from shape c (Follows shape c BeginIndex) (λ top at. goes_on refl refl refl refl refl) (λ start. begins start refl refl) index index
  follows_at (BeginTag top at) tag short =
      begins_at shape c (Follows shape c (BeginTag top at)) (λ t a. goes_on refl refl refl refl refl) (λ start. begins start refl refl) top at tag
  follows_at (ReadHeap addr) value short = goes_on refl refl refl refl refl
  follows_at (Check (Read addr value) inner) word short = check_follows addr value inner word
  follows_at (Check Stamp inner) word short = absurd short
  follows_at Closed word short = absurd short
  follows_at (StampSlot top) word short = absurd short
  follows_at (StampSwap top) word short = absurd short
  follows_at (Turn inner) word short = absurd short
  follows_at (Between inner) word short = absurd short

-- ---- the caller after a step that goes on
pub record IsNoted (q : Process) : Type 0 where
  pub reads : q.caller.state ≡ state.Idle → q.reads ≡ []
  pub sealed : q.caller.state ≡ state.Idle → q.sealed ≡ []
  pub published : q.caller.state ≡ state.Idle → q.published ≡ []
  pub rested : q.caller.state ≡ state.Idle → q.caller.start ≤ q.front

-- without an attempt nothing is noted
pub noted_by : (p : Process) (c : Caller) → c.start ≡ p.caller.start → IsNoted (process_with p c)
noted_by p c start =
    record {
      reads = λ is. ap (λ (st : PassState). noted_in st p.reads) is;
      sealed = λ is. ap (λ (st : PassState). noted_in st p.sealed) is;
      published = λ is. ap (λ (st : PassState). noted_in st p.published) is;
      rested = λ is. subst (λ (st : PassState). c.start ≤ front_in st p) (sym is) (omega (arith, start));
    }

pub noted_same : {X : Type 0} (st : PassState) (noted : List X) → (st ≡ state.Idle → noted ≡ []) → noted_in st noted ≡ noted
noted_same state.Idle noted none = sym (none refl)
noted_same state.Active noted none = refl
noted_same state.Stamped noted none = refl

pub front_same : (st : PassState) (p : Process) → (st ≡ state.Idle → p.caller.start ≤ p.front) → front_in st p ≡ p.front
front_same state.Idle p rested = let r = rested refl in omega (arith, r)
front_same state.Active p rested = refl
front_same state.Stamped p rested = refl

-- a caller as its seat has it is the caller as it is now
pub now_same : (p : Process) → IsNoted p → process_with p p.caller ≡ p
now_same p n =
    let front = front_same p.caller.state p n.rested in
    let reads = noted_same p.caller.state p.reads n.reads in
    let sealed = noted_same p.caller.state p.sealed n.sealed in
    let published = noted_same p.caller.state p.published n.published in
    λ i. record { caller = p.caller; front = front i; reads = reads i; sealed = sealed i; published = published i; owned = p.owned }
