-- One caller's machine, as contracts see it, and what its calls between two steps leave.
use Rattle.std.specs.Prelude.{◌≡◌, ℕ, ◌+◌, ◌*◌, List, Option, Some, None, length, false}
use Rattle.tx_model.specs.declared.pass.TheConstants.{MAX_WRITES}
use Rattle.tx_model.specs.Words.{index_of, put}
use Rattle.ring_sig.specs.Signature.{place_of, bits_of, with_place}
use Rattle.ring_core.specs.declared.shape.Shape.{Shape}
use Rattle.ring_core.specs.declared.caller.Caller.{Caller}
use Rattle.ring_core.specs.declared.stage.Stage.{Stage}
use Rattle.ring_core.specs.declared.stage.Stage.TheVariants.{Turn, Between}
use Rattle.ring_core.specs.Shape.{IsShape}
use Rattle.ring_core.specs.Request.{is_open}
use Rattle.ring_core.specs.Outcomes.{idle}
use Rattle.ring_core.specs.Steps.{steps_left}
use Rattle.ring_core.specs.Sound.{IsSound}

pub record Machine : Type 0 where
  pub shape : Shape
  pub caller : Caller

pub record IsKept (shape : Shape) (caller : Caller) : Type 0 where
  pub limits : IsShape shape
  pub sound : IsSound shape caller

-- no request is open
abbrev pub IsClosed : Machine → Type 0
IsClosed m = is_open m.caller.stage ≡ false

-- how many steps its open request may still take
abbrev pub steps_of : Machine → ℕ
steps_of m = steps_left m.shape m.caller

abbrev pub with_caller : Machine → Caller → Machine
with_caller m c = record { shape = m.shape; caller = c }

abbrev pub at_stage : Machine → Stage → Machine
at_stage m stage = with_caller m (record m.caller { stage = stage })

-- a turn goes on where the last one ended
abbrev pub resumed : Stage → Stage
resumed (Between stage) = Turn stage
resumed stage = stage

-- a turn waits for at most the entries of the ring, and stores the tags, the signature and the words
abbrev pub most_turn_steps : Machine → ℕ
most_turn_steps m =
    m.shape.ring * (m.shape.sig_words + 2) + m.shape.sig_words + length m.caller.writes + 4

-- the signature of the write set with one more address: a known one is in it
abbrev pub signature_with : List ℕ → ℕ → Option ℕ → List ℕ
signature_with sig addr (Some index) = sig
signature_with sig addr None = with_place sig (place_of addr (bits_of sig))

-- the caller after a write
abbrev pub written : Caller → ℕ → ℕ → Caller
written c addr value = record c {
  writes = put c.writes addr value;
  write_sig = signature_with c.write_sig addr (index_of c.writes addr);
}

-- a write to this address would be the 257th distinct one
abbrev pub IsFull : Caller → ℕ → Type 0
IsFull c addr = (index_of c.writes addr ≡ None) × (length c.writes ≡ MAX_WRITES)

abbrev pub ended : Machine → Machine
ended m = with_caller m (idle m.shape m.caller)
