-- The rule of regions, region by region.
use Rattle.std.proofs.Common.{◌≡◌, ℕ, ◌<◌, List, [], length, Contains, ◌∙◌, subst, arith}
use Rattle.tx_model.specs.declared.gate.Region.{Region}
use Rattle.tx_model.specs.declared.view.Attempt.{Attempt}
use Rattle.tx_model.specs.Made.{no_region, region_at}
use Rattle.tx_model.specs.Attempt.{MayRead, MayWrite}
use Rattle.ring_state.specs.Rule.{LetsRead, LetsWrite}
use Rattle.ring_worlds.proofs.lemmas.Elements.{get_either}

nothing_in : {X : Type 0} (x : X) → Contains [] x → ⊥
nothing_in x (k, below, at) = omega (arith, below)

module _ (regions : List Region) (attempt : Attempt) (addr : ℕ) where
  pub reads_by : attempt.published ≡ [] → ((region : Region) → Contains regions region → LetsRead attempt addr region) → MayRead regions attempt addr
  reads_by none lets = record {
    gate_read = λ region among inside. (lets region among inside).was_read;
    readable = λ region among inside. (lets region among inside).value;
    not_published = λ region among inside published. nothing_in region (subst (λ l. Contains l region) none published);
  }

  pub lets_read : MayRead regions attempt addr → (region : Region) → Contains regions region → LetsRead attempt addr region
  lets_read may region among inside = record { was_read = may.gate_read region among inside; value = may.readable region among inside }

  pub writes_by : (value : ℕ) → ((region : Region) → Contains regions region → LetsWrite attempt addr value region) → MayWrite regions attempt addr value
  writes_by value lets = record {
    gate_read = λ region among inside. ((lets region among).inside inside).was_read;
    writable = λ region among inside. ((lets region among).inside inside).value;
    opens = λ region among at. (lets region among).opens at;
  }

  pub lets_write : (value : ℕ) → MayWrite regions attempt addr value → (region : Region) → Contains regions region → LetsWrite attempt addr value region
  lets_write value may region among = record {
    inside = λ inside. record { was_read = may.gate_read region among inside; value = may.writable region among inside };
    opens = may.opens region among;
  }

-- what holds at every index holds of every region
pub every_region : (regions : List Region) (P : Region → Type 0) → ((k : ℕ) → k < length regions → P (region_at regions k)) → (region : Region)
    → Contains regions region → P region
every_region regions P each region (k, below, at) = subst P (get_either regions k no_region region below ∙ at) (each k below)
