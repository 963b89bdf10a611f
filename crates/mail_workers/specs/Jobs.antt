-- The rule of the queue of message numbers: what it holds, and what each of its passes has drawn.
use Rattle.std.specs.Prelude.{◌≡◌, ◌≢◌, ℕ, ◌+◌, ◌-◌, ◌≤◌, List, [], ◌∷◌, ◌++◌}
use Rattle.std.specs.List.{range_with_len}
use mathlib.Core.Option.{some}
use lib.ListN.{get_elem?}
use Rattle.tx_model.specs.Shares.{Name, joined, kept_half, given_half, AreJoined, AreApartWithin}
use Rattle.tx_model.specs.Holders.{AreNamed, HaveAll, HaveOnce}
use Rattle.tx_model.specs.Calls.{merged}
use Rattle.tx_model.specs.Pass.{AreStamps}
use Rattle.mail_workers.specs.declared.rule.JobView.{JobView}

-- ---- what the calls make of a pass
-- the first pass, before anything is put in
abbrev pub first_view : JobView
first_view = record { total = 0; drawn = []; share = [] ∷ [] }

-- a pass that was joined to another one
abbrev pub spent_view : JobView
spent_view = record { total = 0; drawn = []; share = [] }

-- the two that a split makes of a pass
abbrev pub left_view : JobView → JobView
left_view v = record { total = v.total; drawn = v.drawn; share = kept_half v.share }

abbrev pub right_view : JobView → JobView
right_view v = record { total = v.total; drawn = []; share = given_half v.share }

-- the one that a join makes of two
abbrev pub both_views : JobView → JobView → JobView
both_views v w = record { total = v.total; drawn = merged v.drawn w.drawn; share = joined v.share w.share }

abbrev pub with_pushed : JobView → JobView
with_pushed v = record { total = v.total + 1; drawn = v.drawn; share = v.share }

abbrev pub with_drawn : JobView → ℕ → JobView
with_drawn v number = record { total = v.total; drawn = v.drawn ++ number ∷ []; share = v.share }

-- no other pass lives
abbrev pub IsWholeJob : JobView → Type 0
IsWholeJob v = v.share ≡ [] ∷ []

-- ---- the rule
-- what holds of a pass by itself, where so many were drawn of so many
pub record IsJobSeat (count total : ℕ) (v : JobView) : Type 0 where
  pub drawn : AreStamps count v.drawn
  pub filled : v.share ≢ [] → v.total ≡ total
  pub spent : v.share ≡ [] → v.drawn ≡ []
  pub joined : AreJoined v.share
  pub apart : AreApartWithin v.share

abbrev pub share_of : JobView → List Name
share_of v = v.share

abbrev pub drawn_of : JobView → List ℕ
drawn_of v = v.drawn

-- the numbers from 1 to a count were drawn, each once, and the queue holds the others in order
pub record IsJobs (items : List ℕ) (views : List JobView) : Type 0 where
  pub count : ℕ
  pub total : ℕ
  pub within : count ≤ total
  pub left : items ≡ range_with_len (count + 1) (total - count)
  pub seats : (i : ℕ) (v : JobView) → get_elem? views i ≡ some v → IsJobSeat count total v
  pub names : AreNamed share_of views
  pub all : HaveAll drawn_of views count
  pub once : HaveOnce drawn_of views

-- ---- what the calls tell
-- a draw: the number joins those that this pass has drawn, which rise
pub record Drew (old : JobView) (number : ℕ) (new : JobView) : Type 0 where
  pub now : new ≡ with_drawn old number
  pub least : 1 ≤ number
  pub most : number ≤ old.total
  pub rising : AreStamps old.total (old.drawn ++ number ∷ [])

-- what a whole pass learns of what the queue holds
abbrev pub HasRest : JobView → List ℕ → Type 0
HasRest v items = IsWholeJob v → v.drawn ++ items ≡ range_with_len 1 v.total

-- what a pass learns of its names
abbrev pub HasNames : JobView → List ℕ → Type 0
HasNames v items = AreJoined v.share × AreApartWithin v.share
