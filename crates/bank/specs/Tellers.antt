-- What is known of tellers before they serve, and after.
use Rattle.std.specs.Prelude.{◌≡◌, ℕ, ◌+◌, ◌<◌, List, [], ◌∷◌, length, map, sum, All}
use Rattle.tx_model.specs.declared.pass.PassState.TheVariants.{Idle}
use Rattle.tx_model.specs.declared.view.PassView.{PassView}
use Rattle.tx_model.specs.Shares.{Name, joined}
use Rattle.bank.specs.declared.tellers.Tally.{Tally}
use Rattle.bank.specs.declared.tellers.Teller.{Teller}

-- how many orders a tally counts
abbrev pub orders_in : Tally → ℕ
orders_in tally = tally.made + tally.no_transfers_left + tally.insufficient_funds

abbrev pub made_in : Tally → ℕ
made_in tally = tally.made

-- a tally for each teller, in which each order was counted once
pub record AreTallies (tellers orders : ℕ) (tallies : List Tally) : Type 0 where
  pub each : length tallies ≡ tellers
  pub counted : All (λ (tally : Tally). orders_in tally ≡ orders) tallies

-- how many transfers were made
abbrev pub all_made : List Tally → ℕ
all_made tallies = sum (map made_in tallies)

-- ---- tellers with passes of one memory
module _ {P : Type 0} (of : P → Type 0) (view : P → PassView) (accounts : ℕ) (opening : List ℕ) where
  -- the teller has a pass of its own, and a word that counts
  pub record IsReady (teller : Teller P) : Type 0 where
    pub of_pass : of teller.pass
    pub idle : (view teller.pass).state ≡ Idle
    pub has_word : accounts + teller.number < length opening

  -- the teller was given so many orders, and has a commit for each transfer that was made
  pub record HasServed (orders : ℕ) (old new : Teller P) : Type 0 where
    pub ready : IsReady new
    pub share : (view new.pass).share ≡ (view old.pass).share
    pub counted : orders_in new.tally ≡ orders
    pub made : length (view new.pass).mine ≡ length (view old.pass).mine + new.tally.made

abbrev pub share_of : {P : Type 0} → (P → PassView) → Teller P → List Name
share_of view teller = (view teller.pass).share

abbrev pub commits_of : {P : Type 0} → (P → PassView) → Teller P → ℕ
commits_of view teller = length (view teller.pass).mine

abbrev pub tally_of : {P : Type 0} → Teller P → Tally
tally_of teller = teller.tally

-- all of them have served
pub record HaveServed {P : Type 0} (of : P → Type 0) (view : P
    → PassView) (accounts : ℕ) (opening : List ℕ) (orders : ℕ) (old new : List (Teller P)) : Type 0 where
  pub ready : All (IsReady of view accounts opening) new
  pub shares : map (share_of view) new ≡ map (share_of view) old
  pub tallies : AreTallies (length old) orders (map tally_of new)
  pub made : sum (map (commits_of view) new) ≡ sum (map (commits_of view) old) + all_made (map tally_of new)

-- the share with those of the others, the last one first
abbrev pub joined_back : List Name → List (List Name) → List Name
joined_back share [] = share
joined_back share (other ∷ others) = joined (joined_back share others) other

-- so many tellers that are ready, have no commits, and whose names were split off
pub record AreHired {P : Type 0} (of : P → Type 0) (view : P
    → PassView) (accounts : ℕ) (opening : List ℕ) (share left : List Name) (count : ℕ) (tellers : List (Teller P)) : Type 0 where
  pub each : length tellers ≡ count
  pub ready : All (IsReady of view accounts opening) tellers
  pub shares : joined_back left (map (share_of view) tellers) ≡ share
  pub none_made : sum (map (commits_of view) tellers) ≡ 0
