-- What the words of a memory mean to a bank: first the accounts, then one word for each teller, which counts its transfers down.
use Rattle.std.specs.Prelude.{◌≡◌, ℕ, ◌<◌, ◌≤◌, ◌^◌, List, length, sum, take, drop}

-- the money in all accounts
abbrev pub money_in : ℕ → List ℕ → ℕ
money_in accounts words = sum (take accounts words)

-- how many transfers all tellers may still make
abbrev pub transfers_left : ℕ → List ℕ → ℕ
transfers_left accounts words = sum (drop accounts words)

-- as many words and as much money as at the opening, all of which one word can count, and no more transfers to come than then
pub record IsBank (accounts : ℕ) (opening words : List ℕ) : Type 0 where
  pub size : length words ≡ length opening
  pub within : accounts ≤ length words
  pub money : money_in accounts words ≡ money_in accounts opening
  pub fits : money_in accounts words < 2 ^ 64
  pub left : transfers_left accounts words ≤ transfers_left accounts opening
