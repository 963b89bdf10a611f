-- Sets of message numbers, one bit each, and the messages of the words of a query.
use Rattle.std.specs.Prelude.{◌≡◌, ℕ, ◌+◌, ◌/◌, ◌%◌, ◌≤◌, ◌==◌, ◌||◌, Bool, List, length, slice_index, Some, IsSome}
use Rattle.std.specs.Int.{bit_at}
use Rattle.std.specs.List.{Contains}
use Rattle.std.specs.BTreeMap.{BTreeMap, get}
use Rattle.mail_words.specs.Key.{KeyNumbers, key_cmp}
use Rattle.mail_query.specs.declared.found.Found.{Found}
use Rattle.mail_query.specs.declared.found.Found.TheVariants.{Few, Many}
use Rattle.mail_query.specs.Answers.{Table, keys_with}
use Rattle.mail_query.specs.Numbers.{has_number}
use Rattle.mail_query.specs.Truth.{has_key}

-- bit b of word j is that of the number 64 * j + b
abbrev pub has_bit : List ℕ → ℕ → Bool
has_bit words number = bit_at (slice_index words (number / 64)) (number % 64) == 1

-- the words have the bits of the numbers up to `count`
abbrev pub AreWords : ℕ → List ℕ → Type 0
AreWords count words = length words ≡ count / 64 + 1

-- the test says which of the numbers from 1 to `count` are in the set
abbrev pub IsSetOf : ℕ → (ℕ → Bool) → (ℕ → Bool) → Type 0
IsSetOf count set test = (number : ℕ) → 1 ≤ number → number ≤ count → set number ≡ test number

-- the same of words of bits
abbrev pub HasBits : ℕ → List ℕ → (ℕ → Bool) → Type 0
HasBits count words test = IsSetOf count (has_bit words) test

-- one more number has its bit, and the others stay
pub record GainsBit (old new : List ℕ) (number : ℕ) : Type 0 where
  pub size : length new ≡ length old
  pub bits : (other : ℕ) → has_bit new other ≡ (has_bit old other || number == other)

-- the numbers that were found for a word
abbrev pub found_has : Found → ℕ → Bool
found_has (Few numbers) number = has_number number numbers.items
found_has (Many bits) number = has_bit bits.words.items number

-- its words are as many as are wanted
abbrev pub IsFoundSized : ℕ → Found → Type 0
IsFoundSized count (Few numbers) = Unit {0}
IsFoundSized count (Many bits) = AreWords count bits.words.items

abbrev pub has_word : Table → KeyNumbers → ℕ → Bool
has_word table key number = has_key key (keys_with table number)

abbrev pub AreSized : ℕ → BTreeMap KeyNumbers Found → Type 0
AreSized count found = (key : KeyNumbers) (set : Found) → get key_cmp found key ≡ Some set → IsFoundSized count set

-- what was found for a key is what the table pairs with it
abbrev pub AreRight : ℕ → BTreeMap KeyNumbers Found → Table → Type 0
AreRight count found table = (key : KeyNumbers) (set : Found) → get key_cmp found key ≡ Some set → IsSetOf count (found_has set) (has_word table key)

-- each of the keys was found
abbrev pub HasAll : BTreeMap KeyNumbers Found → List KeyNumbers → Type 0
HasAll found keys = (key : KeyNumbers) → Contains keys key → IsSome (get key_cmp found key)

-- what was found of each of the keys is right
pub record Knows (count : ℕ) (found : BTreeMap KeyNumbers Found) (keys : List KeyNumbers) (table : Table) : Type 0 where
  pub right : AreRight count found table
  pub all : HasAll found keys
