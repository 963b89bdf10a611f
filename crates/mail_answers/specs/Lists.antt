-- Maps from keys to the messages that were read for them.
use Rattle.std.specs.Prelude.{◌≡◌, ◌↔◌, ℕ, Bool, List, Vec, Some, None, IsSome, IsTrue, ⊤}
use Rattle.std.specs.List.{Contains}
use Rattle.std.specs.declared.alloc.Global.{Global}
use Rattle.std.specs.BTreeMap.{BTreeMap, get}
use Rattle.mail_words.specs.Key.{KeyNumbers, key_cmp}
use Rattle.mail_query.specs.Answers.{Table, messages_with}
use Rattle.mail_answers.specs.declared.lists.ListsStop.{ListsStop}
use Rattle.mail_answers.specs.declared.lists.ListsStop.TheVariants.{Memory, NotRead}

abbrev pub ListMap : Type 0
ListMap = BTreeMap KeyNumbers (Vec ℕ Global)

-- each list is of the messages that the table pairs with its key
abbrev pub HasLists : ListMap → Table → Type 0
HasLists lists table = (key : KeyNumbers) (messages : Vec ℕ Global) → get key_cmp lists key ≡ Some messages → messages.items ≡ messages_with table key

-- each of the keys has a list
abbrev pub HasKeys : ListMap → List KeyNumbers → Type 0
HasKeys lists keys = (key : KeyNumbers) → Contains keys key → IsSome (get key_cmp lists key)

-- there is no list
abbrev pub HasNone : ListMap → Type 0
HasNone lists = (key : KeyNumbers) → get key_cmp lists key ≡ None

-- the key has a list, or none, as the test says
abbrev pub KnowsKey : ListMap → KeyNumbers → Bool → Type 0
KnowsKey lists key known = IsTrue known ↔ IsSome (get key_cmp lists key)

-- a list isn't told for want of memory, or where there is none
abbrev pub StopsAt : ListMap → KeyNumbers → ListsStop → Type 0
StopsAt lists key Memory = ⊤
StopsAt lists key NotRead = get key_cmp lists key ≡ None
