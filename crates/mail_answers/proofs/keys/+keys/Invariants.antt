-- The keys of the members so far were added.
use Rattle.std.proofs.Common.{◌≡◌, ◌++◌, take}
use Rattle.std.specs.List.{flat_map}
use Rattle.mail_query.specs.Members.{members_of}
use Rattle.mail_query.specs.Truth.{keys_in}
use Rattle.mail_answers.proofs.keys.+keys.Given as goal

abbrev pub invariant-add_keys_of-loop-index : goal.invariant-add_keys_of-loop-index
invariant-add_keys_of-loop-index l = l.keys.items ≡ l.fn.keys.items ++ flat_map keys_in (take l.index (members_of l.queries))
