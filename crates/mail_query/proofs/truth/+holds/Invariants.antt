use Rattle.std.proofs.Common.{◌≡◌, drop}
use Rattle.std.specs.List.{list_all, list_any}
use Rattle.mail_query.specs.Members.{members_of}
use Rattle.mail_query.specs.Truth.{satisfies}
use Rattle.mail_query.proofs.truth.+holds.Given as goal

abbrev pub invariant-all_hold-loop-index : goal.invariant-all_hold-loop-index
invariant-all_hold-loop-index l =
    list_all (λ q. satisfies q l.words) (members_of l.queries) ≡ list_all (λ q. satisfies q l.words) (drop l.index (members_of l.queries))

abbrev pub invariant-any_holds-loop-index : goal.invariant-any_holds-loop-index
invariant-any_holds-loop-index l =
    list_any (λ q. satisfies q l.words) (members_of l.queries) ≡ list_any (λ q. satisfies q l.words) (drop l.index (members_of l.queries))
