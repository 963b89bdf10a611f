use Rattle.std.proofs.Common.{◌≡◌, ◌+◌, map, take, drop}
use Rattle.mail_search.specs.CommandLine.{first_refused, AllRead}
use Rattle.mail_search.proofs.asked.queries_of.Given as goal

abbrev pub invariant-loop-index : goal.invariant-loop-index
invariant-loop-index l =
    AllRead (map (λ text. text.now) (take l.index l.texts)) l.queries.items
    × (first_refused 1 (map (λ text. text.now) l.texts) ≡ first_refused (l.index + 1) (map (λ text. text.now) (drop l.index l.texts)))
