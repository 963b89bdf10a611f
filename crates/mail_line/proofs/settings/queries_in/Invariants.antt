use Rattle.std.proofs.Common.{◌≡◌, map, take}
use Rattle.mail_line.proofs.settings.queries_in.Given as goal

abbrev pub invariant-loop-text : goal.invariant-loop-text
invariant-loop-text l = map (λ q. q.now) l.queries.items ≡ map (λ q. q.now) (take l.text-index l.texts)
