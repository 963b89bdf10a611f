-- What settings ask for.
use Rattle.std.specs.Prelude.{map}
use Rattle.mail_line.specs.CommandLine.{Asked, replay, ask}
use Rattle.mail_line.specs.declared.settings.Settings.{Settings}
use Rattle.mail_line.specs.declared.settings.Settings.TheVariants.{Replay, Ask}

abbrev pub seen : Settings → Asked
seen Replay = replay
seen (Ask workers ring bits report generate queries) = ask workers ring bits report generate (map (λ q. q.now) queries.items)
