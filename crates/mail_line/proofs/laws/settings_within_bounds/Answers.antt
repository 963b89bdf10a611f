use Rattle.mail_line.proofs.Bounds.{within_bounds}
use Rattle.mail_line.proofs.laws.settings_within_bounds.Goals as goal

pub returns : goal.returns
returns c = within_bounds
