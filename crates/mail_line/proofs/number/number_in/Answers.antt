use Rattle.std.proofs.Common.{sym}
use Rattle.mail_line.proofs.Decimal.{too_large}
use Rattle.mail_line.proofs.number.number_in.Goals as goal

pub returns-in_default-3 : goal.returns-in_default-3
returns-in_default-3 c =
    too_large c.args.low c.args.high c.args.text.now c.in_default.field-0 c.in_default.ensures.value.0 (sym c.if-not-is_number.ensures) c.ranges.high.fits
