-- The examples hold by computing.
use Rattle.std.proofs.Common.{refl}
use Rattle.clap.proofs.OnLiterals.{clap_on_literals}
use Rattle.mail_line.specs.Examples.{BitsExamples, NumberExamples, OptionExamples, QueryExamples, RefusedExamples, ReplayExamples, ReportExamples, RingExamples}

pub options : OptionExamples
unfolding clap_on_literals
options = (refl, refl, refl, refl, refl)

pub numbers : NumberExamples
unfolding clap_on_literals
numbers = (refl, refl, refl, refl, refl, refl, refl, refl, refl, refl, refl, refl, refl, refl)

pub ring : RingExamples
unfolding clap_on_literals
ring = (refl, refl, refl, refl)

pub bits : BitsExamples
unfolding clap_on_literals
bits = (refl, refl, refl, refl, refl, refl, refl, refl)

pub report : ReportExamples
unfolding clap_on_literals
report = (refl, refl, refl, refl)

pub queries : QueryExamples
unfolding clap_on_literals
queries = (refl, refl, refl, refl, refl, refl, refl)

pub replays : ReplayExamples
unfolding clap_on_literals
replays = (refl, refl, refl, refl, refl, refl, refl, refl, refl, refl)

pub refused : RefusedExamples
unfolding clap_on_literals
refused = (refl, refl, refl, refl, refl, refl, refl, refl)
