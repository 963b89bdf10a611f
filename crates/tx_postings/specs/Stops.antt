-- A stop of a batch within an attempt, as one of the attempt.
use Rattle.tx_postings.specs.declared.stops.FillStop.{FillStop}
use Rattle.tx_postings.specs.declared.stops.FillStop.TheVariants as fill_stop
use Rattle.tx_postings.specs.declared.stops.AddStop.{AddStop}
use Rattle.tx_postings.specs.declared.stops.AddStop.TheVariants.{Room, Stopped}

abbrev pub add_stop : FillStop → AddStop
add_stop (fill_stop.Room lane segment free needs) = Room lane segment free needs
add_stop (fill_stop.Stopped stop) = Stopped stop
