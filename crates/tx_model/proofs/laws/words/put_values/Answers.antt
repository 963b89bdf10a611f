use Rattle.tx_model.proofs.PutLaws.{put_last, put_other}
use Rattle.tx_model.proofs.laws.words.put_values.Goals as goal

pub returns : goal.returns
returns c = record { last = put_last; others = put_other }
