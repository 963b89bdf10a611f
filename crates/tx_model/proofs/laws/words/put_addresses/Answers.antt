use Rattle.tx_model.proofs.PutLaws.{put_apart, put_length, put_addresses}
use Rattle.tx_model.proofs.laws.words.put_addresses.Goals as goal

pub returns : goal.returns
returns c = record { apart = put_apart; length = put_length; addresses = put_addresses }
