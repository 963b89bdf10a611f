use Rattle.tx_model.proofs.lemmas.Rule.{start_follows, later_start_follows, read_follows, write_follows, seal_follows, publish_follows, commit_follows}
use Rattle.tx_model.proofs.laws.rules.attempts_follow.Goals as goal

pub returns : goal.returns
returns c = record {
  start = start_follows;
  later_start = later_start_follows;
  read = read_follows;
  write = write_follows;
  seal = seal_follows;
  publish = publish_follows;
  commit = commit_follows;
}
