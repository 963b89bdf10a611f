use Rattle.std.proofs.Common.{ap, arith}
use Rattle.mail_words.specs.Lists.{postings_in}
use Rattle.mail_words.proofs.Flat.{postings-from}
use Rattle.mail_words.proofs.chunk.Chunk.postings.Goals as goal

pub returns : goal.returns
returns c =
    let long = postings-from 0 c.self.inside.ends.items c.self.inside.keys.items c.self.invariant.ends in
    let same = ap postings_in c.self.view_is in
    let is = c.len.ensures in
    let holds = c.self.inside.keys.ok.0 in
    omega arith
