use Rattle.mbox_cut.proofs.LineEnds.{EndsLine-found, EndsLine-none}
use Rattle.mbox_cut.proofs.lines.end_of_line.Goals as goal

pub returns-in-Some : goal.returns-in-Some
returns-in-Some c = EndsLine-found c.args.bytes.now c.args.start c.in-Some.feed c.in-Some.ensures

pub returns-in-None : goal.returns-in-None
returns-in-None c = EndsLine-none c.args.bytes.now c.args.start c.requires c.in-None.ensures
