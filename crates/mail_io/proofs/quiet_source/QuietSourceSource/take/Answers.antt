use Rattle.std.proofs.Common.{◌≡◌, ◌≤◌, ◌+◌, length, take, drop, arith}
use Rattle.std.proofs.lemmas.Grind.{common_steps}
use Rattle.mail_io.proofs.Moved.{drop-moved, drop-none}
use Rattle.mail_io.proofs.quiet_source.QuietSourceSource.take.Goals as goal

pub returns-clause-told : goal.returns-clause-told
returns-clause-told c =
    let copied : c.copy_from_slice.new.self ≡ take c.min-n.result (drop c.self.inside.at c.self.inside.bytes.items) = grind (arith, common_steps) in
    let fits : c.min-n.result ≤ length (drop c.self.inside.at c.self.inside.bytes.items) = grind (arith, common_steps) in (
      rw (← c.self.view_is) (drop-moved c.self.inside.bytes.items c.args.into.now c.copy_from_slice.new.self c.self.inside.at c.min-n.result copied fits),
      λ none some.
          let all : length (drop (c.self.inside.at + c.min-n.result) c.self.inside.bytes.items) ≡ 0 = grind (arith, common_steps) in
          drop-none c.self.inside.bytes.items (c.self.inside.at + c.min-n.result) all,
    )

pub returns-clause-exactly_given : goal.returns-clause-exactly_given
returns-clause-exactly_given c = grind (arith, common_steps)
