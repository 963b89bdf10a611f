use Rattle.std.proofs.Common.{rules, ◌≡◌, ◌∙◌, []}
use Rattle.clap.specs.Words.{app_of}
use Rattle.mail_line.specs.CommandLine.{line_app}
use Rattle.mail_line.proofs.Found.{found, refused, is_free}
use Rattle.mail_line.proofs.command.matches_in.Goals as goal

pub returns-in-Ok-clause-found : goal.returns-in-Ok-clause-found
returns-in-Ok-clause-found c =
    let is : app_of c.in_ok-command.command ≡ line_app = search rules in
    found _ is _ c.in-Ok.matches (c.in-Ok.ensures.kinds (is_free _ is [])) c.in-Ok.ensures.matches

pub returns : goal.returns
returns c =
    let is : app_of c.in_ok-command.command ≡ line_app = search rules in
    record {
      found = tt;
      usage = λ _. refused _ is _ c.in-Err.error (c.in-Err.ensures.kinds (is_free _ is [])) (λ e. c.in_default.not-OutOfMemory (c.kind.ensures ∙ e));
    }
