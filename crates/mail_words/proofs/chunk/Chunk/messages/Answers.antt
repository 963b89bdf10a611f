use Rattle.std.proofs.Common.{◌∙◌, sym, ap, length}
use Rattle.mail_words.proofs.Flat.{length-lists_from}
use Rattle.mail_words.proofs.chunk.Chunk.messages.Goals as goal

pub returns : goal.returns
returns c =
    c.len.ensures ∙ c.self.inside.ends.ok.0 ∙ sym (length-lists_from 0 c.self.inside.ends.items c.self.inside.keys.items) ∙ ap length c.self.view_is
