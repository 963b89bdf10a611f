use Rattle.std.proofs.Common.{◌≡◌, ℕ, List, sym, ap, ◌∙◌, subst}
use Rattle.mail_answers.specs.Sending.{sink_seen}
use Rattle.mail_search.specs.Notes.{HasNote, note_of}
use Rattle.mail_search.proofs.note.write_note.Goals as goal

pub returns-in-BadQuery : goal.returns-in-BadQuery
returns-in-BadQuery g c =
    let sink = g.E.Sink in
    let before = sink_seen sink.held sink.faults sink.wants c.args.notes.now in
    let after = sink_seen sink.held sink.faults sink.wants c.send.new.notes in
    let note : c.as_slice.result.now ≡ note_of c.args.status = c.as_slice.ensures.value ∙ c.query_note.ensures ∙ sym (ap note_of c.in-BadQuery.is) in
    subst (λ (text : List ℕ). HasNote sink.offered before after text) note c.send.ensures
