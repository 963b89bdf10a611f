use Rattle.std.proofs.Common.{sym, ap, ◌∙◌, drop, ◌&&◌, ◌||◌, ◌+◌}
use Rattle.std.specs.List.{list_all, list_any}
use Rattle.mail_query.specs.Truth.{satisfies}
use Rattle.mail_query.proofs.Truths.{satisfies_word, satisfies_all, satisfies_any, all_next, any_next}
use Rattle.mail_query.proofs.truth.+holds.Goals as goal

pub holds-returns-in-Word : goal.holds-returns-in-Word
holds-returns-in-Word t c =
    let keys = c.args.words.now in
    c.has_key.ensures
    ∙ sym (satisfies_word c.in-Word.key keys)
    ∙ ap (λ q. satisfies q keys) (sym c.in-Word.is)

pub holds-returns-in-All : goal.holds-returns-in-All
holds-returns-in-All t c =
    let keys = c.args.words.now in
    c.all_hold.ensures ∙ sym (satisfies_all c.in-All.of.members keys) ∙ ap (λ q. satisfies q keys) (sym c.in-All.is)

pub holds-returns-in-Any : goal.holds-returns-in-Any
holds-returns-in-Any t c =
    let keys = c.args.words.now in
    c.any_holds.ensures ∙ sym (satisfies_any c.in-Any.of.members keys) ∙ ap (λ q. satisfies q keys) (sym c.in-Any.is)

pub all_hold-returns-then-not-holds : goal.all_hold-returns-then-not-holds
all_hold-returns-then-not-holds t c =
    let keys = c.args.words.now in
    let qs = c.args.queries.now.members in
    sym (c.loop-index.invariant ∙ all_next (λ q. satisfies q keys) qs c.loop-index.index c.at.result.now c.holds.result c.at.ensures c.holds.ensures
    ∙ ap (λ b. b && list_all (λ q. satisfies q keys) (drop (c.loop-index.index + 1) qs)) c.if-not-holds.true)

pub all_hold-loop-index-preserved : goal.all_hold-loop-index-preserved
all_hold-loop-index-preserved t c =
    let keys = c.args.words.now in
    let qs = c.args.queries.now.members in
    c.loop-index.invariant ∙ all_next (λ q. satisfies q keys) qs c.loop-index.index c.at.result.now c.holds.result c.at.ensures c.holds.ensures
    ∙ ap (λ b. b && list_all (λ q. satisfies q keys) (drop (c.loop-index.index + 1) qs)) c.if-not-holds.false

pub any_holds-returns-then-holds : goal.any_holds-returns-then-holds
any_holds-returns-then-holds t c =
    let keys = c.args.words.now in
    let qs = c.args.queries.now.members in
    sym (c.loop-index.invariant ∙ any_next (λ q. satisfies q keys) qs c.loop-index.index c.at.result.now c.holds.result c.at.ensures c.holds.ensures
    ∙ ap (λ b. b || list_any (λ q. satisfies q keys) (drop (c.loop-index.index + 1) qs)) c.if-holds.true)

pub any_holds-loop-index-preserved : goal.any_holds-loop-index-preserved
any_holds-loop-index-preserved t c =
    let keys = c.args.words.now in
    let qs = c.args.queries.now.members in
    c.loop-index.invariant ∙ any_next (λ q. satisfies q keys) qs c.loop-index.index c.at.result.now c.holds.result c.at.ensures c.holds.ensures
    ∙ ap (λ b. b || list_any (λ q. satisfies q keys) (drop (c.loop-index.index + 1) qs)) c.if-holds.false
