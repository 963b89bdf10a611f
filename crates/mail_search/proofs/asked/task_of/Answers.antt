use Rattle.std.proofs.Common.{map, length, string_bytes, ℕ, List, Some, Ok, Err, ◌∙◌, ap, subst, arith}
use Rattle.std.specs.declared.alloc.Global.{Global}
use Rattle.std.proofs.lemmas.List.{length-map}
use Rattle.mail_line.specs.Views.{seen}
use Rattle.mail_search.specs.CommandLine.{asking_by}
use Rattle.mail_search.specs.Outcome.{IsAsked, AreRead}
use denote.Ref.{Bor}
use Rattle.mail_search.proofs.Sent.{handed_on}
use Rattle.mail_search.proofs.AskedFor.{texts_refused, texts_read, can_index}
use Rattle.mail_search.proofs.asked.task_of.Goals as goal

pub queries_of-requires : goal.queries_of-requires
queries_of-requires c =
    let line = c.in_ok-settings_of.ensures.ok ∙ ap (λ settings. Some (seen settings)) c.in-Ask.is in
    let bounds = c.settings_within_bounds.ensures _ _ _ _ _ _ _ line in
    record { few = omega (arith, bounds.few_queries, length-map c.in-Ask.queries.items (λ t. t.now), ap length c.deref.ensures.value) }

pub returns-in_err-queries_of-in-Ask : goal.returns-in_err-queries_of-in-Ask
returns-in_err-queries_of-in-Ask c =
    let words = map (string_bytes {Z = Global}) c.args.words.now in
    let line = c.in_ok-settings_of.ensures.ok ∙ ap (λ settings. Some (seen settings)) c.in-Ask.is in
    let texts = ap (map (λ (t : Bor (List ℕ)). t.now)) c.deref.ensures.value in
    handed_on (IsAsked words) c.from_residual-in_err-queries_of-in-Ask.result _ c.from_residual-in_err-queries_of-in-Ask.ensures.1
    (texts_refused words _ _ (ap asking_by line)
    (subst (λ (ts : List (List ℕ)). AreRead ts (Err c.in_err-queries_of-in-Ask.field-0.0)) texts c.in_err-queries_of-in-Ask.ensures))

pub returns-in_ok-queries_of-in-Ask : goal.returns-in_ok-queries_of-in-Ask
returns-in_ok-queries_of-in-Ask c =
    let words = map (string_bytes {Z = Global}) c.args.words.now in
    let line = c.in_ok-settings_of.ensures.ok ∙ ap (λ settings. Some (seen settings)) c.in-Ask.is in
    let bounds = c.settings_within_bounds.ensures _ _ _ _ _ _ _ line in
    let texts = ap (map (λ (t : Bor (List ℕ)). t.now)) c.deref.ensures.value in
    let read = subst (λ (ts : List (List ℕ)). AreRead ts (Ok c.in_ok-queries_of-in-Ask.field-0)) texts c.in_ok-queries_of-in-Ask.ensures in
    (texts_read words c.in-Ask.report c.in-Ask.generate _ _ (ap asking_by line) bounds.few_messages read.0 read.1, can_index _ _ _ _ _ bounds)
