-- The table opens by its rule, and the first pass knows all there is.
use Rattle.std.proofs.lemmas.Grind.{common_steps}
use Rattle.std.proofs.Common.{◌≡◌, ◌+◌, ◌*◌, ◌++◌, length, replicate, refl, sym, ◌∙◌, ap, subst, arith}
use Rattle.tx_model.specs.Made.{Made, IsMade}
use Rattle.ring_words.specs.declared.table.About.{About}
use Rattle.ring_words.specs.declared.pass.RingPass.{RingPass}
use Rattle.ring_words.specs.Ring.{made_of}
use Rattle.ring_words.specs.Pass.{shape_with, IsPassOf}
use Rattle.ring_words.proofs.Opens.{new_keeps, new_pass, told_made, limits_of}
use Rattle.ring_words.proofs.ring.Ring.new.Goals as goal

pub of_words-requires : goal.of_words-requires
of_words-requires g c =
    let shape = shape_with c.args.ring c.args.sig_words c.len.result c.args.life in
    let about : About g.row.S.Denot = record { sense = c.of.result; opening = c.of-2.result; regions = c.of-3.result; shape = shape } in
    let told = told_made about c.args.sense c.args.first c.args.regions c.args.life c.of.ensures c.of-2.ensures c.of-3.ensures refl in
    let made = subst (IsMade g.S.Sense.allows g.S.Sense.good) (sym told) c.requires.made in
    let room : length (made_of about).opening ≡ c.len.result =
    omega (arith, ap (λ (m : Made g.row.S.Denot). length m.opening) told, c.len.ensures, c.args.first.ok.0) in
    let limits = limits_of g.S.Sense.allows g.S.Sense.good (made_of about) c.args.ring c.args.sig_words c.len.result c.args.life made (sym room) refl
    c.requires.entries c.requires.signatures in
    let zeros = replicate (1 + c.args.ring + c.args.ring * c.args.sig_words) 0 in
    new_keeps c.opening_keeps.ensures g.S.Sense.allows g.S.Sense.good g.S.Sense.budget about made limits room c.as_slice-2.result.now
    (c.as_slice-2.ensures.value ∙ c.in_ok-opening.ensures ∙
    ap (λ l. zeros ++ l) (c.as_slice.ensures.value ∙ sym (ap (λ (m : Made g.row.S.Denot). m.opening) told)))

pub returns-clause-of : goal.returns-clause-of
returns-clause-of g c =
    let shape = shape_with c.args.ring c.args.sig_words c.len.result c.args.life in
    let about : About g.row.S.Denot = record { sense = c.of.result; opening = c.of-2.result; regions = c.of-3.result; shape = shape } in
    let told = told_made about c.args.sense c.args.first c.args.regions c.args.life c.of.ensures c.of-2.ensures c.of-3.ensures refl in
    let made = subst (IsMade g.S.Sense.allows g.S.Sense.good) (sym told) c.requires.made in
    let room : length (made_of about).opening ≡ c.len.result =
    omega (arith, ap (λ (m : Made g.row.S.Denot). length m.opening) told, c.len.ensures, c.args.first.ok.0) in
    let limits = limits_of g.S.Sense.allows g.S.Sense.good (made_of about) c.args.ring c.args.sig_words c.len.result c.args.life made (sym room) refl
    c.requires.entries c.requires.signatures in
    let now : RingPass g.row.S.Denot = record { local = c.in_ok-local.local; seat = c.in-Ok.seat; seals = 0 } in
    let table = c.in-Ok.ensures in
    subst (λ (a : About g.row.S.Denot). IsPassOf g.S.Sense.allows g.S.Sense.good g.S.Sense.budget a c.in-Ok.words.shared.table_id now) (sym table.5)
    (new_pass c.opening_keeps.ensures g.S.Sense.allows g.S.Sense.good g.S.Sense.budget about made limits room c.in-Ok.words.shared.table_id now
    table.2 table.4 c.in_ok-local.ensures refl)

pub invariant_of-ring : goal.invariant_of-ring
invariant_of-ring g c = grind (arith, common_steps)
