-- A line with a request that is run is read as no other.
use Rattle.std.proofs.Common.{◌≡◌, true, inl, inr, sym, subst}
use Rattle.ring_script.specs.Grammar.{IsRunLine}
use Rattle.ring_script.specs.Reading.{IsAsked}
use Rattle.ring_script.specs.declared.reading.Asked.{Asked}
use Rattle.ring_script.proofs.Tokens.{texts}
use Rattle.ring_script.proofs.Said.{asked_cases, run_apart, some_asked}
use Rattle.ring_script.proofs.reading.asked_of.Goals as goal

pub returns-in-Some : goal.returns-in-Some
returns-in-Some c asked =
    let tokens = texts c.args.tokens.now in
    let request = c.in-Some.request in
    let run : IsRunLine tokens request.who request.act = (c.run_of.ensures request).0 c.in-Some.is in
    let read : Asked = record { request = request; runs = true } in (
      λ e. let same : read ≡ asked = cc (e) in subst (λ a. IsAsked tokens a) same run,
      λ is.
          elim (asked_cases tokens asked is) [
            | inl by ↦
                let found = (c.run_of.ensures asked.request).1 by.1 in
                let same : request ≡ asked.request = cc (found, c.in-Some.is) in
                some_asked request true asked same (sym by.0)
            | inr by ↦ absurd (run_apart tokens request.who asked.request.who request.act asked.request.act run by.1)
          ],
    )
