use Rattle.std.proofs.Common.{[], ◌∷◌, refl, sym, subst, arith, Option, IsSome}
use Rattle.std.proofs.lemmas.Bool.{false≢true}
use Rattle.std.specs.List.{Contains}
use Rattle.mail_query.specs.declared.found.Found.{Found}
use Rattle.mail_query.specs.Answers.{Table}
use Rattle.mail_query.specs.Bits.{HasBits, Knows, has_word}
use Rattle.mail_query.proofs.Evaluated.{if_ok_map}
use Rattle.mail_query.proofs.known.Known.messages.Goals as goal

pub bits-requires : goal.bits-requires
bits-requires c = c.requires c.args.key.now c.in-Some.found.now (sym c.in-Some.ensures.value)

pub returns-in-None-clause-messages : goal.returns-in-None-clause-messages
returns-in-None-clause-messages c =
    let key = c.args.key.now in
    let first : Contains (key ∷ []) key = (0, (omega arith), refl) in
    if_ok_map _ (λ set. (table : Table) → Knows c.args.count c.args.self.now.found (key ∷ []) table
    → HasBits c.args.count set.words.items (has_word table key)) c.empty.result
    (λ set size table knows. absurd (false≢true (subst (λ (o : Option Found). IsSome o) (sym c.in-None.ensures.value) (knows.all key first))))
    c.empty.ensures.size
