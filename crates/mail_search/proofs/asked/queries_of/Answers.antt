use Rattle.std.proofs.Common.{arith, ◌≡◌, ℕ, ◌+◌, ◌++◌, get_or, List, [], ◌∷◌, map, take, drop, subst, sym, ap, ◌∙◌, None}
use Rattle.std.proofs.lemmas.Grind.{common_steps}
use Rattle.std.specs.declared.option.Option.{Option}
use denote.Ref.{Bor}
use Rattle.std.proofs.lemmas.List.{take_more, drop_more, map-append}
use Rattle.mail_query.specs.Grammar.{ReadsAs}
use Rattle.mail_query.specs.Refusals.{refusal_of}
use Rattle.mail_query.specs.declared.error.QueryError.{QueryError}
use Rattle.mail_query.specs.declared.query.Query.{Query}
use Rattle.mail_search.specs.CommandLine.{AllRead, first_refused, refused_or_later}
use Rattle.mail_search.proofs.Words.{AllRead-push}
use Rattle.mail_search.proofs.asked.queries_of.Goals as goal

pub loop-index-preserved : goal.loop-index-preserved
loop-index-preserved c =
    let texts = c.args.texts.now in
    let index = c.loop-index.index in
    let blank : Bor (List ℕ) = record { ref_ptr = (0, 0); now = [] } in
    let text = get_or texts index blank in
    let query = c.in-Ok.query in
    let seen : Bor (List ℕ) → List ℕ = λ t. t.now in
    let same : c.as_bytes.result.now ≡ text.now = c.as_bytes.ensures.value in
    let reads = subst (λ (t : List ℕ). ReadsAs t query) same c.in-Ok.ensures.reads in
    let unrefused : refusal_of text.now ≡ None = ap refusal_of (sym same) ∙ c.in-Ok.ensures.exactly_refused in
    let taken : map seen (take (index + 1) texts) ≡ map seen (take index texts) ++ text.now ∷ [] =
    ap (map seen) (take_more texts index blank c.loop-index-test.true) ∙ map-append seen (take index texts) (text ∷ []) in
    let left : map seen (drop index texts) ≡ text.now ∷ map seen (drop (index + 1) texts) =
    ap (map seen) (drop_more texts index blank c.loop-index-test.true) in
    let all = AllRead-push (map seen (take index texts)) c.loop-index.queries.items text.now query c.loop-index.invariant.0 reads in (
      subst (λ (ts : List (List ℕ)). AllRead ts c.push.new.self.items) (sym taken)
          (subst (λ (qs : List Query). AllRead (map seen (take index texts) ++ text.now ∷ []) qs) (sym c.in_ok-push-in-Ok.ensures.items) all),
      c.loop-index.invariant.1
          ∙ ap (first_refused (index + 1)) left
          ∙ ap (λ (r : Option QueryError). refused_or_later (index + 1) r (first_refused (index + 1 + 1) (map seen (drop (index + 1) texts))))
          unrefused,
    )

pub returns-in-Err : goal.returns-in-Err
returns-in-Err c = grind (arith, common_steps)

pub returns : goal.returns
returns c = grind (arith, common_steps)
