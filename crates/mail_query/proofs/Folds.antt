-- The equations of a fold over a query, and induction on a query.
use Rattle.std.proofs.Common.{◌≡◌, List, [], ◌∷◌, map, sym, ◌∙◌, ap, subst}
use Rattle.std.specs.List.{AllByRecursion}
use Rattle.mail_words.specs.Key.{KeyNumbers}
use Rattle.mail_query.specs.declared.query.Query.{Query}
use Rattle.mail_query.specs.declared.query.Queries.{Queries}
use Rattle.mail_query.specs.declared.query.Query.TheVariants.{Word, Not, All, Any}
use Rattle.mail_query.specs.declared.query.Query.TheOpen.{Query-F, Queries-F}
use Rattle.mail_query.specs.declared.query.Query.TheViews.{roll-Query, roll-Queries, rolls-Word, rolls-Not, rolls-All, rolls-Any, rolls-struct-Queries}
use Rattle.mail_query.specs.declared.query.Query.TheFolds.{fold-Query, fold-Queries, fold-roll-Query, fold-roll-Queries, map-Query, ind-Query}

abbrev pub folded : (A : Type 0) → (Query-F A (List A) → A) → Query → A
folded A step = fold-Query A (List A) step (λ queries. queries.members)

folded_members : (A : Type 0) (step : Query-F A (List A) → A) (qs : List Query) →
    fold-Queries A (List A) step (λ queries. queries.members) (record { members = qs }) ≡ map (folded A step) qs
folded_members A step qs =
    let layer : Queries-F Query Queries = record { members = qs } in
    ap (fold-Queries A (List A) step (λ queries. queries.members)) (sym (rolls-struct-Queries layer))
    ∙ fold-roll-Queries A (List A) step (λ queries. queries.members) layer

pub folded_word : (A : Type 0) (step : Query-F A (List A) → A) (key : KeyNumbers) → folded A step (Word key) ≡ step (Query-F.Word key)
folded_word A step key = ap (folded A step) (sym (rolls-Word key)) ∙ fold-roll-Query A (List A) step (λ queries. queries.members) (Query-F.Word key)

pub folded_not : (A : Type 0) (step : Query-F A (List A) → A) (q : Query) → folded A step (Not q) ≡ step (Query-F.Not (folded A step q))
folded_not A step q = ap (folded A step) (sym (rolls-Not q)) ∙ fold-roll-Query A (List A) step (λ queries. queries.members) (Query-F.Not q)

pub folded_all : (A : Type 0) (step : Query-F A (List A) → A) (qs : List Query)
    → folded A step (All (record { members = qs })) ≡ step (Query-F.All (map (folded A step) qs))
folded_all A step qs =
    let queries : Queries = record { members = qs } in
    ap (folded A step) (sym (rolls-All queries)) ∙ fold-roll-Query A (List A) step (λ queries. queries.members) (Query-F.All queries)
    ∙ ap (λ (inner : List A). step (Query-F.All inner)) (folded_members A step qs)

pub folded_any : (A : Type 0) (step : Query-F A (List A) → A) (qs : List Query)
    → folded A step (Any (record { members = qs })) ≡ step (Query-F.Any (map (folded A step) qs))
folded_any A step qs =
    let queries : Queries = record { members = qs } in
    ap (folded A step) (sym (rolls-Any queries)) ∙ fold-roll-Query A (List A) step (λ queries. queries.members) (Query-F.Any queries)
    ∙ ap (λ (inner : List A). step (Query-F.Any inner)) (folded_members A step qs)

each_of : (P : Query → Type 0) (pairs : List ((q : Query) × P q)) → AllByRecursion P (map (λ pair. pair.0) pairs)
each_of P [] = tt
each_of P (pair ∷ pairs) = (pair.1, each_of P pairs)

-- the cases of an induction on a query
pub record Cases (P : Query → Type 0) : Type 0 where
  pub word : (key : KeyNumbers) → P (Word key)
  pub negation : (q : Query) → P q → P (Not q)
  pub conjunction : (qs : List Query) → AllByRecursion P qs → P (All (record { members = qs }))
  pub disjunction : (qs : List Query) → AllByRecursion P qs → P (Any (record { members = qs }))

at_layer : (P : Query → Type 0) → Cases P → (y : Query-F ((q : Query) × P q) ((qs : Queries) × AllByRecursion P qs.members)) →
    P (roll-Query (map-Query ((q : Query) × P q) ((qs : Queries) × AllByRecursion P qs.members) Query Queries (λ pair. pair.0) (λ pair. pair.0) y))
at_layer P cases (Query-F.Word key) = subst P (sym (rolls-Word key)) (cases.word key)
at_layer P cases (Query-F.Not pair) = subst P (sym (rolls-Not pair.0)) (cases.negation pair.0 pair.1)
at_layer P cases (Query-F.All pair) = subst P (sym (rolls-All pair.0)) (cases.conjunction pair.0.members pair.1)
at_layer P cases (Query-F.Any pair) = subst P (sym (rolls-Any pair.0)) (cases.disjunction pair.0.members pair.1)

-- a fact of each query, by induction
pub induction : (P : Query → Type 0) → Cases P → (q : Query) → P q
induction P cases =
    ind-Query P (λ queries. AllByRecursion P queries.members)
    (λ x y is. subst (λ (layer : Query-F Query Queries). P (roll-Query layer)) is (at_layer P cases y))
    (λ x y is.
    let same : (roll-Queries x).members ≡ map (λ pair. pair.0) y.members =
    ap (λ (queries : Queries). queries.members) (rolls-struct-Queries x) ∙ ap (λ (layer : Queries-F Query Queries). layer.members) (sym is) in
    subst (AllByRecursion P) (sym same) (each_of P y.members))
