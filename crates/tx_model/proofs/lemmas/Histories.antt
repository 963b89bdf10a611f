-- Beginnings of lists, and what holds of a history that goes on with one more commit.
use Rattle.std.proofs.Common.{◌≡◌, ◌⊎◌, ℕ, zero, suc, ◌+◌, ◌<◌, ◌≤◌, ◌++◌, List, [], ◌∷◌, length, take, drop, Some, None, slice_get, refl, sym, ◌∙◌, ap, subst, arith, inl, inr}
use Rattle.std.proofs.lemmas.Bool.{cases_lt}
use Rattle.std.proofs.lemmas.List.{append_assoc, append-nil, take-append-le, take-append-drop, take_all, length-append, length_push, nil_from_length}
use Rattle.tx_model.specs.declared.gate.Region.{Region}
use Rattle.tx_model.specs.declared.history.Commit.{Commit}
use Rattle.tx_model.specs.Memory.{Agrees}
use Rattle.tx_model.specs.History.{IsBeginning, replay, after_commit, state_at, IsLegal, IsWriter, HasWriters, IsGoodHistory}
use Rattle.tx_model.specs.Rule.{FollowsRule, FollowsRules}

-- ---- beginnings
pub beginning_of_itself : {X : Type 0} (xs : List X) → IsBeginning xs xs
beginning_of_itself xs = ([], sym (append-nil xs))

pub beginning_then : {X : Type 0} (xs ys zs : List X) → IsBeginning xs ys → IsBeginning ys zs → IsBeginning xs zs
beginning_then xs ys zs (some, p) (more, q) =
    (some ++ more, q ∙ ap (λ list. list ++ more) p ∙ append_assoc xs some more)

pub beginning_length : {X : Type 0} (xs ys : List X) → IsBeginning xs ys → length xs ≤ length ys
beginning_length xs ys (some, p) = omega (arith, ap length p, length-append xs some)

-- a beginning that is as long is the whole
pub whole_beginning : {X : Type 0} (earlier later : List X) → IsBeginning earlier later → length later ≤ length earlier → earlier ≡ later
whole_beginning earlier later (added, is) long =
    let none : added ≡ [] = nil_from_length added (omega (arith, long, ap length is, length-append earlier added)) in
    sym (is ∙ ap (λ more. earlier ++ more) none ∙ append-nil earlier)

-- of two beginnings of one list the shorter one begins the longer one
pub beginnings : {X : Type 0} (shorter longer whole : List X) → IsBeginning shorter whole → IsBeginning longer whole → length shorter ≤ length longer
    → IsBeginning shorter longer
beginnings shorter longer whole (more, is) (rest, is') short =
    let first : take (length shorter) longer ≡ shorter =
    sym (take-append-le (length shorter) longer rest short) ∙ ap (take (length shorter)) (sym is' ∙ is)
    ∙ take-append-le (length shorter) shorter more (omega arith) ∙ take_all (length shorter) shorter (omega arith)
    in
    (drop (length shorter) longer, sym (take-append-drop (length shorter) longer) ∙ ap (λ front. front ++ drop (length shorter) longer) first)

-- ---- entries
entry_left : {X : Type 0} (xs more : List X) (k : ℕ) (x : X) → slice_get xs k ≡ Some x → slice_get (xs ++ more) k ≡ Some x
entry_left [] more k x there = absurd cc
entry_left (first ∷ xs) more zero x there = there
entry_left (first ∷ xs) more (suc k) x there = entry_left xs more k x there

-- what a list has at an index, a longer one has there too
pub entry_stays : {X : Type 0} (xs ys : List X) (k : ℕ) (x : X) → IsBeginning xs ys → slice_get xs k ≡ Some x → slice_get ys k ≡ Some x
entry_stays xs ys k x (more, is) there = ap (λ list. slice_get list k) is ∙ entry_left xs more k x there

some_same : {X : Type 0} {x y : X} → Some x ≡ Some y → x ≡ y
some_same e = cc

none_some : {X : Type 0} {x : X} → None ≡ Some x → ⊥
none_some e = cc

-- an entry of a list with one more is one of the list, or the last
pub entry_more : {X : Type 0} (xs : List X) (x y : X) (k : ℕ) → slice_get (xs ++ x ∷ []) k ≡ Some y
    → (slice_get xs k ≡ Some y) × (k < length xs) ⊎ (k ≡ length xs) × (x ≡ y)
entry_more [] x y zero e = inr (refl, some_same e)
entry_more [] x y (suc k) e = absurd (none_some e)
entry_more (z ∷ zs) x y zero e = inl (e, omega arith)
entry_more (z ∷ zs) x y (suc k) e =
    elim (entry_more zs x y k e) [
      | inl (there, below) ↦ inl (there, omega (arith, below))
      | inr (last, is) ↦ inr (ap suc last, is)
    ]

pub entry_last : {X : Type 0} (xs : List X) (x : X) → slice_get (xs ++ x ∷ []) (length xs) ≡ Some x
entry_last [] x = refl
entry_last (y ∷ ys) x = entry_last ys x

-- ---- states
-- a state that was reached stays as it was
pub state_stays : (opening : List ℕ) (earlier later : List Commit) (k : ℕ) → IsBeginning earlier later → k ≤ length earlier
    → state_at opening later k ≡ state_at opening earlier k
state_stays opening earlier later k (more, p) within = ap (replay opening) (ap (take k) p ∙ take-append-le k earlier more within)

replay_push : (memory : List ℕ) (history : List Commit) (commit : Commit) → replay memory (history ++ commit ∷ []) ≡ after_commit (replay memory history) commit
replay_push memory [] commit = refl
replay_push memory (first ∷ history) commit = replay_push (after_commit memory first) history commit

-- the state after all commits
pub state_last : (opening : List ℕ) (history : List Commit) → state_at opening history (length history) ≡ replay opening history
state_last opening history = ap (replay opening) (take_all (length history) history (omega arith))

-- the state after one more commit
pub state_more : (opening : List ℕ) (history : List Commit) (commit : Commit)
    → state_at opening (history ++ commit ∷ []) (length history + 1) ≡ after_commit (state_at opening history (length history)) commit
state_more opening history commit =
    ap (state_at opening (history ++ commit ∷ [])) (sym (length_push history commit))
    ∙ state_last opening (history ++ commit ∷ [])
    ∙ replay_push opening history commit
    ∙ ap (λ memory. after_commit memory commit) (sym (state_last opening history))

-- ---- a history that goes on with one more commit
module _ (opening : List ℕ) (history : List Commit) (commit : Commit) where
  earlier_state : (k : ℕ) → k ≤ length history → state_at opening (history ++ commit ∷ []) k ≡ state_at opening history k
  earlier_state k within = state_stays opening history (history ++ commit ∷ []) k (commit ∷ [], refl) within

  -- what holds of all states holds of those of the longer history, if it holds of the last one
  pub states_more : (P : List ℕ → Type 0) → ((k : ℕ) → k ≤ length history → P (state_at opening history k))
      → P (after_commit (state_at opening history (length history)) commit) → (k : ℕ) → k ≤ length (history ++ commit ∷ [])
      → P (state_at opening (history ++ commit ∷ []) k)
  states_more P before last k within =
      elim (cases_lt (length history) k) [
        | inl past ↦
            subst P (sym (ap (state_at opening (history ++ commit ∷ [])) (omega (arith, past, within, length_push history commit))
            ∙ state_more opening history commit)) last
        | inr upto ↦ subst P (sym (earlier_state k upto)) (before k upto)
      ]

  -- what holds of all commits holds of those of the longer history, if it holds of the new one
  pub commits_more : (P : Commit → Type 0) → ((k : ℕ) (c : Commit) → slice_get history k ≡ Some c → P c) → P commit
      → (k : ℕ) (c : Commit) → slice_get (history ++ commit ∷ []) k ≡ Some c → P c
  commits_more P before new k c e =
      elim (entry_more history commit c k e) [
        | inl (there, below) ↦ before k c there
        | inr (last, is) ↦ subst P is new
      ]

  pub legal_more : IsLegal opening history → Agrees commit.reads (state_at opening history (length history)) → IsLegal opening (history ++ commit ∷ [])
  legal_more legal agrees k c e =
      elim (entry_more history commit c k e) [
        | inl (there, below) ↦ subst (Agrees c.reads) (sym (earlier_state k (omega (arith, below)))) (legal k c there)
        | inr (last, is) ↦
            subst (λ (d : Commit). Agrees d.reads (state_at opening (history ++ commit ∷ []) k)) is
            (subst (Agrees commit.reads) (sym (ap (state_at opening (history ++ commit ∷ [])) last ∙ earlier_state (length history) (omega arith))) agrees)
      ]

  pub writers_more : HasWriters history → IsWriter commit → HasWriters (history ++ commit ∷ [])
  writers_more writers writer = commits_more IsWriter writers writer

  pub rules_more : (regions : List Region) → FollowsRules opening regions history → FollowsRule opening regions commit
      → FollowsRules opening regions (history ++ commit ∷ [])
  rules_more regions rules follows = commits_more (FollowsRule opening regions) rules follows

  module _ (good : List ℕ → Type 0) (budget : List ℕ → ℕ) where
    pub good_more : IsGoodHistory good budget opening history → good (after_commit (state_at opening history (length history)) commit)
        → budget (after_commit (state_at opening history (length history)) commit) < budget (state_at opening history (length history))
        → IsGoodHistory good budget opening (history ++ commit ∷ [])
    good_more was is_good lower =
        record {
          states = states_more good was.states is_good;
          falls = λ k below. elim (cases_lt k (length history)) [
            | inl early ↦
                omega (arith, was.falls k early, ap budget (earlier_state k (omega (arith, early))), ap budget (earlier_state (k + 1) (omega (arith, early))))
            | inr late ↦
                let here : k ≡ length history = omega (arith, late, below, length_push history commit) in
                omega (
                  arith,
                  lower,
                  ap budget (state_more opening history commit),
                  ap budget (earlier_state (length history) (omega arith)),
                  ap
                      (λ n. budget (state_at opening (history ++ commit ∷ []) (n + 1))) here,
                  ap (λ n. budget (state_at opening (history ++ commit ∷ []) n)) here,
                )
          ];
        }
