-- A script is read in one way.
use Rattle.std.proofs.Common.{◌≡◌, inl, inr, ℕ, ◌*◌, cond, List, [], ◌∷◌, ◌++◌, drop, replicate, Option, Some, None, codes, bytes_eq, refl, sym, ◌∙◌, ap, subst, arith}
use Rattle.tx_model.specs.declared.gate.Region.{Region}
use Rattle.tx_model.specs.declared.word.Word.{Word}
use Rattle.tx_model.specs.Memory.{after}
use Rattle.ring_state.specs.declared.setup.Setup.{Setup}
use Rattle.ring_runs.specs.declared.event.Act.{Act}
use Rattle.ring_runs.specs.declared.event.Act.TheVariants.{Run}
use Rattle.ring_runs.specs.declared.event.Event.{Event}
use Rattle.ring_script.specs.Lines.{Line}
use Rattle.ring_script.specs.Grammar.{AsksFor, IsRingLine, IsEventLine, IsRunLine}
use Rattle.ring_script.specs.Names.{text_of, act_named}
use Rattle.ring_script.specs.declared.name.Name.{Name}
use Rattle.ring_script.specs.declared.name.Name.TheVariants as name
use Rattle.ring_script.specs.Script.{tokens_at, event_at, AreWords, AreEvents, IsEvents, AreRegions}
use Rattle.ring_script.specs.Laws.{ScriptsAgree}
use Rattle.ring_script.proofs.Tokens.{number_same, numbers_same, named_first}
use Rattle.ring_script.proofs.Asking.{name_for, numbers_for, asks_named}
use Rattle.ring_script.proofs.Said.{some_same, event_first, run_last, run_apart, head_has}
use Rattle.ring_script.proofs.Groups.{groups_same, regions_each, words_each, events_each, regions_same, word_same}

-- ---- names
name_by : List ℕ → Option Name
name_by token =
    cond (bytes_eq token (codes "begin")) (Some name.Begin)
    (cond (bytes_eq token (codes "read")) (Some name.Read)
    (cond (bytes_eq token (codes "write")) (Some name.Write)
    (cond (bytes_eq token (codes "stamp")) (Some name.Stamp)
    (cond (bytes_eq token (codes "turn")) (Some name.Turn)
    (cond (bytes_eq token (codes "done")) (Some name.Done)
    (cond (bytes_eq token (codes "give-up")) (Some name.GiveUp)
    (cond (bytes_eq token (codes "seal")) (Some name.Seal)
    (cond (bytes_eq token (codes "publish")) (Some name.Publish)
    (cond (bytes_eq token (codes "load")) (Some name.Load)
    (cond (bytes_eq token (codes "store")) (Some name.Store)
    (cond (bytes_eq token (codes "step")) (Some name.Step)
    (cond (bytes_eq token (codes "run")) (Some name.Run) None))))))))))))

named_back : (n : Name) → name_by (text_of n) ≡ Some n
unfolding name_by
named_back name.Begin = refl
named_back name.Read = refl
named_back name.Write = refl
named_back name.Stamp = refl
named_back name.Turn = refl
named_back name.Done = refl
named_back name.GiveUp = refl
named_back name.Seal = refl
named_back name.Publish = refl
named_back name.Load = refl
named_back name.Store = refl
named_back name.Step = refl
named_back name.Run = refl

names_same : (a b : Name) → text_of a ≡ text_of b → a ≡ b
names_same a b same = some_same a b (sym (named_back a) ∙ ap name_by same ∙ named_back b)

-- ---- events
acts_same : (tokens : List (List ℕ)) (a b : Act) → AsksFor tokens a → AsksFor tokens b → a ≡ b
acts_same tokens a b asks also =
    let one = asks_named tokens a asks in
    let other = asks_named tokens b also in
    let first = named_first tokens (text_of (name_for a)) (numbers_for a) one.line in
    let second = named_first tokens (text_of (name_for b)) (numbers_for b) other.line in
    let names : name_for a ≡ name_for b = names_same (name_for a) (name_for b) (sym first.1 ∙ second.1) in
    let numbers : numbers_for a ≡ numbers_for b = numbers_same (drop 1 tokens) (numbers_for a) (numbers_for b) first.2 second.2 in
    some_same a b
    (sym one.named ∙ ap (λ n. act_named n (numbers_for a)) names ∙ ap (act_named (name_for b)) numbers ∙ other.named)

event_same : (tokens : List (List ℕ)) (who other : ℕ) (a b : Act) → IsEventLine tokens who a → IsEventLine tokens other b → (who ≡ other) × (a ≡ b)
event_same tokens who other a b line also =
    let first = event_first tokens who a line in
    let second = event_first tokens other b also in
    (number_same _ who other first.1 second.1, acts_same (drop 1 tokens) a b first.2 second.2)

run_same : (tokens : List (List ℕ)) (who other : ℕ) (a b : Act) → IsRunLine tokens who a → IsRunLine tokens other b → (who ≡ other) × (a ≡ b)
run_same tokens who other a b line also =
    let first = run_last tokens who a line in
    let second = run_last tokens other b also in
    event_same _ who other a b first.1 second.1

at_same : (line : Line) (who other : ℕ) (a b : Act) → who ≡ other → a ≡ b → event_at line who a ≡ event_at line other b
at_same line who other a b same_who same_act = ap (λ w. event_at line w a) same_who ∙ ap (event_at line other) same_act

line_events : (line : Line) (events others more rest : List Event) → IsEvents line events more → IsEvents line others rest → more ≡ rest → events ≡ others
line_events line events others more rest one other same =
    elim one.asks [
      | inl a ↦
          elim other.asks [
            | inl b ↦
                let parts = event_same (tokens_at line) one.who other.who one.act other.act a.0 b.0 in
                a.1 ∙ ap (λ e. e ∷ more) (at_same line one.who other.who one.act other.act parts.0 parts.1)
                ∙ ap (λ es. event_at line other.who other.act ∷ es) same ∙ sym b.1
            | inr b ↦ absurd (run_apart (tokens_at line) other.who one.who other.act one.act b.0 a.0)
          ]
      | inr a ↦
          elim other.asks [
            | inl b ↦ absurd (run_apart (tokens_at line) one.who other.who one.act other.act a.0 b.0)
            | inr b ↦
                let parts = run_same (tokens_at line) one.who other.who one.act other.act a.0 b.0 in
                a.1 ∙ ap (λ e. e ∷ event_at line one.who Run ∷ more) (at_same line one.who other.who one.act other.act parts.0 parts.1)
                ∙ ap (λ e. event_at line other.who other.act ∷ e ∷ more) (at_same line one.who other.who Run Run parts.0 refl)
                ∙ ap (λ es. event_at line other.who other.act ∷ event_at line other.who Run ∷ es) same ∙ sym b.1
          ]
    ]

events_same : (lines : List Line) (events others : List Event) → AreEvents lines events → AreEvents lines others → events ≡ others
events_same [] events others are also = are ∙ sym also
events_same (line ∷ lines) events others are also =
    line_events line events others are.0 also.0 are.1 also.1 (events_same lines are.0 also.0 are.2 also.2)

words_same : (lines : List Line) (words others : List Word) → AreWords lines words → AreWords lines others → words ≡ others
words_same [] [] [] are also = refl
words_same [] [] (other ∷ others) are also = absurd also
words_same [] (word ∷ words) others are also = absurd are
words_same (line ∷ lines) [] others are also = absurd are
words_same (line ∷ lines) (word ∷ words) [] are also = absurd also
words_same (line ∷ lines) (word ∷ words) (other ∷ others) are also =
    ap (λ w. w ∷ words) (word_same (tokens_at line) word other are.0 also.0) ∙ ap (λ ws. other ∷ ws) (words_same lines words others are.1 also.1)

-- ---- the first line
record RingSame (r b n p l r' b' n' p' l' : ℕ) : Type 0 where
  pub ring : r ≡ r'
  pub bits : b ≡ b'
  pub words : n ≡ n'
  pub callers : p ≡ p'
  pub life : l ≡ l'

ring_same : (tokens : List (List ℕ)) (r b n p l r' b' n' p' l' : ℕ) → IsRingLine tokens r b n p l → IsRingLine tokens r' b' n' p' l'
    → RingSame r b n p l r' b' n' p' l'
ring_same tokens r b n p l r' b' n' p' l' one other =
    let a = head_has tokens r b n p l one in
    let c = head_has tokens r' b' n' p' l' other in
    record {
      ring = number_same _ r r' a.1.ring_at.numbered c.1.ring_at.numbered;
      bits = number_same _ b b' a.1.bits_at.numbered c.1.bits_at.numbered;
      words = number_same _ n n' a.1.words_at.numbered c.1.words_at.numbered;
      callers = number_same _ p p' a.1.callers_at.numbered c.1.callers_at.numbered;
      life = number_same _ l l' a.1.life_at.numbered c.1.life_at.numbered;
    }

setups_same : (one other : Setup) → one.shape.ring ≡ other.shape.ring → one.shape.sig_words ≡ other.shape.sig_words → one.shape.heap ≡ other.shape.heap
    → one.shape.life ≡ other.shape.life → one.callers ≡ other.callers → one.regions ≡ other.regions → one.first ≡ other.first → one ≡ other
setups_same one other e1 e2 e3 e4 e5 e6 e7 =
    let at : ℕ → ℕ → ℕ → ℕ → ℕ → List Region → List ℕ → Setup =
    λ r s h l c rs ws. record { shape = record { ring = r; sig_words = s; heap = h; life = l }; callers = c; regions = rs; first = ws } in
    ap (λ r. at r one.shape.sig_words one.shape.heap one.shape.life one.callers one.regions one.first) e1
    ∙ ap (λ s. at other.shape.ring s one.shape.heap one.shape.life one.callers one.regions one.first) e2
    ∙ ap (λ h. at other.shape.ring other.shape.sig_words h one.shape.life one.callers one.regions one.first) e3
    ∙ ap (λ l. at other.shape.ring other.shape.sig_words other.shape.heap l one.callers one.regions one.first) e4
    ∙ ap (λ c. at other.shape.ring other.shape.sig_words other.shape.heap other.shape.life c one.regions one.first) e5
    ∙ ap (λ rs. at other.shape.ring other.shape.sig_words other.shape.heap other.shape.life other.callers rs one.first) e6
    ∙ ap (at other.shape.ring other.shape.sig_words other.shape.heap other.shape.life other.callers other.regions) e7

pub scripts_agree : ScriptsAgree
scripts_agree lines setup other events others s t =
    let same : s.head ∷ (s.region_lines ++ (s.word_lines ++ s.event_lines)) ≡ t.head ∷ (t.region_lines ++ (t.word_lines ++ t.event_lines)) =
    sym s.whole ∙ t.whole in
    let heads : s.head ≡ t.head = cc (same) in
    let rest : s.region_lines ++ (s.word_lines ++ s.event_lines) ≡ t.region_lines ++ (t.word_lines ++ t.event_lines) = cc (same) in
    let groups = groups_same s.region_lines s.word_lines s.event_lines t.region_lines t.word_lines t.event_lines
    (regions_each s.region_lines setup.regions s.regions) (words_each s.word_lines s.words s.opens) (events_each s.event_lines events s.happens)
    (regions_each t.region_lines other.regions t.regions) (words_each t.word_lines t.words t.opens) (events_each t.event_lines others t.happens) rest in
    let ring = ring_same (tokens_at t.head) setup.shape.ring (64 * setup.shape.sig_words) setup.shape.heap setup.callers setup.shape.life other.shape.ring
    (64 * other.shape.sig_words) other.shape.heap other.callers other.shape.life
    (subst (λ l. IsRingLine (tokens_at l) setup.shape.ring (64 * setup.shape.sig_words) setup.shape.heap setup.callers setup.shape.life) heads s.ring) t.ring in
    let regions : setup.regions ≡ other.regions =
    regions_same t.region_lines setup.regions other.regions (subst (λ ls. AreRegions ls setup.regions) groups.0 s.regions) t.regions in
    let words : s.words ≡ t.words = words_same t.word_lines s.words t.words (subst (λ ls. AreWords ls s.words) groups.1 s.opens) t.opens in
    let first : setup.first ≡ other.first =
    s.first ∙ ap (λ n. after (replicate n 0) s.words) ring.words ∙ ap (after (replicate other.shape.heap 0)) words ∙ sym t.first in (
      setups_same setup other ring.ring (omega (arith, ring.bits)) ring.words ring.life ring.callers regions first,
      events_same t.event_lines events others (subst (λ ls. AreEvents ls events) groups.2 s.happens) t.happens,
    )
