-- The index that an attempt leaves once the first words of the lanes' own segments are written.
use Rattle.std.proofs.Common.{◌≡◌, ◌≢◌, ℕ, zero, suc, ◌<◌, ◌≤◌, Option, Some, None, List, [], ◌∷◌, length, get_or, set, refl, sym, ◌∙◌, ap, subst, arith, inl, inr}
use Rattle.std.proofs.Math.ListN.{get_or-eq_default}
use Rattle.std.proofs.lemmas.Bool.{cases_eq, cases_lt}
use Rattle.std.proofs.lemmas.List.{length-set, get_or-set_same, get_or-set_other, ext_get_or}
use Rattle.std.proofs.lemmas.List.Elements.{All-from_recursion}
use Rattle.tx_model.specs.declared.word.Word.{Word}
use Rattle.tx_model.specs.declared.view.Attempt.{Attempt}
use Rattle.tx_model.specs.Memory.{after}
use Rattle.tx_model.specs.Words.{AreApart}
use Rattle.tx_model.proofs.lemmas.States.{after_length}
use Rattle.tx_heap.specs.Layout.{Sizes, words_of, segment_len}
use Rattle.tx_heap.specs.Heap.{Heap, own_of, heap_of, segment_of}
use Rattle.tx_heap.specs.Index.{HasLanes}
use Rattle.tx_heap.specs.BudgetLaw.{own_apart}
use Rattle.tx_heap.proofs.lemmas.HeapWords.{segments_many, segment_many}
use Rattle.tx_buckets.specs.Writing.{with_words}
use Rattle.tx_buckets.proofs.lemmas.Writes.{words_stay, words_over, in_segment}
use Rattle.tx_postings.specs.Heads.{headed, head_words, with_heads}
use Rattle.tx_postings.specs.declared.heads.Head.{Head}

-- ---- the heads of the lanes
-- a lane that has one is among the lanes
pub lane_inside : (heads : List (Option Head)) (lane : ℕ) (head : Head) → get_or heads lane None ≡ Some head → lane < length heads
lane_inside heads lane head is =
    elim (cases_lt lane (length heads)) [
      | inl below ↦ below
      | inr beyond ↦ absurd (never (sym (get_or-eq_default heads None beyond) ∙ is))
    ]
  where
    never : ◌≡◌ {A = Option Head} None (Some head) → ⊥
    never e = cc

pub same_head : (one two : Head) → ◌≡◌ {A = Option Head} (Some one) (Some two) → one ≡ two
same_head one two e = cc

-- the heads are those of the lanes' own segments
abbrev pub AreOwn : List (Option Head) → Heap → Type 0
AreOwn heads heap = (lane : ℕ) (head : Head) → get_or heads lane None ≡ Some head → own_of heap lane ≡ head.segment

-- different lanes have different segments
abbrev pub HaveApart : List (Option Head) → Type 0
HaveApart heads =
    (lane other : ℕ) (one two : Head) → get_or heads lane None ≡ Some one → get_or heads other None ≡ Some two → lane ≢ other → one.segment ≢ two.segment

pub own_segments_apart : (heads : List (Option Head)) (heap : Heap) → HasLanes heap → length heads ≡ length heap.lanes → AreOwn heads heap → HaveApart heads
own_segments_apart heads heap lanes many own lane other one two is also apart same =
    own_apart heap lanes lane other (omega (arith, many, lane_inside heads lane one is)) (omega (arith, many, lane_inside heads other two also)) apart
    (own lane one is ∙ same ∙ sym (own other two also))

-- ---- the heap with the heads in place
pub record IsPending (heads : List (Option Head)) (real virtual : Heap) : Type 0 where
  pub only : real ≡ record virtual { segments = real.segments }
  pub many : length virtual.segments ≡ length real.segments
  pub here : (lane : ℕ) (head : Head) → get_or heads lane None ≡ Some head → segment_of virtual head.segment ≡ headed head (segment_of real head.segment)
  pub others : (segment : ℕ) → ((lane : ℕ) (head : Head) → get_or heads lane None ≡ Some head → head.segment ≢ segment)
      → segment_of virtual segment ≡ segment_of real segment

-- the heads as they were read
pub pending_none : (heads : List (Option Head)) (real : Heap)
    → ((lane : ℕ) (head : Head) → get_or heads lane None ≡ Some head → segment_of real head.segment ≡ headed head (segment_of real head.segment))
    → IsPending heads real real
pending_none heads real same = record { only = refl; many = refl; here = same; others = λ segment apart. refl }

-- a segment's words change, and its head with them
module _ (heads : List (Option Head)) {real virtual : Heap} (pending : IsPending heads real virtual) (apart : HaveApart heads) (lane : ℕ) (head : Head)
    (is : get_or heads lane None ≡ Some head) (then : Head) (same : then.segment ≡ head.segment) (words : List ℕ)
    (inside : head.segment < length real.segments) where
  below : lane < length heads
  below = lane_inside heads lane head is

  abbrev changed : Heap
  changed = in_segment real head.segment words

  abbrev grown : Heap
  grown = in_segment virtual head.segment (headed then words)

  real_there : segment_of changed head.segment ≡ words
  real_there = get_or-set_same real.segments head.segment words [] inside

  virtual_there : segment_of grown head.segment ≡ headed then words
  virtual_there = get_or-set_same virtual.segments head.segment (headed then words) [] (omega (arith, inside, pending.many))

  now_here : get_or (set heads lane (Some then)) lane None ≡ Some then
  now_here = get_or-set_same heads lane (Some then) None below

  pending_changed : IsPending (set heads lane (Some then)) changed grown
  pending_changed = record {
    only = ap (λ (h : Heap). record h { segments = set real.segments head.segment words }) pending.only;
    many = length-set virtual.segments head.segment (headed then words) ∙ pending.many ∙ sym (length-set real.segments head.segment words);
    here = here;
    others = others;
  }
    where
      here : (l : ℕ) (h : Head) → get_or (set heads lane (Some then)) l None ≡ Some h → segment_of grown h.segment ≡ headed h (segment_of changed h.segment)
      here l h there =
          elim (cases_eq l lane) [
            | inl at ↦
                let it : then ≡ h = same_head then h (sym now_here ∙ ap (λ i. get_or (set heads lane (Some then)) i None) (sym at) ∙ there) in
                subst (λ (x : Head). segment_of grown x.segment ≡ headed x (segment_of changed x.segment)) it
                (subst (λ s. segment_of grown s ≡ headed then (segment_of changed s)) (sym same)
                (virtual_there ∙ ap (headed then) (sym real_there)))
            | inr off ↦
                let was = sym (get_or-set_other heads lane l (Some then) None off) ∙ there in
                let other = apart l lane h head was is off in
                get_or-set_other virtual.segments head.segment h.segment (headed then words) [] other
                ∙ pending.here l h was
                ∙ ap (headed h) (sym (get_or-set_other real.segments head.segment h.segment words [] other))
          ]

      others : (segment : ℕ) → ((l : ℕ) (h : Head) → get_or (set heads lane (Some then)) l None ≡ Some h → h.segment ≢ segment)
          → segment_of grown segment ≡ segment_of changed segment
      others segment none =
          let other : segment ≢ head.segment = λ e. none lane then now_here (same ∙ sym e) in
          get_or-set_other virtual.segments head.segment segment (headed then words) [] other
          ∙ pending.others segment (λ l h was.
          elim (cases_eq l lane) [
            | inl at ↦ λ e. other (sym e ∙ ap (λ (x : Head). x.segment) (same_head h head (sym was ∙ ap (λ i. get_or heads i None) at ∙ is)))
            | inr off ↦ none l h (get_or-set_other heads lane l (Some then) None off ∙ was)
          ])
          ∙ sym (get_or-set_other real.segments head.segment segment words [] other)

  pub pending_more : (next : Heap) → next ≡ changed → IsPending (set heads lane (Some then)) next grown
  pending_more next is_next = subst (λ h. IsPending (set heads lane (Some then)) h grown) (sym is_next) pending_changed

-- ---- the heads are written
head_written : (head : Head) (words : List ℕ) → 3 ≤ length words → after words (head_words head) ≡ headed head words
head_written head [] some = absurd (omega (arith, some))
head_written head (a ∷ []) some = absurd (omega (arith, some))
head_written head (a ∷ b ∷ []) some = absurd (omega (arith, some))
head_written head (a ∷ b ∷ c ∷ words) some = refl

none_left : (real virtual : Heap) → IsPending [] real virtual → real ≡ virtual
none_left real virtual pending =
    let same : real.segments ≡ virtual.segments = sym
    (ext_get_or [] virtual.segments real.segments pending.many (λ i inside. pending.others i (λ lane head is. absurd (never lane head is)))) in
    pending.only ∙ ap (λ (segments : List (List ℕ)). record virtual { segments = segments }) same
  where
    never : (lane : ℕ) (head : Head) → get_or [] lane None ≡ Some head → ⊥
    never lane head is = omega (arith, lane_inside [] lane head is)

tail_apart : (first : Option Head) (heads : List (Option Head)) → HaveApart (first ∷ heads) → HaveApart heads
tail_apart first heads apart lane other one two is also off = apart (suc lane) (suc other) one two is also (λ e. off (omega (arith, e)))

tail_pending : (heads : List (Option Head)) (real virtual : Heap) → IsPending (None ∷ heads) real virtual → IsPending heads real virtual
tail_pending heads real virtual pending = record {
  only = pending.only;
  many = pending.many;
  here = λ lane head is. pending.here (suc lane) head is;
  others = λ segment none. pending.others segment (each segment none);
}
  where
    never : (head : Head) → ◌≡◌ {A = Option Head} None (Some head) → ⊥
    never head e = cc

    each : (segment : ℕ) → ((lane : ℕ) (head : Head) → get_or heads lane None ≡ Some head → head.segment ≢ segment) → (lane : ℕ) (head : Head)
        → get_or (None ∷ heads) lane None ≡ Some head → head.segment ≢ segment
    each segment none zero head is = absurd (never head is)
    each segment none (suc lane) head is = none lane head is

first_written : (head : Head) (heads : List (Option Head)) (real virtual : Heap) → HaveApart (Some head ∷ heads) → head.segment < length real.segments
    → IsPending (Some head ∷ heads) real virtual → IsPending heads (in_segment real head.segment (headed head (segment_of real head.segment))) virtual
first_written head heads real virtual apart inside pending = record {
  only = ap (λ (h : Heap). record h { segments = set real.segments head.segment own }) pending.only;
  many = pending.many ∙ sym (length-set real.segments head.segment own);
  here = λ lane other is.
      let off : other.segment ≢ head.segment = apart (suc lane) 0 other head is refl (λ e. omega (arith, e)) in
      pending.here (suc lane) other is ∙ ap (headed other) (sym (get_or-set_other real.segments head.segment other.segment own [] off));
  others = λ segment none.
      elim (cases_eq segment head.segment) [
        | inl same ↦
            ap (segment_of virtual) same ∙ pending.here 0 head refl
            ∙ sym (get_or-set_same real.segments head.segment own [] inside)
            ∙ ap (segment_of (in_segment real head.segment own)) (sym same)
        | inr off ↦
            pending.others segment (each segment off none) ∙ sym (get_or-set_other real.segments head.segment segment own [] off)
      ];
}
  where
    own : List ℕ
    own = headed head (segment_of real head.segment)

    each : (segment : ℕ) → segment ≢ head.segment → ((lane : ℕ) (other : Head) → get_or heads lane None ≡ Some other → other.segment ≢ segment)
        → (lane : ℕ) (other : Head) → get_or (Some head ∷ heads) lane None ≡ Some other → other.segment ≢ segment
    each segment off none zero other is = λ e. off (sym e ∙ ap (λ (x : Head). x.segment) (sym (same_head head other is)))
    each segment off none (suc lane) other is = none lane other is

-- then the index is the one that was pending
pub heads_over : (sizes : Sizes) (memory : List ℕ) → length memory ≡ words_of sizes → (heads : List (Option Head)) (attempt : Attempt) (virtual : Heap)
    → AreApart attempt.writes → HaveApart heads → ((lane : ℕ) (head : Head) → get_or heads lane None ≡ Some head → head.segment < sizes.segments)
    → IsPending heads (heap_of sizes (after memory attempt.writes)) virtual
    → heap_of sizes (after memory (with_heads sizes attempt heads).writes) ≡ virtual
heads_over sizes memory size [] attempt virtual distinct apart within pending = none_left (heap_of sizes (after memory attempt.writes)) virtual pending
heads_over sizes memory size (None ∷ heads) attempt virtual distinct apart within pending =
    heads_over sizes memory size heads attempt virtual distinct (tail_apart None heads apart) (λ lane head is. within (suc lane) head is)
    (tail_pending heads (heap_of sizes (after memory attempt.writes)) virtual pending)
heads_over sizes memory size (Some head ∷ heads) attempt virtual distinct apart within pending =
    let real = heap_of sizes (after memory attempt.writes) in
    let then = with_words sizes head.segment attempt (head_words head) in
    let below : head.segment < sizes.segments = within 0 head refl in
    let many = segment_many sizes (after memory attempt.writes) (after_length memory attempt.writes ∙ size) head.segment below in
    let next : heap_of sizes (after memory then.writes) ≡ in_segment real head.segment (headed head (segment_of real head.segment)) =
    words_over sizes head.segment attempt (head_words head) memory below distinct
    (All-from_recursion (λ (word : Word). word.addr < segment_len) (head_words head) (omega arith, (omega arith, (omega arith, tt))))
    ∙ ap (in_segment real head.segment) (head_written head (segment_of real head.segment) (omega (arith, many))) in
    heads_over sizes memory size heads then virtual ((words_stay sizes head.segment attempt (head_words head)).apart distinct)
    (tail_apart (Some head) heads apart) (λ lane other is. within (suc lane) other is)
    (subst (λ h. IsPending heads h virtual) (sym next)
    (first_written head heads real virtual apart (omega (arith, below, segments_many sizes (after memory attempt.writes))) pending))
