-- What writes of several words leave of an attempt, one after the other.
use Rattle.std.proofs.Common.{◌≡◌, ℕ, ◌+◌, ◌*◌, ◌<◌, ◌≤◌, Option, Some, None, List, [], ◌∷◌, ◌++◌, length, get_or, take, refl, sym, ◌∙◌, ap, arith}
use Rattle.std.proofs.lemmas.List.{append-nil, take_more}
use Rattle.tx_model.specs.declared.pass.PassState.TheVariants.{Active}
use Rattle.tx_model.specs.declared.word.Word.{Word}
use Rattle.tx_model.specs.declared.view.Attempt.{Attempt}
use Rattle.tx_model.specs.declared.view.PassView.{PassView}
use Rattle.tx_model.specs.Calls.{IsLater}
use Rattle.tx_model.proofs.lemmas.Calls.{goes_on_then}
use Rattle.tx_model.proofs.lemmas.Histories.{beginning_then}
use Rattle.tx_heap.specs.Layout.{Sizes}
use Rattle.tx_model.specs.Calls.{OnlyReads}
use Rattle.tx_buckets.specs.Writing.{WritesMore, with_words}
use Rattle.tx_buckets.proofs.ReadSteps.{opened_after}
use Rattle.tx_buckets.proofs.lemmas.Writes.{words_stay, words_few, opened_with_words}
use Rattle.tx_postings.specs.Heads.{head_words, with_heads}
use Rattle.tx_postings.specs.declared.heads.Head.{Head}

pub writes_then : {sizes : Sizes} {old mid new : PassView} {before between now : Attempt} {first second : ℕ} → WritesMore sizes old mid before between first
    → WritesMore sizes mid new between now second → (most : ℕ) → first + second ≤ most
    → WritesMore sizes old new before now most
writes_then p q most enough = record {
  goes_on = goes_on_then p.goes_on q.goes_on;
  reads = beginning_then _ _ _ p.reads q.reads;
  few = omega (arith, p.few, q.few, enough);
  sealed = q.sealed ∙ p.sealed;
  published = q.published ∙ p.published;
  opened = λ segment is. q.opened segment (p.opened segment is);
}

pub writes_few : {sizes : Sizes} {old new : PassView} {before now : Attempt} {few : ℕ} → WritesMore sizes old new before now few → (most : ℕ) → few ≤ most
    → WritesMore sizes old new before now most
writes_few p most enough = record {
  goes_on = p.goes_on;
  reads = p.reads;
  few = omega (arith, p.few, enough);
  sealed = p.sealed;
  published = p.published;
  opened = p.opened;
}

-- ---- nothing, and words of one segment
pub later_same : (view : PassView) → IsLater view view
later_same view = record { history = ([], sym (append-nil view.history)); front = omega arith; mine = refl; owned = refl; share = refl }

pub writes_none : (sizes : Sizes) (view : PassView) (attempt : Attempt) → view.state ≡ Active → WritesMore sizes view view attempt attempt 0
writes_none sizes view attempt active = record {
  goes_on = record { active = active; later = later_same view; start = omega arith };
  reads = ([], sym (append-nil attempt.reads));
  few = omega arith;
  sealed = refl;
  published = refl;
  opened = λ segment is. is;
}

pub reads_write_none : {sizes : Sizes} {old new : PassView} {before now : Attempt} → OnlyReads old new before now → WritesMore sizes old new before now 0
reads_write_none only = record {
  goes_on = only.goes_on;
  reads = only.reads;
  few = omega (arith, ap (λ (ws : List Word). length ws) only.writes);
  sealed = only.sealed;
  published = only.published;
  opened = λ segment is. opened_after only is;
}

pub words_more : (sizes : Sizes) (view : PassView) (attempt : Attempt) (segment : ℕ) (words : List Word) → view.state ≡ Active
    → WritesMore sizes view view attempt (with_words sizes segment attempt words) (length words)
words_more sizes view attempt segment words active =
    let stay = words_stay sizes segment attempt words in
    record {
      goes_on = record { active = active; later = later_same view; start = omega (arith, stay.start) };
      reads = ([], stay.reads ∙ sym (append-nil attempt.reads));
      few = words_few sizes segment attempt words;
      sealed = stay.sealed;
      published = stay.published;
      opened = λ other is. opened_with_words other stay is;
    }

-- ---- the first words of the segments
pub heads_more : (sizes : Sizes) (view : PassView) (heads : List (Option Head)) (attempt : Attempt) → view.state ≡ Active
    → WritesMore sizes view view attempt (with_heads sizes attempt heads) (3 * length heads)
heads_more sizes view [] attempt active = writes_few (writes_none sizes view attempt active) 0 (omega arith)
heads_more sizes view (None ∷ heads) attempt active = writes_few (heads_more sizes view heads attempt active) (3 * length (None ∷ heads)) (omega arith)
heads_more sizes view (Some head ∷ heads) attempt active =
    writes_then (words_more sizes view attempt head.segment (head_words head) active)
    (heads_more sizes view heads (with_words sizes head.segment attempt (head_words head)) active) (3 * length (Some head ∷ heads)) (omega arith)

heads_push_none : (sizes : Sizes) (heads : List (Option Head)) (attempt : Attempt)
    → with_heads sizes attempt (heads ++ None ∷ []) ≡ with_heads sizes attempt heads
heads_push_none sizes [] attempt = refl
heads_push_none sizes (None ∷ heads) attempt = heads_push_none sizes heads attempt
heads_push_none sizes (Some first ∷ heads) attempt = heads_push_none sizes heads (with_words sizes first.segment attempt (head_words first))

heads_push : (sizes : Sizes) (heads : List (Option Head)) (attempt : Attempt) (head : Head)
    → with_heads sizes attempt (heads ++ Some head ∷ []) ≡ with_words sizes head.segment (with_heads sizes attempt heads) (head_words head)
heads_push sizes [] attempt head = refl
heads_push sizes (None ∷ heads) attempt head = heads_push sizes heads attempt head
heads_push sizes (Some first ∷ heads) attempt head = heads_push sizes heads (with_words sizes first.segment attempt (head_words first)) head

-- one lane more
pub heads_next_none : (sizes : Sizes) (heads : List (Option Head)) (attempt : Attempt) (lane : ℕ) (d : Option Head) → lane < length heads
    → get_or heads lane d ≡ None → with_heads sizes attempt (take (lane + 1) heads) ≡ with_heads sizes attempt (take lane heads)
heads_next_none sizes heads attempt lane d below is =
    ap (with_heads sizes attempt) (take_more heads lane d below ∙ ap (λ h. take lane heads ++ h ∷ []) is) ∙ heads_push_none sizes (take lane heads) attempt

pub heads_next : (sizes : Sizes) (heads : List (Option Head)) (attempt : Attempt) (lane : ℕ) (d : Option Head) (head : Head) → lane < length heads
    → get_or heads lane d ≡ Some head
    → with_heads sizes attempt (take (lane + 1) heads) ≡ with_words sizes head.segment (with_heads sizes attempt (take lane heads)) (head_words head)
heads_next sizes heads attempt lane d head below is =
    ap (with_heads sizes attempt) (take_more heads lane d below ∙ ap (λ h. take lane heads ++ h ∷ []) is) ∙ heads_push sizes (take lane heads) attempt head
