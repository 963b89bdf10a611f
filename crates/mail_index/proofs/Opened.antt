-- What the memory of an index is made with, and what its workers leave.
use Rattle.std.proofs.Common.{◌≡◌, ℕ, ◌^◌, List, [], ap, ◌∙◌, sym}
use Rattle.tx_model.specs.declared.gate.Region.{Region}
use Rattle.tx_model.specs.declared.pass.PassState.TheVariants.{Idle}
use Rattle.tx_model.specs.declared.view.PassView.{PassView}
use Rattle.tx_model.specs.Made.{Made}
use Rattle.tx_model.specs.Pass.{IsWhole}
use Rattle.ring_words.specs.Pass.{made_with}
use Rattle.mail_words.specs.Key.{KeyNumbers}
use Rattle.tx_heap.specs.Layout.{sizes_of, regions_of}
use Rattle.tx_heap.specs.Opening.{opening_of}
use Rattle.mail_workers.specs.Workers.{AreIndexed}
use Rattle.mail_index.specs.Indexed.{made_for, IsIndexed}
use Rattle.mail_index.proofs.lemmas.Complete.{all_indexed}

-- what the memory was made with, by its parts
pub made_is : {lists sense : List (List KeyNumbers)} {words : List ℕ} {regions : List Region} → sense ≡ lists → words ≡ opening_of sense
    → regions ≡ regions_of (sizes_of sense) → made_with sense words regions (2 ^ 60) ≡ made_for lists
made_is {lists} {sense} {words} {regions} same opening parts =
    ap (λ (w : List ℕ). made_with sense w regions (2 ^ 60)) opening
    ∙ ap (λ (r : List Region). made_with sense (opening_of sense) r (2 ^ 60)) parts
    ∙ ap made_for same

-- after the workers
pub indexed : {lists : List (List KeyNumbers)} {made : Made (List (List KeyNumbers))} {old new : PassView} → made ≡ made_for lists → old.history ≡ []
    → new.state ≡ Idle → IsWhole new → AreIndexed made old new → IsIndexed lists made new
indexed {lists} {made} {old} {new} is none idle whole are = record {
  sense = ap (λ (m : Made (List (List KeyNumbers))). m.sense) is;
  opening = opening_is;
  idle = idle;
  whole = whole;
  complete = all_indexed opening_is none are;
}
  where
    opening_is : made.opening ≡ opening_of made.sense
    opening_is =
        ap (λ (m : Made (List (List KeyNumbers))). m.opening) is
        ∙ sym (ap (λ (m : Made (List (List KeyNumbers))). opening_of m.sense) is)
