-- What one more line adds, by the tests of its kind.
use Rattle.std.proofs.Common.{ℕ, ◌<◌, List, Result, Ok, Err, subst}
use Rattle.tx_model.specs.declared.gate.Region.{Region}
use Rattle.tx_model.specs.declared.word.Word.{Word}
use Rattle.ring_script.specs.declared.draft.Draft.{Draft}
use Rattle.ring_script.specs.declared.draft.Refusal.{Refusal}
use Rattle.ring_script.specs.declared.draft.Refusal.TheVariants as refusal
use Rattle.ring_script.specs.declared.reading.Asked.{Asked}
use Rattle.ring_script.specs.Reading.{IsRegionLine, IsWordLine, IsAsked}
use Rattle.ring_script.specs.Draft.{Steps, MayAdd, of_region, of_word, of_events, adds_region, adds_word, adds_events, IsAdded, MayAddRegion, MayAddWord, WithRegion, WithWord, WithEvents}
use Rattle.ring_script.proofs.Groups.{region_word_apart, region_asked_apart, word_asked_apart, region_same, word_same}

module _ (limit : ℕ) (d : Draft) (number : ℕ) (tokens : List (List ℕ)) (next : Draft) where
  no_region : (r : Region) → IsRegionLine tokens r → (MayAddRegion d r → ⊥) → MayAdd limit d tokens → ⊥
  no_region r line none (of_region other also may) = none (subst (λ x. MayAddRegion d x) (region_same tokens other r also line) may)
  no_region r line none (of_word w also may) = region_word_apart tokens r w line also
  no_region r line none (of_events a also may) = region_asked_apart tokens r a line also

  pub by_region : (r : Region) (result : Result (Unit {0}) Refusal) → IsRegionLine tokens r → Steps (MayAddRegion d r) (WithRegion d r next) result
      → IsAdded limit d number tokens next result
  by_region r (Ok u) line steps = adds_region r line steps.0 steps.1
  by_region r (Err refusal.Bad) line steps = no_region r line steps
  by_region r (Err refusal.Memory) line steps = tt

  no_word : (w : Word) → IsWordLine tokens w → (MayAddWord d w → ⊥) → MayAdd limit d tokens → ⊥
  no_word w line none (of_region r also may) = region_word_apart tokens r w also line
  no_word w line none (of_word other also may) = none (subst (λ x. MayAddWord d x) (word_same tokens other w also line) may)
  no_word w line none (of_events a also may) = word_asked_apart tokens w a line also

  pub by_word : (w : Word) (result : Result (Unit {0}) Refusal) → IsWordLine tokens w → Steps (MayAddWord d w) (WithWord d w next) result
      → IsAdded limit d number tokens next result
  by_word w (Ok u) line steps = adds_word w line steps.0 steps.1
  by_word w (Err refusal.Bad) line steps = no_word w line steps
  by_word w (Err refusal.Memory) line steps = tt

  no_events : (a : Asked) → IsAsked tokens a → (d.event_lines < limit → ⊥) → MayAdd limit d tokens → ⊥
  no_events a line none (of_region r also may) = region_asked_apart tokens r a also line
  no_events a line none (of_word w also may) = word_asked_apart tokens w a also line
  no_events a line none (of_events other also may) = none may

  pub by_events : (a : Asked) (result : Result (Unit {0}) Refusal) → IsAsked tokens a → Steps (d.event_lines < limit) (WithEvents d number a next) result
      → IsAdded limit d number tokens next result
  by_events a (Ok u) line steps = adds_events a line steps.0 steps.1
  by_events a (Err refusal.Bad) line steps = no_events a line steps
  by_events a (Err refusal.Memory) line steps = tt

  pub by_none : ((r : Region) → IsRegionLine tokens r → ⊥) → ((w : Word) → IsWordLine tokens w → ⊥) → ((a : Asked) → IsAsked tokens a → ⊥)
      → MayAdd limit d tokens → ⊥
  by_none regions words events (of_region r line may) = regions r line
  by_none regions words events (of_word w line may) = words w line
  by_none regions words events (of_events a line may) = events a line
