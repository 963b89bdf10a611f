-- What reading several lists leaves, one after the other.
use Rattle.std.proofs.Common.{◌≡◌, ◌⊎◌, ℕ, ◌+◌, ◌<◌, ◌++◌, List, [], ◌∷◌, length, get_or, take, refl, sym, ap, ◌∙◌, subst, arith, inl, inr, Contains, IsSome, ◌↔◌}
use Rattle.std.specs.BTreeMap.{get}
use Rattle.std.proofs.lemmas.List.{take_more}
use Rattle.std.proofs.lemmas.List.Elements.{Contains-push_cases}
use Rattle.tx_model.specs.declared.history.Commit.{Commit}
use Rattle.tx_model.specs.declared.pass.PassState.TheVariants.{Active}
use Rattle.tx_model.specs.declared.pass.Stop.{Stop}
use Rattle.tx_model.specs.declared.view.Attempt.{Attempt}
use Rattle.tx_model.specs.declared.view.PassView.{PassView}
use Rattle.tx_model.specs.Calls.{OnlyReads}
use Rattle.tx_model.specs.Made.{Made}
use Rattle.tx_model.proofs.lemmas.Attempts.{only_reads_then, fitted_before_reads}
use Rattle.tx_model.proofs.lemmas.Calls.{later_itself}
use Rattle.tx_model.proofs.lemmas.Histories.{beginning_of_itself}
use Rattle.mail_words.specs.Hash as hash
use Rattle.mail_words.specs.Key.{KeyNumbers, key_cmp}
use Rattle.mail_query.specs.Answers.{messages_with}
use Rattle.mail_query.specs.Numbers.{Rises}
use Rattle.tx_heap.specs.Layout.{mail_layout, sizes_of}
use Rattle.tx_heap.specs.Index.{rows_of}
use Rattle.tx_heap.specs.Mail.{mail_heap}
use Rattle.tx_heap.proofs.lemmas.HeapWords.{lanes_many}
use Rattle.tx_heap.proofs.lemmas.Reads.{fits_alone}
use Rattle.tx_heap.proofs.lemmas.Stops.{stopped_after}
use Rattle.tx_postings.specs.Listing.{Listed, NotListed}
use Rattle.tx_postings.specs.declared.listing.ListStop.{ListStop}
use Rattle.tx_postings.specs.declared.listing.ListStop.TheVariants.{Stopped, Sealed, Memory}
use Rattle.tx_postings.proofs.lemmas.Listed.{listed_rows}
use Rattle.mail_answers.specs.Lists.{ListMap, HasLists, HasNone}
use Rattle.mail_answers.specs.Reading.{AreOfRows, HaveRead, GainsList, NotRead}
use Rattle.mail_answers.proofs.Maps.{AreKeys}
use Rattle.mail_answers.proofs.Members.{ordered_messages}

abbrev pub WroteNone : Attempt → Type 0
WroteNone attempt = (attempt.writes ≡ []) × (attempt.published ≡ [])

pub none_after : {old new : PassView} {before now : Attempt} → OnlyReads old new before now → WroteNone before → WroteNone now
none_after only none = (only.writes ∙ none.0, only.published ∙ none.1)

-- nothing was done
pub reads_nothing : (view : PassView) (attempt : Attempt) → view.state ≡ Active → OnlyReads view view attempt attempt
reads_nothing view attempt active = record {
  goes_on = record { active = active; later = later_itself view; start = omega arith };
  reads = beginning_of_itself attempt.reads;
  writes = refl;
  sealed = refl;
  published = refl;
}

module _ (made : Made (List (List KeyNumbers))) {old mid : PassView} (new : PassView) {before between : Attempt} (now : Attempt)
    (only : OnlyReads old mid before between) where
  -- a refusal after some reads
  pub not_read_then : (shows : List Commit → ℕ → List ℕ → Stop → Type 0) (stop : ListStop) → NotRead made shows mid new between now stop
      → NotRead made shows old new before now stop
  not_read_then shows (Stopped stop) was = stopped_after only was
  not_read_then shows (Sealed segment) was = (only_reads_then only was.0, was.1)
  not_read_then shows Memory was = only_reads_then only was

-- why one list wasn't read
pub not_listed : (made : Made (List (List KeyNumbers))) (shows : List Commit → ℕ → List ℕ → Stop → Type 0) (old new : PassView) (before now : Attempt)
    (key : KeyNumbers) (items then : List ℕ) (stop : ListStop) → NotListed made shows old new before now key items then stop
    → NotRead made shows old new before now stop
not_listed made shows old new before now key items then (Stopped stop) was = was
not_listed made shows old new before now key items then (Sealed segment) was =
    (was.only, λ memory good fits. (was.cut_short memory good (fits_alone fits)).is_sealed)
not_listed made shows old new before now key items then Memory was = was

-- what holds of the index still holds after more reads
of_rows_then : (made : Made (List (List KeyNumbers))) {mid new : PassView} {between now : Attempt} (lists : ListMap) → OnlyReads mid new between now
    → AreOfRows made mid between lists → AreOfRows made new now lists
of_rows_then made lists only holds memory good fits = holds memory good (fitted_before_reads only memory fits)

module _ {made : Made (List (List KeyNumbers))} where
  -- no key was read yet
  pub none_read : (view : PassView) (attempt : Attempt) (lists : ListMap) → view.state ≡ Active → HasNone lists
      → HaveRead made view view attempt attempt [] lists
  none_read view attempt lists active none = record {
    only = reads_nothing view attempt active;
    all = λ key among. absurd (no_member among);
    of_rows = λ memory good fits unpacked key messages is. absurd (let e : get key_cmp lists key ≡ _ = none key in cc);
  }
    where
      no_member : {key : KeyNumbers} → Contains [] key → ⊥
      no_member (k, below, at) = omega (arith, below)

  -- one key more was read
  pub more_read : {old mid new : PassView} {before between now : Attempt} {lists after : ListMap} (keys : List KeyNumbers) (i : ℕ) (key d : KeyNumbers)
      → i < length keys → key ≡ get_or keys i d → HaveRead made old mid before between (take i keys) lists → OnlyReads mid new between now
      → GainsList made new now key lists after → HaveRead made old new before now (take (i + 1) keys) after
  more_read {lists = lists} {after = after} keys i key d within is read only gains = record {
    only = only_reads_then read.only only;
    all = λ other among. by_place other (Contains-push_cases (take i keys) key other
        (subst (λ ks. Contains ks other) (take_more keys i d within ∙ ap (λ k. take i keys ++ k ∷ []) (sym is)) among));
    of_rows = gains.of_rows (of_rows_then made lists only read.of_rows);
  }
    where
      by_place : (other : KeyNumbers) → Contains (take i keys) other ⊎ (key ≡ other) → IsSome (get key_cmp after other)
      by_place other (inl before) = gains.more other (inl (read.all other before))
      by_place other (inr last) = gains.more other (inr (sym last))

  -- the list of one key, in order
  pub list_gained : AreKeys → {old new : PassView} {before now : Attempt} {key : KeyNumbers} {then ordered : List ℕ} {lists after : ListMap}
      → Listed made old new before now key [] then → Rises ordered → ((number : ℕ) → Contains ordered number ↔ Contains then number)
      → ((table : List (KeyNumbers × ℕ)) → ordered ≡ messages_with table key → HasLists lists table → HasLists after table)
      → ((other : KeyNumbers) → IsSome (get key_cmp lists other) ⊎ (other ≡ key) → IsSome (get key_cmp after other))
      → GainsList made new now key lists after
  list_gained are {key = key} {then = then} {ordered = ordered} listed rises same put more = record {
    more = more;
    of_rows = λ has memory good fits unpacked.
        let heap = mail_heap made.sense memory in
        let rows = rows_of mail_layout heap in
        let lane : hash.lane_of key < length heap.lanes = omega (arith, lanes_many (sizes_of made.sense) memory good.size) in
        let listed_here = listed_rows good.index.grows.index unpacked key lane listed.messages (listed.listed memory good (fits_alone fits)) in
        put rows (ordered_messages are rows key ordered then rises same
        (λ number. subst (λ ms. Contains ms number ↔ Contains rows (key, number)) (sym listed.added) (listed_here number)))
        (has memory good fits unpacked);
  }
