-- What is said of the word lists of what is searched, by where listing them ended.
use Rattle.std.proofs.Common.{◌≡◌, ℕ, ◌*◌, ◌≤◌, true, List, length, Option, None, Some, Result, Ok, Err, refl, sym, ◌∙◌, ap, subst, arith}
use Rattle.std.specs.Prelude.{Vec}
use Rattle.std.specs.declared.alloc.Global.{Global}
use Rattle.std.proofs.lemmas.Bool.{true≢false}
use Rattle.mail_gen.specs.Generator.{mailbox}
use Rattle.mbox_cut.specs.Mbox.{is_mbox, messages_of}
use Rattle.mail_words.specs.Key.{KeyNumbers}
use Rattle.ring_replay.specs.Outcome.{SourceSeen}
use Rattle.mail_search.specs.Outcome.{AreListed, AreLists, IsInput, IsMailbox, IsTaken, searched, lists_of, postings_of, input_limit}
use Rattle.mail_search.specs.declared.status.Status.{Status}
use Rattle.mail_search.specs.declared.status.Status.TheVariants.{Done, ReadFault, Usage, NotMbox, TooLarge, BadQuery, WriteFault, Memory, TooManyMessages, TooManyPostings, BadScript}

-- what is known of mailboxes that are made
pub record AreMailboxes : Type 0 where
  pub mbox : (count : ℕ) → count ≤ 100000 → is_mbox (mailbox count) ≡ true
  pub messages : (count : ℕ) → count ≤ 100000 → length (messages_of (mailbox count)) ≡ count
  pub bytes : (count : ℕ) → count ≤ 100000 → length (mailbox count) ≤ 404 * count
  pub postings : (count : ℕ) → count ≤ 100000 → postings_of (mailbox count) ≤ 55 * count

-- a mailbox that is made is refused by no limit
refused_made : AreMailboxes → (bytes : List ℕ) (count : ℕ) → count ≤ 100000 → bytes ≡ mailbox count → (status : Status) → AreLists bytes (Err status)
    → status ≡ Memory
refused_made are bytes count few is NotMbox index = absurd (true≢false (sym (are.mbox count few) ∙ ap is_mbox (sym is) ∙ index))
refused_made are bytes count few is TooManyMessages index = absurd
    (omega (arith, are.messages count few, ap (λ (b : List ℕ). length (messages_of b)) is, index.1, few))
refused_made are bytes count few is TooManyPostings index = absurd (omega (arith, are.postings count few, ap postings_of is, index.2, few))
refused_made are bytes count few is Memory index = refl
refused_made are bytes count few is Done index = absurd index
refused_made are bytes count few is ReadFault index = absurd index
refused_made are bytes count few is Usage index = absurd index
refused_made are bytes count few is TooLarge index = absurd index
refused_made are bytes count few is (BadQuery number error) index = absurd index
refused_made are bytes count few is WriteFault index = absurd index
refused_made are bytes count few is (BadScript line) index = absurd index

module _ {source source_after : SourceSeen} where
  -- there are no bytes
  pub no_input : (generate : Option ℕ) (status : Status) → IsTaken generate source source_after (Err status)
      → AreListed generate source source_after (Err status)
  no_input generate ReadFault taken = record { taken = taken.taken; moved = taken.moved; lists = taken.gives }
  no_input generate TooLarge taken = record { taken = taken.taken; moved = taken.moved; lists = taken.gives }
  no_input generate Memory taken = record { taken = taken.taken; moved = taken.moved; lists = taken.gives }
  no_input generate Done taken = absurd taken.gives
  no_input generate Usage taken = absurd taken.gives
  no_input generate NotMbox taken = absurd taken.gives
  no_input generate (BadQuery number error) taken = absurd taken.gives
  no_input generate WriteFault taken = absurd taken.gives
  no_input generate TooManyMessages taken = absurd taken.gives
  no_input generate TooManyPostings taken = absurd taken.gives
  no_input generate (BadScript line) taken = absurd taken.gives

  -- a mailbox that is read may be
  refused_read : {bytes : Vec ℕ Global} (status : Status) → (taken : IsTaken None source source_after (Ok bytes)) → AreLists taken.taken (Err status)
      → AreListed None source source_after (Err status)
  refused_read NotMbox taken index = record {
    taken = taken.taken;
    moved = taken.moved;
    lists = (refl, record { whole = (taken.gives.1 refl).0; within = (taken.gives.1 refl).1; kind = index }, taken.gives.2);
  }
  refused_read TooManyMessages taken index =
      let input : IsInput taken.taken source_after.left true = record { whole = (taken.gives.1 refl).0; within = (taken.gives.1 refl).1; kind = index.0 } in
      record { taken = taken.taken; moved = taken.moved; lists = (refl, record { input = input; messages = index.1 }, taken.gives.2) }
  refused_read TooManyPostings taken index =
      let input : IsInput taken.taken source_after.left true =
      record { whole = (taken.gives.1 refl).0; within = (taken.gives.1 refl).1; kind = index.0 } in record {
        taken = taken.taken;
        moved = taken.moved;
        lists = (refl, record { input = input; messages = index.1; postings = index.2 }, taken.gives.2);
      }
  refused_read Memory taken index = record { taken = taken.taken; moved = taken.moved; lists = taken.gives.2 }
  refused_read Done taken index = absurd index
  refused_read ReadFault taken index = absurd index
  refused_read Usage taken index = absurd index
  refused_read TooLarge taken index = absurd index
  refused_read (BadQuery number error) taken index = absurd index
  refused_read WriteFault taken index = absurd index
  refused_read (BadScript line) taken index = absurd index

  module _ (are : AreMailboxes) {bytes : Vec ℕ Global} where
    refused : (generate : Option ℕ) → ((count : ℕ) → generate ≡ Some count → count ≤ 100000) → (status : Status)
        → IsTaken generate source source_after (Ok bytes) → AreLists bytes.items (Err status) → AreListed generate source source_after (Err status)
    refused None few status taken index = refused_read status taken (subst (λ (b : List ℕ). AreLists b (Err status)) taken.gives.0 index)
    refused (Some count) few status taken index =
        subst (λ (s : Status). AreListed (Some count) source source_after (Err s))
        (sym (refused_made are bytes.items count (few count refl) taken.gives.0 status index))
        (record { taken = taken.taken; moved = taken.moved; lists = taken.gives.2 })

    within_limit : (generate : Option ℕ) → ((count : ℕ) → generate ≡ Some count → count ≤ 100000)
        → (taken : IsTaken generate source source_after (Ok bytes)) → length (searched generate taken.taken) ≤ input_limit
    within_limit None few taken = (taken.gives.1 refl).1
    within_limit (Some count) few taken = omega (arith, are.bytes count (few count refl), few count refl)

    pub listed : (generate : Option ℕ) → ((count : ℕ) → generate ≡ Some count → count ≤ 100000) → IsTaken generate source source_after (Ok bytes)
        → (result : Result (List (List KeyNumbers)) Status) → AreLists bytes.items result → AreListed generate source source_after result
    listed generate few taken (Ok lists) index = record { taken = taken.taken; moved = taken.moved; lists = (is_mailbox, are_lists, taken.gives.2) }
      where
        is_mailbox : IsMailbox generate taken.taken source_after.left
        is_mailbox = record {
          whole = λ none. (taken.gives.1 none).0;
          within = within_limit generate few taken;
          kind = ap is_mbox (sym taken.gives.0) ∙ index.0;
          messages = omega (arith, ap (λ (b : List ℕ). length (messages_of b)) taken.gives.0, index.1);
          postings = omega (arith, ap postings_of taken.gives.0, index.2);
        }

        are_lists : lists ≡ lists_of (searched generate taken.taken)
        are_lists = index.3 ∙ ap lists_of taken.gives.0
    listed generate few taken (Err status) index = refused generate few status taken index
