-- What stays of an attempt that may put a record.
use Rattle.std.proofs.Common.{◌≡◌, ℕ, List, sym, ◌∙◌, ap}
use Rattle.mail_words.specs.Key.{KeyNumbers}
use Rattle.tx_model.specs.declared.view.Attempt.{Attempt}
use Rattle.tx_model.specs.declared.view.PassView.{PassView}
use Rattle.tx_model.specs.Made.{Made}
use Rattle.tx_heap.specs.Layout.{mail_layout}
use Rattle.tx_heap.specs.Heap.{Heap, own_of}
use Rattle.tx_heap.specs.Index.{IsIndex}
use Rattle.tx_heap.specs.Mail.{IsGoodMail, mail_heap}
use Rattle.tx_model.specs.Calls.{OnlyReads}
use Rattle.tx_heap.specs.Calls.{made_sizes}
use Rattle.tx_heap.proofs.lemmas.Reads.{holds_after_reads}
use Rattle.tx_buckets.specs.Reading.{IsOpened}
use Rattle.tx_buckets.specs.Writing.{Inserted}
use Rattle.tx_buckets.proofs.lemmas.Opened.{fitted_before_writes}
use Rattle.index_tests.specs.Puts.{IsReady}

module _ {made : Made (List (List KeyNumbers))} {old new : PassView} {before now : Attempt} where
  pub ready_after_reads : {lane segment : ℕ} → OnlyReads old new before now → IsOpened (made_sizes made) now segment
      → IsReady made old before lane segment → IsReady made new now lane segment
  ready_after_reads {lane} {segment} only opened ready =
      let good = IsGoodMail made.sense made.opening in record {
        active = only.goes_on.active;
        opened = opened;
        index = holds_after_reads only good (λ memory. IsIndex mail_layout (mail_heap made.sense memory)) ready.index;
        own = holds_after_reads only good (λ memory. own_of (mail_heap made.sense memory) lane ≡ segment) ready.own;
      }

  pub ready_after_insert : {lane segment at : ℕ} {key : KeyNumbers} → Inserted made old new before now segment key at
      → IsReady made old before lane segment → IsReady made new now lane segment
  ready_after_insert {lane} {segment} inserted ready = record {
    active = inserted.more.goes_on.active;
    opened = inserted.more.opened segment ready.opened;
    index = inserted.index;
    own = λ memory good fits.
        ap (λ (heap : Heap). own_of heap lane) (inserted.changed memory good fits).only
        ∙ ready.own memory good (fitted_before_writes inserted.more memory fits);
  }
