-- The first words of a segment apart from those behind them: what writes behind them leave, and a posting over both.
use Rattle.std.proofs.Common.{◌≡◌, ℕ, zero, suc, ◌+◌, ◌<◌, ◌≤◌, Option, Some, None, List, [], ◌∷◌, length, drop, get_or, set, refl, sym, ◌∙◌, ap, subst, arith}
use Rattle.std.proofs.lemmas.List.{set_comm, length-drop, get_or-drop}
use Rattle.mail_words.specs.Key.{KeyNumbers}
use Rattle.mail_words.specs.Hash as hash
use Rattle.tx_model.specs.declared.word.Word.{Word}
use Rattle.tx_model.specs.Memory.{after}
use Rattle.tx_heap.specs.Layout.{mail_layout}
use Rattle.tx_heap.specs.Segment.{head_at, newest_at, IsInForm}
use Rattle.tx_buckets.specs.Records.{IsRecordOf, IsFound}
use Rattle.tx_buckets.specs.Growth.{WithRecord, WithCell}
use Rattle.tx_buckets.specs.Writing.{word, record_words, cell_words}
use Rattle.tx_buckets.proofs.Placing.{Avoids, after_here, record_placed}
use Rattle.tx_buckets.proofs.PlacingCells.{cell_placed, newest_below}
use Rattle.tx_buckets.proofs.lemmas.Growth.{record_there, form_with_record, form_with_cell}
use Rattle.tx_buckets.proofs.lemmas.Writes.{set_twice}
use Rattle.tx_postings.specs.Filling.{words_for, looked_at, known_words, new_words, posting_words, head_then}
use Rattle.tx_postings.specs.Heads.{headed}
use Rattle.tx_postings.specs.declared.heads.Head.{Head}
use Rattle.tx_postings.proofs.Hashes.{bucket_below}
use Rattle.tx_postings.proofs.Posted.{HasPosting, known_posting, new_posting}

-- ---- words behind the first three
abbrev pub AreBehind : List Word → Type 0
AreBehind [] = Unit {0}
AreBehind (word ∷ words) = (3 ≤ word.addr) × AreBehind words

set_behind : (words : List ℕ) (n v : ℕ) → set (drop 3 words) n v ≡ drop 3 (set words (suc (suc (suc n))) v)
set_behind [] n v = refl
set_behind (a ∷ []) n v = refl
set_behind (a ∷ b ∷ []) n v = refl
set_behind (a ∷ b ∷ c ∷ words) n v = refl

set_headed : (head : Head) (words : List ℕ) (addr v : ℕ) → 3 ≤ addr → set (headed head words) addr v ≡ headed head (set words addr v)
set_headed head words zero v from = absurd (omega (arith, from))
set_headed head words (suc zero) v from = absurd (omega (arith, from))
set_headed head words (suc (suc zero)) v from = absurd (omega (arith, from))
set_headed head words (suc (suc (suc n))) v from = ap (λ (ws : List ℕ). head.free ∷ head.keys ∷ head.cells ∷ ws) (set_behind words n v)

pub after_headed : (head : Head) (words : List ℕ) (ws : List Word) → AreBehind ws → after (headed head words) ws ≡ headed head (after words ws)
after_headed head words [] behind = refl
after_headed head words (word ∷ ws) behind =
    ap (λ (m : List ℕ). after m ws) (set_headed head words word.addr word.value behind.0)
    ∙ after_headed head (set words word.addr word.value) ws behind.1

pub get_headed : (head : Head) (words : List ℕ) (addr : ℕ) → 3 ≤ addr → get_or (headed head words) addr 0 ≡ get_or words addr 0
get_headed head words zero from = absurd (omega (arith, from))
get_headed head words (suc zero) from = absurd (omega (arith, from))
get_headed head words (suc (suc zero)) from = absurd (omega (arith, from))
get_headed head words (suc (suc (suc n))) from = get_or-drop 3 words n 0 ∙ ap (λ i. get_or words i 0) (omega arith)

pub headed_length : (head : Head) (words : List ℕ) → 3 ≤ length words → length (headed head words) ≡ length words
headed_length head words some = omega (arith, some, length-drop 3 words)

-- the first words as they are
pub headed_same : (head : Head) (words : List ℕ) → 3 ≤ length words → get_or words 0 0 ≡ head.free → get_or words 1 0 ≡ head.keys
    → get_or words 2 0 ≡ head.cells → words ≡ headed head words
headed_same head [] some free keys cells = absurd (omega (arith, some))
headed_same head (a ∷ []) some free keys cells = absurd (omega (arith, some))
headed_same head (a ∷ b ∷ []) some free keys cells = absurd (omega (arith, some))
headed_same head (a ∷ b ∷ c ∷ words) some free keys cells =
    ap (λ n. n ∷ b ∷ c ∷ words) free ∙ ap (λ n. head.free ∷ n ∷ c ∷ words) keys ∙ ap (λ n. head.free ∷ head.keys ∷ n ∷ words) cells

-- a write to a offset that is written again
overwritten : (words : List ℕ) (ws : List Word) (a v w : ℕ) → Avoids ws a → set (after (set words a v) ws) a w ≡ set (after words ws) a w
overwritten words [] a v w avoids = set_twice words a v w
overwritten words (x ∷ ws) a v w avoids =
    ap (λ (m : List ℕ). set (after m ws) a w) (set_comm words a x.addr v x.value (λ e. avoids.0 (sym e)))
    ∙ overwritten (set words x.addr x.value) ws a v w avoids.1

-- ---- a posting over both
module _ {lane : ℕ} (head : Head) (words : List ℕ) (form : IsInForm mail_layout lane (headed head words)) (key : KeyNumbers) (message : ℕ) where
  begins : 1032 ≤ head.free
  begins = form.begins

  whole : 3 ≤ length words
  whole = omega (arith, form.begins, form.ends, length-drop 3 words)

  -- a cell of a record that is there
  module _ (at : ℕ) (found : IsFound mail_layout (headed head words) key (Some at)) (room : head.free + 2 ≤ length (headed head words)) where
    abbrev newest : ℕ
    newest = get_or (headed head words) (at + newest_at) 0

    abbrev cell : List Word
    cell = known_words head at newest message

    abbrev known : List ℕ
    known = headed (head_then head (Some at)) (after words cell)

    known_is : after (headed head words) (cell_words head.free at newest head.cells message) ≡ known
    known_is =
        ap (λ (m : List ℕ). set (set m 0 (head.free + 2)) 2 (head.cells + 1))
        (after_headed head words cell (omega (arith, begins), (omega (arith, begins), (omega arith, tt))))

    with_cell : WithCell mail_layout at message (headed head words) known
    with_cell = subst (WithCell mail_layout at message (headed head words)) known_is (cell_placed form at message found.among room)

    pub known_posted : HasPosting mail_layout key message (Some at) (headed head words) known
    known_posted = known_posting form found with_cell

    pub known_form : IsInForm mail_layout lane known
    known_form = form_with_cell form with_cell found.among room (newest_below form at message found.among room)

  -- a record and its first cell
  module _ (missing : IsFound mail_layout (headed head words) key None) (of_lane : hash.lane_of key ≡ lane)
      (room : head.free + 8 ≤ length (headed head words)) where
    abbrev free : ℕ
    free = head.free

    abbrev bucket : ℕ
    bucket = head_at (hash.bucket_of key)

    abbrev next : ℕ
    next = get_or (headed head words) bucket 0

    abbrev five : List Word
    five = word free key.k0 ∷ word (free + 1) key.k1 ∷ word (free + 2) key.k2 ∷ word (free + 3) key.k3 ∷ word (free + 4) next ∷ []

    abbrev seven : List Word
    seven = word free key.k0 ∷ word (free + 1) key.k1 ∷ word (free + 2) key.k2 ∷ word (free + 3) key.k3 ∷ word (free + 4) next
        ∷ word (free + 5) 0 ∷ word bucket free ∷ []

    abbrev first : Head
    first = record { segment = head.segment; free = free + 6; keys = head.keys + 1; cells = head.cells; needs = head.needs }

    abbrev mid : List ℕ
    mid = headed first (after words seven)

    in_range : hash.bucket_of key < 1024
    in_range = bucket_below key

    fits : free + 6 ≤ length (headed head words)
    fits = omega (arith, room)

    seven_behind : AreBehind seven
    seven_behind = (
      omega (arith, begins),
      (
        omega (arith, begins),
        (
          omega (arith, begins),
          (omega (arith, begins), (omega (arith, begins), (omega (arith, begins), (omega arith, tt)))),
        ),
      ),
    )

    mid_is : after (headed head words) (record_words free bucket next head.keys key) ≡ mid
    mid_is = ap (λ (m : List ℕ). set (set m 0 (free + 6)) 1 (head.keys + 1)) (after_headed head words seven seven_behind)

    with_record : WithRecord mail_layout key (headed head words) mid
    with_record = subst (WithRecord mail_layout key (headed head words)) mid_is (record_placed form in_range fits)

    mid_form : IsInForm mail_layout lane mid
    mid_form = form_with_record with_record in_range form of_lane missing fits

    there : IsRecordOf mail_layout mid key free
    there = record_there with_record in_range

    mid_room : free + 6 + 2 ≤ length mid
    mid_room = omega (arith, room, with_record.many)

    mid_newest : get_or mid (free + newest_at) 0 ≡ 0
    mid_newest =
        get_headed first (after words seven) (free + newest_at) (omega arith)
        ∙ after_here words five (word (free + 5) 0) (word bucket free ∷ []) (omega (arith, room, headed_length head words whole))
        ((λ e. omega (arith, e, begins, in_range)), tt)

    abbrev nine : List Word
    nine = new_words head key bucket next message

    abbrev last : List Word
    last = word (free + 6) message ∷ word (free + 6 + 1) 0 ∷ word (free + 5) (free + 6) ∷ []

    abbrev added : List ℕ
    added = headed (head_then head None) (after words nine)

    nine_is : after (after words seven) last ≡ after words nine
    nine_is =
        overwritten (after words five) (word bucket free ∷ word (free + 6) message ∷ word (free + 6 + 1) 0 ∷ []) (free + 5) 0 (free + 6)
        ((λ e. omega (arith, e, begins, in_range)), ((λ e. omega (arith, e)), ((λ e. omega (arith, e)), tt)))

    added_is : after mid (cell_words (free + 6) free 0 head.cells message) ≡ added
    added_is =
        ap (λ (m : List ℕ). set (set m 0 (free + 6 + 2)) 2 (head.cells + 1))
        (after_headed first (after words seven) last (omega (arith, begins), (omega (arith, begins), (omega (arith, begins), tt))))
        ∙ ap (λ n. n ∷ (head.keys + 1) ∷ (head.cells + 1) ∷ drop 3 (after (after words seven) last)) (omega arith)
        ∙ ap (headed (head_then head None)) nine_is

    with_first : WithCell mail_layout free message mid added
    with_first =
        subst (WithCell mail_layout free message mid) added_is
        (subst (λ n. WithCell mail_layout free message mid (after mid (cell_words (free + 6) free n head.cells message))) mid_newest
        (cell_placed mid_form free message there.among mid_room))

    pub new_posted : HasPosting mail_layout key message None (headed head words) added
    new_posted = new_posting in_range with_record mid_form there with_first

    pub new_form : IsInForm mail_layout lane added
    new_form = form_with_cell mid_form with_first there.among mid_room (newest_below mid_form free message there.among mid_room)

  -- either
  pub posted_over : (offset : Option ℕ) (was : ℕ) → IsFound mail_layout (headed head words) key offset → hash.lane_of key ≡ lane
      → head.free + words_for offset ≤ length (headed head words) → get_or words (looked_at key offset) 0 ≡ was
      → HasPosting mail_layout key message offset (headed head words) (headed (head_then head offset) (after words (posting_words head key offset was message)))
      × IsInForm mail_layout lane (headed (head_then head offset) (after words (posting_words head key offset was message)))
  posted_over (Some at) was found of_lane room is =
      subst (λ n. HasPosting mail_layout key message (Some at) (headed head words)
      (headed (head_then head (Some at)) (after words (posting_words head key (Some at) n message)))
      × IsInForm mail_layout lane (headed (head_then head (Some at)) (after words (posting_words head key (Some at) n message))))
      (get_headed head words (at + newest_at) (omega arith) ∙ is) (known_posted at found room, known_form at found room)
  posted_over None was missing of_lane room is =
      subst (λ n. HasPosting mail_layout key message None (headed head words)
      (headed (head_then head None) (after words (posting_words head key None n message)))
      × IsInForm mail_layout lane (headed (head_then head None) (after words (posting_words head key None n message))))
      (get_headed head words (head_at (hash.bucket_of key)) (omega arith) ∙ is) (new_posted missing of_lane room, new_form missing of_lane room)
