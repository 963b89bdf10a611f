-- What writes at the free offset leave of a segment's words: a record, or a cell.
use Rattle.std.proofs.Common.{◌≡◌, ◌≢◌, ℕ, suc, ◌+◌, ◌-◌, ◌<◌, ◌≤◌, List, [], ◌∷◌, ◌++◌, length, map, get_or, set, refl, sym, ◌∙◌, ap, subst, arith}
use Rattle.std.specs.Prelude.{Contains}
use Rattle.std.proofs.lemmas.List.{length-set, get_or-set_same, get_or-set_other}
use Rattle.mail_words.specs.Key.{KeyNumbers}
use Rattle.tx_model.specs.declared.word.Word.{Word}
use Rattle.tx_model.specs.Memory.{after}
use Rattle.tx_model.proofs.lemmas.States.{after_length}
use Rattle.tx_heap.specs.Layout.{Layout}
use Rattle.tx_heap.specs.Segment.{Piece, chain, free_of, keys_of, head_at, first_at, next_at, cell_at, cells_from, record_at, bucket, IsInForm}
use Rattle.tx_buckets.specs.Growth.{WithRecord}
use Rattle.tx_buckets.specs.Writing.{word, record_words}
use Rattle.tx_buckets.proofs.lemmas.Buckets.{piece_within, record_among, record_whole, record_falls, head_below}
use Rattle.tx_buckets.proofs.lemmas.Chains.{SamePiece, chain_end, chain_step, chain_long, chain_same, same_numbers, same_record, same_record_at}
use Rattle.tx_buckets.proofs.lemmas.Lists.{map_same}

-- ---- words after writes
-- no write is at that offset
abbrev pub Avoids : List Word → ℕ → Type 0
Avoids [] k = Unit {0}
Avoids (word ∷ words) k = (word.addr ≢ k) × Avoids words k

pub after_other : (memory : List ℕ) (words : List Word) (k : ℕ) → Avoids words k → get_or (after memory words) k 0 ≡ get_or memory k 0
after_other memory [] k avoids = refl
after_other memory (word ∷ words) k avoids =
    after_other (set memory word.addr word.value) words k avoids.1 ∙ get_or-set_other memory word.addr k word.value 0 (λ e. avoids.0 (sym e))

pub after_here : (memory : List ℕ) (front : List Word) (word : Word) (back : List Word) → word.addr < length memory → Avoids back word.addr
    → get_or (after memory (front ++ word ∷ back)) word.addr 0 ≡ word.value
after_here memory [] word back below avoids =
    after_other (set memory word.addr word.value) back word.addr avoids ∙ get_or-set_same memory word.addr word.value 0 below
after_here memory (first ∷ front) word back below avoids =
    after_here (set memory first.addr first.value) front word back (omega (arith, below, length-set memory first.addr first.value)) avoids

module _ {layout : Layout} {lane : ℕ} {key : KeyNumbers} {old : List ℕ} (form : IsInForm layout lane old) (in_range : layout.bucket_of key < layout.buckets)
    (fits : free_of old + 6 ≤ length old) where
  abbrev own : ℕ
  own = layout.bucket_of key

  abbrev at : ℕ
  at = free_of old

  abbrev head : ℕ
  head = get_or old (head_at own) 0

  abbrev writes : List Word
  writes = record_words at (head_at own) head (keys_of old) key

  abbrev new : List ℕ
  new = after old writes

  begins : 8 + layout.buckets ≤ at
  begins = form.begins

  many : length new ≡ length old
  many = after_length old writes

  -- words that stay
  stays : (k : ℕ) → k < at → k ≢ head_at own → k ≢ 0 → k ≢ 1 → get_or new k 0 ≡ get_or old k 0
  stays k below other not_free not_keys =
      after_other old writes k (
        (λ e. omega (arith, e, below)),
        (
          (λ e. omega (arith, e, below)),
          (
            (λ e. omega (arith, e, below)),
            (
              (λ e. omega (arith, e, below)),
              (
                (λ e. omega (arith, e, below)),
                (
                  (λ e. omega (arith, e, below)),
                  ((λ e. other (sym e)), ((λ e. not_free (sym e)), ((λ e. not_keys (sym e)), tt))),
                ),
              ),
            ),
          ),
        ),
      )

  same_piece : (p : Piece) → first_at layout ≤ p.from → p.from + p.len ≤ at → SamePiece old new p
  same_piece p from to k here below =
      stays k (omega (arith, below, to)) (λ e. omega (arith, e, here, from, in_range)) (λ e. omega (arith, e, here, from)) (λ e. omega (arith, e, here, from))

  -- the new words
  abbrev behind : List Word
  behind = word (head_at own) at ∷ word 0 (at + 6) ∷ word 1 (keys_of old + 1) ∷ []

  behind_apart : (k : ℕ) → at ≤ k → Avoids behind k
  behind_apart k from = ((λ e. omega (arith, e, from, begins, in_range)), ((λ e. omega (arith, e, from, begins)), ((λ e. omega (arith, e, from, begins)), tt)))

  first_is : get_or new at 0 ≡ key.k0
  first_is =
      let apart : Avoids (word (at + 1) key.k1 ∷ word (at + 2) key.k2 ∷ word (at + 3) key.k3 ∷ word (at + 4) head ∷ word (at + 5) 0 ∷ behind) at = (
        (λ e. omega (arith, e)),
        (
          (λ e. omega (arith, e)),
          ((λ e. omega (arith, e)), ((λ e. omega (arith, e)), ((λ e. omega (arith, e)), behind_apart at (omega arith)))),
        ),
      ) in
      after_here old [] (word at key.k0) (word (at + 1) key.k1 ∷ word (at + 2) key.k2 ∷ word (at + 3) key.k3 ∷ word (at + 4) head ∷ word (at + 5) 0 ∷ behind)
      (omega (arith, fits)) apart

  second_is : get_or new (at + 1) 0 ≡ key.k1
  second_is =
      let apart : Avoids (word (at + 2) key.k2 ∷ word (at + 3) key.k3 ∷ word (at + 4) head ∷ word (at + 5) 0 ∷ behind) (at + 1) =
      ((λ e. omega (arith, e)), ((λ e. omega (arith, e)), ((λ e. omega (arith, e)), ((λ e. omega (arith, e)), behind_apart (at + 1) (omega arith))))) in
      after_here old (word at key.k0 ∷ []) (word (at + 1) key.k1) (word (at + 2) key.k2 ∷ word (at + 3) key.k3 ∷ word (at + 4) head ∷ word (at + 5) 0 ∷ behind)
      (omega (arith, fits)) apart

  third_is : get_or new (at + 2) 0 ≡ key.k2
  third_is =
      let apart : Avoids (word (at + 3) key.k3 ∷ word (at + 4) head ∷ word (at + 5) 0 ∷ behind) (at + 2) =
      ((λ e. omega (arith, e)), ((λ e. omega (arith, e)), ((λ e. omega (arith, e)), behind_apart (at + 2) (omega arith)))) in
      after_here old (word at key.k0 ∷ word (at + 1) key.k1 ∷ []) (word (at + 2) key.k2) (word (at + 3) key.k3 ∷ word (at + 4) head ∷ word (at + 5) 0 ∷ behind)
      (omega (arith, fits)) apart

  fourth_is : get_or new (at + 3) 0 ≡ key.k3
  fourth_is =
      let apart : Avoids (word (at + 4) head ∷ word (at + 5) 0 ∷ behind) (at + 3) =
      ((λ e. omega (arith, e)), ((λ e. omega (arith, e)), behind_apart (at + 3) (omega arith))) in
      after_here old (word at key.k0 ∷ word (at + 1) key.k1 ∷ word (at + 2) key.k2 ∷ []) (word (at + 3) key.k3) (word (at + 4) head ∷ word (at + 5) 0 ∷ behind)
      (omega (arith, fits)) apart

  next_is : get_or new (at + 4) 0 ≡ head
  next_is =
      let apart : Avoids (word (at + 5) 0 ∷ behind) (at + 4) = ((λ e. omega (arith, e)), behind_apart (at + 4) (omega arith)) in
      after_here old (word at key.k0 ∷ word (at + 1) key.k1 ∷ word (at + 2) key.k2 ∷ word (at + 3) key.k3 ∷ []) (word (at + 4) head) (word (at + 5) 0 ∷ behind)
      (omega (arith, fits)) apart

  newest_is : get_or new (at + 5) 0 ≡ 0
  newest_is =
      let apart : Avoids (behind) (at + 5) = behind_apart (at + 5) (omega arith) in
      after_here old (word at key.k0 ∷ word (at + 1) key.k1 ∷ word (at + 2) key.k2 ∷ word (at + 3) key.k3 ∷ word (at + 4) head ∷ []) (word (at + 5) 0) (behind)
      (omega (arith, fits)) apart

  head_is : get_or new (head_at own) 0 ≡ at
  head_is =
      let back : List Word = word 0 (at + 6) ∷ word 1 (keys_of old + 1) ∷ [] in
      let apart : Avoids back (head_at own) = ((λ e. omega (arith, e)), ((λ e. omega (arith, e)), tt)) in
      after_here old (word at key.k0 ∷ word (at + 1) key.k1 ∷ word (at + 2) key.k2 ∷ word (at + 3) key.k3 ∷ word (at + 4) head ∷ word (at + 5) 0 ∷ [])
      (word (head_at own) at) back (omega (arith, fits, begins, in_range)) apart

  free_is : get_or new 0 0 ≡ at + 6
  free_is =
      let back : List Word = word 1 (keys_of old + 1) ∷ [] in
      let apart : Avoids back 0 = ((λ e. omega (arith, e)), tt) in
      after_here old (word at key.k0 ∷ word (at + 1) key.k1 ∷ word (at + 2) key.k2 ∷ word (at + 3) key.k3 ∷ word (at + 4) head ∷ word (at + 5) 0 ∷ word
      (head_at own) at ∷ []) (word 0 (at + 6)) back (omega (arith, fits)) apart

  keys_are : get_or new 1 0 ≡ keys_of old + 1
  keys_are =
      after_here old (word at key.k0 ∷ word (at + 1) key.k1 ∷ word (at + 2) key.k2 ∷ word (at + 3) key.k3 ∷ word (at + 4) head ∷ word (at + 5) 0 ∷ word
      (head_at own) at ∷ word 0 (at + 6) ∷ []) (word 1 (keys_of old + 1)) [] (omega (arith, fits, begins)) tt

  -- the records that stay
  kept : (number : ℕ) → number < layout.buckets → (o : ℕ) → Contains (chain old next_at (length old) (get_or old (head_at number) 0)) o → record_at new o
      ≡ record_at old o
  kept number below o among =
      same_record_at old new many o (λ p here. let within = piece_within form (record_at old o) p
      (record_among form number below o among) here in same_piece p within.0 within.1)

  link_stays : (number : ℕ) → number < layout.buckets → (o : ℕ) → Contains (chain old next_at (length old) (get_or old (head_at number) 0)) o
      → get_or new (o + next_at) 0 ≡ get_or old (o + next_at) 0
  link_stays number below o among =
      let whole = record_whole form number below o among in
      stays (o + next_at) (omega (arith, whole.1)) (λ e. omega (arith, e, whole.0, in_range)) (λ e. omega (arith, e, whole.0)) (λ e. omega (arith, e, whole.0))

  other_bucket : (number : ℕ) → number < layout.buckets → number ≢ own → bucket new number ≡ bucket old number
  other_bucket number below other =
      let from = get_or old (head_at number) 0 in
      ap (λ n. map (record_at new) (chain new next_at (length new) n))
      (stays (head_at number) (omega (arith, begins, below)) (λ e. other (omega (arith, e))) (λ e. omega (arith, e)) (λ e. omega (arith, e)))
      ∙ ap (λ most. map (record_at new) (chain new next_at most from)) many
      ∙ ap (map (record_at new)) (chain_same old new next_at (length old) from (link_stays number below))
      ∙ map_same (record_at new) (record_at old) (chain old next_at (length old) from) (kept number below)

  own_bucket : bucket new own ≡ record { at = at; key = key; next = head; cells = [] } ∷ bucket old own
  own_bucket =
      let below_free = head_below form own in_range in
      let size : length new ≡ suc (length old - 1) = omega (arith, many, fits) in
      let some : at ≢ 0 = λ e. omega (arith, e, begins) in
      let here : record_at new at ≡ record { at = at; key = key; next = head; cells = [] } =
      same_record (same_numbers first_is second_is third_is fourth_is) next_is
      (ap (cells_from new) newest_is ∙ ap (map (cell_at new)) (chain_end new 1 (length new) 0 refl)) in
      ap (λ n. map (record_at new) (chain new next_at (length new) n)) head_is
      ∙ ap (λ most. map (record_at new) (chain new next_at most at)) size
      ∙ ap (map (record_at new)) (chain_step new next_at (length old - 1) at some)
      ∙ ap (λ r. r ∷ map (record_at new) (chain new next_at (length old - 1) (get_or new (at + next_at) 0))) here
      ∙ ap (λ n. record { at = at; key = key; next = head; cells = [] } ∷ map (record_at new) (chain new next_at (length old - 1) n)) next_is
      ∙ ap (λ rs. record { at = at; key = key; next = head; cells = [] } ∷ rs) rest
    where
      rest : map (record_at new) (chain new next_at (length old - 1) head) ≡ bucket old own
      rest =
          let below_free = head_below form own in_range in
          let long = chain_long old next_at (length old) (length old - 1) head (omega (arith, below_free, fits)) (omega (arith, below_free, fits))
          (record_falls form own in_range) in
          ap (map (record_at new)) (chain_same old new next_at (length old - 1) head
          (λ o among. link_stays own in_range o (subst (λ xs. Contains xs o) (sym long) among)) ∙ sym long)
          ∙ map_same (record_at new) (record_at old) (chain old next_at (length old) head) (kept own in_range)

  pub record_placed : WithRecord layout key old new
  record_placed = record {
    many = many;
    free = free_is;
    keys = keys_are;
    cells = stays 2 (omega (arith, begins)) (λ e. omega (arith, e)) (λ e. omega (arith, e)) (λ e. omega (arith, e));
    unused = λ k from below. stays k (omega (arith, begins, below)) (λ e. omega (arith, e, below)) (λ e. omega (arith, e, from)) (λ e. omega (arith, e, from));
    here = own_bucket;
    others = other_bucket;
  }
