-- A move keeps what holds of a caller.
use Rattle.std.proofs.Common.{◌≡◌, ◌≢◌, ℕ, ◌<◌, ◌≤◌, ◌↔◌, Option, Some, None, Result, Ok, Err, is_some, IfNone, IsErr, OnOk, OnErr, List, length, [], ◌∷◌, replicate, All, refl, sym, subst, ap, ◌∙◌, arith, false}
use Rattle.std.proofs.lemmas.Bool.{false≢true}
use Rattle.std.proofs.lemmas.List.{length-set, length-append, length-replicate, map-append}
use Rattle.std.proofs.lemmas.List.Elements.{All-set, All-push}
use Rattle.tx_model.specs.declared.pass.PassState.TheVariants as state
use Rattle.tx_model.specs.declared.word.Word.{Word}
use Rattle.tx_model.specs.Words.{addresses, index_of, value_of, put_at}
use Rattle.tx_model.specs.WordLaws.{ValueExactly, PutApart, PutAddresses}
use Rattle.ring_sig.specs.Signature.{IsWordCount, place_of, bits_of, with_place, IsSignatureOf}
use Rattle.ring_sig.proofs.Lemmas.{gains_last}
use Rattle.ring_core.specs.declared.shape.Shape.{Shape}
use Rattle.ring_core.specs.declared.caller.Caller.{Caller}
use Rattle.ring_core.specs.declared.stage.Stage.{Stage}
use Rattle.ring_core.specs.declared.stage.Stage.TheVariants.{Closed, BeginIndex, ReadHeap, Check, Between}
use Rattle.ring_core.specs.declared.stage.Purpose.TheVariants.{Stamp}
use Rattle.ring_core.specs.declared.stage.CheckStage.TheVariants.{Index}
use Rattle.ring_core.specs.Shape.{IsShape}
use Rattle.ring_core.specs.Request.{is_open}
use Rattle.ring_core.specs.Machine.{resumed, signature_with, written, IsFull}
use Rattle.ring_core.specs.Sound.{IsSized, IsSound, IsStage}
use Rattle.ring_core.specs.Moves.{IsAtRest, IsMoved, opens_begin, opens_read, puts_write, opens_stamp, opens_turn, ends_attempt}
use Rattle.ring_core.specs.Laws.{MoveKeeps, OpeningIsSound}
use Rattle.ring_core.proofs.Kept.{IsSteady, steady_of, sound_of, sound_at, active_steady, active≢stamped, idle≢stamped, idle_sized, idle_sound}
use Rattle.tx_model.proofs.lemmas.WordIndexes.{has_address_found}
use Rattle.ring_core.proofs.WritesLemmas.{with_place-size}

-- ---- a write
module _ (shape : Shape) (writes : List Word) (sig : List ℕ) (addr value : ℕ) where
  abbrev write : Word
  write = record { addr = addr; value = value }

  within_after : (o : Option ℕ) → All (λ (w : Word). w.addr < shape.heap) writes → addr < shape.heap
      → All (λ (w : Word). w.addr < shape.heap) (put_at o writes write)
  within_after None each here = All-push (λ (w : Word). w.addr < shape.heap) writes write each here
  within_after (Some i) each here = All-set (λ (w : Word). w.addr < shape.heap) writes i write here each

  fits_after : (o : Option ℕ) → index_of writes addr ≡ o → length writes ≤ 256 → ((index_of writes addr ≡ None) × (length writes ≡ 256) → ⊥)
      → length (put_at o writes write) ≤ 256
  fits_after None e most room =
      let fewer : length writes ≢ 256 = λ all. room (e, all) in
      omega (arith, length-append writes (write ∷ []), most, fewer)
  fits_after (Some i) e most room = rw length-set most

  size_after : (o : Option ℕ) → length (signature_with sig addr o) ≡ length sig
  size_after None = with_place-size sig _
  size_after (Some i) = refl

  signed_after : PutAddresses → (o : Option ℕ) → index_of writes addr ≡ o → IsWordCount (length sig) → IsSignatureOf (addresses writes) sig
      → IsSignatureOf (addresses (put_at o writes write)) (signature_with sig addr o)
  signed_after put_addresses None e counted signed =
      subst (λ xs. IsSignatureOf xs (with_place sig (place_of addr (bits_of sig)))) (sym (map-append (λ (w : Word). w.addr) writes (write ∷ [])))
      (gains_last (addresses writes) sig addr counted signed)
  signed_after put_addresses (Some i) e counted signed =
      let same : addresses (put_at (Some i) writes write) ≡ addresses writes =
      ap (λ o. addresses (put_at o writes write)) (sym e) ∙ (put_addresses writes addr value).0 (has_address_found writes addr i e) in
      subst (λ xs. IsSignatureOf xs sig) (sym same) signed

module _ (put_apart : PutApart) (put_addresses : PutAddresses) (shape : Shape) (good : IsShape shape) (c : Caller) (sound : IsSound shape c) where
  steady : IsSteady shape c
  steady = steady_of shape c sound

  written_sized : (addr value : ℕ) → addr < shape.heap → (IsFull c addr → ⊥)
      → IsSized shape c.start c.read_sig (written c addr value).writes (written c addr value).write_sig c.loaded
  written_sized addr value here room =
      let s = sound.sized in
      let o : Option ℕ = index_of c.writes addr in
      record {
        lived = s.lived;
        reads = s.reads;
        fits = fits_after shape c.writes c.write_sig addr value o refl s.fits room;
        apart = put_apart c.writes addr value s.apart;
        within = within_after shape c.writes c.write_sig addr value o s.within here;
        wrote = size_after shape c.writes c.write_sig addr value o ∙ s.wrote;
        signed = signed_after shape c.writes c.write_sig addr value put_addresses o refl (subst (λ n. IsWordCount n) (sym s.wrote) good.words) s.signed;
        scratch = s.scratch;
      }

  -- where no request of an attempt is open, its stage says no more than that
  rest_stage : (d : Caller) (stage : Stage) → d.state ≡ state.Active → is_open stage ≡ false → IsStage shape c stage → c.state ≡ state.Active
      → IsStage shape d stage
  rest_stage d Closed active closed staged was = active≢stamped d.state active
  rest_stage d (Between at) active closed staged was = absurd (active≢stamped c.state was staged.0.stamped)
  rest_stage d stage active closed staged was = absurd (false≢true (sym closed))

  resumed_stage : (stage : Stage) → is_open stage ≡ false → c.state ≡ state.Stamped → IsStage shape c stage
      → IsStage shape (record c { stage = resumed stage }) (resumed stage)
  resumed_stage Closed closed stamped staged = absurd (staged stamped)
  resumed_stage (Between at) closed stamped staged = staged
  resumed_stage stage closed stamped staged = absurd (false≢true (sym closed))

  pub moved_keeps : (d : Caller) → IsMoved shape c d → IsSound shape d
  moved_keeps d (opens_begin is closed now) = subst (λ e. IsSound shape e) (sym now) (sound_at shape c BeginIndex steady is)
  moved_keeps d (opens_read addr rest here new now) = subst (λ e. IsSound shape e) (sym now) (sound_at shape c (ReadHeap addr) steady (rest.active, here))
  moved_keeps d (puts_write addr value rest here room now) =
      subst (λ e. IsSound shape e) (sym now)
      (sound_of shape (written c addr value)
      (active_steady shape (written c addr value) (written_sized addr value here room) rest.active (sound.unstamped (active≢stamped c.state rest.active)))
      (rest_stage (written c addr value) c.stage rest.active rest.closed sound.stage rest.active))
  moved_keeps d (opens_stamp rest some now) = subst (λ e. IsSound shape e) (sym now) (sound_at shape c (Check Stamp Index) steady (rest.active, some, tt))
  moved_keeps d (opens_turn is closed now) =
      subst (λ e. IsSound shape e) (sym now) (sound_at shape c (resumed c.stage) steady (resumed_stage c.stage closed is sound.stage))
  moved_keeps d (ends_attempt rest now) = subst (λ e. IsSound shape e) (sym now) (idle_sound shape c sound.sized.lived sound.sized.scratch)

pub opening_sound : OpeningIsSound
opening_sound shape good = record {
  sized = idle_sized shape 0 (replicate 16 0) (omega arith) (length-replicate {A = ℕ} 16 0);
  idle = λ _. record { reads = refl; writes = refl; wrote = refl; stamp = refl };
  unstamped = λ _. refl;
  stage = idle≢stamped state.Idle refl;
}

-- ---- the moves of the calls that may also do nothing
-- a read that the write set didn't answer
pub read_moves : (shape : Shape) (c : Caller) (addr : ℕ) (found : Option ℕ) → ValueExactly → IsAtRest c → addr < shape.heap → found ≡ value_of c.writes addr
    → IfNone found (IsMoved shape c (record c { stage = ReadHeap addr }))
read_moves shape c addr None exactly rest here is =
    opens_read addr rest here (λ has. false≢true (ap is_some is ∙ (exactly c.writes addr).1 has)) refl
read_moves shape c addr (Some value) exactly rest here is = tt

-- a write that was put into the write set
pub write_moves : {T E : Type 0} (shape : Shape) (c d : Caller) (addr value : ℕ) (result : Result T E) → IsAtRest c → addr < shape.heap
    → (IsErr result ↔ IsFull c addr) → OnOk result (d ≡ written c addr value) → OnOk result (IsMoved shape c d)
write_moves shape c d addr value (Ok done) rest here full ok = puts_write addr value rest here (λ all. false≢true (full.1 all)) ok
write_moves shape c d addr value (Err refused) rest here full ok = tt

pub write_keeps : {T E : Type 0} (shape : Shape) (c d : Caller) (result : Result T E) → MoveKeeps → IsShape shape → IsSound shape c
    → OnOk result (IsMoved shape c d) → OnErr result (d ≡ c) → IsSound shape d
write_keeps shape c d (Ok done) keeps good sound moved kept = keeps shape good c d sound moved
write_keeps shape c d (Err refused) keeps good sound moved kept = subst (λ e. IsSound shape e) (sym kept) sound
