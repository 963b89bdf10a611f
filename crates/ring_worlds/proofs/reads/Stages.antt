-- Whatever the stage, the next step keeps what the caller's reads are worth beside the board that it found.
use Rattle.std.proofs.Common.{◌≡◌, ◌≢◌, ℕ, ◌+◌, ◌-◌, ◌*◌, ◌%◌, ◌<◌, ◌≤◌, ◌==◌, nat_lt, nat_le, List, [], ◌++◌, length, take, set, Contains, refl, sym, ◌∙◌, ap, subst, arith, inl, inr, mod-lt}
use Rattle.std.proofs.lemmas.Bool.{cases_lt, cond_both, leb-false}
use Rattle.std.proofs.lemmas.Bool.Decides.{nat_tests}
use Rattle.std.proofs.lemmas.List.Elements.{All-nil}
use Rattle.tx_model.specs.declared.gate.Region.{Region}
use Rattle.tx_model.specs.declared.pass.PassState.TheVariants as state
use Rattle.tx_model.specs.Words.{addresses}
use Rattle.ring_sig.specs.Signature.{IsWordCount, IsSignatureOf, meets}
use Rattle.ring_core.specs.declared.shape.Shape.{Shape}
use Rattle.ring_core.specs.declared.action.Progress.TheVariants as answer
use Rattle.ring_core.specs.declared.action.Later.TheVariants.{Order}
use Rattle.ring_core.specs.declared.stage.Stage.{Stage}
use Rattle.ring_core.specs.declared.stage.Stage.TheVariants.{Turn}
use Rattle.ring_core.specs.declared.stage.TurnStage.{TurnStage}
use Rattle.ring_core.specs.declared.stage.TurnStage.TheVariants.{Filling, Signature, Writing, Earlier, EarlierWords, EarlierAgain, Heap, Before, Complete}
use Rattle.ring_core.specs.Shape.{IsShape}
use Rattle.ring_core.specs.Sound as core
use Rattle.ring_core.specs.Outcomes.{Outcome, goes, started, waits, earlier_from, turn_after}
use Rattle.ring_worlds.specs.declared.process.Process.{Process}
use Rattle.ring_worlds.specs.World.{Board, tag_of, sig_word}
use Rattle.ring_worlds.specs.Board.{IsBoard}
use Rattle.ring_worlds.specs.Reader.{IsRuled, IsReaderAt, HasWords, KnowsTurn}
use Rattle.ring_worlds.specs.Answers.{Keeps, Tells}
use Rattle.ring_worlds.proofs.reads.Walks.{idles}
use Rattle.ring_worlds.proofs.reads.Compare.{word_loaded}

pub stamped_not_idle : state.Stamped ≢ state.Idle
stamped_not_idle e = cc

pub stamped_not_active : state.Stamped ≢ state.Active
stamped_not_active e = cc

active_not_idle : state.Active ≢ state.Idle
active_not_idle e = cc

small_count : (w : ℕ) → IsWordCount w → w ≤ 16
small_count w h = grind (arith, nat_tests)

module _ (shape : Shape) (good : IsShape shape) (opening : List ℕ) (regions : List Region) (b : Board) (ok : IsBoard shape opening regions b) where
  pub bounded : (entry : ℕ) → tag_of shape b entry ≤ 4 * shape.life + 3
  bounded entry = let t = ok.tagged (entry % shape.ring) (mod-lt entry (let s = good.some_entry in omega (arith, s))) in omega (arith, t, ok.lived)

  -- an entry whose tag says so is complete
  pub is_complete : (entry : ℕ) → entry ≤ length b.history → 4 * entry + 3 ≤ tag_of shape b entry → entry ≤ b.complete
  is_complete entry here tag = elim (cases_lt b.complete entry) [
    | inl above ↦ let low = ok.undone entry above here in absurd (omega (arith, low, tag))
    | inr below ↦ omega (arith, below)
  ]

  module _ (p : Process) (stage : Stage) (sized : core.IsSized shape p.caller.start p.caller.read_sig p.caller.writes p.caller.write_sig p.caller.loaded)
      (r : IsReaderAt shape opening regions b p stage) where
    abbrev Kept : Outcome → Type 0
    Kept o = Keeps shape opening regions b p stage o

    pub wide : shape.sig_words ≤ length p.caller.loaded
    wide = let s = small_count shape.sig_words good.words in omega (arith, s, sized.scratch)

    -- ---- begin
    module _ (is_idle : p.caller.state ≡ state.Idle) (quiet : addresses p.reads ≡ [] → IsSignatureOf [] p.caller.read_sig) where
      pub starts : (start : ℕ) → start ≤ b.complete → p.front ≤ start → Kept (started p.caller start)
      starts start early fresh_enough =
          record {
            later = λ e. absurd (e is_idle);
            tells = (fresh_enough, refl);
            reader = record {
              behind = early;
              signed = quiet (ap addresses (r.fresh is_idle));
              ruled = λ addr (k, below, at). absurd (let none : k < 0 = below in omega (arith, none));
              fresh = λ e. refl;
              agree = λ e. All-nil _;
              knows = tt;
            };
          }

    -- ---- turn: nothing changes for the reads
    module _ (stamped : p.caller.state ≡ state.Stamped) (signed : IsSignatureOf (addresses (p.reads ++ [])) p.caller.read_sig)
        (ruled : (addr : ℕ) → Contains (addresses (p.reads ++ [])) addr → IsRuled shape opening regions p.reads addr) where
      turn_goes : (loaded : List ℕ) (next : TurnStage) → KnowsTurn shape opening regions b loaded next
          → Kept (goes (record p.caller { loaded = loaded }) (Turn next))
      turn_goes loaded next known =
          record {
            later = λ e. omega arith;
            tells = tt;
            reader = record {
              behind = r.behind;
              signed = signed;
              ruled = ruled;
              fresh = λ e. absurd (stamped_not_idle (sym stamped ∙ e));
              agree = λ e. absurd (stamped_not_active (sym stamped ∙ e));
              knows = known;
            };
          }

      turn_on : (next : TurnStage) → KnowsTurn shape opening regions b p.caller.loaded next → Kept (goes p.caller (Turn next))
      turn_on next known = turn_goes p.caller.loaded next known

      turn_waits : (next : TurnStage) (entry tag : ℕ) → KnowsTurn shape opening regions b p.caller.loaded next
          → Tells shape opening regions b p stage p.caller.start (answer.Later (Order entry tag)) → Kept (waits p.caller next entry tag)
      turn_waits next entry tag known told =
          record {
            later = λ e. omega arith;
            tells = told;
            reader = record {
              behind = r.behind;
              signed = signed;
              ruled = ruled;
              fresh = λ e. absurd (stamped_not_idle (sym stamped ∙ e));
              agree = λ e. absurd (stamped_not_active (sym stamped ∙ e));
              knows = known;
            };
          }

      earlier : (loaded : List ℕ) (at : ℕ) → Kept (earlier_from (record p.caller { loaded = loaded }) at)
      earlier loaded at = turn_goes loaded _ (cond_both (nat_lt p.caller.start at) (Earlier at) (Heap 0) (KnowsTurn shape opening regions b loaded)
          (λ more. tt) (λ last. tt))

      -- the word found in the walk is that of the entry's slot
      abbrev pub IsFound : TurnStage → ℕ → Type 0
      IsFound (Earlier at) tag = tag ≡ tag_of shape b at
      IsFound (EarlierWords at j) word = word ≡ sig_word shape b (at % shape.ring) j
      IsFound (EarlierAgain at) tag = tag ≡ tag_of shape b at
      IsFound Before tag = tag ≡ tag_of shape b (p.caller.stamp - 1)
      IsFound _ word = Unit {0}

      pub turns : (next : TurnStage) (word : ℕ) → p.caller.stamp ≤ length b.history → core.IsTurnStage shape p.caller next
          → KnowsTurn shape opening regions b p.caller.loaded next → IsFound next word → Kept (turn_after shape p.caller next word)
      turns Filling word within fits known found = turn_on _ tt
      turns (Signature j) word within fits known found = turn_on _
          (cond_both (nat_lt (j + 1) shape.sig_words) (Signature (j + 1)) Writing (KnowsTurn shape opening regions b p.caller.loaded) (λ more. tt) (λ last. tt))
      turns Writing word within fits known found = earlier p.caller.loaded (p.caller.stamp - 1)
      turns (Earlier at) tag within fits known found =
          cond_both (nat_le (4 * at + 3) tag) _ _ Kept (λ done. earlier p.caller.loaded (at - 1))
          (λ more. turn_on _ (omega (arith, fits.1, within), λ now word below. absurd (let none : word < 0 = below in omega (arith, none))))
      turns (EarlierWords at j) word within fits known found =
          let more : HasWords shape opening regions b (set p.caller.loaded j word) at (j + 1) =
          subst (λ v. HasWords shape opening regions b (set p.caller.loaded j v) at (j + 1)) (sym found)
          (word_loaded shape opening regions b ok p.caller.loaded at j fits.1 wide known.1) in
          cond_both (nat_lt (j + 1) shape.sig_words) _ _ Kept (λ further. turn_goes (set p.caller.loaded j word) _ (known.0, more))
          (λ all. cond_both (meets (take shape.sig_words (set p.caller.loaded j word)) p.caller.write_sig) _ _ Kept
          (λ met. turn_goes (set p.caller.loaded j word) _ tt) (λ apart. earlier (set p.caller.loaded j word) (at - 1)))
      turns (EarlierAgain at) tag within fits known found =
          cond_both (nat_le (4 * at + 3) tag) _ _ Kept (λ done. earlier p.caller.loaded (at - 1))
          (λ not_yet. turn_waits _ _ _ tt (found, let n = leb-false _ _ not_yet in omega (arith, n), fits.1))
      turns (Heap index) word within fits known found =
          turn_on _ (cond_both (nat_lt (index + 1) (length p.caller.writes)) (Heap (index + 1)) _ (KnowsTurn shape opening regions b p.caller.loaded)
          (λ more. tt)
          (λ last. cond_both (p.caller.stamp == 1) Complete Before (KnowsTurn shape opening regions b p.caller.loaded) (λ first. tt) (λ other. tt)))
      turns Before tag within fits known found =
          cond_both (nat_le (4 * (p.caller.stamp - 1) + 3) tag) _ _ Kept (λ done. turn_on _ tt)
          (λ not_yet. turn_waits _ _ _ tt (found, let n = leb-false _ _ not_yet in omega (arith, n), omega (arith, fits)))
      turns Complete word within fits known found = record {
        later = λ e. omega arith;
        tells = tt;
        reader = idles shape opening regions b ok p _ _ _ _ r.behind;
      }
