-- Each step of a check keeps what the attempt's reads are worth.
use Rattle.std.proofs.Common.{◌≡◌, ◌≢◌, ℕ, ◌+◌, ◌-◌, ◌*◌, ◌/◌, ◌%◌, ◌<◌, ◌≤◌, ◌==◌, nat_lt, true, false, List, [], ◌∷◌, ◌++◌, length, take, set, slice_get, min, Some, Contains, refl, sym, ◌∙◌, ap, subst, arith, inl, inr, mod-lt, cond}
use Rattle.std.proofs.lemmas.Bool.{cases_lt, cond_both, ltb-true, ltb-false, eqb-true, eqb-false}
use Rattle.std.proofs.lemmas.List.{map-append, append-nil, length-take}
use Rattle.std.proofs.lemmas.List.Elements.{Contains-append_cases, Contains-append_left, Contains-append_right}
use Rattle.tx_model.specs.declared.gate.Region.{Region}
use Rattle.tx_model.specs.declared.word.Word.{Word}
use Rattle.tx_model.specs.declared.history.Commit.{Commit}
use Rattle.tx_model.specs.declared.pass.PassState.TheVariants as state
use Rattle.tx_model.specs.declared.pass.Stop.TheVariants.{Met, Overrun}
use Rattle.tx_model.specs.Words.{addresses}
use Rattle.tx_model.specs.Memory.{Agrees}
use Rattle.tx_model.specs.History.{state_at}
use Rattle.ring_sig.specs.Signature.{place_of, places_of, IsSignatureOf, Meet, meets}
use Rattle.ring_core.specs.declared.shape.Shape.{Shape}
use Rattle.ring_core.specs.declared.stage.Stage.TheVariants.{Check}
use Rattle.ring_core.specs.declared.stage.Purpose.{Purpose}
use Rattle.ring_core.specs.declared.stage.Purpose.TheVariants.{Read, Stamp}
use Rattle.ring_core.specs.declared.stage.CheckStage.{CheckStage}
use Rattle.ring_core.specs.declared.stage.CheckStage.TheVariants.{Index, First, Words, Second}
use Rattle.ring_core.specs.declared.stage.Walk.{Walk}
use Rattle.ring_core.specs.Sound as core
use Rattle.ring_core.specs.Outcomes.{Outcome, goes, below, check_from, candidate_after, check_index, check_first, check_words, check_second, unpublished, stops, is_worn}
use Rattle.ring_worlds.specs.declared.process.Process.{Process}
use Rattle.ring_worlds.proofs.board.Guards.{guards}
use Rattle.ring_worlds.specs.World.{Board, tag_of, sig_word, read_for, asked_for}
use Rattle.ring_worlds.specs.Board.{IsBoard}
use Rattle.ring_worlds.specs.Reader.{AreSame, IsLoaded, IsValue, IsWalking, HasWords, KnowsCheck, IsRuled, good_to, Touches}
use Rattle.ring_worlds.specs.Answers.{Keeps, IsTopOf}
use Rattle.ring_sig.proofs.Lemmas.{sets_meet}
use Rattle.tx_model.specs.Opacity.{ShowsConflict, ShowsOverrun}
use Rattle.ring_worlds.proofs.lemmas.Members.{contains_more, contains_cases, contains_none}
use Rattle.ring_worlds.proofs.reads.Compare.{no_common, has_address, commit_of_entry, slot_loaded, word_loaded, not_touched, same_below}
use Rattle.ring_worlds.proofs.reads.Walks.{idle_not_active, IsReady, stopped, worn_out, check_goes}

-- a read's address is among those asked
asks_last : (reads : List Word) (word : Word) → Contains (addresses (reads ++ word ∷ [])) word.addr
asks_last reads word = rw map-append (Contains-append_right (addresses reads) (word.addr ∷ []) word.addr (0, omega arith, refl))

asks_reads : (reads more : List Word) (addr : ℕ) → Contains (addresses reads) addr → Contains (addresses (reads ++ more)) addr
asks_reads reads more addr among = rw map-append (Contains-append_left (addresses reads) (addresses more) addr among)

module _ (shape : Shape) (opening : List ℕ) (regions : List Region) (some_entry : 1 ≤ shape.ring) (b : Board) (ok : IsBoard shape opening regions b) where
  module _ (p : Process) (purpose : Purpose) (stage : CheckStage) (active : p.caller.state ≡ state.Active) (behind : p.caller.start ≤ b.complete)
      (signed : IsSignatureOf (addresses (p.reads ++ read_for purpose)) p.caller.read_sig)
      (ruled : (addr : ℕ) → Contains (addresses (p.reads ++ read_for purpose)) addr → IsRuled shape opening regions p.reads addr)
      (agree : Agrees p.reads (state_at opening b.history p.caller.start)) where
    abbrev addrs : List ℕ
    addrs = addresses (p.reads ++ read_for purpose)

    -- the caller after this outcome
    abbrev Kept : Outcome → Type 0
    Kept o = Keeps shape opening regions b p (Check purpose stage) o

    -- an entry that writes none of the addresses isn't where the value may have come from
    value_below : (why : Purpose) (at : ℕ) (commit : Commit) → p.caller.start < at → slice_get b.history (at - 1) ≡ Some commit
        → ((addr : ℕ) → Contains (addresses (p.reads ++ read_for why)) addr → IsRuled shape opening regions p.reads addr)
        → ((addr : ℕ) → Contains (addresses commit.writes) addr → Contains (addresses (p.reads ++ read_for why)) addr → ⊥)
        → IsValue shape opening regions b p.caller.start at why → IsValue shape opening regions b p.caller.start (at - 1) why
    value_below Stamp at commit after there r apart v = tt
    value_below (Read addr value) at commit after there r apart v =
        record {
          entry = v.entry;
          after = v.after;
          within = elim (cases_lt v.entry at) [
            | inl lower ↦ omega (arith, lower)
            | inr not_lower ↦ absurd (not_here (omega (arith, not_lower, v.within)))
          ];
          source = v.source;
          value = v.value;
        }
      where
        asks : Contains (addresses (p.reads ++ read_for (Read addr value))) addr
        asks = asks_last p.reads (record { addr = addr; value = value })

        not_here : v.entry ≡ at → ⊥
        not_here here =
            let from = v.source (omega (arith, here, after)) in
            let same : from.commit ≡ commit = let e = sym (subst (λ n. slice_get b.history (n - 1) ≡ Some from.commit) here from.there) ∙ there in cc in
            elim from.touches [
              | inl touches ↦ not_touched shape opening regions b ok (addresses (p.reads ++ read_for (Read addr value))) p.reads
                  (λ a among. asks_reads p.reads (read_for (Read addr value)) a among) r (at - 1) commit there apart addr asks
                  (subst (λ (c : Commit). Touches c addr) same touches)
              | inr (region, sealed, is_in) ↦
                  let guard = (guards opening regions from.commit (ok.rules (v.entry - 1) from.commit from.there)).seals region sealed in
                  apart region.gate (subst (λ (c : Commit). Contains (addresses c.writes) region.gate) same guard.1)
                  (asks_reads p.reads (read_for (Read addr value)) region.gate (has_address p.reads _ (r addr asks region guard.0 is_in).read))
            ]

    -- the candidate after an entry that was seen published
    candidate_kept : (walk : Walk) (tag start : ℕ) → start < walk.at → start ≤ walk.candidate
        → (b.complete < walk.candidate → walk.candidate ≤ walk.at) → (tag ≢ 4 * walk.at + 2 → walk.at ≤ b.complete)
        → (start ≤ candidate_after walk tag) × (candidate_after walk tag ≤ walk.candidate)
        × (b.complete < candidate_after walk tag → candidate_after walk tag ≤ walk.at - 1)
    candidate_kept walk tag start after kept moves complete =
        cond_both (tag == (4 * walk.at + 2)) _ _ (λ c. (start ≤ c) × (c ≤ walk.candidate) × (b.complete < c → c ≤ walk.at - 1))
        (λ writing. (omega arith, omega arith, λ past. omega arith))
        (λ done. (kept, omega arith, λ past. let low = moves past in let here = complete (eqb-false _ _ done) in absurd (omega arith)))

    narrow : (why : Purpose) (walk : Walk) (candidate : ℕ) → candidate ≤ walk.candidate
        → AreSame shape opening regions b.history addrs (walk.at - 1) (good_to why walk)
        → AreSame shape opening regions b.history addrs (walk.at - 1) (good_to why (below walk candidate))
    narrow (Read addr value) walk candidate less same = λ k low high. same k low (omega arith)
    narrow Stamp walk candidate less same = same

    -- a conflict is one whatever the order of the addresses
    asks_first : {start entry : ℕ} (why : Purpose)
        → ShowsConflict (64 * shape.sig_words) b.history start (addresses (p.reads ++ read_for why)) entry
        → ShowsConflict (64 * shape.sig_words) b.history start (asked_for why p.reads) entry
    asks_first why shown =
        let (place', wrote, asked) = shown.shared in
        record { later = shown.later; commit = shown.commit; there = shown.there; shared = (place', wrote, reordered why asked) }
      where
        reordered : (why' : Purpose) {place' : ℕ} → Contains (places_of (addresses (p.reads ++ read_for why')) (64 * shape.sig_words)) place'
            → Contains (places_of (asked_for why' p.reads) (64 * shape.sig_words)) place'
        reordered Stamp {place'} among = subst (λ reads. Contains (places_of (addresses reads) (64 * shape.sig_words)) place') (append-nil p.reads) among
        reordered (Read addr value) {place'} among =
            let bits : ℕ = 64 * shape.sig_words in
            let split : places_of (addresses (p.reads ++ record { addr = addr; value = value } ∷ [])) bits ≡ places_of (addresses p.reads) bits
            ++ place_of addr bits ∷ [] =
            ap (λ addrs'. places_of addrs' bits) (map-append (λ (word : Word). word.addr) p.reads (record { addr = addr; value = value } ∷ []))
            ∙ map-append (λ a. place_of a bits) (addresses p.reads) (addr ∷ []) in
            elim (Contains-append_cases (places_of (addresses p.reads) bits) (place_of addr bits ∷ []) place'
            (subst (λ places. Contains places place') split among)) [
              | inl old ↦ contains_more (place_of addr bits) (places_of (addresses p.reads) bits) place' old
              | inr new ↦ elim (contains_cases (place_of addr bits) [] place' new) [
                | inl is ↦ (0, omega arith, is)
                | inr none ↦ absurd (contains_none place' none)
              ]
            ]

    -- the slot is filled again
    overrun : (walk : Walk) → core.IsWalk shape p.caller.start purpose walk → walk.at ≤ length b.history
        → 4 * walk.at + 3 < tag_of shape b walk.at → ShowsOverrun shape.ring b.history p.caller.start walk.at (tag_of shape b walk.at / 4)
    overrun walk w here past = let r = ok.refilled walk.at (omega (arith, w.after)) here past in record { later = w.after; gone = r.0; happened = r.1 }

    pub second_keeps : (walk : Walk) → core.IsWalk shape p.caller.start purpose walk → shape.sig_words ≤ length p.caller.loaded
        → length p.caller.read_sig ≡ shape.sig_words
        → KnowsCheck shape opening regions b p.caller addrs purpose (Second walk) → Kept (check_second shape p.caller purpose walk (tag_of shape b walk.at))
    second_keeps walk w long wide (walking, seen, words) =
        cond_both (nat_lt (4 * walk.at + 3) tag) _ _ Kept
        (λ refilled. stopped shape opening regions b ok p (Check purpose stage) (Overrun walk.at (tag / 4)) behind
        (overrun walk w here (ltb-true _ _ refilled)))
        (λ current. cond_both (meets (take shape.sig_words p.caller.loaded) p.caller.read_sig) _ _ Kept
        (λ met. stopped shape opening regions b ok p (Check purpose stage) (Met walk.at) behind (asks_first purpose (conflict (ltb-false _ _ current) met)))
        (λ apart. check_goes shape opening regions b ok p purpose stage active behind signed ruled agree (below walk (candidate_after walk tag))
        (ready (ltb-false _ _ current) apart)))
      where
        tag : ℕ
        tag = tag_of shape b walk.at

        some : 1 ≤ walk.at
        some = omega (arith, w.after)

        here : walk.at ≤ length b.history
        here = omega (arith, w.within, walking.known)

        commit : Commit
        commit = (commit_of_entry shape opening regions b ok walk.at some here).0

        there : slice_get b.history (walk.at - 1) ≡ Some commit
        there = (commit_of_entry shape opening regions b ok walk.at some here).1

        -- the words loaded are the entry's signature
        its_words : tag ≤ 4 * walk.at + 3 → IsSignatureOf (addresses commit.writes) (take shape.sig_words p.caller.loaded)
        its_words current =
            subst (λ sig. IsSignatureOf (addresses commit.writes) sig)
            (sym (slot_loaded shape opening regions b ok p.caller.loaded (walk.at % shape.ring) (mod-lt walk.at (omega (arith, some_entry))) long
            (words current)))
            (ok.signed walk.at commit some there seen current)

        apart_of : tag ≤ 4 * walk.at + 3 → meets (take shape.sig_words p.caller.loaded) p.caller.read_sig ≡ false → (addr : ℕ)
            → Contains (addresses commit.writes) addr → Contains addrs addr → ⊥
        apart_of current apart =
            no_common (addresses commit.writes) addrs (take shape.sig_words p.caller.loaded) p.caller.read_sig (its_words current) signed
            (rw length-take (omega (arith, long, wide))) apart

        conflict : tag ≤ 4 * walk.at + 3 → meets (take shape.sig_words p.caller.loaded) p.caller.read_sig ≡ true
            → ShowsConflict (64 * shape.sig_words) b.history p.caller.start addrs walk.at
        conflict current met =
            let size : length (take shape.sig_words p.caller.loaded) ≡ shape.sig_words = rw length-take (omega (arith, long)) in
            let shared = (sets_meet (addresses commit.writes) addrs (take shape.sig_words p.caller.loaded) p.caller.read_sig (its_words current) signed
            (omega (arith, size, wide))).0 met in
            record { later = w.after; commit = commit; there = there; shared = subst (λ n. Meet (64 * n) (addresses commit.writes) addrs) size shared }

        ready : tag ≤ 4 * walk.at + 3 → meets (take shape.sig_words p.caller.loaded) p.caller.read_sig ≡ false
            → IsReady shape opening regions b ok p.caller.start addrs purpose (below walk (candidate_after walk tag))
        ready current apart =
            let next = candidate_kept walk tag p.caller.start w.after (omega (arith, w.kept, w.after)) walking.moves
            (λ not_writing. elim (cases_lt b.complete walk.at) [
              | inl undone ↦ let low = ok.undone walk.at undone here in absurd (omega (arith, low, not_writing, seen))
              | inr done ↦ omega (arith, done)
            ]) in
            record {
              reached = omega (arith, w.after);
              within = omega (arith, w.within);
              kept = next.0;
              most = omega (arith, next.1, w.most);
              walking = record {
                known = walking.known;
                same = narrow purpose walk (candidate_after walk tag) next.1
                    (same_below shape opening regions b ok addrs p.reads (λ addr among. asks_reads p.reads (read_for purpose) addr among) ruled walk.at
                    (good_to purpose walk) commit some there (apart_of current apart) walking.same);
                moves = next.2;
                value = value_below purpose walk.at commit w.after there ruled (apart_of current apart) walking.value;
                published = λ is lower. elim (cases_lt walk.at walk.top) [
                  | inl newer ↦ walking.published is newer
                  | inr newest ↦ subst (λ n. 4 * n + 2 ≤ tag_of shape b n) (let e : walk.at ≡ walk.top = omega (arith, newest, w.within) in e) seen
                ];
              };
            }

    -- ---- the first tag
    -- every entry but the newest is published
    newest : {why : Purpose} (walk : Walk) (tag : ℕ) → (tag ≡ tag_of shape b walk.at) → tag < 4 * walk.at + 2
        → core.IsWalk shape p.caller.start why walk → walk.top ≤ length b.history → walk.at ≡ walk.top
    newest walk tag is low w known =
        elim (cases_lt walk.at walk.top) [
          | inl older ↦ let seen = ok.published walk.at (omega (arith, w.after)) (omega (arith, older, known)) in absurd (omega (arith, seen, is, low))
          | inr not_older ↦ omega (arith, not_older, w.within)
        ]

    -- a newest entry that isn't published is passed over by a read: it isn't where the value came from
    passed_over : (why : Purpose) (walk : Walk) (tag : ℕ) → (tag ≡ tag_of shape b walk.at) → tag < 4 * walk.at + 2 → core.IsWalk shape p.caller.start why walk
        → IsSignatureOf (addresses (p.reads ++ read_for why)) p.caller.read_sig
        → ((addr : ℕ) → Contains (addresses (p.reads ++ read_for why)) addr → IsRuled shape opening regions p.reads addr)
        → IsWalking shape opening regions b p.caller.start (addresses (p.reads ++ read_for why)) why walk
        → IsTopOf (Check why stage) walk.top
        → Keeps shape opening regions b p (Check why stage) (unpublished p.caller why walk tag)
    passed_over Stamp walk tag is low w s r walking top =
        record {
          later = λ _. omega arith;
          tells = (is, low, subst (IsTopOf (Check Stamp stage)) (sym (newest walk tag is low w walking.known)) top);
          reader = record { behind = behind; signed = s; ruled = r; agree = λ e. agree; fresh = λ e. absurd (idle_not_active (sym e ∙ active)); knows = tt };
        }
    passed_over (Read addr value) walk tag is low w s r walking top =
        check_goes shape opening regions b ok p (Read addr value) stage active behind s r agree (below walk (min walk.candidate (walk.at - 1)))
        (record {
          reached = omega (arith, w.after);
          within = omega (arith, w.within);
          kept = omega (arith, w.after, w.kept);
          most = omega (arith, w.most);
          walking = record {
            known = walking.known;
            same = λ k from upto a among. ap (λ n. slice_get (state_at opening b.history n) a) (let e : k ≡ walk.at - 1 = omega (arith, from, upto) in e);
            moves = λ past. omega arith;
            value = record {
              entry = v.entry;
              after = v.after;
              within = elim (cases_lt v.entry walk.at) [
                | inl lower ↦ omega (arith, lower)
                | inr not_lower ↦ absurd (not_here (omega (arith, not_lower, v.within)))
              ];
              source = v.source;
              value = v.value;
            };
            published = λ e. absurd cc;
          };
        })
      where
        v : IsLoaded shape opening regions b p.caller.start walk.at addr value
        v = walking.value

        not_here : v.entry ≡ walk.at → ⊥
        not_here here =
            let from = (v.source (omega (arith, here, w.after))).published in
            let seen : 4 * walk.at + 2 ≤ tag_of shape b walk.at = subst (λ n. 4 * n + 2 ≤ tag_of shape b n) here from in
            omega (arith, seen, is, low)

    pub first_keeps : (walk : Walk) → IsTopOf (Check purpose stage) walk.top → core.IsWalk shape p.caller.start purpose walk
        → KnowsCheck shape opening regions b p.caller addrs purpose (First walk)
        → Kept (check_first shape p.caller purpose walk (tag_of shape b walk.at))
    first_keeps walk top w walking =
        cond_both (nat_lt (4 * walk.at + 3) (tag_of shape b walk.at)) _ _ Kept
        (λ refilled. stopped shape opening regions b ok p (Check purpose stage) (Overrun walk.at (tag_of shape b walk.at / 4)) behind
        (overrun walk w (omega (arith, w.within, walking.known)) (ltb-true _ _ refilled)))
        (λ current. cond_both (nat_lt (tag_of shape b walk.at) (4 * walk.at + 2)) _ _ Kept
        (λ not_yet. passed_over purpose walk (tag_of shape b walk.at) refl (ltb-true _ _ not_yet) w signed ruled walking top)
        (λ published. record {
          later = λ _. omega arith;
          tells = tt;
          reader = record {
            behind = behind;
            signed = signed;
            ruled = ruled;
            agree = λ e. agree;
            fresh = λ e. absurd (idle_not_active (sym e ∙ active));
            knows = (walking, ltb-false _ _ published, λ now word below. absurd (let none : word < 0 = below in omega (arith, none)));
          };
        }))

    -- ---- a word of the signature
    pub words_keep : (walk : Walk) (word : ℕ) → word < shape.sig_words → shape.sig_words ≤ length p.caller.loaded
        → KnowsCheck shape opening regions b p.caller addrs purpose (Words walk word)
        → Kept (check_words shape p.caller purpose walk word (sig_word shape b (walk.at % shape.ring) word))
    words_keep walk word inside long (walking, seen, words) =
        cond_both (nat_lt (word + 1) shape.sig_words) (Words walk (word + 1)) (Second walk)
        (λ next. Kept (goes (record p.caller { loaded = set p.caller.loaded word value }) (Check purpose next)))
        (λ more. record {
          later = λ _. omega arith;
          tells = tt;
          reader = record {
            behind = behind;
            signed = signed;
            ruled = ruled;
            agree = λ e. agree;
            fresh = λ e. absurd (idle_not_active (sym e ∙ active));
            knows = (walking, seen, loads);
          };
        })
        (λ all. record {
          later = λ _. omega arith;
          tells = tt;
          reader = record {
            behind = behind;
            signed = signed;
            ruled = ruled;
            agree = λ e. agree;
            fresh = λ e. absurd (idle_not_active (sym e ∙ active));
            knows = (walking, seen, λ now j below. loads now j (let last = ltb-false _ _ all in omega (arith, last, below)));
          };
        })
      where
        value : ℕ
        value = sig_word shape b (walk.at % shape.ring) word

        loads : HasWords shape opening regions b (set p.caller.loaded word value) walk.at (word + 1)
        loads = word_loaded shape opening regions b ok p.caller.loaded walk.at word inside long words

    -- ---- the index
    from_index : (w : core.IsPurpose shape p.caller purpose) → p.caller.start ≤ length b.history
        → KnowsCheck shape opening regions b p.caller addrs purpose Index
        → Kept (cond (nat_lt shape.ring (length b.history - p.caller.start)) (stops shape p.caller (Overrun (p.caller.start + 1) (length b.history)))
        (check_from p.caller purpose (record { top = length b.history; at = length b.history; candidate = length b.history })))
    from_index wants early value =
        cond_both (nat_lt shape.ring (length b.history - p.caller.start)) _ _ Kept
        (λ lost. stopped shape opening regions b ok p (Check purpose stage) (Overrun (p.caller.start + 1) (length b.history)) behind
        (record { later = omega arith; gone = let n = ltb-true _ _ lost in omega (arith, n); happened = omega arith }))
        (λ near. check_goes shape opening regions b ok p purpose stage active behind signed ruled agree _
        (record {
          reached = early;
          within = omega arith;
          kept = early;
          most = omega arith;
          walking = record {
            known = omega arith;
            same = at_top purpose;
            moves = λ past. omega arith;
            value = value;
            published = λ is newer. absurd (omega (arith, newer));
          };
        }))
      where
        at_top : (why : Purpose)
            → AreSame shape opening regions b.history addrs (length b.history)
            (good_to why (record { top = length b.history; at = length b.history; candidate = length b.history }))
        at_top (Read addr value) = λ k low high a among. ap (λ n. slice_get (state_at opening b.history n) a)
            (let e : k ≡ length b.history = omega (arith, low, high) in e)
        at_top Stamp = λ k low high a among. ap (λ n. slice_get (state_at opening b.history n) a) (let e : k ≡ length b.history = omega (arith, low, high) in e)

    pub index_keeps : KnowsCheck shape opening regions b p.caller addrs purpose Index → core.IsPurpose shape p.caller purpose
        → Kept (check_index shape p.caller purpose (length b.history))
    index_keeps value wants =
        cond_both (is_worn shape purpose (length b.history)) _ _ Kept
        (λ worn. worn_out shape opening regions b ok p (Check purpose stage) (length b.history) behind (refl, at_life purpose worn))
        (λ free. from_index wants (omega (arith, behind, ok.counted)) value)
      where
        at_life : (why : Purpose) → is_worn shape why (length b.history) ≡ true → length b.history ≡ shape.life
        at_life (Read addr value) worn = absurd cc
        at_life Stamp worn = eqb-true _ _ worn
