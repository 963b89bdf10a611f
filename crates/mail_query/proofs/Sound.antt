-- What the parser reads is what the text reads as.
use Rattle.std.proofs.Common.{◌≡◌, refl, ℕ, ◌==◌, ◌+◌, ◌-◌, suc, Bool, true, false, not, ◌&&◌, nat_lt, nat_le, List, [], ◌∷◌, ◌++◌, length, cond, sym, ◌∙◌, ap, subst, append_assoc, eqb-true, Option, Some, None, arith}
use Rattle.std.proofs.lemmas.List.{append-nil}
use Rattle.std.proofs.lemmas.Bool.{false≢true, and_from, and_parts, ltb-false, le-leb}
use Rattle.std.specs.List.{list_all, AllByRecursion}
use Rattle.std.specs.Char.{is_ascii_alphanumeric}
use Rattle.mail_words.specs.Key.{is_word, lowered, key_of}
use Rattle.mail_query.specs.declared.query.Query.{Query}
use Rattle.mail_query.specs.declared.query.Query.TheVariants as query
use Rattle.mail_query.specs.declared.error.QueryError.{QueryError}
use Rattle.mail_query.specs.declared.error.QueryError.TheVariants.{LongWord, Long}
use Rattle.mail_query.specs.Refusals.{Before}
use Rattle.mail_query.specs.Members.{all_of}
use Rattle.mail_query.specs.Tokens.{Token, is_run, IsWhole, tokens_of}
use Rattle.mail_query.specs.Grammar.{ReadsAsPrim, ReadsAsItem, ReadsAsItems, ReadsAs}
use Rattle.mail_query.specs.Refusals.{or_later, bad_unless, ends_query, is_bang, refusal_at, first_refusal, refusal_of}
use Rattle.mail_query.specs.Reading.{Group, fresh, item_of, with_item, with_bang, with_bar, query_of, before_items, before_of, read_from, reading_text}
use Rattle.mail_query.proofs.Tokens.{tokens_whole}
use Rattle.mail_query.proofs.Means.{Means, word_means, group_means, plain_means, negated_means}
use Rattle.mail_query.proofs.Growth.{ItemsMean, DoneMeans, items_grow, alternatives_mean, done_grows}

-- the tokens of a `!` that waits
abbrev pub bang_tokens : Bool → List Token
bang_tokens true = Token.Bang ∷ []
bang_tokens false = []

-- the tokens of a group are those of its alternatives, its items and its `!`
pub record GroupMeans (group : Group) (tokens : List Token) : Type 0 where
  pub front : List Token
  pub back : List Token
  pub whole : tokens ≡ front ++ (back ++ bang_tokens group.negated)
  pub done : DoneMeans group.done front
  pub items : ItemsMean group.items back

fresh_means : GroupMeans fresh []
fresh_means = record { front = []; back = []; whole = refl; done = refl; items = refl }

item_means : (negated : Bool) (q : Query) (tokens : List Token) → Means (λ text. ReadsAsPrim text q) tokens
    → Means (λ text. ReadsAsItem text (item_of negated q)) (bang_tokens negated ++ tokens)
item_means true q tokens means = negated_means q tokens means
item_means false q tokens means = plain_means q tokens means

pub with_item_means : (group : Group) (tokens : List Token) (q : Query) (more : List Token) → GroupMeans group tokens → Means (λ text. ReadsAsPrim text q) more
    →
    GroupMeans (with_item q group) (tokens ++ more)
with_item_means group tokens q more g means = record {
  front = g.front;
  back = g.back ++ (bang_tokens group.negated ++ more);
  whole = ap (λ t. t ++ more) g.whole ∙ append_assoc g.front (g.back ++ bang_tokens group.negated) more
      ∙ ap (λ t. g.front ++ t) (append_assoc g.back (bang_tokens group.negated) more ∙ sym (append-nil (g.back ++ (bang_tokens group.negated ++ more))));
  done = g.done;
  items = items_grow group.items g.back (item_of group.negated q) (bang_tokens group.negated ++ more) g.items (item_means group.negated q more means);
}

pub with_bang_means : (group : Group) (tokens : List Token) → group.negated ≡ false → GroupMeans group tokens
    → GroupMeans (with_bang group) (tokens ++ Token.Bang ∷ [])
with_bang_means group tokens plain g = record {
  front = g.front;
  back = g.back;
  whole = ap (λ t. t ++ Token.Bang ∷ []) (g.whole ∙ ap (λ b. g.front ++ (g.back ++ bang_tokens b)) plain ∙ ap (λ t. g.front ++ t) (append-nil g.back))
      ∙ append_assoc g.front g.back (Token.Bang ∷ []);
  done = g.done;
  items = g.items;
}

-- items that have come, with no `!` behind them
items_come : (qs : List Query) (tokens : List Token) (q : Query) (ps : List Query) → qs ≡ q ∷ ps → ItemsMean qs tokens
    → Means (λ text. ReadsAsItems text qs) tokens
items_come [] tokens q ps e items = cc
items_come (p ∷ qs) tokens q ps e items = items

pub record Ended (group : Group) : Type 0 where
  pub plain : group.negated ≡ false
  pub first : Query
  pub others : List Query
  pub come : group.items ≡ first ∷ others

ended_items : (done items : List Query) → ends_query (before_of (record { done = done; items = items; negated = false })) ≡ true
    → Ended (record { done = done; items = items; negated = false })
ended_items done [] ends = absurd (false≢true ends)
ended_items done (q ∷ qs) ends = record { plain = refl; first = q; others = qs; come = refl }

ended_by : (done items : List Query) (negated : Bool) → ends_query (before_of (record { done = done; items = items; negated = negated })) ≡ true
    → Ended (record { done = done; items = items; negated = negated })
ended_by done items true ends = absurd (false≢true ends)
ended_by done items false ends = ended_items done items ends

pub ended : (group : Group) → ends_query (before_of group) ≡ true → Ended group
ended group = ended_by group.done group.items group.negated

plain_items : (items : List Query) (negated : Bool) → not (is_bang (cond negated Before.Bang (before_items items))) ≡ true → negated ≡ false
plain_items items true e = absurd (false≢true e)
plain_items items false e = refl

pub ended_whole : (group : Group) (tokens : List Token) → group.negated ≡ false → (g : GroupMeans group tokens) → tokens ≡ g.front ++ g.back
ended_whole group tokens plain g = g.whole ∙ ap (λ b. g.front ++ (g.back ++ bang_tokens b)) plain ∙ ap (λ t. g.front ++ t) (append-nil g.back)

pub with_bar_means : (group : Group) (tokens : List Token) → Ended group → GroupMeans group tokens → GroupMeans (with_bar group) (tokens ++ Token.Bar ∷ [])
with_bar_means group tokens end g = record {
  front = (g.front ++ g.back) ++ Token.Bar ∷ [];
  back = [];
  whole = ap (λ t. t ++ Token.Bar ∷ []) (ended_whole group tokens end.plain g) ∙ sym (append-nil ((g.front ++ g.back) ++ Token.Bar ∷ []));
  done = done_grows group.done group.items g.front g.back g.done (items_come group.items g.back end.first end.others end.come g.items);
  items = refl;
}

pub query_means : (group : Group) (tokens : List Token) → Ended group → GroupMeans group tokens → Means (λ text. ReadsAs text (query_of group)) tokens
query_means group tokens end g text e =
    ReadsAs.alt text (group.done ++ all_of group.items ∷ [])
    (alternatives_mean group.done group.items g.front g.back g.done (items_come group.items g.back end.first end.others end.come g.items) text
    (e ∙ ended_whole group tokens end.plain g))

-- the tokens of the groups round a group, each with its `(`
abbrev pub AroundMeans : List Group → List Token → Type 0
AroundMeans [] tokens = tokens ≡ []
AroundMeans (group ∷ outer) tokens =
    (front : List Token) × ((back : List Token) × ((tokens ≡ front ++ (back ++ Token.Open ∷ [])) × (AroundMeans outer front × GroupMeans group back)))

-- the tokens that are read so far
pub record ReadMeans (group : Group) (outer : List Group) (tokens : List Token) : Type 0 where
  pub front : List Token
  pub back : List Token
  pub whole : tokens ≡ front ++ back
  pub around : AroundMeans outer front
  pub inner : GroupMeans group back

nothing_read : ReadMeans fresh [] []
nothing_read = record { front = []; back = []; whole = refl; around = refl; inner = fresh_means }

-- a step within the group
within : (group next : Group) (outer : List Group) (tokens more : List Token) → ((back : List Token) → GroupMeans group back → GroupMeans next (back ++ more)) →
    ReadMeans group outer tokens → ReadMeans next outer (tokens ++ more)
within group next outer tokens more step r = record {
  front = r.front;
  back = r.back ++ more;
  whole = ap (λ t. t ++ more) r.whole ∙ append_assoc r.front r.back more;
  around = r.around;
  inner = step r.back r.inner;
}

opens : (group : Group) (outer : List Group) (tokens : List Token) → ReadMeans group outer tokens → ReadMeans fresh (group ∷ outer) (tokens ++ Token.Open ∷ [])
opens group outer tokens r = record {
  front = tokens ++ Token.Open ∷ [];
  back = [];
  whole = sym (append-nil (tokens ++ Token.Open ∷ []));
  around = (r.front, (r.back, (ap (λ t. t ++ Token.Open ∷ []) r.whole ∙ append_assoc r.front r.back (Token.Open ∷ []), (r.around, r.inner))));
  inner = fresh_means;
}

closes : (group parent : Group) (outer : List Group) (tokens : List Token) → Ended group → ReadMeans group (parent ∷ outer) tokens →
    ReadMeans (with_item (query_of group) parent) outer (tokens ++ Token.Close ∷ [])
closes group parent outer tokens end r =
    let front = r.around.0 in
    let back = r.around.1.0 in
    let more = Token.Open ∷ (r.back ++ Token.Close ∷ []) in
    record {
      front = front;
      back = back ++ more;
      whole = ap (λ t. t ++ Token.Close ∷ []) (r.whole ∙ ap (λ t. t ++ r.back) r.around.1.1.0)
          ∙ ap (λ t. t ++ Token.Close ∷ []) (append_assoc front (back ++ Token.Open ∷ []) r.back)
          ∙ append_assoc front ((back ++ Token.Open ∷ []) ++ r.back) (Token.Close ∷ [])
          ∙ ap (λ t. front ++ t) (append_assoc (back ++ Token.Open ∷ []) r.back (Token.Close ∷ [])
          ∙ append_assoc back (Token.Open ∷ []) (r.back ++ Token.Close ∷ []));
      around = r.around.1.1.1.0;
      inner = with_item_means parent back (query_of group) more r.around.1.1.1.1 (group_means (query_of group) r.back (query_means group r.back end r.inner));
    }

zero_not : (n : ℕ) → suc n ≡ 0 → ⊥
zero_not n e = omega arith

-- what no refusal says
if_none : (b : Bool) (later : Option QueryError) → cond b (Some Long) later ≡ None → later ≡ None
if_none true later e = cc
if_none false later e = e

pub later_none : (first later : Option QueryError) → or_later first later ≡ None → (first ≡ None) × (later ≡ None)
later_none None later e = (refl, e)
later_none (Some refusal) later e = cc

pub may_stand : (b : Bool) → bad_unless b ≡ None → b ≡ true
may_stand true e = refl
may_stand false e = cc

pub no_error : (b : Bool) (error : QueryError) → cond b (Some error) None ≡ None → b ≡ false
no_error true error e = cc
no_error false error e = refl

pub word_of_run : (run : List ℕ) → is_run run ≡ true → nat_lt 32 (length run) ≡ false → is_word run ≡ true
word_of_run run is short =
    let parts = and_parts (nat_lt 0 (length run)) (list_all is_ascii_alphanumeric run) is in
    and_from (nat_lt 0 (length run) && nat_le (length run) 32) (list_all is_ascii_alphanumeric run)
    (and_from (nat_lt 0 (length run)) (nat_le (length run) 32) parts.0 (le-leb (length run) 32 (ltb-false 32 (length run) short))) parts.1

pub before_items-end : (items : List Query) (q : Query) → before_items (items ++ q ∷ []) ≡ Before.Item
before_items-end [] q = refl
before_items-end (p ∷ items) q = refl

-- the next token at the end of what is read
moved : (tokens more : List Token) (token : Token) → (tokens ++ token ∷ []) ++ more ≡ tokens ++ token ∷ more
moved tokens more token = append_assoc tokens (token ∷ []) more

abbrev Sound : List Token → Type 0
Sound tokens = (group : Group) (outer : List Group) → first_refusal (before_of group) (length outer) tokens ≡ None → (read : List Token)
    → ReadMeans group outer read →
    Means (λ text. ReadsAs text (read_from group outer tokens)) (read ++ tokens)

-- one token on
step_on : (tokens : List Token) (token : Token) (group : Group) (outer : List Group) (depth : ℕ) (behind : Before) → Sound tokens →
    before_of group ≡ behind → length outer ≡ depth → first_refusal behind depth tokens ≡ None → (read : List Token)
    → ReadMeans group outer (read ++ token ∷ []) →
    Means (λ text. ReadsAs text (read_from group outer tokens)) (read ++ token ∷ tokens)
step_on tokens token group outer depth behind sound at_before at_depth none read r text e =
    sound group outer (ap (λ b. first_refusal b (length outer) tokens) at_before ∙ ap (λ d. first_refusal behind d tokens) at_depth ∙ none)
    (read ++ token ∷ []) r text (e ∙ sym (moved read tokens token))

sound_end : Sound []
sound_end group [] none read r text e =
    let ends = and_parts (ends_query (before_of group)) true (may_stand _ none) in
    query_means group read (ended group ends.0) (subst (GroupMeans group) (sym (r.whole ∙ ap (λ t. t ++ r.back) r.around)) r.inner) text (e ∙ append-nil read)
sound_end group (parent ∷ outer) none read r text e =
    let ends = and_parts (ends_query (before_of group)) (length (parent ∷ outer) == 0) (may_stand _ none) in
    absurd (zero_not (length outer) (eqb-true (suc (length outer)) 0 ends.1))

sound_run : (run : List ℕ) (tokens : List Token) → is_run run ≡ true → Sound tokens → Sound (Token.Run run ∷ tokens)
sound_run run tokens whole sound group outer none read r =
    let parts = later_none _ _ none in
    let word = word_of_run run whole (no_error (nat_lt 32 (length run)) LongWord parts.0) in
    let q = query.Word (key_of (lowered run)) in
    step_on tokens (Token.Run run) (with_item q group) outer (length outer) Before.Item sound
    (before_items-end group.items (item_of group.negated q)) refl parts.1 read
    (within group (with_item q group) outer read (Token.Run run ∷ []) (λ back g. with_item_means group back q (Token.Run run ∷ []) g (word_means run word)) r)

sound_bang : (tokens : List Token) → Sound tokens → Sound (Token.Bang ∷ tokens)
sound_bang tokens sound group outer none read r =
    let parts = later_none _ _ none in
    let plain = plain_items group.items group.negated (may_stand _ parts.0) in
    step_on tokens Token.Bang (with_bang group) outer (length outer) Before.Bang sound refl refl parts.1 read
    (within group (with_bang group) outer read (Token.Bang ∷ []) (λ back g. with_bang_means group back plain g) r)

sound_bar : (tokens : List Token) → Sound tokens → Sound (Token.Bar ∷ tokens)
sound_bar tokens sound group outer none read r =
    let parts = later_none _ _ none in
    let end = ended group (may_stand _ parts.0) in
    step_on tokens Token.Bar (with_bar group) outer (length outer) Before.Start sound refl refl parts.1 read
    (within group (with_bar group) outer read (Token.Bar ∷ []) (λ back g. with_bar_means group back end g) r)

sound_open : (tokens : List Token) → Sound tokens → Sound (Token.Open ∷ tokens)
sound_open tokens sound group outer none read r =
    let parts = later_none (refusal_at (before_of group) (length outer) Token.Open) (first_refusal Before.Start (length outer + 1) tokens) none in
    step_on tokens Token.Open fresh (group ∷ outer) (length outer + 1) Before.Start sound refl (omega arith) parts.1 read (opens group outer read r)

sound_close : (tokens : List Token) → Sound tokens → Sound (Token.Close ∷ tokens)
sound_close tokens sound group [] none read r =
    let parts = later_none _ _ none in
    let stands = and_parts (ends_query (before_of group)) false (may_stand _ parts.0) in
    absurd (false≢true stands.1)
sound_close tokens sound group (parent ∷ outer) none read r =
    let parts = later_none _ _ none in
    let stands = and_parts (ends_query (before_of group)) (nat_lt 0 (length (parent ∷ outer))) (may_stand _ parts.0) in
    step_on tokens Token.Close (with_item (query_of group) parent) outer (length (parent ∷ outer) - 1) Before.Item sound
    (before_items-end parent.items (item_of parent.negated (query_of group))) (omega arith) parts.1 read
    (closes group parent outer read (ended group stands.0) r)

sound_tokens : (tokens : List Token) → AllByRecursion IsWhole tokens → Sound tokens
sound_tokens [] whole = sound_end
sound_tokens (Token.Run run ∷ tokens) whole = sound_run run tokens whole.0 (sound_tokens tokens whole.1)
sound_tokens (Token.Bang ∷ tokens) whole = sound_bang tokens (sound_tokens tokens whole.1)
sound_tokens (Token.Bar ∷ tokens) whole = sound_bar tokens (sound_tokens tokens whole.1)
sound_tokens (Token.Open ∷ tokens) whole = sound_open tokens (sound_tokens tokens whole.1)
sound_tokens (Token.Close ∷ tokens) whole = sound_close tokens (sound_tokens tokens whole.1)
sound_tokens (Token.Other ∷ tokens) whole = λ group outer none read r text e. cc

-- a text that is not refused reads as what the parser reads
pub sound : (text : List ℕ) → refusal_of text ≡ None → ReadsAs text (reading_text text)
sound text none =
    sound_tokens (tokens_of text) (tokens_whole text) fresh []
    (if_none (nat_lt 4096 (length text)) (first_refusal Before.Start 0 (tokens_of text)) none) [] nothing_read text refl
