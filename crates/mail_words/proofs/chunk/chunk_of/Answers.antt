use Rattle.std.proofs.Common.{◌≡◌, ◌+◌, ◌∷◌, [], ◌++◌, true, cond, is_ok, length, take, subst, refl, sym, ap, ◌∙◌, arith}
use Rattle.std.proofs.lemmas.List.{take_all, length-append}
use Rattle.mail_words.specs.Lists.{word_lists, postings_in, lists_from, AreEnds, AllRise, AllAreKeys}
use Rattle.mail_words.proofs.Flat.{Laid, laid-lists, laid-postings, ends-push, postings-from, word_lists-rise}
use Rattle.mail_words.proofs.Members.{word_lists-keys}
use Rattle.mail_words.proofs.chunk.chunk_of.Goals as goal

pub returns-then-len-limit-clause-exactly_too_many :
    goal.returns-then-len-limit-clause-exactly_too_many
returns-then-len-limit-clause-exactly_too_many c =
    let laid : Laid c.args.bytes.now c.args.spans.now c.loop-span.span-index c.loop-span.ends.items c.loop-span.keys.items =
    record { inside = c.loop-span-test.true; lists_are = c.loop-span.invariant.lists; ends_are = c.loop-span.invariant.ends } in
    let sum = laid-postings c.args.bytes.now c.args.spans.now c.loop-span.span-index c.loop-span.ends.items c.loop-span.keys.items _ c.list_words.new.keys.items
    laid c.in_ok-list_words.ensures in
    let over = c.if-len-limit.true in
    let listed = c.list_words.new.keys.ok.0 in
    let held = c.loop-span.keys.ok.0 in
    record { only = λ _. omega arith; always = λ _. refl }

pub loop-span-preserved : goal.loop-span-preserved
loop-span-preserved c =
    let ends = c.loop-span.ends.items in
    let keys = c.loop-span.keys.items in
    let more = c.list_words.new.keys.items in
    let end = c.len-in-loop-span-2.result in
    let laid : Laid c.args.bytes.now c.args.spans.now c.loop-span.span-index ends keys =
    record { inside = c.loop-span-test.true; lists_are = c.loop-span.invariant.lists; ends_are = c.loop-span.invariant.ends } in
    let extended : is_ok c.extend_from_slice.result ≡ true = ap is_ok c.in_ok-extend_from_slice.was in
    let pushed : is_ok c.push.result ≡ true = ap is_ok c.in_ok-push.was in
    let keys_are : c.extend_from_slice.new.self.items ≡ keys ++ more =
    c.extend_from_slice.ensures.items ∙ ap (λ ok. cond ok (keys ++ c.deref.result.now) keys) extended ∙ ap (λ list. keys ++ list) c.deref.ensures.value in
    let ends_are : c.push.new.self.items ≡ ends ++ end ∷ [] = c.push.ensures.items ∙ ap (λ ok. cond ok (ends ++ end ∷ []) ends) pushed in
    let end_is : end ≡ length c.extend_from_slice.new.self.items = c.len-in-loop-span-2.ensures ∙ c.extend_from_slice.new.self.ok.0 in
    let long : length c.extend_from_slice.new.self.items ≡ length keys + length more = ap length keys_are ∙ length-append keys more in
    let under = c.if-len-limit.false in
    let listed = c.list_words.new.keys.ok.0 in
    let held = c.loop-span.keys.ok.0 in
    let within = c.loop-span.invariant.within in
    record {
      lists = ap (λ es. lists_from 0 es c.extend_from_slice.new.self.items) ends_are ∙ ap (lists_from 0 (ends ++ end ∷ [])) keys_are
          ∙ laid-lists c.args.bytes.now c.args.spans.now c.loop-span.span-index ends keys _ more end laid c.in_ok-list_words.ensures (end_is ∙ long);
      ends = subst (λ es. AreEnds 0 es (length c.extend_from_slice.new.self.items)) (sym ends_are)
          (subst (λ n. AreEnds 0 (ends ++ end ∷ []) n) end_is (ends-push 0 ends (length keys) end c.loop-span.invariant.ends (omega arith)));
      within = omega arith;
    }

pub invariant_of-result : goal.invariant_of-result
invariant_of-result c =
    let spans = take c.loop-span.span-index c.args.spans.now in
    record {
      ends = c.loop-span.invariant.ends;
      rise = subst AllRise (sym c.loop-span.invariant.lists) (word_lists-rise c.args.bytes.now spans);
      keys = subst AllAreKeys (sym c.loop-span.invariant.lists) (word_lists-keys c.args.bytes.now spans);
    }

pub returns-clause-exactly_too_many : goal.returns-clause-exactly_too_many
returns-clause-exactly_too_many c =
    let all : word_lists c.args.bytes.now (take c.loop-span.span-index c.args.spans.now) ≡ word_lists c.args.bytes.now c.args.spans.now =
    ap (word_lists c.args.bytes.now) (take_all c.loop-span.span-index c.args.spans.now c.loop-span-test.false) in
    let sum = postings-from 0 c.loop-span.ends.items c.loop-span.keys.items c.loop-span.invariant.ends in
    let same = ap postings_in (c.loop-span.invariant.lists ∙ all) in
    let within = c.loop-span.invariant.within in
    record { only = λ x. (cc); always = λ x. absurd (omega (arith, x)) }
