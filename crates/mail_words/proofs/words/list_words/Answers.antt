use Rattle.std.proofs.Common.{◌≡◌, ◌∙◌, ◌∷◌, [], ◌++◌, ap, sym, not, map, true, is_ok, cond, rules, tests}
use Rattle.std.proofs.lemmas.Bool.{false_from_ne_true}
use Rattle.std.proofs.lemmas.Iterator.Consumers.{YieldsList-end}
use Rattle.std.proofs.lemmas.Iterator.Splits.{YieldsList-from_slice_split}
use Rattle.std.proofs.lemmas.List.{map-append}
use Rattle.std.specs.Char.{is_ascii_alphanumeric}
use Rattle.mail_words.specs.Key.{is_word}
use Rattle.mail_words.specs.Words.{rising}
use Rattle.mail_words.proofs.Rising.{rising-more}
use Rattle.mail_words.proofs.Runs.{keys_in, keys_in-none, keys_in-more, keys_in-same, keys_in-all}
use Rattle.mail_words.proofs.words.list_words.Goals as goal

pub loop-piece-init : goal.loop-piece-init
loop-piece-init c = ap rising (c.clear.ensures.items ∙ sym keys_in-none)

pub loop-piece-preserved : goal.loop-piece-preserved
loop-piece-preserved c =
    let before = map (λ p. p.now) c.loop-piece.yielded in
    c.loop-piece.invariant
    ∙ ap rising (sym (keys_in-same before c.in-Some.piece.now (false_from_ne_true (is_word c.in-Some.piece.now) c.in_default.ensures))
    ∙ ap keys_in (sym (map-append (λ p. p.now) c.loop-piece.yielded (c.in-Some.piece ∷ []))))

pub loop-piece-preserved-in-Continue-1 : goal.loop-piece-preserved-in-Continue-1
loop-piece-preserved-in-Continue-1 c =
    let before = map (λ p. p.now) c.loop-piece.yielded in
    let piece = c.in-Some.piece.now in
    let thin = c.thin_out-most.new.keys.items in
    let word = c.in-Some-key_of.ensures in
    let pushed : is_ok c.push.result ≡ true = ap is_ok c.in_ok-push.was in
    let keys : c.push.new.self.items ≡ thin ++ c.in-Some-key_of.key ∷ [] =
    c.push.ensures.items ∙ ap (λ ok. cond ok (thin ++ c.in-Some-key_of.key ∷ []) thin) pushed in
    ap rising keys
    ∙ rising-more thin (keys_in before) c.in-Some-key_of.key (c.thin_out-most.ensures ∙ c.loop-piece.invariant)
    ∙ ap rising (ap (λ k. keys_in before ++ k ∷ []) word.1
    ∙ sym (keys_in-more before piece word.0)
    ∙ ap keys_in (sym (map-append (λ p. p.now) c.loop-piece.yielded (c.in-Some.piece ∷ []))))

pub returns : goal.returns
returns c =
    let all = YieldsList-end (YieldsList-from_slice_split {s = c.into_iter-piece-iterator.result} _
    (λ byte. not (is_ascii_alphanumeric byte)) {f = c.split-piece-items.result.pred} c.args.message.now (cc) (cc) (cc) (λ x b q k. search (rules, tests)))
    c.loop-piece.yielded _ c.loop-piece.yielded_by _ _ c.in-None.is c.next.ensures.steps in
    c.drop_doubles.ensures ∙ c.loop-piece.invariant ∙ ap rising (ap keys_in all.0 ∙ keys_in-all c.args.message.now)
