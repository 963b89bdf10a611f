use Rattle.std.proofs.Common.{◌≡◌, ℕ, ◌+◌, ◌&&◌, ◌||◌, not, List, take, sym, ap, ◌∙◌, subst, arith}
use Rattle.std.proofs.lemmas.List.{take_all}
use Rattle.std.specs.List.{flat_map}
use Rattle.mail_words.specs.Key.{KeyNumbers}
use Rattle.mail_query.specs.declared.query.Query.{Query}
use Rattle.mail_query.specs.Answers.{Table, keys_with}
use Rattle.mail_query.specs.Bits.{HasBits, Knows}
use Rattle.mail_query.specs.Truth.{satisfies, keys_in}
use Rattle.mail_query.proofs.Asked.{narrower}
use Rattle.mail_query.proofs.Evaluated.{if_ok_map, keys_not, keys_all, keys_any, key_of_member, all_more, any_more}
use Rattle.mail_query.proofs.Hits.{all_of_them, one_of_them, complemented, in_both, in_either, same_bits}
use Rattle.mail_query.proofs.Truths.{satisfies_not, satisfies_all, satisfies_any}
use Rattle.mail_query.proofs.evaluation.+hits.Goals as goal

pub hits-returns-in_ok-set-in-Not-clause-hits : goal.hits-returns-in_ok-set-in-Not-clause-hits
hits-returns-in_ok-set-in-Not-clause-hits t c table knows =
    let count = c.args.count in
    let q = c.args.q.now in
    let inner = c.get.result.now in
    let set = c.in_ok-set-in-Not.set in
    let same : (number : ℕ) → not (satisfies inner (keys_with table number)) ≡ satisfies q (keys_with table number) = λ (number : ℕ).
    ap (λ p. not (satisfies p (keys_with table number))) c.get.ensures ∙ sym (satisfies_not c.in-Not.of (keys_with table number))
    ∙ ap (λ p. satisfies p (keys_with table number)) (sym c.in-Not.is) in
    let keys : keys_in q ≡ keys_in inner = ap keys_in c.in-Not.is ∙ keys_not c.in-Not.of ∙ ap keys_in (sym c.get.ensures) in
    same_bits count c.complement.new.self.words.items (λ number. not (satisfies inner (keys_with table number)))
    (λ number. satisfies q (keys_with table number)) same
    (complemented count set.words.items c.complement.new.self.words.items
    (λ number. satisfies inner (keys_with table number)) c.in_ok-set-in-Not.ensures.size c.complement.ensures.others
    (c.in_ok-set-in-Not.ensures.hits table (subst (λ (ks : List KeyNumbers). Knows count c.args.known.now.found ks table) keys knows)))

pub hits-returns-in-All-clause-hits : goal.hits-returns-in-All-clause-hits
hits-returns-in-All-clause-hits t c =
    let count = c.args.count in
    let found = c.args.known.now.found in
    let q = c.args.q.now in
    let members = c.in-All.of.members in
    if_ok_map _ (λ set. (table : Table) → Knows count found (keys_in q) table
    → HasBits count set.words.items (λ number. satisfies q (keys_with table number))) c.hits_of_all.result
    (λ set told table knows. same_bits count set.words.items (all_of_them members table) (λ number. satisfies q (keys_with table number))
    (λ number. sym (satisfies_all members (keys_with table number)) ∙ ap (λ p. satisfies p (keys_with table number)) (sym c.in-All.is))
    (told table (subst (λ (keys : List KeyNumbers). Knows count found keys table) (ap keys_in c.in-All.is ∙ keys_all members) knows)))
    c.hits_of_all.ensures.hits

pub hits_of_all-loop-index-preserved : goal.hits_of_all-loop-index-preserved
hits_of_all-loop-index-preserved t c =
    let count = c.args.count in
    let l = c.loop-index in
    let members = c.args.queries.now.members in
    let q = c.at.result.now in
    record {
      size = c.intersect.ensures.size ∙ l.invariant.size;
      hits = λ table knows.
          same_bits count c.intersect.new.self.words.items (λ number. all_of_them (take l.index members) table number && satisfies q (keys_with table number))
          (all_of_them (take (l.index + 1) members) table)
          (λ number. all_more (λ p. satisfies p (keys_with table number)) members l.index q c.at.ensures)
          (in_both count l.set.words.items c.in_ok-more.more.words.items c.intersect.new.self.words.items (all_of_them (take l.index members) table)
          (λ number. satisfies q (keys_with table number))
          l.invariant.size c.intersect.ensures.both (l.invariant.hits table knows)
          (c.in_ok-more.ensures.hits table
          (narrower count c.args.known.now.found (keys_in q) (flat_map keys_in members) table (key_of_member members l.index q c.at.ensures) knows)));
    }

pub hits_of_all-returns-clause-hits : goal.hits_of_all-returns-clause-hits
hits_of_all-returns-clause-hits t c table knows =
    let members = c.args.queries.now.members in
    subst (λ (ps : List Query). HasBits c.args.count c.loop-index.set.words.items (all_of_them ps table))
    (take_all c.loop-index.index members (omega (arith, c.len-index-end.ensures, c.loop-index-test.false))) (c.loop-index.invariant.hits table knows)

pub hits-returns-in-Any-clause-hits : goal.hits-returns-in-Any-clause-hits
hits-returns-in-Any-clause-hits t c =
    let count = c.args.count in
    let found = c.args.known.now.found in
    let q = c.args.q.now in
    let members = c.in-Any.of.members in
    if_ok_map _ (λ set. (table : Table) → Knows count found (keys_in q) table
    → HasBits count set.words.items (λ number. satisfies q (keys_with table number))) c.hits_of_any.result
    (λ set told table knows. same_bits count set.words.items (one_of_them members table) (λ number. satisfies q (keys_with table number))
    (λ number. sym (satisfies_any members (keys_with table number)) ∙ ap (λ p. satisfies p (keys_with table number)) (sym c.in-Any.is))
    (told table (subst (λ (keys : List KeyNumbers). Knows count found keys table) (ap keys_in c.in-Any.is ∙ keys_any members) knows)))
    c.hits_of_any.ensures.hits

pub hits_of_any-loop-index-preserved : goal.hits_of_any-loop-index-preserved
hits_of_any-loop-index-preserved t c =
    let count = c.args.count in
    let l = c.loop-index in
    let members = c.args.queries.now.members in
    let q = c.at.result.now in
    record {
      size = c.unite.ensures.size ∙ l.invariant.size;
      hits = λ table knows.
          same_bits count c.unite.new.self.words.items (λ number. one_of_them (take l.index members) table number || satisfies q (keys_with table number))
          (one_of_them (take (l.index + 1) members) table)
          (λ number. any_more (λ p. satisfies p (keys_with table number)) members l.index q c.at.ensures)
          (in_either count l.set.words.items c.in_ok-more.more.words.items c.unite.new.self.words.items (one_of_them (take l.index members) table)
          (λ number. satisfies q (keys_with table number))
          l.invariant.size c.unite.ensures.either (l.invariant.hits table knows)
          (c.in_ok-more.ensures.hits table
          (narrower count c.args.known.now.found (keys_in q) (flat_map keys_in members) table (key_of_member members l.index q c.at.ensures) knows)));
    }

pub hits_of_any-returns-clause-hits : goal.hits_of_any-returns-clause-hits
hits_of_any-returns-clause-hits t c table knows =
    let members = c.args.queries.now.members in
    subst (λ (ps : List Query). HasBits c.args.count c.loop-index.set.words.items (one_of_them ps table))
    (take_all c.loop-index.index members (omega (arith, c.len-index-end.ensures, c.loop-index-test.false))) (c.loop-index.invariant.hits table knows)
