use Rattle.std.proofs.Common.{◌/◌, ◌%◌, ◌*◌, ◌^◌, ℕ, set, subst, sym, bit_or}
use Rattle.std.proofs.lemmas.List.{get_or_read}
use Rattle.mail_query.specs.Bits.{GainsBit}
use Rattle.mail_query.proofs.BitWords.{gains}
use Rattle.mail_query.proofs.bits.Bits.add.Goals as goal

pub returns : goal.returns
returns c =
    let words = c.args.self.now.words.items in
    let number = c.args.number in
    subst (λ (word : ℕ). GainsBit words (set words (number / 64) (bit_or word (1 * 2 ^ (number % 64) % 2 ^ 64))) number)
    (sym (get_or_read words (number / 64) c.index_mut.result.now c.requires c.index_mut.ensures.value 0)) (gains words number c.requires)
