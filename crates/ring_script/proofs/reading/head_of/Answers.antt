-- The first line has its names and numbers at their indexes.
use Rattle.std.proofs.Common.{◌≡◌, length, subst, arith}
use Rattle.ring_script.specs.Reading.{IsHead}
use Rattle.ring_script.specs.declared.reading.Head.{Head}
use Rattle.ring_script.proofs.Tokens.{texts, texts_length}
use Rattle.ring_script.proofs.Said.{head_has, has_head, some_head}
use Rattle.ring_script.proofs.reading.head_of.Goals as goal

pub returns-in_err-ring : goal.returns-in_err-ring
returns-in_err-ring c head = (
  λ e. absurd (cc (e, c.from_residual.ensures)),
  λ is.
      let has = head_has (texts c.args.tokens.now) head.ring head.bits head.words head.callers head.life is in
      let found = (c.named_number.ensures head.ring).1 has.1.ring_at in
      absurd (cc (found, c.in_err-ring.was)),
)

pub returns-in_err-bits : goal.returns-in_err-bits
returns-in_err-bits c head = (
  λ e. absurd (cc (e, c.from_residual-in_err-bits.ensures)),
  λ is.
      let has = head_has (texts c.args.tokens.now) head.ring head.bits head.words head.callers head.life is in
      let found = (c.named_number-2.ensures head.bits).1 has.1.bits_at in
      absurd (cc (found, c.in_err-bits.was)),
)

pub returns-in_err-words : goal.returns-in_err-words
returns-in_err-words c head = (
  λ e. absurd (cc (e, c.from_residual-in_err-words.ensures)),
  λ is.
      let has = head_has (texts c.args.tokens.now) head.ring head.bits head.words head.callers head.life is in
      let found = (c.named_number-3.ensures head.words).1 has.1.words_at in
      absurd (cc (found, c.in_err-words.was)),
)

pub returns-in_err-callers : goal.returns-in_err-callers
returns-in_err-callers c head = (
  λ e. absurd (cc (e, c.from_residual-in_err-callers.ensures)),
  λ is.
      let has = head_has (texts c.args.tokens.now) head.ring head.bits head.words head.callers head.life is in
      let found = (c.named_number-4.ensures head.callers).1 has.1.callers_at in
      absurd (cc (found, c.in_err-callers.was)),
)

pub returns-in_err-life : goal.returns-in_err-life
returns-in_err-life c head = (
  λ e. absurd (cc (e, c.from_residual-in_err-life.ensures)),
  λ is.
      let has = head_has (texts c.args.tokens.now) head.ring head.bits head.words head.callers head.life is in
      let found = (c.named_number-5.ensures head.life).1 has.1.life_at in
      absurd (cc (found, c.in_err-life.was)),
)

pub returns : goal.returns
returns c head =
    let tokens = texts c.args.tokens.now in
    let count = texts_length c.args.tokens.now in
    let ten : length tokens ≡ 10 = omega (arith, count, c.if-tokens-ne10.false) in
    let read : Head = record {
      ring = c.in_ok-ring.ring;
      bits = c.in_ok-bits.bits;
      words = c.in_ok-words.words;
      callers = c.in_ok-callers.callers;
      life = c.in_ok-life.life;
    } in (
      λ e.
          let same : read ≡ head = cc (e) in
          subst (λ h. IsHead tokens h) same
          (
          has_head tokens read.ring read.bits read.words read.callers read.life ten record {
            ring_at = (c.named_number.ensures read.ring).0 c.in_ok-ring.was;
            bits_at = (c.named_number-2.ensures read.bits).0 c.in_ok-bits.was;
            words_at = (c.named_number-3.ensures read.words).0 c.in_ok-words.was;
            callers_at = (c.named_number-4.ensures read.callers).0 c.in_ok-callers.was;
            life_at = (c.named_number-5.ensures read.life).0 c.in_ok-life.was;
          }
          ),
      λ is.
          let has = head_has tokens head.ring head.bits head.words head.callers head.life is in
          let found-ring = (c.named_number.ensures head.ring).1 has.1.ring_at in
          let same-ring : read.ring ≡ head.ring = cc (found-ring, c.in_ok-ring.was) in
          let found-bits = (c.named_number-2.ensures head.bits).1 has.1.bits_at in
          let same-bits : read.bits ≡ head.bits = cc (found-bits, c.in_ok-bits.was) in
          let found-words = (c.named_number-3.ensures head.words).1 has.1.words_at in
          let same-words : read.words ≡ head.words = cc (found-words, c.in_ok-words.was) in
          let found-callers = (c.named_number-4.ensures head.callers).1 has.1.callers_at in
          let same-callers : read.callers ≡ head.callers = cc (found-callers, c.in_ok-callers.was) in
          let found-life = (c.named_number-5.ensures head.life).1 has.1.life_at in
          let same-life : read.life ≡ head.life = cc (found-life, c.in_ok-life.was) in
          some_head read.ring read.bits read.words read.callers read.life head same-ring same-bits same-words same-callers same-life,
    )
