-- the limits of a ring
use Rattle.std.specs.Prelude.{◌≤◌, ◌^◌}
use Rattle.ring_sig.specs.Signature.{IsWordCount}
use Rattle.ring_core.specs.declared.shape.Shape.{Shape}

pub record IsShape (shape : Shape) : Type 0 where
  pub some_entry : 1 ≤ shape.ring
  pub entries : shape.ring ≤ 4096
  pub words : IsWordCount shape.sig_words
  pub some_word : 1 ≤ shape.heap
  pub heap : shape.heap ≤ 2 ^ 27
  pub some_commit : 1 ≤ shape.life
  pub life : shape.life ≤ 2 ^ 60
