-- The kinds of refusals.
use Rattle.std.specs.Prelude.{⊤}
use Rattle.mail_io.specs.declared.errors.Failed.{Failed as Fault}
use Rattle.mail_io.specs.declared.errors.PutError.{PutError}
use Rattle.mail_io.specs.declared.errors.PutError.TheVariants as put
use Rattle.mail_io.specs.declared.errors.ReadError.{ReadError}
use Rattle.mail_io.specs.declared.errors.ReadError.TheVariants as read
use Rattle.mail_io.specs.declared.errors.WriteError.{WriteError}
use Rattle.mail_io.specs.declared.errors.WriteError.TheVariants as write

-- the one refusal of `take`
abbrev pub TakeFailed : Fault → Type 0
TakeFailed _ = ⊤

abbrev pub PutFailed : PutError → Type 0
PutFailed put.Failed = ⊤
PutFailed put.Memory = ⊥

abbrev pub PutWantsMemory : PutError → Type 0
PutWantsMemory put.Failed = ⊥
PutWantsMemory put.Memory = ⊤

abbrev pub ReadFailed : ReadError → Type 0
ReadFailed read.Failed = ⊤
ReadFailed read.TooLarge = ⊥
ReadFailed read.Memory = ⊥

abbrev pub WriteFailed : WriteError → Type 0
WriteFailed (write.Failed sent) = ⊤
WriteFailed (write.Memory sent) = ⊥

abbrev pub WriteWantsMemory : WriteError → Type 0
WriteWantsMemory (write.Failed sent) = ⊥
WriteWantsMemory (write.Memory sent) = ⊤
