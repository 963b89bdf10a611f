-- The texts of the refusals.
use Rattle.std.specs.Prelude.{ℕ, List, ◌++◌, codes}
use Rattle.std.specs.Fmt.{decimal}
use Rattle.mail_io.specs.declared.errors.PutError.{PutError}
use Rattle.mail_io.specs.declared.errors.PutError.TheVariants as put
use Rattle.mail_io.specs.declared.errors.ReadError.{ReadError}
use Rattle.mail_io.specs.declared.errors.ReadError.TheVariants as read
use Rattle.mail_io.specs.declared.errors.WriteError.{WriteError}
use Rattle.mail_io.specs.declared.errors.WriteError.TheVariants as write

abbrev pub put_error_text : PutError → List ℕ
put_error_text put.Failed = codes "writing failed"
put_error_text put.Memory = codes "no memory"

abbrev pub read_error_text : ReadError → List ℕ
read_error_text read.Failed = codes "reading failed"
read_error_text read.TooLarge = codes "the input is too large"
read_error_text read.Memory = codes "no memory"

abbrev pub write_error_text : WriteError → List ℕ
write_error_text (write.Failed sent) = codes "writing failed after " ++ decimal sent ++ codes " bytes"
write_error_text (write.Memory sent) = codes "no memory after " ++ decimal sent ++ codes " bytes"
