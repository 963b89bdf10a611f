-- What contracts see of a source over a reader and of a sink over a writer.
use Rattle.std.specs.Prelude.{ℕ}
use Rattle.mail_io.specs.declared.reader_source.ReaderSource.{ReaderSource}
use Rattle.mail_io.specs.declared.writer_sink.WriterSink.{WriterSink}

abbrev pub reader_of : {R : Type 0} → ReaderSource R → R
reader_of s = s.reader

abbrev pub writer_of : {W : Type 0} → WriterSink W → W
writer_of s = s.writer

abbrev pub reader_faults : {R : Type 0} → ReaderSource R → ℕ
reader_faults s = s.faults

abbrev pub reader_calls : {R : Type 0} → ReaderSource R → ℕ
reader_calls s = s.calls

abbrev pub writer_faults : {W : Type 0} → WriterSink W → ℕ
writer_faults s = s.faults
