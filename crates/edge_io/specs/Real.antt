-- What contracts see of the edges over a reader and a writer of std.
use Rattle.std.specs.Prelude.{ℕ, List, Option, Result, MatchResult, take}
use Rattle.std.specs.Io.KnownBytes.{Appends}
use Rattle.edge_io.specs.declared.real.StdSource.{StdSource}
use Rattle.edge_io.specs.declared.real.StdSink.{StdSink}

-- the reader of a source
abbrev pub reader_of : {R : Type 0} → StdSource R → R
reader_of source = source.reader

-- how often a source has failed
abbrev pub read_faults : {R : Type 0} → StdSource R → ℕ
read_faults source = source.faults

-- the writer of a sink
abbrev pub writer_of : {W : Type 0} → StdSink W → W
writer_of sink = sink.writer

-- how often a sink has failed
abbrev pub write_faults : {W : Type 0} → StdSink W → ℕ
write_faults sink = sink.faults

-- known bytes grow by the n bytes at the front of the piece at `Ok(n)`, and by some of its front at `Err`
abbrev pub WritesFront : {E : Type 0} → Option (List ℕ) → Option (List ℕ) → Result ℕ E → List ℕ → Type 0
WritesFront old new outcome piece =
    MatchResult outcome (λ n. Appends old new (take n piece)) (λ _. (n : ℕ) × Appends old new (take n piece))
