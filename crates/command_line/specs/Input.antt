-- What is taken from a source, and by which reads.
use Rattle.std.specs.Prelude.{ℕ, ◌≡◌, ◌+◌, ◌<◌, ◌≤◌, ◌∷◌, List, [], Option, IfSome, Result, Ok, Err, length, sum}
use Rattle.std.specs.Io.KnownBytes.{Consumes}
use Rattle.edge_io.specs.declared.faults.Failed.{Failed}
use Rattle.command_line.specs.declared.input.TheConstants.{BUFFER_BYTES}

module _ {S : Type 0} (gave : S → ℕ → Result ℕ Failed → S → Type 0) (most : ℕ) where
  -- reads led from one state of the source to another and brought these many bytes each, the last one first: each read was offered a buffer
  -- of `BUFFER_BYTES`, and was made while not more than `most` bytes were there
  abbrev pub Brings : S → List ℕ → S → Type 0
  Brings from [] now = now ≡ from
  Brings from (count ∷ counts) now =
      (before : S) × Brings from counts before × (sum counts ≤ most) × (0 < count) × gave before BUFFER_BYTES (Ok count) now

  -- reads brought so many bytes each, and there are at most `most + 1` of them
  abbrev pub TakesFirst : S → List ℕ → S → Type 0
  TakesFirst from counts now = Brings from counts now × (length counts ≤ most + 1)

module _ {S : Type 0} (left : S → Option (List ℕ)) (gave : S → ℕ → Result ℕ Failed → S → Type 0) (most : ℕ) where
  -- these bytes were taken, not more than `most`, and then one read more was made, which answered so and took none: at most `most + 1` reads
  pub record TakesUntil (answer : Result ℕ Failed) (from now : S) (bytes : List ℕ) : Type 0 where
    pub counts : List ℕ
    pub before : S
    pub reads : Brings gave most from counts before
    pub last : gave before BUFFER_BYTES answer now
    pub total : sum counts ≡ length bytes
    pub within : length bytes ≤ most
    pub calls : length counts + 1 ≤ most + 1
    pub taken : Consumes (left from) (left now) bytes

  -- these bytes were taken: all that the source had, up to a read that answered 0
  pub record TakesAll (from now : S) (bytes : List ℕ) : Type 0 where
    pub until : TakesUntil (Ok 0) from now bytes
    pub whole : IfSome (left from) (λ all. bytes ≡ all)

  -- not more than `most` bytes were taken, up to a read that failed
  abbrev pub TakesSome : S → S → Type 0
  TakesSome from now = (bytes : List ℕ) × (failure : Failed) × TakesUntil (Err failure) from now bytes

  -- more than `most` bytes were taken, by `BUFFER_BYTES` at most, and no read was made once they were there
  pub record TakesMore (from now : S) : Type 0 where
    pub counts : List ℕ
    pub bytes : List ℕ
    pub reads : TakesFirst gave most from counts now
    pub total : sum counts ≡ length bytes
    pub more : most < length bytes
    pub further : length bytes ≤ most + BUFFER_BYTES
    pub taken : Consumes (left from) (left now) bytes
