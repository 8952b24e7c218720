-- How a text is written.
use Rattle.std.specs.Prelude.{ℕ, ◌≡◌, ◌+◌, ◌<◌, ◌≤◌, ◌∷◌, List, [], Option, Result, Ok, Err, drop, length, sum, take}
use Rattle.std.specs.Io.KnownBytes.{Appends}
use Rattle.edge_io.specs.declared.faults.Failed.{Failed}

module _ {K : Type 0} (wrote : K → List ℕ → Result ℕ Failed → K → Type 0) (text : List ℕ) where
  -- writes led from one state of the sink to another and took these many bytes of a text each, the last one first: each write was offered all
  -- of the text that the ones before it had left
  abbrev pub Offers : K → List ℕ → K → Type 0
  Offers from [] now = now ≡ from
  Offers from (count ∷ counts) now =
      (before : K) × Offers from counts before × (0 < count) × wrote before (drop (sum counts) text) (Ok count) now

module _ {K : Type 0} (holds : K → Option (List ℕ)) (wrote : K → List ℕ → Result ℕ Failed → K → Type 0) where
  -- the text was written whole, by at most one write a byte
  pub record WritesAll (from now : K) (text : List ℕ) : Type 0 where
    pub counts : List ℕ
    pub writes : Offers wrote text from counts now
    pub total : sum counts ≡ length text
    pub calls : length counts ≤ length text
    pub written : Appends (holds from) (holds now) text

  -- less than the text was written, and then a write failed, which was the last one
  pub record WritesSome (from now : K) (text : List ℕ) : Type 0 where
    pub counts : List ℕ
    pub before : K
    pub failure : Failed
    pub writes : Offers wrote text from counts before
    pub last : wrote before (drop (sum counts) text) (Err failure) now
    pub less : sum counts < length text
    pub calls : length counts + 1 ≤ length text
    pub written : Appends (holds from) (holds now) (take (sum counts) text)
