-- How a run of the program ends, and what it read and wrote.
use Rattle.std.specs.Prelude.{ℕ, ◌≡◌, ◌⊎◌, ◌∷◌, Bool, true, false, List, [], Option, Result, Ok, Contains}
use Rattle.edge_io.specs.declared.faults.Failed.{Failed}
use Rattle.trace_text.specs.declared.limits.TheConstants.{MAX_INPUT}
use Rattle.trace_commands.specs.declared.closing.Closing.{Closing}
use Rattle.command_line.specs.declared.command.Command.{Command}
use Rattle.command_line.specs.declared.status.TheConstants.{REPORTED, USAGE, REFUSED, READ_FAULT, WRITE_FAULT, OUT_OF_MEMORY, TOO_MANY}
use Rattle.command_line.specs.Command.{IsCommandLine, has_input}
use Rattle.command_line.specs.Input.{TakesAll, TakesFirst, TakesUntil}
use Rattle.command_line.specs.Output.{WritesAll, WritesSome}

-- the program ends with this status: the words are no command, an edge failed, or it gave its answer
abbrev pub IsStatus : ℕ → Type 0
IsStatus status = Contains (REPORTED ∷ USAGE ∷ REFUSED ∷ READ_FAULT ∷ WRITE_FAULT ∷ OUT_OF_MEMORY ∷ TOO_MANY ∷ []) status

-- a command with an input gave its answer: its text or the refusal was written, the input is too long, or memory was
-- not found; one without an input: its text was written, or memory was not found
abbrev pub IsAnswer : Bool → ℕ → Type 0
IsAnswer true status = Contains (REPORTED ∷ REFUSED ∷ TOO_MANY ∷ OUT_OF_MEMORY ∷ []) status
IsAnswer false status = Contains (REPORTED ∷ OUT_OF_MEMORY ∷ []) status

-- the words are of a command that has an input
abbrev pub AsksInput : List (List ℕ) → Type 0
AsksInput words = (command : Command) × IsCommandLine command words × (has_input command ≡ true)

module _ {S : Type 0} (left : S → Option (List ℕ)) (gave : S → ℕ → Result ℕ Failed → S → Type 0) (source_before source_after : S) where
  -- what was read where memory was not found: nothing of the source, a part of it, or all
  abbrev pub ReadsInVain : Type 0
  ReadsInVain =
      ((counts : List ℕ) × TakesFirst gave MAX_INPUT source_before counts source_after)
      ⊎ ((bytes : List ℕ) × TakesUntil left gave MAX_INPUT (Ok 0) source_before source_after bytes)

  -- what is taken for a command: all that the source had where the command has an input, and else nothing
  abbrev pub TakesFor : Bool → List ℕ → Type 0
  TakesFor true bytes = TakesAll left gave MAX_INPUT source_before source_after bytes
  TakesFor false bytes = (source_after ≡ source_before) × (bytes ≡ [])

module _
    (words : List (List ℕ))
    {S : Type 0} (left : S → Option (List ℕ)) (gave : S → ℕ → Result ℕ Failed → S → Type 0) (source_before source_after : S)
    {K : Type 0} (holds : K → Option (List ℕ)) (wrote : K → List ℕ → Result ℕ Failed → K → Type 0) (sink_before sink_after : K)
    (IsText : Command → List ℕ → Option Closing → List ℕ → Type 0) (closed : Option Closing)
  where
    -- the words are a command, what it takes was taken, and such a text of that was written whole
    pub record Writes : Type 0 where
      pub command : Command
      pub asked : IsCommandLine command words
      pub bytes : List ℕ
      pub taken : TakesFor left gave source_before source_after (has_input command) bytes
      pub text : List ℕ
      pub answers : IsText command bytes closed text
      pub written : WritesAll holds wrote sink_before sink_after text

    -- the words are a command, what it takes was taken, and less than such a text of that was written
    pub record WritesPart : Type 0 where
      pub command : Command
      pub asked : IsCommandLine command words
      pub bytes : List ℕ
      pub taken : TakesFor left gave source_before source_after (has_input command) bytes
      pub text : List ℕ
      pub answers : IsText command bytes closed text
      pub written : WritesSome holds wrote sink_before sink_after text
