-- What is told of a store's script.
use Rattle.std.specs.Prelude.{ℕ, ◌≡◌, List, Option, Some}
use Rattle.live_heap.specs.Endings.{ClosedFields}
use Rattle.store_runner.specs.Closings.{IsStored}
use Rattle.store_runner.specs.Texts.{text_of}
use Rattle.trace_commands.specs.declared.closing.Closing.{Closing}
use Rattle.trace_commands.specs.declared.closing.Closing.TheVariants.{Ran}

-- a script of so many rounds was run on a heap of threads, whose pool spells what the rounds leave; and the text tells the pairs and the words that its last calls read there
abbrev pub IsStoreTold : ℕ → Option Closing → List ℕ → Type 0
IsStoreTold rounds closed text =
    (heap : ClosedFields) × (closed ≡ Some (Ran heap)) × (stored : IsStored rounds heap) × (text ≡ text_of rounds stored.pairs stored.words)
