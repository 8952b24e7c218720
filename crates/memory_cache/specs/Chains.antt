-- The chain of a page's pieces that are home.
use Rattle.std.specs.Prelude.{ℕ, zero, suc, ◌≡◌, List, slice_index_or, slice_set}
use Rattle.plain_words.specs.declared.plain.PlainWords.{PlainWords}
use Rattle.memory_cache.specs.declared.page.Slot.{Slot}
use Rattle.memory_cache.specs.declared.page.Slot.TheVariants.{Out, Home}

-- from this slot on so many pieces can be taken one after the other, each of which names the next one; then none is home
abbrev pub IsChain : ℕ → ℕ → List Slot → Type 0
IsChain zero from slots = (number : ℕ) → slice_index_or slots number Out ≡ Out
IsChain (suc left) from slots =
    (words : PlainWords) × (next : ℕ) × (slice_index_or slots from Out ≡ Home words next) × IsChain left next (slice_set slots from Out)
