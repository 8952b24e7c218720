use Rattle.std.proofs.Common.{ℕ, ◌≡◌, ◌≢◌, ◌≤◌, ◌<◌, ◌+◌, ◌-◌, ◌*◌, length, slice_index_or, vec_capacity}
use Rattle.heap_geometry.specs.Need.{usable_words}
use Rattle.plain_words.specs.declared.plain.PlainWords.{PlainWords}
use Rattle.memory_cache.specs.declared.page.Slot.TheVariants.{Home, Out}
use Rattle.memory_cache.specs.Pages.{AreHere, IsSlot}
use Rattle.memory_cache.proofs.page.Page.cut.Given as goal

abbrev pub invariant-loop-number : goal.invariant-loop-number
invariant-loop-number g l = record {
  long : length l.slots.items ≡ l.number;
  room : l.number-end ≤ vec_capacity l.slots;
  slots : (k : ℕ) → IsSlot g.h (l.place + k * l.size + 1) l.size (slice_index_or l.slots.items k Out);
  home : (k : ℕ) → k < l.number → slice_index_or l.slots.items k Out ≢ Out;
  next : (k : ℕ) → k < l.number → (words : PlainWords) × (slice_index_or l.slots.items k Out ≡ Home words (k + 1));
  rest : AreHere g.h (l.place + l.number * l.size + 1) (usable_words l.need - l.number * l.size) l.rest;
}
