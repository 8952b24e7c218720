use Rattle.std.proofs.Common.{◌≡◌, ◌-◌, ◌*◌, length, take}
use Rattle.heap_geometry.specs.Need.{usable_words}
use Rattle.memory_cache.specs.Pages.{AreHere, first_of}
use Rattle.memory_cache.proofs.page.Page.into_memory.Given as goal

abbrev pub invariant-loop-slot : goal.invariant-loop-slot
invariant-loop-slot g l = record {
  place : l.place ≡ l.fn.self.place;
  need : l.need ≡ l.fn.self.need;
  slots : l.slots.items ≡ take (length l.slots.items) l.fn.self.slots.items;
  words : AreHere g.h (first_of l.fn.self (length l.slots.items)) (usable_words l.fn.self.need - length l.slots.items * l.fn.self.size) l.words;
}

abbrev pub decreases-loop-slot : goal.decreases-loop-slot
decreases-loop-slot g l = goal.left-loop-slot g l
