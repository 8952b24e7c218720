-- The calls of a heap, and how each begins.
use Rattle.std.specs.Prelude.{ℕ}
use Rattle.heap_geometry.specs.declared.need.Need.{Need}
use Rattle.errand_steps.specs.Begins.{alloc_begun, free_begun, write_begun, read_begun, put_begun, take_begun}
use Rattle.errand_steps.specs.Errands.{ErrandFields}

-- a call and what it is about: so many usable words; a block; a usable word of one, and its new value; a block and a shelf
pub data Call : Type 0 where
  alloc : (words : ℕ) → Call
  free : (place : ℕ) (need : Need) → Call
  write : (place : ℕ) (need : Need) (i value : ℕ) → Call
  read : (place : ℕ) (need : Need) (i : ℕ) → Call
  put : (place : ℕ) (need : Need) (shelf : ℕ) → Call
  take : (shelf : ℕ) → Call

-- the errand of a caller that begins a call
abbrev pub begun_by : ErrandFields → Call → ErrandFields
begun_by e (alloc words) = alloc_begun e words
begun_by e (free place need) = free_begun e place need
begun_by e (write place need i value) = write_begun e place i value
begun_by e (read place need i) = read_begun e place i
begun_by e (put place need shelf) = put_begun e place need shelf
begun_by e (take shelf) = take_begun e shelf
