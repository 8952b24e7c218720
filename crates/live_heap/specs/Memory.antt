-- The usable words of a block that are out with a pass, as plain memory, and how the pass stands.
use Rattle.std.specs.Prelude.{ℕ, suc, eqb, if◌then◌else◌, ◌≡◌, ◌+◌, ◌-◌, List, [], ◌∷◌, length}
use Rattle.std.specs.Borrow.{Fml, MutBor, Array, Lends, u64}
use mathlib.Core.Option.{some}
use lib.ListN.{get_elem?}
use Rattle.heap_geometry.specs.declared.need.Need.{Need}
use Rattle.heap_geometry.specs.Need.{usable_words}
use Rattle.plain_words.specs.declared.plain.PlainWords.{PlainWords}
use Rattle.plain_words.specs.Lends.{with_words}
use Rattle.plain_words.specs.Places.{laids, numbers}
use Rattle.errand_steps.specs.declared.reply.Reply.TheVariants as reply
use Rattle.errand_steps.specs.Begins.{IsIdle}
use Rattle.errand_steps.specs.Calls.{write}
use Rattle.sound_laws.specs.events.Made.{Made, answered}
use Rattle.live_heap.specs.Heaps.{HeapFields}
use Rattle.live_heap.specs.declared.plain.Memory.{Memory}
use Rattle.live_heap.specs.declared.pass.Pass.{Pass}
use Rattle.live_heap.specs.declared.view.Lent.{Lent}
use Rattle.live_heap.specs.contracts.plain.Memory.{the_row}
use Rattle.live_heap.specs.Lending.{LeadTo, lent_block, with_lent}
use Rattle.live_heap.specs.Passes.{IsOf, OwnsAt, view}

-- the words are all the usable words of the block at the place, that serves the need, in this heap's memory, and each is laid
pub record AreWordsOf (h : HeapFields) (place : ℕ) (need : Need) (words : PlainWords) : Type 0 where
  pub at : words.at ≡ h.region.at
  pub first : words.first ≡ place + 1
  pub long : length words.places ≡ usable_words need
  pub laid : (ns : List ℕ) × (words.places ≡ laids ns)

-- they are those of the memory's block
abbrev pub IsMemoryOf : HeapFields → Memory → Type 0
IsMemoryOf h m = AreWordsOf h m.block.place m.block.need m.words

-- the same block, whose words are laid with ws
abbrev pub with_numbers : Memory → List ℕ → Memory
with_numbers m ws = record { block = m.block; words = with_words m.words ws }

-- what it ends as, once a `&mut` slice of its words has ended
abbrev pub lends_memory : MutBor Memory → MutBor (List ℕ) → Fml
lends_memory m r = Lends the_row (Array u64 0) m r (with_numbers m.now)

-- the words of the block at the place, that serves the need, are out with the pass; and those of this block are
abbrev pub IsTaken : Pass → ℕ → Need → Type 0
IsTaken p place need = (n : ℕ) × (b : Lent) × (get_elem? (view p).lent n ≡ some b) × (b.place ≡ place) × (b.need ≡ need)

abbrev pub HasTaken : Pass → Memory → Type 0
HasTaken p m = IsTaken p m.block.place m.block.need

-- the blocks but for the first of them that lies at the place
abbrev pub all_but : ℕ → List Lent → List Lent
all_but place [] = []
all_but place (b ∷ bs) = if eqb b.place place then bs else b ∷ all_but place bs

-- the pass as it would stand had it never taken the words of the block at the place out
abbrev pub before_taking : Pass → ℕ → Pass
before_taking p place = record {
  seat = record p.seat { me = (with_lent (view p) (all_but place (view p).lent), []) };
  errand = p.errand;
  out = p.out - 1;
}

-- the pass that has lifted the words of the block, which went out with these numbers, and doesn't count them as out
abbrev pub lifted_from : Pass → ℕ → Need → List ℕ → Pass
lifted_from p place need numbers = record {
  seat = record p.seat { me = (with_lent (view p) (lent_block place need numbers ∷ (view p).lent), []) };
  errand = p.errand;
  out = p.out;
}

-- the words of this block, which the pass p owned and had home, have been lifted, and not laid again
pub record IsLifted (h : HeapFields) (p : Pass) (place : ℕ) (need : Need) (q : Pass) : Type 0 where
  pub of : IsOf h p
  pub idle : IsIdle p.errand
  pub owned : OwnsAt p place need
  pub old : List ℕ
  pub long : length old ≡ usable_words need
  pub is : q ≡ lifted_from p place need old

-- these calls on words that have been lifted lead to what is in them
pub record LeadsLifted (h : HeapFields) (place : ℕ) (need : Need) (made : List Made) (words : PlainWords) (q : Pass) : Type 0 where
  pub before : Pass
  pub lifted : IsLifted h before place need q
  pub leads : LeadTo place need [] (view before).lent (view before).lent lifted.old made (numbers words.places)

-- a write of each number to the block, the first of them to word i
abbrev pub writes_from : ℕ → Need → ℕ → List ℕ → List Made
writes_from place need i [] = []
writes_from place need i (x ∷ xs) = answered (write place need i x) reply.Wrote ∷ writes_from place need (suc i) xs

-- the pass has the words of this block out, which went out last with these numbers, and of others
abbrev pub IsLastTaken : Pass → Memory → List ℕ → List Lent → Type 0
IsLastTaken p m numbers others = (view p).lent ≡ lent_block m.block.place m.block.need numbers ∷ others

-- of the two blocks that went out last this one went first, and its words are as they went
abbrev pub HasTakenBoth : Pass → Memory → Memory → Type 0
HasTakenBoth p first last =
    (old : List ℕ) × (others : List Lent)
    × IsLastTaken p last old (lent_block first.block.place first.block.need (numbers first.words.places) ∷ others)
