-- Words of the arena among all words: their places, and the points that are on none of them.
use Rattle.std.proofs.Common.{ℕ, Bool, true, false, ◌≡◌, arith, ap, sym, ◌∙◌}
use Rattle.sound_state.proofs.Common.{WordName, name_of, StackPoint, DescPoint, PartialPoint, plan_stack_of, plan_desc_of, plan_partial_of}
use Rattle.word_table.specs.declared.name.WordName.TheVariants as name

-- the place of the word of the arena that this is
abbrev pub arena_place : WordName → ℕ
arena_place (name.Arena p) = p
arena_place n = 0

abbrev pub is_arena_word : WordName → Bool
is_arena_word (name.Arena p) = true
is_arena_word n = false

-- no step on a stack, a descriptor's list or a partial list is on a word of the arena
pub stack-elsewhere : (p : StackPoint) → is_arena_word (name_of (plan_stack_of p)) ≡ false
stack-elsewhere p = grind (arith)

pub desc-elsewhere : (p : DescPoint) → is_arena_word (name_of (plan_desc_of p)) ≡ false
desc-elsewhere p = grind (arith)

pub partial-elsewhere : (p : PartialPoint) → is_arena_word (name_of (plan_partial_of p)) ≡ false
partial-elsewhere p = grind (arith)

pub not-arena : (n : WordName) (word : ℕ) → is_arena_word n ≡ false → n ≡ name.Arena word → ⊥
not-arena n word elsewhere is = let bad : true ≡ false = sym (ap is_arena_word is) ∙ elsewhere in cc
