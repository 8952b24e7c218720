-- A closed heap has one census.
use Rattle.std.proofs.Common.{ℕ, List, get_or, ◌≡◌, ap, sym, ◌∙◌, arith}
use Rattle.std.proofs.lemmas.List.{ext_get_or}
use Rattle.live_heap.specs.Endings.{ClosedFields}
use Rattle.sound_state.specs.Lists.{Lists}
use Rattle.heap_census.specs.declared.census.Census.{Census}
use Rattle.heap_census.specs.declared.census.ClassCount.{ClassCount}
use Rattle.heap_census.specs.Census.{IsCensus, IsClassCount, no_blocks}

-- the counts of a class with these numbers
abbrev counts_of : ℕ → ℕ → ℕ → ℕ → ClassCount
counts_of blocks free reserved live = record { blocks = blocks; free = free; reserved = reserved; live = live }

-- what is counted of a class by the same lists is the same
same-counts :
    (c : ClosedFields) (l : Lists) (class : ℕ) (m n : ClassCount) → IsClassCount c l class m → IsClassCount c l class n → m ≡ n
same-counts c l class m n has is =
    ap (λ k. counts_of k m.free m.reserved m.live) (has.blocks ∙ sym is.blocks)
    ∙ ap (λ k. counts_of n.blocks k m.reserved m.live) (has.free ∙ sym is.free)
    ∙ ap (λ k. counts_of n.blocks n.free k m.live) (has.reserved ∙ sym is.reserved)
    ∙ ap (λ k. counts_of n.blocks n.free n.reserved k) (has.live ∙ sym is.live)

-- a census of these classes, frames and units
abbrev census_of : List ClassCount → ℕ → ℕ → Census
census_of per_class free_frames free_units =
    record { per_class = per_class; free_frames = free_frames; free_units = free_units }

-- two censuses of a closed heap are the same
pub same-census : (c : ClosedFields) (a b : Census) → IsCensus c a → IsCensus c b → a ≡ b
same-census c a b has is =
    let l = has.lists in
    let classes : a.per_class ≡ b.per_class =
    ext_get_or no_blocks a.per_class b.per_class (has.classes ∙ sym is.classes)
    (λ class below. same-counts c l class (get_or a.per_class class no_blocks) (get_or b.per_class class no_blocks)
    (has.each l has.listed class (omega (arith, below, has.classes))) (is.each l has.listed class (omega (arith, below, has.classes)))) in
    ap (λ per_class. census_of per_class a.free_frames a.free_units) classes
    ∙ ap (λ frames. census_of b.per_class frames a.free_units) (has.frames l has.listed ∙ sym (is.frames l has.listed))
    ∙ ap (λ units. census_of b.per_class b.free_frames units) (has.units ∙ sym is.units)
