-- The tallies of a class, and all of its blocks.
use Rattle.std.proofs.Common.{ℕ, Option, Some, None, ◌≡◌, ◌<◌, ◌≤◌, ◌+◌, ◌*◌, refl, arith, ap, sym, subst, inl, inr, ◌∙◌}
use Rattle.std.specs.Prelude.{◌-◌, if◌then◌else◌, count_by, List, length, slice_index_or, slice_set}
use Rattle.std.proofs.lemmas.Bool.{cases_eq}
use Rattle.std.proofs.lemmas.List.{get_or-set_same, get_or-set_other}
use Rattle.heap_geometry.specs.declared.geometry.Geometry.{Geometry}
use Rattle.heap_geometry.specs.declared.limits.TheConstants.{CLASSES}
use Rattle.heap_geometry.specs.Need.{block_count_of}
use Rattle.packed_words.specs.declared.active.ActiveWord.{ActiveWord}
use Rattle.packed_words.specs.declared.active.ActiveWord.TheVariants.{Null, Held}
use Rattle.word_table.specs.Counts.{descriptor_count}
use Rattle.pool_model.specs.Pool.{pool_of}
use Rattle.errand_steps.specs.Steps.{State}
use Rattle.sound_state.specs.Lists.{Lists, IsListed}
use Rattle.sound_state.specs.Sums.{sum_below}
use Rattle.sound_state.specs.Superblocks.{anchor_for}
use Rattle.sound_state.proofs.shared.SumLemmas.{sum-same}
use Rattle.live_heap.specs.Endings.{ClosedFields, IsResting}
use Rattle.heap_census.specs.declared.census.ClassCount.{ClassCount}
use Rattle.heap_census.specs.declared.tallies.SuperblockTally.{SuperblockTally}
use Rattle.heap_census.specs.Census.{IsClassCount, active_in, closed_state, counted_of, has_class, is_class, no_blocks, offered_of, superblocks_of}
use Rattle.heap_census.specs.Tallies.{IsSameTally, counted_by, named_by, anchored_tally, with_actives}
use Rattle.heap_census.proofs.IdleLemmas.{Rests}
use Rattle.heap_census.proofs.ExchangeLemmas.{weighed, exchange, class-adds}
use Rattle.heap_census.proofs.LiveLemmas.{class-live}
use Rattle.heap_census.proofs.RestLemmas.{closed-rests, has-same}

-- an active word names one superblock, and its anchor counts the free blocks
named-weighed : (o : Option ActiveWord) → named_by o ≡ weighed (λ d. 1) o
named-weighed None = refl
named-weighed (Some Null) = refl
named-weighed (Some (Held d credits)) = refl

counted-weighed : (s : State) (o : Option ActiveWord) → counted_by s o ≡ weighed (λ d. (anchor_for s d).count) o
counted-weighed s None = refl
counted-weighed s (Some Null) = refl
counted-weighed s (Some (Held d credits)) = refl

-- what the words say of a class
pub record IsTallied (g : Geometry) (s : State) (class : ℕ) (t : SuperblockTally) : Type 0 where
  pub anchored : SuperblockTally
  pub counts : IsSameTally anchored (anchored_tally s (descriptor_count g) class)
  pub all : IsSameTally t (with_actives s anchored class g.heaps)

tally-superblocks :
    (g : Geometry) (s : State) (l : Lists) (class : ℕ) (t : SuperblockTally) → Rests g s l → class < CLASSES → IsTallied g s class t
    → t.superblocks ≡ superblocks_of g s l class
tally-superblocks g s l class t rests of x =
    let words : sum_below g.heaps (λ heap. named_by (active_in s heap class)) ≡ sum_below g.heaps (λ heap. weighed (λ d. 1) (active_in s heap class)) =
    sum-same g.heaps (λ heap. weighed (λ d. 1) (active_in s heap class)) (λ heap. named_by (active_in s heap class))
    (λ heap lt. named-weighed (active_in s heap class)) in
    omega (arith, words, x.counts.superblocks, x.all.superblocks, exchange g s l class (λ d. 1) rests of)

tally-free :
    (g : Geometry) (s : State) (l : Lists) (class : ℕ) (t : SuperblockTally) → Rests g s l → class < CLASSES → IsTallied g s class t
    → t.free ≡ counted_of g s l class
tally-free g s l class t rests of x =
    let count = λ (d : ℕ). (anchor_for s d).count in
    let words : sum_below g.heaps (λ heap. counted_by s (active_in s heap class)) ≡ sum_below g.heaps (λ heap. weighed count (active_in s heap class)) =
    sum-same g.heaps (λ heap. weighed count (active_in s heap class)) (λ heap. counted_by s (active_in s heap class))
    (λ heap lt. counted-weighed s (active_in s heap class)) in
    omega (arith, words, x.counts.free, x.all.free, exchange g s l class count rests of)

tally-reserved :
    (g : Geometry) (s : State) (class : ℕ) (t : SuperblockTally) → IsTallied g s class t → t.reserved ≡ offered_of g s class
tally-reserved g s class t x = omega (arith, x.counts.reserved, x.all.reserved)

-- the blocks of a class add up by its tally
pub tally-adds :
    (g : Geometry) (s : State) (l : Lists) (class : ℕ) (t : SuperblockTally) → Rests g s l → class < CLASSES → IsTallied g s class t
    → t.free + t.reserved + count_by (λ block. is_class class block.need) (pool_of s.history) ≡ block_count_of class * t.superblocks
tally-adds g s l class t rests of x =
    joins (counted_of g s l class) (offered_of g s class) (count_by (λ block. is_class class block.need) (pool_of s.history)) t.free t.reserved
    (block_count_of class * superblocks_of g s l class) (block_count_of class * t.superblocks)
    (tally-free g s l class t rests of x) (tally-reserved g s class t x)
    (ap (λ k. counted_of g s l class + offered_of g s class + k) (sym (class-live g s l class rests)) ∙ class-adds g s l class rests of)
    (ap (λ k. block_count_of class * k) (tally-superblocks g s l class t rests of x))
  where
    joins :
        (a b c free reserved size all : ℕ) → free ≡ a → reserved ≡ b → a + b + c ≡ size → all ≡ size → free + reserved + c ≡ all
    joins a b c free reserved size all first second sum same = omega (arith, first, second, sum, same)

-- what is left of all blocks is live
left-over : (free reserved live all left : ℕ) → free + reserved + live ≡ all → left ≡ all - free - reserved → left ≡ live
left-over free reserved live all left sum is = omega (arith, sum, is)

pub class-count :
    (c : ClosedFields) (class : ℕ) (t : SuperblockTally) (n : ClassCount) → IsResting c → class < CLASSES → IsTallied c.geometry (closed_state c) class t
    → n.blocks ≡ block_count_of class * t.superblocks → n.free ≡ t.free → n.reserved ≡ t.reserved → n.live ≡ n.blocks - n.free - n.reserved
    → (l : Lists) → IsListed c.geometry (closed_state c).word l → IsClassCount c l class n
class-count c class t n resting of x blocks free reserved live l listed =
    let g : Geometry = c.geometry in
    let s : State = closed_state c in
    let (k, rests) = closed-rests c resting in
    let same = has-same g s l k listed rests.parts.listed class in
    let sum = tally-adds g s k class t rests of x in
    let lives : ℕ = count_by (λ block. is_class class block.need) (pool_of c.events) in
    let left : n.live ≡ lives =
    left-over t.free t.reserved lives n.blocks n.live (sum ∙ sym blocks)
    (live ∙ ap (λ f. n.blocks - f - n.reserved) free ∙ ap (λ r. n.blocks - t.free - r) reserved) in
    record {
      blocks =
          blocks ∙ ap (λ k. block_count_of class * k) (tally-superblocks g s k class t rests of x
          ∙ sum-same (descriptor_count g) (λ d. if has_class g s l class d then 1 else 0) (λ d. if has_class g s k class d then 1 else 0)
          (λ d lt. ap (λ b. if b then 1 else 0) (sym (same d))));
      free =
          free ∙ tally-free g s k class t rests of x
          ∙ sum-same (descriptor_count g) (λ d. if has_class g s l class d then (anchor_for s d).count else 0)
          (λ d. if has_class g s k class d then (anchor_for s d).count else 0)
          (λ d lt. ap (λ b. if b then (anchor_for s d).count else 0) (sym (same d)));
      reserved = reserved ∙ tally-reserved g s class t x;
      live = left;
      all = adds n.free n.reserved n.live n.blocks t.free t.reserved lives (block_count_of class * t.superblocks) sum blocks free reserved left;
    }
  where
    adds :
        (a b c d free reserved live all : ℕ) → free + reserved + live ≡ all → d ≡ all → a ≡ free → b ≡ reserved → c ≡ live → a + b + c ≡ d
    adds a b c d free reserved live all sum whole first second third = omega (arith, sum, whole, first, second, third)

-- the free and reserved blocks of a class are no more than all of them
pub class-within :
    (c : ClosedFields) (class : ℕ) (t : SuperblockTally) → IsResting c → class < CLASSES → IsTallied c.geometry (closed_state c) class t
    → t.free + t.reserved ≤ block_count_of class * t.superblocks
class-within c class t resting of x =
    let (l, rests) = closed-rests c resting in
    most t.free t.reserved (count_by (λ block. is_class class block.need) (pool_of c.events)) (block_count_of class * t.superblocks)
    (tally-adds c.geometry (closed_state c) l class t rests of x)
  where
    most : (a b c d : ℕ) → a + b + c ≡ d → a + b ≤ d
    most a b c d sum = omega (arith, sum)

-- the counts of the first classes, with one class more
pub counts-more :
    (P : ℕ → ClassCount → Type 0) (counts : List ClassCount) (k i : ℕ) (n : ClassCount) → i ≡ k → k < length counts
    → ((class : ℕ) → class < k → P class (slice_index_or counts class no_blocks)) → P k n → (class : ℕ) → class < k + 1
    → P class (slice_index_or (slice_set counts i n) class no_blocks)
counts-more P counts k i n at within before now class below =
    elim (cases_eq class i) [
      | inl same ↦
          let there : slice_index_or (slice_set counts i n) class no_blocks ≡ n =
          subst (λ j. slice_index_or (slice_set counts i n) j no_blocks ≡ n) (sym same)
          (get_or-set_same counts i n no_blocks (omega (arith, at, within))) in
          subst (P class) (sym there) (subst (λ j. P j n) (sym at ∙ sym same) now)
      | inr other ↦
          subst (P class) (sym (get_or-set_other counts i class n no_blocks other)) (before class (omega (arith, below, at, other)))
    ]
