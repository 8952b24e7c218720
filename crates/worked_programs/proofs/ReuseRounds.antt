-- What rounds leave: the one block that was given, in the magazine of its class.
use Rattle.std.proofs.Common.{ℕ, zero, suc, Bool, true, false, ◌≡◌, ◌≤◌, ◌+◌, ◌-◌, ◌^◌, List, [], ◌∷◌, ◌++◌, length, min, cond, count_by, refl, sym, ◌∙◌, ap, subst, arith, length-append}
use Rattle.std.specs.Prelude.{reverse}
use Rattle.std.proofs.lemmas.List.{length-reverse}
use Rattle.heap_geometry.specs.declared.need.Need.{Need}
use Rattle.heap_geometry.specs.declared.need.Need.TheVariants.{Small}
use Rattle.heap_geometry.specs.Need.{need_of}
use Rattle.pool_model.specs.declared.event.Event.{Event}
use Rattle.pool_model.specs.declared.event.Event.TheVariants.{Alloc, Free, Write}
use Rattle.pool_model.specs.Calls.{alloc_given, freed, wrote}
use Rattle.pool_model.specs.Calls as ended
use Rattle.errand_steps.specs.declared.reply.Reply.TheVariants as reply
use Rattle.errand_steps.specs.Calls.{alloc, free, read, write}
use Rattle.live_heap.specs.declared.block.Block.{Block}
use Rattle.live_heap.specs.Heaps.{HeapFields}
use Rattle.live_heap.specs.declared.pass.Pass.{Pass}
use Rattle.block_cache.specs.declared.cache.Cache.{Cache}
use Rattle.block_cache.specs.declared.magazines.Magazines.{Magazines}
use Rattle.block_cache.specs.Caches.{KeepsMagazines, cached_in, magazine_in, stacks_in}
use Rattle.block_cache.specs.Flushes.{Frees}
use Rattle.block_cache.specs.Magazines.{HasOnTop, all_in, leaving, stack_at, stacks_of}
use Rattle.block_cache.specs.Whole.{RestsAt, asked, kept, served}
use Rattle.block_cache.proofs.MagazineLemmas.{top-all, top-here}
use Rattle.worked_programs.specs.declared.reuse.TheConstants.{DEPTH}
use Rattle.worked_programs.specs.Reuse.{IsRound, Makes, MakesRounds}
use Rattle.worked_programs.proofs.EmbeddedCounts.{Counts, IsBlind, called-of, counts-on, giving-counts, one}

-- no stack has more blocks than all together
stack-within : (stacks : List (List Block)) (class : ℕ) → length (stack_at stacks class) ≤ length (all_in stacks)
stack-within [] class = omega arith
stack-within (x ∷ xs) zero = omega (arith, length-append x (all_in xs))
stack-within (x ∷ xs) (suc class) = omega (arith, length-append x (all_in xs), stack-within xs class)

-- as many blocks leave as there are
pub all-leave : (stacks : List (List Block)) → length (leaving stacks) ≡ length (all_in stacks)
all-leave [] = refl
all-leave (x ∷ xs) =
    omega (arith, length-append (reverse x) (leaving xs), length-reverse x, all-leave xs, length-append x (all_in xs))

-- events that are counted: an allocation of 3 words so often, and neither looks nor writes
pub record Fits (P : Event → Bool) (gives : ℕ) : Type 0 where
  pub looks : IsBlind P
  pub alloc : (place : ℕ) → one P (Alloc 0 3 place) ≡ gives
  pub write : (place i v : ℕ) → one P (Write 0 place i v) ≡ 0

-- the magazine of a class has so many blocks, and the others have none; so many allocations were served; and of those of the heap there was none, or one
pub record Stands (h : HeapFields) (class : ℕ) (begun : Bool) (blocks hits : ℕ) (c : Cache) : Type 0 where
  pub rests : RestsAt h c
  pub depth : c.magazines.depth ≡ DEPTH
  pub here : length (magazine_in c class) ≡ blocks
  pub all : length (cached_in c) ≡ blocks
  pub hits_are : c.hits ≡ min hits (2 ^ 64 - 1)
  pub counts : (P : Event → Bool) (gives : ℕ) → Fits P gives → Counts P 0 (cond begun gives 0) c.pass

count-is : (P : Event → Bool) (k n m : ℕ) (p : Pass) → n ≡ m → Counts P k n p → Counts P k m p
count-is P k n m p is had = (had.0, had.1 ∙ is)

same-here : (c d : Cache) (class : ℕ) → KeepsMagazines c d → length (magazine_in d class) ≡ length (magazine_in c class)
same-here c d class keeps = ap (λ (m : Magazines Block). length (stack_at (stacks_of m.stacks.items) class)) keeps.magazines

same-all : (c d : Cache) → KeepsMagazines c d → length (cached_in d) ≡ length (cached_in c)
same-all c d keeps = ap (λ (m : Magazines Block). length (all_in (stacks_of m.stacks.items))) keeps.magazines

-- before the first round
pub stands-first :
    (h : HeapFields) (class : ℕ) (c : Cache) → RestsAt h c → c.magazines.depth ≡ DEPTH → cached_in c ≡ [] → c.hits ≡ 0
    → ((P : Event → Bool) → Counts P 0 0 c.pass) → Stands h class false 0 0 c
stands-first h class c rests depth empty hits counts = record {
  rests = rests;
  depth = depth;
  here = omega (arith, ap length empty, stack-within (stacks_in c) class);
  all = ap length empty;
  hits_are = omega (arith, hits);
  counts = λ P gives fits. counts P;
}

-- the first allocation is the heap's
first-alloc :
    (h : HeapFields) (class : ℕ) (c d : Cache) (place : ℕ) (need : Need) → need_of 3 ≡ Small class → Stands h class false 0 0 c
    → Makes h c (alloc 3) (reply.Given place need) d → Stands h class true 0 0 d
first-alloc h class c d place need small at makes =
    elim makes.0.made [
      | served words block is_alloc is_given has ↦
          let e : alloc 3 ≡ alloc words = is_alloc in
          let same : 3 ≡ words = cc in
          let k : Small class ≡ Small has.class = sym small ∙ (ap need_of same ∙ has.small) in
          let is : class ≡ has.class = cc in
          let more = top-here has.class block (stacks_in c) (stacks_in d) has.top in
          let none : length (magazine_in c has.class) ≡ 0 = subst (λ (j : ℕ). length (magazine_in c j) ≡ 0) is at.here in
          absurd (omega (arith, more, none))
      | kept block is_free is_freed held room has ↦ let e : alloc 3 ≡ free block.place block.need = is_free in absurd (cc)
      | asked asks whole keeps ↦
          record {
            rests = makes.0.after;
            depth = makes.1 ∙ at.depth;
            here = same-here c d class keeps ∙ at.here;
            all = same-all c d keeps ∙ at.all;
            hits_are = keeps.hits ∙ at.hits_are;
            counts = λ P gives fits.
                count-is P 0 (0 + gives) gives d.pass (omega arith)
                (counts-on P 0 0 gives c.pass d.pass (alloc 3) (reply.Given place need) (alloc_given 3 place) refl
                (λ added e. giving-counts P 0 3 place (need_of 3) added fits.looks e ∙ fits.alloc place)
                (called-of _ _ _ _ whole.0 (λ (e : reply.Given place need ≡ reply.Spent). cc)) (at.counts P gives fits));
          }
    ]

-- each later one is served by the magazine
later-alloc :
    (h : HeapFields) (class hits : ℕ) (c d : Cache) (place : ℕ) (need : Need) → need_of 3 ≡ Small class → Stands h class true 1 hits c
    → Makes h c (alloc 3) (reply.Given place need) d → Stands h class true 0 (suc hits) d
later-alloc h class hits c d place need small at makes =
    elim makes.0.made [
      | served words block is_alloc is_given has ↦
          let e : alloc 3 ≡ alloc words = is_alloc in
          let same : 3 ≡ words = cc in
          let k : Small class ≡ Small has.class = sym small ∙ (ap need_of same ∙ has.small) in
          let is : class ≡ has.class = cc in
          let top : HasOnTop class block (stacks_in c) (stacks_in d) =
          subst (λ (j : ℕ). HasOnTop j block (stacks_in c) (stacks_in d)) (sym is) has.top in
          record {
            rests = makes.0.after;
            depth = makes.1 ∙ at.depth;
            here = omega (arith, top-here class block (stacks_in c) (stacks_in d) top, at.here);
            all = omega (arith, top-all class block (stacks_in c) (stacks_in d) top, at.all);
            hits_are = omega (arith, has.hits, at.hits_are);
            counts = λ P gives fits. subst (Counts P 0 gives) (sym has.pass) (at.counts P gives fits);
          }
      | kept block is_free is_freed held room has ↦ let e : alloc 3 ≡ free block.place block.need = is_free in absurd (cc)
      | asked asks whole keeps ↦ absurd (asks (class, small, omega (arith, at.here)))
    ]

-- a write and a read change nothing of it
write-stands :
    (h : HeapFields) (class hits : ℕ) (c d : Cache) (place : ℕ) (need : Need) (i v : ℕ) → Stands h class true 0 hits c
    → Makes h c (write place need i v) reply.Wrote d → Stands h class true 0 hits d
write-stands h class hits c d place need i v at makes =
    elim makes.0.made [
      | served words block is_alloc is_given has ↦ let e : write place need i v ≡ alloc words = is_alloc in absurd (cc)
      | kept block is_free is_freed held room has ↦ let e : write place need i v ≡ free block.place block.need = is_free in absurd (cc)
      | asked asks whole keeps ↦
          record {
            rests = makes.0.after;
            depth = makes.1 ∙ at.depth;
            here = same-here c d class keeps ∙ at.here;
            all = same-all c d keeps ∙ at.all;
            hits_are = keeps.hits ∙ at.hits_are;
            counts = λ P gives fits.
                count-is P 0 (gives + 0) gives d.pass (omega arith)
                (counts-on P 0 gives 0 c.pass d.pass (write place need i v) reply.Wrote (wrote place i v) refl
                (λ added e. ap (count_by P) e ∙ fits.write place i v)
                (called-of _ _ _ _ whole.0 (λ (e : reply.Wrote ≡ reply.Spent). cc)) (at.counts P gives fits));
          }
    ]

read-stands :
    (h : HeapFields) (class hits : ℕ) (c d : Cache) (place : ℕ) (need : Need) (i word : ℕ) → Stands h class true 0 hits c
    → Makes h c (read place need i) (reply.Word word) d → Stands h class true 0 hits d
read-stands h class hits c d place need i word at makes =
    elim makes.0.made [
      | served words block is_alloc is_given has ↦ let e : read place need i ≡ alloc words = is_alloc in absurd (cc)
      | kept block is_free is_freed held room has ↦ let e : read place need i ≡ free block.place block.need = is_free in absurd (cc)
      | asked asks whole keeps ↦
          record {
            rests = makes.0.after;
            depth = makes.1 ∙ at.depth;
            here = same-here c d class keeps ∙ at.here;
            all = same-all c d keeps ∙ at.all;
            hits_are = keeps.hits ∙ at.hits_are;
            counts = λ P gives fits.
                count-is P 0 (gives + 0) gives d.pass (omega arith)
                (counts-on P 0 gives 0 c.pass d.pass (read place need i) (reply.Word word) ended.read refl
                (λ added e. ap (count_by P) e) (called-of _ _ _ _ whole.0 (λ (e : reply.Word word ≡ reply.Spent). cc)) (at.counts P gives fits));
          }
    ]

-- the free lays the block on its magazine
free-stands :
    (h : HeapFields) (class hits : ℕ) (c d : Cache) (place : ℕ) (need : Need) → need ≡ Small class → Stands h class true 0 hits c
    → Makes h c (free place need) reply.Freed d → Stands h class true 1 hits d
free-stands h class hits c d place need small at makes =
    elim makes.0.made [
      | served words block is_alloc is_given has ↦ let e : free place need ≡ alloc words = is_alloc in absurd (cc)
      | kept block is_free is_freed held room has ↦
          let e : free place need ≡ free block.place block.need = is_free in
          let same : need ≡ block.need = cc in
          let k : Small class ≡ Small has.class = sym small ∙ (same ∙ has.small) in
          let is : class ≡ has.class = cc in
          let top : HasOnTop class block (stacks_in d) (stacks_in c) =
          subst (λ (j : ℕ). HasOnTop j block (stacks_in d) (stacks_in c)) (sym is) has.top in
          record {
            rests = makes.0.after;
            depth = makes.1 ∙ at.depth;
            here = omega (arith, top-here class block (stacks_in d) (stacks_in c) top, at.here);
            all = omega (arith, top-all class block (stacks_in d) (stacks_in c) top, at.all);
            hits_are = has.hits ∙ at.hits_are;
            counts = λ P gives fits. subst (Counts P 0 gives) (sym has.pass) (at.counts P gives fits);
          }
      | asked asks whole keeps ↦ absurd (asks.0 (class, small, omega (arith, at.here, at.depth)))
    ]

-- behind the allocation of a round
rest-stands :
    (h : HeapFields) (class hits : ℕ) (c1 c2 c3 d : Cache) (place word : ℕ) → need_of 3 ≡ Small class → Stands h class true 0 hits c1
    → Makes h c1 (write place (need_of 3) 1 word) reply.Wrote c2 → Makes h c2 (read place (need_of 3) 1) (reply.Word word) c3
    → Makes h c3 (free place (need_of 3)) reply.Freed d → Stands h class true 1 hits d
rest-stands h class hits c1 c2 c3 d place word small at m2 m3 m4 =
    let two = write-stands h class hits c1 c2 place (need_of 3) 1 word at m2 in
    let three = read-stands h class hits c2 c3 place (need_of 3) 1 word two m3 in
    free-stands h class hits c3 d place (need_of 3) small three m4

first-round :
    (h : HeapFields) (class word : ℕ) (c d : Cache) → need_of 3 ≡ Small class → Stands h class false 0 0 c → IsRound h c word d → Stands h class true 1 0 d
first-round h class word c d small at (place, made) =
    let (c1, m1, r1) = made in
    let (c2, m2, r2) = r1 in
    let (c3, m3, r3) = r2 in
    let (c4, m4, last) = r3 in
    subst (Stands h class true 1 0) (sym last)
    (rest-stands h class 0 c1 c2 c3 c4 place word small (first-alloc h class c c1 place (need_of 3) small at m1) m2 m3 m4)

later-round :
    (h : HeapFields) (class hits word : ℕ) (c d : Cache) → need_of 3 ≡ Small class → Stands h class true 1 hits c → IsRound h c word d
    → Stands h class true 1 (suc hits) d
later-round h class hits word c d small at (place, made) =
    let (c1, m1, r1) = made in
    let (c2, m2, r2) = r1 in
    let (c3, m3, r3) = r2 in
    let (c4, m4, last) = r3 in
    subst (Stands h class true 1 (suc hits)) (sym last)
    (rest-stands h class (suc hits) c1 c2 c3 c4 place word small (later-alloc h class hits c c1 place (need_of 3) small at m1) m2 m3 m4)

-- behind one round and so many more
pub rounds-stand :
    (h : HeapFields) (class more : ℕ) (c d : Cache) → need_of 3 ≡ Small class → Stands h class false 0 0 c → MakesRounds h c (suc more) d
    → Stands h class true 1 more d
rounds-stand h class zero c d small at (mid, none, round) = first-round h class 0 mid d small (subst (Stands h class false 0 0) (sym none) at) round
rounds-stand h class (suc more) c d small at (mid, rounds, round) =
    later-round h class more (suc more) mid d small (rounds-stand h class more c mid small at rounds) round

-- where one block leaves the magazines, one is freed
pub one-freed :
    (P : Event → Bool) (h : HeapFields) (p q : Pass) (blocks : List Block) (tries gives frees : ℕ) → length blocks ≡ 1
    → ((place : ℕ) → one P (Free 0 place) ≡ frees) → Frees h p blocks tries q → Counts P 0 gives p → Counts P 0 (gives + frees) q
one-freed P h p q [] tries gives frees single weighs freed_all had = absurd (omega (arith, single))
one-freed P h p q (block ∷ []) tries gives frees single weighs (next, of, tells, last) had =
    subst (Counts P 0 (gives + frees)) (sym last)
    (counts-on P 0 gives frees p next (free block.place block.need) reply.Freed (freed block.place) refl
    (λ added e. ap (count_by P) e ∙ weighs block.place) (tells.steps, tells.called) had)
one-freed P h p q (block ∷ other ∷ blocks) tries gives frees single weighs freed_all had = absurd (omega (arith, single))
