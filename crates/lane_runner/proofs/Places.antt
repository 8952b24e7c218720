-- The magazines of a cache, as the places of their blocks.
use Rattle.std.proofs.Common.{ℕ, zero, suc, true, false, ◌≡◌, ◌∷◌, ◌++◌, List, [], Some, None, length, map, replicate, refl, sym, ap, ◌∙◌, inl, inr, arith}
use Rattle.std.specs.Prelude.{reverse, slice_set}
use Rattle.std.specs.List.{flat_map}
use Rattle.std.proofs.lemmas.Bool.{cases_lt, le-ltb, lt-ltb}
use Rattle.std.proofs.lemmas.List.{get_or_at, length-map, length-reverse, map-append, reverse-append, set_at}
use Rattle.heap_geometry.specs.declared.need.Need.{Need}
use Rattle.heap_geometry.specs.declared.need.Need.TheVariants.{Small, Large, TooLarge}
use Rattle.heap_geometry.specs.Need.{need_of}
use Rattle.pool_model.specs.declared.event.Event.{Event}
use Rattle.pool_model.specs.declared.event.Event.TheVariants.{Free}
use Rattle.live_heap.specs.declared.block.Block.{Block}
use Rattle.live_heap.specs.Heaps.{HeapFields}
use Rattle.block_cache.specs.declared.cache.Cache.{Cache}
use Rattle.block_cache.specs.declared.magazines.Magazines.{Magazines}
use Rattle.block_cache.specs.Caches.{HasFor, HasKept, HasRoom, HasServed, IsCache, KeepsMagazines, cached_in, magazine_in, stacks_in}
use Rattle.block_cache.specs.Magazines.{HasOnTop, all_in, leaving, stack_at, stacks_of}
use Rattle.block_cache.proofs.MagazineLemmas.{length-stacks}
use Rattle.lane_outcomes.specs.Magazines.{emptying, empty_magazines, given_from, is_kept, kept_with, last_in, magazine_of, magazines_given, others_in, served_by}

-- the places of a stack's blocks, the last one first
abbrev pub places_on : List Block → List ℕ
places_on stack = map (λ (block : Block). block.place) (reverse stack)

abbrev pub places_of : List (List Block) → List (List ℕ)
places_of stacks = map places_on stacks

abbrev pub places_in : Cache → List (List ℕ)
places_in c = places_of (stacks_in c)

long-as : (stack : List Block) → length (places_on stack) ≡ length stack
long-as stack = length-map (reverse stack) (λ (block : Block). block.place) ∙ length-reverse stack

on-top : (stack : List Block) (block : Block) → places_on (stack ++ block ∷ []) ≡ block.place ∷ places_on stack
on-top stack block = ap (map (λ (b : Block). b.place)) (reverse-append stack (block ∷ []))

-- the magazine of a class
at-class : (stacks : List (List Block)) (class : ℕ) → magazine_of (places_of stacks) class ≡ places_on (stack_at stacks class)
at-class [] class = refl
at-class (stack ∷ stacks) zero = refl
at-class (stack ∷ stacks) (suc class) = at-class stacks class

-- a magazine with a block on its top, and without it
module _ (class : ℕ) (block : Block) (more less : List (List Block)) (top : HasOnTop class block more less) where
  abbrev front : List (List ℕ)
  front = places_of top.before

  abbrev back : List (List ℕ)
  back = places_of top.after

  front-long : length front ≡ class
  front-long = length-map top.before places_on ∙ top.number

  with-it : places_of more ≡ front ++ (block.place ∷ places_on top.stack) ∷ back
  with-it =
      ap places_of top.with_it ∙ map-append places_on top.before ((top.stack ++ block ∷ []) ∷ top.after)
      ∙ ap (λ (xs : List ℕ). front ++ xs ∷ back) (on-top top.stack block)

  without-it : places_of less ≡ front ++ places_on top.stack ∷ back
  without-it = ap places_of top.without_it ∙ map-append places_on top.before (top.stack ∷ top.after)

  has-it : magazine_of (places_of more) class ≡ block.place ∷ places_on top.stack
  has-it = ap (λ ms. magazine_of ms class) with-it ∙ get_or_at front (block.place ∷ places_on top.stack) back [] class front-long

  pub top-served : served_by (places_of more) (Small class) ≡ Some block.place
  top-served = ap last_in has-it

  pub top-given : places_of less ≡ given_from (Some block.place) (places_of more) (Small class)
  top-given =
      without-it ∙ sym (set_at front (block.place ∷ places_on top.stack) back (places_on top.stack) class front-long)
      ∙ ap (λ ms. slice_set ms class (places_on top.stack)) (sym with-it)
      ∙ ap (λ xs. slice_set (places_of more) class (others_in xs)) (sym has-it)

  pub top-kept : places_of more ≡ kept_with true (places_of less) block.place (Small class)
  top-kept =
      let was : magazine_of (places_of less) class ≡ places_on top.stack =
      ap (λ ms. magazine_of ms class) without-it ∙ get_or_at front (places_on top.stack) back [] class front-long in
      with-it ∙ sym (set_at front (places_on top.stack) back (block.place ∷ places_on top.stack) class front-long)
      ∙ ap (λ ms. slice_set ms class (block.place ∷ places_on top.stack)) (sym without-it)
      ∙ ap (λ (xs : List ℕ). slice_set (places_of less) class (block.place ∷ xs)) (sym was)

-- a magazine served an allocation
pub served-by : (c d : Cache) (words : ℕ) (block : Block) → HasServed c words block d → served_by (places_in c) (need_of words) ≡ Some block.place
served-by c d words block s =
    ap (served_by (places_in c)) s.small ∙ top-served s.class block (stacks_in c) (stacks_in d) s.top

pub served-given : (c d : Cache) (words : ℕ) (block : Block) → HasServed c words block d → places_in d ≡ magazines_given (places_in c) (need_of words)
served-given c d words block s =
    top-given s.class block (stacks_in c) (stacks_in d) s.top
    ∙ ap (λ served. given_from served (places_in c) (Small s.class)) (sym (top-served s.class block (stacks_in c) (stacks_in d) s.top))
    ∙ ap (magazines_given (places_in c)) (sym s.small)

-- no magazine had a block for an allocation
none-last : (xs : List ℕ) → length xs ≡ 0 → last_in xs ≡ None
none-last [] none = refl
none-last (x ∷ xs) none = absurd (omega (arith, none))

pub not-served : (c : Cache) (need : Need) → ¬ HasFor c need → served_by (places_in c) need ≡ None
not-served c (Small class) none =
    elim (cases_lt 0 (length (magazine_in c class))) [
      | inl has ↦ absurd (none (class, refl, has))
      | inr least ↦
          none-last (magazine_of (places_in c) class)
          (ap length (at-class (stacks_in c) class) ∙ long-as (magazine_in c class) ∙ omega (arith, least))
    ]
not-served c (Large units) none = refl
not-served c TooLarge none = refl

-- a magazine has room for a block, or has none
pub room-kept : (c : Cache) (need : Need) → HasRoom c need → is_kept c.magazines.depth (places_in c) need ≡ true
room-kept c need (class, small, room) =
    ap (is_kept c.magazines.depth (places_in c)) small
    ∙ lt-ltb (length (magazine_of (places_in c) class)) c.magazines.depth
    (let long : length (magazine_of (places_in c) class) ≡ length (magazine_in c class) =
    ap length (at-class (stacks_in c) class) ∙ long-as (magazine_in c class) in
    omega (arith, long, room))

pub not-kept : (c : Cache) (need : Need) → ¬ HasRoom c need → is_kept c.magazines.depth (places_in c) need ≡ false
not-kept c (Small class) none =
    elim (cases_lt (length (magazine_in c class)) c.magazines.depth) [
      | inl room ↦ absurd (none (class, refl, room))
      | inr least ↦
          le-ltb (length (magazine_of (places_in c) class)) c.magazines.depth
          (let long : length (magazine_of (places_in c) class) ≡ length (magazine_in c class) =
          ap length (at-class (stacks_in c) class) ∙ long-as (magazine_in c class) in
          omega (arith, long, least))
    ]
not-kept c (Large units) none = refl
not-kept c TooLarge none = refl

pub kept-freed : (c d : Cache) (block : Block) → HasKept c block d → places_in d ≡ kept_with true (places_in c) block.place block.need
kept-freed c d block k =
    top-kept k.class block (stacks_in d) (stacks_in c) k.top ∙ ap (kept_with true (places_in c) block.place) (sym k.small)

-- magazines that stay have their blocks at the same places
pub same-places : (c d : Cache) → KeepsMagazines c d → places_in d ≡ places_in c
same-places c d keeps = ap (λ (m : Magazines Block). places_of (stacks_of m.stacks.items)) keeps.magazines

-- magazines without a block have no places
abbrev nothing : List ℕ
nothing = []

none-of : (stacks : List (List Block)) → all_in stacks ≡ [] → places_of stacks ≡ replicate (length stacks) nothing
none-of [] none = refl
none-of ([] ∷ stacks) none = ap (λ xs. nothing ∷ xs) (none-of stacks none)
none-of ((block ∷ stack) ∷ stacks) none = absurd (cc)

pub no-places : (h : HeapFields) (c : Cache) → IsCache h c → cached_in c ≡ [] → places_in c ≡ empty_magazines
no-places h c is none =
    none-of (stacks_in c) none
    ∙ ap (λ n. replicate n nothing) (length-stacks c.magazines.stacks.items ∙ is.magazines.classes)

-- the places of the blocks that leave the magazines, as these are emptied
leaving-places : (stacks : List (List Block)) → flat_map (λ magazine. magazine) (places_of stacks) ≡ map (λ (block : Block). block.place) (leaving stacks)
leaving-places [] = refl
leaving-places (stack ∷ stacks) =
    ap (λ xs. places_on stack ++ xs) (leaving-places stacks)
    ∙ sym (map-append (λ (block : Block). block.place) (reverse stack) (leaving stacks))

-- the frees of these blocks
abbrev pub freed_of : ℕ → List Block → List Event
freed_of caller blocks = map (λ (block : Block). Free caller block.place) blocks

freed-places : (caller : ℕ) (blocks : List Block) → map (λ place. Free caller place) (map (λ (block : Block). block.place) blocks) ≡ freed_of caller blocks
freed-places caller [] = refl
freed-places caller (block ∷ blocks) = ap (λ xs. Free caller block.place ∷ xs) (freed-places caller blocks)

pub emptying-leaves : (caller : ℕ) (c : Cache) → freed_of caller (leaving (stacks_in c)) ≡ emptying caller (places_in c)
emptying-leaves caller c =
    sym (freed-places caller (leaving (stacks_in c))) ∙ ap (map (λ place. Free caller place)) (sym (leaving-places (stacks_in c)))
