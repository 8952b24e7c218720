-- Memory that is out with the pass of a paged cache.
use Rattle.std.proofs.Common.{ℕ, ◌≡◌, ◌≢◌, ◌+◌, ◌<◌, ◌≤◌, ◌⊎◌, List, [], ◌∷◌, length, refl, sym, ap, ◌∙◌, subst, arith, inl, inr, Result, Ok, Err}
use Rattle.std.specs.declared.alloc.AllocError.{AllocError}
use Rattle.std.specs.Prelude.{IfOk, false, is_err}
use Rattle.std.specs.Result.{IfErr}
use Rattle.std.proofs.lemmas.List.Elements.{All-nil}
use Rattle.std.proofs.lemmas.Option.{none-some}
use mathlib.Core.Option.{some-injective}
use lib.ListN.{get_elem?}
use Rattle.heap_geometry.specs.Need.{need_of, usable_words}
use Rattle.heap_geometry.specs.declared.limits.TheConstants.{LARGE_MOST}
use Rattle.pool_model.specs.Owned.{if_of}
use Rattle.pool_model.proofs.OwnedLemmas.{of-self}
use Rattle.errand_steps.specs.Begins.{IsBusy, IsIdle}
use Rattle.live_heap.specs.declared.answers.AllocAnswer.{AllocAnswer}
use Rattle.live_heap.specs.declared.answers.AllocAnswer.TheVariants as answer
use Rattle.live_heap.specs.declared.block.Block.{Block}
use Rattle.live_heap.specs.Heaps.{HeapFields}
use Rattle.live_heap.specs.declared.pass.Pass.{Pass}
use Rattle.live_heap.specs.declared.plain.Memory.{Memory}
use Rattle.live_heap.specs.declared.view.Lent.{Lent}
use Rattle.live_heap.specs.Holdings.{HoldsExactly}
use Rattle.live_heap.specs.Memory.{HasTaken, IsTaken}
use Rattle.live_heap.specs.Passes.{IsOf, view}
use Rattle.live_heap.proofs.laws_for_builders.Hands.{idle-not_busy}
use Rattle.live_heap.proofs.laws_for_builders.Memory.{owned-in_heap, taken-owned}
use Rattle.block_cache.specs.Magazines.{stacks_of}
use Rattle.block_cache.proofs.MagazineLemmas.{for-or-not, stack-few, top-here}
use Rattle.memory_cache.specs.declared.cache.MemoryCache.{MemoryCache}
use Rattle.memory_cache.specs.Asking.{TakeTells}
use Rattle.memory_cache.specs.Caches.{HasFor, HasRoom, HasServed, IsCache, IsHeld, KeepsMagazines, LieApart, kept_in, magazine_in, stacks_in}
use Rattle.memory_cache.specs.Paged.{HasGiven}
use Rattle.memory_cache.specs.Pages.{IsPageFor}
use Rattle.memory_cache.specs.Sizes.{page_words, piece_words}
use Rattle.memory_cache.proofs.PageSizes.{page-for, unit-place}
use Rattle.memory_cache.proofs.SettledLemmas.{pass-of}

-- of two blocks whose words are out at one place both serve the same need
pub taken-one : (h : HeapFields) (p : Pass) (a b : Memory) → IsOf h p → HasTaken p a → HasTaken p b → a.block.place ≡ b.block.place → a.block.need ≡ b.block.need
taken-one h p a b of x y same =
    let one : x.0 ≡ y.0 = of.once x.0 y.0 x.1 y.1 x.2 y.2 (x.3 ∙ same ∙ sym y.3) in
    let lent : x.1 ≡ y.1 = some-injective x.1 y.1 (sym x.2 ∙ ap (get_elem? (view p).lent) one ∙ y.2) in
    sym x.4 ∙ ap (λ (l : Lent). l.need) lent ∙ y.4

-- of a pass that holds nothing no words are out
pub nothing-taken : (h : HeapFields) (p : Pass) (m : Memory) → IsOf h p → HoldsExactly p [] → HasTaken p m → ⊥
nothing-taken h p m of exact taken =
    let owns = taken-owned h p m.block.place m.block.need of taken in
    none-some owns.0
    (sym (exact.1 m.block.place (All-nil (λ (b : Block). b.place ≢ m.block.place)))
    ∙ ap (if_of p.errand.caller) owns.1 ∙ of-self p.errand.caller owns.0 owns.2)

-- where words are out, and magazines are empty, somebody holds memory
lent-held : (h : HeapFields) (c : MemoryCache) (ls : List Lent) → IsOf h c.pass → (view c.pass).lent ≡ ls → 0 < length ls → kept_in c ≡ [] → (m : Memory) × IsHeld c m
lent-held h c [] of is more none = absurd (omega (arith, more))
lent-held h c (l ∷ ls) of is more none =
    let taken : IsTaken c.pass l.place l.need = (0, l, ap (λ (xs : List Lent). get_elem? xs 0) is, refl, refl) in
    let block = owned-in_heap h c.pass l.place l.need of (taken-owned h c.pass l.place l.need of taken) in
    let m : Memory = record {
      block = record { place = l.place; need = l.need; is_need = block.0 };
      words = record { mark = record {}; at = h.region.at; first = 0; places = [] };
    } in (
      m,
      (
        taken,
        subst (LieApart m) (sym none) (All-nil (λ (other : Memory). other.block.place ≢ m.block.place)),
      ),
    )

pub out-held : (h : HeapFields) (c : MemoryCache) → IsOf h c.pass → 0 < c.pass.out → kept_in c ≡ [] → (m : Memory) × IsHeld c m
out-held h c of more none = lent-held h c (view c.pass).lent of refl (omega (arith, more, of.counted)) none

-- memory that was given comes home: its magazine has room for it, or no call is under way
abbrev pub MayComeHome : MemoryCache → Memory → Type 0
MayComeHome c m = HasRoom c m.block.need ⊎ IsIdle c.pass.errand

pub may-come-home :
    (h : HeapFields) (c d : MemoryCache) (words tries : ℕ) (m : Memory) (told : AllocAnswer Memory) → told ≡ answer.Given m → IsCache h c
    → d.magazines.depth ≡ c.magazines.depth
    → (HasFor c (need_of words) → (memory : Memory) × (told ≡ answer.Given memory) × HasServed c words memory d)
    → ((¬ HasFor c (need_of words)) → TakeTells h c.pass words tries told d.pass) → MayComeHome d m
may-come-home h c d words tries m told is cache depth served asked =
    elim (for-or-not (stacks_in c) (need_of words)) [
      | inl has ↦
          let s = served has in
          let e = sym s.1 ∙ is in
          let same : s.0 ≡ m = cc in
          let t = s.2 in
          let was = stacks_of c.magazines.stacks.items in
          let most = stack-few (λ (x : Memory). x.block.need) 0 c.magazines.depth t.class c.magazines.stacks.items cache.magazines.each in
          let more : length (magazine_in c t.class) ≡ length (magazine_in d t.class) + 1 = top-here t.class s.0 was (stacks_of d.magazines.stacks.items) t.top in
          inl (t.class, ap (λ (x : Memory). x.block.need) (sym same) ∙ t.serves, omega (arith, most, more, depth))
      | inr none ↦
          let tells : TakeTells h c.pass words tries (answer.Given m) d.pass =
          subst (λ (a : AllocAnswer Memory). TakeTells h c.pass words tries a d.pass) is (asked none) in
          inr tells.tells.0.called.idle
    ]

-- so it isn't given back
pub comes-home :
    (c : MemoryCache) (m : Memory) (result : Result (Unit {0}) Memory) → MayComeHome c m → (HasRoom c m.block.need → IfErr result (λ _. ⊥))
    → IfErr result (λ _. IsBusy c.pass.errand) → IfErr result (λ _. ⊥)
comes-home c m (Ok done) may kept cause = tt
comes-home c m (Err back) may kept cause =
    elim may [
      | inl room ↦ kept room
      | inr idle ↦ idle-not_busy c.pass.errand idle cause
    ]

pub err-first : (r : Result (Unit {0}) Memory) (A B : Type 0) → IfErr r (λ back. A × B) → IfErr r (λ back. A)
err-first (Ok done) A B told = tt
err-first (Err back) A B told = told.0

-- a call that didn't fail has done what it says
pub not-err : (r : Result (Unit {0}) AllocError) (P : Type 0) → false ≡ is_err r → IfOk r (λ done. P) → P
not-err (Ok done) P is told = told
not-err (Err e) P is told = absurd (cc)

pub done-with : (r : Result (Unit {0}) Memory) (P : Type 0) → IfErr r (λ _. ⊥) → IfOk r (λ _. P) → P
done-with (Ok done) P none told = told
done-with (Err memory) P none told = absurd none

-- why none was given
pub tells-why :
    (heap h : HeapFields) (c q : MemoryCache) (words asked tries : ℕ) (result was : AllocAnswer Memory) → heap ≡ h → asked ≡ page_words words
    → asked ≤ LARGE_MOST → result ≡ was → ((m : Memory) → was ≡ answer.Given m → ⊥)
    → (HasFor c (need_of asked) → (memory : Memory) × (result ≡ answer.Given memory) × HasServed c asked memory q)
    → ((¬ HasFor c (need_of asked)) → asked ≤ LARGE_MOST → TakeTells heap c.pass asked tries result q.pass × KeepsMagazines c q)
    → TakeTells h c.pass (page_words words) tries was q.pass
tells-why heap h c q words asked tries result was at is large told other served asks =
    let none : ¬ HasFor c (need_of asked) = λ has. let s = served has in other s.0 (sym told ∙ s.1) in
    subst (λ (x : HeapFields). TakeTells x c.pass (page_words words) tries was q.pass) at
    (subst (λ n. TakeTells heap c.pass n tries was q.pass) is
    (subst (λ (a : AllocAnswer Memory). TakeTells heap c.pass asked tries a q.pass) told (asks none large).0))

-- how it was given
pub tells-given :
    (heap h : HeapFields) (c q : MemoryCache) (words asked tries : ℕ) (m : Memory) (result : AllocAnswer Memory) → heap ≡ h → asked ≡ page_words words
    → asked ≤ LARGE_MOST → result ≡ answer.Given m
    → (HasFor c (need_of asked) → (memory : Memory) × (result ≡ answer.Given memory) × HasServed c asked memory q)
    → ((¬ HasFor c (need_of asked)) → asked ≤ LARGE_MOST → TakeTells heap c.pass asked tries result q.pass × KeepsMagazines c q)
    → HasGiven h c (page_words words) tries m q
tells-given heap h c q words asked tries m result at is large told served asks =
    subst (λ (x : HeapFields). HasGiven x c (page_words words) tries m q) at
    (subst (λ n. HasGiven heap c n tries m q) is
    (record {
      served = λ has.
          let s = served has in
          let e = sym s.1 ∙ told in
          let same : s.0 ≡ m = cc in
          subst (λ (x : Memory). HasServed c asked x q) same s.2;
      asked = λ none.
          let a = asks none large in
          (subst (λ (r : AllocAnswer Memory). TakeTells heap c.pass asked tries r q.pass) told a.0, a.1);
    }))

-- memory that was taken for a page
pub may-cut :
    (h : HeapFields) (q : MemoryCache) (memory : Memory) (words asked size : ℕ) → IsCache h q → IsHeld q memory → asked ≡ page_words words
    → size ≡ piece_words words → memory.block.need ≡ need_of asked → asked ≤ usable_words memory.block.need → 0 < size
    → IsPageFor size memory.block.place memory.block.need
may-cut h q memory words asked size cache held is sized need enough some =
    let place = memory.block.place in
    let of = pass-of h q.pass cache.pass in
    let large : page_words words ≤ usable_words memory.block.need = subst (λ n. n ≤ usable_words memory.block.need) is enough in
    subst (λ s. IsPageFor s place memory.block.need) (sym sized)
    (page-for words place memory.block.need (subst (λ n. 0 < n) sized some) (need ∙ ap need_of is) large
    (unit-place q.pass.errand.geometry place memory.block.need
    (owned-in_heap h q.pass place memory.block.need of (taken-owned h q.pass place memory.block.need of held.0)) (omega (arith, large))))
