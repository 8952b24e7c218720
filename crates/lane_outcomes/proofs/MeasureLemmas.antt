-- What is live, by what was given and what was freed.
use Rattle.std.proofs.Common.{ℕ, ◌≡◌, ◌+◌, List, [], ◌∷◌, ◌++◌, Option, Some, None, length, refl, sym, ◌∙◌, ap, ⊎_elim, arith, eq-eqb, ne_eqb}
use Rattle.std.proofs.lemmas.Bool.{cases_eq}
use Rattle.std.proofs.lemmas.List.Sums.{sum_by-cons}
use Rattle.heap_geometry.specs.declared.geometry.Geometry.{Geometry}
use Rattle.heap_geometry.specs.Need.{need_of, usable_words}
use Rattle.pool_model.specs.declared.owner.Owner.TheVariants.{Caller, Shelf}
use Rattle.pool_model.specs.declared.event.Event.{Event}
use Rattle.pool_model.specs.declared.event.Event.TheVariants.{Alloc, Free, Write, Put, Take}
use Rattle.pool_model.specs.Pool.{Block, Pool, block_at, written, handed_to, without, with_changed, pool_after, pool_of, live_words}
use Rattle.pool_model.specs.Legal.{IsAllowed, IsLegalEventWithoutCounts, IsLegalWithoutCounts}
use Rattle.pool_model.proofs.PoolLemmas.{block_at-here, block_at-past}
use Rattle.pool_model.proofs.HistoryLemmas.{kept, pool_of-push}
use Rattle.lane_outcomes.proofs.TallyLemmas.{tally, tally-append}

-- what an event gives, a block of so many words counting as `f` says
abbrev pub give_at : (ℕ → ℕ) → Pool → Event → ℕ
give_at f pool (Alloc caller need place) = f (usable_words (need_of need))
give_at f pool event = 0

-- what a block counts, where there is one
abbrev pub block_with : (ℕ → ℕ) → Option Block → ℕ
block_with f None = 0
block_with f (Some block) = f (usable_words block.need)

-- what an event frees
abbrev pub free_at : (ℕ → ℕ) → Pool → Event → ℕ
free_at f pool (Free caller place) = block_with f (block_at place pool)
free_at f pool event = 0

-- what all live blocks count
abbrev pub measure : (ℕ → ℕ) → Pool → ℕ
measure f [] = 0
measure f (block ∷ pool) = f (usable_words block.need) + measure f pool

measure-without :
    (f : ℕ → ℕ) (place : ℕ) (pool : Pool) (block : Block) → block_at place pool ≡ Some block
    → measure f (without place pool) + f (usable_words block.need) ≡ measure f pool
measure-without f place [] block found = absurd (cc)
measure-without f place (first ∷ pool) block found =
    ⊎_elim
    (λ here.
    let same : first ≡ block = let e : block_at place (first ∷ pool) ≡ Some first = block_at-here place first pool here in cc in
    let words : f (usable_words first.need) ≡ f (usable_words block.need) = ap (λ (b : Block). f (usable_words b.need)) same in
    rw (eq-eqb first.place place here) (omega arith))
    (λ past.
    let rest = measure-without f place pool block (sym (block_at-past place first pool past) ∙ found) in
    rw (ne_eqb first.place place past) (omega arith))
    (cases_eq first.place place)

measure-changed :
    (f : ℕ → ℕ) (place : ℕ) (change : Block → Block) (pool : Pool) → ((block : Block) → (change block).need ≡ block.need)
    → measure f (with_changed place change pool) ≡ measure f pool
measure-changed f place change [] keeps = refl
measure-changed f place change (first ∷ pool) keeps =
    ⊎_elim
    (λ here. rw (eq-eqb first.place place here) (ap (λ need. f (usable_words need) + measure f pool) (keeps first)))
    (λ past. rw (ne_eqb first.place place past) (ap (λ n. f (usable_words first.need) + n) (measure-changed f place change pool keeps)))
    (cases_eq first.place place)

-- an event changes what is live by what it gives and what it frees
measure-after :
    (f : ℕ → ℕ) (g : Geometry) (before : List Event) (event : Event) → IsAllowed g before event
    → measure f (pool_after (pool_of before) event) + free_at f (pool_of before) event ≡ measure f (pool_of before) + give_at f (pool_of before) event
measure-after f g before (Alloc caller need place) allowed = omega arith
measure-after f g before (Free caller place) allowed =
    rw allowed.1 (omega (arith, measure-without f place (pool_of before) allowed.0 allowed.1))
measure-after f g before (Write caller place i v) allowed = omega (arith, measure-changed f place (written i v) (pool_of before) (λ b. refl))
measure-after f g before (Put caller place shelf) allowed = omega (arith, measure-changed f place (handed_to (Shelf shelf)) (pool_of before) (λ b. refl))
measure-after f g before (Take caller shelf place) allowed = omega (arith, measure-changed f place (handed_to (Caller caller)) (pool_of before) (λ b. refl))
measure-after f g before event allowed = refl

-- what is live and what was freed are together what was given
pub measured :
    (f : ℕ → ℕ) (g : Geometry) (history : List Event) → IsLegalWithoutCounts g history
    → measure f (pool_of history) + tally (free_at f) [] history ≡ tally (give_at f) [] history
measured f g history legal =
    kept (IsLegalEventWithoutCounts g) (λ h. measure f (pool_of h) + tally (free_at f) [] h ≡ tally (give_at f) [] h) history
    (λ before event h so_far.
    let after = measure-after f g before event h.1 in
    let frees = tally-append (free_at f) [] before (event ∷ []) in
    let gives = tally-append (give_at f) [] before (event ∷ []) in
    let pool : measure f (pool_of (before ++ event ∷ [])) ≡ measure f (pool_after (pool_of before) event) = ap (measure f) (pool_of-push before event) in
    omega (arith, after, frees, gives, pool, so_far)) legal refl

-- each block counts as one, or as its words
pub measure-blocks : (pool : Pool) → measure (λ words. 1) pool ≡ length pool
measure-blocks [] = refl
measure-blocks (block ∷ pool) = omega (arith, measure-blocks pool)

pub measure-words : (pool : Pool) → measure (λ words. words) pool ≡ live_words pool
measure-words [] = refl
measure-words (block ∷ pool) =
    ap (λ n. usable_words block.need + n) (measure-words pool) ∙ sym (sum_by-cons (λ (b : Block). usable_words b.need) block pool)
