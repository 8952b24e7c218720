-- How many blocks and words are live.
use Rattle.std.proofs.Common.{ℕ, suc, false, cond, ◌≡◌, ◌+◌, List, [], ◌∷◌, ◌++◌, Some, length, refl, sym, ◌∙◌, ap, ⊎_elim, arith, eq-eqb, ne_eqb}
use Rattle.std.specs.Prelude.{sum_by, count_by}
use Rattle.std.proofs.lemmas.Bool.{cases_eq}
use Rattle.std.proofs.lemmas.List.Sums.{sum_by-cons, sum_by_push}
use Rattle.heap_geometry.specs.declared.geometry.Geometry.{Geometry}
use Rattle.heap_geometry.specs.Need.{need_of, usable_words}
use Rattle.pool_model.specs.declared.owner.Owner.TheVariants.{Caller, Shelf}
use Rattle.pool_model.specs.declared.event.Event.{Event}
use Rattle.pool_model.specs.declared.event.Event.TheVariants.{Alloc, Looked, Refuse, Free, Write, Put, Take, TakeNone}
use Rattle.pool_model.specs.Counts.{is_alloc, is_free}
use Rattle.pool_model.specs.Pool.{Block, Pool, block_at, fresh_block, written, handed_to, without, with_changed, pool_after, pool_of, live_words}
use Rattle.pool_model.specs.Legal.{IsAllowed, IsLegalEventWithoutCounts, IsLegalWithoutCounts}
use Rattle.pool_model.proofs.PoolLemmas.{block_at-here, block_at-past}
use Rattle.pool_model.proofs.HistoryLemmas.{kept, pool_of-push}

abbrev words_of : Block → ℕ
words_of block = usable_words block.need

pub length-without : (place : ℕ) (pool : Pool) (block : Block) → block_at place pool ≡ Some block → length (without place pool) + 1 ≡ length pool
length-without place [] block found = absurd (cc)
length-without place (first ∷ pool) block found =
    ⊎_elim (λ here. rw (eq-eqb first.place place here) (omega arith))
    (λ past. rw (ne_eqb first.place place past)
    (omega (arith, length-without place pool block (sym (block_at-past place first pool past) ∙ found))))
    (cases_eq first.place place)

pub live_words-without :
    (place : ℕ) (pool : Pool) (block : Block) → block_at place pool ≡ Some block
    → live_words (without place pool) + usable_words block.need ≡ live_words pool
live_words-without place [] block found = absurd (cc)
live_words-without place (first ∷ pool) block found =
    ⊎_elim
    (λ here.
    let same : first ≡ block = let e : block_at place (first ∷ pool) ≡ Some first = block_at-here place first pool here in cc in
    let words : words_of first ≡ words_of block = ap words_of same in
    let all : sum_by words_of (first ∷ pool) ≡ words_of first + sum_by words_of pool = sum_by-cons words_of first pool in
    rw (eq-eqb first.place place here) (omega arith))
    (λ past.
    let rest : sum_by words_of (without place pool) + words_of block ≡ sum_by words_of pool =
    live_words-without place pool block (sym (block_at-past place first pool past) ∙ found) in
    let all : sum_by words_of (first ∷ pool) ≡ words_of first + sum_by words_of pool = sum_by-cons words_of first pool in
    let left : sum_by words_of (first ∷ without place pool) ≡ words_of first + sum_by words_of (without place pool) =
    sum_by-cons words_of first (without place pool) in
    rw (ne_eqb first.place place past) (omega arith))
    (cases_eq first.place place)

pub length-changed : (place : ℕ) (change : Block → Block) (pool : Pool) → length (with_changed place change pool) ≡ length pool
length-changed place change [] = refl
length-changed place change (first ∷ pool) =
    ⊎_elim (λ here. rw (eq-eqb first.place place here) refl)
    (λ past. rw (ne_eqb first.place place past) (ap suc (length-changed place change pool))) (cases_eq first.place place)

pub live_words-changed :
    (place : ℕ) (change : Block → Block) (pool : Pool) → ((block : Block) → usable_words (change block).need ≡ usable_words block.need)
    → live_words (with_changed place change pool) ≡ live_words pool
live_words-changed place change [] keeps = refl
live_words-changed place change (first ∷ pool) keeps =
    let all : sum_by words_of (first ∷ pool) ≡ words_of first + sum_by words_of pool = sum_by-cons words_of first pool in
    ⊎_elim
    (λ here.
    let changed : sum_by words_of (change first ∷ pool) ≡ words_of (change first) + sum_by words_of pool =
    sum_by-cons words_of (change first) pool in
    let same : words_of (change first) ≡ words_of first = keeps first in rw (eq-eqb first.place place here) (omega arith))
    (λ past.
    let rest : sum_by words_of (with_changed place change pool) ≡ sum_by words_of pool = live_words-changed place change pool keeps in
    let left : sum_by words_of (first ∷ with_changed place change pool) ≡ words_of first + sum_by words_of (with_changed place change pool) =
    sum_by-cons words_of first (with_changed place change pool) in
    rw (ne_eqb first.place place past) (omega arith))
    (cases_eq first.place place)

-- every event but a free and an allocation leaves the number of live blocks and that of their words
pub live_words-still : (pool : Pool) (event : Event) → is_alloc event ≡ false → is_free event ≡ false → live_words (pool_after pool event) ≡ live_words pool
live_words-still pool (Alloc caller need place) no_alloc no_free = absurd (cc)
live_words-still pool (Looked caller class) no_alloc no_free = refl
live_words-still pool (Refuse caller need) no_alloc no_free = refl
live_words-still pool (Free caller place) no_alloc no_free = absurd (cc)
live_words-still pool (Write caller place i v) no_alloc no_free = live_words-changed place (written i v) pool (λ b. refl)
live_words-still pool (Put caller place shelf) no_alloc no_free = live_words-changed place (handed_to (Shelf shelf)) pool (λ b. refl)
live_words-still pool (Take caller shelf place) no_alloc no_free = live_words-changed place (handed_to (Caller caller)) pool (λ b. refl)
live_words-still pool (TakeNone caller shelf) no_alloc no_free = refl

pub live_words-alloc :
    (pool : Pool) (caller need place : ℕ)
    → live_words (pool_after pool (Alloc caller need place)) ≡ live_words pool + usable_words (need_of need)
live_words-alloc pool caller need place =
    let all : sum_by words_of (fresh_block caller need place ∷ pool) ≡ usable_words (need_of need) + sum_by words_of pool =
    sum_by-cons words_of (fresh_block caller need place) pool in
    omega arith

pub length-after :
    (g : Geometry) (before : List Event) (event : Event) → IsAllowed g before event
    → length (pool_after (pool_of before) event) + cond (is_free event) 1 0 ≡ length (pool_of before) + cond (is_alloc event) 1 0
length-after g before (Alloc caller need place) allowed = omega arith
length-after g before (Looked caller class) allowed = refl
length-after g before (Refuse caller need) allowed = refl
length-after g before (Free caller place) allowed = omega (arith, length-without place (pool_of before) allowed.0 allowed.1)
length-after g before (Write caller place i v) allowed = omega (arith, length-changed place (written i v) (pool_of before))
length-after g before (Put caller place shelf) allowed = omega (arith, length-changed place (handed_to (Shelf shelf)) (pool_of before))
length-after g before (Take caller shelf place) allowed = omega (arith, length-changed place (handed_to (Caller caller)) (pool_of before))
length-after g before (TakeNone caller shelf) allowed = refl

pub length-live :
    (g : Geometry) (history : List Event) → IsLegalWithoutCounts g history
    → length (pool_of history) + count_by is_free history ≡ count_by is_alloc history
length-live g history legal =
    kept (IsLegalEventWithoutCounts g) (λ h. length (pool_of h) + count_by is_free h ≡ count_by is_alloc h) history
    (λ before event h so_far.
    let after = length-after g before event h.1 in
    let frees : count_by is_free (before ++ event ∷ []) ≡ count_by is_free before + cond (is_free event) 1 0 =
    sum_by_push (λ e. cond (is_free e) 1 0) before event in
    let allocs : count_by is_alloc (before ++ event ∷ []) ≡ count_by is_alloc before + cond (is_alloc event) 1 0 =
    sum_by_push (λ e. cond (is_alloc e) 1 0) before event in
    let pool : length (pool_of (before ++ event ∷ [])) ≡ length (pool_after (pool_of before) event) = ap (length {A = Block}) (pool_of-push before event) in
    omega arith) legal refl
