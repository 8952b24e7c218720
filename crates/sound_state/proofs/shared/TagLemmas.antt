-- Tags stay below their ends: what the events and the turns allow.
use Rattle.std.proofs.Common.{ℕ, false, cond, ◌≡◌, ◌<◌, ◌≤◌, ◌+◌, ◌*◌, ◌^◌, List, [], ◌∷◌, ◌++◌, Some, refl, sym, ◌∙◌, ap, arith, eq-eqb, ne_eqb, inl, inr, true≢false}
use Rattle.std.proofs.Common.{sum_by, count_by, nat_le, le-leb}
use Rattle.std.proofs.lemmas.Bool.{cases_eq, cases_lt, lt-leb, cond_both}
use Rattle.std.proofs.lemmas.Nat.{mul-le}
use Rattle.std.proofs.lemmas.List.Sums.{sum_by-cons}
use Rattle.sound_state.proofs.Common.{Geometry, CLASSES, Need, Small, IsChecked, need_of, frame_of, head_of, descriptor_count, Event, block_at, pool_of}
use Rattle.sound_state.proofs.Common.{IsLegalWithoutCounts, State, Lists, IsSoundWith, IsSoundWithoutCounts, sum_below, callers_sum, anchor_for, gives_small, SMALL_MOST}
use Rattle.sound_state.proofs.Common.{TAG_BITS, Caller, Write, Put, Take, caller_of, Pool, fresh_block, handed_to, pool_after, IsFree, IsAllowed, IsLegalEventWithoutCounts}
use Rattle.sound_state.proofs.Common.{block_at-past, pool_of-push, is_small_alloc, is_small_free, turn_unframed, turns_of, cleared_of}
use Rattle.heap_geometry.specs.declared.limits.TheConstants.{MAX_CALLERS, MAX_TURNS}
use Rattle.word_table.specs.declared.name.WordName.TheVariants as name
use Rattle.pool_model.specs.declared.owner.Owner.TheVariants.{Shelf}
use Rattle.pool_model.specs.declared.event.Event.TheVariants.{Alloc, Free}
use Rattle.pool_model.specs.Pool.{Block, written, without, with_changed}
use Rattle.pool_model.proofs.HistoryLemmas.{kept}
use Rattle.sound_state.proofs.shared.SumLemmas.{sum-same, sum-plus, sum-most, sum-least, term-sum}
use Rattle.sound_state.proofs.shared.TurnEffects.{counted-one, small-served}

-- each small allocation is given to one of the heap's callers
alloc-given : (g : Geometry) (event : Event) → caller_of event < g.callers
    → cond (is_small_alloc event) 1 0 ≤ sum_below g.callers (λ caller. cond (gives_small caller event) 1 0)
alloc-given g (Alloc by need place) has =
    let own : cond (gives_small by (Alloc by need place)) 1 0 ≤ sum_below g.callers (λ caller. cond (gives_small caller (Alloc by need place)) 1 0) =
    term-sum g.callers (λ caller. cond (gives_small caller (Alloc by need place)) 1 0) by has in
    grind (arith, own)
alloc-given g event has = omega arith

-- all small allocations are at most those given to each caller together
small-given : (g : Geometry) (history : List Event) → IsLegalWithoutCounts g history
    → count_by is_small_alloc history ≤ sum_below g.callers (λ caller. count_by (gives_small caller) history)
small-given g history legal =
    kept (IsLegalEventWithoutCounts g) (λ h. count_by is_small_alloc h ≤ sum_below g.callers (λ caller. count_by (gives_small caller) h)) history
    (λ before event h so_far.
    let given = λ (caller : ℕ). count_by (gives_small caller) before in
    let new = λ (caller : ℕ). cond {A = ℕ} (gives_small caller event) 1 0 in
    omega (
      arith,
      so_far,
      counted-one is_small_alloc event before (before ++ event ∷ []) refl,
      sum-same g.callers (λ caller. given caller + new caller) (λ caller. count_by (gives_small caller) (before ++ event ∷ []))
          (λ caller has. counted-one (gives_small caller) event before (before ++ event ∷ []) refl),
      sum-plus g.callers given new,
      alloc-given g event h.0,
    )) legal (omega arith)

-- 1 where the block lies in one of the heap's frames
abbrev framed : Geometry → Block → ℕ
framed g block = cond (nat_le (frame_of block.place + 1) g.frames) 1 0

framed-without : (g : Geometry) (place : ℕ) (pool : Pool) (block : Block) → block_at place pool ≡ Some block
    → sum_by (framed g) (without place pool) + cond (nat_le (frame_of place + 1) g.frames) 1 0 ≡ sum_by (framed g) pool
framed-without g place [] block found = absurd (cc)
framed-without g place (first ∷ pool) block found =
    let all = sum_by-cons (framed g) first pool in
    elim (cases_eq first.place place) [
      | inl here ↦ rw (eq-eqb first.place place here) (omega (arith, all, ap (λ p. cond {A = ℕ} (nat_le (frame_of p + 1) g.frames) 1 0) here))
      | inr past ↦
          let rest = framed-without g place pool block (sym (block_at-past place first pool past) ∙ found) in
          rw (ne_eqb first.place place past) (omega (arith, all, rest, sum_by-cons (framed g) first (without place pool)))
    ]

framed-changed : (g : Geometry) (place : ℕ) (change : Block → Block) (pool : Pool)
    → ((block : Block) → (change block).place ≡ block.place) → sum_by (framed g) (with_changed place change pool) ≡ sum_by (framed g) pool
framed-changed g place change [] keeps = refl
framed-changed g place change (first ∷ pool) keeps =
    let all = sum_by-cons (framed g) first pool in
    elim (cases_eq first.place place) [
      | inl here ↦
          let same = ap (λ p. cond {A = ℕ} (nat_le (frame_of p + 1) g.frames) 1 0) (keeps first) in
          rw (eq-eqb first.place place here) (omega (arith, all, same, sum_by-cons (framed g) (change first) pool))
      | inr past ↦
          let rest = framed-changed g place change pool keeps in
          rw (ne_eqb first.place place past) (omega (arith, all, rest, sum_by-cons (framed g) first (with_changed place change pool)))
    ]

-- a need that isn't small isn't served by a small block
large-need : (need class : ℕ) → SMALL_MOST < need → need_of need ≡ Small class → ⊥
large-need need class above is = true≢false (sym (small-served need class is) ∙ lt-leb need SMALL_MOST above)

-- a block given for a need that isn't small lies in no frame
given-framed : (g : Geometry) (pool : Pool) (need place : ℕ) (n : Need) → need_of need ≡ n → IsFree g pool n place → SMALL_MOST < need
    → nat_le (frame_of place + 1) g.frames ≡ false
given-framed g pool need place n is free above = grind (arith, is, free, above, large-need)

framed-given : (g : Geometry) (pool : Pool) (need place : ℕ) → IsFree g pool (need_of need) place
    → cond (nat_le (frame_of place + 1) g.frames) 1 0 ≤ cond (nat_le need SMALL_MOST) 1 0
framed-given g pool need place free =
    elim (cases_lt SMALL_MOST need) [
      | inl above ↦ rw (lt-leb need SMALL_MOST above, given-framed g pool need place (need_of need) refl free above) (omega arith)
      | inr most ↦ rw (le-leb need SMALL_MOST most) (cond_both (nat_le (frame_of place + 1) g.frames) 1 0 (λ n. n ≤ 1) (λ e. omega arith) (λ e. omega arith))
    ]

framings-after : (g : Geometry) (before : List Event) (event : Event) → IsAllowed g before event
    → sum_by (framed g) (pool_after (pool_of before) event) + cond (is_small_free g event) 1 0
    ≤ sum_by (framed g) (pool_of before) + cond (is_small_alloc event) 1 0
framings-after g before (Alloc caller need place) allowed =
    let all : sum_by (framed g) (fresh_block caller need place ∷ pool_of before) ≡ framed g (fresh_block caller need place) + sum_by (framed g) (pool_of before) =
    sum_by-cons (framed g) (fresh_block caller need place) (pool_of before) in
    let one : cond (nat_le (frame_of place + 1) g.frames) 1 0 ≤ cond (nat_le need SMALL_MOST) 1 0 = framed-given g (pool_of before) need place allowed in
    omega arith
framings-after g before (Free caller place) allowed = omega (arith, framed-without g place (pool_of before) allowed.0 allowed.1)
framings-after g before (Write caller place i v) allowed = omega (arith, framed-changed g place (written i v) (pool_of before) (λ b. refl))
framings-after g before (Put caller place shelf) allowed = omega (arith, framed-changed g place (handed_to (Shelf shelf)) (pool_of before) (λ b. refl))
framings-after g before (Take caller shelf place) allowed = omega (arith, framed-changed g place (handed_to (Caller caller)) (pool_of before) (λ b. refl))
framings-after g before event allowed = omega arith

-- no more small blocks are freed than given
pub small-freed : (g : Geometry) (history : List Event) → IsLegalWithoutCounts g history
    → sum_by (framed g) (pool_of history) + count_by (is_small_free g) history ≤ count_by is_small_alloc history
small-freed g history legal =
    kept (IsLegalEventWithoutCounts g)
    (λ h. sum_by (framed g) (pool_of h) + count_by (is_small_free g) h ≤ count_by is_small_alloc h) history
    (λ before event h so_far.
    omega (
      arith,
      so_far,
      framings-after g before event h.1,
      counted-one (is_small_free g) event before (before ++ event ∷ []) refl,
      counted-one is_small_alloc event before (before ++ event ∷ []) refl,
      ap (sum_by (framed g)) (pool_of-push before event),
    )) legal (omega arith)

-- all turns are at most the most callers times the most turns
pub turns-most : (g : Geometry) (s : State) (l : Lists) → IsChecked g → IsSoundWith g s l → callers_sum g turns_of s.errand ≤ MAX_CALLERS * MAX_TURNS
unfolding callers_sum
turns-most g s l checked sound =
    let own : sum_below g.callers (λ caller. turns_of (s.errand caller)) ≤ g.callers * g.turn_limit =
    sum-most g.callers (λ caller. turns_of (s.errand caller)) g.turn_limit
    (λ caller has.
    let limit : (s.errand caller).geometry.turn_limit ≡ g.turn_limit = ap (λ (o : Geometry). o.turn_limit) (sound.formed.errands caller has).geometry in
    omega (arith, (sound.formed.errands caller has).rule.turns)) in
    omega (arith, mul-le g.callers g.turn_limit MAX_CALLERS MAX_TURNS checked.callers.1 checked.turn_limit.1)

-- no more small blocks are given than turns begun
pub given-most : (g : Geometry) (s : State) (l : Lists) → IsLegalWithoutCounts g s.history → IsSoundWith g s l
    → count_by is_small_alloc s.history ≤ callers_sum g turns_of s.errand
unfolding callers_sum
given-most g s l legal sound =
    let each : sum_below g.callers (λ caller. count_by (gives_small caller) s.history) ≤ sum_below g.callers (λ caller. turns_of (s.errand caller)) =
    sum-least g.callers (λ caller. count_by (gives_small caller) s.history) (λ caller. turns_of (s.errand caller))
    (λ caller has. omega (arith, sound.turned.own_turns caller has)) in
    omega (arith, small-given g s.history legal)

-- all turns together are far from the end of an anchor's tag, and no more small blocks are given, nor freed
pub turns-below : (g : Geometry) (s : State) → IsSoundWithoutCounts g s → callers_sum g turns_of s.errand + 1 < 2 ^ TAG_BITS
turns-below g s sound = omega (arith, turns-most g s sound.parts.0 sound.checked sound.parts.1)

given-below : (g : Geometry) (s : State) → IsSoundWithoutCounts g s → count_by is_small_alloc s.history + 1 < 2 ^ TAG_BITS
given-below g s sound = omega (arith, given-most g s sound.parts.0 sound.legal sound.parts.1, turns-below g s sound)

freed-below : (g : Geometry) (s : State) → IsSoundWithoutCounts g s → count_by (is_small_free g) s.history + 1 < 2 ^ TAG_BITS
freed-below g s sound = omega (arith, small-freed g s.history sound.legal, given-below g s sound)

pub anchor-tags-below : (g : Geometry) (s : State) → IsSoundWithoutCounts g s → (d : ℕ) → d < descriptor_count g → (anchor_for s d).tag + 1 < 2 ^ TAG_BITS
anchor-tags-below g s sound d has = omega (arith, sound.parts.1.turned.anchor_tags d has, given-below g s sound)

pub frame-tag-below : (g : Geometry) (s : State) → IsSoundWithoutCounts g s → (head_of (s.word name.FrameHead)).tag + 1 < 2 ^ TAG_BITS
frame-tag-below g s sound = omega (arith, sound.parts.1.turned.frame_tag, turns-below g s sound)

pub list-tags-below :
    (g : Geometry) (s : State) → IsSoundWithoutCounts g s → (class : ℕ) → class < CLASSES
    → (head_of (s.word (name.ListHead class))).tag + 1 < 4 * 2 ^ TAG_BITS
list-tags-below g s sound class has =
    let turned = sound.parts.1.turned in omega (arith, turned.list_tags class has, turned.emptied, freed-below g s sound, turns-below g s sound)

-- an anchor's tag is at most the small blocks that were given
pub anchor-tags-counted :
    (g : Geometry) (s : State) → IsSoundWithoutCounts g s → (d : ℕ) → d < descriptor_count g → (anchor_for s d).tag ≤ count_by is_small_alloc s.history
anchor-tags-counted g s sound d has = sound.parts.1.turned.anchor_tags d has

-- the frames' stack is popped at most once in a turn
pub frame-tag-counted :
    (g : Geometry) (s : State) → IsSoundWithoutCounts g s
    → (head_of (s.word name.FrameHead)).tag + callers_sum g turn_unframed s.errand ≤ callers_sum g turns_of s.errand
frame-tag-counted g s sound = sound.parts.1.turned.frame_tag

-- a class's list is popped at most once in a turn, and three times for a small block that is freed
pub list-tags-counted :
    (g : Geometry) (s : State) → IsSoundWithoutCounts g s → (class : ℕ) → class < CLASSES
    → (head_of (s.word (name.ListHead class))).tag ≤ callers_sum g turns_of s.errand + 3 * count_by (is_small_free g) s.history
list-tags-counted g s sound class has = omega (arith, sound.parts.1.turned.list_tags class has, sound.parts.1.turned.emptied)

-- a caller's cleared count is far from its end
pub cleared-below : (g : Geometry) (s : State) → IsSoundWithoutCounts g s → (caller : ℕ) → caller < g.callers → (s.errand caller).cleared + 1 < 2 ^ 64
unfolding callers_sum
cleared-below g s sound caller has =
    omega (
      arith,
      term-sum g.callers (λ i. cleared_of (s.errand i)) caller has,
      sound.parts.1.turned.emptied,
      freed-below g s sound,
    )
