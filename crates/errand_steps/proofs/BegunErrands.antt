-- An errand that begins a call keeps its rule.
use Rattle.std.proofs.Common.{ℕ, true, ◌≡◌, ◌<◌, ◌≤◌, ◌+◌, refl, arith, ap, sym, subst, ◌∙◌, ◌^◌}
use Rattle.std.specs.Prelude.{IfSome, Contains, None}
use Rattle.std.proofs.lemmas.Bool.{cond_both}
use Rattle.heap_geometry.specs.declared.geometry.Geometry.{Geometry}
use Rattle.heap_geometry.specs.declared.limits.TheConstants.{CLASSES, SHELVES}
use Rattle.heap_geometry.specs.declared.need.Need.{Need}
use Rattle.heap_geometry.specs.declared.need.Need.TheVariants.{Small, Large, TooLarge}
use Rattle.heap_geometry.specs.Geometry.{IsChecked}
use Rattle.heap_geometry.specs.Need.{IsNeed, need_of, usable_words}
use Rattle.heap_geometry.specs.Place.{unit_place, unit_of}
use Rattle.heap_geometry.proofs.PlaceLemmas.{block-within, unit_of-unit_place}
use Rattle.packed_words.specs.declared.shelf.ShelfWord.TheVariants as shelf
use Rattle.packed_words.specs.Shelf.{IsShelfWord}
use Rattle.word_table.specs.Counts.{arena_words}
use Rattle.pool_model.proofs.NeedOfLemmas.{need_of-within}
use Rattle.errand_steps.specs.declared.point.Point.{Point}
use Rattle.errand_steps.specs.declared.point.Point.TheVariants.{Idle}
use Rattle.errand_steps.specs.Begins.{IsIdle, IsHeapBlock, begins_alloc, alloc_begun, free_begun, write_begun, read_begun, put_begun, take_begun}
use Rattle.errand_steps.specs.Errands.{ErrandFields, IsErrand, is_spent}
use Rattle.errand_steps.specs.Fits.{FitsPoint, spare_of, pushed_by}
use Rattle.errand_steps.specs.Points.{is_idle}
use Rattle.errand_steps.proofs.BeginLemmas.{frame_is, index_is}

-- a caller in no call is idle
pub idle-is : (p : Point) → is_idle p ≡ true → p ≡ Idle
idle-is p h = grind (arith)

-- an idle errand keeps its rule with another point that needs no list, and as many turns as it may have
with-point :
    (e : ErrandFields) (p : Point) (turns : ℕ) → IsErrand e → IsIdle e → FitsPoint e.geometry e.caller p → spare_of p ≡ 0
    → pushed_by p ≡ None → turns ≤ e.geometry.turn_limit → IsErrand (record e { point = p; turns = turns })
with-point e p turns h idle fits spare pushed most =
    let was : spare_of e.point ≡ 0 = ap spare_of (idle-is e.point idle) in
    record {
      geometry = h.geometry;
      caller = h.caller;
      point = fits;
      listed = h.listed;
      room = omega (arith, h.room, was);
      pushed = subst (λ o. IfSome o (λ d. Contains e.retired d)) (sym pushed) tt;
      turns = most;
    }

begun-alloc-errand : (e : ErrandFields) (words : ℕ) (n : Need) → need_of words ≡ n → IsErrand e → IsIdle e → IsErrand (begins_alloc e words n)
begun-alloc-errand e words (Small class) is h idle =
    let needs : class < CLASSES = subst IsNeed is (need_of-within words) in
    cond_both (is_spent e) e _ IsErrand (λ spent. h)
    (λ left. with-point e _ _ h idle
    (record {
      point = record { geometry = refl; number = refl; class = needs };
      continuation = is;
      goes = refl;
    })
    refl refl (let most = h.turns in grind (arith, left, most)))
begun-alloc-errand e words (Large units) is h idle =
    let needs : IsNeed (Large units) = subst IsNeed is (need_of-within words) in
    with-point e _ _ h idle
    (record { point = record { geometry = refl; units = (omega (arith, needs.0), needs.1) }; goes = is }) refl refl h.turns
begun-alloc-errand e words TooLarge is h idle = h

-- an errand that begins an allocation keeps its rule
pub alloc-errand : (e : ErrandFields) (words : ℕ) → IsErrand e → IsIdle e → IsErrand (alloc_begun e words)
unfolding alloc_begun
alloc-errand e words h idle = begun-alloc-errand e words (need_of words) refl h idle

-- an errand that begins a free keeps its rule
pub free-errand : (e : ErrandFields) (place : ℕ) (n : Need) → IsHeapBlock e.geometry place n → IsErrand e → IsIdle e → IsErrand (free_begun e place n)
unfolding free_begun
free-errand e place (Small class) (needs, (frame, index, has, within, is)) h idle =
    let f = frame_is frame class index place within (sym is) in
    let i = index_is frame class index place within (sym is) in
    with-point e _ _ h idle
    (record {
      point = (record { geometry = refl; number = refl; class = needs }, omega (arith, f, has), omega (arith, i, within));
      continuation = tt;
      goes = refl;
    })
    refl refl h.turns
free-errand e place (Large units) (needs, (unit, within, is)) h idle =
    let first : unit_of e.geometry.frames place ≡ unit = ap (unit_of e.geometry.frames) is ∙ unit_of-unit_place e.geometry.frames unit in
    with-point e _ _ h idle
    (record {
      point = record {
        run = record { some = omega (arith, needs.0); within = omega (arith, first, within, h.geometry.units.1) };
        within = omega (arith, first, within);
        place = is ∙ ap (unit_place e.geometry.frames) (sym first);
      };
      goes = refl;
    })
    refl refl h.turns
free-errand e place TooLarge (needs, nowhere) h idle = absurd nowhere

-- a usable word of a block lies in the arena
payload-within : (g : Geometry) (place : ℕ) (n : Need) (i : ℕ) → IsHeapBlock g place n → i < usable_words n → place + 1 + i < arena_words g
payload-within g place (Small class) i (needs, (frame, index, has, within, is)) below =
    omega (arith, block-within class index within, is, has, below)
payload-within g place (Large units) i (needs, (unit, within, is)) below = omega (arith, is, within, below)
payload-within g place TooLarge i (needs, nowhere) below = absurd nowhere

pub write-errand :
    (e : ErrandFields) (place : ℕ) (n : Need) (i v : ℕ) → IsHeapBlock e.geometry place n → i < usable_words n → v < 2 ^ 64 → IsErrand e
    → IsIdle e → IsErrand (write_begun e place i v)
unfolding write_begun
write-errand e place n i v block below word h idle =
    with-point e _ _ h idle (record { point = (payload-within e.geometry place n i block below, word); goes = refl }) refl refl h.turns

pub read-errand :
    (e : ErrandFields) (place : ℕ) (n : Need) (i : ℕ) → IsHeapBlock e.geometry place n → i < usable_words n → IsErrand e → IsIdle e
    → IsErrand (read_begun e place i)
unfolding read_begun
read-errand e place n i block below h idle =
    with-point e _ _ h idle (record { point = payload-within e.geometry place n i block below; goes = refl }) refl refl h.turns

-- a block of a heap can be said by a shelf's word
heap-block-shelved : (g : Geometry) (place : ℕ) (n : Need) → IsChecked g → IsHeapBlock g place n → IsShelfWord (shelf.Block place n)
heap-block-shelved g place (Small class) checked (needs, (frame, index, has, within, is)) =
    (omega (arith, block-within class index within, is, has, checked.frames.1), needs)
heap-block-shelved g place (Large units) checked (needs, (unit, within, is)) =
    (omega (arith, is, within, needs.0, checked.frames.1, checked.units.1), needs)
heap-block-shelved g place TooLarge checked (needs, nowhere) = absurd nowhere

pub put-errand :
    (e : ErrandFields) (place : ℕ) (n : Need) (k : ℕ) → IsHeapBlock e.geometry place n → k < SHELVES → IsErrand e → IsIdle e
    → IsErrand (put_begun e place n k)
unfolding put_begun
put-errand e place n k block has h idle =
    with-point e _ _ h idle
    (record { point = record { shelf = has; block = heap-block-shelved e.geometry place n h.geometry block }; goes = refl }) refl refl h.turns

pub take-errand : (e : ErrandFields) (k : ℕ) → k < SHELVES → IsErrand e → IsIdle e → IsErrand (take_begun e k)
unfolding take_begun
take-errand e k has h idle = with-point e _ _ h idle (record { point = has; goes = refl }) refl refl h.turns
