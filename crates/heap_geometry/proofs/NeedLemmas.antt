-- Which blocks serve an allocation.
use Rattle.std.proofs.Common.{ℕ, suc, ◌≡◌, ◌+◌, ◌-◌, ◌*◌, ◌^◌, ◌<◌, ◌≤◌, max, ap, sym, arith, refl, inl, inr, add-one}
use Rattle.std.proofs.Math.Pow.{pow_mono}
use Rattle.std.proofs.Math.Nat.{pow-suc}
use Rattle.std.proofs.lemmas.Nat.{pow_pos}
use Rattle.std.proofs.lemmas.Bool.{le-leb, lt-leb, cases_lt}
use Rattle.std.specs.Int.{div_ceil}
use Rattle.heap_geometry.specs.declared.need.Need.{Need}
use Rattle.heap_geometry.specs.declared.need.Need.TheVariants.{Small, Large, TooLarge}
use Rattle.heap_geometry.specs.declared.limits.TheConstants.{UNIT_WORDS, CLASSES, SMALL_MOST, LARGE_MOST, MAX_UNITS}
use Rattle.heap_geometry.specs.Need.{IsNeed, IsNeedOf, IsLeastFor, need_of, class_words, run_words, usable_words}
use Rattle.heap_geometry.proofs.LeastLemmas.{least-enough}

-- a power of two is twice the one before
pub double : (k : ℕ) → 2 ^ (k + 1) ≡ 2 * 2 ^ k
double k = rw add-one (omega (arith, pow-suc 2 k))

-- the class whose power of two the need reaches, and no higher one, is the least with enough words
pub class-least :
    (need top class : ℕ) → top ≡ max need 1 → 2 ^ class ≤ top → top < 2 * 2 ^ class → IsLeastFor class_words need class
class-least need top class is reached below =
    record {
      enough = let e : 2 ^ (class + 1) ≡ 2 * 2 ^ class = double class in let goal : need ≤ 2 ^ (class + 1) - 1 = omega arith in goal;
      least =
          λ j enough. elim (cases_lt j class) [
            | inl lower ↦
                let power : 2 ^ (j + 1) ≤ 2 ^ class = pow_mono (omega arith) in
                let e : 2 ^ (j + 1) ≡ 2 * 2 ^ j = double j in
                let short : need ≤ 2 ^ (j + 1) - 1 = enough in
                absurd (omega (arith, pow_pos j))
            | inr higher ↦ higher
          ];
    }

-- the units that the words and their prefix fill are the least run with enough words
pub run-least :
    (need units : ℕ) → SMALL_MOST < need → units ≡ div_ceil (need + 1) UNIT_WORDS → IsLeastFor run_words need units
run-least need units large is = record { enough = omega arith; least = λ j enough. omega (arith, enough) }

-- the least class that serves a need of at most SMALL_MOST words is one of the heap's classes
pub class-below : (need class : ℕ) → need ≤ SMALL_MOST → IsLeastFor class_words need class → class < CLASSES
class-below need class small h = omega (arith, h.least (CLASSES - 1))

-- the blocks that serve a need are those that the definition computes
pub need_of-is : (need : ℕ) (n : Need) → IsNeedOf need n → n ≡ need_of need
unfolding need_of
need_of-is need (Small class) h =
    let below : class < CLASSES = class-below need class h.0 h.1 in
    rw (le-leb need SMALL_MOST h.0) (ap Small (sym (least-enough CLASSES need class class_words below h.1)))
need_of-is need (Large units) h =
    let below : units < suc MAX_UNITS = omega (arith, h.2.least MAX_UNITS) in
    rw (lt-leb need SMALL_MOST h.0, le-leb need LARGE_MOST h.1)
    (ap Large (sym (least-enough (suc MAX_UNITS) need units run_words below h.2)))
need_of-is need TooLarge h = rw (lt-leb need SMALL_MOST (omega arith), lt-leb need LARGE_MOST h) refl

-- a need of a block's usable words is served by blocks of that block's kind
pub need_of-usable : (n : Need) → IsNeed n → 0 < usable_words n → n ≡ need_of (usable_words n)
need_of-usable (Small class) is some =
    let most : 2 ^ (class + 1) ≤ 2 ^ CLASSES = let p : class + 1 ≤ CLASSES = omega (arith, is) in pow_mono p in
    need_of-is (class_words class) (Small class) (
      omega arith,
      record {
        enough = omega arith;
        least =
            λ j enough. elim (cases_lt j class) [
              | inl lower ↦
                  let power : 2 ^ (j + 1) ≤ 2 ^ class = pow_mono (omega arith) in
                  let e : 2 ^ (class + 1) ≡ 2 * 2 ^ class = double class in
                  absurd (omega (arith, enough, pow_pos class))
              | inr higher ↦ higher
            ];
      },
    )
need_of-usable (Large units) is some =
    need_of-is (run_words units) (Large units) (
      omega (arith, is.0),
      omega (arith, is.1),
      record { enough = omega arith; least = λ j enough. omega (arith, enough, is.0) },
    )
need_of-usable TooLarge is some = absurd (omega (arith, some))
