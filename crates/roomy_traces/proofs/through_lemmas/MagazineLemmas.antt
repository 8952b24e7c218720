-- Magazines beside their numbers of blocks.
use Rattle.std.proofs.Common.{ℕ, zero, suc, ◌≡◌, ◌+◌, ◌-◌, ◌<◌, List, [], ◌∷◌, Some, get_or, map, min, length, replicate, set, sum, refl, sym, ◌∙◌, ap, inl, inr, arith}
use Rattle.std.specs.Prelude.{count_by, nat_lt}
use Rattle.std.proofs.lemmas.Bool.{cases_Bool, cases_lt}
use Rattle.std.proofs.lemmas.List.{get_or_past, length-map, map-set, set-get_or, set_past}
use Rattle.std.proofs.lemmas.List.Sums.{sum_by-set}
use Rattle.heap_geometry.specs.declared.limits.TheConstants.{CLASSES}
use Rattle.heap_geometry.specs.declared.need.Need.{Need}
use Rattle.heap_geometry.specs.declared.need.Need.TheVariants.{Small, Large, TooLarge}
use Rattle.heap_geometry.specs.Need.{IsNeed}
use Rattle.pool_model.specs.Counts.{is_free}
use Rattle.lane_outcomes.specs.Cached.{hit_of}
use Rattle.lane_outcomes.specs.Magazines.{empty_magazines, freeing, given_from, is_kept, kept_with, last_in, magazine_of, magazines_given, others_in, served_by}
use Rattle.roomy_traces.specs.Through.{kept_freed, kept_given, kept_in, none_kept, served}

-- how many blocks each magazine has, and how many all have
abbrev pub counts_of : List (List ℕ) → List ℕ
counts_of magazines = map (λ (places : List ℕ). length places) magazines

abbrev pub total : List (List ℕ) → ℕ
total magazines = sum (counts_of magazines)

get-map : {X Y : Type 0} (h : X → Y) (xs : List X) (r : ℕ) (d : X) → get_or (map h xs) r (h d) ≡ h (get_or xs r d)
get-map h [] r d = refl
get-map h (x ∷ xs) zero d = refl
get-map h (x ∷ xs) (suc r) d = get-map h xs r d

kept-at : (magazines : List (List ℕ)) (class : ℕ) → kept_in (counts_of magazines) class ≡ length (magazine_of magazines class)
kept-at magazines class = get-map (λ (places : List ℕ). length places) magazines class []

last-count : (places : List ℕ) → hit_of (last_in places) ≡ min (length places) 1
last-count [] = omega arith
last-count (place ∷ places) = omega arith

-- a magazine serves where it has a block
pub served-count : (magazines : List (List ℕ)) (need : Need) → hit_of (served_by magazines need) ≡ served (counts_of magazines) (Some need)
served-count magazines (Small class) = last-count (magazine_of magazines class) ∙ ap (λ n. min n 1) (sym (kept-at magazines class))
served-count magazines (Large units) = refl
served-count magazines TooLarge = refl

given-with :
    (magazines : List (List ℕ)) (class : ℕ) (places : List ℕ) → magazine_of magazines class ≡ places
    → counts_of (given_from (last_in places) magazines (Small class)) ≡ kept_given (counts_of magazines) (Some (Small class))
given-with magazines class [] is =
    let counts : List ℕ = counts_of magazines in
    let none : kept_in counts class ≡ 0 = kept-at magazines class ∙ ap (λ (xs : List ℕ). length xs) is in
    let same : kept_in counts class - 1 ≡ kept_in counts class = omega arith in
    sym (ap (λ n. set counts class n) same ∙ set-get_or counts class 0)
given-with magazines class (place ∷ places) is =
    let counts : List ℕ = counts_of magazines in
    let others : length (others_in (magazine_of magazines class)) ≡ length places = ap (λ (xs : List ℕ). length (others_in xs)) is in
    let all : kept_in counts class ≡ suc (length places) = kept-at magazines class ∙ ap (λ (xs : List ℕ). length xs) is in
    let fewer : length (others_in (magazine_of magazines class)) ≡ kept_in counts class - 1 = omega arith in
    map-set (λ (xs : List ℕ). length xs) magazines class (others_in (magazine_of magazines class)) ∙ ap (λ n. set counts class n) fewer

-- a block that is given leaves its magazine, if one served it
pub given-count : (magazines : List (List ℕ)) (need : Need) → counts_of (magazines_given magazines need) ≡ kept_given (counts_of magazines) (Some need)
given-count magazines (Small class) = given-with magazines class (magazine_of magazines class) refl
given-count magazines (Large units) = refl
given-count magazines TooLarge = refl

-- a block that is freed goes into its magazine, if there is room
pub freed-count :
    (depth : ℕ) (magazines : List (List ℕ)) (place : ℕ) (need : Need)
    → counts_of (kept_with (is_kept depth magazines need) magazines place need) ≡ kept_freed depth (counts_of magazines) (Some need)
freed-count depth magazines place (Small class) =
    rw (kept-at magazines class)
    (elim (cases_Bool (nat_lt (length (magazine_of magazines class)) depth)) [
      | inl room ↦ rw room (map-set (λ (xs : List ℕ). length xs) magazines class (place ∷ magazine_of magazines class))
      | inr full ↦ rw full refl
    ])
freed-count depth magazines place (Large units) = refl
freed-count depth magazines place TooLarge = refl

sum-set : (kept : List ℕ) (class n : ℕ) → class < length kept → sum (set kept class n) + kept_in kept class ≡ sum kept + n
sum-set kept class n within = sum_by-set (λ (x : ℕ). x) kept class n 0 within

sum-given : (kept : List ℕ) (need : Need) → sum (kept_given kept (Some need)) + served kept (Some need) ≡ sum kept
sum-given kept (Small class) =
    elim (cases_lt class (length kept)) [
      | inl within ↦ omega (arith, sum-set kept class (kept_in kept class - 1) within)
      | inr past ↦
          let none : kept_in kept class ≡ 0 = get_or_past kept class 0 past in
          let same : sum (set kept class (kept_in kept class - 1)) ≡ sum kept = ap (λ (xs : List ℕ). sum xs) (set_past kept class (kept_in kept class - 1) past) in
          omega arith
    ]
sum-given kept (Large units) = omega arith
sum-given kept TooLarge = omega arith

-- so many blocks are in magazines where one was given
pub total-given : (magazines : List (List ℕ)) (need : Need) → total (magazines_given magazines need) + hit_of (served_by magazines need) ≡ total magazines
total-given magazines need =
    let now : total (magazines_given magazines need) ≡ sum (kept_given (counts_of magazines) (Some need)) = ap (λ (xs : List ℕ). sum xs) (given-count magazines need) in
    omega (arith, now, served-count magazines need, sum-given (counts_of magazines) need)

-- and where one was freed: it is kept, or the heap has it
pub total-freed :
    (caller depth : ℕ) (magazines : List (List ℕ)) (place : ℕ) (need : Need) → IsNeed need → length magazines ≡ CLASSES
    → count_by is_free (freeing caller (is_kept depth magazines need) place) + total (kept_with (is_kept depth magazines need) magazines place need)
    ≡ total magazines + 1
total-freed caller depth magazines place (Small class) within long =
    elim (cases_Bool (nat_lt (length (magazine_of magazines class)) depth)) [
      | inl room ↦
          let counts : List ℕ = counts_of magazines in
          let many : length counts ≡ length magazines = length-map magazines (λ (xs : List ℕ). length xs) in
          let one : sum (set counts class (suc (length (magazine_of magazines class)))) + kept_in counts class
          ≡ sum counts + suc (length (magazine_of magazines class)) =
          sum-set counts class (suc (length (magazine_of magazines class))) (omega (arith, within, long)) in
          let now : total (set magazines class (place ∷ magazine_of magazines class)) ≡ sum (set counts class (suc (length (magazine_of magazines class)))) =
          ap (λ (xs : List ℕ). sum xs) (map-set (λ (xs : List ℕ). length xs) magazines class (place ∷ magazine_of magazines class)) in
          rw room (omega (arith, one, now, kept-at magazines class))
      | inr full ↦ rw full (omega arith)
    ]
total-freed caller depth magazines place (Large units) within long = omega arith
total-freed caller depth magazines place TooLarge within long = omega arith

-- before the first operation magazines are empty
none-counts : (n : ℕ) → counts_of (replicate n []) ≡ replicate n 0
none-counts zero = refl
none-counts (suc n) = ap (λ xs. 0 ∷ xs) (none-counts n)

pub start-counts : counts_of empty_magazines ≡ none_kept
start-counts = none-counts CLASSES
