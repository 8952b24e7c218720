-- The blocks in magazines, as a magazine keeps one and gives one.
use Rattle.std.proofs.Common.{ℕ, zero, suc, ◌≡◌, ◌+◌, ◌<◌, ◌∷◌, ◌++◌, List, [], Bool, true, false, Option, Some, None, map, length, replicate, set, refl, sym, ◌∙◌, ap, subst, inl, inr, arith, get_or-set_same, length-set}
use Rattle.std.specs.Prelude.{IsPermutation}
use Rattle.std.specs.List.{flat_map}
use Rattle.std.proofs.lemmas.Bool.{cases_lt}
use Rattle.std.proofs.lemmas.List.{get_or_past, map-append, set-get_or, set-set}
use Rattle.std.proofs.lemmas.List.Sorted.{IsPermutation-middle, IsPermutation-refl, IsPermutation-trans, IsPermutation-append_right, IsPermutation-sym}
use Rattle.std.proofs.lemmas.Simd.{map-map}
use Rattle.heap_geometry.specs.declared.limits.TheConstants.{CLASSES}
use Rattle.heap_geometry.specs.declared.need.Need.{Need}
use Rattle.heap_geometry.specs.declared.need.Need.TheVariants.{Small, Large, TooLarge}
use Rattle.heap_geometry.specs.Need.{IsNeed, need_of, usable_words}
use Rattle.pool_model.specs.declared.event.Event.{Event}
use Rattle.pool_model.specs.declared.event.Event.TheVariants.{Free}
use Rattle.lane_outcomes.specs.declared.registers.HeldBlock.{HeldBlock}
use Rattle.lane_outcomes.specs.Magazines.{emptying, given_from, is_kept, kept_block, kept_from, kept_with, last_in, magazine_of, magazines_freed, magazines_given, others_in, served_by}
use Rattle.lane_outcomes.specs.Deeds.{Deed}
use Rattle.lane_outcomes.specs.Cached.{magazines_by}
use Rattle.lane_outcomes.specs.Deeds as deed

-- a block more in the magazine of a class is one more that is kept, classes being numbered from `first` on
kept-pushed-from :
    (first : ℕ) (magazines : List (List ℕ)) (class place n : ℕ) → class < length magazines → first + class ≡ n
    → IsPermutation (kept_block n place ∷ kept_from first magazines) (kept_from first (set magazines class (place ∷ magazine_of magazines class)))
kept-pushed-from first [] class place n below is = absurd (omega arith)
kept-pushed-from first (places ∷ magazines) zero place n below is =
    let same : first ≡ n = omega (arith, is) in
    subst (λ m. IsPermutation (kept_block m place ∷ kept_from first (places ∷ magazines)) (kept_from first ((place ∷ places) ∷ magazines))) same
    (IsPermutation-refl _)
kept-pushed-from first (places ∷ magazines) (suc class) place n below is =
    IsPermutation-trans _ _ _ (IsPermutation-sym _ _ (IsPermutation-middle (map (kept_block first) places) _ _))
    (IsPermutation-append_right (map (kept_block first) places) _ _
    (kept-pushed-from (suc first) magazines class place n (omega arith) (omega (arith, is))))

kept-popped :
    (magazines : List (List ℕ)) (class place : ℕ) (places : List ℕ) → class < length magazines → magazine_of magazines class ≡ place ∷ places
    → IsPermutation (kept_from 0 magazines) (kept_block class place ∷ kept_from 0 (set magazines class places))
kept-popped magazines class place places below is =
    let popped : List (List ℕ) = set magazines class places in
    let same : set popped class (place ∷ magazine_of popped class) ≡ magazines =
    ap (λ xs. set popped class (place ∷ xs)) (get_or-set_same magazines class places [] below) ∙ set-set magazines class places (place ∷ places)
    ∙ ap (set magazines class) (sym is) ∙ set-get_or magazines class [] in
    IsPermutation-sym _ _
    (subst (λ xs. IsPermutation (kept_block class place ∷ kept_from 0 popped) (kept_from 0 xs)) same
    (kept-pushed-from 0 popped class place class (let long = length-set magazines class places in omega (arith, long)) (omega arith)))

-- a block that serves a need
abbrev pub block_for : Need → ℕ → HeldBlock
block_for need place = record { place = place; words = usable_words need; need = need }

last-first : (places : List ℕ) (place : ℕ) → last_in places ≡ Some place → places ≡ place ∷ others_in places
last-first [] place is = absurd (let e : None ≡ Some place = is in cc)
last-first (last ∷ places) place is = let same : last ≡ place = let e : Some last ≡ Some place = is in cc in ap (λ x. x ∷ places) same

-- a magazine gives a block
pub kept-given :
    (magazines : List (List ℕ)) (need : Need) (place : ℕ) → served_by magazines need ≡ Some place
    → IsPermutation (kept_from 0 magazines) (block_for need place ∷ kept_from 0 (magazines_given magazines need))
kept-given magazines (Small class) place is =
    elim (cases_lt class (length magazines)) [
      | inl within ↦
          subst (λ served. IsPermutation (kept_from 0 magazines) (kept_block class place ∷ kept_from 0 (given_from served magazines (Small class)))) (sym is)
          (kept-popped magazines class place (others_in (magazine_of magazines class)) within (last-first (magazine_of magazines class) place is))
      | inr past ↦ absurd (let e : None ≡ Some place = sym (ap last_in (get_or_past magazines class [] past)) ∙ is in cc)
    ]
kept-given magazines (Large units) place is = absurd (let e : None ≡ Some place = is in cc)
kept-given magazines TooLarge place is = absurd (let e : None ≡ Some place = is in cc)

-- a magazine keeps a block
pub kept-freed :
    (depth : ℕ) (magazines : List (List ℕ)) (need : Need) (place : ℕ) → is_kept depth magazines need ≡ true → IsNeed need → length magazines ≡ CLASSES
    → IsPermutation (block_for need place ∷ kept_from 0 magazines) (kept_from 0 (kept_with true magazines place need))
kept-freed depth magazines (Small class) place keeps within long =
    kept-pushed-from 0 magazines class place class (omega (arith, within, long)) (omega arith)
kept-freed depth magazines (Large units) place keeps within long = absurd (let e : false ≡ true = keeps in cc)
kept-freed depth magazines TooLarge place keeps within long = absurd (let e : false ≡ true = keeps in cc)

-- an operation leaves as many magazines, and so do a block given and a block freed
pub given-long : (served : Option ℕ) (magazines : List (List ℕ)) (need : Need) → length (given_from served magazines need) ≡ length magazines
given-long None magazines need = refl
given-long (Some place) magazines (Small class) = length-set magazines class _
given-long (Some place) magazines (Large units) = refl
given-long (Some place) magazines TooLarge = refl

kept-long : (keeps : Bool) (magazines : List (List ℕ)) (place : ℕ) (need : Need) → length (kept_with keeps magazines place need) ≡ length magazines
kept-long true magazines place (Small class) = length-set magazines class _
kept-long true magazines place (Large units) = refl
kept-long true magazines place TooLarge = refl
kept-long false magazines place need = refl

freed-long : (depth : ℕ) (magazines : List (List ℕ)) (held : Option HeldBlock) → length (magazines_freed depth magazines held) ≡ length magazines
freed-long depth magazines None = refl
freed-long depth magazines (Some held) = kept-long (is_kept depth magazines held.need) magazines held.place held.need

pub magazines-long : (depth : ℕ) (magazines : List (List ℕ)) (held : Option HeldBlock) (done : Deed) → length (magazines_by depth magazines held done) ≡ length magazines
magazines-long depth magazines held (deed.gives need v words place) = given-long (served_by magazines (need_of need)) magazines (need_of need)
magazines-long depth magazines held deed.frees = freed-long depth magazines held
magazines-long depth magazines held (deed.replaces need words place) =
    freed-long depth (magazines_given magazines (need_of need)) held ∙ given-long (served_by magazines (need_of need)) magazines (need_of need)
magazines-long depth magazines held done = refl

-- empty magazines keep nothing
pub kept-nothing : (first n : ℕ) → kept_from first (replicate n []) ≡ []
kept-nothing first zero = refl
kept-nothing first (suc n) = kept-nothing (suc first) n

-- emptied magazines' events are the frees of their blocks
abbrev pub freeing_all : ℕ → List HeldBlock → List Event
freeing_all caller kept = map (λ held. Free caller held.place) kept

pub kept-emptied : (caller first : ℕ) (magazines : List (List ℕ)) → freeing_all caller (kept_from first magazines) ≡ emptying caller magazines
kept-emptied caller first [] = refl
kept-emptied caller first (places ∷ magazines) =
    map-append (λ held. Free caller held.place) (map (kept_block first) places) (kept_from (suc first) magazines)
    ∙ ap (λ xs. xs ++ freeing_all caller (kept_from (suc first) magazines)) (map-map (λ held. Free caller held.place) (kept_block first) places)
    ∙ ap (λ xs. map (λ place. Free caller place) places ++ xs) (kept-emptied caller (suc first) magazines)
    ∙ sym (map-append (λ place. Free caller place) places (flat_map (λ magazine. magazine) magazines))
