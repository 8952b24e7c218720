-- How many blocks a magazine has, and how many operations magazines serve.
use Rattle.std.proofs.Common.{ℕ, suc, ◌≡◌, ◌+◌, ◌≤◌, ◌<◌, ◌∷◌, List, [], Bool, true, false, Option, Some, None, length, refl, ap, inl, inr, arith}
use Rattle.std.specs.List.{All}
use Rattle.std.proofs.lemmas.Bool.{cases_lt, ltb-true}
use Rattle.std.proofs.lemmas.List.{get_or-replicate, get_or_past, length-replicate}
use Rattle.std.proofs.lemmas.List.Elements.{All-set}
use Rattle.heap_geometry.specs.declared.geometry.Geometry.{Geometry}
use Rattle.heap_geometry.specs.declared.limits.TheConstants.{CLASSES}
use Rattle.heap_geometry.specs.declared.need.Need.{Need}
use Rattle.heap_geometry.specs.declared.need.Need.TheVariants.{Small, Large, TooLarge}
use Rattle.heap_geometry.specs.Need.{need_of}
use Rattle.pool_model.specs.declared.event.Event.{Event}
use Rattle.trace_text.specs.declared.trace.Op.{Op}
use Rattle.lane_outcomes.specs.declared.registers.HeldBlock.{HeldBlock}
use Rattle.lane_outcomes.specs.declared.outcome.Outcome.{Outcome}
use Rattle.lane_outcomes.specs.Lane.{held_in}
use Rattle.lane_outcomes.specs.LaneCounts.{as_one, count_with, lane_given, lanes_given}
use Rattle.lane_outcomes.specs.Rows.{Setting}
use Rattle.lane_outcomes.specs.Cached.{CachedFits, CachedLanesFit, CachedPosition, CachedWalks, cached_after, cached_start, hit_of, magazines_by, served_with}
use Rattle.lane_outcomes.specs.Magazines.{given_from, is_kept, kept_with, magazine_of, magazines_freed, magazines_given, others_in, served_by}
use Rattle.lane_outcomes.proofs.LanesLemmas.{walk-kept}
use Rattle.trace_text.specs.Operations.{register_of}
use Rattle.lane_outcomes.specs.Deeds.{Deed, deed_of, given_by}
use Rattle.lane_outcomes.specs.Deeds as deed

-- no magazine has more blocks than the depth
abbrev IsShallow : ℕ → List (List ℕ) → Type 0
IsShallow depth magazines = All (λ places. length places ≤ depth) magazines

magazine-few : (depth : ℕ) (magazines : List (List ℕ)) (class : ℕ) → IsShallow depth magazines → length (magazine_of magazines class) ≤ depth
magazine-few depth magazines class shallow =
    elim (cases_lt class (length magazines)) [
      | inl within ↦ shallow class [] within
      | inr past ↦ let none = ap length (get_or_past magazines class [] past) in omega (arith, none)
    ]

others-fewer : (places : List ℕ) → length (others_in places) ≤ length places
others-fewer [] = omega arith
others-fewer (place ∷ places) = omega arith

shallow-given : (depth : ℕ) (served : Option ℕ) (magazines : List (List ℕ)) (need : Need) → IsShallow depth magazines → IsShallow depth (given_from served magazines need)
shallow-given depth None magazines need shallow = shallow
shallow-given depth (Some place) magazines (Small class) shallow =
    All-set (λ places. length places ≤ depth) magazines class (others_in (magazine_of magazines class))
    (omega (arith, others-fewer (magazine_of magazines class), magazine-few depth magazines class shallow)) shallow
shallow-given depth (Some place) magazines (Large units) shallow = shallow
shallow-given depth (Some place) magazines TooLarge shallow = shallow

shallow-kept :
    (depth : ℕ) (keeps : Bool) (magazines : List (List ℕ)) (place : ℕ) (need : Need) → is_kept depth magazines need ≡ keeps → IsShallow depth magazines
    → IsShallow depth (kept_with keeps magazines place need)
shallow-kept depth true magazines place (Small class) keeps shallow =
    let room : length (magazine_of magazines class) < depth = ltb-true _ _ keeps in
    All-set (λ places. length places ≤ depth) magazines class (place ∷ magazine_of magazines class) (omega (arith, room)) shallow
shallow-kept depth true magazines place (Large units) keeps shallow = shallow
shallow-kept depth true magazines place TooLarge keeps shallow = shallow
shallow-kept depth false magazines place need keeps shallow = shallow

shallow-freed : (depth : ℕ) (magazines : List (List ℕ)) (held : Option HeldBlock) → IsShallow depth magazines → IsShallow depth (magazines_freed depth magazines held)
shallow-freed depth magazines None shallow = shallow
shallow-freed depth magazines (Some held) shallow =
    shallow-kept depth (is_kept depth magazines held.need) magazines held.place held.need refl shallow

shallow-after :
    (depth : ℕ) (magazines : List (List ℕ)) (held : Option HeldBlock) (done : Deed) → IsShallow depth magazines
    → IsShallow depth (magazines_by depth magazines held done)
shallow-after depth magazines held (deed.gives need v words place) shallow =
    shallow-given depth (served_by magazines (need_of need)) magazines (need_of need) shallow
shallow-after depth magazines held deed.frees shallow = shallow-freed depth magazines held shallow
shallow-after depth magazines held (deed.replaces need words place) shallow =
    shallow-freed depth (magazines_given magazines (need_of need)) held
    (shallow-given depth (served_by magazines (need_of need)) magazines (need_of need) shallow)
shallow-after depth magazines held done shallow = shallow

pub walk-shallow :
    (setting : Setting) (depth : ℕ) (operations : List Op) (results : List Outcome) (position : CachedPosition)
    → CachedWalks setting depth cached_start operations results position → All (λ magazine. length magazine ≤ depth) position.magazines
walk-shallow setting depth operations results position walks =
    let none : List ℕ = [] in
    walk-kept setting depth (λ at. IsShallow depth at.magazines)
    (λ at operation result piece row. shallow-after depth at.magazines (held_in at.base.registers (register_of operation)) (deed_of operation result))
    cached_start position operations results walks
    (λ class d below. omega (arith, ap length (get_or-replicate CLASSES class none d (omega (arith, below, length-replicate CLASSES none)))))

hit-one : (served : Option ℕ) → hit_of served ≤ 1
hit-one None = omega arith
hit-one (Some place) = omega arith

-- each hit is one of the blocks that were given
hit-given : (magazines : List (List ℕ)) (done : Deed) → hit_of (served_with magazines done) ≤ count_with as_one (given_by done)
hit-given magazines (deed.gives need v words place) = hit-one (served_by magazines (need_of need))
hit-given magazines (deed.replaces need words place) = hit-one (served_by magazines (need_of need))
hit-given magazines done = omega arith

hits-walk :
    (setting : Setting) (depth : ℕ) (from to : CachedPosition) (operations : List Op) (results : List Outcome)
    → CachedWalks setting depth from operations results to → to.hits ≤ from.hits + lane_given as_one operations results
hits-walk setting depth from to [] [] walks = omega (arith, ap (λ (p : CachedPosition). p.hits) walks)
hits-walk setting depth from to (operation ∷ operations) (result ∷ results) walks =
    omega (
      arith,
      hit-given from.magazines (deed_of operation result),
      hits-walk setting depth (cached_after depth from operation result walks.0) to operations results walks.2,
    )
hits-walk setting depth from to operations results walks = absurd walks

pub lane-hits :
    (setting : Setting) (depth : ℕ) (operations : List Op) (results : List Outcome) (hits : ℕ) → CachedFits setting depth operations results hits
    → hits ≤ lane_given as_one operations results
lane-hits setting depth operations results hits fits =
    omega (arith, fits.hits_are, hits-walk setting depth cached_start fits.end operations results fits.walks)

pub lanes-hits :
    (g : Geometry) (history : List Event) (lost depth lane : ℕ) (lanes : List (List Op)) (outcomes : List (List Outcome)) (hits : ℕ)
    → CachedLanesFit g history lost depth lane lanes outcomes hits → hits ≤ lanes_given as_one lanes outcomes
lanes-hits g history lost depth lane [] [] hits fit = omega (arith, fit)
lanes-hits g history lost depth lane (operations ∷ lanes) (results ∷ outcomes) hits (these, others, all, one, more) =
    omega (arith, all, lane-hits _ depth operations results these one, lanes-hits g history lost depth (suc lane) lanes outcomes others more)
lanes-hits g history lost depth lane lanes outcomes hits fit = absurd fit
