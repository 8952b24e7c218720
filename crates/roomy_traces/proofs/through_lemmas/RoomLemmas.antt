-- A trace with a frame for each block that its magazines have room for is roomy through them.
use Rattle.std.proofs.Common.{ℕ, suc, ◌≡◌, ◌+◌, ◌*◌, ◌-◌, ◌<◌, ◌≤◌, List, [], ◌∷◌, Option, Some, None, All, length, set, sum, sum_by, ◌∙◌, subst, inl, inr, arith}
use Rattle.std.specs.Prelude.{nat_lt}
use Rattle.std.proofs.lemmas.Bool.{cases_Bool, cases_lt, ltb-true}
use Rattle.std.proofs.lemmas.List.{get_or-replicate, get_or_past, length-replicate, length-set}
use Rattle.std.proofs.lemmas.List.Elements.{All-set}
use Rattle.std.proofs.lemmas.List.Sums.{sum_by-cons, sum_by-le}
use Rattle.heap_geometry.specs.declared.limits.TheConstants.{CLASSES}
use Rattle.heap_geometry.specs.declared.need.Need.{Need}
use Rattle.heap_geometry.specs.declared.need.Need.TheVariants.{Small, Large, TooLarge}
use Rattle.trace_text.specs.declared.trace.Op.{Op}
use Rattle.trace_text.specs.declared.trace.Trace.{Trace}
use Rattle.roomy_traces.specs.Roomy.{Filled, IsRoomy, filled_in, most_held, no_blocks, serial_after}
use Rattle.roomy_traces.specs.Through.{IsRoomyThrough, asked, kept_after, kept_freed, kept_given, kept_in, most_kept, none_kept, returned}

-- one number for each class, none of which is more than the depth
record IsShallow (depth : ℕ) (kept : List ℕ) : Type 0 where
  pub many : length kept ≡ CLASSES
  pub each : All (λ n. n ≤ depth) kept

kept-few : (depth : ℕ) (kept : List ℕ) (class : ℕ) → IsShallow depth kept → kept_in kept class ≤ depth
kept-few depth kept class shallow =
    elim (cases_lt class (length kept)) [
      | inl within ↦ shallow.each class 0 within
      | inr past ↦ omega (arith, get_or_past kept class 0 past)
    ]

shallow-set : (depth : ℕ) (kept : List ℕ) (class n : ℕ) → n ≤ depth → IsShallow depth kept → IsShallow depth (set kept class n)
shallow-set depth kept class n few shallow =
    record { many = length-set kept class n ∙ shallow.many; each = All-set (λ k. k ≤ depth) kept class n few shallow.each }

shallow-given : (depth : ℕ) (kept : List ℕ) (need : Option Need) → IsShallow depth kept → IsShallow depth (kept_given kept need)
shallow-given depth kept (Some (Small class)) shallow = shallow-set depth kept class (kept_in kept class - 1) (omega (arith, kept-few depth kept class shallow)) shallow
shallow-given depth kept (Some (Large units)) shallow = shallow
shallow-given depth kept (Some TooLarge) shallow = shallow
shallow-given depth kept None shallow = shallow

shallow-freed : (depth : ℕ) (kept : List ℕ) (need : Option Need) → IsShallow depth kept → IsShallow depth (kept_freed depth kept need)
shallow-freed depth kept (Some (Small class)) shallow =
    elim (cases_Bool (nat_lt (kept_in kept class) depth)) [
      | inl room ↦
          let below : kept_in kept class < depth = ltb-true _ _ room in
          rw room (shallow-set depth kept class (suc (kept_in kept class)) (omega (arith, below)) shallow)
      | inr full ↦ rw full shallow
    ]
shallow-freed depth kept (Some (Large units)) shallow = shallow
shallow-freed depth kept (Some TooLarge) shallow = shallow
shallow-freed depth kept None shallow = shallow

shallow-sum : (depth : ℕ) (kept : List ℕ) → IsShallow depth kept → sum kept ≤ CLASSES * depth
shallow-sum depth kept shallow =
    let most : sum kept ≤ length kept * depth = sum_by-le (λ (n : ℕ). n) depth kept shallow.each in
    subst (λ n. sum kept ≤ n * depth) shallow.many most

most-room :
    (depth : ℕ) (filled : List (Option Filled)) (kept : List ℕ) (operations : List Op) → IsShallow depth kept
    → most_kept depth filled kept operations ≤ most_held filled operations + CLASSES * depth
most-room depth filled kept [] shallow = omega (arith, shallow-sum depth kept shallow)
most-room depth filled kept (operation ∷ operations) shallow =
    let now : Option Filled = filled_in filled operation in
    omega (
      arith,
      shallow-sum depth kept shallow,
      most-room depth (serial_after filled operation) (kept_after depth kept now operation) operations
          (shallow-freed depth (kept_given kept (asked now operation)) (returned now operation) (shallow-given depth kept (asked now operation) shallow)),
    )

shallow-start : (depth : ℕ) → IsShallow depth none_kept
shallow-start depth =
    let none : ℕ = 0 in
    record {
      many = length-replicate CLASSES none;
      each = λ class d below. omega (arith, get_or-replicate CLASSES class none d (omega (arith, below, length-replicate CLASSES none)));
    }

lanes-room :
    (depth : ℕ) (lanes : List (List Op))
    → sum_by (most_kept depth no_blocks none_kept) lanes ≤ sum_by (most_held no_blocks) lanes + length lanes * (CLASSES * depth)
lanes-room depth [] = omega arith
lanes-room depth (operations ∷ lanes) =
    let one : most_kept depth no_blocks none_kept operations ≤ most_held no_blocks operations + CLASSES * depth =
    most-room depth no_blocks none_kept operations (shallow-start depth) in
    let room : ℕ = CLASSES * depth in
    let all : length (operations ∷ lanes) * room ≡ room + length lanes * room = omega arith in
    omega (
      arith,
      one,
      all,
      lanes-room depth lanes,
      sum_by-cons (most_kept depth no_blocks none_kept) operations lanes,
      sum_by-cons (most_held no_blocks) operations lanes,
    )

pub roomy-through :
    (depth : ℕ) (trace : Trace) → IsRoomy trace
    → sum_by (most_held no_blocks) trace.lanes + length trace.lanes * (CLASSES * depth) + trace.heap.heaps * CLASSES + trace.heap.callers ≤ trace.heap.frames
    → IsRoomyThrough depth trace
roomy-through depth trace roomy frames =
    record { plain = roomy.plain; turns = roomy.turns; frames = omega (arith, frames, lanes-room depth trace.lanes) }
