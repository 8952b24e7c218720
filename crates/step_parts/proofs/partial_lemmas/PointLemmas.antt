-- Of every point: what it remembers exists in its heap before and after its step, and its seat stays.
use Rattle.std.proofs.Common.{ℕ, Bool, true, false, ◌≡◌, ◌<◌, ◌^◌, arith, ap}
use Rattle.std.specs.Prelude.{if◌then◌else◌}
use Rattle.std.proofs.lemmas.Bool.{cond_both}
use Rattle.std.proofs.lemmas.Bool.Decides.{nat_tests}
use Rattle.heap_geometry.specs.declared.geometry.Geometry.{Geometry}
use Rattle.heap_geometry.specs.declared.limits.TheConstants.{CLASSES}
use Rattle.heap_geometry.specs.Geometry.{IsChecked}
use Rattle.packed_words.specs.Anchor.{anchor_of}
use Rattle.packed_words.specs.Info.{info_of}
use Rattle.word_table.specs.declared.action.Found.{Found}
use Rattle.word_table.specs.declared.onward.Onward.{Onward}
use Rattle.word_table.specs.declared.onward.Onward.TheVariants.{Stays, Leaves}
use Rattle.word_table.specs.Actions.{name_of}
use Rattle.word_table.specs.Onwards.{IsOnward, told_onward}
use Rattle.word_table.specs.Seats.{SeatFields, heap_of, info_in, anchor_in}
use Rattle.word_table.specs.Sites.{IsSeatOf, IsDescOf}
use Rattle.word_table.specs.Table.{Exists}
use Rattle.word_table.proofs.SeatLemmas.{heap_of-within, each-info, each-anchor}
use Rattle.step_parts.specs.declared.partial.exit.PartialExit.{PartialExit}
use Rattle.step_parts.specs.declared.partial.exit.PartialExit.TheVariants.{Granted, TookEmpty}
use Rattle.step_parts.specs.declared.partial.point.PartialPoint.{PartialPoint}
use Rattle.step_parts.specs.declared.partial.point.PartialPoint.TheVariants.{LoadTakenInfo, LoadGrantAnchor, Grant, LoadOwner}
use Rattle.step_parts.specs.partial.Points.{FitsPartial, FitsPartialExit, plan_partial_of, settle_partial_of, after_taken_info, after_live, after_owner, seat_of_partial, seat_of_partial_exit}
use Rattle.step_parts.specs.partial.Grants.{grant_more, is_empty}
use Rattle.step_parts.proofs.partial_lemmas.GrantLemmas.{grant_more-within}

-- the slot of a caller's processor heap exists
slot-exists : (g : Geometry) (caller : ℕ) (s : SeatFields) → IsChecked g → IsSeatOf g caller s → (heap_of s < g.heaps) × (s.class < CLASSES)
slot-exists g caller s checked seat =
    let same : s.geometry.heaps ≡ g.heaps = ap (λ x. x.heaps) seat.geometry in
    (omega (arith, heap_of-within s (omega (arith, checked.heaps.0)), same), seat.class)

-- the word that a point's action is on exists
pub plan-exists :
    (g : Geometry) (caller : ℕ) (p : PartialPoint) → IsChecked g → caller < g.callers → FitsPartial g caller p
    → Exists g (name_of (plan_partial_of p))
plan-exists g caller p checked has h = grind (arith, h, slot-exists g caller (seat_of_partial p) checked)

-- the point or exit that a step leads to is of this caller of this heap, and all that it remembers exists there
abbrev Fits : Geometry → ℕ → Onward PartialPoint PartialExit → Type 0
Fits g caller = IsOnward (FitsPartial g caller) (FitsPartialExit g caller)

-- a choice of where a step leads fits where both do
either-onward :
    (g : Geometry) (caller : ℕ) (b : Bool) (x y : Onward PartialPoint PartialExit) → (b ≡ true → Fits g caller x)
    → (b ≡ false → Fits g caller y) → Fits g caller (if b then x else y)
either-onward g caller b x y = cond_both b x y (Fits g caller)

-- the point after the word of a taken descriptor was read fits
fits-taken_info :
    (g : Geometry) (caller : ℕ) (s : SeatFields) (d word : ℕ) → IsDescOf g caller s d
    → FitsPartial g caller (after_taken_info s d (info_in s.geometry word))
fits-taken_info g caller s d word h =
    each-info s.geometry (λ o. FitsPartial g caller (after_taken_info s d o)) (info_of word) h
    (λ i frame heap. record {
      seat = h.seat;
      desc = h.desc;
      frame = omega (arith, frame, ap (λ x. x.frames) h.seat.geometry);
    })

-- the point after the word of a descriptor was read whose superblock became partial fits
fits-owner :
    (g : Geometry) (caller : ℕ) (s : SeatFields) (d word : ℕ) → IsDescOf g caller s d
    → FitsPartial g caller (after_owner s d (info_in s.geometry word))
fits-owner g caller s d word h =
    each-info s.geometry (λ o. FitsPartial g caller (after_owner s d o)) (info_of word) h
    (λ i frame heap. record {
      seat = h.seat;
      desc = h.desc;
      owner = omega (arith, heap, ap (λ x. x.heaps) h.seat.geometry);
    })

-- the point or exit after a step fits
pub settle-fits :
    (g : Geometry) (caller : ℕ) (p : PartialPoint) (x : Found) → IsChecked g → x.value < 2 ^ 64 → FitsPartial g caller p
    → Fits g caller (settle_partial_of p x)
settle-fits g caller (LoadTakenInfo s d) x checked word h = fits-taken_info g caller s d x.value h
settle-fits g caller (LoadGrantAnchor at) x checked word h =
    let live = after_live at (anchor_in at.seat.class x.value) in
    either-onward g caller (is_empty (anchor_of x.value).state) (Leaves (TookEmpty at)) (Stays live)
    (λ e. h)
    (λ e. each-anchor at.seat.class x.value (λ o. FitsPartial g caller (after_live at o)) h (λ a anchor. (h, anchor)))
settle-fits g caller (Grant at a) x checked word h =
    either-onward g caller x.won (Leaves (Granted at (grant_more a.count))) (Stays (LoadGrantAnchor at))
    (λ e. (h.0, grant_more-within a.count))
    (λ e. h.0)
settle-fits g caller (LoadOwner s d) x checked word h = fits-owner g caller s d x.value h
settle-fits g caller p x checked word h = grind (arith, h, nat_tests)

-- the seat of where a step leads
abbrev seat : Onward PartialPoint PartialExit → SeatFields
seat = told_onward seat_of_partial seat_of_partial_exit

-- the point after a step, or the exit, has the seat of the point before it
pub settle-seat : (p : PartialPoint) (x : Found) → seat (settle_partial_of p x) ≡ seat_of_partial p
settle-seat p x = grind arith
