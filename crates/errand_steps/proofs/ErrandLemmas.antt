-- Everything that an errand remembers exists in its heap after a step too.
use Rattle.std.proofs.Common.{ℕ, Option, Some, None, ◌≡◌, ◌<◌, ◌≤◌, ◌+◌, ◌^◌, List, [], ◌∷◌, ◌++◌, length, refl, arith, subst, sym}
use Rattle.std.specs.Prelude.{All, Contains, IfSome}
use Rattle.std.proofs.lemmas.Bool.{cond_both, leb-false}
use Rattle.std.proofs.lemmas.List.{length-append}
use Rattle.std.proofs.lemmas.List.Elements.{All-append, All-cons, All-nil, All-contains}
use Rattle.heap_geometry.specs.declared.geometry.Geometry.{Geometry}
use Rattle.word_table.specs.declared.action.Found.{Found}
use Rattle.word_table.specs.Counts.{descriptor_count}
use Rattle.word_table.specs.Seats.{SeatFields}
use Rattle.step_parts.specs.hazard.Retired.{first_unheld, without}
use Rattle.step_parts.proofs.hazard_lemmas.PickLemmas.{some-listed}
use Rattle.errand_steps.specs.declared.continuation.Continuation.{Continuation}
use Rattle.errand_steps.specs.declared.point.Point.{Point}
use Rattle.errand_steps.specs.declared.next.Next.{Next}
use Rattle.errand_steps.specs.declared.next.Next.TheVariants.{At, End, Turn, Retire, Pick, Unlist}
use Rattle.errand_steps.specs.Errands.{ErrandFields, IsErrand, IsListable, after_list, after_turn, picked, point_after, list_after, begins_turn, raised, is_full, scan_begins, led_by, settle_of, course_of}
use Rattle.errand_steps.specs.Fits.{FitsPoint, spare_of, pushed_by}
use Rattle.errand_steps.specs.Nexts.{next_of, resumed}
use Rattle.errand_steps.proofs.NextLemmas.{FitsNext, IsResuming, Follows, follows-resumed}
use Rattle.errand_steps.proofs.RetiredLemmas.{without-length, without-all}
use Rattle.errand_steps.proofs.StepLemmas.{follows-next}

-- each descriptor of the list is one of the heap's
abbrev AreListed : ErrandFields → List ℕ → Type 0
AreListed e ds = All (λ d. d < descriptor_count e.geometry) ds

-- what follows a step of an errand, by its list before the step
abbrev FollowsIn : ErrandFields → Next → Type 0
FollowsIn e n = Follows e.geometry e.caller (spare_of e.point) (pushed_by e.point) n

-- what follows goes with a retired list that is changed to this one
pub record Stands (e : ErrandFields) (ds : List ℕ) (n : Next) : Type 0 where
  pub fits : FitsNext e.geometry e.caller n
  pub room : length ds ≤ e.geometry.callers + spare_of (point_after n)
  pub pushed : IfSome (pushed_by (point_after n)) (λ d. Contains ds d)
  pub listed : AreListed e ds

-- the list has room for what is added, and has what is taken off
listable-at : (e : ErrandFields) (n : Next) → IsErrand e → FollowsIn e n → IsListable e.retired n
listable-at e (At p) h f = tt
listable-at e (End r) h f = tt
listable-at e (Turn s words) h f = tt
listable-at e (Retire s d o) h f = omega (arith, h.room, f.lists, h.geometry.callers.1)
listable-at e (Pick s held o) h f = tt
listable-at e (Unlist s d o) h f = subst (λ o. IfSome o (λ k. Contains e.retired k)) f.lists h.pushed

-- no point has more than one spare entry of the retired list
spare-most : (p : Point) → spare_of p ≤ 1
spare-most p = grind (arith)

-- a retired list without a spare entry goes with what follows where that needs none
stands-of :
    (e : ErrandFields) (ds : List ℕ) (n : Next) → Follows e.geometry e.caller 0 None n → length ds ≤ e.geometry.callers
    → AreListed e ds → Stands e ds n
stands-of e ds n f room listed = grind (arith)

-- the retired list with one more entry goes with what follows a retirement
stands-added :
    (e : ErrandFields) (s : SeatFields) (d : ℕ) (o : Continuation) → IsErrand e → FollowsIn e (Retire s d o)
    → Stands e (e.retired ++ d ∷ []) (after_list e (Retire s d o))
stands-added e s d o h f =
    let listed : AreListed e (e.retired ++ d ∷ []) =
    All-append (λ k. k < descriptor_count e.geometry) e.retired (d ∷ []) h.listed
    (All-cons (λ k. k < descriptor_count e.geometry) d [] f.fits.0 (All-nil (λ k. k < descriptor_count e.geometry))) in
    let longer : length (e.retired ++ d ∷ []) ≡ length e.retired + 1 = length-append e.retired (d ∷ []) in
    cond_both (is_full e) (At (scan_begins s o)) (resumed s o) (λ m. Stands e (e.retired ++ d ∷ []) m)
    (λ full. record {
      fits = record {
        point = (record { seat = f.fits.1.seat; words = refl }, omega (arith, h.geometry.callers.0));
        continuation = f.fits.1.continuation;
        goes = f.fits.1.goes;
      };
      room = omega (arith, longer, h.room, f.lists);
      pushed = tt;
      listed = listed;
    })
    (λ few. stands-of e (e.retired ++ d ∷ []) (resumed s o) (follows-resumed e.geometry e.caller s o f.fits.1)
    (omega (arith, longer, leb-false e.geometry.callers (length e.retired) few)) listed)

-- the retired list goes with the push of the descriptor that is picked, or with the point as it was
stands-picked :
    (e : ErrandFields) (s : SeatFields) (held : List ℕ) (o : Continuation) (r : Option ℕ) → IsErrand e
    → IsResuming e.geometry e.caller s o → first_unheld held e.retired ≡ r → Stands e e.retired (picked e s o r)
stands-picked e s held o None h w is = record { fits = h.point; room = h.room; pushed = h.pushed; listed = h.listed }
stands-picked e s held o (Some d) h w is =
    let has : Contains e.retired d = some-listed held e.retired d is in
    record {
      fits = record {
        point = record { seat = w.seat; desc = All-contains (λ k. k < descriptor_count e.geometry) e.retired d h.listed has };
        continuation = w.continuation;
        goes = w.goes;
      };
      room = omega (arith, h.room, spare-most e.point);
      pushed = has;
      listed = h.listed;
    }

-- the retired list with one entry less goes with how the call goes on
stands-removed :
    (e : ErrandFields) (s : SeatFields) (d : ℕ) (o : Continuation) → IsErrand e → FollowsIn e (Unlist s d o)
    → Stands e (without d e.retired) (resumed s o)
stands-removed e s d o h f =
    let has = listable-at e (Unlist s d o) h f in
    stands-of e (without d e.retired) (resumed s o) (follows-resumed e.geometry e.caller s o f.fits)
    (omega (arith, without-length d e.retired has, h.room, spare-most e.point))
    (without-all (λ k. k < descriptor_count e.geometry) d e.retired h.listed)

-- the retired list after a step goes with what follows by its part in it
stands-after_list : (e : ErrandFields) (n : Next) → IsErrand e → FollowsIn e n → Stands e (list_after e.retired n) (after_list e n)
stands-after_list e (At p) h f = record {
  fits = f.fits;
  room = omega (arith, h.room, f.lists.0);
  pushed = subst (λ o. IfSome o (λ k. Contains e.retired k)) (sym f.lists.1) h.pushed;
  listed = h.listed;
}
stands-after_list e (End r) h f = record { fits = tt; room = omega (arith, h.room, f.lists); pushed = tt; listed = h.listed }
stands-after_list e (Turn s words) h f =
    record { fits = f.fits; room = omega (arith, h.room, f.lists); pushed = tt; listed = h.listed }
stands-after_list e (Retire s d o) h f = stands-added e s d o h f
stands-after_list e (Pick s held o) h f = stands-picked e s held o (first_unheld held e.retired) h f.fits refl
stands-after_list e (Unlist s d o) h f = stands-removed e s d o h f

-- the retired list goes with what follows by the turn limit's part in it
stands-after_turn : (e : ErrandFields) (ds : List ℕ) (n : Next) → Stands e ds n → Stands e ds (after_turn e n)
stands-after_turn e ds n h = grind (arith)

-- the point at which the caller stands
point-fits : (g : Geometry) (caller : ℕ) (n : Next) → FitsNext g caller n → FitsPoint g caller (point_after n)
point-fits g caller n h = grind (arith)

-- a turn begins only where one is left
turns-within :
    (e : ErrandFields) (n : Next) → e.turns ≤ e.geometry.turn_limit → raised (begins_turn e n) e.turns ≤ e.geometry.turn_limit
turns-within e n h = grind (arith)

pub listable :
    (e : ErrandFields) (x : Found) → IsErrand e → x.value < 2 ^ 64 → IsListable e.retired (next_of e.point x)
listable e x h word =
    listable-at e (next_of e.point x) h (follows-next e.geometry e.caller e.point x h.geometry word h.point)

-- an errand's rule holds where a step leads
pub led_errand : (e : ErrandFields) (x : Found) → IsErrand e → x.value < 2 ^ 64 → IsErrand (led_by e (next_of e.point x))
led_errand e x h word =
    let next = next_of e.point x in
    let listed = after_list e next in
    let stands = stands-after_turn e (list_after e.retired next) listed
    (stands-after_list e next h (follows-next e.geometry e.caller e.point x h.geometry word h.point)) in
    record {
      geometry = h.geometry;
      caller = h.caller;
      point = point-fits e.geometry e.caller (after_turn e listed) stands.fits;
      listed = stands.listed;
      room = stands.room;
      pushed = stands.pushed;
      turns = turns-within e listed h.turns;
    }

-- an errand's rule holds whatever the counts are
pub counted_errand :
    (e : ErrandFields) (won lost cleared : ℕ) → IsErrand e → IsErrand (record e { won = won; lost = lost; cleared = cleared })
counted_errand e won lost cleared h =
    record { geometry = h.geometry; caller = h.caller; point = h.point; listed = h.listed; room = h.room; pushed = h.pushed; turns = h.turns }

-- an errand's rule holds after a step
pub settle_errand : (e : ErrandFields) (x : Found) → IsErrand e → x.value < 2 ^ 64 → IsErrand (settle_of e x)
unfolding settle_of course_of
settle_errand e x h word = counted_errand (led_by e (next_of e.point x)) _ _ _ (led_errand e x h word)

-- an errand that equals the errand after a step keeps the rule
pub settled_errand :
    (e f : ErrandFields) (x : Found) → IsErrand e → x.value < 2 ^ 64 → f ≡ settle_of e x → IsErrand f
settled_errand e f x h word is = subst IsErrand (sym is) (settle_errand e x h word)
