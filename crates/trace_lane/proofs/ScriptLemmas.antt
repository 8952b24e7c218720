-- The calls of a lane are those of its script.
use Rattle.std.proofs.Common.{ℕ, ◌≡◌, ◌∷◌, List, [], Option, Some, None, refl, ap, ◌∙◌, subst}
use Rattle.trace_lane.proofs.Common.{Geometry, Need, IsNeed, Call, Reply, Op, LeadsBy, Made, Caller, IsAtRest, IsCall, KeepBlocks, HeldBlock, Outcome, AllMadeFor, Scripts}
use Rattle.trace_lane.proofs.Common.{map-append, register_of, held_in, registers_after, calls_made, leads-of, leads-split}
use Rattle.trace_lane.specs.Scripts.{IsOfNeed}
use Rattle.trace_lane.proofs.AnswerLemmas.{owned-need}
use Rattle.trace_lane.proofs.CallerLemmas.{Owns, caller-laws}
use Rattle.trace_lane.proofs.EachCall.{HoldsAll}
use Rattle.trace_lane.proofs.HoldsLemmas.{op-holds}

-- the calls of operations are those of their script, where who makes them owns blocks of needs that there are
module _ {S : Type 0} {called : S → Call → Reply → S → Type 0} {owns : S → ℕ → Need → Type 0} (laws : KeepBlocks called owns) (stands : S → Type 0) (next : (s t : S) (call : Call) (answer : Reply) → called s call answer t → stands t) (real : (s : S) (place : ℕ) (need : Need) → stands s → owns s place need → IsNeed need) where
  of-need :
      (registers : List (Option HeldBlock)) (r : ℕ) (slot : Option HeldBlock) (s : S) → stands s → HoldsAll owns s registers → held_in registers r ≡ slot
      → IsOfNeed slot
  of-need registers r None s is holds empty = tt
  of-need registers r (Some held) s is holds full = real s held.place held.need is (holds.owned r held full)

  pub all-script :
      (operations : List Op) (results : List Outcome) (registers : List (Option HeldBlock)) (made : List Made) (s t : S) → stands s
      → HoldsAll owns s registers → AllMadeFor registers operations results made → LeadsBy called s made t
      → Scripts registers operations results (calls_made made)
  all-script operations [] registers made s t is holds all leads = ap calls_made all
  all-script [] (result ∷ results) registers made s t is holds all leads = absurd all
  all-script (operation ∷ operations) (result ∷ results) registers made s t is holds (first, rest, cut, for, all) leads =
      let slot = held_in registers (register_of operation) in
      let parts = leads-split called s t first rest (subst (λ ms. LeadsBy called s ms t) cut leads) in
      let u = parts.0 in
      let held = op-holds laws s u registers operation result slot first holds refl for parts.1 in (
        calls_made first,
        calls_made rest,
        ap calls_made cut ∙ map-append (λ (m : Made). m.call) first rest,
        (of-need registers (register_of operation) slot s is holds refl, first, for, refl),
        all-script operations results (registers_after registers operation result) rest u t (leads-of called called (λ x. x) stands (λ x y call answer was one. (one, next x y call answer one)) first s u is parts.1).1 held all parts.2,
      )

-- so it is of a caller
pub caller-script :
    (g : Geometry) (operations : List Op) (results : List Outcome) (registers : List (Option HeldBlock)) (made : List Made) (c d : Caller) → IsAtRest g c
    → HoldsAll Owns c registers → AllMadeFor registers operations results made → LeadsBy (IsCall g) c made d
    → Scripts registers operations results (calls_made made)
caller-script g =
    all-script (caller-laws g) (IsAtRest g) (λ c d call answer one. one.rests)
    (λ c place need rests owned. owned-need g c.seen c.errand.caller place need rests.served.legal owned)
