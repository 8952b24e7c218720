-- What a lane has made, with one call or one operation more.
use Rattle.std.proofs.Common.{ℕ, ◌≡◌, ◌≢◌, ◌∷◌, ◌++◌, List, [], Option, Some, None, length, drop, replicate, refl, sym, ap, ◌∙◌, subst, arith, append-nil}
use Rattle.trace_lane.proofs.Common.{Need, Call, Made, REGISTERS, Op, NextCall, HeldBlock, Outcome, LaneState, Work, DoingOf, ComesTo, IsAtHand, DoingIn}
use Rattle.trace_lane.proofs.Common.{AllMadeFor, IsMaking, call_in, registers_from, option_map, length-append, call_of}
use Rattle.trace_lane.specs.Advances.{blocks_of, work_of}
use Rattle.trace_lane.proofs.MadeLemmas.{all-for-more, from-more}
use Rattle.trace_lane.specs.Works.{work_held}
use Rattle.trace_lane.proofs.NeedLemmas.{here-below}

-- registers that hold nothing
abbrev pub empty : List (Option HeldBlock)
empty = replicate REGISTERS None

-- the operation at hand is under way
pub record IsAtWork (operations : List Op) (registers : List (Option HeldBlock)) (results : List Outcome) (operation : Op) (at : Option (Work HeldBlock)) (made : List Made)
    (under : Option Call) : Type 0 where
  pub past : List Made
  pub present : List Made
  pub all : made ≡ past ++ present
  pub ended : AllMadeFor empty operations results past
  pub work : Work HeldBlock
  pub at_is : at ≡ Some work
  pub doing : DoingOf (registers_from empty operations results) registers operation (Some work) present
  pub call : under ≡ Some (call_in work)

work-in :
    (before registers : List (Option HeldBlock)) (left : List Op) (operation : Op) (rest : List Op) (at : Option (Work HeldBlock)) (present : List Made) (under : Option Call)
    → left ≡ operation ∷ rest → under ≢ None → DoingIn before registers left at present under
    → (work : Work HeldBlock) × (at ≡ Some work) × DoingOf before registers operation (Some work) present × (under ≡ Some (call_in work))
work-in before registers left operation rest None present under next some doing = absurd (some doing.2)
work-in before registers left operation rest (Some work) present under next some (o, others, is, doing, call) =
    let same : o ≡ operation = let e = is in let f = next in cc in
    (work, refl, subst (λ o. DoingOf before registers o (Some work) present) same doing, call)

pub making-work :
    (operations : List Op) (registers : List (Option HeldBlock)) (results : List Outcome) (at : Option (Work HeldBlock)) (made : List Made) (under : Option Call)
    (operation : Op) → IsAtHand operations results operation → under ≢ None → IsMaking operations registers results at made under
    → IsAtWork operations registers results operation at made under
making-work operations registers results at made under operation (rest, next) some m =
    let w =
    work-in (registers_from empty operations results) registers (drop (length results) operations) operation rest at m.present under next some m.doing in
    record { past = m.past; present = m.present; all = m.all; ended = m.ended; work = w.0; at_is = w.1; doing = w.2; call = w.3 }

-- between two operations nothing is under way
pub making-between :
    (operations : List Op) (registers : List (Option HeldBlock)) (results : List Outcome) (at : Option (Work HeldBlock)) (made : List Made) (under : Option Call)
    → at ≡ None → IsMaking operations registers results at made under
    → (registers ≡ registers_from empty operations results) × AllMadeFor empty operations results made × (under ≡ None)
making-between operations registers results at made under between m =
    let doing : DoingIn (registers_from empty operations results) registers (drop (length results) operations) None m.present under =
    subst (λ a. DoingIn (registers_from empty operations results) registers (drop (length results) operations) a m.present under) between m.doing in (
      doing.0,
      subst (AllMadeFor empty operations results) (sym (m.all ∙ ap (λ ms. m.past ++ ms) doing.1 ∙ append-nil m.past)) m.ended,
      doing.2,
    )

-- an operation comes to its next call, or to its outcome
module _ {B : Type 0} (place_of : B → ℕ) (block_need : B → Need) where
  pub comes-making :
      (operations : List Op) (results : List Outcome) (operation : Op) (past present : List Made) (next : Option NextCall) (new : LaneState B)
      → IsAtHand operations results operation → AllMadeFor empty operations results past
      → ComesTo place_of block_need operation (registers_from empty operations results) results present next new
      → IsMaking operations (blocks_of place_of block_need new) new.outcomes.items (work_of place_of block_need new) (past ++ present) (option_map call_of next)
  comes-making operations results operation past present (Some call) new (rest, at_hand) ended (same, at, at_is, doing, is) =
      let before = registers_from empty operations results in
      let blocks = blocks_of place_of block_need new in
      let within = here-below operations rest results operation at_hand in
      subst (λ w. IsMaking operations blocks new.outcomes.items w (past ++ present) (Some (call_of call))) (sym at_is)
      (subst (λ os. IsMaking operations blocks os (Some at) (past ++ present) (Some (call_of call))) (sym same)
      (record {
        within = omega (arith, within);
        past = past;
        present = present;
        all = refl;
        ended = ended;
        doing = (operation, rest, at_hand, doing, ap Some is);
      }))
  comes-making operations results operation past present None new (rest, at_hand) ended (result, outcomes, between, for, registers) =
      let before = registers_from empty operations results in
      let blocks = blocks_of place_of block_need new in
      let within = here-below operations rest results operation at_hand in
      let longer = length-append results (result ∷ []) in
      subst (λ os. IsMaking operations blocks os (work_of place_of block_need new) (past ++ present) None) (sym outcomes)
      (subst (λ at. IsMaking operations blocks (results ++ result ∷ []) at (past ++ present) None) (sym (ap (option_map (work_held place_of block_need)) between))
      (record {
        within = omega (arith, within, longer);
        past = past ++ present;
        present = [];
        all = sym (append-nil (past ++ present));
        ended = all-for-more empty operations results past present operation result rest at_hand ended for;
        doing = (registers ∙ sym (from-more empty operations results operation result rest at_hand), refl, refl);
      }))
