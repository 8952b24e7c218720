-- Operations that were made, with one more.
use Rattle.std.proofs.Common.{ℕ, ◌≡◌, ◌≢◌, ◌+◌, ◌∷◌, ◌++◌, List, [], Option, Some, None, length, drop, refl, sym, ap, ◌∙◌, subst, append_assoc, append-nil}
use Rattle.trace_lane.proofs.Common.{Need, Reply, Call, Op, HeldBlock, Outcome, LaneState, IsAtHand, AllMadeFor, LeadsBy, Made, Maker, HasRun, Makes, AllMade}
use Rattle.trace_lane.proofs.Common.{AreMisses, MadeFor, take, option_map, register_of, held_in, registers_after, held_by, held_blocks}
use Rattle.trace_lane.proofs.Common.{length-append, answered, leads-of, leads-split, registers_from}
use Rattle.std.proofs.lemmas.List.{drop-drop}
use Rattle.heap_geometry.specs.Need.{need_of}
use Rattle.errand_steps.specs.declared.reply.Reply.TheVariants as reply
use Rattle.lane_engine.proofs.LeadsLemmas.{leads-then}
use Rattle.lane_outcomes.specs.declared.outcome.Outcome.TheVariants as outcome
use Rattle.trace_lane.specs.Made.{IsUnasked, OneMade}

-- takes that missed, with one more
pub misses-more :
    (shelf : ℕ) (misses : List Made) (expected found : ℕ) → AreMisses shelf misses
    → AreMisses shelf (misses ++ answered (take shelf) (reply.Missed expected found) ∷ [])
misses-more shelf [] expected found are = (expected, found, refl, tt)
misses-more shelf (m ∷ misses) expected found are = (are.0, are.1, are.2, misses-more shelf misses expected found are.3)

-- all calls of operations, operation by operation
pub all-made :
    {S : Type 0} (called : S → Call → Reply → S → Type 0) (registers : List (Option HeldBlock)) (operations : List Op) (results : List Outcome)
    (made : List Made) (s t : S) → AllMadeFor registers operations results made → LeadsBy called s made t
    → AllMade called registers operations results s t
all-made called registers operations [] made s t all leads = subst (λ ms. LeadsBy called s ms t) all leads
all-made called registers [] (result ∷ results) made s t all leads = absurd all
all-made called registers (operation ∷ operations) (result ∷ results) made s t (first, rest, is, for, all) leads =
    let parts = leads-split called s t first rest (subst (λ ms. LeadsBy called s ms t) is leads) in (
      parts.0,
      (first, for, parts.1),
      all-made called (registers_after registers operation result) operations results rest parts.0 t all parts.2,
    )

pub made-calls :
    {S : Type 0} (called : S → Call → Reply → S → Type 0) (registers : List (Option HeldBlock)) (operations : List Op) (results : List Outcome) (s t : S)
    → AllMade called registers operations results s t → (made : List Made) × AllMadeFor registers operations results made × LeadsBy called s made t
made-calls called registers operations [] s t same = ([], refl, same)
made-calls called registers [] (result ∷ results) s t all = absurd all
made-calls called registers (operation ∷ operations) (result ∷ results) s t (u, (first, for, leads), all) =
    let rest = made-calls called (registers_after registers operation result) operations results u t all in
    (first ++ rest.0, (first, rest.0, refl, for, rest.1), leads-then called s u t first rest.0 leads rest.2)

-- operations of one kind of calls are operations of another one, on what their states stand for, as long as something holds of these
pub made-of :
    {S T : Type 0} (one : S → Call → Reply → S → Type 0) (other : T → Call → Reply → T → Type 0) (of : S → T) (P : S → Type 0)
    → ((s t : S) (call : Call) (answer : Reply) → P s → one s call answer t → other (of s) call answer (of t) × P t)
    → (registers : List (Option HeldBlock)) (operations : List Op) (results : List Outcome) (s t : S) → P s → AllMade one registers operations results s t
    → AllMade other registers operations results (of s) (of t) × P t
made-of one other of P step registers operations results s t is all =
    let (made, for, leads) = made-calls one registers operations results s t all in
    let so = leads-of one other of P step made s t is leads in
    (all-made other registers operations results made (of s) (of t) for so.0, so.1)

-- one operation more was made
pub all-for-more :
    (registers : List (Option HeldBlock)) (operations : List Op) (results : List Outcome) (made more : List Made) (operation : Op) (result : Outcome) (rest : List Op)
    → drop (length results) operations ≡ operation ∷ rest → AllMadeFor registers operations results made
    → MadeFor (held_in (registers_from registers operations results) (register_of operation)) operation result more
    → AllMadeFor registers operations (results ++ result ∷ []) (made ++ more)
all-for-more registers [] [] made more operation result rest next all one = absurd (cc)
all-for-more registers (o ∷ operations) [] made more operation result rest next all one =
    let same : operation ≡ o = cc in (
      more,
      [],
      ap (λ ms. ms ++ more) all ∙ sym (append-nil more),
      subst (λ p. MadeFor (held_in registers (register_of p)) p result more) same one,
      refl,
    )
all-for-more registers [] (r ∷ results) made more operation result rest next all one = absurd all
all-for-more registers (o ∷ operations) (r ∷ results) made more operation result rest next (first, others, is, for, all) one = (
  first,
  others ++ more,
  ap (λ ms. ms ++ more) is ∙ append_assoc first others more,
  for,
  all-for-more (registers_after registers o r) operations results others more operation result rest next all one,
)

-- the registers behind one operation more
pub from-more :
    (registers : List (Option HeldBlock)) (operations : List Op) (results : List Outcome) (operation : Op) (result : Outcome) (rest : List Op)
    → drop (length results) operations ≡ operation ∷ rest
    → registers_from registers operations (results ++ result ∷ []) ≡ registers_after (registers_from registers operations results) operation result
from-more registers [] [] operation result rest next = absurd (cc)
from-more registers (o ∷ operations) [] operation result rest next =
    let same : o ≡ operation = cc in ap (λ p. registers_after registers p result) same
from-more registers [] (r ∷ results) operation result rest next = absurd (cc)
from-more registers (o ∷ operations) (r ∷ results) operation result rest next =
    from-more (registers_after registers o r) operations results operation result rest next

-- a resize that asks for a block: its register holds one of another need
pub asked-full :
    {B : Type 0} (place_of : B → ℕ) (need_of_block : B → Need) (slot : Option B) (need : ℕ) (result : Option Outcome) → result ≡ None
    → IsUnasked (option_map (held_by place_of need_of_block) slot) need result
    → (block : B) × (slot ≡ Some block) × (need_of need ≢ need_of_block block)
asked-full place_of need_of_block None need result none unasked =
    absurd (let both : None ≡ Some outcome.Skipped = sym none ∙ unasked in cc)
asked-full place_of need_of_block (Some block) need None none unasked = (block, refl, unasked)
asked-full place_of need_of_block (Some block) need (Some result) none unasked = absurd (cc)

-- one operation more of a run
pub run-more :
    {B S : Type 0} (place_of : B → ℕ) (need_of_block : B → Need) (maker : Maker S)
    (operations : List Op) (s t u : S) (old mid new : LaneState B) (operation : Op) → HasRun place_of need_of_block maker.called operations s t old mid
    → IsAtHand operations mid.outcomes.items operation → Makes place_of need_of_block maker operation t u mid new
    → HasRun place_of need_of_block maker.called operations s u old new
run-more place_of need_of_block maker operations s t u old mid new operation ran (rest, next) makes =
    let rs = held_blocks place_of need_of_block old.registers.items in
    let begun = length old.outcomes.items in
    let left = drop begun operations in
    let count : begun + length ran.results ≡ length mid.outcomes.items =
    sym (length-append old.outcomes.items ran.results) ∙ ap length (sym ran.outcomes) in
    let here : drop (length ran.results) left ≡ operation ∷ rest =
    drop-drop (length ran.results) begun operations ∙ ap (λ n. drop n operations) count ∙ next in
    let one : OneMade maker.called (registers_from rs left ran.results) operation makes.result t u =
    subst (λ hs. OneMade maker.called hs operation makes.result t u) ran.registers makes.made in
    let all = made-calls maker.called rs left ran.results s t ran.made in
    record {
      results = ran.results ++ makes.result ∷ [];
      made =
          all-made maker.called rs left (ran.results ++ makes.result ∷ []) (all.0 ++ one.0) s u
          (all-for-more rs left ran.results all.0 one.0 operation makes.result rest here all.1 one.1)
          (leads-then maker.called s t u all.0 one.0 all.2 one.2);
      registers =
          makes.registers ∙ ap (λ hs. registers_after hs operation makes.result) ran.registers
          ∙ sym (from-more rs left ran.results operation makes.result rest here);
      outcomes =
          makes.results ∙ ap (λ xs. xs ++ makes.result ∷ []) ran.outcomes ∙ append_assoc old.outcomes.items ran.results (makes.result ∷ []);
      same_caller = makes.same_caller ∙ ran.same_caller;
      same_work = makes.same_work ∙ ran.same_work;
      room = makes.room ∙ ran.room;
    }
