-- An operation by whole calls: from what it asks for to what comes behind, and at last to its outcome.
use Rattle.std.proofs.Common.{ℕ, ◌≡◌, ◌<◌, ◌∷◌, ◌++◌, List, [], Option, length, refl, sym, ap, ◌∙◌, subst, arith, append-nil, append_assoc, vec_capacity}
use Rattle.trace_lane.proofs.Common.{Need, Reply, Call, KeepBlocks, LeadsBy, Made, Maker, HeldBlock, Op, IsOp, LaneState, HoldsBlocks, Makes, Outcome, held_blocks}
use Rattle.lane_engine.proofs.LeadsLemmas.{leads-then}
use Rattle.trace_lane.specs.declared.request.Answer.{Answer}
use Rattle.trace_lane.specs.declared.request.Next.{Next}
use Rattle.trace_lane.specs.declared.request.Next.TheVariants as onward
use Rattle.trace_lane.specs.declared.request.Request.{Request}
use Rattle.trace_lane.specs.Made.{Begins, ComesBehind, GoesFurther, GoesOn, IsAnswer, IsNext, MayGoFurther}
use Rattle.trace_lane.specs.Requests.{FitsRequest, HasBlocks, HasServed, next_held, request_held}
use Rattle.trace_lane.proofs.HoldsLemmas.{hold-held, makes}
use Rattle.trace_lane.proofs.OperationLemmas.{asks-fits, asks-owned}

-- what comes behind what comes behind
behind-then : (a b c : Next HeldBlock) → ComesBehind a b → ComesBehind b c → ComesBehind a c
behind-then (onward.Told result) b c same further = subst (λ n. ComesBehind n c) same further
behind-then (onward.Ask asked) (onward.Ask more) (onward.Ask most) first then = omega (arith, first, then)
behind-then (onward.Ask asked) b (onward.Told result) first then = tt
behind-then (onward.Ask asked) (onward.Told result) (onward.Ask most) first then = absurd (cc)

module _ {B S : Type 0} {place_of : B → ℕ} {block_need : B → Need} (operation : Op) where
  -- an operation has begun
  pub begun-further :
      {maker : Maker S} {s : S} (old mid : LaneState B) (next : Next B) → HoldsBlocks place_of block_need (maker.owns s) old.registers.items
      → Begins place_of block_need operation old.registers.items next mid.registers.items → MayGoFurther place_of block_need maker operation next s mid
  begun-further {s = s} old mid next holds begun =
      record { start = s; blocks = old.registers.items; made = []; holds = holds; leads = refl; is_next = begun }

  -- what it asks for is on blocks of its caller's
  pub may-serve :
      {maker : Maker S} {s : S} {lane : LaneState B} (request : Request B) → KeepBlocks maker.called maker.owns
      → MayGoFurther place_of block_need maker operation (onward.Ask request) s lane → HasBlocks (maker.owns s) (request_held place_of block_need request)
  may-serve {maker = maker} {s = s} {lane = lane} request laws may =
      asks-owned laws may.start s (held_blocks place_of block_need may.blocks) (held_blocks place_of block_need lane.registers.items)
      (hold-held place_of block_need (maker.owns may.start) may.blocks may.holds) operation (request_held place_of block_need request) may.made may.is_next may.leads

  -- and in its range
  pub may-fit :
      {maker : Maker S} {s : S} {lane : LaneState B} (request : Request B) → IsOp operation
      → MayGoFurther place_of block_need maker operation (onward.Ask request) s lane → FitsRequest (request_held place_of block_need request)
  may-fit {lane = lane} request is may =
      asks-fits (held_blocks place_of block_need may.blocks) (held_blocks place_of block_need lane.registers.items) operation (request_held place_of block_need request) may.made is
      may.is_next

  -- what it comes to is an answer to it
  pub may-answer :
      {maker : Maker S} {s t : S} {lane : LaneState B} (request : Request B) (told : Answer B)
      → MayGoFurther place_of block_need maker operation (onward.Ask request) s lane
      → HasServed place_of block_need maker.called s (request_held place_of block_need request) told t
      → IsAnswer place_of block_need operation lane.registers.items told
  may-answer request told may (more, serves, leads) =
      (held_blocks place_of block_need may.blocks, request_held place_of block_need request, may.made, more, may.is_next, serves)

  -- it is served, and goes on
  pub served-further :
      {maker : Maker S} {s t : S} {old new : LaneState B} (request : Request B) (told : Answer B) (then : Next B)
      → MayGoFurther place_of block_need maker operation (onward.Ask request) s old
      → HasServed place_of block_need maker.called s (request_held place_of block_need request) told t
      → GoesOn place_of block_need operation old.registers.items told then new.registers.items → new ≡ record old { registers = new.registers }
      → GoesFurther place_of block_need maker.called operation (onward.Ask request) s t old new then
  served-further request told then may (more, serves, leads) gone kept =
      let asked = request_held place_of block_need request in
      record {
        more = more;
        leads = leads;
        is_next = λ registers made asks. (gone registers asked made more asks serves).0;
        behind = (gone (held_blocks place_of block_need may.blocks) asked may.made more may.is_next serves).1;
        kept = kept;
      }

  -- an outcome stays
  pub told-further :
      {called : S → Call → Reply → S → Type 0} {s : S} {lane : LaneState B} (result : Outcome)
      → GoesFurther place_of block_need called operation (onward.Told result) s s lane lane (onward.Told result)
  told-further {lane = lane} result = record {
    more = [];
    leads = refl;
    is_next = λ registers made is.
        subst (λ ms. IsNext registers operation (next_held place_of block_need (onward.Told result)) ms (held_blocks place_of block_need lane.registers.items)) (sym (append-nil made)) is;
    behind = refl;
    kept = refl;
  }

  -- so far, and further
  pub may-further :
      {maker : Maker S} {s t : S} {old new : LaneState B} (asked then : Next B) → MayGoFurther place_of block_need maker operation asked s old
      → GoesFurther place_of block_need maker.called operation asked s t old new then → MayGoFurther place_of block_need maker operation then t new
  may-further {maker = maker} {s = s} {t = t} asked then may further = record {
    start = may.start;
    blocks = may.blocks;
    made = may.made ++ further.more;
    holds = may.holds;
    leads = leads-then maker.called may.start s t may.made further.more may.leads further.leads;
    is_next = further.is_next (held_blocks place_of block_need may.blocks) may.made may.is_next;
  }

  -- further, and further again
  pub further-then :
      {called : S → Call → Reply → S → Type 0} {s t u : S} {old mid new : LaneState B} (a b c : Next B)
      → GoesFurther place_of block_need called operation a s t old mid b → GoesFurther place_of block_need called operation b t u mid new c
      → GoesFurther place_of block_need called operation a s u old new c
  further-then {called = called} {s = s} {t = t} {u = u} {old = old} {mid = mid} {new = new} a b c first then = record {
    more = first.more ++ then.more;
    leads = leads-then called s t u first.more then.more first.leads then.leads;
    is_next = λ registers made is.
        subst (λ ms. IsNext registers operation (next_held place_of block_need c) ms (held_blocks place_of block_need new.registers.items)) (append_assoc made first.more then.more)
        (then.is_next registers (made ++ first.more) (first.is_next registers made is));
    behind = behind-then (next_held place_of block_need a) (next_held place_of block_need b) (next_held place_of block_need c) first.behind then.behind;
    kept = then.kept ∙ ap (λ (l : LaneState B). record l { registers = new.registers }) first.kept;
  }

  -- and has its outcome, which its lane notes
  pub further-makes :
      {maker : Maker S} {s t : S} {old mid last new : LaneState B} (next : Next B) (result : Outcome) → KeepBlocks maker.called maker.owns
      → HoldsBlocks place_of block_need (maker.owns s) old.registers.items
      → Begins place_of block_need operation old.registers.items next mid.registers.items → mid ≡ record old { registers = mid.registers }
      → GoesFurther place_of block_need maker.called operation next s t mid last (onward.Told result) → new ≡ record last { outcomes = new.outcomes }
      → new.outcomes.items ≡ last.outcomes.items ++ result ∷ [] → vec_capacity new.outcomes ≡ vec_capacity last.outcomes
      → Makes place_of block_need maker operation s t old new
  further-makes {old = old} {mid = mid} {last = last} {new = new} next result laws holds begun kept further rest outcomes room =
      let (for, now) = further.is_next (held_blocks place_of block_need old.registers.items) [] begun in
      let as_old = further.kept ∙ ap (λ (l : LaneState B). record l { registers = last.registers }) kept in
      makes laws holds operation result further.more for (ap (λ (l : LaneState B). held_blocks place_of block_need l.registers.items) rest ∙ now) further.leads
      (outcomes ∙ ap (λ (l : LaneState B). l.outcomes.items ++ result ∷ []) as_old)
      (ap (λ (l : LaneState B). l.caller) rest ∙ ap (λ (l : LaneState B). l.caller) as_old)
      (ap (λ (l : LaneState B). l.work) rest ∙ ap (λ (l : LaneState B). l.work) as_old)
      (room ∙ ap (λ (l : LaneState B). vec_capacity l.outcomes) as_old)
