-- The step that a call makes without its errand, where it is not lost.
use Rattle.std.proofs.Common.{ℕ, true, false, not, arith, Option, None, Some, is_some, ◌≡◌, ◌<◌, refl, sym, ap, ◌∙◌, subst}
use Rattle.std.proofs.lemmas.Bool.{true≢false}
use Rattle.std.proofs.lemmas.Option.{none-some}
use Rattle.word_table.specs.declared.action.Action.{Action}
use Rattle.word_table.specs.declared.action.Action.TheVariants.{And, Cas, Load, Store, Swap}
use Rattle.word_table.specs.declared.action.Found.{Found as Find}
use Rattle.word_table.specs.declared.onward.Onward.{Onward}
use Rattle.word_table.specs.declared.onward.Onward.TheVariants.{Stays, Leaves}
use Rattle.word_table.specs.Onwards.{exit_by, point_by}
use Rattle.step_parts.specs.declared.superblock.exit.BlockExit.{BlockExit}
use Rattle.step_parts.specs.declared.superblock.point.BlockPoint.{BlockPoint}
use Rattle.step_parts.specs.declared.superblock.point.BlockPoint.TheVariants as block
use Rattle.heap_geometry.specs.declared.geometry.Geometry.{Geometry}
use Rattle.step_parts.specs.superblock.Points.{plan_block_of, settle_block_of}
use Rattle.errand_steps.specs.declared.continuation.Continuation.{Continuation}
use Rattle.errand_steps.specs.declared.next.Next.TheVariants as next
use Rattle.errand_steps.specs.declared.point.Point.{Point}
use Rattle.errand_steps.specs.declared.point.Point.TheVariants as point
use Rattle.errand_steps.specs.declared.reply.Progress.TheVariants.{Done, More}
use Rattle.errand_steps.specs.declared.told.Ending.{Ending}
use Rattle.errand_steps.specs.Begins.{IsIdle}
use Rattle.errand_steps.specs.Calls.{Call}
use Rattle.errand_steps.specs.Errands.{ErrandFields, IsErrand, answer_of, counts_lost, counts_won, course_of, is_lost_exchange, plan_of, raised, settle_of}
use Rattle.errand_steps.specs.Nexts.{enter_block, leave_block, next_of}
use Rattle.errand_steps.specs.Points.{plan_point_of}
use Rattle.errand_steps.proofs.StayLemmas.{ended_answer, ended_errand}
use Rattle.sound_state.specs.Runs.{MayBegin}
use Rattle.errand_steps.proofs.BegunErrands.{idle-is}
use Rattle.live_heap.specs.declared.block.Block.{Block}
use Rattle.live_heap.specs.Heaps.{HeapFields}
use Rattle.live_heap.specs.declared.pass.Pass.{Pass}
use Rattle.live_heap.specs.Answers.{reply_in, reply_of}
use Rattle.live_heap.specs.Calls.{GoesOn, IsCalling}
use Rattle.live_heap.specs.Going.{EndsBy, HasGone, HasWalked, IsWalking, LinksNone, at_block, in_call, stands_at}
use Rattle.live_heap.specs.declared.view.View.{View}
use Rattle.live_heap.specs.Pieces.{IsReady}
use Rattle.live_heap.specs.Passes.{IsOf, seen}
use Rattle.live_heap.specs.Sights.{after_events, found_in}
use Rattle.live_heap.proofs.Begun.{CallsHome, begins-of}
use Rattle.live_heap.proofs.CallsCounts.{going-ends, going-first, going-further, going-grows}
use Rattle.live_heap.proofs.Stepped.{still-of, took-access, took-step}

pub planned-at : (e : ErrandFields) (p : BlockPoint) (o : Continuation) → plan_block_of p ≡ plan_of (at_block e p o)
unfolding plan_point_of
planned-at e p o = refl

-- an action that is won loses no exchange
won-kept : (action : Action) (x : Find) → x.won ≡ true → is_lost_exchange action x ≡ false
won-kept (Load name) x won = refl
won-kept (Store name new) x won = refl
won-kept (Cas name expected new) x won = ap not won
won-kept (Swap name new) x won = refl
won-kept (And name mask) x won = refl

kept : (p : BlockPoint) (o : Continuation) (x : Find) → x.won ≡ true → counts_lost (point.Block p o) x ≡ false
unfolding plan_point_of
kept p o x won = won-kept (plan_block_of p) x won

-- where it links none, the step is the first to use no piece
pub links-none-ready : (g : Geometry) (p : BlockPoint) (o : Continuation) (v : View) → LinksNone p → IsReady g (point.Block p o) v
links-none-ready g (block.LinkBlock at i) o v none k opens = absurd none
links-none-ready g p o v none k opens = absurd opens

-- no step but one that links blocks leads to one that does
stays-apart : (p : BlockPoint) (x : Find) → LinksNone p → LinksNone (point_by p (settle_block_of p x))
stays-apart p x apart = grind (arith)

-- an errand with what a step wins counted
abbrev pub counted : ErrandFields → BlockPoint → Find → ErrandFields
counted e p x = record e { won = raised (counts_won (plan_block_of p) x) e.won }

pub no-exit : (exit : Option BlockExit) → is_some exit ≡ false → exit ≡ None
no-exit None none = refl
no-exit (Some e) none = absurd (true≢false none)

-- where no exit is taken the caller stands at the next point; where one is, it leaves by that
stays-at :
    (p : BlockPoint) (w : Onward BlockPoint BlockExit) (o : Continuation) → exit_by w ≡ None → enter_block w o ≡ next.At (point.Block (point_by p w) o)
stays-at p (Stays q) o inside = refl
stays-at p (Leaves e) o inside = absurd (none-some e (sym inside))

leaves-by :
    (w : Onward BlockPoint BlockExit) (e : BlockExit) (o : Continuation) → exit_by w ≡ Some e → enter_block w o ≡ leave_block e o
leaves-by (Stays q) e o left = absurd (none-some e left)
leaves-by (Leaves f) e o left = grind (arith)

-- a step that takes no exit leads to another point of the superblock
stays-answer :
    (e : ErrandFields) (p : BlockPoint) (o : Continuation) (x : Find) → exit_by (settle_block_of p x) ≡ None → x.won ≡ true
    → More ≡ answer_of (at_block e p o) x
unfolding answer_of course_of next_of
stays-answer e p o x inside won =
    let to = stays-at p (settle_block_of p x) o inside in
    rw (to, kept p o x won) refl

stays-errand :
    (e : ErrandFields) (p q : BlockPoint) (o : Continuation) (x : Find) → q ≡ point_by p (settle_block_of p x)
    → exit_by (settle_block_of p x) ≡ None → x.won ≡ true → settle_of (at_block e p o) x ≡ at_block (counted e p x) q o
unfolding settle_of course_of next_of plan_point_of
stays-errand e p q o x is inside won =
    let to = stays-at p (settle_block_of p x) o inside in
    rw (is, to, kept p o x won) refl

-- a step that takes an exit at which its call ends leads to that end
ends-next :
    (p : BlockPoint) (o : Continuation) (x : Find) (ending : Ending Block) → EndsBy (exit_by (settle_block_of p x)) ending
    → next_of (point.Block p o) x ≡ next.End (reply_of ending)
unfolding next_of
ends-next p o x ending (e, left, ends) = leaves-by (settle_block_of p x) e o left ∙ ends o

module _
    (h : HeapFields) (start : Pass) (tries : ℕ) (p : BlockPoint) (o : Continuation) (x : Find) (r : Pass)
    (w : HasWalked h start tries p o x r) where
  abbrev before : Pass
  before = stands_at (record { seat = w.seat; errand = r.errand; out = r.out }) p o

  abbrev n : ℕ
  n = w.has.0

  pub strides :
      x.won ≡ true → exit_by (settle_block_of p x) ≡ None → (q : BlockPoint) → q ≡ point_by p (settle_block_of p x) → (f : ErrandFields)
      → f ≡ counted r.errand p x → IsWalking h start tries q o (record { seat = r.seat; errand = f; out = r.out })
  strides won inside q is f counts =
      let at : ErrandFields = counted r.errand p x in
      let after : Pass = stands_at (record { seat = r.seat; errand = at; out = r.out }) q o in
      let settled : after.errand ≡ settle_of before.errand (found_in before.errand n) = sym (stays-errand r.errand p q o x is inside won) ∙ w.has.2 in
      let told : More ≡ answer_of before.errand (found_in before.errand n) = stays-answer r.errand p o x inside won ∙ w.has.3 in
      let goes : IsWalking h start tries q o (record { seat = r.seat; errand = at; out = r.out }) =
      record {
        of = still-of h before after n w.walks.of w.table w.empty refl settled w.has.1;
        going = going-further h start tries tries before after w.walks.of w.walks.some w.walks.going (took-step before after n More settled told w.has.1)
            (took-access before.errand before after n w.has.1);
        idle = w.walks.idle;
        rule = subst IsErrand (sym settled) w.has.1.served.own_errand.rule;
        some = w.walks.some;
        links_none = subst LinksNone (sym is) (stays-apart p x w.walks.links_none);
      } in
      subst (λ d. IsWalking h start tries q o (record { seat = r.seat; errand = d; out = r.out })) (sym counts) goes

  pub finishes :
      x.won ≡ true → (ending : Ending Block) → EndsBy (exit_by (settle_block_of p x)) ending → (f : ErrandFields) → f ≡ counted r.errand p x
      → HasGone h start tries (Some ending) (record { seat = r.seat; errand = f; out = r.out })
  finishes won ending by f counts =
      let after : Pass = record { seat = r.seat; errand = f; out = r.out } in
      let at : ErrandFields = counted r.errand p x in
      let ends = ends-next p o x ending by in
      let idle : at ≡ record at { point = point.Idle } = ap (λ (i : Point). record at { point = i }) (idle-is r.errand.point w.walks.idle) in
      let settled : after.errand ≡ settle_of before.errand (found_in before.errand n) =
      counts ∙ (idle
      ∙ (ended_errand before.errand x (reply_of ending) (plan_block_of p) at.won r.errand.lost r.errand.cleared ends (planned-at r.errand p o) refl
      (ap (λ b. raised b r.errand.lost) (sym (kept p o x won))) refl
      ∙ w.has.2)) in
      let told : Done (reply_of ending) ≡ answer_of before.errand (found_in before.errand n) =
      sym (ended_answer before.errand x (reply_of ending) ends) ∙ w.has.3 in
      let moment = took-step before after n (Done (reply_of ending)) settled told w.has.1 in
      record {
        of = still-of h before after n w.walks.of w.table w.empty refl settled w.has.1;
        grows = going-grows h start tries tries before after w.walks.of w.walks.some w.walks.going (Done (reply_of ending)) moment;
        goes = going-ends h start tries tries before after w.walks.of w.walks.some w.walks.going (reply_of ending) moment
            (took-access before.errand before after n w.has.1);
      }

-- a call that begins, and would stand at this point then
module _
    (p : Pass) (call : Call) (q : Pass) (first : BlockPoint) (o : Continuation) (same : stands_at q first o ≡ in_call p call) where
  pub walk-begins :
      (h : HeapFields) (tries : ℕ) → IsOf h p → IsIdle p.errand → MayBegin (after_events (seen p)) p.errand.caller call → CallsHome p call → IsIdle q.errand
      → IsErrand (in_call p call).errand → 0 < tries → LinksNone first → IsWalking h (stands_at q first o) tries first o q
  walk-begins h tries of idle may home idle_then rule some links_none =
      let still : IsOf h (stands_at q first o) = subst (IsOf h) (sym same) (begins-of h p (in_call p call) call of idle may home refl refl refl) in
      record {
        of = still;
        going = going-first h (stands_at q first o) tries still refl some;
        idle = idle_then;
        rule = subst IsErrand (ap (λ (b : Pass). b.errand) (sym same)) rule;
        some = some;
        links_none = links_none;
      }

  -- a call that has begun has gone on as it did from its first point
  pub walk-goes :
      (h : HeapFields) (tries : ℕ) (told : Option (Ending Block)) (r : Pass) → IsCalling p call 0 (in_call p call)
      → HasGone h (stands_at q first o) tries told r → GoesOn p call 0 (in_call p call) tries (reply_in told) r
  walk-goes h tries told r calling gone =
      subst (λ b. GoesOn p call 0 b tries (reply_in told) r) same
      (gone.goes p call 0 (subst (IsCalling p call 0) (sym same) calling))
