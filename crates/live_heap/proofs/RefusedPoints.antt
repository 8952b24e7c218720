-- What a step has found that tells a look in vain or a refusal.
use Rattle.std.proofs.Common.{ℕ, Bool, true, false, ◌≡◌, Option, Some, None, refl, sym, ap, ◌∙◌, subst, arith}
use Rattle.std.specs.Prelude.{◌==◌, if◌then◌else◌, IsTrue}
use Rattle.std.proofs.lemmas.Bool.{eqb-true, false≢true}
use Rattle.std.proofs.lemmas.Option.{none-some}
use Rattle.heap_geometry.specs.declared.geometry.Geometry.{Geometry}
use Rattle.heap_geometry.specs.declared.need.Need.TheVariants.{Small, Large}
use Rattle.heap_geometry.specs.Need.{need_of}
use Rattle.packed_words.specs.Head.{HeadFields, IsHead, head_of, head_word}
use Rattle.packed_words.proofs.HeadLemmas.{head_of-head_word}
use Rattle.word_table.specs.declared.action.Found.{Found}
use Rattle.word_table.specs.declared.name.WordName.{WordName}
use Rattle.word_table.specs.declared.name.WordName.TheVariants.{FrameHead, ListHead}
use Rattle.word_table.specs.Actions.{found_by, name_of}
use Rattle.word_table.specs.Seats.{SeatFields}
use Rattle.step_parts.specs.declared.stack.point.Pile.TheVariants.{Frames, Partials}
use Rattle.step_parts.specs.declared.stack.point.StackPoint.TheVariants as stack
use Rattle.step_parts.specs.declared.large.point.LargePoint.TheVariants as large
use Rattle.step_parts.specs.large.Points.{after_take, first_wanted}
use Rattle.step_parts.specs.large.Runs.{WantFields}
use Rattle.pool_model.specs.declared.event.Event.{Event}
use Rattle.pool_model.specs.declared.event.Event.TheVariants as event
use Rattle.errand_steps.specs.declared.continuation.Continuation.{Continuation}
use Rattle.errand_steps.specs.declared.continuation.Continuation.TheVariants as continuation
use Rattle.errand_steps.specs.declared.next.Next.{Next}
use Rattle.errand_steps.specs.declared.next.Next.TheVariants as next
use Rattle.errand_steps.specs.declared.point.Point.{Point}
use Rattle.errand_steps.specs.declared.point.Point.TheVariants as point
use Rattle.errand_steps.specs.declared.reply.Reply.TheVariants as reply
use Rattle.errand_steps.specs.Begins.{IsIdle}
use Rattle.errand_steps.specs.Continuations.{confirms}
use Rattle.errand_steps.specs.Errands.{ErrandFields, after_list, after_turn, course_of, point_after, settle_of}
use Rattle.errand_steps.specs.tables.Blocks.{block_event}
use Rattle.errand_steps.specs.Events.{event_of, won_event}
use Rattle.errand_steps.specs.tables.LargeBlocks.{run_event}
use Rattle.errand_steps.specs.Fits.{FitsContinuation, FitsPoint}
use Rattle.errand_steps.specs.Nexts.{enter_large, next_of}
use Rattle.errand_steps.specs.Points.{asked, is_idle, plan_point_of}
use Rattle.errand_steps.specs.Steps.{State, event_at, found_at, word_at}
use Rattle.errand_steps.proofs.ContinuationLemmas.{run-asked}

-- the point's step is on this head, and finds an empty stack there
abbrev FindsEmpty : Point → ℕ → WordName → Type 0
FindsEmpty p n head = (name_of (plan_point_of p) ≡ head) × ((head_of n).top ≡ 0)

-- what a step has found that tells the event: a look in vain for a class finds its list empty, a refusal of a small need the stack of frames
abbrev Finds : Point → ℕ → Option Event → Type 0
Finds p n (Some (event.Looked by class)) = FindsEmpty p n (ListHead class)
Finds p n (Some (event.Refuse by words)) = (class : ℕ) → need_of words ≡ Small class → FindsEmpty p n FrameHead
Finds p n told = Unit {0}

-- a head that is found again has the same top
found-top : (word : ℕ) (h : HeadFields) → IsHead h → h.top ≡ 0 → (word == head_word h) ≡ true → (head_of word).top ≡ 0
found-top word h head none won =
    ap (λ w. (head_of w).top) (eqb-true word (head_word h) won) ∙ ap (λ (x : HeadFields). x.top) (head_of-head_word h head) ∙ none

-- what a point in a superblock tells, where the action is not lost; other points tell nothing there
abbrev told_in_block : ℕ → Point → Option Event
told_in_block caller (point.Block p o) = block_event caller (asked o) p
told_in_block caller p = None

-- what a point in a superblock tells is neither a look nor a refusal
block-finds : (q : Point) (n caller : ℕ) (p : Point) → Finds q n (told_in_block caller p)
block-finds q n caller p = grind (arith)

-- at a large block only a refusal of a large need is told
run-finds :
    (q : Point) (n caller : ℕ) (w : WantFields) (o : Continuation) (first : Option ℕ) → need_of (asked o) ≡ Large w.units
    → Finds q n (Some (run_event caller (asked o) w first))
run-finds q n caller w o None serves = λ class small. absurd (let t : Small class ≡ Large w.units = sym small ∙ serves in cc)
run-finds q n caller w o (Some unit) serves = tt

-- a step at any point has found what its event tells, where the action is not lost
point-finds :
    (g : Geometry) (k caller : ℕ) (p : Point) (n : ℕ) → FitsPoint g k p → (found_by (plan_point_of p) n).won ≡ true → Finds p n (won_event caller p)
unfolding plan_point_of
point-finds g k caller point.Idle n fits won = tt
point-finds g k caller (point.Block p o) n fits won = block-finds (point.Block p o) n caller (point.Block p o)
point-finds g k caller (point.Stack (stack.ConfirmEmpty s Frames h) o) n fits won =
    λ class small. (refl, found-top n h fits.point.head fits.point.top won)
point-finds g k caller (point.Stack (stack.ConfirmEmpty s Partials h) o) n fits won = (refl, found-top n h fits.point.head fits.point.top won)
point-finds g k caller (point.Stack p o) n fits won = tt
point-finds g k caller (point.Desc p o) n fits won = tt
point-finds g k caller (point.Partial p o) n fits won = tt
point-finds g k caller (point.Large (large.TakeRun w bits) o) n fits won =
    run-finds (point.Large (large.TakeRun w bits) o) n caller w o (first_wanted w bits) (run-asked w.units o fits.goes)
point-finds g k caller (point.Large p o) n fits won = tt

-- an action that is lost tells nothing
won-tells :
    (T : Option Event → Type 0) (won : Bool) (told : Option Event) (e : Event) → (won ≡ true → T told) → (if won then told else None) ≡ Some e
    → T (Some e)
won-tells T true told e so is = subst T is (so refl)
won-tells T false told e so is = absurd (none-some e is)

-- a caller's step in any state has found what its event tells
pub step-finds :
    (g : Geometry) (s : State) (k caller : ℕ) (e : Event) → FitsPoint g k (s.errand caller).point → event_at s caller ≡ Some e
    → Finds (s.errand caller).point (word_at s caller) (Some e)
unfolding event_of
step-finds g s k caller e fits is =
    won-tells (Finds (s.errand caller).point (word_at s caller)) (found_at s caller).won (won_event caller (s.errand caller).point) e
    (λ won. point-finds g k caller (s.errand caller).point (word_at s caller) fits won) is

-- a refusal of a large need ends the call
abbrev Ends : Next → Option Event → Type 0
Ends n (Some (event.Refuse by words)) = (units : ℕ) → need_of words ≡ Large units → n ≡ next.End reply.Refused
Ends n told = Unit {0}

block-ends : (n : Next) (caller : ℕ) (p : Point) → Ends n (told_in_block caller p)
block-ends n caller p = grind (arith)

-- who confirms that there is no frame has a small need
frames-small : (g : Geometry) (k : ℕ) (s : SeatFields) (o : Continuation) → IsTrue (confirms Frames o) → FitsContinuation g k s o → need_of (asked o) ≡ Small s.class
frames-small g k s (continuation.TakeFrame words d) goes fits = fits.0
frames-small g k s o goes fits = absurd (false≢true goes)

run-ends : (caller : ℕ) (w : WantFields) (o : Continuation) (first : Option ℕ) → Ends (enter_large (after_take w first) o) (Some (run_event caller (asked o) w first))
run-ends caller w o None = λ units is. refl
run-ends caller w o (Some unit) = tt

point-ends : (g : Geometry) (k caller : ℕ) (p : Point) (x : Found) → FitsPoint g k p → x.won ≡ true → Ends (next_of p x) (won_event caller p)
unfolding next_of
point-ends g k caller point.Idle x fits won = tt
point-ends g k caller (point.Block p o) x fits won = block-ends (next_of (point.Block p o) x) caller (point.Block p o)
point-ends g k caller (point.Stack (stack.ConfirmEmpty s Frames h) o) x fits won =
    λ units large. absurd (let t : Small s.class ≡ Large units = sym (frames-small g k s o fits.goes fits.continuation) ∙ large in cc)
point-ends g k caller (point.Stack (stack.ConfirmEmpty s Partials h) o) x fits won = tt
point-ends g k caller (point.Stack p o) x fits won = tt
point-ends g k caller (point.Desc p o) x fits won = tt
point-ends g k caller (point.Partial p o) x fits won = tt
point-ends g k caller (point.Large (large.TakeRun w bits) o) x fits won = rw won (run-ends caller w o (first_wanted w bits))
point-ends g k caller (point.Large p o) x fits won = tt

step-ends :
    (g : Geometry) (s : State) (k caller : ℕ) (e : Event) → FitsPoint g k (s.errand caller).point → event_at s caller ≡ Some e
    → Ends (next_of (s.errand caller).point (found_at s caller)) (Some e)
unfolding event_of
step-ends g s k caller e fits is =
    let p = (s.errand caller).point in
    won-tells (Ends (next_of p (found_at s caller))) (found_at s caller).won (won_event caller p) e
    (λ won. point-ends g k caller p (found_at s caller) fits won) is

-- a call that ends leaves its caller in none
end-idle : (e : ErrandFields) (x : Found) → next_of e.point x ≡ next.End reply.Refused → IsIdle (settle_of e x)
unfolding settle_of course_of
end-idle e x is = ap (λ n. is_idle (point_after (after_turn e (after_list e n)))) is

pub refusal-idle :
    (g : Geometry) (s : State) (k caller by words units : ℕ) → FitsPoint g k (s.errand caller).point → need_of words ≡ Large units
    → event_at s caller ≡ Some (event.Refuse by words) → IsIdle (settle_of (s.errand caller) (found_at s caller))
refusal-idle g s k caller by words units fits large is =
    end-idle (s.errand caller) (found_at s caller) (step-ends g s k caller (event.Refuse by words) fits is units large)
