-- Quiet steps at a stack: loads, and exchanges that are lost.
use Rattle.std.proofs.Common.{ℕ, ◌≡◌, ◌≢◌, ◌<◌, ◌-◌, List, [], ◌∷◌, refl, arith, ◌==◌, nat_le, if◌then◌else◌, eq-eqb, eqb-true, sym, subst}
use Rattle.std.proofs.lemmas.Bool.{cond_both, cond-true, eqb-false}
use Rattle.std.proofs.lemmas.List.Elements.{All-cons}
use Rattle.sound_state.proofs.Common.{Geometry, HeadFields, head_of, SeatFields, occurs, Pile, StackPoint, head_name, next_name, Stacked, next_in, Continuation, At, Stack}
use Rattle.sound_state.proofs.Common.{event_of, next_of, plan_point_of, State, holds_of, IsSo, recalls_of, head_word, pile_limit, after_below, Clear, enter_stack, list_of}
use Rattle.sound_state.proofs.Common.{continuation_recalls, End}
use Rattle.word_table.specs.declared.onward.Onward.TheVariants.{Stays, Leaves}
use Rattle.step_parts.specs.declared.stack.exit.StackExit.TheVariants as exit
use Rattle.step_parts.specs.declared.stack.point.StackPoint.TheVariants as stack
use Rattle.step_parts.specs.stack.Points.{after_top}
use Rattle.errand_steps.specs.Nexts.{found_empty}
use Rattle.sound_state.proofs.quiet.QuietExchanges.{lost-onward}
use Rattle.sound_state.proofs.quiet.QuietLemmas.{HoldsSame}
use Rattle.sound_state.proofs.quiet.QuietSteps.{LeadsOn, LeadsQuietly, leads-on, quiet-at, quietly, ends-quietly}
use Rattle.sound_state.proofs.shared.PointLemmas.{fits-at, so-at}
use Rattle.sound_state.proofs.shared.StackedLemmas.{top-exists, pile-exists, pile-stacked}
use Rattle.sound_state.proofs.shared.KeepsSound.{KeepsSound, KeepsSoundWhere}
use Rattle.errand_steps.specs.declared.continuation.Continuation.TheVariants as continuation
use Rattle.errand_steps.specs.declared.reply.Reply.TheVariants as reply

-- an index on top of a stack is in its list
top-listed : (next : ℕ → ℕ) (top : ℕ) (xs : List ℕ) → Stacked next top xs → top ≢ 0 → 0 < occurs (top - 1) xs
top-listed next top [] stack some = absurd (some stack)
top-listed next top (x ∷ xs) stack some =
    let here : x ≡ top - 1 = omega (arith, stack.0) in
    omega (arith, cond-true {A = ℕ} (x == top - 1) 1 0 (eq-eqb x (top - 1) here))

-- a caller with the same continuation holds the same at another point of a stack
pops-same :
    (p q : StackPoint) (o : Continuation) → holds_of (Stack q o) ≡ holds_of (Stack p o) → HoldsSame (Stack p o) (Stack q o)
pops-same p q o same = grind (arith, same)

-- the load of a head for a push keeps the state sound: its top exists
pub load_top_to_push-sound : (seat : SeatFields) (pile : Pile) (i : ℕ) (o : Continuation) → KeepsSound (Stack (stack.LoadTopToPush seat pile i) o)
unfolding plan_point_of next_of event_of holds_of recalls_of
load_top_to_push-sound seat pile i o =
    quietly _ (grind (arith))
    (λ g s caller has stands. record {
      plain = tt;
      holds = pops-same _ _ o refl;
      so = λ l old.
          let p = stack.LoadTopToPush seat pile i in
          let class = (fits-at g s l caller (Stack p o) old has stands).point.seat.class in
          All-cons (IsSo g s l caller) _ (continuation_recalls seat o)
          (top-exists (next_in s.word pile) (head_of (s.word (head_name seat pile))).top (pile_limit g pile) (list_of l seat pile)
          (pile-stacked g s l seat pile old.listed class) (pile-exists g s l seat pile old.listed class))
          (so-at g s l caller (Stack p o) old has stands);
    })

-- the load of the next word of the index on top leads quietly on: it is remembered as it is
below-leads-quietly :
    (g : Geometry) (s : State) (caller : ℕ) (seat : SeatFields) (pile : Pile) (h : HeadFields) (o : Continuation) → caller < g.callers
    → (s.errand caller).point ≡ Stack (stack.LoadBelow seat pile h) o
    → LeadsQuietly g s caller (Stack (stack.LoadBelow seat pile h) o)
    (At (Stack (after_below seat pile h (s.word (next_name pile (h.top - 1)))) o))
unfolding holds_of recalls_of
below-leads-quietly g s caller seat pile h o has stands =
    let p = stack.LoadBelow seat pile h in
    let below = s.word (next_name pile (h.top - 1)) in
    let q = stack.PopTop seat pile h below in
    cond_both (nat_le below (pile_limit seat.geometry pile)) q p (λ r. LeadsQuietly g s caller (Stack p o) (At (Stack r o)))
    (λ within. record {
      plain = tt;
      holds = pops-same p q o refl;
      so = λ l old.
          All-cons (IsSo g s l caller) _ (recalls_of (Stack p o)) (λ same. refl)
          (so-at g s l caller (Stack p o) old has stands);
    })
    (λ beyond. leads-on g s caller (Stack p o) _ has stands (record { plain = tt; holds = pops-same p p o refl; recalls = λ g s l caller so. so }))

pub load_below-sound : (seat : SeatFields) (pile : Pile) (h : HeadFields) (o : Continuation) → KeepsSound (Stack (stack.LoadBelow seat pile h) o)
unfolding plan_point_of next_of event_of
load_below-sound seat pile h o = quietly _ (grind (arith)) (λ g s caller. below-leads-quietly g s caller seat pile h o)

-- a pop from a stack that is lost, and begins again, keeps the state sound
pub pop_top_lost-sound :
    (seat : SeatFields) (pile : Pile) (h : HeadFields) (below : ℕ) (o : Continuation)
    → KeepsSoundWhere (Stack (stack.PopTop seat pile h below) o) (λ s. s.word (head_name seat pile) ≢ head_word h)
unfolding plan_point_of next_of event_of holds_of recalls_of
pop_top_lost-sound seat pile h below o =
    lost-onward _ _ _ _ refl (λ w. refl) (λ w. record { plain = tt; holds = pops-same _ (stack.LoadTop seat pile) o refl; recalls = λ g s l caller so. so.1.1 })

-- the look whether the stack is still empty keeps the state sound where it isn't
pub confirm_empty_lost-sound :
    (seat : SeatFields) (pile : Pile) (h : HeadFields) (o : Continuation)
    → KeepsSoundWhere (Stack (stack.ConfirmEmpty seat pile h) o) (λ s. s.word (head_name seat pile) ≢ head_word h)
unfolding plan_point_of next_of event_of holds_of recalls_of
confirm_empty_lost-sound seat pile h o =
    lost-onward _ _ _ _ refl (λ w. refl) (λ w. record { plain = tt; holds = pops-same _ (stack.LoadTop seat pile) o refl; recalls = λ g s l caller so. so })

-- a push onto a stack that is lost keeps the state sound
pub push_top_lost-sound :
    (seat : SeatFields) (pile : Pile) (i : ℕ) (h : HeadFields) (o : Continuation)
    → KeepsSoundWhere (Stack (stack.PushTop seat pile i h) o) (λ s. s.word (head_name seat pile) ≢ head_word h)
unfolding plan_point_of next_of event_of holds_of recalls_of
push_top_lost-sound seat pile i h o =
    lost-onward _ _ _ _ refl (λ w. refl) (λ w. record { plain = tt; holds = pops-same _ (stack.LoadTopToPush seat pile i) o refl; recalls = λ g s l caller so. so.1.1 })

-- a stack that is read empty leads on: an allocation looks again, and a clearing that has popped one superblock puts it back
empty-stack-leads :
    (seat : SeatFields) (pile : Pile) (h : HeadFields) (o : Continuation) → o ≢ Clear
    → LeadsOn (Stack (stack.LoadTop seat pile) o) (found_empty seat pile h o)
unfolding holds_of recalls_of
empty-stack-leads seat pile h o goes = grind (arith)

-- the load of a head for a pop leads quietly on: the index on top is in the list
top-leads-quietly :
    (g : Geometry) (s : State) (caller : ℕ) (seat : SeatFields) (pile : Pile) (o : Continuation) → caller < g.callers
    → (s.errand caller).point ≡ Stack (stack.LoadTop seat pile) o
    → (o ≡ Clear → (head_of (s.word (head_name seat pile))).top ≢ 0)
    → LeadsQuietly g s caller (Stack (stack.LoadTop seat pile) o) (enter_stack (after_top seat pile (head_of (s.word (head_name seat pile)))) o)
unfolding holds_of recalls_of
top-leads-quietly g s caller seat pile o has stands goes =
    let p = stack.LoadTop seat pile in
    let h = head_of (s.word (head_name seat pile)) in
    let q = stack.LoadBelow seat pile h in
    cond_both (h.top == 0) (Leaves (exit.FoundEmpty seat pile h)) (Stays (if nat_le h.top (pile_limit seat.geometry pile) then q else p))
    (λ r. LeadsQuietly g s caller (Stack p o) (enter_stack r o))
    (λ empty. leads-on g s caller (Stack p o) _ has stands (empty-stack-leads seat pile h o (λ is. goes is (eqb-true h.top 0 empty))))
    (λ some.
    cond_both (nat_le h.top (pile_limit seat.geometry pile)) q p (λ r. LeadsQuietly g s caller (Stack p o) (At (Stack r o)))
    (λ within. record {
      plain = tt;
      holds = pops-same p q o refl;
      so = λ l old.
          let class = (fits-at g s l caller (Stack p o) old has stands).point.class in
          All-cons (IsSo g s l caller) _ (continuation_recalls seat o)
          (record {
            tag = omega arith;
            top = λ same.
                top-listed (next_in s.word pile) h.top (list_of l seat pile) (pile-stacked g s l seat pile old.listed class)
                (eqb-false h.top 0 some);
          })
          (so-at g s l caller (Stack p o) old has stands);
    })
    (λ beyond. leads-on g s caller (Stack p o) _ has stands (record { plain = tt; holds = pops-same p p o refl; recalls = λ g s l caller so. so })))

pub load_top-sound :
    (seat : SeatFields) (pile : Pile) (o : Continuation)
    → KeepsSoundWhere (Stack (stack.LoadTop seat pile) o) (λ s. (o ≡ Clear → (head_of (s.word (head_name seat pile))).top ≢ 0))
unfolding plan_point_of next_of event_of
load_top-sound seat pile o g s caller s' sound has stands goes step =
    quiet-at g s caller s' (Stack (stack.LoadTop seat pile) o) sound has stands (record { event = refl; cleared = refl; word = refl })
    (top-leads-quietly g s caller seat pile o has stands goes) step

-- the load of an empty head by a clearing without a superblock ends its call, and keeps the state sound
clear-ends :
    (seat : SeatFields) (pile : Pile) (h : HeadFields) → h.top ≡ 0 → enter_stack (after_top seat pile h) continuation.Clear ≡ End reply.Freed
clear-ends seat pile h empty = rw empty refl

pub clear_ends-sound :
    (seat : SeatFields) (pile : Pile)
    → KeepsSoundWhere (Stack (stack.LoadTop seat pile) continuation.Clear) (λ s. (head_of (s.word (head_name seat pile))).top ≡ 0)
unfolding plan_point_of next_of event_of holds_of
clear_ends-sound seat pile g s caller s' sound has stands empty step =
    let h = head_of (s.word (head_name seat pile)) in
    quiet-at g s caller s' (Stack (stack.LoadTop seat pile) continuation.Clear) sound has stands (record { event = refl; cleared = refl; word = refl })
    (subst (LeadsQuietly g s caller (Stack (stack.LoadTop seat pile) continuation.Clear)) (sym (clear-ends seat pile h empty))
    (ends-quietly g s caller _ reply.Freed (grind (arith)))) step
