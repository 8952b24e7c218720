-- What a step at a stack leaves to do.
use Rattle.std.proofs.Common.{ℕ, ◌≡◌, ◌<◌, ◌≤◌, arith, sym, subst, inr, IsTrue}
use Rattle.sound_state.proofs.Common.{Geometry, HeadFields, head_of, SeatFields, Pile, StackPoint, head_name, next_in, Continuation, Stack, next_of, plan_point_of, State}
use Rattle.sound_state.proofs.Common.{IsSoundWithoutCounts}
use Rattle.word_table.specs.Sites.{IsSeatOf}
use Rattle.step_parts.specs.declared.stack.point.StackPoint.TheVariants as stack
use Rattle.step_parts.specs.stack.Piles.{pile_limit}
use Rattle.step_parts.specs.stack.Points.{after_top}
use Rattle.errand_steps.specs.Nexts.{enter_stack, found_empty}
use Rattle.errand_steps.specs.Continuations.{pops}
use Rattle.sound_state.specs.Recalls.{list_of}
use Rattle.sound_laws.specs.bounds.StepsLeft.{steps_left}
use Rattle.errand_steps.specs.tables.Lengths.{top_left}
use Rattle.sound_laws.proofs.bounds_lemmas.LeftDefs.{LeavesLess, next_left}
use Rattle.sound_state.proofs.shared.PointLemmas.{fits-now}
use Rattle.sound_state.proofs.shared.StackedLemmas.{pile-stacked, pile-exists, top-exists}
use Rattle.std.proofs.lemmas.Bool.Decides.{nat_tests}
use Rattle.sound_laws.proofs.bounds_lemmas.WordFinds.{says-at}

-- a stack that is read empty leads to fewer steps left than before its load
empty-less :
    (g : Geometry) (s : SeatFields) (pile : Pile) (h : HeadFields) (o : Continuation) → IsTrue (pops pile o)
    → next_left g (found_empty s pile h o) < top_left g s o
unfolding steps_left
empty-less g s pile h o goes = grind (arith, goes)

-- a head that is read for a pop leads to fewer steps left than before its load
top-less :
    (g : Geometry) (s : SeatFields) (pile : Pile) (h : HeadFields) (o : Continuation) → IsTrue (pops pile o) → h.top ≤ pile_limit s.geometry pile
    → next_left g (enter_stack (after_top s pile h) o) < top_left g s o
unfolding steps_left
top-less g s pile h o goes most = grind (arith, goes, most, empty-less g s pile h o goes)

-- the top of a stack is an index that the heap has, or 0
top-within :
    (g : Geometry) (s : State) (caller : ℕ) (seat : SeatFields) (pile : Pile) → IsSoundWithoutCounts g s → IsSeatOf g caller seat
    → (head_of (s.word (head_name seat pile))).top ≤ pile_limit seat.geometry pile
top-within g s caller seat pile sound is =
    let l = sound.parts.0 in
    let listed = sound.parts.1.listed in
    subst (λ k. (head_of (s.word (head_name seat pile))).top ≤ pile_limit k pile) (sym is.geometry)
    (top-exists (next_in s.word pile) (head_of (s.word (head_name seat pile))).top (pile_limit g pile) (list_of l seat pile)
    (pile-stacked g s l seat pile listed is.class) (pile-exists g s l seat pile listed is.class))

-- a step at a stack is lost or leaves less to do
pub stack-leaves :
    (g : Geometry) (s : State) (caller : ℕ) (p : StackPoint) (o : Continuation) → IsSoundWithoutCounts g s → caller < g.callers
    → (s.errand caller).point ≡ Stack p o → LeavesLess g s (Stack p o)
unfolding plan_point_of next_of steps_left
stack-leaves g s caller (stack.LoadTop seat pile) o sound has stands =
    let fits = fits-now g s caller (Stack (stack.LoadTop seat pile) o) sound has stands in
    inr (inr (top-less g seat pile (head_of (s.word (head_name seat pile))) o fits.goes (top-within g s caller seat pile sound fits.point)))
stack-leaves g s caller p o sound has stands =
    grind (arith, nat_tests, fits-now g s caller (Stack p o) sound has stands, says-at g s caller (Stack p o) sound has stands)
