-- Steps at the available descriptors that keep the state sound.
use Rattle.std.proofs.Common.{ℕ, Option, Some, None, ◌≡◌, ◌≢◌, ◌<◌, ◌+◌, [], refl, arith, All, ne_eqb}
use Rattle.std.proofs.lemmas.List.Elements.{All-cons, All-from_recursion}
use Rattle.sound_state.proofs.Common.{Geometry, SeatFields, DescPoint, Continuation, At, Desc, event_of, next_of, plan_point_of, State, holds_of, Lists, recalls_of, IsSo}
use Rattle.sound_state.proofs.Common.{IsSoundWith, waits_in, after_next}
use Rattle.word_table.specs.declared.name.WordName.TheVariants as name
use Rattle.step_parts.specs.declared.hazard.point.DescPoint.TheVariants as desc
use Rattle.step_parts.specs.hazard.Points.{link_in}
use Rattle.sound_state.proofs.quiet.QuietExchanges.{lost-onward, lost-steady}
use Rattle.sound_state.proofs.quiet.QuietSteps.{StepsSteadily, LeadsQuietly, leads-on, onward, quietly, steady-at}
use Rattle.sound_state.proofs.shared.PointLemmas.{HoldsBlocks, blocks-go, none-kept-as, so-at, weigh-stays, recalled-at}
use Rattle.sound_state.proofs.shared.WordFacts.{link-some}
use Rattle.sound_state.proofs.shared.KeepsSound.{KeepsSound, KeepsSoundWhere}

-- the load of the head of the available descriptors for a pop keeps the state sound
pub load_desc_head-sound : (seat : SeatFields) (o : Continuation) → KeepsSound (Desc (desc.LoadDescHead seat) o)
unfolding plan_point_of next_of event_of holds_of recalls_of
load_desc_head-sound seat o = onward _ (grind (arith)) (λ w. grind (arith))

-- what the name of the descriptor below leads to
next-leads :
    (g : Geometry) (s : State) (caller : ℕ) (seat : SeatFields) (d : ℕ) (o : Continuation) (next : Option ℕ) → caller < g.callers
    → (s.errand caller).point ≡ Desc (desc.LoadNextDesc seat d) o → link_in seat.geometry (s.word (name.Next d)) ≡ next
    → LeadsQuietly g s caller (Desc (desc.LoadNextDesc seat d) o) (At (Desc (after_next seat d next) o))
unfolding holds_of recalls_of
next-leads g s caller seat d o None has stands is = leads-on g s caller _ _ has stands (grind (arith))
next-leads g s caller seat d o (Some next) has stands is = record {
  plain = tt;
  holds = grind (arith);
  so = λ l old.
      All-cons (IsSo g s l caller) _ (recalls_of (Desc (desc.LoadNextDesc seat d) o)) (λ on. link-some seat.geometry (s.word (name.Next d)) next is)
      (so-at g s l caller (Desc (desc.LoadNextDesc seat d) o) old has stands);
}

-- the load of the name of the descriptor below keeps the state sound
pub load_next_desc-sound : (seat : SeatFields) (d : ℕ) (o : Continuation) → KeepsSound (Desc (desc.LoadNextDesc seat d) o)
unfolding plan_point_of next_of event_of
load_next_desc-sound seat d o = quietly _ (grind (arith)) (λ g s caller has stands. next-leads g s caller seat d o _ has stands refl)

-- a caller whose descriptor isn't on top any more reads the head again, its hazard word as a lost pop leaves it
reads-again :
    (g : Geometry) (s : State) (caller : ℕ) (p : DescPoint) (seat : SeatFields) (o : Continuation) → caller < g.callers → (s.errand caller).point ≡ Desc p o
    → HoldsBlocks (Desc p o) (Desc (desc.LoadDescHead seat) o) → (holds_of (Desc p o)).credits ≡ [] → (holds_of (Desc p o)).kept ≡ []
    → (holds_of (Desc p o)).frames ≡ [] → ((class : ℕ) → waits_in class (Desc (desc.LoadDescHead seat) o) ≡ waits_in class (Desc p o))
    → ((l : Lists) → IsSoundWith g s l → All (IsSo g s l caller) (recalls_of (Desc (desc.LoadDescHead seat) o)))
    → StepsSteadily g s caller (Desc p o) (At (Desc (desc.LoadDescHead seat) o))
unfolding holds_of recalls_of
reads-again g s caller p seat o has stands blocks credits kept frames waits so =
    grind (arith, has, stands, blocks, credits, kept, frames, waits, so, weigh-stays, blocks-go, none-kept-as)

-- a pop that finds another descriptor on top keeps the state sound: the hazard word still names the one that was
pub pop_desc_lost-sound :
    (seat : SeatFields) (d next : ℕ) (o : Continuation) → KeepsSoundWhere (Desc (desc.PopDesc seat d next) o) (λ s. s.word name.DescHead ≢ d + 1)
unfolding plan_point_of next_of event_of holds_of recalls_of
pop_desc_lost-sound seat d next o g s caller s' sound has stands lost step =
    let p = desc.PopDesc seat d next in
    lost-steady g s caller s' (Desc p o) name.DescHead _ _ sound has stands refl refl
    (reads-again g s caller p seat o has stands (grind (arith)) refl refl refl (λ class. refl)
    (λ l old.
    let (so_next, rest) = recalled-at g s l caller (Desc p o) old has stands in
    All-from_recursion (IsSo g s l caller) (recalls_of (Desc (desc.LoadDescHead seat) o)) rest)) lost step

-- the load of the head of the available descriptors for a push keeps the state sound
pub load_head_to_push-sound : (seat : SeatFields) (d : ℕ) (o : Continuation) → KeepsSound (Desc (desc.LoadHeadToPush seat d) o)
unfolding plan_point_of next_of event_of holds_of recalls_of
load_head_to_push-sound seat d o = onward _ (grind (arith)) (λ w. grind (arith))

-- a push of a descriptor that is lost, since the head isn't what it was, keeps the state sound
pub push_desc_lost-sound :
    (seat : SeatFields) (d top : ℕ) (o : Continuation) → KeepsSoundWhere (Desc (desc.PushDesc seat d top) o) (λ s. s.word name.DescHead ≢ top)
unfolding plan_point_of next_of event_of holds_of recalls_of
push_desc_lost-sound seat d top o = lost-onward _ _ _ _ refl (λ w. refl) (λ w. grind (arith))

-- the load of the head again that finds another descriptor on top than the hazard word names keeps the state sound
pub reload_desc_head_other-sound :
    (seat : SeatFields) (d : ℕ) (o : Continuation) → KeepsSoundWhere (Desc (desc.ReloadDescHead seat d) o) (λ s. s.word name.DescHead ≢ d + 1)
unfolding plan_point_of next_of event_of holds_of recalls_of
reload_desc_head_other-sound seat d o g s caller s' sound has stands other step =
    let no = ne_eqb (s.word name.DescHead) (d + 1) other in
    steady-at g s caller s' (Desc (desc.ReloadDescHead seat d) o) sound has stands (record { event = refl; cleared = refl; word = refl })
    (rw no (reads-again g s caller (desc.ReloadDescHead seat d) seat o has stands (grind (arith)) refl refl refl (λ class. refl)
    (λ l old. so-at g s l caller (Desc (desc.ReloadDescHead seat d) o) old has stands))) step
