-- Steps at a partial superblock that keep the state sound.
use Rattle.std.proofs.Common.{ℕ, Bool, false, Option, Some, None, ◌≡◌, ◌≢◌, ◌<◌, ◌≤◌, ◌+◌, ◌-◌, [], ◌∷◌, refl, arith, ap, sym, subst, inl, inr, ◌∙◌, All, IsTrue}
use Rattle.std.proofs.Common.{ne_eqb, eq-eqb}
use Rattle.std.proofs.lemmas.Bool.{cases_Bool, cases_eq}
use Rattle.std.proofs.lemmas.Bool.Decides.{nat_tests}
use Rattle.std.proofs.lemmas.List.Elements.{All-nil, All-cons, All-tail, All-from_recursion}
use Rattle.std.specs.List.{AllByRecursion}
use Rattle.sound_state.proofs.Common.{Geometry, descriptor_count, Writes, SeatFields, info_in, CLASSES, AnchorFields, anchor_word, info_of, Site, WordName}
use Rattle.sound_state.proofs.Common.{PartialPoint, is_empty, Partials, Next, At, Continuation, ErrandFields, Partial, Stack, Desc, event_of, next_of, plan_point_of}
use Rattle.sound_state.proofs.Common.{State, Kept, holds_of, partly_used, IsKeptAs, IsPartlyUsed, Lists, recalls_of, IsSo, IsLocated, IsSoundWith, errand_keeps}
use Rattle.sound_state.proofs.Common.{anchor_for, info_for, waits_in, heap_of, anchor_in, slot_name, InfoFields, slot_of, Clear, point_after, continuation_holds}
use Rattle.sound_state.proofs.Common.{IsEmptied}
use Rattle.word_table.specs.declared.name.WordName.TheVariants as name
use Rattle.word_table.specs.declared.onward.Onward.TheVariants.{Leaves}
use Rattle.step_parts.specs.declared.partial.exit.PartialExit.TheVariants as exit
use Rattle.step_parts.specs.declared.partial.point.PartialPoint.TheVariants as partial
use Rattle.step_parts.specs.partial.Points.{after_taken_info, after_live, after_put}
use Rattle.step_parts.specs.declared.stack.point.StackPoint.TheVariants as stack
use Rattle.step_parts.specs.declared.hazard.point.DescPoint.TheVariants as desc
use Rattle.errand_steps.specs.Continuations.{fills}
use Rattle.errand_steps.specs.declared.continuation.Continuation.TheVariants.{Alloc, Finish, Free, ClearSecond, Retire}
use Rattle.errand_steps.specs.Nexts.{leave_partial}
use Rattle.sound_state.proofs.quiet.QuietExchanges.{lost-onward, lost-steady}
use Rattle.sound_state.proofs.quiet.QuietPops.{anchor-said, info-said}
use Rattle.sound_state.proofs.quiet.QuietSteps.{StepsSteadily, LeadsQuietly, leads-on, onward, quiet-at, quietly, steady-at}
use Rattle.sound_state.proofs.shared.PointLemmas.{HoldsAlike, HoldsBlocks, WeighFrom, alike-goes, blocks-go, fits-at, fits-now, kept-at, so-at, weigh-stays}
use Rattle.sound_state.proofs.shared.PointLemmas.{slot-written, slot-emptied, keeps-too, none-kept-as, exists-at, keeps-alone, recalled-at}
use Rattle.sound_state.proofs.shared.RecallEffects.{empty-is}
use Rattle.sound_state.proofs.shared.StepLemmas.{LeadsOrEnds}
use Rattle.sound_state.proofs.shared.KeepsSound.{KeepsSound, KeepsSoundWhere}
use Rattle.sound_state.proofs.shared.SuperblocksStay.{ActivesKept}
use Rattle.sound_state.proofs.SoundSteps.{step-from, won-at}

-- the load of a slot keeps the state sound
pub load_slot-sound : (seat : SeatFields) (need : ℕ) → KeepsSound (Partial (partial.LoadSlot seat) (Alloc need))
unfolding plan_point_of next_of event_of holds_of recalls_of
load_slot-sound seat need = onward _ (grind (arith)) (λ w. grind (arith))

-- the take of what stands in a slot keeps the state sound: the caller has it then, or the take is lost
pub take_slot-sound : (seat : SeatFields) (d need : ℕ) → KeepsSound (Partial (partial.TakeSlot seat d) (Alloc need))
unfolding plan_point_of next_of event_of holds_of recalls_of
take_slot-sound seat d need g s caller s' sound has stands step =
    elim (cases_eq (s.word (slot_name seat)) (d + 1)) [
      | inl there ↦
          let p = Partial (partial.TakeSlot seat d) (Alloc need) in
          let q = Partial (partial.LoadTakenInfo seat d) (Alloc need) in
          let exists : (heap_of seat < g.heaps) × (seat.class < CLASSES) = exists-at g s caller p sound has stands in
          won-at g s caller s' p q (slot_name seat) (d + 1) 0 sound has stands
          (record {
            plan = refl;
            next = refl;
            event = refl;
            cleared = refl;
            weighs = grind (arith);
            goes = λ l old.
                alike-goes g s l caller p q old has stands (grind (arith))
                (keeps-too s d seat.class [] (old.kept.slot (heap_of seat) seat.class d exists.0 exists.1 there).1 (none-kept-as s))
                (All-nil (IsSo g s l caller));
            actives = λ l old words' w. slot-emptied g s l (heap_of seat) seat.class 0 words' old w refl;
          })
          there step
      | inr lost ↦ lost-onward _ _ _ _ refl (λ w. refl) (λ w. grind (arith)) g s caller s' sound has stands lost step
    ]

-- what the word of a taken descriptor leads to
taken_info-leads :
    (g : Geometry) (s : State) (caller : ℕ) (seat : SeatFields) (d need : ℕ) (i : Option InfoFields) → caller < g.callers
    → (s.errand caller).point ≡ Partial (partial.LoadTakenInfo seat d) (Alloc need) → info_in seat.geometry (s.word (name.Info d)) ≡ i
    → LeadsQuietly g s caller (Partial (partial.LoadTakenInfo seat d) (Alloc need)) (At (Partial (after_taken_info seat d i) (Alloc need)))
unfolding holds_of recalls_of
taken_info-leads g s caller seat d need None has stands is = leads-on g s caller _ _ has stands (grind (arith))
taken_info-leads g s caller seat d need (Some info) has stands is = record {
  plain = tt;
  holds = grind (arith);
  so = λ l old.
      let says : info_for s d ≡ info = info-said seat.geometry (info_of (s.word (name.Info d))) info is in
      let kept = kept-at g s l caller (Partial (partial.LoadTakenInfo seat d) (Alloc need)) old has stands in
      let class = (kept 0 (record { desc = d; class = seat.class; status = partly_used }) (omega arith)).class in
      let here : IsLocated s d info.frame seat.class = record { frame = ap (λ x. x.frame) says; class = class } in
      All-cons (IsSo g s l caller) _ [] here (All-nil (IsSo g s l caller));
}

-- the load of a taken descriptor's info word keeps the state sound
pub load_taken_info-sound : (seat : SeatFields) (d need : ℕ) → KeepsSound (Partial (partial.LoadTakenInfo seat d) (Alloc need))
unfolding plan_point_of next_of event_of
load_taken_info-sound seat d need = quietly _ (grind (arith)) (λ g s caller has stands. taken_info-leads g s caller seat d need _ has stands refl)

-- what the anchor of a taken superblock leads to that isn't EMPTY
live-leads :
    (g : Geometry) (s : State) (caller : ℕ) (site : Site) (need : ℕ) (a : Option AnchorFields) → caller < g.callers
    → (s.errand caller).point ≡ Partial (partial.LoadGrantAnchor site) (Alloc need) → anchor_in site.seat.class (s.word (name.Anchor site.desc)) ≡ a
    → is_empty (anchor_for s site.desc).state ≡ false → LeadsQuietly g s caller (Partial (partial.LoadGrantAnchor site) (Alloc need))
    (At (Partial (after_live site a) (Alloc need)))
unfolding holds_of recalls_of
live-leads g s caller site need None has stands is used = leads-on g s caller _ _ has stands (grind (arith))
live-leads g s caller site need (Some a) has stands is used = record {
  plain = tt;
  holds = grind (arith);
  so = λ l old.
      let same : a ≡ anchor_for s site.desc = anchor-said site.seat.class (s.word (name.Anchor site.desc)) a is in
      let in_use_still : is_empty a.state ≡ false = ap (λ x. is_empty x.state) same ∙ used in
      All-cons (IsSo g s l caller) _ (recalls_of (Partial (partial.LoadGrantAnchor site) (Alloc need))) in_use_still
      (so-at g s l caller (Partial (partial.LoadGrantAnchor site) (Alloc need)) old has stands);
}

-- the load of a taken superblock's anchor keeps the state sound, where it isn't EMPTY
pub load_grant_anchor-sound :
    (site : Site) (need : ℕ)
    → KeepsSoundWhere (Partial (partial.LoadGrantAnchor site) (Alloc need)) (λ s. is_empty (anchor_for s site.desc).state ≡ false)
unfolding plan_point_of next_of event_of
load_grant_anchor-sound site need g s caller s' sound has stands used step =
    quiet-at g s caller s' (Partial (partial.LoadGrantAnchor site) (Alloc need)) sound has stands (record { event = refl; cleared = used; word = refl })
    (rw used (live-leads g s caller site need (anchor_in site.seat.class (s.word (name.Anchor site.desc))) has stands refl used)) step

-- a grant that is lost keeps the state sound: the anchor isn't what it was
pub grant_lost-sound :
    (site : Site) (a : AnchorFields) (need : ℕ)
    → KeepsSoundWhere (Partial (partial.Grant site a) (Alloc need)) (λ s. s.word (name.Anchor site.desc) ≢ anchor_word a)
unfolding plan_point_of next_of event_of holds_of recalls_of
grant_lost-sound site a need = lost-onward _ _ _ _ refl (λ w. refl) (λ w. grind (arith))

-- the load of the info word of a superblock that became partial keeps the state sound
pub load_partial_owner-sound : (seat : SeatFields) (d : ℕ) (stored : Bool) → KeepsSound (Partial (partial.LoadOwner seat d) (Finish stored))
unfolding plan_point_of next_of event_of holds_of recalls_of
load_partial_owner-sound seat d stored = onward _ (grind (arith)) (λ w. grind (arith))

-- the look at the first superblock from the list keeps the state sound, where that isn't EMPTY
pub load_first_listed-sound :
    (seat : SeatFields) (d : ℕ) → KeepsSoundWhere (Partial (partial.LoadListedAnchor seat d) Clear) (λ s. is_empty (anchor_for s d).state ≡ false)
unfolding plan_point_of next_of event_of holds_of recalls_of
load_first_listed-sound seat d g s caller s' sound has stands used step =
    quiet-at g s caller s' (Partial (partial.LoadListedAnchor seat d) Clear) sound has stands (record { event = refl; cleared = refl; word = refl })
    (rw used (leads-on g s caller _ _ has stands (grind (arith)))) step

-- a free whose EMPTY superblock isn't in the slot goes steadily on to clear its hazard word
elsewhere-goes :
    (g : Geometry) (s : State) (caller : ℕ) (p : PartialPoint) (seat : SeatFields) (d : ℕ) → caller < g.callers → (s.errand caller).point ≡ Partial p Free
    → holds_of (Partial p Free) ≡ holds_of (Partial (partial.LoadHeldSlot seat d 0) Free)
    → HoldsBlocks (Partial p Free) (Desc (desc.ClearHazard seat) Clear)
    → ((class : ℕ) → waits_in class (Desc (desc.ClearHazard seat) Clear) ≡ waits_in class (Partial p Free))
    → StepsSteadily g s caller (Partial p Free) (At (Desc (desc.ClearHazard seat) Clear))
unfolding holds_of recalls_of
elsewhere-goes g s caller p seat d has stands same blocks waits = grind (arith, has, stands, same, blocks, waits, weigh-stays, blocks-go, none-kept-as)

-- the look whether the superblock that became EMPTY stands in the slot keeps the state sound
pub load_held_slot-sound : (seat : SeatFields) (d heap : ℕ) → KeepsSound (Partial (partial.LoadHeldSlot seat d heap) Free)
unfolding plan_point_of next_of event_of holds_of recalls_of
load_held_slot-sound seat d heap g s caller s' sound has stands step =
    elim (cases_eq (s.word (slot_of seat heap)) (d + 1)) [
      | inl there ↦
          let yes = eq-eqb (s.word (slot_of seat heap)) (d + 1) there in
          quiet-at g s caller s' (Partial (partial.LoadHeldSlot seat d heap) Free) sound has stands (record { event = refl; cleared = refl; word = refl })
          (rw yes (leads-on g s caller _ _ has stands (grind (arith)))) step
      | inr other ↦
          let no = ne_eqb (s.word (slot_of seat heap)) (d + 1) other in
          let p = partial.LoadHeldSlot seat d heap in
          steady-at g s caller s' (Partial p Free) sound has stands (record { event = refl; cleared = refl; word = refl })
          (rw no (elsewhere-goes g s caller p seat d has stands refl (grind (arith)) (λ class. refl))) step
    ]

-- the removal of a superblock from its slot keeps the state sound, won or lost
pub remove_from_slot-sound : (seat : SeatFields) (d heap : ℕ) → KeepsSound (Partial (partial.RemoveFromSlot seat d heap) Free)
unfolding plan_point_of next_of event_of holds_of recalls_of
remove_from_slot-sound seat d heap g s caller s' sound has stands step =
    elim (cases_eq (s.word (slot_of seat heap)) (d + 1)) [
      | inl there ↦
          let p = Partial (partial.RemoveFromSlot seat d heap) Free in
          let q = Desc (desc.ClearHazard seat) (Retire d) in
          let exists : (heap < g.heaps) × (seat.class < CLASSES) = exists-at g s caller p sound has stands in
          won-at g s caller s' p q (slot_of seat heap) (d + 1) 0 sound has stands
          (record {
            plan = refl;
            next = refl;
            event = refl;
            cleared = refl;
            weighs = grind (arith);
            goes = λ l old.
                alike-goes g s l caller p q old has stands (grind (arith))
                (keeps-too s d seat.class [] (old.kept.slot heap seat.class d exists.0 exists.1 there).1 (none-kept-as s))
                (let (empty, rest) = recalled-at g s l caller p old has stands in All-from_recursion (IsSo g s l caller) (recalls_of q) (empty, tt));
            actives = λ l old words' w. slot-emptied g s l heap seat.class 0 words' old w refl;
          })
          there step
      | inr lost ↦
          let p = partial.RemoveFromSlot seat d heap in
          lost-steady g s caller s' (Partial p Free) (slot_of seat heap) _ _ sound has stands refl refl
          (elsewhere-goes g s caller p seat d has stands refl (grind (arith)) (λ class. refl)) lost step
    ]

-- the active words and the slots hold what is in its state after a superblock is put into a slot
put-actives :
    (g : Geometry) (s : State) (l : Lists) (caller : ℕ) (seat : SeatFields) (d heap : ℕ) (o : Continuation) (words' : WordName → ℕ) → IsSoundWith g s l
    → caller < g.callers → (s.errand caller).point ≡ Partial (partial.PutSlot seat d heap) o → Writes s.word (slot_of seat heap) (d + 1) words'
    → ActivesKept g s words'
unfolding holds_of
put-actives g s l caller seat d heap o words' old has stands w =
    let p = Partial (partial.PutSlot seat d heap) o in
    let fits = (fits-at g s l caller p old has stands).point in
    let mine = kept-at g s l caller p old has stands 0 (record { desc = d; class = seat.class; status = partly_used }) (omega arith) in
    slot-written g s l heap seat.class (d + 1) words' old w (omega (arith, fits.desc))
    (λ e is. let same : d ≡ e = omega (arith, is) in subst (λ k. (k < descriptor_count g) × IsPartlyUsed s k seat.class) same (fits.desc, mine))

-- what a superblock leads to that is put into an empty slot: nothing is kept any more
record FillsSlot (seat : SeatFields) (d heap : ℕ) (o : Continuation) (n : Next) : Type 0 where
  plain : LeadsOrEnds n
  weighs : WeighFrom (slot_of seat heap) 0 (d + 1) (Partial (partial.PutSlot seat d heap) o) (point_after n)
  alike : HoldsAlike (Partial (partial.PutSlot seat d heap) o) (point_after n)
  kept : (holds_of (point_after n)).kept ≡ []
  recalls :
      (g : Geometry) (s : State) (l : Lists) (caller : ℕ) → AllByRecursion (IsSo g s l caller) (recalls_of (Partial (partial.PutSlot seat d heap) o))
      → AllByRecursion (IsSo g s l caller) (recalls_of (point_after n))

-- what follows a filled slot: the caller gives its block, or its free finishes, and ends where it stored no hazard word
filled-leads :
    (seat : SeatFields) (d heap : ℕ) (o : Continuation) → IsTrue (fills o) → FillsSlot seat d heap o (leave_partial (exit.SlotFilled seat) o)
unfolding holds_of recalls_of
filled-leads seat d heap o is = grind (arith, is)

-- a put into a slot that was empty keeps the state sound
put_slot_filled-sound :
    (seat : SeatFields) (d heap : ℕ) (o : Continuation)
    → KeepsSoundWhere (Partial (partial.PutSlot seat d heap) o) (λ s. s.word (slot_of seat heap) ≡ 0)
unfolding plan_point_of next_of event_of
put_slot_filled-sound seat d heap o g s caller s' sound has stands bare step =
    let p = Partial (partial.PutSlot seat d heap) o in
    let fills = filled-leads seat d heap o (fits-now g s caller p sound has stands).goes in
    step-from g s caller s' p (leave_partial (exit.SlotFilled seat) o) fills.plain sound has stands
    (λ l old. record {
      next = rw bare refl;
      event = refl;
      cleared = refl;
      goes =
          alike-goes g s l caller p _ old has stands fills.alike (subst (All (λ k. IsKeptAs s k.status k.desc k.class)) (sym fills.kept) (none-kept-as s))
          (All-from_recursion (IsSo g s l caller) (recalls_of _) (fills.recalls g s l caller (recalled-at g s l caller p old has stands)));
      weigh = rw bare fills.weighs;
      actives = λ words' w. put-actives g s l caller seat d heap o words' old has stands w;
    })
    step

-- the swap that puts a superblock into a slot where another one stood keeps the state sound: that one is the caller's now
displaced-next :
    (g : Geometry) (seat : SeatFields) (d heap other : ℕ) → seat.geometry ≡ g → other < descriptor_count g
    → after_put seat d heap (other + 1) ≡ Leaves (exit.Displaced seat other)
displaced-next g seat d heap other same within = grind (arith, nat_tests)

put_slot_displaced-sound :
    (seat : SeatFields) (d heap other : ℕ) (o : Continuation)
    → KeepsSoundWhere (Partial (partial.PutSlot seat d heap) o) (λ s. s.word (slot_of seat heap) ≡ other + 1)
unfolding plan_point_of next_of event_of holds_of recalls_of
put_slot_displaced-sound seat d heap other o g s caller s' sound has stands there step =
    let p = Partial (partial.PutSlot seat d heap) o in
    let exists : (heap < g.heaps) × (seat.class < CLASSES) = exists-at g s caller p sound has stands in
    step-from g s caller s' p (At (Stack (stack.LoadTopToPush seat Partials other) o)) tt sound has stands
    (λ l old.
    let fits = fits-at g s l caller p old has stands in
    let kept = old.kept.slot heap seat.class other exists.0 exists.1 there in
    let this : Kept = record { desc = d; class = seat.class; status = partly_used } in
    let rest =
    All-tail (λ (k : Kept). IsKeptAs s k.status k.desc k.class) this (continuation_holds seat o).kept (kept-at g s l caller p old has stands) in
    record {
      next = rw (there, displaced-next g seat d heap other fits.point.seat.geometry kept.0) refl;
      event = refl;
      cleared = refl;
      goes =
          alike-goes g s l caller p _ old has stands (grind (arith, fits.goes))
          (keeps-too s other seat.class (continuation_holds seat o).kept kept.1 rest) (so-at g s l caller p old has stands);
      weigh = rw there (grind (arith));
      actives = λ words' w. put-actives g s l caller seat d heap o words' old has stands w;
    })
    step

-- the swap that puts a superblock into a slot keeps the state sound
pub put_slot-sound : (seat : SeatFields) (d heap : ℕ) (o : Continuation) → KeepsSound (Partial (partial.PutSlot seat d heap) o)
put_slot-sound seat d heap o g s caller s' sound has stands step =
    elim (cases_eq (s.word (slot_of seat heap)) 0) [
      | inl bare ↦ put_slot_filled-sound seat d heap o g s caller s' sound has stands bare step
      | inr held ↦ put_slot_displaced-sound seat d heap (s.word (slot_of seat heap) - 1) o g s caller s' sound has stands (omega (arith, held)) step
    ]

-- the look at a second superblock from the list that is EMPTY weighs the same: it is kept until the first one is back on the list
listed-weighs :
    (w : ℕ) (seat : SeatFields) (d first : ℕ)
    → WeighFrom (name.Anchor d) w w (Partial (partial.LoadListedAnchor seat d) (ClearSecond first))
    (Stack (stack.LoadTopToPush seat Partials first) (Retire d))
unfolding holds_of
listed-weighs w seat d first = grind (arith)

-- the caller keeps the descriptor at hand
keeps-listed :
    (e : ErrandFields) (seat : SeatFields) (d first : ℕ) → e.point ≡ Partial (partial.LoadListedAnchor seat d) (ClearSecond first)
    → 1 ≤ errand_keeps partly_used d e
unfolding holds_of
keeps-listed e seat d first stands = grind (arith, stands, eq-eqb)

-- the look at the second superblock from the list keeps the state sound, whether that is EMPTY or not
pub load_second-sound : (seat : SeatFields) (d first : ℕ) → KeepsSound (Partial (partial.LoadListedAnchor seat d) (ClearSecond first))
unfolding plan_point_of next_of event_of holds_of recalls_of
load_second-sound seat d first g s caller s' sound has stands step =
    elim (cases_Bool (is_empty (anchor_for s d).state)) [
      | inl bare ↦
          let p = Partial (partial.LoadListedAnchor seat d) (ClearSecond first) in
          let this : Kept = record { desc = d; class = seat.class; status = partly_used } in
          let other : Kept = record { desc = first; class = seat.class; status = partly_used } in
          steady-at g s caller s' p sound has stands (record { event = refl; cleared = refl; word = refl })
          (rw bare (record {
            plain = tt;
            weighs = λ w. listed-weighs w seat d first;
            goes = λ l old.
                let kept = kept-at g s l caller p old has stands in
                let fits = (fits-at g s l caller p old has stands).point in
                let alone = keeps-alone g s l caller d old has fits.desc (keeps-listed (s.errand caller) seat d first stands) in
                let so : IsEmptied g s l d = record { state = empty-is (anchor_for s d).state bare; unavailable = alone.0; standing = alone.1 } in
                alike-goes g s l caller p _ old has stands (grind (arith))
                (keeps-too s first seat.class (this ∷ []) (kept 1 other (omega arith))
                (keeps-too s d seat.class [] (kept 0 this (omega arith)) (none-kept-as s)))
                (All-cons (IsSo g s l caller) _ [] so (All-nil (IsSo g s l caller)));
          })) step
      | inr used ↦
          quiet-at g s caller s' (Partial (partial.LoadListedAnchor seat d) (ClearSecond first)) sound has stands
          (record { event = refl; cleared = refl; word = refl })
          (rw used (leads-on g s caller _ _ has stands (grind (arith)))) step
    ]
