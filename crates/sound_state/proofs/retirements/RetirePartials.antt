-- Steps that find a superblock EMPTY that was taken or popped, or take one out of its slot, and retire its descriptor.
use Rattle.std.proofs.Common.{ℕ, true, ◌≡◌, ◌<◌, refl, ap, arith, inl, inr}
use Rattle.sound_state.proofs.Common.{Geometry, Site, SeatFields, is_empty, IsSiteOf, Idle, Desc, Partial, event_of, next_of, plan_point_of, State, holds_of, Lists}
use Rattle.sound_state.proofs.Common.{recalls_of, IsSoundWith, anchor_for, Clear, guarded}
use Rattle.packed_words.specs.declared.anchor.AnchorState.TheVariants as phase
use Rattle.word_table.specs.declared.name.WordName.TheVariants as name
use Rattle.step_parts.specs.declared.hazard.point.DescPoint.TheVariants as desc
use Rattle.step_parts.specs.declared.partial.point.PartialPoint.TheVariants as partial
use Rattle.word_table.specs.Sites.{IsDescOf}
use Rattle.errand_steps.specs.declared.continuation.Continuation.TheVariants.{Alloc, Look, EndFree, Retire}
use Rattle.errand_steps.specs.declared.reply.Reply.TheVariants as reply
use Rattle.sound_state.proofs.shared.PointLemmas.{fits-at, recalled-at}
use Rattle.sound_state.proofs.retirements.RetireLemmas.{retire-at, retire-clearing}
use Rattle.sound_state.proofs.shared.NothingLemmas.{HoldsNothing, idle-nothing}
use Rattle.sound_state.proofs.shared.RecallEffects.{empty-is}
use Rattle.sound_state.proofs.shared.KeepsSound.{KeepsSound, KeepsSoundWhere}

-- an allocation that looks for a partial superblock again holds nothing
look-nothing : (seat : SeatFields) (need : ℕ) → HoldsNothing (Partial (partial.LoadSlot seat) (Alloc need))
unfolding holds_of
look-nothing seat need = grind (arith)

-- the load of a taken superblock's anchor keeps the state sound, where it is EMPTY
pub load_grant_anchor_empty-sound :
    (site : Site) (need : ℕ)
    → KeepsSoundWhere (Partial (partial.LoadGrantAnchor site) (Alloc need)) (λ s. is_empty (anchor_for s site.desc).state ≡ true)
unfolding plan_point_of next_of event_of holds_of recalls_of
load_grant_anchor_empty-sound site need g s caller s' sound has stands empty step =
    let p = Partial (partial.LoadGrantAnchor site) (Alloc need) in
    let fits = fits-at g s sound.parts.0 caller p sound.parts.1 has stands in
    let here : IsSiteOf g caller site = fits.point in
    retire-at g s caller s' p site.seat site.desc (Look need) (Partial (partial.LoadSlot site.seat) (Alloc need)) sound has stands
    (record {
      next = rw empty refl;
      resumes = inl refl;
      event = refl;
      exists = here.desc;
      empty = empty-is (anchor_for s site.desc).state empty;
      before = refl;
      waits = λ c. refl;
      spare = refl;
      bare = look-nothing site.seat need;
      recalls = refl;
      unrefused = refl;
      unspared = refl;
      turn = grind (arith, empty);
      scans = grind (arith, empty);
    })
    refl step

-- the look at the first superblock from the list keeps the state sound, where that is EMPTY
pub load_first_listed_empty-sound :
    (seat : SeatFields) (d : ℕ) → KeepsSoundWhere (Partial (partial.LoadListedAnchor seat d) Clear) (λ s. is_empty (anchor_for s d).state ≡ true)
unfolding plan_point_of next_of event_of holds_of recalls_of
load_first_listed_empty-sound seat d g s caller s' sound has stands empty step =
    let p = Partial (partial.LoadListedAnchor seat d) Clear in
    let fits = fits-at g s sound.parts.0 caller p sound.parts.1 has stands in
    let here : IsDescOf g caller seat d = fits.point in
    retire-at g s caller s' p seat d EndFree Idle sound has stands
    (record {
      next = rw empty refl;
      resumes = inr (refl, (reply.Freed, refl));
      event = refl;
      exists = here.desc;
      empty = empty-is (anchor_for s d).state empty;
      before = refl;
      waits = λ c. refl;
      spare = refl;
      bare = idle-nothing;
      recalls = refl;
      unrefused = refl;
      unspared = refl;
      turn = grind (arith);
      scans = grind (arith);
    })
    refl step

-- the superblock that a free took out of its slot is EMPTY
removed-empty :
    (g : Geometry) (s : State) (l : Lists) (caller : ℕ) (seat : SeatFields) (d : ℕ) → IsSoundWith g s l → caller < g.callers
    → (s.errand caller).point ≡ Desc (desc.ClearHazard seat) (Retire d) → (anchor_for s d).state ≡ phase.Empty
unfolding recalls_of
removed-empty g s l caller seat d old has stands =
    let (so, none) = recalled-at g s l caller (Desc (desc.ClearHazard seat) (Retire d)) old has stands in so.state

-- the clear of a free's hazard word that retires a descriptor keeps the state sound
pub clear_hazard_retires-sound : (seat : SeatFields) (d : ℕ) → KeepsSound (Desc (desc.ClearHazard seat) (Retire d))
unfolding plan_point_of next_of event_of holds_of recalls_of
clear_hazard_retires-sound seat d g s caller s' sound has stands step =
    let p = Desc (desc.ClearHazard seat) (Retire d) in
    let fits = fits-at g s sound.parts.0 caller p sound.parts.1 has stands in
    retire-clearing g s caller s' p seat d (guarded d) EndFree Idle sound has stands
    (record {
      next = refl;
      resumes = inr (refl, (reply.Freed, refl));
      event = refl;
      exists = fits.continuation;
      empty = removed-empty g s sound.parts.0 caller seat d sound.parts.1 has stands;
      before = refl;
      waits = λ c. refl;
      spare = refl;
      bare = idle-nothing;
      recalls = refl;
      unrefused = refl;
      unspared = refl;
      turn = grind (arith);
      scans = grind (arith);
    })
    (ap name.Hazard fits.point.number) refl step
