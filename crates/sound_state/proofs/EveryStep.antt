-- Every step of every caller keeps the state sound.
use Rattle.std.proofs.Common.{ℕ, Bool, ◌≡◌, ◌<◌, refl, ap, sym, inl, inr, ◌∙◌, IsTrue, true≢false}
use Rattle.std.proofs.lemmas.Bool.{cases_eq, cases_Bool}
use Rattle.sound_state.proofs.Common.{Geometry, head_of, SeatFields, Site, BlockPoint, DescPoint, PartialPoint, is_empty, Pile, StackPoint, head_name, Continuation, Point}
use Rattle.sound_state.proofs.Common.{Idle, Block, Stack, Desc, Partial, Large, asked, plan_point_of, State, Step, IsSoundWithoutCounts, anchor_for, clears, is_idle}
use Rattle.sound_state.proofs.Common.{LargePoint, shelf_word}
use Rattle.step_parts.specs.declared.superblock.point.BlockPoint.TheVariants as block
use Rattle.step_parts.specs.declared.hazard.point.DescPoint.TheVariants as desc
use Rattle.step_parts.specs.declared.partial.point.PartialPoint.TheVariants as partial
use Rattle.step_parts.specs.declared.stack.point.StackPoint.TheVariants as stack
use Rattle.errand_steps.specs.declared.continuation.Continuation.TheVariants as continuation
use Rattle.errand_steps.specs.Continuations.{is_finish, is_clearing}
use Rattle.sound_state.proofs.descriptors.DescPushes.{push_desc-sound}
use Rattle.sound_state.proofs.descriptors.DescSteps.{pop_desc-sound}
use Rattle.sound_state.proofs.discards.DiscardSteps.{install_superblock-sound}
use Rattle.sound_state.proofs.pushes.PushSound.{push_block-sound}
use Rattle.sound_state.proofs.stores.InfoSteps.{store_owner-sound, store_info-sound}
use Rattle.sound_state.proofs.stores.PrefixSteps.{store_prefix-sound, store_link-sound, link_block-sound}
use Rattle.sound_state.proofs.hazards.HazardSteps.{store_hazard-sound, reload_desc_head-sound, clear_after_pop-sound, clear_hazard_looks-sound, clear_hazard_ends-sound}
use Rattle.sound_state.proofs.hazards.HazardSteps.{store_guard-sound, read_hazard-sound}
use Rattle.sound_state.proofs.shared.PointLemmas.{fits-now, the-alloc, the-free}
use Rattle.sound_state.proofs.pops.PopSteps.{pop_block-sound}
use Rattle.sound_state.proofs.shifts.ShiftSteps.{return_credits-sound, grant-sound}
use Rattle.sound_state.proofs.stacks.StackSteps.{pop_top-sound}
use Rattle.sound_state.proofs.stacks.StackRetires.{push_top-sound}
use Rattle.sound_state.proofs.tellings.ConfirmSteps.{confirm_empty-sound}
use Rattle.packed_words.specs.declared.shelf.ShelfWord.TheVariants as shelf
use Rattle.word_table.specs.declared.name.WordName.TheVariants as name
use Rattle.step_parts.specs.declared.large.point.LargePoint.TheVariants as large
use Rattle.sound_state.proofs.large.TouchFrees.{free_run-sound}
use Rattle.sound_state.proofs.large.TouchPrefix.{store_run_prefix-sound}
use Rattle.sound_state.proofs.large.TouchShelves.{put_block-sound, take_block-sound, confirm_nothing-sound}
use Rattle.sound_state.proofs.large.TouchTakes.{take_run-sound}
use Rattle.sound_state.proofs.large.TouchWords.{store_word-sound}
use Rattle.sound_state.proofs.quiet.QuietLarge.{load_units-sound, take_run_lost-sound, load_run_prefix-sound, load_shelf-sound, load_word-sound, put_block_lost-sound}
use Rattle.sound_state.proofs.quiet.QuietLarge.{take_block_lost-sound, confirm_nothing_lost-sound}
use Rattle.sound_state.proofs.anchors.AnchorSteps.{store_anchor-sound}
use Rattle.sound_state.proofs.quiet.QuietBlocks.{load_active-sound}
use Rattle.sound_state.proofs.quiet.QuietCredits.{take_credit-sound, install_credits-sound}
use Rattle.sound_state.proofs.quiet.QuietDescs.{load_desc_head-sound, load_next_desc-sound, load_head_to_push-sound}
use Rattle.sound_state.proofs.quiet.QuietPops.{load_info-sound, load_anchor-sound, load_link-sound, load_return-sound}
use Rattle.sound_state.proofs.quiet.QuietPushes.{load_guarded_owner-sound, load_prefix-sound, load_push_anchor-sound}
use Rattle.sound_state.proofs.quiet.QuietPartials as partials
use Rattle.sound_state.proofs.retirements.RetirePartials as retired
use Rattle.sound_state.proofs.quiet.QuietLinks.{store_below-sound, store_next_desc-sound}
use Rattle.sound_state.proofs.quiet.QuietStacks.{clear_ends-sound, load_top-sound, load_below-sound, load_top_to_push-sound}
use Rattle.sound_state.proofs.shared.KeepsSound.{KeepsSound, KeepsSoundWhere, either-sound}

-- the load of an empty head keeps the state sound: an allocation or a clearing goes on, and a clearing without a superblock ends
empty-sound :
    (seat : SeatFields) (pile : Pile) (o : Continuation)
    → KeepsSoundWhere (Stack (stack.LoadTop seat pile) o) (λ s. (head_of (s.word (head_name seat pile))).top ≡ 0)
empty-sound seat pile continuation.Clear = clear_ends-sound seat pile
empty-sound seat pile o =
    λ g s caller s' sound has stands empty step.
    load_top-sound seat pile o g s caller s' sound has stands (λ is. absurd (cc)) step

-- the load of a head, which may end a clearing, keeps the state sound
top-sound : (seat : SeatFields) (pile : Pile) (o : Continuation) → KeepsSound (Stack (stack.LoadTop seat pile) o)
top-sound seat pile o g s caller s' sound has stands step =
    elim (cases_eq (head_of (s.word (head_name seat pile))).top 0) [
      | inl empty ↦ empty-sound seat pile o g s caller s' sound has stands empty step
      | inr some ↦ load_top-sound seat pile o g s caller s' sound has stands (λ clear. some) step
    ]

stack-sound : (p : StackPoint) (o : Continuation) → KeepsSound (Stack p o)
unfolding plan_point_of
stack-sound (stack.LoadTop seat pile) o = top-sound seat pile o
stack-sound (stack.LoadBelow seat pile h) o = load_below-sound seat pile h o
stack-sound (stack.PopTop seat pile h below) o = pop_top-sound seat pile h below o
stack-sound (stack.ConfirmEmpty seat pile h) o = confirm_empty-sound seat pile h o
stack-sound (stack.LoadTopToPush seat pile i) o = load_top_to_push-sound seat pile i o
stack-sound (stack.StoreBelow seat pile i h) o = store_below-sound seat pile i h o
stack-sound (stack.PushTop seat pile i h) o = push_top-sound seat pile i h o

block-sound : (p : BlockPoint) (o : Continuation) → KeepsSound (Block p o)
unfolding plan_point_of
block-sound (block.LoadActive seat) o =
    λ g s caller s' sound has stands step.
    let is : o ≡ continuation.Alloc (asked o) = the-alloc o (fits-now g s caller _ sound has stands).goes in
    load_active-sound seat (asked o) g s caller s' sound has (stands ∙ ap (Block (block.LoadActive seat)) is) step
block-sound (block.TakeCredit seat d credits) o = take_credit-sound seat d credits o
block-sound (block.LoadInfo seat d share) o = load_info-sound seat d share o
block-sound (block.LoadAnchor site share) o = load_anchor-sound site share o
block-sound (block.LoadLink site share a) o = load_link-sound site share a o
block-sound (block.PopBlock site share a prefix) o = pop_block-sound site share a prefix o
block-sound (block.StorePrefix site i) o = store_prefix-sound site i o
block-sound (block.InstallCredits site i more) o = install_credits-sound site i more o
block-sound (block.InstallSuperblock site) o = install_superblock-sound site o
block-sound (block.LoadReturn site i more) o = load_return-sound site i more o
block-sound (block.ReturnCredits site i more a) o = return_credits-sound site i more a o
block-sound (block.LoadPrefix seat frame i) o = load_prefix-sound seat frame i o
block-sound (block.LoadPushAnchor site i guarded) o = load_push_anchor-sound site i guarded o
block-sound (block.StoreGuard site i a) o = store_guard-sound site i a o
block-sound (block.LoadOwner site i a) o = load_guarded_owner-sound site i a o
block-sound (block.StoreLink site i a guarded heap) o = store_link-sound site i a guarded heap o
block-sound (block.PushBlock site i a guarded heap) o = push_block-sound site i a guarded heap o
block-sound (block.LinkBlock site i) o = link_block-sound site i o
block-sound (block.StoreInfo site) o = store_info-sound site o
block-sound (block.StoreAnchor site) o = store_anchor-sound site o

-- what holds of the continuations with which a free clears its hazard word: to look through the list, to retire, or to end
clears-cases :
    (P : Continuation → Type 0) → P continuation.Clear → P continuation.EndFree → ((d : ℕ) → P (continuation.Retire d)) → (o : Continuation) → IsTrue (clears o) → P o
clears-cases P looks ends retires continuation.Clear is = looks
clears-cases P looks ends retires continuation.EndFree is = ends
clears-cases P looks ends retires (continuation.Retire d) is = retires d
clears-cases P looks ends retires o is = absurd (true≢false (sym is))

desc-sound : (p : DescPoint) (o : Continuation) → KeepsSound (Desc p o)
unfolding plan_point_of
desc-sound (desc.LoadDescHead seat) o = load_desc_head-sound seat o
desc-sound (desc.StoreHazard seat d) o = store_hazard-sound seat d o
desc-sound (desc.ReloadDescHead seat d) o = reload_desc_head-sound seat d o
desc-sound (desc.LoadNextDesc seat d) o = load_next_desc-sound seat d o
desc-sound (desc.PopDesc seat d next) o = pop_desc-sound seat d next o
desc-sound (desc.ClearAfterPop seat d) o = clear_after_pop-sound seat d o
desc-sound (desc.ClearHazard seat) o =
    λ g s caller s' sound has stands step.
    clears-cases (λ o. (s.errand caller).point ≡ Desc (desc.ClearHazard seat) o → IsSoundWithoutCounts g s')
    (λ stands. clear_hazard_looks-sound seat g s caller s' sound has stands step) (λ stands. clear_hazard_ends-sound seat g s caller s' sound has stands step)
    (λ d stands. retired.clear_hazard_retires-sound seat d g s caller s' sound has stands step) o
    (fits-now g s caller _ sound has stands).goes stands
desc-sound (desc.ReadHazard seat held i) o = read_hazard-sound seat held i o
desc-sound (desc.LoadHeadToPush seat d) o = load_head_to_push-sound seat d o
desc-sound (desc.StoreNextDesc seat d top) o = store_next_desc-sound seat d top o
desc-sound (desc.PushDesc seat d top) o = push_desc-sound seat d top o

-- what holds of the continuations of a clearing, which has popped no superblock yet, or one
clearing-cases :
    (P : Continuation → Type 0) → P continuation.Clear → ((first : ℕ) → P (continuation.ClearSecond first)) → (o : Continuation) → IsTrue (is_clearing o) → P o
clearing-cases P none one continuation.Clear is = none
clearing-cases P none one (continuation.ClearSecond first) is = one first
clearing-cases P none one o is = absurd (true≢false (sym is))

-- what holds of a free that finishes holds of a continuation that is one
finish-cases :
    (P : Continuation → Type 0) → ((guarded : Bool) → P (continuation.Finish guarded)) → (o : Continuation) → IsTrue (is_finish o) → P o
finish-cases P finishes (continuation.Finish guarded) is = finishes guarded
finish-cases P finishes o is = absurd (true≢false (sym is))

-- the look at the anchor of a superblock that was taken keeps the state sound
taken-sound : (site : Site) (need : ℕ) → KeepsSound (Partial (partial.LoadGrantAnchor site) (continuation.Alloc need))
taken-sound site need g s caller s' sound has stands step =
    elim (cases_Bool (is_empty (anchor_for s site.desc).state)) [
      | inl empty ↦ retired.load_grant_anchor_empty-sound site need g s caller s' sound has stands empty step
      | inr used ↦ partials.load_grant_anchor-sound site need g s caller s' sound has stands used step
    ]

-- the look at the first superblock that a free popped from the list keeps the state sound
first-listed-sound : (seat : SeatFields) (d : ℕ) → KeepsSound (Partial (partial.LoadListedAnchor seat d) continuation.Clear)
first-listed-sound seat d g s caller s' sound has stands step =
    elim (cases_Bool (is_empty (anchor_for s d).state)) [
      | inl empty ↦ retired.load_first_listed_empty-sound seat d g s caller s' sound has stands empty step
      | inr used ↦ partials.load_first_listed-sound seat d g s caller s' sound has stands used step
    ]

-- the look at a superblock that was popped from the list keeps the state sound
listed-sound : (seat : SeatFields) (d : ℕ) (o : Continuation) → KeepsSound (Partial (partial.LoadListedAnchor seat d) o)
listed-sound seat d o g s caller s' sound has stands step =
    clearing-cases (λ o. (s.errand caller).point ≡ Partial (partial.LoadListedAnchor seat d) o → IsSoundWithoutCounts g s')
    (λ stands. first-listed-sound seat d g s caller s' sound has stands step)
    (λ first stands. partials.load_second-sound seat d first g s caller s' sound has stands step) o
    (fits-now g s caller _ sound has stands).goes stands

partial-sound : (p : PartialPoint) (o : Continuation) → KeepsSound (Partial p o)
unfolding plan_point_of
partial-sound (partial.LoadSlot seat) o g s caller s' sound has stands step =
    let is : o ≡ continuation.Alloc (asked o) = the-alloc o (fits-now g s caller _ sound has stands).goes in
    partials.load_slot-sound seat (asked o) g s caller s' sound has (stands ∙ ap (Partial (partial.LoadSlot seat)) is) step
partial-sound (partial.TakeSlot seat d) o g s caller s' sound has stands step =
    let is : o ≡ continuation.Alloc (asked o) = the-alloc o (fits-now g s caller _ sound has stands).goes in
    partials.take_slot-sound seat d (asked o) g s caller s' sound has (stands ∙ ap (Partial (partial.TakeSlot seat d)) is) step
partial-sound (partial.LoadTakenInfo seat d) o g s caller s' sound has stands step =
    let is : o ≡ continuation.Alloc (asked o) = the-alloc o (fits-now g s caller _ sound has stands).goes in
    partials.load_taken_info-sound seat d (asked o) g s caller s' sound has (stands ∙ ap (Partial (partial.LoadTakenInfo seat d)) is) step
partial-sound (partial.StoreOwner site) o g s caller s' sound has stands step = store_owner-sound site o g s caller s' sound has stands step
partial-sound (partial.LoadGrantAnchor site) o g s caller s' sound has stands step =
    let is : o ≡ continuation.Alloc (asked o) = the-alloc o (fits-now g s caller _ sound has stands).goes in
    taken-sound site (asked o) g s caller s' sound has (stands ∙ ap (Partial (partial.LoadGrantAnchor site)) is) step
partial-sound (partial.Grant site a) o g s caller s' sound has stands step =
    let is : o ≡ continuation.Alloc (asked o) = the-alloc o (fits-now g s caller _ sound has stands).goes in
    grant-sound site a (asked o) g s caller s' sound has (stands ∙ ap (Partial (partial.Grant site a)) is) step
partial-sound (partial.LoadOwner seat d) o g s caller s' sound has stands step =
    finish-cases (λ o. (s.errand caller).point ≡ Partial (partial.LoadOwner seat d) o → IsSoundWithoutCounts g s')
    (λ guarded stands. partials.load_partial_owner-sound seat d guarded g s caller s' sound has stands step) o
    (fits-now g s caller _ sound has stands).goes stands
partial-sound (partial.PutSlot seat d heap) o g s caller s' sound has stands step = partials.put_slot-sound seat d heap o g s caller s' sound has stands step
partial-sound (partial.LoadHeldSlot seat d heap) o g s caller s' sound has stands step =
    let is : o ≡ continuation.Free = the-free o (fits-now g s caller _ sound has stands).goes in
    partials.load_held_slot-sound seat d heap g s caller s' sound has (stands ∙ ap (Partial (partial.LoadHeldSlot seat d heap)) is) step
partial-sound (partial.RemoveFromSlot seat d heap) o g s caller s' sound has stands step =
    let is : o ≡ continuation.Free = the-free o (fits-now g s caller _ sound has stands).goes in
    partials.remove_from_slot-sound seat d heap g s caller s' sound has (stands ∙ ap (Partial (partial.RemoveFromSlot seat d heap)) is) step
partial-sound (partial.LoadListedAnchor seat d) o g s caller s' sound has stands step = listed-sound seat d o g s caller s' sound has stands step

large-sound : (p : LargePoint) (o : Continuation) → KeepsSound (Large p o)
large-sound (large.LoadUnits w) o = load_units-sound w o
large-sound (large.TakeRun w bits) o = either-sound _ name.Units bits (take_run-sound w bits o) (take_run_lost-sound w bits o)
large-sound (large.StoreRunPrefix place run) o = store_run_prefix-sound place run o
large-sound (large.LoadRunPrefix place run) o = load_run_prefix-sound place run o
large-sound (large.FreeRun place run) o = free_run-sound place run o
large-sound (large.StoreWord place i value) o = store_word-sound place i value o
large-sound (large.LoadWord place i) o = load_word-sound place i o
large-sound (large.PutBlock k place n) o = either-sound _ (name.Shelf k) (shelf_word shelf.Nothing) (put_block-sound k place n o) (put_block_lost-sound k place n o)
large-sound (large.LoadShelf k) o = load_shelf-sound k o
large-sound (large.TakeBlock k place n) o =
    either-sound _ (name.Shelf k) (shelf_word (shelf.Block place n)) (take_block-sound k place n o) (take_block_lost-sound k place n o)
large-sound (large.ConfirmNothing k) o = either-sound _ (name.Shelf k) (shelf_word shelf.Nothing) (confirm_nothing-sound k o) (confirm_nothing_lost-sound k o)

-- a step from any point keeps the state sound
step-at : (p : Point) → KeepsSound p
step-at Idle =
    λ g s caller s' sound has stands step.
    absurd (true≢false (sym (ap is_idle stands) ∙ step.busy))
step-at (Block p o) = block-sound p o
step-at (Stack p o) = stack-sound p o
step-at (Desc p o) = desc-sound p o
step-at (Partial p o) = partial-sound p o
step-at (Large p o) = large-sound p o

pub steps-sound :
    (g : Geometry) (s : State) (caller : ℕ) (s' : State) → IsSoundWithoutCounts g s → caller < g.callers → Step s caller s' → IsSoundWithoutCounts g s'
steps-sound g s caller s' sound has step = step-at (s.errand caller).point g s caller s' sound has refl step
