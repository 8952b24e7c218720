-- What leaves behind a step was leaving before it, and what leaves with a call that begins is the block that it is about.
use Rattle.std.proofs.Common.{ℕ, ◌≡◌, ◌⊎◌, refl, ap, subst, inl, inr, Contains}
use Rattle.heap_geometry.specs.declared.need.Need.{Need}
use Rattle.word_table.specs.declared.action.Found.{Found}
use Rattle.errand_steps.specs.tables.CallStage.{StageOfCall, freeing, putting}
use Rattle.errand_steps.specs.Begins.{IsIdle, read_begun, write_begun}
use Rattle.errand_steps.specs.Calls.{Call, alloc, free, write, read, put, take, begun_by}
use Rattle.errand_steps.specs.Errands.{ErrandFields, settle_of}
use Rattle.errand_steps.specs.Steps.{State, Step, found_at}
use Rattle.sound_laws.specs.events.Stages.{stage_of}
use Rattle.sound_laws.specs.events.UnderWay.{IsAboutBlock}
use Rattle.step_machine.specs.Keeping.{LeavesPlace}
use Rattle.owned_words.specs.Leaving.{IsAbout, leaving, leaving_at}
use Rattle.owned_words.proofs.Concerned.{begins-concerned, idle-concerned, leaving-concerned, none-there}
use Rattle.owned_words.proofs.KeptStages.{IsKept, settles-kept}

-- a step makes nothing more leave
kept-leaving : (now before : StageOfCall) (place : ℕ) → IsKept now before → Contains (leaving_at now) place → Contains (leaving_at before) place
kept-leaving (freeing p n) before place kept there = subst (λ t. Contains (leaving_at t) place) kept there
kept-leaving (putting p n shelf) before place kept there = subst (λ t. Contains (leaving_at t) place) kept there
kept-leaving now before place kept there = absurd (none-there _ place refl there)

pub settles-leaving : (e : ErrandFields) (x : Found) (place : ℕ) → Contains (leaving (settle_of e x).point) place → Contains (leaving e.point) place
settles-leaving e x place there = kept-leaving (stage_of (settle_of e x).point) (stage_of e.point) place (settles-kept e x) there

pub steps-leaving :
    (s : State) (caller place : ℕ) (after : State) → Step s caller after → Contains (leaving (after.errand caller).point) place
    → Contains (leaving (s.errand caller).point) place
steps-leaving s caller place after step there =
    settles-leaving (s.errand caller) (found_at s caller) place
    (subst (λ (e : ErrandFields). Contains (leaving e.point) place) step.errand.here there)

-- who is in no call is about to give nothing away
pub idle-leaving : (e : ErrandFields) (place : ℕ) → IsIdle e → ¬ Contains (leaving e.point) place
idle-leaving e place idle there = idle-concerned e place idle (leaving-concerned e.point place there)

-- the call is a free or a put of the block at the place
abbrev IsGiving : Call → ℕ → Type 0
IsGiving call place = ((need : Need) × (call ≡ free place need)) ⊎ ((need : Need) × (shelf : ℕ) × (call ≡ put place need shelf))

-- a call about a block that gives one away as it begins is a free or a put of this block
gives-about :
    (e : ErrandFields) (call : Call) (place : ℕ) → IsAbout call place → Contains (leaving (begun_by e call).point) place → IsGiving call place
unfolding write_begun read_begun
gives-about e (alloc words) place about there = absurd about
gives-about e (free at n) place about there = inl (n, ap (λ p. free p n) about)
gives-about e (write at n i value) place about there = absurd (none-there _ place refl there)
gives-about e (read at n i) place about there = absurd (none-there _ place refl there)
gives-about e (put at n shelf) place about there = inr (n, shelf, ap (λ p. put p n shelf) about)
gives-about e (take shelf) place about there = absurd about

pub begins-leaving :
    (e : ErrandFields) (call : Call) (place : ℕ) → IsIdle e → IsAboutBlock e.geometry call → Contains (leaving (begun_by e call).point) place
    → IsGiving call place
begins-leaving e call place idle about there =
    gives-about e call place (begins-concerned e call place idle about (leaving-concerned (begun_by e call).point place there)) there

-- a call that gives a block away is none that leaves the block's place alone
giving-takes : (call : Call) (place : ℕ) → IsGiving call place → LeavesPlace call place → ⊥
giving-takes call place (inl (n, is)) leaves = let l : LeavesPlace (free place n) place = subst (λ c. LeavesPlace c place) is leaves in l refl
giving-takes call place (inr (n, shelf, is)) leaves =
    let l : LeavesPlace (put place n shelf) place = subst (λ c. LeavesPlace c place) is leaves in l refl

pub begins-sparing :
    (e : ErrandFields) (call : Call) (place : ℕ) → IsIdle e → IsAboutBlock e.geometry call → LeavesPlace call place
    → ¬ Contains (leaving (begun_by e call).point) place
begins-sparing e call place idle about leaves there = giving-takes call place (begins-leaving e call place idle about there) leaves
