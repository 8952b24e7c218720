-- The block that a call is about: what the call gives away, or whose word it writes or reads, is this block; no step makes it another one, and a call begins with the block that it names.
use Rattle.std.proofs.Common.{ℕ, zero, suc, true, ◌≡◌, ◌∷◌, List, [], arith, refl, sym, ap, subst, inl, inr, Contains}
use Rattle.std.proofs.lemmas.Bool.{cases_Bool}
use Rattle.heap_geometry.specs.declared.need.Need.{Need}
use Rattle.heap_geometry.specs.declared.need.Need.TheVariants as need
use Rattle.heap_geometry.specs.Need.{need_of}
use Rattle.word_table.specs.declared.action.Found.{Found}
use Rattle.step_parts.specs.declared.large.point.LargePoint.TheVariants as large
use Rattle.errand_steps.specs.declared.point.Point.{Point}
use Rattle.errand_steps.specs.declared.point.Point.TheVariants.{Large}
use Rattle.errand_steps.specs.tables.CallStage.{StageOfCall, freeing, putting, writing, reading}
use Rattle.errand_steps.specs.Begins.{IsIdle, IsHeapBlock, alloc_begun, begins_alloc, free_begun, free_point, put_begun, read_begun, take_begun, write_begun}
use Rattle.errand_steps.specs.Calls.{Call, alloc, free, write, read, put, take, begun_by}
use Rattle.errand_steps.specs.Errands.{ErrandFields, is_spent, settle_of}
use Rattle.errand_steps.specs.Points.{is_idle}
use Rattle.errand_steps.proofs.BeginLemmas.{frame_is, index_is}
use Rattle.sound_laws.specs.events.Stages.{stage_of}
use Rattle.sound_laws.specs.events.UnderWay.{IsAboutBlock}
use Rattle.owned_words.specs.Accesses.{AccessesWord}
use Rattle.owned_words.specs.Leaving.{IsAbout, concerned, concerned_at, leaving, leaving_at}
use Rattle.owned_words.proofs.KeptStages.{IsKept, settles-kept}

-- what no list, or a list of one place, contains
pub none-there : (places : List ℕ) (place : ℕ) → places ≡ [] → ¬ Contains places place
none-there [] place none (k, below, is) = omega arith
none-there (p ∷ places) place none there = let no : p ∷ places ≡ [] = none in cc

the-only : (p place : ℕ) → Contains (p ∷ []) place → p ≡ place
the-only p place (zero, below, is) = is
the-only p place (suc k, below, is) = absurd (omega arith)

one-there : (places : List ℕ) (p place : ℕ) → places ≡ p ∷ [] → Contains places place → p ≡ place
one-there places p place one there = the-only p place (subst (λ l. Contains l place) one there)

-- a list of one place contains it
pub the-one : (place : ℕ) → Contains (place ∷ []) place
the-one place = (0, omega arith, refl)

-- a call is about the block that it is about to give away
at-concerned : (stage : StageOfCall) (place : ℕ) → Contains (leaving_at stage) place → Contains (concerned_at stage) place
at-concerned (freeing p n) place there = there
at-concerned (putting p n shelf) place there = there
at-concerned stage place there = absurd (none-there _ place refl there)

pub leaving-concerned : (p : Point) (place : ℕ) → Contains (leaving p) place → Contains (concerned p) place
leaving-concerned p place there = at-concerned (stage_of p) place there

-- a call is about the block whose word it writes or reads
pub accesses-concerned : (p : Point) (place i : ℕ) → AccessesWord p place i → Contains (concerned p) place
accesses-concerned (Large (large.StoreWord p j value) o) place i (at, same) = subst (Contains (p ∷ [])) at (the-one p)
accesses-concerned (Large (large.LoadWord p j) o) place i (at, same) = subst (Contains (p ∷ [])) at (the-one p)
accesses-concerned p place i accesses = absurd accesses

-- behind a step a call is about no other block than before it
kept-concerned : (now before : StageOfCall) (place : ℕ) → IsKept now before → Contains (concerned_at now) place → Contains (concerned_at before) place
kept-concerned (freeing p n) before place kept there = subst (λ t. Contains (concerned_at t) place) kept there
kept-concerned (putting p n shelf) before place kept there = subst (λ t. Contains (concerned_at t) place) kept there
kept-concerned (writing p i value) before place kept there = subst (λ t. Contains (concerned_at t) place) kept there
kept-concerned (reading p i) before place kept there = subst (λ t. Contains (concerned_at t) place) kept there
kept-concerned now before place kept there = absurd (none-there _ place refl there)

pub settles-concerned :
    (e : ErrandFields) (x : Found) (place : ℕ) → Contains (concerned (settle_of e x).point) place → Contains (concerned e.point) place
settles-concerned e x place there = kept-concerned (stage_of (settle_of e x).point) (stage_of e.point) place (settles-kept e x) there

-- who is in no call is about no block
idle-none : (p : Point) → is_idle p ≡ true → concerned p ≡ []
idle-none p idle = grind (arith)

pub idle-concerned : (e : ErrandFields) (place : ℕ) → IsIdle e → ¬ Contains (concerned e.point) place
idle-concerned e place idle = none-there (concerned e.point) place (idle-none e.point idle)

-- an allocation begins about no block, and a free about the one that it frees
alloc-none : (e : ErrandFields) (words : ℕ) (n : Need) → IsIdle e → concerned (begins_alloc e words n).point ≡ []
alloc-none e words (need.Small class) idle =
    elim (cases_Bool (is_spent e)) [
      | inl spent ↦ rw spent (idle-none e.point idle)
      | inr left ↦ rw left refl
    ]
alloc-none e words (need.Large units) idle = refl
alloc-none e words need.TooLarge idle = idle-none e.point idle

free-one : (e : ErrandFields) (place : ℕ) (n : Need) → IsHeapBlock e.geometry place n → concerned (free_point e place n) ≡ place ∷ []
free-one e place (need.Small class) block =
    let (frame, index, has, below, at) = block.1 in
    let f = frame_is frame class index place below (sym at) in
    let i = index_is frame class index place below (sym at) in
    rw (f, i) (ap (λ p. p ∷ []) (sym at))
free-one e place (need.Large units) block = refl
free-one e place need.TooLarge block = absurd block.1

pub begins-concerned :
    (e : ErrandFields) (call : Call) (place : ℕ) → IsIdle e → IsAboutBlock e.geometry call → Contains (concerned (begun_by e call).point) place
    → IsAbout call place
unfolding alloc_begun free_begun write_begun read_begun put_begun take_begun
begins-concerned e (alloc words) place idle about there = absurd (none-there _ place (alloc-none e words (need_of words) idle) there)
begins-concerned e (free at n) place idle about there = one-there _ at place (free-one e at n about) there
begins-concerned e (write at n i value) place idle about there = one-there _ at place refl there
begins-concerned e (read at n i) place idle about there = one-there _ at place refl there
begins-concerned e (put at n shelf) place idle about there = one-there _ at place refl there
begins-concerned e (take shelf) place idle about there = absurd (none-there _ place refl there)
