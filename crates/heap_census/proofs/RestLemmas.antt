-- A closed heap rests: it is a sound state whose callers are idle.
use Rattle.std.proofs.Common.{ℕ, Option, Some, None, ◌≡◌, ◌<◌, ◌≤◌, ◌+◌, arith, ap}
use Rattle.std.specs.Prelude.{IsSome, ◌==◌, ◌&&◌, not}
use Rattle.heap_geometry.specs.declared.geometry.Geometry.{Geometry}
use Rattle.heap_geometry.specs.declared.limits.TheConstants.{CLASSES, MAX_COUNT}
use Rattle.heap_geometry.specs.Geometry.{IsChecked}
use Rattle.packed_words.specs.Info.{InfoFields, IsInfo, info_of, info_word}
use Rattle.packed_words.specs.Fields.{Reads}
use Rattle.packed_words.proofs.InfoLemmas.{info-exact}
use Rattle.packed_words.specs.Head.{head_of}
use Rattle.packed_words.specs.declared.active.ActiveWord.{ActiveWord}
use Rattle.packed_words.specs.declared.active.ActiveWord.TheVariants.{Null, Held}
use Rattle.packed_words.specs.Active.{IsActiveWord, active_word, active_of}
use Rattle.packed_words.proofs.ActiveLemmas.{active-exact}
use Rattle.packed_words.proofs.AnchorLemmas.{IsAnchor-anchor_of}
use Rattle.word_table.specs.declared.name.WordName.TheVariants as name
use Rattle.word_table.specs.Counts.{descriptor_count}
use Rattle.word_table.specs.Occurs.{occurs}
use Rattle.word_table.specs.declared.limits.TheConstants.{MAX_DESCRIPTORS, MOST_CREDITS}
use Rattle.word_table.specs.Seats.{info_within}
use Rattle.word_table.proofs.CountLemmas.{descriptor_count_within}
use Rattle.step_parts.specs.declared.stack.point.Pile.TheVariants.{Frames, Partials}
use Rattle.step_parts.specs.stack.Stacks.{next_in}
use Rattle.step_parts.specs.partial.Grants.{is_empty}
use Rattle.errand_steps.specs.Steps.{State}
use Rattle.sound_state.specs.Lists.{Lists, IsListed}
use Rattle.sound_state.specs.Superblocks.{info_for, info_or_zero, anchor_for, errand_away, is_bound}
use Rattle.sound_state.proofs.CountedLemmas.{without-counts}
use Rattle.sound_state.specs.Sums.{callers_sum}
use Rattle.sound_state.proofs.shared.StackedLemmas.{stacked-same}
use Rattle.step_machine.proofs.CoreLemmas.{core-sound}
use Rattle.live_heap.specs.Endings.{ClosedFields, IsResting, machine_of}
use Rattle.heap_census.specs.Census.{closed_state, has_class, active_in, offers}
use Rattle.heap_census.proofs.IdleLemmas.{Rests}

-- a descriptor's class is one of the heap's
class-read : (word : ℕ) (o : Option InfoFields) → Reads IsInfo info_word word o → (info_or_zero o).class < CLASSES
class-read word None reads = omega arith
class-read word (Some i) reads = reads.0.class

pub info-class : (g : Geometry) (s : State) (l : Lists) (d : ℕ) → Rests g s l → d < descriptor_count g → (info_for s d).class < CLASSES
info-class g s l d rests has =
    class-read (s.word (name.Info d)) (info_of (s.word (name.Info d)))
    (info-exact.reads (s.word (name.Info d)) (rests.parts.formed.words (name.Info d)))

-- a closed heap rests, with some lists
pub closed-rests : (c : ClosedFields) → IsResting c → (l : Lists) × Rests c.geometry (closed_state c) l
closed-rests c resting =
    let sound = without-counts c.geometry (closed_state c) (core-sound (machine_of c resting.steps) resting.core) in
    (sound.parts.0, record { sound = sound; parts = sound.parts.1; idle = resting.idle })

-- the lists of a heap are one each, and so is what they say of its superblocks
pub available-same :
    (g : Geometry) (s : State) (l k : Lists) → IsListed g s.word l → IsListed g s.word k → l.available ≡ k.available
available-same g s l k a b =
    stacked-same (next_in s.word Partials) (s.word name.DescHead) l.available k.available a.available b.available

pub frames-same : (g : Geometry) (s : State) (l k : Lists) → IsListed g s.word l → IsListed g s.word k → l.frames ≡ k.frames
frames-same g s l k a b =
    stacked-same (next_in s.word Frames) (head_of (s.word name.FrameHead)).top l.frames k.frames a.frames b.frames

pub bound-same :
    (g : Geometry) (s : State) (l k : Lists) → IsListed g s.word l → IsListed g s.word k → (d : ℕ) → is_bound g s l d ≡ is_bound g s k d
bound-same g s l k a b d =
    ap (λ xs. (occurs d xs + callers_sum g (errand_away d) s.errand == 0) && not (is_empty (anchor_for s d).state)) (available-same g s l k a b)

pub has-same :
    (g : Geometry) (s : State) (l k : Lists) → IsListed g s.word l → IsListed g s.word k → (class d : ℕ)
    → has_class g s l class d ≡ has_class g s k class d
has-same g s l k a b class d = ap (λ t. t && ((info_for s d).class == class)) (bound-same g s l k a b d)

-- a closed heap's numbers are in range, and so are its words
pub closed-checked : (c : ClosedFields) → IsResting c → IsChecked c.geometry
closed-checked c resting = (closed-rests c resting).1.sound.checked

pub few-descriptors : (c : ClosedFields) → IsResting c → descriptor_count c.geometry ≤ MAX_DESCRIPTORS
few-descriptors c resting = descriptor_count_within c.geometry (closed-checked c resting)

info-none : (g : Geometry) (o : Option InfoFields) → IsSome (info_within g o) → o ≡ None → ⊥
info-none g None some is = absurd (cc)
info-none g (Some i) some is = let bad : ◌≡◌ {A = Option InfoFields} (Some i) None = is in cc

pub info-there : (c : ClosedFields) (d : ℕ) → IsResting c → d < descriptor_count c.geometry → info_of ((closed_state c).word (name.Info d)) ≡ None → ⊥
info-there c d resting has none =
    let (l, rests) = closed-rests c resting in
    info-none c.geometry (info_of ((closed_state c).word (name.Info d))) (rests.parts.chained.infos d has) none

pub active-there :
    (c : ClosedFields) (heap class d credits : ℕ) → IsResting c → heap < c.geometry.heaps → class < CLASSES
    → active_in (closed_state c) heap class ≡ Some (Held d credits) → d < descriptor_count c.geometry
active-there c heap class d credits resting has_heap has_class is =
    let (l, rests) = closed-rests c resting in
    (rests.parts.kept.active heap class d credits has_heap has_class is).0

-- an anchor counts at most the blocks that a frame can have, and an active word offers at most `MOST_CREDITS`
pub count-most : (s : State) (d : ℕ) → (anchor_for s d).count ≤ MAX_COUNT
count-most s d = omega (arith, (IsAnchor-anchor_of (s.word (name.Anchor d))).count)

offers-within : (word : ℕ) (o : Option ActiveWord) → Reads IsActiveWord active_word word o → offers o ≤ MOST_CREDITS
offers-within word None reads = omega arith
offers-within word (Some Null) reads = omega arith
offers-within word (Some (Held d credits)) reads = omega (arith, reads.0.1)

pub offers-most : (c : ClosedFields) (heap class : ℕ) → IsResting c → offers (active_in (closed_state c) heap class) ≤ MOST_CREDITS
offers-most c heap class resting =
    let (l, rests) = closed-rests c resting in
    let word : ℕ = (closed_state c).word (name.Active heap class) in
    offers-within word (active_of word) (active-exact.reads word (rests.parts.formed.words (name.Active heap class)))
