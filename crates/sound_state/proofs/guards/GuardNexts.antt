-- What follows each point: what a scan has noted, what is pushed, and who stores to a hazard word.
use Rattle.std.proofs.Common.{ℕ, Bool, true, false, Option, Some, None, ◌≡◌, ◌<◌, ◌+◌, List, refl, arith, ap, sym, subst, inl, inr, ◌∙◌, length, length-set}
use Rattle.std.proofs.Common.{get_or-set_other, ◌⊎◌, slice_index, slice_set, nat_lt, ltb-false}
use Rattle.std.proofs.lemmas.Bool.{cases_eq, cond_both}
use Rattle.std.proofs.lemmas.Option.{none-some}
use Rattle.std.proofs.lemmas.Grind.{get_or-set_at}
use Rattle.sound_state.proofs.Common.{Geometry, IsChecked, descriptor_count, Found, name_of, after_action, SeatFields, BlockPoint, StackPoint, DescPoint, PartialPoint}
use Rattle.sound_state.proofs.Common.{LargePoint, Continuation, Next, At, Pick, Point, FitsPoint, pushed_by, next_of, plan_point_of, passed_by, held_by, Action, Store}
use Rattle.sound_state.proofs.Common.{Onward, settle_block_of, StackExit, settle_stack_of, settle_desc_of, plan_desc_of, after_hazard, named_in, PartialExit}
use Rattle.sound_state.proofs.Common.{settle_partial_of, LargeExit, settle_large_of, enter_block, enter_stack, enter_desc, enter_partial, enter_large}
use Rattle.word_table.specs.declared.name.WordName.TheVariants as name
use Rattle.word_table.specs.declared.onward.Onward.TheVariants.{Stays, Leaves}
use Rattle.step_parts.specs.declared.superblock.exit.BlockExit.{BlockExit}
use Rattle.step_parts.specs.declared.hazard.exit.DescExit.TheVariants.{Scanned}
use Rattle.step_parts.specs.declared.hazard.point.DescPoint.TheVariants as desc
use Rattle.step_parts.specs.hazard.Points.{FitsDesc}
use Rattle.step_parts.proofs.hazard_lemmas.PickLemmas.{named-here}
use Rattle.errand_steps.specs.declared.point.Point.TheVariants as point
use Rattle.errand_steps.specs.tables.Descs.{passed_by_desc, held_by_desc}
use Rattle.sound_state.proofs.shared.GuardEffects.{scans}

-- what is pushed where a caller goes on, but for what a scan picks
abbrev pub next_pushed : Next → Option ℕ
next_pushed (At p) = pushed_by p
next_pushed n = None

-- what is pushed where a step leads, but for what a scan picks, was pushed before
pub pushed-next : (p : Point) (x : Found) (d : ℕ) → next_pushed (next_of p x) ≡ Some d → pushed_by p ≡ Some d
unfolding next_of
pushed-next p x d is = grind (arith, is, none-some)

-- whether a scan goes on, or is over, in what follows a step
abbrev scans_on : Next → Bool
scans_on (At p) = nat_lt 0 (passed_by p)
scans_on (Pick s held o) = true
scans_on n = false

reads-block : (n : Onward BlockPoint BlockExit) (o : Continuation) → scans_on (enter_block n o) ≡ false
reads-block n o = grind (arith)

reads-stack : (n : Onward StackPoint StackExit) (o : Continuation) → scans_on (enter_stack n o) ≡ false
reads-stack n o = grind (arith)

reads-partial : (n : Onward PartialPoint PartialExit) (o : Continuation) → scans_on (enter_partial n o) ≡ false
reads-partial n o = grind (arith)

reads-large : (n : Onward LargePoint LargeExit) (o : Continuation) → scans_on (enter_large n o) ≡ false
reads-large n o = grind (arith)

reads-desc : (p : DescPoint) (x : Found) (o : Continuation) → scans p ≡ false → scans_on (enter_desc (settle_desc_of p x) o) ≡ false
reads-desc p x o is = grind (arith, is)

-- what follows a step has noted d + 1 as the hazard word of k, where its scan goes on past that one, or is over
abbrev pub NextNotes : ℕ → ℕ → Next → Type 0
NextNotes k d (At p) = k < passed_by p → slice_index (held_by p) k ≡ d + 1
NextNotes k d (Pick s held o) = (k < length held) × (slice_index held k ≡ d + 1)
NextNotes k d n = Unit {0}

unread-notes : (k d : ℕ) (n : Next) → scans_on n ≡ false → NextNotes k d n
unread-notes k d n none = grind (arith, none)

-- the noted words say d + 1 for k with the one that is read, where they did or that one does
word-notes :
    (held : List ℕ) (i k d v : ℕ) → i < length held → (k < i → slice_index held k ≡ d + 1) → (k ≡ i → v ≡ d + 1) → k < i + 1
    → slice_index (slice_set held i v) k ≡ d + 1
word-notes held i k d v room noted scans_on below =
    elim (cases_eq k i) [
      | inl same ↦ get_or-set_at held i k v 0 same room ∙ scans_on same
      | inr differ ↦ get_or-set_other held i k v 0 differ ∙ noted (omega (arith, below, differ))
    ]

-- a step at the hazard words, for the hazard word of k
module _ (g : Geometry) (caller k d : ℕ) (o : Continuation) (checked : IsChecked g) (has : k < g.callers) (exists : d < descriptor_count g) where
  -- what follows the read of a hazard word has noted d + 1 for k, where the notes and the word that is read say so
  read-notes :
      (s : SeatFields) (held : List ℕ) (i v : ℕ) → FitsDesc g caller (desc.ReadHazard s held i) → (k < i → slice_index held k ≡ d + 1) → (k ≡ i → v ≡ d + 1)
      → NextNotes k d (enter_desc (after_hazard s held i v) o)
  read-notes s held i v fits noted scans_on =
      let room : i < length held = omega (arith, checked.callers.1, fits.0.words, fits.1) in
      let all = ap (λ (h : Geometry). h.callers) fits.0.seat.geometry in
      let new = named_in s.geometry v in
      let named = named-here s.geometry v d (subst (λ (h : Geometry). d < descriptor_count h) (sym fits.0.seat.geometry) exists) in
      let notes = word-notes held i k d new room noted (λ same. named (scans_on same)) in
      let now = slice_set held i new in
      cond_both (nat_lt (i + 1) s.geometry.callers) (Stays (desc.ReadHazard s now (i + 1))) (Leaves (Scanned s now))
      (λ n. NextNotes k d (enter_desc n o)) (λ more below. notes below)
      (λ last. (
        omega (arith, has, checked.callers.1, fits.0.words, length-set held i new),
        notes (omega (arith, has, all, ltb-false (i + 1) s.geometry.callers last)),
      ))

  -- what follows a step at the descriptors or the hazard words has noted d + 1 for k
  desc-notes :
      (p : DescPoint) (x : Found) → FitsPoint g caller (point.Desc p o) → (k < passed_by_desc p → slice_index (held_by_desc p) k ≡ d + 1)
      → (name_of (plan_desc_of p) ≡ name.Hazard k → x.value ≡ d + 1) → NextNotes k d (enter_desc (settle_desc_of p x) o)
  desc-notes (desc.ReadHazard s held i) x fits noted scans_on = read-notes s held i x.value fits.point noted (λ same. scans_on (ap name.Hazard (sym same)))
  desc-notes p x fits noted scans_on = unread-notes k d (enter_desc (settle_desc_of p x) o) (reads-desc p x o refl)

-- what follows a step at each point has noted the hazard word of k, if it had, or reads it now
pub notes-next :
    (g : Geometry) (caller k d : ℕ) (p : Point) (x : Found) → IsChecked g → k < g.callers → d < descriptor_count g → FitsPoint g caller p
    → (k < passed_by p → slice_index (held_by p) k ≡ d + 1) → (name_of (plan_point_of p) ≡ name.Hazard k → x.value ≡ d + 1)
    → NextNotes k d (next_of p x)
unfolding next_of plan_point_of
notes-next g caller k d point.Idle x checked has exists fits noted scans_on = noted
notes-next g caller k d (point.Block p o) x checked has exists fits noted scans_on = unread-notes k d _ (reads-block (settle_block_of p x) o)
notes-next g caller k d (point.Stack p o) x checked has exists fits noted scans_on = unread-notes k d _ (reads-stack (settle_stack_of p x) o)
notes-next g caller k d (point.Desc p o) x checked has exists fits noted scans_on = desc-notes g caller k d o checked has exists p x fits noted scans_on
notes-next g caller k d (point.Partial p o) x checked has exists fits noted scans_on = unread-notes k d _ (reads-partial (settle_partial_of p x) o)
notes-next g caller k d (point.Large p o) x checked has exists fits noted scans_on = unread-notes k d _ (reads-large (settle_large_of p x) o)

-- an action at the hazard word of k leaves it, or is a store and the caller is k
abbrev pub MayStore : ℕ → ℕ → Action → ℕ → Type 0
MayStore caller k a w = (after_action a w ≡ w) ⊎ ((caller ≡ k) × (new : ℕ) × (a ≡ Store (name.Hazard k) new))

-- a step at each point that acts on a hazard word reads it, or stores to its caller's own
pub may-store :
    (g : Geometry) (caller k w : ℕ) (p : Point) → FitsPoint g caller p → name_of (plan_point_of p) ≡ name.Hazard k → MayStore caller k (plan_point_of p) w
unfolding plan_point_of
may-store g caller k w p fits is = grind (arith, fits, is)
