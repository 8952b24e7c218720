-- The step of a won push, and what it changes.
use Rattle.std.proofs.Common.{ℕ, Bool, true, false, ◌≡◌, ◌≢◌, ◌<◌, ◌≤◌, ◌+◌, ◌^◌, [], refl, arith, ap, sym, subst, inl, inr, ◌∙◌, ◌==◌, IsTrue, if◌then◌else◌, eq-eqb}
use Rattle.std.proofs.Common.{ne_eqb, mod-eq_of_lt}
use Rattle.std.proofs.lemmas.Bool.{cases_eq}
use Rattle.std.proofs.lemmas.List.Elements.{All-head}
use Rattle.std.specs.List.{AllByRecursion}
use Rattle.sound_state.proofs.Common.{Geometry, block_count_of, AnchorFields, anchor_of, anchor_word, link_of, is_empty, Site, link_in, Frames, Continuation, Point, Idle}
use Rattle.sound_state.proofs.Common.{Block, Stack, Desc, Partial, ErrandFields, event_of, next_of, plan_point_of, State, Step, holds_of, Lists, IsOwned, recalls_of}
use Rattle.sound_state.proofs.Common.{IsSoundWith, IsChained, anchor_for, away_of, info_for, superblock_of, IsAnchor, AVAIL_BITS, COUNT_BITS, anchor_of-anchor_word}
use Rattle.sound_state.proofs.Common.{block_count_of-most, is_last, Cas, IsSo, IsEmptied}
use Rattle.heap_geometry.specs.declared.need.Need.TheVariants as need
use Rattle.packed_words.specs.declared.anchor.AnchorState.{AnchorState as Phase}
use Rattle.packed_words.specs.declared.anchor.AnchorState.TheVariants as phase
use Rattle.word_table.specs.declared.name.WordName.TheVariants as name
use Rattle.step_parts.specs.superblock.Anchors.{pushed}
use Rattle.step_parts.specs.superblock.Points as points
use Rattle.step_parts.specs.declared.superblock.exit.BlockExit.TheVariants as block_exit
use Rattle.step_parts.specs.declared.superblock.point.BlockPoint.TheVariants as block
use Rattle.step_parts.specs.declared.stack.point.StackPoint.TheVariants as stack
use Rattle.step_parts.specs.declared.hazard.point.DescPoint.TheVariants as desc
use Rattle.step_parts.specs.declared.partial.point.PartialPoint.TheVariants as partial
use Rattle.errand_steps.specs.declared.continuation.Continuation.TheVariants as continuation
use Rattle.errand_steps.specs.declared.reply.Reply.TheVariants as reply
use Rattle.errand_steps.specs.Nexts.{leave_block}
use Rattle.sound_state.proofs.shared.HasLemmas.{bound-stands}
use Rattle.sound_state.proofs.shared.PointLemmas.{fits-at, frees-at, the-free, recalled-at}
use Rattle.sound_state.proofs.pushes.PushEffects.{Outcome, stays, unfills, empties, IsOutcome, Pushes, FreeStands, pushed_anchor, pushed_holds}
use Rattle.sound_state.proofs.pushes.PushEffects.{pushed_place}
use Rattle.sound_state.proofs.shared.StepLemmas.{at_point, keeps-counts}
use Rattle.sound_state.proofs.shared.CreditLemmas.{won_with}
use Rattle.sound_state.proofs.shared.WonEffects.{LeadsTo, AnchorWon, anchor-won}
use Rattle.sound_state.proofs.shared.WrittenWords.{pushed-fits}

-- the point to which a won push leads
abbrev ended : Bool → Site → Point
ended stored at = if stored then Desc (desc.ClearHazard at.seat) continuation.EndFree else Idle

abbrev pushed_point : Outcome → Site → Bool → ℕ → Point
pushed_point stays at stored heap = ended stored at
pushed_point unfills at stored heap = Partial (partial.LoadOwner at.seat at.desc) (continuation.Finish stored)
pushed_point empties at stored heap = Stack (stack.LoadTopToPush at.seat Frames at.frame) (continuation.Remove at.desc heap)

record LeadsByOutcome (at : Site) (i : ℕ) (a : AnchorFields) (stored : Bool) (heap : ℕ) (out : Outcome) : Type 0 where
  is : IsOutcome out at.seat.class stored a
  next : LeadsTo (leave_block (points.after_push at a stored heap) continuation.Free) (pushed_point out at stored heap)
  anchor : pushed at.seat.class i a ≡ pushed_anchor out i a

-- an anchor has room for the number of a block
avail-room : (class : ℕ) → block_count_of class ≤ 2 ^ AVAIL_BITS
avail-room class = omega (arith, block_count_of-most class)

finishes : (at : Site) (stored : Bool) → LeadsTo (leave_block (block_exit.Pushed at.seat stored) continuation.Free) (ended stored at)
finishes at true = inl refl
finishes at false = inr (reply.Freed, refl, refl)

not-last : (class : ℕ) (a : AnchorFields) → a.count + 1 < block_count_of class → is_last class a ≡ false
not-last class a less = ne_eqb (a.count + 1) (block_count_of class) (λ same. let bad : ⊥ = omega (arith, same, less) in bad)

leads-by :
    (at : Site) (i : ℕ) (a : AnchorFields) (stored : Bool) (heap : ℕ) (p : Phase) → a.state ≡ p → i < 2 ^ AVAIL_BITS
    → a.count + 1 < block_count_of at.seat.class → p ≢ phase.Empty → (out : Outcome) × LeadsByOutcome at i a stored heap out
leads-by at i a stored heap phase.Active is avail less stands =
    let last = not-last at.seat.class a less in
    let count = mod-eq_of_lt {n = a.count + 1} {m = 2 ^ COUNT_BITS} (omega (arith, less, avail-room at.seat.class)) in
    let index = mod-eq_of_lt {n = i} {m = 2 ^ AVAIL_BITS} avail in
    (stays, record { is = (less, inl is); next = rw (last, is) (finishes at stored); anchor = rw (last, is, index, count) refl })
leads-by at i a stored heap phase.Full is avail less stands =
    let last = not-last at.seat.class a less in
    let count = mod-eq_of_lt {n = a.count + 1} {m = 2 ^ COUNT_BITS} (omega (arith, less, avail-room at.seat.class)) in
    let index = mod-eq_of_lt {n = i} {m = 2 ^ AVAIL_BITS} avail in
    (unfills, record { is = (less, is); next = rw (last, is) (inl refl); anchor = rw (last, is, index, count) refl })
leads-by at i a stored heap phase.Partial is avail less stands =
    let last = not-last at.seat.class a less in
    let count = mod-eq_of_lt {n = a.count + 1} {m = 2 ^ COUNT_BITS} (omega (arith, less, avail-room at.seat.class)) in
    let index = mod-eq_of_lt {n = i} {m = 2 ^ AVAIL_BITS} avail in
    (stays, record { is = (less, inr is); next = rw (last, is) (finishes at stored); anchor = rw (last, is, index, count) refl })
leads-by at i a stored heap phase.Empty is avail less stands = absurd (stands refl)

leads :
    (at : Site) (i : ℕ) (a : AnchorFields) (stored : Bool) (heap : ℕ) → i < 2 ^ AVAIL_BITS
    → a.count < block_count_of at.seat.class → a.state ≢ phase.Empty → (IsTrue (is_last at.seat.class a) → IsTrue stored)
    → (out : Outcome) × LeadsByOutcome at i a stored heap out
leads at i a stored heap avail less stands last =
    elim (cases_eq (a.count + 1) (block_count_of at.seat.class)) [
      | inl same ↦
          let is : is_last at.seat.class a ≡ true = eq-eqb (a.count + 1) (block_count_of at.seat.class) same in (
            empties,
            record {
              is = (same, last is);
              next = rw is (inl refl);
              anchor = rw (is, mod-eq_of_lt {n = i} {m = 2 ^ AVAIL_BITS} avail) refl;
            },
          )
      | inr differ ↦ leads-by at i a stored heap a.state refl avail (omega (arith, less, differ)) stands
    ]

pushed-point-holds : (out : Outcome) (at : Site) (stored : Bool) (heap : ℕ) → holds_of (pushed_point out at stored heap) ≡ pushed_holds out at stored
unfolding holds_of
pushed-point-holds stays at true heap = refl
pushed-point-holds stays at false heap = refl
pushed-point-holds unfills at stored heap = refl
pushed-point-holds empties at stored heap = refl

-- what a caller remembers after its push is so: that the superblock which it made EMPTY is
pushed-point-so :
    (g : Geometry) (s : State) (l : Lists) (caller : ℕ) (out : Outcome) (at : Site) (stored : Bool) (heap : ℕ)
    → (out ≡ empties → IsEmptied g s l at.desc) → AllByRecursion (IsSo g s l caller) (recalls_of (pushed_point out at stored heap))
unfolding recalls_of
pushed-point-so g s l caller stays at true heap so = tt
pushed-point-so g s l caller stays at false heap so = tt
pushed-point-so g s l caller unfills at stored heap so = tt
pushed-point-so g s l caller empties at stored heap so = (so refl, tt)

pushed-point-stands : (out : Outcome) (at : Site) (stored : Bool) (heap : ℕ) → FreeStands (pushed_point out at stored heap)
pushed-point-stands stays at true heap = grind (arith)
pushed-point-stands stays at false heap = grind (arith)
pushed-point-stands unfills at stored heap = grind (arith)
pushed-point-stands empties at stored heap = grind (arith)

push-stands :
    (at : Site) (i : ℕ) (a : AnchorFields) (stored : Bool) (heap : ℕ) (o : Continuation) → FreeStands (Block (block.PushBlock at i a stored heap) o)
push-stands at i a stored heap o = grind (arith)

-- the link that a small word says is the word
small-link : (w : ℕ) → w < 2 ^ AVAIL_BITS → link_of w ≡ w
small-link w lt = omega (arith, lt)

-- some outcome and errand with which a push is won
abbrev pub PushesOut : Geometry → State → Lists → ℕ → Site → ℕ → Bool → AnchorFields → State → Type 0
PushesOut g s l caller at i stored a s' = (out : Outcome) × (e : ErrandFields) × Pushes g s l caller at i stored a out e s'

-- what the step of a won push changes
pub push-pushes :
    (g : Geometry) (s : State) (l : Lists) (caller : ℕ) (s' : State) (at : Site) (i : ℕ) (a : AnchorFields) (stored : Bool) (heap : ℕ) (o : Continuation)
    → IsSoundWith g s l → caller < g.callers → (s.errand caller).point ≡ Block (block.PushBlock at i a stored heap) o
    → s.word (name.Anchor at.desc) ≡ anchor_word a → Step s caller s' → PushesOut g s l caller at i stored a s'
unfolding event_of next_of plan_point_of holds_of recalls_of
push-pushes g s l caller s' at i a stored heap o is has here word step =
    let p : Point = Block (block.PushBlock at i a stored heap) o in
    let fit = fits-at g s l caller p is has here in
    let (so_link, (so_bound, none)) = recalled-at g s l caller p is has here in
    let frees = frees-at g s l caller p is has here in
    let before : anchor_for s at.desc ≡ a = ap anchor_of word ∙ anchor_of-anchor_word a fit.point.anchor.fits in
    let avail : i < 2 ^ AVAIL_BITS = omega (arith, fit.point.block.index, avail-room at.seat.class) in
    let chained : IsChained (superblock_of g s at.desc) = is.chained.chained at.desc fit.point.block.site.desc so_bound.0 in
    let less : a.count < block_count_of at.seat.class =
    subst (λ x. x.count < block_count_of at.seat.class) before
    (subst (λ c. (anchor_for s at.desc).count < block_count_of c) so_bound.1.class chained.some) in
    let stood : is_empty a.state ≡ false =
    subst (λ x. is_empty x.state ≡ false) before (bound-stands (away_of g s l at.desc == 0) (is_empty (anchor_for s at.desc).state) so_bound.0) in
    let stands : a.state ≢ phase.Empty = λ empty. let bad : is_empty phase.Empty ≡ false = ap is_empty (sym empty) ∙ stood in cc in
    let to = leads at i a stored heap avail less stands fit.point.before_last in
    let out : Outcome = to.0 in
    let q : Point = pushed_point out at stored heap in
    let free : o ≡ continuation.Free = the-free o fit.goes in
    let fits_new : IsAnchor (pushed_anchor out i a) =
    subst IsAnchor to.1.anchor (pushed-fits at.seat.class i a fit.point.anchor.fits) in
    let won : AnchorWon s caller p at.desc a (pushed_anchor out i a) q s' =
    anchor-won s caller s' p at.desc a (pushed_anchor out i a) q here word fit.point.anchor.fits fits_new
    (ap (λ x. Cas (name.Anchor at.desc) (anchor_word a) (anchor_word x)) to.1.anchor)
    (subst (λ r. LeadsTo (leave_block (points.after_push at a stored heap) r) q) (sym free) to.1.next) step in (
      out,
      at_point (s.errand caller) (won_with (anchor_word a)) q,
      record {
        in_heap = has;
        moves = won.step.moves;
        site = fit.point.block.site;
        index = fit.point.block.index;
        fits = fit.point.anchor;
        goes = to.1.is;
        bound = so_bound.0;
        located = so_bound.1;
        owned =
            All-head (λ x. IsOwned s caller x.place x.need)
            (record { place = pushed_place at i; need = need.Small at.seat.class; overwritten = true }) [] frees;
        before = won.before;
        after = won.after;
        next =
            ap (λ f. link_in s.word f (info_for s at.desc).class i) so_bound.1.frame
            ∙ ap (λ c. link_in s.word at.frame c i) so_bound.1.class ∙ ap link_of so_link.1
            ∙ small-link a.avail fit.point.anchor.fits.avail;
        elsewhere = won.elsewhere;
        history = won.step.history;
        own = keeps-counts (s.errand caller) p (won_with (anchor_word a)) q here refl refl;
        holds_before = ap holds_of here;
        holds_after = pushed-point-holds out at stored heap;
        recalls_after = pushed-point-so g s' l caller out at stored heap;
        stands_before = subst FreeStands (sym here) (push-stands at i a stored heap o);
        stands_after = pushed-point-stands out at stored heap;
      },
    )
