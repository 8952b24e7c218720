-- The step of a won pop, and what it changes.
use Rattle.std.proofs.Common.{ℕ, Bool, true, false, ◌≡◌, ◌<◌, ◌+◌, ◌^◌, refl, arith, ap, sym, subst, inl, ◌∙◌, if◌then◌else◌, nat_lt, mod-eq_of_lt}
use Rattle.std.specs.List.{AllByRecursion}
use Rattle.sound_state.proofs.Common.{Geometry, AnchorFields, anchor_of, anchor_word, link_of, Site, BlockPoint, Share, Continuation, Point, Block, event_of, next_of}
use Rattle.sound_state.proofs.Common.{asked, plan_point_of, State, Step, holds_of, Lists, recalls_of, IsSoundWithoutCounts, IsSoundWith, anchor_for, IsAnchor}
use Rattle.sound_state.proofs.Common.{TAG_BITS, anchor_of-anchor_word, more_of, Cas, nothing, block_handed, IsSo}
use Rattle.word_table.specs.declared.name.WordName.TheVariants as name
use Rattle.step_parts.specs.superblock.Anchors.{popped}
use Rattle.step_parts.specs.superblock.Points as points
use Rattle.step_parts.specs.declared.superblock.point.BlockPoint.TheVariants as block
use Rattle.errand_steps.specs.tables.Blocks as hold
use Rattle.sound_state.proofs.shared.PointLemmas.{fits-at, the-alloc, small-asked, recalled-at}
use Rattle.sound_state.proofs.pops.PopEffects.{Pops, popped_anchor}
use Rattle.sound_state.proofs.pops.PopTies.{popped-legal}
use Rattle.sound_state.proofs.quiet.QuietExchanges.{pop_block-lost}
use Rattle.sound_state.proofs.shared.StepLemmas.{at_point, keeps-counts}
use Rattle.sound_state.proofs.shared.TagLemmas.{anchor-tags-below}
use Rattle.sound_state.proofs.shared.CreditLemmas.{won_with}
use Rattle.sound_state.proofs.shared.TurnEffects.{StandsIn}
use Rattle.sound_state.proofs.shared.WonEffects.{AnchorWon, anchor-won}
use Rattle.sound_state.proofs.shared.KeepsSound.{KeepsSound, KeepsSoundWhere, stepped-sound, either-sound}
use Rattle.sound_state.proofs.shared.WrittenWords.{popped-fits}
use Rattle.sound_state.proofs.SoundAfter.{popped-sound}
use Rattle.sound_state.proofs.shared.RecallFrame.{LiesAt}

-- the point to which a won pop leads, by whether more blocks are reserved
abbrev popped_point : Bool → Site → ℕ → ℕ → BlockPoint
popped_point b at i more = if b then block.InstallCredits at i more else block.StorePrefix at i

popped-point-holds :
    (b : Bool) (at : Site) (i more : ℕ) (o : Continuation)
    → holds_of (Block (popped_point b at i more) o)
    ≡ (if b then hold.holds_after_pop at i more else record nothing { hands = block_handed at i })
unfolding holds_of
popped-point-holds true at i more o = refl
popped-point-holds false at i more o = refl

popped-point-so :
    (g : Geometry) (s : State) (l : Lists) (caller : ℕ) (b : Bool) (at : Site) (i more : ℕ) (o : Continuation) → LiesAt g s l at
    → AllByRecursion (IsSo g s l caller) (recalls_of (Block (popped_point b at i more) o))
unfolding recalls_of
popped-point-so g s l caller true at i more o lies = (lies, tt)
popped-point-so g s l caller false at i more o lies = (lies, tt)

popped-point-stands : (b : Bool) (at : Site) (i more : ℕ) (o : Continuation) → StandsIn false (Block (popped_point b at i more) o)
popped-point-stands true at i more o = grind (arith)
popped-point-stands false at i more o = grind (arith)

pop_block-stands :
    (at : Site) (share : Share) (a : AnchorFields) (prefix : ℕ) (o : Continuation) → StandsIn true (Block (block.PopBlock at share a prefix) o)
pop_block-stands at share a prefix o = grind (arith)

-- an anchor whose tag has room isn't cut by a pop
popped-uncut : (share : Share) (a : AnchorFields) (link : ℕ) → a.tag + 1 < 2 ^ TAG_BITS → popped share a link ≡ popped_anchor share a link
popped-uncut share a link room = ap (λ t. record (popped_anchor share a link) { tag = t }) (mod-eq_of_lt {n = a.tag + 1} {m = 2 ^ TAG_BITS} room)

-- what the step of a won pop changes
pub pop-pops :
    (g : Geometry) (s : State) (l : Lists) (caller : ℕ) (s' : State) (at : Site) (share : Share) (a : AnchorFields) (prefix : ℕ) (o : Continuation)
    → IsSoundWithoutCounts g s → IsSoundWith g s l → caller < g.callers → (s.errand caller).point ≡ Block (block.PopBlock at share a prefix) o
    → s.word (name.Anchor at.desc) ≡ anchor_word a → Step s caller s'
    → Pops g s l caller at share a (link_of prefix) (asked o)
    (at_point (s.errand caller) (won_with (anchor_word a)) (Block (points.after_pop at a.avail (more_of share a)) o)) s'
unfolding event_of next_of plan_point_of holds_of recalls_of
pop-pops g s l caller s' at share a prefix o sound is has here word step =
    let p : Point = Block (block.PopBlock at share a prefix) o in
    let q : Point = Block (points.after_pop at a.avail (more_of share a)) o in
    let fit = fits-at g s l caller p is has here in
    let (so_link, (so_pop, (so_bound, none))) = recalled-at g s l caller p is has here in
    let before : anchor_for s at.desc ≡ a = ap anchor_of word ∙ anchor_of-anchor_word a fit.point.anchor.fits in
    let room : a.tag + 1 < 2 ^ TAG_BITS =
    subst (λ x. x.tag + 1 < 2 ^ TAG_BITS) before (anchor-tags-below g s sound at.desc fit.point.site.desc) in
    let uncut : popped share a (link_of prefix) ≡ popped_anchor share a (link_of prefix) = popped-uncut share a (link_of prefix) room in
    let fits_new : IsAnchor (popped_anchor share a (link_of prefix)) =
    subst IsAnchor uncut (popped-fits share a prefix fit.point.anchor.fits) in
    let new : AnchorFields = popped_anchor share a (link_of prefix) in
    let won : AnchorWon s caller p at.desc a new q s' =
    anchor-won s caller s' p at.desc a new q here word fit.point.anchor.fits fits_new
    (ap (λ x. Cas (name.Anchor at.desc) (anchor_word a) (anchor_word x)) uncut)
    (inl refl) step in
    record {
      in_heap = has;
      moves = won.step.moves;
      site = fit.point.site;
      fits = fit.point.anchor;
      small = small-asked g caller at o (the-alloc o fit.goes) fit.continuation;
      bound = so_bound.0;
      located = so_bound.1;
      before = won.before;
      after = won.after;
      next = so_link (sym (ap (λ x. x.tag) before));
      elsewhere = won.elsewhere;
      history = won.step.history;
      own = keeps-counts (s.errand caller) p (won_with (anchor_word a)) q here refl refl;
      holds_before = ap holds_of here;
      holds_after = popped-point-holds (nat_lt 0 (more_of share a)) at a.avail (more_of share a) o;
      recalls_after = popped-point-so g s' l caller (nat_lt 0 (more_of share a)) at a.avail (more_of share a) o;
      stands_before = subst (StandsIn true) (sym here) (pop_block-stands at share a prefix o);
      stands_after = popped-point-stands (nat_lt 0 (more_of share a)) at a.avail (more_of share a) o;
    }

-- the state after a won pop is sound
pub pop_block-won :
    (at : Site) (share : Share) (a : AnchorFields) (prefix : ℕ) (o : Continuation)
    → KeepsSoundWhere (Block (block.PopBlock at share a prefix) o) (λ s. s.word (name.Anchor at.desc) ≡ anchor_word a)
pop_block-won at share a prefix o g s caller s' sound has here word step =
    let l = sound.parts.0 in
    let is = sound.parts.1 in
    let h = pop-pops g s l caller s' at share a prefix o sound is has here word step in
    stepped-sound g s caller s' l sound has step (popped-legal h sound is) (popped-sound h sound is)

-- a pop keeps the state sound, won or lost
pub pop_block-sound :
    (at : Site) (share : Share) (a : AnchorFields) (prefix : ℕ) (o : Continuation) → KeepsSound (Block (block.PopBlock at share a prefix) o)
pop_block-sound at share a prefix o =
    either-sound _ (name.Anchor at.desc) (anchor_word a) (pop_block-won at share a prefix o)
    (pop_block-lost at share a prefix o)
