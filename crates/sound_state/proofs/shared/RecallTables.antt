-- What callers remember, by the points at which they stand.
use Rattle.std.proofs.Common.{ℕ, ◌≡◌, ◌≢◌, ◌<◌, ◌+◌, List, [], ◌∷◌, refl, arith, ap, subst, IsTrue, All}
use Rattle.std.specs.List.{AllByRecursion}
use Rattle.std.proofs.lemmas.List.Elements.{All-head, All-from_recursion, recursion_from_All}
use Rattle.sound_state.proofs.Common.{Geometry, Small, block_place, Site, SeatFields, BlockPoint, Share, Credit, LastCredit, Grant, Pile, StackPoint, next_name, DescPoint}
use Rattle.sound_state.proofs.Common.{PartialPoint, LargePoint, Continuation, Point, FitsPoint, State, holds_before_pop, WordName, holds_of, Lists, IsSo, IsOwned}
use Rattle.sound_state.proofs.Common.{recalls_of, IsSoundWith, is_bound, reserved_among, errand_reserves, FitsBlock, seat_of_stack, seat_of_partial, FitsContinuation}
use Rattle.sound_state.proofs.Common.{goes_desc, Handed, Freed, reserve, block_holds, continuation_holds, stack_holds, partial_holds, block_recalls, continuation_recalls}
use Rattle.sound_state.proofs.Common.{stack_recalls, desc_recalls, partial_recalls, large_recalls}
use Rattle.sound_state.proofs.Common.{Part, bindings, chains, link_words, single}
use Rattle.word_table.specs.declared.name.WordName.TheVariants as name
use Rattle.step_parts.specs.superblock.Points.{IsBlockOf}
use Rattle.step_parts.specs.declared.superblock.point.BlockPoint.TheVariants as block
use Rattle.errand_steps.specs.declared.continuation.Continuation.TheVariants as continuation
use Rattle.errand_steps.specs.declared.point.Point.TheVariants as point
use Rattle.errand_steps.specs.Points.{site_of}
use Rattle.sound_state.proofs.shared.BackedRecalls.{AllRead}
use Rattle.sound_state.proofs.shared.PointLemmas.{fits-at}
use Rattle.sound_state.proofs.shared.RecallFrame.{LiesAt, Reads}
use Rattle.sound_state.proofs.shared.SuperblockEffects.{anchor_number}

-- a descriptor that is bound is another one than one that isn't
pub bound-differs :
    (g : Geometry) (s : State) (l : Lists) (d : ℕ) → (IsTrue (is_bound g s l d) → ⊥) → (e : ℕ) → IsTrue (is_bound g s l e) → e ≢ d
bound-differs g s l d free e bound same = free (subst (λ k. IsTrue (is_bound g s l k)) same bound)

-- the caller at the point doesn't wait to install the superblock of d
abbrev pub InstallsNone : Point → ℕ → Type 0
InstallsNone p d = (site : Site) (o : Continuation) → p ≡ point.Block (block.InstallSuperblock site) o → site.desc ≢ d

-- a next word
abbrev pub IsLink : WordName → Type 0
IsLink (name.Next d) = Unit {0}
IsLink (name.FrameNext f) = Unit {0}
IsLink n = ⊥

pub next-is_link : (pile : Pile) (i : ℕ) → IsLink (next_name pile i)
next-is_link pile i = grind (arith)

-- the part is read outside of superblocks: no free blocks, no links in the making, and of words only next words
abbrev pub IsElsewhere : Part → Type 0
IsElsewhere (chains d) = ⊥
IsElsewhere (link_words f c blocks) = ⊥
IsElsewhere (single n) = IsLink n
IsElsewhere p = Unit {0}

-- what holds of all such parts, and of what is read in superblocks, holds of all that is read
module _ (P : Part → Type 0) (goes : (q : Part) → IsElsewhere q → P q) where
  reads-continuation : (seat : SeatFields) (o : Continuation) → AllByRecursion (Reads P) (continuation_recalls seat o)
  reads-continuation seat o = grind (arith)

  pub reads-point :
      (p : Point) → ((b : BlockPoint) (o : Continuation) → p ≡ point.Block b o → AllByRecursion (Reads P) (block_recalls b)) → AllRead P p
  unfolding recalls_of
  reads-point (point.Block p o) blocks = All-from_recursion (Reads P) (block_recalls p) (blocks p o refl)
  reads-point (point.Stack p o) blocks = grind (arith, reads-continuation)
  reads-point (point.Desc p o) blocks = grind (arith)
  reads-point (point.Partial p o) blocks = grind (arith, reads-continuation)
  reads-point p blocks = grind (arith)

-- the part is not the anchor of d
abbrev pub IsSpared : ℕ → Part → Type 0
IsSpared d (single n) = n ≢ name.Anchor d
IsSpared d p = Unit {0}

spared-elsewhere : (d : ℕ) (q : Part) → IsElsewhere q → IsSpared d q
spared-elsewhere d q is = grind (arith, is)

spared-block :
    (d : ℕ) (p : BlockPoint) (o : Continuation) → InstallsNone (point.Block p o) d → AllByRecursion (Reads (IsSpared d)) (block_recalls p)
spared-block d (block.InstallSuperblock at) o apart =
    let other : name.Anchor at.desc ≢ name.Anchor d = λ same. apart at o refl (ap anchor_number same) in grind (arith, other)
spared-block d p o apart = grind (arith)

-- only a caller that waits to install the superblock of d recalls its anchor
pub spared-point : (d : ℕ) (p : Point) → InstallsNone p d → AllRead (IsSpared d) p
spared-point d p apart =
    reads-point (IsSpared d) (spared-elsewhere d) p (λ b o is. spared-block d b o (subst (λ q. InstallsNone q d) is apart))

-- the part is neither whether d has a superblock nor its free blocks
abbrev pub IsUnbound : ℕ → Part → Type 0
IsUnbound d (bindings e) = e ≢ d
IsUnbound d (chains e) = e ≢ d
IsUnbound d p = Unit {0}

-- a caller that is about to pop has a block reserved, and so has one that waits to install a superblock
pop-apart : (d x class : ℕ) (share : Share) → reserved_among d (holds_before_pop x class share).credits ≡ 0 → x ≢ d
pop-apart d x class Credit none same = let bad : ⊥ = grind (arith, none, same) in bad
pop-apart d x class LastCredit none same = let bad : ⊥ = grind (arith, none, same) in bad
pop-apart d x class (Grant more) none same = let bad : ⊥ = grind (arith, none, same) in bad

wait-apart : (d x blocks : ℕ) → reserved_among d (reserve x (blocks + 1)) ≡ 0 → x ≢ d
wait-apart d x blocks none same = let bad : ⊥ = grind (arith, none, same) in bad

-- the caller owns no block of the superblock of d
abbrev pub OwnsNone : Geometry → State → Lists → ℕ → ℕ → Type 0
OwnsNone g s l i d =
    (site : Site) (k : ℕ) → IsBlockOf g i site k → IsOwned s i (block_place site.frame site.seat.class k) (Small site.seat.class)
    → LiesAt g s l site → site.desc ≢ d

-- the caller owns all that it hands out; all that it frees
abbrev OwnHands : State → ℕ → List Handed → Type 0
OwnHands s i hands = All (λ (x : Handed). IsOwned s i x.place x.need) hands

abbrev OwnFrees : State → ℕ → List Freed → Type 0
OwnFrees s i frees = All (λ (x : Freed). IsOwned s i x.place x.need) frees

-- a caller that owns no block of the superblock of d, and has none reserved, for what it remembers
module _ (g : Geometry) (s : State) (l : Lists) (i d : ℕ) (off : OwnsNone g s l i d) where
  its-handed : (x : Handed) → OwnHands s i (x ∷ []) → IsOwned s i x.place x.need
  its-handed x hands = All-head (λ (x : Handed). IsOwned s i x.place x.need) x [] hands

  its-freed : (x : Freed) → OwnFrees s i (x ∷ []) → IsOwned s i x.place x.need
  its-freed x frees = All-head (λ (x : Freed). IsOwned s i x.place x.need) x [] frees

  -- what is remembered in a superblock isn't that d is bound: who remembers that has a block reserved, or owns one
  apart-block :
      (p : BlockPoint) → reserved_among d (block_holds p).credits ≡ 0 → FitsBlock g i p → OwnHands s i (block_holds p).hands
      → OwnFrees s i (block_holds p).frees → AllByRecursion (IsSo g s l i) (block_recalls p) → AllByRecursion (Reads (IsUnbound d)) (block_recalls p)
  apart-block (block.StorePrefix at k) none fit hands frees so = grind (arith, off at k fit (its-handed _ hands) so.0)
  apart-block (block.InstallCredits at k more) none fit hands frees so = grind (arith, off at k fit.0 (its-handed _ hands) so.0)
  apart-block (block.LoadReturn at k more) none fit hands frees so = grind (arith, off at k fit.0 (its-handed _ hands) so.0)
  apart-block (block.ReturnCredits at k more a) none fit hands frees so = grind (arith, off at k fit.0 (its-handed _ hands) so.0)
  apart-block (block.LoadPushAnchor at k stored) none fit hands frees so = grind (arith, off at k fit (its-freed _ frees) so.0)
  apart-block (block.StoreGuard at k a) none fit hands frees so = grind (arith, off at k fit.block (its-freed _ frees) so.0)
  apart-block (block.LoadOwner at k a) none fit hands frees so = grind (arith, off at k fit.block (its-freed _ frees) so.0)
  apart-block (block.StoreLink at k a stored heap) none fit hands frees so = grind (arith, off at k fit.block (its-freed _ frees) so.0)
  apart-block (block.PushBlock at k a stored heap) none fit hands frees so = grind (arith, off at k fit.block (its-freed _ frees) so.1.0)
  apart-block p none fit hands frees so = grind (arith, none, pop-apart, wait-apart)

  -- what is remembered behind a part isn't that d is bound
  apart-continuation :
      (seat : SeatFields) (o : Continuation) → FitsContinuation g i seat o → OwnHands s i (continuation_holds seat o).hands
      → AllByRecursion (IsSo g s l i) (continuation_recalls seat o) → AllByRecursion (Reads (IsUnbound d)) (continuation_recalls seat o)
  apart-continuation seat (continuation.GiveBlock words e frame k) fit hands so =
      grind (arith, off (site_of seat e frame) k fit.block (its-handed _ hands) so.0)
  apart-continuation seat o fit hands so = grind (arith)

  -- what is remembered at a stack isn't that d is bound
  apart-stack :
      (p : StackPoint) (o : Continuation) → FitsContinuation g i (seat_of_stack p) o → OwnHands s i (stack_holds p o).hands
      → AllByRecursion (IsSo g s l i) (stack_recalls p o) → AllByRecursion (Reads (IsUnbound d)) (stack_recalls p o)
  apart-stack p o fit hands so = grind (arith, fit, hands, so, apart-continuation)

  -- what is remembered at the descriptors or the hazard words isn't that d is bound; no block is handed out behind a clear
  apart-desc : (p : DescPoint) (o : Continuation) → IsTrue (goes_desc p o) → AllByRecursion (Reads (IsUnbound d)) (desc_recalls p o)
  apart-desc p o goes = grind (arith, goes)

  -- what is remembered at a partial superblock isn't that d is bound
  apart-partial :
      (p : PartialPoint) (o : Continuation) → FitsContinuation g i (seat_of_partial p) o → OwnHands s i (partial_holds p o).hands
      → AllByRecursion (IsSo g s l i) (partial_recalls p o) → AllByRecursion (Reads (IsUnbound d)) (partial_recalls p o)
  apart-partial p o fit hands so = grind (arith, fit, hands, so, apart-continuation)

  apart-large : (p : LargePoint) → AllByRecursion (Reads (IsUnbound d)) (large_recalls p)
  apart-large p = grind (arith)

  apart-point :
      (p : Point) → reserved_among d (holds_of p).credits ≡ 0 → FitsPoint g i p → OwnHands s i (holds_of p).hands
      → OwnFrees s i (holds_of p).frees → AllByRecursion (IsSo g s l i) (recalls_of p) → AllByRecursion (Reads (IsUnbound d)) (recalls_of p)
  unfolding holds_of recalls_of
  apart-point point.Idle none fit hands frees so = tt
  apart-point (point.Block p o) none fit hands frees so = apart-block p none fit.point hands frees so
  apart-point (point.Stack p o) none fit hands frees so = apart-stack p o fit.continuation hands so
  apart-point (point.Desc p o) none fit hands frees so = apart-desc p o fit.goes
  apart-point (point.Partial p o) none fit hands frees so = apart-partial p o fit.continuation hands so
  apart-point (point.Large p o) none fit hands frees so = apart-large p

  -- a caller that has no block of the superblock of d reserved, and owns none, remembers nothing that needs it
  pub unbound-recalls : IsSoundWith g s l → i < g.callers → errand_reserves d (s.errand i) ≡ 0 → AllRead (IsUnbound d) (s.errand i).point
  unbound-recalls old has none =
      let p = (s.errand i).point in
      All-from_recursion (Reads (IsUnbound d)) (recalls_of p)
      (apart-point p none (fits-at g s l i p old has refl) (old.tied.hands i has) (old.tied.frees i has)
      (recursion_from_All (IsSo g s l i) (recalls_of p) (old.remembered.so i has)))
