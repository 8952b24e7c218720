-- A store is into no word that another caller expects anything of.
use Rattle.std.proofs.Common.{ℕ, ◌≡◌, ◌≢◌, ◌<◌, ◌≤◌, List, refl, arith, subst, inl, inr, ◌∙◌, ◌⊎◌, IsTrue, All, eq-eqb}
use Rattle.std.specs.List.{AllByRecursion}
use Rattle.std.proofs.lemmas.List.Elements.{All-from_recursion, recursion_from_All}
use Rattle.sound_state.proofs.Common.{Geometry, WordName, name_of, descriptor_count, SeatFields, Exists, BlockPoint, Share, Grant, Pile, head_name, next_name, PartialPoint}
use Rattle.sound_state.proofs.Common.{Continuation, Point, plan_point_of, State, partly_used, on_its_way, holds_of, Lists, IsSo, recalls_of, IsSoundWith, is_bound}
use Rattle.sound_state.proofs.Common.{kept_among, errand_keeps, plan-exists, keep, partial_holds, block_recalls}
use Rattle.word_table.specs.declared.name.WordName.TheVariants as name
use Rattle.step_parts.specs.declared.partial.point.PartialPoint.TheVariants as partial
use Rattle.errand_steps.specs.declared.point.Point.TheVariants as point
use Rattle.errand_steps.specs.tables.Expected.{Expected, continuation_expects}
use Rattle.errand_steps.specs.tables.Blocks.{unless_credit, block_expects}
use Rattle.errand_steps.specs.tables.Partials.{partial_expects}
use Rattle.sound_laws.specs.bounds.Expectations.{expects_of}
use Rattle.sound_state.proofs.shared.HasLemmas.{kept-itself}
use Rattle.sound_state.proofs.shared.UnplacedLemmas.{IsUnplaced, way-unplaced}
use Rattle.sound_laws.proofs.bounds_lemmas.StepWins.{IsStore}
use Rattle.sound_state.proofs.shared.RecallTables.{bound-differs}

-- a word on which callers exchange; where it is an anchor, Q holds of its descriptor
abbrev pub IsApartFrom : (ℕ → Type 0) → WordName → Type 0
IsApartFrom Q (name.Anchor e) = Q e
IsApartFrom Q (name.Active heap class) = Unit {0}
IsApartFrom Q (name.Slot heap class) = Unit {0}
IsApartFrom Q (name.ListHead class) = Unit {0}
IsApartFrom Q name.FrameHead = Unit {0}
IsApartFrom Q name.DescHead = Unit {0}
IsApartFrom Q name.Units = Unit {0}
IsApartFrom Q (name.Shelf k) = Unit {0}
IsApartFrom Q n = ⊥

abbrev pub AreApart : (ℕ → Type 0) → List Expected → Type 0
AreApart Q = AllByRecursion (λ e. IsApartFrom Q e.word)

way-here : (d class : ℕ) → 1 ≤ kept_among on_its_way d (keep d class on_its_way)
way-here d class = rw (eq-eqb d d refl) (omega arith)

-- what a caller expects is of words of exchange, where Q holds of what is bound and of what the caller keeps
module _ (g : Geometry) (s : State) (l : Lists) (i : ℕ) (Q : ℕ → Type 0) where
  apart-share : (seat : SeatFields) (share : Share) → AreApart Q (unless_credit seat share)
  apart-share seat share = grind (arith)

  -- what a caller expects in a superblock is of such words, where Q holds of what is bound
  expects-apart-block :
      (p : BlockPoint) → ((d : ℕ) → IsTrue (is_bound g s l d) → Q d) → AllByRecursion (IsSo g s l i) (block_recalls p) → AreApart Q (block_expects p)
  expects-apart-block p free so = grind (arith, so, free, apart-share)

  -- what a caller expects by what waits behind a part is of such words
  expects-apart-continuation : (seat : SeatFields) (o : Continuation) → AreApart Q (continuation_expects seat o)
  expects-apart-continuation seat o = grind (arith)

  apart-head : (seat : SeatFields) (pile : Pile) → IsApartFrom Q (head_name seat pile)
  apart-head seat pile = grind (arith)

  -- what a caller expects at a partial superblock is of such words, where Q holds of what it keeps partly used
  expects-apart-partial :
      (p : PartialPoint) (o : Continuation) → ((d : ℕ) → 1 ≤ kept_among partly_used d (partial_holds p o).kept → Q d) → AreApart Q (partial_expects p o)
  expects-apart-partial (partial.Grant at a) o kept = (kept at.desc (kept-itself partly_used at.desc at.seat.class), expects-apart-continuation at.seat o)
  expects-apart-partial p o kept = grind (arith, expects-apart-continuation)

  expects-apart-point :
      (p : Point) → ((d : ℕ) → IsTrue (is_bound g s l d) → Q d) → ((d : ℕ) → 1 ≤ kept_among partly_used d (holds_of p).kept → Q d)
      → AllByRecursion (IsSo g s l i) (recalls_of p) → AreApart Q (expects_of p)
  unfolding holds_of recalls_of expects_of
  expects-apart-point (point.Block p o) free kept so = expects-apart-block p free so
  expects-apart-point (point.Partial p o) free kept so = expects-apart-partial p o kept
  expects-apart-point p free kept so = grind (arith, apart-head, expects-apart-continuation)

-- the word that a point stores is one on which nobody exchanges, or the anchor of its caller's new superblock
abbrev StoresApart : Point → Type 0
StoresApart p =
    IsStore (plan_point_of p)
    → (IsApartFrom (λ d. Unit {0}) (name_of (plan_point_of p)) → ⊥)
    ⊎ ((d : ℕ) × (1 ≤ kept_among on_its_way d (holds_of p).kept) × (name_of (plan_point_of p) ≡ name.Anchor d))

stores-next : (pile : Pile) (k : ℕ) → IsApartFrom (λ d. Unit {0}) (next_name pile k) → ⊥
stores-next pile k bad = grind (arith, bad)

stores-point : (p : Point) → StoresApart p
unfolding plan_point_of holds_of
stores-point p = grind (arith)

-- no other caller expects anything of a word into which a caller stores
pub stores-unexpected :
    (g : Geometry) (s : State) (l : Lists) (caller other : ℕ) → IsSoundWith g s l → caller < g.callers → other < g.callers → other ≢ caller
    → All (λ e. IsStore (plan_point_of (s.errand caller).point) → e.word ≢ name_of (plan_point_of (s.errand caller).point)) (expects_of (s.errand other).point)
stores-unexpected g s l caller other old has has_other differ =
    let p = (s.errand caller).point in
    let q = (s.errand other).point in
    let so = recursion_from_All (IsSo g s l other) (recalls_of q) (old.remembered.so other has_other) in
    λ k e lt stores.
    elim (stores-point p stores) [
      | inl unshared ↦
          λ is.
          let shared : All (λ x. IsApartFrom (λ d. Unit {0}) x.word) (expects_of q) =
          All-from_recursion _ (expects_of q) (expects-apart-point g s l other (λ d. Unit {0}) q (λ d bound. tt) (λ d kept. tt) so) in
          unshared (subst (IsApartFrom (λ d. Unit {0})) is (shared k e lt))
      | inr new ↦
          λ is.
          let d = new.0 in
          let own = old.formed.errands caller has in
          let exists : Exists g (name_of (plan_point_of p)) =
          subst (λ h. Exists h (name_of (plan_point_of p))) own.geometry
          (plan-exists (s.errand caller).geometry (s.errand caller).caller p own.rule.geometry own.rule.caller own.rule.point) in
          let below : d < descriptor_count g = subst (Exists g) new.2 exists in
          let none : IsUnplaced g s l d = way-unplaced g s l caller d old has below new.1 in
          let apart : All (λ x. IsApartFrom (λ j. j ≢ d) x.word) (expects_of q) =
          All-from_recursion _ (expects_of q)
          (expects-apart-point g s l other (λ j. j ≢ d) q
          (bound-differs g s l d none.bound)
          (λ j kept same.
          let some : 1 ≤ errand_keeps partly_used d (s.errand other) = subst (λ i. 1 ≤ kept_among partly_used i (holds_of q).kept) same kept in
          let bad : ⊥ = omega (arith, some, none.partly other has_other) in bad) so) in
          subst (IsApartFrom (λ j. j ≢ d)) (is ∙ new.2) (apart k e lt) refl
    ]
