-- Who is about to use a piece first is one caller.
use Rattle.std.proofs.Common.{ℕ, ◌≡◌, ◌<◌, ◌≤◌, ◌+◌, [], refl, arith, ap, sym, inl, inr, ◌∙◌}
use Rattle.std.proofs.lemmas.Bool.{cases_eq, cases_lt}
use Rattle.std.proofs.lemmas.List.Elements.{All-head}
use Rattle.sound_state.proofs.Common.{Geometry, Block, Large, Point, State, IsSoundWith, IsSoundWithoutCounts, IsOwned, Lists, pool_of, place-found}
use Rattle.sound_state.proofs.Common.{occurs, holds_of, errand_frames, waiting, kept_among, callers_sum, unit_place, usable_words}
use Rattle.heap_geometry.specs.declared.need.Need.TheVariants as need
use Rattle.pool_model.specs.Pool.{Block as Live}
use Rattle.pool_model.specs.declared.owner.Owner.{Owner}
use Rattle.pool_model.specs.declared.owner.Owner.TheVariants.{Caller}
use Rattle.step_parts.specs.declared.superblock.point.BlockPoint.TheVariants as block
use Rattle.step_parts.specs.declared.large.point.LargePoint.TheVariants as large
use Rattle.sound_state.proofs.shared.OverlapLemmas.{live-apart}
use Rattle.sound_state.proofs.shared.PointLemmas.{fits-at, hands-at}
use Rattle.sound_state.proofs.shared.SumLemmas.{two-terms}
use Rattle.sound_state.proofs.shared.TieLemmas.{one-live}
use Rattle.errand_steps.specs.Openers.{Opens}

-- who is about to use a frame first has it in its hand, and keeps no superblock that waits
pub opens-hand : (g : Geometry) (p : Point) (k : ℕ) → Opens g p k → k < g.frames → 1 ≤ occurs k (holds_of p).frames
unfolding holds_of
opens-hand g (Block (block.LinkBlock at i) o) k opens has = grind (arith, opens)
opens-hand g (Large (large.StoreRunPrefix place run) o) k opens has = absurd (omega (arith, opens.0, has))
opens-hand g p k opens has = absurd opens

pub opens-waits : (g : Geometry) (p : Point) (k d : ℕ) → Opens g p k → k < g.frames → kept_among waiting d (holds_of p).kept ≡ 0
unfolding holds_of
opens-waits g (Block (block.LinkBlock at i) o) k d opens has = grind (arith)
opens-waits g (Large (large.StoreRunPrefix place run) o) k d opens has = refl
opens-waits g p k d opens has = absurd opens

-- a frame is in one caller's hand
pub one-hand :
    (g : Geometry) (s : State) (l : Lists) (i j f : ℕ) → IsSoundWith g s l → f < g.frames → i < g.callers → j < g.callers
    → 1 ≤ errand_frames f (s.errand i) → 1 ≤ errand_frames f (s.errand j) → i ≡ j
unfolding callers_sum
one-hand g s l i j f old has has_i has_j first second =
    elim (cases_eq i j) [
      | inl same ↦ same
      | inr differ ↦ absurd (omega (arith, old.framed.once f has, first, second, two-terms g.callers (λ c. errand_frames f (s.errand c)) i j has_i has_j differ))
    ]

-- a caller owns a live run that has the unit behind the frames
pub record HasRun (g : Geometry) (s : State) (caller k : ℕ) : Type 0 where
  pub place : ℕ
  pub first : ℕ
  pub units : ℕ
  pub owned : IsOwned s caller place (need.Large units)
  pub at : place ≡ unit_place g.frames first
  pub from : g.frames + first ≤ k
  pub below : k < g.frames + first + units
  pub within : first + units ≤ g.units

pub opens-run :
    (g : Geometry) (s : State) (l : Lists) (caller k : ℕ) (p : Point) → IsSoundWith g s l → caller < g.callers → (s.errand caller).point ≡ p
    → Opens g p k → g.frames ≤ k → HasRun g s caller k
unfolding holds_of
opens-run g s l caller k (Block (block.LinkBlock at i) o) old has stands opens beyond =
    let fit = fits-at g s l caller (Block (block.LinkBlock at i) o) old has stands in absurd (omega (arith, fit.point.site.frame, opens.1, beyond))
opens-run g s l caller k (Large (large.StoreRunPrefix place run) o) old has stands opens beyond =
    let fit = fits-at g s l caller (Large (large.StoreRunPrefix place run) o) old has stands in
    let hands = hands-at g s l caller (Large (large.StoreRunPrefix place run) o) old has stands in
    record {
      place = place;
      first = run.first;
      units = run.units;
      owned = All-head (λ x. IsOwned s caller x.place x.need) (record { place = place; need = need.Large run.units }) [] hands;
      at = fit.point.place;
      from = opens.0;
      below = opens.1;
      within = fit.point.within;
    }
opens-run g s l caller k p old has stands opens beyond = absurd opens

abbrev owner_number : Owner → ℕ
owner_number (Caller c) = c
owner_number o = 0

-- two live runs with a unit in common are one caller's
pub one-run : (g : Geometry) (s : State) (i j k : ℕ) → IsSoundWithoutCounts g s → HasRun g s i k → HasRun g s j k → i ≡ j
one-run g s i j k sound a b =
    let (x, live_x, owner_x, need_x) = a.owned.block in
    let (y, live_y, owner_y, need_y) = b.owned.block in
    elim (cases_eq a.place b.place) [
      | inl same ↦
          let one : x ≡ y = one-live s a.place b.place x y live_x (sym same) live_y in
          ap owner_number (sym owner_x ∙ ap (λ (z : Live). z.owner) one ∙ owner_y)
      | inr differ ↦
          let words_x : usable_words x.need ≡ usable_words (need.Large a.units) = ap usable_words need_x in
          let words_y : usable_words y.need ≡ usable_words (need.Large b.units) = ap usable_words need_y in
          let at_x = place-found a.place (pool_of s.history) x live_x in
          let at_y = place-found b.place (pool_of s.history) y live_y in
          elim (live-apart g s sound a.place b.place x y live_x live_y differ) [
            | inl before ↦ absurd (omega (arith, before, words_x, words_y, at_x, at_y, a.at, b.at, a.from, a.below, b.from, b.below))
            | inr behind ↦ absurd (omega (arith, behind, words_x, words_y, at_x, at_y, a.at, b.at, a.from, a.below, b.from, b.below))
          ]
    ]

pub opened-by_one :
    (g : Geometry) (s : State) (i j k : ℕ) → IsSoundWithoutCounts g s → i < g.callers → j < g.callers → Opens g (s.errand i).point k
    → Opens g (s.errand j).point k → i ≡ j
opened-by_one g s i j k sound has_i has_j first second =
    let l = sound.parts.0 in
    let old = sound.parts.1 in
    elim (cases_lt k g.frames) [
      | inl frame ↦ one-hand g s l i j k old frame has_i has_j (opens-hand g (s.errand i).point k first frame) (opens-hand g (s.errand j).point k second frame)
      | inr unit ↦
          one-run g s i j k sound (opens-run g s l i k (s.errand i).point old has_i refl first unit)
          (opens-run g s l j k (s.errand j).point old has_j refl second unit)
    ]
