-- A bare frame weighs something: it is in a caller's hand, or a block of it is reserved.
use Rattle.std.proofs.Common.{ℕ, Bool, true, Option, Some, None, ◌≡◌, ◌<◌, ◌≤◌, ◌+◌, [], refl, sym, ◌∙◌, ap, subst, arith, ◌==◌, ◌&&◌, if◌then◌else◌, All}
use Rattle.std.specs.List.{AllByRecursion}
use Rattle.std.proofs.lemmas.List.Elements.{All-head}
use Rattle.sound_state.proofs.Common.{Geometry, Need, Small, block_count_of, block_place, frame_of, frame_of-block_place, WordName, Site, descriptor_count, occurs}
use Rattle.sound_state.proofs.Common.{BlockPoint, Share, block_at, pool_of, place-found, Point, FitsPoint, State, fills_frame, errand_frames, waiting, holds_before_pop}
use Rattle.sound_state.proofs.Common.{holds_of, Lists, IsSo, IsOwned, recalls_of, IsSoundWith, sum_below, words_sum, callers_sum, Superblock}
use Rattle.sound_state.proofs.Common.{IsChained, superblock_of, free_chain, live_at, is_there, info_for, is_bound, waiting_of, reserved_of, word_reserves, reserved_among}
use Rattle.sound_state.proofs.Common.{errand_reserves, kept_among, errand_keeps, FitsBlock, keep, reserve, block_handed, block_holds, block_recalls}
use Rattle.step_parts.specs.declared.superblock.point.BlockPoint.TheVariants as block
use Rattle.step_parts.proofs.superblock_lemmas.ChainLemmas.{chain_of-length}
use Rattle.pool_model.specs.Pool.{Block}
use Rattle.pool_model.specs.Legal.{IsBare}
use Rattle.errand_steps.specs.declared.point.Point.TheVariants as point
use Rattle.sound_state.proofs.counts.BareWeights.{popping, popping_block, popping_fills, errand_weighs, word_weighs, frame_weighs}
use Rattle.sound_state.proofs.shared.PointLemmas.{recalled-at, fits-at}
use Rattle.sound_state.proofs.shared.RecallFrame.{LiesAt}
use Rattle.sound_state.proofs.shared.WeightSums.{words-some, callers-least}
use Rattle.sound_state.proofs.shared.SumLemmas.{sum-same, sum-ones, sum-occurs, some-term, term-sum}

-- nothing is live at a place of a bare frame
dead-at :
    (s : State) (f class i : ℕ) (o : Option Block) → block_at (block_place f class i) (pool_of s.history) ≡ o → IsBare (pool_of s.history) f
    → i < block_count_of class → is_there o ≡ 0
dead-at s f class i None is bare within = refl
dead-at s f class i (Some b) is bare within =
    absurd
    (bare (block_place f class i) b is
    (ap frame_of (place-found (block_place f class i) (pool_of s.history) b is) ∙ frame_of-block_place f class i within))

dead : (s : State) (f class i : ℕ) → IsBare (pool_of s.history) f → i < block_count_of class → live_at s (block_place f class i) ≡ 0
dead s f class i bare within = dead-at s f class i (block_at (block_place f class i) (pool_of s.history)) refl bare within

-- a superblock with no live block, and none held back, has a reserved one
none-held : (i waits : ℕ) → waits ≡ 0 → ◌≡◌ {A = ℕ} (if i == 0 then waits else 0) 0
none-held i waits none = grind (arith, none)

some-reserved : (b : Superblock) → IsChained b → b.waiting ≡ 0 → ((i : ℕ) → i < b.size → b.live i ≡ 0) → 1 ≤ b.reserved
some-reserved b chained none unlive =
    let each : sum_below b.size (λ i. occurs i (free_chain b)) ≡ sum_below b.size (λ i. 1) =
    sum-same b.size (λ i. 1) (λ i. occurs i (free_chain b))
    (λ i lt. omega (arith, chained.once i lt, unlive i lt, none-held i b.waiting none)) in
    omega (
      arith,
      each,
      sum-ones b.size,
      sum-occurs b.size (free_chain b),
      chain_of-length b.next (b.anchor.count + b.reserved) b.anchor.avail,
      chained.some,
    )

-- a superblock that fills a frame is bound, doesn't wait, and lies there
fills-is :
    (bound : Bool) (waits there f : ℕ) → 0 < (if bound && (waits == 0) && (there == f) then 1 else 0)
    → (bound ≡ true) × (waits ≡ 0) × (there ≡ f)
fills-is bound waits there f fills_frame = grind (arith, fills_frame)

-- a superblock that fills a bare frame has a reserved block
pub bare-reserved :
    (g : Geometry) (s : State) (l : Lists) (f d : ℕ) → IsSoundWith g s l → IsBare (pool_of s.history) f → d < descriptor_count g
    → 0 < fills_frame g s l f d → 1 ≤ reserved_of g s d
bare-reserved g s l f d sound bare has filled =
    let is = fills-is (is_bound g s l d) (waiting_of g s d) (info_for s d).frame f filled in
    some-reserved (superblock_of g s d) (sound.chained.chained d has is.0) is.1
    (λ i lt. subst (λ k. live_at s (block_place k (info_for s d).class i) ≡ 0) (sym is.2) (dead s f (info_for s d).class i bare lt))

-- an active word that offers blocks of a superblock weighs in the frame that this fills
word-offers-weighs :
    (g : Geometry) (s : State) (l : Lists) (f d : ℕ) (m : WordName) (word : ℕ) → 0 < word_reserves d m word → 0 < fills_frame g s l f d
    → 0 < word_weighs g s l f m word
word-offers-weighs g s l f d m word some filled = grind (arith, some, filled)

words-offer-weighs :
    (g : Geometry) (s : State) (l : Lists) (f d : ℕ) → 0 < words_sum g (word_reserves d) s.word → 0 < fills_frame g s l f d
    → 0 < words_sum g (word_weighs g s l f) s.word
words-offer-weighs g s l f d some filled =
    words-some g (word_reserves d) (word_weighs g s l f) s.word (λ m here. word-offers-weighs g s l f d m (s.word m) here filled) some

-- a caller before a pop that has reserved blocks of a superblock is about to pop one of it
before-pop :
    (g : Geometry) (s : State) (l : Lists) (f d e class : ℕ) (share : Share) → 0 < fills_frame g s l f d
    → 0 < reserved_among d (holds_before_pop e class share).credits → 0 < fills_frame g s l f e
before-pop g s l f d e class share filled some =
    let same : e ≡ d = grind (arith, some) in subst (λ k. 0 < fills_frame g s l f k) (sym same) filled

-- the one descriptor of which blocks are reserved is d, where blocks of d are
reserved-of : (d e blocks : ℕ) → 0 < reserved_among d (reserve e blocks) → e ≡ d
reserved-of d e blocks some = grind (arith, some)

-- no caller owns a block in a bare frame, so none has popped one there
live-there :
    (s : State) (caller f i : ℕ) (at : Site) (n : Need) → IsBare (pool_of s.history) f → at.frame ≡ f → i < block_count_of at.seat.class
    → IsOwned s caller (block_place at.frame at.seat.class i) n → ⊥
live-there s caller f i at n bare there within owned =
    let (b, is, owner, need) = owned.block in
    bare (block_place at.frame at.seat.class i) b is
    (ap frame_of (place-found (block_place at.frame at.seat.class i) (pool_of s.history) b is)
    ∙ frame_of-block_place at.frame at.seat.class i within ∙ there)

after-pop :
    (g : Geometry) (s : State) (l : Lists) (caller f d i more : ℕ) (at : Site) → IsBare (pool_of s.history) f → (info_for s d).frame ≡ f
    → i < block_count_of at.seat.class → LiesAt g s l at → All (λ x. IsOwned s caller x.place x.need) (block_handed at i)
    → 0 < reserved_among d (reserve at.desc more) → ⊥
after-pop g s l caller f d i more at bare lies within here hands some =
    let same : at.desc ≡ d = reserved-of d at.desc more some in
    let there : at.frame ≡ f = sym here.1.frame ∙ ap (λ k. (info_for s k).frame) same ∙ lies in
    live-there s caller f i at (Small at.seat.class) bare there within
    (All-head (λ x. IsOwned s caller x.place x.need) (record { place = block_place at.frame at.seat.class i; need = Small at.seat.class }) [] hands)

-- a new superblock that waits doesn't fill its frame
installs-waits : (d e blocks class : ℕ) → 0 < reserved_among d (reserve e blocks) → kept_among waiting d (keep e class waiting) ≡ 0 → ⊥
installs-waits d e blocks class some none = grind (arith, some, none)

-- what a sound state says of a caller at a point, where the superblock of d fills the bare frame
record Beside (g : Geometry) (s : State) (l : Lists) (caller f d : ℕ) : Type 0 where
  bare : IsBare (pool_of s.history) f
  filled : 0 < fills_frame g s l f d
  lies : (info_for s d).frame ≡ f

-- a caller beside a bare frame that the superblock of d fills
module _ (g : Geometry) (s : State) (l : Lists) (caller f d : ℕ) (b : Beside g s l caller f d) where
  block-pops :
      (p : BlockPoint) → FitsBlock g caller p → AllByRecursion (IsSo g s l caller) (block_recalls p) → All (λ x. IsOwned s caller x.place x.need) (block_holds p).hands
      → kept_among waiting d (block_holds p).kept ≡ 0 → 0 < reserved_among d (block_holds p).credits → 0 < popping_fills g s l f (popping_block p)
  block-pops (block.InstallCredits at i more) fits so hands none some = absurd (after-pop g s l caller f d i more at b.bare b.lies fits.0.index so.0 hands some)
  block-pops (block.LoadReturn at i more) fits so hands none some = absurd (after-pop g s l caller f d i more at b.bare b.lies fits.0.index so.0 hands some)
  block-pops (block.ReturnCredits at i more a) fits so hands none some =
      absurd (after-pop g s l caller f d i more at b.bare b.lies fits.0.index so.0 hands some)
  block-pops p fits so hands none some = grind (arith, some, none, b.filled, before-pop, installs-waits)

  -- a caller at any point that has reserved a block of a bare frame's superblock is about to pop it
  point-pops :
      (p : Point) → FitsPoint g caller p → AllByRecursion (IsSo g s l caller) (recalls_of p) → All (λ x. IsOwned s caller x.place x.need) (holds_of p).hands
      → kept_among waiting d (holds_of p).kept ≡ 0 → 0 < reserved_among d (holds_of p).credits → 0 < popping_fills g s l f (popping p)
  unfolding holds_of recalls_of
  point-pops (point.Block p o) fits so hands none some = block-pops p fits.point so hands none some
  point-pops p fits so hands none some = absurd (grind (arith, some))

-- callers that have reserved blocks of a superblock in a bare frame weigh something
callers-pop :
    (g : Geometry) (s : State) (l : Lists) (f d : ℕ) → IsSoundWith g s l → IsBare (pool_of s.history) f → 0 < fills_frame g s l f d
    → 0 < callers_sum g (errand_reserves d) s.errand → 0 < callers_sum g (errand_weighs g s l f) s.errand
unfolding callers_sum
callers-pop g s l f d sound bare filled some =
    let (i, has, here) = some-term g.callers (λ caller. errand_reserves d (s.errand caller)) some in
    let is = fills-is (is_bound g s l d) (waiting_of g s d) (info_for s d).frame f filled in
    let none : errand_keeps waiting d (s.errand i) ≡ 0 =
    omega (arith, is.1, term-sum g.callers (λ caller. errand_keeps waiting d (s.errand caller)) i has) in
    let pops : 0 < popping_fills g s l f (popping (s.errand i).point) =
    point-pops g s l i f d (record { bare = bare; filled = filled; lies = is.2 }) (s.errand i).point
    (fits-at g s l i (s.errand i).point sound has refl) (recalled-at g s l i (s.errand i).point sound has refl) (sound.tied.hands i has) none here in
    omega (arith, pops, term-sum g.callers (λ caller. errand_weighs g s l f (s.errand caller)) i has)

-- a bare frame that a superblock fills weighs something
filled-weighs :
    (g : Geometry) (s : State) (l : Lists) (f d : ℕ) → IsSoundWith g s l → IsBare (pool_of s.history) f → d < descriptor_count g
    → 0 < fills_frame g s l f d → 1 ≤ frame_weighs g s l f
filled-weighs g s l f d sound bare has filled = grind (arith, sound, bare, has, filled, bare-reserved, callers-pop, words-offer-weighs)

-- a frame weighs at least what callers have of it in their hands
in-hand-weighs :
    (g : Geometry) (s : State) (l : Lists) (f : ℕ)
    → callers_sum g (errand_frames f) s.errand ≤ callers_sum g (errand_weighs g s l f) s.errand
in-hand-weighs g s l f = callers-least g (errand_frames f) (errand_weighs g s l f) s.errand (λ e. omega arith)

-- each bare frame weighs something, where no frame is on the stack
pub bare-weighs :
    (g : Geometry) (s : State) (l : Lists) (f : ℕ) → IsSoundWith g s l → l.frames ≡ [] → f < g.frames → IsBare (pool_of s.history) f
    → 1 ≤ frame_weighs g s l f
bare-weighs g s l f sound empty has bare = grind (arith, sound, empty, has, bare, some-term, filled-weighs, in-hand-weighs)
