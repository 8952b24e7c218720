-- The live blocks of a class are the live indexes of its superblocks.
use Rattle.std.proofs.Common.{ℕ, true, Some, ◌≡◌, ◌<◌, ◌≤◌, refl, arith, ap, sym, subst, inl, inr, ◌∙◌}
use Rattle.std.specs.Prelude.{◌==◌, if◌then◌else◌, count_by, IsTrue}
use Rattle.std.proofs.lemmas.Bool.{cases_eq, cases_Bool, cond-true, cond-false, eq-eqb, eqb-true, ne_eqb, and_parts, and_from}
use Rattle.heap_geometry.specs.declared.geometry.Geometry.{Geometry}
use Rattle.heap_geometry.specs.declared.need.Need.{Need}
use Rattle.heap_geometry.specs.declared.need.Need.TheVariants.{Small, Large, TooLarge}
use Rattle.heap_geometry.specs.Need.{block_count_of}
use Rattle.heap_geometry.specs.Place.{block_place, frame_of, index_of, unit_place}
use Rattle.heap_geometry.proofs.PlaceLemmas.{frame_of-block_place, index_of-block_place}
use Rattle.word_table.specs.Counts.{descriptor_count}
use Rattle.pool_model.specs.Pool.{Block, block_at, pool_of}
use Rattle.pool_model.specs.WellFormed.{IsPlaceFor, IsWellFormed}
use Rattle.pool_model.proofs.PoolLemmas.{Every, every-map}
use Rattle.pool_model.proofs.WellFormedLemmas.{sound-of, sound-differ, found-itself}
use Rattle.errand_steps.specs.Steps.{State}
use Rattle.sound_state.specs.Consequences.{live_in}
use Rattle.sound_state.specs.Lists.{Lists}
use Rattle.sound_state.specs.Sums.{sum_below}
use Rattle.sound_state.specs.Superblocks.{info_for, is_bound, live_at, superblock_of}
use Rattle.sound_state.specs.Ties.{IsLive, IsBlockOfDesc}
use Rattle.sound_state.proofs.large.TouchPrefixes.{info-frame}
use Rattle.sound_state.proofs.shared.FrameLemmas.{one-in-frame}
use Rattle.sound_state.proofs.shared.OverlapLemmas.{formed-at}
use Rattle.sound_state.proofs.shared.SumLemmas.{sum-same, sum-none, sum-one}
use Rattle.sound_state.proofs.shared.TieLemmas.{small-lies}
use Rattle.heap_census.specs.Census.{has_class, is_class}
use Rattle.heap_census.proofs.IdleLemmas.{Rests}
use Rattle.heap_census.proofs.PoolCounts.{over, over-count, over-same, over-if, over-swap, over-place}

-- where a block of a descriptor's superblock lies
abbrev pub place_in : State → ℕ → ℕ → ℕ
place_in s d i = block_place (info_for s d).frame (info_for s d).class i

-- how often a place of d's superblock is this one; where the superblock is of the class
abbrev places : State → ℕ → ℕ → ℕ
places s d place = sum_below (block_count_of (info_for s d).class) (λ i. if place == place_in s d i then 1 else 0)

abbrev hits : Geometry → State → Lists → ℕ → ℕ → Block → ℕ
hits g s l class d b = if has_class g s l class d then places s d b.place else 0

-- a live small block lies in the superblock of one descriptor
lies-in :
    (g : Geometry) (s : State) (l : Lists) (d e i c : ℕ) (b : Block) → Rests g s l → d < descriptor_count g → IsTrue (is_bound g s l d)
    → i < block_count_of (info_for s d).class → b.place ≡ place_in s d i → IsBlockOfDesc g s l b.place c e → d ≡ e
lies-in g s l d e i c b rests has bound within at of =
    let frame : frame_of b.place ≡ (info_for s d).frame =
    ap frame_of at ∙ frame_of-block_place (info_for s d).frame (info_for s d).class i within in
    one-in-frame g s l (info_for s d).frame d e rests.parts (info-frame g s l d rests.parts has) has of.exists bound of.bound refl
    (of.located.frame ∙ frame)

-- a live block in a superblock is of the superblock's class
class-of-need :
    (g : Geometry) (s : State) (l : Lists) (d i : ℕ) (b : Block) (n : Need) → Rests g s l → d < descriptor_count g → IsTrue (is_bound g s l d)
    → i < block_count_of (info_for s d).class → b.place ≡ place_in s d i → IsLive s b.place b → b.need ≡ n → n ≡ Small (info_for s d).class
class-of-need g s l d i b (Small c) rests has bound within at live is =
    let (e, of, word) = rests.parts.tied.small b.place c b live is in
    let same : d ≡ e = lies-in g s l d e i c b rests has bound within at of in
    ap Small (sym (ap (λ k. (info_for s k).class) same ∙ of.located.class))
class-of-need g s l d i b (Large units) rests has bound within at live is =
    let formed : IsWellFormed g b = formed-at g s b.place b rests.sound live in
    let lies : IsPlaceFor g (Large units) b.place = subst (λ (k : Need). IsPlaceFor g k b.place) is formed.place in
    let frame : frame_of b.place ≡ (info_for s d).frame =
    ap frame_of at ∙ frame_of-block_place (info_for s d).frame (info_for s d).class i within in
    let apart : g.frames ≤ frame_of (unit_place g.frames lies.0) = omega arith in
    let below = info-frame g s l d rests.parts has in
    let there : frame_of b.place ≡ frame_of (unit_place g.frames lies.0) = ap frame_of lies.2 in
    absurd (far (frame_of b.place) (info_for s d).frame (frame_of (unit_place g.frames lies.0)) g.frames frame there apart below)
  where
    far : (a f p frames : ℕ) → a ≡ f → a ≡ p → frames ≤ p → f < frames → ⊥
    far a f p frames first second third below = omega (arith, first, second, third, below)
class-of-need g s l d i b TooLarge rests has bound within at live is =
    let formed : IsWellFormed g b = formed-at g s b.place b rests.sound live in
    absurd (subst (λ (k : Need). IsPlaceFor g k b.place) is formed.place)

-- a place that is no block's in d's superblock is counted never there
places-none :
    (s : State) (d place : ℕ) → ((i : ℕ) → i < block_count_of (info_for s d).class → place ≡ place_in s d i → ⊥) → places s d place ≡ 0
places-none s d place apart =
    sum-none (block_count_of (info_for s d).class) (λ i. if place == place_in s d i then 1 else 0)
    (λ i lt. cond-false {A = ℕ} (place == place_in s d i) 1 0 (ne_eqb place (place_in s d i) (apart i lt)))

hits-none :
    (g : Geometry) (s : State) (l : Lists) (class d : ℕ) (b : Block)
    → (has_class g s l class d ≡ true → (i : ℕ) → i < block_count_of (info_for s d).class → b.place ≡ place_in s d i → ⊥)
    → hits g s l class d b ≡ 0
hits-none g s l class d b apart =
    elim (cases_Bool (has_class g s l class d)) [
      | inl holds ↦ cond-true {A = ℕ} (has_class g s l class d) (places s d b.place) 0 holds ∙ places-none s d b.place (apart holds)
      | inr not_it ↦ cond-false {A = ℕ} (has_class g s l class d) (places s d b.place) 0 not_it
    ]

-- the place of a block in d's superblock is counted once there
places-one :
    (s : State) (d place i : ℕ) → i < block_count_of (info_for s d).class → place ≡ place_in s d i → places s d place ≡ 1
places-one s d place i within at =
    let f : ℕ = (info_for s d).frame in
    let c : ℕ = (info_for s d).class in
    let one : places s d place ≡ (if place == place_in s d i then 1 else 0) =
    sum-one (block_count_of c) (λ j. if place == place_in s d j then 1 else 0) i within
    (λ j lt ne. cond-false {A = ℕ} (place == place_in s d j) 1 0
    (ne_eqb place (place_in s d j)
    (λ same. ne (sym (index_of-block_place f c j lt) ∙ ap (index_of c) (sym same ∙ at) ∙ index_of-block_place f c i within)))) in
    one ∙ cond-true {A = ℕ} (place == place_in s d i) 1 0 (eq-eqb place (place_in s d i) at)

-- a live block of the class is counted once over all descriptors, and any other block never
small-hits :
    (g : Geometry) (s : State) (l : Lists) (class c : ℕ) (b : Block) → Rests g s l → IsLive s b.place b → b.need ≡ Small c → c ≡ class
    → sum_below (descriptor_count g) (λ d. hits g s l class d b) ≡ 1
small-hits g s l class c b rests live is same =
    let (e, of, word) = rests.parts.tied.small b.place c b live is in
    let lies = small-lies g s b.place c (info_for s e).frame (info_for s e).class b rests.sound live is (sym of.located.frame) (sym of.located.class) in
    let holds : has_class g s l class e ≡ true =
    and_from (is_bound g s l e) ((info_for s e).class == class) of.bound (eq-eqb (info_for s e).class class (of.located.class ∙ same)) in
    sum-one (descriptor_count g) (λ d. hits g s l class d b) e of.exists
    (λ d lt ne. hits-none g s l class d b
    (λ its i within at.
    ne (lies-in g s l d e i c b rests lt (and_parts (is_bound g s l d) ((info_for s d).class == class) its).0 within at of)))
    ∙ cond-true {A = ℕ} (has_class g s l class e) (places s e b.place) 0 holds
    ∙ places-one s e b.place lies.0 lies.1 lies.2

other-hits :
    (g : Geometry) (s : State) (l : Lists) (class : ℕ) (b : Block) → Rests g s l → IsLive s b.place b → (b.need ≡ Small class → ⊥)
    → sum_below (descriptor_count g) (λ d. hits g s l class d b) ≡ 0
other-hits g s l class b rests live other =
    sum-none (descriptor_count g) (λ d. hits g s l class d b)
    (λ d lt. hits-none g s l class d b
    (λ its i within at.
    let both = and_parts (is_bound g s l d) ((info_for s d).class == class) its in
    other (class-of-need g s l d i b b.need rests lt both.0 within at live refl ∙ ap Small (eqb-true (info_for s d).class class both.1))))

need-hits :
    (g : Geometry) (s : State) (l : Lists) (class : ℕ) (b : Block) (n : Need) → Rests g s l → IsLive s b.place b → b.need ≡ n
    → sum_below (descriptor_count g) (λ d. hits g s l class d b) ≡ (if is_class class n then 1 else 0)
need-hits g s l class b (Small c) rests live is =
    elim (cases_eq c class) [
      | inl same ↦ small-hits g s l class c b rests live is same ∙ sym (cond-true {A = ℕ} (c == class) 1 0 (eq-eqb c class same))
      | inr differ ↦
          other-hits g s l class b rests live (λ its. let both : Small c ≡ Small class = sym is ∙ its in differ (cc))
          ∙ sym (cond-false {A = ℕ} (c == class) 1 0 (ne_eqb c class differ))
    ]
need-hits g s l class b (Large units) rests live is =
    other-hits g s l class b rests live (λ its. let both : Large units ≡ Small class = sym is ∙ its in absurd (cc))
need-hits g s l class b TooLarge rests live is =
    other-hits g s l class b rests live (λ its. let both : TooLarge ≡ Small class = sym is ∙ its in absurd (cc))

-- the live indexes of a superblock, by the blocks of the pool
desc-live :
    (g : Geometry) (s : State) (l : Lists) (class d : ℕ) → Rests g s l
    → (if has_class g s l class d then live_in (superblock_of g s d) else 0) ≡ over (hits g s l class d) (pool_of s.history)
desc-live g s l class d rests =
    let pool = pool_of s.history in
    let n : ℕ = block_count_of (info_for s d).class in
    let at = λ (i : ℕ) (b : Block). if b.place == place_in s d i then 1 else 0 in
    let differ = sound-differ g pool (sound-of g s.history rests.sound.legal) in
    let each : live_in (superblock_of g s d) ≡ sum_below n (λ i. over (at i) pool) =
    sum-same n (λ i. over (at i) pool) (λ i. live_at s (place_in s d i)) (λ i lt. over-place (place_in s d i) pool differ) in
    ap (λ k. if has_class g s l class d then k else 0) (each ∙ over-swap n at pool)
    ∙ over-if (has_class g s l class d) (λ b. places s d b.place) pool

-- the live blocks of a class are those of its superblocks
pub class-live :
    (g : Geometry) (s : State) (l : Lists) (class : ℕ) → Rests g s l
    → sum_below (descriptor_count g) (λ d. if has_class g s l class d then live_in (superblock_of g s d) else 0)
    ≡ count_by (λ block. is_class class block.need) (pool_of s.history)
class-live g s l class rests =
    let pool = pool_of s.history in
    let n = descriptor_count g in
    let differ = sound-differ g pool (sound-of g s.history rests.sound.legal) in
    let each : Every (λ b. sum_below n (λ d. hits g s l class d b) ≡ (if is_class class b.need then 1 else 0)) pool =
    every-map (λ b. block_at b.place pool ≡ Some b) (λ b. sum_below n (λ d. hits g s l class d b) ≡ (if is_class class b.need then 1 else 0)) pool
    (λ b live. need-hits g s l class b b.need rests live refl) (found-itself pool differ) in
    sum-same n (λ d. over (hits g s l class d) pool) (λ d. if has_class g s l class d then live_in (superblock_of g s d) else 0)
    (λ d lt. desc-live g s l class d rests)
    ∙ over-swap n (hits g s l class) pool
    ∙ over-same (λ b. sum_below n (λ d. hits g s l class d b)) (λ b. if is_class class b.need then 1 else 0) pool each
    ∙ over-count (λ b. is_class class b.need) pool
