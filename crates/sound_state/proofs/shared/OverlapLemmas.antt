-- Live blocks and free blocks are apart.
use Rattle.std.proofs.Common.{ℕ, ◌≡◌, ◌≢◌, ◌<◌, Option, None, sym, ◌∙◌, ap, subst, arith, IsTrue}
use Rattle.sound_state.proofs.Common.{Geometry, Need, Small, block_count_of, block_place, frame_of, frame_of-block_place, descriptor_count, occurs, block_at, pool_of}
use Rattle.sound_state.proofs.Common.{place-found, sound-of, State, Lists, IsSoundWith, IsSoundWithoutCounts, info_for, is_bound, is_there, superblock_of, free_chain}
use Rattle.sound_state.proofs.Common.{IsLive, IsPlaceFor, IsWellFormed, every-found, IsBlockOfDesc}
use Rattle.heap_geometry.specs.Place.{IsApart}
use Rattle.pool_model.specs.Pool.{Block, span_of}
use Rattle.pool_model.proofs.WellFormedLemmas.{separate-found}
use Rattle.sound_state.specs.Consequences.{IsTaken}

pub live-apart : (g : Geometry) (s : State) → IsSoundWithoutCounts g s → (p q : ℕ) (a b : Block) → IsLive s p a → IsLive s q b → p ≢ q
    → IsApart (span_of a) (span_of b)
live-apart g s sound p q a b at_p at_q ne =
    (separate-found g (pool_of s.history) (sound-of g s.history sound.legal) p q a b at_p at_q ne).apart

-- a place where no block is counted has none
pub there-none : (o : Option Block) → is_there o ≡ 0 → o ≡ None
there-none o h = grind (arith, h)

-- a free block of a superblock isn't live
pub free-unlive : (g : Geometry) (s : State) → IsSoundWithoutCounts g s → (l : Lists) → IsSoundWith g s l
    → (d i : ℕ) → d < descriptor_count g → IsTrue (is_bound g s l d)
    → 0 < occurs i (free_chain (superblock_of g s d))
    → block_at (block_place (info_for s d).frame (info_for s d).class i) (pool_of s.history) ≡ None
free-unlive g s sound l is d i has bound free = grind (arith, sound, is, has, bound, free, there-none)

-- a live block isn't free in its superblock
live-taken-at : (g : Geometry) (s : State) (l : Lists) → IsSoundWith g s l → (place i d : ℕ) (b : Block) → IsLive s place b
    → d < descriptor_count g → IsTrue (is_bound g s l d) → i < block_count_of (info_for s d).class
    → place ≡ block_place (info_for s d).frame (info_for s d).class i → IsTaken g s l place
live-taken-at g s l is place i d b live has bound within here = grind (arith, is, live, has, bound, within, here)

pub live-taken : (g : Geometry) (s : State) → IsSoundWithoutCounts g s → (l : Lists) → IsSoundWith g s l
    → (place class : ℕ) (b : Block) → IsLive s place b → b.need ≡ Small class → IsTaken g s l place
live-taken g s sound l is place class b live small =
    let tied = is.tied.small place class b live small in
    let d : ℕ = tied.0 in
    let of : IsBlockOfDesc g s l place class d = tied.1 in
    let formed : IsWellFormed g b = every-found (IsWellFormed g) place (pool_of s.history) b (sound-of g s.history sound.legal).each live in
    let stands : IsPlaceFor g (Small class) b.place = subst (λ (n : Need). IsPlaceFor g n b.place) small formed.place in
    let same : b.place ≡ place = place-found place (pool_of s.history) b live in
    let in_frame : frame_of place ≡ stands.0 = ap frame_of (sym same ∙ stands.4) ∙ frame_of-block_place stands.0 class stands.1 stands.3 in
    let frame_is : stands.0 ≡ (info_for s d).frame = sym in_frame ∙ sym of.located.frame in
    let here : place ≡ block_place (info_for s d).frame (info_for s d).class stands.1 =
    sym same ∙ stands.4 ∙ ap (λ f. block_place f class stands.1) frame_is ∙ ap (λ c. block_place (info_for s d).frame c stands.1) (sym of.located.class) in
    live-taken-at g s l is place stands.1 d b live of.exists of.bound
    (subst (λ c. stands.1 < block_count_of c) (sym of.located.class) stands.3) here

-- a live block is well formed and lies at its place
pub formed-at : (g : Geometry) (s : State) (place : ℕ) (b : Block) → IsSoundWithoutCounts g s → IsLive s place b → IsWellFormed g b
formed-at g s place b sound live =
    every-found (IsWellFormed g) place (pool_of s.history) b (sound-of g s.history sound.legal).each live
