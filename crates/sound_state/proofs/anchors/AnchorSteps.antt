-- The store of a new superblock's anchor keeps the state sound.
use Rattle.std.proofs.Common.{ℕ, Option, Some, None, ◌≡◌, ◌<◌, refl, ap, inl, ◌∙◌}
use Rattle.sound_state.proofs.Common.{block_count_of, block_place, frame_of-block_place, anchor_word, info_of, Site, IsSiteOf, Writes, block_at, pool_of}
use Rattle.sound_state.proofs.Common.{Continuation, Block, event_of, next_of, plan_point_of, holds_of, IsLocated, recalls_of, info_or_zero, is_there, live_at}
use Rattle.sound_state.proofs.Common.{info-exact, info_at, new_anchor}
use Rattle.word_table.specs.declared.name.WordName.TheVariants as name
use Rattle.step_parts.specs.declared.superblock.point.BlockPoint.TheVariants as block
use Rattle.pool_model.specs.Pool.{Block as Live}
use Rattle.sound_state.proofs.anchors.AnchorFacts.{Anchors, MakesAnchor}
use Rattle.sound_state.proofs.shared.MakingPlaces.{is-making, live-unmade}
use Rattle.sound_state.proofs.shared.PointLemmas.{fits-at, recalled-at}
use Rattle.sound_state.proofs.shared.StepLemmas.{at_point, found_from, keeps-counts}
use Rattle.sound_state.proofs.shared.WonEffects.{StepEffects, step-effects}
use Rattle.sound_state.proofs.shared.WordFacts.{site-info}
use Rattle.sound_state.proofs.shared.KeepsSound.{KeepsSound, silent-sound}
use Rattle.sound_state.proofs.SoundAfter.{anchored-sound}

no-block-there : (o : Option Live) → ((b : Live) → o ≡ Some b → ⊥) → is_there o ≡ 0
no-block-there None none = refl
no-block-there (Some b) none = absurd (none b refl)

-- the store of a new superblock's anchor keeps the state sound
pub store_anchor-sound : (site : Site) (o : Continuation) → KeepsSound (Block (block.StoreAnchor site) o)
unfolding plan_point_of next_of event_of holds_of recalls_of
store_anchor-sound site o g s caller s' sound has stands step =
    let p = Block (block.StoreAnchor site) o in
    let q = Block (block.InstallSuperblock site) o in
    let c = site.seat.class in
    let l = sound.parts.0 in
    let old = sound.parts.1 in
    let x = found_from s p in
    let e = at_point (s.errand caller) x q in
    let fit : IsSiteOf g caller site = (fits-at g s l caller p old has stands).point in
    let effects : StepEffects s caller p x q s' = step-effects s caller s' p x q stands refl (inl refl) step in
    let past : s'.history ≡ s.history = effects.history in
    let w : Writes s.word (name.Anchor site.desc) (anchor_word (new_anchor c)) s'.word = effects.writes in
    let h : Anchors g s l caller site e s' = record {
      in_heap = has;
      moves = effects.moves;
      site = fit;
      writes = w;
      history = past;
      retired = refl;
      holds_before = ap holds_of stands;
      holds_after = refl;
    } in
    let (said, (links_made, none)) = recalled-at g s l caller p old has stands in
    let back : info_of (s.word (name.Info site.desc)) ≡ Some (info_at site) =
    ap info_of said.1 ∙ info-exact.back (info_at site) (site-info g caller site sound.checked fit) in
    let lies : IsLocated s site.desc site.frame c = record {
      frame = ap (λ i. (info_or_zero i).frame) back;
      class = ap (λ i. (info_or_zero i).class) back;
    } in
    let unlive : (i : ℕ) → i < block_count_of c → live_at s (block_place site.frame c i) ≡ 0 =
    λ i lt.
    no-block-there (block_at (block_place site.frame c i) (pool_of s.history))
    (λ b live.
    live-unmade g s l caller site.frame (block_place site.frame c i) b b.need sound old has fit.frame
    (is-making s caller p site stands refl) live refl (frame_of-block_place site.frame c i lt)) in
    let m : MakesAnchor g s l caller site o e s' = record {
      anchors = h;
      here = stands;
      after = refl;
      own = keeps-counts (s.errand caller) p x q stands refl refl;
      lies = lies;
      made = links_made;
      unlive = unlive;
      recalls_after = λ lies. ((tt, w.here), (lies, tt));
    } in
    silent-sound g s caller s' l sound has step past (anchored-sound m old)
