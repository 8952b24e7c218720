-- A usable word that is written.
use Rattle.std.proofs.Common.{ℕ, None, Some, ◌≡◌, ◌≢◌, ◌<◌, ◌≤◌, ◌+◌, refl, arith, ap, sym, subst, inl, inr, get_or-set_same, get_or-set_other, ◌∙◌, slice_index_or}
use Rattle.std.proofs.Common.{pow_pos}
use Rattle.std.proofs.lemmas.Bool.{cases_eq}
use Rattle.sound_state.proofs.Common.{Geometry, Need, block_count_of, block_place, frame_of, frame_of-block_place, WordName, Writes, block_at, pool_of, place-found}
use Rattle.sound_state.proofs.Common.{sound-of, Continuation, Point, Idle, Large, ErrandFields, event_of, next_of, plan_point_of, State, waiting, holds_of, Lists, IsOwned}
use Rattle.sound_state.proofs.Common.{recalls_of, IsSoundWithoutCounts, IsSoundWith, info_for, errand_keeps, IsLive, IsTied, usable_words, block-within, arena_words, Write}
use Rattle.sound_state.proofs.Common.{Caller, IsAllowed, IsPlaceFor, IsWellFormed, every-found, class_span, IsBlockOfDesc}
use Rattle.heap_geometry.specs.declared.need.Need.TheVariants as need
use Rattle.heap_geometry.proofs.PlaceLemmas.{frame-apart}
use Rattle.word_table.specs.declared.name.WordName.TheVariants as name
use Rattle.step_parts.specs.declared.large.point.LargePoint.TheVariants as large
use Rattle.pool_model.specs.declared.owner.Owner.TheVariants.{Shelf}
use Rattle.pool_model.specs.Pool.{Block, written}
use Rattle.errand_steps.specs.declared.reply.Reply.TheVariants as reply
use Rattle.sound_state.proofs.shared.ArenaNames.{arena_place}
use Rattle.sound_state.proofs.shared.PointLemmas.{fits-at, recalled-at}
use Rattle.sound_state.proofs.large.TouchEffects.{IsAwayWord, Touches}
use Rattle.sound_state.proofs.shared.FrameLemmas.{one-in-frame, in-hand-waits}
use Rattle.sound_state.proofs.large.TouchPrefix.{written-usable, words-apart}
use Rattle.sound_state.proofs.large.TouchPrefixes.{KeepsPrefixes, prefixes-stay, info-frame}
use Rattle.sound_state.proofs.large.TouchShelves.{Changes, changes-places, changed-is, changed-there, changes-from}
use Rattle.sound_state.proofs.large.TouchSteps.{TouchesAt, idle-aside, idle-bare-handed, idle-recalls, large-aside, leaves-event}
use Rattle.sound_state.proofs.large.TouchTies.{tied-touched, touching}
use Rattle.sound_state.proofs.shared.TieLemmas.{IsBareHanded}
use Rattle.sound_state.proofs.shared.WordFacts.{payload-uncut}
use Rattle.sound_state.proofs.shared.KeepsSound.{KeepsSound}

-- a usable word of a block isn't the first one of another block of its class, nor its own first one
inside-block :
    (f c i0 j i : ℕ) → i < usable_words (need.Small c) → block_place f c j ≢ block_place f c i0 + 1 + i
inside-block f c i0 j i within same =
    elim (cases_eq j i0) [
      | inl one ↦ let P : ℕ → Type 0 = λ k. block_place f c k ≡ block_place f c i0 + 1 + i in let bad : P i0 = subst P one same in omega (arith, bad)
      | inr ne ↦
          elim (frame-apart f c j i0 ne) [
            | inl before ↦ omega (arith, before, same, class_span c, pow_pos (c + 1))
            | inr after ↦ omega (arith, after, same, within, class_span c, pow_pos (c + 1))
          ]
    ]

-- a usable word of a small block isn't the first one of a block of another frame
other-frame :
    (f f0 c c0 i0 j i : ℕ) → f ≢ f0 → i0 < block_count_of c0 → j < block_count_of c → i < usable_words (need.Small c0)
    → block_place f c j ≢ block_place f0 c0 i0 + 1 + i
other-frame f f0 c c0 i0 j i ne within0 within usable same =
    let end0 = block-within c0 i0 within0 in
    let end1 = block-within c j within in
    ne (omega (arith, same, end0, end1, usable, class_span c0, pow_pos (c0 + 1), pow_pos (c + 1)))

-- a usable word of a block behind the frames isn't the first one of a block of a frame
behind-frames : (frames f c j place i : ℕ) → f < frames → j < block_count_of c → frames ≤ frame_of place → block_place f c j ≢ place + 1 + i
behind-frames frames f c j place i has within behind same = omega (arith, has, same, behind, block-within c j within, pow_pos (c + 1))

-- a usable word of a live block
module _
    (g : Geometry) (s : State) (l : Lists) (caller place i : ℕ) (sound : IsSoundWithoutCounts g s) (old : IsSoundWith g s l) (b : Block)
    (usable : i < usable_words b.need) where
  -- a write of a usable word of a live block leaves the prefix words of all superblocks
  payload-keeps :
      (new : ℕ) (words : WordName → ℕ) → Writes s.word (name.Arena (place + 1 + i)) new words → IsLive s place b → (m : Need) → b.need ≡ m
      → IsPlaceFor g m b.place → KeepsPrefixes g s l caller words
  payload-keeps new words w live (need.Small c0) of placed =
      let t = old.tied.small place c0 b live of in
      let d0 : ℕ = t.0 in
      let its : IsBlockOfDesc g s l place c0 d0 = t.1 in
      let f0 : ℕ = placed.0 in
      let i0 : ℕ = placed.1 in
      let here : place ≡ block_place f0 c0 i0 = sym (place-found place (pool_of s.history) b live) ∙ placed.4 in
      let frame : (info_for s d0).frame ≡ f0 = its.located.frame ∙ ap frame_of here ∙ frame_of-block_place f0 c0 i0 placed.3 in
      let within : i < usable_words (need.Small c0) = subst (λ m. i < usable_words m) of usable in
      record {
        away = λ n away. w.elsewhere n (λ same. let bad : ⊥ = subst IsAwayWord same away in bad);
        bound = λ d j has bound lt.
            w.elsewhere _
            (λ same.
            let places : block_place (info_for s d).frame (info_for s d).class j ≡ block_place f0 c0 i0 + 1 + i =
            ap arena_place same ∙ ap (λ p. p + 1 + i) here in
            elim (cases_eq (info_for s d).frame f0) [
              | inl there ↦
                  let one : d ≡ d0 = one-in-frame g s l f0 d d0 old placed.2 has its.exists bound its.bound there frame in
                  let class : (info_for s d).class ≡ c0 = ap (λ k. (info_for s k).class) one ∙ its.located.class in
                  inside-block f0 c0 i0 j i within
                  (ap (λ f. block_place f c0 j) (sym there) ∙ ap (λ c. block_place (info_for s d).frame c j) (sym class) ∙ places)
              | inr ne ↦ other-frame (info_for s d).frame f0 (info_for s d).class c0 i0 j i ne placed.3 lt within places
            ]);
        making = λ k f c j has other exists hand none lt.
            w.elsewhere _
            (λ same.
            let places : block_place f c j ≡ block_place f0 c0 i0 + 1 + i = ap arena_place same ∙ ap (λ p. p + 1 + i) here in
            elim (cases_eq f f0) [
              | inl there ↦
                  let waits : 0 < errand_keeps waiting d0 (s.errand k) =
                  in-hand-waits g s l f d0 k old exists its.exists its.bound (frame ∙ sym there) has hand in
                  omega (arith, waits, none d0)
              | inr ne ↦ other-frame f f0 c c0 i0 j i ne placed.3 lt within places
            ]);
      }
  payload-keeps new words w live (need.Large n) of placed =
      let here : place ≡ b.place = sym (place-found place (pool_of s.history) b live) in
      let behind : g.frames ≤ frame_of place = omega (arith, here, placed.2) in
      record {
        away = λ n away. w.elsewhere n (λ same. let bad : ⊥ = subst IsAwayWord same away in bad);
        bound = λ d j has bound lt.
            w.elsewhere _
            (λ same. behind-frames g.frames _ _ j place i (info-frame g s l d old has) lt behind (ap arena_place same));
        making = λ k f c j has other exists hand none lt. w.elsewhere _ (λ same. behind-frames g.frames f c j place i exists lt behind (ap arena_place same));
      }
  payload-keeps new words w live need.TooLarge of placed = absurd placed

  write-touches :
      (value : ℕ) (o : Continuation) → place + 1 + i < arena_words g → IsLive s place b → IsAllowed g s.history (Write caller place i value)
      → TouchesAt g s l caller (Large (large.StoreWord place i value) o) Idle (name.Arena (place + 1 + i)) value (Some (Write caller place i value))
  unfolding plan_point_of next_of event_of
  write-touches value o within live allowed =
      let formed : IsWellFormed g b = every-found (IsWellFormed g) place (pool_of s.history) b (sound-of g s.history sound.legal).each live in
      let keeps = λ (words : WordName → ℕ) (w : Writes s.word (name.Arena (place + 1 + i)) value words).
      payload-keeps value words w live b.need refl formed.place in
      record {
        does = record {
          leads = inr (reply.Wrote, refl, refl);
          here = ap name.Arena (payload-uncut g place i sound.checked within);
          written = refl;
          lost = refl;
          cleared = refl;
          told = refl;
        };
        touched = λ away. away;
        leaves =
            leaves-event g s l caller (Write caller place i value)
            (record { number = refl; gives = λ k. refl; refuses = λ k. refl; allocs = refl; freed = refl }) allowed
            (λ d k has bound lt. changed-there place _ (written i value) (pool_of s.history) b (λ x. refl) live);
        before = large-aside _ _;
        after = idle-aside;
        recalls = idle-recalls;
        prefixes = λ words w. (keeps words w).bound;
        stays = λ words w k has differ. prefixes-stay g s l caller words (keeps words w) old k has differ;
      }

  write-tied :
      (value : ℕ) (s' : State) (e : ErrandFields) → Touches g s l caller e s' → Writes s.word (name.Arena (place + 1 + i)) value s'.word
      → IsBareHanded (s.errand caller).point → IsBareHanded e.point → b.owner ≡ Caller caller → Changes s s' place b (written i value b) → IsTied g s' l
  write-tied value s' e h w bare_before bare_after owned c =
      let stands : ℕ = place + 1 + i in
      let arena = λ (p : ℕ) (ne : p ≢ stands). w.elsewhere (name.Arena p) (λ same. ne (ap arena_place same)) in
      let formed : IsWellFormed g b = every-found (IsWellFormed g) place (pool_of s.history) b (sound-of g s.history sound.legal).each c.was in
      let is_changed = λ (p : ℕ) (x : Block) (here : p ≡ place) (live : IsLive s' p x). changed-is s s' place b (written i value b) c p x here live in
      tied-touched h old (changes-places s s' place b (written i value b) c) bare_before bare_after
      (λ p x live.
      arena p
      (λ same.
      elim (cases_eq p place) [
        | inl here ↦ omega (arith, here, same)
        | inr ne ↦ words-apart g s sound p place 0 (1 + i) x b live c.was ne (omega arith) (omega (arith, usable)) (omega (arith, same))
      ]))
      (w.elsewhere name.Units (λ same. cc))
      (λ k p x has live on.
      elim (cases_eq p place) [
        | inl here ↦
            let owners : Caller caller ≡ Shelf k = sym owned ∙ ap (λ (y : Block). y.owner) (is_changed p x here live) ∙ on in absurd (cc)
        | inr ne ↦ w.elsewhere (name.Shelf k) (λ same. cc) ∙ old.tied.shelved k p x has (sym (c.elsewhere p ne) ∙ live) on
      ])
      (λ k has none.
      w.elsewhere (name.Shelf k) (λ same. cc) ∙ old.tied.bare_shelf k has
      (λ p x live on.
      elim (cases_eq p place) [
        | inl here ↦
            let one : Some b ≡ Some x = sym c.was ∙ ap (λ q. block_at q (pool_of s.history)) (sym here) ∙ live in
            let same : b ≡ x = cc in
            let owners : Caller caller ≡ Shelf k = sym owned ∙ ap (λ (y : Block). y.owner) same ∙ on in absurd (cc)
        | inr ne ↦ none p x (c.elsewhere p ne ∙ live) on
      ]))
      (λ p j v x live said.
      elim (cases_eq p place) [
        | inl here ↦
            let of : slice_index_or (written i value b).contents j None ≡ Some v =
            ap (λ (y : Block). slice_index_or y.contents j None) (is_changed p x here live) ∙ said in
            elim (cases_eq j i) [
              | inl same ↦
                  let got : slice_index_or (written i value b).contents i None ≡ Some value =
                  get_or-set_same b.contents i (Some value) None (omega (arith, usable, formed.full)) in
                  let both : Some value ≡ Some v = sym got ∙ ap (λ k. slice_index_or (written i value b).contents k None) (sym same) ∙ of in
                  let values : value ≡ v = cc in
                  ap (λ q. s'.word (name.Arena (q + 1 + j))) here ∙ ap (λ k. s'.word (name.Arena (place + 1 + k))) same ∙ w.here ∙ values
              | inr ne ↦
                  let was : slice_index_or b.contents j None ≡ Some v = sym (get_or-set_other b.contents i j (Some value) None ne) ∙ of in
                  arena (p + 1 + j) (λ same. ne (omega (arith, here, same))) ∙ old.tied.contents p j v b (subst (λ q. IsLive s q b) (sym here) c.was) was
            ]
        | inr ne ↦
            let was : IsLive s p x = sym (c.elsewhere p ne) ∙ live in
            arena (p + 1 + j)
            (λ same.
            words-apart g s sound p place (1 + j) (1 + i) x b was c.was ne (omega (arith, written-usable g s sound p j v x was said)) (omega (arith, usable))
            (omega (arith, same))) ∙ old.tied.contents p j v x was said
      ])

-- a store of a usable word keeps the state sound
pub store_word-sound : (place i value : ℕ) (o : Continuation) → KeepsSound (Large (large.StoreWord place i value) o)
unfolding holds_of recalls_of
store_word-sound place i value o g s caller s' sound has stands step =
    let l = sound.parts.0 in
    let old = sound.parts.1 in
    let p : Point = Large (large.StoreWord place i value) o in
    let fit = fits-at g s l caller p old has stands in
    let (so, none) = recalled-at g s l caller p old has stands in
    let owned : IsOwned s caller place so.0 = so.1 in
    let b : Block = owned.block.0 in
    let usable : i < usable_words b.need = subst (λ m. i < usable_words m) (sym owned.block.3) so.2 in
    let allowed : IsAllowed g s.history (Write caller place i value) = (b, owned.block.1, owned.block.2, usable) in
    touching g s caller s' p Idle (name.Arena (place + 1 + i)) value (Write caller place i value) sound has stands (has, allowed)
    (write-touches g s l caller place i sound old b usable value o fit.point.0 owned.block.1 allowed)
    (λ t.
    write-tied g s l caller place i sound old b usable value s' _ t.touches t.word (subst IsBareHanded (sym stands) (record { hands = refl; frees = refl }))
    idle-bare-handed owned.block.2
    (changes-from s s' (Write caller place i value) place (written i value) b t.history refl (λ x. refl) (λ x. refl) owned.block.1))
    step
