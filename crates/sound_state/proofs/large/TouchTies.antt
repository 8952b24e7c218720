-- After a step at a usable word or a shelf the words still show the pool of the events.
use Rattle.std.proofs.Common.{ℕ, Some, ◌≡◌, ◌<◌, ◌+◌, ◌*◌, ◌^◌, ap, sym, subst, ◌∙◌, ◌⊎◌, All, IsTrue, slice_index_or, None}
use Rattle.std.specs.Int.{bit_at}
use Rattle.sound_state.proofs.Common.{Geometry, frame_of, WordName, Event, IsLegalWithoutCounts, Point, ErrandFields, State, holds_of, Step, Lists, IsOwned}
use Rattle.sound_state.proofs.Common.{IsSoundWithoutCounts, IsSoundWith, IsTied, IsLive, SHELVES, unit_place, shelf_word, IsLegalEventWithoutCounts, EachAfter-push}
use Rattle.sound_state.proofs.Common.{IsBlockOfDesc, IsExcepted}
use Rattle.packed_words.specs.declared.shelf.ShelfWord.TheVariants as shelf
use Rattle.word_table.specs.declared.name.WordName.TheVariants as name
use Rattle.pool_model.specs.declared.owner.Owner.TheVariants.{Shelf}
use Rattle.pool_model.specs.Pool.{Block}
use Rattle.sound_state.proofs.shared.CallerLemmas.{each-other}
use Rattle.sound_state.proofs.shared.TieLemmas.{bare-owns, excepted-stays, excepts-none, tie-stays, IsBareHanded, IsSaidAt}
use Rattle.sound_state.proofs.shared.KeepsSound.{stepped-sound}
use Rattle.sound_state.proofs.large.TouchEffects.{Touches, touched-bound, located-touched, owned-touched}
use Rattle.sound_state.proofs.large.TouchSteps.{Touched, TouchesAt, touched-step}
use Rattle.sound_state.proofs.SoundAfter.{touched-sound}

-- two states that have live blocks at the same places, which serve the same needs
pub record SamePlaces (s s' : State) : Type 0 where
  pub was : (p : ℕ) (b' : Block) → IsLive s' p b' → (b : Block) × IsLive s p b × (b'.need ≡ b.need)
  pub still : (p : ℕ) (b : Block) → IsLive s p b → (b' : Block) × IsLive s' p b' × (b'.need ≡ b.need)

-- a step that touches a word and tells an event that is allowed keeps the state sound where the words show the pool after it
pub touching :
    (g : Geometry) (s : State) (caller : ℕ) (s' : State) (p q : Point) (n : WordName) (new : ℕ) (event : Event) (sound : IsSoundWithoutCounts g s)
    → caller < g.callers → (s.errand caller).point ≡ p → IsLegalEventWithoutCounts g s.history event
    → TouchesAt g s sound.parts.0 caller p q n new (Some event)
    → (Touched g s sound.parts.0 caller q n new (Some event) s' → IsTied g s' sound.parts.0) → Step s caller s' → IsSoundWithoutCounts g s'
touching g s caller s' p q n new event sound has stands legal touches tied step =
    let t = touched-step g s sound.parts.0 caller s' p q n new (Some event) sound.parts.1 has stands touches step in
    stepped-sound g s caller s' sound.parts.0 sound has step
    (subst (IsLegalWithoutCounts g) (sym t.history) (EachAfter-push (IsLegalEventWithoutCounts g) s.history event sound.legal legal))
    (touched-sound t.touches sound.parts.1 (tied t))

module _ {g : Geometry} {s : State} {l : Lists} {caller : ℕ} {e : ErrandFields} {s' : State} (h : Touches g s l caller e s') where
  -- the superblock of a small block is the same after a touch
  pub touched-desc : (place class d : ℕ) → IsBlockOfDesc g s l place class d → IsBlockOfDesc g s' l place class d
  touched-desc place class d its = record {
    exists = its.exists;
    bound = subst IsTrue (sym (touched-bound h d)) its.bound;
    located = located-touched h d (frame_of place) class its.located;
  }

  -- the words still show the pool after a step that leaves the places, the prefix words and the units
  pub tied-touched :
      IsSoundWith g s l → SamePlaces s s' → IsBareHanded (s.errand caller).point → IsBareHanded e.point
      → ((p : ℕ) (b : Block) → IsLive s p b → s'.word (name.Arena p) ≡ s.word (name.Arena p)) → s'.word name.Units ≡ s.word name.Units
      → ((k place : ℕ) (b : Block) → k < SHELVES → IsLive s' place b → b.owner ≡ Shelf k → s'.word (name.Shelf k) ≡ shelf_word (shelf.Block place b.need))
      → ((k : ℕ) → k < SHELVES → ((place : ℕ) (b : Block) → IsLive s' place b → b.owner ≡ Shelf k → ⊥) → s'.word (name.Shelf k) ≡ shelf_word shelf.Nothing)
      → ((place i v : ℕ) (b : Block) → IsLive s' place b → slice_index_or b.contents i None ≡ Some v → s'.word (name.Arena (place + 1 + i)) ≡ v)
      → IsTied g s' l
  tied-touched old same bare_before bare_after prefixes units shelved bare contents =
      let tied = old.tied in
      let owns = bare-owns s' caller e.point bare_after in
      let kept = λ (place w : ℕ) (b : Block) (live : IsLive s place b) (says : IsSaidAt g s l place → s.word (name.Arena place) ≡ w)
      (x : IsExcepted g s place ⊎ (s.word (name.Arena place) ≡ w)).
      tie-stays g s l s' place w
      (excepted-stays g s l caller e s' h.moves place (λ excepts. absurd (excepts-none (s.errand caller) place bare_before excepts)))
      (prefixes place b live) says x in
      record {
        small = λ place class b live is.
            let old_b = same.was place b live in
            let t = tied.small place class old_b.0 old_b.1 (sym old_b.2 ∙ is) in (
              t.0,
              touched-desc place class t.0 t.1,
              kept place (2 * t.0) old_b.0 old_b.1 (λ said. said.small class t.0 old_b.0 old_b.1 (sym old_b.2 ∙ is) t.1) t.2,
            );
        large = λ place n b live is.
            let old_b = same.was place b live in
            kept place (2 * n + 1) old_b.0 old_b.1 (λ said. said.large n old_b.0 old_b.1 (sym old_b.2 ∙ is)) (tied.large place n old_b.0 old_b.1 (sym old_b.2 ∙ is));
        units = λ unit has.
            let t = tied.units unit has in (
              λ bit.
                  let c = t.0 (ap (λ w. bit_at w unit) (sym units) ∙ bit) in
                  let new_b = same.still (unit_place g.frames c.1) c.0 c.3 in
                  (new_b.0, c.1, c.2, new_b.1, new_b.2 ∙ c.4, c.5, c.6),
              λ c.
                  let old_b = same.was (unit_place g.frames c.1) c.0 c.3 in
                  ap (λ w. bit_at w unit) units ∙ t.1 (old_b.0, c.1, c.2, old_b.1, sym old_b.2 ∙ c.4, c.5, c.6),
            );
        no_more_units = subst (λ w. w < 2 ^ g.units) (sym units) tied.no_more_units;
        shelved = shelved;
        bare_shelf = bare;
        contents = contents;
        hands =
            each-other g (λ i e. All (λ x. IsOwned s' i x.place x.need) (holds_of e.point).hands) s.errand caller e s'.errand h.moves
            owns.0
            (λ i has differ k d lt. owned-touched h i _ _ differ (tied.hands i has k d lt));
        frees =
            each-other g (λ i e. All (λ x. IsOwned s' i x.place x.need) (holds_of e.point).frees) s.errand caller e s'.errand h.moves
            owns.1
            (λ i has differ k d lt. owned-touched h i _ _ differ (tied.frees i has k d lt));
      }
