-- A run that is freed.
use Rattle.std.proofs.Common.{ℕ, false, None, ◌≡◌, ◌≢◌, ◌<◌, ◌≤◌, ◌+◌, ◌^◌, [], refl, arith, ap, sym, subst, inl, inr, ◌∙◌, ◌⊎◌}
use Rattle.std.specs.Int.{bit_at}
use Rattle.std.proofs.lemmas.Bool.{cases_eq}
use Rattle.std.proofs.lemmas.Nat.{and_le_l}
use Rattle.std.proofs.lemmas.List.Elements.{All-head}
use Rattle.sound_state.proofs.Common.{Geometry, frame_of, Writes, block_at, pool_of, place-found, sound-of, Continuation, Point, Idle, Large, ErrandFields, event_of}
use Rattle.sound_state.proofs.Common.{next_of, plan_point_of, State, holds_of, Lists, IsOwned, IsSoundWithoutCounts, IsSoundWith, is_there, IsLive, IsTied, usable_words}
use Rattle.sound_state.proofs.Common.{unit_place, RunFields, Caller, IsAllowed, pool_of-push, sound-differ, IsCovered}
use Rattle.heap_geometry.specs.declared.need.Need.TheVariants as need
use Rattle.word_table.specs.declared.name.WordName.TheVariants as name
use Rattle.step_parts.specs.declared.large.point.LargePoint.TheVariants as large
use Rattle.step_parts.specs.large.Points.{IsRunAt}
use Rattle.step_parts.specs.large.Units.{IsInRun, other_bits, without_run}
use Rattle.step_parts.proofs.large_lemmas.UnitLemmas.{without_run-inside, without_run-outside}
use Rattle.pool_model.specs.declared.event.Event.TheVariants.{Free}
use Rattle.pool_model.specs.Pool.{Block, without}
use Rattle.pool_model.proofs.PoolLemmas.{block_at-without_other, block_at-without_same}
use Rattle.errand_steps.specs.declared.reply.Reply.TheVariants as reply
use Rattle.sound_state.proofs.shared.ListFacts.{any-one}
use Rattle.sound_state.proofs.shared.OverlapLemmas.{live-apart}
use Rattle.sound_state.proofs.shared.PointLemmas.{fits-at, frees-at}
use Rattle.sound_state.proofs.large.TouchEffects.{Touches}
use Rattle.sound_state.proofs.large.TouchPrefix.{frame-before}
use Rattle.sound_state.proofs.large.TouchPrefixes.{info-frame}
use Rattle.sound_state.proofs.large.TouchSteps.{IsAsideEvent, idle-aside, idle-bare-handed, idle-recalls, side-touches}
use Rattle.sound_state.proofs.shared.TieLemmas.{IsBareHanded, bare-owns, not-live, one-live, ties-but, Excepts}
use Rattle.sound_state.proofs.large.TouchTies.{touched-desc, touching}
use Rattle.sound_state.proofs.shared.KeepsSound.{KeepsSound}

-- a unit is one of a run's units, or none of them
pub cases_run : (first units i : ℕ) → IsInRun first units i ⊎ (IsInRun first units i → ⊥)
cases_run first units i = grind (arith)

-- two live runs at different places have no unit in common
pub runs-apart :
    (g : Geometry) (s : State) → IsSoundWithoutCounts g s → (first other units more unit : ℕ) (a b : Block) → IsLive s (unit_place g.frames first) a
    → IsLive s (unit_place g.frames other) b → a.need ≡ need.Large units → b.need ≡ need.Large more
    → unit_place g.frames first ≢ unit_place g.frames other → first ≤ unit → unit < first + units → other ≤ unit → unit < other + more → ⊥
runs-apart g s sound first other units more unit a b at_a at_b of_a of_b ne from below from_b below_b =
    let here_a : a.place ≡ unit_place g.frames first = place-found _ (pool_of s.history) a at_a in
    let here_b : b.place ≡ unit_place g.frames other = place-found _ (pool_of s.history) b at_b in
    let words_a : usable_words a.need ≡ usable_words (need.Large units) = ap usable_words of_a in
    let words_b : usable_words b.need ≡ usable_words (need.Large more) = ap usable_words of_b in
    elim (live-apart g s sound (unit_place g.frames first) (unit_place g.frames other) a b at_a at_b ne) [
      | inl before ↦ omega (arith, before, here_a, here_b, words_a, words_b, from, below, from_b, below_b)
      | inr after ↦ omega (arith, after, here_a, here_b, words_a, words_b, from, below, from_b, below_b)
    ]

-- a caller that frees a run excepts no block
free-excepts : (e : ErrandFields) (place : ℕ) (run : RunFields) (o : Continuation) (p : ℕ) → e.point ≡ Large (large.FreeRun place run) o → Excepts e p → ⊥
unfolding holds_of
free-excepts e place run o p stands h1 = grind (arith, stands, h1, any-one)

-- a run lies behind the frames
behind : (frames first : ℕ) → frames < frame_of (unit_place frames first) + 1
behind frames first = omega arith

run-free-event : (g : Geometry) (caller place first : ℕ) → place ≡ unit_place g.frames first → IsAsideEvent g caller (Free caller place)
run-free-event g caller place first is = grind (arith, is)

-- the live block of a place is gone after the step, and all other places are as they were
pub record IsGone (s s' : State) (at : ℕ) (a : Block) : Type 0 where
  pub was : IsLive s at a
  pub gone : block_at at (pool_of s'.history) ≡ None
  pub elsewhere : (p : ℕ) → p ≢ at → block_at p (pool_of s'.history) ≡ block_at p (pool_of s.history)

-- the states before and after the free of a run
module _
    (g : Geometry) (s s' : State) (place : ℕ) (run : RunFields) (l : Lists) (sound : IsSoundWithoutCounts g s) (old : IsSoundWith g s l)
    (fit : IsRunAt g place run) (w : Writes s.word name.Units (without_run (s.word name.Units) run.first run.units) s'.word) (a : Block)
    (of : a.need ≡ need.Large run.units) (c : IsGone s s' place a) where
  -- the freed units are clear and uncovered after the free of a run, and the others as they were
  free-uncovers : (unit : ℕ) → (bit_at (s.word name.Units) unit ≡ 1 → IsCovered g s unit) → bit_at (s'.word name.Units) unit ≡ 1 → IsCovered g s' unit
  free-uncovers unit was bit =
      let taken : bit_at (without_run (s.word name.Units) run.first run.units) unit ≡ 1 = ap (λ x. bit_at x unit) (sym w.here) ∙ bit in
      elim (cases_run run.first run.units unit) [
        | inl inside ↦
            absurd (omega (arith, taken, without_run-inside (s.word name.Units) run.first run.units unit fit.run.within (old.formed.words name.Units) inside))
        | inr outside ↦
            let k = was (sym (without_run-outside (s.word name.Units) run.first run.units unit fit.run.within (old.formed.words name.Units) outside) ∙ taken) in
            let ne : unit_place g.frames k.1 ≢ place =
            λ same.
            let firsts : k.1 ≡ run.first = omega (arith, same, fit.place) in
            let blocks : a ≡ k.0 = one-live s place (unit_place g.frames k.1) a k.0 c.was same k.3 in
            let needs : need.Large run.units ≡ need.Large k.2 = sym of ∙ ap (λ (x : Block). x.need) blocks ∙ k.4 in
            let units : run.units ≡ k.2 = cc in
            outside (record { from = omega (arith, firsts, k.5); below = omega (arith, firsts, units, k.6) }) in
            (k.0, k.1, k.2, c.elsewhere (unit_place g.frames k.1) ne ∙ k.3, k.4, k.5, k.6)
      ]

  free-covers : (unit : ℕ) → (IsCovered g s unit → bit_at (s.word name.Units) unit ≡ 1) → IsCovered g s' unit → bit_at (s'.word name.Units) unit ≡ 1
  free-covers unit was k =
      let ne : unit_place g.frames k.1 ≢ place =
      λ same. not-live s' place (unit_place g.frames k.1) k.0 c.gone same k.3 in
      let live : IsLive s (unit_place g.frames k.1) k.0 = sym (c.elsewhere (unit_place g.frames k.1) ne) ∙ k.3 in
      elim (cases_run run.first run.units unit) [
        | inl inside ↦
            absurd (runs-apart g s sound k.1 run.first k.2 run.units unit k.0 a live (subst (λ q. IsLive s q a) fit.place c.was) k.4 of
            (λ same. ne (same ∙ sym fit.place)) k.5 k.6 inside.from inside.below)
        | inr outside ↦
            ap (λ x. bit_at x unit) w.here ∙ without_run-outside (s.word name.Units) run.first run.units unit fit.run.within (old.formed.words name.Units) outside
            ∙ was (k.0, k.1, k.2, live, k.4, k.5, k.6)
      ]

  free-tied :
      (caller : ℕ) (o : Continuation) (e : ErrandFields) → Touches g s l caller e s' → (s.errand caller).point ≡ Large (large.FreeRun place run) o
      → IsBareHanded e.point → a.owner ≡ Caller caller → IsTied g s' l
  free-tied caller o e h stands bare_after owned =
      let tied = old.tied in
      let gone = λ (p : ℕ) (b : Block) (here : p ≡ place) (live : IsLive s' p b).
      not-live s' place p b c.gone here live in
      let owns = bare-owns s' caller e.point bare_after in
      ties-but g s l l caller (λ p. p ≡ place) e s' (record {
        moves = h.moves;
        either = λ p. cases_eq p place;
        there = c.elsewhere;
        before = λ p b here live.
            ap (λ (y : Block). y.owner) (sym (one-live s place p a b c.was here live)) ∙ owned;
        after = λ p b here live. absurd (gone p b here live);
        arena = λ p ne. w.elsewhere (name.Arena p) (λ same. cc);
        shelf = λ k. w.elsewhere (name.Shelf k) (λ same. cc);
        small = λ p class b here live is. absurd (gone p b here live);
        large = λ p n b here live is. absurd (gone p b here live);
        bound = λ p class b d ne live is its. touched-desc h p class d its;
        units = λ unit has.
            let t = tied.units unit has in (
              free-uncovers unit t.0,
              free-covers unit t.1,
            );
        no_more_units =
            subst (λ x. x < 2 ^ g.units) (sym w.here) (omega (arith, tied.no_more_units, and_le_l (s.word name.Units) (other_bits run.first run.units)));
        contents = λ p i v b live written.
            w.elsewhere (name.Arena (p + 1 + i)) (λ same. cc) ∙ tied.contents p i v b (sym (c.elsewhere p (λ here. gone p b here live)) ∙ live) written;
        excepts = λ p ne excepts. absurd (free-excepts (s.errand caller) place run o p stands excepts);
        hands = owns.0;
        frees = owns.1;
      }) tied

pub free_run-sound : (place : ℕ) (run : RunFields) (o : Continuation) → KeepsSound (Large (large.FreeRun place run) o)
unfolding plan_point_of next_of event_of holds_of
free_run-sound place run o g s caller s' sound has stands step =
    let l = sound.parts.0 in
    let old = sound.parts.1 in
    let p : Point = Large (large.FreeRun place run) o in
    let fit = fits-at g s l caller p old has stands in
    let owned : IsOwned s caller place (need.Large run.units) =
    All-head (λ x. IsOwned s caller x.place x.need) (record { place = place; need = need.Large run.units; overwritten = false }) []
    (frees-at g s l caller p old has stands) in
    let a : Block = owned.block.0 in
    let allowed : IsAllowed g s.history (Free caller place) = (a, owned.block.1, owned.block.2) in
    let word : ℕ = without_run (s.word name.Units) run.first run.units in
    touching g s caller s' p Idle name.Units word (Free caller place) sound has stands (has, allowed)
    (side-touches g s l caller _ o _ _ _ _
    (record { leads = inr (reply.Freed, refl, refl); here = refl; written = refl; lost = refl; cleared = refl; told = refl }) tt idle-aside idle-recalls
    (run-free-event g caller place run.first fit.point.place) allowed
    (λ d i has bound lt.
    ap is_there
    (block_at-without_other place _ (pool_of s.history)
    (λ same. frame-before g.frames _ _ i run.first (info-frame g s l d old has) lt (same ∙ fit.point.place)))))
    (λ t.
    let pool : pool_of s'.history ≡ without place (pool_of s.history) = ap pool_of t.history ∙ pool_of-push s.history (Free caller place) in
    let c : IsGone s s' place a = record {
      was = owned.block.1;
      gone = ap (block_at place) pool ∙ block_at-without_same place (pool_of s.history) (sound-differ g (pool_of s.history) (sound-of g s.history sound.legal));
      elsewhere = λ q ne. ap (block_at q) pool ∙ block_at-without_other place q (pool_of s.history) ne;
    } in
    free-tied g s s' place run l sound old fit.point t.word a owned.block.3 c caller o _ t.touches stands idle-bare-handed owned.block.2)
    step
