-- The prefix word of a run that is handed out.
use Rattle.std.proofs.Common.{ℕ, None, Some, ◌≡◌, ◌≢◌, ◌<◌, ◌≤◌, ◌+◌, ◌*◌, ◌^◌, [], refl, arith, ap, sym, subst, inl, inr, ◌∙◌, slice_index_or, pow_pos}
use Rattle.std.specs.Int.{bit_at}
use Rattle.std.proofs.lemmas.Bool.{cases_eq}
use Rattle.std.proofs.lemmas.List.Elements.{All-head}
use Rattle.sound_state.proofs.Common.{Geometry, block_count_of, block_place, WordName, Writes, block_at, pool_of, place-found, sound-of, Continuation, Point, Idle, Large}
use Rattle.sound_state.proofs.Common.{ErrandFields, event_of, next_of, plan_point_of, State, holds_of, Lists, IsOwned, IsSoundWithoutCounts, IsSoundWith, IsLive, IsTied}
use Rattle.sound_state.proofs.Common.{usable_words, unit_place, block-within, prefix_word, RunFields, IsWellFormed, every-found}
use Rattle.heap_geometry.specs.declared.need.Need.TheVariants as need
use Rattle.packed_words.specs.declared.prefix.Prefix.TheVariants as prefix
use Rattle.word_table.specs.declared.name.WordName.TheVariants as name
use Rattle.step_parts.specs.declared.large.point.LargePoint.TheVariants as large
use Rattle.step_parts.specs.large.Points.{IsRunAt}
use Rattle.pool_model.specs.Pool.{Block}
use Rattle.errand_steps.specs.declared.reply.Reply.TheVariants as reply
use Rattle.sound_state.proofs.shared.ArenaNames.{arena_place}
use Rattle.sound_state.proofs.shared.ListFacts.{any-one, written-within}
use Rattle.sound_state.proofs.shared.OverlapLemmas.{live-apart}
use Rattle.sound_state.proofs.shared.PointLemmas.{fits-at, hands-at}
use Rattle.sound_state.proofs.large.TouchEffects.{Touches}
use Rattle.sound_state.proofs.large.TouchPrefixes.{KeepsPrefixes, prefixes-stay, info-frame}
use Rattle.sound_state.proofs.large.TouchSteps.{TouchesAt, idle-aside, idle-bare-handed, idle-recalls, large-aside, leaves-same, touched-step}
use Rattle.sound_state.proofs.shared.TieLemmas.{IsBareHanded, bare-owns, one-live, ties-but, Excepts}
use Rattle.sound_state.proofs.large.TouchTies.{touched-desc}
use Rattle.sound_state.proofs.shared.KeepsSound.{KeepsSound, silent-sound}
use Rattle.sound_state.proofs.SoundAfter.{touched-sound}

-- a block of a frame lies before the units
pub frame-before : (frames f c i first : ℕ) → f < frames → i < block_count_of c → block_place f c i ≢ unit_place frames first
frame-before frames f c i first has within same = omega (arith, has, same, block-within c i within, pow_pos (c + 1))

pub written-usable :
    (g : Geometry) (s : State) → IsSoundWithoutCounts g s → (p i v : ℕ) (b : Block) → IsLive s p b → slice_index_or b.contents i None ≡ Some v → i < usable_words b.need
written-usable g s sound p i v b live is =
    let formed : IsWellFormed g b = every-found (IsWellFormed g) p (pool_of s.history) b (sound-of g s.history sound.legal).each live in
    omega (arith, formed.full, written-within b.contents i v is)

-- words of two live blocks differ
pub words-apart :
    (g : Geometry) (s : State) → IsSoundWithoutCounts g s → (p q i j : ℕ) (a b : Block) → IsLive s p a → IsLive s q b → p ≢ q → i ≤ usable_words a.need
    → j ≤ usable_words b.need → p + i ≢ q + j
words-apart g s sound p q i j a b at_p at_q ne of_a of_b same =
    let here_p : a.place ≡ p = place-found p (pool_of s.history) a at_p in
    let here_q : b.place ≡ q = place-found q (pool_of s.history) b at_q in
    elim (live-apart g s sound p q a b at_p at_q ne) [
      | inl before ↦ omega (arith, before, here_p, here_q, of_a, of_b, same)
      | inr after ↦ omega (arith, after, here_p, here_q, of_a, of_b, same)
    ]

-- a write of a word behind the frames touches no block of a frame
pub behind-keeps :
    (g : Geometry) (s : State) (l : Lists) (caller first new : ℕ) (words : WordName → ℕ) → IsSoundWith g s l
    → Writes s.word (name.Arena (unit_place g.frames first)) new words → KeepsPrefixes g s l caller words
behind-keeps g s l caller first new words old w = grind (arith, old, w, frame-before, info-frame)

run-prefix-word : (units : ℕ) → prefix_word (prefix.Large units) ≡ 2 * units + 1
unfolding prefix_word
run-prefix-word units = omega arith

prefix-touches :
    (g : Geometry) (s : State) (l : Lists) (caller place : ℕ) (run : RunFields) (o : Continuation) → IsSoundWith g s l → IsRunAt g place run
    → TouchesAt g s l caller (Large (large.StoreRunPrefix place run) o) Idle (name.Arena place) (prefix_word (prefix.Large run.units)) None
unfolding plan_point_of next_of event_of
prefix-touches g s l caller place run o old fit = record {
  does = record { leads = inr (reply.Given place (need.Large run.units), refl, refl); here = refl; written = refl; lost = refl; cleared = refl; told = refl };
  touched = λ away. away;
  leaves = leaves-same g s l caller;
  before = large-aside _ _;
  after = idle-aside;
  recalls = idle-recalls;
  prefixes = λ words' w d i has bound lt.
      let stands : Writes s.word (name.Arena (unit_place g.frames run.first)) (prefix_word (prefix.Large run.units)) words' =
      subst (λ p. Writes s.word (name.Arena p) (prefix_word (prefix.Large run.units)) words') fit.place w in
      (behind-keeps g s l caller run.first (prefix_word (prefix.Large run.units)) words' old stands).bound d i has bound lt;
  stays = λ words' w i has differ.
      let stands : Writes s.word (name.Arena (unit_place g.frames run.first)) (prefix_word (prefix.Large run.units)) words' =
      subst (λ p. Writes s.word (name.Arena p) (prefix_word (prefix.Large run.units)) words') fit.place w in
      prefixes-stay g s l caller words' (behind-keeps g s l caller run.first (prefix_word (prefix.Large run.units)) words' old stands) old i has differ;
}

-- a caller that stores the prefix word of a run excepts that run alone
excepts-run : (e : ErrandFields) (place : ℕ) (run : RunFields) (o : Continuation) (p : ℕ) → e.point ≡ Large (large.StoreRunPrefix place run) o → Excepts e p → place ≡ p
unfolding holds_of
excepts-run e place run o p stands h1 = grind (arith, stands, h1, any-one)

-- after the store of a run's prefix word that word says the run, and the words show the pool
prefix-tied :
    (g : Geometry) (s : State) (l : Lists) (caller place : ℕ) (run : RunFields) (o : Continuation) (s' : State) (e : ErrandFields) → Touches g s l caller e s'
    → IsSoundWithoutCounts g s → IsSoundWith g s l → (s.errand caller).point ≡ Large (large.StoreRunPrefix place run) o
    → IsOwned s caller place (need.Large run.units) → Writes s.word (name.Arena place) (prefix_word (prefix.Large run.units)) s'.word
    → s'.history ≡ s.history → IsBareHanded e.point → IsTied g s' l
prefix-tied g s l caller place run o s' e h sound old stands owned w past bare_after =
    let tied = old.tied in
    let pool = λ (p : ℕ). ap (λ xs. block_at p (pool_of xs)) past in
    let was = λ (p : ℕ) (b : Block) (live : IsLive s' p b). sym (pool p) ∙ live in
    let run_is = λ (p : ℕ) (b : Block) (here : p ≡ place) (live : IsLive s p b).
    one-live s place p owned.block.0 b owned.block.1 here live in
    let needs = λ (p : ℕ) (b : Block) (here : p ≡ place) (live : IsLive s p b).
    ap (λ (x : Block). x.need) (sym (run_is p b here live)) ∙ owned.block.3 in
    let owns = bare-owns s' caller e.point bare_after in
    let units : s'.word name.Units ≡ s.word name.Units = w.elsewhere name.Units (λ same. cc) in
    ties-but g s l l caller (λ p. p ≡ place) e s'
    (record {
      moves = h.moves;
      either = λ p. cases_eq p place;
      there = λ p ne. pool p;
      before = λ p b here live. ap (λ (x : Block). x.owner) (sym (run_is p b here live)) ∙ owned.block.2;
      after = λ p b here live. ap (λ (x : Block). x.owner) (sym (run_is p b here (was p b live))) ∙ owned.block.2;
      arena = λ p ne. w.elsewhere (name.Arena p) (λ same. ne (ap arena_place same));
      shelf = λ k. w.elsewhere (name.Shelf k) (λ same. cc);
      small = λ p class b here live is.
          let bad : need.Small class ≡ need.Large run.units = sym is ∙ needs p b here (was p b live) in absurd (cc);
      large = λ p n b here live is.
          let same : need.Large n ≡ need.Large run.units = sym is ∙ needs p b here (was p b live) in
          let units : run.units ≡ n = cc in
          inr (ap (λ q. s'.word (name.Arena q)) here ∙ w.here ∙ run-prefix-word run.units ∙ ap (λ m. 2 * m + 1) units);
      bound = λ p class b d ne live is its. touched-desc h p class d its;
      units = λ unit has.
          let t = tied.units unit has in (
            λ bit.
                let c = t.0 (ap (λ x. bit_at x unit) (sym units) ∙ bit) in
                (c.0, c.1, c.2, pool (unit_place g.frames c.1) ∙ c.3, c.4, c.5, c.6),
            λ c.
                ap (λ x. bit_at x unit) units ∙ t.1 (c.0, c.1, c.2, was (unit_place g.frames c.1) c.0 c.3, c.4, c.5, c.6),
          );
      no_more_units = subst (λ x. x < 2 ^ g.units) (sym units) tied.no_more_units;
      contents = λ p i v b live written.
          let old_live : IsLive s p b = was p b live in
          let apart : p + 1 + i ≢ place =
          elim (cases_eq p place) [
            | inl here ↦ λ same. omega (arith, here, same)
            | inr ne ↦ λ same.
                words-apart g s sound p place (1 + i) 0 b owned.block.0 old_live owned.block.1 ne
                (omega (arith, written-usable g s sound p i v b old_live written)) (omega arith) (omega (arith, same))
          ] in
          w.elsewhere (name.Arena (p + 1 + i)) (λ same. apart (ap arena_place same)) ∙ tied.contents p i v b old_live written;
      excepts = λ p ne excepts. absurd (ne (sym (excepts-run (s.errand caller) place run o p stands excepts)));
      hands = owns.0;
      frees = owns.1;
    }) tied

pub store_run_prefix-sound : (place : ℕ) (run : RunFields) (o : Continuation) → KeepsSound (Large (large.StoreRunPrefix place run) o)
unfolding holds_of
store_run_prefix-sound place run o g s caller s' sound has stands step =
    let l = sound.parts.0 in
    let old = sound.parts.1 in
    let p : Point = Large (large.StoreRunPrefix place run) o in
    let fit = fits-at g s l caller p old has stands in
    let owned : IsOwned s caller place (need.Large run.units) =
    All-head (λ x. IsOwned s caller x.place x.need) (record { place = place; need = need.Large run.units }) [] (hands-at g s l caller p old has stands) in
    let t =
    touched-step g s l caller s' p Idle (name.Arena place) (prefix_word (prefix.Large run.units)) None old has stands
    (prefix-touches g s l caller place run o old fit.point) step in
    silent-sound g s caller s' l sound has step t.history
    (touched-sound t.touches old (prefix-tied g s l caller place run o s' _ t.touches sound old stands owned t.word t.history idle-bare-handed))
