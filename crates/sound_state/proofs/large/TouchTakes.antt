-- A run that is taken, or refused.
use Rattle.std.proofs.Common.{ℕ, Bool, false, Option, None, Some, ◌≡◌, ◌≢◌, ◌<◌, ◌≤◌, ◌+◌, ◌^◌, [], refl, arith, ap, sym, subst, inl, inr, ◌∙◌, ◌==◌, ◌&&◌, nat_le, All}
use Rattle.std.proofs.Common.{Any, slice_index_or, pow_mono, pow_pos}
use Rattle.std.specs.Int.{bit_at}
use Rattle.std.proofs.lemmas.Bool.{cases_eq, cases_lt}
use Rattle.std.proofs.lemmas.Nat.{or_lt}
use Rattle.std.proofs.lemmas.Nat.Bits.{bit_at-lt}
use Rattle.std.proofs.lemmas.List.Elements.{All-nil, All-cons}
use Rattle.sound_state.proofs.Common.{Cas, Geometry, Need, need_of, Writes, block_at, pool_of, place-found, sound-of, Continuation, Point, Idle, Large, ErrandFields}
use Rattle.sound_state.proofs.Common.{event_of, next_of, asked, plan_point_of, State, Step, holds_of, Lists, IsOwned, recalls_of, IsSoundWithoutCounts, IsSoundWith}
use Rattle.sound_state.proofs.Common.{is_there, IsLive, IsTied, SMALL_MOST, usable_words, unit_place, block-within, first_wanted, WantFields, RunFields, Refuse, IsAllowed}
use Rattle.sound_state.proofs.Common.{IsFree, fresh_block, IsPlaceFor, IsWellFormed, pool_of-push, every-found, block_at-past, class_span, IsRunFor, IsCovered}
use Rattle.heap_geometry.specs.declared.need.Need.TheVariants as need
use Rattle.heap_geometry.specs.Need.{IsNeed}
use Rattle.heap_geometry.specs.Place.{IsApart, run_span}
use Rattle.word_table.specs.declared.name.WordName.TheVariants as name
use Rattle.step_parts.specs.declared.large.point.LargePoint.TheVariants as large
use Rattle.step_parts.specs.large.Units.{IsInRun, IsFirstRun, IsLowestRun, run_bits, with_run}
use Rattle.step_parts.specs.large.Units as units
use Rattle.step_parts.specs.large.Points.{units_taken}
use Rattle.step_parts.proofs.large_lemmas.LowestLemmas.{first_run-exact}
use Rattle.step_parts.proofs.large_lemmas.UnitLemmas.{run_bits-mask, with_run-inside, with_run-outside}
use Rattle.pool_model.specs.declared.event.Event.TheVariants.{Alloc}
use Rattle.pool_model.specs.Legal.{IsClear, IsRefusable}
use Rattle.pool_model.specs.Pool.{Block, span_of}
use Rattle.pool_model.proofs.OwnerLemmas.{free-elsewhere}
use Rattle.pool_model.proofs.PoolLemmas.{block_at-here}
use Rattle.errand_steps.specs.declared.reply.Reply.TheVariants as reply
use Rattle.errand_steps.specs.tables.Holding.{run_handed}
use Rattle.sound_state.proofs.shared.PointLemmas.{fits-at}
use Rattle.sound_state.proofs.large.TouchEffects.{Touches}
use Rattle.sound_state.proofs.large.TouchFrees.{cases_run}
use Rattle.sound_state.proofs.large.TouchPrefix.{frame-before}
use Rattle.sound_state.proofs.large.TouchPrefixes.{info-frame}
use Rattle.sound_state.proofs.large.TouchShelves.{same-tied}
use Rattle.sound_state.proofs.large.TouchSteps.{idle-aside, idle-bare-handed, idle-recalls, large-aside, side-touches, won-does}
use Rattle.sound_state.proofs.shared.StepLemmas.{words-stay}
use Rattle.sound_state.proofs.shared.TieLemmas.{IsBareHanded, excepts-none, none-written, one-live, ties-but, Excepts}
use Rattle.sound_state.proofs.large.TouchTies.{touched-desc, touching}
use Rattle.sound_state.proofs.shared.KeepsSound.{KeepsSoundWhere}

-- an allocation of units asks for words that so many units serve
run-asked : (n : ℕ) (o : Continuation) → IsRunFor n o → need_of (asked o) ≡ need.Large n
run-asked n o h = grind (arith, h)

-- words that units serve aren't small
pub large-served : (words n : ℕ) → need_of words ≡ need.Large n → nat_le words SMALL_MOST ≡ false
unfolding need_of
large-served words n is = grind (arith, is)

and-false : (b c : Bool) → c ≡ false → (b && c) ≡ false
and-false b c is = grind (arith, is)

-- the units of a clear span are free
clear-bits :
    (g : Geometry) (s : State) (l : Lists) (first n i : ℕ) → IsSoundWith g s l → IsClear (pool_of s.history) (run_span g.frames first n)
    → IsInRun first n i → i < g.units → bit_at (s.word name.Units) i ≡ 0
clear-bits g s l first n i old clear inside has =
    elim (cases_eq (bit_at (s.word name.Units) i) 1) [
      | inl one ↦
          let k = (old.tied.units i has).0 one in
          let here : k.0.place ≡ unit_place g.frames k.1 = place-found _ (pool_of s.history) k.0 k.3 in
          let words : usable_words k.0.need ≡ usable_words (need.Large k.2) = ap usable_words k.4 in
          elim (clear (unit_place g.frames k.1) k.0 k.3) [
            | inl before ↦ absurd (omega (arith, before, here, words, inside.from, inside.below, k.5, k.6))
            | inr after ↦ absurd (omega (arith, after, here, words, inside.from, inside.below, k.5, k.6))
          ]
      | inr ne ↦ omega (arith, ne, bit_at-lt (s.word name.Units) i)
    ]

-- a run whose units are free is clear
clear-need :
    (g : Geometry) (s : State) (l : Lists) (first n : ℕ) → IsSoundWith g s l → first + n ≤ g.units → 1 ≤ n
    → units.IsFreeRun (s.word name.Units) first n → (q : ℕ) (b : Block) → IsLive s q b → (m : Need) → b.need ≡ m → IsNeed m → IsPlaceFor g m b.place
    → IsApart (run_span g.frames first n) (span_of b)
clear-need g s l first n old within some free q b live (need.Small class) of is at =
    let words : 1 + usable_words b.need ≡ 1 + usable_words (need.Small class) = ap (λ m. 1 + usable_words m) of in
    inr (omega (arith, words, class_span class, at.2, at.4, block-within class at.1 at.3, pow_pos (class + 1)))
clear-need g s l first n old within some free q b live (need.Large m) of is at =
    let words : usable_words b.need ≡ usable_words (need.Large m) = ap usable_words of in
    let here : q ≡ unit_place g.frames at.0 = sym (place-found q (pool_of s.history) b live) ∙ at.2 in
    let there : IsLive s (unit_place g.frames at.0) b = subst (λ p. IsLive s p b) here live in
    elim (cases_lt at.0 (first + n)) [
      | inr behind ↦ inl (omega (arith, behind, at.2))
      | inl before ↦
          elim (cases_lt first (at.0 + m)) [
            | inr past ↦ inr (omega (arith, past, at.2, words, is.0))
            | inl over ↦
                elim (cases_lt at.0 first) [
                  | inl lower ↦
                      let one : bit_at (s.word name.Units) first ≡ 1 =
                      (old.tied.units first (omega (arith, within, some))).1 (b, at.0, m, there, of, omega (arith, lower), over) in
                      let none = free first (record { from = omega arith; below = omega (arith, some) }) in
                      absurd (omega (arith, one, none))
                  | inr upper ↦
                      let one : bit_at (s.word name.Units) at.0 ≡ 1 =
                      (old.tied.units at.0 (omega (arith, at.1, is.0))).1 (b, at.0, m, there, of, omega arith, omega (arith, is.0)) in
                      let none = free at.0 (record { from = upper; below = before }) in
                      absurd (omega (arith, one, none))
                ]
          ]
    ]
clear-need g s l first n old within some free q b live need.TooLarge of is at = absurd at

clear-run :
    (g : Geometry) (s : State) (l : Lists) (first n : ℕ) → IsSoundWithoutCounts g s → IsSoundWith g s l → first + n ≤ g.units → 1 ≤ n
    → units.IsFreeRun (s.word name.Units) first n → IsClear (pool_of s.history) (run_span g.frames first n)
clear-run g s l first n sound old within some free q b live =
    let formed : IsWellFormed g b = every-found (IsWellFormed g) q (pool_of s.history) b (sound-of g s.history sound.legal).each live in
    clear-need g s l first n old within some free q b live b.need refl formed.need formed.place

-- a refusal, where no run of free units is wide enough, keeps the state sound
refused-sound :
    (g : Geometry) (s : State) (caller : ℕ) (s' : State) (w : WantFields) (bits : ℕ) (o : Continuation) → IsSoundWithoutCounts g s → caller < g.callers
    → (s.errand caller).point ≡ Large (large.TakeRun w bits) o → s.word name.Units ≡ bits → first_wanted w bits ≡ None → Step s caller s' → IsSoundWithoutCounts g s'
unfolding plan_point_of next_of event_of holds_of
refused-sound g s caller s' w bits o sound has stands word none step =
    let l = sound.parts.0 in
    let old = sound.parts.1 in
    let p : Point = Large (large.TakeRun w bits) o in
    let fit = fits-at g s l caller p old has stands in
    let served : need_of (asked o) ≡ need.Large w.units = run-asked w.units o fit.goes in
    let exact : IsFirstRun bits w.geometry.units w.units None = subst (IsFirstRun bits w.geometry.units w.units) none (first_run-exact bits w.geometry.units w.units) in
    let heap : w.geometry.units ≡ g.units = ap (λ (h : Geometry). h.units) fit.point.geometry in
    let refusable : IsRefusable g s.history caller (need.Large w.units) =
    λ place free.
    exact free.unit (omega (arith, free.in_heap, heap))
    (λ i inside.
    subst (λ v. bit_at v i ≡ 0) word (clear-bits g s l free.unit w.units i old free.clear inside (omega (arith, free.in_heap, inside.below)))) in
    let allowed : IsAllowed g s.history (Refuse caller (asked o)) = subst (IsRefusable g s.history caller) (sym served) refusable in
    touching g s caller s' p Idle name.Units bits (Refuse caller (asked o)) sound has stands (has, allowed)
    (side-touches g s l caller _ o _ _ _ _
    (won-does s caller p _ _ bits _ _ (ap (λ f. Cas name.Units bits (units_taken bits w.units f)) none) word
    (inr (reply.Refused, rw none refl, refl)) refl refl (rw none refl)) tt idle-aside idle-recalls
    (record {
      number = refl;
      gives = λ i. refl;
      refuses = λ i. and-false (caller == i) (nat_le (asked o) SMALL_MOST) (large-served (asked o) w.units served);
      allocs = refl;
      freed = refl;
    }) allowed (λ d i has bound lt. refl))
    (λ t.
    same-tied g s l caller s' _ t.touches old (words-stay s.word name.Units _ s'.word t.word (sym word))
    (subst IsBareHanded (sym stands) (record { hands = refl; frees = refl })) idle-bare-handed
    (λ q. ap (block_at q) (ap pool_of t.history ∙ pool_of-push s.history (Refuse caller (asked o)))))
    step

-- the run that is found: the wanted units from the first on
abbrev run_at : ℕ → WantFields → RunFields
run_at first w = record { first = first; units = w.units }

-- a live block comes to the place by the step, and all other places are as they were
pub record Comes (s s' : State) (at : ℕ) (a : Block) : Type 0 where
  pub unlive : (p : ℕ) (b : Block) → IsLive s p b → p ≢ at
  pub now : IsLive s' at a
  pub elsewhere : (p : ℕ) → p ≢ at → block_at p (pool_of s'.history) ≡ block_at p (pool_of s.history)

run-excepted : (place n : ℕ) → Any (λ b. b.place ≡ place) (run_handed place n)
run-excepted place n = (0, record { place = place; need = need.Large n }, omega arith, refl, refl)

-- the states before and after a run is given
module _ (g : Geometry) (s s' : State) (l : Lists) (first n : ℕ) (w : Writes s.word name.Units (with_run (s.word name.Units) first n) s'.word) where
  -- the taken units are covered by the given run, and the others as they were
  given-units :
      (unit : ℕ) (a : Block) → IsSoundWith g s l → a.need ≡ need.Large n → Comes s s' (unit_place g.frames first) a → unit < g.units
      → (bit_at (s'.word name.Units) unit ≡ 1 → IsCovered g s' unit) × (IsCovered g s' unit → bit_at (s'.word name.Units) unit ≡ 1)
  given-units unit a old of c has =
      let bits = s.word name.Units in
      let t = old.tied.units unit has in
      elim (cases_run first n unit) [
        | inl inside ↦ (
          λ bit. (a, first, n, c.now, of, inside.from, inside.below),
          λ k. ap (λ x. bit_at x unit) w.here ∙ with_run-inside bits first n unit inside,
        )
        | inr outside ↦ (
          λ bit.
              let k = t.0 (sym (with_run-outside bits first n unit outside) ∙ ap (λ x. bit_at x unit) (sym w.here) ∙ bit) in
              (k.0, k.1, k.2, c.elsewhere (unit_place g.frames k.1) (c.unlive (unit_place g.frames k.1) k.0 k.3) ∙ k.3, k.4, k.5, k.6),
          λ k.
              let ne : unit_place g.frames k.1 ≢ unit_place g.frames first =
              λ same.
              let firsts : k.1 ≡ first = omega (arith, same) in
              let blocks : a ≡ k.0 = one-live s' (unit_place g.frames first) (unit_place g.frames k.1) a k.0 c.now same k.3 in
              let needs : need.Large n ≡ need.Large k.2 = sym of ∙ ap (λ (x : Block). x.need) blocks ∙ k.4 in
              let as_many : n ≡ k.2 = cc in
              outside (record { from = omega (arith, firsts, k.5); below = omega (arith, firsts, as_many, k.6) }) in
              ap (λ x. bit_at x unit) w.here ∙ with_run-outside bits first n unit outside
              ∙ t.1 (k.0, k.1, k.2, sym (c.elsewhere (unit_place g.frames k.1) ne) ∙ k.3, k.4, k.5, k.6),
        )
      ]

  run-given-tied :
      (caller words : ℕ) (e : ErrandFields) → Touches g s l caller e s' → IsSoundWith g s l → IsBareHanded (s.errand caller).point
      → (holds_of e.point).hands ≡ run_handed (unit_place g.frames first) n → (holds_of e.point).frees ≡ [] → need_of words ≡ need.Large n → first + n ≤ g.units
      → Comes s s' (unit_place g.frames first) (fresh_block caller words (unit_place g.frames first)) → IsTied g s' l
  run-given-tied caller words e h old bare hands frees served within c =
      let tied = old.tied in
      let stands : ℕ = unit_place g.frames first in
      let a : Block = fresh_block caller words stands in
      let is_fresh = λ (p : ℕ) (b : Block) (here : p ≡ stands) (live : IsLive s' p b).
      one-live s' stands p a b c.now here live in
      let mine : IsOwned s' caller stands (need.Large n) = record { block = (a, c.now, refl, served) } in
      ties-but g s l l caller (λ p. p ≡ stands) e s' (record {
        moves = h.moves;
        either = λ p. cases_eq p stands;
        there = c.elsewhere;
        before = λ p b here live. absurd (c.unlive p b live here);
        after = λ p b here live. ap (λ (x : Block). x.owner) (sym (is_fresh p b here live));
        arena = λ p ne. w.elsewhere (name.Arena p) (λ same. cc);
        shelf = λ k. w.elsewhere (name.Shelf k) (λ same. cc);
        small = λ p class b here live is.
            let bad : need.Large n ≡ need.Small class = sym served ∙ ap (λ (x : Block). x.need) (is_fresh p b here live) ∙ is in absurd (cc);
        large = λ p m b here live is.
            let excepts : Excepts e stands = inl (subst (Any (λ x. x.place ≡ stands)) (sym hands) (run-excepted stands n)) in
            inl (record {
              caller = (caller, h.in_heap, subst (λ q. Excepts (s'.errand caller) q) (sym here) (subst (λ f. Excepts f stands) (sym h.moves.here) excepts));
            });
        bound = λ p class b d ne live is its. touched-desc h p class d its;
        units = λ unit has. let u = given-units unit a old served c has in (u.0, u.1);
        no_more_units =
            let most : 2 ^ (first + n) ≤ 2 ^ g.units = pow_mono within in
            let run : run_bits first n < 2 ^ g.units = omega (arith, run_bits-mask first n, pow_pos first, most) in
            subst (λ x. x < 2 ^ g.units) (sym w.here) (or_lt g.units (s.word name.Units) (run_bits first n) tied.no_more_units run);
        contents = λ p i v b live written.
            let differs : p ≢ stands =
            λ here.
            none-written (usable_words (need_of words)) i v (ap (λ (x : Block). slice_index_or x.contents i None) (is_fresh p b here live) ∙ written) in
            w.elsewhere (name.Arena (p + 1 + i)) (λ same. cc) ∙ tied.contents p i v b (sym (c.elsewhere p differs) ∙ live) written;
        excepts = λ p ne excepts. absurd (excepts-none (s.errand caller) p bare excepts);
        hands =
            subst (All (λ x. IsOwned s' caller x.place x.need)) (sym hands)
            (All-cons (λ x. IsOwned s' caller x.place x.need) (record { place = stands; need = need.Large n }) [] mine
            (All-nil (λ x. IsOwned s' caller x.place x.need)));
        frees = subst (All (λ x. IsOwned s' caller x.place x.need)) (sym frees) (All-nil (λ x. IsOwned s' caller x.place x.need));
      }) tied

given-sound :
    (g : Geometry) (s : State) (caller : ℕ) (s' : State) (w : WantFields) (bits : ℕ) (o : Continuation) (first : ℕ) → IsSoundWithoutCounts g s → caller < g.callers
    → (s.errand caller).point ≡ Large (large.TakeRun w bits) o → s.word name.Units ≡ bits → first_wanted w bits ≡ Some first → Step s caller s'
    → IsSoundWithoutCounts g s'
unfolding plan_point_of next_of event_of holds_of recalls_of
given-sound g s caller s' w bits o first sound has stands word some step =
    let l = sound.parts.0 in
    let old = sound.parts.1 in
    let p : Point = Large (large.TakeRun w bits) o in
    let fit = fits-at g s l caller p old has stands in
    let n : ℕ = w.units in
    let words : ℕ = asked o in
    let served : need_of words ≡ need.Large n = run-asked n o fit.goes in
    let exact : IsFirstRun bits w.geometry.units n (Some first) =
    subst (IsFirstRun bits w.geometry.units n) some (first_run-exact bits w.geometry.units n) in
    let lowest : IsLowestRun bits w.geometry.units n first = exact in
    let heap : w.geometry.units ≡ g.units = ap (λ (h : Geometry). h.units) fit.point.geometry in
    let within : first + n ≤ g.units = omega (arith, lowest.within, heap) in
    let place : ℕ = unit_place w.geometry.frames first in
    let here : place ≡ unit_place g.frames first = ap (λ (h : Geometry). unit_place h.frames first) fit.point.geometry in
    let free_units : units.IsFreeRun (s.word name.Units) first n = subst (λ v. units.IsFreeRun v first n) (sym word) lowest.free in
    let free : IsFree g (pool_of s.history) (need.Large n) place = record {
      unit = first;
      in_heap = within;
      is_place = here;
      clear = clear-run g s l first n sound old within fit.point.units.0 free_units;
    } in
    let free_words : IsFree g (pool_of s.history) (need_of words) place = subst (λ m. IsFree g (pool_of s.history) m place) (sym served) free in
    let allowed : IsAllowed g s.history (Alloc caller words place) = free_words in
    let q : Point = Large (large.StoreRunPrefix place (run_at first w)) o in
    let small : nat_le words SMALL_MOST ≡ false = large-served words n served in
    touching g s caller s' p q name.Units (with_run bits first n) (Alloc caller words place) sound has stands (has, allowed)
    (side-touches g s l caller _ o q _ _ _ (won-does s caller p _ _ bits _ _ (ap (λ f. Cas name.Units bits (units_taken bits n f)) some) word
    (inl (rw some refl)) refl refl (rw some refl)) tt (large-aside _ _) refl
    (record { number = refl; gives = λ i. and-false (caller == i) (nat_le words SMALL_MOST) small; refuses = λ i. refl; allocs = small; freed = refl }) allowed
    (λ d i has bound lt.
    ap is_there
    (block_at-past _ (fresh_block caller words place) (pool_of s.history)
    (λ same. frame-before g.frames _ _ i first (info-frame g s l d old has) lt (sym same ∙ here)))))
    (λ t.
    let pool = ap pool_of t.history ∙ pool_of-push s.history (Alloc caller words place) in
    let came : Comes s s' place (fresh_block caller words place) = record {
      unlive = λ x b live same. free-elsewhere g (pool_of s.history) caller words place x b free_words live (sym same);
      now = ap (block_at place) pool ∙ block_at-here place (fresh_block caller words place) (pool_of s.history) refl;
      elsewhere = λ x ne. ap (block_at x) pool ∙ block_at-past x (fresh_block caller words place) (pool_of s.history) (λ same. ne (sym same));
    } in
    run-given-tied g s s' l first n (subst (λ v. Writes s.word name.Units (with_run v first n) s'.word) (sym word) t.word) caller words _ t.touches old
    (subst IsBareHanded (sym stands) (record { hands = refl; frees = refl })) (ap (λ x. run_handed x n) here) refl served within
    (subst (λ x. Comes s s' x (fresh_block caller words x)) here came))
    step

take-found :
    (g : Geometry) (s : State) (caller : ℕ) (s' : State) (w : WantFields) (bits : ℕ) (o : Continuation) (found : Option ℕ) → IsSoundWithoutCounts g s → caller < g.callers
    → (s.errand caller).point ≡ Large (large.TakeRun w bits) o → s.word name.Units ≡ bits → first_wanted w bits ≡ found → Step s caller s' → IsSoundWithoutCounts g s'
take-found g s caller s' w bits o None sound has stands word is step = refused-sound g s caller s' w bits o sound has stands word is step
take-found g s caller s' w bits o (Some first) sound has stands word is step = given-sound g s caller s' w bits o first sound has stands word is step

pub take_run-sound : (w : WantFields) (bits : ℕ) (o : Continuation) → KeepsSoundWhere (Large (large.TakeRun w bits) o) (λ s. s.word name.Units ≡ bits)
take_run-sound w bits o g s caller s' sound has stands word step = take-found g s caller s' w bits o (first_wanted w bits) sound has stands word refl step
