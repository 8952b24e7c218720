-- What an effect changes of what the callers hold, where one caller goes on that holds something else after it.
use Rattle.std.proofs.Common.{ℕ, ◌≡◌, ◌<◌, ◌+◌, arith, ap, [], ◌∙◌, ◌≢◌}
use Rattle.sound_state.proofs.Common.{Geometry, descriptor_count, occurs, ErrandFields, State, Moves, IsFramed, fills_frame, Holding, waiting, on_its_way, holds_of, Lists}
use Rattle.sound_state.proofs.Common.{callers_sum, away_of, waiting_of, errand_reserves, reserved_among, errand_keeps, errand_away, kept_among, errand_has, stock_among}
use Rattle.sound_state.proofs.Common.{waits_in, errand_stock}
use Rattle.sound_state.proofs.shared.SumLemmas.{sum-same, callers-moved, sum-change}
use Rattle.sound_state.proofs.shared.PointLemmas.{kept_places}
use Rattle.sound_state.proofs.shared.TieLemmas.{IsBareHanded}

-- a caller goes on, and holds `now` where it held `was`; what it has retired stays
pub record HoldingEffects (g : Geometry) (s : State) (caller : ℕ) (was now : Holding) (e : ErrandFields) (s' : State) : Type 0 where
  pub in_heap : caller < g.callers
  pub moves : Moves s.errand caller e s'.errand
  pub retired : e.retired ≡ (s.errand caller).retired
  pub before : holds_of (s.errand caller).point ≡ was
  pub after : holds_of e.point ≡ now

module _ {g : Geometry} {s : State} {caller : ℕ} {was now : Holding} {e : ErrandFields} {s' : State} (h : HoldingEffects g s caller was now e s') where
  -- a caller that held or holds no block that it hands out or frees is bare-handed there
  pub bare-before : was.hands ≡ [] → was.frees ≡ [] → IsBareHanded (s.errand caller).point
  bare-before hands frees = record { hands = ap (λ (o : Holding). o.hands) h.before ∙ hands; frees = ap (λ (o : Holding). o.frees) h.before ∙ frees }

  pub bare-after : now.hands ≡ [] → now.frees ≡ [] → IsBareHanded e.point
  bare-after hands frees = record { hands = ap (λ (o : Holding). o.hands) h.after ∙ hands; frees = ap (λ (o : Holding). o.frees) h.after ∙ frees }

  -- what is summed over all holdings changes by what the caller's two holdings weigh
  pub holdings-go :
      (weight : Holding → ℕ)
      → callers_sum g (λ e. weight (holds_of e.point)) s'.errand + weight was ≡ callers_sum g (λ e. weight (holds_of e.point)) s.errand + weight now
  holdings-go weight =
      omega (
        arith,
        callers-moved g (λ e. weight (holds_of e.point)) s.errand caller e s'.errand h.in_heap h.moves,
        ap weight h.before,
        ap weight h.after,
      )

  -- what waits to be installed, what is on its way and what is reserved change by what the caller held and holds
  pub waits-go : (d : ℕ) → waiting_of g s' d + kept_among waiting d was.kept ≡ waiting_of g s d + kept_among waiting d now.kept
  waits-go d = holdings-go (λ x. kept_among waiting d x.kept)

  pub ways-go :
      (d : ℕ)
      → callers_sum g (errand_keeps on_its_way d) s'.errand + kept_among on_its_way d was.kept
      ≡ callers_sum g (errand_keeps on_its_way d) s.errand + kept_among on_its_way d now.kept
  ways-go d = holdings-go (λ x. kept_among on_its_way d x.kept)

  pub credits-go :
      (d : ℕ)
      → callers_sum g (errand_reserves d) s'.errand + reserved_among d was.credits
      ≡ callers_sum g (errand_reserves d) s.errand + reserved_among d now.credits
  credits-go d = holdings-go (λ x. reserved_among d x.credits)

  -- how often a descriptor is away changes by what the caller held and holds
  pub away-goes : (l : Lists) (d : ℕ) → away_of g s' l d + kept_among on_its_way d was.kept ≡ away_of g s l d + kept_among on_its_way d now.kept
  away-goes l d =
      omega (
        arith,
        callers-moved g (errand_away d) s.errand caller e s'.errand h.in_heap h.moves,
        ap (occurs d) h.retired,
        ap (λ x. kept_among on_its_way d x.kept) h.before,
        ap (λ x. kept_among on_its_way d x.kept) h.after,
      )

  -- how often callers have a descriptor changes by what the caller kept and keeps
  pub places-go :
      (d : ℕ) → callers_sum g (errand_has d) s'.errand + kept_places d was.kept ≡ callers_sum g (errand_has d) s.errand + kept_places d now.kept
  places-go d =
      omega (
        arith,
        callers-moved g (errand_has d) s.errand caller e s'.errand h.in_heap h.moves,
        ap (occurs d) h.retired,
        ap (λ x. kept_places d x.kept) h.before,
        ap (λ x. kept_places d x.kept) h.after,
      )

  -- what is out for a class changes by what the caller kept and keeps, where it waits for nothing before and after
  pub stock-goes :
      (class : ℕ) → waits_in class (s.errand caller).point ≡ 0 → waits_in class e.point ≡ 0
      → callers_sum g (errand_stock class) s'.errand + stock_among class was.kept
      ≡ callers_sum g (errand_stock class) s.errand + stock_among class now.kept
  stock-goes class waited waits =
      omega (
        arith,
        callers-moved g (errand_stock class) s.errand caller e s'.errand h.in_heap h.moves,
        waited,
        waits,
        ap (λ x. stock_among class x.kept) h.before,
        ap (λ x. stock_among class x.kept) h.after,
      )

  -- each frame stays in one place where the caller has the same frames in its hand, and superblocks fill those that they filled
  pub framed-after :
      (l : Lists) → ((f d : ℕ) → fills_frame g s' l f d ≡ fills_frame g s l f d) → ((f : ℕ) → occurs f now.frames ≡ occurs f was.frames)
      → IsFramed g s l → IsFramed g s' l
  framed-after l filled hand old = record {
    once = λ f has.
        omega (
          arith,
          sum-same (descriptor_count g) (fills_frame g s l f) (fills_frame g s' l f) (λ d lt. filled f d),
          holdings-go (λ x. occurs f x.frames),
          hand f,
          old.once f has,
        );
  }

  -- each frame stays in one place where one superblock alone fills other frames than before, which the caller's hand gives or gets
  pub framed-but :
      (l : Lists) (x : ℕ) → x < descriptor_count g → ((f d : ℕ) → d ≢ x → fills_frame g s' l f d ≡ fills_frame g s l f d)
      → ((f : ℕ) → occurs f now.frames + fills_frame g s' l f x ≡ occurs f was.frames + fills_frame g s l f x) → IsFramed g s l → IsFramed g s' l
  framed-but l x exists others here old = record {
    once = λ f has.
        let changed = sum-change (descriptor_count g) (fills_frame g s l f) (fills_frame g s' l f) x exists (λ d lt ne. others f d ne) in
        omega (arith, changed, holdings-go (λ x. occurs f x.frames), here f, old.once f has);
  }
