-- Along a lane's operations through a cache the blocks in its registers and in its magazines have all their words written.
use Rattle.std.proofs.Common.{ℕ, ◌≡◌, ◌<◌, ◌+◌, List, [], ◌∷◌, ◌++◌, Option, Some, length, get_or, refl, sym, ◌∙◌, ap, subst, inl, inr, arith, append_assoc, length-append}
use Rattle.std.specs.Prelude.{flat_map}
use Rattle.std.specs.List.{AllByRecursion}
use Rattle.std.proofs.lemmas.Bool.{cases_lt}
use Rattle.std.proofs.lemmas.List.{get_or_past}
use Rattle.heap_geometry.specs.declared.geometry.Geometry.{Geometry}
use Rattle.heap_geometry.specs.Need.{need_of}
use Rattle.pool_model.specs.declared.event.Event.{Event}
use Rattle.pool_model.specs.Histories.{caller_of, own, Begins}
use Rattle.pool_model.specs.Pool.{Block, pool_of}
use Rattle.pool_model.specs.Legal.{IsLegalWithoutCounts}
use Rattle.trace_text.specs.declared.trace.Op.{Op}
use Rattle.trace_text.specs.declared.trace.Op.TheVariants as op
use Rattle.lane_outcomes.specs.declared.registers.HeldBlock.{HeldBlock}
use Rattle.lane_outcomes.specs.declared.outcome.Outcome.{Outcome}
use Rattle.lane_outcomes.specs.declared.outcome.Outcome.TheVariants as outcome
use Rattle.lane_outcomes.specs.Cached.{CachedOutcomesFit, CachedPosition, CachedRow, CachedWalks, cached_after, cached_start}
use Rattle.lane_outcomes.specs.Lane.{held_in, writing}
use Rattle.lane_outcomes.specs.Magazines.{emptying, freeing, is_kept, kept_from, magazines_given}
use Rattle.lane_outcomes.specs.Rows.{IsWord, Moment, Setting}
use Rattle.lane_outcomes.specs.Standing.{setting_in}
use Rattle.lane_outcomes.specs.Written.{HoldsWritten, ShelvesWritten, SumsWritten}
use Rattle.lane_outcomes.specs.WrittenThrough.{CopiesWrittenThrough}
use Rattle.lane_outcomes.proofs.CachedLemmas.{lane-holds}
use Rattle.lane_outcomes.proofs.LanesLemmas.{cached-lane, walk-adds}
use Rattle.lane_outcomes.proofs.WalkLemmas.{all-frees}
use Rattle.lane_outcomes.proofs.SlotLemmas.{slot-held, slots}
use Rattle.lane_outcomes.proofs.WrittenBlocks.{AllFill, FillsAll, IsNoAlloc, from-append, no_part, own-written, part_at, part_behind, shelves-written}
use Rattle.lane_outcomes.proofs.WrittenLemmas.{check-sum, copied-word, one-of, writes-same}
use Rattle.lane_outcomes.proofs.WrittenRows.{filled-all, walk-filled}

module _ (g : Geometry) (history : List Event) (lost depth : ℕ) (lanes : List (List Op)) (outcomes : List (List Outcome)) (hits : ℕ) (legal : IsLegalWithoutCounts g history) (fit : CachedOutcomesFit g history lost depth lanes outcomes hits) where
  -- whoever makes an event is a lane, and fills its blocks
  all-fill : AllFill history
  all-fill before rest event is =
      let caller = caller_of event in
      let below : caller < length lanes =
      one-of (λ event. caller_of event < length lanes) before rest event
      (subst (AllByRecursion (λ event. caller_of event < length lanes)) is fit.callers) in
      let fits = (cached-lane g history lost depth lanes outcomes hits fit.lanes_fit caller below).1 in
      let filled = walk-filled (setting_in history caller g.turn_limit lost) depth cached_start fits.end (get_or lanes caller []) (get_or outcomes caller [])
      fits.walks (tt, refl) in
      subst (FillsAll no_part) (sym fits.all_used)
      (from-append no_part fits.end.base.done (emptying caller fits.end.magazines) filled
      (filled-all (emptying caller fits.end.magazines)
      (all-frees IsNoAlloc caller (flat_map (λ magazine. magazine) fits.end.magazines) (λ place. tt)))).0

  pub shelved-through : (before : List Event) → Begins before history → ShelvesWritten (pool_of before)
  shelved-through = shelves-written g history legal all-fill

  -- each word of the blocks in a lane's registers and magazines was written, at a moment at which the lane stands there
  pub slots-written :
      (caller limit more : ℕ) (operations : List Op) (results : List Outcome) (position : CachedPosition)
      → CachedWalks (setting_in history caller limit more) depth cached_start operations results position
      → (moment : Moment (setting_in history caller limit more) position.base.done)
      → HoldsWritten (pool_of moment.before) (slots (kept_from 0 position.magazines) position.base.registers)
  slots-written caller limit more operations results position walks moment r held block full live =
      let setting = setting_in history caller limit more in
      let owns = (lane-holds g setting depth operations results position legal walks moment).owned r held full in
      let filled = walk-filled setting depth cached_start position operations results walks (tt, refl) in
      let none : (part_at caller moment.before).left ≡ 0 = subst (λ done. (part_behind no_part done).left ≡ 0) (sym moment.own_done) filled.1 in
      let same : owns.block ≡ block = let e : Some owns.block ≡ Some block = sym owns.live ∙ live in cc in
      own-written g history legal all-fill caller moment.before moment.begins none held.place block live
      (ap (λ (b : Block). b.owner) (sym same) ∙ owns.owned)

  registers-written :
      (caller limit more : ℕ) (operations : List Op) (results : List Outcome) (position : CachedPosition)
      → CachedWalks (setting_in history caller limit more) depth cached_start operations results position
      → (moment : Moment (setting_in history caller limit more) position.base.done) → HoldsWritten (pool_of moment.before) position.base.registers
  registers-written caller limit more operations results position walks moment r held block full live =
      let kept : List HeldBlock = kept_from 0 position.magazines in
      slots-written caller limit more operations results position walks moment (length kept + r) held block
      (slot-held kept position.base.registers r ∙ full) live

  -- a lane's walk is cut at an operation
  record IsCutAt (setting : Setting) (from to : CachedPosition) (earlier later : List Op) (results more : List Outcome) (operation : Op) (result : Outcome) : Type 0 where
    pub at : CachedPosition
    pub walks : CachedWalks setting depth from earlier results at
    pub piece : List Event
    pub row : CachedRow setting depth at operation result piece
    pub rest : CachedWalks setting depth (cached_after depth at operation result piece) later more to

  cut-at :
      (setting : Setting) (from to : CachedPosition) (earlier later : List Op) (results more : List Outcome) (operation : Op) (result : Outcome)
      → length results ≡ length earlier → CachedWalks setting depth from (earlier ++ operation ∷ later) (results ++ result ∷ more) to
      → IsCutAt setting from to earlier later results more operation result
  cut-at setting from to [] later [] more operation result same (piece, row, walks) =
      record { at = from; walks = refl; piece = piece; row = row; rest = walks }
  cut-at setting from to [] later (first ∷ results) more operation result same walks = absurd (omega (arith, same))
  cut-at setting from to (first ∷ earlier) later [] more operation result same walks = absurd (omega (arith, same))
  cut-at setting from to (first ∷ earlier) later (second ∷ results) more operation result same (piece, row, walks) =
      let cut = cut-at setting (cached_after depth from first second piece) to earlier later results more operation result (omega (arith, same)) walks in
      record { at = cut.at; walks = (piece, row, cut.walks); piece = cut.piece; row = cut.row; rest = cut.rest }

  module _ (lane : ℕ) (earlier later : List Op) (results more : List Outcome) (operation : Op) (result : Outcome) (operations_are : get_or lanes lane [] ≡ earlier ++ operation ∷ later) (results_are : get_or outcomes lane [] ≡ results ++ result ∷ more) (same : length results ≡ length earlier) where
    abbrev here : Setting
    here = setting_in history lane g.turn_limit lost

    lane-cut : (end : CachedPosition) × IsCutAt here cached_start end earlier later results more operation result
        × (own lane history ≡ end.base.done ++ emptying lane end.magazines)
    lane-cut =
        let below : lane < length lanes =
        elim (cases_lt lane (length lanes)) [
          | inl lt ↦ lt
          | inr past ↦
              let none : get_or lanes lane [] ≡ [] = get_or_past lanes lane [] past in
              absurd (omega (arith, ap length (sym none ∙ operations_are), length-append earlier (operation ∷ later)))
        ] in
        let fits = (cached-lane g history lost depth lanes outcomes hits fit.lanes_fit lane below).1 in
        let walks : CachedWalks here depth cached_start (earlier ++ operation ∷ later) (results ++ result ∷ more) fits.end =
        subst (λ rs. CachedWalks here depth cached_start (earlier ++ operation ∷ later) rs fits.end) results_are
        (subst (λ ops. CachedWalks here depth cached_start ops (get_or outcomes lane []) fits.end) operations_are fits.walks) in
        (fits.end, cut-at here cached_start fits.end earlier later results more operation result same walks, fits.all_used)

  pub check-through :
      (lane r total : ℕ) (earlier later : List Op) (results more : List Outcome) → get_or lanes lane [] ≡ earlier ++ op.Check r ∷ later
      → get_or outcomes lane [] ≡ results ++ outcome.Sum total ∷ more → length results ≡ length earlier
      → (position : CachedPosition) × CachedWalks (setting_in history lane g.turn_limit lost) depth cached_start earlier results position
      × SumsWritten (setting_in history lane g.turn_limit lost) position.base r total
  check-through lane r total earlier later results more operations_are results_are same =
      let cut = (lane-cut lane earlier later results more (op.Check r) (outcome.Sum total) operations_are results_are same).1 in (
        cut.at,
        cut.walks,
        check-sum (setting_in history lane g.turn_limit lost) cut.at.base r total cut.piece (held_in cut.at.base.registers r) refl
            (registers-written lane g.turn_limit lost earlier results cut.at cut.walks) cut.row,
      )

  pub resize-through :
      (lane r need words place : ℕ) (earlier later : List Op) (results more : List Outcome) → get_or lanes lane [] ≡ earlier ++ op.Resize r need ∷ later
      → get_or outcomes lane [] ≡ results ++ outcome.Resized words place ∷ more → length results ≡ length earlier
      → (position : CachedPosition) × CachedWalks (setting_in history lane g.turn_limit lost) depth cached_start earlier results position
      × CopiesWrittenThrough (setting_in history lane g.turn_limit lost) depth position r need words place
  resize-through lane r need words place earlier later results more operations_are results_are same =
      let setting = setting_in history lane g.turn_limit lost in
      let (end, cut, used) = lane-cut lane earlier later results more (op.Resize r need) (outcome.Resized words place) operations_are results_are same in
      let at = cut.at in
      let (held, full, differ, words_are, calls, given, value, copy, is) = cut.row in
      let next = cached_after depth at (op.Resize r need) (outcome.Resized words place) cut.piece in
      let adds = walk-adds setting depth next end later more cut.rest in
      let rest : List Event = adds.0 ++ emptying lane end.magazines in
      let all_own : own lane history ≡ (at.base.done ++ cut.piece) ++ rest =
      used ∙ ap (λ es. es ++ emptying lane end.magazines) adds.1 ∙ append_assoc (at.base.done ++ cut.piece) adds.0 (emptying lane end.magazines) in
      let values = registers-written lane g.turn_limit lost earlier results at cut.walks copy.moment r held copy.block full copy.live in
      let each : (i : ℕ) → i < 0 + words → value i ≡ get_or values.0 i 0 =
      λ i lt. copied-word values.0 i (value i) (subst (λ (cs : List (Option ℕ)). IsWord (get_or cs i (Some 0)) (value i)) values.1 (copy.each i (omega (arith, lt)))) in
      let freed : List Event = freeing lane (is_kept depth (magazines_given at.magazines (need_of need)) held.need) held.place in
      let piece_same : cut.piece ≡ (calls ++ writing lane place words (λ i. get_or values.0 i 0)) ++ freed =
      is ∙ ap (λ es. (calls ++ es) ++ freed) (writes-same lane place words 0 value (λ i. get_or values.0 i 0) each) in (
        at,
        cut.walks,
        record {
          held = held;
          holds = full;
          moment = copy.moment;
          block = copy.block;
          live = copy.live;
          values = values.0;
          written = values.1;
          calls = calls;
          allocates = given;
          goes_on = subst (λ (es : List Event). Begins (at.base.done ++ es) (own lane history)) piece_same (rest, all_own);
        },
      )
