-- The outcomes of a lane that made whole calls fit its events, also through magazines.
use Rattle.std.proofs.Common.{ℕ, Bool, true, ◌≡◌, ◌<◌, ◌≤◌, ◌+◌, ◌^◌, ◌∷◌, ◌++◌, List, [], Option, Some, None, length, take, refl, sym, ap, ◌∙◌, subst, arith}
use Rattle.trace_lane.proofs.Common.{Geometry, Event, Op, Outcome, AllMade, LeadsBy, Position, alloc, own, register_of, setting_in, held_in, registers_after, leads-of}
use Rattle.lane_outcomes.specs.declared.outcome.Outcome.TheVariants as outcome
use Rattle.lane_outcomes.specs.Cached.{CachedPosition, CachedRow, CachedWalks, answered_by, hit_of, served_for}
use Rattle.lane_outcomes.specs.Lane.{spent_after}
use Rattle.lane_outcomes.proofs.LaterLemmas.{cached-row-later}
use Rattle.trace_lane.proofs.AnswerLemmas.{HasMovedOn}
use Rattle.trace_lane.proofs.CallerLemmas.{Owns, moved-none, moved-then}
use Rattle.trace_lane.proofs.EachCall.{HoldsAll}
use Rattle.trace_lane.proofs.HoldsLemmas.{holds-still, op-holds}
use Rattle.trace_lane.proofs.RowLemmas.{IsBetween, setting_at}
use Rattle.trace_lane.proofs.ThroughLemmas.{Came, Through, op-through, stands_at}
use Rattle.trace_lane.proofs.TurnLemmas.{answered_in, cached-answered}

spent-still : (spent : Bool) (result : Outcome) (all : Type 0) → (spent ≡ true → all) → (result ≡ outcome.Spent → all) → spent_after spent result ≡ true → all
spent-still spent outcome.Spent all before now is = now refl
spent-still spent result all before now is = before is

hit-most : (served : Option ℕ) → hit_of served ≤ 1
hit-most None = omega arith
hit-most (Some place) = omega arith

-- a lane between two operations, by who makes its calls
pub record Stands {S : Type 0} (m : Through S) (s : S) (base : Position) : Type 0 where
  pub stands : m.stands s
  pub done : own (m.view s).caller.errand.caller (m.view s).caller.seen ≡ base.done
  pub answered : base.answered ≡ answered_in (m.view s).caller.errand.caller base.done
  pub spent : base.spent ≡ true → (m.view s).caller.errand.turns ≡ m.geometry.turn_limit
  pub holds : HoldsAll m.owns s base.registers

-- operations have led from one to the other, with these outcomes
pub record HasWalked {S : Type 0} (m : Through S) (s t : S) (base : Position) (hits : ℕ) (operations : List Op) (results : List Outcome) : Type 0 where
  pub end : Position
  pub served : ℕ
  pub walks :
      CachedWalks (setting_at m.geometry (m.view s).caller (m.view t).caller) m.depth (stands_at (m.view s) base hits) (take (length results) operations) results
      (stands_at (m.view t) end served)
  pub all : List Event
  pub moved : HasMovedOn (m.view s).caller.errand (m.view t).caller.errand (m.view s).caller.seen (m.view t).caller.seen all
  pub stands : Stands m t end
  pub counts : (m.view s).hits ≡ hits → hits + length results < 2 ^ 64 → (m.view t).hits ≡ served

module _ {S : Type 0} (m : Through S) where
  between : (s : S) (base : Position) → Stands m s base → IsBetween m.geometry (m.view s).caller base
  between s base st = record {
    rests = m.rests s st.stands;
    done = st.done;
    answered = st.answered;
    spent = st.spent;
    holds = holds-still (m.owns s) (Owns (m.view s).caller) base.registers st.holds (m.owned s);
  }

  pub all-walk :
      (operations : List Op) (results : List Outcome) (s t : S) (base : Position) (hits : ℕ) → Stands m s base
      → AllMade m.called base.registers operations results s t → HasWalked m s t base hits operations results
  all-walk operations [] s t base hits st same =
      let c = (m.view s).caller in
      subst (λ x. HasWalked m s x base hits operations []) (sym same)
      (record { end = base; served = hits; walks = refl; all = []; moved = moved-none c.errand c.seen; stands = st; counts = λ is few. is })
  all-walk [] (result ∷ results) s t base hits st all = absurd all
  all-walk (operation ∷ operations) (result ∷ results) s t base hits st (u, (made, for, leads), all) =
      let g = m.geometry in
      let v = m.view s in
      let w = m.view u in
      let e = m.view t in
      let caller = v.caller.errand.caller in
      let slot = held_in base.registers (register_of operation) in
      let (came, rests) = leads-of m.called (Came g m.depth) m.view m.stands m.came made s u st.stands leads in
      let gone = op-through g m.depth v w base hits (between s base st) operation result slot made refl for came
      (λ need place held rest full calls.
      let (x, one, more) = subst (λ ms. LeadsBy m.called s ms u) calls leads in
      m.laws.apart s x (alloc need) _ place held.place _ held.need one (refl, refl) (st.holds.owned (register_of operation) held full)) in
      let piece = gone.piece in
      let moved = gone.added.moved in
      let done = base.done ++ piece in
      let answered = answered_by (served_for v.places operation result) base.answered operation result in
      let next : Position = record {
        registers = registers_after base.registers operation result;
        done = done;
        answered = answered;
        spent = spent_after base.spent result;
      } in
      let heap : v.caller.errand.geometry ≡ g = (m.rests s st.stands).served.own_errand.geometry in
      let here = stands_at v base hits in
      let ended : Stands m u next = record {
        stands = rests;
        done = subst (λ k. own k w.caller.seen ≡ done) (sym moved.same_caller) (moved.own_events ∙ ap (λ xs. xs ++ piece) st.done);
        answered =
            cached-answered (setting_at g v.caller w.caller) m.depth here operation result piece gone.row st.answered
            ∙ ap (λ k. answered_in k done) (sym moved.same_caller);
        spent =
            spent-still base.spent result (w.caller.errand.turns ≡ g.turn_limit)
            (λ is.
            moved.at_limit (st.spent is ∙ ap (λ (h : Geometry). h.turn_limit) (sym heap)) ∙ ap (λ (h : Geometry). h.turn_limit) heap) gone.spent;
        holds = op-holds m.laws s u base.registers operation result slot made st.holds refl for leads;
      } in
      let hit = hit_of (served_for v.places operation result) in
      let most : hit ≤ 1 = hit-most (served_for v.places operation result) in
      let rest = all-walk operations results u t next (hits + hit) ended all in
      let end = stands_at e rest.end rest.served in
      let setting = setting_at g v.caller e.caller in
      let later = cached-row-later (setting_at g v.caller w.caller) rest.moved.rest e.caller.errand.lost m.depth rest.moved.lost here operation result piece gone.row in
      let row : CachedRow setting m.depth here operation result piece =
      subst (λ history. CachedRow (setting_in history caller g.turn_limit e.caller.errand.lost) m.depth here operation result piece) (sym rest.moved.seen) later in
      let others : CachedWalks setting m.depth (stands_at w next (hits + hit)) (take (length results) operations) results end =
      subst
      (λ k. CachedWalks (setting_in e.caller.seen k g.turn_limit e.caller.errand.lost) m.depth (stands_at w next (hits + hit)) (take (length results) operations) results end)
      moved.same_caller rest.walks in
      record {
        end = rest.end;
        served = rest.served;
        walks = (
          piece,
          row,
          subst
              (λ (ms : List (List ℕ)). let p : CachedPosition = record { base = next; magazines = ms; hits = hits + hit } in
              CachedWalks setting m.depth p (take (length results) operations) results end) gone.magazines others,
        );
        all = piece ++ rest.all;
        moved = moved-then v.caller.errand w.caller.errand e.caller.errand v.caller.seen w.caller.seen e.caller.seen piece rest.all moved rest.moved;
        stands = rest.stands;
        counts = λ is few.
            rest.counts (let counted = gone.counts (omega (arith, is, few, most)) in omega (arith, counted, is)) (omega (arith, few, most));
      }
