-- The outcomes of a lane so far fit the events that are seen.
use Rattle.std.proofs.Common.{ℕ, true, ◌≡◌, ◌<◌, ◌≤◌, ◌∷◌, ◌++◌, List, [], Option, Some, None, length, take, refl, sym, ap, ◌∙◌, subst, arith, append_assoc, append-nil}
use Rattle.trace_lane.proofs.Common.{Geometry, Event, Call, ErrandFields, Reply, LeadsBy, Made, Op, Caller, IsAtRest, IsCall, MadeBy, OwnsFor, HeldBlock, Outcome}
use Rattle.trace_lane.proofs.Common.{Work, AllMadeFor, IsLane, StandsBy, Walks, at_once, by_steps, new_caller, true≢false, slice_index_or, own}
use Rattle.trace_lane.proofs.Common.{own-append, setting_in, leads-split}
use Rattle.std.proofs.lemmas.List.{take_all}
use Rattle.lane_outcomes.specs.declared.outcome.Outcome.TheVariants as outcome
use Rattle.lane_outcomes.specs.Fits.{Fits}
use Rattle.lane_outcomes.specs.Lane.{start}
use Rattle.lane_outcomes.proofs.FitLemmas.{walks-later}
use Rattle.lane_outcomes.proofs.SpentLemmas.{told-through}
use Rattle.lane_outcomes.specs.Cached.{CachedPosition}
use Rattle.lane_outcomes.proofs.RoomLemmas.{plain, walks-plain}
use Rattle.trace_lane.proofs.AnswerLemmas.{HasMovedOn}
use Rattle.trace_lane.proofs.CallerLemmas.{Owns, ends-called, in-begun, in-way, leads-first, leads-rest, moved-none, moved-then}
use Rattle.trace_lane.proofs.EndedLemmas.{lane-resting}
use Rattle.trace_lane.proofs.MakingLemmas.{empty}
use Rattle.trace_lane.proofs.OwnLemmas.{empty-holds}
use Rattle.trace_lane.proofs.RowLemmas.{setting_at}
use Rattle.trace_lane.proofs.ThroughLemmas.{alone, bare, stands_at}
use Rattle.trace_lane.proofs.WalkLemmas.{HasWalked, Stands, all-walk}
use Rattle.trace_lane.proofs.MadeLemmas.{all-made}

-- whole calls move their caller on
call-moved :
    (g : Geometry) (c d : Caller) (call : Call) (answer : Reply) → IsAtRest g c → OwnsFor c.seen c.errand.caller call → MadeBy c call answer d
    → (all : List Event) × HasMovedOn c.errand d.errand c.seen d.seen all
call-moved g c d call answer rests owned (by_steps ends) = let h = ends-called g c d call answer rests owned ends in (h.added, h.moved)
call-moved g c d call answer rests owned (at_once words is_alloc is_spent spent same) =
    ([], subst (λ (x : Caller). HasMovedOn c.errand x.errand c.seen x.seen []) (sym same) (moved-none c.errand c.seen))

leads-moved :
    (g : Geometry) (made : List Made) (c d : Caller) → LeadsBy (IsCall g) c made d → (all : List Event) × HasMovedOn c.errand d.errand c.seen d.seen all
leads-moved g [] c d same =
    ([], subst (λ (x : Caller). HasMovedOn c.errand x.errand c.seen x.seen []) (sym same) (moved-none c.errand c.seen))
leads-moved g (m ∷ made) c d (t, one, leads) =
    let first = call-moved g c t m.call m.answer one.rested one.owned one.made in
    let rest = leads-moved g made t d leads in
    (first.0 ++ rest.0, moved-then c.errand t.errand d.errand c.seen t.seen d.seen first.0 rest.0 first.1 rest.1)

-- a new lane is before its first operation
new-stands : (g : Geometry) (caller : ℕ) → IsAtRest g (new_caller caller g) → Stands (alone g) (new_caller caller g) start
new-stands g caller rests = record {
  stands = rests;
  done = refl;
  answered = refl;
  spent = λ is. absurd (true≢false (sym is));
  holds = empty-holds (Owns (new_caller caller g));
}

-- what a lane has walked when its caller stood behind its last outcome
pub record HasCome (g : Geometry) (caller : ℕ) (events : List Event) (e : ErrandFields) (operations : List Op) (results : List Outcome) : Type 0 where
  pub last : Caller
  pub walked : HasWalked (alone g) (new_caller caller g) last start 0 operations results
  pub more : List Event
  pub seen : events ≡ last.seen ++ more
  pub lost : last.errand.lost ≤ e.lost
  pub at_limit : last.errand.turns ≡ g.turn_limit → e.turns ≡ g.turn_limit

come-by :
    (g : Geometry) (caller : ℕ) (events : List Event) (e : ErrandFields) (operations : List Op) (results : List Outcome) (past present : List Made)
    (now : Caller) (sight others : List Event) → events ≡ sight ++ others → IsAtRest g now → AllMadeFor empty operations results past
    → LeadsBy (IsCall g) (new_caller caller g) (past ++ present) now → (all : List Event) → HasMovedOn now.errand e now.seen sight all
    → HasCome g caller events e operations results
come-by g caller events e operations results past present now sight others seen rests all leads piece on =
    let first = new_caller caller g in
    let parts = leads-split (IsCall g) first now past present leads in
    let s = parts.0 in
    let first_rests = leads-first g first now (past ++ present) rests leads in
    let s_rests = leads-rest g first s past first_rests parts.1 in
    let walked = all-walk (alone g) operations results first s start 0 (new-stands g caller first_rests) (all-made (IsCall g) empty operations results past first s all parts.1) in
    let moved = leads-moved g present s now parts.2 in
    let whole = moved-then s.errand now.errand e s.seen now.seen sight moved.0 piece moved.1 on in
    let heap : s.errand.geometry ≡ g = s_rests.served.own_errand.geometry in
    record {
      last = s;
      walked = walked;
      more = whole.rest ++ others;
      seen = seen ∙ ap (λ xs. xs ++ others) whole.seen ∙ append_assoc s.seen whole.rest others;
      lost = whole.lost;
      at_limit = λ is.
          whole.at_limit (is ∙ ap (λ (x : Geometry). x.turn_limit) (sym heap)) ∙ ap (λ (x : Geometry). x.turn_limit) heap;
    }

stands-come :
    (g : Geometry) (caller : ℕ) (events : List Event) (e : ErrandFields) (operations : List Op) (results : List Outcome) (past present : List Made)
    (under : Option Call) (sight others : List Event) → events ≡ sight ++ others → AllMadeFor empty operations results past
    → StandsBy g caller (past ++ present) under (record { errand = e; seen = sight }) → HasCome g caller events e operations results
stands-come g caller events e operations results past present None sight others seen all (leads, rests) =
    let now : Caller = record { errand = e; seen = sight } in
    come-by g caller events e operations results past present now sight others seen rests all leads [] (moved-none e sight)
stands-come g caller events e operations results past present (Some call) sight others seen all (last, leads, rests, owned, is_in) =
    let now : Caller = record { errand = e; seen = sight } in
    let way = in-way last call (in-begun g last now call rests owned is_in) now is_in in
    come-by g caller events e operations results past present last sight others seen rests all leads way.added way.moved

-- the outcomes so far fit the events that are seen, however much more was lost
pub come-fits :
    {g : Geometry} {caller : ℕ} {events : List Event} {e : ErrandFields} {operations : List Op} {results : List Outcome}
    (come : HasCome g caller events e operations results) (lost : ℕ) → e.lost ≤ lost
    → Walks (setting_in events caller g.turn_limit lost) start (take (length results) operations) results come.walked.end
come-fits {g = g} {caller = caller} {events = events} {operations = operations} {results = results} come lost more =
    let w = come.walked in
    let ops = take (length results) operations in
    let setting = setting_at g (new_caller caller g) come.last in
    let least = come.lost in
    let it = walks-plain setting start (stands_at (bare come.last) w.end w.served) ops results w.walks in
    let walks : Walks setting start ops results w.end = subst (Walks setting start ops results) (sym (ap (λ (p : CachedPosition). p.base) it.1)) it.2 in
    subst (λ h. Walks (setting_in h caller g.turn_limit lost) start ops results w.end) (sym come.seen)
    (walks-later setting come.more lost (omega (arith, least, more)) start w.end ops results walks)

-- what a lane at rest has added is what its outcomes tell
pub record HasEndedSo (g : Geometry) (caller : ℕ) (events : List Event) (e : ErrandFields) (operations : List Op) (results : List Outcome) : Type 0 where
  pub come : HasCome g caller events e operations results
  pub done : own caller events ≡ come.walked.end.done
  pub turns : come.walked.end.spent ≡ true → e.turns ≡ g.turn_limit

module _ {g : Geometry} {caller : ℕ} {events : List Event} {e : ErrandFields} {operations : List Op} {registers : List (Option HeldBlock)}
    {results : List Outcome} {at : Option (Work HeldBlock)} {calls : List Call} (lane : IsLane g caller events e operations registers results at calls) where
  pub lane-come : HasCome g caller events e operations results
  lane-come =
      let m = lane.making in
      stands-come g caller events e operations results m.past m.present lane.under lane.sight lane.more.more lane.more.seen m.ended
      (subst (λ ms. StandsBy g caller ms lane.under (record { errand = e; seen = lane.sight })) m.all lane.stands)

  lane-ended : at ≡ None → HasEndedSo g caller events e operations results
  lane-ended between =
      let r = lane-resting lane between in
      let now : Caller = record { errand = e; seen = r.sight } in
      let first = new_caller caller g in
      let first_rests = leads-first g first now r.made r.rests r.leads in
      let walked =
      all-walk (alone g) operations results first now start 0 (new-stands g caller first_rests) (all-made (IsCall g) empty operations results r.made first now r.all r.leads) in
      let heap : e.geometry ≡ g = r.rests.served.own_errand.geometry in
      let come : HasCome g caller events e operations results = record {
        last = now;
        walked = walked;
        more = r.others.more;
        seen = r.others.seen;
        lost = omega arith;
        at_limit = λ is. is;
      } in
      let number : e.caller ≡ caller = walked.moved.same_caller in
      record {
        come = come;
        done =
            ap (own caller) r.others.seen ∙ own-append caller r.sight r.others.more ∙ ap (λ xs. own caller r.sight ++ xs) r.others.not_own
            ∙ append-nil (own caller r.sight) ∙ subst (λ k. own k r.sight ≡ walked.end.done) number walked.stands.done;
        turns = walked.stands.spent;
      }

  -- the outcomes of a lane that has all of them fit
  pub lane-fits :
      (lost : ℕ) → at ≡ None → length results ≡ length operations → e.lost ≤ lost
      → Fits (setting_in events caller g.turn_limit lost) operations results
  lane-fits lost between whole more =
      let ended = lane-ended between in
      let end = ended.come.walked.end in
      let all : take (length results) operations ≡ operations = take_all (length results) operations (omega (arith, whole)) in
      record {
        end = end;
        walks = subst (λ ops. Walks (setting_in events caller g.turn_limit lost) start ops results end) all (come-fits ended.come lost more);
        all_used = ended.done;
      }

  -- a lane that was told to have no turn left has taken them all
  pub lane-spent : (k : ℕ) → at ≡ None → k < length results → slice_index_or results k outcome.Spent ≡ outcome.Spent → e.turns ≡ g.turn_limit
  lane-spent k between below is =
      let ended = lane-ended between in
      let w = ended.come.walked in
      ended.turns
      (told-through (setting_at g (new_caller caller g) ended.come.last) 0 (plain start) (stands_at (bare ended.come.last) w.end w.served)
      (take (length results) operations) results k w.walks below is)
