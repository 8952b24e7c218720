-- A lane stands behind each part of an advance: where its operation begins, where its call goes on, and where that has ended.
use Rattle.std.proofs.Common.{ℕ, true, false, suc, ◌≡◌, ◌<◌, ◌≤◌, ◌+◌, ◌∷◌, ◌++◌, List, [], Option, Some, None, length, refl, sym, ap, ◌∙◌, subst, inl, inr, arith, append_assoc, append-nil, vec_capacity}
use Rattle.std.specs.Prelude.{◌⊎◌}
use Rattle.trace_lane.proofs.Common.{Geometry, Need, Event, Ended, EventsOf, HasEnded, IsLegal, Progress, Reply, Ending, IsBusy, IsIdle, Call, ErrandFields, LeadsBy, Made}
use Rattle.trace_lane.proofs.Common.{IsUnderWay, HasSeenMore, IsMoment, IsServed, REGISTERS, Op, NextCall, HasStepped, HeldBlock, Outcome, LaneState, AllMadeFor, IsMaking}
use Rattle.trace_lane.proofs.Common.{IsLane, StandsBy, IsOp, Stepped, IsIn, Caller, FitsCall, IsAtRest, IsCall, OwnsFor, Engine, HasAnswered, HasBegun}
use Rattle.trace_lane.proofs.Common.{HasGoneOn, IsAgain, AnswersCall, ComesTo, IsAtHand, IsLaneOf, alloc_answer, alloc, free, write, read, put, take, begun_by}
use Rattle.trace_lane.proofs.Common.{answered, call_in, calls_in, calls_made, registers_from, option_map, own, own-append, done-told, same-seen, begin_answer, call_of}
use Rattle.trace_lane.proofs.Common.{begun_count, work_begun, begun_bound, script_left, leads-split, map-append, length-append, ended_as, leads-more, stage_of, take-none}
use Rattle.trace_lane.proofs.Common.{at_once, by_steps, new_caller, registers_at, work_at, Work, owns-on}
use Rattle.pool_model.specs.Calls as event_end
use Rattle.errand_steps.specs.declared.reply.Begun.TheVariants as begun
use Rattle.errand_steps.specs.declared.reply.Progress.TheVariants as progress
use Rattle.errand_steps.specs.declared.reply.Reply.TheVariants as reply
use Rattle.errand_steps.specs.declared.told.Ending.TheVariants as ending
use Rattle.errand_steps.specs.declared.told.Stepped.TheVariants as stepped
use Rattle.errand_steps.specs.Told.{stepped_as}
use Rattle.trace_lane.specs.Advances.{IsBefore, IsComing, IsTold, KeepsLane, MayAnswer}
use Rattle.trace_lane.specs.declared.work.Work.TheVariants as serving
use Rattle.trace_lane.specs.Works.{calls_bound, calls_ended}
use Rattle.trace_lane.proofs.AdvanceLemmas.{Falls}
use Rattle.trace_lane.proofs.AnswerLemmas.{MayCall, alloc-not_begun, call-begun, goes-on as call-goes_on, settled-of}
use Rattle.trace_lane.proofs.CallerLemmas.{IsWay, Owns, answers-so, caller-laws, ends-called, in-begun, in-way, moment-from}
use Rattle.trace_lane.proofs.EndedLemmas.{lane-resting}
use Rattle.trace_lane.proofs.EachCall.{HoldsAll}
use Rattle.trace_lane.proofs.HoldsLemmas.{all-hold}
use Rattle.trace_lane.proofs.MadeLemmas.{all-made}
use Rattle.trace_lane.proofs.MakingLemmas.{IsAtWork, comes-making, empty, making-work}
use Rattle.trace_lane.proofs.NeedLemmas.{here-below, left-ends, left-rises}
use Rattle.trace_lane.proofs.OwnLemmas.{empty-holds}
use Rattle.trace_lane.proofs.WorkLemmas.{IsWorking, doing-works, few-held, works-begun}

-- what a caller owns it owns still, whatever others did
pub owns-beside :
    (g : Geometry) (caller : ℕ) (before after : List Event) (call : Call) → HasSeenMore caller before after → IsLegal g after
    → OwnsFor before caller call → OwnsFor after caller call
owns-beside g caller before after (free place need) seen legal owned =
    owns-on g caller place need before after [] legal (seen.more, seen.seen, seen.not_own) tt owned
owns-beside g caller before after (write place need i v) seen legal owned =
    owns-on g caller place need before after [] legal (seen.more, seen.seen, seen.not_own) tt owned
owns-beside g caller before after (read place need i) seen legal owned =
    owns-on g caller place need before after [] legal (seen.more, seen.seen, seen.not_own) tt owned
owns-beside g caller before after (put place need shelf) seen legal owned =
    owns-on g caller place need before after [] legal (seen.more, seen.seen, seen.not_own) tt owned
owns-beside g caller before after call seen legal owned = tt

-- a call that begins started
may-begin :
    (e : ErrandFields) (events : List Event) (call : Call) → begin_answer e call ≡ begun.Started → OwnsFor events e.caller call → MayCall e events call
may-begin e events (alloc words) started owned = started
may-begin e events (take shelf) started owned = tt
may-begin e events call started owned = owned

-- only an allocation finds no turn left
spent-alloc :
    (e : ErrandFields) (call : Call) → begin_answer e call ≡ begun.Spent → (words : ℕ) × (call ≡ alloc words) × (alloc_answer e words ≡ begun.Spent)
spent-alloc e (alloc words) spent = (words, refl, spent)
spent-alloc e call spent = absurd (cc)

-- a take that missed has added nothing
missed-none :
    (caller shelf expected found : ℕ) (added : List Event) → HasEnded caller (take shelf) (reply.Missed expected found) added → added ≡ []
missed-none caller shelf expected found added h =
    let is : Some event_end.take_missed ≡ Some h.ended.0 = h.ended.1 in
    let same : h.ended.0 ≡ event_end.take_missed = cc in
    subst (λ (x : Ended). EventsOf caller x added) same h.ended.2

-- an allocation is the first call of its request
alloc-few : (at : Work HeldBlock) (words : ℕ) → call_in at ≡ alloc words → calls_ended at < calls_bound
alloc-few (serving.Filling held v next) words is = absurd (cc)
alloc-few (serving.Summing held next total) words is = absurd (cc)
alloc-few (serving.Reading from to next) words is = absurd (cc)
alloc-few (serving.Writing from to next word) words is = absurd (cc)
alloc-few at words is = omega arith

-- a step that ended no call
undone-so :
    {B : Type 0} (place_of : B → ℕ) (block_need : B → Need) (told : Stepped B) → ((ended : Ending B) → told ≡ stepped.Done ended → ⊥) → (r : Reply)
    → stepped_as place_of block_need told ≡ progress.Done r → ⊥
undone-so place_of block_need (stepped.Done ended) undone r is = undone ended refl
undone-so place_of block_need told undone r is = cc

module _ {B : Type 0} (engine : Engine B) where
  abbrev pub g : Geometry
  g = engine.geometry

  abbrev pub blocks : LaneState B → List (Option HeldBlock)
  blocks lane = registers_at engine lane.registers.items

  abbrev pub works : LaneState B → Option (Work HeldBlock)
  works lane = work_at engine lane.work

  -- a lane that has kept its room, with what it has made and where its caller stands
  lane-stands :
      (operations : List Op) (old new : LaneState B) (made : List Made) (under : Option Call) (calls : List Call) (f : ErrandFields) (sight : List Event)
      → length operations ≤ vec_capacity old.outcomes → length old.registers.items ≡ REGISTERS → KeepsLane engine.place_of engine.need_of old new
      → IsMaking operations (blocks new) new.outcomes.items (works new) made under → calls ≡ calls_made made ++ calls_in under
      → StandsBy g old.caller made under (record { errand = f; seen = sight }) → HasSeenMore old.caller sight engine.events
      → IsLaneOf (record engine { errand = f }) operations new calls
  lane-stands operations old new made under calls f sight room size keeps making are stands more = record {
    stands = record {
      made = made;
      under = under;
      making = making;
      begun = are;
      sight = sight;
      stands = subst (λ k. StandsBy g k made under (record { errand = f; seen = sight })) (sym keeps.caller) stands;
      more = subst (λ k. HasSeenMore k sight engine.events) (sym keeps.caller) more;
    };
    size = keeps.size ∙ size;
    room = subst (λ n. length operations ≤ n) (sym keeps.room) room;
  }

  -- what the operation at hand comes to, from the registers behind those before it
  abbrev Comes : List Op → Op → LaneState B → List Made → Option NextCall → LaneState B → Type 0
  Comes operations operation old made next new =
      ComesTo engine.place_of engine.need_of operation (registers_from empty operations old.outcomes.items) old.outcomes.items made next new

  module _ (operations : List Op) (operation : Op) (old new : LaneState B) (present : List Made) (again : Type 0)
      (here : IsAtHand operations old.outcomes.items operation) where
    -- one operation more has begun
    count-so : (next : Option NextCall) → Comes operations operation old present next new → begun_count new.outcomes.items new.work ≡ length old.outcomes.items + 1
    count-so (Some call) (same, at, at_is, doing, is) =
        let some = works-begun engine.place_of engine.need_of new.work at at_is in ap (λ os. begun_count os new.work) same ∙ omega (arith, some)
    count-so None (result, outcomes, between, for, registers) =
        let longer = length-append old.outcomes.items (result ∷ []) in
        ap (λ os. begun_count os new.work) outcomes ∙ ap (λ at. begun_count (old.outcomes.items ++ result ∷ []) at) between ∙ omega (arith, longer)

    -- less is left of the script, but where the operation stays where it is
    falls-so :
        (next : Option NextCall) → Comes operations operation old present next new → work_begun old.work < begun_bound
        → ((call : NextCall) → next ≡ Some call → (work_begun old.work < work_begun new.work) ⊎ ((new.work ≡ old.work) × again))
        → Falls operations old new ⊎ ((new.outcomes.items ≡ old.outcomes.items) × (new.work ≡ old.work) × again)
    falls-so (Some call) (same, at, at_is, doing, is) few goes =
        elim (goes call refl) [
          | inl rises ↦ inl
              (subst (λ os. script_left operations os new.work < script_left operations old.outcomes.items old.work) (sym same)
              (left-rises operations here.0 old.outcomes.items operation old.work new.work here.1 rises few))
          | inr stays ↦ inr (same, stays.0, stays.1)
        ]
    falls-so None (result, outcomes, between, for, registers) few goes =
        inl
        (subst (λ os. script_left operations os new.work < script_left operations old.outcomes.items old.work) (sym outcomes)
        (subst (λ to. script_left operations (old.outcomes.items ++ result ∷ []) to < script_left operations old.outcomes.items old.work) (sym between)
        (left-ends operations here.0 old.outcomes.items operation result old.work here.1 few)))

  -- the registers hold blocks of the caller's between two operations
  holds-between :
      (operations : List Op) (results : List Outcome) (caller : ℕ) (made : List Made) (c : Caller)
      → LeadsBy (IsCall g) (new_caller caller g) made c → AllMadeFor empty operations results made
      → HoldsAll Owns c (registers_from empty operations results)
  holds-between operations results caller made c leads all =
      all-hold (caller-laws g) (new_caller caller g) c empty operations results (empty-holds (Owns (new_caller caller g)))
      (all-made (IsCall g) empty operations results made (new_caller caller g) c all leads)

  module _ {seen : List Event} {e : ErrandFields} {operation : Op} {next : Option NextCall} {operations : List Op} {calls : List Call} {old mid : LaneState B}
      (k : IsComing engine seen e operation next operations calls old mid) where
    abbrev now : Caller
    now = record { errand = engine.errand; seen = k.sight }

    abbrev before : List (Option HeldBlock)
    before = registers_from empty operations old.outcomes.items

    -- it has gone on, where its caller has made these calls and is in the next one
    comes-on :
        (to : Option NextCall) (new : LaneState B) (present : List Made) (begun : Option Call) (f : ErrandFields) → Comes operations operation old present to new
        → KeepsLane engine.place_of engine.need_of old new
        → StandsBy g old.caller (k.past ++ present) (option_map call_of to) (record { errand = f; seen = k.sight })
        → calls ++ calls_in begun ≡ calls_made (k.past ++ present) ++ calls_in (option_map call_of to)
        → ((call : NextCall) → to ≡ Some call
        → (work_begun old.work < work_begun new.work) ⊎ ((new.work ≡ old.work) × IsAgain old.caller seen e engine.events begun))
        → HasGoneOn (record engine { errand = f }) seen e begun operations calls old new
    comes-on to new present begun f comes keeps stands are goes = record {
      stands =
          lane-stands operations old new (k.past ++ present) (option_map call_of to) (calls ++ calls_in begun) f k.sight k.room k.size keeps
          (comes-making engine.place_of engine.need_of operations old.outcomes.items operation k.past present to new k.here k.ended comes) are stands k.others;
      falls = falls-so operations operation old new present (IsAgain old.caller seen e engine.events begun) k.here to comes k.few goes;
      count = count-so operations operation old new present (IsAgain old.caller seen e engine.events begun) k.here to comes;
    }

    -- the operation has its outcome
    pub coming-none : next ≡ None → HasGoneOn engine seen e None operations calls old mid
    coming-none none =
        comes-on None mid k.present None engine.errand (subst (λ n. Comes operations operation old k.present n mid) none k.comes) k.keeps (k.leads, k.rests)
        (ap (λ cs. cs ++ []) k.begun) (λ call is. absurd (cc))

    module _ (call : NextCall) (is_next : next ≡ Some call) where
      comes-some : Comes operations operation old k.present (Some call) mid
      comes-some = subst (λ n. Comes operations operation old k.present n mid) is_next k.comes

      -- its next call may begin
      pub record MayBeginNow : Type 0 where
        pub idle : IsIdle engine.errand
        pub sight_owned : OwnsFor k.sight engine.errand.caller (call_of call)
        pub owned : OwnsFor engine.events old.caller (call_of call)
        pub fits : FitsCall (call_of call)

      pub coming-may : IsOp operation → MayBeginNow
      coming-may is_op =
          let (same, at, at_is, doing, is) = comes-some in
          let parts = leads-split (IsCall g) (new_caller old.caller g) now k.past k.present k.leads in
          let holds = holds-between operations old.outcomes.items old.caller k.past parts.0 parts.1 k.ended in
          let works = doing-works g before (blocks mid) parts.0 now holds operation at k.present is_op doing parts.2 k.rests.served.legal in
          let owned_call = subst (λ c. OwnsFor k.sight engine.errand.caller c) (sym is) works.owned in
          record {
            idle = k.rests.idle;
            sight_owned = owned_call;
            owned =
                owns-beside g old.caller k.sight engine.events (call_of call) k.others k.served.legal
                (subst (λ n. OwnsFor k.sight n (call_of call)) k.served.own_errand.number owned_call);
            fits = subst FitsCall (sym is) works.fits;
          }

      -- its next call has begun
      pub coming-call :
          MayBeginNow → begin_answer engine.errand (call_of call) ≡ begun.Started
          → HasGoneOn (record engine { errand = begun_by engine.errand (call_of call) }) seen e (Some (call_of call)) operations calls old mid
      coming-call may started =
          let begun_so =
          call-begun g engine.errand.caller engine.errand k.sight (call_of call) k.rests.served k.rests.idle
          (may-begin engine.errand k.sight (call_of call) started may.sight_owned) in
          comes-on (Some call) mid k.present (Some (call_of call)) (begun_by engine.errand (call_of call)) comes-some k.keeps
          (now, k.leads, k.rests, may.sight_owned, record { steps = 0; on = refl; busy = begun_so.busy }) (ap (λ cs. cs ++ call_of call ∷ []) k.begun)
          (λ other is. k.rises call is_next)

      -- its allocation found no turn left: that may be answered, and has been
      module _ (is_spent : begin_answer engine.errand (call_of call) ≡ begun.Spent) where
        spent-so : AnswersCall engine.place_of engine.need_of (call_in comes-some.1) ending.Spent × (calls_ended comes-some.1 < calls_bound)
        spent-so =
            let (words, is_alloc, spent) = spent-alloc engine.errand (call_of call) is_spent in
            let here : call_in comes-some.1 ≡ alloc words = sym comes-some.4 ∙ is_alloc in
            (subst (λ c. AnswersCall engine.place_of engine.need_of c ending.Spent) (sym here) tt, alloc-few comes-some.1 words here)

        pub spent-may : MayAnswer engine.place_of engine.need_of operation ending.Spent mid
        spent-may = record {
          before = before;
          made = k.present;
          at = comes-some.1;
          at_is = comes-some.2;
          doing = comes-some.3;
          answers = spent-so.0;
          few = spent-so.1;
        }

        pub coming-room : length mid.outcomes.items < vec_capacity mid.outcomes
        coming-room =
            let below = here-below operations k.here.0 old.outcomes.items operation k.here.1 in
            let same = ap length comes-some.0 in
            let most = k.room in
            let room = k.keeps.room in
            omega (arith, below, same, most, room)

        pub coming-spent :
            (new : LaneState B) (to : Option NextCall) → MayBeginNow → HasAnswered engine.place_of engine.need_of operation ending.Spent mid to new
            → HasGoneOn (record engine { errand = begun_by engine.errand (call_of call) }) seen e (Some (call_of call)) operations calls old new
        coming-spent new to may answers =
            let (words, is_alloc, spent) = spent-alloc engine.errand (call_of call) is_spent in
            let (same, at, at_is, doing, is) = comes-some in
            let one : Made = answered (call_of call) reply.Spent in
            let comes : Comes operations operation old (k.present ++ one ∷ []) None new =
            subst (λ c. Comes operations operation old (k.present ++ answered c reply.Spent ∷ []) None new) (sym is)
            (subst (λ os. ComesTo engine.place_of engine.need_of operation before os (k.present ++ answered (call_in at) reply.Spent ∷ []) None new) same
            (subst (λ n. ComesTo engine.place_of engine.need_of operation before mid.outcomes.items (k.present ++ answered (call_in at) reply.Spent ∷ []) n new)
            (answers.over refl) (answers.comes before k.present at at_is doing))) in
            let keeps : KeepsLane engine.place_of engine.need_of old new = record {
              caller = answers.keeps.caller ∙ k.keeps.caller;
              size = answers.keeps.size ∙ k.keeps.size;
              room = answers.keeps.room ∙ k.keeps.room;
            } in
            let unchanged : begun_by engine.errand (call_of call) ≡ engine.errand =
            ap (begun_by engine.errand) is_alloc ∙ (alloc-not_begun engine.errand words spent).same in
            let call_made : IsCall g now (call_of call) reply.Spent now =
            record { rested = k.rests; made = at_once words is_alloc refl spent refl; owned = may.sight_owned; rests = k.rests } in
            let leads = leads-more (IsCall g) (new_caller old.caller g) now now (k.past ++ k.present) (call_of call) reply.Spent k.leads call_made in
            subst (λ f. HasGoneOn (record engine { errand = f }) seen e (Some (call_of call)) operations calls old new) (sym unchanged)
            (comes-on None new (k.present ++ one ∷ []) (Some (call_of call)) engine.errand comes keeps
            (subst (λ ms. LeadsBy (IsCall g) (new_caller old.caller g) ms now) (append_assoc k.past k.present (one ∷ [])) leads, k.rests)
            (ap (λ cs. cs ++ call_of call ∷ []) k.begun ∙ sym (map-append (λ (m : Made). m.call) (k.past ++ k.present) (one ∷ []))
            ∙ ap calls_made (append_assoc k.past k.present (one ∷ [])) ∙ sym (append-nil (calls_made (k.past ++ (k.present ++ one ∷ []))))) (λ other none. absurd (cc)))

  -- an operation that begins comes to its first call, or to its outcome
  pub begins-coming :
      {operation : Op} {next : Option NextCall} {operations : List Op} {calls : List Call} {lane new : LaneState B} (seen : List Event) (e : ErrandFields)
      → IsBefore engine operation operations calls lane → HasBegun engine.place_of engine.need_of operation lane next new
      → IsComing engine seen e operation next operations calls lane new
  begins-coming {operation = operation} {next = next} {operations = operations} {lane = lane} {new = new} seen e b h =
      let resting = lane-resting b.stands.stands (ap (work_at engine) b.between) in
      let nothing = append-nil resting.made in
      let comes : Comes operations operation lane [] next new =
      subst (λ rs. ComesTo engine.place_of engine.need_of operation rs lane.outcomes.items [] next new) resting.registers_are h.comes in
      record {
        here = b.next;
        past = resting.made;
        present = [];
        ended = resting.all;
        comes = comes;
        keeps = h.keeps;
        sight = resting.sight;
        leads =
            subst (λ ms. LeadsBy (IsCall g) (new_caller lane.caller g) ms (record { errand = engine.errand; seen = resting.sight })) (sym nothing)
            resting.leads;
        rests = resting.rests;
        others = resting.others;
        served = b.served;
        begun = resting.calls_are ∙ ap calls_made (sym nothing);
        few = subst (λ at. work_begun at < begun_bound) (sym b.between) (omega arith);
        rises = λ call is.
            let first = subst (λ n. Comes operations operation lane [] n new) is comes in
            inl (subst (λ at. work_begun at < work_begun new.work) (sym b.between) (works-begun engine.place_of engine.need_of new.work first.1 first.2));
        size = b.stands.size;
        room = b.stands.room;
      }

  -- a step of the operation's call was made
  module _ {operation : Op} {told : Stepped B} {seen : List Event} {e : ErrandFields} {operations : List Op} {calls : List Call} {lane : LaneState B}
      (t : IsTold engine operation told seen e operations calls lane) where
    abbrev pub told-stands : IsLane g lane.caller seen e operations (blocks lane) lane.outcomes.items (works lane) calls
    told-stands = t.stood.stands

    told-number : e.caller ≡ lane.caller
    told-number = t.served.own_errand.number

    told-busy : IsBusy e
    told-busy = (settled-of e engine.errand seen engine.events _ t.stepped.moment).busy

    abbrev pub before-step : Caller
    before-step = record { errand = e; seen = told-stands.sight }

    abbrev pub after-step : Caller
    after-step = record { errand = engine.errand; seen = engine.events }

    -- the call that is under way, and what was made before it
    pub record IsCalling : Type 0 where
      pub call : Call
      pub under : told-stands.under ≡ Some call
      pub last : Caller
      pub leads : LeadsBy (IsCall g) (new_caller lane.caller g) told-stands.made last
      pub rests : IsAtRest g last
      pub owned : OwnsFor last.seen last.errand.caller call
      pub is_in : IsIn last call before-step

    calling-by : (under : Option Call) → told-stands.under ≡ under → StandsBy g lane.caller told-stands.made under before-step → IsCalling
    calling-by None is so = absurd (let both : true ≡ false = sym so.1.idle ∙ told-busy in cc)
    calling-by (Some call) is (last, leads, rests, owned, is_in) =
        record { call = call; under = is; last = last; leads = leads; rests = rests; owned = owned; is_in = is_in }

    pub calling : IsCalling
    calling = calling-by told-stands.under refl told-stands.stands

    pub work : IsAtWork operations (blocks lane) lane.outcomes.items operation (works lane) told-stands.made told-stands.under
    work =
        making-work operations (blocks lane) lane.outcomes.items (works lane) told-stands.made told-stands.under operation t.next
        (λ none. let both : Some calling.call ≡ None = sym calling.under ∙ none in cc) told-stands.making

    abbrev pub here : Call
    here = call_in work.work

    call-is : calling.call ≡ here
    call-is = let both : Some calling.call ≡ Some here = sym calling.under ∙ work.call in cc

    way : IsWay calling.last calling.call before-step
    way = in-way calling.last calling.call (in-begun g calling.last before-step calling.call calling.rests calling.owned calling.is_in) before-step calling.is_in

    -- the step, from where the caller stood
    step-from : (answer : Progress) → IsMoment e engine.errand seen engine.events answer → IsMoment e engine.errand told-stands.sight engine.events answer
    step-from answer m =
        moment-from e engine.errand told-stands.sight seen engine.events answer
        (subst (λ k. HasSeenMore k told-stands.sight seen) (sym told-number) told-stands.more) m

    -- the call goes on, and nothing changes
    pub told-stays :
        ((ended : Ending B) → told ≡ stepped.Done ended → ⊥)
        → HasGoneOn engine seen e None operations calls lane lane
    told-stays undone =
        let m = step-from (stepped_as engine.place_of engine.need_of told) t.stepped.moment in
        let goes =
        call-goes_on e engine.errand calling.call told-stands.sight engine.events way.added (stepped_as engine.place_of engine.need_of told)
        (λ r is. undone-so engine.place_of engine.need_of told undone r is) m way.under_way in
        let now_in : IsIn calling.last calling.call after-step = record {
          steps = suc calling.is_in.steps;
          on = (before-step, stepped_as engine.place_of engine.need_of told, calling.is_in.on, m, goes.busy);
          busy = goes.busy;
        } in
        let some = works-begun engine.place_of engine.need_of lane.work work.work work.at_is in
        record {
          stands =
              lane-stands operations lane lane told-stands.made (Some calling.call) (calls ++ []) engine.errand engine.events t.stood.room t.stood.size
              (record { caller = refl; size = refl; room = refl })
              (subst (λ u. IsMaking operations (blocks lane) lane.outcomes.items (works lane) told-stands.made u) calling.under told-stands.making)
              (append-nil calls ∙ told-stands.begun ∙ ap (λ u. calls_made told-stands.made ++ calls_in u) calling.under)
              (calling.last, calling.leads, calling.rests, calling.owned, now_in) (same-seen lane.caller engine.events engine.events refl);
          falls = inr (refl, refl, inl refl);
          count = omega (arith, some);
        }

    -- the call has ended
    module _ (ended : Ending B) (done : told ≡ stepped.Done ended) where
      abbrev pub answer : Reply
      answer = ended_as engine.place_of engine.need_of ended

      done-step : HasStepped engine.place_of engine.need_of e engine.errand seen engine.events (stepped.Done ended)
      done-step = subst (λ x. HasStepped engine.place_of engine.need_of e engine.errand seen engine.events x) done t.stepped

      done-from : HasStepped engine.place_of engine.need_of e engine.errand told-stands.sight engine.events (stepped.Done ended)
      done-from = record { moment = step-from (progress.Done answer) done-step.moment; back = done-step.back }

      done-idle : IsIdle engine.errand
      done-idle =
          let s = settled-of e engine.errand seen engine.events (progress.Done answer) done-step.moment in
          subst IsIdle (sym s.settled) ((done-told e s.x s.busy).1 (answer, sym s.answers))

      rests-after : IsAtRest g after-step
      rests-after = record {
        served = subst (λ k. IsServed g k engine.errand engine.events) (sym t.still_served.own_errand.number) t.still_served;
        idle = done-idle;
      }

      call-ended : IsCall g calling.last calling.call answer after-step
      call-ended = record {
        rested = calling.rests;
        made = by_steps (record { last = before-step; in_call = calling.is_in; moment = done-from.moment });
        owned = calling.owned;
        rests = rests-after;
      }

      leads-after : LeadsBy (IsCall g) (new_caller lane.caller g) (told-stands.made ++ answered calling.call answer ∷ []) after-step
      leads-after =
          leads-more (IsCall g) (new_caller lane.caller g) calling.last after-step told-stands.made calling.call answer calling.leads call-ended

      -- how many operations were made before, and the registers then
      past-leads : (s : Caller) × LeadsBy (IsCall g) (new_caller lane.caller g) work.past s × LeadsBy (IsCall g) s work.present calling.last
      past-leads =
          leads-split (IsCall g) (new_caller lane.caller g) calling.last work.past work.present
          (subst (λ ms. LeadsBy (IsCall g) (new_caller lane.caller g) ms calling.last) work.all calling.leads)

      holds-past : HoldsAll Owns past-leads.0 (registers_from empty operations lane.outcomes.items)
      holds-past = holds-between operations lane.outcomes.items lane.caller work.past past-leads.0 past-leads.1 work.ended

      works-here : IsOp operation → IsWorking calling.last.seen calling.last.errand.caller work.work
      works-here is_op =
          doing-works g (registers_from empty operations lane.outcomes.items) (blocks lane) past-leads.0 calling.last holds-past operation work.work
          work.present is_op work.doing past-leads.2 calling.rests.served.legal

      answers-here : IsOp operation → AnswersCall engine.place_of engine.need_of here ended
      answers-here is_op =
          subst (λ c. AnswersCall engine.place_of engine.need_of c ended) call-is
          (answers-so engine.place_of engine.need_of e engine.errand told-stands.sight engine.events way.added calling.call ended
          (subst FitsCall (sym call-is) (works-here is_op).fits) way.under_way done-from)

      pub told-may : IsOp operation → MayAnswer engine.place_of engine.need_of operation ended lane
      told-may is_op = record {
        before = registers_from empty operations lane.outcomes.items;
        made = work.present;
        at = work.work;
        at_is = work.at_is;
        doing = work.doing;
        answers = answers-here is_op;
        few = (works-here is_op).few;
      }

      abbrev pub present-after : List Made
      present-after = work.present ++ answered here answer ∷ []

      made-after : told-stands.made ++ answered calling.call answer ∷ [] ≡ work.past ++ present-after
      made-after =
          ap (λ ms. ms ++ answered calling.call answer ∷ []) work.all ∙ append_assoc work.past work.present (answered calling.call answer ∷ [])
          ∙ ap (λ c. work.past ++ (work.present ++ answered c answer ∷ [])) call-is

      comes :
          (next : Option NextCall) (new : LaneState B) → HasAnswered engine.place_of engine.need_of operation ended lane next new → Comes operations operation lane present-after next new
      comes next new answers = answers.comes (registers_from empty operations lane.outcomes.items) work.present work.work work.at_is work.doing

      -- a take that is tried again was missed, and has added no event
      again-missed :
          (shelf expected found : ℕ) → lane.work ≡ Some (serving.Taking shelf) → answer ≡ reply.Missed expected found
          → (own lane.caller engine.events ≡ own lane.caller seen) × IsUnderWay lane.caller (take shelf) e.point []
      again-missed shelf expected found at_was missed =
          let same : work.work ≡ serving.Taking shelf =
          let both : Some work.work ≡ Some (serving.Taking shelf) = sym work.at_is ∙ ap (work_at engine) at_was in cc in
          let call_take : calling.call ≡ take shelf = call-is ∙ ap call_in same in
          let under : IsUnderWay e.caller (take shelf) e.point way.added = subst (λ c. IsUnderWay e.caller c e.point way.added) call_take way.under_way in
          let none : way.added ≡ [] = take-none e.caller shelf (stage_of e.point) way.added under in
          let h = ends-called g calling.last after-step calling.call answer calling.rests calling.owned
          (record { last = before-step; in_call = calling.is_in; moment = done-from.moment }) in
          let ended_so : HasEnded calling.last.errand.caller (take shelf) (reply.Missed expected found) h.added =
          subst (λ c. HasEnded calling.last.errand.caller c (reply.Missed expected found) h.added) call_take
          (subst (λ r. HasEnded calling.last.errand.caller calling.call r h.added) missed h.ended) in
          let none_too : h.added ≡ [] = missed-none calling.last.errand.caller shelf expected found h.added ended_so in
          let last_number : calling.last.errand.caller ≡ lane.caller = sym way.moved.same_caller ∙ told-number in
          let own_sight : own lane.caller told-stands.sight ≡ own lane.caller calling.last.seen =
          subst (λ k. own k told-stands.sight ≡ own k calling.last.seen) last_number
          (way.moved.own_events ∙ ap (λ xs. own calling.last.errand.caller calling.last.seen ++ xs) none
          ∙ append-nil (own calling.last.errand.caller calling.last.seen)) in
          let own_now : own lane.caller engine.events ≡ own lane.caller calling.last.seen =
          subst (λ k. own k engine.events ≡ own k calling.last.seen) last_number
          (h.moved.own_events ∙ ap (λ xs. own calling.last.errand.caller calling.last.seen ++ xs) none_too
          ∙ append-nil (own calling.last.errand.caller calling.last.seen)) in
          let own_seen : own lane.caller seen ≡ own lane.caller told-stands.sight =
          ap (own lane.caller) told-stands.more.seen ∙ own-append lane.caller told-stands.sight told-stands.more.more
          ∙ ap (λ xs. own lane.caller told-stands.sight ++ xs) told-stands.more.not_own ∙ append-nil (own lane.caller told-stands.sight) in (
            own_now ∙ sym own_sight ∙ sym own_seen,
            subst (λ k. IsUnderWay k (take shelf) e.point []) told-number (subst (λ xs. IsUnderWay e.caller (take shelf) e.point xs) none under),
          )

      -- an operation whose call has ended comes to its next call, or to its outcome
      pub told-coming :
          (next : Option NextCall) (new : LaneState B) → IsOp operation → HasAnswered engine.place_of engine.need_of operation ended lane next new
          → IsComing engine seen e operation next operations calls lane new
      told-coming next new is_op answers = record {
        here = t.next;
        past = work.past;
        present = present-after;
        ended = work.ended;
        comes = comes next new answers;
        keeps = answers.keeps;
        sight = engine.events;
        leads = subst (λ ms. LeadsBy (IsCall g) (new_caller lane.caller g) ms after-step) made-after leads-after;
        rests = rests-after;
        others = same-seen lane.caller engine.events engine.events refl;
        served = t.still_served;
        begun =
            told-stands.begun ∙ ap (λ u. calls_made told-stands.made ++ calls_in u) calling.under
            ∙ sym (map-append (λ (m : Made). m.call) told-stands.made (answered calling.call answer ∷ [])) ∙ ap calls_made made-after;
        few = few-held engine.place_of engine.need_of lane.work work.work work.at_is (works-here is_op).few;
        rises = λ call is.
            let so = subst (λ n. HasAnswered engine.place_of engine.need_of operation ended lane n new) is answers in
            elim so.further [
              | inl rises ↦ inl rises
              | inr (shelf, is_take, was, now, expected, found, missed) ↦
                  let so_far = again-missed shelf expected found was missed in
                  inr (now ∙ sym was, inr (shelf, ap Some is_take, so_far.0, so_far.1))
            ];
        size = t.stood.size;
        room = t.stood.room;
      }
