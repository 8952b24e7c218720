-- What the whole calls of a caller add to its events, and what they leave it.
use Rattle.std.proofs.Common.{ℕ, Some, zero, suc, true, false, ◌≡◌, ◌≢◌, ◌∷◌, ◌++◌, List, [], refl, sym, ap, ◌∙◌, subst, arith, append_assoc, append-nil}
use Rattle.trace_lane.proofs.Common.{Geometry, Need, Event, Ended, EventsOf, IsBusy, IsIdle, Call, ErrandFields, Progress, Reply, Ending, HasEnded, LeadsBy, Made}
use Rattle.trace_lane.proofs.Common.{IsUnderWay, HasSeenMore, IsMoment, HasStepped, KeepBlocks, AnswersCall, OwnsAfter, Hands, LeavesPlace, EndsCall, IsIn, Caller}
use Rattle.trace_lane.proofs.Common.{FitsCall, IsAtRest, IsCall, MadeBy, OwnsFor, alloc_answer, alloc, free, write, read, put, take, begun_by, own}
use Rattle.trace_lane.proofs.Common.{own-append, ended_as, done-told, spent-begins, event_of, with_event, begun_at, at_once, by_steps, owns-on}
use Rattle.pool_model.specs.Calls as ended
use Rattle.errand_steps.specs.declared.reply.Begun.{Begun}
use Rattle.errand_steps.specs.declared.reply.Begun.TheVariants as begun
use Rattle.errand_steps.specs.declared.reply.Progress.TheVariants as progress
use Rattle.errand_steps.specs.declared.reply.Reply.TheVariants as reply
use Rattle.errand_steps.specs.declared.told.Ending.TheVariants as ending
use Rattle.errand_steps.specs.declared.told.Stepped.TheVariants as stepped
use Rattle.sound_laws.proofs.events_lemmas.BeginsLemmas.{too_large-stays}
use Rattle.step_machine.proofs.MomentAnswers.{moment-given, moment-got}
use Rattle.lane_engine.specs.Callers.{StepsOn}
use Rattle.trace_lane.proofs.AnswerLemmas.{HasBegun, HasMovedOn, MayCall, ends-full, ends-given, ends-not, behind, call-begun, goes-on as call-goes_on, has-ended, moved-on, settled-of}
use Rattle.step_machine.proofs.ApartLemmas.{ended-spares, given-apart, got-apart}

-- a step of a caller is one from where it stood earlier, whatever others did in between
pub moment-from :
    (e f : ErrandFields) (before mid after : List Event) (answer : Progress) → HasSeenMore e.caller before mid → IsMoment e f mid after answer
    → IsMoment e f before after answer
moment-from e f before mid after answer more m = record {
  has = m.has;
  state = m.state;
  next = m.next;
  between = more.more ++ m.between;
  made = m.made;
  reached = m.reached;
  sound = m.sound;
  here = m.here;
  step = m.step;
  there = m.there;
  not_own = own-append e.caller more.more m.between ∙ ap (λ xs. xs ++ own e.caller m.between) more.not_own ∙ m.not_own;
  seen = m.seen ∙ ap (λ xs. xs ++ m.between) more.seen ∙ append_assoc before more.more m.between;
  now = m.now;
  answers = m.answers;
}

-- a caller moves on with no event, and with those of one part behind the other
pub moved-none : (e : ErrandFields) (events : List Event) → HasMovedOn e e events events []
moved-none e events = record {
  rest = [];
  seen = sym (append-nil events);
  own_rest = refl;
  own_events = sym (append-nil (own e.caller events));
  same_caller = refl;
  same_geometry = refl;
  lost = omega arith;
  at_limit = λ is. is;
}

pub moved-then :
    (e f h : ErrandFields) (before mid after one two : List Event) → HasMovedOn e f before mid one → HasMovedOn f h mid after two
    → HasMovedOn e h before after (one ++ two)
moved-then e f h before mid after one two a b =
    let own_b : own e.caller b.rest ≡ two = subst (λ c. own c b.rest ≡ two) a.same_caller b.own_rest in
    let own_rest : own e.caller (a.rest ++ b.rest) ≡ one ++ two =
    own-append e.caller a.rest b.rest ∙ ap (λ xs. xs ++ own e.caller b.rest) a.own_rest ∙ ap (λ xs. one ++ xs) own_b in
    let seen : after ≡ before ++ (a.rest ++ b.rest) = b.seen ∙ ap (λ xs. xs ++ b.rest) a.seen ∙ append_assoc before a.rest b.rest in
    record {
      rest = a.rest ++ b.rest;
      seen = seen;
      own_rest = own_rest;
      own_events =
          ap (own e.caller) seen ∙ own-append e.caller before (a.rest ++ b.rest) ∙ ap (λ xs. own e.caller before ++ xs) own_rest;
      same_caller = b.same_caller ∙ a.same_caller;
      same_geometry = b.same_geometry ∙ a.same_geometry;
      lost = omega (arith, a.lost, b.lost);
      at_limit = λ is.
          subst (λ (g : Geometry). h.turns ≡ g.turn_limit) a.same_geometry
          (b.at_limit (a.at_limit is ∙ ap (λ (g : Geometry). g.turn_limit) (sym a.same_geometry)));
    }

moved-begun : (e f : ErrandFields) (call : Call) (events : List Event) → HasBegun e f call → HasMovedOn e f events events []
moved-begun e f call events b = record {
  rest = [];
  seen = sym (append-nil events);
  own_rest = refl;
  own_events = sym (append-nil (own e.caller events));
  same_caller = b.kept.same_caller;
  same_geometry = b.kept.same_geometry;
  lost = let same = b.kept.lost in omega (arith, same);
  at_limit = b.kept.at_limit;
}

busy-not_idle : (e : ErrandFields) → IsIdle e → IsBusy e → ⊥
busy-not_idle e idle busy = let both : true ≡ false = sym idle ∙ busy in cc

-- who is in a call still has no answer that ends it
not-done :
    (e f : ErrandFields) (before after : List Event) (answer : Progress) → IsMoment e f before after answer → IsBusy f → (r : Reply) → answer ≡ progress.Done r
    → ⊥
not-done e f before after answer m busy r is =
    let s = settled-of e f before after answer m in
    busy-not_idle f (subst IsIdle (sym s.settled) ((done-told e s.x s.busy).1 (r, sym s.answers ∙ is))) busy

-- a call of a caller is under way, and these are the caller's events since it stood before the call
pub record IsWay (c : Caller) (call : Call) (d : Caller) : Type 0 where
  pub added : List Event
  pub moved : HasMovedOn c.errand d.errand c.seen d.seen added
  pub under_way : IsUnderWay d.errand.caller call d.errand.point added

module _ (c : Caller) (call : Call) (begins : HasBegun c.errand (begun_by c.errand call) call) where
  way-first : IsWay c call (begun_at c call)
  way-first = record {
    added = [];
    moved = moved-begun c.errand (begun_by c.errand call) call c.seen begins;
    under_way = subst (λ k. IsUnderWay k call (begun_by c.errand call).point []) (sym begins.kept.same_caller) begins.under_way;
  }

  way-step :
      (last d : Caller) (answer : Progress) → IsWay c call last → IsMoment last.errand d.errand last.seen d.seen answer → IsBusy d.errand → IsWay c call d
  way-step last d answer w m busy =
      let goes =
      call-goes_on last.errand d.errand call last.seen d.seen w.added answer (not-done last.errand d.errand last.seen d.seen answer m busy) m
      w.under_way in
      record {
        added = w.added ++ goes.more;
        moved = moved-then c.errand last.errand d.errand c.seen last.seen d.seen w.added goes.more w.moved goes.moved_on;
        under_way = subst (λ k. IsUnderWay k call d.errand.point (w.added ++ goes.more)) (sym goes.moved_on.same_caller) goes.under_way;
      }

  way-steps : (steps : ℕ) (d : Caller) → StepsOn (begun_at c call) steps d → IsWay c call d
  way-steps zero d same = subst (λ x. IsWay c call x) (sym same) way-first
  way-steps (suc steps) d (last, answer, on, moment, busy) = way-step last d answer (way-steps steps last on) moment busy

  pub in-way : (d : Caller) → IsIn c call d → IsWay c call d
  in-way d is = way-steps is.steps d is.on

-- a call that has made steps had begun
pub steps-busy : (steps : ℕ) (c d : Caller) → StepsOn c steps d → IsBusy d.errand → IsBusy c.errand
steps-busy zero c d same busy = subst (λ (x : Caller). IsBusy x.errand) same busy
steps-busy (suc steps) c d (last, answer, on, moment, more) busy =
    steps-busy steps c last on (settled-of last.errand d.errand last.seen d.seen answer moment).busy

answer-some : (answer : Begun) → (answer ≡ begun.TooLarge → ⊥) → (answer ≡ begun.Spent → ⊥) → answer ≡ begun.Started
answer-some begun.Started one two = refl
answer-some begun.TooLarge one two = absurd (one refl)
answer-some begun.Spent one two = absurd (two refl)

-- an allocation that is in its call had started
pub alloc-started : (e : ErrandFields) (words : ℕ) → IsIdle e → IsBusy (begun_by e (alloc words)) → alloc_answer e words ≡ begun.Started
alloc-started e words idle busy =
    answer-some (alloc_answer e words)
    (λ large. busy-not_idle e idle (subst IsBusy (too_large-stays e words large) busy))
    (λ spent. busy-not_idle e idle (subst IsBusy (spent-begins e words spent).0 busy))

may-call :
    (e : ErrandFields) (events : List Event) (call : Call) → IsIdle e → OwnsFor events e.caller call → IsBusy (begun_by e call) → MayCall e events call
may-call e events (alloc words) idle owned busy = alloc-started e words idle busy
may-call e events (take shelf) idle owned busy = tt
may-call e events call idle owned busy = owned

pub rest-begun :
    (g : Geometry) (c : Caller) (call : Call) → IsAtRest g c → OwnsFor c.seen c.errand.caller call → IsBusy (begun_by c.errand call)
    → HasBegun c.errand (begun_by c.errand call) call
rest-begun g c call rests owned busy =
    call-begun g c.errand.caller c.errand c.seen call rests.served rests.idle (may-call c.errand c.seen call rests.idle owned busy)

pub in-begun :
    (g : Geometry) (c d : Caller) (call : Call) → IsAtRest g c → OwnsFor c.seen c.errand.caller call → IsIn c call d
    → HasBegun c.errand (begun_by c.errand call) call
in-begun g c d call rests owned is = rest-begun g c call rests owned (steps-busy is.steps (begun_at c call) d is.on is.busy)

-- a call of a caller has ended, and these are the caller's events since it stood before the call
pub record HasCalled (c : Caller) (call : Call) (answer : Reply) (d : Caller) : Type 0 where
  pub added : List Event
  pub moved : HasMovedOn c.errand d.errand c.seen d.seen added
  pub ended : HasEnded c.errand.caller call answer added
  pub last : Caller
  pub way : IsWay c call last
  pub moment : IsMoment last.errand d.errand last.seen d.seen (progress.Done answer)

pub ends-called :
    (g : Geometry) (c d : Caller) (call : Call) (answer : Reply) → IsAtRest g c → OwnsFor c.seen c.errand.caller call → EndsCall c call answer d
    → HasCalled c call answer d
ends-called g c d call answer rests owned ends =
    let last = ends.last in
    let w = in-way c call (in-begun g c last call rests owned ends.in_call) last ends.in_call in
    let s = settled-of last.errand d.errand last.seen d.seen (progress.Done answer) ends.moment in
    let event = event_of last.errand.caller last.errand.point s.x in
    let more = moved-on last.errand d.errand last.seen d.seen (progress.Done answer) s in
    let ended = has-ended last.errand d.errand call last.seen d.seen w.added answer s w.under_way in
    let whole : with_event w.added event ≡ w.added ++ with_event [] event = behind w.added event in
    record {
      added = w.added ++ with_event [] event;
      moved = moved-then c.errand last.errand d.errand c.seen last.seen d.seen w.added (with_event [] event) w.moved more;
      ended =
          subst (λ k. HasEnded k call answer (w.added ++ with_event [] event)) w.moved.same_caller
          (subst (HasEnded last.errand.caller call answer) whole ended);
      last = last;
      way = w;
      moment = ends.moment;
    }

-- what a call that ends answers a lane
module _ {B : Type 0} (place_of : B → ℕ) (block_need : B → Need) (e f : ErrandFields) (before after added : List Event) where
  pub answers-so :
      (call : Call) (ended : Ending B) → FitsCall call → IsUnderWay e.caller call e.point added
      → HasStepped place_of block_need e f before after (stepped.Done ended) → AnswersCall place_of block_need call ended
  answers-so (alloc words) (ending.Given b) fits way step =
      (ends-given e f before after added words (place_of b) (block_need b) step.moment way).serves
  answers-so (alloc words) ending.Refused fits way step = tt
  answers-so (alloc words) ending.Spent fits way step = tt
  answers-so (free place need) ending.Freed fits way step = tt
  answers-so (write place need i v) ending.Wrote fits way step = fits
  answers-so (read place need i) (ending.Word word) fits way step = fits
  answers-so (put place need shelf) ending.Put fits way step = tt
  answers-so (put place need shelf) (ending.Full b found) fits way step =
      let told = ends-full e f before after added place need shelf found (place_of b) (block_need b) step.moment step.back way in
      (told.same_place, told.same_need)
  answers-so (take shelf) (ending.Got b) fits way step = tt
  answers-so (take shelf) ending.Empty fits way step = tt
  answers-so (take shelf) (ending.Missed expected found) fits way step = tt
  answers-so call ended fits way step =
      absurd (ends-not e f call before after added (ended_as place_of block_need ended) refl step.moment way)

-- what a caller owns
abbrev pub Owns : Caller → ℕ → Need → Type 0
Owns c place need = OwnsAfter c.seen c.errand.caller place need

module _ (g : Geometry) where
  -- whole calls leave their caller its blocks, but for the one that each gives away
  keeps-by :
      (c d : Caller) (call : Call) (answer : Reply) (place : ℕ) (need : Need) → IsAtRest g c → IsAtRest g d → OwnsFor c.seen c.errand.caller call
      → MadeBy c call answer d → LeavesPlace call place → Owns c place need → Owns d place need
  keeps-by c d call answer place need rests after owned (by_steps ends) leaves owns =
      let h = ends-called g c d call answer rests owned ends in
      subst (λ k. OwnsAfter d.seen k place need) (sym h.moved.same_caller)
      (owns-on g c.errand.caller place need c.seen d.seen h.added after.served.legal (h.moved.rest, h.moved.seen, h.moved.own_rest)
      (ended-spares c.errand.caller place call answer h.added leaves h.ended) owns)
  keeps-by c d call answer place need rests after owned (at_once words is_alloc is_spent spent same) leaves owns =
      subst (λ x. Owns x place need) (sym same) owns

  -- a whole call that made steps
  steps-by :
      (c d : Caller) (call : Call) (answer : Reply) → IsAtRest g c → OwnsFor c.seen c.errand.caller call → MadeBy c call answer d
      → ((words : ℕ) → call ≡ alloc words → answer ≡ reply.Spent → ⊥) → HasCalled c call answer d
  steps-by c d call answer rests owned (by_steps ends) not = ends-called g c d call answer rests owned ends
  steps-by c d call answer rests owned (at_once words is_alloc is_spent spent same) not = absurd (not words is_alloc is_spent)

  pub steps-called :
      (c d : Caller) (call : Call) (answer : Reply) → IsCall g c call answer d → ((words : ℕ) → call ≡ alloc words → answer ≡ reply.Spent → ⊥)
      → HasCalled c call answer d
  steps-called c d call answer one not = steps-by c d call answer one.rested one.owned one.made not

  -- a put that found a full shelf has added nothing
  full-back :
      (c d : Caller) (place : ℕ) (need : Need) (shelf found at : ℕ) (had : Need) → IsCall g c (put place need shelf) (reply.Full found) d → Owns c at had
      → Owns d at had
  full-back c d place need shelf found at had one owns =
      let h = steps-called c d (put place need shelf) (reply.Full found) one (λ words is spent. cc) in
      let is : Some ended.put_full ≡ Some h.ended.ended.0 = h.ended.ended.1 in
      let same : h.ended.ended.0 ≡ ended.put_full = cc in
      let none : h.added ≡ [] = subst (λ (x : Ended). EventsOf c.errand.caller x h.added) same h.ended.ended.2 in
      subst (λ k. OwnsAfter d.seen k at had) (sym h.moved.same_caller)
      (owns-on g c.errand.caller at had c.seen d.seen [] one.rests.served.legal (h.moved.rest, h.moved.seen, h.moved.own_rest ∙ none) tt owns)

  -- a block that a call hands out is its caller's, and none of those that it had
  hands-owned :
      (c d : Caller) (call : Call) (answer : Reply) (place : ℕ) (need : Need) → IsCall g c call answer d → Hands answer place need → Owns d place need
  hands-owned c d call (reply.Given at n) place need one hands =
      let h = steps-called c d call (reply.Given at n) one (λ words is spent. cc) in
      let owned = moment-given h.last.errand d.errand h.last.seen d.seen _ h.moment at n refl in
      subst (λ m. Owns d place m) hands.1 (subst (λ k. Owns d k n) hands.0 owned)
  hands-owned c d call (reply.Got at n) place need one hands =
      let h = steps-called c d call (reply.Got at n) one (λ words is spent. cc) in
      let owned = moment-got h.last.errand d.errand h.last.seen d.seen _ h.moment at n refl in
      subst (λ m. Owns d place m) hands.1 (subst (λ k. Owns d k n) hands.0 owned)
  hands-owned c d call answer place need one hands = absurd hands

  hands-apart :
      (c d : Caller) (call : Call) (answer : Reply) (place other : ℕ) (need had : Need) → IsCall g c call answer d → Hands answer place need
      → Owns c other had → other ≢ place
  hands-apart c d call (reply.Given at n) place other need had one hands owns =
      let h = steps-called c d call (reply.Given at n) one (λ words is spent. cc) in
      subst (λ k. other ≢ k) hands.0 (given-apart g c.errand.caller at other had n call c.seen d.seen h.added one.rests.served.legal
      (h.moved.rest, h.moved.seen, h.moved.own_rest) h.ended owns)
  hands-apart c d call (reply.Got at n) place other need had one hands owns =
      let h = steps-called c d call (reply.Got at n) one (λ words is spent. cc) in
      subst (λ k. other ≢ k) hands.0 (got-apart g c.errand.caller at other had n call c.seen d.seen h.added one.rests.served.legal
      (h.moved.rest, h.moved.seen, h.moved.own_rest) h.ended owns)
  hands-apart c d call answer place other need had one hands owns = absurd hands

  pub caller-laws : KeepBlocks (IsCall g) Owns
  caller-laws = record {
    keeps = λ c d call answer place need one. keeps-by c d call answer place need one.rested one.rests one.owned one.made;
    back = full-back;
    hands = hands-owned;
    apart = hands-apart;
    serves = λ c d words place need one. (steps-called c d (alloc words) (reply.Given place need) one (λ n is spent. cc)).ended.serves;
  }

  -- calls leave their caller in no call
  pub leads-rest : (c d : Caller) (made : List Made) → IsAtRest g c → LeadsBy (IsCall g) c made d → IsAtRest g d
  leads-rest c d [] rests same = subst (IsAtRest g) (sym same) rests
  leads-rest c d (m ∷ made) rests (t, one, leads) = leads-rest t d made one.rests leads

  pub leads-first : (c d : Caller) (made : List Made) → IsAtRest g d → LeadsBy (IsCall g) c made d → IsAtRest g c
  leads-first c d [] rests same = subst (IsAtRest g) same rests
  leads-first c d (m ∷ made) rests (t, one, leads) = one.rested
