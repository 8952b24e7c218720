-- Each step of a pass keeps the rule.
use Rattle.std.proofs.Common.{ℕ, zero, suc, Bool, true, false, ◌≡◌, ◌≢◌, ◌<◌, ◌≤◌, ◌+◌, ◌⊎◌, inl, inr, List, [], ◌∷◌, ◌++◌, length, Option, Some, None, refl, sym, ap, ◌∙◌, subst, ⊎_elim, arith, length-set, eq-eqb, ne_eqb}
use Rattle.std.specs.Prelude.{Contains, slice_index, slice_set, count_by, ◌==◌, if◌then◌else◌, option_to_list}
use mathlib.Core.Option.{some, some-injective, some-ne-none}
use lib.ListN.{get_elem?}
use Rattle.atomic_table.proofs.Lists.{at_set}
use Rattle.heap_geometry.specs.declared.geometry.Geometry.{Geometry}
use Rattle.heap_geometry.specs.declared.need.Need.{Need}
use Rattle.heap_geometry.specs.declared.need.Need.TheVariants as need
use Rattle.word_table.specs.declared.action.Found.{Found as Find}
use Rattle.word_table.specs.declared.name.WordName.TheVariants.{Arena}
use Rattle.word_table.specs.Actions.{name_of, after_action, found_by}
use Rattle.word_table.specs.Counts.{word_count}
use Rattle.word_table.specs.Table.{Exists, word_index}
use Rattle.word_table.specs.Words.{word_in}
use Rattle.word_table.proofs.WordLemmas.{Writes-set, word_in-there}
use Rattle.pool_model.specs.declared.event.Event.{Event}
use Rattle.pool_model.specs.Histories.{caller_of, own}
use Rattle.pool_model.specs.Legal.{IsLegal, IsLegalWithoutCounts}
use Rattle.pool_model.specs.declared.owner.Owner.TheVariants.{Caller}
use Rattle.pool_model.specs.Pool.{Block as PoolBlock, block_at, pool_of}
use Rattle.pool_model.proofs.HistoryLemmas.{legal-weaker}
use Rattle.pool_model.proofs.OwnerLemmas.{others-keep_all}
use Rattle.heap_geometry.specs.Need.{need_of, usable_words}
use Rattle.errand_steps.specs.Begins.{IsBusy, IsIdle, begins_alloc, free_point, alloc_begun, free_begun, write_begun, read_begun, put_begun, take_begun}
use Rattle.errand_steps.specs.Points.{is_idle}
use Rattle.errand_steps.specs.declared.point.Point.{Point}
use Rattle.errand_steps.specs.declared.point.Point.TheVariants.{Block, Large}
use Rattle.std.proofs.lemmas.Bool.{cases_eq}
use Rattle.errand_steps.specs.Calls.{Call, alloc, free, write, read, put, take, begun_by}
use Rattle.errand_steps.specs.Errands.{ErrandFields, is_spent, plan_of, settle_of, answer_of}
use Rattle.errand_steps.specs.Events.{event_of}
use Rattle.errand_steps.specs.Openings.{opening, IsOpening}
use Rattle.errand_steps.specs.Steps.{State, Step, Moves, with_event, found_at}
use Rattle.errand_steps.proofs.EventLemmas.{event_own}
use Rattle.errand_steps.proofs.PlanLemmas.{plan-exists}
use Rattle.sound_state.specs.Recalls.{IsOwned}
use Rattle.sound_state.specs.Moves.{is_step_of}
use Rattle.sound_state.specs.Runs.{MayBegin, BeginsCall, Move, begins, steps}
use Rattle.sound_state.specs.Sound.{IsSound, IsOwnErrand}
use Rattle.sound_laws.specs.bounds.Wins.{Win, Wins, win_list_after, win_at}
use Rattle.owned_words.specs.Accesses.{AccessesWord}
use Rattle.owned_words.specs.Leaving.{concerned}
use Rattle.owned_words.proofs.GivenAway.{stays-unconcerned}
use Rattle.owned_words.proofs.OwnWords.{point-owned}
use Rattle.step_machine.specs.Cores.{IsLonger, IsReached, OwnsAfter, made_with, no_errand}
use Rattle.step_machine.specs.Keeping.{AllSpare}
use Rattle.step_machine.proofs.KeepLemmas.{owns-rest}
use Rattle.step_machine.specs.Moments.{IsServed}
use Rattle.step_machine.proofs.CoreLemmas.{run-sound, run-longer}
use Rattle.step_machine.proofs.MomentAnswers.{settle-caller}
use Rattle.step_machine.proofs.MomentLemmas.{reached-served}
use Rattle.live_heap.specs.declared.view.Lent.{Lent}
use Rattle.live_heap.specs.declared.view.Standing.{Standing}
use Rattle.live_heap.specs.declared.view.View.{View}
use Rattle.live_heap.specs.Rule.{IsStanding, Stands, KeptTable, state_with}
use Rattle.live_heap.specs.Lending.{with_lent}
use Rattle.live_heap.specs.Sights.{IsBegun, TakesStep, after_events, found_in}
use Rattle.live_heap.specs.Shelves.{AllowedWords, AlwaysByRule, PutsByRule}
use Rattle.sound_state.proofs.CountedLemmas.{without-counts}
use Rattle.sound_laws.specs.uses.Pieces.{piece_of}
use Rattle.errand_steps.specs.Openers.{Opens}
use Rattle.sound_laws.specs.uses.Uses.{IsUnused}
use Rattle.sound_laws.proofs.uses_lemmas.InUse.{InUse, point-in_use}
use Rattle.sound_laws.proofs.uses_lemmas.Leaving.{unused-stays}
use Rattle.live_heap.proofs.Alone.{reached-alone}
use Rattle.live_heap.proofs.ShelvesKept.{always-step}
use Rattle.live_heap.proofs.Growing.{IsBy, begin-uncounted, own-between, own-gone, own-others, rest-none, starts-event, starts-more, starts-self, step-counted, steps-others, wins-others}

-- the errands with another one for one caller
abbrev pub moved : (ℕ → ErrandFields) → ℕ → ErrandFields → ℕ → ErrandFields
moved errands caller e other = if other == caller then e else errands other

pub moves-moved : (errands : ℕ → ErrandFields) (caller : ℕ) (e : ErrandFields) → Moves errands caller e (moved errands caller e)
moves-moved errands caller e =
    record {
      here = rw (eq-eqb caller caller refl) refl;
      elsewhere = λ other differ. rw (ne_eqb other caller differ) refl;
    }

-- a caller's block stays its own while others make their events
owned-still :
    (g : Geometry) (s : State) (caller place : ℕ) (need : Need) (log rest : List Event) → s.history ≡ log ++ rest → own caller rest ≡ []
    → IsLegal g (log ++ rest) → IsOwned (after_events log) caller place need → IsOwned s caller place need
owned-still g s caller place need log rest is none legal owned =
    let b = owned.block in
    let P : List Event → Type 0 = λ h. block_at place (pool_of h) ≡ Some b.0 in
    record {
      block = (
        b.0,
        subst P (sym is)
            (others-keep_all g log rest caller place b.0 (legal-weaker g (log ++ rest) legal) none b.1 b.2),
        b.2,
        b.3,
      );
    }

-- what a caller may begin after some events it may begin after those of others too
may-still :
    (g : Geometry) (s : State) (caller : ℕ) (call : Call) (log rest : List Event) → s.history ≡ log ++ rest → own caller rest ≡ []
    → IsLegal g (log ++ rest) → MayBegin (after_events log) caller call → MayBegin s caller call
may-still g s caller (alloc words) log rest is none legal may = may
may-still g s caller (free place need) log rest is none legal may = owned-still g s caller place need log rest is none legal may
may-still g s caller (write place need i value) log rest is none legal may =
    (owned-still g s caller place need log rest is none legal may.0, may.1, may.2)
may-still g s caller (read place need i) log rest is none legal may = (owned-still g s caller place need log rest is none legal may.0, may.1)
may-still g s caller (put place need shelf) log rest is none legal may = (owned-still g s caller place need log rest is none legal may.0, may.1)
may-still g s caller (take shelf) log rest is none legal may = may

-- the run at the moment of a step: the caller's errand is what it has begun with, and nothing else has changed
pub record Starts (g : Geometry) (words : List ℕ) (errands : ℕ → ErrandFields) (log : List Event) (made : ℕ) (run : IsReached g (state_with g words errands log) made) (caller : ℕ) (e : ErrandFields) : Type 0 where
  pub started : ℕ → ErrandFields
  pub moves : Moves errands caller e started
  pub made_then : ℕ
  pub reached : IsReached g (state_with g words started log) made_then
  pub first : reached.first ≡ run.first
  pub wins : reached.wins ≡ run.wins
  pub counted : (other : ℕ) → count_by (is_step_of other) reached.moves ≡ count_by (is_step_of other) run.moves

module _ (g : Geometry) (words : List ℕ) (errands : ℕ → ErrandFields) (log : List Event) (made : ℕ) (run : IsReached g (state_with g words errands log) made) (caller : ℕ) where
  -- the run at the moment of a step, where nothing has begun since the last one
  starts-same : (e : ErrandFields) → errands caller ≡ e → Starts g words errands log made run caller e
  starts-same e is = record {
    started = errands;
    moves = record { here = is; elsewhere = λ other differ. refl };
    made_then = made;
    reached = run;
    first = refl;
    wins = refl;
    counted = λ other. refl;
  }

  -- the run at the moment of a step, where a call has begun since the last one
  starts-call :
      (call : Call) → caller < g.callers → IsIdle (errands caller) → MayBegin (state_with g words errands log) caller call
      → Starts g words errands log made run caller (begun_by (errands caller) call)
  starts-call call has idle may =
      let s = state_with g words errands log in
      let e = begun_by (errands caller) call in
      let s' = state_with g words (moved errands caller e) log in
      let b : BeginsCall s caller call s' = record {
        idle = idle;
        may = may;
        errands = moved errands caller e;
        moves = moves-moved errands caller e;
        after = refl;
      } in
      let longer = run-longer g s s' made run (begins caller call) (has, b) in
      record {
        started = moved errands caller e;
        moves = moves-moved errands caller e;
        made_then = made_with made (begins caller call);
        reached = longer.0;
        first = longer.1.first;
        wins = longer.1.wins;
        counted = λ other. ap (count_by (is_step_of other)) longer.1.moves ∙ begin-uncounted other caller call run.moves;
      }

  -- what the view says of the caller's errand is so
  starts :
      (before e : ErrandFields) (seen rest : List Event) → errands caller ≡ before → before.caller ≡ caller → log ≡ seen ++ rest
      → own caller rest ≡ [] → IsBegun seen before e → caller < g.callers → Starts g words errands log made run caller e
  starts before e seen rest is number grown none (inl same) has = starts-same e (is ∙ sym same)
  starts before e seen rest is number grown none (inr (call, idle, may, begun)) has =
      let S : ErrandFields → Type 0 = Starts g words errands log made run caller in
      let M : ℕ → Type 0 = λ c. MayBegin (after_events seen) c call in
      let legal : IsLegal g (seen ++ rest) = subst (IsLegal g) grown (run-sound g (state_with g words errands log) made run).legal in
      subst S (ap (λ b. begun_by b call) is ∙ sym begun)
      (starts-call call has (subst IsIdle (sym is) idle)
      (may-still g (state_with g words errands log) caller call seen rest grown none legal (subst M number may)))

module _ (g : Geometry) (words : List ℕ) (errands : ℕ → ErrandFields) (log : List Event) (caller : ℕ) where
  -- the step that the table makes is a step of the state
  makes :
      (e : ErrandFields) (n : ℕ) → errands caller ≡ e → IsBusy e → length words ≡ word_count g → Exists g (name_of (plan_of e))
      → word_in g words (name_of (plan_of e)) ≡ n
      → Step (state_with g words errands log) caller
      (state_with g (slice_set words (word_index g (name_of (plan_of e))) (after_action (plan_of e) n))
      (moved errands caller (settle_of e (found_in e n))) (with_event log (event_of caller e.point (found_in e n))))
  makes e n is busy whole there finds =
      let N : ErrandFields → Type 0 = λ x.
      (m : ℕ) → IsBusy x → Exists g (name_of (plan_of x)) → word_in g words (name_of (plan_of x)) ≡ m
      → Step (state_with g words errands log) caller
      (state_with g (slice_set words (word_index g (name_of (plan_of x))) (after_action (plan_of x) m))
      (moved errands caller (settle_of x (found_in x m))) (with_event log (event_of caller x.point (found_in x m)))) in
      subst N is
      (λ m busy' there' finds'.
      let M : ℕ → Type 0 = λ k.
      Step (state_with g words errands log) caller
      (state_with g (slice_set words (word_index g (name_of (plan_of (errands caller)))) (after_action (plan_of (errands caller)) k))
      (moved errands caller (settle_of (errands caller) (found_in (errands caller) k))) (with_event log (event_of caller (errands caller).point (found_in (errands caller) k)))) in
      subst M finds'
      (record {
        busy = busy';
        word = Writes-set g words (name_of (plan_of (errands caller))) _ whole there';
        errand = moves-moved errands caller _;
        history = refl;
      }))
      n busy there finds

-- a call that begins leaves the caller's number and its heap
pub begun-caller : (e : ErrandFields) (call : Call) → (begun_by e call).caller ≡ e.caller
unfolding alloc_begun free_begun write_begun read_begun put_begun take_begun
begun-caller e call = grind (arith)

pub begun-geometry : (e : ErrandFields) (call : Call) → (begun_by e call).geometry ≡ e.geometry
unfolding alloc_begun free_begun write_begun read_begun put_begun take_begun
begun-geometry e call = grind (arith)

pub is_begun-caller : (seen : List Event) (before e : ErrandFields) → IsBegun seen before e → e.caller ≡ before.caller
is_begun-caller seen before e (inl same) = ap (λ (x : ErrandFields). x.caller) same
is_begun-caller seen before e (inr (call, idle, may, begun)) = ap (λ (x : ErrandFields). x.caller) begun ∙ begun-caller before call

-- who is in no call is about to use no piece
pub idle-opens : (g : Geometry) (q : Point) (piece : ℕ) → is_idle q ≡ true → Opens g q piece → ⊥
idle-opens g (Block p o) piece idle it = let no : false ≡ true = idle in cc
idle-opens g (Large p o) piece idle it = let no : false ≡ true = idle in cc
idle-opens g q piece idle it = it

-- nor is who has just begun a call
if-opens : (g : Geometry) (e f : ErrandFields) (b : Bool) (piece : ℕ) → (Opens g e.point piece → ⊥) → (Opens g f.point piece → ⊥) → Opens g (if b then e else f).point piece → ⊥
if-opens g e f true piece one other it = one it
if-opens g e f false piece one other it = other it

need-opens : (g : Geometry) (e : ErrandFields) (words : ℕ) (n : Need) (piece : ℕ) → is_idle e.point ≡ true → Opens g (begins_alloc e words n).point piece → ⊥
need-opens g e words (need.Small class) piece idle it = if-opens g e _ (is_spent e) piece (idle-opens g e.point piece idle) (λ x. x) it
need-opens g e words (need.Large units) piece idle it = it
need-opens g e words need.TooLarge piece idle it = idle-opens g e.point piece idle it

free-opens : (g : Geometry) (e : ErrandFields) (place : ℕ) (n : Need) (piece : ℕ) → is_idle e.point ≡ true → Opens g (free_point e place n) piece → ⊥
free-opens g e place (need.Small class) piece idle it = it
free-opens g e place (need.Large units) piece idle it = it
free-opens g e place need.TooLarge piece idle it = idle-opens g e.point piece idle it

pub begun-opens : (g : Geometry) (e : ErrandFields) (call : Call) (piece : ℕ) → is_idle e.point ≡ true → Opens g (begun_by e call).point piece → ⊥
unfolding alloc_begun free_begun write_begun read_begun put_begun take_begun
begun-opens g e (alloc words) piece idle it = need-opens g e words (need_of words) piece idle it
begun-opens g e (free place need) piece idle it = free-opens g e place need piece idle it
begun-opens g e (write place need i value) piece idle it = it
begun-opens g e (read place need i) piece idle it = it
begun-opens g e (put place need shelf) piece idle it = it
begun-opens g e (take shelf) piece idle it = it

-- so who opens a piece in an errand that began or goes on has come there by its last step
pub opens-since : (g : Geometry) (seen : List Event) (f h : ErrandFields) (piece : ℕ) → IsBegun seen f h → Opens g h.point piece → Opens g f.point piece
opens-since g seen f h piece (inl same) it = subst (λ (x : ErrandFields). Opens g x.point piece) same it
opens-since g seen f h piece (inr (call, idle, may, is)) it = absurd (begun-opens g f call piece idle (subst (λ (x : ErrandFields). Opens g x.point piece) is it))

in_list : {A : Type 0} (l : List A) (i : ℕ) (a : A) → get_elem? l i ≡ some a → i < length l
in_list [] i a e = absurd (some-ne-none a (sym e))
in_list (x ∷ xs) zero a e = omega arith
in_list (x ∷ xs) (suc i) a e = let h : i < length xs = in_list xs i a e in omega arith

only : {A : Type 0} (x y : A) (k : ℕ) → get_elem? (x ∷ []) k ≡ some y → (k ≡ 0) × (x ≡ y)
only x y zero e = (refl, some-injective x y e)
only x y (suc k) e = absurd (some-ne-none y (sym e))

-- a caller's block is its own behind another caller's event
own-still :
    (g : Geometry) (log : List Event) (event : Option Event) (caller place : ℕ) (need : Need) → IsLegalWithoutCounts g (with_event log event)
    → ((e : Event) → event ≡ Some e → caller_of e ≢ caller) → OwnsAfter log caller place need → OwnsAfter (with_event log event) caller place need
own-still g log None caller place need legal apart owns = owns
own-still g log (Some e) caller place need legal apart owns =
    owns-rest g log (e ∷ []) caller place need legal (subst (AllSpare place) (sym (own-gone caller e (λ same. apart e refl (sym same)))) tt) owns

module _ {rule : AllowedWords} (g : Geometry) (words : List ℕ) (views : List View) (id : ℕ) (v : View) (before : Standing) (e : ErrandFields) (k : KeptTable rule g words views)
    (at : get_elem? views id ≡ some v) (one : v.callers ≡ before ∷ []) (b : IsBegun v.seen before.errand e) (busy : IsBusy e) where
  abbrev pub caller : ℕ
  caller = e.caller

  -- where the step's word stands, and what the step finds there
  abbrev pub index : ℕ
  index = word_index g (name_of (plan_of e))

  abbrev pub number : ℕ
  number = slice_index words index

  abbrev pub after : ErrandFields
  after = settle_of e (found_in e number)

  abbrev pub event : Option Event
  event = event_of caller e.point (found_in e number)

  mine : Stands g k.errands k.events k.run.wins.list k.run.moves k.place id v
  mine = k.each id v at

  first : IsStanding g k.errands k.events k.run.wins.list k.run.moves k.place id v 0 before
  first = mine.each 0 before (ap (λ (l : List Standing). get_elem? l 0) one)

  same_caller : e.caller ≡ before.errand.caller
  same_caller = is_begun-caller v.seen before.errand e b

  has : caller < g.callers
  has = subst (λ c. c < g.callers) (sym same_caller) first.has

  known : k.errands caller ≡ before.errand
  known = subst (λ c. k.errands c ≡ before.errand) (sym same_caller) first.errand

  own_before : own caller v.seen ≡ own caller k.events
  own_before =
      own-between caller before.seen v.seen k.events first.seen_within mine.seen
      (subst (λ c. own c before.seen ≡ own c k.events) (sym same_caller) first.own_seen)

  between_none : own caller mine.seen.0 ≡ []
  between_none = rest-none caller v.seen mine.seen.0 (own_before ∙ ap (own caller) mine.seen.1)

  pub begun : Starts g words k.errands k.events k.made k.run caller e
  begun = starts g words k.errands k.events k.made k.run caller before.errand e v.seen mine.seen.0 known (sym same_caller) mine.seen.1 between_none b has

  abbrev state : State
  state = state_with g words begun.started k.events

  sound : IsSound g state
  sound = run-sound g state begun.made_then begun.reached

  own_errand : IsOwnErrand g caller e
  own_errand = subst (IsOwnErrand g caller) begun.moves.here (sound.parts.1.formed.errands caller has)

  pub there : Exists g (name_of (plan_of e))
  there = subst (λ h. Exists h (name_of (plan_of e))) own_errand.geometry
      (plan-exists e.geometry caller e.point own_errand.rule.geometry own_errand.rule.caller own_errand.rule.point)

  finds : word_in g words (name_of (plan_of e)) ≡ number
  finds = word_in-there g words (name_of (plan_of e)) there

  -- the caller finds its number
  found : found_at state caller ≡ found_in e number
  found =
      let F : ErrandFields → Find = λ x. found_by (plan_of x) (state.word (name_of (plan_of x))) in
      ap F begun.moves.here ∙ ap (found_by (plan_of e)) finds

  abbrev pub words_then : List ℕ
  words_then = slice_set words index (after_action (plan_of e) number)

  abbrev errands_then : ℕ → ErrandFields
  errands_then = moved begun.started caller after

  abbrev pub events_now : List Event
  events_now = with_event k.events event

  abbrev next : State
  next = state_with g words_then errands_then events_now

  step : Step state caller next
  step = makes g words begun.started k.events caller e number begun.moves.here busy k.whole there finds

  abbrev made_now : ℕ
  made_now = made_with begun.made_then (steps caller)

  longer : (run : IsReached g next made_now) × IsLonger g state next begun.made_then made_now begun.reached (steps caller) run
  longer = run-longer g state next begun.made_then begun.reached (steps caller) (has, step)

  abbrev run_now : IsReached g next made_now
  run_now = longer.0

  first_now : run_now.first ≡ k.run.first
  first_now = longer.1.first ∙ begun.first

  abbrev list_now : List Win
  list_now = win_list_after state caller k.run.wins.list

  list_is : run_now.wins.list ≡ list_now
  list_is =
      ap (λ (w : Wins). w.list) longer.1.wins
      ∙ ap (λ (w : Wins). win_list_after state caller w.list) begun.wins

  abbrev moves_now : List Move
  moves_now = begun.reached.moves ++ steps caller ∷ []

  moves_are : run_now.moves ≡ moves_now
  moves_are = longer.1.moves

  -- the caller's steps are one more, and another caller's as many
  counted_mine : suc before.accesses ≡ count_by (is_step_of caller) moves_now
  counted_mine =
      ap suc (subst (λ c. before.accesses ≡ count_by (is_step_of c) k.run.moves) (sym same_caller) first.counted ∙ sym (begun.counted caller))
      ∙ sym (step-counted caller begun.reached.moves)

  counted_other : (other : ℕ) → other ≢ caller → count_by (is_step_of other) k.run.moves ≡ count_by (is_step_of other) moves_now
  counted_other other apart = sym (steps-others caller other begun.reached.moves apart ∙ begun.counted other)

  by_me : IsBy caller event
  by_me = λ ev is. event_own caller e.point (found_in e number) ev is

  abbrev pub standing_then : Standing
  standing_then = record { errand = after; seen = events_now; accesses = suc before.accesses }

  abbrev pub view_then : View
  view_then = record { callers = standing_then ∷ []; seen = events_now; wins = list_now; lays = v.lays; ready = v.ready; lent = v.lent }

  now_mine : errands_then caller ≡ after
  now_mine = (moves-moved begun.started caller after).here

  caller_then : after.caller ≡ caller
  caller_then = settle-caller e (found_in e number)

  here : IsStanding g errands_then events_now list_now moves_now k.place id view_then 0 standing_then
  here = record {
    has = subst (λ c. c < g.callers) (sym caller_then) has;
    at_place = ap k.place (caller_then ∙ same_caller) ∙ first.at_place;
    errand = ap errands_then caller_then ∙ now_mine;
    seen = starts-self events_now;
    own_seen = refl;
    seen_within = starts-self events_now;
    wins_seen = refl;
    counted = subst (λ c. suc before.accesses ≡ count_by (is_step_of c) moves_now) (sym caller_then) counted_mine;
  }

  abbrev StandsNow : ℕ → View → Type 0
  StandsNow j u = Stands g errands_then events_now list_now moves_now k.place j u

  mine_then : StandsNow id view_then
  mine_then = record {
    seen = starts-self events_now;
    wins_seen = starts-self list_now;
    each = λ j x is. let t = only standing_then x j is in
        subst (λ (y : ℕ × Standing). IsStanding g errands_then events_now list_now moves_now k.place id view_then y.0 y.1) (λ i. (sym t.0 i, t.1 i)) here;
  }

  others_then : (j : ℕ) (u : View) → j ≢ id → get_elem? views j ≡ some u → StandsNow j u
  others_then j u differ is =
      let o = k.each j u is in
      record {
        seen = starts-event u.seen k.events event o.seen;
        wins_seen = starts-more u.wins k.run.wins.list (option_to_list (win_at state caller)) o.wins_seen;
        each = λ m x at'.
            let y = o.each m x at' in
            let apart : x.errand.caller ≢ caller = λ same.
            differ (ap (λ (p : ℕ × ℕ). p.0) (sym y.at_place ∙ (ap k.place (same ∙ same_caller) ∙ first.at_place))) in
            record {
              has = y.has;
              at_place = y.at_place;
              errand =
                  (moves-moved begun.started caller after).elsewhere x.errand.caller apart
                  ∙ (begun.moves.elsewhere x.errand.caller apart ∙ y.errand);
              seen = starts-event x.seen k.events event y.seen;
              own_seen = y.own_seen ∙ sym (own-others caller x.errand.caller k.events event by_me apart);
              seen_within = y.seen_within;
              wins_seen = y.wins_seen ∙ sym (wins-others state caller x.errand.caller k.run.wins.list apart);
              counted = y.counted ∙ counted_other x.errand.caller apart;
            };
      }

  nobody_then : (other : ℕ) → g.callers ≤ other → errands_then other ≡ no_errand
  nobody_then other beyond =
      let apart : other ≢ caller = λ same. let h = has in absurd (omega arith) in
      (moves-moved begun.started caller after).elsewhere other apart
      ∙ (begun.moves.elsewhere other apart ∙ k.nobody other beyond)

  each_then : (j : ℕ) (u : View) → get_elem? (slice_set views id view_then) j ≡ some u → StandsNow j u
  each_then j u is = ⊎_elim
      (λ (t : (j ≡ id) × (view_then ≡ u)). subst (λ (y : ℕ × View). StandsNow y.0 y.1) (λ i. (sym t.0 i, t.1 i)) mine_then)
      (λ (t : (j ≢ id) × (get_elem? views j ≡ some u)). others_then j u t.0 t.1)
      (at_set views id j view_then u is)

  -- the rule of words on shelves, where the errand's put keeps it
  pub always_then : PutsByRule rule v.seen e → AlwaysByRule rule events_now
  always_then puts =
      always-step rule g v.seen mine.seen.0 k.events e (found_in e number) mine.seen.1 between_none
      (legal-weaker g events_now (run-sound g next made_now run_now).legal) k.by_rule puts

  pub kept_then : PutsByRule rule v.seen e → KeptTable rule g words_then (slice_set views id view_then)
  kept_then puts = record {
    whole = length-set words _ _ ∙ k.whole;
    errands = errands_then;
    nobody = nobody_then;
    events = events_now;
    made = made_now;
    run = run_now;
    opened = subst (IsOpening g (opening g)) (sym first_now) k.opened;
    place = k.place;
    by_rule = always_then puts;
    each = λ j u is.
        subst (λ ms. Stands g errands_then events_now run_now.wins.list ms k.place j u) (sym moves_are)
        (subst (λ l. Stands g errands_then events_now l moves_now k.place j u) (sym list_is) (each_then j u is));
  }

  pub events_then : (puts : PutsByRule rule v.seen e) → (kept_then puts).events ≡ events_now
  unfolding kept_then
  events_then puts = refl

  served_then : IsServed e.geometry caller after events_now
  served_then =
      subst (λ h. IsServed h caller after events_now) (sym own_errand.geometry)
      (subst (λ x. IsServed g caller x events_now) now_mine (reached-served g next made_now caller run_now has))

  alone_then : e.geometry.callers ≡ 1 → after.lost ≡ 0
  alone_then is =
      let one_caller : g.callers ≡ 1 = ap (λ (h : Geometry). h.callers) (sym own_errand.geometry) ∙ is in
      ap (λ (x : ErrandFields). x.lost) (sym now_mine) ∙ reached-alone g next made_now caller run_now has one_caller

  -- behind the step the caller owns each of its blocks that its call isn't about
  pub mine-own : (place : ℕ) (need : Need) → ¬ Contains (concerned e.point) place → OwnsAfter k.events caller place need → OwnsAfter events_now caller place need
  mine-own place need spared owns =
      let kept = stays-unconcerned g state caller place next owns.0 (without-counts g state sound) has step owns.1 owns.2
      (subst (λ (f : ErrandFields). ¬ Contains (concerned f.point) place) (sym begun.moves.here) spared) in
      (kept.0, kept.1, kept.2, kept.3 ∙ owns.3)

  -- what the pass sees of the step, whichever blocks' words are out with it that the call isn't about
  pub steps_then :
      (blocks : List Lent) → ((n : ℕ) (x : Lent) → get_elem? blocks n ≡ some x → OwnsAfter k.events caller x.place x.need)
      → ((n : ℕ) (x : Lent) → get_elem? blocks n ≡ some x → ¬ Contains (concerned e.point) x.place) → TakesStep e number (with_lent v blocks) (with_lent view_then blocks)
  steps_then blocks owned apart = record {
    before = before;
    after = standing_then;
    was = one;
    now = refl;
    errand = refl;
    seen = refl;
    accesses = refl;
    wins_seen = starts-more v.wins k.run.wins.list (option_to_list (win_at state caller)) mine.wins_seen;
    moment = record {
      has = subst (λ h. caller < h.callers) (sym own_errand.geometry) has;
      state = state;
      next = next;
      between = mine.seen.0;
      made = begun.made_then;
      reached = subst (λ h. IsReached h state begun.made_then) (sym own_errand.geometry) begun.reached;
      sound = subst (λ h. IsSound h state) (sym own_errand.geometry) sound;
      here = begun.moves.here;
      step = step;
      there = now_mine;
      not_own = between_none;
      seen = mine.seen.1;
      now = refl;
      answers = ap (answer_of e) (sym found);
    };
    served = served_then;
    alone = alone_then;
    lays = refl;
    lent = refl;
    mine = λ n x found. mine-own x.place x.need (apart n x found) (owned n x found);
  }

  -- a piece that nobody uses stays so, but where the caller is about to use it first
  pub unused_then : (piece : ℕ) → IsUnused g (word_in g words) piece → IsUnused g (word_in g words_then) piece ⊎ Opens g after.point piece
  unused_then piece unused =
      ⊎_elim (λ x. inl x) (λ opens. inr (subst (λ (x : ErrandFields). Opens g x.point piece) now_mine opens))
      (unused-stays g state caller next piece (without-counts g state sound) has step unused)

  -- the step is on no word of a piece that nobody uses, and no other pass is about to use it first
  used_now : (word : ℕ) → name_of (plan_of e) ≡ Arena word → InUse g state caller (piece_of g word)
  used_now word is =
      point-in_use g state caller word (state.errand caller).point (without-counts g state sound) has refl
      (ap (λ (x : ErrandFields). name_of (plan_of x)) begun.moves.here ∙ is)

  pub unused_never : (word : ℕ) → name_of (plan_of e) ≡ Arena word → IsUnused g (word_in g words) (piece_of g word) → ⊥
  unused_never word is unused = (used_now word is).used unused

  pub opener_mine :
      (word : ℕ) → name_of (plan_of e) ≡ Arena word → (i : ℕ) (u : View) (n : ℕ) (x : Standing) → get_elem? views i ≡ some u → get_elem? u.callers n ≡ some x
      → Opens g x.errand.point (piece_of g word) → (i ≡ id) × (x ≡ before)
  opener_mine word is i u n x at_u at_x opens =
      let y = (k.each i u at_u).each n x at_x in
      let mine : x.errand.caller ≡ caller =
      elim (cases_eq x.errand.caller caller) [
        | inl same ↦ same
        | inr other ↦
            let stands : state.errand x.errand.caller ≡ x.errand = begun.moves.elsewhere x.errand.caller other ∙ y.errand in
            (used_now word is).alone x.errand.caller y.has (subst (λ (f : ErrandFields). Opens g f.point (piece_of g word)) (sym stands) opens)
      ] in
      let place_is : (i, n) ≡ (id, 0) = sym y.at_place ∙ ap k.place (mine ∙ same_caller) ∙ first.at_place in
      let i_is : i ≡ id = ap (λ (q : ℕ × ℕ). q.0) place_is in
      let n_is : n ≡ 0 = ap (λ (q : ℕ × ℕ). q.1) place_is in
      let u_is : u ≡ v = some-injective u v (sym at_u ∙ ap (get_elem? views) i_is ∙ at) in (
        i_is,
        some-injective x before
            (sym at_x ∙ ap (λ (q : List Standing × ℕ). get_elem? q.0 q.1) (let both : (u.callers, n) ≡ (v.callers, 0) = (λ j. (ap (λ (z : View). z.callers) u_is j, n_is j)) in both)
            ∙ ap (λ (l : List Standing). get_elem? l 0) one),
      )

  -- a caller's view is this one
  pub view-mine : (j : ℕ) (u : View) (n : ℕ) (x : Standing) → get_elem? views j ≡ some u → get_elem? u.callers n ≡ some x → x.errand.caller ≡ caller → u ≡ v
  view-mine j u n x at_u at_x is =
      let y = (k.each j u at_u).each n x at_x in
      let place_is : (j, n) ≡ (id, 0) = sym y.at_place ∙ ap k.place (is ∙ same_caller) ∙ first.at_place in
      some-injective u v (sym at_u ∙ ap (get_elem? views) (ap (λ (q : ℕ × ℕ). q.0) place_is) ∙ at)

  -- where the step is on a usable word of a live block, the caller owns the block, and the step is a read or a write of the word
  pub word-mine :
      (word place i : ℕ) (x : PoolBlock) → name_of (plan_of e) ≡ Arena word → block_at place (pool_of k.events) ≡ Some x → word ≡ place + 1 + i
      → i < usable_words x.need → (x.owner ≡ Caller caller) × AccessesWord e.point place i
  word-mine word place i x is live at_word within =
      let so = point-owned g state caller word place i x (state.errand caller).point (without-counts g state sound) has refl
      (ap (λ (f : ErrandFields). name_of (plan_of f)) begun.moves.here ∙ is) (record { live = live; at = at_word; within = within }) in
      (so.0, subst (λ (f : ErrandFields). AccessesWord f.point place i) begun.moves.here so.1)

  -- behind the step another caller's block is its own still
  pub others-own :
      (other place : ℕ) (need : Need) → other ≢ caller → OwnsAfter k.events other place need → OwnsAfter events_now other place need
  others-own other place need apart owns =
      own-still g k.events event other place need (legal-weaker g events_now (run-sound g next made_now run_now).legal) (λ e is same. apart (sym same ∙ by_me e is)) owns

  -- who is about to use a piece first stands there already
  pub opens-before : (piece : ℕ) → Opens g before.errand.point piece → Opens g e.point piece
  opens-before piece opens = opens-begun v.seen before.errand e b opens
    where
      opens-begun : (seen : List Event) (f h : ErrandFields) → IsBegun seen f h → Opens g f.point piece → Opens g h.point piece
      opens-begun seen f h (inl same) it = subst (λ (x : ErrandFields). Opens g x.point piece) (sym same) it
      opens-begun seen f h (inr (call, idle, may, is)) it = absurd (idle-opens g f.point piece idle it)
