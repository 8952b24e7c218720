-- What an effect does to events, turns, cleared counts and tags, and that all of them stay within their bounds.
use Rattle.std.proofs.Common.{ℕ, Bool, true, false, cond, ◌≡◌, ◌≢◌, ◌<◌, ◌≤◌, ◌+◌, ◌*◌, List, [], ◌∷◌, ◌++◌, refl, arith, ap, sym, ◌∙◌, None, length, count_by, nat_le}
use Rattle.std.proofs.Common.{le-leb, eq-eqb, ne_eqb}
use Rattle.std.proofs.lemmas.List.Sums.{sum_by_push}
use Rattle.sound_state.proofs.Common.{need_of, Geometry, CLASSES, frame_of, Small, head_of, descriptor_count, Event, ErrandFields, spare_of, pushed_by, State, Moves, Point}
use Rattle.sound_state.proofs.Common.{passed_by, held_by, Lists, turn_stage_of, in_turn, is_unneeded, waits_in, sum_below, callers_sum, anchor_for, IsTurned, gives_small}
use Rattle.sound_state.proofs.Common.{refuses_small, one_if, emptied_out, pops_left, SMALL_MOST, is_turn, lacks_frame, lacks_partial, lacks_answer, out_of_turn}
use Rattle.sound_state.proofs.Common.{is_small_alloc, is_small_free, turn_open, turn_unframed, turn_unlisted, turn_unanswered, errand_discards, errand_pops, turns_of}
use Rattle.sound_state.proofs.Common.{cleared_of}
use Rattle.word_table.specs.declared.name.WordName.TheVariants as name
use Rattle.pool_model.specs.declared.event.Event.TheVariants.{Alloc, Free}
use Rattle.errand_steps.specs.tables.TurnStage.{TurnStage, frame_taken}
use Rattle.sound_state.specs.Turns.{all_turns, all_cleared, all_emptied, small_frees, pops_to_come}
use Rattle.sound_state.proofs.shared.CallerLemmas.{KeepsCounts, each-other}
use Rattle.sound_state.proofs.shared.SumLemmas.{callers-moved, sum-same}

-- the new events give this caller so many small blocks, and free so many
pub record EventEffects (g : Geometry) (caller : ℕ) (past past' : List Event) (given freed : ℕ) : Type 0 where
  pub elsewhere : (i : ℕ) → i ≢ caller → count_by (gives_small i) past' ≡ count_by (gives_small i) past
  pub gives : count_by (gives_small caller) past' ≡ count_by (gives_small caller) past + given
  pub refuses : (i : ℕ) → count_by (refuses_small i) past' ≡ count_by (refuses_small i) past
  pub allocs : count_by is_small_alloc past' ≡ count_by is_small_alloc past + given
  pub frees : count_by (is_small_free g) past' ≡ count_by (is_small_free g) past + freed

-- the effects on the counts of events where no event is new
pub no-event : (g : Geometry) (caller : ℕ) (past past' : List Event) → past' ≡ past → EventEffects g caller past past' 0 0
no-event g caller past past' same = record {
  elsewhere = λ i differ. ap (count_by (gives_small i)) same;
  gives = omega (arith, ap (count_by (gives_small caller)) same);
  refuses = λ i. ap (count_by (refuses_small i)) same;
  allocs = omega (arith, ap (count_by is_small_alloc) same);
  frees = omega (arith, ap (count_by (is_small_free g)) same);
}

-- one new event adds to a count what it counts
pub counted-one :
    (f : Event → Bool) (event : Event) (past past' : List Event) → past' ≡ past ++ event ∷ []
    → count_by f past' ≡ count_by f past + cond (f event) 1 0
counted-one f event past past' one = ap (count_by f) one ∙ sum_by_push (λ x. cond (f x) 1 0) past event

-- the effects on the counts of events where a small block is given
pub alloc-event :
    (g : Geometry) (caller words place : ℕ) (past past' : List Event) → nat_le words SMALL_MOST ≡ true → past' ≡ past ++ Alloc caller words place ∷ []
    → EventEffects g caller past past' 1 0
alloc-event g caller words place past past' small one =
    let counts = λ (f : Event → Bool). counted-one f (Alloc caller words place) past past' one in
    let here : cond {A = ℕ} (gives_small caller (Alloc caller words place)) 1 0 ≡ 1 = rw (eq-eqb caller caller refl, small) refl in
    let each : cond {A = ℕ} (is_small_alloc (Alloc caller words place)) 1 0 ≡ 1 = rw small refl in
    record {
      elsewhere = λ i differ.
          let none : cond {A = ℕ} (gives_small i (Alloc caller words place)) 1 0 ≡ 0 = rw (ne_eqb caller i (λ same. differ (sym same))) refl in
          omega (arith, counts (gives_small i), none);
      gives = omega (arith, counts (gives_small caller), here);
      refuses = λ i. omega (arith, counts (refuses_small i));
      allocs = omega (arith, counts is_small_alloc, each);
      frees = counts (is_small_free g);
    }

-- the effects on the counts of events where a small block is freed
pub small-free-event :
    (g : Geometry) (caller place : ℕ) (past past' : List Event) → frame_of place < g.frames → past' ≡ past ++ Free caller place ∷ []
    → EventEffects g caller past past' 0 1
small-free-event g caller place past past' within one =
    let counts = λ (f : Event → Bool). counted-one f (Free caller place) past past' one in
    let here : cond {A = ℕ} (is_small_free g (Free caller place)) 1 0 ≡ 1 = rw (le-leb (frame_of place + 1) g.frames (omega (arith, within))) refl in
    record {
      elsewhere = λ i differ. omega (arith, counts (gives_small i));
      gives = counts (gives_small caller);
      refuses = λ i. omega (arith, counts (refuses_small i));
      allocs = counts is_small_alloc;
      frees = omega (arith, counts (is_small_free g), here);
    }

-- what a caller was given, was refused and lost accounts for its turns, by these events
pub record OwnCounts (caller : ℕ) (past : List Event) (e : ErrandFields) : Type 0 where
  pub turns : count_by (gives_small caller) past + turn_open e ≤ e.turns
  pub lost :
      e.turns + errand_discards e ≤ count_by (gives_small caller) past + count_by (refuses_small caller) past + e.lost + turn_unanswered e
  pub answers : count_by (gives_small caller) past + count_by (refuses_small caller) past + turn_unanswered e ≤ e.turns

pub own-counts :
    (g : Geometry) (s : State) (l : Lists) (caller : ℕ) → IsTurned g s l → caller < g.callers → OwnCounts caller s.history (s.errand caller)
own-counts g s l caller turned has = record {
  turns = turned.own_turns caller has;
  lost = turned.own_lost caller has;
  answers = turned.own_answers caller has;
}

-- so they do by events that give this caller nothing more and refuse it no more
pub counts-stay :
    (caller : ℕ) (past past' : List Event) (e : ErrandFields) → count_by (gives_small caller) past' ≡ count_by (gives_small caller) past
    → count_by (refuses_small caller) past' ≡ count_by (refuses_small caller) past → OwnCounts caller past e → OwnCounts caller past' e
counts-stay caller past past' e gives refuses counts = record {
  turns = omega (arith, counts.turns, gives);
  lost = omega (arith, counts.lost, gives, refuses);
  answers = omega (arith, counts.answers, gives, refuses);
}

-- a caller's turns and counts go on from one errand to another as they may, by these events
pub record CountsGo (caller : ℕ) (past : List Event) (a b : ErrandFields) : Type 0 where
  pub own : OwnCounts caller past b
  pub frame_turns : turn_unframed b + a.turns ≤ turn_unframed a + b.turns
  pub list_turns : errand_pops b + turn_unlisted b + a.turns + a.cleared ≤ errand_pops a + turn_unlisted a + b.turns + b.cleared

-- what a caller weighs in a turn: whether it is in one, has popped no frame in it, and discards what it made
pub record TurnWeighs (e : ErrandFields) (turn frameless discarding : ℕ) : Type 0 where
  pub under_way : turn_open e ≡ turn
  pub discards : errand_discards e ≡ discarding
  pub unanswered : turn_unanswered e ≡ turn
  pub unframed : turn_unframed e ≡ frameless
  pub unlisted : turn_unlisted e ≤ turn

-- the counts account for the turns of a caller that keeps them, and is given a block where its turn is answered
pub counts-kept :
    {g : Geometry} {s : State} {l : Lists} {caller : ℕ} {e : ErrandFields} {past' : List Event} {given freed t f d u k c : ℕ} → IsTurned g s l
    → caller < g.callers → EventEffects g caller s.history past' given freed → KeepsCounts (s.errand caller) e → TurnWeighs (s.errand caller) t f d
    → TurnWeighs e u k c → t ≡ u + given → c ≤ d → OwnCounts caller past' e
counts-kept {caller = caller} turned has events own before after gives discards = record {
  turns = omega (arith, turned.own_turns caller has, events.gives, before.under_way, after.under_way, own.turns, gives);
  lost =
      omega (
        arith,
        turned.own_lost caller has,
        events.gives,
        events.refuses caller,
        before.discards,
        before.unanswered,
        after.discards,
        after.unanswered,
        own.turns,
        own.lost,
        gives,
        discards,
      );
  answers =
      omega (arith, turned.own_answers caller has, events.gives, events.refuses caller, before.unanswered, after.unanswered, own.turns, gives);
}

-- a condition counts one or nothing
pub one_if-most : (b : Bool) → one_if b ≤ 1
one_if-most b = grind (arith)

-- a stage weighs no more in what lacks a partial superblock than in its turn
lacks_partial-most : (stage : TurnStage) → one_if (lacks_partial stage) ≤ one_if (is_turn stage)
lacks_partial-most stage = grind (arith)

-- a caller weighs in its turn what its stage says
pub stage-weighs :
    (stage : TurnStage) (e : ErrandFields) → turn_stage_of e.point ≡ stage → lacks_answer stage ≡ is_turn stage
    → TurnWeighs e (one_if (is_turn stage)) (one_if (lacks_frame stage)) (one_if (is_unneeded stage))
stage-weighs stage e stands unanswered = record {
  under_way = rw stands refl;
  discards = rw stands refl;
  unanswered = rw (stands, unanswered) refl;
  unframed = rw stands refl;
  unlisted = rw stands (lacks_partial-most stage);
}

-- a caller in no turn weighs nothing
pub no-turn-weighs : (e : ErrandFields) → turn_stage_of e.point ≡ out_of_turn → TurnWeighs e 0 0 0
no-turn-weighs e stands = stage-weighs out_of_turn e stands refl

-- as many superblocks are EMPTY and out, where each is or isn't as it was
pub emptied-kept :
    (g : Geometry) (s : State) (l : Lists) (s' : State) (l' : Lists) → ((d : ℕ) → emptied_out g s' l' d ≡ emptied_out g s l d)
    → sum_below (descriptor_count g) (emptied_out g s' l') ≡ sum_below (descriptor_count g) (emptied_out g s l)
emptied-kept g s l s' l' same = sum-same (descriptor_count g) (emptied_out g s l) (emptied_out g s' l') (λ d lt. same d)

-- a head that stays has its tag
pub head-tag : {w w' : ℕ} → w' ≡ w → (head_of w').tag ≡ (head_of w).tag
head-tag same = ap (λ w. (head_of w).tag) same

-- a caller goes on, and all that bounds tags and turns changes as this says
pub record TurnEffects (g : Geometry) (s : State) (l : Lists) (caller : ℕ) (e : ErrandFields) (s' : State) (l' : Lists) (given freed : ℕ) : Type 0 where
  pub in_heap : caller < g.callers
  pub moves : Moves s.errand caller e s'.errand
  pub events : EventEffects g caller s.history s'.history given freed
  pub counts : OwnCounts caller s'.history e
  pub anchor_tags : (d : ℕ) → d < descriptor_count g → (anchor_for s' d).tag ≤ (anchor_for s d).tag + given
  pub frame_turns :
      (head_of (s'.word name.FrameHead)).tag + turn_unframed e + (s.errand caller).turns
      ≤ (head_of (s.word name.FrameHead)).tag + turn_unframed (s.errand caller) + e.turns
  pub emptied :
      sum_below (descriptor_count g) (emptied_out g s' l') + e.cleared
      ≤ sum_below (descriptor_count g) (emptied_out g s l) + (s.errand caller).cleared + freed
  pub list_turns :
      (class : ℕ) → class < CLASSES
      → (head_of (s'.word (name.ListHead class))).tag + errand_pops e + turn_unlisted e + (s.errand caller).turns + (s.errand caller).cleared
      ≤ (head_of (s.word (name.ListHead class))).tag + errand_pops (s.errand caller) + turn_unlisted (s.errand caller) + e.turns + e.cleared + 2 * freed

-- the bounds of tags and turns hold, but for what accounts for this caller's turns
pub record IsTurnedBut (g : Geometry) (s : State) (l : Lists) (caller : ℕ) : Type 0 where
  pub own : (i : ℕ) → i < g.callers → i ≢ caller → OwnCounts i s.history (s.errand i)
  pub anchor_tags : (d : ℕ) → d < descriptor_count g → (anchor_for s d).tag ≤ count_by is_small_alloc s.history
  pub frame_tag : (head_of (s.word name.FrameHead)).tag + callers_sum g turn_unframed s.errand ≤ all_turns g s
  pub emptied : all_emptied g s l + all_cleared g s ≤ small_frees g s
  pub list_tags :
      (class : ℕ) → class < CLASSES
      → (head_of (s.word (name.ListHead class))).tag + pops_to_come g s ≤ all_turns g s + 2 * small_frees g s + all_cleared g s

pub turned-but : (g : Geometry) (s : State) (l : Lists) (caller : ℕ) → IsTurned g s l → IsTurnedBut g s l caller
turned-but g s l caller turned = record {
  own = λ i has differ. own-counts g s l i turned has;
  anchor_tags = turned.anchor_tags;
  frame_tag = turned.frame_tag;
  emptied = turned.emptied;
  list_tags = turned.list_tags;
}

-- the bounds of tags and turns stay, and the caller's own hold where they did not
pub turned-from :
    (g : Geometry) (s : State) (l : Lists) (caller : ℕ) (e : ErrandFields) (s' : State) (l' : Lists) (given freed : ℕ)
    → TurnEffects g s l caller e s' l' given freed → IsTurnedBut g s l caller → IsTurned g s' l'
turned-from g s l caller e s' l' given freed h turned =
    let moved = λ (weight : ErrandFields → ℕ). callers-moved g weight s.errand caller e s'.errand h.in_heap h.moves in
    let own : (i : ℕ) → i < g.callers → OwnCounts i s'.history (s'.errand i) =
    each-other g (λ i e. OwnCounts i s'.history e) s.errand caller e s'.errand h.moves h.counts
    (λ i has differ. counts-stay i s.history s'.history (s.errand i) (h.events.elsewhere i differ) (h.events.refuses i) (turned.own i has differ)) in
    record {
      own_turns = λ i has. (own i has).turns;
      own_lost = λ i has. (own i has).lost;
      own_answers = λ i has. (own i has).answers;
      anchor_tags = λ d has. omega (arith, turned.anchor_tags d has, h.anchor_tags d has, h.events.allocs);
      frame_tag = omega (arith, turned.frame_tag, moved turn_unframed, moved turns_of, h.frame_turns);
      emptied = omega (arith, turned.emptied, moved cleared_of, h.emptied, h.events.frees);
      list_tags = λ class has.
          omega (
            arith,
            turned.list_tags class has,
            moved errand_pops,
            moved turn_unlisted,
            moved turns_of,
            moved cleared_of,
            h.list_turns class has,
            h.events.frees,
          );
    }

-- words that a small block serves are small
pub small-served : (words class : ℕ) → need_of words ≡ Small class → nat_le words SMALL_MOST ≡ true
unfolding need_of
small-served words class is = grind (arith, is)

-- the bounds of tags and turns stay where all of them held
pub turned-after :
    (g : Geometry) (s : State) (l : Lists) (caller : ℕ) (e : ErrandFields) (s' : State) (l' : Lists) (given freed : ℕ)
    → TurnEffects g s l caller e s' l' given freed → IsTurned g s l → IsTurned g s' l'
turned-after g s l caller e s' l' given freed h turned = turned-from g s l caller e s' l' given freed h (turned-but g s l caller turned)

-- a point at which a caller waits for no descriptor, and pushes and scans none
pub record IsQuiet (p : Point) : Type 0 where
  pub waits : (class : ℕ) → waits_in class p ≡ 0
  pub pushed : pushed_by p ≡ None
  pub passed : passed_by p ≡ 0
  pub unread : length (held_by p) ≡ 0
  pub spare : spare_of p ≡ 0

-- a point in a superblock that pushes, scans and waits for nothing, in a turn that has given no block yet, or has
pub record StandsIn (giving : Bool) (p : Point) : Type 0 where
  pub turn : in_turn p ≡ giving
  pub frame : lacks_frame (turn_stage_of p) ≡ giving
  pub answer : lacks_answer (turn_stage_of p) ≡ giving
  pub unneeded : is_unneeded (turn_stage_of p) ≡ false
  pub pops : pops_left p ≡ 0
  pub quiet : IsQuiet p

-- what a caller weighs that stands so, in a turn that has given no block yet, or has
pub stands-weighs : (giving : Bool) (e : ErrandFields) → StandsIn giving e.point → TurnWeighs e (one_if giving) (one_if giving) 0
stands-weighs giving e h = record {
  under_way = ap one_if h.turn;
  discards = ap one_if h.unneeded;
  unanswered = ap one_if h.answer;
  unframed = ap one_if h.frame;
  unlisted = omega (arith, lacks_partial-most (turn_stage_of e.point), ap one_if h.turn);
}

-- a point of a turn that has popped a frame and given no block yet
pub record StandsFramed (p : Point) : Type 0 where
  pub stage : turn_stage_of p ≡ frame_taken
  pub pops : pops_left p ≡ 0
  pub waits : (class : ℕ) → waits_in class p ≡ 0

-- what a turn weighs that has popped a frame and given no block yet
pub framed-weighs : (e : ErrandFields) → StandsFramed e.point → TurnWeighs e 1 0 0
framed-weighs e h = stage-weighs frame_taken e h.stage refl
