-- A step that retires the descriptor of an EMPTY superblock, and leaves its word or clears a hazard word, keeps the state sound.
use Rattle.std.proofs.Common.{ℕ, Bool, true, false, None, ◌≡◌, ◌≢◌, ◌<◌, ◌≤◌, ◌+◌, List, [], ◌∷◌, ◌++◌, length, refl, arith, ap, sym, subst, inl, inr, ◌∙◌, length-append}
use Rattle.std.proofs.Common.{ne_eqb, eq-eqb, ◌==◌, ◌&&◌, ◌⊎◌, not, All, leb-true}
use Rattle.std.proofs.lemmas.Bool.{cases_eq, cases_Bool, cond-true, cond-false}
use Rattle.std.proofs.lemmas.List.Elements.{All-append, All-cons, All-nil}
use Rattle.sound_state.proofs.Common.{Geometry, AnchorFields, anchor_of, is_empty, Found, WordName, descriptor_count, name_of, after_action, SeatFields, Exists, Writes}
use Rattle.sound_state.proofs.Common.{occurs, Event, At, End, Retire, Continuation, Point, Reply, Idle, ErrandFields, settle_of, course_of, raised, counts_lost}
use Rattle.sound_state.proofs.Common.{counts_cleared, event_of, spare_of, next_of, plan_point_of, State, Step, Moves, action_at, name_at, word_at, found_at, with_event}
use Rattle.sound_state.proofs.Common.{IsHazard, Status, holds_of, on_its_way, partly_used, word_keeps, IsWithout, Lists, IsSo, recalls_of, IsSoundWithoutCounts}
use Rattle.sound_state.proofs.Common.{IsSoundWith, turn_stage_of, in_turn, is_unneeded, waits_in, word_stock, sum_below, anchor_for, errand_keeps, errand_away, away_of}
use Rattle.sound_state.proofs.Common.{is_bound, word_reserves, emptied_out, one_if, pops_left, plan_of, counts_won, is_full, scan_begins, resumed, event_at, plan-exists}
use Rattle.sound_state.proofs.Common.{HazardState, clear, nothing, keep, IsPlain, resumed_recalls, lacks_frame, lacks_partial, lacks_answer}
use Rattle.packed_words.specs.declared.anchor.AnchorState.TheVariants as phase
use Rattle.word_table.specs.declared.name.WordName.TheVariants as name
use Rattle.sound_state.proofs.hazards.HazardLemmas.{hazard_caller, hazard-actives}
use Rattle.sound_state.proofs.shared.ListFacts.{occurs-push}
use Rattle.sound_state.proofs.shared.ShownLemmas.{MayGoOn}
use Rattle.sound_state.proofs.shared.StepLemmas.{HoldsException, raised-least, raised-by, found_from, actives-stay, words-stay}
use Rattle.sound_state.proofs.shared.HasLemmas.{kept-one, kept-itself, keeps-near}
use Rattle.sound_state.proofs.shared.NothingLemmas.{HoldsNothing, scan-nothing, keeps-excepts, nothing-guards, nothing-may}
use Rattle.sound_state.proofs.shared.SumLemmas.{sum-change, callers-moved}
use Rattle.sound_state.proofs.shared.TagLemmas.{cleared-below}
use Rattle.sound_state.proofs.shared.TurnEffects.{one_if-most, CountsGo}
use Rattle.sound_state.proofs.shared.WeighLemmas.{WeighClose, weigh-close}
use Rattle.sound_state.proofs.shared.SuperblocksStay.{ActivesKept}
use Rattle.sound_state.proofs.shared.KeepsSound.{silent-sound}
use Rattle.sound_state.proofs.SoundSteps.{sound-alike}

-- the descriptor is away once more with the errand b than with a, and no other one is
pub record GoesAway (d : ℕ) (a b : ErrandFields) : Type 0 where
  pub here : errand_away d b ≡ errand_away d a + 1
  pub elsewhere : (k : ℕ) → k ≢ d → errand_away k b ≡ errand_away k a

-- a descriptor whose superblock is EMPTY isn't bound, whether away or not
bound-none : (away : ℕ) (a : AnchorFields) → a.state ≡ phase.Empty → ((away == 0) && not (is_empty a.state)) ≡ false
bound-none away a is = grind (arith)

-- after the retirement of an EMPTY superblock's descriptor the same superblocks are bound
pub away-bound :
    (g : Geometry) (s : State) (l : Lists) (caller d : ℕ) (e : ErrandFields) (s' : State) → caller < g.callers → Moves s.errand caller e s'.errand
    → GoesAway d (s.errand caller) e → ((k : ℕ) → anchor_for s' k ≡ anchor_for s k) → (anchor_for s d).state ≡ phase.Empty
    → (k : ℕ) → is_bound g s' l k ≡ is_bound g s l k
away-bound g s l caller d e s' has m away anchors empty k =
    elim (cases_eq k d) [
      | inl same ↦
          let before : is_bound g s l d ≡ false = bound-none (away_of g s l d) (anchor_for s d) empty in
          let after : is_bound g s' l d ≡ false = bound-none (away_of g s' l d) (anchor_for s' d) (ap (λ a. a.state) (anchors d) ∙ empty) in
          subst (λ j. is_bound g s' l j ≡ is_bound g s l j) (sym same) (after ∙ sym before)
      | inr differ ↦
          let moved = callers-moved g (errand_away k) s.errand caller e s'.errand has m in
          let still : away_of g s' l k ≡ away_of g s l k = omega (arith, moved, away.elsewhere k differ) in
          rw (still, anchors k) refl
    ]

empty-out-one : (away : ℕ) (a : AnchorFields) → away ≡ 0 → a.state ≡ phase.Empty → one_if ((away == 0) && is_empty a.state) ≡ 1
empty-out-one away a none is = grind (arith, none, is)

away-out-none : (away : ℕ) (b : Bool) → 1 ≤ away → one_if ((away == 0) && b) ≡ 0
away-out-none away b some = rw (ne_eqb away 0 (λ e. let bad : ⊥ = omega (arith, e, some) in bad)) refl

-- after the retirement of an EMPTY superblock's descriptor one less is EMPTY and out
pub away-emptied :
    (g : Geometry) (s : State) (l : Lists) (caller d : ℕ) (e : ErrandFields) (s' : State) → caller < g.callers → Moves s.errand caller e s'.errand
    → GoesAway d (s.errand caller) e → ((k : ℕ) → anchor_for s' k ≡ anchor_for s k) → (anchor_for s d).state ≡ phase.Empty
    → d < descriptor_count g → away_of g s l d ≡ 0
    → sum_below (descriptor_count g) (emptied_out g s' l) + 1 ≡ sum_below (descriptor_count g) (emptied_out g s l)
away-emptied g s l caller d e s' has m away anchors empty exists near =
    let moved = λ (k : ℕ). callers-moved g (errand_away k) s.errand caller e s'.errand has m in
    let change = sum-change (descriptor_count g) (emptied_out g s l) (emptied_out g s' l) d exists
    (λ k lt differ.
    let still : away_of g s' l k ≡ away_of g s l k = omega (arith, moved k, away.elsewhere k differ) in
    rw (still, anchors k) refl) in
    let before : emptied_out g s l d ≡ 1 = empty-out-one (away_of g s l d) (anchor_for s d) near empty in
    let after : emptied_out g s' l d ≡ 0 = away-out-none (away_of g s' l d) (is_empty (anchor_for s' d).state) (omega (arith, moved d, away.here)) in
    omega (arith, change, before, after)

-- the errand at the point, with one more descriptor retired
abbrev pub retired_at : ErrandFields → Found → ℕ → Point → ErrandFields
retired_at e x d q =
    record e {
      point = q;
      retired = e.retired ++ d ∷ [];
      won = raised (counts_won (plan_of e) x) e.won;
      lost = raised (counts_lost e.point x) e.lost;
      cleared = raised (counts_cleared e.point x) e.cleared;
    }

-- a retirement that fills the list begins a scan
pub settle-full :
    (e : ErrandFields) (x : Found) (s : SeatFields) (d : ℕ) (o : Continuation) → next_of e.point x ≡ Retire s d o → is_full e ≡ true
    → settle_of e x ≡ retired_at e x d (scan_begins s o)
unfolding settle_of course_of
settle-full e x s d o is full = rw (is, full) refl

-- a retirement after which the list isn't full resumes the call
settle-resumed :
    (e : ErrandFields) (x : Found) (s : SeatFields) (d : ℕ) (o : Continuation) (q : Point) → next_of e.point x ≡ Retire s d o → is_full e ≡ false
    → resumed s o ≡ At q → settle_of e x ≡ retired_at e x d q
unfolding settle_of course_of
settle-resumed e x s d o q is few to = rw (is, few, to) refl

pub settle-resumed-end :
    (e : ErrandFields) (x : Found) (s : SeatFields) (d : ℕ) (o : Continuation) → next_of e.point x ≡ Retire s d o → is_full e ≡ false
    → (r : Reply) → resumed s o ≡ End r → settle_of e x ≡ retired_at e x d Idle
unfolding settle_of course_of
settle-resumed-end e x s d o is few r to = rw (is, few, to) refl

-- a turn goes on from p to q, where the step may have found a superblock EMPTY that its caller took
pub record TurnRetires (p q : Point) (x : Found) : Type 0 where
  pub under_way : one_if (in_turn q) ≤ one_if (in_turn p)
  pub discards : one_if (is_unneeded (turn_stage_of q)) ≤ one_if (is_unneeded (turn_stage_of p))
  pub unanswered : one_if (lacks_answer (turn_stage_of p)) ≡ one_if (lacks_answer (turn_stage_of q))
  pub unframed : one_if (lacks_frame (turn_stage_of q)) ≤ one_if (lacks_frame (turn_stage_of p))
  pub pops :
      pops_left q + one_if (lacks_partial (turn_stage_of q))
      ≤ pops_left p + one_if (lacks_partial (turn_stage_of p)) + one_if (counts_cleared p x)

-- a caller that keeps at p one descriptor, and nothing else but a hazard word, holds nothing at q
pub record Lets (p q : Point) (d class : ℕ) (status : Status) (word : HazardState) : Type 0 where
  pub before : holds_of p ≡ record nothing { kept = keep d class status; hazard = word }
  pub bare : HoldsNothing q
  pub waits : (c : ℕ) → waits_in c p ≡ 0
  pub spare : spare_of p ≡ 0

occurs-pushed : (d : ℕ) (xs : List ℕ) → occurs d (xs ++ d ∷ []) ≡ occurs d xs + 1
occurs-pushed d xs = omega (arith, occurs-push d d xs, cond-true {A = ℕ} (d == d) 1 0 (eq-eqb d d refl))

occurs-other : (k d : ℕ) (xs : List ℕ) → k ≢ d → occurs k (xs ++ d ∷ []) ≡ occurs k xs
occurs-other k d xs differ = omega (arith, occurs-push k d xs, cond-false {A = ℕ} (d == k) 1 0 (ne_eqb d k (λ e. differ (sym e))))

lets-away :
    (d class : ℕ) (h : HazardState) (x : Found) (q : Point) (e : ErrandFields) → Lets e.point q d class partly_used h → GoesAway d e (retired_at e x d q)
lets-away d class h x q e lets = grind (arith, lets, kept-one, occurs-other, occurs-pushed, on_its_way, partly_used)

lets-weigh :
    (n : WordName) (before after d class : ℕ) (h : HazardState) (x : Found) (q : Point) (e : ErrandFields) → Lets e.point q d class partly_used h
    → (IsPlain n → after ≡ before) → ((k : ℕ) → word_reserves k n after ≡ word_reserves k n before)
    → ((k : ℕ) → word_keeps k n after ≡ word_keeps k n before) → ((c : ℕ) → word_stock c n after ≡ word_stock c n before)
    → WeighClose n before after e (retired_at e x d q)
lets-weigh n before after d class h x q e lets plain reserves keeps stock =
    grind (arith, lets, plain, reserves, keeps, stock, kept-one, occurs-push, on_its_way, partly_used)

-- a step after which its caller stands at q and has one more descriptor retired
pub record RetiresTo (g : Geometry) (s : State) (caller : ℕ) (d class : ℕ) (h : HazardState) (q : Point) : Type 0 where
  pub after : settle_of (s.errand caller) (found_at s caller) ≡ retired_at (s.errand caller) (found_at s caller) d q
  pub event : event_at s caller ≡ None
  pub exists : d < descriptor_count g
  pub empty : (anchor_for s d).state ≡ phase.Empty
  pub lets : Lets (s.errand caller).point q d class partly_used h
  pub recalls : recalls_of q ≡ []
  pub turn : TurnRetires (s.errand caller).point q (found_at s caller)
  pub full : spare_of q ≡ 1 → is_full (s.errand caller) ≡ true

-- the words after a retirement: the caller's hazard word is 0, anchors and other hazard words stay
record WordsLeft (g : Geometry) (s : State) (caller : ℕ) (e : ErrandFields) (words' : WordName → ℕ) : Type 0 where
  pub weigh : WeighClose (name_at s caller) (word_at s caller) (after_action (action_at s caller) (word_at s caller)) (s.errand caller) e
  pub anchors : (k : ℕ) → words' (name.Anchor k) ≡ s.word (name.Anchor k)
  pub others : (i : ℕ) → i ≢ caller → words' (name.Hazard i) ≡ s.word (name.Hazard i)
  pub own : words' (name.Hazard caller) ≡ 0
  pub actives : ActivesKept g s words'

-- a full list of retired descriptors with one more entry has one more than the heap has callers
full-length : (e : ErrandFields) (d : ℕ) → is_full e ≡ true → length e.retired ≤ e.geometry.callers → length (e.retired ++ d ∷ []) ≡ e.geometry.callers + 1
full-length e d full room =
    omega (arith, leb-true e.geometry.callers (length e.retired) full, room, length-append e.retired (d ∷ []))

-- a caller that retires a descriptor may go on, with these events
pub retired-may :
    (g : Geometry) (s : State) (past : List Event) (l : Lists) (caller : ℕ) (x : Found) (d class : ℕ) (status : Status) (h : HazardState) (q : Point)
    → IsSoundWith g s l → caller < g.callers
    → Lets (s.errand caller).point q d class status h → (spare_of q ≡ 1 → is_full (s.errand caller) ≡ true) → IsWithout s d
    → All (IsSo g (record s { history = past }) l caller) (recalls_of q)
    → CountsGo caller past (s.errand caller) (retired_at (s.errand caller) x d q)
    → MayGoOn g (record s { history = past }) l caller (s.errand caller) (retired_at (s.errand caller) x d q)
retired-may g s past l caller x d class status h q old has lets full without so counts =
    let e = s.errand caller in
    let own = old.formed.errands caller has in
    nothing-may g (record s { history = past }) l caller e (retired_at e x d q) lets.bare
    (All-append (IsWithout s) e.retired (d ∷ []) (old.kept.retired caller has) (All-cons (IsWithout s) d [] without (All-nil (IsWithout s))))
    (λ spare.
    let room : length e.retired ≤ e.geometry.callers = omega (arith, own.rule.room, lets.spare) in
    full-length e d (full spare) room ∙ ap (λ o. o.callers + 1) own.geometry)
    so
    (λ place b. absurd (keeps-excepts (keep d class status) h place (subst (λ held. HoldsException held place) lets.before b)))
    counts

-- a step that retires a descriptor keeps the state sound
retire-sound :
    (g : Geometry) (s : State) (caller : ℕ) (s' : State) (d class : ℕ) (h : HazardState) (q : Point) → IsSoundWithoutCounts g s → caller < g.callers
    → RetiresTo g s caller d class h q
    → ((l : Lists) → IsSoundWith g s l → WordsLeft g s caller (retired_at (s.errand caller) (found_at s caller) d q) s'.word) → Step s caller s'
    → IsSoundWithoutCounts g s'
retire-sound g s caller s' d class h q sound has to left step =
    let l = sound.parts.0 in
    let old = sound.parts.1 in
    let words = left l old in
    let x = found_at s caller in
    let e = retired_at (s.errand caller) x d q in
    let own = old.formed.errands caller has in
    let exists : Exists g (name_at s caller) =
    subst (λ o. Exists o (name_at s caller)) own.geometry
    (plan-exists (s.errand caller).geometry (s.errand caller).caller (s.errand caller).point own.rule.geometry own.rule.caller own.rule.point) in
    let moves : Moves s.errand caller e s'.errand = subst (λ f. Moves s.errand caller f s'.errand) to.after step.errand in
    let past : s'.history ≡ s.history = step.history ∙ ap (with_event s.history) to.event in
    let anchors = λ (k : ℕ). ap anchor_of (words.anchors k) in
    let away = lets-away d class h (found_at s caller) q (s.errand caller) to.lets in
    let keeps : 1 ≤ errand_keeps partly_used d (s.errand caller) =
    rw to.lets.before (kept-itself partly_used d class) in
    let near = keeps-near g s l caller d old has to.exists keeps in
    let cleared = raised-by (counts_cleared (s.errand caller).point x) (s.errand caller).cleared
    (cleared-below g s (record { checked = sound.checked; legal = sound.legal; parts = (l, old) }) caller has) in
    silent-sound g s caller s' l sound has step past
    (sound-alike g s l caller e s'
    (record {
      in_heap = has;
      moves = moves;
      alike =
          weigh-close g s l caller (name_at s caller) _ e s' exists has step.word moves past
          (away-bound g s l caller d e s' has moves away anchors to.empty) words.weigh;
      may =
          retired-may g s s.history l caller x d class partly_used h q old has to.lets to.full
          (inr to.empty) (subst (All (IsSo g s l caller)) (sym to.recalls) (All-nil (IsSo g s l caller)))
          (record {
            own = record {
              turns = omega (arith, old.turned.own_turns caller has, to.turn.under_way);
              lost =
                  omega (
                    arith,
                    old.turned.own_lost caller has,
                    to.turn.discards,
                    to.turn.unanswered,
                    raised-least (counts_lost (s.errand caller).point x) (s.errand caller).lost own.lost,
                  );
              answers = omega (arith, old.turned.own_answers caller has, to.turn.unanswered);
            };
            frame_turns = omega (arith, to.turn.unframed);
            list_turns = omega (arith, to.turn.pops, cleared);
          });
      others = words.others;
      guards = nothing-guards g s caller q e.retired (s'.word (name.Hazard caller)) to.lets.bare words.own;
      actives = words.actives;
      emptied =
          let one = away-emptied g s l caller d e s' has moves away anchors to.empty to.exists near in
          omega (arith, one, cleared, one_if-most (counts_cleared (s.errand caller).point x));
    })
    old)

-- a retirement whose word stays keeps the state sound, where the caller's hazard word was 0
retire-reads :
    (g : Geometry) (s : State) (caller : ℕ) (s' : State) (d class : ℕ) (q : Point) → IsSoundWithoutCounts g s → caller < g.callers
    → RetiresTo g s caller d class clear q → after_action (action_at s caller) (word_at s caller) ≡ word_at s caller → Step s caller s' → IsSoundWithoutCounts g s'
retire-reads g s caller s' d class q sound has to same step =
    let n = name_at s caller in
    let words = words-stay s.word n _ s'.word step.word same in
    retire-sound g s caller s' d class clear q sound has to
    (λ l old. record {
      weigh =
          lets-weigh n (s.word n) _ d class clear (found_at s caller) q (s.errand caller) to.lets (λ plain. same) (λ k. ap (word_reserves k n) same)
          (λ k. ap (word_keeps k n) same) (λ c. ap (word_stock c n) same);
      anchors = λ k. words (name.Anchor k);
      others = λ i differ. words (name.Hazard i);
      own = words (name.Hazard caller) ∙ subst (λ held. IsHazard held.hazard (s.word (name.Hazard caller))) to.lets.before (old.guarded.words caller has);
      actives = actives-stay g s l s'.word old.kept words;
    })
    step

-- what a retirement weighs that clears its caller's hazard word
hazard-close :
    (n : WordName) (i before after d class : ℕ) (h : HazardState) (x : Found) (q : Point) (e : ErrandFields) → n ≡ name.Hazard i
    → Lets e.point q d class partly_used h → WeighClose n before after e (retired_at e x d q)
hazard-close n i before after d class h x q e is lets =
    let here : WeighClose (name.Hazard i) before after e (retired_at e x d q) =
    lets-weigh (name.Hazard i) before after d class h x q e lets (λ plain. absurd plain) (λ k. refl) (λ k. refl) (λ c. refl) in
    subst (λ m. WeighClose m before after e (retired_at e x d q)) (sym is) here

retire-clears :
    (g : Geometry) (s : State) (caller : ℕ) (s' : State) (d class : ℕ) (h : HazardState) (q : Point) → IsSoundWithoutCounts g s → caller < g.callers
    → RetiresTo g s caller d class h q → name_at s caller ≡ name.Hazard caller → after_action (action_at s caller) (word_at s caller) ≡ 0
    → Step s caller s' → IsSoundWithoutCounts g s'
retire-clears g s caller s' d class h q sound has to named bare step =
    let n = name_at s caller in
    let v = after_action (action_at s caller) (word_at s caller) in
    let written : Writes s.word n v s'.word = step.word in
    let w : Writes s.word (name.Hazard caller) v s'.word = subst (λ m. Writes s.word m v s'.word) named written in
    retire-sound g s caller s' d class h q sound has to
    (λ l old. record {
      weigh = hazard-close n caller (s.word n) v d class h (found_at s caller) q (s.errand caller) named to.lets;
      anchors = λ k. w.elsewhere (name.Anchor k) (λ same. cc);
      others = λ i differ. w.elsewhere (name.Hazard i) (λ same. differ (ap hazard_caller same));
      own = w.here ∙ bare;
      actives = hazard-actives g s l caller v s'.word old w;
    })
    step

-- the call is resumed at the point, or ends
abbrev pub ResumesAt : SeatFields → Continuation → Point → Type 0
ResumesAt s o q = (resumed s o ≡ At q) ⊎ ((q ≡ Idle) × ((r : Reply) × (resumed s o ≡ End r)))

resumes-after :
    (e : ErrandFields) (x : Found) (s : SeatFields) (d : ℕ) (o : Continuation) (q : Point) → next_of e.point x ≡ Retire s d o → is_full e ≡ false
    → ResumesAt s o q → settle_of e x ≡ retired_at e x d q
resumes-after e x s d o q is few (inl to) = settle-resumed e x s d o q is few to
resumes-after e x s d o q is few (inr to) =
    subst (λ r. settle_of e x ≡ retired_at e x d r) (sym to.0) (settle-resumed-end e x s d o is few to.1.0 to.1.1)

-- a step from p that retires a descriptor, after which a scan begins or the call is resumed at q
pub record Retires (g : Geometry) (s : State) (caller : ℕ) (p : Point) (seat : SeatFields) (d : ℕ) (h : HazardState) (o : Continuation) (q : Point) : Type 0 where
  pub next : next_of p (found_from s p) ≡ Retire seat d o
  pub resumes : ResumesAt seat o q
  pub event : event_of caller p (found_from s p) ≡ None
  pub exists : d < descriptor_count g
  pub empty : (anchor_for s d).state ≡ phase.Empty
  pub before : holds_of p ≡ record nothing { kept = keep d seat.class partly_used; hazard = h }
  pub waits : (c : ℕ) → waits_in c p ≡ 0
  pub spare : spare_of p ≡ 0
  pub bare : HoldsNothing q
  pub recalls : recalls_of q ≡ []
  pub unrefused : resumed_recalls seat o ≡ []
  pub unspared : spare_of q ≡ 0
  pub turn : TurnRetires p q (found_from s p)
  pub scans : TurnRetires p (scan_begins seat o) (found_from s p)

-- a retirement leads to a scan, or resumes the call
retires-to :
    (g : Geometry) (s : State) (caller : ℕ) (seat : SeatFields) (d : ℕ) (h : HazardState) (o : Continuation) (q : Point) (P : Type 0)
    → Retires g s caller (s.errand caller).point seat d h o q → ((r : Point) → RetiresTo g s caller d seat.class h r → P) → P
unfolding recalls_of
retires-to g s caller seat d h o q P r leads =
    let e = s.errand caller in
    elim (cases_Bool (is_full e)) [
      | inl full ↦
          leads (scan_begins seat o)
          (record {
            after = settle-full e (found_at s caller) seat d o r.next full;
            event = r.event;
            exists = r.exists;
            empty = r.empty;
            lets = record { before = r.before; bare = scan-nothing seat o; waits = r.waits; spare = r.spare };
            recalls = r.unrefused;
            turn = r.scans;
            full = λ spare. full;
          })
      | inr few ↦
          leads q
          (record {
            after = resumes-after e (found_at s caller) seat d o q r.next few r.resumes;
            event = r.event;
            exists = r.exists;
            empty = r.empty;
            lets = record { before = r.before; bare = r.bare; waits = r.waits; spare = r.spare };
            recalls = r.recalls;
            turn = r.turn;
            full = λ spare. let bad : ⊥ = omega (arith, spare, r.unspared) in absurd bad;
          })
    ]

-- a retirement that leaves its point's word keeps the state sound
pub retire-at :
    (g : Geometry) (s : State) (caller : ℕ) (s' : State) (p : Point) (seat : SeatFields) (d : ℕ) (o : Continuation) (q : Point) → IsSoundWithoutCounts g s
    → caller < g.callers → (s.errand caller).point ≡ p → Retires g s caller p seat d clear o q
    → after_action (plan_point_of p) (s.word (name_of (plan_point_of p))) ≡ s.word (name_of (plan_point_of p)) → Step s caller s' → IsSoundWithoutCounts g s'
retire-at g s caller s' p seat d o q sound has stands h same step =
    let r : Retires g s caller (s.errand caller).point seat d clear o q = subst (λ z. Retires g s caller z seat d clear o q) (sym stands) h in
    let stays : after_action (action_at s caller) (word_at s caller) ≡ word_at s caller =
    subst (λ z. after_action (plan_point_of z) (s.word (name_of (plan_point_of z))) ≡ s.word (name_of (plan_point_of z))) (sym stands) same in
    retires-to g s caller seat d clear o q (IsSoundWithoutCounts g s') r (λ z to. retire-reads g s caller s' d seat.class z sound has to stays step)

-- a retirement that clears the caller's hazard word keeps the state sound
pub retire-clearing :
    (g : Geometry) (s : State) (caller : ℕ) (s' : State) (p : Point) (seat : SeatFields) (d : ℕ) (h : HazardState) (o : Continuation) (q : Point)
    → IsSoundWithoutCounts g s → caller < g.callers → (s.errand caller).point ≡ p → Retires g s caller p seat d h o q
    → name_of (plan_point_of p) ≡ name.Hazard caller → after_action (plan_point_of p) (s.word (name_of (plan_point_of p))) ≡ 0
    → Step s caller s' → IsSoundWithoutCounts g s'
retire-clearing g s caller s' p seat d h o q sound has stands k named bare step =
    let r : Retires g s caller (s.errand caller).point seat d h o q = subst (λ z. Retires g s caller z seat d h o q) (sym stands) k in
    let own : name_at s caller ≡ name.Hazard caller = subst (λ z. name_of (plan_point_of z) ≡ name.Hazard caller) (sym stands) named in
    let clears : after_action (action_at s caller) (word_at s caller) ≡ 0 =
    subst (λ z. after_action (plan_point_of z) (s.word (name_of (plan_point_of z))) ≡ 0) (sym stands) bare in
    retires-to g s caller seat d h o q (IsSoundWithoutCounts g s') r (λ z to. retire-clears g s caller s' d seat.class h z sound has to own clears step)
