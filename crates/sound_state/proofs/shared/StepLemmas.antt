-- A step that leads from one point to another, and changes nothing that is shown, keeps the state sound.
use Rattle.std.proofs.Common.{ℕ, Bool, false, None, ◌≡◌, ◌≢◌, ◌<◌, ◌≤◌, ◌+◌, ◌^◌, List, length, refl, arith, ap, sym, subst, inl, ◌∙◌, ◌⊎◌, Any, IsSome, IsTrue}
use Rattle.sound_state.proofs.Common.{Geometry, Found, WordName, active_of, name_of, after_action, descriptor_count, Writes, cases_name, Next, At, End, Point, Idle}
use Rattle.sound_state.proofs.Common.{Reply, ErrandFields, settle_of, course_of, raised, counts_lost, counts_cleared, spare_of, pushed_by, next_of, plan_point_of, State}
use Rattle.sound_state.proofs.Common.{action_at, name_at, word_at, found_at, IsGuarded, IsGuard, IsHazard, passed_by, held_by, Holding, holds_of, IsFormed}
use Rattle.sound_state.proofs.Common.{IsKept, Lists, IsSoundWith, turn_stage_of, in_turn, is_unneeded, one_if}
use Rattle.sound_state.proofs.Common.{pops_left, found_by, point_after, plan_of, counts_won, event_at, lacks_frame, lacks_partial, lacks_answer, Event}
use Rattle.word_table.specs.declared.name.WordName.TheVariants as name
use Rattle.sound_state.proofs.shared.ShownLemmas.{MayGoOn, MayGuard, MayStandAt}
use Rattle.sound_state.proofs.shared.WeighLemmas.{WeighMost}
use Rattle.sound_state.proofs.shared.SuperblocksStay.{ActivesKept}
use Rattle.sound_state.proofs.shared.CallerLemmas.{KeepsCounts}
use Rattle.sound_state.proofs.shared.TurnEffects.{CountsGo, OwnCounts, own-counts}

-- a holding excepts the block at the place: it hands that out, or frees it and may have overwritten its prefix word
abbrev pub HoldsException : Holding → ℕ → Type 0
HoldsException h place = Any (λ b. b.place ≡ place) h.hands ⊎ Any (λ b. (b.place ≡ place) × IsTrue b.overwritten) h.frees

-- a call's turn is at q no further back than at p
pub record TurnGoes (p q : Point) : Type 0 where
  pub under_way : one_if (in_turn q) ≤ one_if (in_turn p)
  pub discards : one_if (is_unneeded (turn_stage_of q)) ≤ one_if (is_unneeded (turn_stage_of p))
  pub unanswered : one_if (lacks_answer (turn_stage_of p)) ≡ one_if (lacks_answer (turn_stage_of q))
  pub unframed : one_if (lacks_frame (turn_stage_of q)) ≤ one_if (lacks_frame (turn_stage_of p))
  pub pops :
      pops_left q + one_if (lacks_partial (turn_stage_of q)) ≤ pops_left p + one_if (lacks_partial (turn_stage_of p))

-- a caller may stand at q where it stood at p, but for the hazard words
pub record PointStands (g : Geometry) (s : State) (l : Lists) (caller : ℕ) (p q : Point) : Type 0 where
  pub point : MayStandAt g s l caller q
  pub spare : spare_of q ≡ spare_of p
  pub excepts : (place : ℕ) → HoldsException (holds_of p) place → HoldsException (holds_of q) place
  pub turn : TurnGoes p q

-- a caller may stand at q where it stood at p
pub record PointGoes (g : Geometry) (s : State) (l : Lists) (caller : ℕ) (p q : Point) : Type 0 where
  pub stands : PointStands g s l caller p q
  pub hazard : IsHazard (holds_of q).hazard (s.word (name.Hazard caller))
  pub guard : (d : ℕ) → s.word (name.Hazard caller) ≡ d + 1 → IsGuard (holds_of q).hazard → IsGuard (holds_of p).hazard
  pub pushed : pushed_by q ≡ pushed_by p
  pub passed : passed_by q ≡ 0
  pub unread : length (held_by q) ≡ 0

-- a caller that goes on with the same hazard word, and scans nothing, may guard what it guarded
pub goes-guards :
    (g : Geometry) (s : State) (l : Lists) (caller : ℕ) (q : Point) (retired : List ℕ) (word : ℕ) → IsGuarded g s → caller < g.callers
    → word ≡ s.word (name.Hazard caller) → PointGoes g s l caller (s.errand caller).point q → MayGuard g s caller q retired word
goes-guards g s l caller q retired word guarded has same h = record {
  hazard = subst (IsHazard (holds_of q).hazard) (sym same) h.hazard;
  guard = λ d is guard. inl (record { word = sym same ∙ is; guard = h.guard d (sym same ∙ is) guard });
  pushed = λ i d has_i guards is. guarded.pushed i caller d has_i has guards (sym h.pushed ∙ is);
  passed = λ i d has_i guards listed below. let bad : ⊥ = omega (arith, below, h.passed) in absurd bad;
  unread = λ i passed below. let bad : ⊥ = omega (arith, below, h.unread) in absurd bad;
}

-- a count that may be raised never falls
pub raised-least : (b : Bool) (n : ℕ) → n < 2 ^ 64 → n ≤ raised b n
raised-least b n most = grind (arith)

-- the errand of a caller that a step leads to the point
abbrev pub at_point : ErrandFields → Found → Point → ErrandFields
at_point e x q =
    record e {
      point = q;
      won = raised (counts_won (plan_of e) x) e.won;
      lost = raised (counts_lost e.point x) e.lost;
      cleared = raised (counts_cleared e.point x) e.cleared;
    }

-- the errand after a step that leads to a point stands at that point
pub settle-at : (e : ErrandFields) (x : Found) (q : Point) → next_of e.point x ≡ At q → settle_of e x ≡ at_point e x q
unfolding settle_of course_of
settle-at e x q is = rw is refl

-- the errand after a step that ends the call is idle
pub settle-end : (e : ErrandFields) (x : Found) (r : Reply) → next_of e.point x ≡ End r → settle_of e x ≡ at_point e x Idle
unfolding settle_of course_of
settle-end e x r is = rw is refl

-- a step after which the retired list and the turn stay as they are: it leads to a point, or ends the call
abbrev pub LeadsOrEnds : Next → Type 0
LeadsOrEnds (At q) = Unit {0}
LeadsOrEnds (End r) = Unit {0}
LeadsOrEnds n = ⊥

pub settle-next : (e : ErrandFields) (x : Found) (n : Next) → LeadsOrEnds n → next_of e.point x ≡ n → settle_of e x ≡ at_point e x (point_after n)
settle-next e x (At q) plain is = settle-at e x q is
settle-next e x (End r) plain is = settle-end e x r is
settle-next e x n plain is = absurd plain

-- a caller's counts go on with its turn
pub goes-counts :
    (caller : ℕ) (past : List Event) (e : ErrandFields) (x : Found) (q : Point) → OwnCounts caller past e → e.lost < 2 ^ 64
    → counts_cleared e.point x ≡ false → TurnGoes e.point q → CountsGo caller past e (at_point e x q)
goes-counts caller past e x q counts few still turn = grind (arith, counts, few, still, turn, counts_lost, raised-least)

-- a caller may go on to a point at which it may stand, where what it was given, was refused and lost accounts for its turns
pub may-after :
    (g : Geometry) (s : State) (l : Lists) (caller : ℕ) (x : Found) (q : Point) → IsFormed g s → IsKept g s l → IsGuarded g s → caller < g.callers
    → OwnCounts caller s.history (s.errand caller) → counts_cleared (s.errand caller).point x ≡ false
    → PointStands g s l caller (s.errand caller).point q → MayGoOn g s l caller (s.errand caller) (at_point (s.errand caller) x q)
may-after g s l caller x q formed kept guarded has counts still goes = record {
  stands = record {
    point = goes.point;
    retired = kept.retired caller has;
    full = λ spare. guarded.full caller has (sym goes.spare ∙ spare);
  };
  excepts = λ place x. inl (goes.excepts place x);
  counts = goes-counts caller s.history (s.errand caller) x q counts (formed.errands caller has).lost still goes.turn;
}

-- so a caller of a sound state may
pub may-step :
    (g : Geometry) (s : State) (l : Lists) (caller : ℕ) (x : Found) (q : Point) → IsSoundWith g s l → caller < g.callers
    → counts_cleared (s.errand caller).point x ≡ false → PointStands g s l caller (s.errand caller).point q
    → MayGoOn g s l caller (s.errand caller) (at_point (s.errand caller) x q)
may-step g s l caller x q sound has = may-after g s l caller x q sound.formed sound.kept sound.guarded has (own-counts g s l caller sound.turned has)

-- a caller that goes on to a point, and loses and clears nothing, keeps its counts
pub keeps-counts :
    (e : ErrandFields) (p : Point) (x : Found) (q : Point) → e.point ≡ p → counts_lost p x ≡ false → counts_cleared p x ≡ false
    → KeepsCounts e (at_point e x q)
keeps-counts e p x q here lost cleared = grind (arith, here, lost, cleared, counts_cleared, counts_lost)

-- what the action of a point finds in a state
abbrev pub found_from : State → Point → Found
found_from s p = found_by (plan_point_of p) (s.word (name_of (plan_point_of p)))

-- a write of what was there leaves all words
pub words-stay :
    (words : WordName → ℕ) (n : WordName) (new : ℕ) (words' : WordName → ℕ) → Writes words n new words' → new ≡ words n
    → (m : WordName) → words' m ≡ words m
words-stay words n new words' w same m = grind (arith, w, same, cases_name)

-- active words and slots hold what they held where all words stay
pub actives-stay :
    (g : Geometry) (s : State) (l : Lists) (words' : WordName → ℕ) → IsKept g s l → ((n : WordName) → words' n ≡ s.word n)
    → ActivesKept g s words'
actives-stay g s l words' kept same = record {
  active_words = λ heap class has_heap has_class.
      subst (λ w. IsSome (active_of w)) (sym (same (name.Active heap class))) (kept.active_words heap class has_heap has_class);
  slot_words = λ heap class has_heap has_class.
      subst (λ w. w ≤ descriptor_count g) (sym (same (name.Slot heap class))) (kept.slot_words heap class has_heap has_class);
  active = λ heap class d credits has_heap has_class is.
      kept.active heap class d credits has_heap has_class (ap active_of (sym (same (name.Active heap class))) ∙ is);
  slot = λ heap class d has_heap has_class is. kept.slot heap class d has_heap has_class (sym (same (name.Slot heap class)) ∙ is);
}

-- a step after which its caller stands at the point; the caller's hazard word may change
pub record StepsMost (g : Geometry) (s : State) (l : Lists) (caller : ℕ) (q : Point) : Type 0 where
  pub after : settle_of (s.errand caller) (found_at s caller) ≡ at_point (s.errand caller) (found_at s caller) q
  pub event : event_at s caller ≡ None
  pub cleared : counts_cleared (s.errand caller).point (found_at s caller) ≡ false
  pub stands : PointStands g s l caller (s.errand caller).point q
  pub weigh :
      WeighMost (name_at s caller) (word_at s caller) (after_action (action_at s caller) (word_at s caller)) (s.errand caller)
      (at_point (s.errand caller) (found_at s caller) q)

-- the hazard words after a step: the others' stay, and with its own its caller may stand at the point
pub record HazardsAfter (g : Geometry) (s : State) (caller : ℕ) (q : Point) (words' : WordName → ℕ) : Type 0 where
  pub others : (i : ℕ) → i ≢ caller → words' (name.Hazard i) ≡ s.word (name.Hazard i)
  pub guards : MayGuard g s caller q (s.errand caller).retired (words' (name.Hazard caller))

-- a count that is raised rises by one at most
pub raised-most : (b : Bool) (n : ℕ) → raised b n ≤ n + one_if b
raised-most b n = grind (arith)

-- a count far from its end rises by one where it is raised
pub raised-by : (b : Bool) (n : ℕ) → n + 1 < 2 ^ 64 → raised b n ≡ n + one_if b
raised-by b n most = grind (arith)
