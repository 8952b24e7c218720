-- A step that stores its caller's hazard word, or reads one, and after which the caller holds what else it held.
use Rattle.std.proofs.Common.{ℕ, refl, false, Option, Some, None, ◌≡◌, ◌<◌, ◌+◌, List, length, arith, ap, sym, subst, inr, ◌⊎◌, ◌∙◌, All}
use Rattle.std.proofs.lemmas.Option.{none-some}
use Rattle.std.specs.List.{AllByRecursion}
use Rattle.std.proofs.lemmas.List.Elements.{All-from_recursion}
use Rattle.sound_state.proofs.Common.{FitsPoint, found_by, name_at, point_after, Next, Store, Geometry, Found, WordName, name_of, after_action, Writes, At, Pick}
use Rattle.sound_state.proofs.Common.{Continuation, Point, Desc, SeatFields, ErrandFields, counts_cleared, settle_of, course_of, event_of, spare_of, pushed_by}
use Rattle.sound_state.proofs.Common.{next_of, plan_point_of, State, Step, found_at, IsHazard, IsGuard, passed_by, held_by, holds_of, IsKeptAs, word_keeps, Lists}
use Rattle.sound_state.proofs.Common.{IsSo, recalls_of, IsSoundWithoutCounts, IsSoundWith, waits_in, word_stock, stock_among, word_reserves, first_unheld, Guards}
use Rattle.sound_state.proofs.Common.{IsPlain}
use Rattle.word_table.specs.declared.name.WordName.TheVariants as name
use Rattle.step_parts.specs.declared.hazard.point.DescPoint.TheVariants as desc
use Rattle.sound_state.proofs.shared.ShownLemmas.{GuardsAnew, MayGuard}
use Rattle.sound_state.proofs.shared.StepLemmas.{PointStands, TurnGoes, at_point, settle-at, found_from, actives-stay, words-stay, settle-next, LeadsOrEnds}
use Rattle.sound_state.proofs.shared.PointLemmas.{fits-now, excepts-with, stands-with, recalled-at}
use Rattle.sound_state.proofs.shared.KeepsSound.{KeepsSound}
use Rattle.sound_state.proofs.shared.WeighLemmas.{WeighMost}
use Rattle.sound_state.proofs.shared.SuperblocksStay.{actives-same, ActivesKept}
use Rattle.sound_state.proofs.SoundSteps.{step-most}

-- at q a caller holds what it holds at p, but for its hazard word, and is no further back in its turn
pub record HoldsBut (p q : Point) : Type 0 where
  pub credits : (holds_of q).credits ≡ (holds_of p).credits
  pub kept : (holds_of q).kept ≡ (holds_of p).kept
  pub frames : (holds_of q).frames ≡ (holds_of p).frames
  pub hands : (holds_of q).hands ≡ (holds_of p).hands
  pub frees : (holds_of q).frees ≡ (holds_of p).frees
  pub stock : (class : ℕ) → stock_among class (holds_of q).kept + waits_in class q ≡ stock_among class (holds_of p).kept + waits_in class p
  pub spare : spare_of q ≡ spare_of p
  pub turn : TurnGoes p q

-- a caller that holds the same but for its hazard word may stand at the point, where what it remembers is so
but-stands :
    (g : Geometry) (s : State) (l : Lists) (caller : ℕ) (q : Point) → IsSoundWith g s l → caller < g.callers → HoldsBut (s.errand caller).point q
    → All (IsSo g s l caller) (recalls_of q) → PointStands g s l caller (s.errand caller).point q
but-stands g s l caller q old has h so = record {
  point =
      stands-with g s l caller (s.errand caller).point q old has refl h.hands h.frees
      (subst (λ ks. All (λ k. IsKeptAs s k.status k.desc k.class) ks) (sym h.kept) (old.kept.errand caller has)) so;
  spare = h.spare;
  excepts = excepts-with (holds_of (s.errand caller).point) (holds_of q) h.hands h.frees;
  turn = h.turn;
}

-- a word that weighs nothing, or stays, and an errand that holds the same weigh what they did
but-weighs :
    (n : WordName) (before after : ℕ) (e : ErrandFields) (x : Found) (q : Point) → HoldsBut e.point q → (IsPlain n → after ≡ before)
    → ((d : ℕ) → word_reserves d n after ≡ word_reserves d n before) → ((d : ℕ) → word_keeps d n after ≡ word_keeps d n before)
    → ((class : ℕ) → word_stock class n after ≡ word_stock class n before) → WeighMost n before after e (at_point e x q)
but-weighs n before after e x q h plain reserves keeps stock = grind (arith, h, plain, reserves, keeps, stock)

-- what a step from p to q needs that stores or reads hazard words, where this is the caller's hazard word after it
pub record GoesHazard (g : Geometry) (s : State) (l : Lists) (caller : ℕ) (p q : Point) (word : ℕ) : Type 0 where
  pub event : event_of caller p (found_from s p) ≡ None
  pub cleared : counts_cleared p (found_from s p) ≡ false
  pub holds : HoldsBut p q
  pub so : All (IsSo g s l caller) (recalls_of q)
  pub guards : MayGuard g s caller q (s.errand caller).retired word

-- a step at the point leads to the other one
pub leads-at :
    (s : State) (caller : ℕ) (p q : Point) → (s.errand caller).point ≡ p → next_of p (found_from s p) ≡ At q
    → settle_of (s.errand caller) (found_at s caller) ≡ at_point (s.errand caller) (found_at s caller) q
leads-at s caller p q stands next = grind (arith, stands, next, settle-at)

-- the point at which a scan ends: the push of what it picked, or the same point where it picked nothing
abbrev pub picked_point : Point → SeatFields → Continuation → Option ℕ → Point
picked_point p seat o None = p
picked_point p seat o (Some d) = Desc (desc.LoadHeadToPush seat d) o

settle-picked :
    (e : ErrandFields) (x : Found) (seat : SeatFields) (held : List ℕ) (o : Continuation) (r : Option ℕ) → next_of e.point x ≡ Pick seat held o
    → first_unheld held e.retired ≡ r → settle_of e x ≡ at_point e x (picked_point e.point seat o r)
unfolding settle_of course_of
settle-picked e x seat held o r is pick = grind (arith, is, pick)

pub picks-at :
    (s : State) (caller : ℕ) (p : Point) (seat : SeatFields) (held : List ℕ) (o : Continuation) (r : Option ℕ) → (s.errand caller).point ≡ p
    → next_of p (found_from s p) ≡ Pick seat held o → first_unheld held (s.errand caller).retired ≡ r
    → settle_of (s.errand caller) (found_at s caller) ≡ at_point (s.errand caller) (found_at s caller) (picked_point p seat o r)
picks-at s caller p seat held o r stands next pick = grind (arith, stands, next, pick, settle-picked)

-- a step that leaves its word, after which its caller holds what else it held, keeps the state sound
pub read-hazard :
    (g : Geometry) (s : State) (caller : ℕ) (s' : State) (p q : Point) → IsSoundWithoutCounts g s → caller < g.callers → (s.errand caller).point ≡ p
    → settle_of (s.errand caller) (found_at s caller) ≡ at_point (s.errand caller) (found_at s caller) q
    → after_action (plan_point_of p) (s.word (name_of (plan_point_of p))) ≡ s.word (name_of (plan_point_of p))
    → ((l : Lists) → IsSoundWith g s l → GoesHazard g s l caller p q (s.word (name.Hazard caller))) → Step s caller s' → IsSoundWithoutCounts g s'
read-hazard g s caller s' p q sound has at after word goes step =
    let n = name_of (plan_point_of (s.errand caller).point) in
    let same : after_action (plan_point_of (s.errand caller).point) (s.word n) ≡ s.word n =
    subst (λ r. after_action (plan_point_of r) (s.word (name_of (plan_point_of r))) ≡ s.word (name_of (plan_point_of r))) (sym at) word in
    let went = λ (l : Lists) (old : IsSoundWith g s l). subst (λ r. GoesHazard g s l caller r q (s.word (name.Hazard caller))) (sym at) (goes l old) in
    let stay = words-stay s.word n _ s'.word step.word same in
    step-most g s caller s' q sound has
    (λ l old.
    let to : GoesHazard g s l caller (s.errand caller).point q (s.word (name.Hazard caller)) = went l old in
    record {
      after = after;
      event = to.event;
      cleared = to.cleared;
      stands = but-stands g s l caller q old has to.holds to.so;
      weigh =
          but-weighs n (s.word n) _ (s.errand caller) (found_at s caller) q to.holds (λ plain. same) (λ d. ap (word_reserves d n) same)
          (λ d. ap (word_keeps d n) same) (λ class. ap (word_stock class n) same);
    })
    (λ l old. actives-stay g s l s'.word old.kept stay)
    (λ l old.
    let to : GoesHazard g s l caller (s.errand caller).point q (s.word (name.Hazard caller)) = went l old in
    record {
      others = λ i differ. stay (name.Hazard i);
      guards = subst (MayGuard g s caller q (s.errand caller).retired) (sym (stay (name.Hazard caller))) to.guards;
    })
    step

-- the caller whose hazard word this is
abbrev pub hazard_caller : WordName → ℕ
hazard_caller (name.Hazard caller) = caller
hazard_caller n = 0

-- a store to a hazard word changes no active word and no slot
pub hazard-actives :
    (g : Geometry) (s : State) (l : Lists) (i new : ℕ) (words' : WordName → ℕ) → IsSoundWith g s l
    → Writes s.word (name.Hazard i) new words' → ActivesKept g s words'
hazard-actives g s l i new words' old w = grind (arith, old, w, actives-same)

-- a store to a hazard word, and an errand that holds what else it held, weigh what they did
hazard-weighs :
    (n : WordName) (i before after : ℕ) (e : ErrandFields) (x : Found) (q : Point) → n ≡ name.Hazard i → HoldsBut e.point q
    → WeighMost n before after e (at_point e x q)
hazard-weighs n i before after e x q is h = grind (arith, is, h, but-weighs)

-- a caller may guard at a point at which nothing is pushed and nothing scanned
pub plain-guards :
    (g : Geometry) (s : State) (caller : ℕ) (q : Point) (retired : List ℕ) (word : ℕ) → IsHazard (holds_of q).hazard word
    → ((d : ℕ) → word ≡ d + 1 → IsGuard (holds_of q).hazard → Guards s caller d ⊎ GuardsAnew g s q d) → pushed_by q ≡ None
    → passed_by q ≡ 0 → length (held_by q) ≡ 0 → MayGuard g s caller q retired word
plain-guards g s caller q retired word hazard guard pushed passed unread = grind (arith, hazard, guard, pushed, passed, unread, none-some)

-- the point stores this into the hazard word of the caller i, and leads on or ends the call, which holds there what else it held
pub record StoresOwn (p : Point) (n : Next) (i new : ℕ) : Type 0 where
  pub plain : LeadsOrEnds n
  pub plan : plan_point_of p ≡ Store (name.Hazard i) new
  pub next : (w : ℕ) → next_of p (found_by (plan_point_of p) w) ≡ n
  pub event : (caller w : ℕ) → event_of caller p (found_by (plan_point_of p) w) ≡ None
  pub cleared : (w : ℕ) → counts_cleared p (found_by (plan_point_of p) w) ≡ false
  pub holds : HoldsBut p (point_after n)
  pub recalls :
      (g : Geometry) (s : State) (l : Lists) (caller : ℕ) → AllByRecursion (IsSo g s l caller) (recalls_of p)
      → AllByRecursion (IsSo g s l caller) (recalls_of (point_after n))
  pub hazard : IsHazard (holds_of (point_after n)).hazard new
  pub pushed : pushed_by (point_after n) ≡ None
  pub passed : passed_by (point_after n) ≡ 0
  pub unread : length (held_by (point_after n)) ≡ 0

-- a step that stores its caller's own hazard word, and guards then only what it may guard anew, keeps the state sound
pub store-own :
    (p : Point) (n : Next) (i new : ℕ) → StoresOwn p n i new
    → ((g : Geometry) (caller : ℕ) → FitsPoint g caller p → i ≡ caller)
    → ((g : Geometry) (s : State) (l : Lists) (caller : ℕ) → IsSoundWith g s l → caller < g.callers → (s.errand caller).point ≡ p
    → (d : ℕ) → new ≡ d + 1 → IsGuard (holds_of (point_after n)).hazard → GuardsAnew g s (point_after n) d) → KeepsSound p
store-own p n i new given fits anew g s caller s' sound has stands step =
    let e = s.errand caller in
    let q = point_after n in
    let own : i ≡ caller = fits g caller (fits-now g s caller p sound has stands) in
    let h : StoresOwn e.point n i new = subst (λ r. StoresOwn r n i new) (sym stands) given in
    let w : Writes s.word (name.Hazard caller) new s'.word =
    subst (λ j. Writes s.word (name.Hazard j) new s'.word) own
    (subst (λ a. Writes s.word (name_of a) (after_action a (s.word (name_of a))) s'.word) h.plan step.word) in
    step-most g s caller s' q sound has
    (λ l old. record {
      after = settle-next e (found_at s caller) n h.plain (h.next _);
      event = h.event caller _;
      cleared = h.cleared _;
      stands =
          but-stands g s l caller q old has h.holds
          (All-from_recursion (IsSo g s l caller) (recalls_of q) (given.recalls g s l caller (recalled-at g s l caller p old has stands)));
      weigh = hazard-weighs (name_at s caller) caller _ _ e (found_at s caller) q (ap name_of h.plan ∙ ap name.Hazard own) h.holds;
    })
    (λ l old. hazard-actives g s l caller new s'.word old w)
    (λ l old. record {
      others = λ j differ. w.elsewhere (name.Hazard j) (λ same. differ (ap hazard_caller same));
      guards = subst (MayGuard g s caller q e.retired) (sym w.here)
          (plain-guards g s caller q e.retired new h.hazard (λ d is guard. inr (anew g s l caller old has stands d is guard)) h.pushed h.passed h.unread);
    })
    step
