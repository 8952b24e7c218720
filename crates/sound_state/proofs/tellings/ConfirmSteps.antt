-- A look that finds no partial superblock, and a refusal for want of a frame, keep the state sound.
use Rattle.sound_state.proofs.Common.{turn_stage_of, in_turn, is_unneeded, Geometry, Small, need_of, HeadFields, head_of, Found, name_of, after_action, SeatFields, Pile}
use Rattle.sound_state.proofs.Common.{Frames, Partials, head_name, next_in, At, Retire, Continuation, Point, Idle, Stack, Desc, ErrandFields, settle_of, raised}
use Rattle.sound_state.proofs.Common.{counts_lost, counts_cleared, event_of, FitsPoint, spare_of, next_of, plan_point_of, State, Step, action_at, word_at, found_at}
use Rattle.sound_state.proofs.Common.{IsHazard, holds_of, on_its_way, partly_used, IsWithout, IsKeptAs, Lists, IsSo, recalls_of, IsSoundWithoutCounts, IsSoundWith}
use Rattle.sound_state.proofs.Common.{errand_stock, one_if, pops_left, gives_small, refuses_small, lacks_frame, lacks_partial, lacks_answer, SMALL_MOST, head_word}
use Rattle.sound_state.proofs.Common.{head_of-head_word, Looked, Refuse, is_full, scan_begins, confirms, event_at, clear}
use Rattle.sound_state.proofs.quiet.QuietStacks.{confirm_empty_lost-sound}
use Rattle.std.proofs.Common.{ℕ, true, false, cond, Some, ◌≡◌, ◌<◌, ◌≤◌, ◌+◌, List, [], ◌∷◌, ◌++◌, refl, arith, ap, sym, subst, inl, inr, ◌∙◌, eq-eqb, ne_eqb, ◌==◌}
use Rattle.std.proofs.Common.{if◌then◌else◌, All, IsTrue, count_by, nat_le}
use Rattle.std.proofs.lemmas.Bool.{cases_eq, cases_Bool, cond-true, cond-false}
use Rattle.std.proofs.lemmas.Option.{none-some}
use Rattle.std.proofs.lemmas.List.Elements.{All-cons, All-nil}
use Rattle.word_table.specs.declared.name.WordName.TheVariants as name
use Rattle.step_parts.specs.declared.stack.point.StackPoint.TheVariants as stack
use Rattle.step_parts.specs.stack.Points.{IsBare}
use Rattle.step_parts.specs.declared.hazard.point.DescPoint.TheVariants as desc
use Rattle.pool_model.specs.Legal.{IsRefusable}
use Rattle.errand_steps.specs.declared.continuation.Continuation.TheVariants as continuation
use Rattle.errand_steps.specs.declared.reply.Reply.TheVariants as reply
use Rattle.sound_state.proofs.shared.EventFacts.{counted-not, told-counts, refused-ends}
use Rattle.sound_state.proofs.shared.ListFacts.{occurs-push}
use Rattle.sound_state.proofs.shared.ShownLemmas.{MayGoOn, MayGuard}
use Rattle.sound_state.proofs.shared.StackedLemmas.{stacked-none}
use Rattle.sound_state.proofs.shared.TurnEffects.{small-served, OwnCounts, own-counts, counts-stay}
use Rattle.sound_state.proofs.tellings.ConfirmLemmas.{WeighTold, StockFor, TellsOn, step-tells}
use Rattle.sound_state.proofs.tellings.LookLemmas.{look-stock}
use Rattle.sound_state.proofs.shared.HasLemmas.{kept-one}
use Rattle.sound_state.proofs.shared.NothingLemmas.{HoldsNothing, idle-nothing, scan-nothing, keeps-excepts, nothing-guards}
use Rattle.sound_state.proofs.shared.PointLemmas.{fits-at, recalled-at}
use Rattle.sound_state.proofs.retirements.RetireLemmas.{Lets, retired_at, retired-may, settle-full, settle-resumed-end}
use Rattle.sound_state.proofs.shared.StepLemmas.{PointStands, raised-least, TurnGoes, at_point, settle-at, may-after, found_from}
use Rattle.sound_state.proofs.tellings.TellLemmas.{IsTold, told_state, told-ends}
use Rattle.sound_state.proofs.shared.KeepsSound.{KeepsSound, KeepsSoundWhere, either-sound}
use Rattle.sound_state.proofs.SoundAfter.{told-sound, IsSoundBut}

-- a look, and a refusal, are events that leave the pool and count no block
looked-told : (g : Geometry) (caller class : ℕ) → IsTold g caller (Looked caller class)
looked-told g caller class =
    record { number = refl; pool = λ pool. refl; gives = λ i. refl; refuses = λ i differ. refl; allocs = refl; frees = refl }

refused-told : (g : Geometry) (caller words : ℕ) → IsTold g caller (Refuse caller words)
refused-told g caller words = grind (arith, ne_eqb)

-- the point of a look, by which a caller confirms that its class's list is empty, and where it leads
abbrev looking : SeatFields → HeadFields → ℕ → Point
looking seat h words = Stack (stack.ConfirmEmpty seat Partials h) (continuation.Alloc words)

abbrev waiting_one : SeatFields → ℕ → Point
waiting_one seat words = Desc (desc.LoadDescHead seat) (continuation.Alloc words)

look-turn : (seat : SeatFields) (h : HeadFields) (words : ℕ) → TurnGoes (looking seat h words) (waiting_one seat words)
look-turn seat h words = grind (arith)

look-stands :
    (g : Geometry) (s : State) (l : Lists) (caller : ℕ) (seat : SeatFields) (h : HeadFields) (words : ℕ)
    → PointStands g (told_state s (Looked caller seat.class)) l caller (looking seat h words) (waiting_one seat words)
unfolding holds_of recalls_of
look-stands g s l caller seat h words = grind (arith, keeps-excepts, look-turn, told-ends, told_state)

look-weigh :
    (e : ErrandFields) (x : Found) (seat : SeatFields) (h : HeadFields) (words : ℕ) → e.point ≡ looking seat h words
    → WeighTold e (at_point e x (waiting_one seat words))
unfolding holds_of
look-weigh e x seat h words stands = grind (arith, stands)

look-kept-none : (c : ℕ) (e : ErrandFields) (seat : SeatFields) (h : HeadFields) (words : ℕ) → e.point ≡ looking seat h words → errand_stock c e ≡ 0
unfolding holds_of
look-kept-none c e seat h words stands = rw stands refl

waits-one :
    (c : ℕ) (e : ErrandFields) (x : Found) (seat : SeatFields) (words : ℕ)
    → errand_stock c (at_point e x (waiting_one seat words)) ≡ (if seat.class == c then 1 else 0)
unfolding holds_of
waits-one c e x seat words = omega arith

look-room :
    (g : Geometry) (s : State) (l : Lists) (caller : ℕ) (x : Found) (seat : SeatFields) (h : HeadFields) (words : ℕ) → IsSoundWith g s l
    → caller < g.callers → (s.errand caller).point ≡ looking seat h words → l.partials seat.class ≡ []
    → StockFor g s l (s.errand caller) (at_point (s.errand caller) x (waiting_one seat words))
look-room g s l caller x seat h words old has stands bare class is =
    let one = waits-one class (s.errand caller) x seat words in
    let none = look-kept-none class (s.errand caller) seat h words stands in
    elim (cases_eq seat.class class) [
      | inl same ↦
          let there : l.partials class ≡ [] = ap l.partials (sym same) ∙ bare in
          omega (arith, one, cond-true {A = ℕ} (seat.class == class) 1 0 (eq-eqb seat.class class same), look-stock g s l caller class old has there none)
      | inr differ ↦
          omega (arith, one, cond-false {A = ℕ} (seat.class == class) 1 0 (ne_eqb seat.class class differ), old.stocked.most class is)
    ]

look-guards :
    (g : Geometry) (s : State) (caller : ℕ) (seat : SeatFields) (words : ℕ) (retired : List ℕ) (word : ℕ)
    → MayGuard g s caller (waiting_one seat words) retired word
unfolding holds_of
look-guards g s caller seat words retired word = grind (arith, none-some)

-- a class's list is empty, where the head that a caller has read without an index is still there
bare-list :
    (g : Geometry) (s : State) (l : Lists) (caller : ℕ) (seat : SeatFields) (h : HeadFields) → IsSoundWith g s l → IsBare g caller seat h
    → s.word (name.ListHead seat.class) ≡ head_word h → l.partials seat.class ≡ []
bare-list g s l caller seat h old fits same = grind (arith, old, fits, same, head_of, head_of-head_word, next_in, stacked-none)

-- a look that finds no partial superblock keeps the state sound
pub confirm_no_partial-sound :
    (seat : SeatFields) (h : HeadFields) (words : ℕ)
    → KeepsSoundWhere (Stack (stack.ConfirmEmpty seat Partials h) (continuation.Alloc words)) (λ s. s.word (name.ListHead seat.class) ≡ head_word h)
unfolding plan_point_of next_of event_of holds_of recalls_of
confirm_no_partial-sound seat h words g s caller s' sound has stands same step =
    let p = looking seat h words in
    let q = waiting_one seat words in
    let e = s.errand caller in
    let x = found_at s caller in
    let event = Looked caller seat.class in
    let wins = eq-eqb (s.word (name.ListHead seat.class)) (head_word h) same in
    let next : next_of p (found_from s p) ≡ At q = rw wins refl in
    let said : event_of caller p (found_from s p) ≡ Some event = rw wins refl in
    let stays : after_action (plan_point_of p) (s.word (name_of (plan_point_of p))) ≡ s.word (name_of (plan_point_of p)) =
    rw wins (sym same) in
    let after : settle_of e x ≡ at_point e x q =
    settle-at e x q (subst (λ r. next_of r (found_from s r) ≡ At q) (sym stands) next) in
    let fits : FitsPoint g caller p = fits-at g s sound.parts.0 caller p sound.parts.1 has stands in
    let cleared : counts_cleared e.point x ≡ false = ap (λ r. counts_cleared r x) stands in
    step-tells g s caller event (at_point e x q) s' sound has after
    (subst (λ r. event_of caller r (found_from s r) ≡ Some event) (sym stands) said)
    (subst (λ r. after_action (plan_point_of r) (s.word (name_of (plan_point_of r))) ≡ s.word (name_of (plan_point_of r))) (sym stands) stays)
    fits.point.seat.class
    (λ l old.
    let t = told_state s event in
    let but : IsSoundBut g t l caller = told-sound g s l caller event (looked-told g caller seat.class) has old in
    let counts : OwnCounts caller t.history e =
    counts-stay caller s.history t.history e (counted-not (gives_small caller) s.history event refl) (counted-not (refuses_small caller) s.history event refl)
    (own-counts g s l caller old.turned has) in
    record {
      told = looked-told g caller seat.class;
      weigh = look-weigh e x seat h words stands;
      may =
          may-after g t l caller x q but.formed but.kept but.guarded has counts cleared
          (subst (λ r. PointStands g t l caller r q) (sym stands) (look-stands g s l caller seat h words));
      guards = look-guards g t caller seat words e.retired (s.word (name.Hazard caller));
      cleared = ap (λ b. raised b e.cleared) cleared;
      stock = look-room g s l caller x seat h words old has stands (bare-list g s l caller seat h old fits.point same);
    })
    step

-- the point of a refusal, by which a caller confirms that no frame is left, and where it leads
abbrev refusing : SeatFields → HeadFields → ℕ → ℕ → Point
refusing seat h words d = Stack (stack.ConfirmEmpty seat Frames h) (continuation.TakeFrame words d)

abbrev scanning : SeatFields → Point
scanning seat = scan_begins seat continuation.Refuse

-- a turn goes on from p to q by a refusal: it is answered, and no further back
record TurnRefused (p q : Point) : Type 0 where
  under_way : one_if (in_turn q) ≤ one_if (in_turn p)
  discards : one_if (is_unneeded (turn_stage_of q)) ≤ one_if (is_unneeded (turn_stage_of p))
  answered : one_if (lacks_answer (turn_stage_of p)) ≡ one_if (lacks_answer (turn_stage_of q)) + 1
  unframed : one_if (lacks_frame (turn_stage_of q)) ≤ one_if (lacks_frame (turn_stage_of p))
  pops : pops_left q + one_if (lacks_partial (turn_stage_of q)) ≤ pops_left p + one_if (lacks_partial (turn_stage_of p))

-- a caller that is refused lets the descriptor go that it keeps, and holds nothing then
refused-lets :
    (seat : SeatFields) (h : HeadFields) (words d : ℕ) (q : Point) → HoldsNothing q → Lets (refusing seat h words d) q d seat.class on_its_way clear
unfolding holds_of
refused-lets seat h words d q bare = record { before = refl; bare = bare; waits = λ c. refl; spare = refl }

refused-scan : (seat : SeatFields) (h : HeadFields) (words d : ℕ) → TurnRefused (refusing seat h words d) (scanning seat)
refused-scan seat h words d =
    record { under_way = omega arith; discards = omega arith; answered = omega arith; unframed = omega arith; pops = omega arith }

refused-idle : (seat : SeatFields) (h : HeadFields) (words d : ℕ) → TurnRefused (refusing seat h words d) Idle
refused-idle seat h words d =
    record { under_way = omega arith; discards = omega arith; answered = omega arith; unframed = omega arith; pops = omega arith }

refused-weigh :
    (e : ErrandFields) (x : Found) (q : Point) (d class : ℕ) → Lets e.point q d class on_its_way clear → WeighTold e (retired_at e x d q)
refused-weigh e x q d class to = grind (arith, to, kept-one, occurs-push, on_its_way, partly_used)

refused-room :
    (g : Geometry) (s : State) (l : Lists) (caller : ℕ) (x : Found) (q : Point) (d class : ℕ) → IsSoundWith g s l
    → Lets (s.errand caller).point q d class on_its_way clear → StockFor g s l (s.errand caller) (retired_at (s.errand caller) x d q)
refused-room g s l caller x q d class old to c is = grind (arith, old, to, c, is, errand_stock, retired_at)

refuses-one : (caller words : ℕ) → nat_le words SMALL_MOST ≡ true → cond {A = ℕ} (refuses_small caller (Refuse caller words)) 1 0 ≡ 1
refuses-one caller words small = rw (eq-eqb caller caller refl, small) refl

refused-may :
    (g : Geometry) (s : State) (l : Lists) (caller : ℕ) (x : Found) (q : Point) (words d class : ℕ) → IsSoundWith g s l → caller < g.callers
    → counts_cleared (s.errand caller).point x ≡ false
    → nat_le words SMALL_MOST ≡ true → Lets (s.errand caller).point q d class on_its_way clear → TurnRefused (s.errand caller).point q
    → (spare_of q ≡ 1 → is_full (s.errand caller) ≡ true) → All (IsSo g (told_state s (Refuse caller words)) l caller) (recalls_of q)
    → MayGoOn g (told_state s (Refuse caller words)) l caller (s.errand caller) (retired_at (s.errand caller) x d q)
refused-may g s l caller x q words d class old has still small to turn full so =
    let e = s.errand caller in
    let event = Refuse caller words in
    let gives = counted-not (gives_small caller) s.history event refl in
    let refuses : count_by (refuses_small caller) (s.history ++ event ∷ []) ≡ count_by (refuses_small caller) s.history + 1 =
    omega (arith, told-counts (refuses_small caller) s.history event, refuses-one caller words small) in
    let on_way : IsWithout s d =
    subst (λ held. All (λ k. IsKeptAs s k.status k.desc k.class) held.kept) to.before (old.kept.errand caller has) 0
    (record { desc = d; class = class; status = on_its_way }) (omega arith) in
    retired-may g s (s.history ++ event ∷ []) l caller x d class on_its_way clear q old has to full on_way so
    (record {
      own = record {
        turns = omega (arith, old.turned.own_turns caller has, turn.under_way, gives);
        lost =
            omega (
              arith,
              old.turned.own_lost caller has,
              turn.discards,
              turn.answered,
              gives,
              refuses,
              raised-least (counts_lost e.point x) e.lost (old.formed.errands caller has).lost,
            );
        answers = omega (arith, old.turned.own_answers caller has, turn.answered, gives, refuses);
      };
      frame_turns = omega (arith, turn.unframed);
      list_turns = omega (arith, turn.pops, ap (λ b. raised b e.cleared) still);
    })

refused-tells :
    (g : Geometry) (s : State) (l : Lists) (caller : ℕ) (x : Found) (q : Point) (words d class : ℕ) → IsSoundWith g s l → caller < g.callers
    → counts_cleared (s.errand caller).point x ≡ false
    → nat_le words SMALL_MOST ≡ true → Lets (s.errand caller).point q d class on_its_way clear → TurnRefused (s.errand caller).point q
    → (spare_of q ≡ 1 → is_full (s.errand caller) ≡ true) → All (IsSo g (told_state s (Refuse caller words)) l caller) (recalls_of q)
    → TellsOn g s l caller (Refuse caller words) (retired_at (s.errand caller) x d q)
refused-tells g s l caller x q words d class old has still small to turn full so =
    let e = s.errand caller in
    let bare : s.word (name.Hazard caller) ≡ 0 =
    subst (λ held. IsHazard held.hazard (s.word (name.Hazard caller))) to.before (old.guarded.words caller has) in
    record {
      told = refused-told g caller words;
      weigh = refused-weigh e x q d class to;
      may = refused-may g s l caller x q words d class old has still small to turn full so;
      guards = nothing-guards g (told_state s (Refuse caller words)) caller q (retired_at e x d q).retired (s.word (name.Hazard caller)) to.bare bare;
      cleared = ap (λ b. raised b e.cleared) still;
      stock = refused-room g s l caller x q d class old to;
    }

-- a refusal for want of a frame keeps the state sound
pub confirm_no_frame-sound :
    (seat : SeatFields) (h : HeadFields) (words d : ℕ)
    → KeepsSoundWhere (Stack (stack.ConfirmEmpty seat Frames h) (continuation.TakeFrame words d)) (λ s. s.word name.FrameHead ≡ head_word h)
unfolding plan_point_of next_of event_of recalls_of
confirm_no_frame-sound seat h words d g s caller s' sound has stands same step =
    let p = refusing seat h words d in
    let e = s.errand caller in
    let x = found_at s caller in
    let event = Refuse caller words in
    let wins = eq-eqb (s.word name.FrameHead) (head_word h) same in
    let leads : next_of p (found_from s p) ≡ Retire seat d continuation.Refuse = rw wins refl in
    let said : event_of caller p (found_from s p) ≡ Some event = rw wins refl in
    let keeps : after_action (plan_point_of p) (s.word (name_of (plan_point_of p))) ≡ s.word (name_of (plan_point_of p)) =
    rw wins (sym same) in
    let next : next_of e.point x ≡ Retire seat d continuation.Refuse =
    subst (λ r. next_of r (found_from s r) ≡ Retire seat d continuation.Refuse) (sym stands) leads in
    let told : event_at s caller ≡ Some event = subst (λ r. event_of caller r (found_from s r) ≡ Some event) (sym stands) said in
    let stays : after_action (action_at s caller) (word_at s caller) ≡ word_at s caller =
    subst (λ r. after_action (plan_point_of r) (s.word (name_of (plan_point_of r))) ≡ s.word (name_of (plan_point_of r))) (sym stands) keeps in
    let fits : FitsPoint g caller p = fits-at g s sound.parts.0 caller p sound.parts.1 has stands in
    let served : need_of words ≡ Small seat.class = fits.continuation.0 in
    let small : nat_le words SMALL_MOST ≡ true = small-served words seat.class served in
    let cleared : counts_cleared e.point x ≡ false = ap (λ r. counts_cleared r x) stands in
    let (ends, rest) = recalled-at g s sound.parts.0 caller p sound.parts.1 has stands in
    let allowed : IsRefusable g s.history caller (need_of words) = subst (IsRefusable g s.history caller) (sym served) ends in
    elim (cases_Bool (is_full e)) [
      | inl full ↦
          let after = settle-full e x seat d continuation.Refuse next full in
          step-tells g s caller event (retired_at e x d (scanning seat)) s' sound has after told stays allowed
          (λ l old.
          refused-tells g s l caller x (scanning seat) words d seat.class old has cleared small
          (subst (λ r. Lets r (scanning seat) d seat.class on_its_way clear) (sym stands)
          (refused-lets seat h words d (scanning seat) (scan-nothing seat continuation.Refuse)))
          (subst (λ r. TurnRefused r (scanning seat)) (sym stands) (refused-scan seat h words d)) (λ spare. full)
          (All-cons (IsSo g (told_state s event) l caller) _ [] (refused-ends caller s.history words seat.class served ends)
          (All-nil (IsSo g (told_state s event) l caller))))
          step
      | inr few ↦
          let after = settle-resumed-end e x seat d continuation.Refuse next few reply.Refused refl in
          step-tells g s caller event (retired_at e x d Idle) s' sound has after told stays allowed
          (λ l old.
          refused-tells g s l caller x Idle words d seat.class old has cleared small
          (subst (λ r. Lets r Idle d seat.class on_its_way clear) (sym stands) (refused-lets seat h words d Idle idle-nothing))
          (subst (λ r. TurnRefused r Idle) (sym stands) (refused-idle seat h words d))
          (λ spare. let bad : ⊥ = omega (arith, spare) in absurd bad) (All-nil (IsSo g (told_state s event) l caller)))
          step
    ]

-- the look whether the stack is still empty keeps the state sound, where it is
confirm_empty-cases :
    (g : Geometry) (s : State) (caller : ℕ) (s' : State) (seat : SeatFields) (pile : Pile) (h : HeadFields) (o : Continuation) → IsTrue (confirms pile o)
    → IsSoundWithoutCounts g s → caller < g.callers → (s.errand caller).point ≡ Stack (stack.ConfirmEmpty seat pile h) o
    → s.word (head_name seat pile) ≡ head_word h → Step s caller s' → IsSoundWithoutCounts g s'
confirm_empty-cases g s caller s' seat Partials h (continuation.Alloc words) goes sound has stands same step =
    confirm_no_partial-sound seat h words g s caller s' sound has stands same step
confirm_empty-cases g s caller s' seat Frames h (continuation.TakeFrame words d) goes sound has stands same step =
    confirm_no_frame-sound seat h words d g s caller s' sound has stands same step
confirm_empty-cases g s caller s' seat pile h o goes sound has stands same step = absurd (cc)

pub confirm_empty_won-sound :
    (seat : SeatFields) (pile : Pile) (h : HeadFields) (o : Continuation)
    → KeepsSoundWhere (Stack (stack.ConfirmEmpty seat pile h) o) (λ s. s.word (head_name seat pile) ≡ head_word h)
confirm_empty_won-sound seat pile h o g s caller s' sound has stands same step =
    let fits : FitsPoint g caller (Stack (stack.ConfirmEmpty seat pile h) o) =
    fits-at g s sound.parts.0 caller (Stack (stack.ConfirmEmpty seat pile h) o) sound.parts.1 has stands in
    confirm_empty-cases g s caller s' seat pile h o fits.goes sound has stands same step

-- the look whether a stack is still empty, won or lost, keeps the state sound
pub confirm_empty-sound :
    (seat : SeatFields) (pile : Pile) (h : HeadFields) (o : Continuation) → KeepsSound (Stack (stack.ConfirmEmpty seat pile h) o)
confirm_empty-sound seat pile h o =
    either-sound _ (head_name seat pile) (head_word h) (confirm_empty_won-sound seat pile h o)
    (confirm_empty_lost-sound seat pile h o)
