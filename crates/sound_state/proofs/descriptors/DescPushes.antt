-- A won push of a retired descriptor onto the available ones keeps the state sound.
use Rattle.std.proofs.Common.{ℕ, Bool, true, false, None, Some, ◌≡◌, ◌<◌, ◌≤◌, ◌+◌, ◌^◌, List, [], ◌∷◌, zero, suc, length, refl, arith, ap, sym, subst, inl, inr, ◌∙◌, ◌==◌}
use Rattle.std.proofs.Common.{All, Contains, IsTrue, IfSome, if◌then◌else◌, eq-eqb, ne_eqb}
use Rattle.std.proofs.lemmas.Bool.{cases_eq, cond-true, cond-false}
use Rattle.std.proofs.lemmas.List.Elements.{All-nil, All-cons, All-head, All-tail}
use Rattle.sound_state.proofs.Common.{Geometry, Found, name_of, after_action, descriptor_count, SeatFields, Writes, occurs, Partials, Stacked, next_in, Next, At, End}
use Rattle.sound_state.proofs.Common.{Unlist, Continuation, Point, Block, Desc, ErrandFields, settle_of, course_of, raised, counts_lost, counts_cleared, event_of, spare_of}
use Rattle.sound_state.proofs.Common.{pushed_by, next_of, plan_point_of, State, Moves, found_at, with_event, passed_by, held_by, holds_of, IsWithout, Lists, IsSo}
use Rattle.sound_state.proofs.Common.{recalls_of, IsSoundWith, waits_in, IsErrand, plan_of, after_turn, begins_turn, point_after, counts_won, resumed, nothing}
use Rattle.word_table.specs.declared.name.WordName.TheVariants as name
use Rattle.step_parts.specs.declared.superblock.point.BlockPoint.TheVariants as block
use Rattle.step_parts.specs.hazard.Retired.{without}
use Rattle.step_parts.specs.declared.hazard.point.DescPoint.TheVariants as desc
use Rattle.errand_steps.specs.declared.continuation.Continuation.TheVariants as continuation
use Rattle.errand_steps.specs.declared.reply.Reply.TheVariants as reply
use Rattle.errand_steps.specs.Continuations.{resumes}
use Rattle.sound_state.proofs.shared.RecallFrame.{Reads}
use Rattle.sound_state.proofs.shared.ShownLemmas.{IsListedPart, with_available, MayGoOn}
use Rattle.sound_state.proofs.descriptors.DescRecalls.{recalls-pushed}
use Rattle.sound_state.proofs.descriptors.DescWeighs.{ListWeighs, restocks-by}
use Rattle.sound_state.proofs.shared.PointLemmas.{exists-at, fits-at, hazard-at, recalled-at}
use Rattle.sound_state.proofs.quiet.QuietDescs.{push_desc_lost-sound}
use Rattle.sound_state.proofs.shared.StepLemmas.{raised-least, found_from}
use Rattle.sound_state.proofs.shared.KeepsSound.{KeepsSound, KeepsSoundWhere, silent-sound, either-sound}
use Rattle.sound_state.proofs.shared.TieLemmas.{Excepts}
use Rattle.sound_state.proofs.shared.NothingLemmas.{nothing-stands, resumes-counts, TurnResumes, nothing-guards, HoldsNothing}
use Rattle.sound_state.proofs.shared.TurnEffects.{own-counts}
use Rattle.sound_state.proofs.SoundAfter.{shown-sound, sound-but_one}

-- the point at which a call goes on after a retirement, and the turns that it has begun then
abbrev pub resumed_point : ErrandFields → SeatFields → Continuation → Point
resumed_point e seat o = point_after (after_turn e (resumed seat o))

abbrev pub resumed_turns : ErrandFields → SeatFields → Continuation → ℕ
resumed_turns e seat o = raised (begins_turn e (resumed seat o)) e.turns

-- the errand after the push of a descriptor of its list
abbrev pub pushed_errand : ErrandFields → Found → SeatFields → ℕ → Continuation → ErrandFields
pushed_errand e x seat d o =
    record e {
      point = resumed_point e seat o;
      retired = without d e.retired;
      turns = resumed_turns e seat o;
      won = raised (counts_won (plan_of e) x) e.won;
      lost = raised (counts_lost e.point x) e.lost;
      cleared = raised (counts_cleared e.point x) e.cleared;
    }

settle-pushed :
    (e : ErrandFields) (x : Found) (seat : SeatFields) (d : ℕ) (o : Continuation) → next_of e.point x ≡ Unlist seat d o
    → settle_of e x ≡ pushed_errand e x seat d o
unfolding settle_of course_of
settle-pushed e x seat d o is = rw is refl

-- a point at which a caller holds, remembers, pushes and scans nothing
pub record IsBarePoint (q : Point) : Type 0 where
  pub holds : holds_of q ≡ nothing
  pub recalls : recalls_of q ≡ []
  pub waits : (class : ℕ) → waits_in class q ≡ 0
  pub pushed : pushed_by q ≡ None
  pub passed : passed_by q ≡ 0
  pub unread : length (held_by q) ≡ 0
  pub spare : spare_of q ≡ 0

-- so a caller holds nothing there
bare-nothing : (q : Point) → IsBarePoint q → HoldsNothing q
bare-nothing q h = record {
  holds = h.holds;
  waits = h.waits;
  pushed = h.pushed;
  passed = h.passed;
  unread = λ k below. let bad : ⊥ = omega (arith, below, h.unread) in absurd bad;
}

-- what follows a turn's end: the next turn, or the end of the call where none is left
abbrev turn_next : Bool → SeatFields → ℕ → Next
turn_next b seat words = if b then End reply.Spent else At (Block (block.LoadActive seat) (continuation.Alloc words))

resumed-bare : (e : ErrandFields) (seat : SeatFields) (o : Continuation) → IsTrue (resumes o) → IsBarePoint (resumed_point e seat o)
unfolding holds_of recalls_of
resumed-bare e seat o is = grind (arith, is)

resumed-turns :
    (e : ErrandFields) (seat : SeatFields) (d top : ℕ) (o : Continuation) → IsTrue (resumes o) → e.turns + 1 < 2 ^ 64
    → TurnResumes (Desc (desc.PushDesc seat d top) o) (resumed_point e seat o) e.turns (resumed_turns e seat o)
resumed-turns e seat d top o is below = grind (arith, is, below)

-- a list without one that it contains has it once less
pub occurs-without : (d k : ℕ) (xs : List ℕ) → Contains xs d → occurs k xs ≡ (if d == k then 1 else 0) + occurs k (without d xs)
occurs-without d k [] (i, within, is) = let bad : ⊥ = omega (arith, within) in absurd bad
occurs-without d k (x ∷ xs) (zero, within, is) =
    let found : (x == d) ≡ true = eq-eqb x d is in
    rw found (ap (λ j. (if j == k then 1 else 0) + occurs k xs) is)
occurs-without d k (x ∷ xs) (suc i, within, is) =
    elim (cases_eq x d) [
      | inl same ↦ let found : (x == d) ≡ true = eq-eqb x d same in rw found (ap (λ j. (if j == k then 1 else 0) + occurs k xs) same)
      | inr differ ↦
          let other : (x == d) ≡ false = ne_eqb x d differ in
          let rest : Contains xs d = (i, omega (arith, within), is) in
          rw other (omega (arith, occurs-without d k xs rest))
    ]

All-without : (P : ℕ → Type 0) (d : ℕ) (xs : List ℕ) → All P xs → All P (without d xs)
All-without P d [] all = all
All-without P d (x ∷ xs) all =
    elim (cases_eq x d) [
      | inl same ↦ subst (All P) (sym (cond-true {A = List ℕ} (x == d) xs (x ∷ without d xs) (eq-eqb x d same))) (All-tail P x xs all)
      | inr differ ↦
          subst (All P) (sym (cond-false {A = List ℕ} (x == d) xs (x ∷ without d xs) (ne_eqb x d differ)))
          (All-cons P x (without d xs) (All-head P x xs all) (All-without P d xs (All-tail P x xs all)))
    ]

All-at : (P : ℕ → Type 0) (d : ℕ) (xs : List ℕ) → All P xs → Contains xs d → P d
All-at P d xs all (k, within, is) = subst P is (all k d within)

pub push-weighs :
    (l : Lists) (seat : SeatFields) (d top : ℕ) (o : Continuation) (e : ErrandFields) (x : Found) → e.point ≡ Desc (desc.PushDesc seat d top) o
    → Contains e.retired d → IsBarePoint (resumed_point e seat o) → ListWeighs l (d ∷ l.available) e (pushed_errand e x seat d o)
unfolding holds_of
push-weighs l seat d top o e x stands listed bare = grind (arith, stands, listed, bare, occurs-without)

-- a caller's turns are few enough that one more fits a word
own-turns-below : (g : Geometry) (e : ErrandFields) → e.geometry ≡ g → IsErrand e → e.turns + 1 < 2 ^ 64
own-turns-below g e same rule = omega (arith, rule.turns, rule.geometry.turn_limit)

-- a caller may go on from the won push of a retired descriptor
push-may :
    (g : Geometry) (s : State) (l : Lists) (caller : ℕ) (seat : SeatFields) (d : ℕ) (o : Continuation) (x : Found) → IsSoundWith g s l
    → caller < g.callers
    → counts_cleared (s.errand caller).point x ≡ false → IsBarePoint (resumed_point (s.errand caller) seat o)
    → TurnResumes (s.errand caller).point (resumed_point (s.errand caller) seat o) (s.errand caller).turns (resumed_turns (s.errand caller) seat o)
    → ((place : ℕ) → Excepts (s.errand caller) place → ⊥) → MayGoOn g s l caller (s.errand caller) (pushed_errand (s.errand caller) x seat d o)
push-may g s l caller seat d o x old has still bare turn excepts =
    let e = s.errand caller in
    let own = old.formed.errands caller has in
    let more : e.lost ≤ raised (counts_lost e.point x) e.lost = raised-least (counts_lost e.point x) e.lost own.lost in
    record {
      stands =
          nothing-stands g s l caller (pushed_errand e x seat d o) (bare-nothing _ bare) (All-without (IsWithout s) d e.retired (old.kept.retired caller has))
          (λ spare. let bad : ⊥ = omega (arith, spare, bare.spare) in absurd bad)
          (subst (All (IsSo g s l caller)) (sym bare.recalls) (All-nil (IsSo g s l caller)));
      excepts = λ place is. absurd (excepts place is);
      counts = record {
        own = resumes-counts caller s.history e (pushed_errand e x seat d o) (own-counts g s l caller old.turned has) more turn;
        frame_turns = turn.unframed;
        list_turns = omega (arith, turn.pops, ap (λ b. raised b e.cleared) still);
      };
    }

-- a caller that pushes a descriptor excepts no block
push-excepts :
    (seat : SeatFields) (d top : ℕ) (o : Continuation) (e : ErrandFields) → e.point ≡ Desc (desc.PushDesc seat d top) o → (place : ℕ)
    → Excepts e place → ⊥
unfolding holds_of
push-excepts seat d top o e stands place x = grind (arith, stands, x)

-- the won push of a retired descriptor keeps the state sound: it is available, and the call goes on or ends
pub push_desc_won-sound :
    (seat : SeatFields) (d top : ℕ) (o : Continuation) → KeepsSoundWhere (Desc (desc.PushDesc seat d top) o) (λ s. s.word name.DescHead ≡ top)
unfolding plan_point_of next_of event_of holds_of recalls_of
push_desc_won-sound seat d top o g s caller s' sound has stands won step =
    let p = Desc (desc.PushDesc seat d top) o in
    let l = sound.parts.0 in
    let old = sound.parts.1 in
    let x = found_at s caller in
    let is_won : (s.word name.DescHead == top) ≡ true = eq-eqb (s.word name.DescHead) top won in
    let own = old.formed.errands caller has in
    let fits = fits-at g s l caller p old has stands in
    let next : next_of p (found_from s p) ≡ Unlist seat d o = rw is_won refl in
    let after : settle_of (s.errand caller) x ≡ pushed_errand (s.errand caller) x seat d o =
    settle-pushed (s.errand caller) x seat d o (subst (λ r. next_of r (found_from s r) ≡ Unlist seat d o) (sym stands) next) in
    let e = pushed_errand (s.errand caller) x seat d o in
    let writes : Writes s.word name.DescHead (d + 1) s'.word =
    subst (λ v. Writes s.word name.DescHead v s'.word) (rw is_won refl)
    (subst (λ r. Writes s.word (name_of (plan_point_of r)) (after_action (plan_point_of r) (s.word (name_of (plan_point_of r)))) s'.word) stands step.word) in
    let event : event_of caller p (found_from s p) ≡ None = rw is_won refl in
    let past : s'.history ≡ s.history =
    step.history ∙ ap (with_event s.history) (subst (λ r. event_of caller r (found_from s r) ≡ None) (sym stands) event) in
    let (said, rest) = recalled-at g s l caller p old has stands in
    let link : s.word (name.Next d) ≡ top = said.1 in
    let pushes : pushed_by (s.errand caller).point ≡ Some d = ap pushed_by stands in
    let listed : Contains (s.errand caller).retired d =
    subst (λ k. IfSome k (λ j. Contains (s.errand caller).retired j)) pushes own.rule.pushed in
    let exists : d < descriptor_count g = fits.point.desc.desc in
    let bare = resumed-bare (s.errand caller) seat o fits.goes in
    let small : (s.errand caller).turns + 1 < 2 ^ 64 =
    own-turns-below g (s.errand caller) own.geometry own.rule in
    let turn =
    subst (λ r. TurnResumes r (resumed_point (s.errand caller) seat o) (s.errand caller).turns (resumed_turns (s.errand caller) seat o)) (sym stands)
    (resumed-turns (s.errand caller) seat d top o fits.goes small) in
    let cleared : counts_cleared (s.errand caller).point x ≡ false = subst (λ r. counts_cleared r x ≡ false) (sym stands) refl in
    let may = push-may g s l caller seat d o x old has cleared bare turn (push-excepts seat d top o (s.errand caller) stands) in
    let clear : s.word (name.Hazard caller) ≡ 0 = hazard-at g s l caller p old has stands in
    let guards = nothing-guards g s caller e.point e.retired (s.word (name.Hazard caller)) (bare-nothing _ bare) clear in
    let stack : Stacked (next_in s.word Partials) (d + 1) (d ∷ l.available) =
    (refl, subst (λ t. Stacked (next_in s.word Partials) t l.available) (won ∙ sym link) old.listed.available) in
    let restocks =
    restocks-by g s l caller e s' (d ∷ l.available) (d + 1) old has (exists-at g s caller p sound has stands) writes
    (subst (λ f. Moves s.errand caller f s'.errand) after step.errand) past
    (ap (λ b. raised b (s.errand caller).cleared) cleared) may guards stack
    (All-cons (λ k. k < descriptor_count g) d l.available exists old.listed.available_exist)
    (All-cons (IsWithout s) d l.available (All-at (IsWithout s) d (s.errand caller).retired (old.kept.retired caller has) listed) old.kept.available)
    (push-weighs l seat d top o (s.errand caller) x stands listed bare) (recalls-pushed g s l caller d old has exists listed pushes)
    (subst (All (Reads (IsListedPart l (d ∷ l.available)))) (sym bare.recalls) (All-nil (Reads (IsListedPart l (d ∷ l.available))))) in
    silent-sound g s caller s' (with_available l (d ∷ l.available)) sound has step past
    (shown-sound restocks (sound-but_one g s l caller old))

-- a push of a retired descriptor, won or lost, keeps the state sound
pub push_desc-sound : (seat : SeatFields) (d top : ℕ) (o : Continuation) → KeepsSound (Desc (desc.PushDesc seat d top) o)
push_desc-sound seat d top o = either-sound _ name.DescHead top (push_desc_won-sound seat d top o) (push_desc_lost-sound seat d top o)
