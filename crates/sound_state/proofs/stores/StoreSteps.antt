-- A step that stores a word which its caller stores alone is a quiet step from the state in between.
use Rattle.std.proofs.Common.{ℕ, false, None, ◌≡◌, ◌<◌, refl, ap, sym, subst, ◌∙◌, All}
use Rattle.sound_state.proofs.Common.{Geometry, WordName, name_of, after_action, Writes, Next, At, Point, ErrandFields, settle_of, course_of, counts_lost, IsFormed}
use Rattle.sound_state.proofs.Common.{counts_cleared, event_of, next_of, plan_point_of, State, Step, Moves, word_at, with_event, Lists, IsSo, recalls_of}
use Rattle.sound_state.proofs.Common.{IsSoundWithoutCounts, IsSoundWith, Store, found_by, plan_of}
use Rattle.sound_state.proofs.quiet.QuietLemmas.{HoldsSame}
use Rattle.sound_state.proofs.quiet.QuietSteps.{LeadsQuietly, quiet-at}
use Rattle.sound_state.proofs.stores.StoreFields.{IsLone, between, LoneKept}
use Rattle.sound_state.proofs.stores.StoreReads.{lone-written}
use Rattle.sound_state.proofs.shared.FormedLemmas.{formed-after, formed-between}
use Rattle.sound_state.proofs.SoundAfter.{between-sound}

-- the point stores this into the word; whatever it finds there, it tells nothing, counts nothing and leads to the same
pub record StoresTo (caller : ℕ) (p : Point) (n : WordName) (new : ℕ) (to : Next) : Type 0 where
  pub plan : plan_point_of p ≡ Store n new
  pub next : (v : ℕ) → next_of p (found_by (plan_point_of p) v) ≡ to
  pub event : (v : ℕ) → event_of caller p (found_by (plan_point_of p) v) ≡ None
  pub lost : (v : ℕ) → counts_lost p (found_by (plan_point_of p) v) ≡ false
  pub cleared : (v : ℕ) → counts_cleared p (found_by (plan_point_of p) v) ≡ false

-- a step from a point that stores writes what it stores into its word
pub store-written :
    (s : State) (caller : ℕ) (s' : State) (n : WordName) (new : ℕ) (to : Next) → StoresTo caller (s.errand caller).point n new to → Step s caller s'
    → Writes s.word n new s'.word
store-written s caller s' n new to h step = subst (λ a. Writes s.word (name_of a) (after_action a (s.word (name_of a))) s'.word) h.plan step.word

settle-same :
    (caller : ℕ) (e : ErrandFields) (n : WordName) (new : ℕ) (to : Next) (x y : ℕ) → StoresTo caller e.point n new to
    → settle_of e (found_by (plan_of e) x) ≡ settle_of e (found_by (plan_of e) y)
unfolding settle_of course_of
settle-same caller e n new to x y h = rw (h.next x, h.next y, h.lost x, h.lost y, h.cleared x, h.cleared y, h.plan) refl

-- a step that stores a word is one from the state in between, too, where the word already says what is stored
pub step-between :
    (s : State) (caller : ℕ) (s' : State) (n : WordName) (new : ℕ) (to : Next) → IsLone n → StoresTo caller (s.errand caller).point n new to
    → Step s caller s' → Step (between s s'.word) caller s'
step-between s caller s' n new to lone h step =
    let t = between s s'.word in
    let w = store-written s caller s' n new to h step in
    let again : Writes t.word n new s'.word = record { here = w.here; elsewhere = λ m differ. lone-written s.word n new s'.word lone w m } in
    record {
      busy = step.busy;
      word = subst (λ a. Writes t.word (name_of a) (after_action a (t.word (name_of a))) s'.word) (sym h.plan) again;
      errand =
          subst (λ e. Moves s.errand caller e s'.errand) (settle-same caller (s.errand caller) n new to (word_at s caller) (word_at t caller) h) step.errand;
      history = step.history ∙ ap (with_event s.history) (h.event (word_at s caller) ∙ sym (h.event (word_at t caller)));
    }

-- a step from p that stores a word which its caller stores alone, and leads to q, where the caller holds the same
pub record IsStoring (g : Geometry) (s : State) (caller : ℕ) (p q : Point) (n : WordName) (new : ℕ) (s' : State) : Type 0 where
  pub stores : StoresTo caller p n new (At q)
  pub lone : IsLone n
  pub holds : HoldsSame p q
  pub kept : (l : Lists) → IsSoundWith g s l → LoneKept g s l s'.word
  pub so : (l : Lists) → IsSoundWith g (between s s'.word) l → All (IsSo g (between s s'.word) l caller) (recalls_of q)

-- a step that stores a word which its caller stores alone, and leads where the caller holds the same, keeps the state sound
pub store-sound :
    (g : Geometry) (s : State) (caller : ℕ) (s' : State) (p q : Point) (n : WordName) (new : ℕ) → IsSoundWithoutCounts g s → caller < g.callers
    → (s.errand caller).point ≡ p → IsStoring g s caller p q n new s' → Step s caller s' → IsSoundWithoutCounts g s'
store-sound g s caller s' p q n new sound has stands h step =
    let t = between s s'.word in
    let l = sound.parts.0 in
    let old = sound.parts.1 in
    let here : StoresTo caller (s.errand caller).point n new (At q) = subst (λ r. StoresTo caller r n new (At q)) (sym stands) h.stores in
    let w = store-written s caller s' n new (At q) here step in
    let formed : IsFormed g t =
    formed-between g s s' t.word old.formed (formed-after g s caller s' old.formed has step) (lone-written s.word n new s'.word h.lone w) in
    quiet-at g t caller s' p
    (record { checked = sound.checked; legal = sound.legal; parts = (l, between-sound g s l s'.word (h.kept l old) old formed) }) has stands
    (record {
      event = h.stores.event _;
      cleared = h.stores.cleared _;
      word =
          subst (λ a. after_action a (t.word (name_of a)) ≡ t.word (name_of a)) (sym h.stores.plan)
          (sym w.here ∙ lone-written s.word n new s'.word h.lone w n);
    })
    (subst (LeadsQuietly g t caller p) (sym (h.stores.next _)) (record { plain = tt; holds = h.holds; so = h.so }))
    (step-between s caller s' n new (At q) h.lone here step)
