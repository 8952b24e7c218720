-- Steps that store what is to lie below an index that is about to be pushed.
use Rattle.std.proofs.Common.{ℕ, Some, ◌≡◌, ◌≢◌, ◌<◌, ◌≤◌, refl, arith, sym, subst, inl, inr, ◌∙◌, eq-eqb}
use Rattle.std.proofs.lemmas.Bool.{cases_eq}
use Rattle.std.proofs.lemmas.List.Elements.{All-cons}
use Rattle.std.specs.List.{AllByRecursion}
use Rattle.sound_state.proofs.Common.{Geometry, CLASSES, HeadFields, WordName, name_of, after_action, descriptor_count, Writes, SeatFields, occurs, Pile, Frames, Partials}
use Rattle.sound_state.proofs.Common.{next_name, Continuation, Point, Stack, Desc, pushed_by, ErrandFields, event_of, next_of, plan_point_of, State, Step, errand_frames}
use Rattle.sound_state.proofs.Common.{holds_of, errand_has, Lists, IsSo, recalls_of, IsSoundWith, callers_sum, pile_limit, IsErrand, IsSaidWord, resumed_recalls}
use Rattle.word_table.specs.declared.name.WordName.TheVariants as name
use Rattle.step_parts.specs.declared.stack.point.StackPoint.TheVariants as stack
use Rattle.step_parts.specs.declared.hazard.point.DescPoint.TheVariants as desc
use Rattle.errand_steps.specs.tables.Stacks.{pushed_too}
use Rattle.sound_state.proofs.shared.ListFacts.{contains-occurs}
use Rattle.sound_state.proofs.stores.StoreFields.{IsLone, between, LoneKept}
use Rattle.sound_state.proofs.shared.RecallFrame.{Reads}
use Rattle.sound_state.proofs.shared.RecallTables.{IsLink, next-is_link}
use Rattle.sound_state.proofs.stores.StoreReads.{IsOfArena, IsOfDesc, IsBlindTo, IsUnread, lone-written, blocks-kept, places-stay, place-stays, unread-stands}
use Rattle.sound_state.proofs.stores.StoreReads.{lone-kept}
use Rattle.sound_state.proofs.stores.StoreSteps.{store-sound}
use Rattle.sound_state.proofs.shared.HasLemmas.{has-at, others-none}
use Rattle.sound_state.proofs.shared.PointLemmas.{fits-at, so-at, recalled-at}
use Rattle.sound_state.proofs.shared.SumLemmas.{term-sum}
use Rattle.sound_state.proofs.shared.KeepsSound.{KeepsSound}

-- a caller alone may store a link word: no list has the index, and no other caller has it
abbrev pub IsUnlisted : Lists → WordName → Type 0
IsUnlisted l (name.Next d) = (occurs d l.available ≡ 0) × ((class : ℕ) → class < CLASSES → occurs d (l.partials class) ≡ 0)
IsUnlisted l (name.FrameNext f) = occurs f l.frames ≡ 0
IsUnlisted l n = ⊥

abbrev pub link_weight : WordName → ErrandFields → ℕ
link_weight (name.Next d) e = errand_has d e
link_weight (name.FrameNext f) e = errand_frames f e
link_weight n e = 0

pub record IsAlone (g : Geometry) (s : State) (l : Lists) (caller : ℕ) (n : WordName) : Type 0 where
  pub unlisted : IsUnlisted l n
  pub others : (i : ℕ) → i < g.callers → i ≢ caller → link_weight n (s.errand i) ≡ 0

pub desc-alone :
    (g : Geometry) (s : State) (l : Lists) (caller d : ℕ) → IsSoundWith g s l → caller < g.callers → d < descriptor_count g
    → 1 ≤ errand_has d (s.errand caller) → IsAlone g s l caller (name.Next d)
unfolding callers_sum
desc-alone g s l caller d old has exists mine =
    let once = old.kept.once d exists in
    let some : errand_has d (s.errand caller) ≤ callers_sum g (errand_has d) s.errand = term-sum g.callers (λ i. errand_has d (s.errand i)) caller has in
    record {
      unlisted = (
        omega (arith, once, some, mine),
        λ class has_class.
            omega (arith, once, some, mine, term-sum CLASSES (λ class. occurs d (l.partials class)) class has_class),
      );
      others = λ i has_i other. others-none g (errand_has d) s.errand caller i has has_i other mine (omega (arith, once, some, mine));
    }

frame-alone :
    (g : Geometry) (s : State) (l : Lists) (caller f : ℕ) → IsSoundWith g s l → caller < g.callers → f < g.frames
    → 1 ≤ errand_frames f (s.errand caller) → IsAlone g s l caller (name.FrameNext f)
unfolding callers_sum
frame-alone g s l caller f old has exists mine =
    let once = old.framed.once f exists in
    let some : errand_frames f (s.errand caller) ≤ callers_sum g (errand_frames f) s.errand =
    term-sum g.callers (λ i. errand_frames f (s.errand i)) caller has in
    record {
      unlisted = omega (arith, once, some, mine);
      others = λ i has_i other. others-none g (errand_frames f) s.errand caller i has has_i other mine (omega (arith, once, some, mine));
    }

-- a caller that is about to push an index, on a stack or as a descriptor, has it
pushed-has :
    (e : ErrandFields) (p : Point) (seat : SeatFields) (pile : Pile) (i : ℕ) (o : Continuation) → e.point ≡ p → holds_of p ≡ pushed_too pile i seat o
    → 1 ≤ link_weight (next_name pile i) e
pushed-has e p seat pile i o stands holds = grind (arith, stands, holds, eq-eqb, has-at)

pub retired-has : (e : ErrandFields) (p : Point) (d : ℕ) → IsErrand e → e.point ≡ p → pushed_by p ≡ Some d → 1 ≤ errand_has d e
retired-has e p d rule stands pushes = grind (arith, rule, stands, pushes, contains-occurs)

-- a caller that hasn't the index doesn't remember what its link word says
unsaid :
    (e : ErrandFields) (p : Point) (n : WordName) → IsErrand e → e.point ≡ p → IsLink n → link_weight n e ≡ 0
    → AllByRecursion (Reads (IsBlindTo n)) (recalls_of p)
unfolding holds_of recalls_of
unsaid e p n rule stands link none = grind (arith, rule, stands, link, none, pushed-has, retired-has)

-- an index that is on a list is another one than the unlisted index of a link word
off-frames : (l : Lists) (f : ℕ) (n : WordName) → 0 < occurs f l.frames → IsUnlisted l n → name.FrameNext f ≢ n
off-frames l f n on off =
    λ is. let none : IsUnlisted l (name.FrameNext f) = subst (IsUnlisted l) (sym is) off in omega (arith, on, none)

off-available : (l : Lists) (d : ℕ) (n : WordName) → 0 < occurs d l.available → IsUnlisted l n → name.Next d ≢ n
off-available l d n on off =
    λ is. let none : IsUnlisted l (name.Next d) = subst (IsUnlisted l) (sym is) off in omega (arith, on, none.0)

off-partials :
    (l : Lists) (class d : ℕ) (n : WordName) → class < CLASSES → 0 < occurs d (l.partials class) → IsUnlisted l n → name.Next d ≢ n
off-partials l class d n has on off =
    λ is. let none : IsUnlisted l (name.Next d) = subst (IsUnlisted l) (sym is) off in omega (arith, on, none.1 class has)

-- a number that may stand in the link word
abbrev pub InRange : Geometry → WordName → ℕ → Type 0
InRange g (name.Next d) w = w ≤ descriptor_count g
InRange g (name.FrameNext f) w = w ≤ g.frames
InRange g n w = ⊥

written-most :
    (g : Geometry) (words : WordName → ℕ) (n : WordName) (new : ℕ) (words' : WordName → ℕ) → Writes words n new words' → InRange g n new
    → (m : WordName) → InRange g m (words m) → InRange g m (words' m)
written-most g words n new words' w range m old = grind (arith, w, range, old)

-- a link word is one that its caller stores alone, no word of the arena and no info word
link-alone : (n : WordName) → IsLink n → IsLone n × (IsOfArena n → ⊥) × (IsOfDesc n → ⊥)
link-alone n link = grind (arith, link)

-- the store of a link word by a caller that alone may store it, and doesn't remember it, keeps what is read
links-kept :
    (g : Geometry) (s : State) (l : Lists) (caller : ℕ) (n : WordName) (new : ℕ) (words' : WordName → ℕ) → IsSoundWith g s l
    → IsAlone g s l caller n → IsUnread n (s.errand caller).point → IsLink n → InRange g n new → Writes s.word n new words'
    → LoneKept g s l words'
links-kept g s l caller n new words' old alone silent link range w =
    let kind = link-alone n link in
    lone-kept g s l n new words' kind.0 w
    (record {
      nexts = λ d has. written-most g s.word n new words' w range (name.Next d) (old.listed.nexts d has);
      frame_nexts = λ f has. written-most g s.word n new words' w range (name.FrameNext f) (old.listed.frame_nexts f has);
      frames = λ f on. w.elsewhere (name.FrameNext f) (off-frames l f n on alone.unlisted);
      available = λ d on. w.elsewhere (name.Next d) (off-available l d n on alone.unlisted);
      partials = λ class has d on. w.elsewhere (name.Next d) (off-partials l class d n has on alone.unlisted);
    })
    (places-stay g s l n new words' old w kind.2) (blocks-kept g s l n new words' w kind.1) (place-stays s n new words' w kind.2)
    (λ i has.
    elim (cases_eq i caller) [
      | inl is ↦ subst (λ j. IsUnread n (s.errand j).point) (sym is) silent
      | inr other ↦
          unread-stands s i n (s.errand i).point refl
          (unsaid (s.errand i) (s.errand i).point n (old.formed.errands i has).rule refl link (alone.others i has other))
    ])

-- what the step from a known point writes into its word
pub written-at :
    (s : State) (caller : ℕ) (s' : State) (p : Point) → (s.errand caller).point ≡ p → Step s caller s'
    → Writes s.word (name_of (plan_point_of p)) (after_action (plan_point_of p) (s.word (name_of (plan_point_of p)))) s'.word
written-at s caller s' p stands step = grind (arith, stands, step)

-- the store of what is to lie below a retired descriptor that becomes available keeps the state sound
pub store_next_desc-sound : (seat : SeatFields) (d top : ℕ) (o : Continuation) → KeepsSound (Desc (desc.StoreNextDesc seat d top) o)
unfolding plan_point_of next_of event_of holds_of recalls_of
store_next_desc-sound seat d top o g s caller s' sound has stands step =
    let p = Desc (desc.StoreNextDesc seat d top) o in
    let q = Desc (desc.PushDesc seat d top) o in
    let w : Writes s.word (name.Next d) top s'.word = written-at s caller s' p stands step in
    store-sound g s caller s' p q (name.Next d) top sound has stands
    (record {
      stores = record { plan = refl; next = λ v. refl; event = λ v. refl; lost = λ v. refl; cleared = λ v. refl };
      lone = tt;
      holds = grind (arith);
      kept = λ l old.
          let fit = (fits-at g s l caller p old has stands).point in
          links-kept g s l caller (name.Next d) top s'.word old
          (desc-alone g s l caller d old has fit.desc.desc (retired-has (s.errand caller) p d (old.formed.errands caller has).rule stands refl))
          (unread-stands s caller (name.Next d) p stands (grind (arith))) tt fit.link w;
      so = λ l old.
          All-cons (IsSo g (between s s'.word) l caller) _ (resumed_recalls seat o) (tt, w.here)
          (so-at g (between s s'.word) l caller p old has stands);
    })
    step

-- a caller that has the index off its stack alone may store its link
below-alone :
    (g : Geometry) (s : State) (l : Lists) (caller : ℕ) (pile : Pile) (i : ℕ) → IsSoundWith g s l → caller < g.callers → i < pile_limit g pile
    → 1 ≤ link_weight (next_name pile i) (s.errand caller) → IsAlone g s l caller (next_name pile i)
below-alone g s l caller Frames i old has exists mine = frame-alone g s l caller i old has exists mine
below-alone g s l caller Partials i old has exists mine = desc-alone g s l caller i old has exists mine

next-said : (pile : Pile) (i : ℕ) → IsSaidWord (next_name pile i)
next-said pile i = grind (arith)

next-range : (g : Geometry) (pile : Pile) (i w : ℕ) → w ≤ pile_limit g pile → InRange g (next_name pile i) w
next-range g pile i w most = grind (arith, most)

-- the store of what is to lie below a frame or a partial superblock that is pushed keeps the state sound
pub store_below-sound :
    (seat : SeatFields) (pile : Pile) (i : ℕ) (h : HeadFields) (o : Continuation) → KeepsSound (Stack (stack.StoreBelow seat pile i h) o)
unfolding plan_point_of next_of event_of holds_of recalls_of
store_below-sound seat pile i h o g s caller s' sound has stands step =
    let p = Stack (stack.StoreBelow seat pile i h) o in
    let q = Stack (stack.PushTop seat pile i h) o in
    let n = next_name pile i in
    let w : Writes s.word n h.top s'.word = written-at s caller s' p stands step in
    let lone : IsLone n = (link-alone n (next-is_link pile i)).0 in
    store-sound g s caller s' p q n h.top sound has stands
    (record {
      stores = record { plan = refl; next = λ v. refl; event = λ v. refl; lost = λ v. refl; cleared = λ v. refl };
      lone = lone;
      holds = grind (arith);
      kept = λ l old.
          let fit = (fits-at g s l caller p old has stands).point in
          let (exists, rest) = recalled-at g s l caller p old has stands in
          links-kept g s l caller n h.top s'.word old (below-alone g s l caller pile i old has fit.0.index (pushed-has (s.errand caller) p seat pile i o stands refl))
          (unread-stands s caller n p stands (grind (arith))) (next-is_link pile i) (next-range g pile i h.top exists) w;
      so = λ l old.
          let t = between s s'.word in
          All-cons (IsSo g t l caller) _ (recalls_of p)
          (next-said pile i, sym (lone-written s.word n h.top s'.word lone w n) ∙ w.here) (so-at g t l caller p old has stands);
    })
    step
