-- Each descriptor stands in one place, and as many are out for each class, after a step that changes one anchor or none.
use Rattle.std.proofs.Common.{ℕ, ◌≡◌, ◌≢◌, ◌<◌, ◌≤◌, ◌+◌, List, [], ◌∷◌, refl, arith, ap, sym, subst, inl, inr, ◌∙◌, ◌⊎◌, ◌==◌, All, if◌then◌else◌, eq-eqb, ne_eqb}
use Rattle.std.proofs.lemmas.Bool.{cond-true}
use Rattle.std.proofs.lemmas.List.Elements.{All-nil, All-cons, All-head, All-tail}
use Rattle.sound_state.proofs.Common.{Geometry, CLASSES, AnchorFields, descriptor_count, WordName, Holding, occurs, ErrandFields, State, Kept, holds_of, IsKept}
use Rattle.sound_state.proofs.Common.{IsPartlyUsed, IsWithout, IsKeptAs, errand_has, full_keeps, word_keeps, Lists, full_stock, word_stock, sum_below, words_sum}
use Rattle.sound_state.proofs.Common.{callers_sum, anchor_for, info_for, occurs-here, occurs-more, places_of, active_keeps, IsStocked, stock_among, waits_in}
use Rattle.packed_words.specs.declared.anchor.AnchorState.TheVariants as phase
use Rattle.word_table.specs.declared.name.WordName.TheVariants as name
use Rattle.sound_state.proofs.shared.CallerLemmas.{each-other}
use Rattle.sound_state.proofs.shared.CreditLemmas.{word-sum}
use Rattle.sound_state.proofs.shared.PointLemmas.{kept_places}
use Rattle.sound_state.proofs.shared.SumLemmas.{sum-change, term-sum, two-terms}
use Rattle.sound_state.proofs.shared.SuperblockEffects.{AnchorEffects, anchor-still, anchors-stay, info-stays, of-each, weights-stay}
use Rattle.sound_state.proofs.shared.SuperblocksStay.{ActivesKept, StaysKept, kept-goes, same-stays-kept, actives-same, AreKept}
use Rattle.sound_state.proofs.shared.HoldingEffects.{HoldingEffects, places-go, stock-goes}

-- numbers of a list that all have a property have one that follows from it for each that occurs there
on-all : (P Q : ℕ → Type 0) (xs : List ℕ) → ((x : ℕ) → 0 < occurs x xs → P x → Q x) → All P xs → All Q xs
on-all P Q [] f all = All-nil Q
on-all P Q (x ∷ xs) f all =
    All-cons Q x xs (f x (omega (arith, occurs-here x xs)) (All-head P x xs all))
    (on-all P Q xs (λ y on. f y (omega (arith, on, occurs-more y x xs))) (All-tail P x xs all))

kept-here : (k : Kept) (ks : List Kept) → 1 ≤ kept_places k.desc (k ∷ ks)
kept-here k ks = grind (arith)

kept_places-more : (d : ℕ) (k : Kept) (ks : List Kept) → kept_places d ks ≤ kept_places d (k ∷ ks)
kept_places-more d k ks = grind (arith)

on-kept : (P Q : Kept → Type 0) (ks : List Kept) → ((k : Kept) → 1 ≤ kept_places k.desc ks → P k → Q k) → All P ks → All Q ks
on-kept P Q [] f all = All-nil Q
on-kept P Q (k ∷ ks) f all =
    All-cons Q k ks (f k (kept-here k ks) (All-head P k ks all))
    (on-kept P Q ks (λ x on. f x (omega (arith, on, kept_places-more x.desc k ks))) (All-tail P k ks all))

-- a caller alone has d
pub record HasAlone (g : Geometry) (s : State) (l : Lists) (caller d : ℕ) : Type 0 where
  pub words : words_sum g (word_keeps d) s.word ≡ 0
  pub listed : sum_below CLASSES (λ class. occurs d (l.partials class)) ≡ 0
  pub available : occurs d l.available ≡ 0
  pub retired : occurs d (s.errand caller).retired ≡ 0
  pub others : (i : ℕ) → i < g.callers → i ≢ caller → errand_has d (s.errand i) ≡ 0

-- a caller that keeps d has it alone
pub has-alone :
    (g : Geometry) (s : State) (l : Lists) (caller d : ℕ) → IsKept g s l → caller < g.callers → d < descriptor_count g
    → 1 ≤ kept_places d (holds_of (s.errand caller).point).kept → HasAlone g s l caller d
unfolding callers_sum
has-alone g s l caller d kept exists has keeps =
    let once = kept.once d has in
    let own : errand_has d (s.errand caller) ≡ occurs d (s.errand caller).retired + kept_places d (holds_of (s.errand caller).point).kept =
    omega arith in
    let mine : errand_has d (s.errand caller) ≤ sum_below g.callers (λ i. errand_has d (s.errand i)) =
    term-sum g.callers (λ i. errand_has d (s.errand i)) caller exists in
    record {
      words = omega (arith, once, own, keeps, mine);
      listed = omega (arith, once, own, keeps, mine);
      available = omega (arith, once, own, keeps, mine);
      retired = omega (arith, once, own, keeps, mine);
      others = λ i has_i other.
          omega (arith, once, own, keeps, two-terms g.callers (λ i. errand_has d (s.errand i)) i caller has_i exists other);
    }

-- a caller alone has d before a step, no word holds it after the step, and it is without free blocks where it is FULL then
pub record ChangesAlone (g : Geometry) (s : State) (l : Lists) (caller : ℕ) (s' : State) (d : ℕ) : Type 0 where
  pub alone : HasAlone g s l caller d
  pub words : words_sum g (word_keeps d) s'.word ≡ 0
  pub full : (anchor_for s' d).state ≡ phase.Full → (anchor_for s' d).count ≡ 0

-- a step leaves the lists, and each descriptor in one place
pub record KeepsPlaces (g : Geometry) (s : State) (l : Lists) (caller : ℕ) (was now : Holding) (e : ErrandFields) (s' : State) : Type 0 where
  pub holds : HoldingEffects g s caller was now e s'
  pub places : (d : ℕ) → places_of g s' l d ≡ places_of g s l d
  pub actives : ActivesKept g s s'.word
  pub goes : (d : ℕ) → StaysKept s s' d ⊎ ChangesAlone g s l caller s' d
  pub own : AreKept s' now.kept

-- each descriptor is in the state that belongs to its place after such a step
pub places-kept :
    (g : Geometry) (s : State) (l : Lists) (caller : ℕ) (was now : Holding) (e : ErrandFields) (s' : State)
    → KeepsPlaces g s l caller was now e s' → IsKept g s l → IsKept g s' l
places-kept g s l caller was now e s' h kept =
    let goes : (d : ℕ) → (ChangesAlone g s l caller s' d → ⊥) → StaysKept s s' d =
    λ d more. elim (h.goes d) [ inl goes ↦ goes | inr alone ↦ absurd (more alone) ] in
    record {
      once = λ d has. h.places d ∙ kept.once d has;
      active_words = h.actives.active_words;
      slot_words = h.actives.slot_words;
      active = λ heap class d credits has_heap has_class is.
          let old = h.actives.active heap class d credits has_heap has_class is in
          let n : WordName = name.Active heap class in
          let keeps : word_keeps d n (s'.word n) ≡ 1 = ap (active_keeps d) is ∙ cond-true {A = ℕ} (d == d) 1 0 (eq-eqb d d refl) in
          let some = word-sum g (word_keeps d) s'.word n (has_heap, has_class) in
          (old.0, (goes d (λ alone. omega (arith, alone.words, keeps, some))).active class old.1);
      slot = λ heap class d has_heap has_class is.
          let old = h.actives.slot heap class d has_heap has_class is in
          let n : WordName = name.Slot heap class in
          let keeps : word_keeps d n (s'.word n) ≡ 1 = cond-true {A = ℕ} (s'.word n == d + 1) 1 0 (eq-eqb (s'.word n) (d + 1) is) in
          let some = word-sum g (word_keeps d) s'.word n (has_heap, has_class) in
          (old.0, (goes d (λ alone. omega (arith, alone.words, keeps, some))).partly class old.1);
      full = λ d has is.
          elim (h.goes d) [
            | inl goes ↦ let was = goes.full is in omega (arith, was.1, kept.full d has was.0)
            | inr alone ↦ alone.full is
          ];
      listed = λ class has.
          on-all (λ d. IsPartlyUsed s d class) (λ d. IsPartlyUsed s' d class) (l.partials class)
          (λ d on. (goes d (λ a. omega (arith, a.alone.listed, on, term-sum CLASSES (λ c. occurs d (l.partials c)) class has))).partly class)
          (kept.listed class has);
      available =
          on-all (IsWithout s) (IsWithout s') l.available
          (λ d on. (goes d (λ a. omega (arith, a.alone.available, on))).without) kept.available;
      retired =
          each-other g (λ i f. All (IsWithout s') f.retired) s.errand caller e s'.errand h.holds.moves
          (subst (All (IsWithout s')) (sym h.holds.retired)
          (on-all (IsWithout s) (IsWithout s') (s.errand caller).retired
          (λ d on. (goes d (λ a. omega (arith, a.alone.retired, on))).without) (kept.retired caller h.holds.in_heap)))
          (λ i has other.
          on-all (IsWithout s) (IsWithout s') (s.errand i).retired
          (λ d on. (goes d (λ a. omega (arith, a.alone.others i has other, on))).without) (kept.retired i has));
      errand =
          each-other g (λ i f. AreKept s' (holds_of f.point).kept) s.errand caller e s'.errand h.holds.moves
          (subst (λ (o : Holding). AreKept s' o.kept) (sym h.holds.after) h.own)
          (λ i has other.
          on-kept (λ k. IsKeptAs s k.status k.desc k.class) (λ k. IsKeptAs s' k.status k.desc k.class) (holds_of (s.errand i).point).kept
          (λ k on. kept-goes s s' k.status k.desc k.class (goes k.desc (λ a. omega (arith, a.alone.others i has other, on)))) (kept.errand i has));
    }

-- a caller that held `was` and holds `now` changes the anchor of x, of class c, from a to b, where what it keeps then stands for that
pub record MovesAt
    (g : Geometry) (s : State) (l : Lists) (caller x c : ℕ) (was now : Holding) (a b : AnchorFields) (e : ErrandFields) (s' : State) : Type 0 where
  pub holds : HoldingEffects g s caller was now e s'
  pub write : AnchorEffects s x s'
  pub exists : x < descriptor_count g
  pub class : (info_for s x).class ≡ c
  pub before : anchor_for s x ≡ a
  pub after : anchor_for s' x ≡ b
  pub places :
      (d : ℕ) → kept_places d now.kept + (if x == d then full_keeps b.state else 0) ≡ kept_places d was.kept + (if x == d then full_keeps a.state else 0)
  pub goes : StaysKept s s' x ⊎ ((1 ≤ kept_places x was.kept) × (b.state ≡ phase.Full → b.count ≡ 0))

module _
    {g : Geometry} {s : State} {l : Lists} {caller x c : ℕ} {was now : Holding} {a b : AnchorFields} {e : ErrandFields} {s' : State}
    (h : MovesAt g s l caller x c was now a b e s') where
  moved-info : (d : ℕ) → info_for s' d ≡ info_for s d
  moved-info = info-stays (anchor-still h.write)

  -- what is FULL changes at x alone, from its anchor before to the one after
  moved-full :
      (d : ℕ)
      → full_keeps (anchor_for s' d).state + (if x == d then full_keeps a.state else 0) ≡ full_keeps (anchor_for s d).state + (if x == d then full_keeps b.state else 0)
  moved-full =
      of-each
      (λ d. full_keeps (anchor_for s' d).state + (if x == d then full_keeps a.state else 0)
      ≡ full_keeps (anchor_for s d).state + (if x == d then full_keeps b.state else 0)) x
      (rw (eq-eqb x x refl, h.after, h.before) (omega arith))
      (λ d other. rw (ne_eqb x d (λ same. other (sym same)), anchors-stay h.write d other) refl)

  -- each descriptor stands in one place after the step, in the state that belongs there
  pub moved-kept : AreKept s' now.kept → IsKept g s l → IsKept g s' l
  moved-kept own kept =
      let words = λ (d : ℕ). weights-stay h.write g (word_keeps d) (λ w. refl) in
      places-kept g s l caller was now e s'
      (record {
        holds = h.holds;
        places = λ d. omega (arith, places-go h.holds d, words d, h.places d, moved-full d);
        actives =
            actives-same g s l s'.word kept (λ heap class. h.write.elsewhere (name.Active heap class) (λ same. cc))
            (λ heap class. h.write.elsewhere (name.Slot heap class) (λ same. cc));
        goes =
            of-each (λ d. StaysKept s s' d ⊎ ChangesAlone g s l caller s' d) x
            (elim h.goes [
              | inl goes ↦ inl goes
              | inr keeps ↦
                  let alone =
                  has-alone g s l caller x kept h.holds.in_heap h.exists (subst (λ (o : Holding). 1 ≤ kept_places x o.kept) (sym h.holds.before) keeps.0) in
                  inr (record {
                    alone = alone;
                    words = words x ∙ alone.words;
                    full = λ is. ap (λ y. y.count) h.after ∙ keeps.1 (sym (ap (λ y. y.state) h.after) ∙ is);
                  })
            ])
            (λ d other. inl (same-stays-kept s s' d (moved-info d) (anchors-stay h.write d other)));
        own = own;
      }) kept

  -- as many descriptors are out for each class as before
  pub moved-stocked :
      ((class : ℕ)
      → stock_among class now.kept + (if c == class then full_keeps b.state else 0) ≡ stock_among class was.kept + (if c == class then full_keeps a.state else 0))
      → ((class : ℕ) → waits_in class (s.errand caller).point ≡ 0) → ((class : ℕ) → waits_in class e.point ≡ 0) → IsStocked g s l → IsStocked g s' l
  moved-stocked stock waited waits stocked = record {
    most = λ class has.
        let elsewhere : (d : ℕ) → d < descriptor_count g → d ≢ x → full_stock s' class d ≡ full_stock s class d =
        λ d lt other. rw (moved-info d, anchors-stay h.write d other) refl in
        let after : full_stock s' class x ≡ (if c == class then full_keeps b.state else 0) =
        rw (moved-info x, h.class, h.after) refl in
        let before : full_stock s class x ≡ (if c == class then full_keeps a.state else 0) = rw (h.class, h.before) refl in
        omega (
          arith,
          stocked.most class has,
          after,
          before,
          stock-goes h.holds class (waited class) (waits class),
          weights-stay h.write g (word_stock class) (λ w. refl),
          sum-change (descriptor_count g) (full_stock s class) (full_stock s' class) x h.exists elsewhere,
          stock class,
        );
  }
