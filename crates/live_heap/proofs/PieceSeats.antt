-- A seat that is cut in two, and two that become one, on a region whose pieces are laid as they are used first.
use Rattle.std.proofs.Common.{ℕ, zero, suc, ◌≡◌, ◌≢◌, ◌<◌, ◌+◌, ◌⊎◌, Some, None, List, [], ◌∷◌, ◌++◌, length, refl, arith, sym, ap, subst, inl, inr, ◌∙◌, ⊎_elim}
use Rattle.std.specs.Prelude.{slice_set}
use Rattle.std.proofs.lemmas.Bool.{cases_eq}
use mathlib.Core.Option.{some, some-injective}
use lib.ListN.{get_elem?}
use Rattle.atomic_table.proofs.Lists.{at_longer, at_set, at_snoc, set_else, set_here}
use Rattle.heap_geometry.specs.declared.geometry.Geometry.{Geometry}
use Rattle.word_table.specs.Occurs.{occurs}
use Rattle.live_heap.specs.placement.Places.{words_at}
use Rattle.plain_words.specs.Places.{Place, laid, number, place_at, IsLaid}
use Rattle.atomic_region.specs.Region as region
use Rattle.errand_steps.specs.Openers.{Opens}
use Rattle.pool_model.specs.declared.event.Event.{Event}
use Rattle.live_heap.specs.declared.view.Lent.{Lent}
use Rattle.live_heap.specs.declared.view.Standing.{Standing}
use Rattle.live_heap.specs.declared.view.View.{View}
use Rattle.live_heap.specs.Pieces.{AreLaidOut, AreLent, IsLent, IsOpened, PiecesHold, mark_of, mark_place}
use Rattle.live_heap.specs.Views.{first_caller, first_part, gathered, other_callers, other_part, spent_view}
use Rattle.live_heap.specs.Shelves.{AllowedWords}
use Rattle.live_heap.proofs.Claiming.{unlike}
use Rattle.live_heap.proofs.LentPlaces.{home-behind, none-out}
use Rattle.live_heap.proofs.Seats.{joins, joins-events, splits, splits-events}
use Rattle.live_heap.proofs.Shows.{arena-placed, shown-mark}

in-list : {A : Type 0} (l : List A) (i : ℕ) (a : A) → get_elem? l i ≡ some a → i < length l
in-list [] i a e = absurd (let no : ⊥ = cc in no)
in-list (x ∷ xs) zero a e = omega arith
in-list (x ∷ xs) (suc i) a e = omega (arith, in-list xs i a e)

at-behind : {A : Type 0} (l m : List A) (i : ℕ) (a : A) → get_elem? m i ≡ some a → get_elem? (l ++ m) (length l + i) ≡ some a
at-behind [] m i a e = let number : 0 + i ≡ i = omega arith in subst (λ n. get_elem? m n ≡ some a) (sym number) e
at-behind (x ∷ xs) m i a e = let number : suc (length xs) + i ≡ suc (length xs + i) = omega arith in subst (λ n. get_elem? (x ∷ (xs ++ m)) n ≡ some a) (sym number) (at-behind xs m i a e)

-- the mark of the first piece is laid, whatever the region is
first-mark :
    (g : Geometry) (events : List Event) (words : List ℕ) (whole places : List Place) (views : List View) → AreLaidOut g words whole views
    → AreLent g events whole places views → IsLaid places (mark_place g 0)
first-mark g events words whole places views a l =
    let within : mark_place g 0 < length whole = omega (arith, a.long) in
    let is : place_at places (mark_place g 0) ≡ laid (mark_of (a.status 0)) =
    home-behind g events whole places views (mark_place g 0) l (omega (arith, arena-placed g)) (omega (arith, within, l.long))
    ∙ a.each (mark_place g 0) within ∙ shown-mark g words a.status 0 in
    is ∙ ap laid (sym (ap number is))

-- the callers of a pass that is cut stand in one of its parts
part-of :
    (g : Geometry) (k : ℕ) (l : List Standing) (n : ℕ) (x : Standing) → get_elem? l n ≡ some x → Opens g x.errand.point k
    → ((m : ℕ) × (get_elem? (first_caller l) m ≡ some x)) ⊎ ((m : ℕ) × (get_elem? (other_callers l) m ≡ some x))
part-of g k [] n x at opens = absurd (let no : ⊥ = cc in no)
part-of g k (y ∷ ys) zero x at opens = inl (0, at)
part-of g k (y ∷ ys) (suc n) x at opens = inr (n, at)

module _ (g : Geometry) (words : List ℕ) (places : List Place) (views : List View) (id : ℕ) (v : View) (at : get_elem? views id ≡ some v) (settled : v.lays ≡ None)
    (a : AreLaidOut g words places views) where
  abbrev parted : List View
  parted = slice_set views id (first_part v) ++ other_part v ∷ []

  elsewhere : (i : ℕ) (u : View) → i ≢ id → get_elem? views i ≡ some u → get_elem? parted i ≡ some u
  elsewhere i u other there = at_longer (slice_set views id (first_part v)) (other_part v ∷ []) i u (set_else views id i (first_part v) other ∙ there)

  from : (i : ℕ) (u : View) → get_elem? parted i ≡ some u → ((i ≢ id) × (get_elem? views i ≡ some u)) ⊎ ((first_part v ≡ u) ⊎ (other_part v ≡ u))
  from i u there = ⊎_elim
      (λ here. ⊎_elim (λ (t : (i ≡ id) × (first_part v ≡ u)). inr (inl t.1)) (λ (t : (i ≢ id) × (get_elem? views i ≡ some u)). inl t) (at_set views id i (first_part v) u here))
      (λ last. inr (inr last))
      (at_snoc (slice_set views id (first_part v)) (other_part v) u i there)

  parted-opened : (k : ℕ) → IsOpened g views k → IsOpened g parted k
  parted-opened k t =
      elim (cases_eq t.0 id) [
        | inr other ↦ (t.0, t.1, elsewhere t.0 t.1 other t.2, t.3)
        | inl same ↦
            let mine : t.1 ≡ v = some-injective t.1 v (sym t.2 ∙ ap (get_elem? views) same ∙ at) in
            let there = in-list views id v at in
            ⊎_elim
            (λ (m : (m : ℕ) × (get_elem? (first_caller v.callers) m ≡ some t.3.1)).
            (id, first_part v, at_longer (slice_set views id (first_part v)) (other_part v ∷ []) id (first_part v) (set_here views id (first_part v) there), (m.0, t.3.1, m.1, t.3.3)))
            (λ (m : (m : ℕ) × (get_elem? (other_callers v.callers) m ≡ some t.3.1)).
            (length (slice_set views id (first_part v)) + 0, other_part v, at-behind (slice_set views id (first_part v)) (other_part v ∷ []) 0 (other_part v) refl, (m.0, t.3.1, m.1, t.3.3)))
            (part-of g k v.callers t.3.0 t.3.1 (subst (λ (z : View). get_elem? z.callers t.3.0 ≡ some t.3.1) mine t.3.2) t.3.3)
      ]

  lays-nothing : (u : View) (k : ℕ) → (first_part v ≡ u) ⊎ (other_part v ≡ u) → u.lays ≡ Some k → ⊥
  lays-nothing u k (inl first) laying = unlike k (sym laying ∙ sym (ap (λ (z : View). z.lays) first) ∙ settled)
  lays-nothing u k (inr second) laying = unlike k (sym laying ∙ sym (ap (λ (z : View). z.lays) second))

  parted-laid : AreLaidOut g words places parted
  parted-laid = record {
    status = a.status;
    long = a.long;
    each = a.each;
    spare = λ k has unused. let old = a.spare k has unused in record { unused = ⊎_elim (λ x. inl x) (λ x. inr (parted-opened k x)) old.unused; zeros = old.zeros };
    layer = λ k has gone.
        let old = a.layer k has gone in
        elim (cases_eq old.0 id) [
          | inr other ↦ (old.0, old.1, elsewhere old.0 old.1 other old.2, old.3, old.4)
          | inl same ↦
              let mine : old.1 ≡ v = some-injective old.1 v (sym old.2 ∙ ap (get_elem? views) same ∙ at) in
              absurd (unlike k (sym old.3 ∙ ap (λ (z : View). z.lays) mine ∙ settled))
        ];
    lays = λ i u k there laying. ⊎_elim
        (λ (t : (i ≢ id) × (get_elem? views i ≡ some u)). a.lays i u k t.1 laying)
        (λ part. absurd (lays-nothing u k part laying))
        (from i u there);
    once = λ i j x y k there_i there_j laying_i laying_j. ⊎_elim
        (λ (t : (i ≢ id) × (get_elem? views i ≡ some x)). ⊎_elim
        (λ (q : (j ≢ id) × (get_elem? views j ≡ some y)). a.once i j x y k t.1 q.1 laying_i laying_j)
        (λ part. absurd (lays-nothing y k part laying_j))
        (from j y there_j))
        (λ part. absurd (lays-nothing x k part laying_i))
        (from i x there_i);
    ready = λ i u k there has. ⊎_elim
        (λ (t : (i ≢ id) × (get_elem? views i ≡ some u)). a.ready i u k t.1 has)
        (λ part. ⊎_elim
        (λ first. a.ready id v k at (subst (λ (l : List ℕ). 0 < occurs k l) (sym (ap (λ (z : View). z.ready) first)) has))
        (λ second. let none : 0 < occurs k [] = subst (λ (l : List ℕ). 0 < occurs k l) (sym (ap (λ (z : View). z.ready) second)) has in absurd (let no : ⊥ = omega (arith, none) in no))
        part)
        (from i u there);
  }

  -- what is out is so still, where the pass has nothing out
  module _ (home : v.lent ≡ []) where
    lends-nothing : (u : View) (n : ℕ) (b : Lent) → (first_part v ≡ u) ⊎ (other_part v ≡ u) → get_elem? u.lent n ≡ some b → ⊥
    lends-nothing u n b (inl first) found = none-out v n b home (ap (λ (z : View). get_elem? z.lent n) first ∙ found)
    lends-nothing u n b (inr second) found = none-out (other_part v) n b refl (ap (λ (z : View). get_elem? z.lent n) second ∙ found)

    parted-lent : (events : List Event) (now : List Place) → AreLent g events places now views → AreLent g events places now parted
    parted-lent events now l = record {
      long = l.long;
      home = λ i inside free. l.home i inside (λ lent. free (still i lent));
      blocks = λ i n u b there found. ⊎_elim
          (λ (t : (i ≢ id) × (get_elem? views i ≡ some u)). l.blocks i n u b t.1 found)
          (λ part. absurd (lends-nothing u n b part found))
          (from i u there);
    }
      where
        still : (i : ℕ) → IsLent views i → IsLent parted i
        still i (j, u, n, b, there, found, above, under) =
            elim (cases_eq j id) [
              | inr other ↦ (j, u, n, b, elsewhere j u other there, found, above, under)
              | inl same ↦
                  let mine : u ≡ v = some-injective u v (sym there ∙ ap (get_elem? views) same ∙ at) in
                  absurd (none-out v n b home (ap (λ (z : View). get_elem? z.lent n) (sym mine) ∙ found))
            ]

-- a pass that lays nothing and has nothing out may be cut in two
pub splits-pieces :
    {rule : AllowedWords} (g : Geometry) (size id : ℕ) (v : View) → v.lays ≡ None → v.lent ≡ []
    → region.Splits (PiecesHold rule g) size (mark_place g 0) id v (first_part v) (other_part v)
splits-pieces g size id v settled home s good long at =
    let words : List ℕ = good.0 in
    let h = good.1 in
    let whole : List Place = good.2 in
    let kept = splits {S = ℕ} g id v (record { words = words_at g words; homes = []; views = s.views }) h.1 at in (
      first-mark g h.1.events words whole s.places s.views good.3 good.4,
      (
        words,
        (h.0, kept),
        whole,
        parted-laid g words whole s.views id v at settled good.3,
        subst (λ (events : List Event). AreLent g events whole s.places (slice_set s.views id (first_part v) ++ other_part v ∷ []))
            (sym (splits-events {S = ℕ} g id v (record { words = words_at g words; homes = []; views = s.views }) h.1 at))
            (parted-lent g words whole s.views id v at settled good.3 home h.1.events s.places good.4),
      ),
    )

module _ (g : Geometry) (words : List ℕ) (places : List Place) (views : List View) (id other : ℕ) (v w : View) (at : get_elem? views id ≡ some v) (apart : other ≢ id)
    (at_other : get_elem? views other ≡ some w) (settled : v.lays ≡ None) (settled_other : w.lays ≡ None) (a : AreLaidOut g words places views) where
  abbrev both : View
  both = gathered v w

  abbrev first_set : List View
  first_set = slice_set views id both

  abbrev joined : List View
  joined = slice_set first_set other spent_view

  both-there : get_elem? joined id ≡ some both
  both-there = set_else first_set other id spent_view (λ same. apart (sym same)) ∙ set_here views id both (in-list views id v at)

  aside : (i : ℕ) (u : View) → i ≢ id → i ≢ other → get_elem? views i ≡ some u → get_elem? joined i ≡ some u
  aside i u no_id no_other there = set_else first_set other i spent_view no_other ∙ set_else views id i both no_id ∙ there

  came : (i : ℕ) (u : View) → get_elem? joined i ≡ some u → ((i ≢ id) × (i ≢ other) × (get_elem? views i ≡ some u)) ⊎ ((both ≡ u) ⊎ (spent_view ≡ u))
  came i u there = ⊎_elim
      (λ (t : (i ≡ other) × (spent_view ≡ u)). inr (inr t.1))
      (λ (t : (i ≢ other) × (get_elem? first_set i ≡ some u)). ⊎_elim
      (λ (q : (i ≡ id) × (both ≡ u)). inr (inl q.1))
      (λ (q : (i ≢ id) × (get_elem? views i ≡ some u)). inl (q.0, t.0, q.1))
      (at_set views id i both u t.1))
      (at_set first_set other i spent_view u there)

  joined-opened : (k : ℕ) → IsOpened g views k → IsOpened g joined k
  joined-opened k t =
      elim (cases_eq t.0 id) [
        | inl same ↦
            let mine : t.1 ≡ v = some-injective t.1 v (sym t.2 ∙ ap (get_elem? views) same ∙ at) in
            (id, both, both-there, (t.3.0, t.3.1, at_longer v.callers w.callers t.3.0 t.3.1 (subst (λ (z : View). get_elem? z.callers t.3.0 ≡ some t.3.1) mine t.3.2), t.3.3))
        | inr no_id ↦ elim (cases_eq t.0 other) [
          | inl same ↦
              let theirs : t.1 ≡ w = some-injective t.1 w (sym t.2 ∙ ap (get_elem? views) same ∙ at_other) in
              (id, both, both-there, (length v.callers + t.3.0, t.3.1, at-behind v.callers w.callers t.3.0 t.3.1 (subst (λ (z : View). get_elem? z.callers t.3.0 ≡ some t.3.1) theirs t.3.2), t.3.3))
          | inr no_other ↦ (t.0, t.1, aside t.0 t.1 no_id no_other t.2, t.3)
        ]
      ]

  none-laid : (u : View) (k : ℕ) → (both ≡ u) ⊎ (spent_view ≡ u) → u.lays ≡ Some k → ⊥
  none-laid u k (inl first) laying = unlike k (sym laying ∙ sym (ap (λ (z : View). z.lays) first) ∙ settled)
  none-laid u k (inr second) laying = unlike k (sym laying ∙ sym (ap (λ (z : View). z.lays) second))

  joined-laid : AreLaidOut g words places joined
  joined-laid = record {
    status = a.status;
    long = a.long;
    each = a.each;
    spare = λ k has unused. let old = a.spare k has unused in record { unused = ⊎_elim (λ x. inl x) (λ x. inr (joined-opened k x)) old.unused; zeros = old.zeros };
    layer = λ k has gone.
        let old = a.layer k has gone in
        elim (cases_eq old.0 id) [
          | inl same ↦
              let mine : old.1 ≡ v = some-injective old.1 v (sym old.2 ∙ ap (get_elem? views) same ∙ at) in
              absurd (unlike k (sym old.3 ∙ ap (λ (z : View). z.lays) mine ∙ settled))
          | inr no_id ↦ elim (cases_eq old.0 other) [
            | inl same ↦
                let theirs : old.1 ≡ w = some-injective old.1 w (sym old.2 ∙ ap (get_elem? views) same ∙ at_other) in
                absurd (unlike k (sym old.3 ∙ ap (λ (z : View). z.lays) theirs ∙ settled_other))
            | inr no_other ↦ (old.0, old.1, aside old.0 old.1 no_id no_other old.2, old.3, old.4)
          ]
        ];
    lays = λ i u k there laying. ⊎_elim
        (λ (t : (i ≢ id) × (i ≢ other) × (get_elem? views i ≡ some u)). a.lays i u k t.2 laying)
        (λ one_of. absurd (none-laid u k one_of laying))
        (came i u there);
    once = λ i j x y k there_i there_j laying_i laying_j. ⊎_elim
        (λ (t : (i ≢ id) × (i ≢ other) × (get_elem? views i ≡ some x)). ⊎_elim
        (λ (q : (j ≢ id) × (j ≢ other) × (get_elem? views j ≡ some y)). a.once i j x y k t.2 q.2 laying_i laying_j)
        (λ one_of. absurd (none-laid y k one_of laying_j))
        (came j y there_j))
        (λ one_of. absurd (none-laid x k one_of laying_i))
        (came i x there_i);
    ready = λ i u k there has. ⊎_elim
        (λ (t : (i ≢ id) × (i ≢ other) × (get_elem? views i ≡ some u)). a.ready i u k t.2 has)
        (λ one_of. ⊎_elim
        (λ first. a.ready id v k at (subst (λ (l : List ℕ). 0 < occurs k l) (sym (ap (λ (z : View). z.ready) first)) has))
        (λ second. let none : 0 < occurs k [] = subst (λ (l : List ℕ). 0 < occurs k l) (sym (ap (λ (z : View). z.ready) second)) has in absurd (let no : ⊥ = omega (arith, none) in no))
        one_of)
        (came i u there);
  }

  -- what is out is so still, where neither has anything out
  module _ (home : v.lent ≡ []) (home_other : w.lent ≡ []) where
    none-lent : (u : View) (n : ℕ) (b : Lent) → (both ≡ u) ⊎ (spent_view ≡ u) → get_elem? u.lent n ≡ some b → ⊥
    none-lent u n b (inl first) found = none-out v n b home (ap (λ (z : View). get_elem? z.lent n) first ∙ found)
    none-lent u n b (inr second) found = none-out spent_view n b refl (ap (λ (z : View). get_elem? z.lent n) second ∙ found)

    joined-lent : (events : List Event) (now : List Place) → AreLent g events places now views → AreLent g events places now joined
    joined-lent events now l = record {
      long = l.long;
      home = λ i inside free. l.home i inside (λ lent. free (still i lent));
      blocks = λ i n u b there found. ⊎_elim
          (λ (t : (i ≢ id) × (i ≢ other) × (get_elem? views i ≡ some u)). l.blocks i n u b t.2 found)
          (λ one_of. absurd (none-lent u n b one_of found))
          (came i u there);
    }
      where
        still : (i : ℕ) → IsLent views i → IsLent joined i
        still i (j, u, n, b, there, found, above, under) =
            elim (cases_eq j id) [
              | inl same ↦
                  let mine : u ≡ v = some-injective u v (sym there ∙ ap (get_elem? views) same ∙ at) in
                  absurd (none-out v n b home (ap (λ (z : View). get_elem? z.lent n) (sym mine) ∙ found))
              | inr no_id ↦ elim (cases_eq j other) [
                | inl same ↦
                    let theirs : u ≡ w = some-injective u w (sym there ∙ ap (get_elem? views) same ∙ at_other) in
                    absurd (none-out w n b home_other (ap (λ (z : View). get_elem? z.lent n) (sym theirs) ∙ found))
                | inr no_other ↦ (j, u, n, b, aside j u no_id no_other there, found, above, under)
              ]
            ]

-- a pass that lays nothing and has nothing out may be taken in by another such one
pub joins-pieces :
    {rule : AllowedWords} (g : Geometry) (size id : ℕ) (v : View) (other : ℕ) (w : View) → v.lays ≡ None → w.lays ≡ None → v.lent ≡ [] → w.lent ≡ []
    → region.Joins (PiecesHold rule g) size (mark_place g 0) id v other w (gathered v w) spent_view
joins-pieces g size id v other w settled settled_other home home_other s good long =
    let words : List ℕ = good.0 in
    let h = good.1 in
    let whole : List Place = good.2 in (
      first-mark g h.1.events words whole s.places s.views good.3 good.4,
      λ at apart there.
          let at_other : get_elem? s.views other ≡ some w = sym (set_else s.views id other (gathered v w) apart) ∙ there in
          let kept = joins {S = ℕ} g id v other w (record { words = words_at g words; homes = []; views = s.views }) h.1 at apart there in (
            words,
            (h.0, kept),
            whole,
            joined-laid g words whole s.views id other v w at apart at_other settled settled_other good.3,
            subst (λ (events : List Event). AreLent g events whole s.places (slice_set (slice_set s.views id (gathered v w)) other spent_view))
                (sym (joins-events {S = ℕ} g id v other w (record { words = words_at g words; homes = []; views = s.views }) h.1 at apart there))
                (joined-lent g words whole s.views id other v w at apart at_other settled settled_other good.3 home home_other h.1.events s.places good.4),
          ),
    )
