-- The table's own moves: opening, a seat cut in two, and two seats made one.
use Rattle.std.proofs.Common.{ℕ, zero, suc, ◌≡◌, ◌≢◌, ◌<◌, ◌≤◌, ◌+◌, ◌⊎◌, Bool, true, false, inl, inr, List, [], ◌∷◌, ◌++◌, length, refl, sym, ap, ◌∙◌, subst, ⊎_elim, arith, length-set, eq-eqb, ne_eqb, ltb-true, ltb-false}
use Rattle.std.specs.Prelude.{◌==◌, nat_lt, if◌then◌else◌, slice_set}
use Rattle.std.proofs.lemmas.Bool.{cases_Bool, cond-true, cond-false, false≢true}
use mathlib.Core.Option.{some, some-injective, some-ne-none}
use lib.ListN.{get_elem?}
use Rattle.atomic_table.specs.Table.{Joins, Splits, State}
use Rattle.atomic_table.proofs.Lists.{at_set, set_else}
use Rattle.heap_geometry.specs.declared.geometry.Geometry.{Geometry}
use Rattle.heap_geometry.specs.Geometry.{IsChecked}
use Rattle.word_table.specs.Counts.{word_count}
use Rattle.word_table.specs.Table.{exists}
use Rattle.word_table.specs.Words.{word_in}
use Rattle.word_table.specs.declared.name.WordName.{WordName}
use Rattle.errand_steps.specs.Errands.{open_errand}
use Rattle.errand_steps.specs.Openings.{opening, IsOpening}
use Rattle.word_table.proofs.NameLemmas.{exists-true, true-Exists}
use Rattle.word_table.proofs.WordLemmas.{word_in-nowhere}
use Rattle.step_machine.specs.Firsts.{IsTable}
use Rattle.step_machine.proofs.FirstLemmas.{table-words}
use Rattle.sound_laws.specs.bounds.Wins.{no_wins}
use Rattle.step_machine.specs.Cores.{IsReached, no_errand}
use Rattle.live_heap.specs.declared.view.Standing.{Standing}
use Rattle.live_heap.specs.declared.view.View.{View}
use Rattle.live_heap.specs.Rule.{IsStanding, Stands, KeptTable, TableHolds, first_errands, state_with}
use Rattle.live_heap.specs.Views.{idle_standing, idles_from, opening_view, first_part, first_caller, other_part, other_callers, gathered, spent_view, longer}
use Rattle.live_heap.specs.Shelves.{AllowedWords}
use Rattle.live_heap.proofs.ShelvesKept.{always-first}
use Rattle.live_heap.proofs.Growing.{StartsWith, starts-self, starts-on, count-between}

abbrev pair : ℕ → ℕ → ℕ × ℕ
pair a b = (a, b)

idles-at :
    (g : Geometry) (caller more k : ℕ) (x : Standing) → get_elem? (idles_from g caller more) k ≡ some x
    → (idle_standing g (caller + k) ≡ x) × (k < more)
idles-at g caller zero k x is = absurd (some-ne-none x (sym is))
idles-at g caller (suc more) zero x is =
    let z : caller + 0 ≡ caller = omega arith in (ap (idle_standing g) z ∙ some-injective _ _ is, omega arith)
idles-at g caller (suc more) (suc k) x is =
    let t = idles-at g (suc caller) more k x is in
    let l = t.1 in
    let z : caller + suc k ≡ suc caller + k = omega arith in
    (ap (idle_standing g) z ∙ t.0, omega arith)

pub first-there : (g : Geometry) (caller : ℕ) → caller < g.callers → first_errands g caller ≡ open_errand caller g
first-there g caller has = rw (ltb-below caller g.callers has) refl
  where
    ltb-below : (a b : ℕ) → a < b → nat_lt a b ≡ true
    ltb-below a b l = grind (arith)

first-nobody : (g : Geometry) (caller : ℕ) → g.callers ≤ caller → first_errands g caller ≡ no_errand
first-nobody g caller beyond = rw (ltb-beyond caller g.callers beyond) refl
  where
    ltb-beyond : (a b : ℕ) → b ≤ a → nat_lt a b ≡ false
    ltb-beyond a b l = grind (arith)

-- a table with the words at opening, whose one seat stands for all callers
pub opens :
    {rule : AllowedWords} (g : Geometry) (words : List ℕ) → IsChecked g → length words ≡ word_count g
    → ((name : WordName) → word_in g words name ≡ (if exists g name then opening g name else 0))
    → KeptTable rule g words (opening_view g ∷ [])
opens {rule} g words checked whole are = record {
  whole = whole;
  errands = first_errands g;
  nobody = first-nobody g;
  events = [];
  made = 0;
  run = run;
  opened = first;
  by_rule = always-first rule;
  place = λ caller. pair 0 caller;
  each = one;
}
  where
    first : IsOpening g (opening g) (state_with g words (first_errands g) [])
    first = record { word = are; errand = first-there g; history = refl }

    run : IsReached g (state_with g words (first_errands g) []) 0
    run = record {
      checked = checked;
      first = state_with g words (first_errands g) [];
      opens = inl first;
      moves = [];
      wins = no_wins;
      reaches = (refl, refl);
      steps = refl;
    }

    stands : Stands g (first_errands g) [] [] [] (λ caller. pair 0 caller) 0 (opening_view g)
    stands = record {
      seen = starts-self [];
      wins_seen = starts-self [];
      each = λ k x is.
          let t = idles-at g 0 g.callers k x is in
          let z : 0 + k ≡ k = omega arith in
          let has : 0 + k < g.callers = let l = t.1 in omega arith in
          subst (IsStanding g (first_errands g) [] [] [] (λ caller. pair 0 caller) 0 (opening_view g) k) t.0
          (record { has = has; at_place = ap (pair 0) z; errand = first-there g (0 + k) has; seen = starts-self []; own_seen = refl; seen_within = starts-self []; wins_seen = refl; counted = refl });
    }

    one : (id : ℕ) (v : View) → get_elem? (opening_view g ∷ []) id ≡ some v → Stands g (first_errands g) [] [] [] (λ caller. pair 0 caller) id v
    one zero v is = subst (Stands g (first_errands g) [] [] [] (λ caller. pair 0 caller) 0) (some-injective _ _ is) stands
    one (suc id) v is = absurd (some-ne-none v (sym is))

-- the words of a whole table are those at opening
pub table-opening :
    (g : Geometry) (words : List ℕ) → IsTable g (opening g) (word_count g) words → (name : WordName)
    → word_in g words name ≡ (if exists g name then opening g name else 0)
table-opening g words table name =
    elim (cases_Bool (exists g name)) [
      | inl is ↦ table-words g (opening g) words table name (true-Exists g name is) ∙ sym (cond-true {A = ℕ} (exists g name) (opening g name) 0 is)
      | inr isnt ↦
          word_in-nowhere g words name (λ there. false≢true (sym isnt ∙ exists-true g name there))
          ∙ sym (cond-false {A = ℕ} (exists g name) (opening g name) 0 isnt)
    ]

at_end : {A : Type 0} (xs : List A) (a b : A) (j : ℕ) → get_elem? (xs ++ a ∷ []) j ≡ some b → (get_elem? xs j ≡ some b) ⊎ ((j ≡ length xs) × (a ≡ b))
at_end [] a b zero e = inr (refl, some-injective a b e)
at_end [] a b (suc j) e = absurd (some-ne-none b (sym e))
at_end (x ∷ xs) a b zero e = inl e
at_end (x ∷ xs) a b (suc j) e = ⊎_elim (λ t. inl t) (λ t. inr (ap suc t.0, t.1)) (at_end xs a b j e)

at_append : {A : Type 0} (xs ys : List A) (a : A) (k : ℕ) → get_elem? (xs ++ ys) k ≡ some a → (get_elem? xs k ≡ some a) ⊎ ((m : ℕ) × (k ≡ length xs + m) × (get_elem? ys m ≡ some a))
at_append [] ys a k e = inr (k, omega arith, e)
at_append (x ∷ xs) ys a zero e = inl e
at_append (x ∷ xs) ys a (suc k) e = ⊎_elim (λ t. inl t) (λ t. inr (t.0, (let p = t.1 in omega arith), t.2)) (at_append xs ys a k e)

first_at : (l : List Standing) (k : ℕ) (x : Standing) → get_elem? (first_caller l) k ≡ some x → (k ≡ 0) × (get_elem? l 0 ≡ some x)
first_at [] k x e = absurd (some-ne-none x (sym e))
first_at (y ∷ ys) zero x e = (refl, e)
first_at (y ∷ ys) (suc k) x e = absurd (some-ne-none x (sym e))

other_at : (l : List Standing) (k : ℕ) (x : Standing) → get_elem? (other_callers l) k ≡ some x → get_elem? l (suc k) ≡ some x
other_at [] k x e = absurd (some-ne-none x (sym e))
other_at (y ∷ ys) k x e = e

abbrev given_at : ℕ → ℕ → ℕ → ℕ → ℕ × ℕ
given_at id n a zero = (a, 0)
given_at id n a (suc k) = if a == id then (n, k) else (a, suc k)

given_other : (id n k : ℕ) → given_at id n id (suc k) ≡ (n, k)
given_other id n k = rw (eq-eqb id id refl) refl

given_else : (id n j k : ℕ) → j ≢ id → given_at id n j k ≡ (j, k)
given_else id n j zero ne = refl
given_else id n j (suc k) ne = rw (ne_eqb j id ne) refl

pub splits : {rule : AllowedWords} {S : Type 0} (g : Geometry) (id : ℕ) (v : View) → Splits {S = S} (TableHolds rule g) id v (first_part v) (other_part v)
splits g id v s h at = record {
  whole = h.whole;
  errands = h.errands;
  nobody = h.nobody;
  events = h.events;
  made = h.made;
  run = h.run;
  opened = h.opened;
  by_rule = h.by_rule;
  place = place;
  each = λ j u is. ⊎_elim
      (λ (t : get_elem? (slice_set s.views id (first_part v)) j ≡ some u). ⊎_elim
      (λ (p : (j ≡ id) × (first_part v ≡ u)). subst (λ (y : ℕ × View). Stands g h.errands h.events h.run.wins.list h.run.moves place y.0 y.1) (λ i. (sym p.0 i, p.1 i)) left)
      (λ (p : (j ≢ id) × (get_elem? s.views j ≡ some u)). other j u p.0 p.1)
      (at_set s.views id j (first_part v) u t))
      (λ (t : (j ≡ length (slice_set s.views id (first_part v))) × (other_part v ≡ u)). subst (λ (y : ℕ × View). Stands g h.errands h.events h.run.wins.list h.run.moves place y.0 y.1) (λ i. (sym (t.0 ∙ length-set s.views id (first_part v)) i, t.1 i)) right)
      (at_end (slice_set s.views id (first_part v)) (other_part v) u j is);
}
  where
    n : ℕ
    n = length s.views

    place : ℕ → ℕ × ℕ
    place c = given_at id n (h.place c).0 (h.place c).1

    mine : Stands g h.errands h.events h.run.wins.list h.run.moves h.place id v
    mine = h.each id v at

    left : Stands g h.errands h.events h.run.wins.list h.run.moves place id (first_part v)
    left = record {
      seen = mine.seen;
      wins_seen = mine.wins_seen;
      each = λ k x is.
          let t = first_at v.callers k x is in
          let y = mine.each 0 x t.1 in
          record {
            has = y.has;
            at_place = ap (λ (p : ℕ × ℕ). given_at id n p.0 p.1) y.at_place ∙ ap (pair id) (sym t.0);
            errand = y.errand;
            seen = y.seen;
            own_seen = y.own_seen;
            seen_within = y.seen_within;
            wins_seen = y.wins_seen;
            counted = y.counted;
          };
    }

    right : Stands g h.errands h.events h.run.wins.list h.run.moves place n (other_part v)
    right = record {
      seen = mine.seen;
      wins_seen = mine.wins_seen;
      each = λ k x is.
          let y = mine.each (suc k) x (other_at v.callers k x is) in
          record {
            has = y.has;
            at_place = ap (λ (p : ℕ × ℕ). given_at id n p.0 p.1) y.at_place ∙ given_other id n k;
            errand = y.errand;
            seen = y.seen;
            own_seen = y.own_seen;
            seen_within = y.seen_within;
            wins_seen = y.wins_seen;
            counted = y.counted;
          };
    }

    other : (j : ℕ) (u : View) → j ≢ id → get_elem? s.views j ≡ some u → Stands g h.errands h.events h.run.wins.list h.run.moves place j u
    other j u ne is =
        let o = h.each j u is in
        record {
          seen = o.seen;
          wins_seen = o.wins_seen;
          each = λ k x at'.
              let y = o.each k x at' in
              record {
                has = y.has;
                at_place = ap (λ (p : ℕ × ℕ). given_at id n p.0 p.1) y.at_place ∙ given_else id n j k ne;
                errand = y.errand;
                seen = y.seen;
                own_seen = y.own_seen;
                seen_within = y.seen_within;
                wins_seen = y.wins_seen;
                counted = y.counted;
              };
        }

-- of two beginnings of one list, the shorter begins the longer
shorter-starts : {A : Type 0} (xs ys zs : List A) → StartsWith xs zs → StartsWith ys zs → length xs ≤ length ys → StartsWith xs ys
shorter-starts [] ys zs a b l = (ys, refl)
shorter-starts (x ∷ xs) [] zs a b l = absurd (omega arith)
shorter-starts (x ∷ xs) (y ∷ ys) zs a b l =
    let both : x ∷ (xs ++ a.0) ≡ y ∷ (ys ++ b.0) = sym a.1 ∙ b.1 in
    let head : x ≡ y = cc in
    let tail : xs ++ a.0 ≡ ys ++ b.0 = cc in
    let t = shorter-starts xs ys (xs ++ a.0) (a.0, refl) (b.0, tail) (omega arith) in
    (t.0, λ k. sym head k ∷ t.1 k)

module _ {A : Type 0} (xs ys zs : List A) (a : StartsWith xs zs) (b : StartsWith ys zs) where
  longer-at : (t : Bool) → nat_lt (length xs) (length ys) ≡ t → StartsWith xs (if t then ys else xs) × StartsWith ys (if t then ys else xs) × StartsWith (if t then ys else xs) zs
  longer-at true is = let l : length xs < length ys = ltb-true _ _ is in (shorter-starts xs ys zs a b (omega arith), starts-self ys, b)
  longer-at false is = (starts-self xs, shorter-starts ys xs zs b a (ltb-false _ _ is), a)

  longer-starts : StartsWith xs (longer xs ys) × StartsWith ys (longer xs ys) × StartsWith (longer xs ys) zs
  longer-starts = longer-at (nat_lt (length xs) (length ys)) refl

abbrev taken_at : ℕ → ℕ → ℕ → ℕ → ℕ → ℕ × ℕ
taken_at id n other a k = if a == other then (id, n + k) else (a, k)

taken_other : (id n other k : ℕ) → taken_at id n other other k ≡ (id, n + k)
taken_other id n other k = rw (eq-eqb other other refl) refl

taken_else : (id n other j k : ℕ) → j ≢ other → taken_at id n other j k ≡ (j, k)
taken_else id n other j k ne = rw (ne_eqb j other ne) refl

pub joins : {rule : AllowedWords} {S : Type 0} (g : Geometry) (id : ℕ) (v : View) (from : ℕ) (w : View) → Joins {S = S} (TableHolds rule g) id v from w (gathered v w) spent_view
joins g id v from w s h at apart there = record {
  whole = h.whole;
  errands = h.errands;
  nobody = h.nobody;
  events = h.events;
  made = h.made;
  run = h.run;
  opened = h.opened;
  by_rule = h.by_rule;
  place = place;
  each = λ j u is. ⊎_elim
      (λ (t : (j ≡ from) × (spent_view ≡ u)). subst (Stands g h.errands h.events h.run.wins.list h.run.moves place j) t.1 (spent j))
      (λ (t : (j ≢ from) × (get_elem? (slice_set s.views id (gathered v w)) j ≡ some u)). ⊎_elim
      (λ (p : (j ≡ id) × (gathered v w ≡ u)). subst (λ (y : ℕ × View). Stands g h.errands h.events h.run.wins.list h.run.moves place y.0 y.1) (λ i. (sym p.0 i, p.1 i)) both)
      (λ (p : (j ≢ id) × (get_elem? s.views j ≡ some u)). other j u t.0 p.1)
      (at_set s.views id j (gathered v w) u t.1))
      (at_set (slice_set s.views id (gathered v w)) from j spent_view u is);
}
  where
    n : ℕ
    n = length v.callers

    place : ℕ → ℕ × ℕ
    place c = taken_at id n from (h.place c).0 (h.place c).1

    mine : Stands g h.errands h.events h.run.wins.list h.run.moves h.place id v
    mine = h.each id v at

    theirs : Stands g h.errands h.events h.run.wins.list h.run.moves h.place from w
    theirs = h.each from w (sym (set_else s.views id from (gathered v w) apart) ∙ there)

    spent : (j : ℕ) → Stands g h.errands h.events h.run.wins.list h.run.moves place j spent_view
    spent j = record { seen = (h.events, refl); wins_seen = (h.run.wins.list, refl); each = λ k x is. absurd (some-ne-none x (sym is)) }

    seen_both : StartsWith v.seen (longer v.seen w.seen) × StartsWith w.seen (longer v.seen w.seen) × StartsWith (longer v.seen w.seen) h.events
    seen_both = longer-starts v.seen w.seen h.events mine.seen theirs.seen

    both : Stands g h.errands h.events h.run.wins.list h.run.moves place id (gathered v w)
    both =
        let wins = longer-starts v.wins w.wins h.run.wins.list mine.wins_seen theirs.wins_seen in
        record {
          seen = seen_both.2;
          wins_seen = wins.2;
          each = λ k x is. ⊎_elim
              (λ (t : get_elem? v.callers k ≡ some x).
              let y = mine.each k x t in
              record {
                has = y.has;
                at_place = ap (λ (p : ℕ × ℕ). taken_at id n from p.0 p.1) y.at_place ∙ taken_else id n from id k (λ e. apart (sym e));
                errand = y.errand;
                seen = y.seen;
                own_seen = y.own_seen;
                seen_within = starts-on x.seen v.seen (longer v.seen w.seen) y.seen_within seen_both.0;
                wins_seen = count-between x.errand.caller v.wins (longer v.wins w.wins) h.run.wins.list wins.0 wins.2 y.wins_seen;
                counted = y.counted;
              })
              (λ (t : (m : ℕ) × (k ≡ length v.callers + m) × (get_elem? w.callers m ≡ some x)).
              let y = theirs.each t.0 x t.2 in
              record {
                has = y.has;
                at_place = ap (λ (p : ℕ × ℕ). taken_at id n from p.0 p.1) y.at_place ∙ (taken_other id n from t.0 ∙ ap (pair id) (sym t.1));
                errand = y.errand;
                seen = y.seen;
                own_seen = y.own_seen;
                seen_within = starts-on x.seen w.seen (longer v.seen w.seen) y.seen_within seen_both.1;
                wins_seen = count-between x.errand.caller w.wins (longer v.wins w.wins) h.run.wins.list wins.1 wins.2 y.wins_seen;
                counted = y.counted;
              })
              (at_append v.callers w.callers x k is);
        }

    other : (j : ℕ) (u : View) → j ≢ from → get_elem? s.views j ≡ some u → Stands g h.errands h.events h.run.wins.list h.run.moves place j u
    other j u ne is =
        let o = h.each j u is in
        record {
          seen = o.seen;
          wins_seen = o.wins_seen;
          each = λ k x at'.
              let y = o.each k x at' in
              record {
                has = y.has;
                at_place = ap (λ (p : ℕ × ℕ). taken_at id n from p.0 p.1) y.at_place ∙ taken_else id n from j k ne;
                errand = y.errand;
                seen = y.seen;
                own_seen = y.own_seen;
                seen_within = y.seen_within;
                wins_seen = y.wins_seen;
                counted = y.counted;
              };
        }

-- neither changes the events
pub splits-events :
    {rule : AllowedWords} {S : Type 0} (g : Geometry) (id : ℕ) (v : View) (s : State S View) (h : TableHolds rule g s) (at : get_elem? s.views id ≡ some v)
    → (splits {S = S} g id v s h at).events ≡ h.events
unfolding splits
splits-events g id v s h at = refl

pub joins-events :
    {rule : AllowedWords} {S : Type 0} (g : Geometry) (id : ℕ) (v : View) (from : ℕ) (w : View) (s : State S View) (h : TableHolds rule g s) (at : get_elem? s.views id ≡ some v) (apart : ¬ (from ≡ id))
    (there : get_elem? (slice_set s.views id (gathered v w)) from ≡ some w) → (joins {S = S} g id v from w s h at apart there).events ≡ h.events
unfolding joins
joins-events g id v from w s h at apart there = refl
