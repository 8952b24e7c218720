-- What a caller keeps at its point, and that no other caller has it.
use Rattle.std.proofs.Common.{ℕ, ◌≡◌, ◌≢◌, ◌<◌, ◌≤◌, ◌+◌, refl, arith, sym, subst, inl, inr, Bool, false, ◌==◌, if◌then◌else◌, IsTrue, ◌&&◌, not, eq-eqb}
use Rattle.std.proofs.lemmas.Bool.{cases_eq}
use Rattle.sound_state.proofs.Common.{Geometry, descriptor_count, Point, ErrandFields, State, Status, partly_used, on_its_way, holds_of, errand_has, Lists, IsSoundWith}
use Rattle.sound_state.proofs.Common.{sum_below, callers_sum, errand_keeps, errand_away, away_of, kept_among, is_bound, keep, same_status}
use Rattle.sound_state.proofs.shared.SumLemmas.{sum-plus, sum-least, term-sum, two-terms}

-- a descriptor that is kept in one state isn't kept in another
pub kept-one :
    (as_kept status : Status) (k d class : ℕ)
    → kept_among as_kept k (keep d class status) ≡ (if same_status status as_kept then (if d == k then 1 else 0) else 0)
kept-one as_kept status k d class = grind (arith)

-- a descriptor is kept in the state in which it is
pub kept-itself : (status : Status) (d class : ℕ) → 1 ≤ kept_among status d (keep d class status)
kept-itself status d class = grind (arith, eq-eqb d d refl)

-- a caller keeps what is kept at its point
pub keeps-at :
    (e : ErrandFields) (p : Point) (status : Status) (d : ℕ) → e.point ≡ p → 1 ≤ kept_among status d (holds_of p).kept → 1 ≤ errand_keeps status d e
keeps-at e p status d stands some = subst (λ q. 1 ≤ kept_among status d (holds_of q).kept) (sym stands) some

-- a caller has what it keeps
keeps-has : (e : ErrandFields) (status : Status) (d : ℕ) → 1 ≤ errand_keeps status d e → 1 ≤ errand_has d e
keeps-has e status d some = grind (arith, some)

-- a caller has what is kept at its point
pub has-at :
    (e : ErrandFields) (p : Point) (status : Status) (d : ℕ) → e.point ≡ p → 1 ≤ kept_among status d (holds_of p).kept → 1 ≤ errand_has d e
has-at e p status d stands some = keeps-has e status d (keeps-at e p status d stands some)

-- what one caller has, of which all have one, no other has
pub others-none :
    (g : Geometry) (weight : ErrandFields → ℕ) (errands : ℕ → ErrandFields) (caller i : ℕ) → caller < g.callers → i < g.callers → i ≢ caller
    → 1 ≤ weight (errands caller) → callers_sum g weight errands ≤ 1 → weight (errands i) ≡ 0
unfolding callers_sum
others-none g weight errands caller i has has_i other mine most =
    omega (arith, mine, most, two-terms g.callers (λ k. weight (errands k)) i caller has_i has other)

-- two callers that have one descriptor are one
pub only-one :
    (g : Geometry) (s : State) (l : Lists) (caller i d : ℕ) → IsSoundWith g s l → caller < g.callers → i < g.callers → d < descriptor_count g
    → 1 ≤ errand_has d (s.errand caller) → 1 ≤ errand_has d (s.errand i) → i ≡ caller
only-one g s l caller i d old has has_i exists mine his =
    elim (cases_eq i caller) [
      | inl is ↦ is
      | inr differ ↦
          let once = old.kept.once d exists in
          let none : errand_has d (s.errand i) ≡ 0 = others-none g (errand_has d) s.errand caller i has has_i differ mine (omega (arith, once)) in
          absurd (omega (arith, none, his))
    ]

-- a partly used superblock that a caller keeps isn't away
pub keeps-near :
    (g : Geometry) (s : State) (l : Lists) (caller d : ℕ) → IsSoundWith g s l → caller < g.callers → d < descriptor_count g
    → 1 ≤ errand_keeps partly_used d (s.errand caller) → away_of g s l d ≡ 0
unfolding callers_sum
keeps-near g s l caller d old has exists keeps =
    let partly = λ (i : ℕ). errand_keeps partly_used d (s.errand i) in
    let away = λ (i : ℕ). errand_away d (s.errand i) in
    let both : sum_below g.callers (λ i. partly i + away i) ≡ sum_below g.callers partly + sum_below g.callers away = sum-plus g.callers partly away in
    let least : sum_below g.callers (λ i. partly i + away i) ≤ sum_below g.callers (λ i. errand_has d (s.errand i)) =
    sum-least g.callers (λ i. partly i + away i) (λ i. errand_has d (s.errand i)) (λ i lt. omega arith) in
    let once = old.kept.once d exists in
    let mine : partly caller ≤ sum_below g.callers partly = term-sum g.callers partly caller has in
    omega (arith, once, both, least, mine, keeps)

-- a descriptor that has a superblock isn't away
pub bound-away : (g : Geometry) (s : State) (l : Lists) (d : ℕ) → IsTrue (is_bound g s l d) → away_of g s l d ≡ 0
bound-away g s l d bound = grind (arith, bound)

-- a bound superblock isn't EMPTY
pub bound-stands : (b : Bool) (c : Bool) → IsTrue (b && not c) → c ≡ false
bound-stands b c is = grind (arith, is)

-- one descriptor on its way is kept so once, and any other not
pub ways-one : (d k c : ℕ) → kept_among on_its_way d (keep k c on_its_way) ≡ (if k == d then 1 else 0)
ways-one d k c = grind (arith)
