-- Callers take no more turns than small blocks are given.
use Rattle.std.proofs.Common.{ℕ, Bool, true, false, cond, ◌≡◌, ◌<◌, ◌≤◌, ◌+◌, List, [], ◌∷◌, refl, arith, inl, inr, ◌==◌, ◌&&◌, not, if◌then◌else◌, nat_le, All, count_by}
use Rattle.std.proofs.Common.{eq-eqb, ne_eqb}
use Rattle.std.proofs.lemmas.Bool.{cases_eq, cond-true, cond-false}
use Rattle.std.proofs.lemmas.List.Elements.{All-head, All-tail}
use Rattle.sound_state.proofs.Common.{SMALL_MOST, Geometry, Event, State, sum_below, one_if, gives_small, refuses_small, is_small_alloc, turn_unanswered}
use Rattle.pool_model.specs.declared.event.Event.TheVariants.{Alloc}
use Rattle.sound_laws.specs.bounds.Installs.{installs_by, installs_against}
use Rattle.sound_laws.specs.bounds.Wins.{Win, Wins}
use Rattle.sound_laws.specs.bounds.Won.{IsWon}
use Rattle.sound_state.proofs.shared.SumLemmas.{sum-same, sum-none, sum-once, sum-least, sum-change, term-sum}
use Rattle.sound_laws.proofs.bounds_lemmas.CountLemmas.{counts-first, count-append}

-- an install counts once at most: as its caller's, or as another's
install-of-one :
    (caller by : ℕ) (install : Bool) → one_if (install && not (by == caller)) + one_if (install && (by == caller)) ≤ one_if (install && (by == by))
install-of-one caller by install = rw (eq-eqb by by refl) (grind (arith))

all-installs :
    (n caller : ℕ) (xs : List Win) → All (λ x. x.caller < n) xs
    → count_by (installs_against caller) xs + count_by (installs_by caller) xs ≤ sum_below n (λ k. count_by (installs_by k) xs)
all-installs n caller [] all = omega arith
all-installs n caller (x ∷ xs) all =
    let here : x.caller < n = All-head (λ y. y.caller < n) x xs all in
    omega (
      arith,
      install-of-one caller x.caller x.install,
      term-sum n (λ k. count_by (installs_by k) (x ∷ [])) x.caller here,
      counts-first n installs_by x xs,
      count-append (installs_against caller) (x ∷ []) xs,
      count-append (installs_by caller) (x ∷ []) xs,
      all-installs n caller xs (All-tail (λ y. y.caller < n) x xs all),
    )

-- a small block is given to at most one caller
given : (n by : ℕ) (small : Bool) → sum_below n (λ caller. cond {A = ℕ} ((by == caller) && small) 1 0) ≤ one_if small
given n by true = omega (
  arith,
  sum-same n (λ caller. if by == caller then 1 else 0) (λ caller. cond {A = ℕ} ((by == caller) && true) 1 0) (λ caller lt. grind (arith)),
  sum-once n by,
)
given n by false = omega (arith, sum-none n (λ caller. cond {A = ℕ} ((by == caller) && false) 1 0) (λ caller lt. grind (arith)))

given-alloc : (n : ℕ) (e : Event) → sum_below n (λ caller. cond {A = ℕ} (gives_small caller e) 1 0) ≤ cond (is_small_alloc e) 1 0
given-alloc n (Alloc by words place) = given n by (nat_le words SMALL_MOST)
given-alloc n e = omega (arith, sum-none n (λ caller. 0) (λ caller lt. refl))

all-given : (n : ℕ) (history : List Event) → sum_below n (λ caller. count_by (gives_small caller) history) ≤ count_by is_small_alloc history
all-given n [] = omega (arith, sum-none n (λ caller. 0) (λ caller lt. refl))
all-given n (e ∷ history) =
    omega (
      arith,
      counts-first n gives_small e history,
      sum-same n (λ caller. cond {A = ℕ} (gives_small caller e) 1 0) (λ caller. count_by (gives_small caller) (e ∷ [])) (λ caller lt. omega arith),
      given-alloc n e,
      count-append is_small_alloc (e ∷ []) history,
      all-given n history,
    )

-- what all callers but one install is no more than what they are given
others-given : (n caller : ℕ) (f h : ℕ → ℕ) → caller < n → ((k : ℕ) → k < n → f k ≤ h k) → sum_below n f + h caller ≤ sum_below n h + f caller
others-given n caller f h has least =
    let mixed = λ (k : ℕ). if k == caller then h k else f k in
    let here : mixed caller ≡ h caller = cond-true {A = ℕ} (caller == caller) (h caller) (f caller) (eq-eqb caller caller refl) in
    omega (
      arith,
      here,
      sum-change n f mixed caller has (λ k lt ne. cond-false {A = ℕ} (k == caller) (h k) (f k) (ne_eqb k caller ne)),
      sum-least n mixed h
          (λ k lt.
          elim (cases_eq k caller) [
            | inl e ↦ omega (arith, cond-true {A = ℕ} (k == caller) (h k) (f k) (eq-eqb k caller e))
            | inr ne ↦ omega (arith, cond-false {A = ℕ} (k == caller) (h k) (f k) (ne_eqb k caller ne), least k lt)
          ]),
    )

pub turns-bounded :
    (g : Geometry) (s : State) (w : Wins) (caller : ℕ) → IsWon g s w → caller < g.callers
    → (s.errand caller).turns ≤ count_by is_small_alloc s.history + count_by (refuses_small caller) s.history + turn_unanswered (s.errand caller)
turns-bounded g s w caller won has =
    let own = λ (k : ℕ). count_by (installs_by k) w.list in
    let gives = λ (k : ℕ). count_by (gives_small k) s.history in
    let less : sum_below g.callers own + gives caller ≤ sum_below g.callers gives + own caller =
    others-given g.callers caller own gives has (λ k lt. omega (arith, won.installed.own k lt)) in
    omega (
      arith,
      won.installed.turns caller has,
      all-installs g.callers caller w.list won.noted.callers,
      less,
      all-given g.callers s.history,
    )
