-- What the retired list and the turn limit leave to do.
use Rattle.std.proofs.Common.{ℕ, zero, suc, false, Option, ◌≡◌, ◌≢◌, ◌<◌, ◌≤◌, ◌+◌, List, [], ◌∷◌, length, get_or, refl, ◌∙◌, arith, ap, sym, subst, ◌==◌, All, AllPairs}
use Rattle.std.proofs.Common.{IsSome, count_by, nat_lt, slice_set, if◌then◌else◌, true≢false, eq-eqb}
use Rattle.std.proofs.lemmas.Bool.{cond_both, cond-true}
use Rattle.std.proofs.lemmas.List.{get_or_default}
use Rattle.std.proofs.lemmas.List.Elements.{All-head, All-tail}
use Rattle.std.proofs.lemmas.List.Kept.{AllPairs-cons}
use Rattle.std.proofs.lemmas.List.Sums.{sum_by-cons}
use Rattle.sound_state.proofs.Common.{Geometry, descriptor_count, SeatFields, occurs, Continuation, Next, At, End, Retire, Pick, Unlist, Point, ErrandFields, settle_of}
use Rattle.sound_state.proofs.Common.{course_of, spare_of, next_of, plan_point_of, State, found_at, errand_has, IsSoundWithoutCounts, callers_sum, first_unheld}
use Rattle.sound_state.proofs.Common.{after_hazard, named_in, Turn, after_list, after_turn, picked, turned, is_full, scan_begins, point_after, resumed, enter_desc}
use Rattle.word_table.specs.declared.name.WordName.TheVariants as name
use Rattle.word_table.specs.declared.onward.Onward.TheVariants.{Stays, Leaves}
use Rattle.step_parts.specs.declared.hazard.exit.DescExit.TheVariants.{Scanned}
use Rattle.step_parts.specs.declared.hazard.point.DescPoint.TheVariants as desc
use Rattle.step_parts.proofs.hazard_lemmas.PickLemmas.{some-picked}
use Rattle.errand_steps.specs.declared.point.Point.TheVariants as point
use Rattle.sound_laws.specs.bounds.StepsLeft.{steps_left}
use Rattle.errand_steps.specs.tables.Lengths.{scan_left, active_left, resumed_left}
use Rattle.sound_laws.proofs.bounds_lemmas.LeftDefs.{next_left, word_under}
use Rattle.sound_state.proofs.shared.ListFacts.{contains-occurs}
use Rattle.sound_state.proofs.shared.PointLemmas.{fits-now, noted-unread}
use Rattle.sound_state.proofs.shared.SumLemmas.{term-sum}
use Rattle.sound_laws.proofs.bounds_lemmas.SettleExpects.{is_pick, no-pick}
use Rattle.sound_laws.proofs.bounds_lemmas.WinDefs.{found_in}

-- numbers that occur at most once are all different
occurs-apart : (xs : List ℕ) → All (λ d. occurs d xs ≤ 1) xs → AllPairs (λ a b. a ≢ b) xs
occurs-apart [] once = λ i j d before within. absurd (omega (arith, within))
occurs-apart (x ∷ xs) once =
    let first : occurs x (x ∷ xs) ≤ 1 = All-head (λ d. occurs d (x ∷ xs) ≤ 1) x xs once in
    let here = cond-true {A = ℕ} (x == x) 1 0 (eq-eqb x x refl) in
    AllPairs-cons (λ a b. a ≢ b) x xs
    (λ k d within same.
    let bad : ⊥ = omega (arith, first, here, contains-occurs xs x (k, within, get_or_default xs k x d within ∙ sym same)) in bad)
    (occurs-apart xs (λ k d within. omega (arith, All-tail (λ d. occurs d (x ∷ xs) ≤ 1) x xs once k d within)))

-- 1 where a word names something
abbrev used : ℕ → ℕ
used w = if nat_lt 0 w then 1 else 0

-- a word names at most one thing
used-once : (w : ℕ) → used w ≤ 1
used-once w = grind (arith)

-- noted words that are all 0 from n on name at most n things
few-used : (xs : List ℕ) (n : ℕ) → ((i : ℕ) → n ≤ i → i < length xs → get_or xs i 0 ≡ 0) → count_by (λ word. nat_lt 0 word) xs ≤ n
few-used [] n none = omega arith
few-used (x ∷ xs) zero none =
    let first : used x ≡ 0 = ap used (none 0 (omega arith) (omega arith)) in
    let rest = few-used xs zero (λ i from below. none (suc i) (omega arith) (omega (arith, below))) in
    omega (arith, sum_by-cons used x xs, first, rest)
few-used (x ∷ xs) (suc n) none =
    let rest = few-used xs n (λ i from below. none (suc i) (omega (arith, from)) (omega (arith, below))) in
    omega (arith, sum_by-cons used x xs, used-once x, rest)

-- the descriptors that a caller has retired are all different
retired-apart :
    (g : Geometry) (s : State) (caller : ℕ) → IsSoundWithoutCounts g s → caller < g.callers → AllPairs (λ a b. a ≢ b) (s.errand caller).retired
unfolding callers_sum
retired-apart g s caller sound has =
    let own = sound.parts.1.formed.errands caller has in
    let listed = subst (λ h. All (λ d. d < descriptor_count h) (s.errand caller).retired) own.geometry own.rule.listed in
    occurs-apart (s.errand caller).retired
    (λ k e within.
    let d = get_or (s.errand caller).retired k e in
    let mine : errand_has d (s.errand caller) ≤ callers_sum g (errand_has d) s.errand =
    term-sum g.callers (λ i. errand_has d (s.errand i)) caller has
    in
    omega (arith, sound.parts.1.kept.once d (listed k e within), mine))

-- a retired descriptor that no hazard word names is there where a scan reads the last one
picks-some :
    (g : Geometry) (s : State) (caller : ℕ) (seat : SeatFields) (held : List ℕ) (i : ℕ) (o : Continuation) → IsSoundWithoutCounts g s → caller < g.callers
    → (s.errand caller).point ≡ point.Desc (desc.ReadHazard seat held i) o
    → IsSome (first_unheld (slice_set held i (named_in seat.geometry (s.word (name.Hazard i)))) (s.errand caller).retired)
picks-some g s caller seat held i o sound has stands =
    let fits = (fits-now g s caller (point.Desc (desc.ReadHazard seat held i) o) sound has stands).point in
    let new = named_in seat.geometry (s.word (name.Hazard i)) in
    let noted = slice_set held i new in
    let few = few-used noted (i + 1) (noted-unread g s sound.parts.0 caller seat held i o sound.parts.1 has stands new) in
    let full = sound.parts.1.guarded.full caller has (ap spare_of stands) in
    some-picked noted (s.errand caller).retired (retired-apart g s caller sound has) (omega (arith, few, full, fits.1))

-- a call that goes on after a retirement has no more steps left than behind one
resumed-left :
    (g : Geometry) (e : ErrandFields) (s : SeatFields) (o : Continuation)
    → steps_left g (point_after (after_turn e (resumed s o))) ≤ resumed_left g s o
unfolding steps_left
resumed-left g e s o = grind (arith)

-- a call whose next turn begins, or that ends, has no more steps left than from the active word on
turned-left : (g : Geometry) (e : ErrandFields) (s : SeatFields) (need : ℕ) → steps_left g (point_after (turned e s need)) ≤ active_left g s
unfolding steps_left
turned-left g e s need = grind (arith)

-- a call that retires a descriptor, and scans where its list is full, has no more steps left than a scan, and those behind
retired-left :
    (g : Geometry) (e : ErrandFields) (s : SeatFields) (d : ℕ) (o : Continuation)
    → steps_left g (point_after (after_turn e (after_list e (Retire s d o)))) ≤ scan_left g + resumed_left g s o
unfolding steps_left
retired-left g e s d o =
    cond_both (is_full e) (At (scan_begins s o)) (resumed s o)
    (λ n. steps_left g (point_after (after_turn e n)) ≤ scan_left g + resumed_left g s o) (λ full. omega arith)
    (λ room. omega (arith, resumed-left g e s o))

-- a call whose scan has picked a descriptor has no more steps left than its push, and those behind
picked-left :
    (g : Geometry) (e : ErrandFields) (s : SeatFields) (o : Continuation) (first : Option ℕ) → IsSome first
    → steps_left g (point_after (after_turn e (picked e s o first))) ≤ resumed_left g s o + 3
unfolding steps_left
picked-left g e s o first some = grind (arith, some)

-- whatever follows a step, but for the end of a scan, leaves no more to do than that says
listed-left :
    (g : Geometry) (e : ErrandFields) (n : Next) → is_pick n ≡ false → steps_left g (point_after (after_turn e (after_list e n))) ≤ next_left g n
unfolding steps_left
listed-left g e (At p) plain = omega arith
listed-left g e (End r) plain = omega arith
listed-left g e (Turn s need) plain = turned-left g e s need
listed-left g e (Retire s d o) plain = retired-left g e s d o
listed-left g e (Pick s held o) plain = absurd (true≢false plain)
listed-left g e (Unlist s d o) plain = resumed-left g e s o

-- a hazard word that a scan reads leaves no more to do than what follows says, if a descriptor can be picked then
hazard-left :
    (g : Geometry) (e : ErrandFields) (s : SeatFields) (held : List ℕ) (i v : ℕ) (o : Continuation)
    → IsSome (first_unheld (slice_set held i (named_in s.geometry v)) e.retired)
    → steps_left g (point_after (after_turn e (after_list e (enter_desc (after_hazard s held i v) o)))) ≤ next_left g (enter_desc (after_hazard s held i v) o)
unfolding steps_left
hazard-left g e s held i v o some =
    let noted = slice_set held i (named_in s.geometry v) in
    cond_both (nat_lt (i + 1) s.geometry.callers) (Stays (desc.ReadHazard s noted (i + 1))) (Leaves (Scanned s noted))
    (λ n. steps_left g (point_after (after_turn e (after_list e (enter_desc n o)))) ≤ next_left g (enter_desc n o))
    (λ more. omega arith) (λ last. picked-left g e s o (first_unheld noted e.retired) some)

-- a step leaves no more to do, behind the retired list and the turn limit, than what follows it says
abbrev Settles : Geometry → State → ErrandFields → Point → Type 0
Settles g s e p =
    steps_left g (point_after (after_turn e (after_list e (next_of p (found_in p (word_under s p))))))
    ≤ next_left g (next_of p (found_in p (word_under s p)))

-- a step at each point leaves no more to do than what follows it says
settles-at :
    (g : Geometry) (s : State) (caller : ℕ) (p : Point) → IsSoundWithoutCounts g s → caller < g.callers → (s.errand caller).point ≡ p
    → Settles g s (s.errand caller) p
unfolding plan_point_of next_of
settles-at g s caller (point.Desc (desc.ReadHazard seat held i) o) sound has stands =
    hazard-left g (s.errand caller) seat held i (s.word (name.Hazard i)) o (picks-some g s caller seat held i o sound has stands)
settles-at g s caller p sound has stands =
    let x = found_in p (word_under s p) in listed-left g (s.errand caller) (next_of p x) (no-pick p x refl)

-- no more steps are left after a step than what follows it says
pub left-settles :
    (g : Geometry) (s : State) (caller : ℕ) → IsSoundWithoutCounts g s → caller < g.callers
    → steps_left g (settle_of (s.errand caller) (found_at s caller)).point ≤ next_left g (next_of (s.errand caller).point (found_at s caller))
unfolding settle_of course_of
left-settles g s caller sound has = settles-at g s caller (s.errand caller).point sound has refl
