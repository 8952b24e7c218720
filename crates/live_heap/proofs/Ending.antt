-- The seat that took all others in has seen the whole history.
use Rattle.std.proofs.Common.{ℕ, zero, suc, ◌≡◌, ◌≢◌, ◌<◌, ◌≤◌, ◌+◌, ◌-◌, ◌^◌, ◌⊎◌, inl, inr, Bool, true, false, eqb, List, [], ◌∷◌, ◌++◌, length, slice_index_or, refl, sym, ap, ◌∙◌, subst, ⊎_elim, arith, eq-eqb, eqb-true, ne_eqb, get_or}
use Rattle.std.specs.Prelude.{◌||◌, ◌==◌, if◌then◌else◌, All, count_by, min, sum_by}
use Rattle.std.proofs.lemmas.List.{append-nil}
use Rattle.std.proofs.lemmas.Bool.{cases_lt, cases_eq}
use Rattle.std.proofs.lemmas.Map.Steps.{length-le_from_distinct_below}
use Rattle.std.proofs.lemmas.Map.Keys.{IsDistinct-from_apart}
use Rattle.std.specs.List.{IsDistinct, list_any}
use mathlib.Core.Option.{some, some-injective, some-ne-none}
use mathlib.Core.Logic.{dite}
use native.Mathlib.Decide.{ℕ_discrete}
use lib.ListN.{get_elem?}
use Rattle.atomic_region.specs.Owned.{RegionId}
use Rattle.heap_geometry.specs.declared.geometry.Geometry.{Geometry}
use Rattle.pool_model.specs.declared.event.Event.{Event}
use Rattle.pool_model.specs.Histories.{Begins, caller_of, own}
use Rattle.pool_model.specs.Legal.{IsLegal}
use Rattle.errand_steps.specs.Begins.{IsIdle}
use Rattle.errand_steps.specs.Errands.{ErrandFields}
use Rattle.errand_steps.specs.Openings.{opening, IsOpening}
use Rattle.sound_laws.specs.bounds.Contention.{is_by, lost_of, won_of}
use Rattle.sound_state.specs.Moves.{is_step_of}
use Rattle.sound_state.specs.Sums.{callers_sum}
use Rattle.sound_laws.specs.bounds.Wins.{Win}
use Rattle.sound_laws.proofs.bounds_lemmas.CountLemmas.{count-append}
use Rattle.step_machine.specs.Cores.{IsReached, errand_at, no_errand}
use Rattle.step_machine.proofs.CoreLemmas.{run-sound, run-won}
use Rattle.live_heap.specs.declared.pass.Pass.{Pass}
use Rattle.live_heap.specs.declared.view.Standing.{Standing}
use Rattle.live_heap.specs.declared.view.View.{View}
use Rattle.live_heap.specs.Endings.{HasAccesses, HasTakenIn, IsCounted, IsIn, IsResting, closed_with, errand_in, errands_from}
use Rattle.live_heap.specs.Passes.{accesses, seen}
use Rattle.live_heap.specs.Rule.{Stands, KeptTable, state_with}
use Rattle.live_heap.specs.Shelves.{AllowedWords}
use Rattle.live_heap.proofs.Totals.{HasCaller, all-callers}
use Rattle.live_heap.proofs.Growing.{own-between, rest-none}

abbrev LacksCaller : List Standing → ℕ → Type 0
LacksCaller es c = (k : ℕ) (e : Standing) → get_elem? es k ≡ some e → e.errand.caller ≢ c

find_caller : (es : List Standing) (c : ℕ) → HasCaller es c ⊎ LacksCaller es c
find_caller [] c = inr (λ k e is. absurd (some-ne-none e (sym is)))
find_caller (x ∷ xs) c = dite (ℕ_discrete x.errand.caller c)
    (λ same. inl (0, x, refl, same))
    (λ ne. ⊎_elim
    (λ (t : HasCaller xs c). inl (suc t.0, t.1, t.2, t.3))
    (λ (t : LacksCaller xs c). inr (lacks ne t))
    (find_caller xs c))
  where
    lacks : x.errand.caller ≢ c → LacksCaller xs c → LacksCaller (x ∷ xs) c
    lacks ne t zero e is = λ same. ne (ap (λ (y : Standing). y.errand.caller) (some-injective x e is) ∙ same)
    lacks ne t (suc k) e is = t k e is

abbrev callers_of : List Standing → List ℕ
callers_of [] = []
callers_of (e ∷ es) = e.errand.caller ∷ callers_of es

callers_length : (es : List Standing) → length (callers_of es) ≡ length es
callers_length [] = refl
callers_length (e ∷ es) = ap suc (callers_length es)

there : (es : List Standing) (k d : ℕ) → k < length es → (e : Standing) × (get_elem? es k ≡ some e) × (get_or (callers_of es) k d ≡ e.errand.caller)
there [] k d l = absurd (omega arith)
there (x ∷ xs) zero d l = (x, refl, refl)
there (x ∷ xs) (suc k) d l = there xs k d (omega arith)

any_below : (es : List Standing) (n : ℕ) → ((k : ℕ) (e : Standing) → get_elem? es k ≡ some e → e.errand.caller < n) → (q : ℕ) → list_any (eqb q) (callers_of es) ≡ true → q < n
any_below [] n below q is = absurd (cc)
any_below (x ∷ xs) n below q is = first (λ a. any_below xs n (λ k e at. below (suc k) e at) q a) (eqb q x.errand.caller) refl is
  where
    first : (list_any (eqb q) (callers_of xs) ≡ true → q < n) → (b : Bool) → eqb q x.errand.caller ≡ b → (b || list_any (eqb q) (callers_of xs)) ≡ true → q < n
    first later true same any = let e = eqb-true q x.errand.caller same in let l = below 0 x refl in omega arith
    first later false same any = later any

-- as many callers below n as n, each once, are all of them
module _ (es : List Standing) (n c : ℕ) (len : length es ≡ n) (below : (k : ℕ) (e : Standing) → get_elem? es k ≡ some e → e.errand.caller < n)
    (once : (j k : ℕ) (d e : Standing) → get_elem? es j ≡ some d → get_elem? es k ≡ some e → d.errand.caller ≡ e.errand.caller → j ≡ k) (l : c < n) where
  apart : LacksCaller es c → (i j d : ℕ) → i < j → j < suc (length es) → eqb (get_or (c ∷ callers_of es) i d) (get_or (c ∷ callers_of es) j d) ≡ false
  apart lacks i zero d a b = absurd (omega arith)
  apart lacks zero (suc j) d a b = let t = there es j d (omega arith) in ne_eqb _ _ (λ same. lacks j t.0 t.1 (sym t.2 ∙ sym same))
  apart lacks (suc i) (suc j) d a b =
      let t = there es i d (omega arith) in let u = there es j d (omega arith) in
      ne_eqb _ _ (λ same. let e : i ≡ j = once i j t.0 u.0 t.1 u.1 (sym t.2 ∙ (same ∙ u.2)) in omega arith)

  low : (q : ℕ) → list_any (eqb q) (c ∷ callers_of es) ≡ true → q < n
  low q is = first (eqb q c) refl is
    where
      first : (b : Bool) → eqb q c ≡ b → (b || list_any (eqb q) (callers_of es)) ≡ true → q < n
      first true same any = let e = eqb-true q c same in omega arith
      first false same any = any_below es n below q any

  all_there : HasCaller es c
  all_there = ⊎_elim (λ (t : HasCaller es c). t)
      (λ (lacks : LacksCaller es c).
      let len' = callers_length es in
      let distinct : IsDistinct eqb (c ∷ callers_of es) = IsDistinct-from_apart eqb (c ∷ callers_of es) (λ i j d a b. apart lacks i j d a (omega arith)) in
      let h : suc (length (callers_of es)) ≤ n = length-le_from_distinct_below (c ∷ callers_of es) n distinct low in absurd (omega arith))
      (find_caller es c)

-- a caller that stands in the list is found there
in-tail : (x : Standing) (xs : List Standing) (caller : ℕ) → x.errand.caller ≢ caller → HasCaller (x ∷ xs) caller → HasCaller xs caller
in-tail x xs caller ne (zero, y, at, is) = absurd (ne (ap (λ (z : Standing). z.errand.caller) (some-injective x y at) ∙ is))
in-tail x xs caller ne (suc k, y, at, is) = (k, y, at, is)

found-in : (xs : List Standing) (errands : ℕ → ErrandFields) (caller : ℕ) → ((k : ℕ) (x : Standing) → get_elem? xs k ≡ some x → errands x.errand.caller ≡ x.errand)
    → HasCaller xs caller → errand_in xs caller ≡ errands caller
found-in [] errands caller so (k, x, at, is) = absurd (some-ne-none x (sym at))
found-in (x ∷ xs) errands caller so has =
    elim (cases_eq x.errand.caller caller) [
      | inl same ↦ rw (eq-eqb x.errand.caller caller same) (sym (so 0 x refl) ∙ ap errands same)
      | inr ne ↦ rw (ne_eqb x.errand.caller caller ne) (found-in xs errands caller (λ k y at. so (suc k) y at) (in-tail x xs caller ne has))
    ]

none-first : (caller : ℕ) → 0 + caller ≡ caller
none-first caller = omega arith

-- the errand at a number of the list is that of the caller with the number
listed-there : (xs : List Standing) (from n caller : ℕ) → caller < n → slice_index_or (errands_from xs from n) caller no_errand ≡ errand_in xs (from + caller)
listed-there xs from zero caller l = absurd (omega arith)
listed-there xs from (suc n) zero l = let z : from ≡ from + 0 = omega arith in ap (errand_in xs) z
listed-there xs from (suc n) (suc caller) l = let z : suc from + caller ≡ from + suc caller = omega arith in listed-there xs (suc from) n caller (omega arith) ∙ ap (errand_in xs) z

listed-beyond : (xs : List Standing) (from n caller : ℕ) → n ≤ caller → slice_index_or (errands_from xs from n) caller no_errand ≡ no_errand
listed-beyond xs from zero caller l = refl
listed-beyond xs from (suc n) zero l = absurd (omega arith)
listed-beyond xs from (suc n) (suc caller) l = listed-beyond xs (suc from) n caller (omega arith)

listed-length : (xs : List Standing) (from n : ℕ) → length (errands_from xs from n) ≡ n
listed-length xs from zero = refl
listed-length xs from (suc n) = ap suc (listed-length xs (suc from) n)

-- events that a legal history adds, and that are no caller's, are none
nobodys : (g : Geometry) (seen rest : List Event) → IsLegal g (seen ++ rest) → ((caller : ℕ) → caller < g.callers → own caller rest ≡ []) → rest ≡ []
nobodys g seen [] legal none = refl
nobodys g seen (x ∷ xs) legal none =
    let has = (legal seen xs x refl).0.0 in
    let mine : (if caller_of x == caller_of x then x ∷ own (caller_of x) xs else own (caller_of x) xs) ≡ [] = none (caller_of x) has in
    absurd (let T : Bool → Type 0 = λ b. (if b then x ∷ own (caller_of x) xs else own (caller_of x) xs) ≡ [] in
    let e : T true = subst T (eq-eqb (caller_of x) (caller_of x) refl) mine in cc)

all-at : {A : Type 0} (P : A → Type 0) (xs : List A) (x : A) (ys : List A) → All P (xs ++ x ∷ ys) → P x
all-at P [] x ys h = h 0 x (omega arith)
all-at P (y ∷ xs) x ys h = all-at P xs x ys (λ j d l. h (suc j) d (omega arith))

-- wins that are no caller's are none
no_wins_left :
    (g : Geometry) (seen rest : List Win) → All (λ x. x.caller < g.callers) (seen ++ rest)
    → ((caller : ℕ) → caller < g.callers → count_by (is_by caller) rest ≡ 0) → rest ≡ []
no_wins_left g seen [] has none = refl
no_wins_left g seen (x ∷ xs) has none =
    let below : x.caller < g.callers = all-at (λ (y : Win). y.caller < g.callers) seen x xs has in
    let mine : is_by x.caller x ≡ true = eq-eqb x.caller x.caller refl in
    let one : count_by (is_by x.caller) (x ∷ []) ≡ 1 = rw mine refl in
    let more = count-append (is_by x.caller) (x ∷ []) xs in
    let nothing = none x.caller below in
    absurd (omega (arith, one, more, nothing))

-- at the end the words and what the last seat knows are a machine at rest, with the whole history
module _ {rule : AllowedWords} (g : Geometry) (words : List ℕ) (views : List View) (id : ℕ) (v : View) (h : KeptTable rule g words views) (at : get_elem? views id ≡ some v)
    (len : length v.callers ≡ g.callers) where
  stands : Stands g h.errands h.events h.run.wins.list h.run.moves h.place id v
  stands = h.each id v at

  pub once : (j k : ℕ) (d e : Standing) → get_elem? v.callers j ≡ some d → get_elem? v.callers k ≡ some e → d.errand.caller ≡ e.errand.caller → j ≡ k
  once j k d e a b same = ap (λ (p : ℕ × ℕ). p.1) (sym (stands.each j d a).at_place ∙ (ap h.place same ∙ (stands.each k e b).at_place))

  pub cover : (c : ℕ) → c < g.callers → HasCaller v.callers c
  cover c l = all_there v.callers g.callers c len (λ k x is. (stands.each k x is).has) once l

  errand_is : (caller : ℕ) → errand_at (errands_from v.callers 0 g.callers) caller ≡ h.errands caller
  errand_is caller =
      elim (cases_lt caller g.callers) [
        | inl has ↦ listed-there v.callers 0 g.callers caller has ∙ (ap (errand_in v.callers) (none-first caller) ∙ found-in v.callers h.errands caller (λ k x is. (stands.each k x is).errand) (cover caller has))
        | inr beyond ↦ listed-beyond v.callers 0 g.callers caller beyond ∙ sym (h.nobody caller beyond)
      ]

  all_errands : errand_at (errands_from v.callers 0 g.callers) ≡ h.errands
  all_errands = λ i caller. errand_is caller i

  none_left : (caller : ℕ) → caller < g.callers → own caller stands.seen.0 ≡ []
  none_left caller has =
      let t = cover caller has in
      let y = stands.each t.0 t.1 t.2 in
      rest-none caller v.seen stands.seen.0
      (subst (λ d. own d v.seen ≡ own d h.events) t.3 (own-between t.1.errand.caller t.1.seen v.seen h.events y.seen_within stands.seen y.own_seen) ∙ ap (own caller) stands.seen.1)

  -- the last seat has seen all events
  log_is : h.events ≡ v.seen
  log_is =
      stands.seen.1
      ∙ (ap (λ (l : List Event). v.seen ++ l)
      (nobodys g v.seen stands.seen.0
      (subst (IsLegal g) stands.seen.1 (run-sound g (state_with g words h.errands h.events) h.made h.run).legal) none_left) ∙ append-nil v.seen)

  -- the last seat has seen all that was won
  rest_none : (caller : ℕ) → caller < g.callers → count_by (is_by caller) stands.wins_seen.0 ≡ 0
  rest_none caller has =
      let t = cover caller has in
      let y = stands.each t.0 t.1 t.2 in
      let same : count_by (is_by caller) v.wins ≡ count_by (is_by caller) h.run.wins.list =
      subst (λ c. count_by (is_by c) v.wins ≡ count_by (is_by c) h.run.wins.list) t.3 y.wins_seen in
      let whole = ap (count_by (is_by caller)) stands.wins_seen.1 ∙ count-append (is_by caller) v.wins stands.wins_seen.0 in
      omega (arith, same, whole)

  wins_are : h.run.wins.list ≡ v.wins
  wins_are =
      stands.wins_seen.1
      ∙ (ap (λ (l : List Win). v.wins ++ l)
      (no_wins_left g v.wins stands.wins_seen.0
      (subst (All (λ x. x.caller < g.callers)) stands.wins_seen.1 (run-won g (state_with g words h.errands h.events) h.made h.run).noted.callers) rest_none)
      ∙ append-nil v.wins)

  -- the run that leads to what the words and the view make
  abbrev Run : (ℕ → ErrandFields) × List Event → Type 0
  Run p =
      (r : IsReached g (state_with g words p.0 p.1) h.made) × IsOpening g (opening g) r.first × (r.wins.list ≡ h.run.wins.list)
      × (r.moves ≡ h.run.moves)

  run_here : Run (errand_at (errands_from v.callers 0 g.callers), v.seen)
  run_here = subst Run (λ i. (sym all_errands i, log_is i)) (h.run, h.opened, refl, refl)

  pub ends : (z : RegionId) → ((k : ℕ) (x : Standing) → get_elem? v.callers k ≡ some x → IsIdle x.errand) → IsResting (closed_with g z words v)
  ends z idle = record {
    steps = h.made;
    core = record {
      words = h.whole;
      errands = listed-length v.callers 0 g.callers;
      run = run_here.0;
    };
    opened = run_here.1;
    wins = run_here.2 ∙ wins_are;
    idle = λ caller has.
        let t = cover caller has in
        subst IsIdle (sym (stands.each t.0 t.1 t.2).errand ∙ (ap h.errands t.3 ∙ sym (errand_is caller))) (idle t.0 t.1 t.2);
  }

  -- each pass that the last seat took in has made the steps of its caller
  pub made-steps :
      (z : RegionId) (idle : (k : ℕ) (x : Standing) → get_elem? v.callers k ≡ some x → IsIdle x.errand) (p : Pass) → IsIn v p
      → accesses p ≡ count_by (is_step_of p.errand.caller) (ends z idle).core.run.moves
  unfolding ends run_here
  made-steps z idle p i =
      let y = stands.each i.number i.standing i.at in
      sym i.counted
      ∙ subst (λ (e : ErrandFields). i.standing.accesses ≡ count_by (is_step_of e.caller) (ends z idle).core.run.moves) i.errand
      (y.counted ∙ ap (count_by (is_step_of i.standing.errand.caller)) (sym run_here.3))

  -- a caller's errand at the end is the one that the view has for it
  pub has_errand :
      (k : ℕ) (x : Standing) → get_elem? v.callers k ≡ some x → errand_at (errands_from v.callers 0 g.callers) x.errand.caller ≡ x.errand
  has_errand k x is = errand_is x.errand.caller ∙ (stands.each k x is).errand

  pub below : (k : ℕ) (x : Standing) → get_elem? v.callers k ≡ some x → x.errand.caller < g.callers
  below k x is = (stands.each k x is).has

  -- the closed heap has what each pass had that the last seat took in
  pub taken-in : (z : RegionId) (p : Pass) → IsIn v p → HasTakenIn (closed_with g z words v) p
  taken-in z p i =
      let y = stands.each i.number i.standing i.at in
      record {
        errand =
            subst (λ (e : ErrandFields). errand_at (errands_from v.callers 0 g.callers) e.caller ≡ e) i.errand
            (has_errand i.number i.standing i.at);
        seen_before = subst (λ l. Begins l v.seen) i.seen_last y.seen_within;
        events =
            subst (λ (e : ErrandFields). own e.caller v.seen ≡ own e.caller (seen p)) i.errand
            (subst (λ l. own i.standing.errand.caller v.seen ≡ own i.standing.errand.caller l) i.seen_last
            (ap (own i.standing.errand.caller) (sym log_is) ∙ sym y.own_seen));
      }

-- the words and a view are the last ones of a table: all callers stand in the view
pub record IsLast (rule : AllowedWords) (g : Geometry) (words : List ℕ) (v : View) : Type 0 where
  pub views : List View
  pub id : ℕ
  pub kept : KeptTable rule g words views
  pub at : get_elem? views id ≡ some v
  pub all : length v.callers ≡ g.callers

module _ {rule : AllowedWords} (g : Geometry) (z : RegionId) (words : List ℕ) (v : View) (l : IsLast rule g words v) where
  pub last-rests : ((k : ℕ) (x : Standing) → get_elem? v.callers k ≡ some x → IsIdle x.errand) → IsResting (closed_with g z words v)
  last-rests idle = ends g words l.views l.id v l.kept l.at l.all z idle

  pub last-accesses :
      (idle : (k : ℕ) (x : Standing) → get_elem? v.callers k ≡ some x → IsIdle x.errand) (passes : List Pass) → All (IsIn v) passes
      → HasAccesses (closed_with g z words v) passes
  last-accesses idle passes all = record {
    rests = ends g words l.views l.id v l.kept l.at l.all z idle;
    each = λ k d within. made-steps g words l.views l.id v l.kept l.at l.all z idle (slice_index_or passes k d) (all k d within);
  }

  pub last-taken : (p : Pass) → IsIn v p → HasTakenIn (closed_with g z words v) p
  last-taken p i = taken-in g words l.views l.id v l.kept l.at l.all z p i

  -- what the errands weigh is what the standings do
  last-sum : (weight : ErrandFields → ℕ) → callers_sum g weight (errand_at (errands_from v.callers 0 g.callers)) ≡ sum_by (λ (x : Standing). weight x.errand) v.callers
  unfolding callers_sum
  last-sum weight =
      all-callers weight (errand_at (errands_from v.callers 0 g.callers)) g.callers v.callers
      (below g words l.views l.id v l.kept l.at l.all) (has_errand g words l.views l.id v l.kept l.at l.all)
      (once g words l.views l.id v l.kept l.at l.all) (cover g words l.views l.id v l.kept l.at l.all)

  pub last-counted :
      (won lost : ℕ) → won ≡ min (sum_by (λ (x : Standing). x.errand.won) v.callers) (2 ^ 64 - 1)
      → lost ≡ min (sum_by (λ (x : Standing). x.errand.lost) v.callers) (2 ^ 64 - 1) → IsCounted (closed_with g z words v) won lost
  last-counted won lost is_won is_lost =
      (is_won ∙ ap (λ n. min n (2 ^ 64 - 1)) (sym (last-sum won_of)), is_lost ∙ ap (λ n. min n (2 ^ 64 - 1)) (sym (last-sum lost_of)))
