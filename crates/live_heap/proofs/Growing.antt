-- Lists that only grow, and the events of one caller in them.
use Rattle.std.proofs.Common.{ℕ, suc, ◌≡◌, ◌≢◌, Bool, true, false, eq-eqb, ne_eqb, List, [], ◌∷◌, ◌++◌, length, Option, Some, None, refl, sym, ap, ◌∙◌, arith, length-append, append_assoc}
use Rattle.std.specs.Prelude.{if◌then◌else◌, count_by, option_to_list}
use Rattle.std.proofs.lemmas.List.{append-nil}
use Rattle.sound_laws.specs.bounds.Contention.{is_by}
use Rattle.sound_state.specs.Moves.{is_step_of}
use Rattle.sound_state.specs.Runs.{Move, begins, steps}
use Rattle.sound_laws.specs.bounds.Wins.{Win, win_at, win_list_after, offers}
use Rattle.sound_laws.proofs.bounds_lemmas.CountLemmas.{count-append}
use Rattle.errand_steps.specs.Calls.{Call}
use Rattle.errand_steps.specs.Errands.{counts_won}
use Rattle.errand_steps.specs.Steps.{State, action_at, found_at, name_at}
use Rattle.pool_model.specs.declared.event.Event.{Event}
use Rattle.pool_model.specs.Histories.{caller_of, own}
use Rattle.pool_model.proofs.HistoryLemmas.{own-append}
use Rattle.errand_steps.specs.Steps.{with_event}

-- the longer list begins with the shorter one
abbrev pub StartsWith : {A : Type 0} → List A → List A → Type 0
StartsWith {A} xs ys = (rest : List A) × (ys ≡ xs ++ rest)

module _ {A : Type 0} where
  pub starts-self : (xs : List A) → StartsWith xs xs
  starts-self xs = ([], sym (append-nil xs))

  pub starts-more : (xs ys zs : List A) → StartsWith xs ys → StartsWith xs (ys ++ zs)
  starts-more xs ys zs b = (b.0 ++ zs, ap (λ (l : List A). l ++ zs) b.1 ∙ append_assoc xs b.0 zs)

  pub starts-on : (xs ys zs : List A) → StartsWith xs ys → StartsWith ys zs → StartsWith xs zs
  starts-on xs ys zs a b = (a.0 ++ b.0, b.1 ∙ (ap (λ (l : List A). l ++ b.0) a.1 ∙ append_assoc xs a.0 b.0))

  pub none_left : (xs : List A) → length xs ≡ 0 → xs ≡ []
  none_left [] e = refl
  none_left (x ∷ xs) e = absurd (omega arith)

-- a list of events with one more, where there is one
pub starts-event : (xs ys : List Event) (event : Option Event) → StartsWith xs ys → StartsWith xs (with_event ys event)
starts-event xs ys None b = b
starts-event xs ys (Some event) b = starts-more xs ys (event ∷ []) b

-- what is added to a list that has all events of a caller has none of it
pub rest-none : (caller : ℕ) (xs rest : List Event) → own caller xs ≡ own caller (xs ++ rest) → own caller rest ≡ []
rest-none caller xs rest e =
    none_left _ (let a = ap length (e ∙ own-append caller xs rest) in let b = length-append (own caller xs) (own caller rest) in omega arith)

pub own-more : (caller : ℕ) (xs ys : List Event) → own caller ys ≡ [] → own caller (xs ++ ys) ≡ own caller xs
own-more caller xs ys none =
    own-append caller xs ys ∙ (ap (λ (l : List Event). own caller xs ++ l) none ∙ append-nil (own caller xs))

-- between a list that has all events of a caller and the whole, each has all of them
pub own-between : (caller : ℕ) (xs ys zs : List Event) → StartsWith xs ys → StartsWith ys zs → own caller xs ≡ own caller zs → own caller ys ≡ own caller zs
own-between caller xs ys zs a b e =
    let whole : zs ≡ xs ++ (a.0 ++ b.0) = b.1 ∙ (ap (λ (l : List Event). l ++ b.0) a.1 ∙ append_assoc xs a.0 b.0) in
    let none = rest-none caller xs (a.0 ++ b.0) (e ∙ ap (own caller) whole) in
    let n = ap length (sym (own-append caller a.0 b.0) ∙ none) in
    let m = length-append (own caller a.0) (own caller b.0) in
    let nb : own caller b.0 ≡ [] = none_left _ (omega arith) in
    sym (ap (own caller) b.1 ∙ own-more caller ys b.0 nb)

pub own-gone : (caller : ℕ) (event : Event) → caller ≢ caller_of event → own caller (event ∷ []) ≡ []
own-gone caller event differ = rw (ne_eqb (caller_of event) caller (λ same. differ (sym same))) refl

pub own-kept : (event : Event) → own (caller_of event) (event ∷ []) ≡ event ∷ []
own-kept event = rw (eq-eqb (caller_of event) (caller_of event) refl) refl

-- the event, if there is one, is of this caller
abbrev pub IsBy : ℕ → Option Event → Type 0
IsBy caller event = (e : Event) → event ≡ Some e → caller_of e ≡ caller

-- another caller's events are the same
pub own-others :
    (caller other : ℕ) (log : List Event) (event : Option Event) → IsBy caller event → other ≢ caller → own other (with_event log event) ≡ own other log
own-others caller other log None by differ = refl
own-others caller other log (Some event) by differ =
    own-more other log (event ∷ []) (own-gone other event (λ same. differ (same ∙ by event refl)))

-- one caller's win leaves another one's count
wins-one : (other : ℕ) (wins : List Win) (win : Win) → win.caller ≢ other → count_by (is_by other) (wins ++ win ∷ []) ≡ count_by (is_by other) wins
wins-one other wins win differ =
    let gone : is_by other win ≡ false = ne_eqb win.caller other differ in
    let none : count_by (is_by other) (win ∷ []) ≡ 0 = rw gone refl in
    omega (arith, count-append (is_by other) wins (win ∷ []), none)

wins-with : (other caller : ℕ) (wins : List Win) (win : Option Win) → ((x : Win) → win ≡ Some x → x.caller ≡ caller) → other ≢ caller
    → count_by (is_by other) (wins ++ option_to_list win) ≡ count_by (is_by other) wins
wins-with other caller wins None by differ = ap (count_by (is_by other)) (append-nil wins)
wins-with other caller wins (Some win) by differ = wins-one other wins win (λ same. differ (sym same ∙ by win refl))

won-by : (s : State) (caller : ℕ) (t : Bool) (x : Win)
    → (if t then Some (record { caller = caller; word = name_at s caller; install = offers (s.errand caller).point }) else None) ≡ Some x → x.caller ≡ caller
won-by s caller true x is = let same : record { caller = caller; word = name_at s caller; install = offers (s.errand caller).point } ≡ x = cc in sym (ap (λ (w : Win). w.caller) same)
won-by s caller false x is = absurd cc

pub wins-others :
    (s : State) (caller other : ℕ) (wins : List Win) → other ≢ caller
    → count_by (is_by other) (win_list_after s caller wins) ≡ count_by (is_by other) wins
wins-others s caller other wins differ =
    wins-with other caller wins (win_at s caller) (λ x is. won-by s caller (counts_won (action_at s caller) (found_at s caller)) x is) differ

-- between a list of wins that has all of a caller's and the whole, each has all of them
pub count-between :
    (caller : ℕ) (xs ys zs : List Win) → StartsWith xs ys → StartsWith ys zs → count_by (is_by caller) xs ≡ count_by (is_by caller) zs
    → count_by (is_by caller) ys ≡ count_by (is_by caller) zs
count-between caller xs ys zs a b is =
    let first = ap (count_by (is_by caller)) a.1 ∙ count-append (is_by caller) xs a.0 in
    let second = ap (count_by (is_by caller)) b.1 ∙ count-append (is_by caller) ys b.0 in
    omega (arith, first, second, is)

-- a call that begins is no step of anybody
pub begin-uncounted :
    (other caller : ℕ) (call : Call) (moves : List Move)
    → count_by (is_step_of other) (moves ++ begins caller call ∷ []) ≡ count_by (is_step_of other) moves
begin-uncounted other caller call moves = omega (arith, count-append (is_step_of other) moves (begins caller call ∷ []))

-- a step is one of its caller's, and none of another one's
pub step-counted :
    (caller : ℕ) (moves : List Move) → count_by (is_step_of caller) (moves ++ steps caller ∷ []) ≡ suc (count_by (is_step_of caller) moves)
step-counted caller moves =
    let one : count_by (is_step_of caller) (steps caller ∷ []) ≡ 1 = rw (eq-eqb caller caller refl) refl in
    omega (arith, count-append (is_step_of caller) moves (steps caller ∷ []), one)

pub steps-others :
    (caller other : ℕ) (moves : List Move) → other ≢ caller
    → count_by (is_step_of other) (moves ++ steps caller ∷ []) ≡ count_by (is_step_of other) moves
steps-others caller other moves differ =
    let none : count_by (is_step_of other) (steps caller ∷ []) ≡ 0 = rw (ne_eqb caller other (λ same. differ (sym same))) refl in
    omega (arith, count-append (is_step_of other) moves (steps caller ∷ []), none)
