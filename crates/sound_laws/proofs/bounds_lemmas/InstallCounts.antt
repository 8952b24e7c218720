-- How one more win and one more event are counted.
use Rattle.std.proofs.Common.{ℕ, Bool, true, cond, Option, Some, None, ◌≡◌, ◌≢◌, ◌≤◌, ◌+◌, List, refl, arith, sym, ◌&&◌, if◌then◌else◌, count_by, IsTrue, eq-eqb, ne_eqb}
use Rattle.std.proofs.lemmas.List.Sums.{sum_by_push}
use Rattle.sound_state.proofs.Common.{WordName, Event, State, with_event, found_at, name_at, one_if, gives_small, refuses_small}
use Rattle.sound_laws.specs.bounds.Installs.{installs_by, installs_against, installs_on}
use Rattle.sound_laws.specs.bounds.Wins.{Win, win_at, offers}
use Rattle.sound_laws.proofs.bounds_lemmas.ActiveChanges.{install-won}
use Rattle.sound_laws.proofs.bounds_lemmas.CountLemmas.{counted, count-most}
use Rattle.sound_laws.proofs.bounds_lemmas.SameNames.{same-name-refl}
use Rattle.sound_laws.proofs.bounds_lemmas.WinDefs.{given_by, refused_by}
use Rattle.sound_laws.proofs.bounds_lemmas.StepWins.{wins_at}

-- as many installs of others at most are on a word as there are
pub on-against : (caller : ℕ) (word : WordName) (xs : List Win) → count_by (installs_on caller word) xs ≤ count_by (installs_against caller) xs
on-against caller word xs =
    count-most (installs_on caller word) (installs_against caller) xs (λ x. grind (arith))

-- the small blocks given to a caller and refused to it are counted with one more event
pub count-gives :
    (caller : ℕ) (history : List Event) (o : Option Event)
    → count_by (gives_small caller) (with_event history o) ≡ count_by (gives_small caller) history + given_by caller o
count-gives caller history None = omega arith
count-gives caller history (Some e) = sum_by_push (λ x. cond (gives_small caller x) 1 0) history e

pub count-refuses :
    (caller : ℕ) (history : List Event) (o : Option Event)
    → count_by (refuses_small caller) (with_event history o) ≡ count_by (refuses_small caller) history + refused_by caller o
count-refuses caller history None = omega arith
count-refuses caller history (Some e) = sum_by_push (λ x. cond (refuses_small caller x) 1 0) history e

-- a caller's win counts as its install where it is an offer that was won, and never against it
by-offer : (caller : ℕ) (word : WordName) (b won : Bool)
    → counted (installs_by caller) (if won then Some (record { caller = caller; word = word; install = b }) else None) ≤ one_if (b && won)
by-offer caller word b won = grind (arith)

pub own-install :
    (s : State) (caller : ℕ) → counted (installs_by caller) (win_at s caller) ≤ one_if (offers (s.errand caller).point && (found_at s caller).won)
own-install s caller =
    let won = wins_at s caller in
    omega (arith, by-offer caller (name_at s caller) (offers (s.errand caller).point) won, install-won (s.errand caller).point (found_at s caller))

no-install-against-own : (caller : ℕ) (word : WordName) (b won : Bool)
    → counted (installs_against caller) (if won then Some (record { caller = caller; word = word; install = b }) else None) ≡ 0
no-install-against-own caller word b won = grind (arith, eq-eqb)

pub none-against : (s : State) (caller : ℕ) → counted (installs_against caller) (win_at s caller) ≡ 0
none-against s caller = no-install-against-own caller (name_at s caller) (offers (s.errand caller).point) (wins_at s caller)

-- another caller's win doesn't count as an install of a caller
by-other : (caller i : ℕ) (word : WordName) (b won : Bool) → i ≢ caller
    → counted (installs_by i) (if won then Some (record { caller = caller; word = word; install = b }) else None) ≡ 0
by-other caller i word b won ne = grind (arith, ne, ne_eqb)

pub other-install : (s : State) (caller i : ℕ) → i ≢ caller → counted (installs_by i) (win_at s caller) ≡ 0
other-install s caller i ne = by-other caller i (name_at s caller) (offers (s.errand caller).point) (wins_at s caller) ne

-- an install that was won counts on its word against each other caller
pub installs-there :
    (s : State) (caller i : ℕ) → i ≢ caller → IsTrue (offers (s.errand caller).point) → wins_at s caller ≡ true
    → counted (installs_on i (name_at s caller)) (win_at s caller) ≡ 1
installs-there s caller i ne offer won =
    rw (won, offer, ne_eqb caller i (λ same. ne (sym same)), same-name-refl (name_at s caller)) refl
