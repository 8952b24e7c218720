-- The machine's rule is kept.
use Rattle.std.proofs.Common.{ℕ, ◌≡◌, ◌<◌, ◌-◌, ◌^◌, refl, arith, ap, sym, ◌∙◌, subst, inl, inr, List, [], ◌∷◌, ◌++◌, length, slice_set, slice_index, slice_index_or}
use Rattle.std.specs.Prelude.{min, count_by}
use Rattle.std.proofs.lemmas.List.{get_or-set_same, get_or-set_other, get_or_read, length-set}
use Rattle.heap_geometry.specs.declared.geometry.Geometry.{Geometry}
use Rattle.heap_geometry.specs.declared.need.Need.{Need}
use Rattle.heap_geometry.specs.Geometry.{IsChecked}
use Rattle.word_table.specs.declared.name.WordName.{WordName}
use Rattle.word_table.specs.Table.{Exists, word_index}
use Rattle.word_table.specs.Words.{word_in}
use Rattle.word_table.proofs.TableLemmas.{word_index-within}
use Rattle.word_table.proofs.WordLemmas.{word_in-there}
use Rattle.errand_steps.specs.Begins.{IsHeapBlock, IsIdle}
use Rattle.errand_steps.specs.Calls.{Call, begun_by}
use Rattle.errand_steps.specs.Errands.{ErrandFields}
use Rattle.errand_steps.specs.Openings.{opening, installed}
use Rattle.errand_steps.specs.Steps.{State, Moves}
use Rattle.sound_laws.specs.bounds.Made.{made_by}
use Rattle.sound_state.specs.Moves.{is_step}
use Rattle.sound_state.specs.Runs.{BeginsCall, MayBegin, Move, Moved, begins, steps}
use Rattle.sound_state.specs.Sound.{IsSound, IsOwnErrand}
use Rattle.sound_laws.specs.bounds.Wins.{no_wins}
use Rattle.sound_laws.specs.bounds.Won.{IsWon}
use Rattle.sound_state.proofs.CountedLemmas.{without-counts}
use Rattle.sound_state.proofs.ReachLemmas.{reached-sound}
use Rattle.sound_state.proofs.beginnings.BegunLemmas.{owned-block}
use Rattle.sound_state.proofs.beginnings.InstalledLemmas.{open_installed-sound}
use Rattle.sound_state.proofs.beginnings.OpeningLemmas.{opening-sound}
use Rattle.sound_laws.proofs.bounds_lemmas.CountLemmas.{count-append}
use Rattle.sound_laws.proofs.bounds_lemmas.FirstWins.{first-won}
use Rattle.sound_laws.proofs.bounds_lemmas.MadeLemmas.{made-reached, made-more, made-won}
use Rattle.step_machine.specs.Cores.{CoreFields, IsCore, IsFirst, IsLonger, IsReached, OwnsBlock, errand_at, made_with, no_errand, state_of, with_errand}

-- the state before the first step is sound, and nothing is won in it
first-sound : (g : Geometry) (s : State) → IsChecked g → IsFirst g s → IsSound g s
first-sound g s checked first =
    elim first [
      | inl opens ↦ opening-sound g s checked opens
      | inr has ↦ open_installed-sound g has.0 s checked has.1 has.2
    ]

first-none : (g : Geometry) (s : State) → IsFirst g s → IsWon g s no_wins
first-none g s first =
    elim first [
      | inl opens ↦ first-won g (opening g) s opens
      | inr has ↦ first-won g (installed g has.0) s has.2
    ]

-- a state that was reached is sound, and what its run's steps won and noted keeps its bounds
pub run-sound : (g : Geometry) (s : State) (made : ℕ) → IsReached g s made → IsSound g s
run-sound g s made run =
    reached-sound g run.first run.moves s (first-sound g run.first run.checked run.opens)
    (made-reached g run.first no_wins run.moves s run.wins run.reaches)

pub run-won : (g : Geometry) (s : State) (made : ℕ) (run : IsReached g s made) → IsWon g s run.wins
run-won g s made run =
    made-won g run.first no_wins run.moves s run.wins (first-sound g run.first run.checked run.opens)
    (first-none g run.first run.opens) run.reaches

-- a machine under its rule is sound
pub core-sound : (c : CoreFields) → IsCore c → IsSound c.geometry (state_of c)
core-sound c core = run-sound c.geometry (state_of c) c.steps core.run

-- the steps of a run with one more move
counted-more :
    (made : ℕ) (moves : List Move) (move : Move) → made ≡ min (count_by is_step moves) (2 ^ 64 - 1)
    → made_with made move ≡ min (count_by is_step (moves ++ move ∷ [])) (2 ^ 64 - 1)
counted-more made moves (begins caller call) is = omega (arith, is, count-append is_step moves (begins caller call ∷ []))
counted-more made moves (steps caller) is = omega (arith, is, count-append is_step moves (steps caller ∷ []))

-- a run with one more move
pub run-more :
    (g : Geometry) (s : State) (made : ℕ) (move : Move) (s' : State) → IsReached g s made → Moved g s move s'
    → IsReached g s' (made_with made move)
run-more g s made move s' run moved = record {
  checked = run.checked;
  first = run.first;
  opens = run.opens;
  moves = run.moves ++ move ∷ [];
  wins = made_by s move run.wins;
  reaches = made-more g run.first no_wins run.moves s run.wins move s' run.reaches moved;
  steps = counted-more made run.moves move run.steps;
}

pub run-longer :
    (g : Geometry) (s s' : State) (made : ℕ) (run : IsReached g s made) (move : Move) → Moved g s move s'
    → (next : IsReached g s' (made_with made move)) × IsLonger g s s' made (made_with made move) run move next
unfolding run-more
run-longer g s s' made run move moved =
    (run-more g s made move s' run moved, record { first = refl; moves = refl; wins = refl })

-- a write to the list of errands moves one of them
pub moves-set :
    (errands : List ErrandFields) (caller : ℕ) (e : ErrandFields) → caller < length errands
    → Moves (errand_at errands) caller e (errand_at (slice_set errands caller e))
moves-set errands caller e within =
    record {
      here = get_or-set_same errands caller e no_errand within;
      elsewhere = λ other differ. get_or-set_other errands caller other e no_errand differ;
    }

-- the errand that is read is the caller's
pub errand-read :
    (c value : CoreFields) (caller : ℕ) (x : ErrandFields) → IsCore c → c ≡ value → caller < value.geometry.callers
    → x ≡ slice_index_or c.errands caller x → x ≡ errand_at value.errands caller
errand-read c value caller x core view below read =
    let callers : c.geometry.callers ≡ value.geometry.callers = ap (λ (v : CoreFields). v.geometry.callers) view in
    get_or_read c.errands caller x (omega (arith, core.errands, callers)) read no_errand
    ∙ ap (λ (v : CoreFields). errand_at v.errands caller) view

-- the errand that is read at a caller's number is of this caller and of the machine's heap
pub errand-own :
    (c value : CoreFields) (caller : ℕ) (x : ErrandFields) → IsCore c → c ≡ value → caller < value.geometry.callers
    → x ≡ slice_index_or c.errands caller x → IsOwnErrand c.geometry caller x
errand-own c value caller x core view below read =
    let callers : c.geometry.callers ≡ value.geometry.callers = ap (λ (v : CoreFields). v.geometry.callers) view in
    let below' : caller < c.geometry.callers = omega (arith, callers) in
    let P : ErrandFields → Type 0 = IsOwnErrand c.geometry caller in
    subst P (sym (get_or_read c.errands caller x (omega (arith, core.errands)) read no_errand)) ((core-sound c core).parts.1.formed.errands caller below')

-- a word of the heap of an errand that is read is one of the machine's
pub errand-heap :
    (c value : CoreFields) (caller : ℕ) (x : ErrandFields) (name : WordName) → IsCore c → c ≡ value → caller < value.geometry.callers
    → x ≡ slice_index_or c.errands caller x → Exists x.geometry name → Exists c.geometry name
errand-heap c value caller x name core view below read is =
    subst (λ g. Exists g name) (errand-own c value caller x core view below read).geometry is

-- the machine's rule is kept where the caller's errand has begun a call
pub core-begun :
    (c value : CoreFields) (caller : ℕ) (call : Call) (x e : ErrandFields) → IsCore c → c ≡ value → caller < value.geometry.callers
    → x ≡ slice_index_or c.errands caller x → IsIdle (errand_at value.errands caller) → MayBegin (state_of value) caller call
    → e ≡ begun_by x call → IsCore (with_errand c caller e)
core-begun c value caller call x e core view below read idle may begun =
    let V : CoreFields → Type 0 = λ v. (caller < v.geometry.callers) × IsIdle (errand_at v.errands caller) × MayBegin (state_of v) caller call in
    let mine : V c = subst V (sym view) (below, idle, may) in
    let within : caller < length c.errands = omega (arith, core.errands, mine.0) in
    let here : x ≡ errand_at c.errands caller = get_or_read c.errands caller x within read no_errand in
    let begun_so : BeginsCall (state_of c) caller call (state_of (with_errand c caller e)) = record {
      idle = mine.1;
      may = mine.2;
      errands = errand_at (slice_set c.errands caller e);
      moves =
          subst (λ f. Moves (errand_at c.errands) caller f (errand_at (slice_set c.errands caller e)))
          (begun ∙ ap (λ f. begun_by f call) here) (moves-set c.errands caller e within);
      after = refl;
    } in
    record {
      words = core.words;
      errands = length-set c.errands caller e ∙ core.errands;
      run = run-more c.geometry (state_of c) c.steps (begins caller call) (state_of (with_errand c caller e)) core.run (mine.0, begun_so);
    }

-- the caller's block is one of its errand's heap
pub block-begun :
    (c value : CoreFields) (caller place : ℕ) (need : Need) (x : ErrandFields) → IsCore c → c ≡ value → caller < value.geometry.callers
    → x ≡ slice_index_or c.errands caller x → OwnsBlock value caller place need → IsHeapBlock x.geometry place need
block-begun c value caller place need x core view below read owned =
    let own : IsOwnErrand c.geometry caller x = errand-own c value caller x core view below read in
    let O : CoreFields → Type 0 = λ v. OwnsBlock v caller place need in
    let mine : OwnsBlock c caller place need = subst O (sym view) owned in
    let P : Geometry → Type 0 = λ g. IsHeapBlock g place need in
    subst P (sym own.geometry)
    (owned-block c.geometry (state_of c) caller place need (without-counts c.geometry (state_of c) (core-sound c core)) (record { block = mine }))

-- the word that is read at a name's place is that of the name
pub word-read :
    (c value : CoreFields) (name : WordName) (index x : ℕ) → IsCore c → c ≡ value → Exists value.geometry name
    → index ≡ word_index c.geometry name → x ≡ slice_index_or c.words index x → x ≡ word_in value.geometry value.words name
word-read c value name index x core view is place read =
    let E : CoreFields → Type 0 = λ v. Exists v.geometry name in
    let is' : Exists c.geometry name = subst E (sym view) is in
    let within : index < length c.words = omega (arith, core.words, place, word_index-within c.geometry name is') in
    get_or_read c.words index x within read 0
    ∙ (ap (slice_index c.words) place
    ∙ (sym (word_in-there c.geometry c.words name is') ∙ ap (λ (v : CoreFields). word_in v.geometry v.words name) view))
