-- A run makes one list of what its callers win, and what they win keeps its bounds.
use Rattle.std.proofs.Common.{ℕ, ◌≡◌, List, [], ◌∷◌, ◌++◌, refl, ap, sym, subst, inl, inr, ◌∙◌}
use Rattle.std.proofs.Math.Path.{fun_ext}
use Rattle.std.proofs.lemmas.Bool.{cases_eq}
use Rattle.sound_state.proofs.Common.{Geometry, WordName, Writes, cases_name, Event, ErrandFields, State, Step, Moves, IsSound, Move, begins, steps, Moved, Reaches}
use Rattle.sound_state.proofs.Common.{with_errands}
use Rattle.errand_steps.specs.Steps.{IsSame}
use Rattle.sound_laws.specs.bounds.Made.{ReachesWith, made_by}
use Rattle.sound_laws.specs.bounds.Wins.{Wins}
use Rattle.sound_laws.specs.bounds.Won.{IsWon}
use Rattle.sound_state.proofs.CountedLemmas.{without-counts}
use Rattle.sound_state.proofs.ReachLemmas.{moved-sound}
use Rattle.sound_laws.proofs.bounds_lemmas.BegunWins.{begins-won}
use Rattle.sound_laws.proofs.bounds_lemmas.WonSteps.{steps-won}

abbrev state_with : (WordName → ℕ) → (ℕ → ErrandFields) → List Event → State
state_with words errands history = record { word = words; errand = errands; history = history }

-- one word is written in one way only, and one errand is moved in one way only
writes-one :
    (before a b : WordName → ℕ) (name : WordName) (value : ℕ) → Writes before name value a → Writes before name value b → (n : WordName) → a n ≡ b n
writes-one before a b name value first second n =
    elim (cases_name n name) [
      | inl same ↦ ap a same ∙ (first.here ∙ (sym second.here ∙ ap b (sym same)))
      | inr differ ↦ first.elsewhere n differ ∙ sym (second.elsewhere n differ)
    ]

moves-one :
    (before a b : ℕ → ErrandFields) (caller : ℕ) (e : ErrandFields) → Moves before caller e a → Moves before caller e b → (other : ℕ)
    → a other ≡ b other
moves-one before a b caller e first second other =
    elim (cases_eq other caller) [
      | inl same ↦ ap a same ∙ (first.here ∙ (sym second.here ∙ ap b (sym same)))
      | inr differ ↦ first.elsewhere other differ ∙ sym (second.elsewhere other differ)
    ]

-- two states with the same words, errands and events are one
pub same-one : (a b : State) → IsSame a b → a ≡ b
same-one a b same =
    let words = ap (λ w. state_with w a.errand a.history) (fun_ext same.word) in
    let errands = ap (λ e. state_with b.word e a.history) (fun_ext same.errand) in
    words ∙ (errands ∙ ap (λ h. state_with b.word b.errand h) same.history)

-- a caller's step has one outcome only, and so has a move
pub step-one : (s a b : State) (caller : ℕ) → Step s caller a → Step s caller b → a ≡ b
step-one s a b caller first second =
    same-one a b
    (record {
      word = writes-one s.word a.word b.word _ _ first.word second.word;
      errand = moves-one s.errand a.errand b.errand caller _ first.errand second.errand;
      history = first.history ∙ sym second.history;
    })

moved-one : (g : Geometry) (s a b : State) (move : Move) → Moved g s move a → Moved g s move b → a ≡ b
moved-one g s a b (begins caller call) first second =
    first.1.after
    ∙ (ap (with_errands s) (fun_ext (moves-one s.errand first.1.errands second.1.errands caller _ first.1.moves second.1.moves)) ∙ sym second.1.after)
moved-one g s a b (steps caller) first second = step-one s a b caller first.1 second.1

-- every run makes a list of wins
pub reached-made :
    (g : Geometry) (s : State) (w : Wins) (moves : List Move) (s' : State) → Reaches g s moves s' → (w' : Wins) × ReachesWith g s w moves s' w'
reached-made g s w [] s' reached = (w, (reached, refl))
reached-made g s w (move ∷ rest) s' (next, moved, reached) =
    let (w', made) = reached-made g next (made_by s move w) rest s' reached in
    (w', (next, moved, made))

-- moves that make a list of wins are a run
pub made-reached :
    (g : Geometry) (s : State) (w : Wins) (moves : List Move) (s' : State) (w' : Wins) → ReachesWith g s w moves s' w' → Reaches g s moves s'
made-reached g s w [] s' w' made = made.0
made-reached g s w (move ∷ rest) s' w' (next, moved, made) = (next, moved, made-reached g next (made_by s move w) rest s' w' made)

-- a run that makes a list makes a longer one by one more move
pub made-more :
    (g : Geometry) (s : State) (w : Wins) (moves : List Move) (s' : State) (w' : Wins) (move : Move) (t : State)
    → ReachesWith g s w moves s' w' → Moved g s' move t → ReachesWith g s w (moves ++ move ∷ []) t (made_by s' move w')
made-more g s w [] s' w' move t made moved =
    (t, subst (λ m. Moved g m move t) made.0 moved, (refl, ap (λ v. made_by s' move v) made.1 ∙ ap (λ m. made_by m move w) made.0))
made-more g s w (first ∷ rest) s' w' move t (next, is, made) moved =
    (next, is, made-more g next (made_by s first w) rest s' w' move t made moved)

-- moves from a state lead to one state only, and make one list only
pub made-one :
    (g : Geometry) (s : State) (w : Wins) (moves : List Move) (a b : State) (u v : Wins) → ReachesWith g s w moves a u
    → ReachesWith g s w moves b v → (a ≡ b) × (u ≡ v)
made-one g s w [] a b u v first second = (first.0 ∙ sym second.0, first.1 ∙ sym second.1)
made-one g s w (move ∷ rest) a b u v (m, first, firsts) (n, second, seconds) =
    made-one g m (made_by s move w) rest a b u v firsts
    (subst (λ k. ReachesWith g k (made_by s move w) rest b v) (moved-one g s n m move second first) seconds)

-- a move keeps what was won and noted
moved-won :
    (g : Geometry) (s : State) (w : Wins) (move : Move) (s' : State) → IsSound g s → IsWon g s w → Moved g s move s' → IsWon g s' (made_by s move w)
moved-won g s w (begins caller call) s' sound won moved = begins-won g s w caller call s' won moved.0 moved.1
moved-won g s w (steps caller) s' sound won moved = steps-won g s w caller s' (without-counts g s sound) won moved.0 moved.1

-- a run keeps what was won and noted
pub made-won :
    (g : Geometry) (s : State) (w : Wins) (moves : List Move) (s' : State) (w' : Wins) → IsSound g s → IsWon g s w
    → ReachesWith g s w moves s' w' → IsWon g s' w'
made-won g s w [] s' w' sound won made = subst (λ t. IsWon g t w') (sym made.0) (subst (IsWon g s) (sym made.1) won)
made-won g s w (move ∷ rest) s' w' sound won (next, moved, made) =
    made-won g next (made_by s move w) rest s' w' (moved-sound g s move next sound moved) (moved-won g s w move next sound won moved) made
