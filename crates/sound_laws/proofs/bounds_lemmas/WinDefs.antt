-- What a step does to what its caller expects, and to its turn: the statements that the points owe.
use Rattle.std.proofs.Common.{ℕ, Bool, true, false, ◌≡◌, ◌≢◌, ◌≤◌, ◌+◌, List, [], ◌⊎◌, ◌&&◌, not, All, Any, Option, Some, None, IsTrue}
use Rattle.sound_state.proofs.Common.{Null, active_word, Found, WordName, name_of, after_action, BlockPoint, Event, Next, At, End, Retire, Pick, Unlist, Point, counts_lost}
use Rattle.sound_state.proofs.Common.{event_of, next_of, plan_point_of, turn_stage_of, is_unneeded, one_if, gives_small, refuses_small, Action, found_by, Turn}
use Rattle.sound_state.proofs.Common.{is_lost_exchange, continuation_turn_stage, lacks_answer, is_seeking, out_of_turn}
use Rattle.step_parts.specs.declared.superblock.point.BlockPoint.TheVariants as block
use Rattle.errand_steps.specs.declared.point.Point.TheVariants as point
use Rattle.errand_steps.specs.tables.Expected.{Expected, continuation_expects}
use Rattle.sound_laws.specs.bounds.Expectations.{expects_of}
use Rattle.sound_state.specs.TurnStages.{is_offering}
use Rattle.errand_steps.specs.tables.TurnStage.{TurnStage, not_needed}
use Rattle.sound_laws.specs.bounds.Wins.{is_self_exchange, offers}

-- an expectation that a caller had before its step, of another word than the step's
abbrev pub IsCarried : Point → WordName → Expected → Type 0
IsCarried p n e = Any (λ x. x ≡ e) (expects_of p) × (e.word ≢ n)

-- an expectation that the step meets: it sees or leaves that number in its word, by a load, a store or a change that it won
pub record IsSeen (a : Action) (x : Found) (e : Expected) : Type 0 where
  pub word : e.word ≡ name_of a
  pub value : after_action a x.value ≡ e.value
  pub kept : is_lost_exchange a x ≡ false
  pub noted : is_self_exchange a ≡ false

abbrev pub MayExpect : Point → Action → Found → Expected → Type 0
MayExpect p a x e = IsCarried p (name_of a) e ⊎ IsSeen a x e

-- what a caller expects where it goes on, whatever its retired list says
abbrev pub next_expects : Next → List Expected
next_expects (At p) = expects_of p
next_expects (End r) = []
next_expects (Turn s need) = []
next_expects (Retire s d o) = continuation_expects s o
next_expects (Pick s held o) = continuation_expects s o
next_expects (Unlist s d o) = continuation_expects s o

-- how far the turn is when a caller goes on: it takes another one only where its superblock wasn't needed
abbrev pub next_stage : Next → TurnStage
next_stage (At p) = turn_stage_of p
next_stage (End r) = out_of_turn
next_stage (Turn s need) = not_needed
next_stage (Retire s d o) = continuation_turn_stage o
next_stage (Pick s held o) = continuation_turn_stage o
next_stage (Unlist s d o) = continuation_turn_stage o

-- 1 where the turn has no answer yet when a caller goes on; where its superblock wasn't needed; whether it found none active; 1 where it offers
abbrev pub next_unanswered : Next → ℕ
next_unanswered n = one_if (lacks_answer (next_stage n))

abbrev pub next_discards : Next → ℕ
next_discards n = one_if (is_unneeded (next_stage n))

abbrev pub next_seeks : Next → Bool
next_seeks n = is_seeking (next_stage n)

abbrev pub next_offers : Next → ℕ
next_offers n = one_if (is_offering (next_stage n))

-- whether a caller at the point loads the active word
abbrev pub looks_active : Point → Bool
looks_active (point.Block (block.LoadActive s) o) = true
looks_active p = false

-- whether a caller at the point offers a new superblock
abbrev pub is_new_offer : BlockPoint → Bool
is_new_offer (block.InstallSuperblock at) = true
is_new_offer p = false

abbrev pub offers_new : Point → Bool
offers_new (point.Block p o) = is_new_offer p
offers_new p = false

-- what a point's step finds, where its word is v
abbrev pub found_in : Point → ℕ → Found
found_in p v = found_by (plan_point_of p) v

-- a step that finds v in its word carries or sees all that its caller expects after it
abbrev pub ExpectsOn : Point → ℕ → Type 0
ExpectsOn p v = All (MayExpect p (plan_point_of p) (found_in p v)) (next_expects (next_of p (found_in p v)))

-- a step that counts as lost finds another word than its caller expects there
abbrev pub LosesOn : Point → ℕ → Type 0
LosesOn p v =
    counts_lost p (found_in p v) ≡ true
    → Any (λ e. (e.word ≡ name_of (plan_point_of p)) × (v ≢ e.value)) (expects_of p)

-- 1 where the event gives this caller a small block, and where it refuses one
abbrev pub given_by : ℕ → Option Event → ℕ
given_by caller None = 0
given_by caller (Some e) = one_if (gives_small caller e)

abbrev pub refused_by : ℕ → Option Event → ℕ
refused_by caller None = 0
refused_by caller (Some e) = one_if (refuses_small caller e)

-- what a step from p that finds v, is won or not, adds this event and leads to n does to its caller's turn
pub record TurnsTo (caller : ℕ) (p : Point) (v : ℕ) (won : Bool) (e : Option Event) (n : Next) : Type 0 where
  pub unanswered : one_if (lacks_answer (turn_stage_of p)) ≤ given_by caller e + refused_by caller e + next_unanswered n
  pub discards : next_discards n ≤ one_if (is_unneeded (turn_stage_of p)) + one_if (offers_new p && not won)
  pub offers : next_offers n + one_if (offers p && won) ≤ one_if (is_offering (turn_stage_of p)) + given_by caller e
  pub seeks : IsTrue (next_seeks n) → IsTrue (is_seeking (turn_stage_of p)) ⊎ (IsTrue (looks_active p) × (v ≡ active_word Null))

-- what a step does to its caller's turn, with what it finds where its word is v
abbrev pub TurnsOn : ℕ → Point → ℕ → Type 0
TurnsOn caller p v = TurnsTo caller p v (found_in p v).won (event_of caller p (found_in p v)) (next_of p (found_in p v))
