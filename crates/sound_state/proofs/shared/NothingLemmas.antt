-- A caller that goes on to a point at which it holds nothing.
use Rattle.std.proofs.Common.{◌≤◌, ℕ, None, ◌≡◌, ◌<◌, ◌+◌, List, length, refl, arith, inl, inr, All, slice_index}
use Rattle.std.proofs.lemmas.Grind.{common_steps}
use Rattle.std.proofs.lemmas.Option.{none-some}
use Rattle.sound_state.proofs.Common.{Geometry, SeatFields, Continuation, Point, Idle, ErrandFields, spare_of, pushed_by, State, passed_by, held_by, Kept, holds_of}
use Rattle.sound_state.proofs.Common.{IsWithout, Lists, IsSo, recalls_of, waits_in, scan_begins, no_words, HazardState, nothing, Block, Event, in_turn, is_unneeded}
use Rattle.sound_state.proofs.Common.{lacks_answer, lacks_frame, lacks_partial, one_if, pops_left, turn_stage_of}
use Rattle.step_parts.specs.declared.superblock.point.BlockPoint.TheVariants as block
use Rattle.sound_state.proofs.shared.ShownLemmas.{MayGoOn, MayGuard, MayStand}
use Rattle.sound_state.proofs.shared.StepLemmas.{HoldsException}
use Rattle.sound_state.proofs.shared.TieLemmas.{Excepts, IsSaidAt}
use Rattle.sound_state.proofs.shared.TurnEffects.{CountsGo, OwnCounts}

-- at the point a caller holds, awaits and pushes nothing; where it scans, it has noted no hazard word yet
pub record HoldsNothing (q : Point) : Type 0 where
  pub holds : holds_of q ≡ nothing
  pub waits : (class : ℕ) → waits_in class q ≡ 0
  pub pushed : pushed_by q ≡ None
  pub passed : passed_by q ≡ 0
  pub unread : (i : ℕ) → i < length (held_by q) → slice_index (held_by q) i ≡ 0

-- who is idle holds nothing, and so does who begins a scan
pub idle-nothing : HoldsNothing Idle
unfolding holds_of
idle-nothing = grind (arith)

-- a scan that begins has noted no hazard word yet
no_words-zero : (i : ℕ) → i < length no_words → slice_index no_words i ≡ 0
no_words-zero i lt = grind (arith, common_steps)

pub scan-nothing : (seat : SeatFields) (o : Continuation) → HoldsNothing (scan_begins seat o)
unfolding holds_of
scan-nothing seat o =
    record { holds = refl; waits = λ class. refl; pushed = refl; passed = refl; unread = no_words-zero }

-- and so does who begins an allocation
pub active-nothing : (seat : SeatFields) (o : Continuation) → HoldsNothing (Block (block.LoadActive seat) o)
unfolding holds_of
active-nothing seat o = grind (arith)

-- a caller that holds no block excepts none
pub keeps-excepts : (ks : List Kept) (h : HazardState) (place : ℕ) → HoldsException (record nothing { kept = ks; hazard = h }) place → ⊥
keeps-excepts ks h place (inl x) = omega (arith, x.2)
keeps-excepts ks h place (inr x) = omega (arith, x.2)

-- a caller at a point where it holds nothing guards nothing
pub nothing-guards :
    (g : Geometry) (s : State) (caller : ℕ) (q : Point) (retired : List ℕ) (word : ℕ) → HoldsNothing q → word ≡ 0 → MayGuard g s caller q retired word
nothing-guards g s caller q retired word h bare = grind (arith, h, bare, none-some)

-- a caller may stand at a point at which it holds nothing, where what it remembers there is so
pub nothing-stands :
    (g : Geometry) (s : State) (l : Lists) (caller : ℕ) (e : ErrandFields) → HoldsNothing e.point → All (IsWithout s) e.retired
    → (spare_of e.point ≡ 1 → length e.retired ≡ g.callers + 1) → All (IsSo g s l caller) (recalls_of e.point) → MayStand g s l caller e
nothing-stands g s l caller e h retired full so = grind (arith, h, retired, full, so)

-- a caller may go on to a point at which it holds nothing, where what it remembers there is so
pub nothing-may :
    (g : Geometry) (s : State) (l : Lists) (caller : ℕ) (a b : ErrandFields) → HoldsNothing b.point
    → All (IsWithout s) b.retired → (spare_of b.point ≡ 1 → length b.retired ≡ g.callers + 1)
    → All (IsSo g s l caller) (recalls_of b.point) → ((place : ℕ) → Excepts a place → IsSaidAt g s l place) → CountsGo caller s.history a b
    → MayGoOn g s l caller a b
nothing-may g s l caller a b h retired full so said counts = grind (arith, h, retired, full, so, said, counts, nothing-stands)

-- a turn goes on from p to q where a retirement or a push of a descriptor ends, with so many turns begun before and after
pub record TurnResumes (p q : Point) (turns turns' : ℕ) : Type 0 where
  pub under_way : one_if (in_turn q) + turns ≤ one_if (in_turn p) + turns'
  pub lost :
      turns' + one_if (is_unneeded (turn_stage_of q)) + one_if (lacks_answer (turn_stage_of p))
      ≤ turns + one_if (is_unneeded (turn_stage_of p)) + one_if (lacks_answer (turn_stage_of q))
  pub unanswered : one_if (lacks_answer (turn_stage_of q)) + turns ≤ one_if (lacks_answer (turn_stage_of p)) + turns'
  pub unframed : one_if (lacks_frame (turn_stage_of q)) + turns ≤ one_if (lacks_frame (turn_stage_of p)) + turns'
  pub pops :
      pops_left q + one_if (lacks_partial (turn_stage_of q)) + turns ≤ pops_left p + one_if (lacks_partial (turn_stage_of p)) + turns'

-- what a caller was given, was refused and lost accounts for the turns that it has begun then
pub resumes-counts :
    (caller : ℕ) (past : List Event) (a b : ErrandFields) → OwnCounts caller past a → a.lost ≤ b.lost → TurnResumes a.point b.point a.turns b.turns
    → OwnCounts caller past b
resumes-counts caller past a b counts more turn = grind (arith, counts, more, turn)
