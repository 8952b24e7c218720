-- When a pass is of a heap, and what it owns.
use Rattle.std.specs.Prelude.{ℕ, zero, suc, ◌≡◌, ◌≢◌, List, [], ◌∷◌, None, length}
use mathlib.Core.Option.{some}
use lib.ListN.{get_elem?}
use Rattle.heap_geometry.specs.declared.need.Need.{Need}
use Rattle.pool_model.specs.declared.event.Event.{Event}
use Rattle.errand_steps.specs.Errands.{open_errand}
use Rattle.step_machine.specs.Cores.{OwnsAfter}
use Rattle.step_machine.specs.Moments.{IsServed}
use Rattle.live_heap.specs.declared.block.Block.{Block}
use Rattle.live_heap.specs.Heaps.{HeapFields}
use Rattle.live_heap.specs.declared.pass.Pass.{Pass}
use Rattle.live_heap.specs.declared.view.Lent.{Lent}
use Rattle.live_heap.specs.declared.view.Standing.{Standing}
use Rattle.live_heap.specs.declared.view.View.{View}
use Rattle.live_heap.specs.Sights.{AreApart, AreOwned, IsBegun}

-- what the pass knows, and the events that it has seen
abbrev pub view : Pass → View
view p = p.seat.me.0

abbrev pub seen : Pass → List Event
seen p = p.seat.me.0.seen

-- how many accesses to shared words a pass counts, one for each step of its caller from the opening on; it stands for one caller
abbrev pub accesses_of : List Standing → ℕ
accesses_of [] = zero
accesses_of (x ∷ xs) = x.accesses

abbrev pub accesses : Pass → ℕ
accesses p = accesses_of (view p).callers

-- from p to q a pass has made one access more, and has the same blocks' words out
abbrev pub IsOneStep : Pass → Pass → Type 0
IsOneStep p q = (accesses q ≡ suc (accesses p)) × ((view q).lent ≡ (view p).lent)

-- the pass is of this heap: it stands for one caller, whose errand is the one that its last step left, or one that a call has begun with since; the events that it has seen are legal, and bound its turns; with one caller nothing was lost; and it has so many blocks' words out, each block once, its caller's own, and its errand is apart from them
pub record IsOf (h : HeapFields) (p : Pass) : Type 0 where
  pub table : p.seat.region ≡ h.region
  pub empty : p.seat.me.1 ≡ []
  pub before : Standing
  pub one : (view p).callers ≡ before ∷ []
  pub sight : before.seen ≡ seen p
  pub begun : IsBegun (seen p) before.errand p.errand
  pub served : IsServed h.layout p.errand.caller p.errand (seen p)
  pub alone : h.layout.callers ≡ 1 → p.errand.lost ≡ 0
  pub settled : (view p).lays ≡ None
  pub counted : length (view p).lent ≡ p.out
  pub mine : AreOwned (view p) p.errand.caller
  pub apart : AreApart (view p) p.errand
  pub once : (m n : ℕ) (a b : Lent) → get_elem? (view p).lent m ≡ some a → get_elem? (view p).lent n ≡ some b → a.place ≡ b.place → m ≡ n

-- the words of no block at this place are out with the pass
abbrev pub IsHome : Pass → ℕ → Type 0
IsHome p place = (n : ℕ) (b : Lent) → get_elem? (view p).lent n ≡ some b → b.place ≢ place

-- the pass owns the block at the place, that serves the need, after the events that it has seen; and the block's words are home
abbrev pub OwnsAt : Pass → ℕ → Need → Type 0
OwnsAt p place need = OwnsAfter (seen p) p.errand.caller place need × IsHome p place

abbrev pub Owns : Pass → Block → Type 0
Owns p block = OwnsAt p block.place block.need

-- a pass that has made no step
pub record IsFresh (h : HeapFields) (p : Pass) : Type 0 where
  pub of : IsOf h p
  pub errand : p.errand ≡ open_errand p.errand.caller h.layout
  pub nothing_seen : seen p ≡ []
  pub none_made : accesses p ≡ 0
  pub home : p.out ≡ 0

-- the passes of a new heap, in the order of their numbers, from one on
abbrev pub AreFrom : HeapFields → ℕ → List Pass → Type 0
AreFrom h caller [] = Unit {0}
AreFrom h caller (p ∷ ps) = IsFresh h p × (p.errand.caller ≡ caller) × AreFrom h (suc caller) ps
