-- A pass whose blocks have all their words out.
use Rattle.std.specs.Prelude.{ℕ, ◌≡◌, ◌≢◌, ◌⊎◌, None}
use Rattle.heap_geometry.specs.declared.need.Need.{Need}
use Rattle.errand_steps.specs.Begins.{IsIdle}
use Rattle.errand_steps.specs.Calls.{Call, alloc, free}
use Rattle.live_heap.specs.Heaps.{HeapFields}
use Rattle.live_heap.specs.declared.pass.Pass.{Pass}
use Rattle.live_heap.specs.Calls.{IsCalling}
use Rattle.live_heap.specs.Contents.{owned_in}
use Rattle.live_heap.specs.Passes.{IsHome, IsOf, OwnsAt}

-- the pass owns no block whose words are home; and none but one at this place
abbrev pub HasAllOut : Pass → Type 0
HasAllOut p = (place : ℕ) → IsHome p place → owned_in p place ≡ None

abbrev pub HasAllOutBut : Pass → ℕ → Type 0
HasAllOutBut p but = (place : ℕ) → place ≢ but → IsHome p place → owned_in p place ≡ None

-- the pass is of this heap and in no call, and the words of all its blocks are out
pub record IsSettled (h : HeapFields) (p : Pass) : Type 0 where
  pub of : IsOf h p
  pub idle : IsIdle p.errand
  pub out : HasAllOut p

-- the pass is of this heap and in no call, and this is its one block whose words are home
pub record IsSettledBut (h : HeapFields) (p : Pass) (place : ℕ) (need : Need) : Type 0 where
  pub of : IsOf h p
  pub idle : IsIdle p.errand
  pub owned : OwnsAt p place need
  pub out : HasAllOutBut p place

-- how a pass stands from which a call begins that may be interrupted: the one block that is home is the one to be freed
abbrev pub StandsBefore : HeapFields → Pass → Call → Type 0
StandsBefore h p (alloc words) = IsSettled h p
StandsBefore h p (free place need) = IsSettledBut h p place need
StandsBefore h p call = ⊥

-- an allocation or a free is under way
pub record IsUnderWay (h : HeapFields) (p : Pass) : Type 0 where
  pub of : IsOf h p
  pub first : Pass
  pub call : Call
  pub steps : ℕ
  pub stands : StandsBefore h first call
  pub calling : IsCalling first call steps p

-- the pass of a cache: settled, or with a call under way
abbrev pub IsPassFor : HeapFields → Pass → Type 0
IsPassFor h p = IsSettled h p ⊎ IsUnderWay h p
