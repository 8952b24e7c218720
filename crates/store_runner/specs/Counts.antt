-- How many blocks a caller was given and freed between two moments, and by which calls.
use Rattle.std.specs.Prelude.{ℕ, ◌≡◌, ◌+◌, List}
use Rattle.sound_laws.specs.events.Made.{LeadsBy, Made}
use Rattle.live_heap.specs.declared.pass.Pass.{Pass}
use Rattle.live_heap.specs.Whole.{MadeByPass}
use Rattle.typed_store.specs.declared.store.Stored.{Stored}
use Rattle.typed_store.specs.declared.store.Stored.TheVariants.{Done}
use Rattle.typed_store.specs.Passings.{freed_in, given_in}

-- a caller was given so many blocks, and freed so many, since its pass stood as p; whole calls led from there
pub record CountsBlocks (given freed : ℕ) (p q : Pass) : Type 0 where
  pub caller : q.errand.caller ≡ p.errand.caller
  pub given_is : given_in q ≡ given_in p + given
  pub freed_is : freed_in q ≡ freed_in p + freed
  pub made : List Made
  pub led : LeadsBy MadeByPass p made q

-- what is stored has a block
abbrev pub given_by : Stored → ℕ
given_by Done = 1
given_by stored = 0
