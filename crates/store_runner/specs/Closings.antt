-- The heap that a script leaves.
use Rattle.std.specs.Prelude.{ℕ, ◌≡◌, ◌+◌, List, [], ◌∷◌, count_by, length}
use Rattle.heap_geometry.specs.declared.geometry.Geometry.{Geometry}
use Rattle.heap_geometry.specs.declared.limits.TheConstants.{MAX_TURNS}
use Rattle.pool_model.specs.declared.event.Event.{Event}
use Rattle.pool_model.specs.Counts.{is_alloc, is_free}
use Rattle.pool_model.specs.Histories.{Begins}
use Rattle.pool_model.specs.Legal.{IsLegal}
use Rattle.pool_model.specs.Pool.{live_words, pool_of}
use Rattle.live_heap.specs.Contents.{owned_after}
use Rattle.live_heap.specs.Heaps.{HeapFields}
use Rattle.live_heap.specs.declared.pass.Pass.{Pass}
use Rattle.live_heap.specs.Endings.{ClosedFields, HasAccesses, HasClosed, IsResting}
use Rattle.store_runner.specs.Ends.{IsSpelled, ReadsBack}
use Rattle.store_runner.specs.Texts.{words_with}
use Rattle.store_runner.specs.Scripts.{HasComeTo, HasPlayed, list_after, values_of}

-- the heap of the script has 64 frames, one processor heap of each class, no unit and one caller
abbrev pub store_heap : Geometry
store_heap = record { frames = 64; heaps = 1; units = 0; callers = 1; turn_limit = MAX_TURNS }

-- the heap of a script of so many rounds: whole calls led from a new pass to the one with which it was closed, which made as many accesses as that counts; the rounds were played, one after the other; its caller's blocks spell the list and the record of its values, by the pool of its history, the last calls read them and found these pairs and words, and no other block is live, nor another word; the caller was given a block for each round and for the record, and has freed all but those
pub record IsStored (rounds : ℕ) (c : ClosedFields) : Type 0 where
  pub heap : c.geometry ≡ store_heap
  pub rests : IsResting c
  pub legal : IsLegal store_heap c.events
  pub keeps : IsSpelled (owned_after c.events 0) (list_after rounds) (values_of (list_after rounds))
  pub opened : HeapFields
  pub laid : opened.layout ≡ store_heap
  pub pass : Pass
  pub come : HasComeTo opened pass
  pub closed : HasClosed opened (pass ∷ []) c
  pub accesses : HasAccesses c (pass ∷ [])
  pub played : (before : List Event) × HasPlayed rounds before × Begins before c.events
  pub pairs : List (ℕ × ℕ)
  pub words : List ℕ
  pub read : ReadsBack opened keeps.slots keeps.head keeps.block pairs words pass
  pub pairs_are : pairs ≡ list_after rounds
  pub words_are : words ≡ values_of (list_after rounds)
  pub live : length (pool_of c.events) ≡ length (list_after rounds) + 1
  pub live_words : live_words (pool_of c.events) ≡ words_with (length (list_after rounds))
  pub given : count_by is_alloc c.events ≡ rounds + 1
  pub freed : count_by is_free c.events + length (list_after rounds) ≡ rounds
