-- What the script leaves in the caller's blocks.
use Rattle.std.specs.Prelude.{ℕ, suc, ◌≡◌, ◌≢◌, ◌+◌, List, [], ◌∷◌, ◌++◌, All, Option, Some, None, length, slice_get}
use Rattle.std.specs.List.{EachIndex}
use Rattle.heap_geometry.specs.Need.{need_of}
use Rattle.pool_model.specs.Pool.{Block as PoolBlock}
use Rattle.errand_steps.specs.Begins.{IsIdle}
use Rattle.live_heap.specs.declared.block.Block.{Block}
use Rattle.live_heap.specs.Heaps.{HeapFields}
use Rattle.live_heap.specs.Contents.{owned_in, word_of}
use Rattle.live_heap.specs.declared.pass.Pass.{Pass}
use Rattle.live_heap.specs.Passes.{IsOf, seen}
use Rattle.pool_model.specs.declared.event.Event.{Event}
use Rattle.pool_model.specs.Histories.{Begins}
use Rattle.typed_store.specs.declared.slot.Slot.{Slot}
use Rattle.typed_store.specs.Nodes.{Spells, tokens_in}
use Rattle.typed_store.specs.Passings.{freed_in, given_in}
use Rattle.typed_store.specs.Walks.{LedBy, ReadsPairs, record_reads}
use Rattle.store_runner.specs.declared.script.Script.{Script}
use Rattle.store_runner.specs.Scripts.{HasComeTo, HasPlayed, list_after, values_of}

-- a block that serves the token's need is owned at the place of each token, and no two of them are the same
abbrev pub AreOwned : (ℕ → Option PoolBlock) → List Block → Type 0
AreOwned owned [] = Unit {0}
AreOwned owned (token ∷ tokens) =
    ((block : PoolBlock) × (owned token.place ≡ Some block) × (block.need ≡ token.need)) × All (λ other. other.place ≢ token.place) tokens × AreOwned owned tokens

-- the blocks that are owned spell the pairs, with one node for each, given for three words, and one block more spells the words: it begins with how many they are, and was given for all these. No block is owned but these
pub record IsSpelled (owned : ℕ → Option PoolBlock) (pairs : List (ℕ × ℕ)) (words : List ℕ) : Type 0 where
  pub slots : List Slot
  pub head : ℕ
  pub list : Spells owned slots head pairs
  pub nodes : length (tokens_in slots) ≡ length pairs
  pub block : Block
  pub counted : word_of (owned block.place) 0 ≡ Some (length words)
  pub each : EachIndex words (λ i. word_of (owned block.place) (suc i) ≡ slice_get words i)
  pub threes : All (λ token. token.need ≡ need_of 3) (tokens_in slots)
  pub serves : block.need ≡ need_of (length words + 1)
  pub owns : AreOwned owned (tokens_in slots ++ block ∷ [])
  pub others : (place : ℕ) → All (λ token. token.place ≢ place) (tokens_in slots ++ block ∷ []) → owned place ≡ None

-- the last calls of a pass read the nodes of a list, from this number on, and then a record, and found these pairs and these words
abbrev pub ReadsBack : HeapFields → List Slot → ℕ → Block → List (ℕ × ℕ) → List ℕ → Pass → Type 0
ReadsBack h slots head block pairs words q =
    (p : Pass) × (between : Pass) × ReadsPairs h p slots head pairs between × LedBy h between (record_reads block words) q

-- the script was run with so many rounds: whole calls led from a new pass to this one, by which all rounds were played; the caller's blocks spell the list and the record, and the pairs and words are those that reads of these blocks found; it was given a block for each pair and for the record, and has freed all but those that it keeps
pub record HasRun (h : HeapFields) (rounds : ℕ) (script : Script) : Type 0 where
  pub of : IsOf h script.pass
  pub idle : IsIdle script.pass.errand
  pub caller : script.pass.errand.caller ≡ 0
  pub pairs : script.pairs.items ≡ list_after rounds
  pub words : script.words.items ≡ values_of (list_after rounds)
  pub keeps : IsSpelled (owned_in script.pass) (list_after rounds) (values_of (list_after rounds))
  pub read : ReadsBack h keeps.slots keeps.head keeps.block script.pairs.items script.words.items script.pass
  pub come : HasComeTo h script.pass
  pub played : (before : List Event) × HasPlayed rounds before × Begins before (seen script.pass)
  pub given : given_in script.pass ≡ rounds + 1
  pub freed : freed_in script.pass + length (list_after rounds) ≡ rounds
