-- What the store's pass may do between two changes of its blocks, and where a walk along the list stands.
use Rattle.std.specs.Prelude.{ℕ, suc, ◌≡◌, ◌==◌, ◌⊎◌, List, [], ◌∷◌, ◌++◌, All, Option, Some, None, count_by, length, if◌then◌else◌}
use Rattle.pool_model.specs.Counts.{is_alloc, is_free}
use Rattle.pool_model.specs.Histories.{own}
use Rattle.errand_steps.specs.Begins.{IsIdle}
use Rattle.sound_laws.specs.events.Made.{Made}
use Rattle.live_heap.specs.declared.block.Block.{Block}
use Rattle.live_heap.specs.Heaps.{HeapFields}
use Rattle.live_heap.specs.declared.pass.Pass.{Pass}
use Rattle.live_heap.specs.Contents.{OwnsSame}
use Rattle.live_heap.specs.Holdings.{HoldsExactly}
use Rattle.live_heap.specs.Passes.{IsOf, seen, view}
use Rattle.typed_store.specs.declared.seeking.Sought.{Sought}
use Rattle.typed_store.specs.Links.{Leads}
use Rattle.typed_store.specs.Nodes.{first_with}
use Rattle.typed_store.specs.Walks.{IsOnWord, IsRead, LedBy}

-- how often the caller of a pass was given a block, and how often it freed one, by the events that the pass has seen
abbrev pub given_in : Pass → ℕ
given_in p = count_by is_alloc (own p.errand.caller (seen p))

abbrev pub freed_in : Pass → ℕ
freed_in p = count_by is_free (own p.errand.caller (seen p))

-- the pass is in no call, holds the blocks that it held, has the same blocks' words out, and was given and has freed none since: all that led to it are reads and writes of words, one access each
pub record Rests (h : HeapFields) (p q : Pass) : Type 0 where
  pub of : IsOf h q
  pub idle : IsIdle q.errand
  pub caller : q.errand.caller ≡ p.errand.caller
  pub hand : (blocks : List Block) → HoldsExactly p blocks → HoldsExactly q blocks
  pub lent : (view q).lent ≡ (view p).lent
  pub given : given_in q ≡ given_in p
  pub freed : freed_in q ≡ freed_in p
  pub made : List Made
  pub on_words : All IsOnWord made
  pub led : LedBy h p made q

-- the pass rests, its blocks have the words that they had, and all that led to it are reads
pub record KeepsWords (h : HeapFields) (p q : Pass) : Type 0 where
  pub rests : Rests h p q
  pub same : OwnsSame p q
  pub reads : All IsRead rests.made

-- which node leads to this number, behind these pairs from the head: none, or that of the last of the pairs
abbrev pub IsLink : (ℕ → Option (ℕ × (ℕ × ℕ))) → ℕ → List (ℕ × ℕ) → ℕ → ℕ → Type 0
IsLink at head before previous here =
    ((before ≡ []) × (previous ≡ 0))
    ⊎ ((front : List (ℕ × ℕ)) × (pair : ℕ × ℕ) × (slot : ℕ) × (before ≡ front ++ pair ∷ []) × (previous ≡ suc slot)
    × Leads at head front (suc slot) × (at slot ≡ Some (here, pair)))

-- a walk along the list has passed so many of its pairs, and stands at this number
pub record IsPassing (at : ℕ → Option (ℕ × (ℕ × ℕ))) (head previous here passed : ℕ) (pairs : List (ℕ × ℕ)) : Type 0 where
  pub before : List (ℕ × ℕ)
  pub after : List (ℕ × ℕ)
  pub whole : pairs ≡ before ++ after
  pub passed_is : length before ≡ passed
  pub come : Leads at head before here
  pub left : Leads at here after 0
  pub link : IsLink at head before previous here

-- a node of the list stands behind these pairs and in front of those
pub record StandsBetween (at : ℕ → Option (ℕ × (ℕ × ℕ))) (head : ℕ) (before : List (ℕ × ℕ)) (sought : Sought) (after : List (ℕ × ℕ)) : Type 0 where
  pub come : Leads at head before (suc sought.slot)
  pub here : at sought.slot ≡ Some (sought.node.next, (sought.node.key, sought.node.value))
  pub left : Leads at sought.node.next after 0
  pub link : IsLink at head before sought.previous (suc sought.slot)

-- the node that is sought is that of the first pair with this key
pub record FindsNode (at : ℕ → Option (ℕ × (ℕ × ℕ))) (head key : ℕ) (pairs : List (ℕ × ℕ)) (sought : Sought) : Type 0 where
  pub before : List (ℕ × ℕ)
  pub after : List (ℕ × ℕ)
  pub whole : pairs ≡ before ++ (sought.node.key, sought.node.value) ∷ after
  pub key_is : sought.node.key ≡ key
  pub first : first_with key before ≡ None
  pub stands : StandsBetween at head before sought after

-- the nodes without that of one slot
abbrev pub but : (ℕ → Option (ℕ × (ℕ × ℕ))) → ℕ → ℕ → Option (ℕ × (ℕ × ℕ))
but at gone slot = if slot == gone then None else at slot
