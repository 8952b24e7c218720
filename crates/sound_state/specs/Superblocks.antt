-- A superblock as the words, the callers and the events show it, and the chain of its free blocks.
use Rattle.std.specs.Prelude.{ℕ, Bool, true, false, ◌≡◌, ◌<◌, ◌+◌, ◌==◌, ◌&&◌, not, if◌then◌else◌, Option, Some, None, List, [], ◌∷◌, IsSome, IsTrue}
use Rattle.heap_geometry.specs.declared.geometry.Geometry.{Geometry}
use Rattle.heap_geometry.specs.Need.{block_count_of}
use Rattle.heap_geometry.specs.Place.{block_place}
use Rattle.packed_words.specs.declared.active.ActiveWord.{ActiveWord}
use Rattle.packed_words.specs.declared.active.ActiveWord.TheVariants.{Null, Held}
use Rattle.packed_words.specs.Active.{active_of}
use Rattle.packed_words.specs.Anchor.{AnchorFields, anchor_of}
use Rattle.packed_words.specs.Info.{InfoFields, info_of}
use Rattle.word_table.specs.Counts.{descriptor_count}
use Rattle.word_table.specs.Seats.{info_in}
use Rattle.word_table.specs.declared.name.WordName.{WordName}
use Rattle.word_table.specs.declared.name.WordName.TheVariants as name
use Rattle.word_table.specs.Occurs.{occurs}
use Rattle.step_parts.specs.superblock.Chains.{chain_of, link_in}
use Rattle.step_parts.specs.partial.Grants.{is_empty}
use Rattle.pool_model.specs.Pool.{Block, block_at, pool_of}
use Rattle.errand_steps.specs.Errands.{ErrandFields}
use Rattle.errand_steps.specs.Steps.{State}
use Rattle.errand_steps.specs.tables.Holding.{Reserved, Kept, Status, reserving, waiting, partly_used, on_its_way}
use Rattle.sound_state.specs.Holdings.{holds_of}
use Rattle.sound_state.specs.Lists.{Lists}
use Rattle.sound_state.specs.Sums.{words_sum, callers_sum}

-- what a descriptor's info word says, or what a word of 0 would where it says nothing; and what its anchor word says
abbrev pub info_or_zero : Option InfoFields → InfoFields
info_or_zero None = record { frame = 0; heap = 0; class = 0 }
info_or_zero (Some info) = info

abbrev pub info_for : State → ℕ → InfoFields
info_for s d = info_or_zero (info_of (s.word (name.Info d)))

abbrev pub anchor_for : State → ℕ → AnchorFields
anchor_for s d = anchor_of (s.word (name.Anchor d))

-- how many blocks of d an active word offers, and how many a caller has reserved
abbrev pub offered : ℕ → Option ActiveWord → ℕ
offered d None = 0
offered d (Some Null) = 0
offered d (Some (Held e credits)) = if e == d then credits + 1 else 0

abbrev pub word_reserves : ℕ → WordName → ℕ → ℕ
word_reserves d (name.Active heap class) word = offered d (active_of word)
word_reserves d other word = 0

abbrev pub reserved_among : ℕ → List Reserved → ℕ
reserved_among d [] = 0
reserved_among d (r ∷ rest) = (if r.desc == d then r.blocks else 0) + reserved_among d rest

abbrev pub errand_reserves : ℕ → ErrandFields → ℕ
errand_reserves d e = reserved_among d (holds_of e.point).credits

-- how many free blocks of d are reserved
abbrev pub reserved_of : Geometry → State → ℕ → ℕ
reserved_of g s d = words_sum g (word_reserves d) s.word + callers_sum g (errand_reserves d) s.errand

-- whether two states of kept descriptors are the same; how often a list, and a caller, keeps d in this state
abbrev pub same_status : Status → Status → Bool
same_status reserving reserving = true
same_status waiting waiting = true
same_status partly_used partly_used = true
same_status on_its_way on_its_way = true
same_status a b = false

abbrev pub kept_among : Status → ℕ → List Kept → ℕ
kept_among status d [] = 0
kept_among status d (k ∷ rest) =
    (if (k.desc == d) && same_status k.status status then 1 else 0) + kept_among status d rest

abbrev pub errand_keeps : Status → ℕ → ErrandFields → ℕ
errand_keeps status d e = kept_among status d (holds_of e.point).kept

-- how many callers have a new superblock of d that waits to be installed: one or none
abbrev pub waiting_of : Geometry → State → ℕ → ℕ
waiting_of g s d = callers_sum g (errand_keeps waiting d) s.errand

-- how often d is away from the superblocks: available, retired, or on its way
abbrev pub errand_away : ℕ → ErrandFields → ℕ
errand_away d e = occurs d e.retired + errand_keeps on_its_way d e

abbrev pub away_of : Geometry → State → Lists → ℕ → ℕ
away_of g s l d = occurs d l.available + callers_sum g (errand_away d) s.errand

-- the descriptor has a superblock: it isn't away, and isn't EMPTY
abbrev pub is_bound : Geometry → State → Lists → ℕ → Bool
is_bound g s l d = (away_of g s l d == 0) && not (is_empty (anchor_for s d).state)

-- 1 where a block is live at the place, else 0
abbrev pub is_there : Option Block → ℕ
is_there None = 0
is_there (Some block) = 1

abbrev pub live_at : State → ℕ → ℕ
live_at s place = is_there (block_at place (pool_of s.history))

-- what there is to say of a superblock: its anchor, its reserved blocks, whether it waits, its links, its live blocks and its size
pub record Superblock : Type 0 where
  pub anchor : AnchorFields
  pub reserved : ℕ
  pub waiting : ℕ
  pub next : ℕ → ℕ
  pub live : ℕ → ℕ
  pub size : ℕ

abbrev pub superblock_of : Geometry → State → ℕ → Superblock
superblock_of g s d =
    let info = info_for s d in
    record {
      anchor = anchor_for s d;
      reserved = reserved_of g s d;
      waiting = waiting_of g s d;
      next = link_in s.word info.frame info.class;
      live = λ i. live_at s (block_place info.frame info.class i);
      size = block_count_of info.class;
    }

-- a superblock's free blocks, from the first available one on: those that nobody has reserved, and the reserved ones
abbrev pub free_chain : Superblock → List ℕ
free_chain b = chain_of b.next (b.anchor.count + b.reserved) b.anchor.avail

-- 1 where a block is held back: block 0 of a new superblock that waits is neither free nor live yet
abbrev pub held_back : Superblock → ℕ → ℕ
held_back b i = if i == 0 then b.waiting else 0

-- each block of a superblock is free, live or held back, and just one of these
pub record IsChained (b : Superblock) : Type 0 where
  pub avail : b.anchor.avail < b.size
  pub within : (i : ℕ) → 0 < occurs i (free_chain b) → i < b.size
  pub links : (i : ℕ) → 0 < occurs i (free_chain b) → b.next i < b.size
  pub once : (i : ℕ) → i < b.size → occurs i (free_chain b) + b.live i + held_back b i ≡ 1
  pub some : b.anchor.count < b.size

-- every descriptor's word says where a superblock may lie, and each that has a superblock has its blocks in order
pub record AreChained (g : Geometry) (s : State) (l : Lists) : Type 0 where
  pub infos : (d : ℕ) → d < descriptor_count g → IsSome (info_in g (s.word (name.Info d)))
  pub chained : (d : ℕ) → d < descriptor_count g → IsTrue (is_bound g s l d) → IsChained (superblock_of g s d)
