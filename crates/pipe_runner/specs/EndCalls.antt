-- The whole calls that each end of a pipeline makes, in their order, and the words that its reads find.
use Rattle.std.specs.Prelude.{ℕ, suc, ◌≡◌, ◌<◌, ◌+◌, ◌%◌, ◌^◌, ◌==◌, ◌⊎◌, List, [], ◌∷◌, All, Some, if◌then◌else◌, length, map}
use Rattle.heap_geometry.specs.declared.need.Need.{Need}
use Rattle.errand_steps.specs.declared.reply.Reply.TheVariants as reply
use Rattle.errand_steps.specs.Calls.{alloc, free, put, take, write}
use Rattle.sound_laws.specs.events.Made.{LeadsBy, Made, answered, found_from}
use Rattle.live_heap.specs.declared.block.Block.{Block}
use Rattle.live_heap.specs.Heaps.{HeapFields}
use Rattle.live_heap.specs.declared.pass.Pass.{Pass}
use Rattle.live_heap.specs.Passes.{IsFresh}
use Rattle.live_heap.specs.Whole.{MadeByPass}
use Rattle.block_pipe.specs.declared.note.Note.{Note}
use Rattle.block_pipe.specs.Notes.{shelf_for}
use Rattle.pipe_runner.specs.declared.sender.TheConstants.{SHELVES_EACH}
use Rattle.pipe_runner.specs.Messages.{first_word, with_words}

-- an allocation of so many words that was given no block; a put of a block on a shelf that held one; a take from a shelf that got none
abbrev pub GaveNone : ℕ → Made → Type 0
GaveNone words made = (made ≡ answered (alloc words) reply.Refused) ⊎ (made ≡ answered (alloc words) reply.Spent)

abbrev pub FoundFull : Block → ℕ → Made → Type 0
FoundFull block shelf made = (found : ℕ) × (made ≡ answered (put block.place block.need shelf) (reply.Full found))

abbrev pub GotNone : ℕ → Made → Type 0
GotNone shelf made =
    (made ≡ answered (take shelf) reply.Empty)
    ⊎ ((expected : ℕ) × (found : ℕ) × (made ≡ answered (take shelf) (reply.Missed expected found)))

-- calls that all came to nothing, each in this way, led from one pass to the other
pub record HasTried (CameToNothing : Made → Type 0) (p q : Pass) : Type 0 where
  pub made : List Made
  pub each : All CameToNothing made
  pub led : LeadsBy MadeByPass p made q

-- a write for each word, from word i of a block on
abbrev pub wrote_from : ℕ → Need → ℕ → List ℕ → List Made
wrote_from place need i [] = []
wrote_from place need i (word ∷ words) = answered (write place need i word) reply.Wrote ∷ wrote_from place need (suc i) words

-- the three words of a message that begins with this one
abbrev pub words_from : ℕ → List ℕ
words_from first = first ∷ ((first + 1) % 2 ^ 64) ∷ ((first + 2) % 2 ^ 64) ∷ []

-- message i of a sender was sent, with this note of its block: allocations until one gave the block, a write of each of its words, and puts on the note's shelf until one was made, and no other call, led from one pass to the other
pub record Sends (start sender i : ℕ) (note : Note) (p q : Pass) : Type 0 where
  pub block : Block
  pub note_is : note ≡ record { sender = sender; seq = i; shelf = shelf_for SHELVES_EACH sender i; place = block.place }
  pub asked : Pass
  pub refused : HasTried (GaveNone 3) p asked
  pub given : Pass
  pub gives : MadeByPass asked (alloc 3) (reply.Given block.place block.need) given
  pub written : Pass
  pub writes : LeadsBy MadeByPass given (wrote_from block.place block.need 0 (words_from (first_word start sender i))) written
  pub tried : Pass
  pub full : HasTried (FoundFull block note.shelf) written tried
  pub puts : MadeByPass tried (put block.place block.need note.shelf) reply.Put q

-- a sender's messages from number i on were sent one after the other, with these notes
abbrev pub SendsEach : ℕ → ℕ → ℕ → List Note → Pass → Pass → Type 0
SendsEach start sender i [] p q = q ≡ p
SendsEach start sender i (note ∷ notes) p q =
    (between : Pass) × Sends start sender i note p between × SendsEach start sender (suc i) notes between q

-- all that a sender's pass has done since the heap was opened: it has sent a message for each note that was pushed, the first one first
pub record SendsAll (h : HeapFields) (start sender : ℕ) (pushed : List Note) (p : Pass) : Type 0 where
  pub first : Pass
  pub fresh : IsFresh h first
  pub each : SendsEach start sender 0 pushed first p

-- a block that was received: the note by which it came, the block, and the words that reads of it found
pub record Got : Type 0 where
  pub note : Note
  pub block : Block
  pub words : List ℕ

-- a block was received: takes from its note's shelf until one got it, reads from its first word on, which found these words, and its free, and no other call, led from one pass to the other
pub record Receives (got : Got) (p q : Pass) : Type 0 where
  pub tried : Pass
  pub missed : HasTried (GotNone got.note.shelf) p tried
  pub taken : Pass
  pub takes : MadeByPass tried (take got.note.shelf) (reply.Got got.block.place got.block.need) taken
  pub read : Pass
  pub reads : LeadsBy MadeByPass taken (found_from got.block.place got.block.need 0 got.words) read
  pub frees : MadeByPass read (free got.block.place got.block.need) reply.Freed q

-- blocks were received one after the other
abbrev pub ReceivesEach : List Got → Pass → Pass → Type 0
ReceivesEach [] p q = q ≡ p
ReceivesEach (got ∷ gots) p q = (between : Pass) × Receives got p between × ReceivesEach gots between q

-- a fold with words that reads found
abbrev pub with_found : ℕ → List ℕ → ℕ
with_found fold words = with_words fold (map (λ word. Some word) words)

-- a sender's fold with the words of a block, where the block's note is of that sender
abbrev pub with_got : ℕ → ℕ → Got → ℕ
with_got k fold got = if got.note.sender == k then with_found fold got.words else fold

-- a sender's fold with the words of all blocks that came with its notes, one block after the other
abbrev pub found_of : ℕ → ℕ → List Got → ℕ
found_of k fold [] = fold
found_of k fold (got ∷ gots) = found_of k (with_got k fold got) gots

-- all that the receiver's pass has done since the heap was opened: it has received a block for each note that was popped, three words were read of each, and each sender's fold is that of the words which these reads found
pub record ReceivesAll (h : HeapFields) (senders : ℕ) (popped : List Note) (folds : ℕ → ℕ) (p : Pass) : Type 0 where
  pub first : Pass
  pub fresh : IsFresh h first
  pub gots : List Got
  pub notes : map (λ got. got.note) gots ≡ popped
  pub each : ReceivesEach gots first p
  pub three : All (λ got. length got.words ≡ 3) gots
  pub found : (k : ℕ) → k < senders → folds k ≡ found_of k 0 gots
