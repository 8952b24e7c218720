-- What the calls of a pipe come to, for the ends and for the passes.
use Rattle.std.specs.Prelude.{ℕ, ◌≡◌, ◌≢◌, ◌*◌, ◌++◌, List, [], ◌∷◌, Some, None}
use Rattle.crossbeam_queue.specs.Passes.{view}
use Rattle.pool_model.specs.declared.event.Event.TheVariants.{TakeNone}
use Rattle.pool_model.specs.Histories.{EndsWith}
use Rattle.errand_steps.specs.declared.reply.Reply.TheVariants as reply
use Rattle.errand_steps.specs.Calls.{put}
use Rattle.live_heap.specs.declared.answers.Taken.TheVariants as taken
use Rattle.live_heap.specs.declared.block.Block.{Block}
use Rattle.live_heap.specs.declared.pass.Pass.{Pass}
use Rattle.live_heap.specs.Answers.{PutTellsFull, TakeTells}
use Rattle.live_heap.specs.Calls.{HasCalled}
use Rattle.live_heap.specs.Passes.{seen}
use Rattle.live_heap.specs.Shelves.{AllowedWords, MayLieOn}
use Rattle.block_pipe.specs.declared.note.Note.{Note}
use Rattle.block_pipe.specs.declared.pipe.Pipe.{Pipe}
use Rattle.block_pipe.specs.declared.receiver.Receiver.{Receiver}
use Rattle.block_pipe.specs.declared.receiving.Received.{Received}
use Rattle.block_pipe.specs.declared.receiving.Received.TheVariants as received
use Rattle.block_pipe.specs.declared.sender.Sender.{Sender}
use Rattle.block_pipe.specs.declared.sending.Sent.{Sent}
use Rattle.block_pipe.specs.declared.sending.Sent.TheVariants as sent
use Rattle.block_pipe.specs.Ends.{ComesTo, HasHeld, IsNextIn, popped_by, pushed_by}
use Rattle.block_pipe.specs.Notes.{shelf_for}

-- the note of a sender's block of this number, which lies at this place
abbrev pub note_of : Pipe → ℕ → ℕ → ℕ → Note
note_of pipe sender seq place = record { sender = sender; seq = seq; shelf = shelf_for pipe.shelves sender seq; place = place }

-- the note of a sender's next block
abbrev pub next_note : Pipe → Sender → Block → Note
next_note pipe s block = note_of pipe s.number s.sent block.place

-- the block was put on the sender's next shelf
abbrev pub HasPutNext : Pipe → Sender → Pass → Block → Pass → Type 0
HasPutNext pipe s p block q = HasCalled p (put block.place block.need (next_note pipe s block).shelf) 0 reply.Put q

-- Sent: the block was put, and its note was pushed. ShelfFull: the shelf held a block, and the sender is as it was. QueueFull: the block was put,
-- the queue was found full, and the note is pending
abbrev pub SendTells : Pipe → Sender → Pass → Block → Sent → Sender → Pass → Type 0
SendTells pipe s p block sent.Sent t q =
    HasPutNext pipe s p block q × (pushed_by t ≡ pushed_by s ++ next_note pipe s block ∷ []) × (t.pending ≡ None)
SendTells pipe s p block (sent.ShelfFull back found) t q =
    PutTellsFull p block (next_note pipe s block).shelf (record { block = back; found = found }) q × (t ≡ s)
SendTells pipe s p block sent.QueueFull t q =
    HasPutNext pipe s p block q × (pushed_by t ≡ pushed_by s) × (t.pending ≡ Some (next_note pipe s block))
    × HasHeld (pipe.senders * pipe.shelves) (view s.end)

-- the receiver has come to this note: it is the last one that it has popped, so its number is that of its sender's notes popped before
pub record HasComeTo (pipe : Pipe) (r : Receiver) (note : Note) (t : Receiver) : Type 0 where
  pub comes : ComesTo pipe r note t
  pub before : List Note
  pub last : popped_by t ≡ before ++ note ∷ []
  pub next : IsNextIn pipe before note

-- Got, Gone, Other: the receiver has come to a note, which is used up, and the pass has taken from the note's shelf: a block that lay where the note says;
-- none, and that is the last event seen; a block that lay elsewhere. Nothing: no note was kept, the queue was found empty, and the pass made no call.
-- Missed: the take missed, and the note is kept
abbrev pub ReceiveTells : Pipe → Receiver → Pass → Received → Receiver → Pass → Type 0
ReceiveTells pipe r p (received.Got block sender seq) t q =
    HasComeTo pipe r (note_of pipe sender seq block.place) t × (t.kept ≡ None) × TakeTells p (shelf_for pipe.shelves sender seq) (taken.Got block) q
ReceiveTells pipe r p received.Nothing t q =
    (r.kept ≡ None) × (t.kept ≡ None) × (popped_by t ≡ popped_by r) × HasHeld 0 (view r.end) × (q ≡ p)
ReceiveTells pipe r p (received.Gone note) t q =
    HasComeTo pipe r note t × (t.kept ≡ None) × TakeTells p note.shelf taken.Empty q × EndsWith (seen q) (TakeNone p.errand.caller note.shelf)
ReceiveTells pipe r p (received.Other block note) t q =
    HasComeTo pipe r note t × (t.kept ≡ None) × TakeTells p note.shelf (taken.Got block) q × (block.place ≢ note.place)
ReceiveTells pipe r p (received.Missed expected found) t q =
    (note : Note) × HasComeTo pipe r note t × (t.kept ≡ Some note) × TakeTells p note.shelf (taken.Missed expected found) q

-- the words of a block that was received are such as may lie on its shelf
abbrev pub IsReceivedByRule : AllowedWords → Pipe → Received → Pass → Type 0
IsReceivedByRule rule pipe (received.Got block sender seq) q = MayLieOn rule (seen q) q.errand.caller block.place (shelf_for pipe.shelves sender seq)
IsReceivedByRule rule pipe (received.Other block note) q = MayLieOn rule (seen q) q.errand.caller block.place note.shelf
IsReceivedByRule rule pipe told q = Unit {0}
