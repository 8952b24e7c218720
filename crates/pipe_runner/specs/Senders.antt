-- The callers of a pipeline, and its senders.
use Rattle.std.specs.Prelude.{ℕ, ◌≡◌, ◌<◌, ◌≤◌, ◌+◌, ◌*◌, List, [], ◌∷◌, All, None, count_by, length}
use Rattle.pool_model.specs.declared.event.Event.{Event}
use Rattle.pool_model.specs.declared.event.Event.TheVariants.{Put}
use Rattle.pool_model.specs.Histories.{own}
use Rattle.shelf_laws.specs.Quiet.{IsQuiet, is_put_of, sent}
use Rattle.live_heap.specs.Heaps.{HeapFields}
use Rattle.live_heap.specs.declared.pass.Pass.{Pass}
use Rattle.live_heap.specs.Holdings.{HoldsExactly}
use Rattle.live_heap.specs.Passes.{seen}
use Rattle.live_heap.specs.Whole.{IsAtRest}
use Rattle.block_pipe.specs.declared.pipe.Pipe.{Pipe}
use Rattle.block_pipe.specs.Ends.{IsSender, pushed_by}
use Rattle.pipe_runner.specs.declared.sender.SenderThread.{SenderThread}
use Rattle.pipe_runner.specs.declared.sender.TheConstants.{MAX_MESSAGES, SHELVES_EACH}
use Rattle.pipe_runner.specs.EndCalls.{SendsAll}
use Rattle.pipe_runner.specs.Messages.{contents_of, messages}

-- a put is on a shelf of the pipe
abbrev pub PutsWithin : ℕ → Event → Type 0
PutsWithin senders (Put caller place shelf) = shelf < senders * SHELVES_EACH
PutsWithin senders event = Unit {0}

-- a pass between messages: it is at rest; its caller's own events leave the pipe quiet, and put on no other shelf; and it owns no block
pub record IsBetween (h : HeapFields) (senders : ℕ) (p : Pass) : Type 0 where
  pub rest : IsAtRest h p
  pub quiet : IsQuiet senders SHELVES_EACH (own p.errand.caller (seen p))
  pub within : All (PutsWithin senders) (own p.errand.caller (seen p))
  pub nothing : HoldsExactly p []

-- the pass of a sender that has sent its first messages, so many: each has passed the gate, and each put was of the message's contents
pub record HasSent (passed : ℕ → ℕ → Type 0) (h : HeapFields) (senders start count : ℕ) (p : Pass) : Type 0 where
  pub between : IsBetween h senders p
  pub puts : count_by (is_put_of SHELVES_EACH p.errand.caller) (own p.errand.caller (seen p)) ≡ count
  pub contents : contents_of (sent SHELVES_EACH p.errand.caller (seen p)) ≡ messages start p.errand.caller count
  pub passed_gate : (i : ℕ) → i < count → passed p.errand.caller i

-- a sender's thread that has sent so many messages, with a note of each, and has made no other call
pub record IsSending (passed : ℕ → ℕ → Type 0) (h : HeapFields) (pipe : Pipe) (start count : ℕ) (w : SenderThread) : Type 0 where
  pub shelves : pipe.shelves ≡ SHELVES_EACH
  pub end : IsSender pipe w.end
  pub pending : w.end.pending ≡ None
  pub caller : w.pass.errand.caller ≡ w.end.number
  pub pushed : length (pushed_by w.end) ≡ count
  pub calls : SendsAll h start w.end.number (pushed_by w.end) w.pass
  pub has : HasSent passed h pipe.senders start count w.pass

-- the threads of all senders from this number on, the last number first, each of which has sent so many
abbrev pub AreSending : (ℕ → ℕ → Type 0) → HeapFields → Pipe → ℕ → ℕ → ℕ → List SenderThread → Type 0
AreSending passed h pipe start count number [] = Unit {0}
AreSending passed h pipe start count number (w ∷ ws) =
    IsSending passed h pipe start count w × (w.end.number ≡ number + length ws) × AreSending passed h pipe start count number ws

-- a sender's thread has not sent more than so many messages, and may send until it has
pub record MaySend (passed : ℕ → ℕ → Type 0) (h : HeapFields) (pipe : Pipe) (start until : ℕ) (w : SenderThread) : Type 0 where
  pub stands : IsSending passed h pipe start w.end.sent w
  pub more : w.end.sent ≤ until
  pub few : until ≤ MAX_MESSAGES

-- a sender's thread has sent so many messages
abbrev pub SendsUntil : (ℕ → ℕ → Type 0) → HeapFields → Pipe → ℕ → ℕ → SenderThread → SenderThread → Type 0
SendsUntil passed h pipe start until w x = IsSending passed h pipe start until x × (x.end.number ≡ w.end.number)
