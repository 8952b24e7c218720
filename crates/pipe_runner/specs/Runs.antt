-- A whole run of a pipeline.
use Rattle.std.specs.Prelude.{ℕ, suc, ◌≡◌, ◌<◌, ◌≤◌, ◌+◌, ◌++◌, List, [], ◌∷◌, None, length, slice_index, vec_capacity}
use Rattle.heap_geometry.specs.declared.geometry.Geometry.{Geometry}
use Rattle.heap_geometry.specs.declared.limits.TheConstants.{MAX_TURNS}
use Rattle.pool_model.specs.Pool.{pool_of}
use Rattle.shelf_laws.specs.Quiet.{IsQuiet, sent, taken}
use Rattle.live_heap.specs.Heaps.{HeapFields}
use Rattle.live_heap.specs.declared.pass.Pass.{Pass}
use Rattle.live_heap.specs.Endings.{HasAccesses, HasClosed, IsResting}
use Rattle.block_pipe.specs.declared.pipe.Pipe.{Pipe}
use Rattle.block_pipe.specs.declared.receiver.Receiver.{Receiver}
use Rattle.block_pipe.specs.declared.sender.Sender.{Sender}
use Rattle.block_pipe.specs.Ends.{AreAllEnds, IsSender, popped_by, pushed_by}
use Rattle.block_pipe.specs.Logs.{HasLogged}
use Rattle.pipe_runner.specs.declared.run.Parts.{Parts}
use Rattle.pipe_runner.specs.declared.run.PipeRun.{PipeRun}
use Rattle.pipe_runner.specs.declared.sender.TheConstants.{SHELVES_EACH}
use Rattle.pipe_runner.specs.EndCalls.{ReceivesAll, SendsAll}
use Rattle.pipe_runner.specs.Messages.{contents_of, fold_of, messages}
use Rattle.pipe_runner.specs.Receivers.{IsReceiving}
use Rattle.pipe_runner.specs.Senders.{AreSending, HasSent}

-- the numbers of the heap, with a caller for each sender and one for the receiver
abbrev pub pipe_heap : ℕ → Geometry
pipe_heap senders = record { frames = 64; heaps = 1; units = 0; callers = senders + 1; turn_limit = MAX_TURNS }

-- the heap and the pipe are new, no message has been sent, and there is room for what the end takes
pub record IsReadyToRun (passed : ℕ → ℕ → Type 0) (senders start : ℕ) (parts : Parts) : Type 0 where
  pub layout : parts.heap.layout ≡ pipe_heap senders
  pub pipe : parts.pipe.senders ≡ senders
  pub stands : AreSending passed parts.heap parts.pipe start 0 0 parts.threads.items
  pub all : length parts.threads.items ≡ senders
  pub receives : IsReceiving parts.heap parts.pipe parts.receiver
  pub no_pass : parts.passes.items ≡ []
  pub passes : senders + 1 ≤ vec_capacity parts.passes
  pub no_end : parts.ends.items ≡ []
  pub ends : senders ≤ vec_capacity parts.ends

-- a sender of this number has sent so many messages, with a note of each, and has made no other call
pub record HasDone (passed : ℕ → ℕ → Type 0) (h : HeapFields) (pipe : Pipe) (start count number : ℕ) (p : Pass) (e : Sender) : Type 0 where
  pub has : HasSent passed h pipe.senders start count p
  pub caller : p.errand.caller ≡ number
  pub end : IsSender pipe e
  pub number_is : e.number ≡ number
  pub pending : e.pending ≡ None
  pub pushed : length (pushed_by e) ≡ count
  pub calls : SendsAll h start number (pushed_by e) p

-- each sender from a number on has sent so many messages, with a note of each
abbrev pub AreDone : (ℕ → ℕ → Type 0) → HeapFields → Pipe → ℕ → ℕ → ℕ → List Pass → List Sender → Type 0
AreDone passed h pipe start count number [] [] = Unit {0}
AreDone passed h pipe start count number (p ∷ ps) (e ∷ es) =
    HasDone passed h pipe start count number p e × AreDone passed h pipe start count (suc number) ps es
AreDone passed h pipe start count number (p ∷ ps) [] = ⊥
AreDone passed h pipe start count number [] (e ∷ es) = ⊥

-- a pipeline ran over this heap and this pipe: here are the passes with which the heap was closed, those of the senders and the receiver's, and the ends with which the pipe was; each sender has sent its messages and the receiver has received all blocks, with the words that its reads found in these folds; the closed heap counts just the accesses that these passes made, and the log the notes that these ends pushed and popped
pub record IsRunOf (h : HeapFields) (pipe : Pipe) (passed : ℕ → ℕ → Type 0) (senders count start : ℕ) (run : PipeRun) : Type 0 where
  pub laid : h.layout ≡ pipe_heap senders
  pub senders_are : pipe.senders ≡ senders
  pub shelves_are : pipe.shelves ≡ SHELVES_EACH
  pub passes : List Pass
  pub ends : List Sender
  pub sent : AreDone passed h pipe start count 0 passes ends
  pub pass : Pass
  pub end : Receiver
  pub caller : pass.errand.caller ≡ senders
  pub received : ReceivesAll h senders (popped_by end) (λ k. slice_index run.folds.numbers k) pass
  pub closed : HasClosed h (passes ++ pass ∷ []) run.closed
  pub accesses : HasAccesses run.closed (passes ++ pass ∷ [])
  pub all : AreAllEnds pipe ends end
  pub logged : HasLogged pipe ends end run.log

-- a pipeline has run to its end: the closed heap's history is quiet for it; of each sender just that was taken which was sent, the sender's messages,
-- each of which has passed the gate before; the log has as many notes pushed and popped; the fold is the one over what was taken; no block is live; and there are the heap, the pipe and the ends that ran
pub record IsPipeRun (passed : ℕ → ℕ → Type 0) (senders count start : ℕ) (run : PipeRun) : Type 0 where
  pub heap : run.closed.geometry ≡ pipe_heap senders
  pub rests : IsResting run.closed
  pub quiet : IsQuiet senders SHELVES_EACH run.closed.events
  pub equal : (k : ℕ) → k < senders → taken senders SHELVES_EACH k run.closed.events ≡ sent SHELVES_EACH k run.closed.events
  pub all : (k : ℕ) → k < senders → contents_of (sent SHELVES_EACH k run.closed.events) ≡ messages start k count
  pub pushed : (k : ℕ) → k < senders → slice_index run.log.sent.counts k ≡ count
  pub popped : (k : ℕ) → k < senders → slice_index run.log.taken.counts k ≡ count
  pub folds : (k : ℕ) → k < senders → slice_index run.folds.numbers k ≡ fold_of (taken senders SHELVES_EACH k run.closed.events)
  pub nothing : pool_of run.closed.events ≡ []
  pub gate : (k i : ℕ) → k < senders → i < count → passed k i
  pub ran : (h : HeapFields) × (pipe : Pipe) × IsRunOf h pipe passed senders count start run
