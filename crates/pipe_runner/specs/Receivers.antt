-- The receiver of a pipeline.
use Rattle.std.specs.Prelude.{ℕ, ◌≡◌, ◌<◌, ◌++◌, [], ◌∷◌, None, count_by, length, slice_index}
use Rattle.pool_model.specs.Histories.{own}
use Rattle.shelf_laws.specs.Quiet.{is_take_of, taken}
use Rattle.live_heap.specs.Heaps.{HeapFields}
use Rattle.live_heap.specs.declared.pass.Pass.{Pass}
use Rattle.live_heap.specs.Passes.{seen}
use Rattle.block_pipe.specs.declared.note.Note.{Note}
use Rattle.block_pipe.specs.declared.pipe.Pipe.{Pipe}
use Rattle.block_pipe.specs.declared.receiver.Receiver.{Receiver}
use Rattle.block_pipe.specs.Ends.{IsNextIn, IsReceiver, popped_by}
use Rattle.block_pipe.specs.Notes.{of_sender}
use Rattle.pipe_runner.specs.declared.receiver.Arrival.{Arrival}
use Rattle.pipe_runner.specs.declared.receiver.ReceiverThread.{ReceiverThread}
use Rattle.pipe_runner.specs.declared.sender.TheConstants.{SHELVES_EACH}
use Rattle.pipe_runner.specs.EndCalls.{ReceivesAll}
use Rattle.pipe_runner.specs.Messages.{HaveThreeWords, fold_of}
use Rattle.pipe_runner.specs.Moves.{HasTakenOff}
use Rattle.pipe_runner.specs.Senders.{IsBetween}

-- a block has come with the next note, from the shelf that it names
pub record Arrives (h : HeapFields) (pipe : Pipe) (r : Receiver) (p : Pass) (arrival : Arrival) (t : Receiver) (q : Pass) : Type 0 where
  pub note : Note
  pub next : IsNextIn pipe (popped_by r) note
  pub popped : popped_by t ≡ popped_by r ++ note ∷ []
  pub sender : arrival.sender ≡ note.sender
  pub taken_off : HasTakenOff h p note.shelf arrival.block q

-- the pass of the receiver, which has taken so many blocks of each sender, and has this fold over the words of each
pub record HasTaken (h : HeapFields) (senders : ℕ) (counts folds : ℕ → ℕ) (p : Pass) : Type 0 where
  pub between : IsBetween h senders p
  pub takes : (k : ℕ) → k < senders → count_by (is_take_of senders SHELVES_EACH k) (own p.errand.caller (seen p)) ≡ counts k
  pub fold :
      (k : ℕ) → k < senders → HaveThreeWords (taken senders SHELVES_EACH k (seen p)) → folds k ≡ fold_of (taken senders SHELVES_EACH k (seen p))

-- the receiver's thread: it has taken as many blocks of each sender as it has popped notes; and if all that it has taken has three words each, all that it has done is to receive these
pub record IsReceiving (h : HeapFields) (pipe : Pipe) (w : ReceiverThread) : Type 0 where
  pub shelves : pipe.shelves ≡ SHELVES_EACH
  pub end : IsReceiver pipe w.end
  pub kept : w.end.kept ≡ None
  pub caller : w.pass.errand.caller ≡ pipe.senders
  pub popped : (k : ℕ) → k < pipe.senders → length (of_sender k (popped_by w.end)) ≡ slice_index w.counts.numbers k
  pub calls :
      ((k : ℕ) → k < pipe.senders → HaveThreeWords (taken pipe.senders SHELVES_EACH k (seen w.pass)))
      → ReceivesAll h pipe.senders (popped_by w.end) (λ k. slice_index w.folds.numbers k) w.pass
  pub has : HasTaken h pipe.senders (λ k. slice_index w.counts.numbers k) (λ k. slice_index w.folds.numbers k) w.pass
