-- The ends of a pipe.
use Rattle.std.specs.Prelude.{ℕ, suc, ◌≡◌, ◌≢◌, ◌<◌, ◌≤◌, ◌+◌, ◌%◌, ◌++◌, ◌⊎◌, true, List, [], ◌∷◌, All, Some, None, IfSome, length, option_to_list, slice_index}
use Rattle.crossbeam_queue.specs.Fifo.{Held}
use Rattle.crossbeam_queue.specs.Passes.{IsPassOf, view}
use Rattle.block_pipe.specs.declared.note.Note.{Note}
use Rattle.block_pipe.specs.declared.pipe.Pipe.{Pipe}
use Rattle.block_pipe.specs.declared.receiver.Receiver.{Receiver}
use Rattle.block_pipe.specs.declared.rule.Known.{Known}
use Rattle.block_pipe.specs.declared.sender.Sender.{Sender}
use Rattle.block_pipe.specs.Notes.{MayComeNext, RuleStands, of_sender}

-- the notes that a sender has pushed, the first one first
abbrev pub pushed_by : Sender → List Note
pushed_by s = of_sender s.number (view s.end).sent

-- the sender's pending note, if there is one
abbrev pub pending_of : Sender → List Note
pending_of s = option_to_list s.pending

-- the notes that the receiver has popped, the first one first
abbrev pub popped_by : Receiver → List Note
popped_by r = (view r.end).taken

-- the note may come next behind these in this pipe
abbrev pub IsNextIn : Pipe → List Note → Note → Type 0
IsNextIn pipe before note = MayComeNext pipe.senders pipe.shelves before note

-- the sender is one of this pipe's; its next shelf is the one whose turn it is, and its pending note may come next behind those that it has pushed
pub record IsSender (pipe : Pipe) (s : Sender) : Type 0 where
  pub of : IsPassOf pipe.queue s.end
  pub has : s.number < pipe.senders
  pub set : (view s.end).set ≡ true
  pub senders : (view s.end).senders ≡ pipe.senders
  pub shelves : (view s.end).shelves ≡ pipe.shelves
  pub from : (view s.end).from ≡ s.number
  pub until : (view s.end).until ≡ s.number + 1
  pub count : s.sent ≡ length (pushed_by s)
  pub turn : s.turn ≡ s.sent % pipe.shelves
  pub within : s.turn < pipe.shelves
  pub next : IfSome s.pending (λ note. (note.sender ≡ s.number) × IsNextIn pipe (view s.end).sent note)

-- the receiver is this pipe's; a note that it keeps is the last one that it has popped
pub record IsReceiver (pipe : Pipe) (r : Receiver) : Type 0 where
  pub of : IsPassOf pipe.queue r.end
  pub set : (view r.end).set ≡ true
  pub receives : (view r.end).receives ≡ true
  pub senders : (view r.end).senders ≡ pipe.senders
  pub shelves : (view r.end).shelves ≡ pipe.shelves
  pub counts : (k : ℕ) → slice_index r.popped.counts k ≡ length (of_sender k (popped_by r))
  pub none : (k : ℕ) → pipe.senders ≤ k → of_sender k (popped_by r) ≡ []
  pub last : IfSome r.kept (λ note. (before : List Note) × (popped_by r ≡ before ++ note ∷ []) × IsNextIn pipe before note)

-- new senders, one for each number from this one on, in their order
abbrev pub AreNewFrom : Pipe → ℕ → List Sender → Type 0
AreNewFrom pipe number [] = Unit {0}
AreNewFrom pipe number (s ∷ senders) =
    IsSender pipe s × (s.number ≡ number) × (pushed_by s ≡ []) × (s.pending ≡ None) × AreNewFrom pipe (suc number) senders

-- a new receiver: it has popped no note, and keeps none
pub record IsNewReceiver (pipe : Pipe) (r : Receiver) : Type 0 where
  pub of : IsReceiver pipe r
  pub none : popped_by r ≡ []
  pub kept : r.kept ≡ None

-- no two of the senders have one number
abbrev pub AreDistinct : List Sender → Type 0
AreDistinct [] = Unit {0}
AreDistinct (s ∷ senders) = All (λ other. other.number ≢ s.number) senders × AreDistinct senders

-- all ends of the pipe, each sender once in whatever order; nothing is pending or kept
pub record AreAllEnds (pipe : Pipe) (senders : List Sender) (r : Receiver) : Type 0 where
  pub each : All (λ s. IsSender pipe s × (s.pending ≡ None)) senders
  pub distinct : AreDistinct senders
  pub all : length senders ≡ pipe.senders
  pub receiver : IsReceiver pipe r
  pub kept : r.kept ≡ None

-- at one moment of the call the queue held so many notes: the rule stood with them and with what the end knows
abbrev pub HasHeld : ℕ → Known → Type 0
HasHeld count v = Held count (RuleStands v)

-- the receiver has come to this note: it had kept it, or it has popped it, the next one behind those that it had popped
abbrev pub ComesTo : Pipe → Receiver → Note → Receiver → Type 0
ComesTo pipe r note t =
    ((r.kept ≡ Some note) × (popped_by t ≡ popped_by r))
    ⊎ ((r.kept ≡ None) × (popped_by t ≡ popped_by r ++ note ∷ []) × IsNextIn pipe (popped_by r) note)
