-- How a pipe that closes takes its senders in.
use Rattle.std.proofs.Common.{ℕ, suc, ◌≡◌, ◌≢◌, ◌≤◌, List, [], ◌∷◌, ◌++◌, All, None, length, get_or, slice_index, ◌∙◌, ap, arith}
use Rattle.block_pipe.specs.declared.note.Note.{Note}
use Rattle.block_pipe.specs.declared.pipe.Pipe.{Pipe}
use Rattle.block_pipe.specs.declared.receiver.Receiver.{Receiver}
use Rattle.block_pipe.specs.declared.sender.Sender.{Sender}
use Rattle.block_pipe.specs.declared.tally.PerSender.{PerSender}
use Rattle.block_pipe.specs.Ends.{AreAllEnds, AreDistinct, IsReceiver, IsSender, popped_by, pushed_by}
use Rattle.block_pipe.specs.Logs.{HasLogged, HasSender}
use Rattle.block_pipe.specs.Notes.{Begins, of_sender}

-- the counts have the number of a sender's pushed notes, and those popped of it are the first part of them
abbrev pub Told : List Note → PerSender → Sender → Type 0
Told popped sent s = (slice_index sent.counts s.number ≡ length (pushed_by s)) × Begins (of_sender s.number popped) (pushed_by s)

-- the last ones of distinct senders are distinct
pub distinct-behind : (front back : List Sender) → AreDistinct (front ++ back) → AreDistinct back
distinct-behind [] back all = all
distinct-behind (x ∷ front) back all = distinct-behind front back all.1

-- what holds of all holds of the first one, and of the others
pub head-of : (P : Sender → Type 0) (s : Sender) (back : List Sender) → All P (s ∷ back) → P s
head-of P s back all = all 0 s (omega arith)

-- what holds of all holds of one behind others
pub one-of : (P : Sender → Type 0) (front back : List Sender) (s : Sender) → All P (front ++ s ∷ back) → P s
one-of P [] back s all = head-of P s back all
one-of P (x ∷ front) back s all = one-of P front back s (λ k d below. all (suc k) d (omega arith))

-- where another sender's number is written, what was told stays
pub told-stays :
    (popped : List Note) (old new : PerSender) (n : ℕ) (done : List Sender) → ((k : ℕ) → k ≢ n → slice_index new.counts k ≡ slice_index old.counts k)
    → All (λ (s : Sender). s.number ≢ n) done → All (Told popped old) done → All (Told popped new) done
told-stays popped old new n done same apart told k d below =
    (same (get_or done k d).number (apart k d below) ∙ (told k d below).0, (told k d below).1)

-- a number from the count of the pipe's senders on is no sender's
pub numbers-below :
    (pipe : Pipe) (k : ℕ) (senders : List Sender) → pipe.senders ≤ k → All (λ (s : Sender). IsSender pipe s × (s.pending ≡ None)) senders
    → All (λ (s : Sender). s.number ≢ k) senders
numbers-below pipe k senders past each i d below same =
    let one : IsSender pipe (get_or senders i d) = (each i d below).0 in absurd (omega (arith, past, one.has, same))

-- what was told of the senders is, with the counts of the receiver, what the log says
pub told-logged :
    (pipe : Pipe) (r : Receiver) (sent : PerSender) (senders : List Sender) → IsReceiver pipe r → All (Told (popped_by r) sent) senders
    → All (HasSender r (record { sent = sent; taken = r.popped })) senders
told-logged pipe r sent senders is told k d below =
    record { sent = (told k d below).0; taken = is.counts (get_or senders k d).number; first_part = (told k d below).1 }

pub logged :
    (pipe : Pipe) (r : Receiver) (sent : PerSender) (senders : List Sender) → AreAllEnds pipe senders r → All (Told (popped_by r) sent) senders
    → ((k : ℕ) → All (λ (s : Sender). s.number ≢ k) senders → slice_index sent.counts k ≡ 0)
    → HasLogged pipe senders r (record { sent = sent; taken = r.popped })
logged pipe r sent senders ends told none =
    record {
      each = told-logged pipe r sent senders ends.receiver told;
      none = λ k past. (
        none k (numbers-below pipe k senders past ends.each),
        ends.receiver.counts k ∙ ap length (ends.receiver.none k past),
      );
    }
