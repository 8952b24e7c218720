-- The senders of a pipe, one after the other.
use Rattle.std.proofs.Common.{ℕ, suc, ◌≡◌, ◌+◌, List, [], ◌∷◌, ◌++◌, None, length, arith}
use Rattle.block_pipe.specs.declared.pipe.Pipe.{Pipe}
use Rattle.block_pipe.specs.declared.sender.Sender.{Sender}
use Rattle.block_pipe.specs.Ends.{AreNewFrom, IsSender, pushed_by}

-- new senders, and one more behind them
pub new-push :
    (pipe : Pipe) (n : ℕ) (ss : List Sender) (s : Sender) → AreNewFrom pipe n ss → IsSender pipe s → s.number ≡ n + length ss
    → pushed_by s ≡ [] → s.pending ≡ None → AreNewFrom pipe n (ss ++ s ∷ [])
new-push pipe n [] s all is number sent pending = (is, omega (arith, number), sent, pending, tt)
new-push pipe n (x ∷ xs) s all is number sent pending = (
  all.0,
  all.1,
  all.2,
  all.3,
  new-push pipe (suc n) xs s all.4 is (omega (arith, number)) sent pending,
)
