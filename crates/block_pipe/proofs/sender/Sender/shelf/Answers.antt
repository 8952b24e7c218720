use Rattle.std.proofs.Common.{ℕ, ◌+◌, ◌*◌, ap}
use Rattle.block_pipe.proofs.sender.Sender.shelf.Goals as goal

pub returns-clause-value : goal.returns-clause-value
returns-clause-value c =
    ap (λ (n : ℕ). c.args.self.now.number * c.args.pipe.now.shelves + n) c.requires.turn
