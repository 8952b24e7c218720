use Rattle.crossbeam_queue.specs.Passes.{view}
use Rattle.block_pipe.proofs.NoteMoves.{stands-learn, takes}
use Rattle.block_pipe.proofs.receiver.Receiver.pop.Goals as goal

pub pop_as-requires-clause-rule : goal.pop_as-requires-clause-rule
pop_as-requires-clause-rule g c =
    let r = c.requires.of in
    let e = c.args.self.now.end in
    (takes e.id (view e) r.set r.receives, stands-learn e.id (view e))
