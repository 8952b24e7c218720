use Rattle.std.proofs.Common.{◌∙◌}
use Rattle.crossbeam_queue.specs.Passes.{view}
use Rattle.block_pipe.specs.Notes.{whole}
use Rattle.block_pipe.proofs.NoteMoves.{sets}
use Rattle.block_pipe.proofs.opening.begin.Goals as goal

pub another-requires-clause-rule : goal.another-requires-clause-rule
another-requires-clause-rule g c =
    sets c.args.end.now.id g.E.Sizes.senders g.E.Sizes.shelves (view c.args.end.now) c.requires.unset

pub returns-clause-whole : goal.returns-clause-whole
returns-clause-whole g c = c.another.ensures.rule.0 ∙ (λ i. whole (c.requires.sizes.0 i) (c.requires.sizes.1 i))
