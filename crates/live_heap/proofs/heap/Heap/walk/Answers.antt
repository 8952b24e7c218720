use Rattle.live_heap.specs.Going.{stands_at}
use Rattle.live_heap.proofs.Stepped.{of-sight}
use Rattle.live_heap.proofs.heap.Heap.walk.Goals as goal

pub step_at-requires-clause-table : goal.step_at-requires-clause-table
step_at-requires-clause-table g c = c.requires.1.1.of.table

pub step_at-requires-clause-rule : goal.step_at-requires-clause-rule
step_at-requires-clause-rule g c = c.requires.1.1.rule

pub step_at-requires-clause-sight : goal.step_at-requires-clause-sight
step_at-requires-clause-sight g c = of-sight c.args.self.now (stands_at c.args.pass.now c.args.at.now c.args.goes.now) c.requires.1.1.of

pub step_at-requires-clause-links_none : goal.step_at-requires-clause-links_none
step_at-requires-clause-links_none g c = c.requires.1.1.links_none

pub returns : goal.returns
returns g c =
    record {
      seat = c.args.pass.now.seat;
      walks = c.requires.1.1;
      has = c.step_at.ensures.step;
      table = c.step_at.ensures.seat.0;
      empty = c.step_at.ensures.seat.1;
    }
