use Rattle.heap_geometry.proofs.NeedLemmas.{class-least, class-below}
use Rattle.heap_geometry.proofs.need.least_class.Goals as goal

pub returns-clause-least : goal.returns-clause-least
returns-clause-least c =
    class-least c.args.need c.max.result c.ilog2.result c.max.ensures c.ilog2.ensures.power_le c.ilog2.ensures.next_power_gt

pub returns-clause-within : goal.returns-clause-within
returns-clause-within c =
    class-below c.args.need c.ilog2.result c.requires
    (class-least c.args.need c.max.result c.ilog2.result c.max.ensures c.ilog2.ensures.power_le c.ilog2.ensures.next_power_gt)
