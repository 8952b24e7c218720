use Rattle.std.proofs.Common.{rules}
use Rattle.heap_geometry.proofs.geometry.Geometry.check.Goals as goal

pub returns-then-self-gt-MAX_UNITS-clause-units : goal.returns-then-self-gt-MAX_UNITS-clause-units
returns-then-self-gt-MAX_UNITS-clause-units c = search rules

pub returns-then-self-lt1-clause-frames : goal.returns-then-self-lt1-clause-frames
returns-then-self-lt1-clause-frames c = search rules

pub returns-then-self-lt1-clause-heaps : goal.returns-then-self-lt1-clause-heaps
returns-then-self-lt1-clause-heaps c = search rules

pub returns-then-self-lt1-2-clause-frames : goal.returns-then-self-lt1-2-clause-frames
returns-then-self-lt1-2-clause-frames c = search rules

pub returns-then-self-lt1-2-clause-callers : goal.returns-then-self-lt1-2-clause-callers
returns-then-self-lt1-2-clause-callers c = search rules

pub returns-then-self-lt1-3-clause-frames : goal.returns-then-self-lt1-3-clause-frames
returns-then-self-lt1-3-clause-frames c = search rules

pub returns-then-self-lt1-3-clause-turn_limit : goal.returns-then-self-lt1-3-clause-turn_limit
returns-then-self-lt1-3-clause-turn_limit c = search rules

pub returns-clause-ok : goal.returns-clause-ok
returns-clause-ok c = search rules

pub returns-clause-frames : goal.returns-clause-frames
returns-clause-frames c = search rules
