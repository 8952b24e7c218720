use Rattle.std.proofs.Common.{arith}
use Rattle.heap_scripts.proofs.alone.geometry.Goals as goal

pub returns-clause-checked : goal.returns-clause-checked
returns-clause-checked c = record {
  frames = c.requires.frames;
  heaps = (omega arith, omega arith);
  units = c.requires.units;
  callers = c.requires.callers;
  turn_limit = c.requires.turn_limit;
}
