use Rattle.std.proofs.Common.{arith}
use Rattle.heap_census.proofs.RestLemmas.{few-descriptors}
use Rattle.heap_census.proofs.tallies.add_anchored.Goals as goal

pub add_superblock-requires-clause-superblocks : goal.add_superblock-requires-clause-superblocks
add_superblock-requires-clause-superblocks c =
    omega (
      arith,
      c.requires.room.superblocks c.class_of.result c.class_of.ensures.within,
      c.requires.desc,
      few-descriptors c.args.closed.now c.requires.rests,
    )

pub add_superblock-requires-clause-counted : goal.add_superblock-requires-clause-counted
add_superblock-requires-clause-counted c =
    omega (
      arith,
      c.requires.room.free c.class_of.result c.class_of.ensures.within,
      c.requires.desc,
      few-descriptors c.args.closed.now c.requires.rests,
    )
