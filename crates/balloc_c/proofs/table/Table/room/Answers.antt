use Rattle.std.proofs.Common.{arith, subst}
use Rattle.heap_geometry.specs.Need.{IsNeed}
use Rattle.balloc_c.proofs.table.Table.room.Goals as goal

pub room-room-requires : goal.room-room-requires
room-room-requires c = subst IsNeed c.in-Small.is c.in-Some.lent.now.is_need

pub returns-clause-room : goal.returns-clause-room
returns-clause-room c = (
  subst IsNeed c.in-Small.is c.in-Some.lent.now.is_need,
  omega (arith, c.if-room-eq0.false, c.room-room.ensures),
  (c.in-Some.lent.now, c.in-Some.ensures.out, c.in-Small.is),
)
