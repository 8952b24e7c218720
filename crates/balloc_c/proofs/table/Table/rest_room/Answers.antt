use Rattle.std.proofs.Common.{arith, sym, ◌∙◌, subst}
use Rattle.heap_geometry.specs.Need.{IsNeed}
use Rattle.balloc_c.proofs.table.Table.rest_room.Goals as goal

pub returns-clause-room : goal.returns-clause-room
returns-clause-room c = (
  subst IsNeed (sym c.need.ensures ∙ c.in-Small.is) c.home.result.now.is_need,
  omega (arith, c.if-left-eq0.false, c.room-left.ensures),
  (c.home.result.now, c.home.ensures, sym c.need.ensures ∙ c.in-Small.is),
)
