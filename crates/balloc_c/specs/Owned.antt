-- What a handle owns: a pass in a box, or nothing.
use Rattle.std.specs.Prelude.{Option, Some, None}
use base.Fml.{Fml, ftrue}
use denote.RawPtr.{Ptr}
use Rattle.std.specs.Box.Ownership.{box_owns}
use Rattle.std.specs.Global.{Global}
use Rattle.std_heap.specs.contracts.GlobalAllocator.TheImpl.{ghosts}
use Rattle.balloc_c.specs.contracts.hand.Hand.{the_row}
use Rattle.balloc_c.specs.declared.hand.Hand.{Hand}

abbrev pub pass_owns : Option Hand → Global → Ptr → Fml
pass_owns (Some hand) alloc at = box_owns (ghosts.dealloc_token alloc) the_row at hand
pass_owns None alloc at = ftrue
