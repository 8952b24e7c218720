-- What a borrow of a pass leaves behind.
use Rattle.std.specs.Prelude.{Option, Some, refl, true}
use Rattle.std.specs.Borrow.{Lends, LendsIf, MutBor, Fml}
use Rattle.balloc_c.specs.declared.hand.Hand.{Hand}
use Rattle.balloc_c.specs.declared.erased_box.ErasedBox.{ErasedBox}
use Rattle.balloc_c.specs.declared.handle.PassHandle.{PassHandle}
use Rattle.balloc_c.specs.contracts.hand.Hand as hand
use Rattle.balloc_c.specs.contracts.erased_box.ErasedBox as held
use Rattle.balloc_c.specs.contracts.handle.PassHandle as handle

-- what is held, with this pass
abbrev pub with_hand : ErasedBox → Hand → ErasedBox
with_hand h w = record h { hand = Some w }

-- when the borrow ends, what is held is the pass as the borrow leaves it
abbrev pub LendsErasedBox : MutBor ErasedBox → MutBor Hand → Fml
LendsErasedBox s r = Lends held.the_row hand.the_row s r (with_hand s.now)

-- the handle that holds this pass
abbrev pub holding : PassHandle → Hand → PassHandle
holding h w = record { live = true; held = with_hand h.held w; rest = h.rest; is_live = refl }

-- the same of a handle; one that lends nothing is as it was
abbrev pub LendsHand : MutBor PassHandle → Option (MutBor Hand) → Fml
LendsHand s r = LendsIf handle.the_row hand.the_row s r (holding s.now) s.now
