-- A heap with a hand for each caller.
use Rattle.std.specs.Prelude.{List, All}
use Rattle.live_heap.specs.Heaps.{HeapFields}
use Rattle.live_heap.specs.Hands.{IsHand}
use Rattle.heap_scripts.specs.declared.compare.Twins.{Twins}
use Rattle.heap_scripts.specs.declared.side.Hand.{Hand}
use Rattle.heap_scripts.specs.declared.side.Side.{Side}

-- the hands are of this heap
abbrev pub AreHands : HeapFields → List Hand → Type 0
AreHands h hands = All (λ hand. IsHand h hand.pass hand.blocks.items) hands

-- the hands of a side are of its own heap
abbrev pub IsSide : Side → Type 0
IsSide side = AreHands side.heap side.hands.items

-- the hands of both sides are of their own heaps
abbrev pub AreSides : Twins → Type 0
AreSides twins = IsSide twins.whole × IsSide twins.stepped
