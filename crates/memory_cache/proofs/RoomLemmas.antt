-- Memory whose words are all here.
use Rattle.std.proofs.Common.{ℕ, zero, suc, ◌≡◌, ◌≤◌, ◌%◌, List, [], ◌∷◌, sym, subst, arith}
use Rattle.std.proofs.lemmas.Option.{none-some}
use Rattle.heap_geometry.specs.declared.need.Need.{Need}
use Rattle.heap_geometry.specs.declared.need.Need.TheVariants.{Small}
use Rattle.heap_geometry.specs.Need.{IsNeedOf, usable_words}
use Rattle.plain_words.specs.Places.{AllHere, laids}
use Rattle.live_heap.specs.Heaps.{HeapFields}
use Rattle.live_heap.specs.declared.plain.Memory.{Memory}
use Rattle.live_heap.specs.declared.pass.Pass.{Pass}
use Rattle.live_heap.specs.Memory.{HasTaken, IsMemoryOf}
use Rattle.live_heap.specs.Passes.{IsOf}
use Rattle.live_heap.proofs.laws_for_builders.Memory.{owned-in_heap, payload-odd, taken-owned}
use Rattle.memory_cache.specs.Rooms.{IsRoomOf}

-- words that are laid are here
laid-here : (ns : List ℕ) → AllHere (laids ns)
laid-here [] i within = absurd (omega (arith, within))
laid-here (n ∷ ns) zero within = λ out. none-some _ (sym out)
laid-here (n ∷ ns) (suc i) within = laid-here ns i (omega (arith, within))

-- memory that went out is room for its caller
pub room-of : (h : HeapFields) (m : Memory) → IsMemoryOf h m → IsRoomOf h m
room-of h m is =
    record { at = is.at; first = is.first; long = is.long; here = subst AllHere (sym is.laid.1) (laid-here is.laid.0) }

-- the class that serves so many words has as many
pub enough-small : (words class : ℕ) (n : Need) → n ≡ Small class → IsNeedOf words n → words ≤ usable_words n
enough-small words class n is least =
    let here : IsNeedOf words (Small class) = subst (IsNeedOf words) is least in
    subst (λ (k : Need). words ≤ usable_words k) (sym is) here.1.enough

-- the words of memory that is out with a pass of the heap begin at an odd number
pub room-aligned : (h : HeapFields) (p : Pass) (m : Memory) → IsOf h p → HasTaken p m → IsRoomOf h m → m.words.first % 2 ≡ 1
room-aligned h p m of taken room =
    payload-odd p.errand.geometry m.block.place m.words.first m.block.need
    (owned-in_heap h p m.block.place m.block.need of (taken-owned h p m.block.place m.block.need of taken)) room.first
