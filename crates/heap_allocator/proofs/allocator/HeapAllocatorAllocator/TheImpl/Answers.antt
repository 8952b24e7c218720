-- `grow` and `shrink` ask what the trait asks, and ensure more.
use Rattle.std.proofs.Common.{◌≡◌, ◌*◌, ℕ, List}
use base.Logic.{sep}
use contract.Monad.{fact}
use prog.Memory.{size}
use types.Logic.{sem}
use denote.Param.{param, layout}
use denote.RawPtr.{Ptr}
use Rattle.std.specs.Prelude.{Ok}
use Rattle.core.specs.Allocator.{block_with_items, resized_if_ok}
use Rattle.core.proofs.alloc.Calls.{Answer}
use Rattle.core.proofs.alloc.Resizes.{Grows, Shrinks}
use Rattle.heap_allocator.specs.Pieces.{piece_token, AreOfOnePiece}
use Rattle.heap_allocator.proofs.Resizing.{refines}
use Rattle.heap_allocator.proofs.allocator.HeapAllocatorAllocator.TheImpl.Goals as goal

pub grow-meets : goal.grow-meets
grow-meets g c =
    let 𝓤 = g.world.𝓤 in let 𝓛 = g.world.𝓛 in let X = g.row.T in let a = c.args in let p : Ptr = a.self.now.mover.heap.now.region.at in let bytes : ℕ → ℕ = λ n. n * size (layout X) in
    refines 𝓤 (List X.Denot) c.ghost (λ xs. sep 𝓤 (fact 𝓤 (Grows X a.len a.old_cap a.new_cap)) (sem 𝓛 (block_with_items (piece_token p) (param 1 X) a.ptr a.len a.old_cap xs)))
    Answer.Denot _ (λ (r : Answer.Denot). AreOfOnePiece (bytes a.old_cap) (bytes a.new_cap) → r ≡ Ok a.ptr)
    (λ xs (r : Answer.Denot). sem 𝓛 (resized_if_ok (piece_token p) (param 1 X) a.ptr a.len a.old_cap a.new_cap xs r))

pub shrink-meets : goal.shrink-meets
shrink-meets g c =
    let 𝓤 = g.world.𝓤 in let 𝓛 = g.world.𝓛 in let X = g.row.T in let a = c.args in let p : Ptr = a.self.now.mover.heap.now.region.at in let bytes : ℕ → ℕ = λ n. n * size (layout X) in
    refines 𝓤 (List X.Denot) c.ghost (λ xs. sep 𝓤 (fact 𝓤 (Shrinks X a.len a.old_cap a.new_cap)) (sem 𝓛 (block_with_items (piece_token p) (param 1 X) a.ptr a.len a.old_cap xs)))
    Answer.Denot _ (λ (r : Answer.Denot). AreOfOnePiece (bytes a.old_cap) (bytes a.new_cap) → r ≡ Ok a.ptr)
    (λ xs (r : Answer.Denot). sem 𝓛 (resized_if_ok (piece_token p) (param 1 X) a.ptr a.len a.old_cap a.new_cap xs r))
