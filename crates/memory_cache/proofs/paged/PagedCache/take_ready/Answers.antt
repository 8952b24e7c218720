use Rattle.std.proofs.Common.{◌+◌, ◌%◌, ◌^◌, ap, sym, slice_index, ◌∙◌, subst}
use Rattle.memory_cache.specs.Paged.{HasPieceReady, IsReadyAt}
use Rattle.memory_cache.specs.Sizes.{size_number}
use Rattle.memory_cache.proofs.PagedLemmas.{popped-in, told-served}
use Rattle.memory_cache.proofs.paged.PagedCache.take_ready.Goals as goal

pub pop_ready-piece-requires-clause-ready : goal.pop_ready-piece-requires-clause-ready
pop_ready-piece-requires-clause-ready c = c.is_ready.ensures.yes c.if-not-is_ready.false

pub returns-clause-paged : goal.returns-clause-paged
returns-clause-paged c =
    (told-served c.args.heap.now c.args.self.now c.pop_ready-piece.result c.pop_ready-piece.new.self ((c.pop_ready-piece.new.self.hits + 1) % 2 ^ 64) c.args.words c.sized-size.result.0 1
    c.requires.paged (c.pop_ready-piece.ensures.put, c.pop_ready-piece.ensures.size) c.sized-size.ensures.size c.sized-size.ensures.enough).paged

pub returns-clause-told : goal.returns-clause-told
returns-clause-told c = λ tries.
    told-served c.args.heap.now c.args.self.now c.pop_ready-piece.result c.pop_ready-piece.new.self ((c.pop_ready-piece.new.self.hits + 1) % 2 ^ 64) c.args.words c.sized-size.result.0 tries
    c.requires.paged (c.pop_ready-piece.ensures.put, c.pop_ready-piece.ensures.size) c.sized-size.ensures.size c.sized-size.ensures.enough

pub returns-clause-ready : goal.returns-clause-ready
returns-clause-ready c =
    let s = c.args.self.now in
    let ready : IsReadyAt s (slice_index s.ready c.sized-size.result.1) c.sized-size.result.0 = c.is_ready.ensures.yes c.if-not-is_ready.false in
    subst (HasPieceReady s) c.sized-size.ensures.size
    (subst (λ n. IsReadyAt s (slice_index s.ready n) c.sized-size.result.0) (c.sized-size.ensures.number ∙ ap size_number (sym c.sized-size.ensures.size)) ready)

pub returns-clause-page : goal.returns-clause-page
returns-clause-page c =
    popped-in c.args.heap.now c.args.self.now c.pop_ready-piece.result c.pop_ready-piece.new.self c.requires.paged c.pop_ready-piece.ensures.put

pub returns-clause-cache : goal.returns-clause-cache
returns-clause-cache c = c.pop_ready-piece.ensures.put.changes.cache
