use Rattle.std.proofs.Common.{◌+◌, ◌%◌, ◌^◌, ap, sym, slice_index, ◌∙◌, subst}
use Rattle.memory_cache.specs.Paged.{HasPieceReady, IsReadyAt}
use Rattle.memory_cache.specs.Sizes.{size_number}
use Rattle.memory_cache.proofs.PagedLemmas.{popped-in, popped-put, told-served, with_page}
use Rattle.memory_cache.proofs.TableLemmas.{page-read, within-table}
use Rattle.memory_cache.proofs.paged.PagedCache.take_spare.Goals as goal

pub pop_from-piece-requires : goal.pop_from-piece-requires
pop_from-piece-requires c =
    let s = c.args.self.now in
    let k = slice_index s.ready c.sized-size.result.1 in
    let ready : IsReadyAt s k c.sized-size.result.0 = c.has_two.ensures.yes c.if-not-has_two.false in
    let within = within-table s.pages.items k ready.page ready.there in
    (ready.page, sym (page-read s k c.index_mut.result.now within c.index_mut.ensures.value) ∙ ready.there, ready.home)

pub returns-clause-paged : goal.returns-clause-paged
returns-clause-paged c =
    let s = c.args.self.now in
    let k = slice_index s.ready c.sized-size.result.1 in
    let size = c.sized-size.result.0 in
    let ready : IsReadyAt s k size = c.has_two.ensures.yes c.if-not-has_two.false in
    (told-served c.args.heap.now s c.pop_from-piece.result.0 (with_page s k c.pop_from-piece.new.place) ((s.hits + 1) % 2 ^ 64) c.args.words size 1 c.requires.paged
    (popped-put s c.pop_from-piece.result.0 k size c.index_mut.result.now c.pop_from-piece.new.place ready c.index_mut.ensures.value c.pop_from-piece.ensures)
    c.sized-size.ensures.size c.sized-size.ensures.enough).paged

pub returns-clause-told : goal.returns-clause-told
returns-clause-told c = λ tries.
    let s = c.args.self.now in
    let k = slice_index s.ready c.sized-size.result.1 in
    let size = c.sized-size.result.0 in
    let ready : IsReadyAt s k size = c.has_two.ensures.yes c.if-not-has_two.false in
    told-served c.args.heap.now s c.pop_from-piece.result.0 (with_page s k c.pop_from-piece.new.place) ((s.hits + 1) % 2 ^ 64) c.args.words size tries c.requires.paged
    (popped-put s c.pop_from-piece.result.0 k size c.index_mut.result.now c.pop_from-piece.new.place ready c.index_mut.ensures.value c.pop_from-piece.ensures)
    c.sized-size.ensures.size c.sized-size.ensures.enough

pub returns-clause-ready : goal.returns-clause-ready
returns-clause-ready c =
    let s = c.args.self.now in
    let ready : IsReadyAt s (slice_index s.ready c.sized-size.result.1) c.sized-size.result.0 = c.has_two.ensures.yes c.if-not-has_two.false in
    subst (HasPieceReady s) c.sized-size.ensures.size
    (subst (λ n. IsReadyAt s (slice_index s.ready n) c.sized-size.result.0) (c.sized-size.ensures.number ∙ ap size_number (sym c.sized-size.ensures.size)) ready)

pub returns-clause-page : goal.returns-clause-page
returns-clause-page c =
    let s = c.args.self.now in
    let k = slice_index s.ready c.sized-size.result.1 in
    let size = c.sized-size.result.0 in
    let ready : IsReadyAt s k size = c.has_two.ensures.yes c.if-not-has_two.false in
    popped-in c.args.heap.now s c.pop_from-piece.result.0 (with_page s k c.pop_from-piece.new.place) c.requires.paged
    (popped-put s c.pop_from-piece.result.0 k size c.index_mut.result.now c.pop_from-piece.new.place ready c.index_mut.ensures.value c.pop_from-piece.ensures).0
