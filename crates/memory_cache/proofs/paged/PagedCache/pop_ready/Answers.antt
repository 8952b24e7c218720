use Rattle.std.proofs.Common.{ℕ, ◌∙◌, sym}
use Rattle.memory_cache.specs.declared.paged.PagedCache.{PagedCache}
use Rattle.memory_cache.specs.Paged.{HasPut}
use Rattle.memory_cache.proofs.PagedLemmas.{popped-put, with_page}
use Rattle.memory_cache.proofs.TableLemmas.{page-read, put-then, within-table}
use Rattle.memory_cache.proofs.paged.PagedCache.pop_ready.Goals as goal

pub pop_from-piece-requires : goal.pop_from-piece-requires
pop_from-piece-requires c =
    let s = c.args.self.now in
    let k : ℕ = c.args.key in
    let ready = c.requires.ready in
    let within = within-table s.pages.items k ready.page ready.there in
    (ready.page, sym (page-read s k c.index_mut.result.now within c.index_mut.ensures.value) ∙ ready.there, ready.home)

pub returns-then-is_last-clause-put : goal.returns-then-is_last-clause-put
returns-then-is_last-clause-put c =
    let s = c.args.self.now in
    let k : ℕ = c.args.key in
    let after = c.pop_from-piece.new.place in
    let x = c.pop_from-piece.result.0 in
    let e : PagedCache = with_page s k after in
    let put : HasPut s x e =
    (popped-put s x k c.args._size c.index_mut.result.now after c.requires.ready c.index_mut.ensures.value c.pop_from-piece.ensures).0 in
    put-then s x e c.unlink.new.self put c.unlink.ensures.same

pub returns-else-is_last-clause-put : goal.returns-else-is_last-clause-put
returns-else-is_last-clause-put c =
    (popped-put c.args.self.now c.pop_from-piece.result.0 c.args.key c.args._size c.index_mut.result.now c.pop_from-piece.new.place c.requires.ready
    c.index_mut.ensures.value c.pop_from-piece.ensures).0
