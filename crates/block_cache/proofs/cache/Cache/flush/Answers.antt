use Rattle.std.proofs.Common.{◌++◌, ◌∷◌, [], ◌∙◌, ap, subst}
use Rattle.live_heap.specs.declared.answers.FreeAnswer.{FreeAnswer}
use Rattle.live_heap.specs.Answers.{FreeTells}
use Rattle.block_cache.specs.declared.cache.Cache.{Cache}
use Rattle.block_cache.specs.Caches.{stacks_in}
use Rattle.block_cache.specs.Magazines.{leaving}
use Rattle.block_cache.proofs.FlushLemmas.{freed-order, frees-more, not-busy}
use Rattle.block_cache.proofs.MagazineLemmas.{none-left}
use Rattle.block_cache.proofs.cache.Cache.flush.Goals as goal

pub returns-in-Busy-clause-tells : goal.returns-in-Busy-clause-tells
returns-in-Busy-clause-tells c =
    let i = c.loop-answer.invariant in
    let s = c.loop-answer.self in
    let n = c.in-Some.ensures.next in
    record {
      freed = i.freed.0;
      block = n.0;
      next = s.pass;
      order = i.freed.1 ∙ ap (λ xs. i.freed.0 ++ xs) n.1;
      frees = i.freed.2;
      busy = subst (λ (told : FreeAnswer). FreeTells s.pass n.0 c.args.tries told c.free_next.new.self.pass) c.in-Busy.is n.2;
    }

pub loop-answer-preserved : goal.loop-answer-preserved
loop-answer-preserved c =
    let i = c.loop-answer.invariant in
    let s = c.loop-answer.self in
    let t = c.free_next.new.self in
    let n = c.in-Some.ensures.next in
    let ended = not-busy s.pass t.pass n.0 c.args.tries c.in-Some.answer c.in_default-answer.not-Busy n.2 in
    record {
      cache = c.free_next.ensures.cache;
      idle = ended.called.idle;
      depth = c.free_next.ensures.depth ∙ i.depth;
      hits = c.free_next.ensures.hits ∙ i.hits;
      freed = (
        i.freed.0 ++ n.0 ∷ [],
        freed-order (leaving (stacks_in c.args.self.now)) i.freed.0 (leaving (stacks_in s)) n.0 (leaving (stacks_in t)) i.freed.1 n.1,
        frees-more c.args.heap.now c.args.self.now.pass s.pass t.pass i.freed.0 n.0 c.args.tries i.freed.2 c.free_next.ensures.cache.hand.of ended,
      );
      holds = λ held holds. c.free_next.ensures.holds held (i.holds held holds);
    }

pub returns-clause-empty : goal.returns-clause-empty
returns-clause-empty c freed =
    let none = c.free_next.ensures.none c.in_default.is in
    none-left (stacks_in c.free_next.new.self) (ap (λ (d : Cache). leaving (stacks_in d)) none.1 ∙ none.0)
