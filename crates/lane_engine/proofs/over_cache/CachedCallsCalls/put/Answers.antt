use Rattle.std.proofs.Common.{◌≡◌, ◌≢◌, refl, sym, ap, subst}
use Rattle.std.specs.Prelude.{All}
use Rattle.errand_steps.specs.declared.reply.Reply.TheVariants as reply
use Rattle.errand_steps.specs.Calls.{put}
use Rattle.live_heap.specs.declared.block.Block.{Block}
use Rattle.live_heap.specs.Passes.{Owns}
use Rattle.block_cache.specs.Caches.{cached_in}
use Rattle.block_cache.proofs.WholeLemmas.{same-cached}
use Rattle.lane_engine.proofs.ThroughLemmas.{keeps-depth}
use Rattle.lane_engine.proofs.over_cache.CachedCallsCalls.put.Goals as goal

pub returns-in-Err-clause-called : goal.returns-in-Err-clause-called
returns-in-Err-clause-called c =
    let e = c.args.self.now in
    let d = c.put.new.self in
    let full = c.in-Err.ensures.full in
    let b = c.args.held in
    let same : cached_in d ≡ cached_in e.cache.now = same-cached e.cache.now d c.put.ensures.keeps in
    let whole =
    c.ended_calls_are_whole.ensures.asked e.heap.now e.cache.now d (put b.place b.need c.args.shelf) (reply.Full c.in-Err.full.found)
    c.requires.stands c.put.ensures.cache c.requires.owned (0, full.called) c.put.ensures.keeps in (
      ap (λ (b : Block). b.place) full.same,
      ap (λ (b : Block). b.need) full.same,
      (subst (Owns d.pass) full.same full.owned, subst (All (λ (other : Block). other.place ≢ b.place)) (sym same) c.requires.owned.1),
      c.in-Err.full.found,
      ((whole, keeps-depth e.cache.now d c.put.ensures.keeps), refl),
    )
