use Rattle.std.proofs.Common.{ℕ, ◌≡◌, refl}
use Rattle.errand_steps.specs.declared.reply.Reply.{Reply}
use Rattle.errand_steps.specs.declared.reply.Reply.TheVariants as reply
use Rattle.errand_steps.specs.Calls.{take}
use Rattle.live_heap.specs.declared.answers.Taken.{Taken}
use Rattle.live_heap.specs.declared.answers.Taken.TheVariants as taken
use Rattle.live_heap.specs.declared.block.Block.{Block}
use Rattle.live_heap.specs.declared.pass.Pass.{Pass}
use Rattle.live_heap.specs.Answers.{TakeTells as HasCome}
use Rattle.live_heap.specs.Whole.{HasEndedCall}
use Rattle.lane_engine.specs.Caches.{IsCachedCall}
use Rattle.lane_engine.specs.Whole.{TakeTells}
use Rattle.lane_engine.proofs.ThroughLemmas.{keeps-depth}
use Rattle.lane_engine.proofs.over_cache.CachedCallsCalls.take.Goals as goal

-- what a take of a pass came to is the answer of a call that has ended
told-so :
    (p q : Pass) (shelf : ℕ) (told : Taken Block) (ended : Reply → Type 0) → HasCome p shelf told q
    → ((answer : Reply) → HasEndedCall p (take shelf) answer q → ended answer)
    → TakeTells (λ (block : Block). block.place) (λ (block : Block). block.need) ended told
told-so p q shelf (taken.Got block) ended tells so = so (reply.Got block.place block.need) (1, tells.0)
told-so p q shelf taken.Empty ended tells so = so reply.Empty (1, tells)
told-so p q shelf (taken.Missed expected found) ended tells so = so (reply.Missed expected found) (1, tells.0)

pub returns-clause-called : goal.returns-clause-called
returns-clause-called c =
    let e = c.args.self.now in
    let d = c.take.new.self in
    told-so e.cache.now.pass d.pass c.args.shelf c.take.result
    (λ answer. IsCachedCall e.heap.now e.cache.now (take c.args.shelf) answer d × (e.heap.now ≡ e.heap.now)) c.take.ensures.tells
    (λ answer ended. (
      (
        c.ended_calls_are_whole.ensures.asked e.heap.now e.cache.now d (take c.args.shelf) answer c.requires.stands
            c.take.ensures.cache tt ended c.take.ensures.keeps,
        keeps-depth e.cache.now d c.take.ensures.keeps,
      ),
      refl,
    ))
