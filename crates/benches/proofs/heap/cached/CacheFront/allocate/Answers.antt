use Rattle.std.proofs.Common.{suc, ◌++◌, refl, sym, subst}
use Rattle.errand_steps.specs.declared.reply.Reply.{Reply}
use Rattle.errand_steps.specs.declared.reply.Reply.TheVariants as reply
use Rattle.errand_steps.specs.Calls.{alloc}
use Rattle.live_heap.specs.declared.answers.AllocAnswer.{AllocAnswer}
use Rattle.live_heap.specs.declared.block.Block.{Block}
use Rattle.block_cache.specs.Caches.{Holds}
use Rattle.block_cache.specs.Whole.{EndsAs}
use Rattle.lane_engine.proofs.ThroughLemmas.{busy-asks}
use Rattle.benches.proofs.CacheLemmas.{resumed-home, whole-home}
use Rattle.benches.proofs.heap.cached.CacheFront.allocate.Goals as goal

pub go_on-requires-clause-under_way : goal.go_on-requires-clause-under_way
go_on-requires-clause-under_way g c =
    let asks = busy-asks c.args.self.now c.args.need c.alloc.new.self c.alloc.result c.in-Busy.is c.alloc.ensures.served in
    (c.in-Busy.ensures.asked asks).0.calling.busy

pub returns-in-Given : goal.returns-in-Given
returns-in-Given g c =
    let b = c.in-Given.block in
    let told : Reply = reply.Given b.place b.need in
    let whole =
    c.ended_calls_are_whole.ensures.alloc c.args.heap.now c.args.self.now c.alloc.new.self c.args.need c.args.tries c.alloc.result told
    c.requires.rests.0 c.alloc.ensures.cache c.alloc.ensures.served c.alloc.ensures.asked
    (subst (λ (a : AllocAnswer Block). EndsAs a told) (sym c.in-Given.is) refl) in
    record {
      rests = (whole.after, whole-home c.args.heap.now c.args.self.now c.alloc.new.self (alloc c.args.need) _ whole c.requires.rests.1);
      holds = c.in-Given.ensures.holds;
    }

pub returns-in-Busy : goal.returns-in-Busy
returns-in-Busy g c =
    let p = c.args.self.now.pass in
    let was = c.requires.rests.0.0.hand.of in
    let asks = busy-asks c.args.self.now c.args.need c.alloc.new.self c.alloc.result c.in-Busy.is c.alloc.ensures.served in
    let over = (c.in-Busy.ensures.asked asks).0 in
    let call = alloc c.args.need in
    let ended = c.go_on.ensures.ended p call (suc over.steps) was over.calling in
    let after = c.go_on.ensures.rests in
    record {
      rests = (after, resumed-home c.args.heap.now p call c.go_on.result c.go_on.new.cache.pass was c.requires.rests.1 after.0.hand.of ended);
      holds = λ held h.
          subst (λ got. Holds c.go_on.new.cache (got ++ held)) (sym c.given.ensures) (c.go_on.ensures.holds held (c.in-Busy.ensures.holds held h));
    }

pub returns-in-Refused : goal.returns-in-Refused
returns-in-Refused g c =
    let whole =
    c.ended_calls_are_whole.ensures.alloc c.args.heap.now c.args.self.now c.alloc.new.self c.args.need c.args.tries c.alloc.result reply.Refused
    c.requires.rests.0 c.alloc.ensures.cache c.alloc.ensures.served c.alloc.ensures.asked
    (subst (λ (a : AllocAnswer Block). EndsAs a reply.Refused) (sym c.in-Refused.is) refl) in
    record {
      rests = (whole.after, whole-home c.args.heap.now c.args.self.now c.alloc.new.self (alloc c.args.need) _ whole c.requires.rests.1);
      holds = c.in-Refused.ensures.holds;
    }

pub returns-in-Spent : goal.returns-in-Spent
returns-in-Spent g c =
    let whole =
    c.ended_calls_are_whole.ensures.alloc c.args.heap.now c.args.self.now c.alloc.new.self c.args.need c.args.tries c.alloc.result reply.Spent
    c.requires.rests.0 c.alloc.ensures.cache c.alloc.ensures.served c.alloc.ensures.asked
    (subst (λ (a : AllocAnswer Block). EndsAs a reply.Spent) (sym c.in-Spent.is) refl) in
    record {
      rests = (whole.after, whole-home c.args.heap.now c.args.self.now c.alloc.new.self (alloc c.args.need) _ whole c.requires.rests.1);
      holds = c.in-Spent.ensures.holds;
    }
