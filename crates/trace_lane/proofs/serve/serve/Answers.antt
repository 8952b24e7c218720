use Rattle.std.proofs.Common.{[], ◌∷◌, refl, ap, ◌∙◌}
use Rattle.errand_steps.specs.declared.reply.Reply.TheVariants as reply
use Rattle.trace_lane.proofs.Common.{alloc, free, put, answered}
use Rattle.trace_lane.specs.Requests.{held_of}
use Rattle.trace_lane.proofs.serve.serve.Goals as goal

pub returns-in-Given-clause-served : goal.returns-in-Given-clause-served
returns-in-Given-clause-served g c =
    let place = g.B.Token.place_of c.in-Given.block in
    let need = g.B.Token.need_of c.in-Given.block in
    let words = c.in-Allocate.need in
    let serves = c.calls_keep_blocks.ensures.serves c.args.calls.now c.allocate.new.self words place need c.in-Given.ensures.called in
    rw c.in-Allocate.is (
      answered (alloc words) (reply.Given place need) ∷ [],
      (ap (held_of place) serves, ap (λ n. answered (alloc words) (reply.Given place n) ∷ []) serves),
      (c.allocate.new.self, c.in-Given.ensures.called, refl),
    )

pub returns-in-Refused-clause-served : goal.returns-in-Refused-clause-served
returns-in-Refused-clause-served g c =
    rw c.in-Allocate.is (answered (alloc c.in-Allocate.need) reply.Refused ∷ [], refl, (c.allocate.new.self, c.in-Refused.ensures.called, refl))

pub returns-in-Spent-clause-served : goal.returns-in-Spent-clause-served
returns-in-Spent-clause-served g c =
    rw c.in-Allocate.is (answered (alloc c.in-Allocate.need) reply.Spent ∷ [], refl, (c.allocate.new.self, c.in-Spent.ensures.called, refl))

pub returns-in-Free-clause-served : goal.returns-in-Free-clause-served
returns-in-Free-clause-served g c =
    let call = free (g.B.Token.place_of c.in-Free.block) (g.B.Token.need_of c.in-Free.block) in
    rw c.in-Free.is (answered call reply.Freed ∷ [], refl, (c.free.new.self, c.free.ensures.called, refl))

pub returns-in-None-clause-served : goal.returns-in-None-clause-served
returns-in-None-clause-served g c =
    let call = put (g.B.Token.place_of c.in-Put.block) (g.B.Token.need_of c.in-Put.block) c.in-Put.shelf in
    rw c.in-Put.is (answered call reply.Put ∷ [], refl, (c.put.new.self, c.in-None.ensures.called, refl))

pub returns-in-Some-clause-served : goal.returns-in-Some-clause-served
returns-in-Some-clause-served g c =
    let place_of = g.B.Token.place_of in
    let need_of = g.B.Token.need_of in
    let call = put (place_of c.in-Put.block) (need_of c.in-Put.block) c.in-Put.shelf in
    let (same_place, same_need, owned, found, called) = c.in-Some.ensures.called in
    rw c.in-Put.is (
      answered call (reply.Full found) ∷ [],
      (ap (λ p. held_of p (need_of c.in-Some.back)) same_place ∙ ap (held_of (place_of c.in-Put.block)) same_need, found, refl),
      (c.put.new.self, called, refl),
    )
