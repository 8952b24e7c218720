use Rattle.std.proofs.Common.{ℕ, ◌≡◌, ◌<◌, List, length, refl, sym, ap, ◌∙◌, subst}
use Rattle.live_heap.specs.declared.pass.Pass.{Pass}
use Rattle.live_heap.specs.Endings.{AreAllIdle, HasAccesses, HasClosed}
use Rattle.pipe_runner.specs.Runs.{IsPipeRun, pipe_heap}
use Rattle.pipe_runner.proofs.RunEnds.{ends-all, idle-all, run-over}
use Rattle.pipe_runner.proofs.run.run_pipe.Goals as goal

pub close-requires : goal.close-requires
close-requires g c =
    let parts = c.in_ok-heap.field-0 in
    let ready = c.in_ok-heap.ensures in
    let ps = c.take_apart.new.passes.items in
    let many : length ps ≡ parts.pipe.senders = c.take_apart.ensures.all ∙ c.send_in_rounds.ensures.all ∙ ready.all ∙ sym ready.pipe in
    subst (AreAllIdle parts.heap) (sym c.push_reserved.ensures.items)
    (idle-all (g.G.Gate.passed c.args.gate.now) parts.heap parts.pipe c.args.start c.args.messages ps c.take_apart.new.ends.items c.drain.new.self
    c.take_apart.ensures.done many c.drain.ensures.stands (ready.layout ∙ ap pipe_heap (sym ready.pipe)))

pub close-requires-2 : goal.close-requires-2
close-requires-2 g c =
    let parts = c.in_ok-heap.field-0 in
    let ready = c.in_ok-heap.ensures in
    let ps = c.take_apart.new.passes.items in
    let many : length ps ≡ parts.pipe.senders = c.take_apart.ensures.all ∙ c.send_in_rounds.ensures.all ∙ ready.all ∙ sym ready.pipe in
    ends-all (g.G.Gate.passed c.args.gate.now) parts.heap parts.pipe c.args.start c.args.messages ps c.take_apart.new.ends.items c.drain.new.self
    c.take_apart.ensures.done many c.drain.ensures.stands

pub returns : goal.returns
returns g c =
    let passed = g.G.Gate.passed c.args.gate.now in
    let parts = c.in_ok-heap.field-0 in
    let ready = c.in_ok-heap.ensures in
    let ps = c.take_apart.new.passes.items in
    let w = c.drain.new.self in
    let many : length ps ≡ parts.pipe.senders = c.take_apart.ensures.all ∙ c.send_in_rounds.ensures.all ∙ ready.all ∙ sym ready.pipe in
    subst (λ (n : ℕ). IsPipeRun passed n c.args.messages c.args.start (record { closed = c.in-Ok.closed; log = c.in-Ok-close.log; folds = w.folds })) ready.pipe
    (run-over passed parts.heap parts.pipe c.args.start c.args.messages ps c.take_apart.new.ends.items w c.take_apart.ensures.done many
    c.drain.ensures.stands (record { closed = c.in-Ok.closed; log = c.in-Ok-close.log; folds = w.folds }) (ready.layout ∙ ap pipe_heap (sym ready.pipe))
    (subst (λ (l : List Pass). HasClosed parts.heap l c.in-Ok.closed) c.push_reserved.ensures.items c.in-Ok.ensures.closed) c.in-Ok.ensures.rests
    (subst (HasAccesses c.in-Ok.closed) c.push_reserved.ensures.items c.in-Ok.ensures.accesses)
    c.in-Ok-close.ensures.log refl (λ k below. c.drain.ensures.all k (subst (λ (n : ℕ). k < n) ready.pipe below)))
