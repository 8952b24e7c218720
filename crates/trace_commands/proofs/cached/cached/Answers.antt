use Rattle.std.proofs.Common.{map, ◌∙◌}
use Rattle.trace_commands.proofs.CachedLemmas.{cache-told}
use Rattle.trace_commands.proofs.cached.cached.Goals as goal

pub returns : goal.returns
returns g c =
    cache-told (g.G.Gate.passed c.args.gate.now) c.args.trace.now c.args.depth c.in_ok-run.run'.closed
    (map (λ lane. lane.items) c.in_ok-run.run'.outcomes.items) c.in_ok-run.run'.hits.items c.in_ok-text.text.items c.as_slice-3.result.now
    c.extend_from_slice.new.self.items c.requires.trace c.in_ok-run.ensures (rw c.as_slice.ensures.value at c.in_ok-text.ensures.cached)
    (c.as_slice-3.ensures.value ∙ rw c.as_slice-2.ensures.value at c.in_ok-hits.ensures) c.in_ok-extend_from_slice.ensures.items
