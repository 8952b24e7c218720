use Rattle.std.proofs.Common.{rules, false, true≢false, sym, ◌∙◌, ◌≡◌}
use Rattle.errand_steps.specs.Points.{is_idle}
use Rattle.balloc_c.proofs.calls.next_resting.Goals as goal

pub returns-then-not-idle-clause-none : goal.returns-then-not-idle-clause-none
returns-then-not-idle-clause-none c none idle block ready =
    let busy : is_idle c.args.cache.now.pass.errand.point ≡ false = search rules in
    true≢false (sym idle ∙ busy)

pub returns-clause-none : goal.returns-clause-none
returns-clause-none c none idle = c.at_rest.ensures.none none
