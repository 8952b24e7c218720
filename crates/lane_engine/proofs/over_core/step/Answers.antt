use Rattle.lane_engine.proofs.StepLemmas.{core-moves, core-others, core-steps, offer-tellable}
use Rattle.lane_engine.proofs.over_core.step.Goals as goal

pub told-requires : goal.told-requires
told-requires c =
    offer-tellable c.args.core.now c.advance.new.self c.args.caller c.offered-offer.result c.in_ok-progress.progress c.requires.serves.0
    c.requires.serves.1 c.in_ok-progress.ensures.idle c.in_ok-progress.ensures.busy c.offered-offer.ensures

pub returns-clause-busy : goal.returns-clause-busy
returns-clause-busy c =
    λ busy.
    core-steps _ _ c.args.core.now c.advance.new.self c.args.caller c.offered-offer.result c.in_ok-progress.progress c.told.result
    c.requires.serves.0 c.requires.serves.1 (c.in_ok-progress.ensures.busy busy) c.offered-offer.ensures c.told.ensures.progress c.told.ensures.back

pub returns-clause-moved : goal.returns-clause-moved
returns-clause-moved c =
    λ busy.
    core-moves c.args.core.now c.advance.new.self c.args.caller c.in_ok-progress.progress c.requires.serves.1
    (c.in_ok-progress.ensures.busy busy)

pub returns-clause-others : goal.returns-clause-others
returns-clause-others c =
    λ other differ.
    core-others c.args.core.now c.advance.new.self c.args.caller other c.in_ok-progress.progress c.in_ok-progress.ensures.idle
    c.in_ok-progress.ensures.busy differ
