use Rattle.live_heap.proofs.StepByStep.{begun-calling, last-done, steps-end, steps-on, step-moves, steps-tell, take-first, take-loses, unstarted}
use Rattle.live_heap.proofs.laws.by_steps.calls_go_step_by_step.Goals as goal

pub returns-clause-begins : goal.returns-clause-begins
returns-clause-begins c = begun-calling

pub returns-clause-goes_on : goal.returns-clause-goes_on
returns-clause-goes_on c = steps-on

pub returns-clause-ends : goal.returns-clause-ends
returns-clause-ends c = steps-end

pub returns-clause-tells : goal.returns-clause-tells
returns-clause-tells c = steps-tell

pub returns-clause-last : goal.returns-clause-last
returns-clause-last c = last-done

pub returns-clause-take : goal.returns-clause-take
returns-clause-take c = take-first

pub returns-clause-missed : goal.returns-clause-missed
returns-clause-missed c = take-loses

pub returns-clause-moves : goal.returns-clause-moves
returns-clause-moves c = step-moves

pub returns-clause-unstarted : goal.returns-clause-unstarted
returns-clause-unstarted c = unstarted
