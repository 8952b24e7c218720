use Rattle.std.proofs.Common.{ap}
use Rattle.errand_steps.specs.declared.point.Point.TheVariants.{Stack, Partial}
use Rattle.step_parts.specs.stack.Points.{settle_stack_of}
use Rattle.step_parts.specs.partial.Points.{settle_partial_of}
use Rattle.errand_steps.specs.Nexts.{next_of}
use Rattle.errand_steps.proofs.StayLemmas.{left_partial, left_stack}
use Rattle.errand_steps.proofs.enter.settle_point.Goals as goal

pub returns-in_ok-settle_stack-in-Stack-clause-leaves : goal.returns-in_ok-settle_stack-in-Stack-clause-leaves
unfolding next_of
returns-in_ok-settle_stack-in-Stack-clause-leaves c =
    let left = left_stack (settle_stack_of c.in-Stack.at c.args.found) c.in-Stack.at c.settle_stack.new.at c.settle_stack.result
    c.in_ok-settle_stack-in-Stack.field-0 c.in-Stack.continuation c.settle_stack.ensures.exit c.settle_stack.ensures.point
    c.in_ok-settle_stack-in-Stack.was in
    rw (c.in-Stack.is, c.leave_stack.ensures) (left.0, ap (λ q. Stack q c.in-Stack.continuation) left.1)

pub returns-in_ok-settle_partial-in-Partial-clause-leaves : goal.returns-in_ok-settle_partial-in-Partial-clause-leaves
unfolding next_of
returns-in_ok-settle_partial-in-Partial-clause-leaves c =
    let left = left_partial (settle_partial_of c.in-Partial.at c.args.found) c.in-Partial.at c.settle_partial.new.at c.settle_partial.result
    c.in_ok-settle_partial-in-Partial.field-0 c.in-Partial.continuation c.settle_partial.ensures.exit c.settle_partial.ensures.point
    c.in_ok-settle_partial-in-Partial.was in
    rw (c.in-Partial.is, c.leave_partial.ensures) (left.0, ap (λ q. Partial q c.in-Partial.continuation) left.1)
