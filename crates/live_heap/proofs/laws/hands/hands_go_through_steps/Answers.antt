use Rattle.live_heap.proofs.StepHands.{begun-hand, stepped-hand}
use Rattle.live_heap.proofs.laws.hands.hands_go_through_steps.Goals as goal

pub returns-clause-begun : goal.returns-clause-begun
returns-clause-begun c = λ h p q blocks call of held still. begun-hand h p q blocks of held still call

pub returns-clause-stepped : goal.returns-clause-stepped
returns-clause-stepped c = λ h p q blocks told hand busy still. stepped-hand h p q blocks hand busy still told
