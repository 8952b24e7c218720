use Rattle.live_heap.proofs.Holding.{alloc-hand, free-hand, put-hand, take-hand, waiting-hand}
use Rattle.live_heap.proofs.StepHands.{done-hand}
use Rattle.live_heap.proofs.laws.hands.hands_go_through_calls.Goals as goal

pub returns-clause-alloc : goal.returns-clause-alloc
returns-clause-alloc c = λ h p q blocks need tries answer hand idle still. alloc-hand h p q blocks need tries answer hand.of idle (hand.holds idle) still

pub returns-clause-free : goal.returns-clause-free
returns-clause-free c = λ h p q block blocks tries answer of held still. free-hand h p q blocks block tries answer of held.1 held.2 still

pub returns-clause-resumed : goal.returns-clause-resumed
returns-clause-resumed c = λ h p q blocks tries answer hand busy still. waiting-hand h p q blocks tries answer (hand.waits busy) still

pub returns-clause-put : goal.returns-clause-put
returns-clause-put c = λ h p q block blocks shelf answer of held still. put-hand h p q blocks block shelf answer of held.1 held.2 still

pub returns-clause-take : goal.returns-clause-take
returns-clause-take c = λ h p q blocks shelf answer of held still. take-hand h p q blocks shelf answer of held still

pub returns-clause-ended : goal.returns-clause-ended
returns-clause-ended c = λ h p q blocks call steps end of held still. done-hand h p q blocks of held still call steps end
