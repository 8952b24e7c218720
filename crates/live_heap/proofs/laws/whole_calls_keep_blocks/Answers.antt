use Rattle.live_heap.proofs.WholeLaws.{pass-keeps, pass-hands, pass-apart, pass-serves}
use Rattle.live_heap.proofs.laws.whole_calls_keep_blocks.Goals as goal

pub returns-clause-keeps : goal.returns-clause-keeps
returns-clause-keeps c = pass-keeps

pub returns-clause-hands : goal.returns-clause-hands
returns-clause-hands c = pass-hands

pub returns-clause-apart : goal.returns-clause-apart
returns-clause-apart c = pass-apart

pub returns-clause-serves : goal.returns-clause-serves
returns-clause-serves c = pass-serves
