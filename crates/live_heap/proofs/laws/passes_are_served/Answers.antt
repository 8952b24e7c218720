use Rattle.live_heap.proofs.laws.passes_are_served.Goals as goal

pub returns-clause-served : goal.returns-clause-served
returns-clause-served c = λ h p of. of.served

pub returns-clause-alone : goal.returns-clause-alone
returns-clause-alone c = λ h p of. of.alone
