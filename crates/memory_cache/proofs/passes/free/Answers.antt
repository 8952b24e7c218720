use Rattle.std.proofs.Common.{inl}
use Rattle.memory_cache.proofs.SettledLemmas.{freed-settled}
use Rattle.memory_cache.proofs.passes.free.Goals as goal

pub returns-in-Freed-clause-pass : goal.returns-in-Freed-clause-pass
returns-in-Freed-clause-pass c =
    let t = c.in-Freed.ensures.tells in
    inl (freed-settled _ _ _ _ _ t.steps c.requires.settled c.in-Freed.ensures.of t.called)

pub returns-in-Freed-clause-caller : goal.returns-in-Freed-clause-caller
returns-in-Freed-clause-caller c = c.in-Freed.ensures.tells.called.caller

pub returns-in-Busy-clause-caller : goal.returns-in-Busy-clause-caller
returns-in-Busy-clause-caller c = c.in-Busy.ensures.tells.calling.caller
