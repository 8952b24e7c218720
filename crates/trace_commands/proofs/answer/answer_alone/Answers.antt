use Rattle.std.proofs.Common.{refl, inl}
use Rattle.trace_commands.proofs.answer.answer_alone.Goals as goal

pub returns-in_ok-text-in-Make : goal.returns-in_ok-text-in-Make
returns-in_ok-text-in-Make g c = rw (c.in-Make.is, c.reported.ensures) (inl (refl, c.in_ok-text-in-Make.ensures))

pub returns-in_ok-text-in-Store : goal.returns-in_ok-text-in-Store
returns-in_ok-text-in-Store g c = rw (c.in-Store.is, c.reported-in-Store.ensures) (inl (refl, c.in_ok-text-in-Store.ensures))
