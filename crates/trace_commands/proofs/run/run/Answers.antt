use Rattle.std.proofs.Common.{Err, ap, inl, inr, lit<, refl, rules}
use Rattle.command_line.specs.Command.{has_input}
use Rattle.trace_commands.proofs.RunLemmas.{known-stop, reported-answers, refused-answers, stop-answers}
use Rattle.trace_commands.proofs.run.run.Goals as goal

pub returns-in-Err-Usage-clause-known : goal.returns-in-Err-Usage-clause-known
returns-in-Err-Usage-clause-known g c = rw c.ended_early.ensures.status (1, lit< tt, refl)

pub returns-in-Err-clause-known : goal.returns-in-Err-clause-known
returns-in-Err-clause-known g c = rw (c.ended_early-in-Err.ensures.status, c.status.ensures) (known-stop c.in-Err.stop)

pub returns-in-Err-clause-complete : goal.returns-in-Err-clause-complete
returns-in-Err-clause-complete g c =
    λ command line source sink.
    rw (c.in-Ok.ensures.only command line, c.ended_early-in-Err.ensures.status, c.status.ensures)
    (stop-answers (has_input c.in-Ok.command) c.in-Err.stop (λ stopped. source (c.in-Err.ensures.fault (ap Err stopped)).1)
    (λ stopped. (c.in-Err.ensures.many (ap Err stopped)).0))

pub returns-in-Ok-write_text-clause-known : goal.returns-in-Ok-write_text-clause-known
returns-in-Ok-write_text-clause-known g c =
    elim c.in-Ok-answer_to.ensures.answer.2 [
      | inl h ↦ rw (c.ended_at.ensures.status, h.0) (0, lit< tt, refl)
      | inr h ↦ rw (c.ended_at.ensures.status, h.0) (2, lit< tt, refl)
    ]

pub returns-in-Ok-write_text-clause-complete : goal.returns-in-Ok-write_text-clause-complete
returns-in-Ok-write_text-clause-complete g c =
    λ command line source sink.
    rw (c.in-Ok.ensures.only command line) (
    elim c.in-Ok-answer_to.ensures.answer.2 [
      | inl h ↦ rw (c.ended_at.ensures.status, h.0) (reported-answers (has_input c.in-Ok.command))
      | inr h ↦ rw (c.ended_at.ensures.status, h.0) (refused-answers (has_input c.in-Ok.command) h.1.takes)
    ]
    )

pub returns-clause-known : goal.returns-clause-known
returns-clause-known g c = rw c.ended_at-in-Err-write_text.ensures.status (4, lit< tt, refl)

pub returns-in-Err-Usage-clause-usage : goal.returns-in-Err-Usage-clause-usage
returns-in-Err-Usage-clause-usage g c = search rules

pub returns-in-Err-Usage-clause-untouched : goal.returns-in-Err-Usage-clause-untouched
returns-in-Err-Usage-clause-untouched g c = search rules

pub returns-clause-write_fault : goal.returns-clause-write_fault
returns-clause-write_fault g c = search rules
