-- Which call a caller of a machine begins, and with which answer.
use Rattle.errand_steps.specs.declared.reply.Begun.{Begun}
use Rattle.errand_steps.specs.declared.reply.Begun.TheVariants as begun
use Rattle.errand_steps.specs.Begins.{alloc_answer}
use Rattle.errand_steps.specs.Calls.{Call, alloc, free, write, read, put, take}
use Rattle.errand_steps.specs.Errands.{ErrandFields}
use Rattle.lane_engine.specs.declared.begins.NextCall.{NextCall}
use Rattle.lane_engine.specs.declared.begins.NextCall.TheVariants as next

-- the call that the numbers name
abbrev pub call_of : NextCall → Call
call_of (next.Alloc words) = alloc words
call_of (next.Free place need) = free place need
call_of (next.Write place need i value) = write place need i value
call_of (next.Read place need i) = read place need i
call_of (next.Put place need shelf) = put place need shelf
call_of (next.Take shelf) = take shelf

-- the answer with which a call begins, or doesn't
abbrev pub begin_answer : ErrandFields → Call → Begun
begin_answer e (alloc words) = alloc_answer e words
begin_answer e call = begun.Started
