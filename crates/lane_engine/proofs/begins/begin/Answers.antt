use Rattle.std.proofs.Common.{subst, arith}
use Rattle.errand_steps.specs.Calls.{free, put, read, write}
use Rattle.lane_engine.specs.Callers.{FitsCall, OwnsFor}
use Rattle.lane_engine.specs.Begins.{call_of}
use Rattle.lane_engine.proofs.StepLemmas.{core-begins}
use Rattle.lane_engine.proofs.begins.begin.Goals as goal

pub begin_free-requires-clause-owned : goal.begin_free-requires-clause-owned
begin_free-requires-clause-owned c =
    subst (λ call. OwnsFor c.args.core.now.events c.args.caller (call_of call)) c.in-Free.is c.requires.owned

pub begin_write-requires-clause-owned : goal.begin_write-requires-clause-owned
begin_write-requires-clause-owned c =
    subst (λ call. OwnsFor c.args.core.now.events c.args.caller (call_of call)) c.in-Write.is c.requires.owned

pub begin_read-requires-clause-owned : goal.begin_read-requires-clause-owned
begin_read-requires-clause-owned c =
    subst (λ call. OwnsFor c.args.core.now.events c.args.caller (call_of call)) c.in-Read.is c.requires.owned

pub begin_put-requires-clause-owned : goal.begin_put-requires-clause-owned
begin_put-requires-clause-owned c =
    subst (λ call. OwnsFor c.args.core.now.events c.args.caller (call_of call)) c.in-Put.is c.requires.owned

pub returns-in-Free-clause-called : goal.returns-in-Free-clause-called
returns-in-Free-clause-called c =
    rw c.in-Free.is (core-begins c.args.core.now c.begin_free.new.self c.args.caller (free c.in-Free.place c.in-Free.need) c.requires.serves c.requires.idle
    (record { block = subst (λ call. OwnsFor c.args.core.now.events c.args.caller (call_of call)) c.in-Free.is c.requires.owned }) c.begin_free.ensures)

pub returns-in-Write-clause-called : goal.returns-in-Write-clause-called
returns-in-Write-clause-called c =
    let fits = subst (λ call. FitsCall (call_of call)) c.in-Write.is c.requires.fits in
    rw c.in-Write.is (core-begins c.args.core.now c.begin_write.new.self c.args.caller
    (write c.in-Write.place c.in-Write.need c.in-Write.i c.in-Write.value) c.requires.serves c.requires.idle
    (record { block = subst (λ call. OwnsFor c.args.core.now.events c.args.caller (call_of call)) c.in-Write.is c.requires.owned }, fits, omega arith) c.begin_write.ensures)

pub returns-in-Read-clause-called : goal.returns-in-Read-clause-called
returns-in-Read-clause-called c =
    let fits = subst (λ call. FitsCall (call_of call)) c.in-Read.is c.requires.fits in
    rw c.in-Read.is (core-begins c.args.core.now c.begin_read.new.self c.args.caller
    (read c.in-Read.place c.in-Read.need c.in-Read.i) c.requires.serves c.requires.idle
    (record { block = subst (λ call. OwnsFor c.args.core.now.events c.args.caller (call_of call)) c.in-Read.is c.requires.owned }, fits) c.begin_read.ensures)

pub returns-in-Put-clause-called : goal.returns-in-Put-clause-called
returns-in-Put-clause-called c =
    let fits = subst (λ call. FitsCall (call_of call)) c.in-Put.is c.requires.fits in
    rw c.in-Put.is (core-begins c.args.core.now c.begin_put.new.self c.args.caller
    (put c.in-Put.place c.in-Put.need c.in-Put.shelf) c.requires.serves c.requires.idle
    (record { block = subst (λ call. OwnsFor c.args.core.now.events c.args.caller (call_of call)) c.in-Put.is c.requires.owned }, fits) c.begin_put.ensures)
