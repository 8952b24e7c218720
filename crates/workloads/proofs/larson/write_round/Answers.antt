use Rattle.std.proofs.Common.{◌+◌, ◌%◌, arith}
use Rattle.workloads.proofs.HeldLemmas.{flags_next, larson_round-is}
use Rattle.workloads.proofs.larson.write_round.Goals as goal

pub returns-clause-ops : goal.returns-clause-ops
returns-clause-ops c =
    rw (c.in_ok-push.ensures.items, c.in_ok-write_given_back.ensures, c.from-v.ensures)
    (larson_round-is c.drawn-r.result c.drawn.result c.drawn-2.result c.args.ops.now.items _ c.args.draws.now c.drawn-r.new.draws c.drawn.new.draws c.drawn-2.new.draws
    c.drawn-r.ensures c.drawn.ensures c.drawn-2.ensures (c.requires (c.drawn-r.result % 64) (omega arith)))

pub returns-clause-held : goal.returns-clause-held
returns-clause-held c =
    rw (c.in_ok-push.ensures.items, c.in_ok-write_given_back.ensures)
    (flags_next c.args.held.now (c.drawn-r.result % 64) (c.drawn.result % 63 + 1) c.from-v.result c.args.ops.now.items _ c.told-held (omega arith) c.requires)
