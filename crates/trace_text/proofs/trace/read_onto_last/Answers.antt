use Rattle.std.proofs.Common.{◌-◌, vec_len, [], refl, arith}
use Rattle.trace_text.proofs.CanonicalLemmas.{all_given, no_ops}
use Rattle.trace_text.proofs.trace.read_onto_last.Goals as goal

pub returns-in_default-clause-ops : goal.returns-in_default-clause-ops
returns-in_default-clause-ops c = ([], refl, refl, no_ops c.args.version c.args.text.now)

pub returns-clause-ops : goal.returns-clause-ops
returns-clause-ops c =
    let lanes = c.args.lanes.now in
    let read = c.in_ok-ops.ensures.ops in (
      read.0,
      all_given (λ ops. ops.items) read.0 lanes.items (vec_len lanes - 1) c.in-Some.last.now c.read_ops.new.ops
          (omega (arith, lanes.ok.0, c.in-Some.ensures.variant.0 refl)) c.in-Some.ensures.value read.1,
      read.2,
      read.3,
    )
