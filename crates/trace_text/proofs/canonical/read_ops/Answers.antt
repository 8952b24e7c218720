use Rattle.std.proofs.Common.{◌∷◌, ◌++◌, [], ap, ◌∙◌, append_assoc, length-append, arith}
use Rattle.trace_text.proofs.CanonicalLemmas.{ops_more}
use Rattle.trace_text.proofs.canonical.read_ops.Goals as goal

pub loop-at-preserved : goal.loop-at-preserved
loop-at-preserved c =
    let was = c.loop-at.invariant in
    let more = was.ops.0 in
    let op = c.in-Some.op in
    record {
      within = c.in-Some.ensures.within;
      few = omega (arith, was.few, c.in-Some.ensures.later);
      ops = (
        more ++ op ∷ [],
        c.in_ok-push.ensures.items ∙ ap (λ items. items ++ op ∷ []) was.ops.1 ∙ append_assoc c.args.ops.now.items more (op ∷ []),
        omega (arith, length-append more (op ∷ []), was.ops.2),
        ops_more c.args.version c.args.text.now more op c.loop-at.at c.in-Some.after was.ops.3 c.in-Some.ensures,
      );
    }
