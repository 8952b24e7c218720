-- Each thing is one more of the three, and the map has it for the first time.
use Rattle.std.proofs.Common.{◌≡◌, None, false, is_some, ap, ◌∙◌, arith}
use Rattle.std.proofs.lemmas.Grind.{common_steps}
use Rattle.std.specs.Ordering.{nat_cmp}
use Rattle.std.specs.BTreeMap.{get}
use Rattle.worked_programs.proofs.collections.build.build.Goals as goal

pub loop-thing-preserved : goal.loop-thing-preserved
loop-thing-preserved c =
    let is = c.loop-thing.invariant in
    let n = c.loop-thing.thing in
    let old : get nat_cmp c.loop-thing.map n ≡ None = is.fresh n (omega arith) in
    let new : is_some c.in_ok-insert.field-0 ≡ false = ap is_some (c.in_ok-insert.ensures.old ∙ old) in record {
      list = grind (arith, common_steps);
      map = grind (arith, common_steps, new, c.in_ok-insert.ensures.len);
      fresh = λ k le. grind (arith, common_steps, is.fresh k (omega arith), c.in_ok-insert.ensures.updates.0 k);
      text = grind (arith, common_steps);
    }
