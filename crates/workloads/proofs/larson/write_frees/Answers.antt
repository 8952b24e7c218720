use Rattle.std.proofs.Common.{sym, ◌∙◌}
use Rattle.std.proofs.lemmas.List.{append-nil}
use Rattle.workloads.specs.Held.{frees_below}
use Rattle.workloads.proofs.HeldLemmas.{frees-more, frees-none}
use Rattle.workloads.proofs.larson.write_frees.Goals as goal
use Rattle.workloads.proofs.larson.write_frees.Goals.{then-held-r+in_ok-push, else-held-r}

pub loop-r-init : goal.loop-r-init
unfolding frees_below
loop-r-init c = simp append-nil

pub loop-r-preserved : goal.loop-r-preserved
loop-r-preserved c =
    elim c.if-held-r.branch [
      | then-held-r+in_ok-push w ↦
          rw (w.ops-is, w.in_ok-push.ensures.items)
          (frees-more c.loop-r.r c.args.ops.now.items c.loop-r.ops.items (sym (c.requires c.loop-r.r c.loop-r-test.true) ∙ w.if-held-r.true) c.loop-r.invariant)
      | else-held-r w ↦
          rw w.ops-is
          (frees-none c.loop-r.r c.args.ops.now.items c.loop-r.ops.items (sym (c.requires c.loop-r.r c.loop-r-test.true) ∙ w.if-held-r.false) c.loop-r.invariant)
    ]
