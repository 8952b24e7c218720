use Rattle.std.proofs.Common.{ℕ, ◌≡◌, ◌+◌, ◌<◌, add-one, ap, arith}
use Rattle.heap_geometry.specs.declared.limits.TheConstants.{CLASSES}
use Rattle.sound_state.specs.Sums.{sum_below}
use Rattle.worked_programs.specs.Embedded.{live_in}
use Rattle.worked_programs.proofs.embedded.count_live.Goals as goal

pub loop-class-preserved : goal.loop-class-preserved
loop-class-preserved c =
    let counted = c.census-counted.ensures in
    let class = c.loop-class.class in
    let below : class < CLASSES = omega (arith, c.loop-class-test.true) in
    let next : sum_below (class + 1) (live_in c.args.closed.now) ≡ sum_below class (live_in c.args.closed.now) + live_in c.args.closed.now class =
    ap (λ (n : ℕ). sum_below n (live_in c.args.closed.now)) (add-one class) in
    omega (
      arith,
      c.loop-class.invariant,
      (counted.each counted.lists counted.listed class below).live,
      next,
      c.saturating_add-live.ensures,
    )
