use Rattle.std.proofs.Common.{◌-◌, inl, inr, refl, arith}
use Rattle.errand_steps.specs.declared.reply.Progress.TheVariants.{Lost, Cleared}
use Rattle.live_heap.specs.Answers.{reply_of}
use Rattle.live_heap.proofs.CallsCounts.{going-further, going-again, going-ends, going-grows, going-over, further-less, again-short, goes-lost, goes-cleared, never-idle}
use Rattle.live_heap.proofs.CallsAnswers.{step-moment}
use Rattle.live_heap.proofs.heap.Heap.drive.Goals as goal

pub loop-left-init : goal.loop-left-init
loop-left-init g c = record { of = c.requires.1.0; going = c.requires.1.1.0; puts = c.requires.1.1.1 }

pub unreachable-requires : goal.unreachable-requires
unreachable-requires g c =
    let i = c.loop-left.invariant in
    never-idle c.loop-left.pass.errand c.step.new.pass.errand _ _
    (step-moment c.loop-left.pass c.step.new.pass _ _ c.in-Idle.is (c.step.ensures.busy i.going.busy))

pub loop-left-smaller-in-More : goal.loop-left-smaller-in-More
loop-left-smaller-in-More g c =
    let i = c.loop-left.invariant in
    let m = step-moment c.loop-left.pass c.step.new.pass _ _ c.in-More.is (c.step.ensures.busy i.going.busy) in
    omega (arith, further-less c.args.self.now g.start c.args._tries c.loop-left.left c.loop-left.pass c.step.new.pass i.of c.loop-left-test.true i.going m)

pub loop-left-preserved-in-More : goal.loop-left-preserved-in-More
loop-left-preserved-in-More g c =
    let i = c.loop-left.invariant in
    let m = step-moment c.loop-left.pass c.step.new.pass _ _ c.in-More.is (c.step.ensures.busy i.going.busy) in
    record {
      of = c.step.ensures.of;
      puts = c.step.ensures.puts;
      going =
          going-further c.args.self.now g.start c.args._tries c.loop-left.left c.loop-left.pass c.step.new.pass i.of c.loop-left-test.true
          i.going m ((c.step.ensures.busy i.going.busy).accesses, (c.step.ensures.busy i.going.busy).lent);
    }

pub loop-left-smaller-in-Lost : goal.loop-left-smaller-in-Lost
loop-left-smaller-in-Lost g c =
    let i = c.loop-left.invariant in
    let m = step-moment c.loop-left.pass c.step.new.pass _ _ c.in-Lost.is (c.step.ensures.busy i.going.busy) in
    let goes = goes-lost c.loop-left.pass.errand c.step.new.pass.errand _ _ m in
    omega (arith, c.loop-left-test.true, again-short c.args.self.now g.start c.args._tries c.loop-left.left c.loop-left.pass c.step.new.pass i.of c.loop-left-test.true i.going goes)

pub loop-left-preserved-in-Lost : goal.loop-left-preserved-in-Lost
loop-left-preserved-in-Lost g c =
    let i = c.loop-left.invariant in
    let m = step-moment c.loop-left.pass c.step.new.pass _ _ c.in-Lost.is (c.step.ensures.busy i.going.busy) in
    let goes = goes-lost c.loop-left.pass.errand c.step.new.pass.errand _ _ m in
    record {
      of = c.step.ensures.of;
      puts = c.step.ensures.puts;
      going =
          going-again c.args.self.now g.start c.args._tries c.loop-left.left c.loop-left.pass c.step.new.pass i.of c.loop-left-test.true
          i.going Lost (c.loop-left.left - 1) (omega (arith, c.loop-left-test.true)) m ((c.step.ensures.busy i.going.busy).accesses, (c.step.ensures.busy i.going.busy).lent) (inl refl) goes;
    }

pub loop-left-smaller : goal.loop-left-smaller
loop-left-smaller g c =
    let i = c.loop-left.invariant in
    let m = step-moment c.loop-left.pass c.step.new.pass _ _ c.in-Cleared.is (c.step.ensures.busy i.going.busy) in
    let goes = goes-cleared c.loop-left.pass.errand c.step.new.pass.errand _ _ m in
    omega (arith, c.loop-left-test.true, again-short c.args.self.now g.start c.args._tries c.loop-left.left c.loop-left.pass c.step.new.pass i.of c.loop-left-test.true i.going goes)

pub loop-left-preserved : goal.loop-left-preserved
loop-left-preserved g c =
    let i = c.loop-left.invariant in
    let m = step-moment c.loop-left.pass c.step.new.pass _ _ c.in-Cleared.is (c.step.ensures.busy i.going.busy) in
    let goes = goes-cleared c.loop-left.pass.errand c.step.new.pass.errand _ _ m in
    record {
      of = c.step.ensures.of;
      puts = c.step.ensures.puts;
      going =
          going-again c.args.self.now g.start c.args._tries c.loop-left.left c.loop-left.pass c.step.new.pass i.of c.loop-left-test.true
          i.going Cleared (c.loop-left.left - 1) (omega (arith, c.loop-left-test.true)) m ((c.step.ensures.busy i.going.busy).accesses, (c.step.ensures.busy i.going.busy).lent) (inr refl) goes;
    }

pub returns-in-Done : goal.returns-in-Done
returns-in-Done g c =
    let i = c.loop-left.invariant in
    let m = step-moment c.loop-left.pass c.step.new.pass _ _ c.in-Done.is (c.step.ensures.busy i.going.busy) in
    let left = c.loop-left in
    record {
      of = c.step.ensures.of;
      grows = going-grows c.args.self.now g.start c.args._tries left.left left.pass c.step.new.pass i.of c.loop-left-test.true i.going _ m;
      goes =
          going-ends c.args.self.now g.start c.args._tries c.loop-left.left c.loop-left.pass c.step.new.pass i.of c.loop-left-test.true i.going
          (reply_of c.in-Done.ending) m ((c.step.ensures.busy i.going.busy).accesses, (c.step.ensures.busy i.going.busy).lent);
    }

pub returns : goal.returns
returns g c =
    let i = c.loop-left.invariant in
    record {
      of = i.of;
      grows = i.going.grows;
      goes =
          going-over c.args.self.now g.start c.args._tries c.loop-left.left c.loop-left.pass (omega (arith, c.loop-left-test.false)) i.going;
    }
