use Rattle.std.proofs.Common.{ℕ, suc, ◌≡◌, ◌+◌, ◌++◌, ◌∷◌, [], length, rules, sym, ap, ◌∙◌, subst, subst₂, arith, length-append, vec_len}
use Rattle.pipe_runner.specs.Runs.{AreDone, HasDone}
use Rattle.pipe_runner.specs.Senders.{AreSending}
use Rattle.pipe_runner.proofs.PairLemmas.{done-as-many, done-push, push-long, sending-done-by, sending-pop}
use Rattle.pipe_runner.proofs.closing.take_apart.Goals as goal

pub push_reserved-requires-in-Some : goal.push_reserved-requires-in-Some
push_reserved-requires-in-Some g c =
    let i = c.loop-thread.invariant in
    let ends = c.loop-thread.ends in
    let many = done-as-many (g.G.Gate.passed c.args._gate.now) c.args._heap.now c.args._pipe.now c.args._start c.args._messages 0 c.loop-thread.passes.items ends.items i.done in
    let long = push-long c.loop-thread.threads.items c.pop.new.self.items c.in-Some.thread c.in-Some.ensures.items in
    let len : length ends.items ≡ vec_len ends = search rules in
    omega (arith, many, long, len, i.all, i.room_too, c.requires.ends.1)

pub loop-thread-preserved : goal.loop-thread-preserved
loop-thread-preserved g c =
    let passed = g.G.Gate.passed c.args._gate.now in
    let h = c.args._heap.now in
    let pipe = c.args._pipe.now in
    let start = c.args._start in
    let count = c.args._messages in
    let i = c.loop-thread.invariant in
    let threads = c.loop-thread.threads.items in
    let rest = c.pop.new.self.items in
    let w = c.in-Some.thread in
    let passes = c.loop-thread.passes.items in
    let ends = c.loop-thread.ends.items in
    let last : threads ≡ rest ++ w ∷ [] = c.in-Some.ensures.items in
    let (left, is, here) = sending-pop passed h pipe start count (length passes) rest w (subst (AreSending passed h pipe start count (length passes)) last i.left) in
    let now = c.push_reserved.ensures.items in
    let now_too = c.push_reserved-in-Some.ensures.items in
    let long : length c.push_reserved.new.self.items ≡ length passes + 1 = ap length now ∙ length-append passes (w.pass ∷ []) in
    let next : suc (length passes) ≡ length c.push_reserved.new.self.items = omega (arith, long) in
    let number : w.end.number ≡ 0 + length passes = here ∙ omega arith in
    let one : HasDone passed h pipe start count (0 + length passes) w.pass w.end =
    sending-done-by passed h pipe start count (0 + length passes) w is number in
    record {
      left = subst (λ (n : ℕ). AreSending passed h pipe start count n rest) next left;
      all = omega (arith, i.all, push-long threads rest w last, long);
      done = subst₂ (AreDone passed h pipe start count 0) (sym now) (sym now_too) (done-push passed h pipe start count 0 passes ends w.pass w.end i.done one);
      room = c.push_reserved.ensures.capacity ∙ i.room;
      room_too = c.push_reserved-in-Some.ensures.capacity ∙ i.room_too;
    }
