use Rattle.std.proofs.Common.{ℕ, suc, ◌≡◌, ◌++◌, ◌∷◌, [], None, length, sym, ap, ◌∙◌, subst, arith, length-append}
use Rattle.std.specs.Prelude.{option_to_list}
use Rattle.live_heap.specs.declared.pass.Pass.{Pass}
use Rattle.live_heap.specs.Passes.{AreFrom, IsFresh}
use Rattle.block_pipe.specs.declared.sender.Sender.{Sender}
use Rattle.block_pipe.specs.Ends.{AreNewFrom, IsSender, pushed_by}
use Rattle.pipe_runner.specs.Senders.{AreSending}
use Rattle.pipe_runner.proofs.PairLemmas.{from-pop, new-pop, new-sending, push-long, sending-push}
use Rattle.pipe_runner.proofs.closing.pair_senders.Goals as goal

pub loop-end-preserved : goal.loop-end-preserved
loop-end-preserved g c =
    let passed = g.G.Gate.passed c.args._gate.now in
    let h = c.args._heap.now in
    let pipe = c.args._pipe.now in
    let start = c.args._start in
    let i = c.loop-end.invariant in
    let s = c.in-Some.end in
    let rest = c.pop.new.self.items in
    let p = c.unwrap-pass.result in
    let others = c.pop-in-Some.new.self.items in
    let last : c.loop-end.ends.items ≡ rest ++ s ∷ [] = c.in-Some.ensures.items in
    let pass_last : c.loop-end.passes.items ≡ others ++ p ∷ [] = c.pop-in-Some.ensures.items ∙ ap (λ o. others ++ option_to_list o) c.unwrap-pass.ensures in
    let (ends, is, number, pushed, pending) = new-pop pipe 0 rest s (subst (AreNewFrom pipe 0) last i.ends) in
    let (passes, fresh, caller) = from-pop h 0 others p (subst (AreFrom h 0) pass_last i.passes) in
    let long = push-long c.loop-end.ends.items rest s last in
    let pass_long = push-long c.loop-end.passes.items others p pass_last in
    let as_many : length others ≡ length rest = omega (arith, i.as_many, long, pass_long) in
    let w = c.of.result in
    let (pass_is, end_is) = c.of.ensures in
    let here : s.number ≡ length rest = number ∙ omega arith in
    let pass_here : p.errand.caller ≡ length rest = caller ∙ omega (arith, as_many) in
    let sends = subst (λ (e : Sender). IsSender pipe e × (e.number ≡ length rest) × (pushed_by e ≡ []) × (e.pending ≡ None)) (sym end_is)
    (is, here, pushed, pending) in
    let is_fresh = subst (λ (q : Pass). IsFresh h q × (q.errand.caller ≡ length rest)) (sym pass_is) (fresh, pass_here) in
    let one = new-sending passed h pipe start w (length rest) c.requires.shelves sends is_fresh in
    let number_is : w.end.number ≡ length rest = ap (λ (e : Sender). e.number) end_is ∙ here in
    let threads = c.loop-end.threads.items in
    let next : length c.loop-end.ends.items ≡ suc (length rest) = omega (arith, long) in
    let before : AreSending passed h pipe start 0 (suc (length rest)) threads =
    subst (λ (n : ℕ). AreSending passed h pipe start 0 n threads) next i.threads in
    record {
      ends = ends;
      passes = passes;
      as_many = as_many;
      threads = subst (AreSending passed h pipe start 0 (length rest)) (sym c.push_reserved.ensures.items)
          (sending-push passed h pipe start 0 (length rest) threads w before one number_is);
      all = omega (arith, i.all, long, ap length c.push_reserved.ensures.items, length-append threads (w ∷ []));
      room = c.push_reserved.ensures.capacity ∙ i.room;
    }
