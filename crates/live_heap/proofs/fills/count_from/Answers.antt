use Rattle.std.proofs.Common.{◌+◌, ◌%◌, ◌^◌, length, arith}
use Rattle.std.proofs.lemmas.List.FromFn.{fill_by_all}
use Rattle.live_heap.proofs.fills.count_from.Goals as goal

pub returns : goal.returns
returns c =
    fill_by_all (λ i. (c.args.from + i) % 2 ^ 64) c.loop-i.words (length c.args.words.now) 0 c.loop-i.auto.words
    (λ k has. c.loop-i.invariant k (omega (arith, has, c.loop-i.auto.words, c.loop-i-test.false)))
