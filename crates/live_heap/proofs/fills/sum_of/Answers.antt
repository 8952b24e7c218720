use Rattle.std.proofs.Common.{ℕ, ◌%◌, ◌^◌, List, take, sym, ap, ◌∙◌, arith}
use Rattle.std.specs.Prelude.{slice_index, sum}
use Rattle.std.proofs.lemmas.List.{take_all, take_more}
use Rattle.sound_laws.proofs.events_lemmas.MadeLemmas.{sum-one}
use Rattle.live_heap.proofs.fills.sum_of.Goals as goal

pub loop-i-preserved : goal.loop-i-preserved
loop-i-preserved c =
    let ws = c.args.words.now in
    let i = c.loop-i.i in
    sum-one (take i ws) c.loop-i.total (slice_index ws i) c.loop-i.invariant ∙ ap (λ (l : List ℕ). sum l % 2 ^ 64) (sym (take_more ws i 0 c.loop-i-test.true))

pub returns : goal.returns
returns c =
    let ws = c.args.words.now in
    c.loop-i.invariant ∙ ap (λ (l : List ℕ). sum l % 2 ^ 64) (take_all c.loop-i.i ws (omega (arith, c.loop-i-test.false)))
