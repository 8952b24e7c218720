use Rattle.std.proofs.Common.{◌+◌, sym, subst, arith}
use Rattle.plain_words.specs.Places.{IsLaid}
use Rattle.live_heap.proofs.ClosedPieces.{final-home, final-mark}
use Rattle.live_heap.proofs.heap.all_at_home.Goals as goal

pub word-requires : goal.word-requires
word-requires g c =
    let g = c.args.layout.now in
    let ps = c.args.closed.now.plain.places in
    subst (λ n. IsLaid ps (n + c.loop-mark.mark)) (sym c.count-marks.ensures)
    (final-mark g ps c.loop-mark.mark c.requires (omega (arith, c.mark_count-mark-end.ensures, c.loop-mark-test.true)))

pub returns-clause-home : goal.returns-clause-home
returns-clause-home g c asked =
    final-home c.args.layout.now c.args.closed.now.plain.places c.requires
    (λ k has. c.loop-mark.invariant k (omega (arith, c.mark_count-mark-end.ensures, has, c.loop-mark-test.false)))
