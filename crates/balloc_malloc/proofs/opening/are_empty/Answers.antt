use Rattle.std.proofs.Common.{sym, ◌∙◌}
use Rattle.balloc_malloc.proofs.SeatLemmas.{all-empty, not-empty, one-more-empty}
use Rattle.balloc_malloc.proofs.opening.are_empty.Goals as goal

pub returns-then-live-clause-no : goal.returns-then-live-clause-no
returns-then-live-clause-no c = λ is.
    not-empty c.args.seats.now c.loop-seat.seat-index c.seat-item.result c.loop-seat-test.true c.seat-item.is (sym c.live.ensures ∙ c.if-live.true)

pub loop-seat-preserved : goal.loop-seat-preserved
loop-seat-preserved c =
    one-more-empty c.args.seats.now c.loop-seat.seat-index c.seat-item.result c.loop-seat-test.true c.seat-item.is
    (sym c.live.ensures ∙ c.if-live.false) c.loop-seat.invariant

pub returns-clause-yes : goal.returns-clause-yes
returns-clause-yes c = λ is. all-empty c.args.seats.now c.loop-seat.seat-index c.loop-seat.invariant c.loop-seat-test.false
