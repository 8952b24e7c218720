use Rattle.balloc_malloc.specs.Bundles.{bundled}
use Rattle.balloc_malloc.proofs.Calling.{empties_by}
use Rattle.balloc_malloc.proofs.calls.empty.Goals as goal

pub returns-in-Some : goal.returns-in-Some
returns-in-Some c =
    empties_by c.args.seat.now.held.tenant c.in-Some.tenant.now c.empty.new.self (bundled c.args.bundle.now) (bundled c.empty.new.bundle) c.in-Some.ensures.value c.empty.ensures
