use Rattle.benches.proofs.pieces.in_pages.Goals as goal

pub loop-round-init : goal.loop-round-init
loop-round-init c =
    let h = c.args.heap.now in
    let p = c.args.pass in
    c.in-Ok.ensures.paged h (c.passes_with_nothing_are_settled.ensures.fresh h p c.requires) (c.passes_hold_exactly.ensures.fresh h p c.requires)
