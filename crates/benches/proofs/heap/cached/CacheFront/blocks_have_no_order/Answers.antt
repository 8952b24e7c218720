use Rattle.benches.proofs.heap.cached.CacheFront.blocks_have_no_order.Goals as goal

pub returns : goal.returns
returns c = λ front before after block. c.caches_account_for_all_blocks.ensures.order front before after block
