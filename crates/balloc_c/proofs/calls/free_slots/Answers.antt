use Rattle.std.proofs.Common.{arith, ◌<◌, length, ap, ◌∙◌}
use Rattle.balloc_c.specs.Kept.{is_out}
use Rattle.balloc_c.proofs.LeaveLemmas.{empty-next, freed-table, frees-on, home-at, rest-next, stops-table}
use Rattle.balloc_c.proofs.calls.free_slots.Goals as goal

pub returns-in-Busy-clause-freed : goal.returns-in-Busy-clause-freed
returns-in-Busy-clause-freed c =
    let i = c.loop-index.invariant in
    let t = c.args.table.now in
    let slots = c.loop-index.table.slots.items in
    let within : c.loop-index.index < length t.slots.items = omega (arith, c.loop-index-test.true, c.len-index-end.ensures) in
    let here : c.loop-index.index < length slots = omega (arith, within, i.count) in
    stops-table c.args.cache.now c.loop-index.cache c.free_slot.new.cache t c.free_slot.new.table slots c.loop-index.index c.free_slot.result within
    here (c.free_slot.ensures.count ∙ i.count) i.empty i.rest c.free_slot.ensures.same i.freed c.free_slot.ensures.freed c.in-Busy.is

pub loop-index-preserved : goal.loop-index-preserved
loop-index-preserved c =
    let i = c.loop-index.invariant in
    let before = c.args.table.now.slots.items in
    let slots = c.loop-index.table.slots.items in
    let after = c.free_slot.new.table.slots.items in
    let within : c.loop-index.index < length before = omega (arith, c.loop-index-test.true, c.len-index-end.ensures) in
    let here : c.loop-index.index < length slots = omega (arith, within, i.count) in
    record {
      tends = c.free_slot.ensures.tends;
      packed = c.free_slot.ensures.packed;
      idle = c.free_slot.ensures.idle c.in-Freed.is;
      count = c.free_slot.ensures.count ∙ i.count;
      empty = empty-next before slots after c.loop-index.index here c.free_slot.ensures.same i.empty;
      rest = rest-next before slots after c.loop-index.index c.free_slot.ensures.same i.rest;
      freed = frees-on c.args.cache.now c.loop-index.cache c.free_slot.new.cache before slots c.loop-index.index c.free_slot.result within i.rest i.freed
          c.free_slot.ensures.freed c.in-Freed.is;
    }

pub returns-clause-freed : goal.returns-clause-freed
returns-clause-freed c =
    let i = c.loop-index.invariant in
    freed-table c.args.cache.now c.loop-index.cache c.args.table.now c.loop-index.table c.loop-index.index
    (omega (arith, c.loop-index-test.false, c.len-index-end.ensures)) i.count i.empty i.rest i.freed

pub free_slot-requires-clause-home : goal.free_slot-requires-clause-home
free_slot-requires-clause-home c =
    ap is_out (c.loop-index.invariant.rest c.loop-index.index (omega arith)) ∙ home-at c.args.table.now.slots.items c.loop-index.index c.requires.home
