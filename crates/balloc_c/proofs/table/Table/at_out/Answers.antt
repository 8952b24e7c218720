use Rattle.std.proofs.Common.{refl, ap, ◌∙◌, sym, ◌%◌, ◌^◌}
use Rattle.balloc_c.specs.Kept.{seen}
use Rattle.balloc_c.specs.Slots.{block_at}
use Rattle.balloc_c.proofs.LendingLemmas.{out-slot}
use Rattle.balloc_c.proofs.Numbers.{named-yes}
use Rattle.balloc_c.proofs.table.Table.at_out.Goals as goal

pub room-requires-clause-out : goal.room-requires-clause-out
room-requires-clause-out c =
    out-slot (block_at c.args.self.now.slots.items (c.args.number % 2 ^ 32)) (sym c.is_out.ensures ∙ c.if-not-is_out.false)

pub returns : goal.returns
returns c =
    let t = c.args.self.now in
    let n = c.args.number in
    let aged = c.is_aged.ensures.yes c.if-not-is_aged.false in
    let room = c.in-Some.ensures.room in (
      room.2.0,
      record {
        within = aged.0;
        is = refl;
        here = room.2.1;
        names = named-yes t n aged.1 ∙ ap seen room.2.1;
        small = room.2.2;
        bound = room.0;
        some = room.1;
      },
    )
