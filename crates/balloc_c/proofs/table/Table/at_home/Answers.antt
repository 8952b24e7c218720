use Rattle.std.proofs.Common.{refl, ap, ◌∙◌}
use Rattle.balloc_c.specs.Kept.{seen}
use Rattle.balloc_c.proofs.Numbers.{named-yes}
use Rattle.balloc_c.proofs.table.Table.at_home.Goals as goal

pub returns : goal.returns
returns c =
    let t = c.args.self.now in
    let n = c.args.number in
    let aged = c.is_aged.ensures.yes c.if-not-is_aged.false in
    let room = c.in-Some.ensures.room in (
      room.2.0,
      record {
        within = aged.0;
        is = refl;
        here = room.2.1;
        names = named-yes t n aged.1 ∙ ap seen room.2.1;
        small = room.2.2;
        bound = room.0;
        some = room.1;
      },
    )
