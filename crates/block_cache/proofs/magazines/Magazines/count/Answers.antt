use Rattle.std.proofs.Common.{ap, sym, arith, length}
use Rattle.block_cache.proofs.MagazineLemmas.{found}
use Rattle.block_cache.proofs.magazines.Magazines.count.Goals as goal

pub returns : goal.returns
returns g c =
    let s = c.args.self.now in
    let here = found g.T.Kept.need_of s.depth c.args.class s.stacks.items c.index.result.now c.requires.class c.requires.ready (sym c.index.ensures) in
    record { count = omega (arith, c.len.ensures, ap length here.stack); within = omega (arith, c.len.ensures, here.is.few) }
