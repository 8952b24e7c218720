use Rattle.std.proofs.Common.{refl, sym}
use Rattle.block_cache.specs.Magazines.{stacks_of}
use Rattle.block_cache.proofs.MagazineLemmas.{popped, top-splits}
use Rattle.block_cache.proofs.magazines.Magazines.pop.Goals as goal

pub returns : goal.returns
returns g c =
    let s = c.args.self.now in
    let m = c.pop.new.self in
    let p =
    popped g.T.Kept.need_of s.depth c.args.class s.stacks.items c.index_mut.result.now m c.in-Some.kept c.requires.class c.requires.ready
    (sym c.index_mut.ensures.value) c.in-Some.ensures.items c.in-Some.ensures.capacity in
    record { ready = p.0; depth = refl; need = p.1; top = p.2; splits = top-splits c.args.class c.in-Some.kept (stacks_of s.stacks.items) _ p.2 }
