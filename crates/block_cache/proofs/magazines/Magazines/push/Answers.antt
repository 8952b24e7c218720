use Rattle.std.proofs.Common.{◌<◌, arith, length, refl, sym, subst}
use Rattle.block_cache.specs.Magazines.{stacks_of}
use Rattle.block_cache.proofs.MagazineLemmas.{found, pushed, top-splits}
use Rattle.block_cache.proofs.magazines.Magazines.push.Goals as goal

pub push_reserved-requires : goal.push_reserved-requires
push_reserved-requires g c =
    let s = c.args.self.now in
    let here = found g.T.Kept.need_of s.depth c.args.class s.stacks.items c.index_mut.result.now c.requires.class c.requires.ready (sym c.index_mut.ensures.value) in
    omega (arith, subst (λ xs. length xs < s.depth) here.stack c.requires.room, here.is.room)

pub returns : goal.returns
returns g c =
    let s = c.args.self.now in
    let m = c.index_mut.result.now in
    let x = c.push_reserved.ensures in
    let here = found g.T.Kept.need_of s.depth c.args.class s.stacks.items m c.requires.class c.requires.ready (sym c.index_mut.ensures.value) in
    let p =
    pushed g.T.Kept.need_of s.depth c.args.class s.stacks.items m c.push_reserved.new.self c.args.kept c.requires.class c.requires.ready
    (sym c.index_mut.ensures.value) x.items x.capacity c.requires.need (subst (λ xs. length xs < s.depth) here.stack c.requires.room) in
    record { ready = p.0; depth = refl; top = p.1; splits = top-splits c.args.class c.args.kept _ (stacks_of s.stacks.items) p.1 }
