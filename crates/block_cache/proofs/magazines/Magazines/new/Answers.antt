use Rattle.std.proofs.Common.{◌≡◌, List, [], Vec, ap, sym, ◌∙◌, subst, arith}
use Rattle.std.specs.Prelude.{All}
use Rattle.std.specs.declared.alloc.Global.{Global}
use Rattle.std.proofs.lemmas.List.Elements.{All-nil}
use Rattle.heap_geometry.specs.declared.need.Need.TheVariants.{Small}
use Rattle.block_cache.specs.Magazines.{AreMagazines, IsMagazine, all_in, stacks_of}
use Rattle.block_cache.proofs.MagazineLemmas.{empty-more, magazines-more}
use Rattle.block_cache.proofs.magazines.Magazines.new.Goals as goal

pub loop-class-preserved : goal.loop-class-preserved
loop-class-preserved g c =
    let i = c.loop-class.invariant in
    let m = c.in_ok-with_capacity.field-0 in
    let none : m.items ≡ [] = c.in_ok-with_capacity.ensures.items in
    let magazine : IsMagazine g.T.Kept.need_of c.loop-class._class c.args.depth m = record {
      few = rw none (omega arith);
      room = omega (arith, c.in_ok-with_capacity.ensures.exact);
      each = subst (λ xs. All (λ a. g.T.Kept.need_of a ≡ Small c.loop-class._class) xs) (sym none) (All-nil _);
    } in
    record {
      len = omega (arith, i.len, c.push_reserved.ensures.len);
      room = c.push_reserved.ensures.capacity ∙ i.room;
      each =
          subst (AreMagazines g.T.Kept.need_of 0 c.args.depth) (sym {A = List (Vec g.row.T.Denot Global)} c.push_reserved.ensures.items)
          (magazines-more g.T.Kept.need_of 0 c.args.depth c.loop-class._class c.loop-class.stacks.items m (omega (arith, i.len)) i.each magazine);
      empty = ap (λ xs. all_in (stacks_of xs)) c.push_reserved.ensures.items ∙ empty-more c.loop-class.stacks.items m i.empty none;
    }
