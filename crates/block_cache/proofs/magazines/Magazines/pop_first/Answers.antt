use Rattle.std.proofs.Common.{◌≡◌, [], ◌∙◌, ap, sym, subst, arith, length}
use Rattle.block_cache.specs.declared.magazines.Magazines.{Magazines}
use Rattle.block_cache.specs.Magazines.{leaving, stacks_of}
use Rattle.block_cache.proofs.MagazineLemmas.{first-leaves, length-stacks, none-leaves}
use Rattle.block_cache.proofs.magazines.Magazines.pop_first.Goals as goal

pub returns-then-count-gt0-clause-first : goal.returns-then-count-gt0-clause-first
returns-then-count-gt0-clause-first g c =
    let i = c.loop-class.invariant in
    ap (λ (m : Magazines g.row.T.Denot). leaving (stacks_of m.stacks.items)) (sym i.same)
    ∙ first-leaves c.loop-class.class c.pop.result (stacks_of c.loop-class.self.stacks.items) (stacks_of c.pop.new.self.stacks.items) c.pop.ensures.top i.empty

pub returns-clause-none : goal.returns-clause-none
returns-clause-none g c none =
    let i = c.loop-class.invariant in
    let m = c.loop-class.self in
    let long : length (stacks_of m.stacks.items) ≡ length c.args.self.now.stacks.items =
    length-stacks m.stacks.items ∙ ap (λ (x : Magazines g.row.T.Denot). length x.stacks.items) i.same in
    let empty : leaving (stacks_of m.stacks.items) ≡ [] =
    none-leaves (stacks_of m.stacks.items)
    (λ k within. i.empty k (omega (arith, within, long, c.requires.ready.classes, c.loop-class-test.false))) in
    (subst (λ (x : Magazines g.row.T.Denot). leaving (stacks_of x.stacks.items) ≡ []) i.same empty, i.same)
