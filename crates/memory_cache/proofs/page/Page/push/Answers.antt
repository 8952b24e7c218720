use Rattle.std.proofs.Common.{arith, refl}
use Rattle.std.proofs.lemmas.List.{length-set}
use Rattle.memory_cache.specs.declared.page.Slot.TheVariants.{Home}
use Rattle.memory_cache.proofs.ChainLemmas.{fewer-home, pushed}
use Rattle.memory_cache.proofs.page.Page.push.Goals as goal

pub overflow_add-self : goal.overflow_add-self
overflow_add-self c =
    let p = c.args.self.now in
    let o = c.requires.out in
    let less = fewer-home p.home p.head p.slots.items p.chained c.args.number o.within o.out in
    omega (arith, less, p.few)

pub invariant_of-self-clause-few : goal.invariant_of-self-clause-few
invariant_of-self-clause-few c =
    let p = c.args.self.now in
    let same = length-set p.slots.items c.args.number (Home c.args.piece.words p.head) in
    omega (arith, same, p.few)

pub invariant_of-self-clause-chained : goal.invariant_of-self-clause-chained
invariant_of-self-clause-chained c =
    let p = c.args.self.now in
    let o = c.requires.out in
    pushed p.home p.head p.slots.items p.chained c.args.number c.args.piece.words o.within o.out

pub returns : goal.returns
returns c =
    let o = c.requires.out in
    record {
      number = c.args.number;
      next = c.args.self.now.head;
      within = o.within;
      out = o.out;
      first = o.there;
      same = record { place = refl; need = refl; size = refl; slots = refl; rest = refl };
    }
