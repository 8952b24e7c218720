use Rattle.std.proofs.Common.{arith, refl}
use Rattle.balloc_c.proofs.Numbers.{keeps}
use Rattle.balloc_c.proofs.Packing.{spare-full, spare-vacant}
use Rattle.balloc_c.proofs.table.Table.vacant.Goals as goal

pub grow-requires-clause-full : goal.grow-requires-clause-full
grow-requires-clause-full c = spare-full c.args.self.now c.requires.packed c.if-self.true

pub returns-clause-vacant : goal.returns-clause-vacant
returns-clause-vacant c =
    let vacant = spare-vacant c.args.self.now c.requires.packed c.if-self.false in
    let low = vacant.0 in
    (vacant, omega (arith, low, c.requires.packed.few))

pub returns-clause-ready : goal.returns-clause-ready
returns-clause-ready c =
    let t = c.args.self.now in
    record {
      keeps = keeps t t (λ slot. refl) (λ slot. refl);
      spare = spare-vacant t c.requires.packed c.if-self.false;
      same = λ before. refl;
    }
