use Rattle.std.proofs.lemmas.List.Elements.{All-set}
use Rattle.live_heap.specs.Hands.{IsHand}
use Rattle.heap_scripts.specs.declared.side.Hand.{Hand}
use Rattle.heap_scripts.proofs.side.Side.make.Goals as goal

pub returns : goal.returns
returns c =
    let s = c.args.self.now in
    let P : Hand → Type 0 = λ hand. IsHand s.heap hand.pass hand.blocks.items in
    All-set P s.hands.items c.args.who c.make.new.hand c.make.ensures c.requires
