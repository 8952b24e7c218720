use Rattle.std.proofs.Common.{◌≡◌, ◌-◌, List, [], refl, ap, ◌∙◌, subst}
use lib.ListN.{get_elem?}
use mathlib.Core.Option.{some}
use Rattle.plain_words.specs.Places.{numbers}
use Rattle.live_heap.specs.declared.view.Lent.{Lent}
use Rattle.live_heap.specs.Lending.{lent_block}
use Rattle.live_heap.specs.Memory.{all_but}
use Rattle.live_heap.specs.Passes.{view}
use Rattle.live_heap.proofs.Bringing.{came-back}
use Rattle.live_heap.proofs.OutBlocks.{all-but-first}
use Rattle.live_heap.proofs.heap.Heap.put_back.Goals as goal

pub bring-requires-clause-comes : goal.bring-requires-clause-comes
bring-requires-clause-comes g c =
    let p = c.args.pass.now in
    let m = c.args.memory in
    let others = c.requires.taken.0 in
    let block = lent_block m.block.place m.block.need (numbers m.words.places) in
    let left : all_but block.place (view p).lent ≡ others =
    ap (all_but block.place) c.requires.taken.1 ∙ all-but-first block.place block others refl in
    record {
      front = [];
      back = others;
      old = numbers m.words.places;
      is = c.requires.taken.1;
      among = λ n x at. (n, subst (λ (l : List Lent). get_elem? l n ≡ some x) left at);
      leads = λ long. refl;
    }

pub returns : goal.returns
returns g c =
    let h = c.args.self.now in
    let p = c.args.pass.now in
    let m = c.args.memory in
    let block = lent_block m.block.place m.block.need (numbers m.words.places) in
    let q = c.bring.new.pass in
    let e = c.bring.ensures in
    let same : q ≡ record { seat = q.seat; errand = p.errand; out = p.out - 1 } = λ i. record { seat = q.seat; errand = e.errand i; out = e.out i } in
    record {
      block = e.block;
      same = same ∙ came-back h p c.requires.of block (all_but block.place (view p).lent) q.seat e.returned e.seat.0 e.seat.1;
    }
