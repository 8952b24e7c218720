use Rattle.std.proofs.Common.{ℕ, ◌≡◌, ◌+◌, ◌++◌, List, [], length, refl, sym, ap, subst}
use Rattle.std.specs.Prelude.{All}
use Rattle.std.proofs.lemmas.List.Elements.{All-nil}
use Rattle.heap_geometry.specs.Need.{need_of}
use Rattle.live_heap.specs.declared.block.Block.{Block}
use Rattle.live_heap.specs.Holdings.{HoldsExactly}
use Rattle.typed_store.specs.declared.slot.Slot.{Slot}
use Rattle.std.specs.List.{AllZip}
use Rattle.typed_store.specs.Records.{IsRecord}
use Rattle.typed_store.specs.Nodes.{IsSpare, tokens_in}
use Rattle.typed_store.proofs.store.Store.open.Goals as goal

pub returns-clause-ready : goal.returns-clause-ready
returns-clause-ready c = λ heap of.
    let slots : c.new.result.items ≡ [] = c.new.ensures.items in
    let records : c.new-2.result.items ≡ [] = c.new-2.ensures.items in
    record {
      of = of;
      idle = c.requires.idle;
      exactly =
          subst (λ (l : List Slot). HoldsExactly c.args.pass (tokens_in l ++ c.new-2.result.items)) (sym slots)
          (subst (HoldsExactly c.args.pass) (sym records) c.requires.none);
      built = record {
        pairs = [];
        list = (refl, refl);
        nodes = ap (λ (l : List Slot). length (tokens_in l)) slots;
        words = [];
        records = (subst (λ (l : List Block). AllZip (λ block words. IsRecord c.args.pass block words) l []) (sym records) tt, refl);
        sized = (
          subst (λ (l : List Slot). All (λ (x : Block). x.need ≡ need_of 3) (tokens_in l)) (sym slots) (All-nil (λ (x : Block). x.need ≡ need_of 3)),
          subst (λ (l : List Block). AllZip (λ (x : Block) (words : List ℕ). x.need ≡ need_of (length words + 1)) l []) (sym records) tt,
        );
        spare = subst (λ (l : List Slot). IsSpare l 0) (sym slots) ([], refl, refl);
      };
    }
