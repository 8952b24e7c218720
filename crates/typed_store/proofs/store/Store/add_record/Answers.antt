use Rattle.std.proofs.Common.{List, sym, subst}
use Rattle.std.specs.List.{AllZip}
use Rattle.live_heap.specs.declared.block.Block.{Block}
use Rattle.typed_store.specs.Records.{IsRecord}
use Rattle.typed_store.proofs.store.Store.add_record.Goals as goal

pub returns-clause-records : goal.returns-clause-records
returns-clause-records c = λ records has.
    let s = c.args.self.now in
    c.ask_for_record.ensures.records records
    (subst (λ (l : List Block). AllZip (λ block words. IsRecord s.pass block words) l records) (sym c.in_ok-reserve.ensures.items) has.0, has.1)
