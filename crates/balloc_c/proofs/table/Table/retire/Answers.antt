use Rattle.std.proofs.Common.{◌+◌, ◌%◌, ◌^◌, refl}
use Rattle.balloc_c.specs.declared.table.Slot.{Slot}
use Rattle.balloc_c.proofs.Slots.{aged-set}
use Rattle.balloc_c.proofs.Packing.{linked-set}
use Rattle.balloc_c.proofs.table.Table.retire.Goals as goal

pub returns-clause-aged : goal.returns-clause-aged
returns-clause-aged c =
    let old : Slot = c.index_mut-slot.result.now in
    let new : Slot = record old { age = (old.age + 1) % 2 ^ 32; next = c.args.self.now.spare } in
    aged-set c.args.self.now.slots.items c.args.index new old c.requires.within c.index_mut-slot.ensures.value refl refl

pub returns-clause-linked : goal.returns-clause-linked
returns-clause-linked c =
    let old : Slot = c.index_mut-slot.result.now in
    let new : Slot = record old { age = (old.age + 1) % 2 ^ 32; next = c.args.self.now.spare } in
    linked-set c.args.self.now _ c.args.index new c.requires.within refl refl refl
