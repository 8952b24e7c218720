use Rattle.std.proofs.Common.{ℕ, ◌≡◌, Some, List, sym, ap, ◌∙◌, subst}
use Rattle.balloc_c.specs.declared.kept.Kept.TheVariants as kept
use Rattle.balloc_c.specs.declared.table.Slot.{Slot}
use Rattle.balloc_c.specs.Numbers.{NamesOneMore}
use Rattle.balloc_c.specs.Slots.{set_block}
use Rattle.balloc_c.proofs.Numbers.{gains-set}
use Rattle.balloc_c.proofs.Packing.{filled-packed}
use Rattle.balloc_c.proofs.table.Table.fill.Goals as goal

pub returns-clause-gains : goal.returns-clause-gains
returns-clause-gains c =
    let t = c.args.self.now in
    let u = c.set.new.self in
    let slots : u.slots.items ≡ set_block t.slots.items c.args.index (Some (kept.Home c.args.block)) =
    c.set.ensures.slots ∙ ap (λ (l : List Slot). set_block l c.args.index (Some (kept.Home c.args.block))) c.unspare.ensures.slots in
    subst (λ (n : ℕ). NamesOneMore t n (kept.Home c.args.block) u) (sym c.number.ensures)
    (gains-set t u c.args.index c.args.block c.requires.small c.requires.vacant slots)

pub returns-clause-packed : goal.returns-clause-packed
returns-clause-packed c =
    let t = c.args.self.now in
    let u = c.set.new.self in
    let slots : u.slots.items ≡ set_block t.slots.items c.args.index (Some (kept.Home c.args.block)) =
    c.set.ensures.slots ∙ ap (λ (l : List Slot). set_block l c.args.index (Some (kept.Home c.args.block))) c.unspare.ensures.slots in
    filled-packed t u c.args.index (kept.Home c.args.block) c.requires.packed c.requires.spare c.requires.vacant slots (c.set.ensures.spare ∙ c.unspare.ensures.spare)
