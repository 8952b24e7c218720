use Rattle.std.proofs.Common.{◌≡◌, arith, length, List, refl, ap, ◌∙◌}
use Rattle.balloc_c.specs.declared.kept.Content.TheVariants as content
use Rattle.balloc_c.specs.Slots.{block_at, blocks_of}
use Rattle.balloc_c.specs.declared.table.Slot.{Slot}
use Rattle.balloc_c.proofs.Packing.{grown-packed}
use Rattle.balloc_c.proofs.Slots.{grown, grown-block}
use Rattle.balloc_c.proofs.table.Table.grow.Goals as goal

pub returns-in-Ok-clause-blocks : goal.returns-in-Ok-clause-blocks
returns-in-Ok-clause-blocks c =
    ap blocks_of c.in-Ok.ensures.items ∙ grown c.args.self.now.slots.items (record { content = content.Vacant; age = 0; next = c.args.self.now.spare; after = 0 }) refl

pub returns-in-Ok-clause-same : goal.returns-in-Ok-clause-same
returns-in-Ok-clause-same c other =
    ap (λ (l : List Slot). block_at l other) c.in-Ok.ensures.items
    ∙ grown-block c.args.self.now.slots.items (record { content = content.Vacant; age = 0; next = c.args.self.now.spare; after = 0 }) other refl

pub returns-in-Ok-clause-packed : goal.returns-in-Ok-clause-packed
returns-in-Ok-clause-packed c =
    let t = c.args.self.now in
    let last : c.len-index.result ≡ length t.slots.items = omega (arith, c.len-index.ensures) in
    grown-packed t (record { slots = c.push.new.self; spare = c.len-index.result; resting = t.resting; laid = t.laid }) (record { content = content.Vacant; age = 0; next = t.spare; after = 0 }) c.requires.none
    c.requires.full (omega (arith, last, c.if-index-ge4294967295.false)) refl refl c.in-Ok.ensures.items last
