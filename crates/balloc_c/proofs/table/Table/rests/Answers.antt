use Rattle.std.proofs.Common.{ℕ, ◌≡◌, ◌%◌, ◌^◌, sym, ap, ◌∙◌}
use Rattle.live_heap.specs.declared.block.Block.{Block}
use Rattle.balloc_c.specs.declared.kept.Kept.TheVariants as kept
use Rattle.balloc_c.specs.Kept.{kept_in}
use Rattle.balloc_c.specs.Laid.{slot_of}
use Rattle.balloc_c.specs.Numbers.{number_at}
use Rattle.balloc_c.specs.Slots.{block_at}
use Rattle.balloc_c.proofs.LendingLemmas.{same-resting}
use Rattle.balloc_c.proofs.Tending.{within-of}
use Rattle.balloc_c.proofs.table.Table.rests.Goals as goal

pub returns-then-not-is_aged-clause-no : goal.returns-then-not-is_aged-clause-no
returns-then-not-is_aged-clause-no c told block ready =
    let t = c.args.self.now in
    let at : c.args.index ≡ slot_of t.resting c.args.class = c.requires.at ∙ ap (λ (n : ℕ). n % 2 ^ 32) c.requires.first in
    let first : number_at t c.args.index ≡ c.args.first = ap (number_at t) at ∙ ready.number ∙ sym c.requires.first in
    let there = ap (block_at t.slots.items) at ∙ ready.there in
    c.is_aged.ensures.no c.if-not-is_aged.true (within-of t.slots.items c.args.index (kept.Resting block) there) first

pub returns-clause-yes : goal.returns-clause-yes
returns-clause-yes c told =
    let t = c.args.self.now in
    let at : c.args.index ≡ slot_of t.resting c.args.class = c.requires.at ∙ ap (λ (n : ℕ). n % 2 ^ 32) c.requires.first in (
      c.in-Resting.block,
      record {
        serves = sym c.need.ensures ∙ c.is_small.ensures.yes told;
        there = ap (block_at t.slots.items) (sym at) ∙ sym c.content.ensures ∙ ap kept_in c.in-Resting.is;
        number = ap (number_at t) (sym at) ∙ (c.is_aged.ensures.yes c.if-not-is_aged.false).1 ∙ c.requires.first;
      },
    )

pub returns-clause-no : goal.returns-clause-no
returns-clause-no c told block ready =
    let t = c.args.self.now in
    let at : c.args.index ≡ slot_of t.resting c.args.class = c.requires.at ∙ ap (λ (n : ℕ). n % 2 ^ 32) c.requires.first in
    let there = ap (block_at t.slots.items) at ∙ ready.there in
    let read = sym c.content.ensures ∙ ap kept_in c.in-Resting.is in
    let same : block ≡ c.in-Resting.block = same-resting block c.in-Resting.block (sym there ∙ read) in
    c.is_small.ensures.no told (c.need.ensures ∙ ap (λ (m : Block). m.need) (sym same) ∙ ready.serves)
