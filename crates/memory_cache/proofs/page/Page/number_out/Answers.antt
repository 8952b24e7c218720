use Rattle.std.proofs.Common.{◌≡◌, ◌∙◌, ap, arith, slice_index_or, sym}
use Rattle.memory_cache.specs.declared.page.Slot.TheVariants.{Out}
use Rattle.memory_cache.specs.Pages.{slot_at}
use Rattle.memory_cache.proofs.PageLemmas.{home-in}
use Rattle.memory_cache.proofs.page.Page.number_out.Goals as goal

pub returns-in-Home-clause-none : goal.returns-in-Home-clause-none
returns-in-Home-clause-none c = λ none out.
    let p = c.args.self.now in
    let slot = c.in-Home in
    let number = c.pieces_in-number.result in
    let same : number ≡ out.number =
    c.pieces_in-number.ensures.whole out.number out.some (omega (arith, out.there, c.first_of-start.ensures)) in
    let read : c.in_ok-get.field-0.now ≡ slice_index_or c.deref.result.now number Out = c.in_ok-get.ensures.lookup.4 (omega arith) Out in
    let there : slice_index_or c.deref.result.now number Out ≡ slot_at p out.number =
    ap (λ xs. slice_index_or xs number Out) c.deref.ensures.value ∙ ap (slot_at p) same in
    absurd (home-in slot.field-0 slot.field-1 (sym slot.is ∙ read ∙ there ∙ out.out))
