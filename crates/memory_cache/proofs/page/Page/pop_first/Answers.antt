use Rattle.std.proofs.Common.{◌≡◌, ◌<◌, ◌-◌, ◌∙◌, arith, length, subst, sym, slice_index_or}
use Rattle.std.specs.Prelude.{slice_set}
use Rattle.std.proofs.lemmas.List.{get_or_default, length-set}
use Rattle.memory_cache.specs.declared.page.Slot.{Slot}
use Rattle.memory_cache.specs.Chains.{IsChain}
use Rattle.memory_cache.specs.declared.page.Slot.TheVariants.{Home, Out}
use Rattle.memory_cache.proofs.ChainLemmas.{home-within, popped}
use Rattle.memory_cache.proofs.page.Page.pop_first.Goals as goal

pub invariant_of-self-clause-few : goal.invariant_of-self-clause-few
invariant_of-self-clause-few c =
    let p = c.args.self.now in
    let same = length-set p.slots.items p.head c.replace.new.dest in
    omega (arith, same, p.few)

pub invariant_of-self-clause-chained : goal.invariant_of-self-clause-chained
invariant_of-self-clause-chained c =
    let p = c.args.self.now in
    let within : p.head < length p.slots.items = home-within p.slots.items p.head c.requires.home in
    let at : slice_index_or p.slots.items p.head Out ≡ Home c.in-Home.words c.in-Home.next =
    get_or_default p.slots.items p.head Out c.index_mut.result.now within ∙ sym c.index_mut.ensures.value ∙ sym c.replace.ensures.value ∙ c.in-Home.is in
    subst (λ (slot : Slot). ∥ IsChain (p.home - 1) c.in-Home.next (slice_set p.slots.items p.head slot) ∥₁) (sym c.replace.ensures.after)
    (popped p.home p.head p.slots.items p.chained c.in-Home.words c.in-Home.next at)
