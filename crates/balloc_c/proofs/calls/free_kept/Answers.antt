use Rattle.std.proofs.Common.{◌≡◌, Option, Some, false, length, sym, ap, ◌∙◌, subst, length-set}
use Rattle.live_heap.specs.declared.block.Block.{Block}
use Rattle.block_cache.specs.Caches.{HoldsBlock}
use Rattle.balloc_c.specs.declared.kept.Kept.{Kept}
use Rattle.balloc_c.specs.Closed.{FreesSlot}
use Rattle.balloc_c.specs.Kept.{block_of, is_laid, is_out}
use Rattle.balloc_c.specs.Slots.{block_at}
use Rattle.balloc_c.specs.Tended.{Stands}
use Rattle.balloc_c.specs.Through.{IsFree}
use Rattle.balloc_c.proofs.Going.{free-goes}
use Rattle.balloc_c.proofs.LeaveLemmas.{freed-idle, frees-home, home-stands}
use Rattle.balloc_c.proofs.Packing.{gone-packed}
use Rattle.balloc_c.proofs.Tending.{gone-tends, held-of}
use Rattle.balloc_c.proofs.calls.free_kept.Goals as goal

pub into_home-requires-clause-out : goal.into_home-requires-clause-out
into_home-requires-clause-out c = ap is_out (sym c.in-Some.is ∙ c.set.ensures.value) ∙ c.requires.home

pub into_home-requires-clause-laid : goal.into_home-requires-clause-laid
into_home-requires-clause-laid c = ap is_laid (sym c.in-Some.is ∙ c.set.ensures.value) ∙ c.requires.not_laid

pub free-requires-clause-held : goal.free-requires-clause-held
free-requires-clause-held c =
    let h = c.args.heap.now in
    let s = c.args.cache.now in
    let slots = c.args.table.now.slots.items in
    let k = c.in-Some.kept in
    let is : block_at slots c.args.index ≡ Some k = sym c.set.ensures.value ∙ c.in-Some.is in
    let out : is_out (Some k) ≡ false = ap is_out (sym is) ∙ c.requires.home in
    let laid : is_laid (Some k) ≡ false = ap is_laid (sym is) ∙ c.requires.not_laid in
    subst (HoldsBlock s) (sym c.into_home.ensures)
    (held-of h s slots c.args.index k c.requires.tends c.requires.idle c.requires.within is
    (home-stands h s.pass k out laid (subst (Stands h s.pass) is (c.requires.tends.stand c.args.index))))

pub returns-in-Some-clause-tends : goal.returns-in-Some-clause-tends
returns-in-Some-clause-tends c =
    let h = c.args.heap.now in
    let s = c.args.cache.now in
    let d = c.free.new.self in
    let slots = c.args.table.now.slots.items in
    let k = c.in-Some.kept in
    let is : block_at slots c.args.index ≡ Some k = sym c.set.ensures.value ∙ c.in-Some.is in
    let freed : IsFree s c.into_home.result c.free.result d =
    record { kept = c.free.ensures.kept; asked = c.free.ensures.asked; depth = c.free.ensures.depth } in
    let told : IsFree s (block_of k) c.free.result d = subst (λ (b : Block). IsFree s b c.free.result d) c.into_home.ensures freed in
    gone-tends h s d slots c.set.new.self.slots.items c.retire.new.self.slots.items c.args.index k c.requires.tends
    c.requires.within is c.set.ensures.slots c.retire.ensures.aged.blocks c.retire.ensures.aged.same c.free.ensures.cache
    (λ held. free-goes h s d (block_of k) c.free.result held c.requires.tends.cache c.free.ensures.cache c.requires.idle told)

pub returns-in-Some-clause-idle : goal.returns-in-Some-clause-idle
returns-in-Some-clause-idle c freed =
    let s = c.args.cache.now in
    let told : IsFree s c.into_home.result c.free.result c.free.new.self =
    record { kept = c.free.ensures.kept; asked = c.free.ensures.asked; depth = c.free.ensures.depth } in
    freed-idle s c.free.new.self c.into_home.result c.free.result c.requires.idle told freed

pub returns-in-Some-clause-freed : goal.returns-in-Some-clause-freed
returns-in-Some-clause-freed c =
    let s = c.args.cache.now in
    let d = c.free.new.self in
    let slots = c.args.table.now.slots.items in
    let k = c.in-Some.kept in
    let is : block_at slots c.args.index ≡ Some k = sym c.set.ensures.value ∙ c.in-Some.is in
    let out : is_out (Some k) ≡ false = ap is_out (sym is) ∙ c.requires.home in
    let laid : is_laid (Some k) ≡ false = ap is_laid (sym is) ∙ c.requires.not_laid in
    let freed : IsFree s c.into_home.result c.free.result d =
    record { kept = c.free.ensures.kept; asked = c.free.ensures.asked; depth = c.free.ensures.depth } in
    let told : IsFree s (block_of k) c.free.result d = subst (λ (b : Block). IsFree s b c.free.result d) c.into_home.ensures freed in
    subst (λ (slot : Option Kept). FreesSlot s slot c.free.result d) (sym is) (frees-home s k c.free.result d out laid told)

pub returns-in-Some-clause-count : goal.returns-in-Some-clause-count
returns-in-Some-clause-count c =
    c.retire.ensures.aged.count ∙ ap length c.set.ensures.slots ∙ length-set c.args.table.now.slots.items c.args.index _

pub returns-in-Some-clause-packed : goal.returns-in-Some-clause-packed
returns-in-Some-clause-packed c =
    let t = c.args.table.now in
    let is : block_at t.slots.items c.args.index ≡ Some c.in-Some.kept = sym c.set.ensures.value ∙ c.in-Some.is in
    gone-packed t c.set.new.self c.retire.new.self c.args.index c.in-Some.kept c.requires.packed c.requires.within is c.set.ensures.slots
    c.set.ensures.spare c.retire.ensures.aged c.retire.ensures.linked
