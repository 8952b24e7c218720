use Rattle.std.proofs.Common.{arith, Option, sym, ap, ◌∙◌, subst}
use Rattle.balloc_c.specs.declared.kept.Kept.{Kept}
use Rattle.balloc_c.specs.declared.kept.Kept.TheVariants as kept
use Rattle.balloc_c.specs.Closed.{FreesSlot}
use Rattle.balloc_c.specs.Kept.{is_laid, is_out}
use Rattle.balloc_c.specs.Through.{IsFree}
use Rattle.balloc_c.proofs.LaidLemmas.{turned-none}
use Rattle.balloc_c.proofs.calls.free_laid.Goals as goal

pub free_kept-requires-clause-within : goal.free_kept-requires-clause-within
free_kept-requires-clause-within c =
    let count = c.bring_laid.ensures.homed.3.count in
    let within = c.requires.within in
    omega (arith, count, within)

pub free_kept-requires-clause-home : goal.free_kept-requires-clause-home
free_kept-requires-clause-home c = ap is_out c.bring_laid.ensures.homed.3.here

pub free_kept-requires-clause-not_laid : goal.free_kept-requires-clause-not_laid
free_kept-requires-clause-not_laid c = ap is_laid c.bring_laid.ensures.homed.3.here

pub returns-clause-count : goal.returns-clause-count
returns-clause-count c = c.free_kept.ensures.count ∙ c.bring_laid.ensures.homed.3.count

pub returns-clause-same : goal.returns-clause-same
returns-clause-same c other =
    let homed = c.bring_laid.ensures.homed in
    c.free_kept.ensures.same other
    ∙ turned-none c.args.table.now.slots.items c.bring_laid.new.table.slots.items c.args.index (kept.Home homed.0.block) c.requires.within homed.3 other

pub returns-clause-freed : goal.returns-clause-freed
returns-clause-freed c =
    let s = c.args.cache.now in
    let e = c.bring_laid.new.cache in
    let homed = c.bring_laid.ensures.homed in
    let freed : IsFree e homed.0.block c.free_kept.result c.free_kept.new.cache =
    subst (λ (slot : Option Kept). FreesSlot e slot c.free_kept.result c.free_kept.new.cache) homed.3.here c.free_kept.ensures.freed in
    subst (λ (slot : Option Kept). FreesSlot s slot c.free_kept.result c.free_kept.new.cache) (sym homed.1) (e, homed.2, freed)
