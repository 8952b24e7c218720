use Rattle.std.proofs.Common.{◌≡◌, ◌∷◌, [], All, List, ◌∙◌, ap, subst, sym}
use Rattle.std.proofs.lemmas.List.Elements.{All-cons, All-nil}
use Rattle.live_heap.specs.declared.pass.Pass.{Pass}
use Rattle.live_heap.specs.Endings.{HasClosed}
use Rattle.live_heap.specs.Whole.{IsAtRest}
use Rattle.worked_programs.proofs.ReuseEnds.{only-idle}
use Rattle.worked_programs.proofs.reuse.close.Goals as goal

pub close-requires : goal.close-requires
close-requires c =
    let h = c.args.heap in
    let p = c.close-pass.result in
    let rests = subst (λ (q : Pass). IsAtRest h q) (sym c.close-pass.ensures) (c.requires.rests.0.hand.of, c.requires.rests.1) in
    only-idle h p _ rests c.in_ok-vec.ensures.items c.requires.alone

pub returns-clause-closed : goal.returns-clause-closed
returns-clause-closed c =
    let only = c.in_ok-vec.ensures.items ∙ ap (λ (q : Pass). q ∷ []) c.close-pass.ensures in
    subst (λ (l : List Pass). HasClosed c.args.heap l c.in-Ok.closed) only c.in-Ok.ensures.closed

pub unreachable-requires : goal.unreachable-requires
unreachable-requires c =
    let Home : Pass → Type 0 = λ q. q.out ≡ 0 in
    let only = c.in_ok-vec.ensures.items ∙ ap (λ (q : Pass). q ∷ []) c.close-pass.ensures in
    c.in-Err.ensures.always
    (subst (λ (l : List Pass). All Home l) (sym only) (All-cons Home c.args.cache.pass [] c.requires.home (All-nil Home)))
