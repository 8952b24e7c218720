use Rattle.std.proofs.Common.{◌≡◌, true≢false, sym, ap, ◌∙◌}
use Rattle.std.proofs.lemmas.Bool.Decides.{eqb_tells}
use Rattle.heap_geometry.specs.declared.need.Need.TheVariants.{Small}
use Rattle.balloc_c.proofs.Slots.{by_case}
use Rattle.balloc_c.proofs.table.is_small.Goals as goal

pub returns-in-Small-clause-yes : goal.returns-in-Small-clause-yes
returns-in-Small-clause-yes c same =
    let own : c.in-Small.own ≡ c.args.class =
    by_case (λ is. is.1) (λ other. absurd (true≢false (sym same ∙ other.0))) (eqb_tells c.in-Small.own c.args.class) in
    c.in-Small.is ∙ ap Small own
