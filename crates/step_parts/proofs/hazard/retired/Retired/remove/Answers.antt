use Rattle.std.proofs.Common.{◌∙◌, ap, arith, sym}
use Rattle.step_parts.specs.hazard.Retired.{without}
use Rattle.step_parts.proofs.hazard_lemmas.RemoveLemmas.{removed, unlisted}
use Rattle.step_parts.proofs.hazard.retired.Retired.remove.Goals as goal

pub returns-in-Some : goal.returns-in-Some
returns-in-Some c =
    removed c.args.desc c.self.inside.items c.copy_within.new.self c.from-len.result c.self.inside.len c.in-Some.at
    c.from-len.ensures (omega (arith, c.self.invariant, c.self.told)) (sym c.in-Some.ensures) c.copy_within.ensures.after
    ∙ ap (without c.args.desc) c.self.view_is

pub returns-in_default : goal.returns-in_default
returns-in_default c =
    sym c.self.view_is
    ∙ unlisted c.args.desc c.self.inside.items c.from-len.result c.self.inside.len c.from-len.ensures (sym c.in_default.ensures)
    ∙ ap (without c.args.desc) c.self.view_is
