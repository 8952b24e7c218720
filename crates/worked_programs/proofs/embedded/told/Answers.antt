use Rattle.std.proofs.Common.{◌∙◌, Result, IfOk, subst}
use Rattle.worked_programs.specs.declared.embedded.Report.{Report}
use Rattle.worked_programs.specs.declared.embedded.Stopped.{Stopped}
use Rattle.worked_programs.specs.Embedded.{HasRun}
use Rattle.worked_programs.proofs.EmbeddedEnds.{printed}
use Rattle.worked_programs.proofs.embedded.told.Goals as goal

pub returns-in_ok-lines-in-Ok-clause-prints : goal.returns-in_ok-lines-in-Ok-clause-prints
returns-in_ok-lines-in-Ok-clause-prints c =
    let report = c.in-Ok.report in
    let ran : HasRun report = subst (λ (r : Result Report Stopped). IfOk r HasRun) c.in-Ok.is c.in_ok-report.ensures.ran in
    c.in_ok-lines-in-Ok.ensures ∙ printed report.kept report.handed report.live ran.kept ran.handed ran.live
