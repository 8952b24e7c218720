use Rattle.std.proofs.Common.{sym, ap, ◌∙◌}
use Rattle.balloc_c.specs.Kept.{kept_in}
use Rattle.balloc_c.proofs.table.Table.is_home.Goals as goal

pub returns-in-Home : goal.returns-in-Home
returns-in-Home c told = (c.in-Home.field-0, sym c.content.ensures ∙ ap kept_in c.in-Home.is)
