use Rattle.std.proofs.Common.{refl, ap}
use Rattle.balloc_c.specs.Kept.{kept_in}
use Rattle.balloc_c.proofs.kept.Content.rested.Goals as goal

pub returns-in-Home : goal.returns-in-Home
returns-in-Home c = (c.in-Home.block, ap kept_in c.in-Home.is, refl)
