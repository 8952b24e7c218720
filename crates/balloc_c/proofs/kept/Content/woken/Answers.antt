use Rattle.std.proofs.Common.{refl, ap}
use Rattle.balloc_c.specs.Kept.{kept_in}
use Rattle.balloc_c.proofs.kept.Content.woken.Goals as goal

pub returns-in-Resting : goal.returns-in-Resting
returns-in-Resting c = (c.in-Resting.block, ap kept_in c.in-Resting.is, refl)
