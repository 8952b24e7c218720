use Rattle.balloc_c.proofs.Numbers.{refused}
use Rattle.balloc_c.proofs.laws.old_numbers_name_nothing.Goals as goal

pub returns : goal.returns
returns c = refused
