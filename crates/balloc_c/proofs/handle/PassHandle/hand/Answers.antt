use Rattle.std.proofs.Common.{sym, ◌∙◌}
use Rattle.balloc_c.proofs.OpenLemmas.{some-of}
use Rattle.balloc_c.proofs.handle.PassHandle.hand.Goals as goal

pub hand-requires : goal.hand-requires
hand-requires c = some-of c.args.self.now.held.hand (sym c.args.self.now.is_live ∙ c.if-self.true)
