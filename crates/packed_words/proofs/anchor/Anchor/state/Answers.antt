use Rattle.std.proofs.Common.{ap, arith}
use Rattle.std.proofs.lemmas.Grind.{common_steps}
use Rattle.packed_words.specs.Anchor.{AnchorFields, anchor_of}
use Rattle.packed_words.proofs.anchor.Anchor.state.Goals as goal

pub returns : goal.returns
unfolding anchor_of
returns c = grind (arith, common_steps, c.state_of.ensures, ap (λ (a : AnchorFields). a.state) c.self.view_is)
