use Rattle.std.proofs.Common.{ap, arith}
use Rattle.std.proofs.lemmas.Grind.{common_steps}
use Rattle.packed_words.specs.Anchor.{AnchorFields, anchor_of}
use Rattle.packed_words.proofs.anchor.Anchor.tag.Goals as goal

pub returns-clause-value : goal.returns-clause-value
unfolding anchor_of
returns-clause-value c = grind (arith, common_steps, ap (λ (a : AnchorFields). a.tag) c.self.view_is)
