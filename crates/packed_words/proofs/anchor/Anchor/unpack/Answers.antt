use Rattle.packed_words.proofs.AnchorLemmas.{IsAnchor-anchor_of, anchor_word-anchor_of}
use Rattle.packed_words.proofs.anchor.Anchor.unpack.Goals as goal

pub invariant_of-result : goal.invariant_of-result
invariant_of-result c = anchor_word-anchor_of c.args.word c.ranges.word.fits

pub returns-clause-rule : goal.returns-clause-rule
returns-clause-rule c = IsAnchor-anchor_of c.args.word

pub returns-clause-back : goal.returns-clause-back
returns-clause-back c = anchor_word-anchor_of c.args.word c.ranges.word.fits
