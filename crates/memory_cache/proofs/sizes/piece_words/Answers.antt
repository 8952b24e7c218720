use Rattle.std.proofs.Common.{arith}
use Rattle.std.proofs.lemmas.Bool.{le-leb, lt-leb}
use Rattle.memory_cache.specs.Sizes.{piece_words}
use Rattle.memory_cache.proofs.sizes.piece_words.Goals as goal

pub returns-then-words-le-CLOSE-clause-value : goal.returns-then-words-le-CLOSE-clause-value
unfolding piece_words
returns-then-words-le-CLOSE-clause-value c =
    rw (le-leb c.args.words 16 c.if-words-le-CLOSE.true)
    (grind arith)

pub returns-then-words-le-NEAR-clause-value : goal.returns-then-words-le-NEAR-clause-value
unfolding piece_words
returns-then-words-le-NEAR-clause-value c =
    rw (lt-leb c.args.words 16 c.if-words-le-CLOSE.false, le-leb c.args.words 32 c.if-words-le-NEAR.true)
    (grind arith)

pub returns-then-words-le-MIDDLE-clause-value : goal.returns-then-words-le-MIDDLE-clause-value
unfolding piece_words
returns-then-words-le-MIDDLE-clause-value c =
    rw (lt-leb c.args.words 16 c.if-words-le-CLOSE.false, lt-leb c.args.words 32 c.if-words-le-NEAR.false, le-leb c.args.words 64 c.if-words-le-MIDDLE.true)
    (grind arith)

pub returns-then-words-le-FAR-clause-value : goal.returns-then-words-le-FAR-clause-value
unfolding piece_words
returns-then-words-le-FAR-clause-value c =
    rw (lt-leb c.args.words 16 c.if-words-le-CLOSE.false, lt-leb c.args.words 32 c.if-words-le-NEAR.false, lt-leb c.args.words 64 c.if-words-le-MIDDLE.false, le-leb c.args.words 256 c.if-words-le-FAR.true)
    (grind arith)

pub returns-then-words-le-PAIRED-clause-value : goal.returns-then-words-le-PAIRED-clause-value
unfolding piece_words
returns-then-words-le-PAIRED-clause-value c =
    rw (lt-leb c.args.words 16 c.if-words-le-CLOSE.false, lt-leb c.args.words 32 c.if-words-le-NEAR.false, lt-leb c.args.words 64 c.if-words-le-MIDDLE.false, lt-leb c.args.words 256 c.if-words-le-FAR.false, le-leb c.args.words 1022 c.if-words-le-PAIRED.true)
    (grind arith)

pub returns-else-words-le-PAIRED-clause-value : goal.returns-else-words-le-PAIRED-clause-value
unfolding piece_words
returns-else-words-le-PAIRED-clause-value c =
    rw (lt-leb c.args.words 16 c.if-words-le-CLOSE.false, lt-leb c.args.words 32 c.if-words-le-NEAR.false, lt-leb c.args.words 64 c.if-words-le-MIDDLE.false, lt-leb c.args.words 256 c.if-words-le-FAR.false, lt-leb c.args.words 1022 c.if-words-le-PAIRED.false)
    (cc)
