use Rattle.std.proofs.Common.{arith, refl}
use Rattle.std.proofs.lemmas.Bool.{le-leb, lt-leb}
use Rattle.memory_cache.specs.Sizes.{size_number}
use Rattle.memory_cache.proofs.sizes.size_number.Goals as goal

pub returns-then-size-le-CLOSE-clause-value : goal.returns-then-size-le-CLOSE-clause-value
unfolding size_number
returns-then-size-le-CLOSE-clause-value c =
    rw (le-leb c.args.size 16 c.if-size-le-CLOSE.true)
    (omega arith)

pub returns-then-size-le-NEAR-clause-value : goal.returns-then-size-le-NEAR-clause-value
unfolding size_number
returns-then-size-le-NEAR-clause-value c =
    rw (lt-leb c.args.size 16 c.if-size-le-CLOSE.false, le-leb c.args.size 32 c.if-size-le-NEAR.true)
    refl

pub returns-then-size-le-MIDDLE-clause-value : goal.returns-then-size-le-MIDDLE-clause-value
unfolding size_number
returns-then-size-le-MIDDLE-clause-value c =
    rw (lt-leb c.args.size 16 c.if-size-le-CLOSE.false, lt-leb c.args.size 32 c.if-size-le-NEAR.false, le-leb c.args.size 64 c.if-size-le-MIDDLE.true)
    refl

pub returns-then-size-le-FAR-clause-value : goal.returns-then-size-le-FAR-clause-value
unfolding size_number
returns-then-size-le-FAR-clause-value c =
    rw (lt-leb c.args.size 16 c.if-size-le-CLOSE.false, lt-leb c.args.size 32 c.if-size-le-NEAR.false, lt-leb c.args.size 64 c.if-size-le-MIDDLE.false, le-leb c.args.size 256 c.if-size-le-FAR.true)
    refl

pub returns-then-size-le-PAIRED-clause-value : goal.returns-then-size-le-PAIRED-clause-value
unfolding size_number
returns-then-size-le-PAIRED-clause-value c =
    rw (lt-leb c.args.size 16 c.if-size-le-CLOSE.false, lt-leb c.args.size 32 c.if-size-le-NEAR.false, lt-leb c.args.size 64 c.if-size-le-MIDDLE.false, lt-leb c.args.size 256 c.if-size-le-FAR.false, le-leb c.args.size 1022 c.if-size-le-PAIRED.true)
    c.shared_number.ensures

pub returns-else-size-le-PAIRED-clause-value : goal.returns-else-size-le-PAIRED-clause-value
unfolding size_number
returns-else-size-le-PAIRED-clause-value c =
    rw (lt-leb c.args.size 16 c.if-size-le-CLOSE.false, lt-leb c.args.size 32 c.if-size-le-NEAR.false, lt-leb c.args.size 64 c.if-size-le-MIDDLE.false, lt-leb c.args.size 256 c.if-size-le-FAR.false, lt-leb c.args.size 1022 c.if-size-le-PAIRED.false)
    refl
