use Rattle.std.proofs.Common.{arith}
use Rattle.embedding_tests.proofs.driver.add.Goals as goal

pub add_record-requires-clause-room : goal.add_record-requires-clause-room
add_record-requires-clause-room g c =
    let b = c.requires.ready.built in
    omega (arith, c.records-many.ensures b.words b.records, b.records.1, c.if-many-ge1000000.false)
