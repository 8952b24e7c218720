use Rattle.std.proofs.Common.{◌<◌, length, arith}
use Rattle.embedding_tests.proofs.DriverLemmas.{first-fresh}
use Rattle.embedding_tests.proofs.driver.open_store.Goals as goal

pub returns : goal.returns
returns c =
    let opened = c.in_ok-heap.ensures.passes in
    let many : 0 < length c.in_ok-heap.passes.items = omega (arith, opened.1, c.requires.callers.0) in
    c.open-2.ensures.ready c.in_ok-heap.heap (first-fresh c.in_ok-heap.heap c.in_ok-heap.passes.items c.remove-pass.result opened.0 many c.remove-pass.ensures.value).of
