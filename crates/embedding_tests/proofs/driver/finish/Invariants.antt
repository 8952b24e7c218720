use Rattle.std.proofs.Common.{ℕ, ◌≡◌, length}
use Rattle.typed_store.specs.declared.store.Pending.{Pending}
use Rattle.typed_store.specs.declared.store.Pending.TheVariants.{Record}
use Rattle.typed_store.specs.Stores.{LeavesStore}
use Rattle.embedding_tests.proofs.driver.finish.Given as goal

-- the last answer left the store so; a record that it waits for has these words
abbrev pub invariant-loop-resumed : goal.invariant-loop-resumed
invariant-loop-resumed g l =
    (waiting : Pending) × LeavesStore l.heap l.stored waiting l.store × ((many : ℕ) → waiting ≡ Record many → length l.words ≡ many)
