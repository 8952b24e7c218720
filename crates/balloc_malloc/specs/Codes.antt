-- The codes that C gets.
use Rattle.std.specs.Prelude.{ℕ, Result, Ok, Err}
use Rattle.std.specs.declared.alloc.AllocError.{AllocError}
use Rattle.live_heap.specs.declared.answers.AllocAnswer.{AllocAnswer}
use Rattle.live_heap.specs.declared.answers.AllocAnswer.TheVariants as answer
use Rattle.memory_cache.specs.declared.piece.Piece.{Piece}
use Rattle.balloc_malloc.specs.declared.codes.TheConstants.{REFUSED, TOO_LARGE, SPENT, BUSY, NO_MEMORY}

-- the code of what a cache answers: how many words the memory has, or a cause, each its own
abbrev pub code_of : Result (AllocAnswer Piece) AllocError → ℕ
code_of (Ok (answer.Given piece)) = piece.size
code_of (Ok answer.Refused) = REFUSED
code_of (Ok answer.TooLarge) = TOO_LARGE
code_of (Ok answer.Spent) = SPENT
code_of (Ok answer.Busy) = BUSY
code_of (Err error) = NO_MEMORY

-- it gives no memory
abbrev pub GivesNone : Result (AllocAnswer Piece) AllocError → Type 0
GivesNone (Ok (answer.Given piece)) = ⊥
GivesNone told = Unit {0}
