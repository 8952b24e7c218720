use Rattle.word_table.proofs.SeatLemmas.{block_place-within, heap_of-within}
use Rattle.word_table.proofs.laws.seats_have_their_words.Goals as goal

pub returns-clause-block : goal.returns-clause-block
returns-clause-block c = block_place-within

pub returns-clause-heap : goal.returns-clause-heap
returns-clause-heap c = heap_of-within
