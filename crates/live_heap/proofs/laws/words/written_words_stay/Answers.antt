use Rattle.live_heap.proofs.WordsKept.{called-word, calling-word, read-word, wrote-word}
use Rattle.live_heap.proofs.laws.words.written_words_stay.Goals as goal

pub returns-clause-wrote : goal.returns-clause-wrote
returns-clause-wrote c = wrote-word

pub returns-clause-called : goal.returns-clause-called
returns-clause-called c = called-word

pub returns-clause-calling : goal.returns-clause-calling
returns-clause-calling c = calling-word

pub returns-clause-read : goal.returns-clause-read
returns-clause-read c = read-word
