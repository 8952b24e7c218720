use Rattle.word_table.proofs.TableLemmas.{word_index-within}
use Rattle.live_heap.proofs.heap.Heap.index.Goals as goal

pub returns-clause-number : goal.returns-clause-number
returns-clause-number g c = word_index-within c.args.self.now.layout c.args.name c.requires
