use Rattle.live_heap.specs.FirstRoom.{IsLaidBehind}
use Rattle.live_heap.specs.Linked.{AreLinked}
use Rattle.plain_words.specs.Places.{numbers}
use Rattle.word_table.specs.Counts.{descriptor_count}
use Rattle.live_heap.proofs.opened.first_room.Given as goal

abbrev pub invariant-loop-desc : goal.invariant-loop-desc
invariant-loop-desc l = IsLaidBehind l.layout l.room.plain.places × AreLinked l.layout (numbers l.room.plain.places) l.desc 0

abbrev pub invariant-loop-frame : goal.invariant-loop-frame
invariant-loop-frame l = IsLaidBehind l.layout l.room.plain.places × AreLinked l.layout (numbers l.room.plain.places) (descriptor_count l.layout) l.frame
