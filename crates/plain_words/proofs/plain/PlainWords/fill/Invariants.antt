use Rattle.std.proofs.Common.{◌≡◌, ◌-◌, ◌≤◌}
use Rattle.plain_words.proofs.Fills.{so_far}
use Rattle.plain_words.proofs.plain.PlainWords.fill.Given as goal

abbrev pub invariant-loop-word : goal.invariant-loop-word
invariant-loop-word l = (l.from ≤ l.word) × (l.word ≤ l.to) × (l.self.at ≡ l.initial.self.at) × (l.self.first ≡ l.initial.self.first) × (l.self.places ≡ so_far l.number l.initial.self.places (l.word - l.from))

abbrev pub decreases-loop-word : goal.decreases-loop-word
decreases-loop-word l = l.to - l.word
