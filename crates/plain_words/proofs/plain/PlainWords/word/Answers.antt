use Rattle.std.proofs.Common.{ℕ, ◌-◌, [], ◌∷◌}
use Rattle.plain_words.specs.Places.{number_at}
use Rattle.plain_words.proofs.Runs.{one_run}
use Rattle.plain_words.proofs.plain.PlainWords.word.Goals as goal

pub slice-requires : goal.slice-requires
slice-requires c = let w = c.args.self.now in let i : ℕ = c.args.word - w.first in let one = one_run w.places i c.requires.2 in (c.requires.0, c.requires.1, (one.0, (number_at w.places i ∷ [], one.1)))
