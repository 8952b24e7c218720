use Rattle.std.proofs.Common.{ℕ, List, ap, ◌∙◌}
use Rattle.store_runner.specs.Scripts.{list_after}
use Rattle.store_runner.specs.Texts.{text_of}
use Rattle.trace_commands.proofs.laws.scripts_have_one_text.Goals as goal

pub returns : goal.returns
returns c = λ rounds closed text told.
    let (heap, closed_is, stored, text_is) = told in
    text_is ∙ ap (λ (l : List (ℕ × ℕ)). text_of rounds l stored.words) stored.pairs_are
    ∙ ap (λ (l : List ℕ). text_of rounds (list_after rounds) l) stored.words_are
