use Rattle.std.proofs.Common.{◌∙◌, ap}
use Rattle.balloc_c.specs.Kept.{words_in}
use Rattle.balloc_c.specs.Slots.{block_at}
use Rattle.balloc_c.proofs.Numbers.{some-of}
use Rattle.balloc_c.proofs.calls.words.Goals as goal

pub returns : goal.returns
returns c =
    let found = c.in-Some.ensures.found in
    let some = some-of (block_at c.args.table.now.slots.items c.in-Some.index) (λ none. found.3 (found.2 ∙ none)) in
    (some.0, found.2 ∙ some.1, c.from.ensures ∙ c.usable_words.ensures ∙ ap words_in (c.content.ensures ∙ some.1))
