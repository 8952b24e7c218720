use Rattle.std.proofs.Common.{ap, arith, ◌∙◌, ◌<◌, ◌++◌, ◌∷◌, [], length, take}
use Rattle.std.specs.Prelude.{Option}
use Rattle.std.proofs.lemmas.List.{take_more_set, length-take-le}
use Rattle.plain_words.specs.declared.plain.PlainWords.{PlainWords}
use Rattle.balloc_malloc.specs.declared.entry.Entry.{Entry}
use Rattle.balloc_malloc.proofs.bundle.Bundle.put.Goals as goal

pub returns : goal.returns
returns c =
    let b = c.args.self.now in
    let within : b.count < length b.entries = omega (arith, b.room, b.few, c.requires, length-take-le b.count b.entries (omega (arith, b.room, b.few))) in
    let x : Option PlainWords → Entry = λ words. record { first = c.args.first; size = c.args.size; words = record { mark = record {}; words = words } } in
    take_more_set b.entries b.count (x c.of_words.result.words) within ∙ ap (λ (words : Option PlainWords). take b.count b.entries ++ x words ∷ []) c.of_words.ensures
