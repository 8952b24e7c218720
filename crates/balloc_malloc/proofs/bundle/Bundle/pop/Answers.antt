use Rattle.std.proofs.Common.{ap, sym, arith, ◌≡◌, ◌∙◌, ◌<◌, ◌+◌, ◌-◌, ◌++◌, ◌∷◌, [], length, take, ℕ, List}
use Rattle.std.specs.Prelude.{Option, Some}
use Rattle.std.proofs.lemmas.List.{take_more, take-set}
use Rattle.plain_words.specs.declared.plain.PlainWords.{PlainWords}
use Rattle.balloc_malloc.specs.declared.entry.Entry.{Entry}
use Rattle.balloc_malloc.proofs.bundle.Bundle.pop.Goals as goal

pub returns-clause-some : goal.returns-clause-some
returns-clause-some c =
    let b = c.args.self.now in
    let last : ℕ = b.count - 1 in
    let within : last < length b.entries = omega (arith, b.room, b.few, c.if-self-eq0.false) in
    let more : b.count ≡ last + 1 = omega (arith, c.if-self-eq0.false) in
    let y : Entry = c.index-self-self.result in
    let x = c.replace-first.result in
    let z : Option PlainWords → Entry = λ words. record { first = x.first; size = x.size; words = record { mark = record {}; words = words } } in
    ap (λ (n : ℕ). take n b.entries) more ∙ take_more b.entries last y within
    ∙ ap (λ (it : Entry). take last b.entries ++ it ∷ []) (sym c.replace-first.ensures.value ∙ ap z c.into_words.ensures)
    ∙ ap (λ (front : List Entry). front ++ z (Some c.into_words.result) ∷ []) (sym (take-set b.entries last _))
