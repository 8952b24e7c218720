use Rattle.std.proofs.Common.{ap, sym, ◌∙◌}
use Rattle.packed_words.specs.Anchor.{AnchorFields, IsAnchor, anchor_of, anchor_word}
use Rattle.packed_words.proofs.AnchorLemmas.{anchor_of-anchor_word}
use Rattle.packed_words.proofs.anchor.Anchor.new.Goals as goal

pub invariant_of-result : goal.invariant_of-result
invariant_of-result c =
    let a : AnchorFields = record { avail = c.args.avail; count = c.args.count; state = c.args.state; tag = c.args.tag } in
    let is : IsAnchor a = record { avail = c.requires.avail; count = c.requires.count; tag = c.requires.tag } in
    ap (λ word. anchor_word (anchor_of word)) c.anchor_word.ensures ∙ (ap anchor_word (anchor_of-anchor_word a is) ∙ sym c.anchor_word.ensures)

pub returns : goal.returns
returns c =
    let a : AnchorFields = record { avail = c.args.avail; count = c.args.count; state = c.args.state; tag = c.args.tag } in
    let is : IsAnchor a = record { avail = c.requires.avail; count = c.requires.count; tag = c.requires.tag } in
    ap anchor_of c.anchor_word.ensures ∙ anchor_of-anchor_word a is
