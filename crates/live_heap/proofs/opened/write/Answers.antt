use Rattle.std.proofs.Common.{List, slice_set, ap, ◌∙◌, sym, subst}
use Rattle.plain_words.specs.Places.{Place, laid}
use Rattle.live_heap.specs.FirstRoom.{HasWritten}
use Rattle.live_heap.proofs.FirstRoomLemmas.{has-written}
use Rattle.live_heap.proofs.opened.write.Goals as goal

pub returns : goal.returns
returns c =
    let g = c.args.layout.now in
    let before : List Place = c.args.room.now.plain.places in
    subst (HasWritten g before c.args.name c.args.new) (sym (c.lay.ensures ∙ ap (λ at. slice_set before at (laid c.args.new)) c.place.ensures.place))
    (has-written g before c.args.name c.args.new c.requires.behind c.requires.own.0 c.requires.own.1)
