use Rattle.std.proofs.Common.{◌+◌, sym, subst}
use Rattle.plain_words.specs.Places.{IsLaid}
use Rattle.live_heap.proofs.ClosedPieces.{mark-there}
use Rattle.live_heap.proofs.closed.is_laid.Goals as goal

pub word-requires : goal.word-requires
word-requires c =
    let ps = c.args.room.now.plain.places in
    subst (λ n. IsLaid ps (n + c.args.piece)) (sym c.count.ensures) (mark-there c.args.layout.now ps c.requires.marked c.args.piece c.requires.piece)
