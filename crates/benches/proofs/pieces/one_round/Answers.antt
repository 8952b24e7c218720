use Rattle.std.proofs.Common.{Ok, ap, sym, subst, ◌∙◌}
use Rattle.memory_cache.specs.declared.piece.Piece.{Piece}
use Rattle.memory_cache.specs.Paged.{IsOut}
use Rattle.benches.proofs.pieces.one_round.Goals as goal

pub give-requires-clause-out : goal.give-requires-clause-out
give-requires-clause-out c =
    let given = c.take.ensures.given c.in-Given.piece (c.in_ok-piece.was ∙ ap Ok c.in-Given.is) in
    let place = c.laid.ensures.place in
    let out : IsOut c.take.new.self c.laid.result.first c.laid.result.size =
    subst (λ n. IsOut c.take.new.self n c.laid.result.size) (sym place.0)
    (subst (λ n. IsOut c.take.new.self c.in-Given.piece.first n) (sym place.1) given.3) in
    subst (λ (x : Piece). IsOut c.take.new.self x.first x.size) (sym c.summed-piece.ensures) out
