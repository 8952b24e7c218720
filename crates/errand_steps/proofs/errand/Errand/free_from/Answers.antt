use Rattle.std.proofs.Common.{refl, arith}
use Rattle.errand_steps.proofs.BeginLemmas.{frame_is, index_is}
use Rattle.errand_steps.proofs.errand.Errand.free_from.Goals as goal

pub split_place-frame-requires-clause-place : goal.split_place-frame-requires-clause-place
split_place-frame-requires-clause-place c =
    let b = c.requires.1 in
    (b.0, b.1, omega (arith, b.2, c.caller.ensures.rule.geometry.frames.1), b.3, b.4)

pub returns : goal.returns
returns c =
    let f = c.split_place-frame.result.0 in
    let i = c.split_place-frame.result.1 in
    let e = c.split_place-frame.ensures in
    rw (c.seat.ensures, frame_is f c.args.class i c.args.place e.index e.place, index_is f c.args.class i c.args.place e.index e.place) refl
