use Rattle.std.proofs.Common.{ap, subst, ◌∙◌}
use Rattle.packed_words.specs.Head.{HeadFields, head_of}
use Rattle.heap_census.proofs.WalkLemmas.{IsWalk, walk-end, walk-more, walk-start}
use Rattle.heap_census.proofs.counting.count_frames.Goals as goal

pub loop-top-init : goal.loop-top-init
loop-top-init c =
    walk-start c.args.closed.now c.top-top.result c.requires
    (c.top-top.ensures.value ∙ ap (λ (h : HeadFields). h.top) c.unpack.ensures.value ∙ ap (λ w. (head_of w).top) c.word.ensures)

pub loop-top-preserved : goal.loop-top-preserved
loop-top-preserved c =
    walk-more c.args.closed.now c.loop-top.frames c.loop-top.top c.word-top.result c.loop-top.invariant c.loop-top-test.true c.word-top.ensures

pub returns : goal.returns
returns c = λ l listed.
    walk-end c.args.closed.now c.loop-top.frames
    (subst (IsWalk c.args.closed.now c.loop-top.frames) c.loop-top-test.false c.loop-top.invariant) l listed
