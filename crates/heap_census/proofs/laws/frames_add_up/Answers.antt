use Rattle.std.proofs.Common.{◌+◌, length, ap, ◌∙◌}
use Rattle.std.specs.Prelude.{if◌then◌else◌}
use Rattle.heap_geometry.specs.declared.limits.TheConstants.{CLASSES}
use Rattle.word_table.specs.Counts.{descriptor_count}
use Rattle.sound_state.specs.Sums.{sum_below}
use Rattle.sound_state.proofs.shared.SumLemmas.{sum-same}
use Rattle.heap_census.specs.Census.{closed_state, has_class, superblocks_of}
use Rattle.heap_census.proofs.FrameCounts.{frames-add}
use Rattle.heap_census.proofs.RestLemmas.{closed-rests, frames-same, has-same}
use Rattle.heap_census.proofs.laws.frames_add_up.Goals as goal

pub returns : goal.returns
returns c = λ closed l resting listed.
    let g = closed.geometry in
    let s = closed_state closed in
    let (k, rests) = closed-rests closed resting in
    let count = sum-same CLASSES (superblocks_of g s k) (superblocks_of g s l)
    (λ class lt. sum-same (descriptor_count g) (λ d. if has_class g s k class d then 1 else 0) (λ d. if has_class g s l class d then 1 else 0)
    (λ d below. ap (λ b. if b then 1 else 0) (has-same g s l k listed rests.parts.listed class d))) in
    ap (λ n. length l.frames + n) count
    ∙ ap (λ xs. length xs + sum_below CLASSES (superblocks_of g s k)) (frames-same g s l k listed rests.parts.listed)
    ∙ frames-add g s k rests
