use Rattle.std.proofs.Common.{◌≡◌, ◌≤◌, ◌+◌, ◌*◌, ◌^◌, ap, arith, refl, ◌∙◌}
use Rattle.std.proofs.lemmas.Nat.{mul-le}
use Rattle.heap_geometry.specs.declared.limits.TheConstants.{MAX_HEAPS}
use Rattle.heap_geometry.specs.Need.{block_count_of}
use Rattle.word_table.specs.declared.limits.TheConstants.{MAX_DESCRIPTORS}
use Rattle.word_table.specs.Counts.{descriptor_count}
use Rattle.heap_census.specs.Census.{closed_state}
use Rattle.heap_census.proofs.ClassLemmas.{IsTallied, class-count, class-within}
use Rattle.heap_census.proofs.RestLemmas.{closed-checked, count-most, few-descriptors, offers-most}
use Rattle.heap_census.proofs.TallyLemmas.{actives-room}
use Rattle.heap_census.proofs.counting.count_class.Goals as goal

pub overflow_mul-blocks : goal.overflow_mul-blocks
overflow_mul-blocks c =
    let closed = c.args.closed.now in
    let t = c.add_actives-tally.result in
    let room =
    actives-room (closed_state closed) c.args.anchored t c.args.class (descriptor_count closed.geometry) closed.geometry.heaps
    (count-most (closed_state closed)) (λ heap. offers-most closed heap c.args.class c.requires.rests) c.requires.anchored
    c.add_actives-tally.ensures in
    let few = few-descriptors closed c.requires.rests in
    let heaps = (closed-checked closed c.requires.rests).heaps.1 in
    let most : t.superblocks ≤ MAX_DESCRIPTORS + MAX_HEAPS = omega (arith, room.0, few, heaps) in
    let size : c.from.result ≤ 2 ^ 32 = omega arith in
    omega (arith, mul-le c.from.result t.superblocks (2 ^ 32) (MAX_DESCRIPTORS + MAX_HEAPS) size most)

pub overflow_sub-result : goal.overflow_sub-result
overflow_sub-result c =
    let closed = c.args.closed.now in
    let t = c.add_actives-tally.result in
    let x : IsTallied closed.geometry (closed_state closed) c.args.class t =
    record { anchored = c.args.anchored; counts = c.requires.anchored; all = c.add_actives-tally.ensures } in
    let all = class-within closed c.args.class t c.requires.rests c.requires.class x in
    let size : c.from.result * t.superblocks ≡ block_count_of c.args.class * t.superblocks =
    ap (λ k. k * t.superblocks) (c.from.ensures ∙ c.block_count.ensures) in
    omega (arith, all, size)

pub overflow_sub-result-2 : goal.overflow_sub-result-2
overflow_sub-result-2 c =
    let closed = c.args.closed.now in
    let t = c.add_actives-tally.result in
    let x : IsTallied closed.geometry (closed_state closed) c.args.class t =
    record { anchored = c.args.anchored; counts = c.requires.anchored; all = c.add_actives-tally.ensures } in
    let all = class-within closed c.args.class t c.requires.rests c.requires.class x in
    let size : c.from.result * t.superblocks ≡ block_count_of c.args.class * t.superblocks =
    ap (λ k. k * t.superblocks) (c.from.ensures ∙ c.block_count.ensures) in
    omega (arith, all, size)

pub returns : goal.returns
returns c = λ l listed.
    let closed = c.args.closed.now in
    let t = c.add_actives-tally.result in
    let x : IsTallied closed.geometry (closed_state closed) c.args.class t =
    record { anchored = c.args.anchored; counts = c.requires.anchored; all = c.add_actives-tally.ensures } in
    class-count closed c.args.class t _ c.requires.rests c.requires.class x
    (ap (λ k. k * t.superblocks) (c.from.ensures ∙ c.block_count.ensures)) refl refl refl l listed
