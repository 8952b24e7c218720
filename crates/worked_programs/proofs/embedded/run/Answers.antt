use Rattle.std.proofs.Common.{◌≡◌, ◌∙◌, All, List, ap, inl, inr, refl, subst, sym}
use Rattle.heap_geometry.specs.declared.geometry.Geometry.{Geometry}
use Rattle.live_heap.specs.declared.pass.Pass.{Pass}
use Rattle.live_heap.specs.Endings.{HasClosed}
use Rattle.worked_programs.proofs.EmbeddedEnds.{all-idle, both-home, none-live, two-passes}
use Rattle.worked_programs.proofs.EmbeddedWays.{closed-tells}
use Rattle.worked_programs.proofs.embedded.run.Goals as goal

pub returns-in-Err-clause-stopped : goal.returns-in-Err-clause-stopped
returns-in-Err-clause-stopped c =
    let h = c.in_ok-heap.heap in
    let first = c.remove-first.result in
    let second = c.remove-second.result in
    let two =
    two-passes h c.in_ok-heap.passes.items c.remove-second.new.self.items c.remove-first.new.self.items first second c.in_ok-heap.ensures.passes.0
    (c.in_ok-heap.ensures.passes.1 ∙ c.four_frames.ensures.callers) c.remove-second.ensures.value c.remove-second.ensures.by_index.2
    c.remove-first.ensures.value c.remove-first.ensures.by_index.2 in
    record { first = first; second = second; fresh = two.0; stopped = inl (c.in-Err.ensures.stopped, refl) }

pub fetch-requires : goal.fetch-requires
fetch-requires c =
    let h = c.in_ok-heap.heap in
    let first = c.remove-first.result in
    let second = c.remove-second.result in
    let two =
    two-passes h c.in_ok-heap.passes.items c.remove-second.new.self.items c.remove-first.new.self.items first second c.in_ok-heap.ensures.passes.0
    (c.in_ok-heap.ensures.passes.1 ∙ c.four_frames.ensures.callers) c.remove-second.ensures.value c.remove-second.ensures.by_index.2
    c.remove-first.ensures.value c.remove-first.ensures.by_index.2 in
    let (fresh_first, zero_is, others) = two.0 in
    let (fresh_second, one_is, none) = others in
    fresh_second

pub returns-in-Err-fetch-clause-stopped : goal.returns-in-Err-fetch-clause-stopped
returns-in-Err-fetch-clause-stopped c =
    let h = c.in_ok-heap.heap in
    let first = c.remove-first.result in
    let second = c.remove-second.result in
    let two =
    two-passes h c.in_ok-heap.passes.items c.remove-second.new.self.items c.remove-first.new.self.items first second c.in_ok-heap.ensures.passes.0
    (c.in_ok-heap.ensures.passes.1 ∙ c.four_frames.ensures.callers) c.remove-second.ensures.value c.remove-second.ensures.by_index.2
    c.remove-first.ensures.value c.remove-first.ensures.by_index.2 in
    record { first = first; second = second; fresh = two.0; stopped = inr (c.in-Ok.kept, c.in-Ok.ensures.kept, c.in-Err-fetch.ensures.stopped) }

pub close-requires : goal.close-requires
close-requires c =
    let h = c.in_ok-heap.heap in
    let first = c.remove-first.result in
    let second = c.remove-second.result in
    let two =
    two-passes h c.in_ok-heap.passes.items c.remove-second.new.self.items c.remove-first.new.self.items first second c.in_ok-heap.ensures.passes.0
    (c.in_ok-heap.ensures.passes.1 ∙ c.four_frames.ensures.callers) c.remove-second.ensures.value c.remove-second.ensures.by_index.2
    c.remove-first.ensures.value c.remove-first.ensures.by_index.2 in
    let callers : h.layout.callers ≡ 2 = ap (λ (g : Geometry). g.callers) c.in_ok-heap.ensures.heap ∙ c.four_frames.ensures.callers in
    let p = c.keep.new.pass in
    let q = c.fetch.new.pass in
    let idle =
    all-idle h first second p q c.in-Ok.kept c.in-Ok-fetch.handed c.remove-first.new.self.items c.push_reserved-2.new.self.items
    c.push_reserved.new.self.items c.in-Ok.ensures.kept c.in-Ok-fetch.ensures.fetched two.1 c.push_reserved.ensures.items
    c.push_reserved-2.ensures.items callers in
    idle.0

pub unreachable-requires : goal.unreachable-requires
unreachable-requires c =
    let h = c.in_ok-heap.heap in
    let first = c.remove-first.result in
    let second = c.remove-second.result in
    let two =
    two-passes h c.in_ok-heap.passes.items c.remove-second.new.self.items c.remove-first.new.self.items first second c.in_ok-heap.ensures.passes.0
    (c.in_ok-heap.ensures.passes.1 ∙ c.four_frames.ensures.callers) c.remove-second.ensures.value c.remove-second.ensures.by_index.2
    c.remove-first.ensures.value c.remove-first.ensures.by_index.2 in
    let callers : h.layout.callers ≡ 2 = ap (λ (g : Geometry). g.callers) c.in_ok-heap.ensures.heap ∙ c.four_frames.ensures.callers in
    let p = c.keep.new.pass in
    let q = c.fetch.new.pass in
    let idle =
    all-idle h first second p q c.in-Ok.kept c.in-Ok-fetch.handed c.remove-first.new.self.items c.push_reserved-2.new.self.items
    c.push_reserved.new.self.items c.in-Ok.ensures.kept c.in-Ok-fetch.ensures.fetched two.1 c.push_reserved.ensures.items
    c.push_reserved-2.ensures.items callers in
    let (fresh_first, zero_is, others) = two.0 in
    let (fresh_second, one_is, none) = others in
    c.in-Err-close.ensures.always
    (subst (λ (passes : List Pass). All (λ (x : Pass). x.out ≡ 0) passes) (sym idle.1)
    (both-home h first second p q c.in-Ok.kept c.in-Ok-fetch.handed fresh_first fresh_second c.in-Ok.ensures.kept c.in-Ok-fetch.ensures.fetched))

pub returns-clause-ran : goal.returns-clause-ran
returns-clause-ran c =
    let h = c.in_ok-heap.heap in
    let first = c.remove-first.result in
    let second = c.remove-second.result in
    let two =
    two-passes h c.in_ok-heap.passes.items c.remove-second.new.self.items c.remove-first.new.self.items first second c.in_ok-heap.ensures.passes.0
    (c.in_ok-heap.ensures.passes.1 ∙ c.four_frames.ensures.callers) c.remove-second.ensures.value c.remove-second.ensures.by_index.2
    c.remove-first.ensures.value c.remove-first.ensures.by_index.2 in
    let callers : h.layout.callers ≡ 2 = ap (λ (g : Geometry). g.callers) c.in_ok-heap.ensures.heap ∙ c.four_frames.ensures.callers in
    let p = c.keep.new.pass in
    let q = c.fetch.new.pass in
    let idle =
    all-idle h first second p q c.in-Ok.kept c.in-Ok-fetch.handed c.remove-first.new.self.items c.push_reserved-2.new.self.items
    c.push_reserved.new.self.items c.in-Ok.ensures.kept c.in-Ok-fetch.ensures.fetched two.1 c.push_reserved.ensures.items
    c.push_reserved-2.ensures.items callers in
    let closed = c.in-Ok-close.closed in
    let with_both = subst (λ (passes : List Pass). HasClosed h passes closed) idle.1 c.in-Ok-close.ensures.closed in
    let legal =
    c.histories_grow_by_events.ensures.weaker closed.geometry closed.events
    (c.closed_heaps_are_sound.ensures.legal closed c.in-Ok-close.ensures.rests) in
    let tells =
    closed-tells h first second p q c.in-Ok.kept c.in-Ok-fetch.handed closed c.calls_change_their_block.ensures.whole c.passes_see_more.ensures.called
    c.given_blocks_have_enough_words.ensures c.live_blocks_are_counted.ensures.blocks c.shelves_keep_order.ensures.order two.0
    c.in-Ok.ensures.kept c.in-Ok-fetch.ensures.fetched with_both legal (ap (λ (g : Geometry). g.callers) with_both.heap ∙ callers) in
    record {
      heap = h;
      first = first;
      second = second;
      fresh = two.0;
      p = p;
      keeps = c.in-Ok.ensures.kept;
      q = q;
      fetches = c.in-Ok-fetch.ensures.fetched;
      closed = with_both;
      kept = tells.0;
      handed = tells.1;
      nothing = tells.2;
      live = c.count_live.ensures ∙ none-live closed tells.2;
    }
