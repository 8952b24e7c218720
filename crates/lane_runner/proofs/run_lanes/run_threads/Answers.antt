use Rattle.std.proofs.Common.{ℕ, ◌≡◌, ◌<◌, List, length, rules, sym, ap, ◌∙◌, subst, arith}
use Rattle.std.specs.Prelude.{All, slice_index_or}
use Rattle.crossbeam_utils.specs.declared.cache_padded.CachePadded.{CachePadded}
use Rattle.crossbeam_utils.specs.Padded.{padded_value}
use Rattle.lane_runner.specs.declared.run_lanes.CacheThread.{CacheThread}
use Rattle.lane_runner.specs.Threads.{AreDone, HasRunOn, IsReady, IsPaired}
use Rattle.lane_runner.proofs.Numbered.{down-all, written-whole}
use Rattle.lane_runner.proofs.ThreadLemmas.{ready-paired, threads-done, threads-gone}
use Rattle.lane_runner.proofs.run_lanes.run_threads.Goals as goal

pub run_each-requires-clause-some : goal.run_each-requires-clause-some
run_each-requires-clause-some g c = omega (arith, ap length c.as_mut_slice.ensures.value, c.requires.ready.0, c.requires.some)

pub run_each-requires-clause-paired : goal.run_each-requires-clause-paired
run_each-requires-clause-paired g c = λ lifetimes outlive.
    let trace = c.args.trace.now in
    let h = c.args.heap.now in
    let Q = λ (t : CachePadded CacheThread). IsPaired trace h c.args.depth (padded_value t) in
    subst (λ (l : List (CachePadded CacheThread)). All Q l) (sym c.as_mut_slice.ensures.value)
    (down-all (λ k (t : CachePadded CacheThread). IsReady trace h c.args.depth k (padded_value t)) Q (λ k t. ready-paired trace h c.args.depth k (padded_value t)) 0
    c.args.threads.now.items c.requires.ready.1)

pub returns-clause-done : goal.returns-clause-done
returns-clause-done g c =
    let passed = g.G.Gate.passed c.args.gate.now in
    let trace = c.args.trace.now in
    let h = c.args.heap.now in
    let before = c.args.threads.now.items in
    let after = c.run_each.new.threads in
    let value : c.as_mut_slice.result.now ≡ before = c.as_mut_slice.ensures.value in
    let kept : length after ≡ length c.as_mut_slice.result.now = search rules in
    let same : length after ≡ length before = kept ∙ ap length value in
    let ran =
    subst (λ (l : List (CachePadded CacheThread)). (i : ℕ) (d : CachePadded CacheThread) → i < length l
    → HasRunOn passed trace h (padded_value (slice_index_or l i d)) (padded_value (slice_index_or after i d))) value c.run_each.ensures in
    let done = threads-done passed trace h c.args.depth before after same c.requires.ready.0 c.requires.ready.1 ran in
    let cap : length before ≡ c.args.threads.now.len = search rules in
    let P : List (CachePadded CacheThread) → Type 0 = λ l. (length l ≡ length trace.lanes) × AreDone trace h c.args.depth 0 l in
    subst P (sym (written-whole after before c.args.threads.now.len (same ∙ cap) cap)) done

pub returns-clause-passed : goal.returns-clause-passed
returns-clause-passed g c =
    let passed = g.G.Gate.passed c.args.gate.now in
    let trace = c.args.trace.now in
    let h = c.args.heap.now in
    let before = c.args.threads.now.items in
    let after = c.run_each.new.threads in
    let value : c.as_mut_slice.result.now ≡ before = c.as_mut_slice.ensures.value in
    let kept : length after ≡ length c.as_mut_slice.result.now = search rules in
    let ran =
    subst (λ (l : List (CachePadded CacheThread)). (i : ℕ) (d : CachePadded CacheThread) → i < length l
    → HasRunOn passed trace h (padded_value (slice_index_or l i d)) (padded_value (slice_index_or after i d))) value c.run_each.ensures in
    threads-gone passed trace h c.args.depth before after (kept ∙ ap length value) c.requires.ready.0 c.requires.ready.1 ran
