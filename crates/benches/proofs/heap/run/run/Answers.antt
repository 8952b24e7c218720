use Rattle.std.proofs.Common.{◌≡◌, ◌<◌, All, List, length, rules, sym, ap, ◌∙◌, subst}
use Rattle.crossbeam_utils.specs.declared.cache_padded.CachePadded.{CachePadded}
use Rattle.crossbeam_utils.specs.Padded.{padded_value}
use Rattle.heap_geometry.specs.declared.geometry.Geometry.{Geometry}
use Rattle.benches.specs.declared.heap.worker.Worker.{Worker}
use Rattle.benches.proofs.HandLemmas.{written-whole}
use Rattle.benches.proofs.heap.run.run.Goals as goal

pub dismiss-requires : goal.dismiss-requires
dismiss-requires g c =
    let W : Type 0 = CachePadded (Worker g.row.F.Denot) in
    let Q : W → Type 0 = λ w. g.F.Front.rests c.in_ok-heap.heap (padded_value {T = Worker g.row.F.Denot} w).front in
    let before : List W = c.in_ok-workers.workers.items in
    let after : List W = c.work_all.new.workers in
    let kept : length after ≡ length c.as_mut_slice.result.now = search rules in
    let same : length after ≡ length before = kept ∙ ap length c.as_mut_slice.ensures.value in
    let cap : length before ≡ c.in_ok-workers.workers.len = search rules in
    let ran : All Q after = λ k d within. c.work_all.ensures k d (subst (λ n. k < n) kept within) in
    subst (λ (l : List W). All Q l) (sym (written-whole after before c.in_ok-workers.workers.len (same ∙ cap) cap)) ran

pub close-requires : goal.close-requires
close-requires g c =
    let W : Type 0 = CachePadded (Worker g.row.F.Denot) in
    let before : List W = c.in_ok-workers.workers.items in
    let after : List W = c.work_all.new.workers in
    let kept : length after ≡ length c.as_mut_slice.result.now = search rules in
    let same : length after ≡ length before = kept ∙ ap length c.as_mut_slice.ensures.value in
    let cap : length before ≡ c.in_ok-workers.workers.len = search rules in
    let whole = ap length (written-whole after before c.in_ok-workers.workers.len (same ∙ cap) cap) in
    let opened = c.in_ok-heap.ensures in
    record {
      all = c.in_ok-passes.ensures.1 ∙ (whole ∙ (same ∙ (c.in_ok-workers.ensures.1 ∙ (opened.passes.1 ∙ ap (λ (geometry : Geometry). geometry.callers) (sym opened.heap)))));
      each = λ k d within. let rests = c.in_ok-passes.ensures.0 k d within in (rests.0, rests.1);
    }

pub unreachable-requires : goal.unreachable-requires
unreachable-requires g c = c.in-Err.ensures.always (λ k d within. (c.in_ok-passes.ensures.0 k d within).2)
