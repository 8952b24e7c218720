use Rattle.std.proofs.Common.{ℕ, ◌≤◌, List, length, sym, ap, ◌∙◌, subst}
use Rattle.heap_geometry.specs.declared.geometry.Geometry.{Geometry}
use Rattle.live_heap.specs.declared.pass.Pass.{Pass}
use Rattle.live_heap.specs.Endings.{HasAccesses, HasClosed}
use Rattle.store_runner.proofs.ClosedLemmas.{closed-stored, one-idle, one-pass}
use Rattle.store_runner.specs.Texts.{text_of}
use Rattle.store_runner.proofs.ScriptLemmas.{latest-short}
use Rattle.store_runner.proofs.heap.run_store.Goals as goal

pub returns-in-Ok-clause-told : goal.returns-in-Ok-clause-told
returns-in-Ok-clause-told g c =
    let h = c.in_ok-heap.heap in
    let run = c.in_ok-script.ensures in
    let script = c.in_ok-script.script in
    let closed = c.in-Ok.closed in
    let laid = c.in_ok-heap.ensures.heap ∙ c.geometry.ensures.value in
    let callers = ap (λ (g : Geometry). g.callers) laid in
    let one =
    one-pass h c.in_ok-heap.passes.items c.remove-pass.new.self.items c.remove-pass.result c.in_ok-heap.ensures.passes.0
    (c.in_ok-heap.ensures.passes.1 ∙ ap (λ (g : Geometry). g.callers) c.geometry.ensures.value) c.remove-pass.ensures.value
    c.remove-pass.ensures.by_index.2 in
    let idle =
    one-idle h c.remove-pass.new.self.items c.push_reserved.new.self.items script.pass run.of run.idle one.2 c.push_reserved.ensures.items callers in
    let with_it = subst (λ (l : List Pass). HasClosed h l closed) idle.1 c.in-Ok.ensures.closed in
    let counted = subst (λ (l : List Pass). HasAccesses closed l) idle.1 c.in-Ok.ensures.accesses in
    let legal = c.closed_heaps_are_sound.ensures.legal closed c.in-Ok.ensures.rests in
    let left =
    closed-stored h c.args.rounds script closed c.calls_change_their_block.ensures.closed c.live_blocks_are_counted.ensures.blocks laid run with_it counted
    c.in-Ok.ensures.rests legal (c.histories_grow_by_events.ensures.weaker closed.geometry closed.events legal) in
    let text =
    c.in_ok-text.ensures
    ∙ (ap (λ l. text_of c.args.rounds l c.as_slice-2.result.now) (c.as_slice.ensures.value ∙ sym left.1)
    ∙ ap (λ l. text_of c.args.rounds left.0.pairs l) (c.as_slice-2.ensures.value ∙ sym left.2)) in
    (left.0, text)

pub returns-in-Ok-clause-stored : goal.returns-in-Ok-clause-stored
returns-in-Ok-clause-stored g c = (returns-in-Ok-clause-told g c).0

pub told-requires : goal.told-requires
told-requires g c =
    subst (λ (l : List (ℕ × ℕ)). length l ≤ 7) (sym (c.as_slice.ensures.value ∙ c.in_ok-script.ensures.pairs)) (latest-short c.args.rounds 7)
