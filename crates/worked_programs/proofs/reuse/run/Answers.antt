use Rattle.std.proofs.Common.{ℕ, ◌∙◌, subst, sym}
use Rattle.worked_programs.specs.Reuse.{HasWorked}
use Rattle.worked_programs.proofs.EmbeddedEnds.{none-live}
use Rattle.worked_programs.proofs.ReuseEnds.{worked-hits, worked-nothing, worked-turns}
use Rattle.worked_programs.proofs.ReuseHome.{worked-out}
use Rattle.worked_programs.proofs.reuse.run.Goals as goal

pub close-requires-clause-home : goal.close-requires-clause-home
close-requires-clause-home c = worked-out c.in_ok-heap.heap c.in_ok-heap.cache c.in-Ok.sum c.work.new.cache c.in_ok-heap.ensures c.in-Ok.ensures.worked

pub returns-in_ok-close-in-Ok-clause-ran : goal.returns-in_ok-close-in-Ok-clause-ran
returns-in_ok-close-in-Ok-clause-ran c =
    let h = c.in_ok-heap.heap in
    let first = c.in_ok-heap.cache in
    let last = c.work.new.cache in
    let sum = c.in-Ok.sum in
    let opened = c.in_ok-heap.ensures in
    let worked = c.in-Ok.ensures.worked in
    let told = c.in_ok-close-in-Ok.ensures in
    let closed = c.in_ok-close-in-Ok.field-0.closed in
    let weaker = c.histories_grow_by_events.ensures.weaker in
    let legal = weaker closed.geometry closed.events (c.closed_heaps_are_sound.ensures.legal closed told.at_rest) in
    let nothing = worked-nothing h first sum last closed c.live_blocks_are_counted.ensures.blocks opened worked told.closed legal in
    record {
      heap = h;
      cache = first;
      opened = opened;
      last = last;
      worked = subst (λ (n : ℕ). HasWorked h first n last) (sym told.counts.0) worked;
      closed = told.closed;
      hits = told.counts.1 ∙ worked-hits h first sum last opened worked;
      turns =
          told.counts.2
          ∙ worked-turns h first sum last c.passes_are_served.ensures.served c.passes_are_served.ensures.alone weaker opened worked;
      nothing = nothing;
      live = told.counts.3 ∙ none-live closed nothing;
    }

pub returns-in-Err-clause-stopped : goal.returns-in-Err-clause-stopped
returns-in-Err-clause-stopped c = record {
  cache = c.in_ok-heap.cache;
  opened = c.in_ok-heap.ensures;
  stopped = c.in-Err.ensures.stopped;
}
