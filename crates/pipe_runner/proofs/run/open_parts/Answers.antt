use Rattle.std.proofs.Common.{◌≡◌, ◌∷◌, ◌++◌, [], rules, sym, ap, ◌∙◌}
use Rattle.std.specs.Prelude.{option_to_list}
use Rattle.heap_geometry.specs.declared.geometry.Geometry.{Geometry}
use Rattle.pipe_runner.proofs.RunEnds.{new-receiving, opened-parts}
use Rattle.pipe_runner.proofs.run.open_parts.Goals as goal

pub pair_senders-requires-clause-passes : goal.pair_senders-requires-clause-passes
pair_senders-requires-clause-passes g c =
    let others = c.pop.new.self.items in
    let p = c.unwrap-pass.result in
    let passes = c.in_ok-heap.passes.items in
    let last : passes ≡ others ++ p ∷ [] = c.pop.ensures.items ∙ ap (λ o. others ++ option_to_list o) c.unwrap-pass.ensures in
    let many = c.in_ok-heap.ensures.passes.1 ∙ ap (λ (x : Geometry). x.callers) c.geometry_for.ensures.value in
    let parts = opened-parts c.in_ok-heap.heap c.args.senders passes others p c.in_ok-heap.ensures.passes.0 many last in
    (parts.0, parts.1 ∙ sym c.in_ok-pipe.ensures.senders.1)

pub returns : goal.returns
returns g c =
    let h = c.in_ok-heap.heap in
    let pipe = c.in_ok-pipe.pipe in
    let others = c.pop.new.self.items in
    let p = c.unwrap-pass.result in
    let passes = c.in_ok-heap.passes.items in
    let last : passes ≡ others ++ p ∷ [] = c.pop.ensures.items ∙ ap (λ o. others ++ option_to_list o) c.unwrap-pass.ensures in
    let many = c.in_ok-heap.ensures.passes.1 ∙ ap (λ (x : Geometry). x.callers) c.geometry_for.ensures.value in
    let (before, few, fresh, caller) = opened-parts h c.args.senders passes others p c.in_ok-heap.ensures.passes.0 many last in
    record {
      layout = c.in_ok-heap.ensures.heap ∙ c.geometry_for.ensures.value;
      pipe = c.in_ok-pipe.ensures.pipe.0;
      stands = c.pair_senders.ensures.stands;
      all = c.pair_senders.ensures.all ∙ c.in_ok-pipe.ensures.senders.1;
      receives = new-receiving h pipe (record { pass = p; end = c.in_ok-pipe.end; counts = c.new.result; folds = c.new-2.result }) c.in_ok-pipe.ensures.pipe.1
          c.in_ok-pipe.ensures.receiver fresh (caller ∙ sym c.in_ok-pipe.ensures.pipe.0) c.new.ensures c.new-2.ensures;
      no_pass = c.in_ok-done.ensures.items;
      passes = search rules;
      no_end = c.in_ok-back.ensures.items;
      ends = search rules;
    }
