use Rattle.std.proofs.Common.{sym, ap, subst}
use Rattle.errand_steps.specs.Begins.{IsIdle}
use Rattle.live_heap.specs.declared.pass.Pass.{Pass}
use Rattle.live_heap.specs.Passes.{IsFresh}
use Rattle.lane_runner.proofs.Numbered.{fresh-idle}
use Rattle.lane_runner.proofs.run_lanes.open_cache.Goals as goal

pub returns-in-Ok-clause-opened : goal.returns-in-Ok-clause-opened
returns-in-Ok-clause-opened c =
    let h = c.args._heap.now in
    let p = c.args.pass in
    let told = c.in-Ok.ensures in (
      record {
        fresh = subst (IsFresh h) (sym told.pass) c.requires.fresh;
        caller = ap (λ (q : Pass). q.errand.caller) told.pass;
        rests = (told.cache h c.requires.fresh.of, subst (λ (q : Pass). IsIdle q.errand) (sym told.pass) (fresh-idle h p c.requires.fresh));
        empty = told.empty;
        deep = told.depth;
        no_hits = told.hits;
      },
      told.pass,
    )
