use Rattle.std.proofs.Common.{suc, ◌∷◌, ◌++◌, [], refl, subst}
use Rattle.errand_steps.specs.Calls.{free}
use Rattle.live_heap.specs.declared.answers.FreeAnswer.{FreeAnswer}
use Rattle.live_heap.specs.Answers.{FreeTells}
use Rattle.block_cache.specs.Caches.{Holds}
use Rattle.lane_engine.proofs.ThroughLemmas.{unkept-asks}
use Rattle.benches.proofs.CacheLemmas.{frees-bring-none, resumed-home, whole-home}
use Rattle.benches.proofs.heap.cached.CacheFront.release.Goals as goal

pub free-requires-clause-held : goal.free-requires-clause-held
free-requires-clause-held g c =
    let block = c.args.block in
    let held = c.requires.held in
    (c.caches_account_for_all_blocks.ensures.held c.args.heap.now c.args.self.now (block ∷ held.0) block c.requires.rests.0.0 c.requires.rests.0.1 held.1).1
    ([], held.0, refl)

pub go_on-requires-clause-under_way : goal.go_on-requires-clause-under_way
go_on-requires-clause-under_way g c =
    let asks = unkept-asks c.args.self.now c.args.block c.free.new.self c.free.result c.in-Busy.is c.free.ensures.kept in
    (c.in-Busy.ensures.asked asks).0.calling.busy

pub returns-in-Freed : goal.returns-in-Freed
returns-in-Freed g c =
    let block = c.args.block in
    let held = c.requires.held in
    let before = c.args.self.now in
    let after = c.free.new.self in
    let mine =
    (c.caches_account_for_all_blocks.ensures.held c.args.heap.now before (block ∷ held.0) block c.requires.rests.0.0 c.requires.rests.0.1 held.1).1
    ([], held.0, refl) in
    let whole =
    c.ended_calls_are_whole.ensures.free c.args.heap.now before after block c.args.tries c.requires.rests.0 c.free.ensures.cache mine
    (λ room. (c.free.ensures.kept room).1)
    (λ none.
    let told = c.free.ensures.asked none in
    (subst (λ (a : FreeAnswer). FreeTells before.pass block c.args.tries a after.pass) c.in-Freed.is told.0, told.1)) in
    record {
      rests = (whole.after, whole-home c.args.heap.now before after (free block.place block.need) _ whole c.requires.rests.1);
      holds = c.free.ensures.holds;
    }

pub returns-in-Busy : goal.returns-in-Busy
returns-in-Busy g c =
    let block = c.args.block in
    let before = c.args.self.now in
    let asks = unkept-asks before block c.free.new.self c.free.result c.in-Busy.is c.free.ensures.kept in
    let over = (c.in-Busy.ensures.asked asks).0 in
    let was = c.requires.rests.0.0.hand.of in
    let rests = c.go_on.ensures.rests in
    let ended = c.go_on.ensures.ended before.pass (free block.place block.need) (suc over.steps) was over.calling in
    record {
      rests = (
        rests,
        resumed-home c.args.heap.now before.pass (free block.place block.need) c.go_on.result c.go_on.new.cache.pass was c.requires.rests.1
            rests.0.hand.of ended,
      );
      holds = λ held h.
          subst (λ got. Holds c.go_on.new.cache (got ++ held)) (frees-bring-none before.pass block.place block.need c.go_on.result c.go_on.new.cache.pass ended)
          (c.go_on.ensures.holds held (c.in-Busy.ensures.holds held h));
    }
