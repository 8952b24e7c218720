use Rattle.std.proofs.Common.{suc, sym, ◌∙◌, subst}
use Rattle.errand_steps.specs.Calls.{alloc}
use Rattle.typed_store.specs.Stores.{HasList, HasRecords}
use Rattle.store_runner.proofs.CallLemmas.{busy-goes, busy-pairs, busy-records, resumed-done, resumed-refused, resumed-spent}
use Rattle.store_runner.proofs.calls.go_on.Goals as goal

pub loop-preserved : goal.loop-preserved
loop-preserved g c =
    let s = c.loop.store in
    let t = c.resume.new.self in
    let e = c.in-Busy.ensures in
    let i = c.loop.invariant in
    record {
      can_next = tt;
      is_finite = tt;
      under_way = e.left.0;
      pending = e.left.1 ∙ i.pending;
      list = λ pairs has. subst (HasList t) (busy-pairs s.pending pairs) (e.list pairs (i.list pairs has));
      records = λ records has. subst (HasRecords t) (busy-records s.pending c.args.words.now records) (e.records records (i.records records has));
      calls = λ first asked made of was.
          let on = i.calls first asked made of was in
          let over = busy-goes c.args.heap.now s.pending s.pass t.pass 1000 e.cause first (alloc asked) on.0 of on.1 in
          (suc over.steps, over.calling);
    }

pub returns-in-Done-clause-counts : goal.returns-in-Done-clause-counts
returns-in-Done-clause-counts g c = λ first asked made of was.
    let on = c.loop.invariant.calls first asked made of was in
    resumed-done c.args.heap.now c.loop.store.pending first c.loop.store.pass c.resume.new.self.pass 1000 asked on.0
    (λ is. c.requires.adds (sym c.loop.invariant.pending ∙ is)) c.in-Done.ensures.cause of on.1

pub returns-in-Refused-clause-counts : goal.returns-in-Refused-clause-counts
returns-in-Refused-clause-counts g c = λ first asked made of was.
    let on = c.loop.invariant.calls first asked made of was in
    resumed-refused c.args.heap.now c.loop.store.pending first c.loop.store.pass c.resume.new.self.pass 1000 asked on.0 c.in-Refused.ensures.cause of on.1

pub returns-in-Spent-clause-counts : goal.returns-in-Spent-clause-counts
returns-in-Spent-clause-counts g c = λ first asked made of was.
    let on = c.loop.invariant.calls first asked made of was in
    resumed-spent c.args.heap.now c.loop.store.pending first c.loop.store.pass c.resume.new.self.pass 1000 asked on.0 c.in-Spent.ensures.cause of on.1
