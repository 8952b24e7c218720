use Rattle.std.proofs.Common.{subst}
use Rattle.typed_store.specs.declared.store.Stored.{Stored}
use Rattle.typed_store.specs.Stores.{HasList, with_pair}
use Rattle.store_runner.specs.Counts.{CountsBlocks, given_by}
use Rattle.store_runner.proofs.CallLemmas.{counts-self, counts-then}
use Rattle.store_runner.proofs.calls.push.Goals as goal

pub loop-init : goal.loop-init
loop-init g c = record {
  can_next = tt;
  is_finite = tt;
  ready = c.requires.ready;
  list = λ pairs has. has;
  records = λ records has. has;
  counts = counts-self c.args.store.now.pass;
}

pub returns-in-Done-clause-counts : goal.returns-in-Done-clause-counts
returns-in-Done-clause-counts g c =
    let p = c.loop.store.pass in
    let q = c.try_push.new.store.pass in
    counts-then 0 0 1 0 c.args.store.now.pass p q c.loop.invariant.counts
    (subst (λ (x : Stored). CountsBlocks (given_by x) 0 p q) c.in-Done.is c.in_ok-stored.ensures.counts)

pub loop-preserved-in-Refused : goal.loop-preserved-in-Refused
loop-preserved-in-Refused g c =
    let p = c.loop.store.pass in
    let t = c.try_push.new.store in
    let e = c.in_ok-stored.ensures in
    let i = c.loop.invariant in
    record {
      can_next = tt;
      is_finite = tt;
      ready = e.ready;
      list = λ pairs has.
          subst (λ (x : Stored). HasList t (with_pair x (c.args.key, c.args.value) pairs)) c.in-Refused.is (e.list pairs (i.list pairs has));
      records = λ records has. c.try_push.ensures.records records (i.records records has);
      counts = counts-then 0 0 0 0 c.args.store.now.pass p t.pass i.counts
          (subst (λ (x : Stored). CountsBlocks (given_by x) 0 p t.pass) c.in-Refused.is e.counts);
    }

pub loop-preserved-in-Spent : goal.loop-preserved-in-Spent
loop-preserved-in-Spent g c =
    let p = c.loop.store.pass in
    let t = c.try_push.new.store in
    let e = c.in_ok-stored.ensures in
    let i = c.loop.invariant in
    record {
      can_next = tt;
      is_finite = tt;
      ready = e.ready;
      list = λ pairs has.
          subst (λ (x : Stored). HasList t (with_pair x (c.args.key, c.args.value) pairs)) c.in-Spent.is (e.list pairs (i.list pairs has));
      records = λ records has. c.try_push.ensures.records records (i.records records has);
      counts = counts-then 0 0 0 0 c.args.store.now.pass p t.pass i.counts
          (subst (λ (x : Stored). CountsBlocks (given_by x) 0 p t.pass) c.in-Spent.is e.counts);
    }

pub loop-preserved : goal.loop-preserved
loop-preserved g c =
    let p = c.loop.store.pass in
    let t = c.try_push.new.store in
    let e = c.in_ok-stored.ensures in
    let i = c.loop.invariant in
    record {
      can_next = tt;
      is_finite = tt;
      ready = e.ready;
      list = λ pairs has.
          subst (λ (x : Stored). HasList t (with_pair x (c.args.key, c.args.value) pairs)) c.in-Busy.is (e.list pairs (i.list pairs has));
      records = λ records has. c.try_push.ensures.records records (i.records records has);
      counts = counts-then 0 0 0 0 c.args.store.now.pass p t.pass i.counts
          (subst (λ (x : Stored). CountsBlocks (given_by x) 0 p t.pass) c.in-Busy.is e.counts);
    }
