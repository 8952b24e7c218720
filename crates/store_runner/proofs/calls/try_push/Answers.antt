use Rattle.std.proofs.Common.{suc, subst}
use Rattle.typed_store.specs.declared.store.Stored.{Stored}
use Rattle.typed_store.specs.Causes.{IsAnswerOf}
use Rattle.store_runner.proofs.CallLemmas.{answer-counts, refused-counts, spent-tells}
use Rattle.store_runner.proofs.calls.try_push.Goals as goal

pub returns-in-Busy-clause-counts : goal.returns-in-Busy-clause-counts
returns-in-Busy-clause-counts g c =
    let p = c.args.store.now.pass in
    let q = c.push_front.new.self.pass in
    let e = subst (λ (x : Stored). IsAnswerOf c.args.heap.now p 3 1000 x q) c.in-Busy.is c.in_ok-stored.ensures.cause in
    c.go_on.ensures.counts p 3 (suc e.steps) c.requires.ready.of e.calling

pub returns-in-Done-clause-counts : goal.returns-in-Done-clause-counts
returns-in-Done-clause-counts g c =
    let p = c.args.store.now.pass in
    let q = c.push_front.new.self.pass in
    answer-counts c.args.heap.now p q 3 1000
    (subst (λ (x : Stored). IsAnswerOf c.args.heap.now p 3 1000 x q) c.in-Done.is c.in_ok-stored.ensures.cause)

pub returns-in-Refused-clause-counts : goal.returns-in-Refused-clause-counts
returns-in-Refused-clause-counts g c =
    let p = c.args.store.now.pass in
    let q = c.push_front.new.self.pass in
    let e = subst (λ (x : Stored). IsAnswerOf c.args.heap.now p 3 1000 x q) c.in-Refused.is c.in_ok-stored.ensures.cause in
    refused-counts p q 3 e.steps e.called

pub returns-in-Spent-clause-counts : goal.returns-in-Spent-clause-counts
returns-in-Spent-clause-counts g c =
    let p = c.args.store.now.pass in
    let q = c.push_front.new.self.pass in
    spent-tells p q 3 1000 (subst (λ (x : Stored). IsAnswerOf c.args.heap.now p 3 1000 x q) c.in-Spent.is c.in_ok-stored.ensures.cause)
