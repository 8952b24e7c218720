use Rattle.std.proofs.Common.{◌≡◌, ◌∙◌, ap, subst, arith}
use Rattle.store_runner.specs.Scripts.{IsBehind, values_of}
use Rattle.store_runner.proofs.RoundLemmas.{none-behind, script-ran}
use Rattle.store_runner.proofs.script.run_script.Goals as goal

pub loop-round-init : goal.loop-round-init
loop-round-init g c =
    let e = c.open-store.ensures in
    none-behind c.args.heap.now c.args.pass c.open-store.result c.requires.fresh c.requires.first (e.ready c.args.heap.now c.requires.fresh.of) e.list
    e.records e.pass

pub returns : goal.returns
returns g c =
    let e = c.in_ok-script.ensures in
    let n = c.in_ok-note.ensures in
    let l = c.loop-round in
    let all : l.round ≡ c.args.rounds = omega (arith, c.loop-round-test.false, l.auto.round-end) in
    let behind = subst (λ n. IsBehind c.args.heap.now n l.store) all l.invariant in
    script-ran c.args.heap.now c.args.rounds c.loop-round.store c.list.new.self c.note.new.store c.in_ok-pairs.pairs.items c.as_slice-2.result.now
    c.in_ok-script.script behind c.in_ok-pairs.ensures.listed
    (c.as_slice-2.ensures.value ∙ (c.in_ok-values.ensures ∙ ap values_of c.as_slice.ensures.value)) c.list.ensures.rests
    c.list.ensures.list n.list n.records n.counts e.rests e.pairs e.words e.keeps
