use Rattle.std.proofs.Common.{sym, subst}
use Rattle.live_heap.specs.declared.pass.Pass.{Pass}
use Rattle.benches.specs.Hands.{Rests}
use Rattle.benches.proofs.CacheLemmas.{ended-home}
use Rattle.benches.proofs.heap.cached.CacheFront.close.Goals as goal

pub returns : goal.returns
returns g c =
    let e = c.empty.ensures.rests in
    let before = c.args.self in
    let home = ended-home c.args.heap.now before.pass c.empty.new.cache.pass _ c.requires.0.0.hand.of c.requires.1 c.empty.ensures.emptied.frees in
    subst (λ (p : Pass). Rests c.args.heap.now p) (sym c.close.ensures) (e.0.hand.of, e.1, home)
