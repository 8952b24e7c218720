use Rattle.std.proofs.Common.{ℕ, ◌≡◌, sym, ap, ◌∙◌, subst}
use Rattle.std.specs.Prelude.{Some}
use Rattle.heap_geometry.specs.declared.need.Need.{Need}
use Rattle.pool_model.specs.Pool.{Block as PoolBlock, block_at, pool_of}
use Rattle.sound_laws.specs.events.Made.{Copies}
use Rattle.live_heap.specs.Passes.{seen}
use Rattle.live_heap.specs.Words.{CallsOnWord}
use Rattle.live_heap.proofs.LendsOut.{same-block}
use Rattle.live_heap.proofs.WordCalls.{has-copied}
use Rattle.live_heap.proofs.heap.Heap.copy.Goals as goal

pub returns-then-from-to : goal.returns-then-from-to
returns-then-from-to g c =
    let h = c.args.self.now in
    let p = c.args.pass.now in
    let q = c.copy_itself.new.pass in
    let from = c.args.from.now in
    let to = c.args.to.now in
    let same : from.place ≡ to.place = c.if-from-to.true in
    let a = c.requires.owned.0 in
    let b = c.requires.owned_too.0 in
    let blocks =
    same-block a.0 b.0 (block_at from.place (pool_of (seen p))) a.1 (subst (λ k. block_at k (pool_of (seen p)) ≡ Some b.0) (sym same) b.1) in
    let needs : from.need ≡ to.need = sym a.3 ∙ ap (λ (x : PoolBlock). x.need) blocks ∙ b.3 in
    let C : ℕ → Need → Type 0 = λ place need. Copies (CallsOnWord h) p from.place from.need place need q in
    let copies : C to.place to.need = subst (C to.place) needs (subst (λ k. C k from.need) same c.copy_itself.ensures) in
    let filled = has-copied h p q from.place from.need to.place to.need c.requires.of c.requires.idle copies in
    record { of = filled.of; idle = filled.idle; keeps = λ other. filled.keeps other.place other.need; lent = filled.lent; copied = copies }

pub returns-else-from-to : goal.returns-else-from-to
returns-else-from-to g c =
    let from = c.args.from.now in
    let to = c.args.to.now in
    let filled =
    has-copied c.args.self.now c.args.pass.now c.copy_plainly.new.pass from.place from.need to.place to.need c.requires.of c.requires.idle c.copy_plainly.ensures in
    record { of = filled.of; idle = filled.idle; keeps = λ other. filled.keeps other.place other.need; lent = filled.lent; copied = c.copy_plainly.ensures }
