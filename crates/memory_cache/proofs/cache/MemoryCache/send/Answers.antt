use Rattle.std.proofs.Common.{◌≢◌, refl, sym}
use Rattle.memory_cache.specs.Caches.{kept_in}
use Rattle.memory_cache.proofs.KeptLemmas.{kept-on, passed, settled-cache}
use Rattle.memory_cache.proofs.SettledLemmas.{has-settled, sends-on, taken-on, was-busy}
use Rattle.memory_cache.proofs.cache.MemoryCache.send.Goals as goal

pub returns-then-not-settle-clause-cache : goal.returns-then-not-settle-clause-cache
returns-then-not-settle-clause-cache c =
    settled-cache c.args.heap.now c.args.self.now c.settle.new.pass c.requires.cache c.settle.ensures.tells.pass c.settle.ensures.out

pub returns-then-not-settle-clause-keeps : goal.returns-then-not-settle-clause-keeps
returns-then-not-settle-clause-keeps c other held ne =
    (taken-on c.args.self.now.pass c.settle.new.pass other c.settle.ensures.out held.0, held.1)

pub returns-then-not-settle-clause-only : goal.returns-then-not-settle-clause-only
returns-then-not-settle-clause-only c other held =
    ((taken-on c.settle.new.pass c.args.self.now.pass other (sym c.settle.ensures.out) held.0, held.1), tt)

pub returns-then-not-settle-clause-back : goal.returns-then-not-settle-clause-back
returns-then-not-settle-clause-back c =
    let p = c.args.self.now.pass in
    let held = c.requires.held in
    (refl, (taken-on p c.settle.new.pass c.args.memory c.settle.ensures.out held.0, held.1), c.if-not-settle.ensures.tells.idle)

pub returns-then-not-settle-clause-cause : goal.returns-then-not-settle-clause-cause
returns-then-not-settle-clause-cause c =
    let tells = c.if-not-settle.ensures.tells in
    (was-busy c.args.heap.now c.args.self.now.pass c.args.tries c.settle.new.pass tells, tells)

pub send_home-requires-clause-settled : goal.send_home-requires-clause-settled
send_home-requires-clause-settled c =
    has-settled c.args.heap.now c.args.self.now.pass c.args.tries c.settle.new.pass c.if-not-settle.ensures.tells

pub send_home-requires-clause-taken : goal.send_home-requires-clause-taken
send_home-requires-clause-taken c = taken-on c.args.self.now.pass c.settle.new.pass c.args.memory c.settle.ensures.out c.requires.held.0

pub returns-clause-cache : goal.returns-clause-cache
returns-clause-cache c =
    let h = c.args.heap.now in
    let s = c.args.self.now in
    let p = c.settle.new.pass in
    let q = c.send_home.new.pass in
    let m = c.args.memory in
    passed h s q c.requires.cache c.send_home.ensures.pass
    (kept-on h s.pass q (λ other. other.block.place ≢ m.block.place)
    (λ other ne taken. c.send_home.ensures.keeps other (taken-on s.pass p other c.settle.ensures.out taken) ne)
    (kept_in s) c.requires.held.1 c.requires.cache.kept)

pub returns-clause-keeps : goal.returns-clause-keeps
returns-clause-keeps c other held ne =
    let s = c.args.self.now in
    (c.send_home.ensures.keeps other (taken-on s.pass c.settle.new.pass other c.settle.ensures.out held.0) ne, held.1)

pub returns-clause-only : goal.returns-clause-only
returns-clause-only c other held =
    let s = c.args.self.now in
    let was = c.send_home.ensures.only other held.0 in
    ((taken-on c.settle.new.pass s.pass other (sym c.settle.ensures.out) was.0, held.1), was.1)

pub returns-clause-sent : goal.returns-clause-sent
returns-clause-sent c =
    sends-on c.args.heap.now c.args.self.now.pass c.args.memory c.args.tries c.settle.new.pass c.send_home.new.pass c.if-not-settle.ensures.tells
    c.send_home.ensures.sent
