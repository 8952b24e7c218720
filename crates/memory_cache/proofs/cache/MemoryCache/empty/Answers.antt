use Rattle.std.proofs.Common.{◌≡◌, ◌∙◌, ◌≢◌, [], sym, subst}
use Rattle.live_heap.specs.declared.plain.Memory.{Memory}
use Rattle.block_cache.specs.declared.magazines.Magazines.{Magazines}
use Rattle.block_cache.specs.Magazines.{all_in, stacks_of}
use Rattle.block_cache.proofs.MagazineLemmas.{none-left}
use Rattle.memory_cache.specs.Caches.{IsCache, LieApart, kept_in, stacks_in}
use Rattle.memory_cache.proofs.KeptLemmas.{apart-comes, apart-leaves, kept-on, piece-leaves, refilled, settled-cache}
use Rattle.memory_cache.proofs.SettledLemmas.{has-settled, taken-on}
use Rattle.memory_cache.proofs.cache.MemoryCache.empty.Goals as goal

pub send_home-requires-clause-room : goal.send_home-requires-clause-room
send_home-requires-clause-room c =
    let h = c.args.heap.now in
    let s = c.loop-self.self in
    let m = c.pop_first.new.self in
    (piece-leaves h s.pass c.in-Some.piece (kept_in s) (all_in (stacks_of m.stacks.items)) c.in-Some.ensures.splits c.loop-self.invariant.cache.kept).0.0

pub send_home-requires-clause-taken : goal.send_home-requires-clause-taken
send_home-requires-clause-taken c =
    let h = c.args.heap.now in
    let s = c.loop-self.self in
    let m = c.pop_first.new.self in
    let piece = piece-leaves h s.pass c.in-Some.piece (kept_in s) (all_in (stacks_of m.stacks.items)) c.in-Some.ensures.splits c.loop-self.invariant.cache.kept in
    taken-on s.pass c.settle.new.pass c.in-Some.piece c.settle.ensures.out piece.0.1

pub loop-self-preserved : goal.loop-self-preserved
loop-self-preserved c =
    let h = c.args.heap.now in
    let i = c.loop-self.invariant in
    let s = c.loop-self.self in
    let p = c.settle.new.pass in
    let q = c.send_home.new.pass in
    let m = c.pop_first.new.self in
    let memory = c.in-Some.piece in
    let less = all_in (stacks_of m.stacks.items) in
    let piece = piece-leaves h s.pass memory (kept_in s) less c.in-Some.ensures.splits i.cache.kept in
    record {
      cache =
          refilled h s q m s.hits i.cache c.send_home.ensures.pass c.pop_first.ensures.depth c.pop_first.ensures.ready
          (kept-on h s.pass q (λ other. other.block.place ≢ memory.block.place)
          (λ other ne taken. c.send_home.ensures.keeps other (taken-on s.pass p other c.settle.ensures.out taken) ne) less piece.1 piece.2);
      keeps = λ other held.
          let was = i.keeps other held in
          let left = apart-leaves other memory (kept_in s) less c.in-Some.ensures.splits was.1 in (
            c.send_home.ensures.keeps other (taken-on s.pass p other c.settle.ensures.out was.0) (λ same. left.0 (sym same)),
            left.1,
          );
      only = λ other held.
          let was = c.send_home.ensures.only other held.0 in
          i.only other
          (taken-on p s.pass other (sym c.settle.ensures.out) was.0, apart-comes other memory (kept_in s) less c.in-Some.ensures.splits (λ same. was.1 (sym same)) held.1);
      caller = c.send_home.ensures.caller ∙ c.settle.ensures.caller ∙ i.caller;
      hits = i.hits;
    }

pub returns-in_default-clause-keeps : goal.returns-in_default-clause-keeps
returns-in_default-clause-keeps c other held =
    let was = c.loop-self.invariant.keeps other held in
    let none = c.pop_first.ensures.none c.in_default.is in (
      taken-on c.loop-self.self.pass c.settle.new.pass other c.settle.ensures.out was.0,
      subst (λ (x : Magazines Memory). LieApart other (all_in (stacks_of x.stacks.items))) (sym none.1) was.1,
    )

pub returns-clause-cache : goal.returns-clause-cache
returns-clause-cache c =
    settled-cache c.args.heap.now c.loop-self.self c.settle.new.pass c.loop-self.invariant.cache c.settle.ensures.tells.pass c.settle.ensures.out

pub returns-clause-keeps : goal.returns-clause-keeps
returns-clause-keeps c other held =
    let was = c.loop-self.invariant.keeps other held in (taken-on c.loop-self.self.pass c.settle.new.pass other c.settle.ensures.out was.0, was.1)

pub send_home-requires-clause-settled : goal.send_home-requires-clause-settled
send_home-requires-clause-settled c =
    has-settled c.args.heap.now c.loop-self.self.pass c.args.tries c.settle.new.pass c.loop-self-test.ensures.tells

pub returns-in_default-clause-cache : goal.returns-in_default-clause-cache
returns-in_default-clause-cache c =
    let none = c.pop_first.ensures.none c.in_default.is in
    let s = c.loop-self.self in
    let q = c.settle.new.pass in
    subst (λ (x : Magazines Memory). IsCache c.args.heap.now (record { pass = q; magazines = x; hits = s.hits })) (sym none.1)
    (settled-cache c.args.heap.now s q c.loop-self.invariant.cache c.settle.ensures.tells.pass c.settle.ensures.out)

pub returns-in_default-clause-only : goal.returns-in_default-clause-only
returns-in_default-clause-only c other held =
    let none = c.pop_first.ensures.none c.in_default.is in
    c.loop-self.invariant.only other (
      taken-on c.settle.new.pass c.loop-self.self.pass other (sym c.settle.ensures.out) held.0,
      subst (λ (x : Magazines Memory). LieApart other (all_in (stacks_of x.stacks.items))) none.1 held.1,
    )

pub returns-clause-only : goal.returns-clause-only
returns-clause-only c other held =
    c.loop-self.invariant.only other (taken-on c.settle.new.pass c.loop-self.self.pass other (sym c.settle.ensures.out) held.0, held.1)

pub returns-in_default-clause-emptied : goal.returns-in_default-clause-emptied
returns-in_default-clause-emptied c is =
    let none = c.pop_first.ensures.none c.in_default.is in (
      subst (λ (x : Magazines Memory). all_in (stacks_of x.stacks.items) ≡ []) (sym none.1) (none-left (stacks_in c.loop-self.self) none.0),
      c.loop-self-test.ensures.tells.idle,
    )
