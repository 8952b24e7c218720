use Rattle.std.proofs.Common.{ℕ, ◌≡◌, ◌<◌, ◌+◌, ◌^◌, List, length, slice_index, sym, ap, ◌∙◌, subst, arith}
use mathlib.Core.Option.{some}
use lib.ListN.{get_elem?}
use Rattle.heap_geometry.specs.Need.{usable_words}
use Rattle.plain_words.specs.Places.{numbers}
use Rattle.sound_laws.specs.events.Made.{LeadsBy}
use Rattle.live_heap.specs.declared.pass.Pass.{Pass}
use Rattle.live_heap.specs.declared.view.Lent.{Lent}
use Rattle.live_heap.specs.Lending.{lent_block}
use Rattle.live_heap.specs.Memory.{all_but, before_taking, writes_from}
use Rattle.live_heap.specs.Passes.{Owns, accesses, view}
use Rattle.live_heap.specs.Words.{CallsOnWord}
use Rattle.live_heap.proofs.Bringing.{calls-came, keeps-left, of-left, owns-left, stays-left}
use Rattle.live_heap.proofs.Taking.{comes-at, long-numbers, numbers-laids, writes-all}
use Rattle.live_heap.proofs.WordCalls.{has-made, on-writes, own-writes, writes-long}
use Rattle.live_heap.proofs.heap.Heap.bring_home.Goals as goal

-- the numbers in the words are of 64 bits, where those of a slice with them are
small-numbers :
    (places ws : List ℕ) → places ≡ ws → ((i : ℕ) → i < length ws → slice_index ws i < 2 ^ 64) → (i : ℕ) → i < length ws
    → slice_index places i < 2 ^ 64
small-numbers places ws are small i has = subst (λ l. slice_index l i < 2 ^ 64) (sym are) (small i has)

pub bring-requires-clause-comes : goal.bring-requires-clause-comes
bring-requires-clause-comes g c =
    let h = c.args.self.now in
    let p = c.args.pass.now in
    let m = c.args.memory in
    let memory = c.requires.memory in
    let ns = numbers m.words.places in
    let place = m.block.place in
    let need = m.block.need in
    let are : ns ≡ c.words.result.now = ap numbers c.words.ensures.value ∙ numbers-laids c.words.result.now in
    let long = long-numbers memory.laid.0 m.words.places memory.laid.1 ∙ memory.long in
    let small = small-numbers ns c.words.result.now are c.are_small.ensures in
    let shown = all_but place (view p).lent in
    comes-at h p (lent_block place need ns) (writes_from place need 0 ns) c.requires.of c.requires.taken
    (λ front back old long_old. writes-all place need front back shown old ns long_old long (λ k has. small k (omega (arith, has, c.words.ensures.long))))

pub returns : goal.returns
returns g c =
    let h = c.args.self.now in
    let p = c.args.pass.now in
    let m = c.args.memory in
    let of = c.requires.of in
    let memory = c.requires.memory in
    let place = m.block.place in
    let need = m.block.need in
    let ns = numbers m.words.places in
    let block = lent_block place need ns in
    let made = writes_from place need 0 ns in
    let shown = all_but place (view p).lent in
    let q = c.bring.new.pass in
    let r = before_taking p place in
    let e = c.bring.ensures in
    let are : ns ≡ c.words.result.now = ap numbers c.words.ensures.value ∙ numbers-laids c.words.result.now in
    let long : length ns ≡ usable_words need = long-numbers memory.laid.0 m.words.places memory.laid.1 ∙ memory.long in
    let small = small-numbers ns c.words.result.now are c.are_small.ensures in
    let was = of-left h p of block made shown q.seat e.returned in
    let owned = owns-left h p of block made shown q.seat e.returned in
    let own = own-writes r place need 0 ns owned (omega (arith, long)) (λ k has. small k (omega (arith, has, long, c.words.ensures.long))) in
    let same : record { seat = q.seat; errand = p.errand; out = r.out } ≡ q = λ i. record { seat = q.seat; errand = sym e.errand i; out = sym e.out i } in
    let leads = subst (λ (x : Pass). LeadsBy (CallsOnWord h) r made x) same (calls-came h p of block made q.seat c.requires.idle e.returned e.seat.0 e.seat.1 own) in
    let has = has-made h r q made was c.requires.idle (on-writes place need 0 ns) leads in
    record {
      of = has.of;
      idle = has.idle;
      block = e.block;
      owned = subst (Owns q) (sym e.block) (has.keeps place need owned);
      keeps = λ other had. has.keeps other.place other.need (keeps-left h p of block made shown q.seat e.returned other.place other.need had);
      others = λ other had else.
          let t = stays-left h p of block made shown q.seat e.returned had.0 had.1 had.2 (λ same. else (sym had.3 ∙ same)) in
          (t.0, had.1, subst (λ (l : List Lent). get_elem? l t.0 ≡ some had.1) (sym has.lent) t.1, had.3, had.4);
      wrote = leads;
      accesses = has.accesses ∙ ap (λ n. n + accesses p) (writes-long place need 0 ns ∙ long);
    }
