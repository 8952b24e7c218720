use Rattle.std.proofs.Common.{suc, ◌≡◌, ◌≢◌, ◌<◌, ◌+◌, ◌^◌, List, ◌∷◌, refl, sym, ap, ◌∙◌, subst}
use lib.ListN.{get_elem?}
use Rattle.plain_words.specs.Places.{numbers}
use Rattle.errand_steps.specs.Begins.{IsIdle}
use Rattle.live_heap.specs.declared.block.Block.{Block}
use Rattle.live_heap.specs.declared.pass.Pass.{Pass}
use Rattle.live_heap.specs.declared.view.Lent.{Lent}
use Rattle.live_heap.specs.Lending.{lent_block}
use Rattle.live_heap.specs.Memory.{before_taking}
use Rattle.live_heap.specs.Passes.{IsOf, Owns, accesses, seen, view}
use Rattle.live_heap.proofs.Begun.{heap-at}
use Rattle.live_heap.proofs.BlockCounts.{out-small}
use Rattle.live_heap.proofs.Straight.{payload-odd}
use Rattle.live_heap.proofs.Taking.{of-taken, owns-else, taken_by, was-before}
use Rattle.live_heap.proofs.heap.Heap.take_out.Goals as goal

pub overflow_add-pass : goal.overflow_add-pass
overflow_add-pass g c =
    let p = c.args.pass.now in
    let same : c.lift_words-words.new.pass.out ≡ p.out = ap (λ (r : Pass). r.out) c.lift_words-words.ensures.lifted in
    record { fits = subst (λ n. n + 1 < 2 ^ 32) (sym same) (out-small c.args.self.now p c.args.block.place c.args.block.need c.requires.of c.requires.owned) }

pub returns : goal.returns
returns g c =
    let h = c.args.self.now in
    let p = c.args.pass.now in
    let b = c.args.block in
    let words = c.lift_words-words.result in
    let x = c.lift_words-words.ensures in
    let ns = numbers words.places in
    let l = c.lift_words-words.new.pass in
    let q : Pass = record { seat = l.seat; errand = l.errand; out = l.out + 1 } in
    let same : taken_by p b.place b.need ns ≡ q = sym (ap (λ (r : Pass). let s : Pass = record { seat = r.seat; errand = r.errand; out = r.out + 1 } in s) x.lifted) in
    let T : Pass → Type 0 = λ r.
    IsOf h r × (before_taking r b.place ≡ p) × ((other : Block) → Owns p other → other.place ≢ b.place → Owns r other)
    × ((view r).lent ≡ lent_block b.place b.need ns ∷ (view p).lent) × (seen r ≡ seen p) × (accesses r ≡ accesses p) × IsIdle r.errand in
    let t : T q =
    subst T same (
      of-taken h p b.place b.need ns c.requires.of c.requires.idle c.requires.owned,
      was-before h p b.place b.need ns c.requires.of c.requires.idle c.requires.owned,
      (λ other owns else. owns-else h p b.place b.need ns c.requires.of c.requires.idle c.requires.owned other.place other.need owns else),
      refl,
      refl,
      refl,
      c.requires.idle,
    ) in
    record {
      of = t.0;
      idle = t.6;
      memory = x.words;
      block = refl;
      aligned =
          payload-odd p.errand.geometry b.place words.first b.need (heap-at h p b.place b.need c.requires.of c.requires.owned.0) x.words.first;
      last = t.3;
      taken = (0, lent_block b.place b.need ns, ap (λ (m : List Lent). get_elem? m 0) t.3, refl, refl);
      before = t.1;
      keeps = t.2;
      others = λ other has. (suc has.0, has.1, ap (λ (m : List Lent). get_elem? m (suc has.0)) t.3 ∙ has.2, has.3, has.4);
      seen = t.4;
      told = x.told;
      accesses = t.5;
    }
