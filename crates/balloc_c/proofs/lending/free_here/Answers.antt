use Rattle.std.proofs.Common.{ℕ, ◌≡◌, Some, refl, sym, ap, ◌∙◌, subst}
use Rattle.live_heap.specs.declared.block.Block.{Block}
use Rattle.balloc_c.specs.declared.kept.Kept.TheVariants as kept
use Rattle.balloc_c.specs.Laid.{first_of}
use Rattle.balloc_c.specs.Numbers.{number_at}
use Rattle.balloc_c.specs.Slots.{after_at}
use Rattle.balloc_c.specs.Tended.{Stands}
use Rattle.balloc_c.proofs.LaidLemmas.{turned-tends}
use Rattle.balloc_c.proofs.LendingLemmas.{same-home}
use Rattle.balloc_c.proofs.Numbers.{names-itself, some-not-none}
use Rattle.balloc_c.proofs.lending.free_here.Goals as goal

pub rest-requires-clause-is : goal.rest-requires-clause-is
rest-requires-clause-is c =
    let block = c.requires.at.0 in
    let at = c.requires.at.1 in
    let t = c.args.table.now in
    (at.is, ap (number_at t) at.is ∙ names-itself t c.args.number (λ none. some-not-none (kept.Home block) (sym at.names ∙ none)))

pub rest-requires-clause-within : goal.rest-requires-clause-within
rest-requires-clause-within c = c.requires.at.1.within

pub rest-requires-clause-class : goal.rest-requires-clause-class
rest-requires-clause-class c = (c.requires.at.1.bound, c.requires.at.1.some)

pub rest-requires-clause-home : goal.rest-requires-clause-home
rest-requires-clause-home c = (c.requires.at.0, c.requires.at.1.here, c.requires.at.1.small)

pub returns-clause-tends : goal.returns-clause-tends
returns-clause-tends c =
    let h = c.args._heap.now in
    let s = c.args._cache.now in
    let t = c.args.table.now in
    let rests = c.rest.ensures.rests in
    turned-tends h s t.slots.items c.rest.new.self.slots.items c.args.index (kept.Home rests.0) (kept.Resting rests.0) c.requires.tends
    rests.1 rests.2 refl (subst (Stands h s.pass) rests.1 (c.requires.tends.stand c.args.index))

pub returns-clause-count : goal.returns-clause-count
returns-clause-count c = c.rest.ensures.rests.2.count

pub returns-clause-kept : goal.returns-clause-kept
returns-clause-kept c =
    let block = c.requires.at.0 in
    let at = c.requires.at.1 in
    let t = c.args.table.now in
    let rests = c.rest.ensures.rests in
    let same : block ≡ rests.0 = same-home block rests.0 (sym at.here ∙ rests.1) in
    record {
      idle = c.requires.idle;
      room = record {
        it = kept.Home rests.0;
        is = at.names ∙ ap (λ (b : Block). Some (kept.Home b)) same;
        class = c.args.class;
        small = ap (λ (b : Block). b.need) (sym same) ∙ at.small;
        some = at.some;
      };
      now = kept.Resting rests.0;
      becomes = (refl, refl);
      made = refl;
      nothing = refl;
      less = c.rest.ensures.less (λ none. some-not-none (kept.Home block) (sym at.names ∙ none));
      ready = rests.3;
      fewer = c.rest.ensures.fewer;
      chain = subst (λ (k : ℕ). after_at c.rest.new.self.slots.items k ≡ first_of t.resting c.args.class) at.is c.rest.ensures.chain;
      still = refl;
    }
