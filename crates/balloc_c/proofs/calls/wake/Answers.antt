use Rattle.std.proofs.Common.{refl, sym, ◌∙◌, ◌≤◌, subst}
use Rattle.heap_geometry.specs.declared.need.Need.{Need}
use Rattle.heap_geometry.specs.Need.{usable_words}
use Rattle.balloc_c.specs.declared.kept.Kept.TheVariants as kept
use Rattle.balloc_c.specs.Laid.{slot_of}
use Rattle.balloc_c.specs.Tended.{Stands}
use Rattle.balloc_c.proofs.Enough.{need-enough}
use Rattle.balloc_c.proofs.LaidLemmas.{turned-tends}
use Rattle.balloc_c.proofs.calls.wake.Goals as goal

pub returns-clause-tends : goal.returns-clause-tends
returns-clause-tends c =
    let h = c.args._heap.now in
    let s = c.args._cache.now in
    let t = c.args.table.now in
    let first = slot_of t.resting c.args.class in
    let woken = c.wake.ensures.woken in
    turned-tends h s t.slots.items c.wake.new.self.slots.items first (kept.Resting woken.0) (kept.Home woken.0) c.requires.tends woken.1.there woken.2 refl
    (subst (Stands h s.pass) woken.1.there (c.requires.tends.stand first))

pub returns-clause-count : goal.returns-clause-count
returns-clause-count c = c.wake.ensures.woken.2.count

pub returns-clause-woken : goal.returns-clause-woken
returns-clause-woken c =
    let woken = c.wake.ensures.woken in
    let words = c.requires.words in
    record {
      idle = c.requires.idle;
      block = woken.0;
      ready = record { class = c.args.class; small = words.1; ready = woken.1 };
      enough = subst (λ (n : Need). c.args._words ≤ usable_words n) (words.1 ∙ sym woken.1.serves) (need-enough c.args._words words.0);
      again = woken.3;
      still = refl;
    }
