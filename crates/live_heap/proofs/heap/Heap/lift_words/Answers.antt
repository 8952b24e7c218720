use Rattle.std.proofs.Common.{sym, ap, ◌∙◌}
use Rattle.plain_words.specs.Places.{numbers}
use Rattle.atomic_region.specs.Owned.{RegionId}
use Rattle.atomic_region.specs.Region.{Me}
use Rattle.live_heap.specs.declared.view.View.{View}
use Rattle.live_heap.specs.Memory.{lifted_from}
use Rattle.live_heap.specs.Pieces.{caller_mark, mark_place}
use Rattle.live_heap.proofs.LayLemmas.{only-range}
use Rattle.live_heap.proofs.Lifting.{lifted-is}
use Rattle.live_heap.proofs.Taking.{first-lent, lends-own, long-lent, numbers-laids, told-lent, view-lent, words-lent}
use Rattle.live_heap.proofs.heap.Heap.lift_words.Goals as goal

pub lend-requires-clause-mark : goal.lend-requires-clause-mark
lend-requires-clause-mark g c =
    let h = c.args.self.now in
    c.caller_mark-mark.ensures.place ∙ ap (λ n. mark_place h.layout (caller_mark h.layout n)) c.caller.ensures.value

pub lend-requires-clause-may : goal.lend-requires-clause-may
lend-requires-clause-may g c = lends-own c.args.self.now c.args.pass.now c.args.place c.args.need c.requires.of c.requires.idle c.requires.owned

pub lift-requires : goal.lift-requires
lift-requires g c = only-range c.lend.new.seat.me _ _ (ap (λ (m : Me View). m.1) c.lend.ensures.lent.3)

pub returns : goal.returns
returns g c =
    let p = c.args.pass.now in
    let place = c.args.place in
    let need = c.args.need in
    let lent = c.lend.ensures.lent in
    let lift = c.lift.ensures in
    let words = c.lift.result in
    let seat = c.lift.new.self in
    let me = lift.seat.2 ∙ view-lent p place need c.lend.new.seat.me lent words.first words.places lift.words.1 in
    let places = words-lent p place need c.lend.new.seat.me lent words.first words.places lift.words.1 in
    let same = lifted-is p place need lent.0 seat (lift.seat.0 ∙ c.lend.ensures.seat.0) (lift.seat.1 ∙ c.lend.ensures.seat.1) me in
    record {
      words = record {
        at = lift.words.0 ∙ ap (λ (i : RegionId). i.at) (c.lend.ensures.seat.0 ∙ c.requires.of.table);
        first = first-lent p place need c.lend.new.seat.me lent words.first words.places lift.words.1;
        long = long-lent p place need c.lend.new.seat.me lent words.first words.places lift.words.1;
        laid = (lent.0, places);
      };
      lifted = sym same ∙ ap (lifted_from p place need) (sym (ap numbers places ∙ numbers-laids lent.0));
      told = told-lent p place need c.lend.new.seat.me lent words.first words.places lift.words.1;
    }
