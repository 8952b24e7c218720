use Rattle.std.proofs.Common.{None, Ok, refl, sym, ◌∙◌, subst, inl, inr}
use Rattle.balloc_c.specs.Laid.{HasRoomFor}
use Rattle.balloc_c.specs.Lending.{KeepsBack}
use Rattle.balloc_c.proofs.MemoryCalls.{nothing-left}
use Rattle.balloc_c.proofs.Packing.{few-same}
use Rattle.balloc_c.proofs.lending.free_whole.Goals as goal

pub free_here-requires-clause-at : goal.free_here-requires-clause-at
free_here-requires-clause-at c =
    let room = c.in-Some.ensures.room in (
      room.2.0,
      record {
        within = c.requires.within;
        is = c.requires.is;
        here = room.2.1;
        names = c.requires.named ∙ room.2.1;
        small = room.2.2;
        bound = room.0;
        some = room.1;
      },
    )

pub returns-in-Some-clause-few : goal.returns-in-Some-clause-few
returns-in-Some-clause-few c = few-same c.args.table.now c.free_here.new.table c.free_here.ensures.count

pub returns-in-Some-clause-answers : goal.returns-in-Some-clause-answers
returns-in-Some-clause-answers c =
    let r = c.free_here in (
      Ok tt,
      r.ensures.code,
      nothing-left (Ok tt) r.result.words r.ensures.words,
      inl (subst (λ left. KeepsBack c.args.cache.now c.args.table.now c.args.number None (Ok tt) left c.args.cache.now r.new.table) (sym r.ensures.words) r.ensures.kept),
    )

pub returns-in-None-clause-answers : goal.returns-in-None-clause-answers
returns-in-None-clause-answers c =
    let h = c.args.heap.now in
    let outcome = c.free_home.result in
    let r = c.none in (
      outcome,
      r.ensures.1 ∙ c.word.ensures,
      nothing-left outcome r.result.words r.ensures.2,
      inr (
        (λ rests. subst (λ slot. ¬ HasRoomFor c.args.table.now slot) (sym c.requires.named) (c.in-None.ensures.none refl)),
        (r.ensures.2, c.free_home.ensures.answers),
      ),
    )
