use Rattle.std.proofs.Common.{◌≡◌, Ok, refl, sym, ◌∙◌, subst, inl, inr}
use Rattle.balloc_c.specs.Laid.{HasRoomFor}
use Rattle.balloc_c.specs.Lending.{FreesHome, IsRoomFor, KeepsBack}
use Rattle.balloc_c.specs.declared.lent.LentBlock.{LentBlock}
use Rattle.balloc_c.proofs.LendingLemmas.{same-lent}
use Rattle.balloc_c.proofs.MemoryCalls.{nothing-left}
use Rattle.balloc_c.proofs.Packing.{few-same}
use Rattle.balloc_c.proofs.lending.free_lent.Goals as goal

pub room-requires-clause-out : goal.room-requires-clause-out
room-requires-clause-out c = (c.requires.words.0, c.requires.words.2)

pub free_out_here-requires-clause-at : goal.free_out_here-requires-clause-at
free_out_here-requires-clause-at c =
    let room = c.in-Some.ensures.room in
    let w = c.requires.words in
    let same : w.0 ≡ room.2.0 = same-lent w.0 room.2.0 (sym w.2 ∙ room.2.1) in (
      room.2.0,
      record {
        within = c.requires.within;
        is = c.requires.is;
        here = room.2.1;
        names = c.requires.named ∙ room.2.1;
        small = room.2.2;
        bound = room.0;
        some = room.1;
      },
      w.1,
      w.3,
      subst (λ (l : LentBlock). IsRoomFor c.args.heap.now l w.1) same w.4,
    )

pub returns-in-Some-clause-few : goal.returns-in-Some-clause-few
returns-in-Some-clause-few c = few-same c.args.table.now c.free_out_here.new.table c.free_out_here.ensures.count

pub returns-in-Some-clause-answers : goal.returns-in-Some-clause-answers
returns-in-Some-clause-answers c =
    let r = c.free_out_here in (
      Ok tt,
      r.ensures.code,
      nothing-left (Ok tt) r.result.words r.ensures.words,
      inl (subst (λ left. KeepsBack c.args.cache.now c.args.table.now c.args.number c.args.back.words (Ok tt) left c.args.cache.now r.new.table)
          (sym r.ensures.words) r.ensures.kept),
    )

pub returns-in-None-clause-answers : goal.returns-in-None-clause-answers
returns-in-None-clause-answers c =
    let h = c.args.heap.now in
    let outcome = c.free_out.result in
    let r = c.none in (
      outcome,
      r.ensures.1 ∙ c.word.ensures,
      nothing-left outcome r.result.words r.ensures.2,
      inr (
        (λ rests. subst (λ slot. ¬ HasRoomFor c.args.table.now slot) (sym c.requires.named) (c.in-None.ensures.none refl)),
        subst (λ left. FreesHome h c.args.cache.now c.args.table.now c.args.number c.args.back.words outcome left c.free_out.new.cache c.free_out.new.table)
            (sym r.ensures.2) c.free_out.ensures.answers,
      ),
    )
