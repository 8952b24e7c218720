use Rattle.std.proofs.Common.{◌≡◌, ◌-◌, ◌*◌, ◌++◌, [], ◌∷◌, ◌∙◌, arith, length, sym, refl}
use Rattle.heap_geometry.specs.Need.{usable_words}
use Rattle.memory_cache.specs.Pages.{first_of}
use Rattle.memory_cache.proofs.PageLemmas.{joined-here, last-begins, last-here, last-home, last-left, last-next, whole-room}
use Rattle.memory_cache.proofs.page.Page.into_memory.Goals as goal

pub join-words-requires : goal.join-words-requires
join-words-requires g c =
    let p = c.args.self in
    let i = c.loop-slot.invariant in
    let slots = c.loop-slot.slots.items in
    let less = c.pop.new.self.items in
    let splits : slots ≡ less ++ c.in-Some.slot ∷ [] = c.in-Some.ensures.items in
    let here = last-here g.h p slots less c.in-Some.slot c.requires.0 i.slots splits c.in-Home.piece _ c.in-Home.is in
    (i.words.at ∙ sym here.at, omega (arith, i.words.begins, here.begins, here.long, last-next g.h p slots less c.in-Some.slot c.requires.0 i.slots splits))

pub loop-slot-preserved : goal.loop-slot-preserved
loop-slot-preserved g c =
    let p = c.args.self in
    let i = c.loop-slot.invariant in
    let slots = c.loop-slot.slots.items in
    let less = c.pop.new.self.items in
    let splits : slots ≡ less ++ c.in-Some.slot ∷ [] = c.in-Some.ensures.items in
    let here = last-here g.h p slots less c.in-Some.slot c.requires.0 i.slots splits c.in-Home.piece _ c.in-Home.is in
    let x = c.join-words.ensures in
    record {
      place = refl;
      need = refl;
      slots = last-begins g.h p slots less c.in-Some.slot c.requires.0 i.slots splits;
      words =
          joined-here g.h (first_of p (length less)) (usable_words p.need - length less * p.size) p.size (first_of p (length slots)) (usable_words p.need - length slots * p.size)
          c.in-Home.piece c.loop-slot.words c.join-words.result (last-next g.h p slots less c.in-Some.slot c.requires.0 i.slots splits)
          (last-left g.h p slots less c.in-Some.slot c.requires.0 i.slots splits) here i.words x.0 x.1 x.2;
    }

pub unreachable-requires : goal.unreachable-requires
unreachable-requires g c =
    let p = c.args.self in
    let i = c.loop-slot.invariant in
    let slots = c.loop-slot.slots.items in
    let less = c.pop.new.self.items in
    let splits : slots ≡ less ++ c.in-Some.slot ∷ [] = c.in-Some.ensures.items in
    let home = last-home g.h p slots less c.in-Some.slot c.requires.0 i.slots splits c.requires.1 in
    home c.in_default-slot.is

pub returns-clause-room : goal.returns-clause-room
returns-clause-room g c =
    let i = c.loop-slot.invariant in
    let none : length c.loop-slot.slots.items ≡ 0 = let cases = c.in_default.ensures.cases in omega (arith, cases.0, c.loop-slot.slots.ok.0) in
    whole-room g.h c.args.self (length c.loop-slot.slots.items) c.loop-slot.words c.of_words.result none i.words c.of_words.ensures.words c.of_words.ensures.block.0 c.of_words.ensures.block.1
