use Rattle.std.proofs.Common.{◌≡◌, ◌≤◌, ◌∙◌, sym, ap, subst, inl, inr}
use Rattle.heap_geometry.specs.Need.{need_of, usable_words}
use Rattle.live_heap.specs.declared.block.Block.{Block}
use Rattle.live_heap.specs.declared.pass.Pass.{Pass}
use Rattle.live_heap.specs.declared.plain.Memory.{Memory}
use Rattle.live_heap.specs.declared.answers.AllocAnswer.TheVariants as alloc_answer
use Rattle.live_heap.specs.Answers.{AllocTells}
use Rattle.live_heap.specs.Memory.{HasTaken, before_taking}
use Rattle.plain_words.specs.Places.{numbers}
use Rattle.live_heap.proofs.laws_for_builders.Giving.{given-enough}
use Rattle.memory_cache.specs.Rooms.{IsRoomOf}
use Rattle.memory_cache.specs.Settled.{HasAllOutBut}
use Rattle.memory_cache.proofs.RoomLemmas.{room-of}
use Rattle.memory_cache.proofs.SettledLemmas.{at-once, given-settled, lent-only, refused-settled, spent-caller, spent-tells, taken-elsewhere, taken-on, taken-settled}
use Rattle.memory_cache.proofs.passes.allocate.Goals as goal

pub returns-in-Given-clause-pass : goal.returns-in-Given-clause-pass
returns-in-Given-clause-pass c =
    let h = c.args.heap.now in
    let p = c.args.pass.now in
    let q = c.alloc.new.pass in
    let t = c.in-Given.ensures.tells in
    let x = c.take_out.ensures in
    let m = c.take_out.result in
    let block = c.in-Given.block in
    let but = given-settled h p q c.args.words t.0.steps block c.requires.settled c.in-Given.ensures.of t.0.called t.1 in
    let same : m.block.place ≡ block.place = ap (λ (b : Block). b.place) x.block in
    inl (taken-settled h q c.take_out.new.pass m (numbers m.words.places)
    (subst (HasAllOutBut q) (sym same) but.out) x.of x.idle x.last
    (ap (before_taking c.take_out.new.pass) same ∙ x.before) x.seen)

pub returns-in-Given-clause-given : goal.returns-in-Given-clause-given
returns-in-Given-clause-given c memory is =
    let x = c.take_out.ensures in
    let m = c.take_out.result in
    let same : m ≡ memory = cc in
    let serves : m.block.need ≡ need_of c.args.words = ap (λ (b : Block). b.need) x.block ∙ c.in-Given.ensures.tells.0.called.ended.serves in
    let called = c.in-Given.ensures.tells.0.called in
    let enough : c.args.words ≤ usable_words m.block.need =
    subst (λ (b : Block). c.args.words ≤ usable_words b.need) (sym x.block) (given-enough _ _ _ _ _ _ called) in
    let P : Memory → Type 0 = λ k.
    IsRoomOf c.args.heap.now k × HasTaken c.take_out.new.pass k × (k.block.need ≡ need_of c.args.words)
    × (c.args.words ≤ usable_words k.block.need) in
    subst P same (room-of c.args.heap.now m x.memory, x.taken, serves, enough)

pub returns-in-Given-clause-keeps : goal.returns-in-Given-clause-keeps
returns-in-Given-clause-keeps c other taken =
    let block = c.in-Given.block in
    let t = c.in-Given.ensures.tells in
    let there : c.take_out.result.block.place ≡ block.place = ap (λ (b : Block). b.place) c.take_out.ensures.block in (
      c.take_out.ensures.others other (taken-on c.args.pass.now c.alloc.new.pass other t.0.called.lent taken),
      λ here. taken-elsewhere c.args.pass.now c.alloc.new.pass block.place other t.0.called.lent t.1.1 taken (here ∙ there),
    )

pub returns-in-Given-clause-only : goal.returns-in-Given-clause-only
returns-in-Given-clause-only c other taken ne =
    let p = c.args.pass.now in
    let q = c.alloc.new.pass in
    let m = c.take_out.result in
    taken-on q p other (sym c.in-Given.ensures.tells.0.called.lent)
    (lent-only q c.take_out.new.pass m other (numbers m.words.places) c.take_out.ensures.last taken ne)

pub returns-in-Given-clause-tells : goal.returns-in-Given-clause-tells
returns-in-Given-clause-tells c =
    let p = c.args.pass.now in
    let r = c.take_out.new.pass in
    let words = c.args.words in
    let tries = c.args.tries in
    let block = c.in-Given.block in
    let tells : AllocTells p words tries (alloc_answer.Given block) (before_taking r block.place) =
    subst (AllocTells p words tries (alloc_answer.Given block)) (sym c.take_out.ensures.before) c.in-Given.ensures.tells in
    record {
      settled = p;
      has_settled = at-once c.args.heap.now p tries c.requires.settled;
      tells =
          subst (λ (b : Block). AllocTells p words tries (alloc_answer.Given b) (before_taking r b.place)) (sym c.take_out.ensures.block) tells;
    }

pub returns-in-Refused-clause-pass : goal.returns-in-Refused-clause-pass
returns-in-Refused-clause-pass c =
    let t = c.in-Refused.ensures.tells in
    inl (refused-settled c.args.heap.now c.args.pass.now c.alloc.new.pass c.args.words t.steps c.requires.settled c.in-Refused.ensures.of t.called)

pub returns-in-Refused-clause-tells : goal.returns-in-Refused-clause-tells
returns-in-Refused-clause-tells c =
    record {
      settled = c.args.pass.now;
      has_settled = at-once c.args.heap.now c.args.pass.now c.args.tries c.requires.settled;
      tells = c.in-Refused.ensures.tells;
    }

pub returns-in-Spent-clause-pass : goal.returns-in-Spent-clause-pass
returns-in-Spent-clause-pass c =
    inl (spent-tells c.args.heap.now c.args.pass.now c.alloc.new.pass c.args.words c.args.tries c.requires.settled c.in-Spent.ensures.of c.in-Spent.ensures.tells).0

pub returns-in-Spent-clause-tells : goal.returns-in-Spent-clause-tells
returns-in-Spent-clause-tells c =
    let p = c.args.pass.now in (
      record { settled = p; has_settled = at-once c.args.heap.now p c.args.tries c.requires.settled; tells = c.in-Spent.ensures.tells },
      (spent-tells c.args.heap.now p c.alloc.new.pass c.args.words c.args.tries c.requires.settled c.in-Spent.ensures.of c.in-Spent.ensures.tells).1,
    )

pub returns-in-Busy-clause-tells : goal.returns-in-Busy-clause-tells
returns-in-Busy-clause-tells c =
    let p = c.args.pass.now in
    inr (record { settled = p; has_settled = at-once c.args.heap.now p c.args.tries c.requires.settled; tells = c.in-Busy.ensures.tells })

pub returns-in-Given-clause-caller : goal.returns-in-Given-clause-caller
returns-in-Given-clause-caller c =
    ap (λ (x : Pass). x.errand.caller) c.take_out.ensures.before ∙ c.in-Given.ensures.tells.0.called.caller

pub returns-in-Refused-clause-caller : goal.returns-in-Refused-clause-caller
returns-in-Refused-clause-caller c = c.in-Refused.ensures.tells.called.caller

pub returns-in-Spent-clause-caller : goal.returns-in-Spent-clause-caller
returns-in-Spent-clause-caller c = spent-caller c.args.pass.now c.alloc.new.pass c.args.words c.args.tries c.in-Spent.ensures.tells

pub returns-in-Busy-clause-caller : goal.returns-in-Busy-clause-caller
returns-in-Busy-clause-caller c = c.in-Busy.ensures.tells.calling.caller
