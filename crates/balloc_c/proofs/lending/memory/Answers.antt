use Rattle.std.proofs.Common.{rules, ◌≡◌, true, false, Some, None, Ok, Err, refl, sym, ◌∙◌, subst}
use Rattle.errand_steps.specs.Points.{is_idle}
use Rattle.balloc_c.specs.declared.kept.Kept.TheVariants as kept
use Rattle.balloc_c.specs.declared.refusal.Refusal.TheVariants as refusal
use Rattle.balloc_c.specs.Numbers.{named}
use Rattle.balloc_c.specs.Outcomes.{barred, names_none}
use Rattle.balloc_c.specs.Slots.{block_at}
use Rattle.balloc_c.specs.Tended.{Stands}
use Rattle.balloc_c.proofs.BarLemmas.{in-call, no-block}
use Rattle.balloc_c.proofs.LendingLemmas.{home-slot, out-slot}
use Rattle.balloc_c.proofs.MemoryCalls.{memory-again, memory-answers, memory-refused}
use Rattle.balloc_c.proofs.Packing.{few-same}
use Rattle.balloc_c.proofs.Numbers.{found-seen}
use Rattle.balloc_c.proofs.lending.memory.Goals as goal

pub returns-then-not-idle-clause-answers : goal.returns-then-not-idle-clause-answers
returns-then-not-idle-clause-answers c =
    let s = c.args.cache.now in
    let t = c.args.table.now in
    let n = c.args.number in
    let r = c.none in
    let busy : is_idle s.pass.errand.point ≡ false = search rules in (
      Err refusal.InCall,
      r.ensures.1 ∙ c.word.ensures,
      memory-refused c.args.heap.now s t n refusal.InCall r.result.memory r.result.words
          (in-call s.pass (barred (names_none t n) refusal.NoBlock None) busy) r.ensures.0 r.ensures.2,
    )

pub returns-in_default-clause-answers : goal.returns-in_default-clause-answers
returns-in_default-clause-answers c =
    let s = c.args.cache.now in
    let t = c.args.table.now in
    let n = c.args.number in
    let r = c.none-in_default in
    let idle : is_idle s.pass.errand.point ≡ true = search rules in
    let none : named t n ≡ None = c.in_default.ensures.lost refl in (
      Err refusal.NoBlock,
      r.ensures.1 ∙ c.word-in_default.ensures,
      memory-refused c.args.heap.now s t n refusal.NoBlock r.result.memory r.result.words
          (no-block s.pass t n None idle none) r.ensures.0 r.ensures.2,
    )

pub told_again-requires-clause-out : goal.told_again-requires-clause-out
told_again-requires-clause-out c =
    let s = c.args.cache.now in
    let out = out-slot (block_at c.args.table.now.slots.items c.in-Some.index) (sym c.is_out.ensures ∙ c.if-is_out.true) in
    let stands : Stands c.args.heap.now s.pass (Some (kept.Out out.0)) =
    subst (Stands c.args.heap.now s.pass) out.1 (c.requires.tends.stand c.in-Some.index) in
    (out.0, out.1, stands.1)

pub returns-then-is_out-clause-answers : goal.returns-then-is_out-clause-answers
returns-then-is_out-clause-answers c =
    let r = c.told_again in
    let m = r.ensures.memory in
    let idle : is_idle c.args.cache.now.pass.errand.point ≡ true = search rules in (
      Ok tt,
      r.ensures.code,
      memory-again c.args.heap.now c.args.cache.now c.args.table.now c.args.number r.result.memory r.result.words m.0 idle
          (c.in-Some.ensures.found.2 ∙ m.1) m.2 r.ensures.words,
    )

pub go_out-requires-clause-home : goal.go_out-requires-clause-home
go_out-requires-clause-home c =
    home-slot (block_at c.args.table.now.slots.items c.in-Some.index)
    (found-seen c.args.table.now c.args.number c.in-Some.index c.in-Some.ensures.found.1 c.in-Some.ensures.found.3) (sym c.is_out.ensures ∙ c.if-is_out.false)

pub returns-clause-few : goal.returns-clause-few
returns-clause-few c = few-same c.args.table.now c.go_out.new.table c.go_out.ensures.count

pub returns-clause-answers : goal.returns-clause-answers
returns-clause-answers c =
    let s = c.args.cache.now in
    let t = c.args.table.now in
    let n = c.args.number in
    let r = c.go_out in
    let idle : is_idle s.pass.errand.point ≡ true = search rules in
    let home = home-slot (block_at t.slots.items c.in-Some.index)
    (found-seen c.args.table.now c.args.number c.in-Some.index c.in-Some.ensures.found.1 c.in-Some.ensures.found.3) (sym c.is_out.ensures ∙ c.if-is_out.false) in
    let out = r.ensures.out in (
      Ok tt,
      r.ensures.code,
      memory-answers c.args.heap.now s t n r.result.memory r.result.words home.0 out.0 r.new.cache r.new.table idle
          (c.in-Some.ensures.found.2 ∙ home.1) out.1 out.2 out.3,
    )
