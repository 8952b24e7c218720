use Rattle.std.proofs.Common.{ℕ, ◌≡◌, ◌≤◌, ◌%◌, ◌^◌, Ok, Err, refl, sym, ◌∙◌, subst}
use Rattle.heap_geometry.specs.Need.{usable_words}
use Rattle.live_heap.specs.declared.block.Block.{Block}
use Rattle.balloc_c.specs.declared.kept.Kept.TheVariants as kept
use Rattle.balloc_c.specs.Lending.{words_for}
use Rattle.balloc_c.specs.Outcomes.{HasAllocated}
use Rattle.balloc_c.proofs.Enough.{bytes-enough}
use Rattle.balloc_c.proofs.LendingLemmas.{same-home}
use Rattle.balloc_c.proofs.MemoryCalls.{has-given}
use Rattle.balloc_c.proofs.Numbers.{slot-named}
use Rattle.balloc_c.proofs.Packing.{few-before}
use Rattle.balloc_c.proofs.Tending.{within-of}
use Rattle.balloc_c.proofs.lending.alloc_new.Goals as goal

pub go_out-requires-clause-idle : goal.go_out-requires-clause-idle
go_out-requires-clause-idle c =
    (has-given c.args.cache.now c.args.table.now c.least_words.result c.in-Ok.number c.alloc.new.cache c.alloc.new.table c.in-Ok.ensures.answers).idle

pub go_out-requires-clause-within : goal.go_out-requires-clause-within
go_out-requires-clause-within c =
    let g = has-given c.args.cache.now c.args.table.now c.least_words.result c.in-Ok.number c.alloc.new.cache c.alloc.new.table c.in-Ok.ensures.answers in
    let n = c.in-Ok.number in
    within-of c.alloc.new.table.slots.items (n % 2 ^ 32) (kept.Home g.block)
    (sym (slot-named c.alloc.new.table n (n % 2 ^ 32) (kept.Home g.block) refl g.names.here) ∙ g.names.here)

pub go_out-requires-clause-home : goal.go_out-requires-clause-home
go_out-requires-clause-home c =
    let g = has-given c.args.cache.now c.args.table.now c.least_words.result c.in-Ok.number c.alloc.new.cache c.alloc.new.table c.in-Ok.ensures.answers in
    let n = c.in-Ok.number in
    (g.block, sym (slot-named c.alloc.new.table n (n % 2 ^ 32) (kept.Home g.block) refl g.names.here) ∙ g.names.here)

pub go_out-requires-clause-named : goal.go_out-requires-clause-named
go_out-requires-clause-named c =
    let g = has-given c.args.cache.now c.args.table.now c.least_words.result c.in-Ok.number c.alloc.new.cache c.alloc.new.table c.in-Ok.ensures.answers in
    slot-named c.alloc.new.table c.in-Ok.number (c.in-Ok.number % 2 ^ 32) (kept.Home g.block) refl g.names.here

pub returns-in-Ok-clause-few : goal.returns-in-Ok-clause-few
returns-in-Ok-clause-few c = few-before c.args.table.now c.alloc.new.table c.go_out.new.table c.alloc.ensures.few c.go_out.ensures.count

pub returns-in-Ok-clause-answers : goal.returns-in-Ok-clause-answers
returns-in-Ok-clause-answers c =
    let s = c.args.cache.now in
    let t = c.args.table.now in
    let e = c.alloc.new.cache in
    let v = c.alloc.new.table in
    let number = c.in-Ok.number in
    let words = c.least_words.ensures in
    let allocated : HasAllocated s t (words_for c.args.bytes) (Ok number) e v =
    subst (λ (n : ℕ). HasAllocated s t n (Ok number) e v) words c.in-Ok.ensures.answers in
    let g = has-given s t (words_for c.args.bytes) number e v allocated in
    let out = c.go_out.ensures.out in
    let same : g.block ≡ out.0.block = same-home g.block out.0.block (sym g.names.here ∙ out.3.was) in
    let enough : words_for c.args.bytes ≤ usable_words out.0.block.need =
    subst (λ (b : Block). words_for c.args.bytes ≤ usable_words b.need) same g.enough in (
      Ok number,
      c.go_out.ensures.code,
      refl,
      (e, v, allocated, out.0, out.1, out.2, bytes-enough c.args.bytes (usable_words out.0.block.need) g.few enough, out.3),
    )

pub returns-in-Err-clause-answers : goal.returns-in-Err-clause-answers
returns-in-Err-clause-answers c =
    let s = c.args.cache.now in
    let t = c.args.table.now in
    let d = c.alloc.new.cache in
    let u = c.alloc.new.table in
    let cause = c.in-Err.cause in (
      Err cause,
      c.none.ensures.1 ∙ c.word.ensures,
      refl,
      (c.none.ensures.0, c.none.ensures.2, subst (λ (n : ℕ). HasAllocated s t n (Err cause) d u) c.least_words.ensures c.in-Err.ensures.answers),
    )
