use Rattle.std.proofs.Common.{rules, ◌≡◌, [], false, Ok, Err, inl, inr}
use Rattle.errand_steps.specs.Begins.{IsIdle}
use Rattle.live_heap.specs.declared.answers.FreeAnswer.TheVariants as free_answer
use Rattle.balloc_c.specs.declared.refusal.Refusal.TheVariants as refusal
use Rattle.balloc_c.specs.Closed.{Empties, has_out, leave_bar}
use Rattle.balloc_c.specs.Slots.{blocks_of}
use Rattle.balloc_c.specs.Through.{IsFlush}
use Rattle.balloc_c.proofs.BarLemmas.{makes}
use Rattle.balloc_c.proofs.LeaveLemmas.{leave-made}
use Rattle.balloc_c.proofs.Tending.{bare-holds, holds-bare}
use Rattle.balloc_c.proofs.calls.free_all.Goals as goal

pub returns-in-Busy-clause-answers : goal.returns-in-Busy-clause-answers
returns-in-Busy-clause-answers c =
    let s = c.args.cache.now in
    let t = c.args.table.now in
    let idle : IsIdle s.pass.errand = search rules in
    let home : has_out t.slots.items ≡ false = search rules in
    makes (leave_bar s.pass t) (Empties s t) s t (Err refusal.Interrupted) c.free_slots.new.cache c.free_slots.new.table
    (leave-made s.pass t idle home) (inl c.in-Busy.ensures.freed)

pub returns-in-Freed-flush-clause-tends : goal.returns-in-Freed-flush-clause-tends
returns-in-Freed-flush-clause-tends c =
    let h = c.args.heap.now in
    let slots = c.free_slots.new.table.slots.items in
    let bare : blocks_of slots ≡ [] = c.in-Freed.ensures.freed.1 in
    let idle : IsIdle c.free_slots.new.cache.pass.errand = search rules in
    holds-bare h c.flush.new.self slots c.flush.ensures.cache
    (c.flush.ensures.holds [] (bare-holds h c.free_slots.new.cache slots c.free_slots.ensures.tends idle bare)) bare

pub returns-in-Freed-flush-clause-answers : goal.returns-in-Freed-flush-clause-answers
returns-in-Freed-flush-clause-answers c =
    let s = c.args.cache.now in
    let t = c.args.table.now in
    let idle : IsIdle s.pass.errand = search rules in
    let home : has_out t.slots.items ≡ false = search rules in
    let told : IsFlush c.free_slots.new.cache free_answer.Freed c.flush.new.self = record {
      heap = c.args.heap.now;
      of = c.free_slots.ensures.tends.cache.hand.of;
      tells = c.in-Freed-flush.ensures.tells;
      depth = c.flush.ensures.depth;
      hits = c.flush.ensures.hits;
    } in
    makes (leave_bar s.pass t) (Empties s t) s t (Ok tt) c.flush.new.self c.free_slots.new.table
    (leave-made s.pass t idle home) (c.free_slots.new.cache, c.in-Freed.ensures.freed, told)

pub returns-in-Busy-flush-clause-tends : goal.returns-in-Busy-flush-clause-tends
returns-in-Busy-flush-clause-tends c =
    let h = c.args.heap.now in
    let slots = c.free_slots.new.table.slots.items in
    let bare : blocks_of slots ≡ [] = c.in-Freed.ensures.freed.1 in
    let idle : IsIdle c.free_slots.new.cache.pass.errand = search rules in
    holds-bare h c.flush.new.self slots c.flush.ensures.cache
    (c.flush.ensures.holds [] (bare-holds h c.free_slots.new.cache slots c.free_slots.ensures.tends idle bare)) bare

pub returns-in-Busy-flush-clause-answers : goal.returns-in-Busy-flush-clause-answers
returns-in-Busy-flush-clause-answers c =
    let s = c.args.cache.now in
    let t = c.args.table.now in
    let idle : IsIdle s.pass.errand = search rules in
    let home : has_out t.slots.items ≡ false = search rules in
    let told : IsFlush c.free_slots.new.cache free_answer.Busy c.flush.new.self = record {
      heap = c.args.heap.now;
      of = c.free_slots.ensures.tends.cache.hand.of;
      tells = c.in-Busy-flush.ensures.tells;
      depth = c.flush.ensures.depth;
      hits = c.flush.ensures.hits;
    } in
    makes (leave_bar s.pass t) (Empties s t) s t (Err refusal.Interrupted) c.flush.new.self c.free_slots.new.table
    (leave-made s.pass t idle home) (inr (c.free_slots.new.cache, c.in-Freed.ensures.freed, told))
