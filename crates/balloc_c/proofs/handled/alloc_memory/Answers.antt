use Rattle.std.proofs.Common.{ℕ, ◌≡◌, Result}
use Rattle.balloc_c.specs.declared.refusal.Refusal.{Refusal}
use Rattle.balloc_c.specs.Codes.{value_in, word_in}
use Rattle.balloc_c.specs.Hands.{heap_of}
use Rattle.balloc_c.specs.Lending.{AllocatesMemory, NothingWhere}
use Rattle.balloc_c.specs.Outcomes.{Makes}
use Rattle.balloc_c.proofs.MemoryCalls.{alloc-nothing}
use Rattle.balloc_c.proofs.ToldLemmas.{told as made}
use Rattle.balloc_c.proofs.handled.alloc_memory.Goals as goal

pub returns-in-Some : goal.returns-in-Some
returns-in-Some c =
    let r = c.alloc_memory.result in
    let e = c.alloc_memory.ensures in
    let hand = c.in-Some.hand.now in
    let next = c.alloc_memory.new.self in
    made (λ before. Makes (λ s t answer d u. AllocatesMemory (heap_of before) s t c.args.bytes answer r.memory r.words d u) before)
    (λ (outcome : Result ℕ Refusal). (r.code ≡ word_in outcome) × (c.alloc_memory.new.id ≡ value_in outcome c.args.id.now) × NothingWhere outcome r.memory r.words)
    c.args.pass.now.held.hand hand next e.0 c.in-Some.ensures.value
    (e.1, e.2, alloc-nothing (heap_of hand) hand.cache hand.table c.args.bytes e.0 r.memory r.words next.cache next.table e.3.0) e.3
