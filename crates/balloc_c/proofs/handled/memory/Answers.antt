use Rattle.std.proofs.Common.{◌≡◌, Result}
use Rattle.balloc_c.specs.declared.refusal.Refusal.{Refusal}
use Rattle.balloc_c.specs.Codes.{word_in}
use Rattle.balloc_c.specs.Hands.{heap_of}
use Rattle.balloc_c.specs.Lending.{HasToldMemory, NothingWhere}
use Rattle.balloc_c.specs.Outcomes.{Makes}
use Rattle.balloc_c.proofs.ToldLemmas.{told as made}
use Rattle.balloc_c.proofs.handled.memory.Goals as goal

pub returns-in-Some : goal.returns-in-Some
returns-in-Some c =
    let r = c.memory.result in
    let e = c.memory.ensures in
    made (λ before. Makes (λ s t answer d u. HasToldMemory (heap_of before) s t c.args.id answer r.memory r.words d u) before)
    (λ (outcome : Result (Unit {0}) Refusal). (r.code ≡ word_in outcome) × NothingWhere outcome r.memory r.words)
    c.args.pass.now.held.hand c.in-Some.hand.now c.memory.new.self e.0 c.in-Some.ensures.value (e.1, e.2.0.1) e.2
