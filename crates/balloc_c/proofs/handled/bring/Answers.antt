use Rattle.std.proofs.Common.{◌≡◌, Result}
use Rattle.balloc_c.specs.declared.refusal.Refusal.{Refusal}
use Rattle.balloc_c.specs.Codes.{word_in}
use Rattle.balloc_c.specs.Hands.{heap_of}
use Rattle.balloc_c.specs.Lending.{BringsHome, StayOut}
use Rattle.balloc_c.specs.Outcomes.{Makes}
use Rattle.balloc_c.proofs.MemoryCalls.{back-of}
use Rattle.balloc_c.proofs.ToldLemmas.{told as made}
use Rattle.balloc_c.proofs.handled.bring.Goals as goal

pub bring-requires-clause-back : goal.bring-requires-clause-back
bring-requires-clause-back c =
    back-of c.args.pass.now.held.hand c.in-Some.hand.now c.args.id c.args.back.words c.in-Some.ensures.value c.requires.0

pub returns-in-Some : goal.returns-in-Some
returns-in-Some c =
    let r = c.bring.result in
    let e = c.bring.ensures in
    made (λ before. Makes (λ s t answer d u. BringsHome (heap_of before) s t c.args.id c.args.back.words answer r.words d u) before)
    (λ (outcome : Result (Unit {0}) Refusal). (r.code ≡ word_in outcome) × StayOut outcome r.words)
    c.args.pass.now.held.hand c.in-Some.hand.now c.bring.new.self e.0 c.in-Some.ensures.value (e.1, e.2) e.3
