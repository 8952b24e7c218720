use Rattle.std.proofs.Common.{◌≡◌, Result}
use Rattle.balloc_c.specs.declared.refusal.Refusal.{Refusal}
use Rattle.balloc_c.specs.Codes.{word_in}
use Rattle.balloc_c.specs.Hands.{heap_of}
use Rattle.balloc_c.specs.Lending.{FreesBack, StayOut}
use Rattle.balloc_c.specs.Outcomes.{Makes}
use Rattle.balloc_c.proofs.MemoryCalls.{back-of}
use Rattle.balloc_c.proofs.ToldLemmas.{told as made}
use Rattle.balloc_c.proofs.handled.free.Goals as goal

pub free-requires-clause-back : goal.free-requires-clause-back
free-requires-clause-back c =
    back-of c.args.pass.now.held.hand c.in-Some.hand.now c.args.id c.args.back.words c.in-Some.ensures.value c.requires.0

pub returns-in-Some : goal.returns-in-Some
returns-in-Some c =
    let r = c.free.result in
    let e = c.free.ensures in
    made (λ before. Makes (λ s t answer d u. FreesBack (heap_of before) s t c.args.id c.args.back.words answer r.words d u) before)
    (λ (outcome : Result (Unit {0}) Refusal). (r.code ≡ word_in outcome) × StayOut outcome r.words)
    c.args.pass.now.held.hand c.in-Some.hand.now c.free.new.self e.0 c.in-Some.ensures.value (e.1, e.2) e.3
