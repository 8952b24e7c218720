use Rattle.std.proofs.Common.{w32, to_z, of_z, ℕ, ◌≡◌, Option, Result}
use Rattle.balloc_c.specs.declared.hand.Hand.{Hand}
use Rattle.balloc_c.specs.declared.refusal.Refusal.{Refusal}
use Rattle.balloc_c.specs.Codes.{resumed_code, resumed_number}
use Rattle.balloc_c.specs.Hands.{heap_of}
use Rattle.balloc_c.specs.Outcomes.{HasResumed, Makes}
use Rattle.balloc_c.proofs.ToldLemmas.{shown_resumed, told as made}
use Rattle.balloc_c.proofs.balloc_resume.Goals as goal

pub returns-in-Some : goal.returns-in-Some
returns-in-Some c =
    record {
      told = made (λ (before : Hand). Makes (λ s t. HasResumed (heap_of before) s t) before)
          (λ (outcome : Result (Option ℕ) Refusal). (to_z w32 (of_z w32 c.code_resumed.result) ≡ resumed_code outcome)
          × (c.code_resumed.new.out ≡ resumed_number outcome c.args.id.now))
          c.args.pass.now.held.hand c.in-Some.hand.now c.resume-outcome.new.self c.resume-outcome.result c.in-Some.ensures.value
          (shown_resumed c.resume-outcome.result c.code_resumed.result c.code_resumed.ensures.code, c.code_resumed.ensures.value) c.resume-outcome.ensures;
    }
