use Rattle.std.proofs.Common.{w32, to_z, of_z, ◌≡◌, Result}
use Rattle.balloc_c.specs.declared.refusal.Refusal.{Refusal}
use Rattle.balloc_c.specs.Codes.{code_in}
use Rattle.balloc_c.specs.Outcomes.{HasWritten, Makes}
use Rattle.balloc_c.proofs.ToldLemmas.{shown, told as made}
use Rattle.balloc_c.proofs.balloc_write.Goals as goal

pub returns-in-Some : goal.returns-in-Some
returns-in-Some c =
    record {
      told = made (Makes (λ s t. HasWritten s t c.args.id c.args.i c.args.value))
          (λ (outcome : Result (Unit {0}) Refusal). to_z w32 (of_z w32 c.code_of.result) ≡ code_in outcome)
          c.args.pass.now.held.hand c.in-Some.hand.now c.write-outcome.new.self c.write-outcome.result c.in-Some.ensures.value
          (shown c.write-outcome.result c.code_of.result c.code_of.ensures) c.write-outcome.ensures;
    }
