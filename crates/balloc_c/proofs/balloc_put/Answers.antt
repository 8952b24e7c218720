use Rattle.std.proofs.Common.{w32, to_z, of_z, ◌≡◌, Result}
use Rattle.balloc_c.specs.declared.refusal.Refusal.{Refusal}
use Rattle.balloc_c.specs.Codes.{code_in}
use Rattle.balloc_c.specs.Outcomes.{HasPut, Makes}
use Rattle.balloc_c.proofs.ToldLemmas.{shown, told as made}
use Rattle.balloc_c.proofs.balloc_put.Goals as goal

pub returns-in-Some : goal.returns-in-Some
returns-in-Some c =
    record {
      told = made (Makes (λ s t. HasPut s t c.args.id c.args.shelf))
          (λ (outcome : Result (Unit {0}) Refusal). to_z w32 (of_z w32 c.code_of.result) ≡ code_in outcome)
          c.args.pass.now.held.hand c.in-Some.hand.now c.put-outcome.new.self c.put-outcome.result c.in-Some.ensures.value
          (shown c.put-outcome.result c.code_of.result c.code_of.ensures) c.put-outcome.ensures;
    }
