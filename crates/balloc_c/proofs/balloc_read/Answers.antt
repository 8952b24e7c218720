use Rattle.std.proofs.Common.{w32, to_z, of_z, ℕ, ◌≡◌, Result}
use Rattle.balloc_c.specs.declared.refusal.Refusal.{Refusal}
use Rattle.balloc_c.specs.Codes.{code_in, value_in}
use Rattle.balloc_c.specs.Outcomes.{HasRead, Makes}
use Rattle.balloc_c.proofs.ToldLemmas.{shown, told as made}
use Rattle.balloc_c.proofs.balloc_read.Goals as goal

pub returns-in-Some : goal.returns-in-Some
returns-in-Some c =
    record {
      told = made (Makes (λ s t. HasRead s t c.args.id c.args.i))
          (λ (outcome : Result ℕ Refusal). (to_z w32 (of_z w32 c.code_with.result) ≡ code_in outcome) × (c.code_with.new.out ≡ value_in outcome c.args.value.now))
          c.args.pass.now.held.hand c.in-Some.hand.now c.read-outcome.new.self c.read-outcome.result c.in-Some.ensures.value
          (shown c.read-outcome.result c.code_with.result c.code_with.ensures.code, c.code_with.ensures.value) c.read-outcome.ensures;
    }
