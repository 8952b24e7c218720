use Rattle.std.proofs.Common.{w32, to_z, of_z, ◌≡◌, Result}
use Rattle.balloc_c.specs.declared.refusal.Refusal.{Refusal}
use Rattle.balloc_c.specs.Codes.{code_in}
use Rattle.balloc_c.specs.Outcomes.{Makes}
use Rattle.balloc_c.specs.Ranges.{HasWrittenRange}
use Rattle.balloc_c.proofs.ToldLemmas.{shown, told as made}
use Rattle.balloc_c.proofs.balloc_write_range.Goals as goal

pub returns-in-Some : goal.returns-in-Some
returns-in-Some c =
    record {
      told = made (Makes (λ s t. HasWrittenRange s t c.args.id c.args.from c.args.words.now))
          (λ (outcome : Result (Unit {0}) Refusal). to_z w32 (of_z w32 c.code_of.result) ≡ code_in outcome)
          c.args.pass.now.held.hand c.in-Some.hand.now c.write_range-outcome.new.self c.write_range-outcome.result c.in-Some.ensures.value
          (shown c.write_range-outcome.result c.code_of.result c.code_of.ensures) c.write_range-outcome.ensures;
    }
