use Rattle.std.proofs.Common.{w32, to_z, of_z, ℕ, ◌≡◌, Result, refl}
use Rattle.balloc_c.specs.declared.refusal.Refusal.{Refusal}
use Rattle.balloc_c.specs.Codes.{code_in, value_in}
use Rattle.balloc_c.specs.Outcomes.{HasCounted, Makes}
use Rattle.balloc_c.proofs.Packing.{few-same}
use Rattle.balloc_c.proofs.ToldLemmas.{shown, told as made}
use Rattle.balloc_c.proofs.balloc_words.Goals as goal

pub returns-in-Some : goal.returns-in-Some
returns-in-Some c =
    record {
      told = made (Makes (λ s t. HasCounted s t c.args.id))
          (λ (outcome : Result ℕ Refusal). (to_z w32 (of_z w32 c.code_with.result) ≡ code_in outcome) × (c.code_with.new.out ≡ value_in outcome c.args.words.now))
          c.args.pass.now.held.hand c.in-Some.hand.now c.in-Some.hand.now c.words-outcome.result c.in-Some.ensures.value
          (shown c.words-outcome.result c.code_with.result c.code_with.ensures.code, c.code_with.ensures.value) ((c.words-outcome.ensures, refl, refl), refl, refl, few-same c.in-Some.hand.now.table c.in-Some.hand.now.table refl);
    }
