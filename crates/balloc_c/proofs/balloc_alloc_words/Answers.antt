use Rattle.std.proofs.Common.{w32, to_z, of_z, ℕ, ◌≡◌, Result}
use Rattle.balloc_c.specs.declared.refusal.Refusal.{Refusal}
use Rattle.balloc_c.specs.Codes.{code_in, value_in}
use Rattle.balloc_c.specs.Outcomes.{HasAllocated, Makes}
use Rattle.balloc_c.proofs.ToldLemmas.{shown, told as made}
use Rattle.balloc_c.proofs.balloc_alloc_words.Goals as goal

pub returns-in-Some : goal.returns-in-Some
returns-in-Some c =
    let e = c.alloc.ensures in
    record {
      told = made (Makes (λ s t. HasAllocated s t c.args.words))
          (λ (outcome : Result ℕ Refusal). (to_z w32 (of_z w32 c.alloc.result) ≡ code_in outcome) × (c.alloc.new.id ≡ value_in outcome c.args.id.now))
          c.args.pass.now.held.hand c.in-Some.hand.now c.alloc.new.self e.0 c.in-Some.ensures.value (shown e.0 c.alloc.result e.1, e.2) e.3;
    }
