use Rattle.std.proofs.Common.{ℕ, ◌≡◌, ◌+◌, ◌-◌, ◌^◌, ◌∙◌, add-one, ap, arith, min, refl, subst, sym}
use Rattle.sound_state.specs.Sums.{sum_below}
use Rattle.worked_programs.specs.declared.reuse.TheConstants.{ROUNDS}
use Rattle.worked_programs.specs.declared.embedded.Stop.{Stop}
use Rattle.worked_programs.specs.Reuse.{HasStoppedRounds, MakesRounds}
use Rattle.worked_programs.proofs.EmbeddedCalls.{err-as}
use Rattle.worked_programs.proofs.ReuseCalls.{round-rests}
use Rattle.worked_programs.proofs.reuse.rounds.Goals as goal

pub loop-word-init : goal.loop-word-init
loop-word-init c = record { rests = c.requires; made = refl; sum = refl }

pub round-requires : goal.round-requires
round-requires c = c.loop-word.invariant.rests

pub loop-word-preserved : goal.loop-word-preserved
loop-word-preserved c =
    let h = c.args.heap.now in
    let word = c.loop-word.word in
    let after = c.round.new.cache in
    let round = c.in_ok-round.ensures.made in
    let next : sum_below (word + 1) (λ n. n) ≡ sum_below word (λ n. n) + word = ap (λ (n : ℕ). sum_below n (λ k. k)) (add-one word) in
    record {
      rests = round-rests h c.loop-word.cache after word round;
      made =
          subst (λ (n : ℕ). MakesRounds h c.args.cache.now n after) (sym (add-one word)) (c.loop-word.cache, c.loop-word.invariant.made, round);
      sum = omega (arith, c.loop-word.invariant.sum, c.in_ok-round.ensures.same, next, c.saturating_add-sum.ensures);
    }

pub returns-clause-rests : goal.returns-clause-rests
returns-clause-rests c = c.loop-word.invariant.rests

pub returns-clause-made : goal.returns-clause-made
returns-clause-made c =
    let all : c.loop-word.word ≡ ROUNDS = omega (arith, c.loop-word.auto.word-end, c.loop-word-test.false) in
    subst (λ (n : ℕ). MakesRounds c.args.heap.now c.args.cache.now n c.loop-word.cache) all c.loop-word.invariant.made

pub returns-clause-sum : goal.returns-clause-sum
returns-clause-sum c =
    let all : c.loop-word.word ≡ ROUNDS = omega (arith, c.loop-word.auto.word-end, c.loop-word-test.false) in
    c.loop-word.invariant.sum ∙ ap (λ (n : ℕ). min (sum_below n (λ k. k)) (2 ^ 64 - 1)) all

pub returns-in_err-round-clause-stopped : goal.returns-in_err-round-clause-stopped
returns-in_err-round-clause-stopped c =
    let after = c.round.new.cache in
    let told = c.in_err-round.field-0.0 in
    err-as c.from_residual.result told (λ (s : Stop). HasStoppedRounds c.args.heap.now c.args.cache.now s after) c.from_residual.ensures.1
    (record {
      rounds = c.loop-word.word;
      few = omega (arith, c.loop-word-test.true);
      mid = c.loop-word.cache;
      made = c.loop-word.invariant.made;
      stopped = c.in_err-round.ensures.stopped;
    })
