use Rattle.std.proofs.Common.{w32, to_z, of_z, ℕ, ◌≡◌, sym, ap, ◌∙◌, subst}
use Rattle.balloc_c.specs.declared.hand.Hand.{Hand}
use Rattle.balloc_c.specs.Closed.{TellsCensus, untold}
use Rattle.balloc_c.specs.Outcomes.{counts_of}
use Rattle.balloc_c.proofs.ToldLemmas.{closes, shown_cause, stays_open, taken}
use Rattle.balloc_c.proofs.balloc_close.Goals as goal

pub returns : goal.returns
returns c =
    let next = c.leave.new.self in
    let same : next ≡ c.unwrap-hand.result.value = taken next c.take.result c.unwrap-hand.result c.take.ensures.value c.unwrap-hand.ensures in
    let counted = c.counts-hand_won.ensures ∙ ap (λ (hand : Hand). counts_of hand.cache.pass) (c.deref.ensures ∙ sym same) in
    record {
      told = closes c.args.frees c.args.pass.now.held.hand c.take.new.self.held.hand c.in-Some.hand.now next c.leave.result c.in_default-leave.field-0
          (c.args.won.now, c.args.lost.now, c.args.census.now) (c.counts-hand_won.result.1, c.counts-hand_won.result.2, c.end.new.counted) c.in-Some.ensures.value
          c.leave.ensures c.in_default-leave.is (ap (λ (r : ℕ × ℕ × ℕ × ℕ). r.1) counted) (ap (λ (r : ℕ × ℕ × ℕ × ℕ). r.2) counted) c.take.ensures.empty
          (c.end.result, subst (λ (k : Hand). TellsCensus k c.end.result (untold c.args.census.now) c.end.new.counted) (c.into_inner.ensures ∙ sym same) c.end.ensures.census);
    }

pub returns-in-Err : goal.returns-in-Err
returns-in-Err c =
    let code = to_z w32 (of_z w32 c.code-in-Err.result) in
    record {
      told = stays_open c.args.frees c.args.pass.now.held.hand c.in-Some.hand.now c.leave.new.self c.leave.result c.in-Err.refusal code
          (c.args.won.now, c.args.lost.now, c.args.census.now) c.in-Some.ensures.value c.leave.ensures c.in-Err.is
          (shown_cause c.in-Err.refusal c.code-in-Err.result c.code-in-Err.ensures);
    }
