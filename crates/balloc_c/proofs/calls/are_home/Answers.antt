use Rattle.std.proofs.Common.{arith, ℕ, ◌≡◌, sym, subst, false, ◌∙◌}
use Rattle.std.proofs.lemmas.Bool.Decides.{eqb_tells}
use Rattle.balloc_c.specs.Kept.{is_out}
use Rattle.balloc_c.specs.Slots.{block_at}
use Rattle.balloc_c.proofs.LeaveLemmas.{none-out, one-out}
use Rattle.balloc_c.proofs.Slots.{by_case}
use Rattle.balloc_c.proofs.calls.are_home.Goals as goal

pub returns-then-is_out : goal.returns-then-is_out
returns-then-is_out c = one-out c.args.table.now.slots.items c.loop-index.index (sym c.is_out.ensures ∙ c.if-is_out.true)

pub loop-index-preserved : goal.loop-index-preserved
loop-index-preserved c =
    let slots = c.args.table.now.slots.items in
    record {
      home = λ k low. by_case
          (λ at. subst (λ (n : ℕ). is_out (block_at slots n) ≡ false) (sym at.1) (sym c.is_out.ensures ∙ c.if-is_out.false))
          (λ apart. c.loop-index.invariant.home k (omega (arith, low, apart.1))) (eqb_tells k c.loop-index.index);
    }

pub returns : goal.returns
returns c =
    none-out c.args.table.now.slots.items
    (λ i low. c.loop-index.invariant.home i (omega (arith, low, c.loop-index-test.false, c.len-index-end.ensures)))
