use Rattle.std.proofs.Common.{◌≡◌, ◌+◌, sym, ap, ◌∙◌, subst}
use Rattle.std.specs.Ptr.{ptr_add}
use Rattle.std.specs.Borrow.{u64}
use denote.RawPtr.{Ptr}
use Rattle.plain_words.specs.Owned.{Lies}
use Rattle.balloc_c.specs.declared.lent.LentBlock.{LentBlock}
use Rattle.balloc_c.proofs.LendingLemmas.{same-lent}
use Rattle.balloc_c.proofs.lending.told_again.Goals as goal

pub again-requires : goal.again-requires
again-requires c =
    let out = c.requires.out in
    let lent : LentBlock = c.in-Some.lent.now in
    let same : out.0 ≡ lent = same-lent out.0 lent (sym out.1 ∙ c.in-Some.ensures.out) in
    subst (λ (p : Ptr). Lies p (lent.place + 1)) (sym c.start.ensures)
    (subst (λ (l : LentBlock). Lies c.args.heap.now.region.at (l.place + 1)) same out.2)

pub returns-clause-memory : goal.returns-clause-memory
returns-clause-memory c =
    let lent : LentBlock = c.in-Some.lent.now in
    (lent, c.in-Some.ensures.out, c.again.ensures.0 ∙ ap (λ (p : Ptr). ptr_add u64 (lent.place + 1) p) c.start.ensures)
