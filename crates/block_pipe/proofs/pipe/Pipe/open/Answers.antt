use Rattle.std.proofs.Common.{None, length, sym, ap, ◌∙◌, subst, refl, arith, rules}
use Rattle.std.proofs.Math.Nat.{zero-mod}
use Rattle.crossbeam_queue.specs.Passes.{view, IsPassOf}
use Rattle.block_pipe.specs.declared.sender.Sender.{Sender}
use Rattle.block_pipe.specs.declared.rule.Known.{Known}
use Rattle.block_pipe.specs.Ends.{AreNewFrom, IsSender}
use Rattle.block_pipe.specs.Notes.{first_out, first_sender, of_sender}
use Rattle.block_pipe.proofs.EndLemmas.{new-push}
use Rattle.block_pipe.proofs.NoteMoves.{peels}
use Rattle.block_pipe.proofs.pipe.Pipe.open.Goals as goal

pub another-theirs-requires-clause-rule : goal.another-theirs-requires-clause-rule
another-theirs-requires-clause-rule c =
    let left = c.loop-number.invariant.left in
    let from = ap (λ (v : Known). v.from) left in
    let until = ap (λ (v : Known). v.until) left in
    peels c.loop-number.end.id (view c.loop-number.end) (ap (λ (v : Known). v.set) left) (omega (arith, from, until, c.loop-number-test.true))

pub loop-number-preserved : goal.loop-number-preserved
loop-number-preserved c =
    let i = c.loop-number.invariant in
    let n = c.loop-number.number in
    let a = c.another-theirs.ensures in
    let s : Sender = record { end = c.another-theirs.result; number = n; sent = 0; turn = 0; pending = None } in
    let mine = a.rule.1 ∙ ap first_sender i.left in
    record {
      of = search rules;
      left = a.rule.0 ∙ ap first_out i.left;
      ends = λ pipe q ss sh.
          let is : IsSender pipe s =
          record {
            of = subst (λ x. IsPassOf x c.another-theirs.result) (sym q) a.queue.1;
            has = omega (arith, ss, c.loop-number-test.true);
            set = ap (λ (v : Known). v.set) mine;
            senders = ap (λ (v : Known). v.senders) mine ∙ sym ss;
            shelves = ap (λ (v : Known). v.shelves) mine ∙ sym sh;
            from = ap (λ (v : Known). v.from) mine;
            until = ap (λ (v : Known). v.until) mine;
            count = sym (ap (λ (v : Known). length (of_sender n v.sent)) mine);
            turn = sym (zero-mod pipe.shelves);
            within = omega (arith, sh, c.requires.shelves.0);
            next = tt;
          } in
          subst (AreNewFrom pipe 0) (sym c.push_reserved.ensures.items)
          (new-push pipe 0 c.loop-number.ends.items s (i.ends pipe q ss sh) is (omega (arith, i.len)) (ap (λ (v : Known). of_sender n v.sent) mine) refl);
      len = search rules;
      room = search rules;
    }
