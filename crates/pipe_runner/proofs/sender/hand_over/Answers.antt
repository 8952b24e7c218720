use Rattle.std.proofs.Common.{ℕ, ◌++◌, ◌∷◌, [], ◌∙◌, ap, refl, sym, subst}
use Rattle.std.specs.Prelude.{option_to_list}
use Rattle.live_heap.specs.declared.block.Block.{Block}
use Rattle.block_pipe.specs.declared.sender.Sender.{Sender}
use Rattle.block_pipe.specs.Ends.{pushed_by}
use Rattle.block_pipe.specs.Notes.{shelf_for}
use Rattle.live_heap.specs.Passes.{Owns}
use Rattle.block_pipe.specs.Answers.{next_note}
use Rattle.pipe_runner.specs.EndCalls.{FoundFull}
use Rattle.pipe_runner.proofs.CallSteps.{full-keeps, full-same, handed, keeps-here, keeps-trans}
use Rattle.pipe_runner.proofs.EndLemmas.{full-tried, tried-none, tried-on}
use Rattle.pipe_runner.proofs.sender.hand_over.Goals as goal

pub loop-init : goal.loop-init
loop-init g c = record {
  can_next = tt;
  is_finite = tt;
  end = refl;
  left = refl;
  keeps = keeps-here c.args.heap.now c.args.pass.now c.requires.rest;
  same = λ place. refl;
  full = tried-none (FoundFull c.args.block (shelf_for c.args.pipe.now.shelves c.args.end.now.number c.args.end.now.sent)) c.args.pass.now;
}

pub send-requires-clause-owned : goal.send-requires-clause-owned
send-requires-clause-owned g c =
    let i = c.loop.invariant in
    i.keeps.owns c.loop.left (subst (Owns c.args.pass.now) (sym i.left) c.requires.owned)

pub returns-in-Sent-clause-pushed : goal.returns-in-Sent-clause-pushed
returns-in-Sent-clause-pushed g c =
    let i = c.loop.invariant in
    let pipe = c.args.pipe.now in
    c.in-Sent.ensures.tells.1 ∙ ap (λ (s : Sender). pushed_by s ++ next_note pipe s c.loop.left ∷ []) i.end
    ∙ ap (λ (b : Block). pushed_by c.args.end.now ++ next_note pipe c.args.end.now b ∷ []) i.left

pub returns-in-QueueFull-clause-pushed : goal.returns-in-QueueFull-clause-pushed
returns-in-QueueFull-clause-pushed g c =
    let i = c.loop.invariant in
    let pipe = c.args.pipe.now in
    let (put, same, pending, held) = c.in-QueueFull.ensures.tells in
    c.flush_out.ensures.pushed ∙ ap (λ o. pushed_by c.send.new.self ++ option_to_list o) pending
    ∙ ap (λ l. l ++ next_note pipe c.loop.end c.loop.left ∷ []) same
    ∙ ap (λ (s : Sender). pushed_by s ++ next_note pipe s c.loop.left ∷ []) i.end
    ∙ ap (λ (b : Block). pushed_by c.args.end.now ++ next_note pipe c.args.end.now b ∷ []) i.left

pub returns-in-Sent-clause-put : goal.returns-in-Sent-clause-put
returns-in-Sent-clause-put g c =
    let i = c.loop.invariant in
    handed c.args.heap.now c.args.pipe.now c.args.pass.now c.loop.pass c.send.new.pass c.args.end.now c.loop.end c.args.block c.loop.left i.keeps i.same
    c.send.ensures.of c.in-Sent.ensures.tells.0 i.end i.left i.full

pub returns-in-QueueFull-clause-put : goal.returns-in-QueueFull-clause-put
returns-in-QueueFull-clause-put g c =
    let i = c.loop.invariant in
    handed c.args.heap.now c.args.pipe.now c.args.pass.now c.loop.pass c.send.new.pass c.args.end.now c.loop.end c.args.block c.loop.left i.keeps i.same
    c.send.ensures.of c.in-QueueFull.ensures.tells.0 i.end i.left i.full

pub loop-preserved : goal.loop-preserved
loop-preserved g c =
    let i = c.loop.invariant in
    let h = c.args.heap.now in
    let p = c.loop.pass in
    let q = c.send.new.pass in
    let left = c.loop.left in
    let shelf = (next_note c.args.pipe.now c.loop.end left).shelf in
    let at : ℕ = shelf_for c.args.pipe.now.shelves c.args.end.now.number c.args.end.now.sent in
    let tells = c.in-ShelfFull.ensures.tells in
    let owned : Owns p left = i.keeps.owns left (subst (Owns c.args.pass.now) (sym i.left) c.requires.owned) in
    record {
      can_next = tt;
      is_finite = tt;
      end = tells.1 ∙ i.end;
      left = tells.0.same ∙ i.left;
      keeps = keeps-trans h c.args.pass.now p q i.keeps (full-keeps h p q left shelf _ i.keeps.moves.rest.0 c.send.ensures.of owned tells.0);
      same = λ place. full-same h p q left shelf _ c.send.ensures.of tells.0 place ∙ i.same place;
      full = tried-on (FoundFull c.args.block at) c.args.pass.now p q i.full
          (full-tried p q left c.args.block shelf at _ tells.0 i.left (ap (λ (s : Sender). shelf_for c.args.pipe.now.shelves s.number s.sent) i.end));
    }
