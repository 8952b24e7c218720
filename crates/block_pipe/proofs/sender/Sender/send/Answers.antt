use Rattle.std.proofs.Common.{ℕ, ◌≡◌, ◌*◌, Some, refl, sym, ap, ◌∙◌, subst}
use Rattle.crossbeam_queue.specs.Passes.{view}
use Rattle.errand_steps.specs.declared.reply.Reply.TheVariants as reply
use Rattle.errand_steps.specs.Calls.{put}
use Rattle.live_heap.specs.declared.block.Block.{Block}
use Rattle.live_heap.specs.declared.pass.Pass.{Pass}
use Rattle.live_heap.specs.Answers.{PutTellsFull}
use Rattle.live_heap.specs.Calls.{HasCalled}
use Rattle.live_heap.specs.Passes.{seen}
use Rattle.live_heap.specs.Shelves.{MayLieOn}
use Rattle.block_pipe.specs.declared.pipe.Pipe.{Pipe}
use Rattle.block_pipe.specs.declared.rule.Known.{Known}
use Rattle.block_pipe.specs.declared.sender.Sender.{Sender}
use Rattle.block_pipe.specs.Answers.{HasPutNext, next_note, note_of}
use Rattle.block_pipe.specs.Ends.{HasHeld}
use Rattle.block_pipe.specs.Notes.{of_sender}
use Rattle.block_pipe.proofs.sender.Sender.send.Goals as goal

-- a put on the sender's next shelf
put-next :
    (pipe : Pipe) (s : Sender) (p q : Pass) (block : Block) (shelf : ℕ) → shelf ≡ (next_note pipe s block).shelf
    → HasCalled p (put block.place block.need shelf) 0 reply.Put q → HasPutNext pipe s p block q
put-next pipe s p q block shelf is called = subst (λ (k : ℕ). HasCalled p (put block.place block.need k) 0 reply.Put q) is called

pub returns-in-Err-clause-tells : goal.returns-in-Err-clause-tells
returns-in-Err-clause-tells g c = (
  subst (λ (k : ℕ). PutTellsFull c.args.pass.now c.args.block k c.in-Err.field-0 c.put.new.pass) c.shelf-shelf.ensures.value c.in-Err.ensures.full,
  refl,
)

pub returns-else-flush-clause-tells : goal.returns-else-flush-clause-tells
returns-else-flush-clause-tells g c =
    let f = c.flush.ensures.full c.if-flush.false in
    let t = c.tell.ensures in
    let s = c.args.self.now in
    let pipe = c.args.pipe.now in
    let views : view c.flush.new.self.end ≡ view s.end = f.2 ∙ ap (λ e. view e) t.same.0 in (
      put-next pipe s c.args.pass.now c.put.new.pass c.args.block c.shelf-shelf.result c.shelf-shelf.ensures.value c.in-Ok.ensures.put,
      ap (λ (k : ℕ). of_sender k (view c.flush.new.self.end).sent) (c.flush.ensures.of.1 ∙ t.same.1)
          ∙ ap (λ (v : Known). of_sender s.number v.sent) views,
      f.1 ∙ t.pending ∙ ap (λ (p : ℕ). Some (note_of pipe s.number s.sent p)) c.place-place.ensures,
      subst (HasHeld (pipe.senders * pipe.shelves)) (ap (λ e. view e) t.same.0) f.3,
    )

pub put-requires-clause-words : goal.put-requires-clause-words
put-requires-clause-words g c =
    let p = c.args.pass.now in
    subst (λ (k : ℕ). MayLieOn g.L.ShelfRule.allows (seen p) p.errand.caller c.args.block.place k) (sym c.shelf-shelf.ensures.value) c.requires.words
