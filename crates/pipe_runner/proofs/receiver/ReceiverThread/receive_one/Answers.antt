use Rattle.std.proofs.Common.{ℕ, ◌≡◌, ◌<◌, ◌+◌, List, length, refl, sym, ap, ◌∙◌, subst, slice_index}
use Rattle.block_pipe.specs.declared.note.Note.{Note}
use Rattle.block_pipe.specs.Ends.{popped_by}
use Rattle.block_pipe.specs.Notes.{of_sender, shelf_for}
use Rattle.shelf_laws.specs.Quiet.{taken, turn_of}
use Rattle.live_heap.specs.declared.pass.Pass.{Pass}
use Rattle.live_heap.specs.Passes.{seen}
use Rattle.live_heap.specs.Whole.{by_steps}
use Rattle.pipe_runner.specs.EndCalls.{Got, Receives, with_found}
use Rattle.pipe_runner.specs.Messages.{HaveThreeWords, with_words}
use Rattle.pipe_runner.specs.Moves.{KeepsBlocks}
use Rattle.pipe_runner.proofs.CallSteps.{keeps-here}
use Rattle.pipe_runner.proofs.EndLemmas.{receives-more, receives-same, three-words}
use Rattle.pipe_runner.proofs.NoteCounts.{popped-more}
use Rattle.pipe_runner.proofs.TakeStep.{taken-none, taken-step, three-step}
use Rattle.pipe_runner.proofs.receiver.ReceiverThread.receive_one.Goals as goal

pub returns-in-None : goal.returns-in-None
returns-in-None g c =
    let r = c.requires in
    let w = c.args.self.now in
    let (same, popped) = c.in-None.ensures.nothing refl in
    let h = c.args.heap.now in
    let keeps = subst (KeepsBlocks h w.pass) (sym same) (keeps-here h w.pass r.has.between.rest) in
    let (end, kept) = c.receive.ensures.end in
    record {
      shelves = r.shelves;
      end = end;
      kept = kept;
      caller = keeps.moves.goes.caller ∙ r.caller;
      popped = λ k below. ap (λ (l : List Note). length (of_sender k l)) popped ∙ r.popped k below;
      calls = λ all.
          receives-same h c.args.pipe.now.senders (popped_by w.end) (popped_by c.receive.new.end) (λ k. slice_index w.folds.numbers k) w.pass
          c.receive.new.pass
          (r.calls (λ k below. subst (λ (x : Pass). HaveThreeWords (taken c.args.pipe.now.senders 8 k (seen x))) same (all k below))) same popped;
      has = taken-none c.args.heap.now c.args.pipe.now.senders (λ k. slice_index w.counts.numbers k) (λ k. slice_index w.folds.numbers k) w.pass
          c.receive.new.pass r.caller r.has keeps;
    }

pub release-requires-clause-owned : goal.release-requires-clause-owned
release-requires-clause-owned g c =
    c.fold_block-fold.ensures.keeps.owns c.in-Some.field-0.block c.in-Some.ensures.got.taken_off.owned

pub returns-in-Some : goal.returns-in-Some
returns-in-Some g c =
    let r = c.requires in
    let w = c.args.self.now in
    let pipe = c.args.pipe.now in
    let a = c.in-Some.field-0 in
    let arr = c.in-Some.ensures.got in
    let note = arr.note in
    let (end, kept) = c.receive.ensures.end in
    let counts : ℕ → ℕ = λ k. slice_index w.counts.numbers k in
    let folds : ℕ → ℕ = λ k. slice_index w.folds.numbers k in
    let counts_now : ℕ → ℕ = λ k. slice_index c.set-in-Some.new.self.numbers k in
    let folds_now : ℕ → ℕ = λ k. slice_index c.set.new.self.numbers k in
    let below : a.sender < pipe.senders = subst (λ (k : ℕ). k < pipe.senders) (sym arr.sender) arr.next.sender in
    let turn : note.shelf ≡ turn_of 8 a.sender (counts a.sender) =
    arr.next.shelf ∙ ap (λ (k : ℕ). shelf_for k note.sender note.seq) r.shelves
    ∙ ap (λ (k : ℕ). turn_of 8 note.sender k) (arr.next.seq ∙ r.popped note.sender arr.next.sender)
    ∙ ap (λ (k : ℕ). turn_of 8 k (counts k)) (sym arr.sender) in
    let here : counts_now a.sender ≡ counts a.sender + 1 = c.set-in-Some.ensures.here ∙ ap (λ (n : ℕ). n + 1) c.of-in-Some.ensures in
    let (words, three, reads, fold_is) = c.fold_block-fold.ensures.found in
    let got : Got = record { note = note; block = a.block; words = words } in
    let came : Receives got w.pass c.release.new.pass = record {
      tried = arr.taken_off.last;
      missed = arr.taken_off.missed;
      taken = c.receive.new.pass;
      takes = by_steps (1, arr.taken_off.called);
      read = c.fold_block-fold.new.pass;
      reads = reads;
      frees = c.release.ensures.0;
    } in
    let is_fold : folds_now a.sender ≡ with_found (folds a.sender) words =
    c.set.ensures.here ∙ fold_is ∙ ap (λ (x : ℕ). with_found x words) c.of.ensures in
    let step =
    taken-step c.args.heap.now pipe.senders a.sender note.shelf c.fold_block-fold.result counts folds counts_now folds_now w.pass c.receive.new.pass
    c.fold_block-fold.new.pass c.release.new.pass a.block r.caller below r.has arr.taken_off turn c.fold_block-fold.ensures.keeps
    (λ b there three. c.fold_block-fold.ensures.folded b there three ∙ ap (λ (x : ℕ). with_words x b.contents) c.of.ensures) here c.set-in-Some.ensures.others
    c.set.ensures.here c.set.ensures.others c.release.ensures in
    record {
      shelves = r.shelves;
      end = end;
      kept = kept;
      caller = step.1;
      popped = λ k lt.
          popped-more (popped_by w.end) (popped_by c.receive.new.end) note a.sender counts counts_now k arr.popped arr.sender (r.popped k lt) here
          c.set-in-Some.ensures.others;
      calls = λ all.
          let (before, usable) =
          three-step c.args.heap.now pipe.senders a.sender note.shelf (counts a.sender) w.pass c.receive.new.pass c.fold_block-fold.new.pass
          c.release.new.pass a.block r.caller below arr.taken_off turn c.fold_block-fold.ensures.keeps c.release.ensures all in
          receives-more c.args.heap.now pipe.senders (popped_by w.end) (popped_by c.receive.new.end) folds folds_now w.pass c.release.new.pass got
          a.sender (r.calls before) came arr.popped arr.sender is_fold c.set.ensures.others (three-words a.block words usable three);
      has = step.0;
    }
