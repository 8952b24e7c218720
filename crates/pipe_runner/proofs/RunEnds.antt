-- How a run of a pipeline begins and ends.
use Rattle.std.proofs.Common.{ℕ, ◌≡◌, ◌<◌, ◌+◌, ◌++◌, List, [], ◌∷◌, length, refl, sym, ap, ◌∙◌, subst, arith}
use Rattle.std.specs.Prelude.{All, slice_index}
use Rattle.std.proofs.lemmas.List.{length-append}
use Rattle.std.proofs.lemmas.List.Elements.{All-append, All-cons, All-nil}
use Rattle.heap_geometry.specs.declared.geometry.Geometry.{Geometry}
use Rattle.pool_model.proofs.HistoryLemmas.{legal-weaker}
use Rattle.errand_steps.specs.Begins.{IsIdle}
use Rattle.live_heap.specs.Heaps.{HeapFields}
use Rattle.live_heap.specs.declared.pass.Pass.{Pass}
use Rattle.live_heap.specs.Endings.{AreAllIdle, HasAccesses, HasClosed, HasTakenIn, IsResting}
use Rattle.live_heap.specs.Passes.{AreFrom, IsFresh, IsOf}
use Rattle.live_heap.proofs.laws_for_builders.Events.{closed-legal}
use Rattle.block_pipe.specs.declared.note.Note.{Note}
use Rattle.block_pipe.specs.declared.pipe.Pipe.{Pipe}
use Rattle.block_pipe.specs.declared.sender.Sender.{Sender}
use Rattle.block_pipe.specs.Ends.{AreAllEnds, IsNewReceiver, popped_by, pushed_by}
use Rattle.block_pipe.specs.Logs.{HasLogged, HasSender}
use Rattle.block_pipe.specs.Notes.{of_sender}
use Rattle.pipe_runner.specs.declared.receiver.ReceiverThread.{ReceiverThread}
use Rattle.pipe_runner.specs.declared.run.PipeRun.{PipeRun}
use Rattle.pipe_runner.specs.EndCalls.{ReceivesAll}
use Rattle.pipe_runner.specs.Receivers.{HasTaken, IsReceiving}
use Rattle.pipe_runner.specs.Runs.{AreDone, IsPipeRun, pipe_heap}
use Rattle.pipe_runner.proofs.EndLemmas.{receives-none}
use Rattle.pipe_runner.proofs.MessageLemmas.{all-before}
use Rattle.pipe_runner.proofs.PairLemmas.{done-as-many, fresh-taken, from-pop, push-long}
use Rattle.pipe_runner.proofs.RunLemmas.{IsOverAll, done-distinct, done-ends, done-find, done-idle, over-all-equal, over-all-folds, over-all-gate, over-all-messages, over-all-nothing, over-all-quiet, over-all-three}

-- a new receiver's thread
pub new-receiving :
    (h : HeapFields) (pipe : Pipe) (w : ReceiverThread) → pipe.shelves ≡ 8 → IsNewReceiver pipe w.end → IsFresh h w.pass
    → w.pass.errand.caller ≡ pipe.senders → ((k : ℕ) → slice_index w.counts.numbers k ≡ 0) → ((k : ℕ) → slice_index w.folds.numbers k ≡ 0)
    → IsReceiving h pipe w
new-receiving h pipe w shelves new fresh caller no_count no_fold = record {
  shelves = shelves;
  end = new.of;
  kept = new.kept;
  caller = caller;
  popped = λ k below. ap (λ (l : List Note). length (of_sender k l)) new.none ∙ sym (no_count k);
  calls = λ three. receives-none h pipe.senders (popped_by w.end) (λ k. slice_index w.folds.numbers k) w.pass fresh new.none no_fold;
  has = fresh-taken h pipe.senders (λ k. slice_index w.counts.numbers k) (λ k. slice_index w.folds.numbers k) w.pass fresh no_count no_fold;
}

module _ (passed : ℕ → ℕ → Type 0) (h : HeapFields) (pipe : Pipe) (start count : ℕ) (ps : List Pass) (es : List Sender) (w : ReceiverThread) (done : AreDone passed h pipe start count 0 ps es) (many : length ps ≡ pipe.senders) (receiving : IsReceiving h pipe w) where
  pub idle-all : h.layout ≡ pipe_heap pipe.senders → AreAllIdle h (ps ++ w.pass ∷ [])
  idle-all layout = record {
    all = (let long = length-append ps (w.pass ∷ []) in let callers = ap (λ (g : Geometry). g.callers) layout in omega (arith, long, callers, many));
    each = All-append (λ p. IsOf h p × IsIdle p.errand) ps (w.pass ∷ []) (done-idle passed h pipe start count 0 ps es done)
        (All-cons (λ p. IsOf h p × IsIdle p.errand) w.pass [] receiving.has.between.rest (All-nil (λ p. IsOf h p × IsIdle p.errand)));
  }

  pub ends-all : AreAllEnds pipe es w.end
  ends-all = record {
    each = done-ends passed h pipe start count 0 ps es done;
    distinct = done-distinct passed h pipe start count 0 ps es done;
    all = done-as-many passed h pipe start count 0 ps es done ∙ many;
    receiver = receiving.end;
    kept = receiving.kept;
  }

  front : {X : Type 0} (P : X → Type 0) (xs : List X) (x : X) → All P (xs ++ x ∷ []) → All P xs × P x
  front P xs x all = all-before P xs x all

  pub run-over :
      (run : PipeRun) → h.layout ≡ pipe_heap pipe.senders → HasClosed h (ps ++ w.pass ∷ []) run.closed → IsResting run.closed
      → HasAccesses run.closed (ps ++ w.pass ∷ []) → HasLogged pipe es w.end run.log → run.folds ≡ w.folds → ((k : ℕ) → k < pipe.senders → slice_index w.counts.numbers k ≡ count)
      → IsPipeRun passed pipe.senders count start run
  run-over run layout closed rests accesses logged same all =
      let c = run.closed in
      let n = pipe.senders in
      let folds : ℕ → ℕ = λ k. slice_index run.folds.numbers k in
      let (in_all, in_last) = front (HasTakenIn c) ps w.pass closed.each in
      let find = λ (k : ℕ) (below : k < n).
      done-find passed h pipe start count 0 ps es (HasTakenIn c) (HasSender w.end run.log) done in_all logged.each k (omega arith) (omega (arith, below, many)) in
      let over : IsOverAll passed h n start count folds c =
      record {
        legal = legal-weaker c.geometry c.events (closed-legal c rests);
        callers = ap (λ (g : Geometry). g.callers) (closed.heap ∙ layout);
        rests = rests;
        sender = λ k below. let (p, e, one, in_it, told) = find k below in (p, one.caller, one.has, in_it);
        r = w.pass;
        receiver = receiving.caller;
        counts = λ k. slice_index w.counts.numbers k;
        took = subst (λ f. HasTaken h n (λ k. slice_index w.counts.numbers k) (λ k. slice_index f.numbers k) w.pass) (sym same) receiving.has;
        all = all;
        in_it = in_last;
      } in
      record {
        heap = closed.heap ∙ layout;
        rests = rests;
        quiet = over-all-quiet passed h n start count folds c over;
        equal = over-all-equal passed h n start count folds c over;
        all = over-all-messages passed h n start count folds c over;
        pushed = λ k below. let (p, e, one, in_it, told) = find k below in
            subst (λ (j : ℕ). slice_index run.log.sent.counts j ≡ length (pushed_by e)) one.number_is told.sent ∙ one.pushed;
        popped = λ k below. let (p, e, one, in_it, told) = find k below in
            subst (λ (j : ℕ). slice_index run.log.taken.counts j ≡ length (of_sender j (popped_by w.end))) one.number_is told.taken
            ∙ receiving.popped k below ∙ all k below;
        folds = over-all-folds passed h n start count folds c over;
        nothing = over-all-nothing passed h n start count folds c over;
        gate = over-all-gate passed h n start count folds c over;
        ran = (
          h,
          pipe,
          record {
            laid = layout;
            senders_are = refl;
            shelves_are = receiving.shelves;
            passes = ps;
            ends = es;
            sent = done;
            pass = w.pass;
            end = w.end;
            caller = receiving.caller;
            received = subst (λ f. ReceivesAll h n (popped_by w.end) (λ k. slice_index f.numbers k) w.pass) (sym same)
                (receiving.calls (over-all-three passed h n start count folds c over));
            closed = closed;
            accesses = accesses;
            all = ends-all;
            logged = logged;
          },
        );
      }

-- the passes of a new heap: those of the senders, and the receiver's
pub opened-parts :
    (h : HeapFields) (n : ℕ) (passes others : List Pass) (p : Pass) → AreFrom h 0 passes → length passes ≡ n + 1 → passes ≡ others ++ p ∷ []
    → AreFrom h 0 others × (length others ≡ n) × IsFresh h p × (p.errand.caller ≡ n)
opened-parts h n passes others p all many last =
    let (before, fresh, caller) = from-pop h 0 others p (subst (AreFrom h 0) last all) in
    let long = push-long passes others p last in
    let few : length others ≡ n = omega (arith, many, long) in
    (before, few, fresh, caller ∙ omega (arith, few))
