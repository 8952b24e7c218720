-- Senders' threads: how they are put together, the last one first, and taken apart.
use Rattle.std.proofs.Common.{ℕ, suc, ◌≡◌, ◌+◌, ◌++◌, List, [], ◌∷◌, None, length, refl, sym, ap, ◌∙◌, subst, arith}
use Rattle.std.specs.Prelude.{All, count_by}
use Rattle.std.proofs.lemmas.List.{length-append}
use Rattle.std.proofs.lemmas.List.Elements.{All-nil}
use Rattle.pool_model.specs.declared.event.Event.{Event}
use Rattle.pool_model.specs.Histories.{own}
use Rattle.pool_model.proofs.HistoryLemmas.{EachAfter-nil}
use Rattle.shelf_laws.specs.Quiet.{IsQuiet, IsQuietAfter, is_put_of, is_take_of, sent, taken}
use Rattle.errand_steps.specs.Begins.{IsIdle}
use Rattle.errand_steps.specs.Errands.{ErrandFields}
use Rattle.live_heap.specs.Heaps.{HeapFields}
use Rattle.live_heap.specs.declared.pass.Pass.{Pass}
use Rattle.live_heap.specs.Passes.{AreFrom, IsFresh, seen}
use Rattle.live_heap.specs.Whole.{IsAtRest}
use Rattle.live_heap.proofs.laws_for_builders.AllBlocks.{fresh-exact}
use Rattle.block_pipe.specs.declared.pipe.Pipe.{Pipe}
use Rattle.block_pipe.specs.declared.sender.Sender.{Sender}
use Rattle.block_pipe.specs.Ends.{AreNewFrom, IsSender, pushed_by}
use Rattle.pipe_runner.specs.declared.sender.SenderThread.{SenderThread}
use Rattle.pipe_runner.specs.EndCalls.{SendsAll}
use Rattle.pipe_runner.specs.Messages.{contents_of, fold_of}
use Rattle.pipe_runner.specs.Receivers.{HasTaken}
use Rattle.pipe_runner.specs.Runs.{AreDone, HasDone}
use Rattle.pipe_runner.specs.Senders.{AreSending, HasSent, IsBetween, IsSending, PutsWithin}
use Rattle.pipe_runner.proofs.EndLemmas.{sends-none}

pub fresh-rest : (h : HeapFields) (p : Pass) → IsFresh h p → IsAtRest h p
fresh-rest h p fresh = (fresh.of, subst (λ (e : ErrandFields). IsIdle e) (sym fresh.errand) refl)

fresh-own : (h : HeapFields) (p : Pass) → IsFresh h p → own p.errand.caller (seen p) ≡ []
fresh-own h p fresh = ap (own p.errand.caller) fresh.nothing_seen

pub fresh-between : (h : HeapFields) (n : ℕ) (p : Pass) → IsFresh h p → IsBetween h n p
fresh-between h n p fresh =
    let none = fresh-own h p fresh in record {
      rest = fresh-rest h p fresh;
      quiet = subst (IsQuiet n 8) (sym none) (EachAfter-nil (IsQuietAfter n 8));
      within = subst (All (PutsWithin n)) (sym none) (All-nil (PutsWithin n));
      nothing = fresh-exact h p fresh;
    }

pub fresh-sent : (passed : ℕ → ℕ → Type 0) (h : HeapFields) (n start : ℕ) (p : Pass) → IsFresh h p → HasSent passed h n start 0 p
fresh-sent passed h n start p fresh = record {
  between = fresh-between h n p fresh;
  puts = ap (count_by (is_put_of 8 p.errand.caller)) (fresh-own h p fresh);
  contents = ap (λ (l : List Event). contents_of (sent 8 p.errand.caller l)) fresh.nothing_seen;
  passed_gate = λ i lt. absurd (omega (arith, lt));
}

pub fresh-taken :
    (h : HeapFields) (n : ℕ) (counts folds : ℕ → ℕ) (p : Pass) → IsFresh h p → ((k : ℕ) → counts k ≡ 0) → ((k : ℕ) → folds k ≡ 0)
    → HasTaken h n counts folds p
fresh-taken h n counts folds p fresh no_count no_fold = record {
  between = fresh-between h n p fresh;
  takes = λ k below. ap (count_by (is_take_of n 8 k)) (fresh-own h p fresh) ∙ sym (no_count k);
  fold = λ k below three. no_fold k ∙ sym (ap (λ (l : List Event). fold_of (taken n 8 k l)) fresh.nothing_seen);
}

-- the last ones of lists that are numbered upwards
pub new-pop :
    (pipe : Pipe) (n : ℕ) (ss : List Sender) (s : Sender) → AreNewFrom pipe n (ss ++ s ∷ [])
    → AreNewFrom pipe n ss × IsSender pipe s × (s.number ≡ n + length ss) × (pushed_by s ≡ []) × (s.pending ≡ None)
new-pop pipe n [] s (is, number, pushed, pending, rest) = (tt, is, number ∙ omega arith, pushed, pending)
new-pop pipe n (x ∷ xs) s (is, number, pushed, pending, rest) =
    let (before, s_is, s_number, s_pushed, s_pending) = new-pop pipe (suc n) xs s rest in
    ((is, number, pushed, pending, before), s_is, s_number ∙ omega arith, s_pushed, s_pending)

pub from-pop :
    (h : HeapFields) (k : ℕ) (ps : List Pass) (p : Pass) → AreFrom h k (ps ++ p ∷ [])
    → AreFrom h k ps × IsFresh h p × (p.errand.caller ≡ k + length ps)
from-pop h k [] p (fresh, caller, rest) = (tt, fresh, caller ∙ omega arith)
from-pop h k (q ∷ ps) p (fresh, caller, rest) =
    let (before, last, last_caller) = from-pop h (suc k) ps p rest in ((fresh, caller, before), last, last_caller ∙ omega arith)

pub push-long : {X : Type 0} (xs ys : List X) (x : X) → xs ≡ ys ++ x ∷ [] → length xs ≡ length ys + 1
push-long xs ys x is = ap length is ∙ length-append ys (x ∷ [])

module _ (passed : ℕ → ℕ → Type 0) (h : HeapFields) (pipe : Pipe) (start : ℕ) where
  -- threads that are numbered downwards: one more behind them, and the last one of them gone
  pub sending-push :
      (count number : ℕ) (ws : List SenderThread) (w : SenderThread) → AreSending passed h pipe start count (suc number) ws
      → IsSending passed h pipe start count w → w.end.number ≡ number → AreSending passed h pipe start count number (ws ++ w ∷ [])
  sending-push count number [] w all is here = (is, here ∙ omega arith, tt)
  sending-push count number (x ∷ xs) w all is here = (
    all.0,
    all.1 ∙ (let long = length-append xs (w ∷ []) in omega (arith, long)),
    sending-push count number xs w all.2 is here,
  )

  pub sending-pop :
      (count number : ℕ) (ws : List SenderThread) (w : SenderThread) → AreSending passed h pipe start count number (ws ++ w ∷ [])
      → AreSending passed h pipe start count (suc number) ws × IsSending passed h pipe start count w × (w.end.number ≡ number)
  sending-pop count number [] w all = (tt, all.0, all.1 ∙ omega arith)
  sending-pop count number (x ∷ xs) w all =
      let rest = sending-pop count number xs w all.2 in
      ((all.0, all.1 ∙ (let long = length-append xs (w ∷ []) in omega (arith, long)), rest.0), rest.1, rest.2)

  pub new-sending :
      (w : SenderThread) (n : ℕ) → pipe.shelves ≡ 8 → IsSender pipe w.end × (w.end.number ≡ n) × (pushed_by w.end ≡ []) × (w.end.pending ≡ None)
      → IsFresh h w.pass × (w.pass.errand.caller ≡ n) → IsSending passed h pipe start 0 w
  new-sending w n shelves (is, number, pushed, pending) (fresh, caller) = record {
    shelves = shelves;
    end = is;
    pending = pending;
    caller = caller ∙ sym number;
    pushed = ap length pushed;
    calls = sends-none h start w.end.number (pushed_by w.end) w.pass fresh pushed;
    has = fresh-sent passed h pipe.senders start w.pass fresh;
  }

  -- the passes and ends of senders, with one more of the next sender
  pub done-push :
      (count number : ℕ) (ps : List Pass) (es : List Sender) (p : Pass) (e : Sender) → AreDone passed h pipe start count number ps es
      → HasDone passed h pipe start count (number + length ps) p e → AreDone passed h pipe start count number (ps ++ p ∷ []) (es ++ e ∷ [])
  done-push count number [] [] p e all one = (subst (λ n. HasDone passed h pipe start count n p e) (omega arith) one, tt)
  done-push count number (q ∷ qs) (f ∷ fs) p e all one = (
    all.0,
    done-push count (suc number) qs fs p e all.1 (subst (λ n. HasDone passed h pipe start count n p e) (omega arith) one),
  )
  done-push count number (q ∷ qs) [] p e all one = absurd all
  done-push count number [] (f ∷ fs) p e all one = absurd all

  pub done-as-many : (count number : ℕ) (ps : List Pass) (es : List Sender) → AreDone passed h pipe start count number ps es → length es ≡ length ps
  done-as-many count number [] [] all = refl
  done-as-many count number (p ∷ ps) (e ∷ es) all = ap (λ (n : ℕ). suc n) (done-as-many count (suc number) ps es all.1)
  done-as-many count number (p ∷ ps) [] all = absurd all
  done-as-many count number [] (e ∷ es) all = absurd all

  pub sending-done-by : (count number : ℕ) (w : SenderThread) → IsSending passed h pipe start count w → w.end.number ≡ number → HasDone passed h pipe start count number w.pass w.end
  sending-done-by count number w is here = record {
    has = is.has;
    caller = is.caller ∙ here;
    end = is.end;
    number_is = here;
    pending = is.pending;
    pushed = is.pushed;
    calls = subst (λ (k : ℕ). SendsAll h start k (pushed_by w.end) w.pass) here is.calls;
  }
