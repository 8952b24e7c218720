-- A pipeline that has run to its end.
use Rattle.std.proofs.Common.{ℕ, suc, ◌≡◌, ◌≢◌, ◌<◌, ◌≤◌, ◌+◌, List, [], ◌∷◌, None, length, sym, ap, ◌∙◌, subst, inl, inr, arith}
use Rattle.std.specs.Prelude.{All, count_by}
use Rattle.std.proofs.lemmas.Bool.{cases_eq, cases_lt}
use Rattle.std.proofs.lemmas.List.Elements.{All-cons, All-head, All-nil, All-tail}
use Rattle.pool_model.specs.Histories.{own}
use Rattle.pool_model.specs.Legal.{IsLegalWithoutCounts}
use Rattle.pool_model.specs.Pool.{pool_of}
use Rattle.shelf_laws.specs.Quiet.{IsQuiet, is_put_of, is_take_of, sender_of, sent, taken}
use Rattle.shelf_laws.proofs.GrowLemmas.{parcels-none}
use Rattle.shelf_laws.proofs.OwnLemmas.{puts-own, takes-own}
use Rattle.shelf_laws.proofs.PipeLemmas.{shelf-empty, taken-all, to-sender}
use Rattle.live_heap.specs.Heaps.{HeapFields}
use Rattle.live_heap.specs.declared.pass.Pass.{Pass}
use Rattle.live_heap.specs.Contents.{owned_after}
use Rattle.live_heap.specs.Endings.{ClosedFields, HasTakenIn, IsResting}
use Rattle.live_heap.specs.Passes.{IsOf, seen}
use Rattle.live_heap.proofs.laws_for_builders.Changing.{closed-owned}
use Rattle.live_heap.proofs.laws_for_builders.Events.{rest-of_others}
use Rattle.block_pipe.specs.declared.pipe.Pipe.{Pipe}
use Rattle.block_pipe.specs.declared.sender.Sender.{Sender}
use Rattle.block_pipe.specs.Ends.{AreDistinct, IsSender}
use Rattle.errand_steps.specs.Begins.{IsIdle}
use Rattle.pipe_runner.specs.Messages.{HaveThreeWords, contents_of, fold_of, messages}
use Rattle.pipe_runner.specs.Receivers.{HasTaken}
use Rattle.pipe_runner.specs.Runs.{AreDone, HasDone}
use Rattle.pipe_runner.specs.Senders.{HasSent, IsBetween, PutsWithin}
use Rattle.pipe_runner.proofs.ClosedLemmas.{none-live, quiet-closed, within-closed}
use Rattle.pipe_runner.proofs.MessageLemmas.{sent-three}

-- the closed history has of a caller just what its pass has seen
own-closed : (c : ClosedFields) (p : Pass) (k : ℕ) → p.errand.caller ≡ k → HasTakenIn c p → own k c.events ≡ own k (seen p)
own-closed c p k caller t = subst (λ (j : ℕ). own j c.events ≡ own j (seen p)) caller t.events

rest-of : (c : ClosedFields) (p : Pass) (k : ℕ) → p.errand.caller ≡ k → (t : HasTakenIn c p) → own k t.seen_before.0 ≡ []
rest-of c p k caller t = rest-of_others k (seen p) t.seen_before.0 (sym (own-closed c p k caller t) ∙ ap (own k) t.seen_before.1)

sent-closed : (c : ClosedFields) (p : Pass) (k : ℕ) → p.errand.caller ≡ k → HasTakenIn c p → sent 8 k c.events ≡ sent 8 k (seen p)
sent-closed c p k caller t =
    ap (sent 8 k) t.seen_before.1
    ∙ parcels-none (is_put_of 8 k) (seen p) t.seen_before.0 (sym (puts-own 8 k t.seen_before.0) ∙ ap (count_by (is_put_of 8 k)) (rest-of c p k caller t))

taken-closed : (c : ClosedFields) (p : Pass) (n k : ℕ) → p.errand.caller ≡ n → HasTakenIn c p → taken n 8 k c.events ≡ taken n 8 k (seen p)
taken-closed c p n k caller t =
    ap (taken n 8 k) t.seen_before.1
    ∙ parcels-none (is_take_of n 8 k) (seen p) t.seen_before.0
    (sym (takes-own n 8 k t.seen_before.0) ∙ ap (count_by (is_take_of n 8 k)) (rest-of c p n caller t))

-- a caller of the pipeline at its end
pub record IsOver (h : HeapFields) (n : ℕ) (c : ClosedFields) (k : ℕ) : Type 0 where
  pub p : Pass
  pub caller : p.errand.caller ≡ k
  pub between : IsBetween h n p
  pub in_it : HasTakenIn c p

over-quiet : (h : HeapFields) (n : ℕ) (c : ClosedFields) (k : ℕ) → IsOver h n c k → IsQuiet n 8 (own k c.events)
over-quiet h n c k o =
    subst (IsQuiet n 8) (sym (own-closed c o.p k o.caller o.in_it)) (subst (λ (j : ℕ). IsQuiet n 8 (own j (seen o.p))) o.caller o.between.quiet)

over-within : (h : HeapFields) (n : ℕ) (c : ClosedFields) (k : ℕ) → IsOver h n c k → All (PutsWithin n) (own k c.events)
over-within h n c k o =
    subst (All (PutsWithin n)) (sym (own-closed c o.p k o.caller o.in_it))
    (subst (λ (j : ℕ). All (PutsWithin n) (own j (seen o.p))) o.caller o.between.within)

over-nothing :
    (h : HeapFields) (n : ℕ) (c : ClosedFields) (k place : ℕ) → IsResting c → (o : IsOver h n c k) → owned_after c.events k place ≡ None
over-nothing h n c k place rests o =
    subst (λ (j : ℕ). owned_after c.events j place ≡ None) o.caller
    (closed-owned c o.p place rests o.in_it ∙ o.between.nothing.1 place (All-nil (λ block. block.place ≢ place)))

module _ (passed : ℕ → ℕ → Type 0) (h : HeapFields) (pipe : Pipe) (start count : ℕ) where
  -- the pass and the end of the sender with a number
  pub done-find :
      (number : ℕ) (ps : List Pass) (es : List Sender) (P : Pass → Type 0) (Q : Sender → Type 0) → AreDone passed h pipe start count number ps es
      → All P ps → All Q es → (k : ℕ) → number ≤ k → k < number + length ps
      → (p : Pass) × (e : Sender) × HasDone passed h pipe start count k p e × P p × Q e
  done-find number [] [] P Q all ps_all es_all k least lt = absurd (omega (arith, least, lt))
  done-find number (p ∷ ps) (e ∷ es) P Q all ps_all es_all k least lt =
      elim (cases_eq k number) [
        | inl same ↦ (p, e, subst (λ j. HasDone passed h pipe start count j p e) (sym same) all.0, All-head P p ps ps_all, All-head Q e es es_all)
        | inr other ↦
            done-find (suc number) ps es P Q all.1 (All-tail P p ps ps_all) (All-tail Q e es es_all) k (omega (arith, least, other)) (omega (arith, lt))
      ]
  done-find number (p ∷ ps) [] P Q all ps_all es_all k least lt = absurd all
  done-find number [] (e ∷ es) P Q all ps_all es_all k least lt = absurd all

  -- all passes of senders are idle, and all ends are theirs
  pub done-idle :
      (number : ℕ) (ps : List Pass) (es : List Sender) → AreDone passed h pipe start count number ps es → All (λ p. IsOf h p × IsIdle p.errand) ps
  done-idle number [] [] all = All-nil (λ p. IsOf h p × IsIdle p.errand)
  done-idle number (p ∷ ps) (e ∷ es) all =
      All-cons (λ x. IsOf h x × IsIdle x.errand) p ps all.0.has.between.rest (done-idle (suc number) ps es all.1)
  done-idle number (p ∷ ps) [] all = absurd all
  done-idle number [] (e ∷ es) all = absurd all

  pub done-ends :
      (number : ℕ) (ps : List Pass) (es : List Sender) → AreDone passed h pipe start count number ps es
      → All (λ s. IsSender pipe s × (s.pending ≡ None)) es
  done-ends number [] [] all = All-nil (λ s. IsSender pipe s × (s.pending ≡ None))
  done-ends number (p ∷ ps) (e ∷ es) all =
      All-cons (λ s. IsSender pipe s × (s.pending ≡ None)) e es (all.0.end, all.0.pending) (done-ends (suc number) ps es all.1)
  done-ends number (p ∷ ps) [] all = absurd all
  done-ends number [] (e ∷ es) all = absurd all

  done-above :
      (number low : ℕ) (ps : List Pass) (es : List Sender) → low < number → AreDone passed h pipe start count number ps es
      → All (λ other. other.number ≢ low) es
  done-above number low [] [] less all = All-nil (λ other. other.number ≢ low)
  done-above number low (p ∷ ps) (e ∷ es) less all =
      All-cons (λ other. other.number ≢ low) e es (λ same. let is = all.0.number_is in omega (arith, is, same, less))
      (done-above (suc number) low ps es (omega (arith, less)) all.1)
  done-above number low (p ∷ ps) [] less all = absurd all
  done-above number low [] (e ∷ es) less all = absurd all

  pub done-distinct : (number : ℕ) (ps : List Pass) (es : List Sender) → AreDone passed h pipe start count number ps es → AreDistinct es
  done-distinct number [] [] all = tt
  done-distinct number (p ∷ ps) (e ∷ es) all = (
    subst (λ (n : ℕ). All (λ other. other.number ≢ n) es) (sym all.0.number_is) (done-above (suc number) number ps es (omega arith) all.1),
    done-distinct (suc number) ps es all.1,
  )
  done-distinct number (p ∷ ps) [] all = absurd all
  done-distinct number [] (e ∷ es) all = absurd all

-- what all callers have seen and done, and the closed heap
pub record IsOverAll (passed : ℕ → ℕ → Type 0) (h : HeapFields) (n start count : ℕ) (folds : ℕ → ℕ) (c : ClosedFields) : Type 0 where
  pub legal : IsLegalWithoutCounts c.geometry c.events
  pub callers : c.geometry.callers ≡ n + 1
  pub rests : IsResting c
  pub sender : (k : ℕ) → k < n → (p : Pass) × (p.errand.caller ≡ k) × HasSent passed h n start count p × HasTakenIn c p
  pub r : Pass
  pub receiver : r.errand.caller ≡ n
  pub counts : ℕ → ℕ
  pub took : HasTaken h n counts folds r
  pub all : (k : ℕ) → k < n → counts k ≡ count
  pub in_it : HasTakenIn c r

module _ (passed : ℕ → ℕ → Type 0) (h : HeapFields) (n start count : ℕ) (folds : ℕ → ℕ) (c : ClosedFields) (o : IsOverAll passed h n start count folds c) where
  each : (k : ℕ) → k < c.geometry.callers → IsOver h n c k
  each k below =
      elim (cases_lt k n) [
        | inl less ↦
            let (p, caller, has, in_it) = o.sender k less in record { p = p; caller = caller; between = has.between; in_it = in_it }
        | inr more ↦
            let last : n ≡ k = (let is = o.callers in omega (arith, below, more, is)) in
            record { p = o.r; caller = o.receiver ∙ last; between = o.took.between; in_it = o.in_it }
      ]

  pub over-all-quiet : IsQuiet n 8 c.events
  over-all-quiet = quiet-closed c.geometry n c.events o.legal (λ k below. over-quiet h n c k (each k below))

  puts-all : (k : ℕ) → k < n → count_by (is_put_of 8 k) c.events ≡ count
  puts-all k below =
      let (p, caller, has, in_it) = o.sender k below in
      sym (puts-own 8 k c.events) ∙ ap (count_by (is_put_of 8 k)) (own-closed c p k caller in_it)
      ∙ subst (λ (j : ℕ). count_by (is_put_of 8 j) (own j (seen p)) ≡ count) caller has.puts

  takes-all : (k : ℕ) → k < n → count_by (is_take_of n 8 k) c.events ≡ count
  takes-all k below =
      sym (takes-own n 8 k c.events) ∙ ap (count_by (is_take_of n 8 k)) (own-closed c o.r n o.receiver o.in_it)
      ∙ subst (λ (j : ℕ). count_by (is_take_of n 8 k) (own j (seen o.r)) ≡ o.counts k) o.receiver (o.took.takes k below) ∙ o.all k below

  pub over-all-equal : (k : ℕ) → k < n → taken n 8 k c.events ≡ sent 8 k c.events
  over-all-equal k below =
      taken-all c.geometry c.events n 8 k (omega arith) below o.legal over-all-quiet (takes-all k below ∙ sym (puts-all k below))

  pub over-all-messages : (k : ℕ) → k < n → contents_of (sent 8 k c.events) ≡ messages start k count
  over-all-messages k below =
      let (p, caller, has, in_it) = o.sender k below in
      ap contents_of (sent-closed c p k caller in_it)
      ∙ subst (λ (j : ℕ). contents_of (sent 8 j (seen p)) ≡ messages start j count) caller has.contents

  pub over-all-three : (k : ℕ) → k < n → HaveThreeWords (taken n 8 k (seen o.r))
  over-all-three k below =
      let words = ap contents_of (over-all-equal k below) ∙ over-all-messages k below in
      subst HaveThreeWords (taken-closed c o.r n k o.receiver o.in_it) (sent-three (taken n 8 k c.events) start k count words)

  pub over-all-folds : (k : ℕ) → k < n → folds k ≡ fold_of (taken n 8 k c.events)
  over-all-folds k below =
      o.took.fold k below (over-all-three k below) ∙ ap fold_of (sym (taken-closed c o.r n k o.receiver o.in_it))

  pub over-all-nothing : pool_of c.events ≡ []
  over-all-nothing =
      none-live c.geometry n c.events o.legal (within-closed c.geometry n c.events o.legal (λ k below. over-within h n c k (each k below)))
      (λ k place below. over-nothing h n c k place o.rests (each k below))
      (λ shelf below.
      let s = sender_of 8 shelf in
      let is : s < n = to-sender n 8 shelf (omega arith) below in
      shelf-empty c.geometry c.events n 8 shelf (omega arith) below o.legal over-all-quiet (takes-all s is ∙ sym (puts-all s is)))

  pub over-all-gate : (k i : ℕ) → k < n → i < count → passed k i
  over-all-gate k i below lt =
      let (p, caller, has, in_it) = o.sender k below in subst (λ (j : ℕ). passed j i) caller (has.passed_gate i lt)
