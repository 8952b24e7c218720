-- The receiver takes one block more.
use Rattle.std.proofs.Common.{ℕ, ◌≡◌, ◌≢◌, ◌<◌, ◌+◌, ◌++◌, List, [], ◌∷◌, sym, ap, ◌∙◌, subst, inl, inr, arith}
use Rattle.std.specs.Prelude.{All, count_by}
use Rattle.std.proofs.lemmas.Bool.{cases_eq}
use Rattle.std.proofs.lemmas.List.Elements.{All-append, All-cons, All-nil}
use Rattle.pool_model.specs.declared.event.Event.{Event}
use Rattle.pool_model.specs.declared.event.Event.TheVariants.{Take}
use Rattle.pool_model.specs.Histories.{own}
use Rattle.pool_model.specs.Parcels.{Parcel, parcel_of, parcels_in}
use Rattle.pool_model.specs.Pool.{Block as PoolBlock}
use Rattle.pool_model.proofs.HistoryLemmas.{EachAfter-push}
use Rattle.shelf_laws.specs.Quiet.{IsQuiet, IsQuietAfter, is_take_of, sender_of, taken, turn_of}
use Rattle.shelf_laws.proofs.GrowLemmas.{count-more, count-same, parcels-add, parcels-none}
use Rattle.shelf_laws.proofs.OwnLemmas.{takes-own}
use Rattle.shelf_laws.proofs.PipeLemmas.{take-is, take-is-not, take-turn, turn-home}
use Rattle.live_heap.specs.Heaps.{HeapFields}
use Rattle.live_heap.specs.declared.pass.Pass.{Pass}
use Rattle.live_heap.specs.Passes.{seen}
use Rattle.pipe_runner.specs.Messages.{HasThreeWords, HaveThreeWords, fold_of, with_words}
use Rattle.pipe_runner.specs.Moves.{PassGoesOn}
use Rattle.pipe_runner.specs.Receivers.{HasTaken}
use Rattle.pipe_runner.specs.Senders.{IsBetween, PutsWithin}
use Rattle.pipe_runner.proofs.HandLemmas.{IsHandedAt}
use Rattle.pipe_runner.proofs.MessageLemmas.{all-before, fold-push}
use Rattle.pipe_runner.proofs.MoveLemmas.{goes-quiet, goes-taken, goes-turns}
use Rattle.pipe_runner.proofs.SendLemmas.{goes-within}

-- what HasTaken says of the events seen
pub record HasTakenIn (n : ℕ) (counts folds : ℕ → ℕ) (events : List Event) : Type 0 where
  pub quiet : IsQuiet n 8 (own n events)
  pub within : All (PutsWithin n) (own n events)
  pub takes : (k : ℕ) → k < n → count_by (is_take_of n 8 k) (own n events) ≡ counts k
  pub fold : (k : ℕ) → k < n → HaveThreeWords (taken n 8 k events) → folds k ≡ fold_of (taken n 8 k events)

taken-goes-own :
    (h : HeapFields) (n : ℕ) (counts folds : ℕ → ℕ) (p q : Pass) → p.errand.caller ≡ n → HasTaken h n counts folds p → PassGoesOn p q
    → IsQuiet n 8 (own p.errand.caller (seen q)) × All (PutsWithin n) (own p.errand.caller (seen q))
    × ((k : ℕ) → k < n → count_by (is_take_of n 8 k) (own p.errand.caller (seen q)) ≡ counts k)
taken-goes-own h n counts folds p q caller has g = (
  goes-quiet n 8 p q g has.between.quiet,
  goes-within n p q g has.between.within,
  λ k below. (goes-turns n 8 k p q (omega arith) below g).1 ∙ has.takes k below,
)

pub taken-goes :
    (h : HeapFields) (n : ℕ) (counts folds : ℕ → ℕ) (p q : Pass) → p.errand.caller ≡ n → HasTaken h n counts folds p → PassGoesOn p q
    → HasTakenIn n counts folds (seen q)
taken-goes h n counts folds p q caller has g =
    let (quiet, within, takes) = taken-goes-own h n counts folds p q caller has g in record {
      quiet = subst (λ (c : ℕ). IsQuiet n 8 (own c (seen q))) caller quiet;
      within = subst (λ (c : ℕ). All (PutsWithin n) (own c (seen q))) caller within;
      takes = subst (λ (c : ℕ). (k : ℕ) → k < n → count_by (is_take_of n 8 k) (own c (seen q)) ≡ counts k) caller takes;
      fold = λ k below three.
          let same = goes-taken n 8 k p q caller g in has.fold k below (subst HaveThreeWords same three) ∙ ap fold_of (sym same);
    }

-- the numbers with one more for a sender, and the folds with its block's words
pub record HasOneMore (s : ℕ) (counts folds counts_now folds_now : ℕ → ℕ) (b : PoolBlock) : Type 0 where
  pub here : counts_now s ≡ counts s + 1
  pub others : (k : ℕ) → k ≢ s → counts_now k ≡ counts k
  pub fold : HasThreeWords b.contents → folds_now s ≡ with_words (folds s) b.contents
  pub other_folds : (k : ℕ) → k ≢ s → folds_now k ≡ folds k

-- what was taken of each sender, with the take of a sender's next block from its next shelf
pub taken-here :
    (n s place shelf : ℕ) (h now : List Event) (b : PoolBlock) → sender_of 8 shelf ≡ s → IsHandedAt n h now (Take n shelf place) place b
    → taken n 8 s now ≡ taken n 8 s h ++ parcel_of b ∷ []
taken-here n s place shelf h now b home at =
    let event = Take n shelf place in
    let none : count_by (is_take_of n 8 s) at.more ≡ 0 = sym (takes-own n 8 s at.more) ∙ ap (count_by (is_take_of n 8 s)) at.others in
    ap (taken n 8 s) at.grows ∙ parcels-add (is_take_of n 8 s) (h ++ at.more) event (parcel_of b) (take-is n 8 s place shelf home) (ap parcels_in at.there)
    ∙ ap (λ (l : List Parcel). l ++ parcel_of b ∷ []) (parcels-none (is_take_of n 8 s) h at.more none)

pub taken-else :
    (n s place shelf : ℕ) (h now : List Event) (b : PoolBlock) → sender_of 8 shelf ≢ s → IsHandedAt n h now (Take n shelf place) place b
    → taken n 8 s now ≡ taken n 8 s h
taken-else n s place shelf h now b away at =
    let event = Take n shelf place in
    let none : count_by (is_take_of n 8 s) at.more ≡ 0 = sym (takes-own n 8 s at.more) ∙ ap (count_by (is_take_of n 8 s)) at.others in
    let one : count_by (is_take_of n 8 s) (event ∷ []) ≡ 0 = count-same (is_take_of n 8 s) [] event (take-is-not n 8 s place shelf away) in
    ap (taken n 8 s) at.grows ∙ parcels-none (is_take_of n 8 s) (h ++ at.more) (event ∷ []) one ∙ parcels-none (is_take_of n 8 s) h at.more none

pub taken-more :
    (n s place shelf : ℕ) (counts folds counts_now folds_now : ℕ → ℕ) (h now : List Event) (b : PoolBlock) → s < n
    → HasTakenIn n counts folds h → shelf ≡ turn_of 8 s (counts s) → HasOneMore s counts folds counts_now folds_now b
    → IsHandedAt n h now (Take n shelf place) place b → HasTakenIn n counts_now folds_now now
taken-more n s place shelf counts folds counts_now folds_now h now b below has turn more at =
    let event = Take n shelf place in
    let mine = own n h in
    let home : sender_of 8 shelf ≡ s = ap (sender_of 8) turn ∙ turn-home 8 s (counts s) (omega arith) in
    let next : IsQuietAfter n 8 mine event =
    subst (λ (k : ℕ). IsQuietAfter n 8 mine (Take n k place)) (ap (turn_of 8 s) (has.takes s below) ∙ sym turn) (take-turn n 8 s place mine (omega arith)) in
    record {
      quiet = subst (IsQuiet n 8) (sym at.own_more) (EachAfter-push (IsQuietAfter n 8) mine event has.quiet next);
      within = subst (All (PutsWithin n)) (sym at.own_more)
          (All-append (PutsWithin n) mine (event ∷ []) has.within (All-cons (PutsWithin n) event [] tt (All-nil (PutsWithin n))));
      takes = λ k lt. elim (cases_eq k s) [
        | inl same ↦
            let on : sender_of 8 shelf ≡ k = home ∙ sym same in
            ap (count_by (is_take_of n 8 k)) at.own_more ∙ count-more (is_take_of n 8 k) mine event (take-is n 8 k place shelf on)
            ∙ ap (λ (x : ℕ). x + 1) (has.takes k lt ∙ ap counts same) ∙ sym more.here ∙ ap counts_now (sym same)
        | inr other ↦
            ap (count_by (is_take_of n 8 k)) at.own_more
            ∙ count-same (is_take_of n 8 k) mine event (take-is-not n 8 k place shelf (λ is. other (sym is ∙ home)))
            ∙ has.takes k lt ∙ sym (more.others k other)
      ];
      fold = λ k lt three. elim (cases_eq k s) [
        | inl same ↦
            let list = taken-here n k place shelf h now b (home ∙ sym same) at in
            let parts = all-before (λ (x : Parcel). HasThreeWords x.contents) (taken n 8 k h) (parcel_of b) (subst HaveThreeWords list three) in
            ap folds_now same ∙ more.fold parts.1 ∙ ap (λ (x : ℕ). with_words (folds x) b.contents) (sym same)
            ∙ ap (λ (x : ℕ). with_words x b.contents) (has.fold k lt parts.0) ∙ sym (fold-push 0 (taken n 8 k h) (parcel_of b)) ∙ ap fold_of (sym list)
        | inr other ↦
            let list = taken-else n k place shelf h now b (λ is. other (sym is ∙ home)) at in
            more.other_folds k other ∙ has.fold k lt (subst HaveThreeWords list three) ∙ ap fold_of (sym list)
      ];
    }

pub taken-ends :
    (h : HeapFields) (n : ℕ) (counts folds : ℕ → ℕ) (p q : Pass) → HasTakenIn n counts folds (seen p) → p.errand.caller ≡ n → PassGoesOn p q → IsBetween h n q
    → HasTaken h n counts folds q
taken-ends h n counts folds p q has caller g between =
    let turns : (k : ℕ) → k < n → count_by (is_take_of n 8 k) (own p.errand.caller (seen q)) ≡ counts k = λ k lt.
    (goes-turns n 8 k p q (omega arith) lt g).1 ∙ ap (λ (c : ℕ). count_by (is_take_of n 8 k) (own c (seen p))) caller ∙ has.takes k lt in
    record {
      between = between;
      takes = subst (λ (c : ℕ). (k : ℕ) → k < n → count_by (is_take_of n 8 k) (own c (seen q)) ≡ counts k) (sym g.caller) turns;
      fold = λ k lt three.
          let same = goes-taken n 8 k p q caller g in has.fold k lt (subst HaveThreeWords same three) ∙ ap fold_of (sym same);
    }
