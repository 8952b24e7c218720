-- The receiver's whole way from one block to the next.
use Rattle.std.proofs.Common.{ℕ, ◌≡◌, ◌≢◌, ◌<◌, ◌+◌, [], ◌∷◌, Some, inl, inr, refl, sym, ap, ◌∙◌, arith, subst}
use Rattle.std.specs.Prelude.{All}
use Rattle.std.proofs.lemmas.Bool.{cases_eq}
use Rattle.heap_geometry.specs.Need.{usable_words}
use Rattle.pool_model.specs.declared.event.Event.TheVariants.{Take}
use Rattle.pool_model.specs.declared.owner.Owner.TheVariants.{Caller}
use Rattle.pool_model.specs.Calls as ended
use Rattle.pool_model.specs.Histories.{own}
use Rattle.pool_model.specs.Parcels.{Parcel, parcel_of}
use Rattle.pool_model.specs.Pool.{Block as PoolBlock, handed_to}
use Rattle.shelf_laws.specs.Quiet.{IsQuiet, sender_of, taken, turn_of}
use Rattle.shelf_laws.proofs.PipeLemmas.{turn-home}
use Rattle.errand_steps.specs.declared.reply.Reply.TheVariants as reply
use Rattle.errand_steps.specs.Calls.{free, take}
use Rattle.live_heap.specs.declared.block.Block.{Block}
use Rattle.live_heap.specs.Heaps.{HeapFields}
use Rattle.live_heap.specs.declared.pass.Pass.{Pass}
use Rattle.live_heap.specs.Contents.{owned_in}
use Rattle.live_heap.specs.Holdings.{HoldsExactly}
use Rattle.live_heap.specs.Passes.{seen}
use Rattle.live_heap.specs.Whole.{IsWhole}
use Rattle.live_heap.proofs.laws_for_builders.AllBlocks.{called-exact, whole-exact}
use Rattle.pipe_runner.specs.Messages.{HasThreeWords, HaveThreeWords, with_words}
use Rattle.pipe_runner.specs.Moves.{HasTakenOff, KeepsBlocks}
use Rattle.pipe_runner.specs.Receivers.{HasTaken}
use Rattle.pipe_runner.specs.Senders.{IsBetween, PutsWithin}
use Rattle.pipe_runner.proofs.CallSteps.{three-long}
use Rattle.pipe_runner.proofs.HandLemmas.{IsHandedAt, take-at}
use Rattle.pipe_runner.proofs.MessageLemmas.{all-before}
use Rattle.pipe_runner.proofs.MoveLemmas.{goes-here, goes-quiet, goes-taken, goes-trans, whole-goes}
use Rattle.pipe_runner.proofs.SendLemmas.{goes-within}
use Rattle.pipe_runner.proofs.TakeLemmas.{HasOneMore, taken-else, taken-ends, taken-goes, taken-here, taken-more}

pub taken-step :
    (h : HeapFields) (n s shelf fold : ℕ) (counts folds counts_now folds_now : ℕ → ℕ) (p t f q : Pass) (block : Block) → p.errand.caller ≡ n → s < n
    → HasTaken h n counts folds p → HasTakenOff h p shelf block t → shelf ≡ turn_of 8 s (counts s) → KeepsBlocks h t f
    → ((b : PoolBlock) → owned_in t block.place ≡ Some b → HasThreeWords b.contents → fold ≡ with_words (folds s) b.contents)
    → counts_now s ≡ counts s + 1 → ((k : ℕ) → k ≢ s → counts_now k ≡ counts k) → folds_now s ≡ fold
    → ((k : ℕ) → k ≢ s → folds_now k ≡ folds k) → IsWhole h f (free block.place block.need) reply.Freed h q
    → HasTaken h n counts_now folds_now q × (q.errand.caller ≡ n)
taken-step h n s shelf fold counts folds counts_now folds_now p t f q block caller below has off turn keeps folded here others is_fold folds_same whole =
    let last = off.last in
    let way = off.keeps.moves.goes in
    let (b, at_last, mine) = take-at h last t block.place block.need shelf off.rest.0 off.called in
    let last_is : last.errand.caller ≡ n = way.caller ∙ caller in
    let at : IsHandedAt n (seen last) (seen t) (Take n shelf block.place) block.place b =
    subst (λ (k : ℕ). IsHandedAt k (seen last) (seen t) (Take k shelf block.place) block.place b) last_is at_last in
    let one : HasOneMore s counts folds counts_now folds_now b =
    record {
      here = here;
      others = others;
      fold = λ three. is_fold ∙ folded (handed_to (Caller last.errand.caller) b) mine three;
      other_folds = folds_same;
    } in
    let now = taken-more n s block.place shelf counts folds counts_now folds_now (seen last) (seen t) b below (taken-goes h n counts folds p last caller has way) turn one at in
    let freed = whole-goes h f q (free block.place block.need) reply.Freed (ended.freed block.place) whole refl tt in
    let rest = goes-trans t f q keeps.moves.goes freed in
    let t_is : t.errand.caller ≡ n = off.called.caller ∙ last_is in
    let q_is : q.errand.caller ≡ t.errand.caller = rest.caller in
    let (made, may, same, at_rest) = whole in
    let held : HoldsExactly last [] = off.keeps.holds [] has.between.nothing in
    let taken_held : HoldsExactly t (block ∷ []) =
    called-exact h last t (take shelf) 1 (reply.Got block.place block.need) [] (block ∷ []) off.keeps.moves.rest.0 off.rest.0 off.called (block, refl, refl, refl) held in
    let between : IsBetween h n q = record {
      rest = at_rest;
      quiet = subst (λ (k : ℕ). IsQuiet n 8 (own k (seen q))) (sym q_is)
          (goes-quiet n 8 t q rest (subst (λ (k : ℕ). IsQuiet n 8 (own k (seen t))) (sym t_is) now.quiet));
      within = subst (λ (k : ℕ). All (PutsWithin n) (own k (seen q))) (sym q_is)
          (goes-within n t q rest (subst (λ (k : ℕ). All (PutsWithin n) (own k (seen t))) (sym t_is) now.within));
      nothing = whole-exact h h f q (free block.place block.need) reply.Freed (block ∷ []) [] keeps.moves.rest.0 whole (block, refl, refl) (keeps.holds (block ∷ []) taken_held);
    } in
    (taken-ends h n counts_now folds_now t q now t_is rest between, q_is ∙ t_is)

-- where all that was taken has three words, so has all that was taken before, and the block has as many
pub three-step :
    (h : HeapFields) (n s shelf count : ℕ) (p t f q : Pass) (block : Block) → p.errand.caller ≡ n → s < n → HasTakenOff h p shelf block t
    → shelf ≡ turn_of 8 s count → KeepsBlocks h t f → IsWhole h f (free block.place block.need) reply.Freed h q
    → ((k : ℕ) → k < n → HaveThreeWords (taken n 8 k (seen q)))
    → ((k : ℕ) → k < n → HaveThreeWords (taken n 8 k (seen p))) × (usable_words block.need ≡ 3)
three-step h n s shelf count p t f q block caller below off turn keeps whole all =
    let last = off.last in
    let way = off.keeps.moves.goes in
    let home : sender_of 8 shelf ≡ s = ap (sender_of 8) turn ∙ turn-home 8 s count (omega arith) in
    let (b, at_last, mine) = take-at h last t block.place block.need shelf off.rest.0 off.called in
    let last_is : last.errand.caller ≡ n = way.caller ∙ caller in
    let at : IsHandedAt n (seen last) (seen t) (Take n shelf block.place) block.place b =
    subst (λ (k : ℕ). IsHandedAt k (seen last) (seen t) (Take k shelf block.place) block.place b) last_is at_last in
    let t_is : t.errand.caller ≡ n = off.called.caller ∙ last_is in
    let rest = goes-trans t f q keeps.moves.goes (whole-goes h f q (free block.place block.need) reply.Freed (ended.freed block.place) whole refl tt) in
    let later : (k : ℕ) → k < n → HaveThreeWords (taken n 8 k (seen t)) = λ k lt. subst HaveThreeWords (goes-taken n 8 k t q t_is rest) (all k lt) in
    let before : (k : ℕ) → HaveThreeWords (taken n 8 k (seen last)) → HaveThreeWords (taken n 8 k (seen p)) = λ k three.
    subst HaveThreeWords (goes-taken n 8 k p last caller way) three in
    let parts =
    all-before (λ (x : Parcel). HasThreeWords x.contents) (taken n 8 s (seen last)) (parcel_of b)
    (subst HaveThreeWords (taken-here n s block.place shelf (seen last) (seen t) b home at) (later s below)) in (
      λ k lt. elim (cases_eq k s) [
        | inl same ↦ before k (subst (λ (j : ℕ). HaveThreeWords (taken n 8 j (seen last))) (sym same) parts.0)
        | inr other ↦
            before k (subst HaveThreeWords (taken-else n k block.place shelf (seen last) (seen t) b (λ is. other (sym is ∙ home)) at) (later k lt))
      ],
      three-long h t block (handed_to (Caller last.errand.caller) b) off.rest.0 off.owned mine parts.1,
    )

-- the receiver that found no note
pub taken-none :
    (h : HeapFields) (n : ℕ) (counts folds : ℕ → ℕ) (p q : Pass) → p.errand.caller ≡ n → HasTaken h n counts folds p → KeepsBlocks h p q
    → HasTaken h n counts folds q
taken-none h n counts folds p q caller has keeps =
    let g = keeps.moves.goes in
    taken-ends h n counts folds p q (taken-goes h n counts folds p p caller has (goes-here p p refl)) caller g (record {
      rest = keeps.moves.rest;
      quiet = subst (λ (k : ℕ). IsQuiet n 8 (own k (seen q))) (sym g.caller) (goes-quiet n 8 p q g has.between.quiet);
      within = subst (λ (k : ℕ). All (PutsWithin n) (own k (seen q))) (sym g.caller) (goes-within n p q g has.between.within);
      nothing = keeps.holds [] has.between.nothing;
    })
