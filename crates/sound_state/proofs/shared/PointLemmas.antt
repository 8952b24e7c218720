-- Steps from a point that is known: what a sound state says of the caller there, and what its word and errand weigh.
use Rattle.std.proofs.Common.{ℕ, ◌≡◌, ◌<◌, ◌≤◌, ◌+◌, List, [], ◌∷◌, arith, ap, sym, subst, inl, inr, ◌∙◌, ◌≢◌, length-set, get_or-set_other, All, Any, Contains}
use Rattle.std.proofs.Common.{IsSome, IsTrue, length, slice_index, slice_set}
use Rattle.std.proofs.lemmas.List.Elements.{All-nil, All-cons, recursion_from_All, All-from_recursion}
use Rattle.sound_state.proofs.Common.{need_of, Geometry, active_of, SeatFields, Found, WordName, name_of, descriptor_count, Exists, Writes, cases_name, Site, occurs}
use Rattle.sound_state.proofs.Common.{Continuation, Desc, Point, ErrandFields, FitsPoint, spare_of, pushed_by, asked, plan_point_of, State, IsHazard, IsGuard}
use Rattle.sound_state.proofs.Common.{passed_by, held_by, Kept, Holding, holds_of, on_its_way, waiting, reserving, partly_used, IsKeptAs, IsPartlyUsed, errand_has}
use Rattle.sound_state.proofs.Common.{word_keeps, Lists, IsSo, IsOwned, recalls_of}
use Rattle.sound_state.proofs.Common.{Recall, IsSoundWithoutCounts, IsSoundWith, waits_in, word_stock, stock_among, sum_below, callers_sum}
use Rattle.sound_state.proofs.Common.{errand_keeps, word_reserves, reserved_among, kept_among, FitsContinuation, is_alloc, plan-exists}
use Rattle.heap_geometry.specs.declared.need.Need.TheVariants as need
use Rattle.word_table.specs.declared.name.WordName.TheVariants as name
use Rattle.step_parts.specs.declared.hazard.point.DescPoint.TheVariants as desc
use Rattle.errand_steps.specs.declared.continuation.Continuation.TheVariants as continuation
use Rattle.errand_steps.specs.Continuations.{is_free}
use Rattle.sound_state.proofs.shared.BackedRecalls.{fits-own}
use Rattle.sound_state.proofs.shared.StepLemmas.{PointGoes, TurnGoes, actives-stay, at_point, HoldsException, words-stay}
use Rattle.sound_state.proofs.shared.SumLemmas.{sum-plus, sum-least, term-sum}
use Rattle.sound_state.proofs.shared.WeighLemmas.{IsStill, WeighAlike}
use Rattle.std.specs.List.{AllByRecursion}
use Rattle.sound_state.proofs.shared.SuperblocksStay.{ActivesKept}
use Rattle.sound_state.proofs.shared.ShownLemmas.{MayStandAt}

-- a caller of a sound state fits at its point
pub fits-at :
    (g : Geometry) (s : State) (l : Lists) (caller : ℕ) (p : Point) → IsSoundWith g s l → caller < g.callers → (s.errand caller).point ≡ p
    → FitsPoint g caller p
fits-at g s l caller p old has stands = subst (FitsPoint g caller) stands (fits-own g caller (s.errand caller) (old.formed.errands caller has))

pub fits-now :
    (g : Geometry) (s : State) (caller : ℕ) (p : Point) → IsSoundWithoutCounts g s → caller < g.callers → (s.errand caller).point ≡ p → FitsPoint g caller p
fits-now g s caller p sound has stands = fits-at g s sound.parts.0 caller p sound.parts.1 has stands

-- what a caller has retired is a descriptor that the heap has
pub retired-exists :
    (g : Geometry) (s : State) (l : Lists) (caller d : ℕ) → IsSoundWith g s l → caller < g.callers → Contains (s.errand caller).retired d
    → d < descriptor_count g
retired-exists g s l caller d old has listed = grind (arith, old, has, listed)

pub kept-at :
    (g : Geometry) (s : State) (l : Lists) (caller : ℕ) (p : Point) → IsSoundWith g s l → caller < g.callers → (s.errand caller).point ≡ p
    → All (λ k. IsKeptAs s k.status k.desc k.class) (holds_of p).kept
kept-at g s l caller p old has stands = subst (λ q. All (λ k. IsKeptAs s k.status k.desc k.class) (holds_of q).kept) stands (old.kept.errand caller has)

pub so-at :
    (g : Geometry) (s : State) (l : Lists) (caller : ℕ) (p : Point) → IsSoundWith g s l → caller < g.callers → (s.errand caller).point ≡ p
    → All (IsSo g s l caller) (recalls_of p)
so-at g s l caller p old has stands = subst (λ q. All (IsSo g s l caller) (recalls_of q)) stands (old.remembered.so caller has)

-- each thing that it remembers at this point
pub recalled-at :
    (g : Geometry) (s : State) (l : Lists) (caller : ℕ) (p : Point) → IsSoundWith g s l → caller < g.callers → (s.errand caller).point ≡ p
    → AllByRecursion (IsSo g s l caller) (recalls_of p)
recalled-at g s l caller p old has stands = recursion_from_All (IsSo g s l caller) (recalls_of p) (so-at g s l caller p old has stands)

-- what it remembers where it goes on is so, where that follows from what it remembers here
pub goes-on :
    (g : Geometry) (s : State) (l : Lists) (caller : ℕ) (p : Point) (rs : List Recall) → IsSoundWith g s l → caller < g.callers
    → (s.errand caller).point ≡ p → (AllByRecursion (IsSo g s l caller) (recalls_of p) → AllByRecursion (IsSo g s l caller) rs)
    → All (IsSo g s l caller) rs
goes-on g s l caller p rs old has stands follows = All-from_recursion (IsSo g s l caller) rs (follows (recalled-at g s l caller p old has stands))

pub hazard-at :
    (g : Geometry) (s : State) (l : Lists) (caller : ℕ) (p : Point) → IsSoundWith g s l → caller < g.callers → (s.errand caller).point ≡ p
    → IsHazard (holds_of p).hazard (s.word (name.Hazard caller))
hazard-at g s l caller p old has stands = subst (λ q. IsHazard (holds_of q).hazard (s.word (name.Hazard caller))) stands (old.guarded.words caller has)

pub hands-at :
    (g : Geometry) (s : State) (l : Lists) (caller : ℕ) (p : Point) → IsSoundWith g s l → caller < g.callers → (s.errand caller).point ≡ p
    → All (λ x. IsOwned s caller x.place x.need) (holds_of p).hands
hands-at g s l caller p old has stands = subst (λ q. All (λ x. IsOwned s caller x.place x.need) (holds_of q).hands) stands (old.tied.hands caller has)

pub frees-at :
    (g : Geometry) (s : State) (l : Lists) (caller : ℕ) (p : Point) → IsSoundWith g s l → caller < g.callers → (s.errand caller).point ≡ p
    → All (λ x. IsOwned s caller x.place x.need) (holds_of p).frees
frees-at g s l caller p old has stands = subst (λ q. All (λ x. IsOwned s caller x.place x.need) (holds_of q).frees) stands (old.tied.frees caller has)

-- the continuation of an allocation at work is an allocation, and that of a free one
pub the-alloc : (o : Continuation) → IsTrue (is_alloc o) → o ≡ continuation.Alloc (asked o)
the-alloc o is = grind (arith, is)

pub the-free : (o : Continuation) → IsTrue (is_free o) → o ≡ continuation.Free
the-free o is = grind (arith, is)

-- the word of a caller's point is one of the heap's
pub exists-at :
    (g : Geometry) (s : State) (caller : ℕ) (p : Point) → IsSoundWithoutCounts g s → caller < g.callers → (s.errand caller).point ≡ p
    → Exists g (name_of (plan_point_of p))
exists-at g s caller p sound has stands = plan-exists g caller p sound.checked has (fits-now g s caller p sound has stands)

-- a caller with the blocks that it has, or had, at p may stand at q, where what it keeps and remembers there is so
pub stands-with :
    (g : Geometry) (s : State) (l : Lists) (caller : ℕ) (p q : Point) → IsSoundWith g s l → caller < g.callers → (s.errand caller).point ≡ p
    → (holds_of q).hands ≡ (holds_of p).hands → (holds_of q).frees ≡ (holds_of p).frees
    → All (λ k. IsKeptAs s k.status k.desc k.class) (holds_of q).kept → All (IsSo g s l caller) (recalls_of q) → MayStandAt g s l caller q
stands-with g s l caller p q old has stands hands frees kept so = record {
  kept = kept;
  so = so;
  hands = subst (λ bs. All (λ x. IsOwned s caller x.place x.need) bs) (sym hands) (hands-at g s l caller p old has stands);
  frees = subst (λ bs. All (λ x. IsOwned s caller x.place x.need) bs) (sym frees) (frees-at g s l caller p old has stands);
}

-- at points with the same blocks it excepts the same ones
pub excepts-with :
    (h k : Holding) → k.hands ≡ h.hands → k.frees ≡ h.frees → (place : ℕ) → HoldsException h place → HoldsException k place
excepts-with h k hands frees place (inl a) = inl (subst (λ bs. Any (λ b. b.place ≡ place) bs) (sym hands) a)
excepts-with h k hands frees place (inr a) = inr (subst (λ bs. Any (λ b. (b.place ≡ place) × IsTrue b.overwritten) bs) (sym frees) a)

-- at q a caller has the blocks and the push that it has at p, and is no further back in its turn
pub record HoldsBlocks (p q : Point) : Type 0 where
  pub hands : (holds_of q).hands ≡ (holds_of p).hands
  pub frees : (holds_of q).frees ≡ (holds_of p).frees
  pub pushed : pushed_by q ≡ pushed_by p
  pub passed : passed_by q ≡ 0
  pub unread : length (held_by q) ≡ 0
  pub spare : spare_of q ≡ spare_of p
  pub turn : TurnGoes p q

-- a caller may stand at the point where its hazard word is as that asks, what it keeps is in its state and what it remembers is so
pub blocks-go :
    (g : Geometry) (s : State) (l : Lists) (caller : ℕ) (p q : Point) → IsSoundWith g s l → caller < g.callers → (s.errand caller).point ≡ p
    → HoldsBlocks p q → IsHazard (holds_of q).hazard (s.word (name.Hazard caller))
    → ((d : ℕ) → s.word (name.Hazard caller) ≡ d + 1 → IsGuard (holds_of q).hazard → IsGuard (holds_of p).hazard)
    → All (λ k. IsKeptAs s k.status k.desc k.class) (holds_of q).kept → All (IsSo g s l caller) (recalls_of q) → PointGoes g s l caller p q
blocks-go g s l caller p q old has stands h hazard guard kept so = record {
  stands = record {
    point = stands-with g s l caller p q old has stands h.hands h.frees kept so;
    spare = h.spare;
    excepts = excepts-with (holds_of p) (holds_of q) h.hands h.frees;
    turn = h.turn;
  };
  hazard = hazard;
  guard = guard;
  pushed = h.pushed;
  passed = h.passed;
  unread = h.unread;
}

-- at q a caller has the hazard word, the blocks and the push that it has at p, and is no further back in its turn
pub record HoldsAlike (p q : Point) : Type 0 where
  pub hazard : (holds_of q).hazard ≡ (holds_of p).hazard
  pub blocks : HoldsBlocks p q

pub alike-goes :
    (g : Geometry) (s : State) (l : Lists) (caller : ℕ) (p q : Point) → IsSoundWith g s l → caller < g.callers → (s.errand caller).point ≡ p
    → HoldsAlike p q → All (λ k. IsKeptAs s k.status k.desc k.class) (holds_of q).kept → All (IsSo g s l caller) (recalls_of q)
    → PointGoes g s l caller p q
alike-goes g s l caller p q old has stands h kept so =
    blocks-go g s l caller p q old has stands h.blocks
    (subst (λ z. IsHazard z (s.word (name.Hazard caller))) (sym h.hazard) (hazard-at g s l caller p old has stands))
    (λ d word guard. subst IsGuard h.hazard guard) kept so

-- in how many places kept descriptors are d
abbrev pub kept_places : ℕ → List Kept → ℕ
kept_places d ks = kept_among reserving d ks + kept_among waiting d ks + kept_among partly_used d ks + kept_among on_its_way d ks

-- a word after a step, and q, weigh together what the word before it and p did
pub record WeighFrom (n : WordName) (before after : ℕ) (p q : Point) : Type 0 where
  pub still : IsStill n → after ≡ before
  pub reserves :
      (d : ℕ) → word_reserves d n after + reserved_among d (holds_of q).credits
      ≡ word_reserves d n before + reserved_among d (holds_of p).credits
  pub waits : (d : ℕ) → kept_among waiting d (holds_of q).kept ≡ kept_among waiting d (holds_of p).kept
  pub ways : (d : ℕ) → kept_among on_its_way d (holds_of q).kept ≡ kept_among on_its_way d (holds_of p).kept
  pub places :
      (d : ℕ) → word_keeps d n after + kept_places d (holds_of q).kept ≡ word_keeps d n before + kept_places d (holds_of p).kept
  pub frames : (f : ℕ) → occurs f (holds_of q).frames ≡ occurs f (holds_of p).frames
  pub stock :
      (class : ℕ) → word_stock class n after + (stock_among class (holds_of q).kept + waits_in class q)
      ≡ word_stock class n before + (stock_among class (holds_of p).kept + waits_in class p)

-- a word that stays, and points at which a caller keeps the same, weigh the same
pub weigh-stays :
    (n : WordName) (w : ℕ) (p q : Point) → (holds_of q).credits ≡ (holds_of p).credits → (holds_of q).kept ≡ (holds_of p).kept
    → (holds_of q).frames ≡ (holds_of p).frames → ((class : ℕ) → waits_in class q ≡ waits_in class p) → WeighFrom n w w p q
weigh-stays n w p q credits kept frames waits = grind (arith, credits, kept, frames, waits)

pub from-weighs :
    (n : WordName) (before after : ℕ) (e : ErrandFields) (x : Found) (q : Point) → WeighFrom n before after e.point q
    → WeighAlike n before after e (at_point e x q)
from-weighs n before after e x q h = grind (arith, h)

-- a write that leaves its word leaves the active words and the slots
pub stays-actives :
    (g : Geometry) (s : State) (l : Lists) (n : WordName) (new : ℕ) (words' : WordName → ℕ) → IsSoundWith g s l → Writes s.word n new words'
    → new ≡ s.word n → ActivesKept g s words'
stays-actives g s l n new words' old w same = actives-stay g s l words' old.kept (words-stay s.word n new words' w same)

-- the class of the slot whose word this is
abbrev slot_class : WordName → ℕ
slot_class (name.Slot heap class) = class
slot_class n = 0

-- active words and slots hold what is in its state where one of the class, partly used, or nothing is put into a slot
pub slot-written :
    (g : Geometry) (s : State) (l : Lists) (heap class new : ℕ) (words' : WordName → ℕ) → IsSoundWith g s l
    → Writes s.word (name.Slot heap class) new words' → new ≤ descriptor_count g
    → ((d : ℕ) → new ≡ d + 1 → (d < descriptor_count g) × IsPartlyUsed s d class) → ActivesKept g s words'
slot-written g s l heap class new words' old w most holds = record {
  active_words = λ h c has_heap has_class.
      subst (λ w. IsSome (active_of w)) (sym (w.elsewhere (name.Active h c) (λ same. cc))) (old.kept.active_words h c has_heap has_class);
  slot_words = λ h c has_heap has_class.
      elim (cases_name (name.Slot h c) (name.Slot heap class)) [
        | inl is ↦ subst (λ x. x ≤ descriptor_count g) (sym (ap words' is ∙ w.here)) most
        | inr differ ↦ subst (λ x. x ≤ descriptor_count g) (sym (w.elsewhere (name.Slot h c) differ)) (old.kept.slot_words h c has_heap has_class)
      ];
  active = λ h c d credits has_heap has_class is.
      old.kept.active h c d credits has_heap has_class (ap active_of (sym (w.elsewhere (name.Active h c) (λ same. cc))) ∙ is);
  slot = λ h c d has_heap has_class is.
      elim (cases_name (name.Slot h c) (name.Slot heap class)) [
        | inl one ↦
            subst (λ k. (d < descriptor_count g) × IsPartlyUsed s d k) (sym (ap slot_class one)) (holds d (sym (ap words' one ∙ w.here) ∙ is))
        | inr differ ↦ old.kept.slot h c d has_heap has_class (sym (w.elsewhere (name.Slot h c) differ) ∙ is)
      ];
}

-- active words and slots hold what is in its state where a slot is emptied
pub slot-emptied :
    (g : Geometry) (s : State) (l : Lists) (heap class new : ℕ) (words' : WordName → ℕ) → IsSoundWith g s l
    → Writes s.word (name.Slot heap class) new words' → new ≡ 0 → ActivesKept g s words'
slot-emptied g s l heap class new words' old w bare =
    slot-written g s l heap class new words' old w (omega (arith, bare)) (λ d is. let bad : ⊥ = omega (arith, bare, is) in absurd bad)

-- one more partly used superblock and kept ones are kept in their states
pub keeps-too :
    (s : State) (d class : ℕ) (ks : List Kept) → IsPartlyUsed s d class → All (λ k. IsKeptAs s k.status k.desc k.class) ks
    → All (λ k. IsKeptAs s k.status k.desc k.class) (record { desc = d; class = class; status = partly_used } ∷ ks)
keeps-too s d class ks is rest =
    All-cons (λ k. IsKeptAs s k.status k.desc k.class) (record { desc = d; class = class; status = partly_used }) ks is rest

-- no kept descriptors are kept in their states
pub none-kept-as : (s : State) → All (λ (k : Kept). IsKeptAs s k.status k.desc k.class) []
none-kept-as s = All-nil (λ (k : Kept). IsKeptAs s k.status k.desc k.class)

-- a partly used superblock that a caller keeps is neither available nor on its way
pub keeps-alone :
    (g : Geometry) (s : State) (l : Lists) (caller d : ℕ) → IsSoundWith g s l → caller < g.callers → d < descriptor_count g
    → 1 ≤ errand_keeps partly_used d (s.errand caller)
    → (occurs d l.available ≡ 0) × (callers_sum g (errand_keeps on_its_way d) s.errand ≡ 0)
unfolding callers_sum
keeps-alone g s l caller d old has exists keeps =
    let partly = λ (i : ℕ). errand_keeps partly_used d (s.errand i) in
    let ways = λ (i : ℕ). errand_keeps on_its_way d (s.errand i) in
    let both : sum_below g.callers (λ i. partly i + ways i) ≡ sum_below g.callers partly + sum_below g.callers ways = sum-plus g.callers partly ways in
    let least : sum_below g.callers (λ i. partly i + ways i) ≤ sum_below g.callers (λ i. errand_has d (s.errand i)) =
    sum-least g.callers (λ i. partly i + ways i) (λ i. errand_has d (s.errand i)) (λ i lt. omega arith) in
    let once = old.kept.once d exists in
    let mine : partly caller ≤ sum_below g.callers partly = term-sum g.callers partly caller has in
    (omega (arith, once, both, least, mine, keeps), omega (arith, once, both, least, mine, keeps))

-- an allocation of a small class asks for words that the class serves
pub small-asked :
    (g : Geometry) (caller : ℕ) (at : Site) (o : Continuation) → o ≡ continuation.Alloc (asked o) → FitsContinuation g caller at.seat o
    → need_of (asked o) ≡ need.Small at.seat.class
small-asked g caller at o alloc fit = subst (FitsContinuation g caller at.seat) alloc fit

-- the hazard words that a scan has not passed are noted as 0
pub unread-at :
    (g : Geometry) (s : State) (l : Lists) (caller : ℕ) (p : Point) → IsSoundWith g s l → caller < g.callers → (s.errand caller).point ≡ p
    → (k : ℕ) → passed_by p ≤ k → k < length (held_by p) → slice_index (held_by p) k ≡ 0
unread-at g s l caller p old has stands = grind (arith, old, has, stands)

-- the hazard words that a scan hasn't passed are noted as 0 also when it has noted the next one
pub noted-unread :
    (g : Geometry) (s : State) (l : Lists) (caller : ℕ) (seat : SeatFields) (held : List ℕ) (i : ℕ) (o : Continuation) → IsSoundWith g s l
    → caller < g.callers → (s.errand caller).point ≡ Desc (desc.ReadHazard seat held i) o → (new k : ℕ) → i + 1 ≤ k
    → k < length (slice_set held i new) → slice_index (slice_set held i new) k ≡ 0
noted-unread g s l caller seat held i o old has stands new k from below =
    let differ : k ≢ i = λ same. let bad : ⊥ = omega (arith, same, from) in bad in
    get_or-set_other held i k new 0 differ
    ∙ unread-at g s l caller (Desc (desc.ReadHazard seat held i) o) old has stands k (omega (arith, from))
    (omega (arith, below, length-set held i new))
