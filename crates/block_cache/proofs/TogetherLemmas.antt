-- All blocks of a cache's caller.
use Rattle.std.proofs.Common.{ℕ, ◌≡◌, ◌≢◌, ◌++◌, ◌↔◌, ◌⊎◌, inl, inr, true, List, [], ◌∷◌, Some, refl, sym, ap, ◌∙◌, subst, append_assoc, append-nil}
use Rattle.std.specs.Prelude.{All}
use Rattle.std.proofs.lemmas.Bool.{cases_eq, cases_Bool}
use Rattle.std.proofs.lemmas.List.Elements.{All-nil, All-cons, All-append}
use Rattle.std.proofs.lemmas.Option.{none-some}
use Rattle.heap_geometry.specs.declared.need.Need.{Need}
use Rattle.heap_geometry.specs.Need.{IsNeed}
use Rattle.pool_model.specs.declared.event.Event.{Event}
use Rattle.pool_model.specs.Owned.{if_of}
use Rattle.pool_model.specs.Pool.{Block as PoolBlock, block_at, pool_of}
use Rattle.pool_model.proofs.NeedOfLemmas.{need_of-within}
use Rattle.pool_model.proofs.OwnedLemmas.{of-self}
use Rattle.errand_steps.specs.declared.point.Point.{Point}
use Rattle.errand_steps.specs.declared.point.Point.TheVariants as point
use Rattle.errand_steps.specs.Begins.{IsIdle}
use Rattle.errand_steps.specs.Points.{is_idle}
use Rattle.errand_steps.specs.Calls.{Call, alloc, free}
use Rattle.errand_steps.specs.tables.CallStage.{StageOfCall, asking, asking_run, refused, given, freeing, freed, none}
use Rattle.sound_laws.specs.events.Stages.{stage_of}
use Rattle.sound_laws.specs.events.UnderWay.{SoFar}
use Rattle.live_heap.specs.declared.block.Block.{Block}
use Rattle.live_heap.specs.Heaps.{HeapFields}
use Rattle.live_heap.specs.declared.pass.Pass.{Pass}
use Rattle.live_heap.specs.Answers.{IsTried}
use Rattle.live_heap.specs.Holdings.{ChangesHandSoFar, HoldsExactly}
use Rattle.live_heap.specs.Holdings.{Holds as HoldsPart}
use Rattle.live_heap.specs.Passes.{Owns, seen}
use Rattle.live_heap.proofs.laws_for_builders.AllBlocks.{calling-exact, order-exact}
use Rattle.live_heap.proofs.laws_for_builders.Hands.{block-same, hand-left}
use Rattle.block_cache.specs.declared.cache.Cache.{Cache}
use Rattle.block_cache.specs.Accounts.{Began, HasAllInCall, IsAmong, KeepsUnderWay}
use Rattle.block_cache.specs.Caches.{Holds, HoldsBlock, IsCache, cached_in}
use Rattle.block_cache.proofs.AccountLemmas.{rests}
use Rattle.block_cache.proofs.CacheLemmas.{all-back}

-- no stage is one of a pass that is in no call
idle-stage : (p : Point) → is_idle p ≡ true → stage_of p ≡ none
idle-stage point.Idle idle = refl
idle-stage (point.Block p o) idle = absurd (cc)
idle-stage (point.Stack p o) idle = absurd (cc)
idle-stage (point.Desc p o) idle = absurd (cc)
idle-stage (point.Partial p o) idle = absurd (cc)
idle-stage (point.Large p o) idle = absurd (cc)

-- what a call under way keeps, and what its caller has then
abbrev Together : Call → StageOfCall → List Block → List Block → Type 0
Together call at blocks had = (kept : List Block) × KeepsUnderWay at kept × ChangesHandSoFar call at had (kept ++ blocks)

abbrev token : (place : ℕ) (need : Need) → IsNeed need → Block
token place need is = record { place = place; need = need; is_need = is }

so-far-together :
    (caller : ℕ) (call : Call) (at : StageOfCall) (events : List Event) (blocks had : List Block) → IsTried call → SoFar caller call at events
    → Began call blocks had → Together call at blocks had
so-far-together caller (alloc words) (asking n class looked) events blocks had tried so began = ([], refl, sym began)
so-far-together caller (alloc words) (asking_run n units) events blocks had tried so began = ([], refl, sym began)
so-far-together caller (alloc words) refused events blocks had tried so began = ([], refl, sym began)
so-far-together caller (alloc words) (given place need) events blocks had tried so began =
    let block = token place need (subst IsNeed (sym so.0) (need_of-within words)) in (
      block ∷ [],
      record { block = block; lies = refl; serves = refl; is = refl },
      (block, refl, refl, ap (λ (xs : List Block). block ∷ xs) (sym began)),
    )
so-far-together caller (free p n) (freeing place need) events blocks had tried so began = (
  began.block ∷ [],
  record { block = began.block; lies = began.lies ∙ sym so.0; serves = began.serves ∙ sym so.1; is = refl },
  sym began.is,
)
so-far-together caller (free p n) freed events blocks had tried so began = ([], refl, (began.block, began.lies, began.is))
so-far-together caller (alloc words) at events blocks had tried so began = absurd so
so-far-together caller (free p n) at events blocks had tried so began = absurd so
so-far-together caller call at events blocks had tried so began = absurd tried

pub together :
    (h : HeapFields) (c : Cache) (held : List Block) → IsCache h c → Holds c held
    → (kept : List Block) × KeepsUnderWay (stage_of c.pass.errand.point) kept × HoldsExactly c.pass (kept ++ (held ++ cached_in c))
together h c held is all =
    let e = c.pass.errand in
    elim (cases_Bool (is_idle e.point)) [
      | inl idle ↦ ([], subst (λ at. KeepsUnderWay at []) (sym (idle-stage e.point idle)) refl, all.at_rest idle)
      | inr busy ↦
          let w = all.in_call busy in
          let t =
          so-far-together w.first.errand.caller w.call (stage_of e.point) w.calling.added (held ++ cached_in c) w.had w.tried w.calling.under_way
          w.began in (
            t.0,
            t.1,
            calling-exact h w.first c.pass w.call w.steps w.had (t.0 ++ (held ++ cached_in c)) (w.of h is.hand.of) is.hand.of w.calling t.2
                w.exact,
          )
    ]

-- what was owned at the opening is held
pub opened : (c : Cache) (blocks : List Block) → IsIdle c.pass.errand → cached_in c ≡ [] → HoldsExactly c.pass blocks ↔ Holds c blocks
opened c blocks idle empty =
    let same : blocks ++ cached_in c ≡ blocks = ap (λ (xs : List Block). blocks ++ xs) empty ∙ append-nil blocks in (
      λ exact. rests c.pass (blocks ++ cached_in c) idle (subst (HoldsExactly c.pass) (sym same) exact),
      λ all. subst (HoldsExactly c.pass) same (all.at_rest idle),
    )

-- the order of exact hands means nothing, also behind a first block
joined : (before after cached : List Block) (block : Block) → (before ++ block ∷ after) ++ cached ≡ before ++ (block ∷ (after ++ cached))
joined before after cached block = append_assoc before (block ∷ after) cached

exact-ordered : (p : Pass) (before after cached : List Block) (block : Block)
    → HoldsExactly p ((before ++ block ∷ after) ++ cached) ↔ HoldsExactly p (block ∷ ((before ++ after) ++ cached))
exact-ordered p before after cached block =
    let right : (before ++ after) ++ cached ≡ before ++ (after ++ cached) = append_assoc before after cached in (
      λ exact.
          subst (λ (xs : List Block). HoldsExactly p (block ∷ xs)) (sym right)
          ((order-exact p before (after ++ cached) block).0 (subst (HoldsExactly p) (joined before after cached block) exact)),
      λ exact.
          subst (HoldsExactly p) (sym (joined before after cached block))
          ((order-exact p before (after ++ cached) block).1 (subst (λ (xs : List Block). HoldsExactly p (block ∷ xs)) right exact)),
    )

behind-first : (p : Pass) (first : Block) (before after cached : List Block) (block : Block)
    → HoldsExactly p (first ∷ ((before ++ block ∷ after) ++ cached)) ↔ HoldsExactly p (first ∷ (block ∷ ((before ++ after) ++ cached)))
behind-first p first before after cached block =
    let turned = exact-ordered p (first ∷ before) after cached block in
    let swapped = order-exact p (block ∷ []) ((before ++ after) ++ cached) first in
    (λ exact. swapped.0 (turned.0 exact), λ exact. turned.1 (swapped.1 exact))

-- what a caller had exactly when it began a call that is about none of these blocks, whose order means nothing
record HadSo (p : Pass) (call : Call) (blocks : List Block) : Type 0 where
  pub had : List Block
  pub began : Began call blocks had
  pub exact : HoldsExactly p had

to-first : (p : Pass) (call : Call) (before after cached had : List Block) (block : Block) → Began call ((before ++ block ∷ after) ++ cached) had
    → HoldsExactly p had → IsTried call → HadSo p call (block ∷ ((before ++ after) ++ cached))
to-first p (free place need) before after cached had block began exact tried =
    record {
      had = began.block ∷ (block ∷ ((before ++ after) ++ cached));
      began = record { block = began.block; lies = began.lies; serves = began.serves; is = refl };
      exact = (behind-first p began.block before after cached block).0 (subst (HoldsExactly p) began.is exact);
    }
to-first p (alloc words) before after cached had block began exact tried =
    record { had = _; began = refl; exact = (exact-ordered p before after cached block).0 (subst (HoldsExactly p) began exact) }
to-first p call before after cached had block began exact tried = absurd tried

from-first : (p : Pass) (call : Call) (before after cached had : List Block) (block : Block) → Began call (block ∷ ((before ++ after) ++ cached)) had
    → HoldsExactly p had → IsTried call → HadSo p call ((before ++ block ∷ after) ++ cached)
from-first p (free place need) before after cached had block began exact tried =
    record {
      had = began.block ∷ ((before ++ block ∷ after) ++ cached);
      began = record { block = began.block; lies = began.lies; serves = began.serves; is = refl };
      exact = (behind-first p began.block before after cached block).1 (subst (HoldsExactly p) began.is exact);
    }
from-first p (alloc words) before after cached had block began exact tried =
    record { had = _; began = refl; exact = (exact-ordered p before after cached block).1 (subst (HoldsExactly p) began exact) }
from-first p call before after cached had block began exact tried = absurd tried

had-in-call : (p : Pass) (blocks : List Block) (w : HasAllInCall p blocks) (others : List Block) → HadSo w.first w.call others → HasAllInCall p others
had-in-call p blocks w others so =
    record {
      first = w.first;
      of = w.of;
      call = w.call;
      steps = w.steps;
      calling = w.calling;
      tried = w.tried;
      had = so.had;
      began = so.began;
      exact = so.exact;
    }

pub ordered : (c : Cache) (before after : List Block) (block : Block) → Holds c (before ++ block ∷ after) ↔ Holds c (block ∷ (before ++ after))
ordered c before after block =
    let p = c.pass in
    let cached = cached_in c in
    let turned = exact-ordered p before after cached block in (
      λ all.
          record {
            at_rest = λ idle. turned.0 (all.at_rest idle);
            in_call = λ busy.
                let w = all.in_call busy in
                had-in-call p ((before ++ block ∷ after) ++ cached) w _ (to-first w.first w.call before after cached w.had block w.began w.exact w.tried);
          },
      λ all.
          record {
            at_rest = λ idle. turned.1 (all.at_rest idle);
            in_call = λ busy.
                let w = all.in_call busy in
                had-in-call p (block ∷ ((before ++ after) ++ cached)) w _ (from-first w.first w.call before after cached w.had block w.began w.exact w.tried);
          },
    )

-- a block of a list lies at the place, or none does
record Lies (place : ℕ) (blocks : List Block) : Type 0 where
  pub before : List Block
  pub block : Block
  pub after : List Block
  pub is : blocks ≡ before ++ block ∷ after
  pub here : block.place ≡ place

find : (place : ℕ) (blocks : List Block) → Lies place blocks ⊎ All (λ block. block.place ≢ place) blocks
find place [] = inr (All-nil (λ (block : Block). block.place ≢ place))
find place (b ∷ bs) =
    elim (cases_eq b.place place) [
      | inl here ↦ inl (record { before = []; block = b; after = bs; is = refl; here = here })
      | inr other ↦
          elim (find place bs) [
            | inl l ↦
                inl (record { before = b ∷ l.before; block = l.block; after = l.after; is = ap (λ (xs : List Block). b ∷ xs) l.is; here = l.here })
            | inr apart ↦ inr (All-cons (λ (block : Block). block.place ≢ place) b bs other apart)
          ]
    ]

-- two tokens of owned blocks at one place are one
same-token : (p : Pass) (a b : Block) → Owns p a → Owns p b → a.place ≡ b.place → a ≡ b
same-token p a b one other place =
    let here = one.0 in
    let there = other.0 in
    let both : Some here.0 ≡ Some there.0 = sym here.1 ∙ ap (λ k. block_at k (pool_of (seen p))) place ∙ there.1 in
    let same : here.0 ≡ there.0 = cc in
    block-same a b place (sym here.3 ∙ ap (λ (x : PoolBlock). x.need) same ∙ there.3)

pub among-held : (h : HeapFields) (c : Cache) (held : List Block) (block : Block) → IsCache h c → IsIdle c.pass.errand → Holds c held
    → HoldsBlock c block ↔ IsAmong block held
among-held h c held block is idle all =
    let p = c.pass in
    let exact = all.at_rest idle in
    let cached = cached_in c in
    let regroup = λ (before after : List Block) (b : Block) (in_held : held ≡ before ++ b ∷ after).
    subst (HoldsPart p)
    (ap (λ (xs : List Block). xs ++ cached) in_held ∙ append_assoc before (b ∷ after) cached) exact.0 in (
      λ holds.
          elim (find block.place held) [
            | inl l ↦
                let out = hand-left p l.before (l.after ++ cached) l.block (regroup l.before l.after l.block l.is) in
                let same = same-token p block l.block holds.0 out.0 (sym l.here) in
                (l.before, l.after, l.is ∙ ap (λ (b : Block). l.before ++ b ∷ l.after) (sym same))
            | inr apart ↦
                let owns = holds.0.0 in
                absurd (none-some owns.0
                (sym (exact.1 block.place (All-append (λ (b : Block). b.place ≢ block.place) held cached apart holds.1))
                ∙ (ap (if_of p.errand.caller) owns.1 ∙ of-self p.errand.caller owns.0 owns.2)))
          ],
      λ (before, after, in_held).
          let out = hand-left p before (after ++ cached) block (regroup before after block in_held) in
          (out.0, all-back (λ b. b.place ≢ block.place) after cached (all-back (λ b. b.place ≢ block.place) before (after ++ cached) out.1)),
    )
