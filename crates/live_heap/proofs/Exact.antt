-- The hand of a pass is all that its caller owns.
use Rattle.std.proofs.Common.{ℕ, ◌≡◌, ◌≢◌, ◌++◌, ◌↔◌, List, [], ◌∷◌, Some, None, refl, sym, ◌∙◌, ap, subst, inl, inr}
use Rattle.std.specs.Prelude.{All, length, option_map}
use mathlib.Core.Option.{some}
use lib.ListN.{get_elem?}
use Rattle.std.proofs.lemmas.Bool.{cases_eq}
use Rattle.std.proofs.lemmas.List.Elements.{All-cons, All-head, All-tail}
use Rattle.std.proofs.lemmas.Option.{none-some}
use Rattle.heap_geometry.specs.declared.need.Need.{Need}
use Rattle.pool_model.specs.declared.event.Event.{Event}
use Rattle.pool_model.specs.declared.owner.Owner.TheVariants.{Caller}
use Rattle.pool_model.specs.Pool.{Block as PoolBlock, block_at, fresh_block, handed_to, pool_of, written}
use Rattle.pool_model.specs.Owned.{if_of}
use Rattle.pool_model.proofs.OwnedLemmas.{of-self, owned-found}
use Rattle.errand_steps.specs.declared.reply.Reply.{Reply}
use Rattle.errand_steps.specs.declared.reply.Reply.TheVariants as reply
use Rattle.errand_steps.specs.Calls.{Call, alloc, free, put, take, write}
use Rattle.errand_steps.specs.tables.CallStage.{StageOfCall, freed, given}
use Rattle.sound_laws.specs.events.Stages.{stage_of}
use Rattle.sound_laws.specs.events.UnderWay.{SoFar}
use Rattle.step_machine.specs.Cores.{OwnsAfter}
use Rattle.live_heap.specs.declared.block.Block.{Block}
use Rattle.live_heap.specs.Heaps.{HeapFields}
use Rattle.live_heap.specs.declared.pass.Pass.{Pass}
use Rattle.live_heap.specs.declared.view.Lent.{Lent}
use Rattle.live_heap.specs.Calls.{HasCalled, IsCalling}
use Rattle.live_heap.specs.Contents.{HasChanged, HasChangedSoFar, HasGot, OwnsBut, OwnsSame, owned_in}
use Rattle.live_heap.specs.Holdings.{ChangesHand, ChangesHandSoFar, Gains, Holds, HoldsExactly, Loses}
use Rattle.live_heap.specs.Passes.{IsFresh, IsHome, IsOf, Owns, seen, view}
use Rattle.live_heap.specs.Whole.{IsWhole, at_once, by_steps}
use Rattle.live_heap.proofs.CallsAnswers.{got-has}
use Rattle.live_heap.proofs.Changes.{called-changes, calling-changes}
use Rattle.live_heap.proofs.LawsKept.{stays-home}
use Rattle.live_heap.proofs.Holding.{all-in, all-out, holds-all, holds-kept, holds-in, holds-out}

-- what is owned at a block's place
abbrev HasAt : Pass → ℕ → Need → Type 0
HasAt p place need = OwnsAfter (seen p) p.errand.caller place need

owned-there : (p : Pass) (place : ℕ) (need : Need) → HasAt p place need → (b : PoolBlock) × (owned_in p place ≡ Some b) × (b.need ≡ need)
owned-there p place need owns =
    (owns.0, ap (if_of p.errand.caller) owns.1 ∙ of-self p.errand.caller owns.0 owns.2, owns.3)

there-owned : (p : Pass) (place : ℕ) (need : Need) (b : PoolBlock) → owned_in p place ≡ Some b → b.need ≡ need → HasAt p place need
there-owned p place need b is serves =
    let found = owned-found p.errand.caller (block_at place (pool_of (seen p))) b is in (b, found.0, found.1, serves)

-- the words of no block are out that the pass doesn't own
not_owned-home : (h : HeapFields) (p : Pass) (place : ℕ) → IsOf h p → owned_in p place ≡ None → IsHome p place
not_owned-home h p place of nothing = λ n b found there.
    let mine = owned-there p b.place b.need (of.mine n b found) in none-some mine.0 (sym nothing ∙ ap (owned_in p) (sym there) ∙ mine.1)

-- the same blocks' words are out
abbrev LentSame : Pass → Pass → Type 0
LentSame p q = (view q).lent ≡ (view p).lent

-- a block stays owned where nothing changes at its place
stays : (p q : Pass) (block : Block) → LentSame p q → owned_in q block.place ≡ owned_in p block.place → Owns p block → Owns q block
stays p q block lent same owns =
    let there = owned-there p block.place block.need owns.0 in
    (there-owned q block.place block.need there.0 (same ∙ there.1) there.2, stays-home p q block.place lent owns.1)

-- a hand stays exact where nothing changes
same-exact : (p q : Pass) (blocks : List Block) → LentSame p q → OwnsSame p q → HoldsExactly p blocks → HoldsExactly q blocks
same-exact p q blocks lent same held = (
  holds-kept (λ block. Unit {0}) p q (λ block left. stays p q block lent (same block.place)) blocks (λ k d within. tt) held.0,
  λ place apart. same place ∙ held.1 place apart,
)

-- a hand stays exact where a word of one of its blocks is written
written-exact :
    (p q : Pass) (blocks : List Block) (place i v : ℕ) → LentSame p q → OwnsBut p q place (option_map (written i v) (owned_in p place))
    → HoldsExactly p blocks → HoldsExactly q blocks
written-exact p q blocks place i v lent but held = (
  holds-kept (λ block. Unit {0}) p q
      (λ block left owns. elim (cases_eq block.place place) [
        | inl here ↦
            let there = owned-there p block.place block.need owns.0 in
            let now : owned_in q block.place ≡ Some (written i v there.0) =
            ap (owned_in q) here ∙ but.here ∙ ap (λ k. option_map (written i v) (owned_in p k)) (sym here) ∙ ap (option_map (written i v)) there.1 in
            (there-owned q block.place block.need (written i v there.0) now there.2, stays-home p q block.place lent owns.1)
        | inr other ↦ stays p q block lent (but.others block.place other) owns
      ])
      blocks (λ k d within. tt) held.0,
  λ at apart. elim (cases_eq at place) [
    | inl here ↦ ap (owned_in q) here ∙ but.here ∙ ap (option_map (written i v)) (ap (owned_in p) (sym here) ∙ held.1 at apart)
    | inr other ↦ but.others at other ∙ held.1 at apart
  ],
)

-- a hand stays exact where a block goes from it
lost-exact :
    (p q : Pass) (had has : List Block) (place : ℕ) → LentSame p q → OwnsBut p q place None → Loses place had has → HoldsExactly p had
    → HoldsExactly q has
lost-exact p q had has place lent but (block, there, is) held =
    let all : HoldsExactly p (block ∷ has) = subst (HoldsExactly p) is held in (
      holds-kept (λ other. other.place ≢ block.place) p q
          (λ other left. stays p q other lent (but.others other.place (λ same. left (same ∙ sym there)))) has all.0.1 all.0.2,
      λ at apart. elim (cases_eq at place) [
        | inl here ↦ ap (owned_in q) here ∙ but.here
        | inr other ↦
            but.others at other
            ∙ all.1 at (All-cons (λ (b : Block). b.place ≢ at) block has (λ same. other (sym same ∙ there)) apart)
      ],
    )

-- a hand stays exact where a block comes to it, at a place where nothing was owned
gained-exact :
    (h : HeapFields) (p q : Pass) (had has : List Block) (place : ℕ) (need : Need) (b : PoolBlock) → IsOf h p → LentSame p q → owned_in p place ≡ None
    → OwnsBut p q place (Some b) → b.need ≡ need → Gains place need had has → HoldsExactly p had → HoldsExactly q has
gained-exact h p q had has place need b of lent nothing but serves (block, there, needs, is) held =
    let elsewhere : (other : Block) → Owns p other → other.place ≢ block.place =
    λ other owns same.
    let mine = owned-there p other.place other.need owns.0 in
    none-some mine.0 (sym nothing ∙ ap (owned_in p) (sym there ∙ sym same) ∙ mine.1) in
    let apart : All (λ other. other.place ≢ block.place) had = holds-all p (λ other. other.place ≢ block.place) elsewhere had held.0 in
    let owns : Owns q block = (
      there-owned q block.place block.need b (ap (owned_in q) there ∙ but.here) (serves ∙ sym needs),
      stays-home p q block.place lent (not_owned-home h p block.place of (ap (owned_in p) there ∙ nothing)),
    ) in
    subst (HoldsExactly q) (sym is) (
      (
        owns,
        apart,
        holds-kept (λ other. other.place ≢ block.place) p q
            (λ other left. stays p q other lent (but.others other.place (λ same. left (same ∙ sym there)))) had apart held.0,
      ),
      λ at away.
          let first : block.place ≢ at = All-head (λ (x : Block). x.place ≢ at) block had away in
          but.others at (λ same. first (there ∙ sym same)) ∙ held.1 at (All-tail (λ (x : Block). x.place ≢ at) block had away),
    )

-- a pass that has made no step owns nothing
pub fresh-exact : (h : HeapFields) (p : Pass) → IsFresh h p → HoldsExactly p []
fresh-exact h p fresh =
    (tt, λ place apart. ap (λ (l : List Event). if_of p.errand.caller (block_at place (pool_of l))) fresh.nothing_seen)

-- where all that is owned is in the hand, no block's words are out: the pass would own it, and the hand's are home
holds-home : (p : Pass) (blocks : List Block) → Holds p blocks → All (λ block. IsHome p block.place) blocks
holds-home p blocks held = holds-all p (λ block. IsHome p block.place) (λ block owns. owns.1) blocks held

home-apart :
    (p : Pass) (n : ℕ) (b : Lent) (blocks : List Block) → get_elem? (view p).lent n ≡ some b → All (λ block. IsHome p block.place) blocks
    → All (λ block. block.place ≢ b.place) blocks
home-apart p n b blocks found home k d within same = home k d within n b found (sym same)

none-lent : (h : HeapFields) (p : Pass) (blocks : List Block) (lent : List Lent) → (view p).lent ≡ lent → IsOf h p → HoldsExactly p blocks → lent ≡ []
none-lent h p blocks [] is of held = refl
none-lent h p blocks (b ∷ bs) is of held =
    let found : get_elem? (view p).lent 0 ≡ some b = ap (λ (l : List Lent). get_elem? l 0) is in
    let mine = owned-there p b.place b.need (of.mine 0 b found) in
    absurd (none-some mine.0 (sym (held.1 b.place (home-apart p 0 b blocks found (holds-home p blocks held.0))) ∙ mine.1))

pub exact-home : (h : HeapFields) (p : Pass) (blocks : List Block) → IsOf h p → HoldsExactly p blocks → p.out ≡ 0
exact-home h p blocks of held = sym of.counted ∙ ap length (none-lent h p blocks (view p).lent refl of held)

-- the order of the hand means nothing
pub order-exact :
    (p : Pass) (before after : List Block) (block : Block)
    → HoldsExactly p (before ++ block ∷ after) ↔ HoldsExactly p (block ∷ before ++ after)
order-exact p before after block = (
  λ held. (
    holds-out p before after block held.0,
    λ place apart.
        held.1 place
        (all-in (λ b. b.place ≢ place) before after block (All-head (λ (b : Block). b.place ≢ place) block (before ++ after) apart)
        (All-tail (λ (b : Block). b.place ≢ place) block (before ++ after) apart)),
  ),
  λ held. (
    holds-in p before after block held.0,
    λ place apart.
        let out = all-out (λ b. b.place ≢ place) before after block apart in
        held.1 place (All-cons (λ (b : Block). b.place ≢ place) block (before ++ after) out.0 out.1),
  ),
)

-- a block that a take got serves what the answer says
got-serves :
    (p q : Pass) (steps shelf place : ℕ) (need : Need) (block : Block) → block.place ≡ place → block.need ≡ need
    → HasCalled p (take shelf) steps (reply.Got place need) q → (got : HasGot p shelf place q) → got.block.need ≡ need
got-serves p q steps shelf place need block there needs called got =
    let R : ℕ → Need → Type 0 = λ k n. HasCalled p (take shelf) steps (reply.Got k n) q in
    let called_so = subst (λ n. R block.place n) (sym needs) (subst (λ k. R k need) (sym there) called) in
    let mine = owned-there q block.place block.need (got-has p (take shelf) steps q block called_so) in
    let same : Some (handed_to (Caller p.errand.caller) got.block) ≡ Some mine.0 = sym got.got.here ∙ ap (owned_in q) (sym there) ∙ mine.1 in
    let one : handed_to (Caller p.errand.caller) got.block ≡ mine.0 = cc in
    ap (λ (b : PoolBlock). b.need) one ∙ mine.2 ∙ needs

changed-exact :
    (h : HeapFields) (p q : Pass) (call : Call) (steps : ℕ) (answer : Reply) (had has : List Block) → IsOf h p → HasCalled p call steps answer q
    → HasChanged p call answer q → ChangesHand call answer had has → HoldsExactly p had → HoldsExactly q has
changed-exact h p q (alloc words) steps (reply.Given place need) had has of called changes hand held =
    gained-exact h p q had has place need (fresh_block p.errand.caller words place) of called.lent changes.nothing changes.given (sym called.ended.serves) hand held
changed-exact h p q (free place need) steps reply.Freed had has of called changes hand held = lost-exact p q had has place called.lent changes hand held
changed-exact h p q (write place need i v) steps reply.Wrote had has of called changes hand held =
    subst (HoldsExactly q) (sym hand) (written-exact p q had place i v called.lent changes held)
changed-exact h p q (put place need shelf) steps reply.Put had has of called changes hand held = lost-exact p q had has place called.lent changes.gone hand held
changed-exact h p q (take shelf) steps (reply.Got place need) had has of called changes hand held =
    gained-exact h p q had has place need (handed_to (Caller p.errand.caller) changes.block) of called.lent changes.nothing changes.got
    (got-serves p q steps shelf place need hand.0 hand.1 hand.2 called changes) hand held
changed-exact h p q call steps answer had has of called changes hand held = subst (HoldsExactly q) (sym hand) (same-exact p q had called.lent changes held)

-- a hand stays exact behind each call that has ended
pub called-exact :
    (h : HeapFields) (p q : Pass) (call : Call) (steps : ℕ) (answer : Reply) (had has : List Block) → IsOf h p → IsOf h q
    → HasCalled p call steps answer q → ChangesHand call answer had has → HoldsExactly p had → HoldsExactly q has
called-exact h p q call steps answer had has was of called =
    changed-exact h p q call steps answer had has was called (called-changes h p q call steps answer of called)

pub whole-exact :
    (h k : HeapFields) (p q : Pass) (call : Call) (answer : Reply) (had has : List Block) → IsOf h p → IsWhole h p call answer k q
    → ChangesHand call answer had has → HoldsExactly p had → HoldsExactly q has
whole-exact h k p q call answer had has was (by_steps made, may, same, is) hand held =
    called-exact k p q call made.0 answer had has (subst (λ x. IsOf x p) (sym same) was) is.0 made.1 hand held
whole-exact h k p q call answer had has was (at_once words is_alloc spent once, may, same, is) hand held =
    let same_hand : has ≡ had =
    subst (λ (a : Reply). ChangesHand (alloc words) a had has) spent (subst (λ (c : Call). ChangesHand c answer had has) is_alloc hand) in
    subst (HoldsExactly q) (sym same_hand) (subst (λ (r : Pass). HoldsExactly r had) (sym once.same) held)

so_far-exact :
    (h : HeapFields) (p q : Pass) (call : Call) (at : StageOfCall) (added : List Event) (had has : List Block) → IsOf h p → LentSame p q → SoFar p.errand.caller call at added
    → HasChangedSoFar p call at q → ChangesHandSoFar call at had has → HoldsExactly p had → HoldsExactly q has
so_far-exact h p q (alloc words) (given place need) added had has of lent so changes hand held =
    gained-exact h p q had has place need (fresh_block p.errand.caller words place) of lent changes.nothing changes.given (sym so.0) hand held
so_far-exact h p q (free place need) freed added had has of lent so changes hand held = lost-exact p q had has place lent changes hand held
so_far-exact h p q call at added had has of lent so changes hand held = subst (HoldsExactly q) (sym hand) (same-exact p q had lent changes held)

-- a hand stays exact in a call that is under way
pub calling-exact :
    (h : HeapFields) (p q : Pass) (call : Call) (steps : ℕ) (had has : List Block) → IsOf h p → IsOf h q → IsCalling p call steps q
    → ChangesHandSoFar call (stage_of q.errand.point) had has → HoldsExactly p had → HoldsExactly q has
calling-exact h p q call steps had has was of calling =
    so_far-exact h p q call (stage_of q.errand.point) calling.added had has was calling.lent calling.under_way (calling-changes h p q call steps of calling)
