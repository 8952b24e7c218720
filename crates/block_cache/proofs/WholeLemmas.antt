-- Whole calls through a cache.
use Rattle.std.proofs.Common.{ℕ, ◌≡◌, ◌≢◌, inl, inr, refl, sym, ap, ◌∙◌, subst, arith}
use Rattle.std.specs.Prelude.{All}
use Rattle.heap_geometry.specs.declared.need.Need.{Need}
use Rattle.heap_geometry.specs.Need.{need_of}
use Rattle.errand_steps.specs.declared.reply.Reply.{Reply}
use Rattle.errand_steps.specs.declared.reply.Reply.TheVariants as reply
use Rattle.errand_steps.specs.Begins.{IsIdle}
use Rattle.errand_steps.specs.Calls.{Call, alloc, free, put, read, take, write}
use Rattle.step_machine.specs.Keeping.{Hands, LeavesPlace}
use Rattle.live_heap.specs.declared.answers.AllocAnswer.{AllocAnswer}
use Rattle.live_heap.specs.declared.answers.AllocAnswer.TheVariants as answer
use Rattle.live_heap.specs.declared.answers.FreeAnswer.TheVariants as free_answer
use Rattle.live_heap.specs.declared.block.Block.{Block}
use Rattle.live_heap.specs.Heaps.{HeapFields}
use Rattle.live_heap.specs.declared.pass.Pass.{Pass}
use Rattle.live_heap.specs.Answers.{AllocTells, FreeTells}
use Rattle.live_heap.specs.Passes.{IsHome, IsOf, OwnsAt}
use Rattle.live_heap.specs.Whole.{HasEndedCall, IsWhole, MadeByPass, OwnsFor, at_once, by_steps}
use Rattle.live_heap.proofs.laws_for_builders.Giving.{given-home, got-home, pass-apart, pass-hands}
use Rattle.live_heap.proofs.laws_for_builders.Hands.{hand-all, hand-left}
use Rattle.live_heap.proofs.laws_for_builders.Keeping.{whole-keeps as pass-keeps}
use Rattle.live_heap.specs.Holdings.{Holds}
use Rattle.block_cache.specs.declared.cache.Cache.{Cache}
use Rattle.block_cache.specs.declared.magazines.Magazines.{Magazines}
use Rattle.block_cache.specs.Magazines.{all_in, stacks_of}
use Rattle.block_cache.specs.Caches.{HasFor, HasKept, HasRoom, HasServed, HoldsBlock, IsCache, KeepsMagazines, cached_in, stacks_in}
use Rattle.block_cache.specs.Whole.{Asks, EndsAs, HoldsAt, IsWholeCall, RestsAt, asked, kept, served}
use Rattle.block_cache.proofs.MagazineLemmas.{all-in, all-out, for-or-not, room-or-not, stack-few, top-splits}

-- with a depth of 0 no magazine has a block or room
pub no-depth : (h : HeapFields) (c : Cache) (need : Need) → IsCache h c → c.magazines.depth ≡ 0 → (¬ HasFor c need) × (¬ HasRoom c need)
no-depth h c need is none =
    let few = λ (class : ℕ). stack-few (λ (block : Block). block.need) 0 c.magazines.depth class c.magazines.stacks.items is.magazines.each in
    (λ (class, of, some_there). omega (arith, some_there, none, few class), λ (class, of, room). omega (arith, room, none))

-- who asks for a call on a block owns it
asks-owns : (c : Cache) (call : Call) → Asks c call → OwnsFor c.pass call
asks-owns c (alloc words) asks = tt
asks-owns c (take shelf) asks = tt
asks-owns c (free place need) asks = asks.1.0
asks-owns c (write place need i value) asks = asks.0
asks-owns c (read place need i) asks = asks.0
asks-owns c (put place need shelf) asks = asks.0

made-idle : (p : Pass) (call : Call) (ended : Reply) (q : Pass) → IsIdle p.errand → MadeByPass p call ended q → IsIdle q.errand
made-idle p call ended q idle (by_steps made) = made.1.idle
made-idle p call ended q idle (at_once words is_alloc spent once) = subst (λ (r : Pass). IsIdle r.errand) (sym once.same) idle

-- a whole call that the heap was asked for
made-whole :
    (h : HeapFields) (c d : Cache) (call : Call) (ended : Reply) → RestsAt h c → IsCache h d → Asks c call → MadeByPass c.pass call ended d.pass
    → KeepsMagazines c d → IsWholeCall h c call ended d
made-whole h c d call ended rests is asks made keeps =
    let idle = made-idle c.pass call ended d.pass rests.1 made in
    record {
      before = rests;
      after = (is, idle);
      made = asked asks (made, asks-owns c call asks, refl, (is.hand.of, idle)) keeps;
    }

pub asked-whole :
    (h : HeapFields) (c d : Cache) (call : Call) (ended : Reply) → RestsAt h c → IsCache h d → Asks c call → HasEndedCall c.pass call ended d.pass
    → KeepsMagazines c d → IsWholeCall h c call ended d
asked-whole h c d call ended rests is asks made keeps = made-whole h c d call ended rests is asks (by_steps made) keeps

-- an allocation of the heap that has ended is a whole call of its pass
alloc-made : (p : Pass) (words tries : ℕ) (told : AllocAnswer Block) (ended : Reply) (q : Pass) → AllocTells p words tries told q → EndsAs told ended
    → MadeByPass p (alloc words) ended q
alloc-made p words tries (answer.Given block) ended q tells is =
    subst (λ (r : Reply). MadeByPass p (alloc words) r q) (sym is) (by_steps (tells.0.steps, tells.0.called))
alloc-made p words tries answer.Refused ended q tells is =
    subst (λ (r : Reply). MadeByPass p (alloc words) r q) (sym is) (by_steps (tells.steps, tells.called))
alloc-made p words tries answer.Spent ended q (inl once) is =
    subst (λ (r : Reply). MadeByPass p (alloc words) r q) (sym is) (at_once words refl refl once)
alloc-made p words tries answer.Spent ended q (inr later) is =
    subst (λ (r : Reply). MadeByPass p (alloc words) r q) (sym is) (by_steps (later.0.steps, later.0.called))
alloc-made p words tries answer.TooLarge ended q tells is = absurd is
alloc-made p words tries answer.Busy ended q tells is = absurd is

pub alloc-whole :
    (h : HeapFields) (c d : Cache) (words tries : ℕ) (told : AllocAnswer Block) (ended : Reply) → RestsAt h c → IsCache h d
    → (HasFor c (need_of words) → (block : Block) × (told ≡ answer.Given block) × HasServed c words block d)
    → ((¬ HasFor c (need_of words)) → AllocTells c.pass words tries told d.pass × KeepsMagazines c d)
    → EndsAs told ended → IsWholeCall h c (alloc words) ended d
alloc-whole h c d words tries told ended rests is if_for if_not ends =
    elim (for-or-not (stacks_in c) (need_of words)) [
      | inl has ↦
          let s = if_for has in
          record {
            before = rests;
            after = (is, subst (λ (p : Pass). IsIdle p.errand) (sym s.2.pass) rests.1);
            made = served words s.0 refl (subst (λ (a : AllocAnswer Block). EndsAs a ended) s.1 ends) s.2;
          }
      | inr none ↦
          let s = if_not none in made-whole h c d (alloc words) ended rests is none (alloc-made c.pass words tries told ended d.pass s.0 ends) s.1
    ]

pub free-whole :
    (h : HeapFields) (c d : Cache) (block : Block) (tries : ℕ) → RestsAt h c → IsCache h d → HoldsBlock c block
    → (HasRoom c block.need → HasKept c block d)
    → ((¬ HasRoom c block.need) → FreeTells c.pass block tries free_answer.Freed d.pass × KeepsMagazines c d)
    → IsWholeCall h c (free block.place block.need) reply.Freed d
free-whole h c d block tries rests is holds if_room if_not =
    elim (room-or-not c.magazines.depth (stacks_in c) block.need) [
      | inl room ↦
          let k = if_room room in
          record {
            before = rests;
            after = (is, subst (λ (p : Pass). IsIdle p.errand) (sym k.pass) rests.1);
            made = kept block refl refl holds room k;
          }
      | inr none ↦
          let k = if_not none in
          made-whole h c d (free block.place block.need) reply.Freed rests is (none, holds) (by_steps (k.0.steps, k.0.called)) k.1
    ]

pub same-cached : (c d : Cache) → KeepsMagazines c d → cached_in d ≡ cached_in c
same-cached c d keeps = ap (λ (m : Magazines Block). all_in (stacks_of m.stacks.items)) keeps.magazines

-- what the caller of a cache holds it holds through a whole call that leaves it
pub whole-keeps : (h : HeapFields) (c d : Cache) (call : Call) (ended : Reply) (place : ℕ) (need : Need) → IsWholeCall h c call ended d
    → LeavesPlace call place → HoldsAt c place need → HoldsAt d place need
whole-keeps h c d call ended place need w leaves holds =
    elim w.made [
      | served words block is_alloc is_given has ↦
          let split = top-splits has.class block (stacks_in c) (stacks_in d) has.top in (
            subst (λ (p : Pass). OwnsAt p place need) (sym has.pass) holds.0,
            subst (All (λ (other : Block). other.place ≢ place)) (sym split.without_it)
                (all-out (λ other. other.place ≢ place) split.front split.back block
                (subst (All (λ (other : Block). other.place ≢ place)) split.with_it holds.1)).1,
          )
      | kept block is_free is_freed held room has ↦
          let split = top-splits has.class block (stacks_in d) (stacks_in c) has.top in
          let ne : place ≢ block.place = subst (λ (x : Call). LeavesPlace x place) is_free leaves in (
            subst (λ (p : Pass). OwnsAt p place need) (sym has.pass) holds.0,
            subst (All (λ (other : Block). other.place ≢ place)) (sym split.with_it)
                (all-in (λ other. other.place ≢ place) split.front split.back block (λ same. ne (sym same))
                (subst (All (λ (other : Block). other.place ≢ place)) split.without_it holds.1)),
          )
      | asked asks whole keeps ↦ (
        pass-keeps h h c.pass d.pass call ended place need whole leaves holds.0,
        subst (All (λ (other : Block). other.place ≢ place)) (sym (same-cached c d keeps)) holds.1,
      )
    ]

-- the words of a block that a whole call hands out are home
handed-home :
    (h : HeapFields) (p q : Pass) (call : Call) (ended : Reply) (place : ℕ) (need : Need) → IsOf h p → IsWhole h p call ended h q → Hands ended place need
    → IsHome q place
handed-home h p q call (reply.Given at n) place need was (by_steps made, may, same, is) hands =
    subst (IsHome q) hands.0 (given-home h p q call made.0 at n was is.0 made.1)
handed-home h p q call (reply.Got at n) place need was (by_steps made, may, same, is) hands =
    subst (IsHome q) hands.0 (got-home h p q call made.0 at n was is.0 made.1)
handed-home h p q call ended place need was (by_steps made, may, same, is) hands = absurd hands
handed-home h p q call (reply.Given at n) place need was (at_once words is_alloc spent once, may, same, is) hands = absurd (cc)
handed-home h p q call (reply.Got at n) place need was (at_once words is_alloc spent once, may, same, is) hands = absurd (cc)
handed-home h p q call ended place need was (at_once words is_alloc spent once, may, same, is) hands = absurd hands

pub whole-hands : (h : HeapFields) (c d : Cache) (call : Call) (ended : Reply) (place : ℕ) (need : Need) → IsWholeCall h c call ended d
    → Hands ended place need → HoldsAt d place need
whole-hands h c d call ended place need w hands =
    let hand = w.before.0.hand.holds w.before.1 in
    elim w.made [
      | served words block is_alloc is_given has ↦
          let split = top-splits has.class block (stacks_in c) (stacks_in d) has.top in
          let out = hand-left c.pass split.front split.back block (subst (Holds c.pass) split.with_it hand) in
          let is : (block.place ≡ place) × (block.need ≡ need) = subst (λ (r : Reply). Hands r place need) is_given hands in
          subst (λ k. HoldsAt d k need) is.0
          (subst (λ n. HoldsAt d block.place n) is.1 (
            subst (λ (p : Pass). OwnsAt p block.place block.need) (sym has.pass) out.0,
            subst (All (λ (other : Block). other.place ≢ block.place)) (sym split.without_it) out.1,
          ))
      | kept block is_free is_freed held room has ↦ absurd (subst (λ (r : Reply). Hands r place need) is_freed hands)
      | asked asks whole keeps ↦ (
        (
          pass-hands h h c.pass d.pass call ended place need whole hands,
          handed-home h c.pass d.pass call ended place need w.before.0.hand.of whole hands,
        ),
        subst (All (λ (other : Block). other.place ≢ place)) (sym (same-cached c d keeps))
            (hand-all c.pass (λ other. other.place ≢ place)
            (λ other owns. pass-apart h h c.pass d.pass call ended place other.place need other.need whole hands owns.0) (cached_in c) hand),
      )
    ]

pub whole-apart : (h : HeapFields) (c d : Cache) (call : Call) (ended : Reply) (place other : ℕ) (need had : Need) → IsWholeCall h c call ended d
    → Hands ended place need → HoldsAt c other had → other ≢ place
whole-apart h c d call ended place other need had w hands holds =
    elim w.made [
      | served words block is_alloc is_given has ↦
          let split = top-splits has.class block (stacks_in c) (stacks_in d) has.top in
          let is : (block.place ≡ place) × (block.need ≡ need) = subst (λ (r : Reply). Hands r place need) is_given hands in
          let ne : block.place ≢ other =
          (all-out (λ b. b.place ≢ other) split.front split.back block
          (subst (All (λ (b : Block). b.place ≢ other)) split.with_it holds.1)).0 in
          λ same. ne (is.0 ∙ sym same)
      | kept block is_free is_freed held room has ↦ absurd (subst (λ (r : Reply). Hands r place need) is_freed hands)
      | asked asks whole keeps ↦ pass-apart h h c.pass d.pass call ended place other need had whole hands holds.0.0
    ]
