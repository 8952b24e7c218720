-- The hand of a cache, which is what its magazines have.
use Rattle.std.proofs.Common.{ℕ, ◌≡◌, ◌≢◌, ◌≤◌, ◌++◌, List, [], ◌∷◌, sym, subst}
use Rattle.std.specs.Prelude.{All}
use Rattle.std.proofs.lemmas.List.Elements.{All-nil, All-cons, All-head, All-tail}
use Rattle.errand_steps.specs.Begins.{IsBusy, IsIdle}
use Rattle.step_machine.specs.Keeping.{LeavesPlace}
use Rattle.live_heap.specs.declared.block.Block.{Block}
use Rattle.live_heap.specs.Heaps.{HeapFields}
use Rattle.live_heap.specs.declared.pass.Pass.{Pass}
use Rattle.live_heap.specs.Answers.{IsResumable}
use Rattle.live_heap.specs.Hands.{IsHand}
use Rattle.live_heap.specs.Holdings.{Holds}
use Rattle.live_heap.specs.Passes.{Owns}
use Rattle.live_heap.proofs.laws_for_builders.Hands.{hand-joined, hand-left, idle-not_busy}
use Rattle.block_cache.specs.declared.cache.Cache.{Cache}
use Rattle.block_cache.specs.declared.magazines.Magazines.{Magazines}
use Rattle.block_cache.specs.Caches.{IsCache, cached_in}
use Rattle.block_cache.specs.Magazines.{AreForClasses, Splits, all_in, stacks_of}

-- what is so of all blocks of a list is so of those at its front
pub all-front : (P : Block → Type 0) (xs ys : List Block) → All P (xs ++ ys) → All P xs
all-front P [] ys all = All-nil P
all-front P (x ∷ xs) ys all = All-cons P x xs (All-head P x (xs ++ ys) all) (all-front P xs ys (All-tail P x (xs ++ ys) all))

pub all-back : (P : Block → Type 0) (xs ys : List Block) → All P (xs ++ ys) → All P ys
all-back P [] ys all = all
all-back P (x ∷ xs) ys all = all-back P xs ys (All-tail P x (xs ++ ys) all)

holds-front : (p : Pass) (xs ys : List Block) → Holds p (xs ++ ys) → Holds p xs
holds-front p [] ys held = tt
holds-front p (x ∷ xs) ys held = (held.0, all-front (λ other. other.place ≢ x.place) xs ys held.1, holds-front p xs ys held.2)

-- a hand from which the last blocks are left out
pub hand-front : (h : HeapFields) (p : Pass) (xs ys : List Block) → IsHand h p (xs ++ ys) → IsHand h p xs
hand-front h p xs ys hand =
    record {
      of = hand.of;
      holds = λ idle. holds-front p xs ys (hand.holds idle);
      waits = λ busy.
          let w = hand.waits busy in
          record {
            first = w.first;
            of = w.of;
            holds = holds-front w.first xs ys w.holds;
            call = w.call;
            steps = w.steps;
            calling = w.calling;
            tried = w.tried;
            leaves = all-front (λ block. LeavesPlace w.call block.place) xs ys w.leaves;
          };
    }

-- the pass of a cache that waits can be resumed
pub resumable : (h : HeapFields) (c : Cache) → IsCache h c → IsBusy c.pass.errand → IsResumable c.pass
resumable h c is busy =
    let w = is.hand.waits busy in record { first = w.first; call = w.call; steps = w.steps; calling = w.calling; tried = w.tried }

-- a cache whose pass went on is one still
pub passed : (h : HeapFields) (c : Cache) (q : Pass) → IsCache h c → IsHand h q (cached_in c)
    → IsCache h (record { pass = q; magazines = c.magazines; hits = c.hits })
passed h c q is hand = record { hand = hand; magazines = is.magazines; few = is.few }

-- a cache with other magazines is one still
pub refilled : (h : HeapFields) (c : Cache) (p : Pass) (m : Magazines Block) (hits : ℕ) → IsCache h c → m.depth ≡ c.magazines.depth
    → AreForClasses (λ (block : Block). block.need) c.magazines.depth m.stacks.items → IsHand h p (all_in (stacks_of m.stacks.items))
    → IsCache h (record { pass = p; magazines = m; hits = hits })
refilled h c p m hits is depth ready hand =
    record {
      hand = hand;
      magazines = subst (λ k. AreForClasses (λ (block : Block). block.need) k m.stacks.items) (sym depth) ready;
      few = subst (λ k. k ≤ 64) (sym depth) is.few;
    }

-- the hand from which one block leaves
pub leaves-hand : (h : HeapFields) (p : Pass) (more less : List Block) (block : Block) → Splits block more less → IsIdle p.errand → IsHand h p more
    → IsHand h p less
leaves-hand h p more less block s idle hand =
    record {
      of = hand.of;
      holds = λ still.
          subst (Holds p) (sym s.without_it) (hand-left p s.front s.back block (subst (Holds p) s.with_it (hand.holds still))).2;
      waits = λ busy. absurd (idle-not_busy p.errand idle busy);
    }

-- the hand to which one block comes
pub comes-hand : (h : HeapFields) (p : Pass) (more less : List Block) (block : Block) → Splits block more less → IsIdle p.errand → Owns p block
    → All (λ other. other.place ≢ block.place) less → IsHand h p less → IsHand h p more
comes-hand h p more less block s idle owned apart hand =
    record {
      of = hand.of;
      holds = λ still.
          subst (Holds p) (sym s.with_it)
          (hand-joined p s.front s.back block
          (owned, subst (All (λ (other : Block). other.place ≢ block.place)) s.without_it apart, subst (Holds p) s.without_it (hand.holds still)));
      waits = λ busy. absurd (idle-not_busy p.errand idle busy);
    }
