-- A cache as what makes whole calls through magazines: those that the heap made, those that a magazine served, and those for which one kept a block.
use Rattle.std.proofs.Common.{ℕ, ◌≡◌, sym, ap, ◌∙◌, subst, inl, inr}
use Rattle.heap_geometry.specs.Need.{need_of}
use Rattle.errand_steps.specs.declared.reply.Reply.{Reply}
use Rattle.errand_steps.specs.Calls.{Call, alloc, free}
use Rattle.live_heap.specs.Heaps.{HeapFields}
use Rattle.live_heap.specs.declared.pass.Pass.{Pass}
use Rattle.live_heap.specs.Passes.{view}
use Rattle.live_heap.specs.Whole.{IsAtRest, IsWhole, MadeByPass, at_once, by_steps}
use Rattle.block_cache.specs.declared.cache.Cache.{Cache}
use Rattle.block_cache.specs.Caches.{KeepsMagazines}
use Rattle.block_cache.specs.Whole.{Asks, HoldsAt, IsWholeCall, RestsAt, asked, kept, served}
use Rattle.lane_engine.specs.Caches.{IsCachedCall}
use Rattle.lane_engine.specs.Callers.{Caller}
use Rattle.lane_engine.proofs.KeptLemmas.{cached-laws}
use Rattle.trace_lane.proofs.ThroughLemmas.{Came, HasAsked, Through, View}
use Rattle.lane_runner.proofs.PassLemmas.{caller_at, rests-caller, whole-call}
use Rattle.lane_runner.proofs.Places.{kept-freed, not-kept, not-served, places_in, room-kept, same-places, served-by, served-given}

-- the caller of the pass behind a cache, and its magazines
abbrev pub caller_in : Cache → Caller
caller_in c = caller_at c.pass

abbrev pub view_in : Cache → View
view_in c = record { caller = caller_in c; places = places_in c; hits = c.hits }

-- a cache that rests has a pass that does
pub pass-rests : (h : HeapFields) (c : Cache) → RestsAt h c → IsAtRest h c.pass
pass-rests h c rests = (rests.0.hand.of, rests.1)

module _ (h : HeapFields) (c d : Cache) (answer : Reply) where
  -- through the magazines of this cache
  abbrev Comes : Call → Type 0
  Comes call = Came h.layout c.magazines.depth (view_in c) call answer (view_in d)

  asked-call :
      (call : Call) → RestsAt h c → IsWhole h c.pass call answer h d.pass → KeepsMagazines c d → HasAsked h.layout (view_in c) call answer (view_in d)
  asked-call call rests (made, owned, same, ends) keeps = record {
    one = whole-call h c.pass d.pass call answer (pass-rests h c rests) made owned ends;
    magazines = same-places c d keeps;
    counts = keeps.hits;
  }

  asked-came : (call : Call) → Asks c call → HasAsked h.layout (view_in c) call answer (view_in d) → Comes call
  asked-came (alloc words) asks one = inr (not-served c (need_of words) asks, one)
  asked-came (free place need) asks one = inr (not-kept c need asks.0, one)
  asked-came call asks one = one

  pub call-came : (call : Call) → IsWholeCall h c call answer d → Comes call
  call-came call whole =
      elim whole.made [
        | served words block is_alloc is_given has ↦
            subst Comes (sym is_alloc)
            (inl
            (record {
              place = block.place;
              need = block.need;
              given = is_given;
              serves = served-by c d words block has;
              same = ap caller_at has.pass;
              magazines = served-given c d words block has;
              counts = has.hits;
            }))
        | kept block is_free is_freed held room has ↦
            subst Comes (sym is_free)
            (inl
            (record {
              keeps = room-kept c block.need room;
              same = ap caller_at has.pass;
              magazines = kept-freed c d block has;
              counts = has.hits;
            }))
        | asked asks made keeps ↦ asked-came call asks (asked-call call whole.before made keeps)
      ]

abbrev pub through_cache : HeapFields → ℕ → Through Cache
through_cache h depth = record {
  geometry = h.layout;
  depth = depth;
  stands = λ c. RestsAt h c × (c.magazines.depth ≡ depth);
  owns = HoldsAt;
  called = IsCachedCall h;
  view = view_in;
  laws = cached-laws h;
  owned = λ c place need held. held.0.0;
  rests = λ c stands. rests-caller h c.pass (pass-rests h c stands.0);
  came = λ c d call answer stands one. (
    subst (λ k. Came h.layout k (view_in c) call answer (view_in d)) stands.1 (call-came h c d answer call one.0),
    (one.0.after, one.1 ∙ stands.1),
  );
}

-- whole calls through a cache leave the words of the same blocks out
made-lent : (p : Pass) (call : Call) (answer : Reply) (q : Pass) → MadeByPass p call answer q → (view q).lent ≡ (view p).lent
made-lent p call answer q (by_steps ended) = ended.1.lent
made-lent p call answer q (at_once words is_alloc spent once) = ap (λ (x : Pass). (view x).lent) once.same

pub call-lent :
    (h : HeapFields) (c d : Cache) (call : Call) (answer : Reply) → IsCachedCall h c call answer d → (view d.pass).lent ≡ (view c.pass).lent
call-lent h c d call answer (whole, deep) =
    elim whole.made [
      | served words block is_alloc is_given has ↦ ap (λ (p : Pass). (view p).lent) has.pass
      | kept block is_free is_freed held room has ↦ ap (λ (p : Pass). (view p).lent) has.pass
      | asked asks made keeps ↦ made-lent c.pass call answer d.pass made.0
    ]
