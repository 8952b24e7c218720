-- Whole calls through a cache leave its caller its blocks.
use Rattle.std.proofs.Common.{ℕ, ◌≡◌, ◌≢◌, [], ◌++◌, Some, sym, ap, ◌∙◌, subst}
use Rattle.std.specs.Prelude.{All}
use Rattle.std.proofs.lemmas.List.{append_cancel_left}
use Rattle.heap_geometry.specs.declared.need.Need.{Need}
use Rattle.heap_geometry.specs.Need.{need_of}
use Rattle.pool_model.specs.Calls.{Ended, EventsOf}
use Rattle.pool_model.specs.Calls as ended
use Rattle.pool_model.specs.Histories.{own}
use Rattle.pool_model.proofs.HistoryLemmas.{own-append}
use Rattle.errand_steps.specs.declared.reply.Reply.TheVariants as reply
use Rattle.errand_steps.specs.Calls.{alloc, free, put}
use Rattle.step_machine.specs.Cores.{OwnsAfter}
use Rattle.step_machine.proofs.ApartLemmas.{owns-on}
use Rattle.live_heap.specs.declared.block.Block.{Block}
use Rattle.live_heap.specs.Heaps.{HeapFields}
use Rattle.live_heap.specs.declared.pass.Pass.{Pass}
use Rattle.live_heap.specs.Passes.{OwnsAt, seen}
use Rattle.live_heap.specs.Whole.{IsWhole, at_once, by_steps}
use Rattle.live_heap.proofs.laws_for_builders.Events.{called-grows}
use Rattle.live_heap.proofs.laws_for_builders.Giving.{pass-serves}
use Rattle.live_heap.proofs.laws_for_builders.Keeping.{stays-home}
use Rattle.block_cache.specs.declared.cache.Cache.{Cache}
use Rattle.block_cache.specs.Whole.{HoldsAt, IsWholeCall, asked, kept, served}
use Rattle.block_cache.proofs.WholeLemmas.{same-cached, whole-apart, whole-hands, whole-keeps}
use Rattle.lane_engine.specs.Caches.{IsCachedCall}
use Rattle.lane_engine.specs.Whole.{KeepBlocks}

-- a put that finds a full shelf adds no event: its pass owns all that it owned
full-keeps :
    (h : HeapFields) (p q : Pass) (place : ℕ) (need : Need) (shelf found at : ℕ) (had : Need)
    → IsWhole h p (put place need shelf) (reply.Full found) h q → OwnsAt p at had → OwnsAt q at had
full-keeps h p q place need shelf found at had (by_steps (steps, called), may, same, is) owns =
    let c = p.errand.caller in
    let ends : Some ended.put_full ≡ Some called.ended.ended.0 = called.ended.ended.1 in
    let end : called.ended.ended.0 ≡ ended.put_full = cc in
    let none : called.added ≡ [] = subst (λ (x : Ended). EventsOf c x called.added) end called.ended.ended.2 in
    let grows = called-grows p q (put place need shelf) steps (reply.Full found) called in
    let mine : own c grows.0 ≡ [] =
    append_cancel_left (own c (seen p)) (own c grows.0) []
    (sym (own-append c (seen p) grows.0) ∙ ap (own c) (sym grows.1) ∙ called.events ∙ ap (λ xs. own c (seen p) ++ xs) none) in (
      subst (λ k. OwnsAfter (seen q) k at had) (sym called.caller)
          (owns-on h.layout c at had (seen p) (seen q) [] is.0.served.legal (grows.0, grows.1, mine) tt owns.0),
      stays-home p q at called.lent owns.1,
    )
full-keeps h p q place need shelf found at had (at_once words is_alloc spent once, may, same, is) owns = absurd (cc)

whole-back :
    (h : HeapFields) (c d : Cache) (place : ℕ) (need : Need) (shelf found at : ℕ) (had : Need)
    → IsWholeCall h c (put place need shelf) (reply.Full found) d → HoldsAt c at had → HoldsAt d at had
whole-back h c d place need shelf found at had w holds =
    elim w.made [
      | served words block is_alloc is_given has ↦ absurd (let e : put place need shelf ≡ alloc words = is_alloc in cc)
      | kept block is_free is_freed held room has ↦ absurd (let e : put place need shelf ≡ free block.place block.need = is_free in cc)
      | asked asks whole keeps ↦ (
        full-keeps h c.pass d.pass place need shelf found at had whole holds.0,
        subst (All (λ (other : Block). other.place ≢ at)) (sym (same-cached c d keeps)) holds.1,
      )
    ]

whole-serves :
    (h : HeapFields) (c d : Cache) (words place : ℕ) (need : Need) → IsWholeCall h c (alloc words) (reply.Given place need) d → need ≡ need_of words
whole-serves h c d words place need w =
    elim w.made [
      | served asked_for block is_alloc is_given has ↦
          let words_are : alloc words ≡ alloc asked_for = is_alloc in
          let block_is : reply.Given place need ≡ reply.Given block.place block.need = is_given in
          let serves = has.serves in let small = has.small in cc
      | kept block is_free is_freed held room has ↦ absurd (let e : alloc words ≡ free block.place block.need = is_free in cc)
      | asked asks whole keeps ↦ pass-serves h h c.pass d.pass words place need whole
    ]

pub cached-laws : (h : HeapFields) → KeepBlocks (IsCachedCall h) HoldsAt
cached-laws h = record {
  keeps = λ c d call answer place need one. whole-keeps h c d call answer place need one.0;
  back = λ c d place need shelf found at had one. whole-back h c d place need shelf found at had one.0;
  hands = λ c d call answer place need one. whole-hands h c d call answer place need one.0;
  apart = λ c d call answer place other need had one. whole-apart h c d call answer place other need had one.0;
  serves = λ c d words place need one. whole-serves h c d words place need one.0;
}
