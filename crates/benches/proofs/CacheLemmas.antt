-- What an interrupted call through a cache brings at its end, and that no block's words are out behind calls of the heap where none were before.
use Rattle.std.proofs.Common.{ℕ, ◌≡◌, List, [], ◌∷◌, ◌∙◌, ap, refl}
use Rattle.std.proofs.lemmas.Option.{none-some}
use Rattle.heap_geometry.specs.declared.need.Need.{Need}
use Rattle.errand_steps.specs.declared.reply.Reply.{Reply}
use Rattle.errand_steps.specs.Calls.{Call, free}
use Rattle.sound_laws.specs.events.Made.{LeadsBy, Made}
use Rattle.live_heap.specs.declared.answers.Resumed.{Resumed}
use Rattle.live_heap.specs.declared.answers.Resumed.TheVariants as resumed
use Rattle.live_heap.specs.Heaps.{HeapFields}
use Rattle.live_heap.specs.declared.pass.Pass.{Pass}
use Rattle.live_heap.specs.Calls.{HasCalled}
use Rattle.live_heap.specs.Hands.{resumed_by}
use Rattle.live_heap.specs.Passes.{IsOf}
use Rattle.live_heap.specs.Words.{CallsOnWord}
use Rattle.live_heap.specs.Whole.{MadeByPass, ResumesTo, at_once, by_steps}
use Rattle.block_cache.specs.declared.cache.Cache.{Cache}
use Rattle.block_cache.specs.Whole.{IsWholeCall, asked, kept, served}
use Rattle.lane_engine.specs.Caches.{HasEndedAt}
use Rattle.benches.proofs.MadeLemmas.{same-out}

-- a free brings no block
pub frees-bring-none :
    (first : Pass) (place : ℕ) (need : Need) (told : Resumed) (q : Pass) → ResumesTo first (free place need) told q → resumed_by told ≡ []
frees-bring-none first place need (resumed.Given block) q ended = absurd (none-some ended.1.ended.ended.0 ended.1.ended.ended.1)
frees-bring-none first place need resumed.Freed q ended = refl
frees-bring-none first place need resumed.Refused q ended = refl
frees-bring-none first place need resumed.Spent q ended = refl
frees-bring-none first place need resumed.Busy q ended = refl

-- no block's words are out behind a call of the heap where none were before
pub called-home :
    (h : HeapFields) (p q : Pass) (call : Call) (steps : ℕ) (told : Reply) → IsOf h p → p.out ≡ 0 → IsOf h q → HasCalled p call steps told q → q.out ≡ 0
called-home h p q call steps told was home is called = same-out h p q was is called.lent ∙ home

-- so behind one with what resumed it
pub resumed-home :
    (h : HeapFields) (first : Pass) (call : Call) (told : Resumed) (q : Pass) → IsOf h first → first.out ≡ 0 → IsOf h q → ResumesTo first call told q → q.out ≡ 0
resumed-home h first call (resumed.Given block) q was home is ended = called-home h first q call ended.0 _ was home is ended.1
resumed-home h first call resumed.Freed q was home is ended = called-home h first q call ended.0 _ was home is ended.1
resumed-home h first call resumed.Refused q was home is ended = called-home h first q call ended.0 _ was home is ended.1
resumed-home h first call resumed.Spent q was home is ended = called-home h first q call ended.0 _ was home is ended.1
resumed-home h first call resumed.Busy q was home is ended = absurd ended

-- behind calls on words
pub on-words-home :
    (h : HeapFields) (p q : Pass) (calls : List Made) → IsOf h p → p.out ≡ 0 → LeadsBy (CallsOnWord h) p calls q → q.out ≡ 0
on-words-home h p q [] of home same = ap (λ (r : Pass). r.out) same ∙ home
on-words-home h p q (made ∷ calls) of home (next, m, rest) =
    on-words-home h next q calls m.of (called-home h p next made.call 0 made.answer of home m.of m.called) rest

-- behind calls one after the other
pub ended-home :
    (h : HeapFields) (p q : Pass) (calls : List Made) → IsOf h p → p.out ≡ 0 → LeadsBy (HasEndedAt h) p calls q → q.out ≡ 0
ended-home h p q [] of home same = ap (λ (r : Pass). r.out) same ∙ home
ended-home h p q (made ∷ calls) of home (next, m, rest) =
    ended-home h next q calls m.1.0 (called-home h p next made.call m.0.0 made.answer of home m.1.0 m.0.1) rest

-- and behind a whole call through a cache
pub whole-home :
    (h : HeapFields) (c d : Cache) (call : Call) (told : Reply) → IsWholeCall h c call told d → c.pass.out ≡ 0 → d.pass.out ≡ 0
whole-home h c d call told whole home =
    elim whole.made [
      | served words block is_alloc is_given has ↦ ap (λ (p : Pass). p.out) has.pass ∙ home
      | kept block is_free is_freed held room has ↦ ap (λ (p : Pass). p.out) has.pass ∙ home
      | asked asks made keeps ↦ by_pass made.0
    ]
  where
    by_pass : MadeByPass c.pass call told d.pass → d.pass.out ≡ 0
    by_pass (by_steps ended) = called-home h c.pass d.pass call ended.0 told whole.before.0.hand.of home whole.after.0.hand.of ended.1
    by_pass (at_once words is_alloc is_spent once) = ap (λ (p : Pass). p.out) once.same ∙ home
