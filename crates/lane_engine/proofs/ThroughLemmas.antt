-- A call through a cache that was interrupted, and goes on to its end; and calls of a cache, for what holds it.
use Rattle.std.proofs.Common.{ℕ, ◌≡◌, List, refl, sym, ap, ◌∙◌}
use Rattle.std.proofs.lemmas.Option.{none-some}
use Rattle.heap_geometry.specs.declared.need.Need.{Need}
use Rattle.errand_steps.specs.declared.reply.Reply.{Reply}
use Rattle.errand_steps.specs.declared.reply.Reply.TheVariants as reply
use Rattle.errand_steps.specs.Begins.{IsIdle}
use Rattle.errand_steps.specs.Calls.{Call, alloc, free}
use Rattle.sound_laws.specs.events.Made.{LeadsBy, Made}
use Rattle.heap_geometry.specs.Need.{need_of}
use Rattle.live_heap.specs.declared.answers.AllocAnswer.{AllocAnswer}
use Rattle.live_heap.specs.declared.answers.AllocAnswer.TheVariants as answer
use Rattle.live_heap.specs.declared.answers.FreeAnswer.{FreeAnswer}
use Rattle.live_heap.specs.declared.answers.FreeAnswer.TheVariants as free_answer
use Rattle.live_heap.specs.declared.answers.Resumed.{Resumed}
use Rattle.live_heap.specs.declared.answers.Resumed.TheVariants as resumed
use Rattle.live_heap.specs.declared.block.Block.{Block}
use Rattle.live_heap.specs.Heaps.{HeapFields}
use Rattle.live_heap.specs.declared.pass.Pass.{Pass}
use Rattle.live_heap.specs.Answers.{ResumeTells}
use Rattle.live_heap.specs.Whole.{HasEndedCall, ResumesTo}
use Rattle.block_cache.specs.declared.cache.Cache.{Cache}
use Rattle.block_cache.specs.declared.magazines.Magazines.{Magazines}
use Rattle.block_cache.specs.Caches.{HasFor, HasKept, HasRoom, HasServed, IsCache, KeepsMagazines}
use Rattle.block_cache.specs.Whole.{Asks, IsWholeOnWord, RestsAt}
use Rattle.block_cache.proofs.WholeLemmas.{asked-whole}
use Rattle.lane_engine.specs.declared.over_cache.CachedCalls.{CachedCalls}
use Rattle.lane_engine.specs.Caches.{IsCachedCall, cache_maker}
use Rattle.lane_engine.proofs.LeadsLemmas.{leads-of}

-- a resumed call that isn't told to be busy has ended
pub resume-ended :
    (first : Pass) (call : Call) (made : ℕ) (p : Pass) (tries : ℕ) (told : Resumed) (q : Pass) → (told ≡ resumed.Busy → ⊥)
    → ResumeTells first call made p tries told q → ResumesTo first call told q
resume-ended first call made p tries (resumed.Given block) q not tells = (tells.0.steps, tells.0.called)
resume-ended first call made p tries resumed.Freed q not tells = (tells.steps, tells.called)
resume-ended first call made p tries resumed.Refused q not tells = (tells.steps, tells.called)
resume-ended first call made p tries resumed.Spent q not tells = (tells.0.steps, tells.0.called)
resume-ended first call made p tries resumed.Busy q not tells = absurd (not refl)

pub resumes-idle : (first : Pass) (call : Call) (told : Resumed) (q : Pass) → ResumesTo first call told q → IsIdle q.errand
resumes-idle first call (resumed.Given block) q ended = ended.1.idle
resumes-idle first call resumed.Freed q ended = ended.1.idle
resumes-idle first call resumed.Refused q ended = ended.1.idle
resumes-idle first call resumed.Spent q ended = ended.1.idle
resumes-idle first call resumed.Busy q ended = absurd ended

-- a resumed allocation ends as an allocation does, and a resumed free as a free does
pub alloc-resumes :
    (first : Pass) (words : ℕ) (told : Resumed) (q : Pass) → ResumesTo first (alloc words) told q
    → ((block : Block) → told ≡ resumed.Given block → ⊥) → (told ≡ resumed.Refused → ⊥) → (told ≡ resumed.Spent → ⊥) → ⊥
alloc-resumes first words (resumed.Given block) q ended one two three = one block refl
alloc-resumes first words resumed.Freed q ended one two three = absurd (none-some ended.1.ended.ended.0 ended.1.ended.ended.1)
alloc-resumes first words resumed.Refused q ended one two three = two refl
alloc-resumes first words resumed.Spent q ended one two three = three refl
alloc-resumes first words resumed.Busy q ended one two three = ended

pub free-resumes :
    (first : Pass) (place : ℕ) (need : Need) (told : Resumed) (q : Pass) → ResumesTo first (free place need) told q
    → HasEndedCall first (free place need) reply.Freed q
free-resumes first place need (resumed.Given block) q ended = absurd (none-some ended.1.ended.ended.0 ended.1.ended.ended.1)
free-resumes first place need resumed.Freed q ended = ended
free-resumes first place need resumed.Refused q ended = absurd (none-some ended.1.ended.ended.0 ended.1.ended.ended.1)
free-resumes first place need resumed.Spent q ended = absurd (none-some ended.1.ended.ended.0 ended.1.ended.ended.1)
free-resumes first place need resumed.Busy q ended = absurd ended

-- magazines that stay are as deep, and stay when they stay further
pub keeps-depth : (c d : Cache) → KeepsMagazines c d → d.magazines.depth ≡ c.magazines.depth
keeps-depth c d keeps = ap (λ (m : Magazines Block). m.depth) keeps.magazines

pub keeps-on : (c d e : Cache) → KeepsMagazines c d → KeepsMagazines d e → KeepsMagazines c e
keeps-on c d e one two = record { magazines = two.magazines ∙ one.magazines; hits = two.hits ∙ one.hits }

-- a call of the heap that was interrupted, and has gone on to its end, is one through the cache
pub resumed-call :
    (h : HeapFields) (c mid d : Cache) (call : Call) (answer : Reply) → RestsAt h c → IsCache h d → Asks c call
    → HasEndedCall c.pass call answer d.pass → KeepsMagazines c mid → KeepsMagazines mid d → IsCachedCall h c call answer d
resumed-call h c mid d call answer rests is asks ended one two =
    let keeps = keeps-on c mid d one two in (asked-whole h c d call answer rests is asks ended keeps, keeps-depth c d keeps)

-- the struct with its cache in this state
abbrev pub with_cache : CachedCalls → Cache → CachedCalls
with_cache e c = record e { cache = record e.cache { now = c } }

-- calls on words through a cache are calls of the struct that has it
pub words-lead :
    (e : CachedCalls) (c d : Cache) (made : List Made) → LeadsBy (IsWholeOnWord e.heap.now) c made d
    → LeadsBy cache_maker.called (with_cache e c) made (with_cache e d)
words-lead e c d made leads =
    (leads-of (IsWholeOnWord e.heap.now) cache_maker.called (with_cache e) (λ x. Unit {0})
    (λ s t call answer is one. (((one.0, keeps-depth s t one.1), refl), tt)) made c d tt leads).0

-- an allocation that is under way found no block in a magazine, and a free under way no room in one
pub busy-asks :
    (c : Cache) (need : ℕ) (d : Cache) (told : AllocAnswer Block) → told ≡ answer.Busy
    → (HasFor c (need_of need) → (block : Block) × (told ≡ answer.Given block) × HasServed c need block d) → ¬ HasFor c (need_of need)
busy-asks c need d told is served has =
    let s = served has in
    let e : answer.Busy ≡ answer.Given s.0 = sym is ∙ s.1 in
    absurd (cc)

pub unkept-asks :
    (c : Cache) (block : Block) (d : Cache) (told : FreeAnswer) → told ≡ free_answer.Busy
    → (HasRoom c block.need → (told ≡ free_answer.Freed) × HasKept c block d) → ¬ HasRoom c block.need
unkept-asks c block d told is kept has =
    let k = kept has in
    let e : free_answer.Busy ≡ free_answer.Freed = sym is ∙ k.0 in
    absurd (cc)
