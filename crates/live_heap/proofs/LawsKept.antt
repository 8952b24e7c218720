-- What a pass owns, it keeps through its calls.
use Rattle.std.proofs.Common.{ℕ, zero, suc, ◌≡◌, ◌≢◌, List, [], ◌∷◌, ◌++◌, sym, ap, ◌∙◌, subst}
use lib.ListN.{get_elem?}
use Rattle.heap_geometry.specs.declared.need.Need.{Need}
use Rattle.pool_model.specs.declared.event.Event.{Event}
use Rattle.pool_model.specs.Histories.{Begins, own}
use Rattle.pool_model.proofs.HistoryLemmas.{own-append}
use Rattle.errand_steps.specs.declared.reply.Progress.{Progress}
use Rattle.errand_steps.specs.declared.reply.Reply.{Reply}
use Rattle.errand_steps.specs.declared.reply.Reply.TheVariants as reply
use Rattle.errand_steps.specs.Calls.{Call, free, put, begun_by}
use Rattle.errand_steps.specs.Errands.{ErrandFields}
use Rattle.errand_steps.specs.Steps.{event_at}
use Rattle.sound_laws.specs.events.Stages.{stage_of}
use Rattle.step_machine.specs.Cores.{OwnsAfter}
use Rattle.step_machine.specs.Keeping.{LeavesPlace}
use Rattle.step_machine.specs.Moments.{IsMoment}
use Rattle.step_machine.proofs.ApartLemmas.{Adds, ended-spares, given-apart, got-apart, owns-on}
use Rattle.step_machine.proofs.SpareLemmas.{so_far-spares}
use Rattle.live_heap.specs.declared.block.Block.{Block}
use Rattle.live_heap.specs.Heaps.{HeapFields}
use Rattle.live_heap.specs.declared.pass.Pass.{Pass}
use Rattle.live_heap.specs.declared.view.Lent.{Lent}
use Rattle.live_heap.specs.Calls.{HasCalled, IsCalling, StepsOn}
use Rattle.live_heap.specs.Passes.{IsHome, IsOf, Owns, seen, view}
use Rattle.live_heap.proofs.Growing.{starts-self, starts-on, starts-event}

-- what is seen only grows at a step, and over several
pub moment-grows : (e f : ErrandFields) (before after : List Event) (answer : Progress) → IsMoment e f before after answer → Begins before after
moment-grows e f before after answer m =
    subst (Begins before) (sym m.step.history ∙ m.now) (starts-event before m.state.history (event_at m.state e.caller) (m.between, m.seen))

pub steps-grow : (n : ℕ) (e : ErrandFields) (before : List Event) (f : ErrandFields) (after : List Event) → StepsOn e before n f after → Begins before after
steps-grow zero e before f after on = subst (Begins before) (sym on.1) (starts-self before)
steps-grow (suc n) e before f after on =
    starts-on before on.1 after (steps-grow n e before on.0 on.1 on.3) (moment-grows on.0 f on.1 after on.2 on.4)

-- lists with the same front have the same rest
pub same-rest : {A : Type 0} (xs ys zs : List A) → xs ++ ys ≡ xs ++ zs → ys ≡ zs
same-rest [] ys zs e = e
same-rest (x ∷ xs) ys zs e = same-rest xs ys zs (let t : x ∷ (xs ++ ys) ≡ x ∷ (xs ++ zs) = e in cc)

adds-from :
    (caller : ℕ) (before after added : List Event) → Begins before after → own caller after ≡ own caller before ++ added
    → Adds caller before after added
adds-from caller before after added b is = (
  b.0,
  b.1,
  same-rest (own caller before) (own caller b.0) added (sym (own-append caller before b.0) ∙ (ap (own caller) (sym b.1) ∙ is)),
)

pub called-adds :
    (p q : Pass) (call : Call) (steps : ℕ) (answer : Reply) (h : HasCalled p call steps answer q)
    → Adds p.errand.caller (seen p) (seen q) h.added
called-adds p q call steps answer h =
    adds-from p.errand.caller (seen p) (seen q) h.added
    (starts-on (seen p) h.sight (seen q) (steps-grow steps (begun_by p.errand call) (seen p) h.last h.sight h.on)
    (moment-grows h.last q.errand h.sight (seen q) _ h.moment))
    h.events

pub calling-adds : (p q : Pass) (call : Call) (steps : ℕ) (h : IsCalling p call steps q) → Adds p.errand.caller (seen p) (seen q) h.added
calling-adds p q call steps h =
    adds-from p.errand.caller (seen p) (seen q) h.added (steps-grow steps (begun_by p.errand call) (seen p) q.errand (seen q) h.on) h.events

-- what was seen before is the beginning of what is seen now
pub called-grows : (p q : Pass) (call : Call) (steps : ℕ) (answer : Reply) → HasCalled p call steps answer q → Begins (seen p) (seen q)
called-grows p q call steps answer called = let adds = called-adds p q call steps answer called in (adds.0, adds.1)

pub calling-grows : (p q : Pass) (call : Call) (steps : ℕ) → IsCalling p call steps q → Begins (seen p) (seen q)
calling-grows p q call steps calling = let adds = calling-adds p q call steps calling in (adds.0, adds.1)

-- where the same blocks' words are out, the others' are home
pub stays-home : (p q : Pass) (place : ℕ) → (view q).lent ≡ (view p).lent → IsHome p place → IsHome q place
stays-home p q place same home = λ n b found. home n b (ap (λ (l : List Lent). get_elem? l n) (sym same) ∙ found)

-- a pass keeps its blocks through a call, but for the one that a free or a put is about
pub called-keeps :
    (h : HeapFields) (p q : Pass) (call : Call) (steps : ℕ) (answer : Reply) (block : Block) → IsOf h p → IsOf h q → HasCalled p call steps answer q
    → LeavesPlace call block.place → Owns p block → Owns q block
called-keeps h p q call steps answer block was of called leaves owns = (
  subst (λ c. OwnsAfter (seen q) c block.place block.need) (sym called.caller)
      (owns-on h.layout p.errand.caller block.place block.need (seen p) (seen q) called.added of.served.legal (called-adds p q call steps answer called)
      (ended-spares p.errand.caller block.place call answer called.added leaves called.ended) owns.0),
  stays-home p q block.place called.lent owns.1,
)

pub calling-keeps :
    (h : HeapFields) (p q : Pass) (call : Call) (steps : ℕ) (block : Block) → IsOf h p → IsOf h q → IsCalling p call steps q → LeavesPlace call block.place
    → Owns p block → Owns q block
calling-keeps h p q call steps block was of calling leaves owns = (
  subst (λ c. OwnsAfter (seen q) c block.place block.need) (sym calling.caller)
      (owns-on h.layout p.errand.caller block.place block.need (seen p) (seen q) calling.added of.served.legal (calling-adds p q call steps calling)
      (so_far-spares block.place p.errand.caller call (stage_of q.errand.point) calling.added leaves calling.under_way) owns.0),
  stays-home p q block.place calling.lent owns.1,
)

-- a block that a pass is given, or takes from a shelf, is none that it owned
pub called-given :
    (h : HeapFields) (p q : Pass) (call : Call) (steps place : ℕ) (need : Need) (block : Block) → IsOf h p → IsOf h q
    → HasCalled p call steps (reply.Given place need) q → Owns p block → block.place ≢ place
called-given h p q call steps place need block was of called owns =
    given-apart h.layout p.errand.caller place block.place block.need need call (seen p) (seen q) called.added of.served.legal
    (called-adds p q call steps (reply.Given place need) called) called.ended owns.0

pub called-got :
    (h : HeapFields) (p q : Pass) (call : Call) (steps place : ℕ) (need : Need) (block : Block) → IsOf h p → IsOf h q
    → HasCalled p call steps (reply.Got place need) q → Owns p block → block.place ≢ place
called-got h p q call steps place need block was of called owns =
    got-apart h.layout p.errand.caller place block.place block.need need call (seen p) (seen q) called.added of.served.legal
    (called-adds p q call steps (reply.Got place need) called) called.ended owns.0

-- the words of such a block are home, since only those of blocks that the pass owned were out
pub given-home :
    (h : HeapFields) (p q : Pass) (call : Call) (steps place : ℕ) (need : Need) → IsOf h p → IsOf h q → HasCalled p call steps (reply.Given place need) q
    → IsHome q place
given-home h p q call steps place need was of called = λ n b found.
    given-apart h.layout p.errand.caller place b.place b.need need call (seen p) (seen q) called.added of.served.legal
    (called-adds p q call steps (reply.Given place need) called) called.ended (was.mine n b (ap (λ (l : List Lent). get_elem? l n) (sym called.lent) ∙ found))

pub got-home :
    (h : HeapFields) (p q : Pass) (call : Call) (steps place : ℕ) (need : Need) → IsOf h p → IsOf h q → HasCalled p call steps (reply.Got place need) q
    → IsHome q place
got-home h p q call steps place need was of called = λ n b found.
    got-apart h.layout p.errand.caller place b.place b.need need call (seen p) (seen q) called.added of.served.legal
    (called-adds p q call steps (reply.Got place need) called) called.ended (was.mine n b (ap (λ (l : List Lent). get_elem? l n) (sym called.lent) ∙ found))
