-- What a call that begins makes of a pass.
use Rattle.std.proofs.Common.{ℕ, ◌≡◌, inl, inr, List, sym, ap, ◌∙◌, subst, arith, refl}
use Rattle.std.specs.Prelude.{Contains}
use Rattle.heap_geometry.specs.declared.geometry.Geometry.{Geometry}
use Rattle.pool_model.specs.Legal.{IsLegal}
use Rattle.pool_model.specs.declared.event.Event.{Event}
use Rattle.heap_geometry.specs.declared.need.Need.{Need}
use Rattle.pool_model.specs.Pool.{pool_of}
use Rattle.pool_model.specs.WellFormed.{IsWellFormed}
use Rattle.pool_model.proofs.HistoryLemmas.{legal-weaker}
use Rattle.pool_model.proofs.PoolLemmas.{every-each, place-found}
use Rattle.pool_model.proofs.WellFormedLemmas.{sound-of}
use Rattle.errand_steps.specs.Begins.{IsIdle, IsHeapBlock, alloc_begun, free_begun, write_begun, read_begun, put_begun, take_begun}
use Rattle.errand_steps.specs.Calls.{Call, alloc, free, put, read, take, write, begun_by}
use Rattle.sound_laws.specs.events.UnderWay.{IsAboutBlock}
use Rattle.errand_steps.specs.Errands.{ErrandFields, IsErrand}
use Rattle.sound_state.specs.Runs.{MayBegin}
use Rattle.step_machine.specs.Cores.{OwnsAfter}
use Rattle.step_machine.specs.Moments.{IsServed}
use Rattle.live_heap.specs.declared.block.Block.{Block}
use Rattle.live_heap.specs.Heaps.{HeapFields}
use Rattle.live_heap.specs.declared.pass.Pass.{Pass}
use Rattle.owned_words.specs.Leaving.{IsAbout, concerned}
use Rattle.owned_words.proofs.Concerned.{begins-concerned}
use Rattle.live_heap.specs.Passes.{IsHome, IsOf, Owns, seen}
use Rattle.live_heap.specs.Sights.{IsBegun, after_events}
use Rattle.live_heap.proofs.LawsServed.{begun-lost, call-served, owned-here}
use Rattle.live_heap.proofs.Moves.{begun-caller, is_begun-caller}

-- a call that has begun nothing left the errand
pub begun-idle : (e : ErrandFields) (call : Call) → IsIdle e → IsIdle (begun_by e call) → begun_by e call ≡ e
unfolding alloc_begun free_begun write_begun read_begun put_begun take_begun
begun-idle e call idle still = grind (arith)

-- a call begins on what the last step left
begins-on :
    (log : List Event) (before e f : ErrandFields) (call : Call) → IsBegun log before e → IsIdle e → MayBegin (after_events log) e.caller call
    → f ≡ begun_by e call → IsBegun log before f
begins-on log before e f call (inl same) idle may is =
    let M : ErrandFields → Type 0 = λ x. IsIdle x × MayBegin (after_events log) x.caller call in
    let m : M before = subst M same (idle, may) in
    inr (call, m.0, m.1, is ∙ ap (λ x. begun_by x call) same)
begins-on log before e f call (inr (first, was, had, begun)) idle may is =
    let same : e ≡ before = begun ∙ begun-idle before first was (subst IsIdle begun idle) in
    let M : ErrandFields → Type 0 = λ x. IsIdle x × MayBegin (after_events log) x.caller call in
    let m : M before = subst M same (idle, may) in
    inr (call, m.0, m.1, is ∙ ap (λ x. begun_by x call) same)

-- the pass's errand is of its heap
pub of-laid : (h : HeapFields) (p : Pass) → IsOf h p → p.errand.geometry ≡ h.layout
of-laid h p of = of.served.own_errand.geometry

pub of-caller : (h : HeapFields) (p : Pass) (of : IsOf h p) → p.errand.caller ≡ of.before.errand.caller
of-caller h p of = is_begun-caller (seen p) of.before.errand p.errand of.begun

-- the block that a call is about is home
abbrev pub CallsHome : Pass → Call → Type 0
CallsHome p call = (place : ℕ) → IsAbout call place → IsHome p place

-- a call that a caller may begin is about a block of the heap
may-about : (g : Geometry) (events : List Event) (caller : ℕ) (call : Call) → IsLegal g events → MayBegin (after_events events) caller call → IsAboutBlock g call
may-about g events caller (alloc words) legal may = tt
may-about g events caller (free place need) legal may = owned-here g events caller place need legal may
may-about g events caller (write place need i value) legal may = owned-here g events caller place need legal may.0
may-about g events caller (read place need i) legal may = owned-here g events caller place need legal may.0
may-about g events caller (put place need shelf) legal may = owned-here g events caller place need legal may.0
may-about g events caller (take shelf) legal may = tt

-- a pass that begins a call stays one of its heap
pub begins-of :
    (h : HeapFields) (p q : Pass) (call : Call) → IsOf h p → IsIdle p.errand → MayBegin (after_events (seen p)) p.errand.caller call → CallsHome p call
    → q.seat ≡ p.seat → q.out ≡ p.out → q.errand ≡ begun_by p.errand call → IsOf h q
begins-of h p q call of idle may home seat out is =
    let number : q.errand.caller ≡ p.errand.caller = ap (λ (e : ErrandFields). e.caller) is ∙ begun-caller p.errand call in
    let about = subst (λ g. IsAboutBlock g call) (sym (of-laid h p of)) (may-about h.layout (seen p) p.errand.caller call of.served.legal may) in
    rw seat
    (record {
      table = of.table;
      empty = of.empty;
      before = of.before;
      one = of.one;
      sight = of.sight;
      begun = begins-on (seen p) of.before.errand p.errand q.errand call of.begun idle may is;
      served = subst (λ (e : ErrandFields). IsServed h.layout e.caller e (seen p)) (sym is) (call-served h.layout p.errand (seen p) call of.served idle may);
      alone = λ one. ap (λ (e : ErrandFields). e.lost) is ∙ begun-lost p.errand call ∙ of.alone one;
      settled = of.settled;
      counted = of.counted ∙ sym out;
      mine = λ n b found. subst (λ c. OwnsAfter (seen p) c b.place b.need) (sym number) (of.mine n b found);
      apart = λ n b found concerns.
          home b.place (begins-concerned p.errand call b.place idle about (subst (λ (e : ErrandFields). Contains (concerned e.point) b.place) is concerns)) n b found refl;
      once = of.once;
    })

-- a block that a pass owns is one of its heap
pub heap-at :
    (h : HeapFields) (p : Pass) (place : ℕ) (need : Need) → IsOf h p → OwnsAfter (seen p) p.errand.caller place need
    → IsHeapBlock p.errand.geometry place need
heap-at h p place need of owned =
    let b = owned.0 in
    let live = owned.1 in
    let legal = legal-weaker h.layout (seen p) of.served.legal in
    let formed = every-each (IsWellFormed h.layout) (pool_of (seen p)) (sound-of h.layout (seen p) legal).each place b live in
    let at : b.place ≡ place = place-found place (pool_of (seen p)) b live in
    subst (λ g. IsHeapBlock g place need) (sym (of-laid h p of))
    (subst (λ m. IsHeapBlock h.layout place m) owned.3
    (subst (λ q. IsHeapBlock h.layout q b.need) at (formed.need, formed.place)))

pub heap-block : (h : HeapFields) (p : Pass) (block : Block) → IsOf h p → Owns p block → IsHeapBlock p.errand.geometry block.place block.need
heap-block h p block of owned = heap-at h p block.place block.need of owned.0

-- the pass's errand keeps its rule
pub of-rule : (h : HeapFields) (p : Pass) → IsOf h p → IsErrand p.errand
of-rule h p of = of.served.own_errand.rule
