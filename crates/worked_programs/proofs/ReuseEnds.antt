-- What the closed heap tells of the program: how many allocations the magazine served, the one turn, and that no block is live.
use Rattle.std.proofs.Common.{ℕ, Bool, true, false, ◌≡◌, ◌<◌, ◌+◌, ◌-◌, List, [], ◌∷◌, ◌++◌, count_by, eqb, eq-eqb, All, length, slice_index_or, refl, sym, ◌∙◌, ap, subst, arith}
use Rattle.std.proofs.lemmas.List.{nil_from_length}
use Rattle.std.proofs.lemmas.List.Elements.{All-push}
use Rattle.heap_geometry.specs.declared.geometry.Geometry.{Geometry}
use Rattle.pool_model.specs.declared.event.Event.{Event}
use Rattle.pool_model.specs.declared.event.Event.TheVariants.{Free}
use Rattle.pool_model.specs.Counts.{is_alloc, is_free}
use Rattle.pool_model.specs.Histories.{caller_of, own}
use Rattle.pool_model.specs.Legal.{IsLegal, IsLegalWithoutCounts}
use Rattle.pool_model.specs.Pool.{pool_of}
use Rattle.errand_steps.specs.declared.point.Point.{Point}
use Rattle.errand_steps.specs.declared.point.Point.TheVariants as point
use Rattle.errand_steps.specs.Begins.{IsIdle}
use Rattle.errand_steps.specs.Points.{is_idle}
use Rattle.sound_state.specs.Turns.{gives_small, one_if, refuses_small}
use Rattle.sound_state.specs.TurnStages.{lacks_answer, is_unneeded, turn_stage_of}
use Rattle.step_machine.specs.Moments.{IsServed}
use Rattle.live_heap.specs.Heaps.{HeapFields}
use Rattle.live_heap.specs.declared.pass.Pass.{Pass}
use Rattle.live_heap.specs.Endings.{AreAllIdle, ClosedFields, HasClosed, HasTakenIn}
use Rattle.live_heap.specs.Passes.{AreFrom, IsFresh, IsOf, seen}
use Rattle.live_heap.specs.Whole.{IsAtRest}
use Rattle.block_cache.specs.declared.cache.Cache.{Cache}
use Rattle.block_cache.specs.Caches.{stacks_in}
use Rattle.worked_programs.specs.declared.reuse.TheConstants.{ROUNDS}
use Rattle.worked_programs.specs.Reuse.{HasWorked, IsOpened}
use Rattle.worked_programs.proofs.EmbeddedCalls.{fresh-rest}
use Rattle.worked_programs.proofs.EmbeddedCounts.{Counts, one}
use Rattle.worked_programs.proofs.EmbeddedWays.{CountsBlocks}
use Rattle.worked_programs.proofs.ReuseCalls.{three-small}
use Rattle.worked_programs.proofs.ReuseRounds.{Fits, all-leave, one-freed, rounds-stand, stands-first}

-- the laws of heaps and histories on which these lemmas stand
abbrev pub AreServed : Type 0
AreServed = (h : HeapFields) (p : Pass) → IsOf h p → IsServed h.layout p.errand.caller p.errand (seen p)

abbrev pub LosesNothing : Type 0
LosesNothing = (h : HeapFields) (p : Pass) → IsOf h p → h.layout.callers ≡ 1 → p.errand.lost ≡ 0

abbrev pub IsWeaker : Type 0
IsWeaker = (g : Geometry) (history : List Event) → IsLegal g history → IsLegalWithoutCounts g history

-- where there is one caller all events are its own
own-all :
    (events : List Event) → ((before rest : List Event) (event : Event) → events ≡ before ++ event ∷ rest → caller_of event < 1)
    → own 0 events ≡ events
own-all [] alone = refl
own-all (first ∷ events) alone =
    let few : caller_of first < 1 = alone [] events first refl in
    let on : eqb (caller_of first) 0 ≡ true = eq-eqb (caller_of first) 0 (omega (arith, few)) in
    let rest = own-all events (λ before rest event e. alone (first ∷ before) rest event (ap (λ (xs : List Event). first ∷ xs) e)) in
    rw on (ap (λ (xs : List Event). first ∷ xs) rest)

pub own-legal : (g : Geometry) (events : List Event) → IsLegalWithoutCounts g events → g.callers ≡ 1 → own 0 events ≡ events
own-legal g events legal alone =
    own-all events (λ before rest event e. subst (λ (n : ℕ). caller_of event < n) alone (legal before rest event e).0)

-- who is in no call is in no turn
idle-answered : (p : Point) → is_idle p ≡ true → (one_if (lacks_answer (turn_stage_of p)) ≡ 0) × (one_if (is_unneeded (turn_stage_of p)) ≡ 0)
idle-answered point.Idle idle = (refl, refl)
idle-answered (point.Block p o) idle = let e : false ≡ true = idle in absurd (cc)
idle-answered (point.Stack p o) idle = let e : false ≡ true = idle in absurd (cc)
idle-answered (point.Desc p o) idle = let e : false ≡ true = idle in absurd (cc)
idle-answered (point.Partial p o) idle = let e : false ≡ true = idle in absurd (cc)
idle-answered (point.Large p o) idle = let e : false ≡ true = idle in absurd (cc)

-- what is counted in the closed heap is what the pass has counted
pub worked-counts :
    (P : Event → Bool) (h : HeapFields) (c : Cache) (sum : ℕ) (d : Cache) (gives frees : ℕ) → Fits P gives → ((place : ℕ) → one P (Free 0 place) ≡ frees)
    → IsOpened h c → HasWorked h c sum d → Counts P 0 (gives + frees) d.pass
worked-counts P h c sum d gives frees fits weighs opened worked =
    let (class, small) = three-small in
    let first =
    stands-first h class c opened.rests opened.depth opened.empty opened.hits
    (λ Q. (opened.first, ap (λ (l : List Event). count_by Q (own 0 l)) opened.fresh.nothing_seen)) in
    let at = rounds-stand h class (ROUNDS - 1) c worked.mid small first worked.rounds in
    one-freed P h worked.mid.pass d.pass _ _ gives frees (all-leave (stacks_in worked.mid) ∙ at.all) weighs worked.flushed.1
    (at.counts P gives fits)

pub worked-hits : (h : HeapFields) (c : Cache) (sum : ℕ) (d : Cache) → IsOpened h c → HasWorked h c sum d → d.hits ≡ ROUNDS - 1
worked-hits h c sum d opened worked =
    let (class, small) = three-small in
    let first =
    stands-first h class c opened.rests opened.depth opened.empty opened.hits
    (λ Q. (opened.first, ap (λ (l : List Event). count_by Q (own 0 l)) opened.fresh.nothing_seen)) in
    let at = rounds-stand h class (ROUNDS - 1) c worked.mid small first worked.rounds in
    worked.hits ∙ at.hits_are

alloc-fits : Fits is_alloc 1
alloc-fits = record { looks = λ caller class. refl; alloc = λ place. refl; write = λ place i v. refl }

free-fits : Fits is_free 0
free-fits = record { looks = λ caller class. refl; alloc = λ place. refl; write = λ place i v. refl }

gives-fits : Fits (gives_small 0) 1
gives-fits = record { looks = λ caller class. refl; alloc = λ place. refl; write = λ place i v. refl }

refuses-fits : Fits (refuses_small 0) 0
refuses-fits = record { looks = λ caller class. refl; alloc = λ place. refl; write = λ place i v. refl }

-- the pass has taken one turn
pub worked-turns :
    (h : HeapFields) (c : Cache) (sum : ℕ) (d : Cache) → AreServed → LosesNothing → IsWeaker → IsOpened h c → HasWorked h c sum d → d.pass.errand.turns ≡ 1
worked-turns h c sum d served loses weaker opened worked =
    let of = worked.rests.0.hand.of in
    let is = served h d.pass of in
    let gives = worked-counts (gives_small 0) h c sum d 1 0 gives-fits (λ place. refl) opened worked in
    let refuses = worked-counts (refuses_small 0) h c sum d 0 0 refuses-fits (λ place. refl) opened worked in
    let whole = own-legal h.layout (seen d.pass) (weaker h.layout (seen d.pass) is.legal) opened.alone in
    let idle = idle-answered d.pass.errand.point worked.rests.1 in
    omega (
      arith,
      is.answers,
      is.by_lost,
      loses h d.pass of opened.alone,
      idle.0,
      idle.1,
      ap (λ (k : ℕ). count_by (gives_small k) (seen d.pass)) gives.0,
      ap (λ (k : ℕ). count_by (refuses_small k) (seen d.pass)) gives.0,
      ap (count_by (gives_small 0)) whole,
      ap (count_by (refuses_small 0)) whole,
      gives.1,
      refuses.1,
    )

-- no block is live
pub worked-nothing :
    (h : HeapFields) (c : Cache) (sum : ℕ) (d : Cache) (closed : ClosedFields) → CountsBlocks → IsOpened h c → HasWorked h c sum d
    → HasClosed h (d.pass ∷ []) closed → IsLegalWithoutCounts closed.geometry closed.events → pool_of closed.events ≡ []
worked-nothing h c sum d closed counted opened worked has legal =
    let events = closed.events in
    let mine : HasTakenIn closed d.pass = has.each 0 d.pass (omega arith) in
    let alone : closed.geometry.callers ≡ 1 = ap (λ (g : Geometry). g.callers) has.heap ∙ opened.alone in
    let whole : (P : Event → Bool) (gives frees : ℕ) → Fits P gives → ((place : ℕ) → one P (Free 0 place) ≡ frees)
    → count_by P events ≡ gives + frees =
    λ P gives frees fits weighs.
    let a = worked-counts P h c sum d gives frees fits weighs opened worked in
    let own0 : own 0 events ≡ own 0 (seen d.pass) = subst (λ (k : ℕ). own k events ≡ own k (seen d.pass)) a.0 mine.events in
    ap (count_by P) (sym (own-legal closed.geometry events legal alone)) ∙ (ap (count_by P) own0 ∙ a.1) in
    let allocs : count_by is_alloc events ≡ 1 = whole is_alloc 1 0 alloc-fits (λ place. refl) in
    let frees : count_by is_free events ≡ 1 = whole is_free 0 1 free-fits (λ place. refl) in
    nil_from_length (pool_of events) (omega (arith, counted closed.geometry events legal, allocs, frees))

-- the pass of a new heap with one caller
pub only-pass :
    (h : HeapFields) (passes : List Pass) (p : Pass) → AreFrom h 0 passes → length passes ≡ 1 → p ≡ slice_index_or passes 0 p
    → IsFresh h p × (p.errand.caller ≡ 0) × IsIdle p.errand
only-pass h [] p from all is = absurd (omega (arith, all))
only-pass h (x ∷ passes) p (fresh, first, others) all is =
    (subst (IsFresh h) (sym is) fresh, ap (λ (q : Pass). q.errand.caller) is ∙ first, (fresh-rest h p (subst (IsFresh h) (sym is) fresh)).1)

-- the one pass that goes into the closing is in no call
pub only-idle :
    (h : HeapFields) (p : Pass) (passes : List Pass) → IsAtRest h p → passes ≡ p ∷ [] → h.layout.callers ≡ 1 → AreAllIdle h passes
only-idle h p passes rests is alone = record {
  all = ap length is ∙ sym alone;
  each =
      subst (λ (l : List Pass). All (λ x. IsAtRest h x) l) (sym is)
      (All-push (λ x. IsAtRest h x) [] p (λ k d within. absurd (omega (arith, within))) rests);
}
