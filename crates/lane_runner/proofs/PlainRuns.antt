-- Lanes through caches of depth 0 have run on their passes.
use Rattle.std.proofs.Common.{ℕ, suc, ◌≡◌, ◌<◌, ◌∷◌, ◌++◌, List, [], Vec, Global, length, get_or, sym, ap, refl, ◌∙◌, subst, arith, None, Some}
use Rattle.std.specs.Prelude.{All, reverse}
use Rattle.std.proofs.lemmas.List.{nil_from_length}
use Rattle.std.proofs.lemmas.List.Elements.{All-from_get_or}
use Rattle.errand_steps.specs.declared.reply.Reply.{Reply}
use Rattle.errand_steps.specs.Calls.{Call}
use Rattle.heap_geometry.specs.Need.{need_of}
use Rattle.sound_laws.specs.events.Made.{LeadsBy}
use Rattle.trace_text.specs.declared.trace.Op.{Op}
use Rattle.trace_text.specs.declared.trace.Trace.{Trace}
use Rattle.trace_text.specs.Traces.{IsTrace}
use Rattle.lane_outcomes.specs.declared.outcome.Outcome.{Outcome}
use Rattle.lane_outcomes.specs.Standing.{setting_in}
use Rattle.lane_outcomes.proofs.RoomLemmas.{fits-plain}
use Rattle.live_heap.specs.declared.block.Block.{Block}
use Rattle.live_heap.specs.Heaps.{HeapFields}
use Rattle.live_heap.specs.declared.pass.Pass.{Pass}
use Rattle.live_heap.specs.Passes.{seen}
use Rattle.trace_lane.specs.Made.{AllMade}
use Rattle.trace_lane.proofs.MadeLemmas.{made-of}
use Rattle.block_cache.specs.declared.cache.Cache.{Cache}
use Rattle.block_cache.specs.Caches.{stacks_in}
use Rattle.block_cache.specs.Magazines.{AreMagazines, leaving, stacks_of}
use Rattle.block_cache.specs.Whole.{RestsAt, asked, kept, served}
use Rattle.block_cache.proofs.WholeLemmas.{no-depth}
use Rattle.lane_engine.specs.Caches.{HasEndedAt, IsCachedCall, frees_of}
use Rattle.lane_runner.specs.Passes.{HasEndedOver, HaveRun, WholeAt}
use Rattle.lane_runner.specs.Threads.{HasEndedWith, HaveRunThrough}
use Rattle.lane_runner.specs.Running.{operations_in}
use Rattle.lane_runner.proofs.Numbered.{at-least-one}
use Rattle.lane_runner.proofs.RunLanes.{element_at}
use Rattle.lane_runner.proofs.ThreadLemmas.{through-home}
use Rattle.lane_runner.proofs.ClosedLemmas.{ended-fitted}
use Rattle.lane_runner.proofs.Places.{not-served, served-by}

-- a call through a cache without depth is its pass's
bare-call :
    (h : HeapFields) (c d : Cache) (call : Call) (answer : Reply) → (c.magazines.depth ≡ 0) × RestsAt h c → IsCachedCall h c call answer d
    → WholeAt h c.pass call answer d.pass × ((d.magazines.depth ≡ 0) × RestsAt h d)
bare-call h c d call answer (none, rests) (whole, deep) = (
  elim whole.made [
    | served words block is_alloc is_given has ↦
        absurd (
        let none_has : None ≡ Some block.place =
        sym (not-served c (need_of words) (no-depth h c (need_of words) rests.0 none).0) ∙ served-by c d words block has in
        cc
        )
    | kept block is_free is_freed held room has ↦ absurd ((no-depth h c block.need rests.0 none).1 room)
    | asked asks made keeps ↦ (made.0, made.1, made.3)
  ],
  (deep ∙ none, whole.after),
)

-- and nothing is left to be freed
none-leave : (class : ℕ) (magazines : List (Vec Block Global)) → AreMagazines (λ (b : Block). b.need) class 0 magazines → leaving (stacks_of magazines) ≡ []
none-leave class [] are = refl
none-leave class (m ∷ magazines) are =
    ap (λ (l : List Block). reverse l ++ leaving (stacks_of magazines)) (nil_from_length m.items (omega (arith, are.0.few))) ∙ none-leave (suc class) magazines are.1

none-freed : (h : HeapFields) (c : Cache) (q : Pass) → c.magazines.depth ≡ 0 → RestsAt h c → LeadsBy (HasEndedAt h) c.pass (frees_of (leaving (stacks_in c))) q → q ≡ c.pass
none-freed h c q none rests frees =
    let leave : leaving (stacks_in c) ≡ [] =
    none-leave 0 c.magazines.stacks.items (subst (λ n. AreMagazines (λ (b : Block). b.need) 0 n c.magazines.stacks.items) none rests.0.magazines.each) in
    subst (λ (l : List Block). LeadsBy (HasEndedAt h) c.pass (frees_of l) q) leave frees

pub bare-ended :
    (h : HeapFields) (operations : List Op) (lane : ℕ) (p : Pass) (outcomes : List Outcome) (hits : ℕ) → HasEndedWith h 0 operations lane p outcomes hits
    → HasEndedOver h operations lane p outcomes × (hits ≡ 0)
bare-ended h operations lane p outcomes hits ended =
    let c = ended.cache in
    let e = ended.ended in
    let first = e.first in
    let fitted = ended-fitted h 0 operations lane outcomes c e in
    let rests = e.through.rests in
    let fit = fits-plain (setting_in (seen c.pass) lane h.layout.turn_limit c.pass.errand.lost) operations outcomes c.hits fitted.fits in
    let made = made-of (IsCachedCall h) (WholeAt h) (λ (x : Cache). x.pass) (λ (x : Cache). (x.magazines.depth ≡ 0) × RestsAt h x) (bare-call h) _ operations outcomes first e.through.ran (e.opened.deep, e.opened.rests)
    e.through.made in
    let same : c.pass ≡ e.through.ran.pass = none-freed h e.through.ran c.pass made.1.0 made.1.1 e.through.emptied.frees in
    let over : HasEndedOver h operations lane c.pass outcomes = record {
      of = rests.0.hand.of;
      idle = rests.1;
      home = through-home h 0 operations lane outcomes c e;
      caller = fitted.caller;
      all = e.all;
      fit = fit.0;
      spent = fitted.spent;
      calls =
          record {
            first = first.pass;
            fresh = e.opened.fresh;
            caller = e.opened.caller;
            made = subst (λ (q : Pass). AllMade (WholeAt h) _ operations outcomes first.pass q) (sym same) made.0;
          };
    } in
    (subst (λ (q : Pass). HasEndedOver h operations lane q outcomes) (sym ended.pass) over, ended.counted ∙ fit.1)

pub bare-run :
    (trace : Trace) (h : HeapFields) (passes : List Pass) (outcomes : List (List Outcome)) (hits : List ℕ) → IsTrace trace
    → HaveRunThrough trace h 0 passes outcomes hits → HaveRun trace h passes outcomes × All (λ n. n ≡ 0) hits
bare-run trace h passes outcomes hits is run = (
  record {
    all = run.all;
    lists = run.lists;
    each = λ lane p lt there.
        (bare-ended h (operations_in trace lane) lane p (get_or outcomes lane []) (get_or hits lane 0) (run.each lane p lt there)).0;
    rest = run.rest;
  },
  All-from_get_or (λ n. n ≡ 0) hits 0
      (λ lane lt.
      let below : lane < length trace.lanes = omega (arith, lt, run.counts) in
      let it = element_at passes lane (omega (arith, below, run.all, at-least-one (length trace.lanes) trace.heap.callers is.callers)) in
      (bare-ended h (operations_in trace lane) lane it.0 (get_or outcomes lane []) (get_or hits lane 0) (run.each lane it.0 below it.1)).1),
)
