-- The passes of a new heap.
use Rattle.std.proofs.Common.{ℕ, zero, suc, ◌≡◌, ◌<◌, ◌+◌, ◌-◌, inl, List, [], ◌∷◌, ◌++◌, length, refl, sym, ap, subst, arith, ◌∙◌}
use Rattle.std.specs.Prelude.{if◌then◌else◌}
use Rattle.atomic_region.specs.Region.{Me}
use Rattle.heap_geometry.specs.declared.geometry.Geometry.{Geometry}
use Rattle.heap_geometry.specs.Geometry.{IsChecked}
use Rattle.word_table.specs.Table.{exists}
use Rattle.pool_model.specs.declared.event.Event.{Event}
use Rattle.errand_steps.specs.Errands.{ErrandFields, open_errand}
use Rattle.errand_steps.specs.Openings.{opening}
use Rattle.errand_steps.specs.Steps.{State}
use Rattle.sound_laws.specs.bounds.Wins.{no_wins}
use Rattle.step_machine.specs.Cores.{IsReached}
use Rattle.step_machine.specs.Moments.{IsServed}
use Rattle.step_machine.proofs.MomentLemmas.{reached-served}
use Rattle.live_heap.specs.Heaps.{HeapFields}
use Rattle.live_heap.specs.declared.pass.Pass.{Pass}
use Rattle.live_heap.specs.declared.view.View.{View}
use Rattle.live_heap.specs.Passes.{IsFresh, AreFrom, accesses_of, seen, view}
use Rattle.live_heap.proofs.LentPlaces.{none-out}
use Rattle.live_heap.specs.Rule.{first_errands}
use Rattle.live_heap.specs.Views.{idle_standing, idles_from, idle_view}
use Rattle.live_heap.proofs.Seats.{first-there}

pub idles-more :
    (g : Geometry) (caller more : ℕ) → 0 < more
    → idles_from g caller more ≡ idle_standing g caller ∷ idles_from g (caller + 1) (more - 1)
idles-more g caller zero l = absurd (omega arith)
idles-more g caller (suc more) l =
    let a : suc caller ≡ caller + 1 = omega arith in
    let b : more ≡ suc more - 1 = omega arith in
    ap (λ (p : ℕ × ℕ). idle_standing g caller ∷ idles_from g p.0 p.1) (λ i. (a i, b i))

-- a caller that has made no step is served
first-served : (g : Geometry) (caller : ℕ) → IsChecked g → caller < g.callers → IsServed g caller (open_errand caller g) []
first-served g caller checked has =
    subst (λ (e : ErrandFields). IsServed g caller e []) (first-there g caller has) (reached-served g s 0 caller run has)
  where
    s : State
    s = record { word = λ name. if exists g name then opening g name else 0; errand = first_errands g; history = [] }

    run : IsReached g s 0
    run = record {
      checked = checked;
      first = s;
      opens = inl (record { word = λ name. refl; errand = first-there g; history = refl });
      moves = [];
      wins = no_wins;
      reaches = (refl, refl);
      steps = refl;
    }

pub fresh :
    (h : HeapFields) (p : Pass) (caller : ℕ) → caller < h.layout.callers → p.seat.region ≡ h.region
    → p.seat.me ≡ (idle_view h.layout caller 1, []) → p.out ≡ 0 → p.errand ≡ open_errand caller h.layout → IsFresh h p
fresh h p caller has table me out errand =
    let g = h.layout in
    let nothing : p.seat.me.0.seen ≡ [] = ap (λ (m : Me View). m.0.seen) me in
    let home : (view p).lent ≡ [] = ap (λ (m : Me View). m.0.lent) me in
    let number : p.errand.caller ≡ caller = ap (λ (e : ErrandFields). e.caller) errand in
    record {
      of = record {
        table = table;
        empty = ap (λ (m : Me View). m.1) me;
        before = idle_standing g caller;
        one = ap (λ (m : Me View). m.0.callers) me;
        sight = sym nothing;
        begun = inl errand;
        served = subst (λ (e : ErrandFields). IsServed g e.caller e (seen p)) (sym errand) (subst (λ (l : List Event). IsServed g caller (open_errand caller g) l) (sym nothing) (first-served g caller h.checked has));
        alone = λ one. ap (λ (e : ErrandFields). e.lost) errand;
        settled = ap (λ (m : Me View). m.0.lays) me;
        counted = ap length home ∙ sym out;
        mine = λ n b found. absurd (none-out (view p) n b home found);
        apart = λ n b found concerns. none-out (view p) n b home found;
        once = λ m n a b found other same. absurd (none-out (view p) m a home found);
      };
      errand = subst (λ n. p.errand ≡ open_errand n g) (sym number) errand;
      nothing_seen = nothing;
      home = out;
      none_made = ap (λ (m : Me View). accesses_of m.0.callers) me;
    }

pub AreFrom-push :
    (h : HeapFields) (caller : ℕ) (ps : List Pass) (p : Pass) → AreFrom h caller ps → IsFresh h p → p.errand.caller ≡ caller + length ps
    → AreFrom h caller (ps ++ p ∷ [])
AreFrom-push h caller [] p a f e = (f, (omega arith), tt)
AreFrom-push h caller (q ∷ ps) p a f e = (a.0, a.1, AreFrom-push h (suc caller) ps p a.2 f (omega arith))
