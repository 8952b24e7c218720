-- `new` puts the desk into a cell. Assumes `Logic`.
use Rattle.std.proofs.Common.{◌≡◌, ℕ, List, [], ◌∷◌, ◌++◌, refl}
use mir.Syntax.{Fn, w32}
use mir.Val.{Val, vint, vptr}
use base.Logic.{SProp, emp}
use base.Fml.{ftrue}
use prog.Wp.{WpFn}
use contract.Monad.{fact, fact_i}
use contract.Running.{tables}
use types.Kit.{‵, raw, ◌⊛◌, prop, ◌$◌, ◌∵◌, !, qed, by, move, keep, use0, split, rewrite, regoal, fsplit, fsplit3, fjoin, fpack}
use types.Part.{agg}
use types.Run.{of_opd, no_more, and_then, returns, enter}
use types.ByLocal.{alloc_all, pass_all, free_all, look_at, get, sets}
use denote.Exit.{rest, yes}
use denote.RattleType.{owns}
use denote.Laws.{Typed}
use denote.Param.{layout}
use denote.Signature.{types_at}
use denote.Steps.{nothing, heard}
use denote.Triple.Entry.{alive}
use denote.Triple.Walked.{Stays, stay_dropped, walk_of, Goes-dropped}
use Rattle.core.proofs.alloc.Calls.{Goes-blank}
use Rattle.core.proofs.cell.Inside.{one, round}
use Rattle.std_alloc.proofs.ResultValues.{and_tt}
use Rattle.std.proofs.raw_atomic.Walks.{proved_at, leaves}
use Rattle.heap_allocator.specs.Desks.{Owner}
use Rattle.heap_allocator.proofs.Cell.{quiet, Held, Keeps, Fields, held_Lawful, contents_in}
use Rattle.heap_allocator.proofs.Walks.{param_at}
use Rattle.heap_allocator.specs.contracts.slot.Slot.new.{ended, clauses}
use Rattle.heap_allocator.specs.contracts.slot.Slot.new.Key.{name as #self}
use Rattle.heap_allocator.proofs.slot.Slot.new.Statement.{statement}
use Rattle.heap_allocator.proofs.slot.Slot.new.Code as code

pub new_spec : {M : Type 1} → statement M
new_spec 𝓤 𝓛 𝓜 𝓡 wired =
    let H = 𝓛.H in
    let c = clauses 𝓛 𝓜.mem 𝓡.returns in
    let fn : Fn = code.function in
    let heap = param_at 0 ended.signature.params in
    let caller = param_at 1 ended.signature.params in
    let desk = param_at 2 ended.signature.params in
    let stays : Stays ended.signature.params ended.kept = (stay_dropped heap ended.kept.0, (stay_dropped caller ended.kept.1.0, (stay_dropped desk ended.kept.1.1.0, tt))) in
    let 𝓣 = tables 𝓤 H 𝓜 𝓡 𝓡.env in
    proved_at 𝓛 ended stays c 𝓜 𝓡 (Goes-dropped 𝓛 1 heap ended.kept.0 (λ κs x f. refl), (Goes-dropped 𝓛 1 caller ended.kept.1.0 (λ κs x f. refl), (Goes-blank 𝓛 1 desk ended.kept.1.1.0 (λ κs. quiet), tt)))
    #self fn (code.unfolded 𝓤 H 𝓜 𝓡 wired) (λ z are.
    let Post : Val → SProp 𝓤 = (walk_of 𝓛 ended stays c).post z in
    let a = z.0.3 in
    let vss = z.0.4 in
    let n : ℕ = a.1.0 in
    let h : Owner = record { heap = a.0.now; caller = n } in
    let x = a.1.1.0 in
    let got = one (layout Held) vss.1.1.0 ((held_Lawful 𝓛).typed x vss.1.1.0 are.1.1.0) in
    let w : Val = got.0 in
    let good = got.2 in
    let whole : Typed Fields.mir (round w ∷ []) = ((and_tt _ good.0, (good.1, tt)), tt) in
    qed 𝓛 ((raw (alive 𝓛 ended.signature z.0.0 z.0.1) ⊛ ‵ (owns (types_at ended.signature.params z.0.0) a vss)) ∷ raw (fact 𝓤 (Keeps h x)) ∷ []) ∵
    move ! (1 ∷ []) $ heard ! (Keeps h x) (λ asked. split ! $ move ! (1 ∷ []) $ fsplit3 ! $ move ! (2 ∷ []) $ fsplit ! $
    rewrite ! 0 (λ (us : List Val). ‵ (Held.own_val x us)) got.1 refl $ keep ! (0 ∷ 4 ∷ []) $
    regoal ! (λ (us : List Val). prop (WpFn 𝓤 H 𝓣.C 𝓣.Λ fn us Post)) (λ i. are.0.0 i ++ (are.1.0.0 i ++ (got.1 i ++ []))) refl $
    enter ! 𝓣.C 𝓣.Λ fn (vptr a.0.ref_ptr.0 a.0.ref_ptr.1 ∷ vint w32 n ∷ w ∷ []) Post $
    alloc_all ! (λ l. pass_all ! refl ((tt, tt), ((tt, record { fits = are.1.0.1 }), (good, tt))) $
    sets ! (of_opd ! (get ! refl)) refl good $
    sets ! (agg ! (and_then ! (get ! refl) (no_more !))) refl (and_tt _ good.0, (good.1, tt)) $
    returns ! (look_at ! 0 refl) $ free_all ! refl $
    contents_in h ! x w asked $ nothing ! $ fpack ! (Typed Fields.mir (round w ∷ [])) (λ _. ftrue) whole $ fjoin ! $
    use0 𝓛 (raw (fact 𝓤 (h ≡ h))) (fact_i 𝓤 (h ≡ h) (emp 𝓤) refl) $ nothing ! $ nothing ! $ fjoin ! $ nothing ! $ fjoin ! $ nothing ! $ fjoin ! $ move ! (3 ∷ 0 ∷ 2 ∷ 1 ∷ []) $
    by ! (leaves 𝓛 ended stays c z (round w) h (tt, (tt, (rest (Held.exit yes) x, tt))) (tt, (tt, (tt, tt)))))))
