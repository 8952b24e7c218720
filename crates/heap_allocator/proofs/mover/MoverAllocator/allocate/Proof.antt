-- The piece goes out as room for the type that was asked for, and the way back is the right to free it. Assumes `Logic`.
use Rattle.plain_words.proofs.Names.{◌≡◌, ℕ, ◌+◌, ◌*◌, List, [], ◌∷◌, ◌++◌, refl, subst, w64, Val, vint, vptr, SProp, ent, id⊢, ‵, raw, ◌⊛◌, some, later, at_ret, ◌$◌, ◌∵◌, !, qed, by, move, drop, split, join, pick, fjoin, await, use0, use1, stop, fld, lit, of_opd, no_more, and_then, first, exec, returns, enter, alloc_all, pass_all, free_all, look_at, get, get_in, sets, sets_last, env, sub, whole, agg, tables, owns, types_at, Ptr, block_of, count_of, nothing, heard, alive, Stays, stay_dropped, walk_of, Goes-dropped, fact, froom, WpFn, any_q, Env, leaves}
use lib.Dec.{lit<}
use mathlib.Core.Bool.{true, false}
use mir.Syntax.{Ty, Fn}
use prog.Memory.{size, align, capped}
use prog.Wp.{Wp, after_seq, at_return}
use types.Kit.{prop, regoal, Post as After}
use types.Match.{vrt, in_variant}
use types.Run.{switches_on}
use types.ByLocal.{get_tag, lands_as}
use denote.Triple.Call.{calls_from}
use denote.Triple.Clauses.{Lasts, lasts}
use denote.Triple.Spec.{triple_of}
use Rattle.std.specs.Prelude.{Ok, Err}
use Rattle.core.proofs.alloc.Calls.{Answer, answer_val, Answer-Ok, Answer-err}
use Rattle.core.proofs.alloc.Shapes.{after, head, arm_body}
use Rattle.core.proofs.atomic.Steps.{fm}
use Rattle.std.proofs.raw_atomic.Walks.{proved_at}
use Rattle.heap_allocator.specs.Pieces.{piece_token}
use Rattle.heap_allocator.specs.contracts.mover.Mover.take as taking
use Rattle.heap_allocator.specs.contracts.mover.Mover.take.Key as take_key
use Rattle.heap_allocator.proofs.mover.Mover.take.Met.{met as takes}
use Rattle.heap_allocator.specs.contracts.mover.MoverAllocator.allocate.{ended, clauses}
use Rattle.heap_allocator.specs.contracts.mover.MoverAllocator.allocate.Key.{name as #self}
use Rattle.heap_allocator.proofs.mover.MoverAllocator.allocate.Statement.{statement}
use Rattle.heap_allocator.proofs.mover.MoverAllocator.allocate.Code as code
use Rattle.heap_allocator.proofs.Handing.{param_of, Taken, Told, taken, lies_at_word, hands_out}

pub allocate_spec : {M : Type 1} → statement M
allocate_spec 𝓤 𝓛 𝓜 𝓡 wired =
    let H = 𝓛.H in let 𝓣 = tables 𝓤 H 𝓜 𝓡 𝓡.env in let c = clauses 𝓛 𝓜.mem 𝓡.returns in let fn : Fn = code.function in let ps = ended.signature.params in
    let hs : Stays ps ended.kept = (stay_dropped (param_of 0 ps) ended.kept.0, (stay_dropped (param_of 1 ps) ended.kept.1.0, (stay_dropped (param_of 2 ps) ended.kept.1.1.0, tt))) in
    proved_at 𝓛 ended hs c 𝓜 𝓡 (Goes-dropped 𝓛 2 (param_of 0 ps) ended.kept.0 (λ κs x f. refl), (Goes-dropped 𝓛 2 (param_of 1 ps) ended.kept.1.0 (λ κs x f. refl), (Goes-dropped 𝓛 2 (param_of 2 ps) ended.kept.1.1.0 (λ κs x f. refl), tt))) #self fn (code.unfolded 𝓤 H 𝓜 𝓡 wired) (λ z are.
    let Post : Val → SProp 𝓤 = (walk_of 𝓛 ended hs c).post z in let κs = z.0.0 in let a = z.0.3 in let p : Ptr = a.0.now.heap.now.region.at in let τ : Ty = z.1 in let n : ℕ = a.1.0 in let al : ℕ = a.1.1.0 in
    let k = triple_of 𝓛 taking.signature (taking.spec 𝓛 𝓜.mem 𝓡.returns) in let vs : List Val = vptr a.0.ref_ptr.0 a.0.ref_ptr.1 ∷ vint w64 n ∷ vint w64 al ∷ [] in let y : k.Ghost = ((κs, z.0.1, z.0.2, a, z.0.4), tt) in
    let same : k.args y ≡ vs = λ i. are.0.0 i ++ (are.1.0.0 i ++ (are.1.1.0.0 i ++ [])) in let Asked : Type 0 = (capped (size τ) ≡ n) × (capped (align τ) ≡ al) in
    qed 𝓛 ((raw (alive 𝓛 ended.signature κs z.0.1) ⊛ ‵ (owns (types_at ps κs) a z.0.4)) ∷ raw (fact 𝓤 Asked) ∷ []) ∵ move ! (1 ∷ []) $ heard ! Asked (λ asked. split ! $ join ! $ nothing ! $ move ! (1 ∷ 0 ∷ []) $ join ! $ use1 𝓛 (raw (k.pre y)) (id⊢ 𝓤 _) $
    regoal ! (λ (us : List Val). prop (WpFn 𝓤 H 𝓣.C 𝓣.Λ fn us Post)) same refl $
    enter ! 𝓣.C 𝓣.Λ fn vs Post $ alloc_all ! (λ l. pass_all ! refl ((tt, tt), ((tt, record { fits = are.1.0.1 }), ((tt, record { fits = are.1.1.0.1 }), tt))) $ let Ev : Env 𝓤 H = env fn.locals l in
    let Then : After 𝓤 H = any_q (after_seq 𝓤 H (Wp 𝓤 H 𝓣.C 𝓣.Λ Ev (after 2 fn.body) (at_return 𝓤 H Ev Post)) (at_return 𝓤 H Ev Post)) in
    calls_from ! (fm 𝓛 𝓜 𝓡) (raw (k.pre y)) vs (k.post y) (subst (λ (us : List Val). ent 𝓤 (k.pre y) (𝓣.C take_key.name us (k.post y))) same (takes 𝓤 𝓛 𝓜 𝓡 (code.calls-heap_allocator::mover::Mover::take 𝓡.env wired) y)) (and_then ! (get ! refl) (and_then ! (get ! refl) (and_then ! (get ! refl) (no_more !)))) (λ v.
    use1 𝓛 (later (some (λ (r : Taken.Denot). (raw (alive 𝓛 ended.signature κs z.0.1) ⊛ ‵ (Taken.own_val r (v ∷ []))) ⊛ some (λ (ls : Lasts taking.ended κs a). ‵ (lasts taking.ended κs a ls) ⊛ raw (fact 𝓤 (Told p n al r)))))) (id⊢ 𝓤 (k.post y v)) $
    await ! tt $ pick ! (λ r. split ! $ move ! (1 ∷ []) $ pick ! (λ _. split ! $ drop ! $ heard ! (Told p n al r) (λ told. split ! $ move ! (1 ∷ []) $
    taken ! p n al r v told
    (λ word count label there room small block odd e. let b : ℕ = block_of p in let o : ℕ = word * 8 + count_of p in
    use1 𝓛 (‵ (froom τ b o) ⊛ ‵ (piece_token p τ (lies_at_word p word))) (hands_out 𝓛 p word n count label τ asked.0 there room small block odd) $ lands_as ! e refl (tt, (record { fits = lit< tt }, ((tt, (record { fits = are.1.0.1 }, tt)), tt))) $
    first ! $ switches_on ! (get_tag ! (vrt ! refl (fld ! refl (stop !))) (whole !)) $ exec ! 𝓣.C 𝓣.Λ Ev (arm_body 0 (head (after 1 fn.body))) Then $
    sets ! (of_opd ! (get_in ! (vrt ! refl (fld ! refl (fld ! refl (stop !)))) (sub ! 0 refl (in_variant ! 1 0 refl refl (whole !))))) refl (tt, tt) $
    sets_last ! (agg ! (and_then ! (lit ! tt) (and_then ! (get ! refl) (no_more !)))) refl (tt, (record { fits = lit< tt }, (tt, tt))) $
    exec ! 𝓣.C 𝓣.Λ Ev (after 2 fn.body) (at_ret Ev Post) $ sets ! (of_opd ! (get ! refl)) refl (tt, (record { fits = lit< tt }, (tt, tt))) $ returns ! (look_at ! 0 refl) $ free_all ! refl $
    use0 𝓛 (‵ (Answer.own_val (Ok (lies_at_word p word)) (answer_val true b o ∷ []))) (Answer-Ok 𝓛 b o) $ nothing ! $ nothing ! $ fjoin ! $ nothing ! $ fjoin ! $ nothing ! $ fjoin ! $ move ! (3 ∷ 0 ∷ 1 ∷ 2 ∷ []) $
    by ! (leaves 𝓛 ended hs c z (answer_val true b o) (Ok (lies_at_word p word)) (tt, (tt, (tt, tt))) (tt, (tt, (tt, tt)))))
    (λ e. nothing ! $ lands_as ! e refl (tt, (record { fits = lit< tt }, tt)) $
    first ! $ switches_on ! (get_tag ! (vrt ! refl (fld ! refl (stop !))) (whole !)) $ exec ! 𝓣.C 𝓣.Λ Ev (arm_body 1 (head (after 1 fn.body))) Then $
    sets ! (agg ! (no_more !)) refl (tt, tt) $ sets_last ! (agg ! (and_then ! (lit ! tt) (and_then ! (get ! refl) (no_more !)))) refl (tt, (record { fits = lit< tt }, (tt, tt))) $
    exec ! 𝓣.C 𝓣.Λ Ev (after 2 fn.body) (at_ret Ev Post) $ sets ! (of_opd ! (get ! refl)) refl (tt, (record { fits = lit< tt }, (tt, tt))) $ returns ! (look_at ! 0 refl) $ free_all ! refl $
    use0 𝓛 (‵ (Answer.own_val (Err (record {})) (answer_val false 0 0 ∷ []))) (Answer-err 𝓛) $ nothing ! $ nothing ! $ fjoin ! $ nothing ! $ fjoin ! $ nothing ! $ fjoin ! $ move ! (3 ∷ 0 ∷ 1 ∷ 2 ∷ []) $
    by ! (leaves 𝓛 ended hs c z (answer_val false 0 0) (Err (record {})) (tt, (tt, (tt, tt))) (tt, (tt, (tt, tt))))))))))))
