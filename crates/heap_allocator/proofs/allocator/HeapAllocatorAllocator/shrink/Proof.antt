-- Where one piece serves both sizes it answers the pointer that it was given; else what the mover answers. Assumes `Logic`.
use Rattle.plain_words.proofs.Names.{◌≡◌, ℕ, ◌+◌, ◌-◌, ◌*◌, ◌^◌, ◌<◌, ◌≤◌, List, [], ◌∷◌, ◌++◌, sym, refl, ap, ◌∙◌, subst, w64, a_type, inst_fn, Val, vint, vptr, SProp, emp, id⊢, sem, ‵, raw, ◌⊛◌, some, later, given, learn, at_ret, ◌$◌, ◌∵◌, !, qed, by, move, keep, drop, split, split3, join, pick, fsep, fsplit, fjoin, await, use0, use1, use2, rewrite, feq_i, flt_i, stop, fld, lit, of_opd, bin, no_more, and_then, first, exec, returns, enter, alloc_all, pass_all, free_all, look_at, get, sets, is, env, agg, tables, owns, types_at, Ptr, block_ptr, ptr_val, nothing, heard, alive, Stays, stay_dropped, walk_of, Goes-dropped, fact, fact_i, WpFn, leaves}
use types.ByLocal.{sets_last, lands_last, lands_as, through}
use types.Kit.{any_q, Post as After, prop, regoal, feq_l}
use prog.Wp.{Wp, after_seq, at_return, Env}
use Rattle.core.proofs.alloc.Shapes.{head, after}
use Rattle.heap_allocator.proofs.Resizing.{otherwise, is-true, stays_put}
use mathlib.Core.Bool.{not, Bool, true}
use lib.Dec.{T}
use mir.Val.{has_ty, WT}
use denote.RawPtr.{◌+ₚ◌, null_ptr, room_for, in_a_block}
use Rattle.core.proofs.alloc.Resizes.{by_flag, result_of, result_own, Sized, wider, times_capped, Shrinks, Shrinks-Sized}
use base.Fml.{Fml}
use denote.Memory.{hidden_shr}
use denote.Triple.Call.{calls_at_last, calls_at}
use Rattle.heap_allocator.specs.contracts.mover.Mover as mover
use Rattle.heap_allocator.proofs.mover.MoverAllocator.shrink.Met.{met as mover_met}
use Rattle.heap_allocator.specs.contracts.mover.MoverAllocator.shrink as movers
use types.Run.{blocks, size_word, branches, addr}
use denote.Opens.{unhide}
use Rattle.std.specs.Prelude.{Ok}
use denote.Builtin.{bool}
use mir.Syntax.{Fn, Args}
use base.Logic.{never, fst∗}
use prog.Memory.{size, capped}
use contract.BorrowLft.{◌⊑◌}
use denote.Param.{layouts, layout, param}
use denote.Steps.{only}
use denote.Triple.Clauses.{Lasts, lasts}
use denote.Triple.Spec.{triple_of}
use denote.Signature.{named_lft}
use Rattle.core.proofs.atomic.Steps.{fm}
use Rattle.core.proofs.alloc.Calls.{Answer, answer_val, Answer-Ok, Answer-typed}
use Rattle.std.specs.Allocator.{array_of, block_with_items, resized_if_ok}
use Rattle.std.proofs.raw_atomic.Walks.{proved_at}
use Rattle.memory_cache.specs.Sizes.{piece_words}
use Rattle.heap_allocator.specs.Pieces.{piece_token, words_for, AreOfOnePiece}
use Rattle.heap_allocator.proofs.Handing.{param_of}
use Rattle.heap_allocator.specs.contracts.allocator.HeapAllocatorAllocator.shrink.{ended, clauses}
use Rattle.heap_allocator.specs.contracts.allocator.HeapAllocatorAllocator.shrink.Key.{name as #self}
use Rattle.heap_allocator.specs.contracts.mover.are_of_one_piece as sames
use Rattle.heap_allocator.proofs.mover.are_of_one_piece.Met.{met as same_met}
use Rattle.heap_allocator.proofs.allocator.HeapAllocatorAllocator.shrink.Statement.{statement}
use Rattle.heap_allocator.proofs.allocator.HeapAllocatorAllocator.shrink.Code as code

abbrev word : ℕ → Val
word = vint w64

abbrev the_answer : Ptr → Answer.Denot
the_answer q = Ok q

pub shrink_spec : {M : Type 1} → statement M
shrink_spec 𝓤 𝓛 𝓜 𝓡 wired X L =
    let H = 𝓛.H in let E₀ = ended X in let c = clauses X 𝓛 𝓜.mem 𝓡.returns in let args : Args = layouts (a_type ∷ []) (X, tt) in let fn : Fn = inst_fn args code.function in let ps = E₀.signature.params in
    let hs : Stays ps E₀.kept = (stay_dropped (param_of 0 ps) E₀.kept.0, (stay_dropped (param_of 1 ps) E₀.kept.1.0, (stay_dropped (param_of 2 ps) E₀.kept.1.1.0, (stay_dropped (param_of 3 ps) E₀.kept.1.1.1.0, (stay_dropped (param_of 4 ps) E₀.kept.1.1.1.1.0, tt))))) in
    let 𝓣 = tables 𝓤 H 𝓜 𝓡 𝓡.env in
    proved_at 𝓛 E₀ hs c 𝓜 𝓡 (Goes-dropped 𝓛 3 (param_of 0 ps) E₀.kept.0 (λ κs x f. refl), (Goes-dropped 𝓛 3 (param_of 1 ps) E₀.kept.1.0 (λ κs x f. refl), (Goes-dropped 𝓛 3 (param_of 2 ps) E₀.kept.1.1.0 (λ κs x f. refl), (Goes-dropped 𝓛 3 (param_of 3 ps) E₀.kept.1.1.1.0 (λ κs x f. refl), (Goes-dropped 𝓛 3 (param_of 4 ps) E₀.kept.1.1.1.1.0 (λ κs x f. refl), tt))))) (#self args) fn (code.unfolded 𝓤 H 𝓜 𝓡 wired (X, tt)) (λ z are.
    let Post : Val → SProp 𝓤 = (walk_of 𝓛 E₀ hs c).post z in let κs = z.0.0 in let a = z.0.3 in let at_ : Ptr = a.0.now.mover.heap.now.region.at in let from : Ptr = a.1.0 in let len : ℕ = a.1.1.0 in let old : ℕ = a.1.1.1.0 in let new : ℕ = a.1.1.1.1.0 in
    let InX : Type 0 = κs.1.1.0 ⊑ X.lives in let Asked : Type 0 = Shrinks X len old new in
    qed 𝓛 ((raw (alive 𝓛 E₀.signature κs z.0.1) ⊛ ‵ (owns (types_at ps κs) a z.0.4)) ∷ (raw (fact 𝓤 InX) ⊛ raw (fact 𝓤 Asked) ⊛ ‵ (block_with_items (piece_token at_) (param 1 X) from len old z.1)) ∷ []) ∵
    move ! (1 ∷ []) $ split3 ! $ heard ! InX (λ inX. heard ! Asked (λ asked.
    in_a_block ! from (λ (p : Ptr). block_with_items (piece_token at_) (param 1 X) p len old z.1) (fst∗ 𝓤 (never 𝓤) (sem 𝓛 (fsep (room_for (array_of (param 1 X) (old - len)) null_ptr) (piece_token at_ (array_of (param 1 X) old) null_ptr)))) (λ b o lies.
    let s : ℕ = size (layout X) in let p : Ptr = block_ptr b o in let InPlace : Answer.Denot → Type 0 = λ r. AreOfOnePiece (old * s) (new * s) → r ≡ Ok from in let stayed : Answer.Denot = Ok p in let me : Val = vptr a.0.ref_ptr.0 a.0.ref_ptr.1 in
    let sized : Sized X len old new = Shrinks-Sized X len old new asked in
    let times : (k : ℕ) → k * s < 2 ^ 63 → word (k * capped s) ≡ word (k * s) = λ k f. ap word (times_capped k s f) in
    let fits : (k : ℕ) → k * s < 2 ^ 63 → k * capped s < 2 ^ 64 = λ k f. subst (λ (j : ℕ). j < 2 ^ 64) (sym (times_capped k s f)) (wider (k * s) f) in
    move ! (1 ∷ []) $ split ! $ move ! (1 ∷ []) $ fsplit ! $ fsplit ! $ keep ! (4 ∷ 1 ∷ 3 ∷ []) $
    -- [the block; the allocator; the tokens]
    regoal ! (λ (us : List Val). prop (WpFn 𝓤 H 𝓣.C 𝓣.Λ fn us Post)) (λ i. are.0.0 i ++ ((are.1.0 ∙ ap (λ (u : Ptr). ptr_val u ∷ []) lies) i ++ (are.1.1.0.0 i ++ (are.1.1.1.0.0 i ++ (are.1.1.1.1.0.0 i ++ []))))) refl $
    enter ! 𝓣.C 𝓣.Λ fn (me ∷ ptr_val p ∷ vint w64 len ∷ vint w64 old ∷ vint w64 new ∷ []) Post $
    alloc_all ! (λ l. pass_all ! refl ((tt, tt), ((tt, tt), ((tt, record { fits = are.1.1.0.1 }), ((tt, record { fits = are.1.1.1.0.1 }), ((tt, record { fits = are.1.1.1.1.0.1 }), tt))))) $ let Ev : Env 𝓤 H = env fn.locals l in
    let Then : After 𝓤 H = any_q (after_seq 𝓤 H (Wp 𝓤 H 𝓣.C 𝓣.Λ Ev (after 4 fn.body) (at_return 𝓤 H Ev Post)) (at_return 𝓤 H Ev Post)) in
    sets ! {v = vint w64 (old * s)} (is ! (bin ! (get ! refl) (size_word !) (record { fits = fits old sized.2 })) (times old sized.2)) refl (tt, record { fits = wider (old * s) sized.2 }) $
    sets ! {v = vint w64 (new * s)} (is ! (bin ! (get ! refl) (size_word !) (record { fits = fits new sized.3 })) (times new sized.3)) refl (tt, record { fits = wider (new * s) sized.3 }) $
    let k = triple_of 𝓛 sames.signature (sames.spec 𝓛 𝓜.mem 𝓡.returns) in
    let Roomy : Bool → Type 0 = λ r. r ≡ true → words_for (new * s) ≤ piece_words (words_for (new * s)) in
    let y : k.Ghost = ((tt, tt, tt, (old * s, (new * s, tt)), (vint w64 (old * s) ∷ [], (vint w64 (new * s) ∷ [], tt))), tt) in
    nothing ! $ flt_i ! (new * s) (2 ^ 64) (wider (new * s) sized.3) $ feq_i ! (List Val) (vint w64 (new * s) ∷ []) (vint w64 (new * s) ∷ []) refl $ fjoin ! $ fjoin ! $
    flt_i ! (old * s) (2 ^ 64) (wider (old * s) sized.2) $ feq_i ! (List Val) (vint w64 (old * s) ∷ []) (vint w64 (old * s) ∷ []) refl $ fjoin ! $ fjoin ! $
    nothing ! $ join ! $ nothing ! $ move ! (1 ∷ 0 ∷ []) $ join ! $ use1 𝓛 (raw (k.pre y)) (id⊢ 𝓤 _) $
    calls_at ! (fm 𝓛 𝓜 𝓡) k (same_met 𝓤 𝓛 𝓜 𝓡 (code.calls-heap_allocator::mover::are_of_one_piece 𝓡.env wired)) y (and_then ! (get ! refl) (and_then ! (get ! refl) (no_more !))) (λ v.
    use1 𝓛 (later (some (λ (r : Bool). (raw (alive 𝓛 sames.signature tt tt) ⊛ ‵ (bool.own_val r (v ∷ []))) ⊛ some (λ (ls : Lasts sames.ended tt y.0.3). ‵ (lasts sames.ended tt y.0.3 ls) ⊛ (raw (fact 𝓤 (r ≡ true → AreOfOnePiece (old * s) (new * s))) ⊛ raw (fact 𝓤 (AreOfOnePiece (old * s) (new * s) → r ≡ true)) ⊛ raw (fact 𝓤 (Roomy r))))))) (id⊢ 𝓤 (k.post y v)) $
    await ! tt $ pick ! (λ r. split ! $ split ! $ drop ! $ feq_l ! (λ e. pick ! (λ _. split ! $ drop ! $ split3 ! $ heard ! (r ≡ true → AreOfOnePiece (old * s) (new * s)) (λ yes. heard ! (AreOfOnePiece (old * s) (new * s) → r ≡ true) (λ no. heard ! (Roomy r) (λ roomy.
    lands_as ! (ap only e) refl (tt, tt) $ first ! $ branches ! (get ! refl) (λ holds.
    use1 𝓛 (‵ (block_with_items (piece_token at_) (param 1 X) p len new z.1)) (let one : r ≡ true = is-true r holds in stays_put 𝓛 X at_ len old new b o z.1 sized.0 sized.1 are.1.1.1.0.1 are.1.1.1.1.0.1 (yes one) (roomy one)) $
    sets_last ! (agg ! (and_then ! (lit ! tt) (and_then ! (get ! refl) (no_more !)))) refl (Answer-typed true b o) $
    exec ! 𝓣.C 𝓣.Λ Ev (after 4 fn.body) (at_ret Ev Post) $ sets ! (of_opd ! (get ! refl)) refl (Answer-typed true b o) $ returns ! (look_at ! 0 refl) $ free_all ! refl $
    use0 𝓛 (raw (fact 𝓤 (InPlace stayed))) (fact_i 𝓤 (InPlace stayed) (emp 𝓤) (λ _. ap (λ (q : Ptr). the_answer q) (sym lies))) $
    move ! (0 ∷ 1 ∷ []) $ join ! $ use0 𝓛 (‵ (Answer.own_val stayed (answer_val true b o ∷ []))) (Answer-Ok 𝓛 b o) $
    nothing ! $ nothing ! $ fjoin ! $ nothing ! $ fjoin ! $ nothing ! $ fjoin ! $ nothing ! $ fjoin ! $ nothing ! $ fjoin ! $ keep ! (4 ∷ 0 ∷ 1 ∷ 2 ∷ []) $ by ! (leaves 𝓛 E₀ hs c z (answer_val true b o) stayed (tt, (tt, (tt, (tt, (tt, tt))))) (tt, (tt, (tt, (tt, (tt, tt)))))))
    (λ fails. move ! (1 ∷ []) $ unhide ! $ fsplit ! $ fsplit ! $ move ! (1 ∷ []) $ fsplit ! $ move ! (1 ∷ []) $ fsplit ! $
    let at : ℕ × ℕ = (a.0.ref_ptr.0, a.0.ref_ptr.1 + 16) in first ! $ blocks ! $ sets ! {v = vptr at.0 at.1} (addr ! (through ! refl (fld ! refl (stop !)))) refl (tt, tt) $
    let k' = triple_of 𝓛 (movers.signature X) (movers.spec X 𝓛 𝓜.mem 𝓡.returns) in
    let y' : k'.Ghost = ((κs, z.0.1, z.0.2, (record { ref_ptr = at; now = a.0.now.mover }, (p, (len, (old, (new, tt))))), (vptr at.0 at.1 ∷ [], (vptr b o ∷ [], (vint w64 len ∷ [], (vint w64 old ∷ [], (vint w64 new ∷ [], tt)))))), z.1) in
    let Called : Answer.Denot → Fml = resized_if_ok (piece_token at_) (param 1 X) p len old new z.1 in
    use1 𝓛 (‵ (hidden_shr (mover.the_row (named_lft 3 1 tt κs)) κs.0 a.0.now.mover at.0 at.1)) (id⊢ 𝓤 _) $ move ! (1 ∷ []) $ drop ! $ move ! (1 ∷ []) $ drop ! $ move ! (1 ∷ []) $ drop ! $ move ! (1 ∷ []) $ drop ! $
    -- [the mover; the block; the tokens]
    move ! (1 ∷ []) $ use0 𝓛 (raw (fact 𝓤 Asked)) (fact_i 𝓤 Asked (emp 𝓤) asked) $ join ! $ use0 𝓛 (raw (fact 𝓤 InX)) (fact_i 𝓤 InX (emp 𝓤) inX) $ join ! $
    nothing ! $ flt_i ! new (2 ^ 64) are.1.1.1.1.0.1 $ feq_i ! (List Val) (vint w64 new ∷ []) (vint w64 new ∷ []) refl $ fjoin ! $ fjoin ! $
    flt_i ! old (2 ^ 64) are.1.1.1.0.1 $ feq_i ! (List Val) (vint w64 old ∷ []) (vint w64 old ∷ []) refl $ fjoin ! $ fjoin ! $
    flt_i ! len (2 ^ 64) are.1.1.0.1 $ feq_i ! (List Val) (vint w64 len ∷ []) (vint w64 len ∷ []) refl $ fjoin ! $ fjoin ! $
    feq_i ! (List Val) (vptr b o ∷ []) (vptr b o ∷ []) refl $ fjoin ! $ move ! (2 ∷ []) $ feq_i ! (List Val) (vptr at.0 at.1 ∷ []) (vptr at.0 at.1 ∷ []) refl $ fjoin ! $ move ! (0 ∷ 1 ∷ []) $ fjoin ! $
    move ! (2 ∷ 0 ∷ []) $ join ! $ join ! $ use1 𝓛 (raw (k'.pre y')) (id⊢ 𝓤 _) $
    calls_at_last ! (fm 𝓛 𝓜 𝓡) k' (mover_met 𝓤 𝓛 𝓜 𝓡 (code.calls-heap_allocator::mover::MoverAllocator::shrink 𝓡.env wired) X L) y' (and_then ! (get ! refl) (and_then ! (get ! refl) (and_then ! (get ! refl) (and_then ! (get ! refl) (and_then ! (get ! refl) (no_more !)))))) (λ w.
    use1 𝓛 (later (some (λ (r : Answer.Denot). (raw (alive 𝓛 (movers.signature X) κs z.0.1) ⊛ ‵ (Answer.own_val r (w ∷ []))) ⊛ some (λ (ls : Lasts (movers.ended X) κs y'.0.3). ‵ (lasts (movers.ended X) κs y'.0.3 ls) ⊛ ‵ (Called r))))) (id⊢ 𝓤 (k'.post y' w)) $
    await ! tt $ pick ! (λ told. split ! $ move ! (1 ∷ []) $ pick ! (λ _. split ! $ drop ! $ move ! (1 ∷ []) $ split ! $ move ! (1 ∷ 2 ∷ []) $
    use2 𝓛 (some (λ (f : Bool × (ℕ × ℕ)). given (w ≡ answer_val f.0 f.1.0 f.1.1) (‵ (Called (result_of f.0 f.1.0 f.1.1))))) (by_flag 𝓛 Called (fst∗ 𝓤 (never 𝓤) (sem 𝓛 (fsep (room_for (array_of (param 1 X) (new - len)) (null_ptr +ₚ len * s)) (piece_token at_ (array_of (param 1 X) new) null_ptr)))) w told) $ pick ! (λ f. learn ! (λ e'.
    let typed : T (has_ty (layout Answer) w) × WT w = subst (λ (u : Val). T (has_ty (layout Answer) u) × WT u) (sym e') (Answer-typed f.0 f.1.0 f.1.1) in let res : Answer.Denot = result_of f.0 f.1.0 f.1.1 in
    lands_last ! refl typed $ exec ! 𝓣.C 𝓣.Λ Ev (after 1 (otherwise (head (after 3 fn.body)))) Then $ sets_last ! (of_opd ! (get ! refl)) refl typed $
    exec ! 𝓣.C 𝓣.Λ Ev (after 4 fn.body) (at_ret Ev Post) $ sets ! (of_opd ! (get ! refl)) refl typed $ returns ! (look_at ! 0 refl) $ free_all ! refl $
    rewrite ! 0 (λ (q : Ptr). ‵ (resized_if_ok (piece_token at_) (param 1 X) q len old new z.1 res)) (sym lies) refl $
    use0 𝓛 (raw (fact 𝓤 (InPlace res))) (fact_i 𝓤 (InPlace res) (emp 𝓤) (λ (one : AreOfOnePiece (old * s) (new * s)). absurd (subst (λ (y : Bool). T (not y)) (no one) fails))) $ join ! $
    use0 𝓛 (‵ (Answer.own_val res (answer_val f.0 f.1.0 f.1.1 ∷ []))) (result_own 𝓛 f.0 f.1.0 f.1.1) $ rewrite ! 0 (λ (u : Val). ‵ (Answer.own_val res (u ∷ []))) (sym e') refl $
    nothing ! $ nothing ! $ fjoin ! $ nothing ! $ fjoin ! $ nothing ! $ fjoin ! $ nothing ! $ fjoin ! $ nothing ! $ fjoin ! $ keep ! (3 ∷ 0 ∷ 1 ∷ 2 ∷ []) $
    by ! (leaves 𝓛 E₀ hs c z w res (tt, (tt, (tt, (tt, (tt, tt))))) (tt, (tt, (tt, (tt, (tt, tt))))))))))))))))))))))))
