-- A block is cut into its first word, the others, and the right to free it. Assumes `Logic`.
use Rattle.plain_words.proofs.Names.{◌≡◌, ℕ, ◌+◌, ◌-◌, ◌*◌, ◌^◌, ◌<◌, List, [], ◌∷◌, refl, arith, w64, named, Val, vint, vptr, vstruct, vcons, vnil, SProp, emp, ent, Lft, ftrue, flft, sem, ‵, raw, ◌⊛◌, later, at_ret, ◌$◌, ◌∵◌, !, qed, by, move, keep, split, split3, join, fsplit, fjoin, fpack, await, use0, use1, use2, feq_i, stop, fld, lit, of_opd, bin, no_more, and_then, first, blocks, exec, returns, enter, alloc_all, pass_all, free_all, look_at, get, get_in, sets, env, sub, whole, agg, tables, yes, RattleType, owns, Valss, types_at, plain, Ptr, block_ptr, InBlock, nothing, heard, Stays, stay_dropped, walk_of, Goes-dropped, fact, fact_i, RefOf, u64, usize, shr_vals, shr_Tells, uint_vals, uint_Tells, Tuple, proved, leaves, sep, done, froom, group, sets_last, RawPtr}
use Rattle.plain_words.proofs.Names.{a_type, dcons, dnil, inst_fn, param, bounded, any_q, Body, Env}
use Rattle.plain_words.proofs.Made.{token_val, Token, token_made, start_val, start_made, start_good}
use lib.Dec.{lit<}
use base.Fml.{Incl-trans}
use mir.Syntax.{Ty, ty_int}
use prog.Capped.{capped_is}
use contract.BorrowLft.{◌⊑◌}
use types.Logic.{Logic}
use denote.Triple.Table.{framed}
use Rattle.plain_words.specs.Places.{blanks}
use Rattle.plain_words.specs.Owned.{pairs_up, plain_owns, pairs_ty}
use Rattle.plain_words.specs.contracts.plain.Start as start
use Rattle.plain_words.specs.contracts.plain.PlainWords as plain_words
use Rattle.plain_words.specs.contracts.block.Deed as deed
use Rattle.std.specs.Ptr.{ptr_add}
use Rattle.std.proofs.Common.{true, false}
use seplogic.Ra.Ura.{Ura}
use prog.Wp.{Wp, after_seq, at_return}
use types.Kit.{Post as After}
use types.Match.{live, vrt, in_variant}
use types.Run.{switches_on}
use types.ByLocal.{get_tag, lands_as}
use denote.Laws.{Is}
use denote.Param.{layout}
use denote.Steps.{owned}
use denote.Struct.Struct.{Struct, Struct-Makes, within}
use denote.Struct.Declared as declared
use denote.Struct.Tuple.{tuple_type}
use denote.Triple.Call.{calls_at}
use Rattle.std.specs.Prelude.{IfOk, Ok, Err}
use Rattle.core.specs.contracts.result.Result as outcome
use Rattle.core.specs.contracts.alloc.AllocError as refusal
use Rattle.core.proofs.alloc.Calls.{Al, Answer-typed, Takes, at_takes, Answered, Takes-goes, Takes-gives, answers}
use Rattle.std_alloc.proofs.VecSteps.Shapes.{after, head, arm_body}
use Rattle.std_alloc.proofs.ResultValues.{ok_of, err_of}
use Rattle.std_alloc.proofs.RcSteps.{Good, first_Good}
use Rattle.plain_words.proofs.Blocks.{cut_block}
use Rattle.plain_words.specs.contracts.block.allocate.{ended, clauses}
use Rattle.plain_words.specs.contracts.block.allocate.Key.{name as #self}
use Rattle.plain_words.proofs.block.allocate.Statement.{statement}
use Rattle.plain_words.proofs.block.allocate.Code as code

abbrev four_val : Val → Val → Val → Val → Val
four_val u v w x = vstruct (vcons u (vcons v (vcons w (vcons x vnil))))

four_of : {M : Type 1} {𝓤 : Ura M} (𝓛 : Logic 𝓤) (R S T' U : RattleType) (x : R.Denot) (y : S.Denot) (z : T'.Denot) (t : U.Denot) (u v w v' : Val)
    → ent 𝓤 (sep 𝓤 (sem 𝓛 (R.own_val x (u ∷ []))) (sep 𝓤 (sem 𝓛 (S.own_val y (v ∷ []))) (sep 𝓤 (sem 𝓛 (T'.own_val z (w ∷ []))) (sem 𝓛 (U.own_val t (v' ∷ [])))))) (sem 𝓛 ((Tuple (R ∷ S ∷ T' ∷ U ∷ [])).own_val (x, y, z, t) (four_val u v w v' ∷ [])))
four_of 𝓛 R S T' U x y z t u v w v' = let all_ : Val = four_val u v w v' in
    qed 𝓛 (‵ (R.own_val x (u ∷ [])) ∷ ‵ (S.own_val y (v ∷ [])) ∷ ‵ (T'.own_val z (w ∷ [])) ∷ ‵ (U.own_val t (v' ∷ [])) ∷ []) ∵ nothing ! $ move ! (4 ∷ 0 ∷ []) $ fjoin ! $ move ! (3 ∷ 0 ∷ []) $ fjoin ! $ move ! (2 ∷ 0 ∷ []) $ fjoin ! $ move ! (1 ∷ 0 ∷ []) $ fjoin ! $
    feq_i ! (List Val) (all_ ∷ []) (all_ ∷ []) refl $ fjoin ! $ fpack ! (Valss (R ∷ S ∷ T' ∷ U ∷ [])) (within (declared.shape (tuple_type (R ∷ S ∷ T' ∷ U ∷ []))) (x, (y, (z, (t, tt)))) (all_ ∷ [])) (u ∷ [], (v ∷ [], (w ∷ [], (v' ∷ [], tt)))) $ done !

pub allocate_spec : {M : Type 1} → statement M
allocate_spec 𝓤 𝓛 𝓜 𝓡 wired W LW g d dd met md =
    let H = 𝓛.H in let 𝓣 = tables 𝓤 H 𝓜 𝓡 𝓡.env in let Z : Al = record { row = W; laws = LW; g = g; d = d; drops = dd } in let A : RattleType = param 0 W in let En = ended W g d dd in let c = clauses W g d dd 𝓛 𝓜.mem 𝓡.returns in
    let St : RattleType = start.the_row in let Pw : RattleType = plain_words.the_row in let Dd : RattleType = deed.the_row A g in let Four : RattleType = Tuple (St ∷ St ∷ Pw ∷ Dd ∷ []) in let Out : RattleType = outcome.the_row Four refusal.the_row in
    let inst = bounded (a_type ∷ []) (W, tt) (dcons d (dcons dd dnil)) in let fn = inst_fn inst code.function in let self = RefOf (0 ∷ []) tt (plain (λ _. A)) (λ _. tt) in let count = plain (λ _. usize) in
    let hs : Stays En.signature.params En.kept = (stay_dropped self yes, (stay_dropped count yes, tt)) in let fm = framed 𝓤 H 𝓜 𝓣 in
    proved 𝓛 En hs c 𝓜 𝓡 (Goes-dropped 𝓛 2 self yes (λ κs x f. refl), (Goes-dropped 𝓛 2 count yes (λ κs x f. refl), tt)) (#self inst) fn (code.unfolded 𝓤 H 𝓜 𝓡 wired (W, tt) d dd)
    (λ κs. (shr_vals, (uint_vals w64, tt))) (λ κs. (shr_Tells (named 0) κs.0 A, (uint_Tells w64, tt))) (λ κs qs bounds a gh are.
    let κ : Lft = κs.0 in let q = qs.0 in let rp : ℕ × ℕ = a.0.ref_ptr in let h : W.Denot = a.0.now in let n : ℕ = a.1.0 in let τ : Ty = pairs_ty n in let Asked : Type 0 = (0 < n) × (n * 16 < 2 ^ 63) in
    let y : (walk_of 𝓛 En hs c).Ghost = ((κs, qs, bounds, a, (vptr rp.0 rp.1 ∷ [], (vint w64 n ∷ [], tt))), gh) in let Post : Val → SProp 𝓤 = (walk_of 𝓛 En hs c).post y in
    qed 𝓛 (((‵ (flft κ q) ⊛ ‵ (flft κs.1.0 qs.1.0) ⊛ ‵ ftrue) ⊛ ‵ (owns (types_at En.signature.params κs) a y.0.4)) ∷ raw (fact 𝓤 (κs.1.0 ⊑ W.lives)) ∷ raw (fact 𝓤 Asked) ∷ []) ∵
    move ! (1 ∷ []) $ heard ! (κs.1.0 ⊑ W.lives) (λ lives. move ! (1 ∷ []) $ heard ! Asked (λ asked. split ! $ split3 ! $ move ! (3 ∷ []) $ fsplit ! $ fsplit ! $ keep ! (1 ∷ 3 ∷ 4 ∷ 5 ∷ []) $
    -- [the allocator; its token; the other tokens]
    let small : n * 16 < 2 ^ 63 = asked.1 in let bytes : n * 16 < 2 ^ 64 = omega arith in
    enter ! 𝓣.C 𝓣.Λ fn (vptr rp.0 rp.1 ∷ vint w64 n ∷ []) Post $ alloc_all ! (λ l. pass_all ! refl ((tt, tt), ((tt, record { fits = are.1.0.1 }), tt)) $ let Ev : Env 𝓤 H = env fn.locals l in
    let both : Body = head (after 4 fn.body) in let Then : After 𝓤 H = any_q (after_seq 𝓤 H (Wp 𝓤 H 𝓣.C 𝓣.Λ Ev (after 5 fn.body) (at_return 𝓤 H Ev Post)) (at_return 𝓤 H Ev Post)) in
    let z : (Takes Z 𝓛 𝓜.mem 𝓡.returns).Ghost = at_takes Z 𝓛 𝓜.mem 𝓡.returns κ q rp h (n * 16) 16 τ in
    sets ! (of_opd ! (get ! refl)) refl (tt, tt) $ sets ! (of_opd ! (get ! refl)) refl (tt, record { fits = are.1.0.1 }) $ sets ! (bin ! (get ! refl) (lit ! tt) (record { fits = bytes })) refl (tt, record { fits = bytes }) $
    use2 𝓛 (raw ((Takes Z 𝓛 𝓜.mem 𝓡.returns).pre z)) (Takes-goes Z 𝓛 𝓜.mem 𝓡.returns κ q rp h (Incl-trans bounds.0 lives) (n * 16) 16 τ (capped_is (n * 16) bytes) (capped_is 16 (lit< tt)) bytes (lit< tt)) $
    calls_at ! fm (Takes Z 𝓛 𝓜.mem 𝓡.returns) (met.allocate dd) z (and_then ! (get ! refl) (and_then ! (get ! refl) (and_then ! (lit ! tt) (no_more !)))) (λ v.
    use1 𝓛 (later (raw (Answered Z 𝓛 𝓜.mem 𝓡.returns h τ v) ⊛ ‵ (flft κ q))) (Takes-gives Z 𝓛 𝓜.mem 𝓡.returns κ q rp h (n * 16) 16 τ v) $ await ! tt $ split ! $
    let Told : Out.Denot → Type 0 = λ r. IfOk r (λ t. (t.1.at ≡ ptr_add u64 1 t.0.at) × (t.2.at ≡ t.1.at) × (t.2.first ≡ 0) × (t.2.places ≡ blanks (n + n - 1)) × (t.3.block ≡ t.0.at) × (t.3.pairs ≡ n) × (t.3.alloc ≡ h)) in
    answers Z ! 𝓜.mem 𝓡.returns h τ v
    (λ b o e.
    let p : Ptr = block_ptr b o in let p' : Ptr = ptr_add u64 1 p in let m : ℕ = n + n - 1 in
    let s₀ : St.Denot = record { at = p } in let s₁ : St.Denot = record { at = p' } in let w : Pw.Denot = record { mark = record {}; at = p'; first = 0; places = blanks m } in let t : Dd.Denot = record { mark = record {}; block = p; pairs = n; alloc = h } in
    let made : Val = four_val (start_val p) (start_val p') token_val token_val in let typed : Good (layout Four) made = (tt, ((tt, tt), ((tt, tt), ((tt, tt), ((tt, tt), tt))))) in let ok = first_Good (layout Four) made typed in
    let r : Out.Denot = Ok (s₀, s₁, w, t) in
    lands_as ! e refl (Answer-typed true b o) $ first ! $ switches_on ! (get_tag ! (vrt ! refl (fld ! refl (stop !))) (whole !)) $ exec ! 𝓣.C 𝓣.Λ Ev (arm_body 0 both) Then $
    sets ! (of_opd ! (get_in ! (vrt ! refl (fld ! refl (stop !))) (in_variant ! 0 0 refl refl (whole !)))) refl (tt, tt) $ sets ! (of_opd ! (get ! refl)) refl (tt, tt) $ sets ! (of_opd ! (get ! refl)) refl (tt, tt) $
    sets ! (agg ! (and_then ! (get ! refl) (no_more !))) refl (start_good p) $ first ! $ blocks ! $ sets ! (of_opd ! (get_in ! (fld ! refl (stop !)) (sub ! 0 refl (whole !)))) refl (tt, tt) $
    sets_last ! (bin ! (get ! refl) (lit ! tt) tt) refl (tt, tt) $ exec ! 𝓣.C 𝓣.Λ Ev (after 5 (arm_body 0 both)) Then $
    sets ! (of_opd ! (get ! refl)) refl (tt, tt) $ sets ! (agg ! (and_then ! (get ! refl) (no_more !))) refl (start_good p') $ sets ! (of_opd ! (get ! refl)) refl (start_good p) $ sets ! (of_opd ! (get ! refl)) refl (start_good p') $
    sets ! (agg ! (no_more !)) refl (tt, tt) $ sets ! (agg ! (and_then ! (get ! refl) (no_more !))) refl (tt, (tt, tt)) $ sets ! (agg ! (no_more !)) refl (tt, tt) $ sets ! (agg ! (and_then ! (get ! refl) (no_more !))) refl (tt, (tt, tt)) $
    sets ! (agg ! (and_then ! (get ! refl) (and_then ! (get ! refl) (and_then ! (get ! refl) (and_then ! (get ! refl) (no_more !)))))) refl typed $
    sets_last ! (agg ! (and_then ! (lit ! tt) (and_then ! (get ! refl) (no_more !)))) refl ok $ exec ! 𝓣.C 𝓣.Λ Ev (after 5 fn.body) (at_ret Ev Post) $ sets ! (of_opd ! (get ! refl)) refl ok $
    -- [the block; the right to free it; the tokens]
    use1 𝓛 (‵ (froom (ty_int w64) b o) ⊛ (‵ (pairs_up b o) ⊛ ‵ (plain_owns p' 0 (blanks m)))) (cut_block 𝓛 b o n asked.0 small) $ split3 ! $ move ! (1 ∷ 3 ∷ []) $ fjoin ! $ move ! (1 ∷ 0 ∷ []) $ fjoin ! $
    nothing ! $ fpack ! (InBlock p) (λ _. ftrue) tt $ fjoin ! $ use0 𝓛 (‵ ((Token RawPtr).own_val (record {}, tt) (token_val ∷ []))) (token_made RawPtr 𝓛) $ fjoin ! $ move ! (1 ∷ []) $
    use0 𝓛 (‵ ((Token RawPtr).own_val (record {}, tt) (token_val ∷ []))) (token_made RawPtr 𝓛) $ fjoin ! $ use0 𝓛 (‵ (St.own_val s₁ (start_val p' ∷ []))) (start_made 𝓛 p') $ use0 𝓛 (‵ (St.own_val s₀ (start_val p ∷ []))) (start_made 𝓛 p) $
    group ! 4 $ use1 𝓛 (‵ (Four.own_val (s₀, s₁, w, t) (made ∷ []))) (four_of 𝓛 St St Pw Dd s₀ s₁ w t (start_val p) (start_val p') token_val token_val) $
    use1 𝓛 (‵ (Out.own_val r (live 0 (vcons made vnil) ∷ []))) (ok_of 𝓛 Four refusal.the_row (s₀, s₁, w, t) made) $
    use0 𝓛 (raw (fact 𝓤 (Told r))) (fact_i 𝓤 (Told r) (emp 𝓤) (refl, refl, refl, refl, refl, refl, refl)) $ nothing ! $ nothing ! $ fjoin ! $ nothing ! $ fjoin ! $ move ! (4 ∷ 5 ∷ []) $ join ! $ move ! (4 ∷ 0 ∷ []) $ join ! $
    returns ! (look_at ! 0 refl) $ free_all ! refl $ keep ! (0 ∷ 1 ∷ 3 ∷ 2 ∷ []) $ by ! (leaves 𝓛 En hs c y (live 0 (vcons made vnil)) r (tt, (tt, tt)) (tt, (tt, tt))))
    (λ e.
    let Refusal : RattleType = Struct (declared.shape refusal.the_type) in let none : Val = live 1 (vcons (vstruct vnil) vnil) in let r : Out.Denot = Err (record {}) in
    lands_as ! e refl (Answer-typed false 0 0) $ first ! $ switches_on ! (get_tag ! (vrt ! refl (fld ! refl (stop !))) (whole !)) $ exec ! 𝓣.C 𝓣.Λ Ev (arm_body 1 both) Then $
    sets ! (of_opd ! (get_in ! (vrt ! refl (fld ! refl (stop !))) (in_variant ! 1 0 refl refl (whole !)))) refl (tt, tt) $ sets ! (of_opd ! (get ! refl)) refl (tt, tt) $
    sets_last ! (agg ! (and_then ! (lit ! tt) (and_then ! (get ! refl) (no_more !)))) refl (tt, (record { fits = lit< tt }, (tt, tt))) $
    exec ! 𝓣.C 𝓣.Λ Ev (after 5 fn.body) (at_ret Ev Post) $ sets ! (of_opd ! (get ! refl)) refl (tt, (record { fits = lit< tt }, (tt, tt))) $
    owned ! Refusal (Is Refusal) (Struct-Makes 𝓛 (declared.shape refusal.the_type) tt) tt (vstruct vnil ∷ []) (tt, (refl, tt)) $
    use1 𝓛 (‵ (Out.own_val r (none ∷ []))) (err_of 𝓛 Four refusal.the_row (record {}) (vstruct vnil)) $
    use0 𝓛 (raw (fact 𝓤 (Told r))) (fact_i 𝓤 (Told r) (emp 𝓤) tt) $ nothing ! $ nothing ! $ fjoin ! $ nothing ! $ fjoin ! $ move ! (4 ∷ 5 ∷ []) $ join ! $ move ! (4 ∷ 0 ∷ []) $ join ! $
    returns ! (look_at ! 0 refl) $ free_all ! refl $ keep ! (0 ∷ 1 ∷ 3 ∷ 2 ∷ []) $ by ! (leaves 𝓛 En hs c y none r (tt, (tt, tt)) (tt, (tt, tt)))))))))
