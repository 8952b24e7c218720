-- The words are glued to their first one, and the block goes back. Assumes `Logic`.
use Rattle.plain_words.proofs.Names.{◌≡◌, ℕ, ◌+◌, ◌*◌, ◌^◌, ◌<◌, List, [], ◌∷◌, length, sym, refl, ap, ◌∙◌, subst, arith, w64, named, Val, vunit, vint, vptr, SProp, ent, Lft, ftrue, flft, ‵, raw, ◌⊛◌, given, later, at_ret, ◌$◌, ◌∵◌, !, qed, by, move, keep, drop, split, split3, join, fsplit, fsplit3, fjoin, fpick, learn, await, suffices, use1, rewrite, feq_i, stop, fld, lit, of_opd, unit_lit, bin, no_more, and_then, first, blocks, exec, returns, enter, alloc_all, pass_all, free_all, look_at, get, get_in, sets, env, sub, whole, tables, yes, no, RattleType, owns, types_at, plain, Ptr, block_ptr, block_of, count_of, at_block, nothing, heard, Stays, stay_dropped, walk_of, Goes-dropped, fact, id⊢, RefOf, u64, usize, shr_vals, shr_Tells, uint_vals, uint_Tells, WpFn, proved, leaves, tail, froom, group, RawPtr}
use Rattle.plain_words.proofs.Names.{a_type, dcons, dnil, inst_fn, param, bounded, Env}
use Rattle.plain_words.proofs.Made.{token_val, token_told, start_val, start_told, start_good}
use lib.Dec.{T, lit<}
use base.Fml.{Incl-trans}
use mir.Syntax.{Ty, ty_unit}
use mir.Val.{has_ty, WT}
use prog.Capped.{capped_is}
use contract.BorrowLft.{◌⊑◌}
use denote.Triple.Table.{framed}
use Rattle.plain_words.specs.Places.{Place, AllHere}
use Rattle.plain_words.specs.Owned.{plain_owns, deed_owns, pairs_ty}
use Rattle.plain_words.specs.contracts.plain.Start as start
use Rattle.plain_words.specs.contracts.plain.PlainWords as plain_words
use Rattle.plain_words.specs.contracts.block.Deed as deed
use Rattle.std.specs.Ptr.{ptr_add}
use types.ByLocal.{lands_last}
use denote.Triple.Call.{calls_at_last}
use Rattle.core.proofs.alloc.Calls.{Al, token, Gives, at_gives, Gives-goes, Gives-Gives, Goes-blank}
use Rattle.plain_words.proofs.Blocks.{whole_block}
use Rattle.plain_words.specs.contracts.block.deallocate.{ended, clauses}
use Rattle.plain_words.specs.contracts.block.deallocate.Key.{name as #self}
use Rattle.plain_words.proofs.block.deallocate.Statement.{statement}
use Rattle.plain_words.proofs.block.deallocate.Code as code

pub deallocate_spec : {M : Type 1} → statement M
deallocate_spec 𝓤 𝓛 𝓜 𝓡 wired W LW g d dd met md =
    let H = 𝓛.H in let 𝓣 = tables 𝓤 H 𝓜 𝓡 𝓡.env in let Z : Al = record { row = W; laws = LW; g = g; d = d; drops = dd } in let A : RattleType = param 0 W in let En = ended W g d dd in let c = clauses W g d dd 𝓛 𝓜.mem 𝓡.returns in
    let St : RattleType = start.the_row in let Pw : RattleType = plain_words.the_row in let Dd : RattleType = deed.the_row A g in
    let inst = bounded (a_type ∷ []) (W, tt) (dcons d (dcons dd dnil)) in let fn = inst_fn inst code.function in let self = RefOf (0 ∷ []) tt (plain (λ _. A)) (λ _. tt) in let there = plain (λ _. St) in let count = plain (λ _. usize) in let words = plain (λ _. Pw) in let right = plain (λ _. Dd) in
    let hs : Stays En.signature.params En.kept = (stay_dropped self yes, (stay_dropped there yes, (stay_dropped count yes, (stay_dropped words yes, (stay_dropped right no, tt))))) in let fm = framed 𝓤 H 𝓜 𝓣 in
    proved 𝓛 En hs c 𝓜 𝓡 (Goes-dropped 𝓛 2 self yes (λ κs x f. refl), (Goes-dropped 𝓛 2 there yes (λ κs x f. refl), (Goes-dropped 𝓛 2 count yes (λ κs x f. refl), (Goes-dropped 𝓛 2 words yes (λ κs x f. refl), (Goes-blank 𝓛 2 right no (λ κs x f. tt), tt))))) (#self inst) fn (code.unfolded 𝓤 H 𝓜 𝓡 wired (W, tt) d dd)
    (λ κs. (shr_vals, ((λ x. start_val x.at ∷ []), (uint_vals w64, ((λ _. token_val ∷ []), ((λ _. token_val ∷ []), tt)))))) (λ κs. (shr_Tells (named 0) κs.0 A, (start_told, (uint_Tells w64, ((λ x vs so. token_told RawPtr vs so.0), ((λ x vs so. token_told RawPtr vs so.0), tt)))))) (λ κs qs bounds a gh are.
    let κ : Lft = κs.0 in let q = qs.0 in let rp : ℕ × ℕ = a.0.ref_ptr in let h : W.Denot = a.0.now in let p : Ptr = a.1.0.at in let n : ℕ = a.1.1.0 in let w : Pw.Denot = a.1.1.1.0 in let t : Dd.Denot = a.1.1.1.1.0 in let τ : Ty = pairs_ty n in let ps : List Place = w.places in
    let Words : Type 0 = (w.at ≡ ptr_add u64 1 p) × (w.first ≡ 0) × (length ps + 1 ≡ n + n) × AllHere ps in let Deeded : Type 0 = (t.block ≡ p) × (t.pairs ≡ n) × (t.alloc ≡ h) in
    let y : (walk_of 𝓛 En hs c).Ghost = ((κs, qs, bounds, a, (vptr rp.0 rp.1 ∷ [], (start_val p ∷ [], (vint w64 n ∷ [], (token_val ∷ [], (token_val ∷ [], tt)))))), gh) in let Post : Val → SProp 𝓤 = (walk_of 𝓛 En hs c).post y in
    qed 𝓛 (((‵ (flft κ q) ⊛ ‵ (flft κs.1.0 qs.1.0) ⊛ ‵ ftrue) ⊛ ‵ (owns (types_at En.signature.params κs) a y.0.4)) ∷ raw (fact 𝓤 (κs.1.0 ⊑ W.lives)) ∷ raw (fact 𝓤 Words) ∷ raw (fact 𝓤 Deeded) ∷ []) ∵
    move ! (1 ∷ []) $ heard ! (κs.1.0 ⊑ W.lives) (λ lives. move ! (1 ∷ []) $ heard ! Words (λ whole_. move ! (1 ∷ []) $ heard ! Deeded (λ deeded. split ! $ split3 ! $ move ! (3 ∷ []) $ fsplit ! $ fsplit ! $ move ! (2 ∷ []) $ fsplit3 ! $ move ! (2 ∷ []) $ fsplit ! $ fsplit ! $ move ! (2 ∷ []) $ fsplit ! $ fsplit ! $
    keep ! (1 ∷ 4 ∷ 8 ∷ 9 ∷ 10 ∷ 11 ∷ []) $ rewrite ! 0 (λ (x : W.Denot × Ptr × ℕ). ‵ (deed_owns (token Z x.0) x.1 x.2)) (λ i. (deeded.2 i, deeded.0 i, deeded.1 i)) refl $ fsplit ! $ fpick ! (λ in_block. drop ! $ fsplit3 ! $
    -- [the first word; the way from it to a pair; the right to free; the others; the allocator; its token; the other tokens]
    let b : ℕ = block_of p in let o : ℕ = count_of p in let p' : Ptr = block_ptr b o in let where_ : p ≡ p' = at_block p in_block in let words_at : Ptr = ptr_add u64 1 p' in let long : length ps + 1 ≡ n + n = whole_.2 in
    move ! (3 ∷ []) $ rewrite ! 0 (λ (x : Ptr × ℕ). ‵ (plain_owns x.0 x.1 ps)) (λ i. ((whole_.0 ∙ ap (ptr_add u64 1) where_) i, whole_.1 i)) refl $ fsplit ! $ fpick ! (λ lies. drop ! $ let room : (0 + length ps) * 8 < 2 ^ 63 = lies.1 in
    move ! (1 ∷ 2 ∷ 0 ∷ []) $ group ! 3 $ use1 𝓛 (‵ (froom τ b o)) (whole_block 𝓛 b o ps n long whole_.3) $ rewrite ! 1 (λ (x : Ptr). ‵ (token Z h τ x)) where_ refl $
    let bytes : n * 16 < 2 ^ 64 = omega arith in let us : Ptr → List Val = λ x. vptr rp.0 rp.1 ∷ start_val x ∷ vint w64 n ∷ token_val ∷ token_val ∷ [] in let Run : List Val → SProp 𝓤 = λ ws. WpFn 𝓤 H 𝓣.C 𝓣.Λ fn ws Post in
    suffices ! (Run (us p')) (subst (λ (x : Ptr). ent 𝓤 (Run (us p')) (Run (us x))) (sym where_) (id⊢ 𝓤 (Run (us p')))) $
    enter ! 𝓣.C 𝓣.Λ fn (us p') Post $ alloc_all ! (λ l. pass_all ! refl ((tt, tt), (start_good p', ((tt, record { fits = are.1.1.0.1 }), ((tt, (tt, tt)), ((tt, (tt, tt)), tt))))) $ let Ev : Env 𝓤 H = env fn.locals l in
    let z : (Gives Z 𝓛 𝓜.mem 𝓡.returns).Ghost = at_gives Z 𝓛 𝓜.mem 𝓡.returns κ q rp h b o (n * 16) 16 τ in first ! $ blocks ! $
    sets ! (of_opd ! (get_in ! (fld ! refl (stop !)) (sub ! 0 refl (whole !)))) refl (tt, tt) $ sets ! (bin ! (get ! refl) (lit ! tt) (record { fits = bytes })) refl (tt, record { fits = bytes }) $
    group ! 4 $ use1 𝓛 (raw ((Gives Z 𝓛 𝓜.mem 𝓡.returns).pre z)) (Gives-goes Z 𝓛 𝓜.mem 𝓡.returns κ q rp h (Incl-trans bounds.0 lives) b o (n * 16) 16 τ (capped_is (n * 16) bytes) (capped_is 16 (lit< tt)) bytes (lit< tt)) $
    calls_at_last ! fm (Gives Z 𝓛 𝓜.mem 𝓡.returns) (met.deallocate dd) z (and_then ! (get ! refl) (and_then ! (get ! refl) (and_then ! (get ! refl) (and_then ! (lit ! tt) (no_more !))))) (λ v.
    use1 𝓛 (later (given (v ≡ vunit) (‵ (flft κ q)))) (Gives-Gives Z 𝓛 𝓜.mem 𝓡.returns κ q rp h b o (n * 16) 16 τ v) $ await ! tt $ learn ! (λ ended_.
    lands_last ! refl (subst (λ (x : Val). T (has_ty ty_unit x) × WT x) (sym ended_) (tt, tt)) $ exec ! 𝓣.C 𝓣.Λ Ev (tail fn.body) (at_ret Ev Post) $ sets ! (of_opd ! (unit_lit !)) refl (tt, tt) $
    returns ! (look_at ! 0 refl) $ free_all ! refl $ move ! (1 ∷ 2 ∷ []) $ join ! $ move ! (1 ∷ 0 ∷ []) $ join ! $ nothing ! $ feq_i ! (List Val) (vunit ∷ []) (vunit ∷ []) refl $
    nothing ! $ nothing ! $ fjoin ! $ nothing ! $ fjoin ! $ nothing ! $ fjoin ! $ nothing ! $ fjoin ! $ nothing ! $ fjoin ! $ keep ! (3 ∷ 0 ∷ 1 ∷ 2 ∷ []) $
    by ! (leaves 𝓛 En hs c y vunit tt (tt, (tt, (tt, (tt, (tt, tt))))) (tt, (tt, (tt, (tt, (tt, tt)))))))))))))))
