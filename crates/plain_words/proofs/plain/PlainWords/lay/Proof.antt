-- A word is laid, at its place in the row.
use Rattle.plain_words.proofs.Names.{◌≡◌, ℕ, ◌+◌, ◌-◌, ◌*◌, ◌^◌, ◌<◌, ◌≤◌, List, [], ◌∷◌, length, sym, refl, ◌∙◌, subst, arith, w64, named, Val, vunit, vint, vptr, SProp, emp, ftrue, flft, sem, ‵, raw, ◌⊛◌, at_ret, ◌$◌, ◌∵◌, !, qed, by, move, keep, drop, split, join, fsplit, fsplit3, fjoin, fjoin3, fpick, fpack, use0, use1, use2, rewrite, feq_i, stop, fld, lit, of_opd, unit_lit, bin, first, blocks, exec, returns, enter, alloc_all, pass_all, free_all, look_at, get, get_in, through, sets, env, sub, whole, tables, yes, RattleType, owns, types_at, plain, Ptr, block_ptr, block_of, count_of, at_block, nothing, opens, closes, heard, Stays, stay_dropped, stay_ref, walk_of, Goes-dropped, Goes-ref, fact, fact_i, u64, usize, mut_vals, mut_Tells, uint_vals, uint_Tells, proved, leaves, tail, all, all_e, apply∗, full_share, fat, froom, init, assigns_last, take_at, give_at}
use Rattle.plain_words.proofs.Made.{start_val, start_told, start_good}
use Rattle.plain_words.specs.contracts.plain.PlainWords as plain_words
use Rattle.plain_words.specs.contracts.plain.PlainWords.lay.{ended, clauses}
use Rattle.plain_words.specs.contracts.plain.PlainWords.lay.Key.{name as #self}
use Rattle.plain_words.proofs.plain.PlainWords.lay.Statement.{statement}
use Rattle.plain_words.proofs.plain.PlainWords.lay.Code as code
use Rattle.std.proofs.Common.{get_or, set, length-set}
use Rattle.std.specs.Prelude.{None}
use mir.Syntax.{ty_int}
use denote.Param.{layout}
use Rattle.core.proofs.tally.Steps.{word_in}
use Rattle.plain_words.specs.Places.{Place, laid, place_at, IsHere}
use Rattle.plain_words.specs.Owned.{Lies, place, row}
use Rattle.plain_words.specs.contracts.plain.Start as start
use Rattle.plain_words.proofs.Rows.{Reset, one_of, roomy}

pub lay_spec : {M : Type 1} → statement M
lay_spec 𝓤 𝓛 𝓜 𝓡 wired =
    let H = 𝓛.H in let 𝓣 = tables 𝓤 H 𝓜 𝓡 𝓡.env in let Pw : RattleType = plain_words.the_row in let St : RattleType = start.the_row in let c = clauses 𝓛 𝓜.mem 𝓡.returns in let fn = code.function in let one = plain (λ _. Pw) in
    let hs : Stays ended.signature.params ended.kept = (stay_ref (0 ∷ []) tt one, (stay_dropped (plain (λ _. St)) yes, (stay_dropped (plain (λ _. usize)) yes, (stay_dropped (plain (λ _. u64)) yes, tt)))) in
    proved 𝓛 ended hs c 𝓜 𝓡 (Goes-ref 𝓛 1 0 tt one, (Goes-dropped 𝓛 1 (plain (λ _. St)) yes (λ κs x f. refl), (Goes-dropped 𝓛 1 (plain (λ _. usize)) yes (λ κs x f. refl), (Goes-dropped 𝓛 1 (plain (λ _. u64)) yes (λ κs x f. refl), tt)))) #self fn (code.unfolded 𝓤 H 𝓜 𝓡 wired)
    (λ κs. (mut_vals, ((λ x. start_val x.at ∷ []), (uint_vals w64, (uint_vals w64, tt))))) (λ κs. (mut_Tells (named 0) κs.0 Pw, (start_told, (uint_Tells w64, (uint_Tells w64, tt))))) (λ κs qs bounds a gh are.
    let rb : ℕ = a.0.ref_ptr.0 in let ro : ℕ = a.0.ref_ptr.1 in let w : Pw.Denot = a.0.now in let u : Ptr = a.1.0.at in let i : ℕ = a.1.1.0 in let n : ℕ = a.1.1.1.0 in
    let p : Ptr = w.at in let k : ℕ = w.first in let ps : List Place = w.places in let j : ℕ = i - k in let after : List Place = set ps j (laid n) in
    let Asked : Type 0 = (u ≡ p) × (k ≤ i) × (i < k + length ps) × IsHere (place_at ps j) in
    let y : (walk_of 𝓛 ended hs c).Ghost = ((κs, qs, bounds, a, (vptr rb ro ∷ [], (start_val u ∷ [], (vint w64 i ∷ [], (vint w64 n ∷ [], tt))))), gh) in let Post : Val → SProp 𝓤 = (walk_of 𝓛 ended hs c).post y in
    let w' : Pw.Denot = record { mark = w.mark; at = p; first = k; places = after } in let Told : Type 0 = (p ≡ p) × (k ≡ k) × (after ≡ after) in
    qed 𝓛 (((‵ (flft κs.0 qs.0) ⊛ ‵ ftrue) ⊛ ‵ (owns (types_at ended.signature.params κs) a y.0.4)) ∷ raw (fact 𝓤 Asked) ∷ []) ∵
    move ! (1 ∷ []) $ heard ! Asked (λ asked. split ! $ split ! $ move ! (2 ∷ []) $ fsplit ! $ fsplit3 ! $ keep ! (1 ∷ 2 ∷ 4 ∷ 5 ∷ []) $
    enter ! 𝓣.C 𝓣.Λ fn (vptr rb ro ∷ start_val u ∷ vint w64 i ∷ vint w64 n ∷ []) Post $ alloc_all ! (λ l. pass_all ! refl ((tt, tt), (start_good u, ((tt, record { fits = are.1.1.0.1 }), ((tt, record { fits = are.1.1.1.0.1 }), tt)))) $ let Ev = env fn.locals l in
    opens ! tt Pw rb ro (λ ts. move ! (1 ∷ []) $ fsplit ! $ move ! (1 ∷ []) $ fsplit ! $ fpick ! (λ lies. drop ! $
    -- [the row; the token; its cell; the open borrow; obs; auth; no other token]
    let b : ℕ = block_of p in let f : ℕ = count_of p in let e : ℕ = i * 8 + f in let there : u ≡ block_ptr b (count_of p) = asked.0 ∙ at_block p lies.0 in
    let room : (k + length ps) * 8 < 2 ^ 63 = lies.1 in let before : i < k + length ps = asked.2 in let small : i * 8 < 2 ^ 64 = omega arith in let inside : j < length ps = omega (arith, asked.1, asked.2) in let far : e ≡ (j + k) * 8 + f = omega (arith, asked.1) in
    take_at ! 2 $ rewrite ! 0 (λ (x : Ptr). ‵ (fat full_share (layout St) (l 2) 0 (start_val x))) there refl $ give_at ! 2 $ first ! $ blocks ! $
    sets ! (bin ! (get ! refl) (lit ! tt) (record { fits = small })) refl (tt, record { fits = small }) $
    sets ! (bin ! (get_in ! (fld ! refl (stop !)) (sub ! 0 refl (whole !))) (get ! refl) tt) refl (tt, tt) $
    use1 𝓛 (‵ (place b e (get_or ps j None)) ⊛ raw (all 𝓤 (Reset 𝓛 b f k e ps j))) (one_of 𝓛 b f ps k e j inside far asked.3) $ split ! $ use1 𝓛 (‵ (froom (ty_int w64) b e)) (roomy 𝓛 b e (get_or ps j None) asked.3) $
    assigns_last ! (of_opd ! (get ! refl)) (through ! refl (stop !)) (init ! 0 refl (tt, record { fits = are.1.1.1.0.1 })) $
    exec ! 𝓣.C 𝓣.Λ Ev (tail fn.body) (at_ret Ev Post) $ sets ! (of_opd ! (unit_lit !)) refl (tt, tt) $
    use1 𝓛 (‵ (place b e (laid n))) (word_in 𝓛 b e n) $ move ! (1 ∷ []) $ use1 𝓛 (raw (Reset 𝓛 b f k e ps j (laid n))) (all_e 𝓤 (Reset 𝓛 b f k e ps j) (laid n)) $ move ! (1 ∷ 0 ∷ []) $
    use2 𝓛 (‵ (row b f k after)) (apply∗ 𝓤 (sem 𝓛 (place b e (laid n))) (sem 𝓛 (row b f k after))) $ nothing ! $ fpack ! (Lies p (k + length after)) (λ _. ftrue) (lies.0, subst (λ (m : ℕ). (k + m) * 8 < 2 ^ 63) (sym (length-set ps j (laid n))) room) $ fjoin ! $
    move ! (1 ∷ 0 ∷ []) $ fjoin ! $ move ! (1 ∷ 0 ∷ []) $ closes ! tt Pw w' ts rb ro $ feq_i ! (List Val) (vptr rb ro ∷ []) (vptr rb ro ∷ []) refl $ fjoin3 ! $
    nothing ! $ nothing ! $ fjoin ! $ nothing ! $ fjoin ! $ nothing ! $ fjoin ! $ move ! (1 ∷ 0 ∷ []) $ fjoin ! $ move ! (1 ∷ 2 ∷ []) $ join ! $
    use0 𝓛 (raw (fact 𝓤 Told)) (fact_i 𝓤 Told (emp 𝓤) (refl, refl, refl)) $ feq_i ! (List Val) (vunit ∷ []) (vunit ∷ []) refl $
    returns ! (look_at ! 0 refl) $ free_all ! refl $ keep ! (2 ∷ 3 ∷ 0 ∷ 1 ∷ []) $ by ! (leaves 𝓛 ended hs c y vunit tt (w', (tt, (tt, (tt, tt)))) (tt, (tt, (tt, (tt, tt))))))))))
