-- A run of laid words is lent as a slice.
use Rattle.plain_words.proofs.Names.{◌≡◌, ℕ, ◌+◌, ◌-◌, ◌*◌, ◌^◌, ◌<◌, ◌≤◌, List, [], ◌∷◌, length, sym, refl, ap, ◌∙◌, subst, arith, w64, named, Val, vint, vptr, SProp, emp, ent, Lft, ftrue, flft, ‵, raw, ◌⊛◌, at_ret, ◌$◌, ◌∵◌, !, qed, by, move, keep, drop, split, join, fsplit, fjoin, fpick, suffices, use0, use1, feq_i, flt_i, stop, fld, lit, of_opd, bin, no_more, and_then, first, blocks, exec, returns, enter, alloc_all, pass_all, free_all, look_at, get, get_in, sets, env, sub, whole, agg, tables, yes, RattleType, owns, types_at, plain, Ptr, block_ptr, block_of, count_of, at_block, nothing, heard, Stays, stay_dropped, walk_of, Goes-dropped, fact, fact_i, id⊢, RefOf, u64, usize, shr_vals, shr_Tells, uint_vals, uint_Tells, unhide, WpFn, proved, leaves, tail, sets_last}
use Rattle.plain_words.proofs.Made.{start_val, start_told, start_good}
use Rattle.plain_words.specs.contracts.plain.PlainWords as plain_words
use Rattle.plain_words.specs.contracts.plain.PlainWords.slice.{ended, clauses}
use Rattle.plain_words.specs.contracts.plain.PlainWords.slice.Key.{name as #self}
use Rattle.plain_words.proofs.plain.PlainWords.slice.Statement.{statement}
use Rattle.plain_words.proofs.plain.PlainWords.slice.Code as code
use Rattle.std.proofs.lemmas.List.{length-map}
use denote.Opens.{hide}
use denote.Slice.{slice_val, elements_shared}
use Rattle.plain_words.specs.Places.{Place, laid, laids, run, IsLaidRun}
use Rattle.plain_words.specs.contracts.plain.Start as start
use Rattle.plain_words.proofs.Rows.{length-run, run_seen}

pub slice_spec : {M : Type 1} → statement M
slice_spec 𝓤 𝓛 𝓜 𝓡 wired =
    let H = 𝓛.H in let 𝓣 = tables 𝓤 H 𝓜 𝓡 𝓡.env in let Pw : RattleType = plain_words.the_row in let St : RattleType = start.the_row in let c = clauses 𝓛 𝓜.mem 𝓡.returns in let fn = code.function in
    let self = RefOf (0 ∷ []) tt (plain (λ _. Pw)) (λ _. tt) in let there = plain (λ _. St) in let count = plain (λ _. usize) in
    let hs : Stays ended.signature.params ended.kept = (stay_dropped self yes, (stay_dropped there yes, (stay_dropped count yes, (stay_dropped count yes, tt)))) in
    proved 𝓛 ended hs c 𝓜 𝓡 (Goes-dropped 𝓛 1 self yes (λ κs x f. refl), (Goes-dropped 𝓛 1 there yes (λ κs x f. refl), (Goes-dropped 𝓛 1 count yes (λ κs x f. refl), (Goes-dropped 𝓛 1 count yes (λ κs x f. refl), tt)))) #self fn (code.unfolded 𝓤 H 𝓜 𝓡 wired)
    (λ κs. (shr_vals, ((λ x. start_val x.at ∷ []), (uint_vals w64, (uint_vals w64, tt))))) (λ κs. (shr_Tells (named 0) κs.0 Pw, (start_told, (uint_Tells w64, (uint_Tells w64, tt))))) (λ κs qs bounds a gh are.
    let κ : Lft = κs.0 in let rb : ℕ = a.0.ref_ptr.0 in let ro : ℕ = a.0.ref_ptr.1 in let w : Pw.Denot = a.0.now in let u : Ptr = a.1.0.at in let i : ℕ = a.1.1.0 in let n : ℕ = a.1.1.1.0 in
    let p : Ptr = w.at in let k : ℕ = w.first in let ps : List Place = w.places in let j : ℕ = i - k in let Asked : Type 0 = (u ≡ p) × (k ≤ i) × IsLaidRun ps j n in
    let y : (walk_of 𝓛 ended hs c).Ghost = ((κs, qs, bounds, a, (vptr rb ro ∷ [], (start_val u ∷ [], (vint w64 i ∷ [], (vint w64 n ∷ [], tt))))), gh) in let Post : Val → SProp 𝓤 = (walk_of 𝓛 ended hs c).post y in
    qed 𝓛 (((‵ (flft κ qs.0) ⊛ ‵ ftrue) ⊛ ‵ (owns (types_at ended.signature.params κs) a y.0.4)) ∷ raw (fact 𝓤 Asked) ∷ []) ∵
    move ! (1 ∷ []) $ heard ! Asked (λ asked. split ! $ split ! $ move ! (2 ∷ []) $ fsplit ! $ fsplit ! $ keep ! (1 ∷ 3 ∷ 4 ∷ []) $ unhide ! $ fsplit ! $ drop ! $ fsplit ! $ fpick ! (λ lies. drop ! $
    -- [what is lent of the row; the token; no other token]
    let ns : List ℕ = asked.2.1.0 in let is : run ps j n ≡ laids ns = asked.2.1.1 in let within : j + n ≤ length ps = asked.2.0 in let behind : k ≤ i = asked.1 in let room : (k + length ps) * 8 < 2 ^ 63 = lies.1 in
    let long : length ns ≡ n = sym (length-map ns laid) ∙ ap length (sym is) ∙ length-run ps j n within in
    let b : ℕ = block_of p in let f : ℕ = count_of p in let e : ℕ = i * 8 + f in let small : i * 8 < 2 ^ 64 = omega arith in let far : (j + k) * 8 + f ≡ e = omega arith in let le : j ≤ length ps = omega arith in
    let few : length ns < 2 ^ 64 = omega arith in let fits : length ns * 8 < 2 ^ 63 = omega arith in let Told : Type 0 = run ps j n ≡ laids ns in
    let us : Ptr → List Val = λ x. vptr rb ro ∷ start_val x ∷ vint w64 i ∷ vint w64 n ∷ [] in let Run : List Val → SProp 𝓤 = λ ws. WpFn 𝓤 H 𝓣.C 𝓣.Λ fn ws Post in
    let p' : Ptr = block_ptr b (count_of p) in let where_ : u ≡ p' = asked.0 ∙ at_block p lies.0 in
    suffices ! (Run (us p')) (subst (λ (x : Ptr). ent 𝓤 (Run (us p')) (Run (us x))) (sym where_) (id⊢ 𝓤 (Run (us p')))) $
    enter ! 𝓣.C 𝓣.Λ fn (us p') Post $ alloc_all ! (λ l. pass_all ! refl ((tt, tt), (start_good p', ((tt, record { fits = are.1.1.0.1 }), ((tt, record { fits = are.1.1.1.0.1 }), tt)))) $ let Ev = env fn.locals l in first ! $ blocks ! $
    sets ! (bin ! (get ! refl) (lit ! tt) (record { fits = small })) refl (tt, record { fits = small }) $
    sets ! (bin ! (get_in ! (fld ! refl (stop !)) (sub ! 0 refl (whole !))) (get ! refl) tt) refl (tt, tt) $
    use1 𝓛 (‵ (elements_shared u64 ns b e κ)) (run_seen 𝓛 b f κ ps j n ns k e le is far) $ hide ! $
    sets_last ! (agg ! (and_then ! (get ! refl) (and_then ! (get ! refl) (no_more !)))) refl (tt, (tt, (record { fits = are.1.1.1.0.1 }, tt))) $
    exec ! 𝓣.C 𝓣.Λ Ev (tail fn.body) (at_ret Ev Post) $ sets ! (of_opd ! (get ! refl)) refl (tt, (tt, (record { fits = are.1.1.1.0.1 }, tt))) $
    flt_i ! (length ns * 8) (2 ^ 63) fits $ flt_i ! (length ns) (2 ^ 64) few $ fjoin ! $ feq_i ! (List Val) (slice_val (b, e) n ∷ []) (slice_val (b, e) (length ns) ∷ []) (ap (λ (m : ℕ). slice_val (b, e) m ∷ []) (sym long)) $ fjoin ! $ fjoin ! $
    use0 𝓛 (raw (fact 𝓤 Told)) (fact_i 𝓤 Told (emp 𝓤) is) $ nothing ! $ nothing ! $ fjoin ! $ nothing ! $ fjoin ! $ nothing ! $ fjoin ! $ nothing ! $ fjoin ! $ move ! (3 ∷ 4 ∷ []) $ join ! $
    returns ! (look_at ! 0 refl) $ free_all ! refl $ keep ! (0 ∷ 1 ∷ 3 ∷ 2 ∷ []) $ by ! (leaves 𝓛 ended hs c y (slice_val (b, e) n) (record { ref_ptr = (b, e); now = ns }) (tt, (tt, (tt, (tt, tt)))) (tt, (tt, (tt, (tt, tt)))))))))
