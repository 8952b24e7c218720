-- `fetch_max` is one step on a word, and the seat goes with it.
use Rattle.core.specs.Prelude.{max}
use Rattle.atomic_region.proofs.Names.{◌≡◌, ℕ, ◌+◌, ◌*◌, ◌^◌, ◌<◌, List, [], ◌∷◌, sym, refl, ◌∙◌, subst, arith, w64, a_type, dcons, dnil, named, Val, vint, vptr, inst_fn, SProp, emp, ent, Lft, Fml, ftrue, fsep, flft, ‵, raw, ◌⊛◌, given, mean, at_ret, ◌$◌, ◌∵◌, !, qed, by, move, keep, drop, split, split3, join, fsplit, fsplit3, fjoin, fjoin3, fpick, learn, suffices, use0, use3, rewrite, feq_i, flt_i, stop, fld, lit, lit<, agg, of_opd, bin, no_more, and_then, first, blocks, exec, Calls-last, returns, enter, alloc_all, pass_all, free_all, look_at, get, get_in, sets, lands_last, env, sub, whole, tables, yes, RattleType, owns, types_at, plain, Ptr, block_ptr, block_of, count_of, at_block, nothing, opens, closes, param, bounded, Stays, stay_dropped, stay_ref, walk_of, Goes-dropped, Goes-ref, fact, fact_i, Coded, via, id⊢, RefOf, u64, usize, mut_vals, mut_Tells, shr_vals, shr_Tells, uint_vals, uint_Tells, unhide, shr_bor-open, obor_close, tokens_halve, WpFn, proved, leaves, fm, found, finds, seq_cst, raises, tail}
use Rattle.atomic_region.specs.Region.{Me, step, Allows}
use Rattle.atomic_region.specs.Owned.{RegionId, age, mine}
use Rattle.plain_words.specs.contracts.plain.Start as start
use Rattle.atomic_region.specs.contracts.shared.Shared as shared
use Rattle.atomic_region.specs.contracts.shared.Seat as seat
use Rattle.plain_words.proofs.Made.{start_val, start_told, start_good}
use Rattle.atomic_region.proofs.Moves as moves
use Rattle.atomic_region.specs.contracts.shared.Shared.fetch_max.{ended, clauses}
use Rattle.atomic_region.specs.contracts.shared.Shared.fetch_max.Key.{name as #self}
use Rattle.atomic_region.proofs.shared.Shared.fetch_max.Statement.{statement}
use Rattle.atomic_region.proofs.shared.Shared.fetch_max.Code as code

pub fetch_max_spec : {M : Type 1} → statement M
unfolding Rattle.atomic_region.specs.Owned.seal
fetch_max_spec 𝓤 𝓛 𝓜 𝓡 wired U Q P Mv _ _ _ _ g d g' d' _ _ =
    let H = 𝓛.H in let 𝓣 = tables 𝓤 H 𝓜 𝓡 𝓡.env in let W : RattleType = param 0 U in let X : RattleType = param 1 Q in let Y : RattleType = param 2 P in let cv : Coded U.Denot = W.coded in
    let Sh : RattleType = shared.the_row W X Y g in let Sr : RattleType = seat.the_row W in let St : RattleType = start.the_row in let En = ended U Q P Mv g d g' d' in let c = clauses U Q P Mv g d g' d' 𝓛 𝓜.mem 𝓡.returns in
    let inst = bounded (a_type ∷ a_type ∷ a_type ∷ a_type ∷ []) (U, (Q, (P, (Mv, tt)))) (dcons d (dcons d' dnil)) in let fn = inst_fn inst code.function in let self = RefOf (0 ∷ []) tt (plain (λ _. Sh)) (λ _. tt) in let sitter = plain (λ _. Sr) in
    let hs : Stays En.signature.params En.kept = (stay_dropped self yes, (stay_ref (1 ∷ []) tt sitter, (stay_dropped (plain (λ _. St)) yes, (stay_dropped (plain (λ _. usize)) yes, (stay_dropped (plain (λ _. u64)) yes, tt))))) in
    proved 𝓛 En hs c 𝓜 𝓡 (Goes-dropped 𝓛 6 self yes (λ κs x f. refl), (Goes-ref 𝓛 6 1 tt sitter, (Goes-dropped 𝓛 6 (plain (λ _. St)) yes (λ κs x f. refl), (Goes-dropped 𝓛 6 (plain (λ _. usize)) yes (λ κs x f. refl), (Goes-dropped 𝓛 6 (plain (λ _. u64)) yes (λ κs x f. refl), tt))))) (#self inst) fn (code.unfolded 𝓤 H 𝓜 𝓡 wired (U, (Q, (P, (Mv, tt)))) d d')
    (λ κs. (shr_vals, (mut_vals, ((λ x. start_val x.at ∷ []), (uint_vals w64, (uint_vals w64, tt)))))) (λ κs. (shr_Tells (named 0) κs.0 Sh, (mut_Tells (named 1) κs.1.0 Sr, (start_told, (uint_Tells w64, (uint_Tells w64, tt)))))) (λ κs qs bounds a gh are.
    let y : (walk_of 𝓛 En hs c).Ghost = ((κs, qs, bounds, a, (vptr a.0.ref_ptr.0 a.0.ref_ptr.1 ∷ [], (vptr a.1.0.ref_ptr.0 a.1.0.ref_ptr.1 ∷ [], (start_val a.1.1.0.at ∷ [], (vint w64 a.1.1.1.0 ∷ [], (vint w64 a.1.1.1.1.0 ∷ [], tt)))))), gh) in let Post : Val → SProp 𝓤 = (walk_of 𝓛 En hs c).post y in
    let κ : Lft = κs.0 in let t : Sh.Denot = a.0.now in let z : RegionId = t.id in let α : Lft = age z in let holds = g.holds t.key in
    let b' : ℕ = a.1.0.ref_ptr.0 in let o' : ℕ = a.1.0.ref_ptr.1 in let h : Sr.Denot = a.1.0.now in let id : ℕ = h.id in let v : Me U.Denot = h.me in let p : Ptr = a.1.1.0.at in let i : ℕ = a.1.1.1.0 in
    let k : ℕ = a.1.1.1.1.0 in let f : ℕ → ℕ = λ n. max n k in let then : ℕ → Me U.Denot → Type 0 = g'.then (step z.words i k 0) v in
    let others : Fml = fsep (flft κs.1.1.0 qs.1.1.0) (fsep (flft κs.1.1.1.0 qs.1.1.1.0) (fsep (flft κs.1.1.1.1.0 qs.1.1.1.1.0) (fsep (flft κs.1.1.1.1.1.0 qs.1.1.1.1.1.0) ftrue))) in
    qed 𝓛 (((‵ (flft κ qs.0) ⊛ ‵ (flft κs.1.0 qs.1.0) ⊛ ‵ others) ⊛ ‵ (owns (types_at En.signature.params κs) a y.0.4)) ∷ raw (fact 𝓤 _) ∷ raw (fact 𝓤 _) ∷ raw (fact 𝓤 _) ∷ raw (fact 𝓤 _) ∷ given ((h.region ≡ z) × (p ≡ z.at) × (i < z.words) × Allows holds z.words id v i f then) (‵ ftrue) ∷ []) ∵
    keep ! (5 ∷ 0 ∷ []) $ learn ! (λ asked. drop ! $ split ! $ split3 ! $ move ! (3 ∷ []) $ fsplit3 ! $ fsplit ! $ move ! (2 ∷ []) $ fsplit3 ! $ keep ! (4 ∷ 6 ∷ 1 ∷ 2 ∷ 7 ∷ 8 ∷ []) $ unhide ! $ fsplit ! $ drop ! $ fsplit ! $ move ! (1 ∷ []) $ fsplit ! $ fpick ! (λ lies. drop ! $ move ! (1 ∷ 0 ∷ []) $
    let us : Ptr → List Val = λ u. vptr a.0.ref_ptr.0 a.0.ref_ptr.1 ∷ vptr a.1.0.ref_ptr.0 a.1.0.ref_ptr.1 ∷ start_val u ∷ vint w64 i ∷ vint w64 k ∷ [] in let Run : List Val → SProp 𝓤 = λ ws. WpFn 𝓤 H 𝓣.C 𝓣.Λ fn ws Post in
    let p' : Ptr = block_ptr (block_of z.at) (count_of z.at) in let where_ : p ≡ p' = asked.1 ∙ at_block z.at lies.0 in
    suffices ! (Run (us p')) (subst (λ (u : Ptr). ent 𝓤 (Run (us p')) (Run (us u))) (sym where_) (id⊢ 𝓤 (Run (us p')))) $
    enter ! 𝓣.C 𝓣.Λ fn (us p') Post $ alloc_all ! (λ l. pass_all ! refl ((tt, tt), ((tt, tt), (start_good p', ((tt, record { fits = are.1.1.1.0.1 }), ((tt, record { fits = are.1.1.1.1.0.1 }), tt))))) $ let Ev = env fn.locals l in
    move ! (0 ∷ 2 ∷ []) $ shr_bor-open ! tt (tokens_halve 𝓛 α) (λ s. move ! (3 ∷ 4 ∷ 5 ∷ []) $ opens ! tt Sr b' o' (λ ts. move ! (1 ∷ []) $ fsplit ! $
    rewrite ! 1 (λ (x : RegionId). ‵ (mine x cv.code id v)) asked.0 refl $ first ! $ blocks ! $
    -- [the seat's fields; the seat; its place; open; obs; auth; the region's open token; the region's token; the invariant; the others]
    let inside : i < z.words = asked.2 in let room : z.words * 8 < 2 ^ 63 = lies.1 in let small : i * 8 < 2 ^ 64 = omega arith in let e : ℕ = i * 8 + count_of z.at in
    sets ! (bin ! (get ! refl) (lit ! tt) (record { fits = small })) refl (tt, record { fits = small }) $
    sets ! (bin ! (get_in ! (fld ! refl (stop !)) (sub ! 0 refl (whole !))) (get ! refl) tt) refl (tt, tt) $ move ! (8 ∷ 7 ∷ 1 ∷ []) $ let out = λ (n : ℕ). fsep (flft α s) (moves.gained 𝓛 cv holds z id (then n)) in
    use3 𝓛 (raw (𝓣.C _ (vptr (block_of z.at) e ∷ vint w64 k ∷ seq_cst ∷ []) (λ u. mean 𝓛 (found out u)))) (via 𝓤 _ (moves.steps 𝓛 cv holds z s lies id v i f then asked.3) (raises 𝓛 𝓜 𝓡 (code.calls-core::raw_atomic::fetch_max 𝓡.env wired) (block_ptr (block_of z.at) e) k are.1.1.1.1.0.1 out)) $
    sets ! (agg ! (and_then ! (lit ! tt) (no_more !))) refl (tt, (record { fits = lit< tt }, tt)) $
    Calls-last ! (fm 𝓛 𝓜 𝓡) (found out) (and_then ! (get ! refl) (and_then ! (get ! refl) (and_then ! (get ! refl) (no_more !)))) (λ u. finds ! out (λ n fits.
    lands_last ! refl (tt, record { fits = fits }) $ exec ! 𝓣.C 𝓣.Λ Ev (tail fn.body) (at_ret Ev Post) $ sets ! (of_opd ! (get ! refl)) refl (tt, record { fits = fits }) $
    fsplit ! $ move ! (7 ∷ 0 ∷ []) $ obor_close ! tt $ drop ! $ move ! (1 ∷ []) $ fpick ! (λ v'. fsplit ! $ fpick ! (λ so. drop ! $
    let h' : Sr.Denot = record { marker = h.marker; region = z; id = id; me = v' } in
    move ! (2 ∷ 0 ∷ []) $ fjoin ! $ move ! (2 ∷ 0 ∷ 3 ∷ 4 ∷ 5 ∷ []) $ closes ! tt Sr h' ts b' o' $ feq_i ! (List Val) (vptr b' o' ∷ []) (vptr b' o' ∷ []) refl $ fjoin3 ! $
    nothing ! $ nothing ! $ fjoin ! $ nothing ! $ fjoin ! $ nothing ! $ fjoin ! $ move ! (1 ∷ 0 ∷ []) $ fjoin ! $ nothing ! $ fjoin ! $ move ! (1 ∷ 3 ∷ []) $ join ! $ move ! (2 ∷ 0 ∷ []) $ join ! $
    let Told : Type 0 = (z ≡ h.region) × (id ≡ id) × then n v' in use0 𝓛 (raw (fact 𝓤 Told)) (fact_i 𝓤 Told (emp 𝓤) (sym asked.0, refl, so)) $ flt_i ! n (2 ^ 64) fits $ feq_i ! (List Val) (vint w64 n ∷ []) (vint w64 n ∷ []) refl $ fjoin ! $
    returns ! (look_at ! 0 refl) $ free_all ! refl $ keep ! (2 ∷ 3 ∷ 0 ∷ 1 ∷ []) $ by ! (leaves 𝓛 En hs c y (vint w64 n) n (tt, (h', (tt, (tt, (tt, tt))))) (tt, (tt, (tt, (tt, (tt, tt))))))))))))))))
