-- `load_new_seat` is one step on a word that stays as it is, and a new view stands among the views.
use Rattle.atomic_region.proofs.Names.{◌≡◌, ℕ, ◌+◌, ◌*◌, ◌^◌, ◌<◌, List, [], ◌∷◌, sym, refl, ◌∙◌, subst, lit<, arith, w64, a_type, dcons, dnil, named, Val, vint, vptr, vstruct, vcons, vnil, inst_fn, SProp, emp, ent, Lft, Fml, ftrue, fsep, flft, ‵, raw, ◌⊛◌, given, mean, at_ret, ◌$◌, ◌∵◌, !, qed, by, move, keep, drop, split, join, fsplit, fjoin, fpick, fpack, learn, suffices, use0, use3, feq_i, flt_i, stop, fld, lit, of_opd, bin, no_more, and_then, first, blocks, exec, Calls-last, returns, enter, alloc_all, pass_all, free_all, look_at, get, get_in, sets, lands_last, env, sub, whole, agg, tables, yes, RattleType, owns, Valss, types_at, plain, Ptr, block_ptr, block_of, count_of, at_block, nothing, param, bounded, Stays, stay_dropped, walk_of, Goes-dropped, fact, fact_i, Coded, via, id⊢, RefOf, u64, usize, shr_vals, shr_Tells, uint_vals, uint_Tells, unhide, shr_bor-open, obor_close, tokens_halve, WpFn, proved, leaves, fm, found, finds, seq_cst, loads, tail}
use Rattle.plain_words.proofs.Made.{token_val, Token, token_made, start_val, start_told, start_good}
use Rattle.plain_words.specs.contracts.plain.Start as start
use Rattle.atomic_region.specs.Region.{step, Enters}
use Rattle.atomic_region.specs.Owned.{RegionId, age, mine, carried, region_owns}
use Rattle.atomic_region.specs.contracts.shared.Shared as shared
use Rattle.atomic_region.specs.contracts.shared.Seat as seat
use Rattle.atomic_region.proofs.Moves as moves
use Rattle.atomic_region.specs.contracts.shared.Shared.load_new_seat.{ended, clauses}
use Rattle.atomic_region.specs.contracts.shared.Shared.load_new_seat.Key.{name as #self}
use Rattle.atomic_region.proofs.shared.Shared.load_new_seat.Statement.{statement}
use Rattle.atomic_region.proofs.shared.Shared.load_new_seat.Code as code
use denote.Struct.Struct.{within}
use denote.Struct.Declared as declared
use denote.Struct.Tuple.{tuple_type}

pub load_new_seat_spec : {M : Type 1} → statement M
unfolding Rattle.atomic_region.specs.Owned.seal
load_new_seat_spec 𝓤 𝓛 𝓜 𝓡 wired U Q P Mv _ _ _ _ g d g' d' _ _ =
    let H = 𝓛.H in let 𝓣 = tables 𝓤 H 𝓜 𝓡 𝓡.env in let W : RattleType = param 0 U in let X : RattleType = param 1 Q in let Y : RattleType = param 2 P in let cv : Coded U.Denot = W.coded in
    let Sh : RattleType = shared.the_row W X Y g in let Sr : RattleType = seat.the_row W in let St : RattleType = start.the_row in let En = ended U Q P Mv g d g' d' in let c = clauses U Q P Mv g d g' d' 𝓛 𝓜.mem 𝓡.returns in
    let inst = bounded (a_type ∷ a_type ∷ a_type ∷ a_type ∷ []) (U, (Q, (P, (Mv, tt)))) (dcons d (dcons d' dnil)) in let fn = inst_fn inst code.function in let self = RefOf (0 ∷ []) tt (plain (λ _. Sh)) (λ _. tt) in let there = plain (λ _. St) in let count = plain (λ _. usize) in
    let hs : Stays En.signature.params En.kept = (stay_dropped self yes, (stay_dropped there yes, (stay_dropped count yes, tt))) in
    proved 𝓛 En hs c 𝓜 𝓡 (Goes-dropped 𝓛 5 self yes (λ κs x f. refl), (Goes-dropped 𝓛 5 there yes (λ κs x f. refl), (Goes-dropped 𝓛 5 count yes (λ κs x f. refl), tt))) (#self inst) fn (code.unfolded 𝓤 H 𝓜 𝓡 wired (U, (Q, (P, (Mv, tt)))) d d')
    (λ κs. (shr_vals, ((λ x. start_val x.at ∷ []), (uint_vals w64, tt)))) (λ κs. (shr_Tells (named 0) κs.0 Sh, (start_told, (uint_Tells w64, tt)))) (λ κs qs bounds a gh are.
    let y : (walk_of 𝓛 En hs c).Ghost = ((κs, qs, bounds, a, (vptr a.0.ref_ptr.0 a.0.ref_ptr.1 ∷ [], (start_val a.1.0.at ∷ [], (vint w64 a.1.1.0 ∷ [], tt)))), gh) in let Post : Val → SProp 𝓤 = (walk_of 𝓛 En hs c).post y in
    let κ : Lft = κs.0 in let t : Sh.Denot = a.0.now in let z : RegionId = t.id in let α : Lft = age z in let holds = g.holds t.key in let p : Ptr = a.1.0.at in let i : ℕ = a.1.1.0 in
    let then : ℕ → U.Denot → Type 0 = λ n u. g'.then (step z.words i 0 0) (g.first t.key, []) n (u, []) in
    let others : Fml = fsep (flft κs.1.0 qs.1.0) (fsep (flft κs.1.1.0 qs.1.1.0) (fsep (flft κs.1.1.1.0 qs.1.1.1.0) (fsep (flft κs.1.1.1.1.0 qs.1.1.1.1.0) ftrue))) in
    qed 𝓛 (((‵ (flft κ qs.0) ⊛ ‵ others) ⊛ ‵ (owns (types_at En.signature.params κs) a y.0.4)) ∷ raw (fact 𝓤 _) ∷ raw (fact 𝓤 _) ∷ raw (fact 𝓤 _) ∷ raw (fact 𝓤 _) ∷ given ((p ≡ z.at) × (i < z.words) × Enters holds z.words i then) (‵ ftrue) ∷ []) ∵
    keep ! (5 ∷ 0 ∷ []) $ learn ! (λ asked. drop ! $ split ! $ split ! $ move ! (2 ∷ []) $ fsplit ! $ fsplit ! $ keep ! (1 ∷ 3 ∷ 4 ∷ []) $ unhide ! $ fsplit ! $ drop ! $ fsplit ! $ move ! (1 ∷ []) $ fsplit ! $ fpick ! (λ lies. drop ! $ move ! (1 ∷ 0 ∷ []) $
    let us : Ptr → List Val = λ u. vptr a.0.ref_ptr.0 a.0.ref_ptr.1 ∷ start_val u ∷ vint w64 i ∷ [] in let Run : List Val → SProp 𝓤 = λ ws. WpFn 𝓤 H 𝓣.C 𝓣.Λ fn ws Post in
    let p' : Ptr = block_ptr (block_of z.at) (count_of z.at) in let where_ : p ≡ p' = asked.0 ∙ at_block z.at lies.0 in
    suffices ! (Run (us p')) (subst (λ (u : Ptr). ent 𝓤 (Run (us p')) (Run (us u))) (sym where_) (id⊢ 𝓤 (Run (us p')))) $
    enter ! 𝓣.C 𝓣.Λ fn (us p') Post $ alloc_all ! (λ l. pass_all ! refl ((tt, tt), (start_good p', ((tt, record { fits = are.1.1.0.1 }), tt))) $ let Ev = env fn.locals l in
    -- [the lifetime lasts; the invariant; the token; the other tokens]
    move ! (0 ∷ 2 ∷ []) $ shr_bor-open ! tt (tokens_halve 𝓛 α) (λ s. first ! $ blocks ! $
    let inside : i < z.words = asked.1 in let room : z.words * 8 < 2 ^ 63 = lies.1 in let small : i * 8 < 2 ^ 64 = omega arith in let e : ℕ = i * 8 + count_of z.at in
    sets ! (bin ! (get ! refl) (lit ! tt) (record { fits = small })) refl (tt, record { fits = small }) $ sets ! (bin ! (get_in ! (fld ! refl (stop !)) (sub ! 0 refl (whole !))) (get ! refl) tt) refl (tt, tt) $
    nothing ! $ move ! (3 ∷ 2 ∷ 0 ∷ []) $ let out = λ (n : ℕ). fsep (flft α s) (moves.entered 𝓛 cv holds z s (then n)) in
    use3 𝓛 (raw (𝓣.C _ (vptr (block_of z.at) e ∷ seq_cst ∷ []) (λ u. mean 𝓛 (found out u)))) (via 𝓤 _ (moves.enters 𝓛 cv holds z s i then asked.2) (loads 𝓛 𝓜 𝓡 (code.calls-core::raw_atomic::load 𝓡.env wired) (block_ptr (block_of z.at) e) out)) $
    sets ! (agg ! (and_then ! (lit ! tt) (no_more !))) refl (tt, (record { fits = lit< tt }, tt)) $
    Calls-last ! (fm 𝓛 𝓜 𝓡) (found out) (and_then ! (get ! refl) (and_then ! (get ! refl) (no_more !))) (λ u. finds ! out (λ n fits.
    lands_last ! refl (tt, record { fits = fits }) $ exec ! 𝓣.C 𝓣.Λ Ev (tail fn.body) (at_ret Ev Post) $ sets ! (of_opd ! (get ! refl)) refl (tt, record { fits = fits }) $
    sets ! (agg ! (no_more !)) refl (tt, tt) $ sets ! (agg ! (and_then ! (get ! refl) (no_more !))) refl (tt, (tt, tt)) $
    sets ! (agg ! (and_then ! (get ! refl) (and_then ! (get ! refl) (no_more !)))) refl (tt, (record { fits = fits }, ((tt, tt), tt))) $
    fsplit ! $ move ! (2 ∷ 0 ∷ []) $ obor_close ! tt $ drop ! $ move ! (1 ∷ []) $ fpick ! (λ x. fsplit ! $ fpick ! (λ so. drop ! $
    let r : Sr.Denot = record { marker = record {}; region = z; id = x.0; me = (x.1, []) } in let Told : Type 0 = (z ≡ z) × (r.me.1 ≡ []) × then n x.1 in let v : Val = vstruct (vcons (vint w64 n) (vcons token_val vnil)) in
    use0 𝓛 (‵ ((Token W).own_val (record {}, tt) (token_val ∷ []))) (token_made W 𝓛) $ fjoin ! $ nothing ! $ move ! (1 ∷ 0 ∷ []) $ fjoin ! $
    flt_i ! n (2 ^ 64) fits $ feq_i ! (List Val) (vint w64 n ∷ []) (vint w64 n ∷ []) refl $ fjoin ! $ fjoin ! $ feq_i ! (List Val) (v ∷ []) (v ∷ []) refl $ fjoin ! $
    fpack ! (Valss (u64 ∷ Sr ∷ [])) (within (declared.shape (tuple_type (u64 ∷ Sr ∷ []))) (n, (r, tt)) (v ∷ [])) (vint w64 n ∷ [], (token_val ∷ [], tt)) $
    nothing ! $ nothing ! $ fjoin ! $ nothing ! $ fjoin ! $ nothing ! $ fjoin ! $ move ! (2 ∷ 3 ∷ []) $ join ! $ use0 𝓛 (raw (fact 𝓤 Told)) (fact_i 𝓤 Told (emp 𝓤) (refl, refl, so)) $
    returns ! (look_at ! 0 refl) $ free_all ! refl $ keep ! (1 ∷ 2 ∷ 3 ∷ 0 ∷ []) $ by ! (leaves 𝓛 En hs c y v (n, r) (tt, (tt, (tt, tt))) (tt, (tt, (tt, tt)))))))))))))
