-- `open` lends the words for a lifetime of their own.
use Rattle.atomic_region.proofs.Names.{◌≡◌, ℕ, ◌+◌, ◌*◌, ◌^◌, ◌<◌, List, [], ◌∷◌, length, refl, arith, a_type, dcons, dnil, named, Val, vptr, vstruct, vcons, vnil, inst_fn, SProp, emp, ‵, raw, ◌⊛◌, given, some, later, ◌$◌, ◌∵◌, !, qed, by, move, keep, drop, split, join, fsplit, fsplit3, fjoin, fjoin3, fpick, fpack, pick, learn, await, use0, use1, rewrite, feq_i, no_more, and_then, returns, enter, alloc_all, pass_all, free_all, look_at, get, sets, agg, tables, yes, RattleType, owns, Valss, types_at, plain, Ptr, block_of, count_of, nothing, heard, param, bounded, alive, Stays, stay_dropped, walk_of, Goes-dropped, fact, fact_i, Coded, RefOf, shr_vals, shr_Tells, proved, leaves}
use Rattle.plain_words.proofs.Made.{token_val, Token, token_told, token_made}
use denote.RawPtr.{RawPtr}
use Rattle.plain_words.specs.Places.{Place}
use Rattle.plain_words.specs.Owned.{row}
use Rattle.plain_words.specs.contracts.plain.PlainWords as plain_words
use Rattle.atomic_region.specs.Region.{opening}
use Rattle.atomic_region.specs.Owned.{RegionId, age, mine, carried, region_owns}
use Rattle.atomic_region.specs.contracts.shared.Shared as shared
use Rattle.atomic_region.specs.contracts.shared.Seat as seat
use Rattle.atomic_region.proofs.Moves as moves
use Rattle.atomic_region.specs.contracts.shared.Shared.open.{ended, clauses}
use Rattle.atomic_region.specs.contracts.shared.Shared.open.Key.{name as #self}
use Rattle.atomic_region.proofs.shared.Shared.open.Statement.{statement}
use Rattle.atomic_region.proofs.shared.Shared.open.Code as code
use denote.Struct.Struct.{within}
use denote.Struct.Declared as declared
use denote.Struct.Tuple.{tuple_type}

pub open_spec : {M : Type 1} → statement M
unfolding Rattle.atomic_region.specs.Owned.seal
open_spec 𝓤 𝓛 𝓜 𝓡 wired U Q P _ _ _ g d _ =
    let H = 𝓛.H in let 𝓣 = tables 𝓤 H 𝓜 𝓡 𝓡.env in let W : RattleType = param 0 U in let X : RattleType = param 1 Q in let Y : RattleType = param 2 P in let cv : Coded U.Denot = W.coded in
    let Sh : RattleType = shared.the_row W X Y g in let Sr : RattleType = seat.the_row W in let Pw : RattleType = plain_words.the_row in let En = ended U Q P g d in let c = clauses U Q P g d 𝓛 𝓜.mem 𝓡.returns in
    let inst = bounded (a_type ∷ a_type ∷ a_type ∷ []) (U, (Q, (P, tt))) (dcons d dnil) in let fn = inst_fn inst code.function in
    let about = RefOf (0 ∷ []) tt (plain (λ _. X)) (λ _. tt) in let used = plain (λ _. Pw) in let hs : Stays En.signature.params En.kept = (stay_dropped about yes, (stay_dropped used yes, tt)) in
    proved 𝓛 En hs c 𝓜 𝓡 (Goes-dropped 𝓛 4 about yes (λ κs x f. refl), (Goes-dropped 𝓛 4 used yes (λ κs x f. refl), tt)) (#self inst) fn (code.unfolded 𝓤 H 𝓜 𝓡 wired (U, (Q, (P, tt))) d)
    (λ κs. (shr_vals, ((λ _. token_val ∷ []), tt))) (λ κs. (shr_Tells (named 0) κs.0 X, ((λ x vs so. token_told RawPtr vs so.0), tt))) (λ κs qs bounds a gh are.
    let y : (walk_of 𝓛 En hs c).Ghost = ((κs, qs, bounds, a, (vptr a.0.ref_ptr.0 a.0.ref_ptr.1 ∷ [], (token_val ∷ [], tt))), gh) in let Post : Val → SProp 𝓤 = (walk_of 𝓛 En hs c).post y in
    let key : Q.Denot = a.0.now in let x : Pw.Denot = a.1.0 in let p : Ptr = x.at in let ps : List Place = x.places in let holds = g.holds key in let v : U.Denot = g.first key in let n : ℕ = length ps in
    let Asked : Type 0 = (x.first ≡ 0) × holds (opening ps v) in let pair : Val = vstruct (vcons token_val (vcons token_val vnil)) in
    qed 𝓛 ((raw (alive 𝓛 En.signature κs qs) ⊛ ‵ (owns (types_at En.signature.params κs) a y.0.4)) ∷ raw (fact 𝓤 _) ∷ raw (fact 𝓤 _) ∷ raw (fact 𝓤 _) ∷ raw (fact 𝓤 Asked) ∷ []) ∵
    keep ! (4 ∷ 0 ∷ []) $ heard ! Asked (λ asked. split ! $ move ! (1 ∷ []) $ fsplit3 ! $ drop ! $ fsplit ! $ drop ! $ keep ! (0 ∷ 2 ∷ []) $ fsplit ! $ fpick ! (λ lies. drop ! $
    let first : x.first ≡ 0 = asked.0 in let room : (x.first + n) * 8 < 2 ^ 63 = lies.1 in let small : n * 8 < 2 ^ 63 = omega arith in
    rewrite ! 0 (λ (k : ℕ). ‵ (row (block_of p) (count_of p) k ps)) first refl $
    enter ! 𝓣.C 𝓣.Λ fn (vptr a.0.ref_ptr.0 a.0.ref_ptr.1 ∷ token_val ∷ []) Post $ alloc_all ! (λ l. pass_all ! refl ((tt, tt), ((tt, (tt, tt)), tt)) $
    use1 𝓛 (later (some (λ (z : RegionId). given ((z.at ≡ p) × (z.words ≡ n)) (‵ (region_owns cv.code z holds) ⊛ ‵ (mine z cv.code 0 (v, [])))))) (moves.begins 𝓛 cv holds p ps v lies.0 small asked.1) $ await ! tt $ pick ! (λ z. learn ! (λ is. split ! $
    let w : Sh.Denot = record { marker = record {}; id = z; key = key } in let r : Sr.Denot = record { marker = record {}; region = z; id = 0; me = (v, []) } in
    let Made : Type 0 = (z.at ≡ p) × (z.words ≡ n) × (key ≡ key) in let Seated : Type 0 = (z ≡ z) × (0 ≡ 0) × (r.me ≡ r.me) in
    sets ! (agg ! (no_more !)) refl (tt, tt) $ sets ! (agg ! (and_then ! (get ! refl) (no_more !))) refl (tt, (tt, tt)) $ sets ! (agg ! (no_more !)) refl (tt, tt) $ sets ! (agg ! (and_then ! (get ! refl) (no_more !))) refl (tt, (tt, tt)) $
    sets ! (agg ! (and_then ! (get ! refl) (and_then ! (get ! refl) (no_more !)))) refl (tt, ((tt, tt), ((tt, tt), tt))) $
    use0 𝓛 (‵ ((Token RawPtr).own_val (record {}, tt) (token_val ∷ []))) (token_made RawPtr 𝓛) $ fjoin ! $ move ! (1 ∷ []) $
    use0 𝓛 (‵ ((Token W).own_val (record {}, tt) (token_val ∷ []))) (token_made W 𝓛) $ fjoin ! $ nothing ! $ move ! (2 ∷ 1 ∷ 0 ∷ []) $ fjoin3 ! $ feq_i ! (List Val) (pair ∷ []) (pair ∷ []) refl $ fjoin ! $
    fpack ! (Valss (Sh ∷ Sr ∷ [])) (within (declared.shape (tuple_type (Sh ∷ Sr ∷ []))) (w, (r, tt)) (pair ∷ [])) (token_val ∷ [], (token_val ∷ [], tt)) $
    use0 𝓛 (raw (fact 𝓤 Seated)) (fact_i 𝓤 Seated (emp 𝓤) (refl, refl, refl)) $ use0 𝓛 (raw (fact 𝓤 Made)) (fact_i 𝓤 Made (emp 𝓤) (is.0, is.1, refl)) $ join ! $ nothing ! $ nothing ! $ fjoin ! $ nothing ! $ fjoin ! $
    returns ! (look_at ! 0 refl) $ free_all ! refl $ keep ! (3 ∷ 0 ∷ 2 ∷ 1 ∷ []) $ by ! (leaves 𝓛 En hs c y pair (w, r) (tt, (tt, tt)) (tt, (tt, tt)))))))))
