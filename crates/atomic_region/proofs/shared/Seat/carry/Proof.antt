-- `carry` moves a range into the seat.
use Rattle.atomic_region.proofs.Names.{◌≡◌, ℕ, ◌+◌, ◌≤◌, List, [], ◌∷◌, length, refl, a_type, named, Val, vunit, vptr, inst_fn, SProp, emp, Fml, ftrue, fsep, flft, ‵, raw, ◌⊛◌, ◌$◌, ◌∵◌, !, qed, by, move, keep, split, join, fsplit, fsplit3, fjoin, fjoin3, fpack, use0, rewrite, feq_i, of_opd, unit_lit, returns, enter, alloc_all, pass_all, free_all, look_at, sets, tables, yes, RattleType, owns, types_at, plain, Ptr, nothing, opens, closes, heard, param, layouts, Stays, stay_dropped, stay_ref, walk_of, Goes-dropped, Goes-ref, fact, fact_i, Coded, mut_vals, mut_Tells, proved, leaves}
use Rattle.plain_words.proofs.Made.{token_val, token_told}
use denote.RawPtr.{RawPtr}
use Rattle.plain_words.specs.Places.{Place}
use Rattle.plain_words.specs.Owned.{plain_owns}
use Rattle.plain_words.specs.contracts.plain.PlainWords as plain_words
use Rattle.atomic_region.specs.Region.{Me}
use Rattle.atomic_region.specs.Owned.{RegionId}
use Rattle.atomic_region.specs.contracts.shared.Seat as seat
use Rattle.atomic_region.specs.contracts.shared.Seat.carry.{ended, clauses}
use Rattle.atomic_region.specs.contracts.shared.Seat.carry.Key.{name as #self}
use Rattle.atomic_region.proofs.shared.Seat.carry.Statement.{statement}
use Rattle.atomic_region.proofs.shared.Seat.carry.Code as code

pub carry_spec : {M : Type 1} → statement M
carry_spec 𝓤 𝓛 𝓜 𝓡 wired U _ =
    let H = 𝓛.H in let 𝓣 = tables 𝓤 H 𝓜 𝓡 𝓡.env in let W : RattleType = param 0 U in let cv : Coded U.Denot = W.coded in let Sr : RattleType = seat.the_row W in let Pw : RattleType = plain_words.the_row in let En = ended U in let c = clauses U 𝓛 𝓜.mem 𝓡.returns in
    let inst = layouts (a_type ∷ []) (U, tt) in let fn = inst_fn inst code.function in let sitter = plain (λ _. Sr) in let used = plain (λ _. Pw) in let hs : Stays En.signature.params En.kept = (stay_ref (0 ∷ []) tt sitter, (stay_dropped used yes, tt)) in
    proved 𝓛 En hs c 𝓜 𝓡 (Goes-ref 𝓛 2 0 tt sitter, (Goes-dropped 𝓛 2 used yes (λ κs x f. refl), tt)) (#self inst) fn (code.unfolded 𝓤 H 𝓜 𝓡 wired (U, tt))
    (λ κs. (mut_vals, ((λ _. token_val ∷ []), tt))) (λ κs. (mut_Tells (named 0) κs.0 Sr, ((λ x vs so. token_told RawPtr vs so.0), tt))) (λ κs qs bounds a gh are.
    let b : ℕ = a.0.ref_ptr.0 in let o : ℕ = a.0.ref_ptr.1 in let h : Sr.Denot = a.0.now in let z : RegionId = h.region in let v : Me U.Denot = h.me in let x : Pw.Denot = a.1.0 in let k : ℕ = x.first in let ps : List Place = x.places in
    let Asked : Type 0 = (x.at ≡ z.at) × (k + length ps ≤ z.words) in
    let y : (walk_of 𝓛 En hs c).Ghost = ((κs, qs, bounds, a, (vptr b o ∷ [], (token_val ∷ [], tt))), gh) in let Post : Val → SProp 𝓤 = (walk_of 𝓛 En hs c).post y in let others : Fml = fsep (flft κs.1.0 qs.1.0) ftrue in
    qed 𝓛 (((‵ (flft κs.0 qs.0) ⊛ ‵ others) ⊛ ‵ (owns (types_at En.signature.params κs) a y.0.4)) ∷ raw (fact 𝓤 _) ∷ raw (fact 𝓤 Asked) ∷ []) ∵
    keep ! (2 ∷ 0 ∷ []) $ heard ! Asked (λ asked. split ! $ split ! $ move ! (2 ∷ []) $ fsplit3 ! $ fsplit3 ! $ move ! (3 ∷ []) $ fsplit ! $ keep ! (3 ∷ 4 ∷ 6 ∷ 7 ∷ 1 ∷ []) $
    -- [obs; the borrow; its token; the other tokens; the words]
    let v' : Me U.Denot = (v.0, (k, ps) ∷ v.1) in let h' : Sr.Denot = record { marker = h.marker; region = z; id = h.id; me = v' } in let Told : Type 0 = (z ≡ z) × (h.id ≡ h.id) × (v' ≡ v') in
    enter ! 𝓣.C 𝓣.Λ fn (vptr b o ∷ token_val ∷ []) Post $ alloc_all ! (λ l. pass_all ! refl ((tt, tt), ((tt, (tt, tt)), tt)) $
    opens ! tt Sr b o (λ ts. move ! (1 ∷ []) $ fsplit ! $ move ! (1 ∷ []) $ fsplit ! $ move ! (8 ∷ 1 ∷ []) $
    -- [the words; the ranges; the view; the token; its cell; the open borrow; obs; auth; the other tokens]
    rewrite ! 0 (λ (u : Ptr). ‵ (plain_owns u k ps)) asked.0 refl $ nothing ! $ fpack ! (k + length ps ≤ z.words) (λ _. ftrue) asked.1 $ fjoin3 ! $ move ! (1 ∷ 0 ∷ []) $ fjoin ! $ move ! (1 ∷ 0 ∷ []) $ fjoin ! $ move ! (1 ∷ 0 ∷ []) $
    closes ! tt Sr h' ts b o $ feq_i ! (List Val) (vptr b o ∷ []) (vptr b o ∷ []) refl $ fjoin3 ! $ nothing ! $ nothing ! $ fjoin ! $ move ! (1 ∷ 0 ∷ []) $ fjoin ! $ move ! (1 ∷ 2 ∷ []) $ join ! $
    sets ! (of_opd ! (unit_lit !)) refl (tt, tt) $ use0 𝓛 (raw (fact 𝓤 Told)) (fact_i 𝓤 Told (emp 𝓤) (refl, refl, refl)) $ feq_i ! (List Val) (vunit ∷ []) (vunit ∷ []) refl $
    returns ! (look_at ! 0 refl) $ free_all ! refl $ keep ! (2 ∷ 3 ∷ 0 ∷ 1 ∷ []) $ by ! (leaves 𝓛 En hs c y vunit tt (h', (tt, tt)) (tt, (tt, tt)))))))
