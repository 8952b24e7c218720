-- `lift` moves a range out of the seat.
use Rattle.atomic_region.proofs.Names.{◌≡◌, ℕ, List, [], ◌∷◌, refl, a_type, named, Val, vptr, inst_fn, SProp, emp, Fml, ftrue, fsep, flft, ‵, raw, ◌⊛◌, ◌$◌, ◌∵◌, !, qed, by, move, keep, drop, split, join, fsplit, fsplit3, fjoin, fjoin3, use0, rewrite, feq_i, no_more, and_then, returns, enter, alloc_all, pass_all, free_all, look_at, get, sets, agg, tables, RattleType, owns, types_at, plain, nothing, opens, closes, heard, param, layouts, Stays, stay_ref, walk_of, Goes-ref, fact, fact_i, Coded, mut_vals, mut_Tells, proved, leaves}
use Rattle.plain_words.proofs.Made.{token_val, Token, token_made}
use denote.RawPtr.{RawPtr}
use Rattle.plain_words.specs.Places.{Place}
use Rattle.plain_words.specs.contracts.plain.PlainWords as plain_words
use Rattle.atomic_region.specs.Region.{Me, Range, rest}
use Rattle.atomic_region.specs.Owned.{RegionId, carried}
use Rattle.atomic_region.specs.contracts.shared.Seat as seat
use Rattle.atomic_region.specs.contracts.shared.Seat.lift.{ended, clauses}
use Rattle.atomic_region.specs.contracts.shared.Seat.lift.Key.{name as #self}
use Rattle.atomic_region.proofs.shared.Seat.lift.Statement.{statement}
use Rattle.atomic_region.proofs.shared.Seat.lift.Code as code

pub lift_spec : {M : Type 1} → statement M
lift_spec 𝓤 𝓛 𝓜 𝓡 wired U _ =
    let H = 𝓛.H in let 𝓣 = tables 𝓤 H 𝓜 𝓡 𝓡.env in let W : RattleType = param 0 U in let cv : Coded U.Denot = W.coded in let Sr : RattleType = seat.the_row W in let Pw : RattleType = plain_words.the_row in let En = ended U in let c = clauses U 𝓛 𝓜.mem 𝓡.returns in
    let inst = layouts (a_type ∷ []) (U, tt) in let fn = inst_fn inst code.function in let sitter = plain (λ _. Sr) in let hs : Stays En.signature.params En.kept = (stay_ref (0 ∷ []) tt sitter, tt) in
    proved 𝓛 En hs c 𝓜 𝓡 (Goes-ref 𝓛 2 0 tt sitter, tt) (#self inst) fn (code.unfolded 𝓤 H 𝓜 𝓡 wired (U, tt)) (λ κs. (mut_vals, tt)) (λ κs. (mut_Tells (named 0) κs.0 Sr, tt)) (λ κs qs bounds a gh are.
    let b : ℕ = a.0.ref_ptr.0 in let o : ℕ = a.0.ref_ptr.1 in let h : Sr.Denot = a.0.now in let z : RegionId = h.region in let v : Me U.Denot = h.me in
    let Asked : Type 0 = (k : ℕ) × (ps : List Place) × (v.1 ≡ (k, ps) ∷ rest v.1) in
    let y : (walk_of 𝓛 En hs c).Ghost = ((κs, qs, bounds, a, (vptr b o ∷ [], tt)), gh) in let Post : Val → SProp 𝓤 = (walk_of 𝓛 En hs c).post y in let others : Fml = fsep (flft κs.1.0 qs.1.0) ftrue in
    qed 𝓛 (((‵ (flft κs.0 qs.0) ⊛ ‵ others) ⊛ ‵ (owns (types_at En.signature.params κs) a y.0.4)) ∷ raw (fact 𝓤 _) ∷ raw (fact 𝓤 Asked) ∷ []) ∵
    keep ! (2 ∷ 0 ∷ []) $ heard ! Asked (λ asked. split ! $ split ! $ move ! (2 ∷ []) $ fsplit ! $ fsplit3 ! $ keep ! (1 ∷ 2 ∷ 4 ∷ 5 ∷ []) $
    let k : ℕ = asked.0 in let ps : List Place = asked.1 in let is : v.1 ≡ (k, ps) ∷ rest v.1 = asked.2 in let r : Pw.Denot = record { mark = record {}; at = z.at; first = k; places = ps } in
    let v' : Me U.Denot = (v.0, rest v.1) in let h' : Sr.Denot = record { marker = h.marker; region = z; id = h.id; me = v' } in let Told : Type 0 = (z ≡ z) × (h.id ≡ h.id) × (v' ≡ v') in let Lifted : Type 0 = (z.at ≡ z.at) × (v.1 ≡ (k, ps) ∷ rest v.1) in
    enter ! 𝓣.C 𝓣.Λ fn (vptr b o ∷ []) Post $ alloc_all ! (λ l. pass_all ! refl ((tt, tt), tt) $ opens ! tt Sr b o (λ ts. move ! (1 ∷ []) $ fsplit ! $ move ! (1 ∷ []) $ fsplit ! $ move ! (1 ∷ []) $
    -- [the ranges; the view; the token; its cell; the open borrow; obs; auth; the other tokens]
    rewrite ! 0 (λ (xs : List Range). ‵ (carried z xs)) is refl $ fsplit3 ! $ drop ! $ move ! (2 ∷ 1 ∷ []) $ fjoin ! $ move ! (2 ∷ 0 ∷ []) $ fjoin ! $ move ! (2 ∷ 0 ∷ 3 ∷ 4 ∷ 5 ∷ []) $
    closes ! tt Sr h' ts b o $ feq_i ! (List Val) (vptr b o ∷ []) (vptr b o ∷ []) refl $ fjoin3 ! $ nothing ! $ move ! (1 ∷ 0 ∷ []) $ fjoin ! $ move ! (1 ∷ 3 ∷ []) $ join ! $
    sets ! (agg ! (no_more !)) refl (tt, tt) $ sets ! (agg ! (and_then ! (get ! refl) (no_more !))) refl (tt, (tt, tt)) $
    move ! (2 ∷ []) $ use0 𝓛 (‵ ((Token RawPtr).own_val (record {}, tt) (token_val ∷ []))) (token_made RawPtr 𝓛) $ fjoin ! $
    use0 𝓛 (raw (fact 𝓤 Lifted)) (fact_i 𝓤 Lifted (emp 𝓤) (refl, is)) $ use0 𝓛 (raw (fact 𝓤 Told)) (fact_i 𝓤 Told (emp 𝓤) (refl, refl, refl)) $ join ! $
    returns ! (look_at ! 0 refl) $ free_all ! refl $ keep ! (2 ∷ 3 ∷ 1 ∷ 0 ∷ []) $ by ! (leaves 𝓛 En hs c y token_val r (h', tt) (tt, tt))))))
