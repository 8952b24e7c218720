-- `close_with` ends the lifetime, and has the words back and the seat's view.
use Rattle.atomic_region.proofs.Names.{◌≡◌, List, [], ◌∷◌, length, refl, a_type, dcons, dnil, Val, inst_fn, SProp, emp, ‵, raw, ◌⊛◌, given, some, later, ◌$◌, ◌∵◌, !, qed, by, move, keep, split, join, fsplit, fsplit3, fjoin, pick, learn, await, use0, use2, rewrite, no_more, and_then, returns, enter, alloc_all, pass_all, free_all, look_at, get, sets, agg, tables, no, RattleType, owns, types_at, plain, nothing, heard, param, bounded, alive, Stays, stay_dropped, walk_of, Goes-dropped, fact, fact_i, Coded, proved, leaves}
use Rattle.plain_words.proofs.Made.{token_val, Token, token_told, token_made}
use denote.RawPtr.{RawPtr}
use Rattle.plain_words.specs.Places.{Place}
use Rattle.plain_words.specs.Owned.{plain_owns}
use Rattle.plain_words.specs.contracts.plain.PlainWords as plain_words
use Rattle.atomic_region.specs.Region.{Final, Seen}
use Rattle.atomic_region.specs.Owned.{RegionId, age, mine, carried, region_owns}
use Rattle.atomic_region.specs.contracts.shared.Shared as shared
use Rattle.atomic_region.specs.contracts.shared.Seat as seat
use Rattle.atomic_region.proofs.Moves as moves
use Rattle.atomic_region.specs.contracts.shared.Shared.close_with.{ended, clauses}
use Rattle.atomic_region.specs.contracts.shared.Shared.close_with.Key.{name as #self}
use Rattle.atomic_region.proofs.shared.Shared.close_with.Statement.{statement}
use Rattle.atomic_region.proofs.shared.Shared.close_with.Code as code

pub close_with_spec : {M : Type 1} → statement M
unfolding Rattle.atomic_region.specs.Owned.seal
close_with_spec 𝓤 𝓛 𝓜 𝓡 wired U Q P _ _ _ g d _ =
    let H = 𝓛.H in let 𝓣 = tables 𝓤 H 𝓜 𝓡 𝓡.env in let W : RattleType = param 0 U in let X : RattleType = param 1 Q in let Y : RattleType = param 2 P in let cv : Coded U.Denot = W.coded in
    let Sh : RattleType = shared.the_row W X Y g in let Sr : RattleType = seat.the_row W in let Pw : RattleType = plain_words.the_row in let En = ended U Q P g d in let c = clauses U Q P g d 𝓛 𝓜.mem 𝓡.returns in
    let inst = bounded (a_type ∷ a_type ∷ a_type ∷ []) (U, (Q, (P, tt))) (dcons d dnil) in let fn = inst_fn inst code.function in
    let ending = plain (λ _. Sh) in let sitter = plain (λ _. Sr) in let hs : Stays En.signature.params En.kept = (stay_dropped ending no, (stay_dropped sitter no, tt)) in
    proved 𝓛 En hs c 𝓜 𝓡 (Goes-dropped 𝓛 3 ending no (λ κs x f. refl), (Goes-dropped 𝓛 3 sitter no (λ κs x f. refl), tt)) (#self inst) fn (code.unfolded 𝓤 H 𝓜 𝓡 wired (U, (Q, (P, tt))) d)
    (λ κs. ((λ _. token_val ∷ []), ((λ _. token_val ∷ []), tt))) (λ κs. ((λ x vs so. token_told RawPtr vs so.0), ((λ x vs so. token_told W vs so.0), tt))) (λ κs qs bounds a gh are.
    let y : (walk_of 𝓛 En hs c).Ghost = ((κs, qs, bounds, a, (token_val ∷ [], (token_val ∷ [], tt))), gh) in let Post : Val → SProp 𝓤 = (walk_of 𝓛 En hs c).post y in
    let t : Sh.Denot = a.0 in let z : RegionId = t.id in let holds = g.holds t.key in let h : Sr.Denot = a.1.0 in let Asked : Type 0 = h.region ≡ z in
    qed 𝓛 ((raw (alive 𝓛 En.signature κs qs) ⊛ ‵ (owns (types_at En.signature.params κs) a y.0.4)) ∷ raw (fact 𝓤 _) ∷ raw (fact 𝓤 _) ∷ raw (fact 𝓤 _) ∷ raw (fact 𝓤 Asked) ∷ []) ∵ keep ! (4 ∷ 0 ∷ []) $ heard ! Asked (λ asked. split ! $ move ! (1 ∷ []) $ fsplit3 ! $ fsplit ! $ move ! (2 ∷ []) $ fsplit ! $ move ! (1 ∷ []) $
    rewrite ! 0 (λ (x : RegionId). ‵ (mine x cv.code h.id h.me)) asked refl $ fsplit ! $ keep ! (4 ∷ 0 ∷ 6 ∷ []) $
    enter ! 𝓣.C 𝓣.Λ fn (token_val ∷ token_val ∷ []) Post $ alloc_all ! (λ l. pass_all ! refl ((tt, (tt, tt)), ((tt, (tt, tt)), tt)) $
    use2 𝓛 (later (some (λ (ps : List Place). given (Final (Seen holds h.id h.me.0) ps × (length ps ≡ z.words)) (‵ (plain_owns z.at 0 ps))))) (moves.ends_with 𝓛 cv holds z h.id h.me.0) $ await ! tt $ pick ! (λ ps. learn ! (λ so. let Last : Type 0 = Final (Seen holds h.id h.me.0) ps in
    let r : Pw.Denot = record { mark = record {}; at = z.at; first = 0; places = ps } in let Words : Type 0 = (z.at ≡ z.at) × (0 ≡ 0) × (length ps ≡ z.words) in
    sets ! (agg ! (no_more !)) refl (tt, tt) $ sets ! (agg ! (and_then ! (get ! refl) (no_more !))) refl (tt, (tt, tt)) $
    use0 𝓛 (‵ ((Token RawPtr).own_val (record {}, tt) (token_val ∷ []))) (token_made RawPtr 𝓛) $ fjoin ! $ use0 𝓛 (raw (fact 𝓤 Last)) (fact_i 𝓤 Last (emp 𝓤) so.0) $ use0 𝓛 (raw (fact 𝓤 Words)) (fact_i 𝓤 Words (emp 𝓤) (refl, refl, so.1)) $ join ! $
    nothing ! $ nothing ! $ fjoin ! $ nothing ! $ fjoin ! $ returns ! (look_at ! 0 refl) $ free_all ! refl $ keep ! (3 ∷ 0 ∷ 2 ∷ 1 ∷ []) $ by ! (leaves 𝓛 En hs c y token_val r (tt, (tt, tt)) (tt, (tt, tt))))))))
