-- Words that were out are put back.
use Rattle.plain_words.proofs.Names.{◌≡◌, ℕ, ◌+◌, ◌-◌, ◌≤◌, List, [], ◌∷◌, length, refl, named, Val, vunit, vptr, SProp, emp, ftrue, flft, ‵, raw, ◌⊛◌, ◌$◌, ◌∵◌, !, qed, by, move, keep, split, join, fsplit, fsplit3, fjoin, fjoin3, use0, use2, rewrite, feq_i, of_opd, unit_lit, returns, enter, alloc_all, pass_all, free_all, look_at, sets, tables, yes, RattleType, owns, types_at, plain, Ptr, nothing, opens, closes, heard, Stays, stay_dropped, stay_ref, walk_of, Goes-dropped, Goes-ref, fact, fact_i, mut_vals, mut_Tells, proved, leaves, RawPtr}
use Rattle.plain_words.proofs.Made.{token_val, token_told}
use Rattle.plain_words.specs.contracts.plain.PlainWords as plain_words
use Rattle.plain_words.specs.contracts.plain.PlainWords.restore.{ended, clauses}
use Rattle.plain_words.specs.contracts.plain.PlainWords.restore.Key.{name as #self}
use Rattle.plain_words.proofs.plain.PlainWords.restore.Statement.{statement}
use Rattle.plain_words.proofs.plain.PlainWords.restore.Code as code
use Rattle.plain_words.specs.Places.{put}
use Rattle.plain_words.specs.Owned.{plain_owns}
use Rattle.plain_words.proofs.Rows.{restores}

pub restore_spec : {M : Type 1} → statement M
restore_spec 𝓤 𝓛 𝓜 𝓡 wired =
    let H = 𝓛.H in let 𝓣 = tables 𝓤 H 𝓜 𝓡 𝓡.env in let Pw : RattleType = plain_words.the_row in let c = clauses 𝓛 𝓜.mem 𝓡.returns in let fn = code.function in let one = plain (λ _. Pw) in
    let hs : Stays ended.signature.params ended.kept = (stay_ref (0 ∷ []) tt one, (stay_dropped one yes, tt)) in
    proved 𝓛 ended hs c 𝓜 𝓡 (Goes-ref 𝓛 1 0 tt one, (Goes-dropped 𝓛 1 one yes (λ κs x f. refl), tt)) #self fn (code.unfolded 𝓤 H 𝓜 𝓡 wired)
    (λ κs. (mut_vals, ((λ _. token_val ∷ []), tt))) (λ κs. (mut_Tells (named 0) κs.0 Pw, ((λ x vs so. token_told RawPtr vs so.0), tt))) (λ κs qs bounds a gh are.
    let b : ℕ = a.0.ref_ptr.0 in let o : ℕ = a.0.ref_ptr.1 in let w : Pw.Denot = a.0.now in let u : Pw.Denot = a.1.0 in let p : Ptr = w.at in let k : ℕ = w.first in let after = put w.places (u.first - k) u.places in
    let Asked : Type 0 = (u.at ≡ p) × (k ≤ u.first) × (u.first + length u.places ≤ k + length w.places) in
    let y : (walk_of 𝓛 ended hs c).Ghost = ((κs, qs, bounds, a, (vptr b o ∷ [], (token_val ∷ [], tt))), gh) in let Post : Val → SProp 𝓤 = (walk_of 𝓛 ended hs c).post y in
    let w' : Pw.Denot = record { mark = w.mark; at = p; first = k; places = after } in let Told : Type 0 = (p ≡ p) × (k ≡ k) × (after ≡ after) in
    qed 𝓛 (((‵ (flft κs.0 qs.0) ⊛ ‵ ftrue) ⊛ ‵ (owns (types_at ended.signature.params κs) a y.0.4)) ∷ raw (fact 𝓤 Asked) ∷ []) ∵
    move ! (1 ∷ []) $ heard ! Asked (λ asked. split ! $ split ! $ move ! (2 ∷ []) $ fsplit3 ! $ fsplit3 ! $ move ! (3 ∷ []) $ fsplit ! $ keep ! (3 ∷ 4 ∷ 6 ∷ 1 ∷ 7 ∷ []) $
    -- [obs; the borrow; its token; the piece; no other token]
    enter ! 𝓣.C 𝓣.Λ fn (vptr b o ∷ token_val ∷ []) Post $ alloc_all ! (λ l. pass_all ! refl ((tt, tt), ((tt, (tt, tt)), tt)) $
    opens ! tt Pw b o (λ ts. move ! (1 ∷ []) $ fsplit ! $ move ! (1 ∷ 6 ∷ []) $ rewrite ! 1 (λ (x : Ptr). ‵ (plain_owns x u.first u.places)) asked.0 refl $
    use2 𝓛 (‵ (plain_owns p k after)) (restores 𝓛 p k u.first w.places u.places asked.1 asked.2) $ move ! (1 ∷ 0 ∷ []) $ fjoin ! $ move ! (1 ∷ 0 ∷ []) $
    closes ! tt Pw w' ts b o $ feq_i ! (List Val) (vptr b o ∷ []) (vptr b o ∷ []) refl $ fjoin3 ! $ nothing ! $ nothing ! $ fjoin ! $ move ! (1 ∷ 0 ∷ []) $ fjoin ! $ move ! (1 ∷ 2 ∷ []) $ join ! $
    sets ! (of_opd ! (unit_lit !)) refl (tt, tt) $ use0 𝓛 (raw (fact 𝓤 Told)) (fact_i 𝓤 Told (emp 𝓤) (refl, refl, refl)) $ feq_i ! (List Val) (vunit ∷ []) (vunit ∷ []) refl $
    returns ! (look_at ! 0 refl) $ free_all ! refl $ keep ! (2 ∷ 3 ∷ 0 ∷ 1 ∷ []) $ by ! (leaves 𝓛 ended hs c y vunit tt (w', (tt, tt)) (tt, (tt, tt)))))))
