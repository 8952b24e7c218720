-- Words that lie side by side are one row.
use Rattle.plain_words.proofs.Names.{◌≡◌, ℕ, ◌+◌, ◌++◌, [], ◌∷◌, length, refl, Val, SProp, emp, ‵, raw, ◌⊛◌, ◌$◌, ◌∵◌, !, qed, by, move, keep, split, fsplit, fjoin, use0, use2, rewrite, no_more, and_then, returns, enter, alloc_all, pass_all, free_all, look_at, get, sets, agg, tables, yes, RattleType, owns, types_at, plain, Ptr, nothing, heard, alive, Stays, stay_dropped, walk_of, Goes-dropped, fact, fact_i, proved, leaves, RawPtr}
use Rattle.plain_words.proofs.Made.{token_val, Token, token_told, token_made}
use Rattle.plain_words.specs.contracts.plain.PlainWords as plain_words
use Rattle.plain_words.specs.contracts.plain.PlainWords.join.{ended, clauses}
use Rattle.plain_words.specs.contracts.plain.PlainWords.join.Key.{name as #self}
use Rattle.plain_words.proofs.plain.PlainWords.join.Statement.{statement}
use Rattle.plain_words.proofs.plain.PlainWords.join.Code as code
use Rattle.plain_words.specs.Owned.{plain_owns}
use Rattle.plain_words.proofs.Rows.{glues}

pub join_spec : {M : Type 1} → statement M
join_spec 𝓤 𝓛 𝓜 𝓡 wired =
    let H = 𝓛.H in let 𝓣 = tables 𝓤 H 𝓜 𝓡 𝓡.env in let Pw : RattleType = plain_words.the_row in let c = clauses 𝓛 𝓜.mem 𝓡.returns in let fn = code.function in let used = plain (λ _. Pw) in
    let hs : Stays ended.signature.params ended.kept = (stay_dropped used yes, (stay_dropped used yes, tt)) in
    proved 𝓛 ended hs c 𝓜 𝓡 (Goes-dropped 𝓛 0 used yes (λ κs x f. refl), (Goes-dropped 𝓛 0 used yes (λ κs x f. refl), tt)) #self fn (code.unfolded 𝓤 H 𝓜 𝓡 wired)
    (λ κs. ((λ _. token_val ∷ []), ((λ _. token_val ∷ []), tt))) (λ κs. ((λ x vs so. token_told RawPtr vs so.0), ((λ x vs so. token_told RawPtr vs so.0), tt))) (λ κs qs bounds a gh are.
    let w : Pw.Denot = a.0 in let u : Pw.Denot = a.1.0 in let p : Ptr = w.at in let k : ℕ = w.first in let all_ = w.places ++ u.places in
    let y : (walk_of 𝓛 ended hs c).Ghost = ((κs, qs, bounds, a, (token_val ∷ [], (token_val ∷ [], tt))), gh) in let Post : Val → SProp 𝓤 = (walk_of 𝓛 ended hs c).post y in
    let Behind : Type 0 = (u.at ≡ p) × (u.first ≡ k + length w.places) in
    let r : Pw.Denot = record { mark = record {}; at = p; first = k; places = all_ } in let Told : Type 0 = (p ≡ p) × (k ≡ k) × (all_ ≡ all_) in
    qed 𝓛 ((raw (alive 𝓛 ended.signature κs qs) ⊛ ‵ (owns (types_at ended.signature.params κs) a y.0.4)) ∷ raw (fact 𝓤 Behind) ∷ []) ∵
    move ! (1 ∷ []) $ heard ! Behind (λ behind. split ! $ move ! (1 ∷ []) $ fsplit ! $ fsplit ! $ move ! (2 ∷ []) $ fsplit ! $ fsplit ! $ keep ! (4 ∷ 1 ∷ 5 ∷ []) $
    rewrite ! 1 (λ (x : Ptr × ℕ). ‵ (plain_owns x.0 x.1 u.places)) (λ i. (behind.0 i, behind.1 i)) refl $ use2 𝓛 (‵ (plain_owns p k all_)) (glues 𝓛 p k w.places u.places) $
    enter ! 𝓣.C 𝓣.Λ fn (token_val ∷ token_val ∷ []) Post $ alloc_all ! (λ l. pass_all ! refl ((tt, (tt, tt)), ((tt, (tt, tt)), tt)) $
    sets ! (agg ! (no_more !)) refl (tt, tt) $ sets ! (agg ! (and_then ! (get ! refl) (no_more !))) refl (tt, (tt, tt)) $
    use0 𝓛 (‵ ((Token RawPtr).own_val (record {}, tt) (token_val ∷ []))) (token_made RawPtr 𝓛) $ fjoin ! $
    use0 𝓛 (raw (fact 𝓤 Told)) (fact_i 𝓤 Told (emp 𝓤) (refl, refl, refl)) $ nothing ! $ nothing ! $ fjoin ! $ nothing ! $ fjoin ! $
    returns ! (look_at ! 0 refl) $ free_all ! refl $ keep ! (3 ∷ 0 ∷ 2 ∷ 1 ∷ []) $ by ! (leaves 𝓛 ended hs c y token_val r (tt, (tt, tt)) (tt, (tt, tt))))))
