-- The words are cut in two.
use Rattle.plain_words.proofs.Names.{◌≡◌, ℕ, ◌+◌, ◌≤◌, List, [], ◌∷◌, length, refl, w64, Val, vint, vstruct, vcons, vnil, SProp, emp, ‵, raw, ◌⊛◌, ◌$◌, ◌∵◌, !, qed, by, move, keep, split, join, fsplit, fjoin, fjoin3, fpack, use0, use1, feq_i, no_more, and_then, returns, enter, alloc_all, pass_all, free_all, look_at, get, sets, agg, tables, yes, RattleType, owns, Valss, types_at, plain, Ptr, nothing, heard, alive, Stays, stay_dropped, walk_of, Goes-dropped, fact, fact_i, usize, uint_vals, uint_Tells, proved, leaves, RawPtr}
use Rattle.plain_words.proofs.Made.{token_val, Token, token_told, token_made}
use Rattle.plain_words.specs.contracts.plain.PlainWords as plain_words
use Rattle.plain_words.specs.contracts.plain.PlainWords.split.{ended, clauses}
use Rattle.plain_words.specs.contracts.plain.PlainWords.split.Key.{name as #self}
use Rattle.plain_words.proofs.plain.PlainWords.split.Statement.{statement}
use Rattle.plain_words.proofs.plain.PlainWords.split.Code as code
use lib.ListN.{take}
use lib.ListN.{drop as drop_l}
use denote.Struct.Struct.{within}
use denote.Struct.Declared as declared
use denote.Struct.Tuple.{tuple_type}
use Rattle.plain_words.specs.Owned.{plain_owns}
use Rattle.plain_words.proofs.Rows.{cuts}

pub split_spec : {M : Type 1} → statement M
split_spec 𝓤 𝓛 𝓜 𝓡 wired =
    let H = 𝓛.H in let 𝓣 = tables 𝓤 H 𝓜 𝓡 𝓡.env in let Pw : RattleType = plain_words.the_row in let c = clauses 𝓛 𝓜.mem 𝓡.returns in let fn = code.function in
    let hs : Stays ended.signature.params ended.kept = (stay_dropped (plain (λ _. Pw)) yes, (stay_dropped (plain (λ _. usize)) yes, tt)) in
    proved 𝓛 ended hs c 𝓜 𝓡 (Goes-dropped 𝓛 0 (plain (λ _. Pw)) yes (λ κs x f. refl), (Goes-dropped 𝓛 0 (plain (λ _. usize)) yes (λ κs x f. refl), tt)) #self fn (code.unfolded 𝓤 H 𝓜 𝓡 wired)
    (λ κs. ((λ _. token_val ∷ []), (uint_vals w64, tt))) (λ κs. ((λ x vs so. token_told RawPtr vs so.0), (uint_Tells w64, tt))) (λ κs qs bounds a gh are.
    let w : Pw.Denot = a.0 in let n : ℕ = a.1.0 in let p : Ptr = w.at in let k : ℕ = w.first in
    let y : (walk_of 𝓛 ended hs c).Ghost = ((κs, qs, bounds, a, (token_val ∷ [], (vint w64 n ∷ [], tt))), gh) in let Post : Val → SProp 𝓤 = (walk_of 𝓛 ended hs c).post y in
    let r₀ : Pw.Denot = record { mark = record {}; at = p; first = k; places = take n w.places } in let r₁ : Pw.Denot = record { mark = record {}; at = p; first = k + n; places = drop_l n w.places } in
    let First : Type 0 = (p ≡ p) × (k ≡ k) × (r₀.places ≡ r₀.places) in let Others : Type 0 = (p ≡ p) × (k + n ≡ k + n) × (r₁.places ≡ r₁.places) in let pair : Val = vstruct (vcons token_val (vcons token_val vnil)) in
    qed 𝓛 ((raw (alive 𝓛 ended.signature κs qs) ⊛ ‵ (owns (types_at ended.signature.params κs) a y.0.4)) ∷ raw (fact 𝓤 (n ≤ length w.places)) ∷ []) ∵
    move ! (1 ∷ []) $ heard ! (n ≤ length w.places) (λ le. split ! $ move ! (1 ∷ []) $ fsplit ! $ fsplit ! $ keep ! (1 ∷ 3 ∷ []) $
    use1 𝓛 (‵ (plain_owns p k r₀.places) ⊛ ‵ (plain_owns p (k + n) r₁.places)) (cuts 𝓛 p k n w.places le) $ split ! $
    enter ! 𝓣.C 𝓣.Λ fn (token_val ∷ vint w64 n ∷ []) Post $ alloc_all ! (λ l. pass_all ! refl ((tt, (tt, tt)), ((tt, record { fits = are.1.0.1 }), tt)) $
    sets ! (agg ! (no_more !)) refl (tt, tt) $ sets ! (agg ! (and_then ! (get ! refl) (no_more !))) refl (tt, (tt, tt)) $ sets ! (agg ! (no_more !)) refl (tt, tt) $ sets ! (agg ! (and_then ! (get ! refl) (no_more !))) refl (tt, (tt, tt)) $
    sets ! (agg ! (and_then ! (get ! refl) (and_then ! (get ! refl) (no_more !)))) refl (tt, ((tt, tt), ((tt, tt), tt))) $
    use0 𝓛 (‵ ((Token RawPtr).own_val (record {}, tt) (token_val ∷ []))) (token_made RawPtr 𝓛) $ fjoin ! $ move ! (1 ∷ []) $
    use0 𝓛 (‵ ((Token RawPtr).own_val (record {}, tt) (token_val ∷ []))) (token_made RawPtr 𝓛) $ fjoin ! $ nothing ! $ move ! (2 ∷ 1 ∷ 0 ∷ []) $ fjoin3 ! $ feq_i ! (List Val) (pair ∷ []) (pair ∷ []) refl $ fjoin ! $
    fpack ! (Valss (Pw ∷ Pw ∷ [])) (within (declared.shape (tuple_type (Pw ∷ Pw ∷ []))) (r₀, (r₁, tt)) (pair ∷ [])) (token_val ∷ [], (token_val ∷ [], tt)) $
    use0 𝓛 (raw (fact 𝓤 Others)) (fact_i 𝓤 Others (emp 𝓤) (refl, refl, refl)) $ use0 𝓛 (raw (fact 𝓤 First)) (fact_i 𝓤 First (emp 𝓤) (refl, refl, refl)) $ join ! $ nothing ! $ nothing ! $ fjoin ! $ nothing ! $ fjoin ! $
    returns ! (look_at ! 0 refl) $ free_all ! refl $ keep ! (3 ∷ 0 ∷ 2 ∷ 1 ∷ []) $ by ! (leaves 𝓛 ended hs c y pair (r₀, r₁) (tt, (tt, tt)) (tt, (tt, tt))))))
