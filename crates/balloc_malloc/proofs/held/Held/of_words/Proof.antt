-- The words are owned as they were.
use Rattle.plain_words.proofs.Names.{◌≡◌, [], refl, Val, SProp, emp, ‵, raw, ftrue, ◌⊛◌, ◌$◌, ◌∵◌, !, qed, by, move, keep, drop, split, fsplit, fjoin, use0, no_more, and_then, returns, enter, alloc_all, pass_all, free_all, look_at, get, sets, agg, tables, yes, RattleType, owns, types_at, plain, nothing, alive, Stays, stay_dropped, walk_of, Goes-dropped, fact, fact_i, proved, leaves, ◌∷◌, RawPtr}
use Rattle.plain_words.proofs.Made.{token_val, token_told}
use Rattle.std.specs.Prelude.{Option, Some}
use Rattle.plain_words.specs.contracts.plain.PlainWords as plain_words
use Rattle.balloc_malloc.specs.contracts.held.Held as held
use Rattle.balloc_malloc.specs.contracts.held.Held.of_words.{ended, clauses}
use Rattle.balloc_malloc.specs.contracts.held.Held.of_words.Key.{name as #self}
use Rattle.balloc_malloc.proofs.held.Held.of_words.Statement.{statement}
use Rattle.balloc_malloc.proofs.held.Held.of_words.Code as code
use Rattle.balloc_malloc.proofs.Kept.{Bare, bare_made}

pub of_words_spec : {M : Type 1} → statement M
of_words_spec 𝓤 𝓛 𝓜 𝓡 wired =
    let H = 𝓛.H in let 𝓣 = tables 𝓤 H 𝓜 𝓡 𝓡.env in let Pw : RattleType = plain_words.the_row in let c = clauses 𝓛 𝓜.mem 𝓡.returns in let fn = code.function in let used = plain (λ _. Pw) in
    let hs : Stays ended.signature.params ended.kept = (stay_dropped used yes, tt) in
    proved 𝓛 ended hs c 𝓜 𝓡 (Goes-dropped 𝓛 0 used yes (λ κs x f. refl), tt) #self fn (code.unfolded 𝓤 H 𝓜 𝓡 wired)
    (λ κs. ((λ _. token_val ∷ []), tt)) (λ κs. ((λ x vs so. token_told RawPtr vs so.0), tt)) (λ κs qs bounds a gh are.
    let w : Pw.Denot = a.0 in
    let y : (walk_of 𝓛 ended hs c).Ghost = ((κs, qs, bounds, a, (token_val ∷ [], tt)), gh) in let Post : Val → SProp 𝓤 = (walk_of 𝓛 ended hs c).post y in
    let x : (held.the_row).Denot = record { mark = record {}; words = Some w } in let is : Option Pw.Denot = Some w in let Told : Type 0 = is ≡ is in
    qed 𝓛 ((raw (alive 𝓛 ended.signature κs qs) ⊛ ‵ (owns (types_at ended.signature.params κs) a y.0.4)) ∷ ‵ ftrue ∷ []) ∵
    move ! (1 ∷ []) $ drop ! $ split ! $ move ! (1 ∷ []) $ fsplit ! $ fsplit ! $ keep ! (1 ∷ 3 ∷ []) $
    -- [the words; no token]
    enter ! 𝓣.C 𝓣.Λ fn (token_val ∷ []) Post $ alloc_all ! (λ l. pass_all ! refl ((tt, (tt, tt)), tt) $
    sets ! (agg ! (no_more !)) refl (tt, tt) $ sets ! (agg ! (and_then ! (get ! refl) (no_more !))) refl (tt, (tt, tt)) $
    use0 𝓛 (‵ (Bare.own_val (record {}, tt) (token_val ∷ []))) (bare_made 𝓛) $ fjoin ! $
    use0 𝓛 (raw (fact 𝓤 Told)) (fact_i 𝓤 Told (emp 𝓤) refl) $ nothing ! $ nothing ! $ fjoin ! $
    returns ! (look_at ! 0 refl) $ free_all ! refl $ keep ! (3 ∷ 0 ∷ 2 ∷ 1 ∷ []) $ by ! (leaves 𝓛 ended hs c y token_val x (tt, tt) (tt, tt))))
