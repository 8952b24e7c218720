-- The words are owned as they were.
use Rattle.plain_words.proofs.Names.{◌≡◌, [], ◌∷◌, refl, Val, SProp, emp, id⊢, ‵, raw, ◌⊛◌, ◌$◌, ◌∵◌, !, qed, by, move, keep, split, fsplit, fjoin, rewrite, use0, use1, no_more, and_then, returns, enter, alloc_all, pass_all, free_all, look_at, get, sets, agg, tables, yes, RattleType, owns, types_at, plain, nothing, heard, alive, Stays, stay_dropped, walk_of, Goes-dropped, fact, fact_i, proved, leaves, RawPtr}
use Rattle.plain_words.proofs.Made.{token_val, Token, token_made}
use Rattle.std.specs.Prelude.{Option, Some}
use Rattle.plain_words.specs.Owned.{plain_owns}
use Rattle.plain_words.specs.contracts.plain.PlainWords as plain_words
use Rattle.balloc_malloc.specs.Handing.{words_own}
use Rattle.balloc_malloc.specs.contracts.held.Held as held
use Rattle.balloc_malloc.specs.contracts.held.Held.into_words.{ended, clauses}
use Rattle.balloc_malloc.specs.contracts.held.Held.into_words.Key.{name as #self}
use Rattle.balloc_malloc.proofs.held.Held.into_words.Statement.{statement}
use Rattle.balloc_malloc.proofs.held.Held.into_words.Code as code
use Rattle.balloc_malloc.proofs.Kept.{bare_told}

pub into_words_spec : {M : Type 1} → statement M
into_words_spec 𝓤 𝓛 𝓜 𝓡 wired =
    let H = 𝓛.H in let 𝓣 = tables 𝓤 H 𝓜 𝓡 𝓡.env in let Pw : RattleType = plain_words.the_row in let He : RattleType = held.the_row in let c = clauses 𝓛 𝓜.mem 𝓡.returns in let fn = code.function in let used = plain (λ _. He) in
    let hs : Stays ended.signature.params ended.kept = (stay_dropped used yes, tt) in
    proved 𝓛 ended hs c 𝓜 𝓡 (Goes-dropped 𝓛 0 used yes (λ κs x f. refl), tt) #self fn (code.unfolded 𝓤 H 𝓜 𝓡 wired)
    (λ κs. ((λ _. token_val ∷ []), tt)) (λ κs. ((λ x vs so. bare_told vs so.0), tt)) (λ κs qs bounds a gh are.
    let x : He.Denot = a.0 in let Asked : Type 0 = (w : Pw.Denot) × (x.words ≡ Some w) in
    let y : (walk_of 𝓛 ended hs c).Ghost = ((κs, qs, bounds, a, (token_val ∷ [], tt)), gh) in let Post : Val → SProp 𝓤 = (walk_of 𝓛 ended hs c).post y in
    qed 𝓛 ((raw (alive 𝓛 ended.signature κs qs) ⊛ ‵ (owns (types_at ended.signature.params κs) a y.0.4)) ∷ raw (fact 𝓤 Asked) ∷ []) ∵
    move ! (1 ∷ []) $ heard ! Asked (λ asked. let w : Pw.Denot = asked.0 in
    split ! $ move ! (1 ∷ []) $ fsplit ! $ fsplit ! $ keep ! (1 ∷ 3 ∷ []) $ rewrite ! 0 (λ (o : Option Pw.Denot). ‵ (words_own o)) asked.1 refl $ use1 𝓛 (‵ (plain_owns w.at w.first w.places)) (id⊢ 𝓤 _) $
    -- [the words; no token]
    enter ! 𝓣.C 𝓣.Λ fn (token_val ∷ []) Post $ alloc_all ! (λ l. pass_all ! refl ((tt, (tt, tt)), tt) $
    sets ! (agg ! (no_more !)) refl (tt, tt) $ sets ! (agg ! (and_then ! (get ! refl) (no_more !))) refl (tt, (tt, tt)) $
    use0 𝓛 (‵ ((Token RawPtr).own_val (record {}, tt) (token_val ∷ []))) (token_made RawPtr 𝓛) $ fjoin ! $
    let Words : Type 0 = x.words ≡ Some w in
    use0 𝓛 (raw (fact 𝓤 Words)) (fact_i 𝓤 Words (emp 𝓤) asked.1) $ nothing ! $ nothing ! $ fjoin ! $
    returns ! (look_at ! 0 refl) $ free_all ! refl $ keep ! (3 ∷ 0 ∷ 2 ∷ 1 ∷ []) $ by ! (leaves 𝓛 ended hs c y token_val w (tt, tt) (tt, tt)))))
