-- The words come in by the first of them.
use Rattle.plain_words.proofs.Names.{ℕ, ◌^◌, ◌<◌, List, [], ◌∷◌, refl, ap, w64, named, Val, vint, vptr, SProp, emp, ‵, raw, ◌⊛◌, some, later, ◌$◌, ◌∵◌, !, qed, by, move, keep, split, join, pick, drop, fsplit, fjoin, await, use0, use1, feq_i, flt_i, stop, no_more, and_then, returns, enter, alloc_all, pass_all, free_all, look_at, get, through, sets, agg, tables, yes, RattleType, owns, types_at, plain, nothing, heard, alive, Stays, stay_dropped, walk_of, Goes-dropped, fact, fact_i, id⊢, usize, mut_vals, mut_Tells, uint_vals, uint_Tells, proved, leaves, RawPtr}
use Rattle.plain_words.proofs.Made.{token_val, Token, token_made}
use Rattle.std.proofs.Common.{w32}
use types.Run.{addr}
use types.ByLocal.{lands_as}
use denote.Builtin.{u32}
use denote.Laws.{shows}
use denote.Steps.{peeks, only}
use denote.Triple.Call.{calls_at}
use denote.Triple.Clauses.{Lasts, lasts}
use denote.Triple.Spec.{triple_of}
use denote.Triple.Walked.{gave_ref, Goes-gave_ref}
use Rattle.std.specs.Prelude.{Some}
use Rattle.core.proofs.atomic.Steps.{fm}
use Rattle.plain_words.specs.declared.plain.PlainWords.{PlainWords}
use Rattle.plain_words.specs.Owned.{plain_owns}
use Rattle.balloc_malloc.specs.Bundles.{Puts}
use Rattle.balloc_malloc.specs.Handing.{words_own}
use Rattle.balloc_malloc.specs.declared.bundle.Bundle.{Bundle}
use Rattle.balloc_malloc.specs.contracts.bundle.Bundle as bundle
use Rattle.balloc_malloc.specs.contracts.calls.put as putting
use Rattle.balloc_malloc.proofs.calls.put.Met.{met as puts}
use Rattle.balloc_malloc.specs.contracts.balloc_malloc_put.{ended, clauses}
use Rattle.balloc_malloc.specs.contracts.balloc_malloc_put.Key.{name as #self}
use Rattle.balloc_malloc.proofs.balloc_malloc_put.Statement.{statement}
use Rattle.balloc_malloc.proofs.balloc_malloc_put.Code as code

pub balloc_malloc_put_spec : {M : Type 1} → statement M
balloc_malloc_put_spec 𝓤 𝓛 𝓜 𝓡 wired =
    let H = 𝓛.H in let 𝓣 = tables 𝓤 H 𝓜 𝓡 𝓡.env in let Bu : RattleType = bundle.the_row in let Un : RattleType = usize in let c = clauses 𝓛 𝓜.mem 𝓡.returns in let fn = code.function in
    let one = plain (λ _. Bu) in let number = plain (λ _. u32) in
    let hs : Stays ended.signature.params ended.kept = (gave_ref (0 ∷ []) tt one, (stay_dropped number yes, (stay_dropped number yes, tt))) in
    proved 𝓛 ended hs c 𝓜 𝓡 (Goes-gave_ref 𝓛 1 0 tt one, (Goes-dropped 𝓛 1 number yes (λ κs x f. refl), (Goes-dropped 𝓛 1 number yes (λ κs x f. refl), tt))) #self fn (code.unfolded 𝓤 H 𝓜 𝓡 wired)
    (λ κs. (mut_vals, (uint_vals w32, (uint_vals w32, tt)))) (λ κs. (mut_Tells (named 0) κs.0 Bu, (uint_Tells w32, (uint_Tells w32, tt)))) (λ κs qs bounds a gh are.
    let s = a.0 in let i : ℕ = a.1.0 in let n : ℕ = a.1.1.0 in let w : PlainWords = gh in let sb : ℕ = s.ref_ptr.0 in let so : ℕ = s.ref_ptr.1 in let was = s.now in
    let y : (walk_of 𝓛 ended hs c).Ghost = ((κs, qs, bounds, a, (vptr sb so ∷ [], (vint w32 i ∷ [], (vint w32 n ∷ [], tt)))), gh) in let Post : Val → SProp 𝓤 = (walk_of 𝓛 ended hs c).post y in
    let k = triple_of 𝓛 putting.signature (putting.spec 𝓛 𝓜.mem 𝓡.returns) in let z : k.Ghost = ((κs, qs, bounds, (s, (w, (i, (n, tt)))), (vptr sb so ∷ [], (token_val ∷ [], (vint w32 i ∷ [], (vint w32 n ∷ [], tt))))), tt) in
    let Asked : Type 0 = was.count < 32 in
    qed 𝓛 ((raw (alive 𝓛 ended.signature κs qs) ⊛ ‵ (owns (types_at ended.signature.params κs) a y.0.4)) ∷ raw (fact 𝓤 Asked) ∷ ‵ (words_own (Some w)) ∷ []) ∵
    move ! (1 ∷ []) $ heard ! Asked (λ asked. split ! $ move ! (1 ∷ []) $ fsplit ! $ move ! (1 ∷ []) $ fsplit ! $ move ! (1 ∷ []) $ fsplit ! $ keep ! (5 ∷ 3 ∷ 2 ∷ 0 ∷ 4 ∷ []) $
    -- [the words; the seat; the first word; the size; the token of its loan]
    enter ! 𝓣.C 𝓣.Λ fn (vptr sb so ∷ vint w32 i ∷ vint w32 n ∷ []) Post $ alloc_all ! (λ l. pass_all ! refl ((tt, tt), ((tt, record { fits = are.1.0.1 }), ((tt, record { fits = are.1.1.0.1 }), tt))) $
    sets ! (agg ! (no_more !)) refl (tt, tt) $ sets ! (agg ! (and_then ! (get ! refl) (no_more !))) refl (tt, (tt, tt)) $ sets ! (addr ! (through ! refl (stop !))) refl (tt, tt) $
    use1 𝓛 (‵ (plain_owns w.at w.first w.places)) (id⊢ 𝓤 _) $ use0 𝓛 (‵ ((Token RawPtr).own_val (record {}, tt) (token_val ∷ []))) (token_made RawPtr 𝓛) $ fjoin ! $ nothing ! $ move ! (4 ∷ 0 ∷ []) $ fjoin ! $ move ! (3 ∷ 0 ∷ []) $ fjoin ! $ move ! (1 ∷ 0 ∷ []) $ fjoin ! $ move ! (1 ∷ 0 ∷ []) $ fjoin ! $ move ! (1 ∷ 0 ∷ []) $ join ! $
    use0 𝓛 (raw (fact 𝓤 Asked)) (fact_i 𝓤 Asked (emp 𝓤) asked) $ move ! (1 ∷ 0 ∷ []) $ join ! $ use1 𝓛 (raw (k.pre z)) (id⊢ 𝓤 _) $
    calls_at ! (fm 𝓛 𝓜 𝓡) k (puts 𝓤 𝓛 𝓜 𝓡 (code.calls-balloc_malloc::calls::put 𝓡.env wired)) z (and_then ! (get ! refl) (and_then ! (get ! refl) (and_then ! (get ! refl) (and_then ! (get ! refl) (no_more !))))) (λ v.
    let Told : ℕ → Bundle → Type 0 = λ r t. Puts was w i n r t in
    use1 𝓛 (later (some (λ (r : Un.Denot). (raw (alive 𝓛 ended.signature κs qs) ⊛ ‵ (Un.own_val r (v ∷ []))) ⊛ some (λ (ls : Lasts putting.ended κs z.0.3). ‵ (lasts putting.ended κs z.0.3 ls) ⊛ raw (fact 𝓤 (Told r ls.0)))))) (id⊢ 𝓤 (k.post z v)) $
    await ! tt $ pick ! (λ r. split ! $ move ! (1 ∷ []) $ pick ! (λ ls. split ! $ move ! (1 ∷ []) $ heard ! (Told r ls.0) (λ told. fsplit ! $ move ! (2 ∷ []) $ split ! $ move ! (1 ∷ []) $
    peeks ! Un _ (shows 𝓛 Un) r (v ∷ []) (λ is. let fits : r < 2 ^ 64 = is.1 in drop ! $
    nothing ! $ nothing ! $ fjoin ! $ nothing ! $ fjoin ! $ move ! (2 ∷ 0 ∷ []) $ fjoin ! $ move ! (1 ∷ 0 ∷ []) $
    -- [the token; the last values]
    lands_as ! (ap only is.0) refl (tt, record { fits = fits }) $
    use0 𝓛 (raw (fact 𝓤 (Told r ls.0))) (fact_i 𝓤 (Told r ls.0) (emp 𝓤) told) $ flt_i ! r (2 ^ 64) fits $ feq_i ! (List Val) (vint w64 r ∷ []) (vint w64 r ∷ []) refl $ fjoin ! $
    returns ! (look_at ! 0 refl) $ free_all ! refl $ keep ! (2 ∷ 3 ∷ 0 ∷ 1 ∷ []) $ by ! (leaves 𝓛 ended hs c y (vint w64 r) r (ls.0, (tt, (tt, tt))) (tt, (tt, (tt, tt))))))))))))
