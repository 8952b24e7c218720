-- The pointer leads to words that others own.
use Rattle.plain_words.proofs.Names.{◌≡◌, ℕ, ◌+◌, ◌*◌, ◌^◌, ◌<◌, [], ◌∷◌, sym, refl, ap, arith, w64, Val, vint, SProp, emp, ‵, raw, ◌⊛◌, at_ret, ◌$◌, ◌∵◌, !, qed, by, move, keep, split, fjoin, use0, rewrite, stop, fld, lit, of_opd, bin, no_more, and_then, first, blocks, exec, returns, enter, alloc_all, pass_all, free_all, look_at, get, get_in, sets, env, sub, whole, agg, tables, yes, RattleType, owns, types_at, plain, Ptr, block_ptr, block_of, count_of, at_block, nothing, heard, alive, Stays, stay_dropped, walk_of, Goes-dropped, fact, fact_i, u64, usize, uint_vals, uint_Tells, proved, leaves, tail, full_share, fat, take_at, give_at, sets_last}
use Rattle.plain_words.proofs.Made.{start_val, start_told, start_good}
use Rattle.std.proofs.Common.{w32}
use denote.Builtin.{u32}
use denote.Param.{layout}
use Rattle.std.specs.Prelude.{Option, None}
use Rattle.std.specs.Ptr.{ptr_add}
use Rattle.plain_words.specs.Owned.{Lies}
use Rattle.plain_words.specs.declared.plain.PlainWords.{PlainWords}
use Rattle.plain_words.specs.contracts.plain.Start as start
use Rattle.balloc_c.specs.contracts.handed.Handed as handed
use Rattle.balloc_c.specs.contracts.handed.Handed.again.{ended, clauses}
use Rattle.balloc_c.specs.contracts.handed.Handed.again.Key.{name as #self}
use Rattle.balloc_c.proofs.handed.Handed.again.Statement.{statement}
use Rattle.balloc_c.proofs.handed.Handed.again.Code as code
use Rattle.balloc_c.proofs.Values.{handed_val, Bare, bare_made}

pub again_spec : {M : Type 1} → statement M
again_spec 𝓤 𝓛 𝓜 𝓡 wired =
    let H = 𝓛.H in let 𝓣 = tables 𝓤 H 𝓜 𝓡 𝓡.env in let St : RattleType = start.the_row in let c = clauses 𝓛 𝓜.mem 𝓡.returns in let fn = code.function in
    let there = plain (λ _. St) in let count = plain (λ _. usize) in let number = plain (λ _. u32) in
    let hs : Stays ended.signature.params ended.kept = (stay_dropped there yes, (stay_dropped count yes, (stay_dropped number yes, tt))) in
    proved 𝓛 ended hs c 𝓜 𝓡 (Goes-dropped 𝓛 0 there yes (λ κs x f. refl), (Goes-dropped 𝓛 0 count yes (λ κs x f. refl), (Goes-dropped 𝓛 0 number yes (λ κs x f. refl), tt))) #self fn (code.unfolded 𝓤 H 𝓜 𝓡 wired)
    (λ κs. ((λ x. start_val x.at ∷ []), (uint_vals w64, (uint_vals w32, tt)))) (λ κs. (start_told, (uint_Tells w64, (uint_Tells w32, tt)))) (λ κs qs bounds a gh are.
    let u : Ptr = a.0.at in let i : ℕ = a.1.0 in let n : ℕ = a.1.1.0 in let Asked : Type 0 = Lies u i in
    let y : (walk_of 𝓛 ended hs c).Ghost = ((κs, qs, bounds, a, (start_val u ∷ [], (vint w64 i ∷ [], (vint w32 n ∷ [], tt)))), gh) in let Post : Val → SProp 𝓤 = (walk_of 𝓛 ended hs c).post y in
    qed 𝓛 ((raw (alive 𝓛 ended.signature κs qs) ⊛ ‵ (owns (types_at ended.signature.params κs) a y.0.4)) ∷ raw (fact 𝓤 Asked) ∷ []) ∵
    move ! (1 ∷ []) $ heard ! Asked (λ lies. split ! $ keep ! (0 ∷ []) $
    -- [no token]
    let b : ℕ = block_of u in let f : ℕ = count_of u in let there_ : u ≡ block_ptr b f = at_block u lies.0 in
    let fits : n < 2 ^ 32 = are.1.1.0.1 in let room : i * 8 < 2 ^ 63 = lies.1 in let small : i * 8 < 2 ^ 64 = omega (arith, room) in
    let q : Ptr = block_ptr b (i * 8 + f) in let begins : q ≡ ptr_add u64 i u = sym (ap (ptr_add u64 i) there_) in
    let x : (handed.the_row).Denot = record { memory = q; code = n; words = None } in let is : Option PlainWords = None in let Told : Type 0 = (q ≡ ptr_add u64 i u) × (n ≡ n) × (is ≡ is) in
    enter ! 𝓣.C 𝓣.Λ fn (start_val u ∷ vint w64 i ∷ vint w32 n ∷ []) Post $ alloc_all ! (λ l. pass_all ! refl (start_good u, ((tt, record { fits = are.1.0.1 }), ((tt, record { fits = fits }), tt))) $ let Ev = env fn.locals l in
    take_at ! 1 $ rewrite ! 0 (λ (z : Ptr). ‵ (fat full_share (layout St) (l 1) 0 (start_val z))) there_ refl $ give_at ! 1 $ first ! $ blocks ! $
    sets ! (bin ! (get ! refl) (lit ! tt) (record { fits = small })) refl (tt, record { fits = small }) $
    sets_last ! (bin ! (get_in ! (fld ! refl (stop !)) (sub ! 0 refl (whole !))) (get ! refl) tt) refl (tt, tt) $ exec ! 𝓣.C 𝓣.Λ Ev (tail fn.body) (at_ret Ev Post) $
    sets ! (of_opd ! (get ! refl)) refl (tt, tt) $ sets ! (agg ! (and_then ! (get ! refl) (and_then ! (get ! refl) (no_more !)))) refl (tt, (tt, (record { fits = fits }, tt))) $
    nothing ! $ use0 𝓛 (‵ (Bare.own_val (q, (n, tt)) (handed_val q n ∷ []))) (bare_made 𝓛 q n fits) $ fjoin ! $
    use0 𝓛 (raw (fact 𝓤 Told)) (fact_i 𝓤 Told (emp 𝓤) (begins, refl, refl)) $ nothing ! $ nothing ! $ fjoin ! $ nothing ! $ fjoin ! $ nothing ! $ fjoin ! $
    returns ! (look_at ! 0 refl) $ free_all ! refl $ keep ! (3 ∷ 0 ∷ 2 ∷ 1 ∷ []) $ by ! (leaves 𝓛 ended hs c y (handed_val q n) x (tt, (tt, (tt, tt))) (tt, (tt, (tt, tt)))))))
