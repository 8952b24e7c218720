-- No words are owned.
use Rattle.plain_words.proofs.Names.{◌≡◌, ℕ, ◌^◌, ◌<◌, [], ◌∷◌, refl, Val, vint, SProp, emp, ftrue, ‵, raw, ◌⊛◌, ◌$◌, ◌∵◌, !, qed, by, move, keep, drop, split, fjoin, use0, lit, no_more, and_then, returns, enter, alloc_all, pass_all, free_all, look_at, get, sets, agg, tables, yes, owns, types_at, plain, nothing, alive, Stays, stay_dropped, walk_of, Goes-dropped, fact, fact_i, uint_vals, uint_Tells, proved, leaves}
use Rattle.std.proofs.Common.{w32}
use lib.Dec.{lit<}
use denote.Builtin.{u32}
use denote.RawPtr.{Ptr, null_ptr}
use Rattle.std.specs.Prelude.{Option, None}
use Rattle.plain_words.specs.declared.plain.PlainWords.{PlainWords}
use Rattle.balloc_c.specs.contracts.handed.Handed as handed
use Rattle.balloc_c.specs.contracts.handed.Handed.none.{ended, clauses}
use Rattle.balloc_c.specs.contracts.handed.Handed.none.Key.{name as #self}
use Rattle.balloc_c.proofs.handed.Handed.none.Statement.{statement}
use Rattle.balloc_c.proofs.handed.Handed.none.Code as code
use Rattle.balloc_c.proofs.Values.{handed_val, Bare, bare_made}

pub none_spec : {M : Type 1} → statement M
none_spec 𝓤 𝓛 𝓜 𝓡 wired =
    let H = 𝓛.H in let 𝓣 = tables 𝓤 H 𝓜 𝓡 𝓡.env in let c = clauses 𝓛 𝓜.mem 𝓡.returns in let fn = code.function in let number = plain (λ _. u32) in
    let hs : Stays ended.signature.params ended.kept = (stay_dropped number yes, tt) in
    proved 𝓛 ended hs c 𝓜 𝓡 (Goes-dropped 𝓛 0 number yes (λ κs x f. refl), tt) #self fn (code.unfolded 𝓤 H 𝓜 𝓡 wired)
    (λ κs. (uint_vals w32, tt)) (λ κs. (uint_Tells w32, tt)) (λ κs qs bounds a gh are.
    let n : ℕ = a.0 in let fits : n < 2 ^ 32 = are.0.1 in
    let y : (walk_of 𝓛 ended hs c).Ghost = ((κs, qs, bounds, a, (vint w32 n ∷ [], tt)), gh) in let Post : Val → SProp 𝓤 = (walk_of 𝓛 ended hs c).post y in
    let x : (handed.the_row).Denot = record { memory = null_ptr; code = n; words = None } in let at : Ptr = null_ptr in let is : Option PlainWords = None in let Told : Type 0 = (at ≡ at) × (n ≡ n) × (is ≡ is) in
    qed 𝓛 ((raw (alive 𝓛 ended.signature κs qs) ⊛ ‵ (owns (types_at ended.signature.params κs) a y.0.4)) ∷ ‵ ftrue ∷ []) ∵
    move ! (1 ∷ []) $ drop ! $ split ! $ keep ! (0 ∷ []) $
    enter ! 𝓣.C 𝓣.Λ fn (vint w32 n ∷ []) Post $ alloc_all ! (λ l. pass_all ! refl ((tt, record { fits = fits }), tt) $
    sets ! (agg ! (and_then ! (lit ! tt) (and_then ! (get ! refl) (no_more !)))) refl (tt, (record { fits = lit< tt }, (record { fits = fits }, tt))) $
    nothing ! $ use0 𝓛 (‵ (Bare.own_val (null_ptr, (n, tt)) (handed_val null_ptr n ∷ []))) (bare_made 𝓛 null_ptr n fits) $ fjoin ! $
    use0 𝓛 (raw (fact 𝓤 Told)) (fact_i 𝓤 Told (emp 𝓤) (refl, refl, refl)) $ nothing ! $ nothing ! $ fjoin ! $
    returns ! (look_at ! 0 refl) $ free_all ! refl $ keep ! (3 ∷ 0 ∷ 2 ∷ 1 ∷ []) $ by ! (leaves 𝓛 ended hs c y (handed_val null_ptr n) x (tt, tt) (tt, tt))))
