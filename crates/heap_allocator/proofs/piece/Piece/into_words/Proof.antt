-- The label is read behind the memory, and the words are owned as before.
use Rattle.plain_words.proofs.Names.{◌≡◌, ℕ, ◌+◌, ◌-◌, ◌*◌, ◌^◌, ◌<◌, List, [], ◌∷◌, ◌++◌, length, sym, refl, ap, ◌∙◌, subst, arith, w64, Val, vint, SProp, emp, ent, id⊢, ftrue, ‵, raw, ◌⊛◌, at_ret, ◌$◌, ◌∵◌, !, qed, by, move, keep, drop, split, join, fsplit, fjoin, fpick, fpack, suffices, use0, use1, use2, feq_i, flt_i, stop, fld, lit, of_opd, bin, no_more, and_then, first, blocks, exec, returns, enter, alloc_all, pass_all, free_all, look_at, get, get_in, through, sets, env, sub, whole, agg, tables, yes, RattleType, owns, types_at, plain, Ptr, block_ptr, block_of, count_of, at_block, nothing, alive, Stays, stay_dropped, walk_of, Goes-dropped, fact, fact_i, u64, usize, Tuple, WpFn, proved, leaves, full_share, fat, sets_last, RawPtr}
use types.Kit.{rewrite}
use denote.Steps.{heard}
use denote.Plain.{uint_vals, uint_Tells}
use Rattle.heap_allocator.proofs.Rooms.{labelled-long}
use Rattle.plain_words.proofs.Made.{token_val, Token, token_made}
use lib.ListN.{length-replicate}
use mir.Syntax.{ty_int}
use types.Run.{load, look, well_typed}
use Rattle.core.proofs.tally.Steps.{word_in, word_out}
use Rattle.std_alloc.proofs.VecSteps.Shapes.{after}
use Rattle.std.specs.Prelude.{Some, None}
use Rattle.std.specs.Ptr.{ptr_add}
use Rattle.plain_words.specs.Places.{Place, laid, blanks}
use Rattle.plain_words.specs.Owned.{Lies, place, row}
use Rattle.plain_words.specs.contracts.plain.PlainWords as plain_words
use Rattle.plain_words.proofs.Rows.{cut, glue}
use Rattle.heap_allocator.specs.Pieces.{labelled}
use Rattle.heap_allocator.specs.contracts.piece.Piece as piece
use Rattle.heap_allocator.specs.contracts.piece.Piece.into_words.{ended, clauses}
use Rattle.heap_allocator.specs.contracts.piece.Piece.into_words.Key.{name as #self}
use Rattle.heap_allocator.proofs.piece.Piece.into_words.Statement.{statement}
use Rattle.heap_allocator.proofs.piece.Piece.into_words.Code as code
use Rattle.heap_allocator.proofs.Values.{piece_val, bare_told, two_val, two_of}

pub into_words_spec : {M : Type 1} → statement M
into_words_spec 𝓤 𝓛 𝓜 𝓡 wired =
    let H = 𝓛.H in let 𝓣 = tables 𝓤 H 𝓜 𝓡 𝓡.env in let Pw : RattleType = plain_words.the_row in let Pc : RattleType = piece.the_row in let c = clauses 𝓛 𝓜.mem 𝓡.returns in let fn = code.function in let used = plain (λ _. Pc) in
    let index = plain (λ _. usize) in
    let hs : Stays ended.signature.params ended.kept = (stay_dropped used yes, (stay_dropped index yes, tt)) in
    proved 𝓛 ended hs c 𝓜 𝓡 (Goes-dropped 𝓛 0 used yes (λ κs x f. refl), (Goes-dropped 𝓛 0 index yes (λ κs x f. refl), tt)) #self fn (code.unfolded 𝓤 H 𝓜 𝓡 wired)
    (λ κs. ((λ x. piece_val x.memory x.size ∷ []), (uint_vals w64, tt))) (λ κs. ((λ x vs so. (bare_told x.memory x.size vs so.0).0), (uint_Tells w64, tt))) (λ κs qs bounds a gh are.
    let x : Pc.Denot = a.0 in let n : ℕ = x.size in let p : Ptr = x.at in let k : ℕ = a.1.0 in let label : ℕ = x.label in let back : List Place = laid label ∷ [] in let all_ : List Place = labelled x.count label in
    let y : (walk_of 𝓛 ended hs c).Ghost = ((κs, qs, bounds, a, (piece_val x.memory n ∷ [], (vint w64 k ∷ [], tt))), gh) in let Post : Val → SProp 𝓤 = (walk_of 𝓛 ended hs c).post y in
    let w : Pw.Denot = record { mark = record {}; at = p; first = x.first; places = all_ } in let out : Val = two_val (vint w64 label) token_val in let Label : Type 0 = label ≡ label in let Words : Type 0 = (p ≡ p) × (x.first ≡ x.first) × (all_ ≡ all_) in
    let Last : Type 0 = k + 1 ≡ x.count in
    qed 𝓛 ((raw (alive 𝓛 ended.signature κs qs) ⊛ ‵ (owns (types_at ended.signature.params κs) a y.0.4)) ∷ raw (fact 𝓤 Last) ∷ []) ∵
    move ! (1 ∷ []) $ heard ! Last (λ last. split ! $ move ! (1 ∷ []) $ fsplit ! $ fsplit ! $ keep ! (1 ∷ 3 ∷ []) $ fsplit ! $ fpick ! (λ lies. drop ! $
    -- [the row; no token]
    let b : ℕ = block_of p in let f : ℕ = count_of p in let o : ℕ = x.first * 8 + f in let where_ : x.memory ≡ block_ptr b o = x.placed.0 ∙ ap (ptr_add u64 x.first) (at_block p lies.0) in let there : ℕ = k * 8 + o in let end : ℕ = k + x.first in let ends : end * 8 + f ≡ there = omega arith in
    let fits : n < 2 ^ 64 = (bare_told x.memory n _ are.0.0).1 in let before : x.count - 1 ≡ k = omega (arith, last) in
    let long : length all_ ≡ x.count = labelled-long x.count label (omega (arith, last)) in let bytes : k * 8 < 2 ^ 64 = omega (arith, long, last, lies.1) in
    let far : end ≡ length (blanks k) + x.first = ap (λ (j : ℕ). j + x.first) (sym (length-replicate k (Some None))) in
    let us : Ptr → List Val = λ q. piece_val q n ∷ vint w64 k ∷ [] in let Run : List Val → SProp 𝓤 = λ vs. WpFn 𝓤 H 𝓣.C 𝓣.Λ fn vs Post in
    suffices ! (Run (us (block_ptr b o))) (subst (λ (q : Ptr). ent 𝓤 (Run (us (block_ptr b o))) (Run (us q))) (sym where_) (id⊢ 𝓤 (Run (us (block_ptr b o))))) $
    rewrite ! 0 (λ (j : ℕ). ‵ (row b f x.first (blanks j ++ back))) before refl $
    use1 𝓛 (‵ (row b f x.first (blanks k)) ⊛ ‵ (row b f end back)) (cut 𝓛 b f (blanks k) back x.first end far) $ split ! $ move ! (1 ∷ []) $ fsplit ! $ fsplit ! $ rewrite ! 0 (λ (j : ℕ). ‵ (place b j (laid label))) ends refl $
    use1 𝓛 (‵ (fat full_share (ty_int w64) b there (vint w64 label))) (word_out 𝓛 b there label) $ well_typed ! (λ good.
    -- [the label; what goes with it; no more words; the words; no token]
    enter ! 𝓣.C 𝓣.Λ fn (us (block_ptr b o)) Post $ alloc_all ! (λ l. pass_all ! refl ((tt, (tt, (record { fits = fits }, tt))), ((tt, record { fits = are.1.0.1 }), tt)) $ let Ev = env fn.locals l in
    sets ! (of_opd ! (get_in ! (fld ! refl (stop !)) (sub ! 0 refl (whole !)))) refl (tt, tt) $ first ! $ blocks ! $
    sets ! (of_opd ! (get ! refl)) refl (tt, tt) $ sets ! (bin ! (get ! refl) (lit ! tt) (record { fits = bytes })) refl (tt, record { fits = bytes }) $
    sets ! (bin ! (get ! refl) (get ! refl) tt) refl (tt, tt) $ sets_last ! (of_opd ! (load ! (through ! refl (stop !)) (look ! 0 refl))) refl good $
    exec ! 𝓣.C 𝓣.Λ Ev (after 2 fn.body) (at_ret Ev Post) $ sets ! (of_opd ! (get ! refl)) refl good $
    sets ! (agg ! (no_more !)) refl (tt, tt) $ sets ! (agg ! (and_then ! (get ! refl) (no_more !))) refl (tt, (tt, tt)) $ sets ! (agg ! (and_then ! (get ! refl) (and_then ! (get ! refl) (no_more !)))) refl (tt, (good.1, ((tt, tt), tt))) $
    use1 𝓛 (‵ (place b there (laid label))) (word_in 𝓛 b there label) $ rewrite ! 0 (λ (j : ℕ). ‵ (place b j (laid label))) (sym ends) refl $ fjoin ! $ fjoin ! $ move ! (1 ∷ 0 ∷ []) $
    use2 𝓛 (‵ (row b f x.first (blanks k ++ back))) (glue 𝓛 b f (blanks k) back x.first end far) $ rewrite ! 0 (λ (j : ℕ). ‵ (row b f x.first (blanks j ++ back))) (sym before) refl $
    nothing ! $ fpack ! (Lies p (x.first + length all_)) (λ _. ftrue) lies $ fjoin ! $ use0 𝓛 (‵ ((Token RawPtr).own_val (record {}, tt) (token_val ∷ []))) (token_made RawPtr 𝓛) $ fjoin ! $
    flt_i ! label (2 ^ 64) good.1.fits $ feq_i ! (List Val) (vint w64 label ∷ []) (vint w64 label ∷ []) refl $ fjoin ! $
    use2 𝓛 (‵ ((Tuple (u64 ∷ Pw ∷ [])).own_val (label, w) (out ∷ []))) (two_of 𝓛 u64 Pw label w (vint w64 label) token_val) $
    use0 𝓛 (raw (fact 𝓤 Words)) (fact_i 𝓤 Words (emp 𝓤) (refl, refl, refl)) $ use0 𝓛 (raw (fact 𝓤 Label)) (fact_i 𝓤 Label (emp 𝓤) refl) $ join ! $ nothing ! $ nothing ! $ fjoin ! $ nothing ! $ fjoin ! $
    returns ! (look_at ! 0 refl) $ free_all ! refl $ keep ! (3 ∷ 0 ∷ 2 ∷ 1 ∷ []) $ by ! (leaves 𝓛 ended hs c y out (label, w) (tt, (tt, tt)) (tt, (tt, tt))))))))
