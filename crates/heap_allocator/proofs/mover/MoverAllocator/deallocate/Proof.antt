-- The room becomes the piece again, which goes back. Assumes `Logic`.
use Rattle.plain_words.proofs.Names.{◌≡◌, ℕ, ◌^◌, ◌<◌, ◌≤◌, List, [], ◌∷◌, ◌++◌, sym, refl, ap, ◌∙◌, subst, arith, w64, Val, vunit, vint, vptr, SProp, emp, id⊢, ftrue, sem, ‵, raw, ◌⊛◌, some, later, ◌$◌, ◌∵◌, !, qed, by, move, keep, drop, split, split3, join, pick, fsplit, fjoin, fpick, await, use0, use1, use2, feq_i, flt_i, of_opd, unit_lit, no_more, and_then, returns, enter, alloc_all, pass_all, free_all, look_at, get, sets, env, agg, tables, owns, types_at, Ptr, ptr_val, nothing, heard, alive, Stays, stay_dropped, walk_of, Goes-dropped, fact, fact_i, WpFn, Env, apply∗, leaves}
use mir.Syntax.{Ty, Fn}
use prog.Memory.{size, align, capped}
use prog.Capped.{capped_is}
use base.Fml.{Fml, fsep}
use types.Kit.{prop, regoal, feq_l}
use types.ByLocal.{lands_as}
use denote.Builtin.{unit}
use denote.RawPtr.{room_for}
use denote.Steps.{only}
use denote.Triple.Call.{calls_at}
use denote.Triple.Clauses.{Lasts, lasts}
use denote.Triple.Spec.{triple_of}
use Rattle.core.proofs.atomic.Steps.{fm}
use Rattle.std.proofs.raw_atomic.Walks.{proved_at}
use Rattle.heap_allocator.specs.Pieces.{words_for, piece_owns, piece_token, behind, bytes_before, room_behind, IsPieceFor}
use Rattle.heap_allocator.specs.Served.{IsServed}
use Rattle.heap_allocator.specs.contracts.piece.Piece as piece
use Rattle.heap_allocator.specs.contracts.mover.Mover.give as giving
use Rattle.heap_allocator.proofs.mover.Mover.give.Met.{met as gives}
use Rattle.heap_allocator.specs.contracts.mover.MoverAllocator.deallocate.{ended, clauses}
use Rattle.heap_allocator.specs.contracts.mover.MoverAllocator.deallocate.Key.{name as #self}
use Rattle.heap_allocator.proofs.mover.MoverAllocator.deallocate.Statement.{statement}
use Rattle.heap_allocator.proofs.mover.MoverAllocator.deallocate.Code as code
use Rattle.heap_allocator.proofs.Handing.{param_of, lies_at_word, in_its_block}
use Rattle.heap_allocator.proofs.Values.{piece_val, Bare, bare_made}

pub deallocate_spec : {M : Type 1} → statement M
deallocate_spec 𝓤 𝓛 𝓜 𝓡 wired =
    let H = 𝓛.H in let 𝓣 = tables 𝓤 H 𝓜 𝓡 𝓡.env in let c = clauses 𝓛 𝓜.mem 𝓡.returns in let fn : Fn = code.function in let ps = ended.signature.params in
    let hs : Stays ps ended.kept = (stay_dropped (param_of 0 ps) ended.kept.0, (stay_dropped (param_of 1 ps) ended.kept.1.0, (stay_dropped (param_of 2 ps) ended.kept.1.1.0, (stay_dropped (param_of 3 ps) ended.kept.1.1.1.0, tt)))) in
    proved_at 𝓛 ended hs c 𝓜 𝓡 (Goes-dropped 𝓛 2 (param_of 0 ps) ended.kept.0 (λ κs x f. refl), (Goes-dropped 𝓛 2 (param_of 1 ps) ended.kept.1.0 (λ κs x f. refl), (Goes-dropped 𝓛 2 (param_of 2 ps) ended.kept.1.1.0 (λ κs x f. refl), (Goes-dropped 𝓛 2 (param_of 3 ps) ended.kept.1.1.1.0 (λ κs x f. refl), tt)))) #self fn (code.unfolded 𝓤 H 𝓜 𝓡 wired) (λ z are.
    let Post : Val → SProp 𝓤 = (walk_of 𝓛 ended hs c).post z in let κs = z.0.0 in let a = z.0.3 in let p : Ptr = a.0.now.heap.now.region.at in let τ : Ty = z.1 in let from : Ptr = a.1.0 in let n : ℕ = a.1.1.0 in let al : ℕ = a.1.1.1.0 in let me : Val = vptr a.0.ref_ptr.0 a.0.ref_ptr.1 in
    let k = triple_of 𝓛 giving.signature (giving.spec 𝓛 𝓜.mem 𝓡.returns) in let Asked : Type 0 = (capped (size τ) ≡ n) × (capped (align τ) ≡ al) in
    qed 𝓛 ((raw (alive 𝓛 ended.signature κs z.0.1) ⊛ ‵ (owns (types_at ps κs) a z.0.4)) ∷ (raw (fact 𝓤 Asked) ⊛ ‵ (room_for τ from) ⊛ ‵ (piece_token p τ from)) ∷ []) ∵
    move ! (1 ∷ []) $ split3 ! $ heard ! Asked (λ asked. move ! (1 ∷ []) $ fpick ! (λ word. fpick ! (λ count. fpick ! (λ label. fpick ! (λ out. fsplit ! $ move ! (2 ∷ 0 ∷ 1 ∷ []) $ fjoin ! $
    let Room : Fml = fsep (room_for τ from) (room_behind τ (behind (bytes_before count) τ) from) in
    use2 𝓛 (‵ (piece_owns p word count label)) (apply∗ 𝓤 (sem 𝓛 Room) (sem 𝓛 (piece_owns p word count label))) $
    let short : size τ < 2 ^ 63 = out.small in let same : size τ ≡ n = sym (capped_is (size τ) (omega arith)) ∙ asked.0 in
    in_its_block ! p word count label (λ there.
    let q : Ptr = lies_at_word p word in let lies : from ≡ q = out.there ∙ there in let fits = are.1.1.0.1 in
    move ! (1 ∷ []) $ split ! $ move ! (1 ∷ []) $ fsplit ! $ fsplit ! $ keep ! (4 ∷ 1 ∷ 3 ∷ []) $
    -- [the piece's words; the allocator; the tokens]
    regoal ! (λ (us : List Val). prop (WpFn 𝓤 H 𝓣.C 𝓣.Λ fn us Post)) (λ i. are.0.0 i ++ ((are.1.0 ∙ ap (λ (u : Ptr). ptr_val u ∷ []) lies) i ++ (are.1.1.0.0 i ++ (are.1.1.1.0.0 i ++ [])))) refl $
    enter ! 𝓣.C 𝓣.Λ fn (me ∷ ptr_val q ∷ vint w64 n ∷ vint w64 al ∷ []) Post $
    alloc_all ! (λ l. pass_all ! refl ((tt, tt), ((tt, tt), ((tt, record { fits = fits }), ((tt, record { fits = are.1.1.1.0.1 }), tt)))) $ let Ev : Env 𝓤 H = env fn.locals l in
    sets ! (agg ! (and_then ! (get ! refl) (and_then ! (get ! refl) (no_more !)))) refl (tt, (tt, (record { fits = fits }, tt))) $
    let x : (piece.the_row).Denot = record { memory = q; size = n; at = p; first = word; count = count; label = label; placed = (sym there, subst (λ (j : ℕ). words_for j ≤ count) same out.room, subst (λ (j : ℕ). j < 2 ^ 63) same short) } in
    let served : IsServed p x = record { begins = refl; piece = subst (λ (j : ℕ). IsPieceFor j word count label) same out.piece } in
    let y : k.Ghost = ((κs, z.0.1, z.0.2, (a.0, (x, (n, tt))), (me ∷ [], (piece_val q n ∷ [], (vint w64 n ∷ [], tt)))), tt) in
    use0 𝓛 (‵ (Bare.own_val (q, (n, tt)) (piece_val q n ∷ []))) (bare_made 𝓛 q n fits) $ fjoin ! $ nothing ! $ flt_i ! n (2 ^ 64) fits $ feq_i ! (List Val) (vint w64 n ∷ []) (vint w64 n ∷ []) refl $ fjoin ! $ fjoin ! $ move ! (1 ∷ 0 ∷ []) $ fjoin ! $
    move ! (1 ∷ []) $ feq_i ! (List Val) (me ∷ []) (me ∷ []) refl $ fjoin ! $ fjoin ! $ move ! (1 ∷ 0 ∷ []) $ join ! $
    use0 𝓛 (raw (fact 𝓤 (IsServed p x × (n ≡ n)))) (fact_i 𝓤 (IsServed p x × (n ≡ n)) (emp 𝓤) (served, refl)) $ move ! (1 ∷ 0 ∷ []) $ join ! $ use1 𝓛 (raw (k.pre y)) (id⊢ 𝓤 _) $
    calls_at ! (fm 𝓛 𝓜 𝓡) k (gives 𝓤 𝓛 𝓜 𝓡 (code.calls-heap_allocator::mover::Mover::give 𝓡.env wired)) y (and_then ! (get ! refl) (and_then ! (get ! refl) (and_then ! (get ! refl) (no_more !)))) (λ v.
    use1 𝓛 (later (some (λ (t : Unit {0}). (raw (alive 𝓛 ended.signature κs z.0.1) ⊛ ‵ (unit.own_val t (v ∷ []))) ⊛ some (λ (ls : Lasts giving.ended κs y.0.3). ‵ (lasts giving.ended κs y.0.3 ls) ⊛ ‵ ftrue)))) (id⊢ 𝓤 (k.post y v)) $
    await ! tt $ pick ! (λ t. split ! $ move ! (1 ∷ []) $ drop ! $ split ! $ move ! (1 ∷ []) $ feq_l ! (λ e. lands_as ! (ap only e) refl (tt, tt) $ sets ! (of_opd ! (unit_lit !)) refl (tt, tt) $
    returns ! (look_at ! 0 refl) $ free_all ! refl $
    feq_i ! (List Val) (vunit ∷ []) (vunit ∷ []) refl $ nothing ! $ nothing ! $ nothing ! $ fjoin ! $ nothing ! $ fjoin ! $ nothing ! $ fjoin ! $ nothing ! $ fjoin ! $ move ! (3 ∷ 0 ∷ 2 ∷ 1 ∷ []) $
    by ! (leaves 𝓛 ended hs c z vunit tt (tt, (tt, (tt, (tt, tt)))) (tt, (tt, (tt, (tt, tt))))))))))))))))
