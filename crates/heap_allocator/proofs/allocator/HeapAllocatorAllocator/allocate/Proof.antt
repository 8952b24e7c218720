-- It answers what the mover answers. Assumes `Logic`.
use Rattle.plain_words.proofs.Names.{◌≡◌, ℕ, ◌+◌, ◌^◌, List, [], ◌∷◌, ◌++◌, refl, w64, Val, vint, vptr, SProp, emp, id⊢, Fml, sem, ‵, raw, ◌⊛◌, given, some, later, ◌$◌, ◌∵◌, !, qed, by, move, keep, drop, split, join, pick, learn, fsplit, fjoin, await, use0, use1, use2, feq_i, flt_i, stop, fld, no_more, and_then, returns, enter, alloc_all, pass_all, free_all, look_at, get, through, sets, tables, owns, types_at, Ptr, nothing, heard, alive, Stays, stay_dropped, walk_of, Goes-dropped, fact, fact_i, WpFn, unhide, leaves}
use mathlib.Core.Bool.{Bool}
use mir.Syntax.{Ty, Fn}
use base.Logic.{never, fst∗}
use prog.Memory.{size, align, capped}
use types.Kit.{prop, regoal}
use types.Run.{addr}
use types.ByLocal.{lands_as}
use denote.Memory.{hidden_shr}
use denote.RawPtr.{null_ptr}
use denote.Signature.{named_lft}
use denote.Triple.Call.{calls_at}
use denote.Triple.Clauses.{Lasts, lasts}
use denote.Triple.Spec.{triple_of}
use Rattle.core.proofs.atomic.Steps.{fm}
use Rattle.core.specs.Allocator.{block_if_ok}
use Rattle.core.proofs.alloc.Calls.{Answer, answer_val, Answer-typed}
use Rattle.core.proofs.alloc.Resizes.{by_flag, result_of, result_own}
use Rattle.std.proofs.raw_atomic.Walks.{proved_at}
use Rattle.heap_allocator.specs.Pieces.{piece_token}
use Rattle.heap_allocator.specs.contracts.mover.Mover as mover
use Rattle.heap_allocator.specs.contracts.mover.MoverAllocator.allocate as moving
use Rattle.heap_allocator.proofs.mover.MoverAllocator.allocate.Met.{met as moves}
use Rattle.heap_allocator.specs.contracts.allocator.HeapAllocatorAllocator.allocate.{ended, clauses}
use Rattle.heap_allocator.specs.contracts.allocator.HeapAllocatorAllocator.allocate.Key.{name as #self}
use Rattle.heap_allocator.proofs.allocator.HeapAllocatorAllocator.allocate.Statement.{statement}
use Rattle.heap_allocator.proofs.allocator.HeapAllocatorAllocator.allocate.Code as code
use Rattle.heap_allocator.proofs.Handing.{param_of}

pub allocate_spec : {M : Type 1} → statement M
allocate_spec 𝓤 𝓛 𝓜 𝓡 wired =
    let H = 𝓛.H in let 𝓣 = tables 𝓤 H 𝓜 𝓡 𝓡.env in let c = clauses 𝓛 𝓜.mem 𝓡.returns in let fn : Fn = code.function in let ps = ended.signature.params in
    let hs : Stays ps ended.kept = (stay_dropped (param_of 0 ps) ended.kept.0, (stay_dropped (param_of 1 ps) ended.kept.1.0, (stay_dropped (param_of 2 ps) ended.kept.1.1.0, tt))) in
    proved_at 𝓛 ended hs c 𝓜 𝓡 (Goes-dropped 𝓛 2 (param_of 0 ps) ended.kept.0 (λ κs x f. refl), (Goes-dropped 𝓛 2 (param_of 1 ps) ended.kept.1.0 (λ κs x f. refl), (Goes-dropped 𝓛 2 (param_of 2 ps) ended.kept.1.1.0 (λ κs x f. refl), tt))) #self fn (code.unfolded 𝓤 H 𝓜 𝓡 wired) (λ z are.
    let Post : Val → SProp 𝓤 = (walk_of 𝓛 ended hs c).post z in let κs = z.0.0 in let a = z.0.3 in let p : Ptr = a.0.now.mover.heap.now.region.at in let τ : Ty = z.1 in let n : ℕ = a.1.0 in let al : ℕ = a.1.1.0 in let me : Val = vptr a.0.ref_ptr.0 a.0.ref_ptr.1 in
    let at : ℕ × ℕ = (a.0.ref_ptr.0, a.0.ref_ptr.1 + 16) in let k = triple_of 𝓛 moving.signature (moving.spec 𝓛 𝓜.mem 𝓡.returns) in let Asked : Type 0 = (capped (size τ) ≡ n) × (capped (align τ) ≡ al) in let Called : Answer.Denot → Fml = block_if_ok (piece_token p) τ in
    let y : k.Ghost = ((κs, z.0.1, z.0.2, (record { ref_ptr = at; now = a.0.now.mover }, (n, (al, tt))), (vptr at.0 at.1 ∷ [], (vint w64 n ∷ [], (vint w64 al ∷ [], tt)))), τ) in
    qed 𝓛 ((raw (alive 𝓛 ended.signature κs z.0.1) ⊛ ‵ (owns (types_at ps κs) a z.0.4)) ∷ raw (fact 𝓤 Asked) ∷ []) ∵
    move ! (1 ∷ []) $ heard ! Asked (λ asked. split ! $ move ! (1 ∷ []) $ fsplit ! $ fsplit ! $ keep ! (1 ∷ 3 ∷ []) $ unhide ! $ fsplit ! $ fsplit ! $ move ! (1 ∷ []) $ fsplit ! $ move ! (1 ∷ []) $ fsplit ! $
    use1 𝓛 (‵ (hidden_shr (mover.the_row (named_lft 2 1 tt κs)) κs.0 a.0.now.mover at.0 at.1)) (id⊢ 𝓤 _) $ keep ! (0 ∷ 5 ∷ []) $
    -- [the mover; the tokens]
    regoal ! (λ (us : List Val). prop (WpFn 𝓤 H 𝓣.C 𝓣.Λ fn us Post)) (λ i. are.0.0 i ++ (are.1.0.0 i ++ (are.1.1.0.0 i ++ []))) refl $
    enter ! 𝓣.C 𝓣.Λ fn (me ∷ vint w64 n ∷ vint w64 al ∷ []) Post $ alloc_all ! (λ l. pass_all ! refl ((tt, tt), ((tt, record { fits = are.1.0.1 }), ((tt, record { fits = are.1.1.0.1 }), tt))) $
    sets ! {v = vptr at.0 at.1} (addr ! (through ! refl (fld ! refl (stop !)))) refl (tt, tt) $
    use0 𝓛 (raw (fact 𝓤 Asked)) (fact_i 𝓤 Asked (emp 𝓤) asked) $ nothing ! $ flt_i ! al (2 ^ 64) are.1.1.0.1 $ feq_i ! (List Val) (vint w64 al ∷ []) (vint w64 al ∷ []) refl $ fjoin ! $ fjoin ! $
    flt_i ! n (2 ^ 64) are.1.0.1 $ feq_i ! (List Val) (vint w64 n ∷ []) (vint w64 n ∷ []) refl $ fjoin ! $ fjoin ! $
    move ! (2 ∷ []) $ feq_i ! (List Val) (vptr at.0 at.1 ∷ []) (vptr at.0 at.1 ∷ []) refl $ fjoin ! $ fjoin ! $ move ! (2 ∷ 0 ∷ []) $ join ! $ join ! $ use1 𝓛 (raw (k.pre y)) (id⊢ 𝓤 _) $
    calls_at ! (fm 𝓛 𝓜 𝓡) k (moves 𝓤 𝓛 𝓜 𝓡 (code.calls-heap_allocator::mover::MoverAllocator::allocate 𝓡.env wired)) y (and_then ! (get ! refl) (and_then ! (get ! refl) (and_then ! (get ! refl) (no_more !)))) (λ v.
    use1 𝓛 (later (some (λ (r : Answer.Denot). (raw (alive 𝓛 moving.signature κs z.0.1) ⊛ ‵ (Answer.own_val r (v ∷ []))) ⊛ some (λ (ls : Lasts moving.ended κs y.0.3). ‵ (lasts moving.ended κs y.0.3 ls) ⊛ ‵ (Called r))))) (id⊢ 𝓤 (k.post y v)) $
    await ! tt $ pick ! (λ told. split ! $ move ! (1 ∷ []) $ pick ! (λ _. split ! $ drop ! $ move ! (1 ∷ []) $ split ! $ move ! (1 ∷ 2 ∷ []) $
    use2 𝓛 (some (λ (f : Bool × (ℕ × ℕ)). given (v ≡ answer_val f.0 f.1.0 f.1.1) (‵ (Called (result_of f.0 f.1.0 f.1.1))))) (by_flag 𝓛 Called (fst∗ 𝓤 (never 𝓤) (sem 𝓛 (piece_token p τ null_ptr))) v told) $ pick ! (λ f. learn ! (λ e.
    let res : Answer.Denot = result_of f.0 f.1.0 f.1.1 in let got : Val = answer_val f.0 f.1.0 f.1.1 in
    lands_as ! e refl (Answer-typed f.0 f.1.0 f.1.1) $ returns ! (look_at ! 0 refl) $ free_all ! refl $
    use0 𝓛 (‵ (Answer.own_val res (got ∷ []))) (result_own 𝓛 f.0 f.1.0 f.1.1) $ nothing ! $ nothing ! $ fjoin ! $ nothing ! $ fjoin ! $ nothing ! $ fjoin ! $ keep ! (3 ∷ 0 ∷ 1 ∷ 2 ∷ []) $
    by ! (leaves 𝓛 ended hs c z got res (tt, (tt, (tt, tt))) (tt, (tt, (tt, tt))))))))))))
