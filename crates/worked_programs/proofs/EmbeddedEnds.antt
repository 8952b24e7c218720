-- How the program's passes come from the opening and go into the closing, and what it prints.
use Rattle.std.proofs.Common.{ℕ, ◌≡◌, ◌-◌, ◌^◌, List, [], ◌∷◌, ◌++◌, All, length, min, take, drop, slice_index_or, codes, count_by, refl, sym, ◌∙◌, ap, subst, arith}
use Rattle.std.proofs.lemmas.List.Elements.{All-cons, All-nil, All-push}
use Rattle.std.specs.Fmt.{digits}
use Rattle.heap_geometry.specs.declared.limits.TheConstants.{CLASSES}
use Rattle.heap_census.specs.Census.{is_class}
use Rattle.pool_model.specs.Pool.{Pool, pool_of}
use Rattle.errand_steps.specs.declared.reply.Reply.TheVariants as reply
use Rattle.errand_steps.specs.Calls.{free, put}
use Rattle.sound_state.specs.Sums.{sum_below}
use Rattle.live_heap.specs.Heaps.{HeapFields}
use Rattle.live_heap.specs.declared.pass.Pass.{Pass}
use Rattle.live_heap.specs.Endings.{AreAllIdle, ClosedFields}
use Rattle.live_heap.specs.Passes.{AreFrom, IsFresh}
use Rattle.live_heap.specs.Whole.{IsAtRest}
use Rattle.worked_programs.specs.declared.embedded.TheConstants.{SHELF}
use Rattle.worked_programs.specs.Embedded.{Fetches, Keeps, first_calls, lines_of, live_in, second_calls}
use Rattle.worked_programs.proofs.EmbeddedCalls.{rest-of}
use Rattle.worked_programs.proofs.HomeLemmas.{leads-out}

-- the two passes of a new heap, the second one taken out first
pub two-passes :
    (h : HeapFields) (passes rest last : List Pass) (first second : Pass) → AreFrom h 0 passes → length passes ≡ 2
    → second ≡ slice_index_or passes 1 second → rest ≡ take 1 passes ++ drop 2 passes → first ≡ slice_index_or rest 0 first
    → last ≡ take 0 rest ++ drop 1 rest → AreFrom h 0 (first ∷ second ∷ []) × (last ≡ [])
two-passes h [] rest last first second from all is_second left is_first none = absurd (omega (arith, all))
two-passes h (x ∷ []) rest last first second from all is_second left is_first none = absurd (omega (arith, all))
two-passes h (x ∷ y ∷ []) rest last first second from all is_second left is_first none =
    let only : rest ≡ x ∷ [] = left in
    let here : first ≡ x = is_first ∙ ap (λ (l : List Pass). slice_index_or l 0 first) only in
    let there : second ≡ y = is_second in
    let first_from : AreFrom h 0 (first ∷ y ∷ []) = subst (λ (p : Pass). AreFrom h 0 (p ∷ y ∷ [])) (sym here) from in (
      subst (λ (p : Pass). AreFrom h 0 (first ∷ p ∷ [])) (sym there) first_from,
      none ∙ ap (λ (l : List Pass). take 0 l ++ drop 1 l) only,
    )
two-passes h (x ∷ y ∷ z ∷ passes) rest last first second from all is_second left is_first none = absurd (omega (arith, all))

-- behind its calls a pass is in none
keeps-rest : (h : HeapFields) (first p : Pass) (kept : ℕ) → Keeps h first kept p → IsAtRest h p
keeps-rest h first p kept keeps =
    let (p1, m1, r1) = keeps.made in
    let (p2, m2, r2) = r1 in
    let (p3, m3, r3) = r2 in
    let (p4, m4, r4) = r3 in
    let (p5, m5, r5) = r4 in
    let (p6, m6, r6) = r5 in
    let (p7, m7, last) = r6 in
    subst (IsAtRest h) (sym last) (rest-of h p6 p7 (put keeps.place keeps.need SHELF) reply.Put m7)

fetches-rest : (h : HeapFields) (second q : Pass) (handed : ℕ) → Fetches h second handed q → IsAtRest h q
fetches-rest h second q handed fetches =
    let (q1, m1, r1) = fetches.made in
    let (q2, m2, r2) = r1 in
    let (q3, m3, last) = r2 in
    subst (IsAtRest h) (sym last) (rest-of h q2 q3 (free fetches.place fetches.need) reply.Freed m3)

pub all-idle :
    (h : HeapFields) (first second p q : Pass) (kept handed : ℕ) (last passes one : List Pass) → Keeps h first kept p → Fetches h second handed q
    → last ≡ [] → one ≡ last ++ p ∷ [] → passes ≡ one ++ q ∷ [] → h.layout.callers ≡ 2 → AreAllIdle h passes × (passes ≡ p ∷ q ∷ [])
all-idle h first second p q kept handed last passes one keeps fetches none with_first with_both callers =
    let Rests : Pass → Type 0 = λ x. IsAtRest h x in
    let both : passes ≡ p ∷ q ∷ [] =
    with_both ∙ ap (λ (l : List Pass). l ++ q ∷ []) (with_first ∙ ap (λ (l : List Pass). l ++ p ∷ []) none) in
    let rests : All Rests (p ∷ q ∷ []) =
    All-push Rests (p ∷ []) q (All-push Rests [] p (λ k d within. absurd (omega (arith, within))) (keeps-rest h first p kept keeps))
    (fetches-rest h second q handed fetches) in (
      record { all = ap length both ∙ sym callers; each = subst (λ (l : List Pass). All Rests l) (sym both) rests },
      both,
    )

-- no block's words are out with the two passes
pub both-home :
    (h : HeapFields) (first second p q : Pass) (kept handed : ℕ) → IsFresh h first → IsFresh h second → Keeps h first kept p → Fetches h second handed q
    → All (λ (x : Pass). x.out ≡ 0) (p ∷ q ∷ [])
both-home h first second p q kept handed one two keeps fetches =
    let Home : Pass → Type 0 = λ x. x.out ≡ 0 in
    let calls = first_calls keeps.place keeps.need keeps.other keeps.wide kept in
    let mine : Home p = leads-out h first p calls one.of keeps.made ∙ one.home in
    let other : Home q = leads-out h second q (second_calls fetches.place fetches.need handed) two.of fetches.made ∙ two.home in
    All-cons Home p (q ∷ []) mine (All-cons Home q [] other (All-nil Home))

-- no block of a class is live where nothing is
pub none-live : (c : ClosedFields) → pool_of c.events ≡ [] → min (sum_below CLASSES (live_in c)) (2 ^ 64 - 1) ≡ 0
none-live c nothing =
    ap (λ (pool : Pool). min (sum_below CLASSES (λ class. count_by (λ block. is_class class block.need) pool)) (2 ^ 64 - 1)) nothing

pub printed :
    (kept handed live : ℕ) → kept ≡ 7 → handed ≡ 7 → live ≡ 0 → lines_of kept handed live ≡ codes "kept 7\nhanded 7\nlive 0\n"
unfolding digits
printed kept handed live a b c = rw a (rw b (rw c refl))
