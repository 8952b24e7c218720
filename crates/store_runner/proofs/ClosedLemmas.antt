-- What a closed heap tells of the script that was run on it.
use Rattle.std.proofs.Common.{ℕ, true, ◌≡◌, ◌<◌, ◌+◌, List, [], ◌∷◌, ◌++◌, All, Some, length, length-append, take, drop, slice_index_or, count_by, refl, sym, ◌∙◌, ap, subst, arith, eqb, eq-eqb}
use Rattle.std.proofs.lemmas.List.Elements.{All-push}
use Rattle.std.proofs.lemmas.List.Sums.{sum_by_push}
use Rattle.std.proofs.lemmas.List.{length-map}
use Rattle.heap_geometry.specs.Need.{need_of, usable_words}
use Rattle.heap_geometry.specs.declared.geometry.Geometry.{Geometry}
use Rattle.pool_model.specs.declared.event.Event.{Event}
use Rattle.pool_model.specs.Counts.{is_alloc, is_free}
use Rattle.pool_model.specs.Histories.{caller_of, own}
use Rattle.pool_model.specs.Legal.{IsLegal, IsLegalWithoutCounts}
use Rattle.pool_model.specs.Pool.{Block as PoolBlock, block_at, live_words, pool_of}
use Rattle.pool_model.proofs.OwnedLemmas.{owned-found}
use Rattle.errand_steps.specs.Begins.{IsIdle}
use Rattle.live_heap.specs.Heaps.{HeapFields}
use Rattle.live_heap.specs.declared.pass.Pass.{Pass}
use Rattle.live_heap.specs.Contents.{owned_after, owned_in}
use Rattle.live_heap.specs.Endings.{AreAllIdle, ClosedFields, HasAccesses, HasClosed, HasTakenIn, IsResting}
use Rattle.live_heap.specs.Passes.{AreFrom, IsFresh, IsOf, seen}
use Rattle.typed_store.specs.Passings.{freed_in, given_in}
use Rattle.store_runner.specs.declared.script.Script.{Script}
use Rattle.store_runner.specs.Closings.{IsStored, store_heap}
use Rattle.typed_store.specs.Nodes.{tokens_in}
use Rattle.store_runner.specs.Ends.{HasRun, IsSpelled}
use Rattle.store_runner.specs.Texts.{words_with}
use Rattle.store_runner.specs.Scripts.{list_after, values_of}
use Rattle.typed_store.proofs.LedLemmas.{begins-on}
use Rattle.store_runner.proofs.KeepLemmas.{keeps-same}
use Rattle.store_runner.proofs.WordLemmas.{spelled-words, three-each, words_of}

-- the one pass of a new heap
pub one-pass :
    (h : HeapFields) (passes rest : List Pass) (first : Pass) → AreFrom h 0 passes → length passes ≡ 1 → first ≡ slice_index_or passes 0 first
    → rest ≡ take 0 passes ++ drop 1 passes → IsFresh h first × (first.errand.caller ≡ 0) × (rest ≡ [])
one-pass h [] rest first from all is left = absurd (omega (arith, all))
one-pass h (x ∷ []) rest first from all is left =
    let here : first ≡ x = is in (
      subst (IsFresh h) (sym here) from.0,
      ap (λ (p : Pass). p.errand.caller) here ∙ from.1,
      left,
    )
one-pass h (x ∷ y ∷ passes) rest first from all is left = absurd (omega (arith, all))

pub one-idle :
    (h : HeapFields) (rest passes : List Pass) (p : Pass) → IsOf h p → IsIdle p.errand → rest ≡ [] → passes ≡ rest ++ p ∷ [] → h.layout.callers ≡ 1
    → AreAllIdle h passes × (passes ≡ p ∷ [])
one-idle h rest passes p of idle none with_it callers =
    let Rests : Pass → Type 0 = λ x. IsOf h x × IsIdle x.errand in
    let only : passes ≡ p ∷ [] = with_it ∙ ap (λ (l : List Pass). l ++ p ∷ []) none in
    let rests : All Rests (p ∷ []) = All-push Rests [] p (λ k d within. absurd (omega (arith, within))) (of, idle) in (
      record { all = ap length only ∙ sym callers; each = subst (λ (l : List Pass). All Rests l) (sym only) rests },
      only,
    )

-- all events are the caller's own where there is only one
own-all :
    (events : List Event) → ((before rest : List Event) (event : Event) → events ≡ before ++ event ∷ rest → caller_of event < 1)
    → own 0 events ≡ events
own-all [] one = refl
own-all (first ∷ events) one =
    let rest = own-all events (λ before rest event e. one (first ∷ before) rest event (ap (λ (xs : List Event). first ∷ xs) e)) in
    let here : caller_of first < 1 = one [] events first refl in
    let on : eqb (caller_of first) 0 ≡ true = eq-eqb (caller_of first) 0 (omega (arith, here)) in
    rw on (ap (λ (xs : List Event). first ∷ xs) rest)

abbrev pub SaysClosed : Type 0
SaysClosed =
    (c : ClosedFields) (p : Pass) (place : ℕ) → IsResting c → HasTakenIn c p
    → owned_after c.events p.errand.caller place ≡ owned_in p place

abbrev pub CountsBlocks : Type 0
CountsBlocks =
    (g : Geometry) (history : List Event) → IsLegalWithoutCounts g history
    → length (pool_of history) + count_by is_free history ≡ count_by is_alloc history

-- the heap that the script left, with what was read of it
abbrev pub StoresRead : ℕ → ClosedFields → Script → Type 0
StoresRead rounds c script =
    (stored : IsStored rounds c) × (stored.pairs ≡ script.pairs.items) × (stored.words ≡ script.words.items)

-- what is owned is live
owned-live : (events : List Event) (place : ℕ) (block : PoolBlock) → owned_after events 0 place ≡ Some block → block_at place (pool_of events) ≡ Some block
owned-live events place block is = (owned-found 0 (block_at place (pool_of events)) block is).0

-- a spelled list and its record are all live words, where no other block is live
all-words :
    (rounds : ℕ) (events : List Event) → (k : IsSpelled (owned_after events 0) (list_after rounds) (values_of (list_after rounds)))
    → length (pool_of events) ≡ length (list_after rounds) + 1 → live_words (pool_of events) ≡ words_with (length (list_after rounds))
all-words rounds events k many =
    let tokens = tokens_in k.slots in
    let pairs = list_after rounds in
    let long : length (tokens ++ k.block ∷ []) ≡ length (pool_of events) = omega (arith, length-append tokens (k.block ∷ []), k.nodes, many) in
    let sum = spelled-words (owned_after events 0) (pool_of events) (tokens ++ k.block ∷ []) (owned-live events) k.owns long in
    let record_words : usable_words k.block.need ≡ usable_words (need_of (length pairs + 1)) =
    ap usable_words k.serves ∙ ap (λ n. usable_words (need_of (n + 1))) (length-map pairs (λ pair. pair.1)) in
    omega (arith, sum, sum_by_push words_of tokens k.block, three-each tokens k.threes, k.nodes, record_words)

pub closed-stored :
    (h : HeapFields) (rounds : ℕ) (script : Script) (c : ClosedFields) → SaysClosed → CountsBlocks → h.layout ≡ store_heap → HasRun h rounds script
    → HasClosed h (script.pass ∷ []) c → HasAccesses c (script.pass ∷ []) → IsResting c → IsLegal c.geometry c.events → IsLegalWithoutCounts c.geometry c.events
    → StoresRead rounds c script
closed-stored h rounds script c says counted laid run closed accesses rests legal weaker =
    let p = script.pass in
    let mine : HasTakenIn c p = closed.each 0 p (omega arith) in
    let heap : c.geometry ≡ store_heap = closed.heap ∙ laid in
    let one : (before rest : List Event) (event : Event) → c.events ≡ before ++ event ∷ rest → caller_of event < 1 =
    λ before rest event e.
    subst (λ (g : Geometry). caller_of event < g.callers) heap ((weaker before rest event e).0) in
    let all : own 0 c.events ≡ c.events = own-all c.events one in
    let own_is : c.events ≡ own p.errand.caller (seen p) =
    sym all ∙ (ap (λ k. own k c.events) (sym run.caller) ∙ mine.events) in
    let allocs : count_by is_alloc c.events ≡ given_in p = ap (count_by is_alloc) own_is in
    let frees : count_by is_free c.events ≡ freed_in p = ap (count_by is_free) own_is in
    let pairs = list_after rounds in
    let kept =
    keeps-same (owned_in p) (owned_after c.events 0) h pairs (values_of pairs) script.pairs.items script.words.items p
    (λ place. ap (λ k. owned_after c.events k place) (sym run.caller) ∙ says c p place rests mine) run.keeps run.read in (
      record {
        heap = heap;
        rests = rests;
        legal = subst (λ (g : Geometry). IsLegal g c.events) heap legal;
        keeps = kept.0;
        opened = h;
        laid = laid;
        pass = p;
        come = run.come;
        closed = closed;
        accesses = accesses;
        played = (run.played.0, run.played.1, begins-on run.played.0 (seen p) c.events run.played.2 mine.seen_before);
        pairs = script.pairs.items;
        words = script.words.items;
        read = kept.1;
        pairs_are = run.pairs;
        words_are = run.words;
        live = omega (arith, counted c.geometry c.events weaker, allocs, frees, run.given, run.freed);
        live_words =
            all-words rounds c.events kept.0
            (omega (arith, counted c.geometry c.events weaker, allocs, frees, run.given, run.freed));
        given = allocs ∙ run.given;
        freed = omega (arith, frees, run.freed);
      },
      refl,
      refl,
    )
