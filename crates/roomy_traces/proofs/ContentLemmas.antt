-- What a caller's block contains at the moments of a history, through the caller's events.
use Rattle.std.proofs.Common.{ℕ, zero, suc, replicate, set, sum, ◌≡◌, ◌≢◌, ◌<◌, ◌+◌, ◌%◌, ◌^◌, List, [], ◌∷◌, ◌++◌, Option, Some, None, map, length, refl, sym, ◌∙◌, ap, subst, arith, append_assoc, append-nil}
use Rattle.std.specs.Prelude.{slice_set, slice_index_or}
use Rattle.std.specs.List.{AllByRecursion, AllZip, range_with_len}
use Rattle.std.proofs.lemmas.List.{set_at, length_push, length-replicate}
use Rattle.std.proofs.lemmas.Simd.{map-map}
use Rattle.heap_geometry.specs.declared.geometry.Geometry.{Geometry}
use Rattle.heap_geometry.specs.Need.{need_of, usable_words}
use Rattle.pool_model.specs.declared.event.Event.{Event}
use Rattle.pool_model.specs.declared.event.Event.TheVariants.{Alloc, Free, Write, Put, Take}
use Rattle.pool_model.specs.declared.owner.Owner.TheVariants.{Caller}
use Rattle.pool_model.specs.Histories.{own, Begins}
use Rattle.pool_model.specs.Pool.{Block, Pool, block_at, pool_after, pool_of, fresh_block, written}
use Rattle.pool_model.specs.Legal.{IsLegalWithoutCounts, IsLegalEventWithoutCounts}
use Rattle.pool_model.proofs.HistoryLemmas.{pool_of-push, push-append, EachAfter-cut}
use Rattle.pool_model.proofs.OwnerLemmas.{others-keep_all}
use Rattle.pool_model.proofs.PoolLemmas.{block_at-here, block_at-past, block_at-without_other, block_at-changed_other, block_at-changed_same}
use Rattle.lane_outcomes.specs.Lane.{writing}
use Rattle.lane_outcomes.specs.Rows.{IsWord, IsSumOf}
use Rattle.lane_outcomes.proofs.FillLemmas.{writes_of}
use Rattle.lane_outcomes.proofs.FollowLemmas.{cut-at}
use Rattle.lane_outcomes.proofs.WalkLemmas.{IsGiven}
use Rattle.lane_outcomes.proofs.WrittenBlocks.{known-words}
use Rattle.lane_outcomes.proofs.WrittenLemmas.{copied-word}
use Rattle.roomy_traces.specs.Roomy.{copied}

-- the caller owns a live block at the place, with these contents
pub record HasContents (caller place : ℕ) (contents : List (Option ℕ)) (pool : Pool) : Type 0 where
  pub block : Block
  pub live : block_at place pool ≡ Some block
  pub owned : block.owner ≡ Caller caller
  pub contents_are : block.contents ≡ contents

-- a property holds of the pool at each moment of a history at which these are the caller's events
abbrev pub AtMoments : List Event → ℕ → List Event → (Pool → Type 0) → Type 0
AtMoments history caller done P = (before : List Event) → Begins before history → own caller before ≡ done → P (pool_of before)

-- a property that a caller's event brings, and others' events leave, holds at each moment behind that event
moments-step :
    (g : Geometry) (history : List Event) (caller : ℕ) (done : List Event) (event : Event) (P Q : Pool → Type 0) → IsLegalWithoutCounts g history
    → ((before rest : List Event) → IsLegalWithoutCounts g (before ++ rest) → own caller rest ≡ [] → Q (pool_of before) → Q (pool_of (before ++ rest)))
    → ((pool : Pool) → P pool → Q (pool_after pool event)) → AtMoments history caller done P → AtMoments history caller (done ++ event ∷ []) Q
moments-step g history caller done event P Q legal others step at events (more, is) own_is =
    let cut = cut-at caller done event [] events own_is in
    let past : (cut.front ++ event ∷ []) ++ cut.back ≡ events = push-append cut.front cut.back event ∙ sym cut.whole in
    let before : history ≡ cut.front ++ (event ∷ (cut.back ++ more)) =
    is ∙ ap (λ xs. xs ++ more) cut.whole ∙ append_assoc cut.front (event ∷ cut.back) more in
    let legal_past : IsLegalWithoutCounts g ((cut.front ++ event ∷ []) ++ cut.back) =
    subst (IsLegalWithoutCounts g) (sym past) (EachAfter-cut (IsLegalEventWithoutCounts g) events more (subst (IsLegalWithoutCounts g) is legal)) in
    let stepped : Q (pool_of (cut.front ++ event ∷ [])) =
    subst Q (sym (pool_of-push cut.front event)) (step (pool_of cut.front) (at cut.front (event ∷ (cut.back ++ more), before) cut.own_front)) in
    subst (λ (xs : List Event). Q (pool_of xs)) past (others (cut.front ++ event ∷ []) cut.back legal_past cut.own_back stepped)

-- a block that lies where it lay has the same contents
contents-on :
    (caller place : ℕ) (contents : List (Option ℕ)) (old new : Pool) (h : HasContents caller place contents old) → block_at place new ≡ Some h.block
    → HasContents caller place contents new
contents-on caller place contents old new h live = record { block = h.block; live = live; owned = h.owned; contents_are = h.contents_are }

contents-step :
    (g : Geometry) (history : List Event) (caller : ℕ) (done : List Event) (event : Event) (place : ℕ) (contents : List (Option ℕ)) (P : Pool → Type 0)
    → IsLegalWithoutCounts g history → ((pool : Pool) → P pool → HasContents caller place contents (pool_after pool event))
    → AtMoments history caller done P → AtMoments history caller (done ++ event ∷ []) (HasContents caller place contents)
contents-step g history caller done event place contents P legal step at =
    moments-step g history caller done event P (HasContents caller place contents) legal
    (λ before rest legal_here none h.
    contents-on caller place contents (pool_of before) _ h (others-keep_all g before rest caller place h.block legal_here none h.live h.owned)) step at

-- the event is of another block than the one at the place
abbrev pub IsAway : ℕ → Event → Type 0
IsAway place (Alloc by need other) = place ≢ other
IsAway place (Free by other) = place ≢ other
IsAway place (Write by other i v) = place ≢ other
IsAway place (Put by other shelf) = ⊥
IsAway place (Take by shelf other) = ⊥
IsAway place event = Unit {0}

away-live : (place : ℕ) (event : Event) (pool : Pool) → IsAway place event → block_at place (pool_after pool event) ≡ block_at place pool
away-live place (Alloc by need other) pool away = block_at-past place (fresh_block by need other) pool (λ e. away (sym e))
away-live place (Free by other) pool away = block_at-without_other other place pool away
away-live place (Write by other i v) pool away = block_at-changed_other other place (written i v) pool (λ b. refl) away
away-live place (Put by other shelf) pool away = absurd away
away-live place (Take by shelf other) pool away = absurd away
away-live place event pool away = refl

-- events of other blocks leave the contents of a caller's block
pub at-away :
    (g : Geometry) (history : List Event) (caller : ℕ) (done events : List Event) (place : ℕ) (contents : List (Option ℕ))
    → IsLegalWithoutCounts g history → AllByRecursion (IsAway place) events → AtMoments history caller done (HasContents caller place contents)
    → AtMoments history caller (done ++ events) (HasContents caller place contents)
at-away g history caller done [] place contents legal away at =
    subst (λ (xs : List Event). AtMoments history caller xs (HasContents caller place contents)) (sym (append-nil done)) at
at-away g history caller done (event ∷ events) place contents legal away at =
    subst (λ (xs : List Event). AtMoments history caller xs (HasContents caller place contents)) (push-append done events event)
    (at-away g history caller (done ++ event ∷ []) events place contents legal away.1
    (contents-step g history caller done event place contents (HasContents caller place contents) legal
    (λ pool h. contents-on caller place contents pool _ h (away-live place event pool away.0 ∙ h.live)) at))

-- the values of words from one on
abbrev somes : (ℕ → ℕ) → ℕ → ℕ → List (Option ℕ)
somes value first count = map (λ i. Some (value i)) (range_with_len first count)

-- writes in a row put their values behind what stands before them
at-writes :
    (g : Geometry) (history : List Event) (caller place : ℕ) (value : ℕ → ℕ) (count first : ℕ) (done : List Event) (front back : List (Option ℕ))
    → IsLegalWithoutCounts g history → length front ≡ first → length back ≡ count
    → AtMoments history caller done (HasContents caller place (front ++ back))
    → AtMoments history caller (done ++ writes_of caller place value first count) (HasContents caller place (front ++ somes value first count))
at-writes g history caller place value zero first done front [] legal at_first many at =
    subst (λ (xs : List Event). AtMoments history caller xs (HasContents caller place (front ++ []))) (sym (append-nil done)) at
at-writes g history caller place value zero first done front (x ∷ back) legal at_first many at = absurd (omega (arith, many))
at-writes g history caller place value (suc count) first done front [] legal at_first many at = absurd (omega (arith, many))
at-writes g history caller place value (suc count) first done front (x ∷ back) legal at_first many at =
    let n : ℕ = value first in
    let event : Event = Write caller place first n in
    let longer : List (Option ℕ) = front ++ Some n ∷ [] in
    let now : set (front ++ x ∷ back) first (Some n) ≡ longer ++ back =
    set_at front x back (Some n) first at_first ∙ sym (append_assoc front (Some n ∷ []) back) in
    let stepped : AtMoments history caller (done ++ event ∷ []) (HasContents caller place (longer ++ back)) =
    contents-step g history caller done event place (longer ++ back) (HasContents caller place (front ++ x ∷ back)) legal
    (λ pool h. record {
      block = written first n h.block;
      live = block_at-changed_same place (written first n) pool h.block (λ b. refl) h.live;
      owned = h.owned;
      contents_are = ap (λ cs. slice_set cs first (Some n)) h.contents_are ∙ now;
    }) at in
    let later = at-writes g history caller place value count (first + 1) (done ++ event ∷ []) longer back legal
    (length_push front (Some n) ∙ ap (λ k. k + 1) at_first) (omega (arith, many)) stepped in
    let events : List Event = writes_of caller place value (first + 1) count in
    subst (λ (cs : List (Option ℕ)). AtMoments history caller (done ++ event ∷ events) (HasContents caller place cs))
    (append_assoc front (Some n ∷ []) (somes value (first + 1) count))
    (subst (λ (xs : List Event). AtMoments history caller xs (HasContents caller place (longer ++ somes value (first + 1) count)))
    (push-append done events event) later)

-- the contents of a block with these numbers in it
abbrev pub with_numbers : List ℕ → List (Option ℕ)
with_numbers numbers = map (λ n. Some n) numbers

-- a write of each word puts its value there, whatever the block contained
pub at-writing :
    (g : Geometry) (history : List Event) (caller place words : ℕ) (value : ℕ → ℕ) (done : List Event) (contents : List (Option ℕ))
    → IsLegalWithoutCounts g history → length contents ≡ words → AtMoments history caller done (HasContents caller place contents)
    → AtMoments history caller (done ++ writing caller place words value) (HasContents caller place (with_numbers (map value (range_with_len 0 words))))
at-writing g history caller place words value done contents legal many at =
    subst (λ (cs : List (Option ℕ)). AtMoments history caller (done ++ writing caller place words value) (HasContents caller place cs))
    (sym (map-map (λ n. Some n) value (range_with_len 0 words)))
    (at-writes g history caller place value words 0 done [] contents legal refl many at)

-- an allocation that is given a block and writes it puts the written values into it
pub at-given :
    (g : Geometry) (history : List Event) (caller need place words : ℕ) (value : ℕ → ℕ) (done calls : List Event) → IsLegalWithoutCounts g history
    → words ≡ usable_words (need_of need) → IsGiven caller need place calls
    → AtMoments history caller (done ++ (calls ++ writing caller place words value)) (HasContents caller place (with_numbers (map value (range_with_len 0 words))))
at-given g history caller need place words value done calls legal words_are given =
    let fresh : List (Option ℕ) = replicate (usable_words (need_of need)) None in
    let alloc : Event = Alloc caller need place in
    let called : AtMoments history caller ((done ++ given.looked) ++ alloc ∷ []) (HasContents caller place fresh) =
    contents-step g history caller (done ++ given.looked) alloc place fresh (λ pool. Unit {0}) legal
    (λ pool h. record {
      block = fresh_block caller need place;
      live = block_at-here place (fresh_block caller need place) pool refl;
      owned = refl;
      contents_are = refl;
    })
    (λ before begins own_is. tt) in
    let all : List Event = writing caller place words value in
    let numbers : List ℕ = map value (range_with_len 0 words) in
    let filled : AtMoments history caller (((done ++ given.looked) ++ alloc ∷ []) ++ all) (HasContents caller place (with_numbers numbers)) =
    at-writing g history caller place words value ((done ++ given.looked) ++ alloc ∷ []) fresh legal
    (length-replicate {A = Option ℕ} (usable_words (need_of need)) None ∙ sym words_are) called in
    let same : ((done ++ given.looked) ++ alloc ∷ []) ++ all ≡ done ++ (calls ++ all) =
    ap (λ xs. xs ++ all) (append_assoc done given.looked (alloc ∷ []) ∙ ap (λ xs. done ++ xs) (sym given.whole)) ∙ append_assoc done calls all in
    subst (λ (xs : List Event). AtMoments history caller xs (HasContents caller place (with_numbers numbers))) same filled

-- the contents of a block stay after the free of another block, which lies elsewhere at that moment
pub at-freed :
    (g : Geometry) (history : List Event) (caller place gone : ℕ) (done : List Event) (contents : List (Option ℕ)) → IsLegalWithoutCounts g history
    → AtMoments history caller done (λ pool. place ≢ gone) → AtMoments history caller done (HasContents caller place contents)
    → AtMoments history caller (done ++ Free caller gone ∷ []) (HasContents caller place contents)
at-freed g history caller place gone done contents legal apart at =
    contents-step g history caller done (Free caller gone) place contents (λ pool. (place ≢ gone) × HasContents caller place contents pool) legal
    (λ pool h. contents-on caller place contents pool _ h.1 (away-live place (Free caller gone) pool h.0 ∙ h.1.live))
    (λ before begins own_is. (apart before begins own_is, at before begins own_is))

-- what a live block contains whose numbers are known
pub known-contents :
    (pool : Pool) (caller place : ℕ) (numbers : List ℕ) (block : Block) → HasContents caller place (with_numbers numbers) pool
    → block_at place pool ≡ Some block → block.contents ≡ with_numbers numbers
known-contents pool caller place numbers block h found =
    let same : h.block ≡ block = let e : Some h.block ≡ Some block = sym h.live ∙ found in cc in
    ap (λ (b : Block). b.contents) (sym same) ∙ h.contents_are

-- a sum of known contents is the sum of their numbers
pub known-sum :
    (pool : Pool) (caller place : ℕ) (numbers : List ℕ) (total : ℕ) (block : Block) → HasContents caller place (with_numbers numbers) pool
    → block_at place pool ≡ Some block → IsSumOf block.contents total → total ≡ sum numbers % 2 ^ 64
known-sum pool caller place numbers total block h found summed =
    summed.total_is
    ∙ ap (λ ns. sum ns % 2 ^ 64)
    (known-words numbers summed.words
    (subst (λ (cs : List (Option ℕ)). AllZip IsWord cs summed.words) (known-contents pool caller place numbers block h found) summed.each))

range-same :
    (value other : ℕ → ℕ) (count first : ℕ) → ((i : ℕ) → i < first + count → value i ≡ other i)
    → map value (range_with_len first count) ≡ map other (range_with_len first count)
range-same value other zero first same = refl
range-same value other (suc count) first same =
    ap (λ n. n ∷ map value (range_with_len (first + 1) count)) (same first (omega arith))
    ∙ ap (λ ns. other first ∷ ns) (range-same value other count (first + 1) (λ i lt. same i (omega (arith, lt))))

-- the values that a resize writes are a copy of the old block's numbers
pub known-copy :
    (numbers : List ℕ) (contents : List (Option ℕ)) (words : ℕ) (value : ℕ → ℕ) → contents ≡ with_numbers numbers
    → ((i : ℕ) → i < words → IsWord (slice_index_or contents i (Some 0)) (value i)) → map value (range_with_len 0 words) ≡ copied numbers words
known-copy numbers contents words value are each =
    range-same value (λ i. slice_index_or numbers i 0) words 0
    (λ i lt.
    copied-word numbers i (value i)
    (subst (λ (cs : List (Option ℕ)). IsWord (slice_index_or cs i (Some 0)) (value i)) are (each i (omega (arith, lt)))))
