-- Whoever fills each block as it is given it has written all words of its blocks, and of those that it lays on shelves.
use Rattle.std.proofs.Common.{ℕ, zero, suc, ◌≡◌, ◌≢◌, ◌<◌, ◌+◌, List, [], ◌∷◌, ◌++◌, Option, Some, None, map, length, get_or, refl, sym, ◌∙◌, ap, subst, inl, inr, arith, append_assoc, append-nil, eq-eqb, ne_eqb, get_or-set_same, get_or-set_other}
use Rattle.std.specs.Prelude.{slice_set}
use Rattle.std.specs.List.{AllZip}
use Rattle.std.proofs.lemmas.Bool.{cases_eq, cases_lt}
use Rattle.std.proofs.lemmas.List.{length-replicate, length-set, set_past}
use Rattle.heap_geometry.specs.declared.geometry.Geometry.{Geometry}
use Rattle.heap_geometry.specs.Need.{need_of, usable_words}
use Rattle.pool_model.specs.declared.event.Event.{Event}
use Rattle.pool_model.specs.declared.event.Event.TheVariants.{Alloc, Free, Write, Put, Take}
use Rattle.pool_model.specs.declared.owner.Owner.{Owner}
use Rattle.pool_model.specs.declared.owner.Owner.TheVariants.{Caller, Shelf}
use Rattle.pool_model.specs.Histories.{own, caller_of, Begins}
use Rattle.pool_model.specs.Pool.{Block, Pool, block_at, fresh_block, handed_to, pool_after, pool_of, with_changed, without, written}
use Rattle.pool_model.specs.Legal.{IsLegalEventWithoutCounts, IsLegalWithoutCounts}
use Rattle.pool_model.proofs.HistoryLemmas.{EachAfter-cut, kept, own-append, pool_of-push}
use Rattle.pool_model.proofs.PoolLemmas.{block_at-changed_other, block_at-changed_same, block_at-here, block_at-past, block_at-without_other, block_at-without_same}
use Rattle.pool_model.proofs.WellFormedLemmas.{sound-differ, sound-of}
use Rattle.lane_outcomes.specs.Rows.{IsWord}
use Rattle.lane_outcomes.specs.Written.{AreWritten, ShelvesWritten}
use Rattle.lane_outcomes.proofs.FillLemmas.{writes_of}

-- a word was written, the first words were, and all words were
abbrev pub IsSet : List (Option ℕ) → ℕ → Type 0
IsSet contents i = (v : ℕ) × (get_or contents i None ≡ Some v)

abbrev pub FirstSet : ℕ → List (Option ℕ) → Type 0
FirstSet n contents = (i : ℕ) → i < n → IsSet contents i

abbrev pub AllSet : List (Option ℕ) → Type 0
AllSet contents = FirstSet (length contents) contents

pub words-of : (contents : List (Option ℕ)) → AllSet contents → AreWritten contents
words-of [] all = ([], refl)
words-of (word ∷ contents) all =
    let first = all 0 (omega arith) in
    let rest = words-of contents (λ i lt. all (suc i) (omega (arith, lt))) in
    (first.0 ∷ rest.0, ap (λ w. w ∷ contents) first.1 ∙ ap (λ ws. Some first.0 ∷ ws) rest.1)

-- numbers for words that were written are their values
pub known-words : (numbers words : List ℕ) → AllZip IsWord (map (λ n. Some n) numbers) words → words ≡ numbers
known-words [] [] each = refl
known-words (n ∷ numbers) (word ∷ words) each =
    ap (λ w. w ∷ words) each.0 ∙ ap (λ ws. n ∷ ws) (known-words numbers words each.1)
known-words numbers words each = absurd each

-- a word that was written stays so, and the next one is written
set-kept : (contents : List (Option ℕ)) (i k v : ℕ) → IsSet contents k → IsSet (slice_set contents i (Some v)) k
set-kept contents i k v is =
    elim (cases_eq k i) [
      | inl same ↦ elim (cases_lt i (length contents)) [
        | inl within ↦ (v, rw same (get_or-set_same contents i (Some v) None within))
        | inr past ↦ subst (λ (xs : List (Option ℕ)). IsSet xs k) (sym (set_past contents i (Some v) past)) is
      ]
      | inr other ↦ (is.0, get_or-set_other contents i k (Some v) None other ∙ is.1)
    ]

all-kept : (contents : List (Option ℕ)) (i v : ℕ) → AllSet contents → AllSet (slice_set contents i (Some v))
all-kept contents i v all k lt = set-kept contents i k v (all k (omega (arith, lt, length-set contents i (Some v))))

first-more : (contents : List (Option ℕ)) (n v : ℕ) → n < length contents → FirstSet n contents → FirstSet (n + 1) (slice_set contents n (Some v))
first-more contents n v within first k lt =
    elim (cases_eq k n) [
      | inl same ↦ (v, rw same (get_or-set_same contents n (Some v) None within))
      | inr other ↦ set-kept contents n k v (first k (omega (arith, lt, other)))
    ]

-- what a caller has left to fill: so many words of the block at a place, from the next one on
pub record Part : Type 0 where
  pub place : ℕ
  pub next : ℕ
  pub left : ℕ

abbrev pub no_part : Part
no_part = record { place = 0; next = 0; left = 0 }

-- what is left behind a write of the next word, and behind any event
abbrev pub part_written : ℕ → Part → Part
part_written zero part = record { place = part.place; next = part.next; left = 0 }
part_written (suc left) part = record { place = part.place; next = part.next + 1; left = left }

abbrev pub part_after : Part → Event → Part
part_after part (Alloc caller need place) = record { place = place; next = 0; left = usable_words (need_of need) }
part_after part (Write caller place i v) = part_written part.left part
part_after part event = part

abbrev pub part_behind : Part → List Event → Part
part_behind part [] = part
part_behind part (event ∷ events) = part_behind (part_after part event) events

behind-append : (part : Part) (events more : List Event) → part_behind part (events ++ more) ≡ part_behind (part_behind part events) more
behind-append part [] more = refl
behind-append part (event ∷ events) more = behind-append (part_after part event) events more

-- while words of a block are left, its caller writes the next one, and makes no other event
abbrev pub Fills : Part → Event → Type 0
Fills part (Write caller place i v) = part.left ≢ 0 → (place ≡ part.place) × (i ≡ part.next)
Fills part event = part.left ≡ 0

abbrev pub FillsAll : Part → List Event → Type 0
FillsAll part [] = Unit {0}
FillsAll part (event ∷ events) = Fills part event × FillsAll (part_after part event) events

fills-append :
    (part : Part) (events more : List Event) → FillsAll part events → FillsAll (part_behind part events) more → FillsAll part (events ++ more)
fills-append part [] more first rest = rest
fills-append part (event ∷ events) more first rest = (first.0, fills-append (part_after part event) events more first.1 rest)

pub fills-cut : (part : Part) (before : List Event) (event : Event) (rest : List Event) → FillsAll part (before ++ event ∷ rest) → Fills (part_behind part before) event
fills-cut part [] event rest fills = fills.0
fills-cut part (first ∷ before) event rest fills = fills-cut (part_after part first) before event rest fills.1

-- events that fill each block that they give, from this on, and leave none to fill
abbrev pub FillsFrom : Part → List Event → Type 0
FillsFrom part events = FillsAll part events × ((part_behind part events).left ≡ 0)

abbrev pub IsFilled : List Event → Type 0
IsFilled events = (part : Part) → part.left ≡ 0 → FillsFrom part events

pub from-append : (part : Part) (events more : List Event) → FillsFrom part events → IsFilled more → FillsFrom part (events ++ more)
from-append part events more first rest =
    let then = rest (part_behind part events) first.1 in
    (fills-append part events more first.0 then.0, ap (λ (p : Part). p.left) (behind-append part events more) ∙ then.1)

pub filled-append : (events more : List Event) → IsFilled events → IsFilled more → IsFilled (events ++ more)
filled-append events more first rest part none = from-append part events more (first part none) rest

-- an event that gives no block leaves nothing to fill
abbrev pub IsNoAlloc : Event → Type 0
IsNoAlloc (Alloc caller need place) = ⊥
IsNoAlloc event = Unit {0}

pub filled-one : (event : Event) → IsNoAlloc event → IsFilled (event ∷ [])
filled-one (Alloc caller need place) other part none = absurd other
filled-one (Write caller place i v) other part none =
    (((λ some. absurd (some none)), tt), subst (λ left. (part_written left part).left ≡ 0) (sym none) refl)
filled-one event other part none = ((none, tt), none)

-- a block that is given is filled by the writes of all its words
fills-writes :
    (caller place : ℕ) (value : ℕ → ℕ) (count first : ℕ)
    → FillsFrom (record { place = place; next = first; left = count }) (writes_of caller place value first count)
fills-writes caller place value zero first = (tt, refl)
fills-writes caller place value (suc count) first =
    let rest = fills-writes caller place value count (first + 1) in (((λ some. (refl, refl)), rest.0), rest.1)

pub filled-given :
    (caller need place words : ℕ) (value : ℕ → ℕ) → words ≡ usable_words (need_of need)
    → IsFilled (Alloc caller need place ∷ writes_of caller place value 0 words)
filled-given caller need place words value words_are part none =
    let rest = subst (λ left. FillsFrom (record { place = place; next = 0; left = left }) (writes_of caller place value 0 words)) words_are
    (fills-writes caller place value words 0) in
    ((none, rest.0), rest.1)

-- a block's words are written, but for those that are left to fill
abbrev WrittenBut : ℕ → Part → ℕ → List (Option ℕ) → Type 0
WrittenBut zero part place contents = AllSet contents
WrittenBut (suc left) part place contents =
    (place ≢ part.place → AllSet contents) × (place ≡ part.place → (length contents ≡ part.next + suc left) × FirstSet part.next contents)

abbrev IsWritten : Part → ℕ → List (Option ℕ) → Type 0
IsWritten part place contents = WrittenBut part.left part place contents

written-past : (left : ℕ) (part : Part) (place : ℕ) (contents : List (Option ℕ)) → place ≢ part.place → AllSet contents → WrittenBut left part place contents
written-past zero part place contents apart all = all
written-past (suc left) part place contents apart all = ((λ other. all), (λ same. absurd (apart same)))

written-here :
    (left : ℕ) (part : Part) (place : ℕ) (contents : List (Option ℕ)) → place ≡ part.place → length contents ≡ part.next + left → FirstSet part.next contents
    → WrittenBut left part place contents
written-here zero part place contents same long first = λ i lt. first i (omega (arith, lt, long))
written-here (suc left) part place contents same long first = ((λ apart. absurd (apart same)), (λ here. (long, first)))

written-none : (part : Part) (place : ℕ) (contents : List (Option ℕ)) → part.left ≡ 0 → IsWritten part place contents → AllSet contents
written-none part place contents none told = subst (λ left. WrittenBut left part place contents) none told

none-written : (part : Part) (place : ℕ) (contents : List (Option ℕ)) → part.left ≡ 0 → AllSet contents → IsWritten part place contents
none-written part place contents none all = subst (λ left. WrittenBut left part place contents) (sym none) all

-- a write of the next word, of any word of a block where none is left, and as other blocks see it
write-here :
    (left : ℕ) (part : Part) (place i v : ℕ) (contents : List (Option ℕ)) → (left ≢ 0 → (place ≡ part.place) × (i ≡ part.next))
    → WrittenBut left part place contents → IsWritten (part_written left part) place (slice_set contents i (Some v))
write-here zero part place i v contents next told = all-kept contents i v told
write-here (suc left) part place i v contents next told =
    let it = next (λ e. absurd (omega (arith, e))) in
    let (long, first) = told.1 it.0 in
    written-here left (record { place = part.place; next = part.next + 1; left = left }) place (slice_set contents i (Some v)) it.0
    (omega (arith, long, length-set contents i (Some v)))
    (subst (λ k. FirstSet (part.next + 1) (slice_set contents k (Some v))) (sym it.1) (first-more contents part.next v (omega (arith, long)) first))

write-past :
    (left : ℕ) (part : Part) (place at i : ℕ) (contents : List (Option ℕ)) → (left ≢ 0 → (at ≡ part.place) × (i ≡ part.next)) → place ≢ at
    → WrittenBut left part place contents → IsWritten (part_written left part) place contents
write-past zero part place at i contents next apart told = told
write-past (suc left) part place at i contents next apart told =
    let it = next (λ e. absurd (omega (arith, e))) in
    let other : place ≢ part.place = λ e. apart (e ∙ sym it.0) in
    written-past left (record { place = part.place; next = part.next + 1; left = left }) place contents other (told.0 other)

-- what a caller has left to fill after a history, and what is written of a block there
abbrev pub part_at : ℕ → List Event → Part
part_at caller before = part_behind no_part (own caller before)

abbrev Tells : List Event → Owner → ℕ → List (Option ℕ) → Type 0
Tells before (Caller caller) place contents = IsWritten (part_at caller before) place contents
Tells before (Shelf shelf) place contents = AllSet contents

abbrev TellsIn : Pool → List Event → Type 0
TellsIn pool before = (place : ℕ) (block : Block) → block_at place pool ≡ Some block → Tells before block.owner place block.contents

part-own : (caller : ℕ) (before : List Event) (event : Event) → caller_of event ≡ caller → part_at caller (before ++ event ∷ []) ≡ part_after (part_at caller before) event
part-own caller before event hers =
    let one : own caller (event ∷ []) ≡ event ∷ [] = rw (eq-eqb (caller_of event) caller hers) refl in
    ap (part_behind no_part) (own-append caller before (event ∷ []) ∙ ap (λ es. own caller before ++ es) one)
    ∙ behind-append no_part (own caller before) (event ∷ [])

part-other : (caller : ℕ) (before : List Event) (event : Event) → caller_of event ≢ caller → part_at caller (before ++ event ∷ []) ≡ part_at caller before
part-other caller before event other =
    let none : own caller (event ∷ []) ≡ [] = rw (ne_eqb (caller_of event) caller other) refl in
    ap (part_behind no_part) (own-append caller before (event ∷ []) ∙ ap (λ es. own caller before ++ es) none ∙ append-nil (own caller before))

module _ (before : List Event) (event : Event) (fills : Fills (part_at (caller_of event) before) event) where
  -- blocks that the event leaves, if what is left to fill after it tells of them
  abbrev Leaves : ℕ → List (Option ℕ) → Type 0
  Leaves place contents = (part : Part) → Fills part event → IsWritten part place contents → IsWritten (part_after part event) place contents

  tells-past : (owner : Owner) (place : ℕ) (contents : List (Option ℕ)) → Leaves place contents → Tells before owner place contents → Tells (before ++ event ∷ []) owner place contents
  tells-past (Shelf shelf) place contents leaves told = told
  tells-past (Caller caller) place contents leaves told =
      elim (cases_eq (caller_of event) caller) [
        | inl hers ↦
            subst (λ part. IsWritten part place contents) (sym (part-own caller before event hers))
            (leaves (part_at caller before) (subst (λ c. Fills (part_at c before) event) hers fills) told)
        | inr other ↦ subst (λ part. IsWritten part place contents) (sym (part-other caller before event other)) told
      ]

  tells-own :
      (place : ℕ) (contents : List (Option ℕ)) → IsWritten (part_after (part_at (caller_of event) before) event) place contents
      → Tells (before ++ event ∷ []) (Caller (caller_of event)) place contents
  tells-own place contents told = subst (λ part. IsWritten part place contents) (sym (part-own (caller_of event) before event refl)) told

  tells-changed :
      (pool : Pool) (at : ℕ) (change : Block → Block) (was : Block) → ((b : Block) → (change b).place ≡ b.place) → block_at at pool ≡ Some was
      → Tells (before ++ event ∷ []) (change was).owner at (change was).contents
      → ((place : ℕ) (contents : List (Option ℕ)) → place ≢ at → Leaves place contents) → TellsIn pool before
      → TellsIn (with_changed at change pool) (before ++ event ∷ [])
  tells-changed pool at change was keeps found here leaves all place block live =
      elim (cases_eq place at) [
        | inl same ↦
            let there : block_at place (with_changed at change pool) ≡ Some (change was) =
            ap (λ (p : ℕ). block_at p (with_changed at change pool)) same ∙ block_at-changed_same at change pool was keeps found in
            let is : change was ≡ block = let e : Some (change was) ≡ Some block = sym there ∙ live in cc in
            subst (λ (b : Block). Tells (before ++ event ∷ []) b.owner place b.contents) is
            (subst (λ p. Tells (before ++ event ∷ []) (change was).owner p (change was).contents) (sym same) here)
        | inr apart ↦
            tells-past block.owner place block.contents (leaves place block.contents apart)
            (all place block (sym (block_at-changed_other at place change pool keeps apart) ∙ live))
      ]

tells-step :
    (g : Geometry) (before : List Event) (event : Event) → IsLegalWithoutCounts g before → IsLegalEventWithoutCounts g before event
    → Fills (part_at (caller_of event) before) event → TellsIn (pool_of before) before
    → TellsIn (pool_after (pool_of before) event) (before ++ event ∷ [])
tells-step g before (Alloc caller need at) legal allowed fills all place block live =
    let event = Alloc caller need at in
    let fresh = fresh_block caller need at in
    elim (cases_eq at place) [
      | inl same ↦
          let is : fresh ≡ block = let e : Some fresh ≡ Some block = sym (block_at-here place fresh (pool_of before) same) ∙ live in cc in
          subst (λ (b : Block). Tells (before ++ event ∷ []) b.owner place b.contents) is
          (tells-own before event fills place fresh.contents
          (written-here (usable_words (need_of need)) (part_after (part_at caller before) event) place fresh.contents (sym same)
          (omega (arith, length-replicate {A = Option ℕ} (usable_words (need_of need)) None)) (λ i lt. absurd (omega (arith, lt)))))
      | inr apart ↦
          tells-past before event fills block.owner place block.contents
          (λ part none told.
          written-past (usable_words (need_of need)) (part_after part event) place block.contents (λ e. apart (sym e))
          (written-none part place block.contents none told))
          (all place block (sym (block_at-past place fresh (pool_of before) apart) ∙ live))
    ]
tells-step g before (Free caller at) legal allowed fills all place block live =
    elim (cases_eq place at) [
      | inl same ↦
          let none : block_at place (without at (pool_of before)) ≡ None =
          rw same (block_at-without_same at (pool_of before) (sound-differ g (pool_of before) (sound-of g before legal))) in
          absurd (let e : None ≡ Some block = sym none ∙ live in cc)
      | inr apart ↦
          tells-past before (Free caller at) fills block.owner place block.contents (λ part none told. told)
          (all place block (sym (block_at-without_other at place (pool_of before) apart) ∙ live))
    ]
tells-step g before (Write caller at i v) legal allowed fills all place block live =
    let (was, found, owned, within) = allowed.1 in
    let told : IsWritten (part_at caller before) at was.contents = subst (λ owner. Tells before owner at was.contents) owned (all at was found) in
    tells-changed before (Write caller at i v) fills (pool_of before) at (written i v) was (λ b. refl) found
    (subst (λ owner. Tells (before ++ Write caller at i v ∷ []) owner at (slice_set was.contents i (Some v))) (sym owned)
    (tells-own before (Write caller at i v) fills at (slice_set was.contents i (Some v))
    (write-here (part_at caller before).left (part_at caller before) at i v was.contents fills told)))
    (λ place contents apart part next told. write-past part.left part place at i contents next apart told) all place block live
tells-step g before (Put caller at shelf) legal allowed fills all place block live =
    let (was, found, owned) = allowed.1.0 in
    tells-changed before (Put caller at shelf) fills (pool_of before) at (handed_to (Shelf shelf)) was (λ b. refl) found
    (written-none (part_at caller before) at was.contents fills (subst (λ owner. Tells before owner at was.contents) owned (all at was found)))
    (λ place contents apart part none told. told) all place block live
tells-step g before (Take caller shelf at) legal allowed fills all place block live =
    let (was, found, owned) = allowed.1.0 in
    tells-changed before (Take caller shelf at) fills (pool_of before) at (handed_to (Caller caller)) was (λ b. refl) found
    (tells-own before (Take caller shelf at) fills at was.contents
    (none-written (part_at caller before) at was.contents fills (subst (λ owner. Tells before owner at was.contents) owned (all at was found))))
    (λ place contents apart part none told. told) all place block live
tells-step g before event legal allowed fills all place block live =
    tells-past before event fills block.owner place block.contents (λ part none told. told) (all place block live)

-- each caller of an event fills its blocks
abbrev pub AllFill : List Event → Type 0
AllFill history = (before rest : List Event) (event : Event) → history ≡ before ++ event ∷ rest → FillsAll no_part (own (caller_of event) history)

module _ (g : Geometry) (history : List Event) (legal : IsLegalWithoutCounts g history) (fill : AllFill history) where
  tells-all : (before : List Event) → Begins before history → TellsIn (pool_of before) before
  tells-all before begins =
      kept
      (λ earlier event. IsLegalWithoutCounts g earlier × IsLegalEventWithoutCounts g earlier event × Fills (part_at (caller_of event) earlier) event)
      (λ earlier. TellsIn (pool_of earlier) earlier) before
      (λ earlier event allowed all.
      subst (λ pool. TellsIn pool (earlier ++ event ∷ [])) (sym (pool_of-push earlier event))
      (tells-step g earlier event allowed.0 allowed.1 allowed.2 all))
      (λ earlier rest event is.
      let whole : history ≡ earlier ++ event ∷ (rest ++ begins.0) =
      begins.1 ∙ ap (λ es. es ++ begins.0) is ∙ append_assoc earlier (event ∷ rest) begins.0 in
      let caller = caller_of event in
      let hers : own caller (event ∷ (rest ++ begins.0)) ≡ event ∷ own caller (rest ++ begins.0) = rw (eq-eqb caller caller refl) refl in
      let owns = ap (own caller) whole ∙ own-append caller earlier (event ∷ (rest ++ begins.0)) ∙ ap (λ es. own caller earlier ++ es) hers in (
        EachAfter-cut (IsLegalEventWithoutCounts g) earlier (event ∷ (rest ++ begins.0)) (subst (IsLegalWithoutCounts g) whole legal),
        legal earlier (rest ++ begins.0) event whole,
        fills-cut no_part (own caller earlier) event (own caller (rest ++ begins.0))
            (subst (FillsAll no_part) owns (fill earlier (rest ++ begins.0) event whole)),
      ))
      (λ place block live. absurd (let e : None ≡ Some block = live in cc))

  pub shelves-written : (before : List Event) → Begins before history → ShelvesWritten (pool_of before)
  shelves-written before begins place block live shelf owner =
      words-of block.contents (subst (λ o. Tells before o place block.contents) owner (tells-all before begins place block live))

  pub own-written :
      (caller : ℕ) (before : List Event) → Begins before history → (part_at caller before).left ≡ 0
      → (place : ℕ) (block : Block) → block_at place (pool_of before) ≡ Some block → block.owner ≡ Caller caller → AreWritten block.contents
  own-written caller before begins none place block live owner =
      words-of block.contents
      (written-none (part_at caller before) place block.contents none
      (subst (λ o. Tells before o place block.contents) owner (tells-all before begins place block live)))
