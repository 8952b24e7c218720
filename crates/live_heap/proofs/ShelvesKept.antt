-- What lies on a shelf keeps the rule of words there: every event leaves it so but a put, which shows it of its block.
use Rattle.std.proofs.Common.{ℕ, ◌≡◌, ◌⊎◌, inl, inr, List, [], ◌∷◌, ◌++◌, Option, Some, None, refl, sym, ◌∙◌, ap, subst, append-nil, append_assoc, arith}
use Rattle.std.proofs.lemmas.Bool.{cases_eq, cond_both}
use Rattle.std.proofs.lemmas.Option.{none-some}
use Rattle.heap_geometry.specs.declared.geometry.Geometry.{Geometry}
use Rattle.heap_geometry.specs.declared.need.Need.{Need}
use Rattle.step_parts.specs.declared.superblock.point.BlockPoint.{BlockPoint}
use Rattle.step_parts.specs.declared.stack.point.StackPoint.{StackPoint}
use Rattle.step_parts.specs.declared.large.point.LargePoint.{LargePoint}
use Rattle.step_parts.specs.declared.large.point.LargePoint.TheVariants as large
use Rattle.word_table.specs.declared.action.Found.{Found}
use Rattle.pool_model.specs.declared.event.Event.{Event}
use Rattle.pool_model.specs.declared.event.Event.TheVariants.{Alloc, Looked, Refuse, Free, Write, Put, Take, TakeNone}
use Rattle.pool_model.specs.declared.owner.Owner.TheVariants.{Caller, Shelf}
use Rattle.pool_model.specs.Histories.{Begins, caller_of, own}
use Rattle.pool_model.specs.Legal.{IsAllowed, IsLegalWithoutCounts, IsLegalEventWithoutCounts}
use Rattle.pool_model.specs.Owned.{if_of, owned_at}
use Rattle.pool_model.specs.Pool.{Block, Pool, block_at, fresh_block, handed_to, pool_after, pool_of, with_changed, written}
use Rattle.pool_model.proofs.HistoryLemmas.{EachAfter-cut, EachAfter-last, last_cases, pool_of-push}
use Rattle.pool_model.proofs.OwnedLemmas.{of-self, others-all, shelf-differs}
use Rattle.pool_model.proofs.PoolLemmas.{Differ, Pairs, block_at-changed_other, block_at-changed_same, block_at-here, block_at-past, block_at-without_other, block_at-without_same}
use Rattle.pool_model.proofs.WellFormedLemmas.{sound-differ, sound-of}
use Rattle.errand_steps.specs.declared.continuation.Continuation.{Continuation}
use Rattle.errand_steps.specs.declared.point.Point.{Point}
use Rattle.errand_steps.specs.declared.point.Point.TheVariants as point
use Rattle.errand_steps.specs.Begins.{read_begun, write_begun}
use Rattle.errand_steps.specs.Calls.{begun_by, read, write}
use Rattle.errand_steps.specs.Errands.{ErrandFields}
use Rattle.errand_steps.specs.Events.{event_of, won_event}
use Rattle.errand_steps.specs.Points.{asked}
use Rattle.errand_steps.specs.Steps.{with_event}
use Rattle.errand_steps.specs.tables.Blocks.{block_event}
use Rattle.errand_steps.specs.tables.LargeBlocks.{large_event}
use Rattle.errand_steps.specs.tables.Stacks.{stack_event}
use Rattle.errand_steps.proofs.EventLemmas.{event_own}
use Rattle.live_heap.specs.Shelves.{AllowedWords, AlwaysByRule, LieByRule, PutsByRule}

-- a block of a pool in which the block at one place has changed is that one, or was there before
changed-at :
    (place at : ℕ) (change : Block → Block) (pool : Pool) (old block : Block) → ((b : Block) → (change b).place ≡ b.place)
    → block_at at pool ≡ Some old → block_at place (with_changed at change pool) ≡ Some block
    → ((place ≡ at) × (block ≡ change old)) ⊎ (block_at place pool ≡ Some block)
changed-at place at change pool old block keeps found now =
    elim (cases_eq place at) [
      | inl same ↦
          let here : Some block ≡ Some (change old) =
          sym now ∙ ap (λ p. block_at p (with_changed at change pool)) same ∙ block_at-changed_same at change pool old keeps found in
          let one : block ≡ change old = cc in
          inl (same, one)
      | inr differ ↦ inr (sym (block_at-changed_other at place change pool keeps differ) ∙ now)
    ]

-- the event puts the block on the shelf, which is another owner's before
HasJustPut : List Event → Event → ℕ → ℕ → Block → Type 0
HasJustPut before event place shelf block =
    (caller : ℕ) × (old : Block) × (event ≡ Put caller place shelf) × (block_at place (pool_of before) ≡ Some old) × (block ≡ handed_to (Shelf shelf) old)

shelf-number : (a b : ℕ) → Shelf a ≡ Shelf b → a ≡ b
shelf-number a b is = cc

-- a block that lies on a shelf behind an event lay there before, or the event is its put
lay-before :
    (g : Geometry) (before : List Event) (event : Event) (place shelf : ℕ) (block : Block) → Pairs Differ (pool_of before) → IsAllowed g before event
    → block_at place (pool_after (pool_of before) event) ≡ Some block → block.owner ≡ Shelf shelf
    → (block_at place (pool_of before) ≡ Some block) ⊎ HasJustPut before event place shelf block
unfolding HasJustPut
lay-before g before (Alloc caller need at) place shelf block differ allowed found on =
    elim (cases_eq at place) [
      | inl same ↦
          let here : Some block ≡ Some (fresh_block caller need at) = sym found ∙ block_at-here place (fresh_block caller need at) (pool_of before) same in
          let one : block ≡ fresh_block caller need at = cc in
          absurd (shelf-differs caller shelf block.owner on (ap (λ (b : Block). b.owner) one))
      | inr apart ↦ inl (sym (block_at-past place (fresh_block caller need at) (pool_of before) apart) ∙ found)
    ]
lay-before g before (Looked caller class) place shelf block differ allowed found on = inl found
lay-before g before (Refuse caller need) place shelf block differ allowed found on = inl found
lay-before g before (Free caller at) place shelf block differ allowed found on =
    elim (cases_eq place at) [
      | inl same ↦
          let gone : block_at place (pool_after (pool_of before) (Free caller at)) ≡ None =
          ap (λ (p : ℕ). block_at p (pool_after (pool_of before) (Free caller at))) same ∙ block_at-without_same at (pool_of before) differ in
          absurd (none-some block (sym gone ∙ found))
      | inr apart ↦ inl (sym (block_at-without_other at place (pool_of before) apart) ∙ found)
    ]
lay-before g before (Write caller at i v) place shelf block differ allowed found on =
    elim (changed-at place at (written i v) (pool_of before) allowed.0 block (λ b. refl) allowed.1 found) [
      | inl (same, is) ↦ absurd (shelf-differs caller shelf block.owner on (ap (λ (b : Block). b.owner) is ∙ allowed.2))
      | inr still ↦ inl still
    ]
lay-before g before (Put caller at to) place shelf block differ allowed found on =
    elim (changed-at place at (handed_to (Shelf to)) (pool_of before) allowed.0.0 block (λ b. refl) allowed.0.1 found) [
      | inl (same, is) ↦
          let one : to ≡ shelf = shelf-number to shelf (sym (ap (λ (b : Block). b.owner) is) ∙ on) in
          inr (
            caller,
            allowed.0.0,
            ap (λ k. Put caller at k) one ∙ ap (λ p. Put caller p shelf) (sym same),
            ap (λ p. block_at p (pool_of before)) same ∙ allowed.0.1,
            is ∙ ap (λ k. handed_to (Shelf k) allowed.0.0) one,
          )
      | inr still ↦ inl still
    ]
lay-before g before (Take caller from at) place shelf block differ allowed found on =
    elim (changed-at place at (handed_to (Caller caller)) (pool_of before) allowed.0.0 block (λ b. refl) allowed.0.1 found) [
      | inl (same, is) ↦ absurd (shelf-differs caller shelf block.owner on (ap (λ (b : Block). b.owner) is))
      | inr still ↦ inl still
    ]
lay-before g before (TakeNone caller from) place shelf block differ allowed found on = inl found

-- a put behind these events is of a block whose words may lie on its shelf
PutIsByRule : AllowedWords → List Event → Event → Type 0
PutIsByRule rule before event =
    (caller place shelf : ℕ) (block : Block) → event ≡ Put caller place shelf → block_at place (pool_of before) ≡ Some block
    → rule shelf block.need block.contents

lie-push :
    (rule : AllowedWords) (g : Geometry) (before : List Event) (event : Event) → IsLegalWithoutCounts g (before ++ event ∷ []) → LieByRule rule before
    → PutIsByRule rule before event → LieByRule rule (before ++ event ∷ [])
unfolding HasJustPut PutIsByRule
lie-push rule g before event legal lie puts place shelf block found on =
    let differ = sound-differ g (pool_of before) (sound-of g before (EachAfter-cut (IsLegalEventWithoutCounts g) before (event ∷ []) legal)) in
    let allowed = (EachAfter-last (IsLegalEventWithoutCounts g) before event legal).1 in
    elim (lay-before g before event place shelf block differ allowed (ap (block_at place) (sym (pool_of-push before event)) ∙ found) on) [
      | inl lay ↦ lie place shelf block lay on
      | inr (caller, old, is, at, same) ↦
          subst (λ (b : Block). rule shelf b.need b.contents) (sym same) (puts caller place shelf old is at)
    ]

-- what precedes the last event of a list
init-same : (xs ys : List Event) (x y : Event) → xs ++ x ∷ [] ≡ ys ++ y ∷ [] → xs ≡ ys
init-same [] [] x y is = refl
init-same [] (b ∷ []) x y is = absurd (let t : x ∷ [] ≡ b ∷ y ∷ [] = is in cc)
init-same [] (b ∷ c ∷ ys) x y is = absurd (let t : x ∷ [] ≡ b ∷ c ∷ (ys ++ y ∷ []) = is in cc)
init-same (a ∷ []) [] x y is = absurd (let t : a ∷ x ∷ [] ≡ y ∷ [] = is in cc)
init-same (a ∷ c ∷ xs) [] x y is = absurd (let t : a ∷ c ∷ (xs ++ x ∷ []) ≡ y ∷ [] = is in cc)
init-same (a ∷ xs) (b ∷ ys) x y is =
    let t : a ∷ (xs ++ x ∷ []) ≡ b ∷ (ys ++ y ∷ []) = is in
    let head : a ≡ b = cc in
    let tail : xs ++ x ∷ [] ≡ ys ++ y ∷ [] = cc in
    ap (λ c. c ∷ xs) head ∙ ap (λ l. b ∷ l) (init-same xs ys x y tail)

-- nothing lies on a shelf before the first event
pub always-first : (rule : AllowedWords) → AlwaysByRule rule []
always-first rule [] begins place shelf block found on = absurd (none-some block found)
always-first rule (x ∷ xs) (rest, is) place shelf block found on = absurd (cc)

-- a beginning of events behind which the rule was always kept is one too
pub always-part : (rule : AllowedWords) (shorter longer : List Event) → Begins shorter longer → AlwaysByRule rule longer → AlwaysByRule rule shorter
always-part rule shorter longer (rest, is) always before (more, same) =
    always before (more ++ rest, is ∙ ap (λ l. l ++ rest) same ∙ append_assoc before more rest)

always-push :
    (rule : AllowedWords) (events : List Event) (event : Event) → AlwaysByRule rule events → LieByRule rule (events ++ event ∷ [])
    → AlwaysByRule rule (events ++ event ∷ [])
always-push rule events event always lie before (rest, is) =
    elim (last_cases rest) [
      | inl none ↦ subst (LieByRule rule) (is ∙ ap (λ l. before ++ l) none ∙ append-nil before) lie
      | inr (most, last, same) ↦
          let longer : events ++ event ∷ [] ≡ (before ++ most) ++ last ∷ [] = is ∙ ap (λ l. before ++ l) same ∙ sym (append_assoc before most (last ∷ [])) in
          always before (most, init-same events (before ++ most) event last longer)
    ]

-- the event of a point puts a block on a shelf only where the point is about to
PutsHere : Point → Option Event → Type 0
PutsHere p (Some (Put by place shelf)) = (need : Need) × (goes : Continuation) × (p ≡ point.Large (large.PutBlock shelf place need) goes)
PutsHere p event = Unit {0}

puts-block : (q : Point) (caller words : ℕ) (p : BlockPoint) → PutsHere q (block_event caller words p)
unfolding PutsHere
puts-block q caller words p = grind (arith)

puts-stack : (q : Point) (caller words : ℕ) (p : StackPoint) → PutsHere q (stack_event caller words p)
unfolding PutsHere
puts-stack q caller words p = grind (arith)

puts-large : (caller words : ℕ) (p : LargePoint) (o : Continuation) → PutsHere (point.Large p o) (large_event caller words p)
unfolding PutsHere
puts-large caller words (large.PutBlock shelf place need) o = (need, o, refl)
puts-large caller words p o = grind (arith)

puts-won : (caller : ℕ) (p : Point) → PutsHere p (won_event caller p)
unfolding PutsHere
puts-won caller point.Idle = tt
puts-won caller (point.Block p o) = puts-block (point.Block p o) caller (asked o) p
puts-won caller (point.Stack p o) = puts-stack (point.Stack p o) caller (asked o) p
puts-won caller (point.Desc p o) = tt
puts-won caller (point.Partial p o) = tt
puts-won caller (point.Large p o) = puts-large caller (asked o) p o

puts-event : (caller : ℕ) (p : Point) (x : Found) → PutsHere p (event_of caller p x)
unfolding event_of PutsHere
puts-event caller p x = cond_both x.won (won_event caller p) None (PutsHere p) (λ e. puts-won caller p) (λ e. tt)

-- behind a step the rule was always kept, where it was before and the errand's put, if it makes one, shows it of what the caller had seen
pub always-step :
    (rule : AllowedWords) (g : Geometry) (seen rest log : List Event) (e : ErrandFields) (x : Found)
    → log ≡ seen ++ rest → own e.caller rest ≡ [] → IsLegalWithoutCounts g (with_event log (event_of e.caller e.point x))
    → AlwaysByRule rule log → PutsByRule rule seen e → AlwaysByRule rule (with_event log (event_of e.caller e.point x))
unfolding PutIsByRule PutsHere
always-step rule g seen rest log e x grown none legal always puts = go (event_of e.caller e.point x) refl legal
  where
    put-fits :
        (event : Event) → event_of e.caller e.point x ≡ Some event → IsLegalWithoutCounts g (log ++ event ∷ []) → PutIsByRule rule log event
    put-fits event happens legal_now caller place shelf block is found =
        let here : PutsHere e.point (Some (Put caller place shelf)) = subst (PutsHere e.point) (happens ∙ ap Some is) (puts-event e.caller e.point x) in
        let mine : caller ≡ e.caller = ap caller_of (sym is) ∙ event_own e.caller e.point x event happens in
        let allowed : IsAllowed g log (Put caller place shelf) =
        subst (IsAllowed g log) is (EachAfter-last (IsLegalEventWithoutCounts g) log event legal_now).1 in
        let one : Some allowed.0.0 ≡ Some block = sym allowed.0.1 ∙ found in
        let same : allowed.0.0 ≡ block = cc in
        let owner : block.owner ≡ Caller e.caller = ap (λ (b : Block). b.owner) (sym same) ∙ allowed.0.2 ∙ ap Caller mine in
        let legal_log = EachAfter-cut (IsLegalEventWithoutCounts g) log (event ∷ []) legal_now in
        let still = others-all g seen rest e.caller place (subst (IsLegalWithoutCounts g) grown legal_log) none in
        let now : owned_at e.caller place (pool_of log) ≡ Some block = ap (if_of e.caller) found ∙ of-self e.caller block owner in
        let then : owned_at e.caller place (pool_of seen) ≡ Some block = sym still ∙ ap (λ l. owned_at e.caller place (pool_of l)) (sym grown) ∙ now in
        puts shelf place here.0 here.1 here.2 block then

    go :
        (event : Option Event) → event_of e.caller e.point x ≡ event → IsLegalWithoutCounts g (with_event log event) → AlwaysByRule rule (with_event log event)
    go None happens legal_now = always
    go (Some event) happens legal_now =
        always-push rule log event always (lie-push rule g log event legal_now (always log ([], sym (append-nil log))) (put-fits event happens legal_now))

-- an errand that has begun to write a word is about no shelf
pub write-puts :
    (rule : AllowedWords) (seen : List Event) (e : ErrandFields) (place : ℕ) (need : Need) (i v : ℕ) → PutsByRule rule seen (begun_by e (write place need i v))
unfolding write_begun
write-puts rule seen e place need i v shelf at other goes is = absurd (cc)

-- nor has one that has begun to read one
pub read-puts : (rule : AllowedWords) (seen : List Event) (e : ErrandFields) (place : ℕ) (need : Need) (i : ℕ) → PutsByRule rule seen (begun_by e (read place need i))
unfolding read_begun
read-puts rule seen e place need i shelf at other goes is = absurd (cc)

-- nor is one that stands in a superblock
pub block-puts : (rule : AllowedWords) (seen : List Event) (e : ErrandFields) (p : BlockPoint) (o : Continuation) → e.point ≡ point.Block p o → PutsByRule rule seen e
block-puts rule seen e p o stands shelf place need goes is =
    absurd (let no : point.Block p o ≡ point.Large (large.PutBlock shelf place need) goes = sym stands ∙ is in cc)
