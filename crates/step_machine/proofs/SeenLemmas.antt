-- What the events tell of the block at a place is so.
use Rattle.std.proofs.Common.{ℕ, ◌≡◌, ◌<◌, ◌+◌, ◌-◌, refl, ap, sym, ◌∙◌, subst, arith, Option, Some, None, ⊎_elim, eq-eqb, ne_eqb, List, [], ◌∷◌, take, drop, length, slice_index_or}
use Rattle.std.specs.Prelude.{IfSome}
use Rattle.std.proofs.lemmas.Bool.{cases_eq}
use Rattle.std.proofs.lemmas.List.{take_more, take-append-drop}
use Rattle.heap_geometry.specs.declared.geometry.Geometry.{Geometry}
use Rattle.heap_geometry.specs.declared.need.Need.{Need}
use Rattle.heap_geometry.specs.Need.{IsNeed}
use Rattle.pool_model.specs.declared.event.Event.{Event}
use Rattle.pool_model.specs.declared.event.Event.TheVariants.{Alloc, Looked, Refuse, Free, Write, Put, Take, TakeNone}
use Rattle.pool_model.specs.declared.owner.Owner.{Owner}
use Rattle.pool_model.specs.declared.owner.Owner.TheVariants.{Caller, Shelf}
use Rattle.pool_model.specs.Legal.{IsLegalWithoutCounts, IsLegalEventWithoutCounts}
use Rattle.pool_model.specs.WellFormed.{IsWellFormed}
use Rattle.pool_model.specs.Pool.{Block, Pool, block_at, pool_after, pool_of, without, with_changed, written, handed_to}
use Rattle.pool_model.proofs.HistoryLemmas.{pool_of-push, EachAfter-cut}
use Rattle.pool_model.proofs.PoolLemmas.{Pairs, Differ, every-found, block_at-here, block_at-past, block_at-without_same, block_at-without_other, block_at-changed_other}
use Rattle.pool_model.proofs.WellFormedLemmas.{sound-of, sound-differ}
use Rattle.step_machine.specs.declared.seen.Look.{Look}
use Rattle.step_machine.specs.declared.seen.Look.TheVariants.{Known, Further}
use Rattle.step_machine.specs.Seen.{seen, owner_or, handed_on, look_of}

-- what a look tells, where this was seen of the block before the event
abbrev pub tells : Look → Option (Need × Owner) → Option (Need × Owner)
tells (Known now) before = now
tells (Further last) before = handed_on last before

-- the changed block, where there is one
abbrev changed : (Block → Block) → Option Block → Option Block
changed change None = None
changed change (Some block) = Some (change block)

changed-at :
    (place : ℕ) (change : Block → Block) (pool : Pool) → ((block : Block) → (change block).place ≡ block.place)
    → block_at place (with_changed place change pool) ≡ changed change (block_at place pool)
changed-at place change [] stays = refl
changed-at place change (block ∷ pool) stays =
    ⊎_elim
    (λ here. rw (eq-eqb block.place place here) (block_at-here place (change block) pool (stays block ∙ here)))
    (λ past. rw (ne_eqb block.place place past)
    (block_at-past place block (with_changed place change pool) past ∙ changed-at place change pool stays))
    (cases_eq block.place place)

-- a block handed on is seen with that owner as the last, if none is named behind; a write changes nothing that is seen
handed-seen :
    (last : Option Owner) (owner : Owner) (live : Option Block)
    → handed_on last (seen (changed (handed_to owner) live)) ≡ handed_on (Some (owner_or last owner)) (seen live)
handed-seen last owner None = refl
handed-seen last owner (Some block) = refl

written-seen : (i v : ℕ) (live : Option Block) → seen (changed (written i v) live) ≡ seen live
written-seen i v None = refl
written-seen i v (Some block) = refl

-- what is seen after an event
seen-after :
    (pool : Pool) (event : Event) (place : ℕ) (last : Option Owner) → Pairs Differ pool
    → handed_on last (seen (block_at place (pool_after pool event))) ≡ tells (look_of event place last) (seen (block_at place pool))
seen-after pool (Alloc caller need at) place last differ =
    ⊎_elim
    (λ here. rw (eq-eqb at place here) refl)
    (λ past. rw (ne_eqb at place past) refl)
    (cases_eq at place)
seen-after pool (Looked caller class) place last differ = refl
seen-after pool (Refuse caller need) place last differ = refl
seen-after pool (Free caller at) place last differ =
    ⊎_elim
    (λ here. rw (eq-eqb at place here)
    (ap (λ p. handed_on last (seen (block_at place (without p pool)))) here
    ∙ ap (λ b. handed_on last (seen b)) (block_at-without_same place pool differ)))
    (λ past. rw (ne_eqb at place past)
    (ap (λ b. handed_on last (seen b)) (block_at-without_other at place pool (λ e. past (sym e)))))
    (cases_eq at place)
seen-after pool (Write caller at i v) place last differ =
    ⊎_elim
    (λ here.
    ap (λ p. handed_on last (seen (block_at place (with_changed p (written i v) pool)))) here
    ∙ (ap (λ b. handed_on last (seen b)) (changed-at place (written i v) pool (λ block. refl))
    ∙ ap (handed_on last) (written-seen i v (block_at place pool))))
    (λ past.
    ap (λ b. handed_on last (seen b)) (block_at-changed_other at place (written i v) pool (λ block. refl) (λ e. past (sym e))))
    (cases_eq at place)
seen-after pool (Put caller at shelf) place last differ =
    ⊎_elim
    (λ here. rw (eq-eqb at place here)
    (ap (λ p. handed_on last (seen (block_at place (with_changed p (handed_to (Shelf shelf)) pool)))) here
    ∙ (ap (λ b. handed_on last (seen b)) (changed-at place (handed_to (Shelf shelf)) pool (λ block. refl))
    ∙ handed-seen last (Shelf shelf) (block_at place pool))))
    (λ past. rw (ne_eqb at place past)
    (ap (λ b. handed_on last (seen b))
    (block_at-changed_other at place (handed_to (Shelf shelf)) pool (λ block. refl) (λ e. past (sym e)))))
    (cases_eq at place)
seen-after pool (Take caller shelf at) place last differ =
    ⊎_elim
    (λ here. rw (eq-eqb at place here)
    (ap (λ p. handed_on last (seen (block_at place (with_changed p (handed_to (Caller caller)) pool)))) here
    ∙ (ap (λ b. handed_on last (seen b)) (changed-at place (handed_to (Caller caller)) pool (λ block. refl))
    ∙ handed-seen last (Caller caller) (block_at place pool))))
    (λ past. rw (ne_eqb at place past)
    (ap (λ b. handed_on last (seen b))
    (block_at-changed_other at place (handed_to (Caller caller)) pool (λ block. refl) (λ e. past (sym e)))))
    (cases_eq at place)
seen-after pool (TakeNone caller shelf) place last differ = refl

-- in the pool of a legal history's beginning no two blocks are at one place
begun-differ : (g : Geometry) (events : List Event) (k : ℕ) → IsLegalWithoutCounts g events → Pairs Differ (pool_of (take k events))
begun-differ g events k legal =
    let L : List Event → Type 0 = IsLegalWithoutCounts g in
    sound-differ g (pool_of (take k events))
    (sound-of g (take k events)
    (EachAfter-cut (IsLegalEventWithoutCounts g) (take k events) (drop k events) (subst L (sym (take-append-drop k events)) legal)))

-- what the first events leave at a place, with the last owner where one is named
abbrev pub seen_before : List Event → ℕ → ℕ → Option Owner → Option (Need × Owner)
seen_before events k place last = handed_on last (seen (block_at place (pool_of (take k events))))

-- what the events up to one more leave at a place is what that one tells of what the earlier ones left
pub seen-next :
    (g : Geometry) (events : List Event) (k place : ℕ) (d : Event) (last : Option Owner) → IsLegalWithoutCounts g events
    → k < length events
    → seen_before events (k + 1) place last
    ≡ tells (look_of (slice_index_or events k d) place last) (seen (block_at place (pool_of (take k events))))
seen-next g events k place d last legal within =
    let event : Event = slice_index_or events k d in
    ap (λ xs. handed_on last (seen (block_at place (pool_of xs)))) (take_more events k d within)
    ∙ (ap (λ pool. handed_on last (seen (block_at place pool))) (pool_of-push (take k events) event)
    ∙ seen-after (pool_of (take k events)) event place last (begun-differ g events k legal))

-- the next event from the back tells what the rest left, or hands on to the earlier ones
told-back :
    (g : Geometry) (events : List Event) (back place : ℕ) (d : Event) (last : Option Owner) (look : Look) (all : Option (Need × Owner))
    → IsLegalWithoutCounts g events → back < length events → seen_before events (length events - back) place last ≡ all
    → look ≡ look_of (slice_index_or events (length events - 1 - back) d) place last
    → all ≡ tells look (seen (block_at place (pool_of (take (length events - 1 - back) events))))
told-back g events back place d last look all legal within so is =
    let k : ℕ = length events - 1 - back in
    let next : k + 1 ≡ length events - back = omega (arith, within) in
    sym so
    ∙ (ap (λ n. seen_before events n place last) (sym next)
    ∙ (seen-next g events k place d last legal (omega (arith, within))
    ∙ ap (λ l. tells l (seen (block_at place (pool_of (take k events))))) (sym is)))

pub told-known :
    (g : Geometry) (events : List Event) (back place : ℕ) (d : Event) (last : Option Owner) (look : Look)
    (live all : Option (Need × Owner)) → IsLegalWithoutCounts g events → back < length events
    → seen_before events (length events - back) place last ≡ all
    → look ≡ look_of (slice_index_or events (length events - 1 - back) d) place last → look ≡ Known live → live ≡ all
told-known g events back place d last look live all legal within so is known =
    sym
    (told-back g events back place d last look all legal within so is
    ∙ ap (λ l. tells l (seen (block_at place (pool_of (take (length events - 1 - back) events))))) known)

pub told-further :
    (g : Geometry) (events : List Event) (back place : ℕ) (d : Event) (last next : Option Owner) (look : Look)
    (all : Option (Need × Owner)) → IsLegalWithoutCounts g events → back < length events
    → seen_before events (length events - back) place last ≡ all
    → look ≡ look_of (slice_index_or events (length events - 1 - back) d) place last → look ≡ Further next
    → seen_before events (length events - (back + 1)) place next ≡ all
told-further g events back place d last next look all legal within so is further =
    let fewer : length events - (back + 1) ≡ length events - 1 - back = omega (arith, within) in
    ap (λ n. seen_before events n place next) fewer
    ∙ sym
    (told-back g events back place d last look all legal within so is
    ∙ ap (λ l. tells l (seen (block_at place (pool_of (take (length events - 1 - back) events))))) further)

-- a live block serves a need that a block can serve
seen-need : (block : Option Block) → ((b : Block) → block ≡ Some b → IsNeed b.need) → IfSome (seen block) (λ live. IsNeed live.0)
seen-need None needs = tt
seen-need (Some b) needs = needs b refl

pub told-need :
    (g : Geometry) (events : List Event) (place : ℕ) (live : Option (Need × Owner)) → IsLegalWithoutCounts g events
    → live ≡ seen (block_at place (pool_of events)) → IfSome live (λ l. IsNeed l.0)
told-need g events place live legal is =
    subst (λ s. IfSome s (λ l. IsNeed l.0)) (sym is)
    (seen-need (block_at place (pool_of events))
    (λ b found. (every-found (IsWellFormed g) place (pool_of events) b (sound-of g events legal).each found).need))
