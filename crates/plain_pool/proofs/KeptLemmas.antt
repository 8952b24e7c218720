-- A plain pool stores the live blocks of its events, and they stay legal.
use Rattle.std.proofs.Common.{ℕ, true, false, ◌≡◌, ◌≢◌, ◌<◌, List, [], ◌∷◌, ◌++◌, Option, Some, None, length, replicate, ⊎_elim, inl, inr, refl, sym, ◌∙◌, ap, subst}
use Rattle.std.specs.Option.{option_map, IfSome, IfNone, is_some}
use Rattle.std.specs.Ordering.{nat_cmp}
use Rattle.std.specs.BTreeMap.{BTreeMap, get, is_at}
use Rattle.std.specs.Map.{lookup}
use Rattle.std.proofs.lemmas.Bool.{cases_eq}
use Rattle.heap_geometry.specs.declared.geometry.Geometry.{Geometry}
use Rattle.heap_geometry.specs.declared.need.Need.{Need}
use Rattle.heap_geometry.specs.declared.need.Need.TheVariants.{Small, Large, TooLarge}
use Rattle.heap_geometry.specs.Need.{need_of, usable_words}
use Rattle.pool_model.specs.declared.owner.Owner.{Owner}
use Rattle.pool_model.specs.declared.owner.Owner.TheVariants.{Caller, Shelf}
use Rattle.pool_model.specs.declared.event.Event.{Event}
use Rattle.pool_model.specs.declared.event.Event.TheVariants.{Alloc, Free, Write, Put, Take}
use Rattle.plain_pool.specs.declared.live_block.LiveBlock.{LiveBlock}
use Rattle.pool_model.specs.Pool.{Block, Pool, block_at, EachBlock, Owns, fresh_block, written, handed_to, pool_after, pool_of, with_changed}
use Rattle.pool_model.specs.Legal.{IsLegalEvent, IsAllowed, IsEmptyShelf, IsFree}
use Rattle.pool_model.specs.WellFormed.{IsWellFormed}
use Rattle.plain_pool.specs.Plain.{PlainState, AddsEvents, OwnsWord, IsChosen}
use Rattle.plain_pool.specs.Stored.{block_of, stored_at, IsStored, IsPoolOf, Replaces, IsPlainKept}
use Rattle.pool_model.proofs.PoolLemmas.{every-found, block_at-here, block_at-past, block_at-without_same, block_at-without_other, block_at-changed_same, block_at-changed_other}
use Rattle.pool_model.proofs.HistoryLemmas.{pool_of-push, legal-push, legal-weaker}
use Rattle.pool_model.proofs.WellFormedLemmas.{IsSoundPool, sound-of, sound-differ}

pub kept-sound : (g : Geometry) (blocks : BTreeMap ℕ LiveBlock) (events : List Event) → IsPlainKept g blocks events → IsSoundPool g (pool_of events)
kept-sound g blocks events kept = sound-of g events (legal-weaker g events kept.legal)

-- a live block is one of the heap's
pub kept-formed :
    (g : Geometry) (blocks : BTreeMap ℕ LiveBlock) (events : List Event) → IsPlainKept g blocks events → (place : ℕ) (block : Block)
    → block_at place (pool_of events) ≡ Some block → IsWellFormed g block
kept-formed g blocks events kept place block found =
    every-found (IsWellFormed g) place (pool_of events) block (kept-sound g blocks events kept).each found

-- whoever owns a block as a caller is a caller of the heap
pub kept-caller :
    (g : Geometry) (blocks : BTreeMap ℕ LiveBlock) (events : List Event) → IsPlainKept g blocks events → (place caller : ℕ) (block : Block)
    → block_at place (pool_of events) ≡ Some block → block.owner ≡ Caller caller → caller < g.callers
kept-caller g blocks events kept place caller block found owned =
    let formed = kept-formed g blocks events kept place block found in
    rw owned at formed.owner

-- what a plain pool keeps is kept by one more event that leaves the pool
pub kept-still :
    (g : Geometry) (blocks : BTreeMap ℕ LiveBlock) (events : List Event) (event : Event) → IsPlainKept g blocks events
    → IsLegalEvent g events event → pool_after (pool_of events) event ≡ pool_of events → IsPlainKept g blocks (events ++ event ∷ [])
kept-still g blocks events event kept legal same =
    record {
      checked = kept.checked;
      legal = legal-push g events event kept.legal legal;
      stored = λ place. kept.stored place ∙ ap (block_at place) (sym (pool_of-push events event ∙ same));
    }

-- what a plain pool keeps is kept by one more event that replaces the block at a place
pub kept-replaced :
    (g : Geometry) (blocks new : BTreeMap ℕ LiveBlock) (events : List Event) (event : Event) (place : ℕ) (after : Option Block)
    → IsPlainKept g blocks events → IsLegalEvent g events event → Replaces blocks new place after
    → block_at place (pool_after (pool_of events) event) ≡ after
    → ((other : ℕ) → other ≢ place → block_at other (pool_after (pool_of events) event) ≡ block_at other (pool_of events))
    → IsPlainKept g new (events ++ event ∷ [])
kept-replaced g blocks new events event place after kept legal replaces here others =
    record {
      checked = kept.checked;
      legal = legal-push g events event kept.legal legal;
      stored =
          λ at. ⊎_elim
          (λ same.
          subst (λ (p : ℕ). stored_at new p ≡ block_at p (pool_of (events ++ event ∷ []))) (sym same)
          (rw (pool_of-push events event) (replaces.here ∙ sym here)))
          (λ ne. rw (pool_of-push events event) (replaces.others at ne ∙ kept.stored at ∙ sym (others at ne)))
          (cases_eq at place);
    }

pub kept-changed :
    (g : Geometry) (blocks new : BTreeMap ℕ LiveBlock) (events : List Event) (event : Event) (place : ℕ) (change : Block → Block) (block : Block)
    → IsPlainKept g blocks events → IsLegalEvent g events event → Replaces blocks new place (option_map change (stored_at blocks place))
    → ((b : Block) → (change b).place ≡ b.place) → pool_after (pool_of events) event ≡ with_changed place change (pool_of events)
    → block_at place (pool_of events) ≡ Some block → IsPlainKept g new (events ++ event ∷ [])
kept-changed g blocks new events event place change block kept legal replaces keeps is found =
    kept-replaced g blocks new events event place (option_map change (stored_at blocks place)) kept legal replaces
    (ap (block_at place) is ∙ block_at-changed_same place change (pool_of events) block keeps found
    ∙ sym (ap (option_map change) (kept.stored place ∙ found)))
    (λ other ne. ap (block_at other) is ∙ block_at-changed_other place other change (pool_of events) keeps ne)

pub kept-freed :
    (g : Geometry) (blocks new : BTreeMap ℕ LiveBlock) (events : List Event) (caller place : ℕ) → IsPlainKept g blocks events
    → Owns (pool_of events) (Caller caller) place → Replaces blocks new place None → IsPlainKept g new (events ++ Free caller place ∷ [])
kept-freed g blocks new events caller place kept owns replaces =
    kept-replaced g blocks new events (Free caller place) place None kept
    ((kept-caller g blocks events kept place caller owns.0 owns.1 owns.2, owns), tt) replaces
    (block_at-without_same place (pool_of events) (sound-differ g (pool_of events) (kept-sound g blocks events kept)))
    (λ other ne. block_at-without_other place other (pool_of events) ne)

pub kept-written :
    (g : Geometry) (blocks new : BTreeMap ℕ LiveBlock) (events : List Event) (caller place i v : ℕ) → IsPlainKept g blocks events
    → OwnsWord (pool_of events) caller place i → Replaces blocks new place (option_map (written i v) (stored_at blocks place))
    → IsPlainKept g new (events ++ Write caller place i v ∷ [])
kept-written g blocks new events caller place i v kept owns replaces =
    kept-changed g blocks new events (Write caller place i v) place (written i v) owns.0 kept
    ((kept-caller g blocks events kept place caller owns.0 owns.1 owns.2, owns), tt) replaces (λ b. refl) refl owns.1

pub kept-put :
    (g : Geometry) (blocks new : BTreeMap ℕ LiveBlock) (events : List Event) (caller place shelf : ℕ) → IsPlainKept g blocks events
    → Owns (pool_of events) (Caller caller) place → IsAllowed g events (Put caller place shelf)
    → Replaces blocks new place (option_map (handed_to (Shelf shelf)) (stored_at blocks place))
    → IsPlainKept g new (events ++ Put caller place shelf ∷ [])
kept-put g blocks new events caller place shelf kept owns allowed replaces =
    kept-changed g blocks new events (Put caller place shelf) place (handed_to (Shelf shelf)) owns.0 kept
    ((kept-caller g blocks events kept place caller owns.0 owns.1 owns.2, allowed), tt) replaces (λ b. refl) refl owns.1

pub kept-taken :
    (g : Geometry) (blocks new : BTreeMap ℕ LiveBlock) (events : List Event) (caller shelf place : ℕ) → IsPlainKept g blocks events
    → caller < g.callers → IsAllowed g events (Take caller shelf place)
    → Replaces blocks new place (option_map (handed_to (Caller caller)) (stored_at blocks place))
    → IsPlainKept g new (events ++ Take caller shelf place ∷ [])
kept-taken g blocks new events caller shelf place kept below allowed replaces =
    kept-changed g blocks new events (Take caller shelf place) place (handed_to (Caller caller)) allowed.0.0 kept ((below, allowed), tt)
    replaces (λ b. refl) refl allowed.0.1

pub kept-given :
    (g : Geometry) (blocks new : BTreeMap ℕ LiveBlock) (events : List Event) (caller need place : ℕ) → IsPlainKept g blocks events
    → caller < g.callers → IsFree g (pool_of events) (need_of need) place → Replaces blocks new place (Some (fresh_block caller need place))
    → IsPlainKept g new (events ++ Alloc caller need place ∷ [])
kept-given g blocks new events caller need place kept below free replaces =
    kept-replaced g blocks new events (Alloc caller need place) place (Some (fresh_block caller need place)) kept ((below, free), tt)
    replaces (block_at-here place (fresh_block caller need place) (pool_of events) refl)
    (λ other ne. block_at-past other (fresh_block caller need place) (pool_of events) (λ e. ne (sym e)))

-- a stored block is live, and a live block is stored
pub live-from_stored :
    (blocks : BTreeMap ℕ LiveBlock) (events : List Event) → IsPoolOf blocks events → (place : ℕ) (block : LiveBlock)
    → IsStored blocks place block → block_at place (pool_of events) ≡ Some (block_of place block)
live-from_stored blocks events is place block stored = sym (is place) ∙ ap (option_map (block_of place)) stored

pub option_map-some :
    (f : LiveBlock → Block) (o : Option LiveBlock) (block : Block) → option_map f o ≡ Some block
    → (x : LiveBlock) × (o ≡ Some x) × (f x ≡ block)
option_map-some f None block e = absurd (let no : None ≡ Some block = e in cc)
option_map-some f (Some x) block e = (x, refl, let some : Some (f x) ≡ Some block = e in cc)

pub stored-from_live :
    (blocks : BTreeMap ℕ LiveBlock) (events : List Event) → IsPoolOf blocks events → (place : ℕ) (block : Block)
    → block_at place (pool_of events) ≡ Some block → (x : LiveBlock) × IsStored blocks place x × (block_of place x ≡ block)
stored-from_live blocks events is place block found =
    option_map-some (block_of place) (get nat_cmp blocks place) block (is place ∙ found)

-- nothing is live where nothing is stored
pub none-from_unstored :
    (blocks : BTreeMap ℕ LiveBlock) (events : List Event) → IsPoolOf blocks events → (place : ℕ) → get nat_cmp blocks place ≡ None
    → block_at place (pool_of events) ≡ None
none-from_unstored blocks events is place none = sym (is place) ∙ ap (option_map (block_of place)) none

-- what holds of each stored block holds of each live one
pub each-live :
    (P : Block → Type 0) (blocks : BTreeMap ℕ LiveBlock) (events : List Event) → IsPoolOf blocks events
    → ((place : ℕ) (block : LiveBlock) → IsStored blocks place block → P (block_of place block)) → EachBlock P (pool_of events)
each-live P blocks events is each place block found =
    let stored = stored-from_live blocks events is place block found in
    subst P stored.2 (each place stored.0 stored.1)

-- what a plain pool keeps is kept by a map with the same entries
pub kept-unchanged :
    (g : Geometry) (blocks new : BTreeMap ℕ LiveBlock) (events : List Event) → IsPlainKept g blocks events → new.entries ≡ blocks.entries
    → IsPlainKept g new events
kept-unchanged g blocks new events kept same =
    record {
      checked = kept.checked;
      legal = kept.legal;
      stored = λ place. ap (option_map (block_of place)) (ap (lookup (is_at (nat_cmp place))) same) ∙ kept.stored place;
    }

-- a stored block has the words that its owner may use
pub kept-word :
    (g : Geometry) (blocks : BTreeMap ℕ LiveBlock) (events : List Event) (caller place i : ℕ) (x : LiveBlock) → IsPlainKept g blocks events
    → OwnsWord (pool_of events) caller place i → IsStored blocks place x → i < length x.words.items
kept-word g blocks events caller place i x kept owns stored =
    let live : block_at place (pool_of events) ≡ Some (block_of place x) = live-from_stored blocks events kept.stored place x stored in
    let same : owns.0 ≡ block_of place x = let e : Some owns.0 ≡ Some (block_of place x) = sym owns.1 ∙ live in cc in
    let full = (kept-formed g blocks events kept place owns.0 owns.1).full in
    let short : i < length owns.0.contents = subst (λ (n : ℕ). i < n) (sym full) owns.3 in
    subst (λ (b : Block). i < length b.contents) same short

pub some-when : (o : Option ℕ) (P : ℕ → Type 0) → is_some o ≡ true → IfSome o P → (x : ℕ) × P x
some-when None P some found = absurd (cc)
some-when (Some x) P some found = (x, found)

pub none-when : (o : Option ℕ) (P : Type 0) → is_some o ≡ false → IfNone o P → P
none-when None P none found = found
none-when (Some x) P none found = absurd (cc)

-- the block that is stored for a shelf is owned by it, and where none is stored for it the shelf is empty
pub shelf-owns :
    (blocks : BTreeMap ℕ LiveBlock) (events : List Event) (shelf place : ℕ) → IsPoolOf blocks events
    → (block : LiveBlock) × IsStored blocks place block × (block.owner ≡ Shelf shelf) → Owns (pool_of events) (Shelf shelf) place
shelf-owns blocks events shelf place is (block, stored, on) =
    (block_of place block, live-from_stored blocks events is place block stored, on)

pub shelf-empty :
    (blocks : BTreeMap ℕ LiveBlock) (events : List Event) (shelf : ℕ) → IsPoolOf blocks events
    → ((place : ℕ) (block : LiveBlock) → IsStored blocks place block → block.owner ≢ Shelf shelf) → IsEmptyShelf (pool_of events) shelf
shelf-empty blocks events shelf is empty = each-live (λ block. block.owner ≢ Shelf shelf) blocks events is empty

-- a plain pool whose list of events has grown has gained those events, as callers see it
pub gains :
    (old : PlainState) (g : Geometry) (items after added : List Event) → record { geometry = g; events = items } ≡ old
    → after ≡ items ++ added → AddsEvents old (record { geometry = g; events = after }) added
gains old g items after added view is =
    let new : PlainState = record { geometry = g; events = after } in
    let same : new ≡ record { geometry = g; events = items ++ added } = ap (λ (xs : List Event). record { geometry = g; events = xs }) is in
    subst (λ (s : PlainState). AddsEvents s (record { geometry = g; events = after }) added) view same

-- a caller of the heap that callers see is one of the heap's inside
pub kept-geometry :
    (old : PlainState) (g : Geometry) (items : List Event) (caller : ℕ) → record { geometry = g; events = items } ≡ old
    → caller < old.geometry.callers → caller < g.callers
kept-geometry old g items caller view below = subst (λ (s : PlainState). caller < s.geometry.callers) (sym view) below

-- a block can be given at the place that a plain pool chose
pub chosen-free : (g : Geometry) (pool : Pool) (n : Need) (place : ℕ) → IsChosen g pool n place → IsFree g pool n place
chosen-free g pool (Small class) place (inl beside) = beside.holds.0
chosen-free g pool (Small class) place (inr bare) = bare.1.holds
chosen-free g pool (Large units) place chosen = chosen.holds
chosen-free g pool TooLarge place chosen = chosen

-- the stored block is the one that the caller is given
pub fresh-is :
    (caller need place : ℕ) (serves : Need) (block : LiveBlock) → serves ≡ need_of need → block.need ≡ serves → block.owner ≡ Caller caller
    → block.words.items ≡ replicate (usable_words serves) None → block_of place block ≡ fresh_block caller need place
fresh-is caller need place serves block is same owned words =
    let need_is : block.need ≡ need_of need = same ∙ is in
    let contents_is : block.words.items ≡ replicate (usable_words (need_of need)) None =
    words ∙ ap (λ (n : Need). replicate (usable_words n) None) is in
    let parts : Need → Owner → List (Option ℕ) → Block = λ n o c. record { place = place; need = n; owner = o; contents = c } in
    ap (λ (n : Need). parts n block.owner block.words.items) need_is ∙ ap (λ (o : Owner). parts (need_of need) o block.words.items) owned
    ∙ ap (λ (c : List (Option ℕ)). parts (need_of need) (Caller caller) c) contents_is
