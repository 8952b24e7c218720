-- The places that a plain pool chooses are those of its rule.
use Rattle.std.proofs.Common.{ℕ, Bool, false, ◌≡◌, ◌+◌, ◌*◌, ◌<◌, ◌≤◌, ◌⊎◌, ◌↔◌, List, Option, Some, None, length, take, get_or-take, length-take-le, refl, sym, ◌∙◌, ap, subst, inl, inr, arith}
use Rattle.std.specs.Option.{IfNone}
use Rattle.std.specs.Ordering.{nat_cmp}
use Rattle.std.specs.BTreeMap.{BTreeMap, get}
use Rattle.std.proofs.lemmas.Bool.{cases_lt}
use Rattle.heap_geometry.specs.declared.geometry.Geometry.{Geometry}
use Rattle.heap_geometry.specs.declared.limits.TheConstants.{CLASSES, UNIT_WORDS, MAX_FRAMES, MAX_UNITS}
use Rattle.heap_geometry.specs.declared.need.Need.{Need}
use Rattle.heap_geometry.specs.declared.need.Need.TheVariants.{Small, Large, TooLarge}
use Rattle.heap_geometry.specs.Need.{IsNeed, block_words_of}
use Rattle.heap_geometry.specs.Place.{IsApart, block_place, unit_place, frame_of, run_span}
use Rattle.heap_geometry.proofs.PlaceLemmas.{frame_of-block_place, block-within}
use Rattle.pool_model.specs.declared.event.Event.{Event}
use Rattle.plain_pool.specs.declared.live_block.LiveBlock.{LiveBlock}
use Rattle.pool_model.specs.Pool.{Block, block_at, span_of, pool_of}
use Rattle.pool_model.specs.Legal.{IsFreeBlock, IsFreeRun, HoldsOnly, IsBare}
use Rattle.pool_model.specs.WellFormed.{IsPlaceFor, IsWellFormed}
use Rattle.plain_pool.specs.Plain.{IsLeast, HoldsBlock, IsBeside, IsChosen, IsFull}
use Rattle.plain_pool.specs.Stored.{block_of, IsStored, IsPlainKept, HoldsStored}
use Rattle.plain_pool.specs.Search.{IsPlaced, HoldsOneClass, IsOpenBeside, IsWithinUnits, TakesUnit, IsMarked, IsGap}
use Rattle.pool_model.proofs.WellFormedLemmas.{small-frame, class_span, run_span_words}
use Rattle.plain_pool.proofs.KeptLemmas.{kept-sound, kept-formed, live-from_stored, stored-from_live, none-from_unstored}
use Rattle.pool_model.proofs.FreeLemmas.{holds-only, clear-block, bare-free, free-unlive}

-- a stored block is one of the heap's
pub stored-formed :
    (g : Geometry) (blocks : BTreeMap ℕ LiveBlock) (events : List Event) → IsPlainKept g blocks events → (place : ℕ) (block : LiveBlock)
    → IsStored blocks place block → IsWellFormed g (block_of place block)
stored-formed g blocks events kept place block stored =
    kept-formed g blocks events kept place (block_of place block) (live-from_stored blocks events kept.stored place block stored)

pub kept-placed : (g : Geometry) (blocks : BTreeMap ℕ LiveBlock) (events : List Event) → IsPlainKept g blocks events → (class : ℕ) → IsPlaced blocks class
kept-placed g blocks events kept class place block stored same =
    let formed = stored-formed g blocks events kept place block stored in
    let at : IsPlaceFor g (Small class) place = subst (λ (n : Need). IsPlaceFor g n place) same formed.place in
    let frames : g.frames ≤ MAX_FRAMES = kept.checked.frames.1 in
    (at.0, at.1, omega arith, at.3, at.4)

pub kept-one_class :
    (g : Geometry) (blocks : BTreeMap ℕ LiveBlock) (events : List Event) → IsPlainKept g blocks events → (class : ℕ) → HoldsOneClass blocks class
kept-one_class g blocks events kept class place other block next stored next_stored same here =
    holds-only g (pool_of events) (kept-sound g blocks events kept) place class (frame_of other) (block_of place block)
    (live-from_stored blocks events kept.stored place block stored) same here other (block_of other next)
    (live-from_stored blocks events kept.stored other next next_stored) refl

pub kept-within :
    (g : Geometry) (blocks : BTreeMap ℕ LiveBlock) (events : List Event) → IsPlainKept g blocks events → IsWithinUnits blocks g.frames
kept-within g blocks events kept place block units stored same =
    let formed = stored-formed g blocks events kept place block stored in
    let at : IsPlaceFor g (Large units) place = subst (λ (n : Need). IsPlaceFor g n place) same formed.place in
    let most : g.units ≤ MAX_UNITS = kept.checked.units.1 in
    (at.0, omega arith, at.2)

pub holds-live :
    (g : Geometry) (blocks : BTreeMap ℕ LiveBlock) (events : List Event) → IsPlainKept g blocks events → (frame : ℕ) → HoldsStored blocks frame
    → HoldsBlock (pool_of events) frame
holds-live g blocks events kept frame (place, block, stored, here) =
    (block_of place block, live-from_stored blocks events kept.stored place block stored, here)

-- an open place beside a stored block is a free place beside a live one
pub open-is_beside :
    (g : Geometry) (blocks : BTreeMap ℕ LiveBlock) (events : List Event) → IsPlainKept g blocks events → (class place : ℕ)
    → IsOpenBeside blocks class place → IsBeside g (pool_of events) class place
open-is_beside g blocks events kept class place spot =
    let sound = kept-sound g blocks events kept in
    let live : block_at spot.other (pool_of events) ≡ Some (block_of spot.other spot.block) =
    live-from_stored blocks events kept.stored spot.other spot.block spot.stored in
    let formed = stored-formed g blocks events kept spot.other spot.block spot.stored in
    let in_heap : frame_of spot.other < g.frames = small-frame g spot.block.need class spot.other spot.same_class formed.place in
    let below : spot.frame < g.frames = subst (λ (f : ℕ). f < g.frames) spot.same_frame in_heap in
    let only : HoldsOnly (pool_of events) spot.frame class =
    holds-only g (pool_of events) sound spot.other class spot.frame (block_of spot.other spot.block) live spot.same_class spot.same_frame in
    let none : block_at (block_place spot.frame class spot.index) (pool_of events) ≡ None =
    ap (λ (p : ℕ). block_at p (pool_of events)) (sym spot.is_place) ∙ none-from_unstored blocks events kept.stored place spot.unstored in
    let its_frame : frame_of place ≡ spot.frame = ap frame_of spot.is_place ∙ frame_of-block_place spot.frame class spot.index spot.in_frame in (
      record {
        frame = spot.frame;
        index = spot.index;
        in_heap = below;
        in_frame = spot.in_frame;
        is_place = spot.is_place;
        same_class = only;
        clear = clear-block g (pool_of events) sound spot.frame class spot.index below spot.in_frame only none;
      },
      (block_of spot.other spot.block, live, spot.same_frame ∙ sym its_frame),
    )

pub live_cases : (o : Option LiveBlock) → (o ≡ None) ⊎ ((block : LiveBlock) × (o ≡ Some block))
live_cases None = inl refl
live_cases (Some block) = inr (block, refl)

pub beside-is_open :
    (g : Geometry) (blocks : BTreeMap ℕ LiveBlock) (events : List Event) → IsPlainKept g blocks events → (class place : ℕ)
    → IsBeside g (pool_of events) class place → IsOpenBeside blocks class place
beside-is_open g blocks events kept class place (free, held) =
    let live : block_at held.0.place (pool_of events) ≡ Some held.0 = held.1 in
    let here : frame_of held.0.place ≡ frame_of place = held.2 in
    let its_frame : frame_of place ≡ free.frame = ap frame_of free.is_place ∙ frame_of-block_place free.frame class free.index free.in_frame in
    let stored = stored-from_live blocks events kept.stored held.0.place held.0 live in
    let there : frame_of held.0.place ≡ free.frame = here ∙ its_frame in
    let same : held.0.need ≡ Small class = free.same_class held.0.place held.0 live there in
    let unstored : get nat_cmp blocks place ≡ None =
    elim (live_cases (get nat_cmp blocks place)) [
      | inl none ↦ none
      | inr some ↦
          absurd (free-unlive g (pool_of events) class place (block_of place some.0) free
          (live-from_stored blocks events kept.stored place some.0 some.1))
    ] in
    record {
      frame = free.frame;
      index = free.index;
      in_frame = free.in_frame;
      is_place = free.is_place;
      unstored = unstored;
      other = held.0.place;
      block = stored.0;
      stored = stored.1;
      same_class = ap (λ (b : Block). b.need) stored.2 ∙ same;
      same_frame = there;
    }

pub chosen-beside :
    (g : Geometry) (blocks : BTreeMap ℕ LiveBlock) (events : List Event) → IsPlainKept g blocks events → (class place : ℕ)
    → IsLeast (IsOpenBeside blocks class) place → IsChosen g (pool_of events) (Small class) place
chosen-beside g blocks events kept class place least =
    inl (record {
      holds = open-is_beside g blocks events kept class place least.holds;
      least = λ k at. least.least k (beside-is_open g blocks events kept class k at);
    })

-- a free block lies beside a live one, where its frame is marked
pub marked-beside :
    (g : Geometry) (blocks : BTreeMap ℕ LiveBlock) (events : List Event) (marks : List Bool) → IsPlainKept g blocks events
    → ((frame : ℕ) → frame < g.frames → IsMarked marks frame ↔ HoldsStored blocks frame) → (class place : ℕ)
    → (free : IsFreeBlock g (pool_of events) class place) → IsMarked marks free.frame → IsBeside g (pool_of events) class place
marked-beside g blocks events marks kept tells class place free marked =
    let its_frame : frame_of place ≡ free.frame = ap frame_of free.is_place ∙ frame_of-block_place free.frame class free.index free.in_frame in
    let holds : HoldsBlock (pool_of events) free.frame =
    holds-live g blocks events kept free.frame ((tells free.frame free.in_heap).0 marked) in
    (free, subst (HoldsBlock (pool_of events)) (sym its_frame) holds)

pub chosen-bare :
    (g : Geometry) (blocks : BTreeMap ℕ LiveBlock) (events : List Event) (marks : List Bool) → IsPlainKept g blocks events
    → ((frame : ℕ) → frame < g.frames → IsMarked marks frame ↔ HoldsStored blocks frame) → (class frame : ℕ) → class < CLASSES
    → ((place : ℕ) → ¬ IsOpenBeside blocks class place) → frame < g.frames → ¬ IsMarked marks frame
    → ((j : ℕ) → j < frame → IsMarked marks j) → IsChosen g (pool_of events) (Small class) (block_place frame class 0)
chosen-bare g blocks events marks kept tells class frame is_class none below unmarked least =
    let no_beside : (place : ℕ) → ¬ IsBeside g (pool_of events) class place =
    λ place beside. none place (beside-is_open g blocks events kept class place beside) in
    let bare : IsBare (pool_of events) frame =
    λ place block live here.
    let stored = stored-from_live blocks events kept.stored place block live in
    let at : place ≡ block.place = ap (λ (b : Block). b.place) stored.2 in
    unmarked ((tells frame below).1 (place, stored.0, stored.1, ap frame_of at ∙ here)) in
    inr (
      no_beside,
      record {
        holds = bare-free g (pool_of events) (kept-sound g blocks events kept) class frame is_class below bare;
        least =
            λ k free. elim (cases_lt free.frame frame) [
              | inl lower ↦ absurd (no_beside k (marked-beside g blocks events marks kept tells class k free (least free.frame lower)))
              | inr higher ↦ let at : k ≡ block_place free.frame class free.index = free.is_place in omega arith
            ];
      },
    )

pub full-small :
    (g : Geometry) (blocks : BTreeMap ℕ LiveBlock) (events : List Event) (marks : List Bool) → IsPlainKept g blocks events
    → ((frame : ℕ) → frame < g.frames → IsMarked marks frame ↔ HoldsStored blocks frame) → (class : ℕ)
    → ((place : ℕ) → ¬ IsOpenBeside blocks class place) → ((j : ℕ) → j < g.frames → IsMarked marks j)
    → IsFull g (pool_of events) (Small class)
full-small g blocks events marks kept tells class none all place free =
    none place
    (beside-is_open g blocks events kept class place
    (marked-beside g blocks events marks kept tells class place free (all free.frame free.in_heap)))

-- a run of units that no stored run has is apart from each live block
pub clear-of_run :
    (g : Geometry) (unit units : ℕ) (other : Block) (n : Need) → other.need ≡ n → IsNeed n → IsPlaceFor g n other.place
    → ((m first : ℕ) → n ≡ Large m → other.place ≡ unit_place g.frames first → (k : ℕ) → unit ≤ k → k < unit + units → first ≤ k → k < first + m → ⊥)
    → 0 < units → IsApart (run_span g.frames unit units) (span_of other)
clear-of_run g unit units other (Small own) same within (f, i, in_heap, in_f, at) free some =
    let words : (span_of other).words ≡ block_words_of own = rw same (class_span own) in
    let fits = block-within own i in_f in
    inr (omega arith)
clear-of_run g unit units other (Large m) same within (first, in_heap, at) free some =
    let words : (span_of other).words ≡ UNIT_WORDS * m = rw same (run_span_words m within) in
    let has : 1 ≤ m = omega (arith, within.0) in
    elim (cases_lt first (unit + units)) [
      | inr behind ↦ inl (omega arith)
      | inl before ↦ elim (cases_lt unit (first + m)) [
        | inr after ↦ inr (omega arith)
        | inl meets ↦ elim (cases_lt unit first) [
          | inl inside ↦ absurd (free m first refl at first (omega arith) before (omega arith) (omega arith))
          | inr outside ↦ absurd (free m first refl at unit (omega arith) (omega arith) outside meets)
        ]
      ]
    ]
clear-of_run g unit units other TooLarge same within placed free some = absurd placed

pub run-free :
    (g : Geometry) (blocks : BTreeMap ℕ LiveBlock) (events : List Event) → IsPlainKept g blocks events → (unit units : ℕ) → 0 < units
    → unit + units ≤ g.units → ((k : ℕ) → unit ≤ k → k < unit + units → ¬ TakesUnit blocks g.frames k)
    → IsFreeRun g (pool_of events) units (unit_place g.frames unit)
run-free g blocks events kept unit units some within untaken =
    record {
      unit = unit;
      in_heap = within;
      is_place = refl;
      clear =
          λ place other live.
          let formed : IsWellFormed g other = kept-formed g blocks events kept place other live in
          let stored = stored-from_live blocks events kept.stored place other live in
          let at : place ≡ other.place = ap (λ (b : Block). b.place) stored.2 in
          let need : stored.0.need ≡ other.need = ap (λ (b : Block). b.need) stored.2 in
          clear-of_run g unit units other other.need refl formed.need formed.place
          (λ m first large here k from before its_from its_before.
          untaken k from before
          (record {
            first = first;
            units = m;
            block = stored.0;
            stored = subst (λ (p : ℕ). IsStored blocks p stored.0) (at ∙ here) stored.1;
            large = need ∙ large;
            from = its_from;
            before = its_before;
          })) some;
    }

-- no unit of a free run is taken
pub free-untaken :
    (g : Geometry) (blocks : BTreeMap ℕ LiveBlock) (events : List Event) → IsPlainKept g blocks events → (units place : ℕ)
    → (free : IsFreeRun g (pool_of events) units place) → (k : ℕ) → free.unit ≤ k → k < free.unit + units → ¬ TakesUnit blocks g.frames k
free-untaken g blocks events kept units place free k from before taken =
    let block : Block = block_of (unit_place g.frames taken.first) taken.block in
    let live : block_at (unit_place g.frames taken.first) (pool_of events) ≡ Some (block_of (unit_place g.frames taken.first) taken.block) =
    live-from_stored blocks events kept.stored (unit_place g.frames taken.first) taken.block taken.stored in
    let formed = stored-formed g blocks events kept (unit_place g.frames taken.first) taken.block taken.stored in
    let need : IsNeed (Large taken.units) = subst IsNeed taken.large formed.need in
    let words : (span_of (block_of (unit_place g.frames taken.first) taken.block)).words ≡ UNIT_WORDS * taken.units =
    rw taken.large (run_span_words taken.units need) in
    let its_from : taken.first ≤ k = taken.from in
    let its_before : k < taken.first + taken.units = taken.before in
    elim (free.clear (unit_place g.frames taken.first) (block_of (unit_place g.frames taken.first) taken.block) live) [
      | inl h ↦ omega arith
      | inr h ↦ omega arith
    ]

pub gap-from_free :
    (g : Geometry) (blocks : BTreeMap ℕ LiveBlock) (events : List Event) (marks : List Bool) → IsPlainKept g blocks events
    → length marks ≡ g.units → ((k : ℕ) → k < g.units → IsMarked marks k ↔ TakesUnit blocks g.frames k) → (units place : ℕ)
    → (free : IsFreeRun g (pool_of events) units place) → IsGap marks units free.unit
gap-from_free g blocks events marks kept len tells units place free =
    let within : free.unit + units ≤ g.units = free.in_heap in (
      omega arith,
      λ k from before marked.
          let below : k < g.units = omega arith in
          free-untaken g blocks events kept units place free k from before ((tells k below).0 marked),
    )

pub chosen-run :
    (g : Geometry) (blocks : BTreeMap ℕ LiveBlock) (events : List Event) (marks : List Bool) → IsPlainKept g blocks events
    → length marks ≡ g.units → ((k : ℕ) → k < g.units → IsMarked marks k ↔ TakesUnit blocks g.frames k) → (units unit : ℕ) → 0 < units
    → IsGap marks units unit → ((j : ℕ) → IsGap marks units j → unit ≤ j) → IsChosen g (pool_of events) (Large units) (unit_place g.frames unit)
chosen-run g blocks events marks kept len tells units unit some gap least =
    let within : unit + units ≤ g.units = subst (λ (n : ℕ). unit + units ≤ n) len gap.0 in
    record {
      holds =
          run-free g blocks events kept unit units some within
          (λ k from before taken. let below : k < g.units = omega arith in gap.1 k from before ((tells k below).1 taken));
      least =
          λ k free.
          let le : unit ≤ free.unit = least free.unit (gap-from_free g blocks events marks kept len tells units k free) in
          let at : k ≡ unit_place g.frames free.unit = free.is_place in
          omega arith;
    }

pub full-run :
    (g : Geometry) (blocks : BTreeMap ℕ LiveBlock) (events : List Event) (marks : List Bool) → IsPlainKept g blocks events
    → length marks ≡ g.units → ((k : ℕ) → k < g.units → IsMarked marks k ↔ TakesUnit blocks g.frames k) → (units : ℕ)
    → ((j : ℕ) → ¬ IsGap marks units j) → IsFull g (pool_of events) (Large units)
full-run g blocks events marks kept len tells units none place free =
    none free.unit (gap-from_free g blocks events marks kept len tells units place free)

-- the first marks tell what all of them do
pub marked-take : (n k : ℕ) (marks : List Bool) → k < n → IsMarked (take n marks) k ↔ IsMarked marks k
marked-take n k marks below =
    let same = get_or-take n marks k false below in
    (λ h. sym same ∙ h, λ h. same ∙ h)

pub if-none : (o : Option ℕ) (P : Type 0) → P → IfNone o P
if-none None P h = h
if-none (Some x) P h = tt

pub tells-take :
    (P : ℕ → Type 0) (n most : ℕ) (marks : List Bool) → n ≤ most → ((k : ℕ) → k < most → IsMarked marks k ↔ P k)
    → (k : ℕ) → k < n → IsMarked (take n marks) k ↔ P k
tells-take P n most marks le tells k below =
    let first = marked-take n k marks below in
    let all = tells k (omega arith) in
    (λ h. all.0 (first.0 h), λ p. first.1 (all.1 p))

pub length-first : (n most : ℕ) (marks : List Bool) → n ≤ most → length marks ≡ most → length (take n marks) ≡ n
length-first n most marks le len = length-take-le n marks (omega arith)
