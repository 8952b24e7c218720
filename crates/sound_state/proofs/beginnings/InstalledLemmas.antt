-- The state with one superblock installed, all of whose blocks are free, is sound.
use Rattle.std.proofs.Common.{ℕ, zero, suc, true, ◌≡◌, ◌≢◌, ◌<◌, ◌≤◌, ◌+◌, ◌^◌, Some, refl, arith, ap, sym, subst, ◌∙◌, inl, inr, ◌-◌, ◌==◌, ◌&&◌, if◌then◌else◌, IsSome}
use Rattle.std.proofs.Common.{is_some, nat_lt, lt-ltb, ltb-true, eq-eqb, eqb-true}
use Rattle.std.proofs.lemmas.Bool.{cond_both, cond-true, cond-false, and_parts, and_from, cases_Bool}
use Rattle.sound_state.proofs.Common.{Geometry, CLASSES, IsChecked, block_count_of, block_place, Held, active_of, active_word, anchor_of, anchor_word, info_of, link_of}
use Rattle.sound_state.proofs.Common.{WordName, descriptor_count, info_in, occurs, prefix_name, link_in, State, fills_frame, word_keeps, IsSound, word_stock, sum_below}
use Rattle.sound_state.proofs.Common.{words_sum, Superblock, IsChained, superblock_of, free_chain, anchor_for, info_for, info_or_zero, reserved_of, word_reserves, live_at}
use Rattle.sound_state.proofs.Common.{is_there, index_of, CREDIT_BITS, IsAnchor, InfoFields, info_word, active-exact, anchor_word-below, anchor_of-anchor_word, info-exact}
use Rattle.sound_state.proofs.Common.{arena_words, exists, info_within, descriptor_count_within, block_count_of-least, block_count_of-most, chain_of, IsLegalEvent}
use Rattle.sound_state.proofs.Common.{installed, IsOpening, active_keeps, offered}
use Rattle.heap_geometry.proofs.PlaceLemmas.{index_of-block_place}
use Rattle.packed_words.specs.declared.anchor.AnchorState.TheVariants as phase
use Rattle.word_table.specs.declared.name.WordName.TheVariants as name
use Rattle.word_table.proofs.SeatLemmas.{block_place-within}
use Rattle.errand_steps.specs.Openings.{link_at, full_credits, full_anchor}
use Rattle.sound_state.proofs.beginnings.FirstLemmas.{IsFirst, IsBegun, next-word, some-descriptors, info-some, info-zero, first_lists, zero-word, first-word, zero-state}
use Rattle.sound_state.proofs.beginnings.FirstLemmas.{zero-anchor_tag, first-here, first-state, first-waiting, first-reserved, first-live, first-kept, first-chained}
use Rattle.sound_state.proofs.beginnings.FirstLemmas.{first-fills, first-framed, first-stocked, first-history}
use Rattle.sound_state.proofs.shared.HolderLemmas.{IsHolderWeight, is_holder, holders-one, keeps-holder, reserves-holder, stock-holder, zero-active}
use Rattle.sound_state.proofs.beginnings.OpeningLists.{indexes, indexes-before, indexes-once, indexes-end, indexes-chained}
use Rattle.sound_state.proofs.shared.SumLemmas.{sum-one}
use Rattle.sound_state.proofs.SoundAfter.{first-sound}

-- the credits of a superblock whose blocks are all free fit an active word, and are fewer than its blocks
credits-fit : (class : ℕ) → class < CLASSES → (full_credits class < 2 ^ CREDIT_BITS) × (full_credits class + 1 ≤ block_count_of class)
credits-fit class has = grind (arith, block_count_of-least class has)

-- the packed words of the installed superblock say what was packed
full-fits : (class : ℕ) → class < CLASSES → IsAnchor (full_anchor class)
full-fits class has = grind (arith, has, block_count_of-least, block_count_of-most, credits-fit)

full-says : (class : ℕ) → class < CLASSES → anchor_of (anchor_word (full_anchor class)) ≡ full_anchor class
full-says class has = anchor_of-anchor_word (full_anchor class) (full-fits class has)

abbrev installed_info : ℕ → InfoFields
installed_info class = record { frame = 0; heap = 0; class = class }

info-says : (class : ℕ) → class < CLASSES → info_of (info_word (installed_info class)) ≡ Some (installed_info class)
info-says class has = info-exact.back (installed_info class) (record { frame = omega arith; heap = omega arith; class = has })

info-below : (class : ℕ) → class < CLASSES → info_word (installed_info class) < 2 ^ 64
info-below class has = info-exact.fits (installed_info class) (record { frame = omega arith; heap = omega arith; class = has })

active-says : (class : ℕ) → class < CLASSES → active_of (active_word (Held 0 (full_credits class))) ≡ Some (Held 0 (full_credits class))
active-says class has = active-exact.back (Held 0 (full_credits class)) (omega arith, (credits-fit class has).0)

active-word-below : (class : ℕ) → class < CLASSES → active_word (Held 0 (full_credits class)) < 2 ^ 64
active-word-below class has = active-exact.fits (Held 0 (full_credits class)) (omega arith, (credits-fit class has).0)

-- the links of the installed superblock are words
link_at-below : (class word : ℕ) → link_at class word < 2 ^ 64
link_at-below class word = grind (arith, and_parts, block_count_of, block_count_of-most, block_place, cond_both, index_of, ltb-true, nat_lt)

-- the words that the installed state begins with are words
installed-below : (g : Geometry) (class : ℕ) (m : WordName) → IsChecked g → class < CLASSES → exists g m ≡ true → installed g class m < 2 ^ 64
installed-below g class (name.Next d) checked of has =
    omega (arith, next-word (descriptor_count g) d (ltb-true d (descriptor_count g) has), descriptor_count_within g checked)
installed-below g class (name.FrameNext f) checked of has =
    omega (arith, next-word g.frames f (ltb-true f g.frames has), checked.frames.1)
installed-below g class (name.Arena k) checked of has = link_at-below class k
installed-below g class (name.Anchor k) checked of has =
    cond_both (k == 0) (anchor_word (full_anchor class)) 0 (λ w. w < 2 ^ 64) (λ e. anchor_word-below (full_anchor class) (full-fits class of)) (λ e. omega arith)
installed-below g class (name.Info k) checked of has =
    cond_both (k == 0) (info_word (installed_info class)) 0 (λ w. w < 2 ^ 64) (λ e. info-below class of) (λ e. omega arith)
installed-below g class (name.Active heap of_class) checked of has =
    cond_both (heap == 0 && of_class == class) (active_word (Held 0 (full_credits class))) 0 (λ w. w < 2 ^ 64) (λ e. active-word-below class of) (λ e. omega arith)
installed-below g class name.FrameHead checked of has = omega (arith, next-word g.frames 0 checked.frames.0, checked.frames.1)
installed-below g class name.DescHead checked of has =
    omega (arith, next-word (descriptor_count g) 0 (omega (arith, some-descriptors g checked)), descriptor_count_within g checked)
installed-below g class m checked of has = omega arith

-- in the installed words frame 0 and descriptor 0 are in use, and all others on their stacks
installed-first : (g : Geometry) (class : ℕ) → IsChecked g → class < CLASSES → IsFirst g 1 (installed g class)
installed-first g class checked of = record {
  frames = checked.frames.0;
  descriptors = omega (arith, some-descriptors g checked);
  words = λ m has. installed-below g class m checked of has;
  frame_head = grind (arith);
  frame_nexts = λ f. refl;
  desc_head = grind (arith);
  desc_nexts = λ d. refl;
  list_heads = λ of_class. refl;
  slots = λ heap of_class. refl;
  hazards = λ caller. refl;
  units = refl;
  shelves = λ k. refl;
  active_words = λ heap of_class has_heap has_class.
      cond_both (heap == 0 && of_class == class) (active_word (Held 0 (full_credits class))) 0 (λ w. IsSome (active_of w))
      (λ e. ap is_some (active-says class of)) (λ e. ap is_some zero-active);
  infos = λ d has.
      cond_both (d == 0) (info_word (installed_info class)) 0 (λ w. IsSome (info_in g w))
      (λ e. subst (λ i. IsSome (info_within g i)) (sym (info-says class of)) (info-some g class checked)) (λ e. info-zero g checked);
  states = λ d.
      cond_both (d == 0) (anchor_word (full_anchor class)) 0 (λ w. (anchor_of w).state ≡ phase.Active)
      (λ e. ap (λ a. a.state) (full-says class of)) (λ e. zero-state);
  tags = λ d.
      cond_both (d == 0) (anchor_word (full_anchor class)) 0 (λ w. (anchor_of w).tag ≡ 0)
      (λ e. ap (λ a. a.tag) (full-says class of)) (λ e. zero-anchor_tag);
}

-- a state that begins with one superblock of the class installed
record BeginsInstalled (g : Geometry) (class : ℕ) (s : State) : Type 0 where
  checked : IsChecked g
  of : class < CLASSES
  opening : IsOpening g (installed g class) s
  begun : IsBegun g 1 (installed g class) s

is-installed : (g : Geometry) (class : ℕ) (s : State) → IsChecked g → class < CLASSES → IsOpening g (installed g class) s → BeginsInstalled g class s
is-installed g class s checked of o = record {
  checked = checked;
  of = of;
  opening = o;
  begun = record { checked = checked; opening = o; rule = installed-first g class checked of };
}

-- what the anchor and the info word of descriptor 0 say in the installed state
anchor-installed : (g : Geometry) (class : ℕ) (s : State) → BeginsInstalled g class s → anchor_for s 0 ≡ full_anchor class
anchor-installed g class s h = grind (arith, h, anchor_of, descriptor_count, first-word, full-says, lt-ltb, some-descriptors)

info-installed : (g : Geometry) (class : ℕ) (s : State) → BeginsInstalled g class s → info_for s 0 ≡ installed_info class
info-installed g class s h = grind (arith, h, descriptor_count, first-word, info-says, info_of, info_or_zero, lt-ltb, some-descriptors)

-- the active word of the class's processor heap 0 holds descriptor 0 with all credits
active-installed : (g : Geometry) (class : ℕ) (s : State) → BeginsInstalled g class s → active_of (s.word (name.Active 0 class)) ≡ Some (Held 0 (full_credits class))
active-installed g class s h = grind (arith, h, active-says, active_of, active_word, and_from, cond-true, eq-eqb, first-word, full_credits, lt-ltb, nat_lt)

-- no active word or slot but that of the class's processor heap 0 holds a superblock
installed-empty : (g : Geometry) (class : ℕ) (m : WordName) → m ≢ name.Active 0 class → is_holder m ≡ true → installed g class m ≡ 0
installed-empty g class m other holds = grind (arith, other)

installed-weighs :
    (g : Geometry) (class : ℕ) (s : State) (weight : WordName → ℕ → ℕ) → BeginsInstalled g class s → IsHolderWeight weight
    → words_sum g weight s.word ≡ weight (name.Active 0 class) (s.word (name.Active 0 class))
installed-weighs g class s weight h holds =
    holders-one g weight s.word (name.Active 0 class) holds (h.checked.heaps.0, h.of)
    (λ m other is. zero-word g (installed g class) s m h.opening (installed-empty g class m other is))

-- an index is the first one, or is among those behind it
first-or-behind : (count i : ℕ) → i < count → (if 0 == i then 1 else 0) + occurs i (indexes 1 (count - 1)) ≡ 1
first-or-behind count zero has = omega (arith, indexes-before 1 (count - 1) 0 (omega arith))
first-or-behind count (suc i) has = grind (arith, indexes-once 1 (count - 1) (suc i) (omega arith) (omega arith))

first-installed-kept : (g : Geometry) (class : ℕ) (s : State) (d : ℕ) → BeginsInstalled g class s → d < descriptor_count g
    → words_sum g (word_keeps d) s.word + occurs d (indexes 1 (descriptor_count g - 1)) ≡ 1
first-installed-kept g class s d h has =
    let word : words_sum g (word_keeps d) s.word ≡ (if 0 == d then 1 else 0) =
    installed-weighs g class s (word_keeps d) h (keeps-holder d) ∙ ap (active_keeps d) (active-installed g class s h) in
    omega (arith, word, first-or-behind (descriptor_count g) d has)

installed-held :
    (g : Geometry) (class : ℕ) (s : State) (heap of_class d credits : ℕ) → BeginsInstalled g class s
    → active_of (installed g class (name.Active heap of_class)) ≡ Some (Held d credits) → (d < descriptor_count g) × ((info_for s d).class ≡ of_class)
installed-held g class s heap of_class d credits h is =
    let test = heap == 0 && of_class == class in
    let word = active_word (Held 0 (full_credits class)) in
    elim (cases_Bool test) [
      | inl holds ↦
          let said : Some (Held 0 (full_credits class)) ≡ Some (Held d credits) =
          sym (ap active_of (cond-true test word 0 holds) ∙ active-says class h.of) ∙ is in
          let here : 0 ≡ d = cc in
          let same : class ≡ of_class = sym (eqb-true of_class class (and_parts (heap == 0) (of_class == class) holds).1) in
          (omega (arith, here, some-descriptors g h.checked), subst (λ e. (info_for s e).class ≡ of_class) here (ap (λ i. i.class) (info-installed g class s h) ∙ same))
      | inr other ↦ absurd (let null = ap active_of (cond-false test word 0 other) ∙ zero-active in cc)
    ]

-- the link of a block names the next one, and that of the last block the first one
link-is : (class i : ℕ) → i < block_count_of class → link_at class (block_place 0 class i) ≡ (if nat_lt (i + 1) (block_count_of class) then i + 1 else 0)
link-is class i has =
    let place = block_place 0 class i in
    let P : ℕ → Type 0 = λ j.
    (if place == block_place 0 class j && nat_lt (j + 1) (block_count_of class) then j + 1 else 0)
    ≡ (if nat_lt (i + 1) (block_count_of class) then i + 1 else 0) in
    subst P (sym (index_of-block_place 0 class i has))
    (ap (λ b. if b && nat_lt (i + 1) (block_count_of class) then i + 1 else 0) (eq-eqb place place refl))

link-installed :
    (g : Geometry) (class : ℕ) (s : State) (i : ℕ) → BeginsInstalled g class s → i < block_count_of class
    → link_in s.word 0 class i ≡ (if nat_lt (i + 1) (block_count_of class) then i + 1 else 0)
link-installed g class s i h has =
    let m = prefix_name 0 class i in
    let word : s.word m ≡ (if nat_lt (i + 1) (block_count_of class) then i + 1 else 0) =
    first-word g (installed g class) s m h.opening (lt-ltb (block_place 0 class i) (arena_words g) (block_place-within g 0 class i h.checked.frames.0 has))
    ∙ link-is class i has in
    ap link_of word
    ∙ cond_both (nat_lt (i + 1) (block_count_of class)) (i + 1) 0 (λ w. link_of w ≡ w)
    (λ e. omega (arith, block_count_of-most class, ltb-true (i + 1) (block_count_of class) e)) (λ e. refl)

link-next :
    (g : Geometry) (class : ℕ) (s : State) (i : ℕ) → BeginsInstalled g class s → suc i < block_count_of class → link_in s.word 0 class i ≡ suc i
link-next g class s i h has = let more : nat_lt (i + 1) (block_count_of class) ≡ true = lt-ltb (i + 1) (block_count_of class) (omega (arith, has)) in
    omega (arith, link-installed g class s i h (omega arith), cond-true (nat_lt (i + 1) (block_count_of class)) (i + 1) 0 more)

link-within :
    (g : Geometry) (class : ℕ) (s : State) (i : ℕ) → BeginsInstalled g class s → i < block_count_of class → link_in s.word 0 class i < block_count_of class
link-within g class s i h has = grind (arith, h, has, block_count_of, cond_both, link-installed, ltb-true, nat_lt)

-- the installed superblock, of descriptor 0
abbrev installed_superblock : ℕ → State → Superblock
installed_superblock class s = record {
  anchor = full_anchor class;
  reserved = full_credits class + 1;
  waiting = 0;
  next = link_in s.word 0 class;
  live = λ i. live_at s (block_place 0 class i);
  size = block_count_of class;
}

reserved-installed : (g : Geometry) (class : ℕ) (s : State) → BeginsInstalled g class s → reserved_of g s 0 ≡ full_credits class + 1
reserved-installed g class s h =
    let word : words_sum g (word_reserves 0) s.word ≡ full_credits class + 1 =
    installed-weighs g class s (word_reserves 0) h (reserves-holder 0) ∙ ap (offered 0) (active-installed g class s h) in
    omega (arith, word, first-reserved g (installed g class) s 0 h.opening)

superblock-installed : (g : Geometry) (class : ℕ) (s : State) → BeginsInstalled g class s → superblock_of g s 0 ≡ installed_superblock class s
superblock-installed g class s h =
    rw (info-installed g class s h, anchor-installed g class s h, reserved-installed g class s h, first-waiting g (installed g class) s 0 h.opening) refl

-- the blocks of the installed superblock are all free, one behind the other
chain-installed : (g : Geometry) (class : ℕ) (s : State) → BeginsInstalled g class s → free_chain (installed_superblock class s) ≡ indexes 0 (block_count_of class)
chain-installed g class s h = grind (arith, h, block_count_of, chain_of, credits-fit, full_credits, indexes-chained, link-next, link_in)

first-installed-chained : (g : Geometry) (class : ℕ) (s : State) → BeginsInstalled g class s → IsChained (superblock_of g s 0)
first-installed-chained g class s h =
    let count = block_count_of class in
    let chain = chain-installed g class s h in
    let within : (i : ℕ) → 0 < occurs i (free_chain (installed_superblock class s)) → i < count = λ i on.
    omega (arith, indexes-end 0 count i (subst (λ xs. 0 < occurs i xs) chain on)) in
    subst IsChained (sym (superblock-installed g class s h))
    (record {
      avail = omega (arith, block_count_of-least class h.of);
      within = within;
      links = λ i on. link-within g class s i h (within i on);
      once = λ i has.
          let live : live_at s (block_place 0 class i) ≡ 0 = ap is_there (first-live g (installed g class) s (block_place 0 class i) h.opening) in
          let free : occurs i (free_chain (installed_superblock class s)) ≡ 1 = ap (occurs i) chain ∙ indexes-once 0 count i (omega arith) (omega arith) in
          grind (arith, live, free);
      some = omega (arith, block_count_of-least class h.of, credits-fit class h.of);
    })

-- the installed superblock fills frame 0
installed-fills : (g : Geometry) (class : ℕ) (s : State) (f : ℕ) → BeginsInstalled g class s → fills_frame g s (first_lists g 1) f 0 ≡ (if 0 == f then 1 else 0)
installed-fills g class s f h =
    let away = first-here g 1 (installed g class) s 0 h.begun (omega arith) in
    let active = first-state g 1 (installed g class) s 0 h.begun in
    let waits = first-waiting g (installed g class) s 0 h.opening in
    let frame : (info_for s 0).frame ≡ 0 = ap (λ i. i.frame) (info-installed g class s h) in
    rw (away, active, waits, frame) refl

first-installed-framed : (g : Geometry) (class : ℕ) (s : State) (f : ℕ) → BeginsInstalled g class s → f < g.frames
    → occurs f (indexes 1 (g.frames - 1)) + sum_below (descriptor_count g) (fills_frame g s (first_lists g 1) f) ≡ 1
first-installed-framed g class s f h has =
    let filled : sum_below (descriptor_count g) (fills_frame g s (first_lists g 1) f) ≡ (if 0 == f then 1 else 0) =
    sum-one (descriptor_count g) (fills_frame g s (first_lists g 1) f) 0 (omega (arith, some-descriptors g h.checked))
    (λ d lt other. first-fills g 1 (installed g class) s f d h.begun (omega (arith, other)) lt)
    ∙ installed-fills g class s f h in
    omega (arith, filled, first-or-behind g.frames f has)

-- an active word counts at most one descriptor out for a class, and so do all words of the installed state
active-stock-most : (class heap of_class word : ℕ) → word_stock class (name.Active heap of_class) word ≤ 1
active-stock-most class heap of_class word = grind (arith)

-- a state before the first step, with a superblock installed, is sound
pub open_installed-sound : (g : Geometry) (class : ℕ) (s : State) → IsChecked g → class < CLASSES → IsOpening g (installed g class) s → IsSound g s
open_installed-sound g class s checked of o =
    let h = is-installed g class s checked of o in
    let first = installed g class in
    record {
      checked = checked;
      legal = first-history g first s (IsLegalEvent g) o;
      parts = (
        first_lists g 1,
        first-sound g 1 first s h.begun
            (first-kept g 1 first s h.begun (λ d has. first-installed-kept g class s d h has)
            (λ heap of_class d credits has_heap has_class is. installed-held g class s heap of_class d credits h is))
            (first-chained g 1 first s h.begun
            (λ d below. let here : 0 ≡ d = omega (arith, below) in subst (λ e. IsChained (superblock_of g s e)) here (first-installed-chained g class s h)))
            (first-framed g 1 first s h.begun (λ f has. first-installed-framed g class s f h has))
            (first-stocked g 1 first s h.begun
            (λ of_class.
            omega (
              arith,
              installed-weighs g class s (word_stock of_class) h (stock-holder of_class),
              active-stock-most of_class 0 class (s.word (name.Active 0 class)),
            ))),
      );
    }
