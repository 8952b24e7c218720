-- A state before the first step, whatever the heap begins with: all callers are idle, and nothing is live.
use Rattle.std.proofs.Common.{ℕ, true, false, Some, None, ◌≡◌, ◌<◌, ◌≤◌, ◌+◌, ◌^◌, List, [], ◌∷◌, length, refl, arith, ap, sym, subst, inl, inr, ◌∙◌, ◌==◌, ◌-◌, All}
use Rattle.std.proofs.Common.{IsSome, nat_lt, slice_index_or, count_by, lt-ltb, true≢false, pow_pos, length-append}
use Rattle.std.specs.Int.{bit_at}
use Rattle.std.proofs.lemmas.Bool.{cond_both, cond-true, and_from, cases_lt}
use Rattle.std.proofs.lemmas.List.Elements.{All-nil}
use Rattle.std.proofs.lemmas.Option.{none-some}
use Rattle.sound_state.proofs.Common.{Geometry, CLASSES, IsChecked, Held, active_of, anchor_of, head_of, info_of, WordName, descriptor_count, info_in, occurs, Frames}
use Rattle.sound_state.proofs.Common.{Partials, Stacked, next_in, Event, block_at, pool_of, spare_of, ErrandFields, State, IsFramed, errand_frames, fills_frame, IsGuarded}
use Rattle.sound_state.proofs.Common.{held_by, waiting, holds_of, IsKept, IsPartlyUsed, IsWithout, IsKeptAs, word_keeps, errand_has, full_keeps, Lists, IsListed}
use Rattle.sound_state.proofs.Common.{recalls_of, IsOwnErrand, word_stock, errand_stock, full_stock, sum_below, words_sum, callers_sum, AreChained, IsChained}
use Rattle.sound_state.proofs.Common.{anchor_for, info_for, superblock_of, is_bound, away_of, errand_away, errand_reserves, waiting_of, errand_keeps, IsTied, IsLive}
use Rattle.sound_state.proofs.Common.{IsTurned, emptied_out, gives_small, refuses_small, unit_place, info_within, exists, IsOpening, IsRemembered, IsStocked, turn_open}
use Rattle.sound_state.proofs.Common.{turn_unframed, turn_unlisted, errand_pops, cleared_of, errand_discards, turn_unanswered, IsFormed}
use Rattle.packed_words.specs.declared.anchor.AnchorState.TheVariants as phase
use Rattle.packed_words.specs.declared.widths.TheConstants.{TOP_BITS, HEAD_TAG_BITS}
use Rattle.packed_words.specs.Fields.{bits_at}
use Rattle.word_table.specs.declared.limits.TheConstants.{MAX_DESCRIPTORS}
use Rattle.word_table.specs.declared.name.WordName.TheVariants as name
use Rattle.pool_model.specs.Histories.{EachAfter}
use Rattle.pool_model.specs.Pool.{Block}
use Rattle.errand_steps.specs.Errands.{open_errand}
use Rattle.errand_steps.specs.Openings.{next_index}
use Rattle.sound_state.proofs.beginnings.OpeningLists.{indexes, indexes-below, indexes-before, indexes-once, indexes-stacked, top_from}
use Rattle.sound_state.proofs.shared.SumLemmas.{sum-none, callers-none}
use Rattle.sound_state.proofs.shared.WordFacts.{shelf-nothing}

-- the words that a heap begins with, where its first n frames and descriptors are in use and all others on their stacks
pub record IsFirst (g : Geometry) (n : ℕ) (first : WordName → ℕ) : Type 0 where
  pub frames : n ≤ g.frames
  pub descriptors : n ≤ descriptor_count g
  pub words : (m : WordName) → exists g m ≡ true → first m < 2 ^ 64
  pub frame_head : first name.FrameHead ≡ top_from n g.frames
  pub frame_nexts : (f : ℕ) → first (name.FrameNext f) ≡ next_index g.frames f
  pub desc_head : first name.DescHead ≡ top_from n (descriptor_count g)
  pub desc_nexts : (d : ℕ) → first (name.Next d) ≡ next_index (descriptor_count g) d
  pub list_heads : (class : ℕ) → first (name.ListHead class) ≡ 0
  pub slots : (heap class : ℕ) → first (name.Slot heap class) ≡ 0
  pub hazards : (caller : ℕ) → first (name.Hazard caller) ≡ 0
  pub units : first name.Units ≡ 0
  pub shelves : (k : ℕ) → first (name.Shelf k) ≡ 0
  pub active_words :
      (heap class : ℕ) → heap < g.heaps → class < CLASSES → IsSome (active_of (first (name.Active heap class)))
  pub infos : (d : ℕ) → d < descriptor_count g → IsSome (info_in g (first (name.Info d)))
  pub states : (d : ℕ) → (anchor_of (first (name.Anchor d))).state ≡ phase.Active
  pub tags : (d : ℕ) → (anchor_of (first (name.Anchor d))).tag ≡ 0

-- a state before the first step, where the words that the heap begins with keep the rule
pub record IsBegun (g : Geometry) (n : ℕ) (first : WordName → ℕ) (s : State) : Type 0 where
  pub checked : IsChecked g
  pub opening : IsOpening g first s
  pub rule : IsFirst g n first

-- the lists before the first step: the frames and the descriptors from n on, and no partial superblocks
abbrev pub first_lists : Geometry → ℕ → Lists
first_lists g n = record {
  frames = indexes n (g.frames - n);
  available = indexes n (descriptor_count g - n);
  partials = λ class. [];
}

-- the next word of an index names an index of the stack, or none
pub next-word : (count i : ℕ) → i < count → next_index count i ≤ count
next-word count i has = grind (arith)

pub some-descriptors : (g : Geometry) → IsChecked g → 2 ≤ descriptor_count g
unfolding descriptor_count
some-descriptors g checked = omega (arith, checked.frames.0)

-- a descriptor's info word that says frame 0 and processor heap 0 is within each heap
pub info-some : (g : Geometry) (class : ℕ) → IsChecked g → IsSome (info_within g (Some (record { frame = 0; heap = 0; class = class })))
info-some g class checked =
    let frame : nat_lt 0 g.frames ≡ true = lt-ltb 0 g.frames (omega (arith, checked.frames.0)) in
    let heap : nat_lt 0 g.heaps ≡ true = lt-ltb 0 g.heaps (omega (arith, checked.heaps.0)) in
    grind (arith, frame, heap)

zero-info : info_of 0 ≡ Some (record { frame = 0; heap = 0; class = 0 })
unfolding info_of
zero-info = refl

pub info-zero : (g : Geometry) → IsChecked g → IsSome (info_in g 0)
info-zero g checked = subst (λ i. IsSome (info_within g i)) (sym zero-info) (info-some g 0 checked)

-- what is so of a word that the heap begins with, and of 0, is so of the word
opening-word :
    (g : Geometry) (first : WordName → ℕ) (s : State) (m : WordName) (P : ℕ → Type 0) → IsOpening g first s
    → (exists g m ≡ true → P (first m)) → P 0 → P (s.word m)
opening-word g first s m P o has none = subst P (sym (o.word m)) (cond_both (exists g m) (first m) 0 P has (λ e. none))

-- a word that is 0 among those that the heap begins with is 0 in the state
pub zero-word : (g : Geometry) (first : WordName → ℕ) (s : State) (m : WordName) → IsOpening g first s → first m ≡ 0 → s.word m ≡ 0
zero-word g first s m o is = opening-word g first s m (λ w. w ≡ 0) o (λ e. is) refl

-- a word that the heap has is in the state what it begins with
pub first-word : (g : Geometry) (first : WordName → ℕ) (s : State) (m : WordName) → IsOpening g first s → exists g m ≡ true → s.word m ≡ first m
first-word g first s m o has = o.word m ∙ cond-true (exists g m) (first m) 0 has

-- the callers weigh nothing in the beginning by a weight that no opening errand has
pub opened-weighs :
    (g : Geometry) (first : WordName → ℕ) (s : State) (weight : ErrandFields → ℕ) → IsOpening g first s
    → ((caller : ℕ) → weight (open_errand caller g) ≡ 0) → callers_sum g weight s.errand ≡ 0
opened-weighs g first s weight o none = callers-none g weight s.errand (λ caller has. ap weight (o.errand caller has) ∙ none caller)

-- what holds of the errand of every opened caller holds in the beginning
pub at-opening :
    (g : Geometry) (first : WordName → ℕ) (s : State) (P : ErrandFields → Type 0) → IsOpening g first s → ((caller : ℕ) → P (open_errand caller g))
    → (caller : ℕ) → caller < g.callers → P (s.errand caller)
at-opening g first s P o idle caller has = subst P (sym (o.errand caller has)) (idle caller)

pub first-reserved : (g : Geometry) (first : WordName → ℕ) (s : State) (d : ℕ) → IsOpening g first s → callers_sum g (errand_reserves d) s.errand ≡ 0
unfolding holds_of
first-reserved g first s d o = opened-weighs g first s (errand_reserves d) o (λ caller. refl)

pub first-waiting : (g : Geometry) (first : WordName → ℕ) (s : State) (d : ℕ) → IsOpening g first s → waiting_of g s d ≡ 0
unfolding holds_of
first-waiting g first s d o = opened-weighs g first s (errand_keeps waiting d) o (λ caller. refl)

-- a descriptor from n on is available in the beginning; one before isn't away
pub first-away :
    (g : Geometry) (n : ℕ) (first : WordName → ℕ) (s : State) (d : ℕ) → IsBegun g n first s → n ≤ d → d < descriptor_count g
    → away_of g s (first_lists g n) d ≡ 1
unfolding holds_of
first-away g n first s d b least has =
    omega (
      arith,
      b.rule.descriptors,
      indexes-once n (descriptor_count g - n) d least (omega (arith, b.rule.descriptors)),
      opened-weighs g first s (errand_away d) b.opening (λ caller. refl),
    )

pub first-here :
    (g : Geometry) (n : ℕ) (first : WordName → ℕ) (s : State) (d : ℕ) → IsBegun g n first s → d < n
    → away_of g s (first_lists g n) d ≡ 0
unfolding holds_of
first-here g n first s d b below =
    omega (arith, indexes-before n (descriptor_count g - n) d below, opened-weighs g first s (errand_away d) b.opening (λ caller. refl))

pub first-unbound :
    (g : Geometry) (n : ℕ) (first : WordName → ℕ) (s : State) (d : ℕ) → IsBegun g n first s → n ≤ d → d < descriptor_count g
    → is_bound g s (first_lists g n) d ≡ false
first-unbound g n first s d b least has = grind (arith, first-away g n first s d b least has)

-- a word of 0 is a head without an index and without a tag
zero-head : (head_of 0).top ≡ 0
unfolding head_of
zero-head = refl

zero-tag : (head_of 0).tag ≡ 0
unfolding head_of
zero-tag = refl

-- a small number is a head without a tag
small-head : (top : ℕ) → top ≤ MAX_DESCRIPTORS → head_of top ≡ record { top = top; tag = 0 }
unfolding head_of
small-head top below =
    let whole : bits_at 0 TOP_BITS top ≡ top = omega (arith, below) in
    let none : bits_at TOP_BITS HEAD_TAG_BITS top ≡ 0 = omega (arith, below) in
    rw (whole, none) refl

top-small : (n count : ℕ) → n ≤ count → top_from n count ≤ count
top-small n count h = grind (arith)

frame-head :
    (g : Geometry) (n : ℕ) (first : WordName → ℕ) (s : State) → IsBegun g n first s
    → head_of (s.word name.FrameHead) ≡ record { top = top_from n g.frames; tag = 0 }
frame-head g n first s b =
    ap head_of (first-word g first s name.FrameHead b.opening refl ∙ b.rule.frame_head)
    ∙ small-head (top_from n g.frames) (omega (arith, b.checked.frames.1, top-small n g.frames b.rule.frames))

-- a word of 0 is an anchor that says ACTIVE and has no tag
pub zero-state : (anchor_of 0).state ≡ phase.Active
unfolding anchor_of
zero-state = refl

pub zero-anchor_tag : (anchor_of 0).tag ≡ 0
unfolding anchor_of
zero-anchor_tag = refl

pub first-state : (g : Geometry) (n : ℕ) (first : WordName → ℕ) (s : State) (d : ℕ) → IsBegun g n first s → (anchor_for s d).state ≡ phase.Active
first-state g n first s d b =
    opening-word g first s (name.Anchor d) (λ w. (anchor_of w).state ≡ phase.Active) b.opening (λ e. b.rule.states d) zero-state

first-tag : (g : Geometry) (n : ℕ) (first : WordName → ℕ) (s : State) (d : ℕ) → IsBegun g n first s → (anchor_for s d).tag ≡ 0
first-tag g n first s d b =
    opening-word g first s (name.Anchor d) (λ w. (anchor_of w).tag ≡ 0) b.opening (λ e. b.rule.tags d) zero-anchor_tag

-- the lists before the first step are the stacks that the words make
pub first-listed : (g : Geometry) (n : ℕ) (first : WordName → ℕ) (s : State) → IsBegun g n first s → IsListed g s.word (first_lists g n)
first-listed g n first s b =
    let frames : n + (g.frames - n) ≡ g.frames = omega (arith, b.rule.frames) in
    let descriptors : n + (descriptor_count g - n) ≡ descriptor_count g = omega (arith, b.rule.descriptors) in
    record {
      nexts = λ d has.
          omega (arith, first-word g first s (name.Next d) b.opening (lt-ltb d (descriptor_count g) has) ∙ b.rule.desc_nexts d, next-word (descriptor_count g) d has);
      frame_nexts = λ f has.
          omega (arith, first-word g first s (name.FrameNext f) b.opening (lt-ltb f g.frames has) ∙ b.rule.frame_nexts f, next-word g.frames f has);
      frames =
          subst (λ h. Stacked (next_in s.word Frames) h.top (indexes n (g.frames - n))) (sym (frame-head g n first s b))
          (indexes-stacked (next_in s.word Frames) n (g.frames - n) g.frames frames
          (λ i has. first-word g first s (name.FrameNext i) b.opening (lt-ltb i g.frames has) ∙ b.rule.frame_nexts i));
      frames_exist = indexes-below n (g.frames - n) g.frames (omega (arith, frames));
      available =
          subst (λ top. Stacked (next_in s.word Partials) top (indexes n (descriptor_count g - n)))
          (sym (first-word g first s name.DescHead b.opening refl ∙ b.rule.desc_head))
          (indexes-stacked (next_in s.word Partials) n (descriptor_count g - n) (descriptor_count g) descriptors
          (λ i has. first-word g first s (name.Next i) b.opening (lt-ltb i (descriptor_count g) has) ∙ b.rule.desc_nexts i));
      available_exist = indexes-below n (descriptor_count g - n) (descriptor_count g) (omega (arith, descriptors));
      partials = λ class has. ap (λ w. (head_of w).top) (zero-word g first s (name.ListHead class) b.opening (b.rule.list_heads class)) ∙ zero-head;
      partials_exist = λ class has. All-nil (λ d. d < descriptor_count g);
    }

-- each descriptor stands in one place before the first step, where the words keep the first n
pub first-kept :
    (g : Geometry) (n : ℕ) (first : WordName → ℕ) (s : State) → IsBegun g n first s
    → ((d : ℕ) → d < descriptor_count g → words_sum g (word_keeps d) s.word + occurs d (indexes n (descriptor_count g - n)) ≡ 1)
    → ((heap class d credits : ℕ) → heap < g.heaps → class < CLASSES
    → active_of (first (name.Active heap class)) ≡ Some (Held d credits) → (d < descriptor_count g) × ((info_for s d).class ≡ class))
    → IsKept g s (first_lists g n)
unfolding holds_of
first-kept g n first s b once held =
    let o = b.opening in
    let active_word : (heap class : ℕ) → heap < g.heaps → class < CLASSES → s.word (name.Active heap class) ≡ first (name.Active heap class) =
    λ heap class has_heap has_class.
    first-word g first s (name.Active heap class) o
    (and_from (nat_lt heap g.heaps) (nat_lt class CLASSES) (lt-ltb heap g.heaps has_heap) (lt-ltb class CLASSES has_class)) in
    let slot_word : (heap class : ℕ) → s.word (name.Slot heap class) ≡ 0 =
    λ heap class. zero-word g first s (name.Slot heap class) o (b.rule.slots heap class) in
    record {
      once = λ d has.
          let listed : sum_below CLASSES (λ class. 0) ≡ 0 = sum-none CLASSES (λ class. 0) (λ j lt. refl) in
          let callers : callers_sum g (errand_has d) s.errand ≡ 0 = opened-weighs g first s (errand_has d) o (λ caller. refl) in
          let full : full_keeps (anchor_for s d).state ≡ 0 = ap full_keeps (first-state g n first s d b) in
          omega (arith, once d has, listed, callers, full);
      active_words = λ heap class has_heap has_class.
          subst (λ w. IsSome (active_of w)) (sym (active_word heap class has_heap has_class)) (b.rule.active_words heap class has_heap has_class);
      slot_words = λ heap class has_heap has_class. omega (arith, slot_word heap class);
      active = λ heap class d credits has_heap has_class is.
          let (exists, of_class) = held heap class d credits has_heap has_class (sym (ap active_of (active_word heap class has_heap has_class)) ∙ is) in
          (exists, record { class = of_class; state = first-state g n first s d b });
      slot = λ heap class d has_heap has_class is. let no : ⊥ = omega (arith, is, slot_word heap class) in absurd no;
      full = λ d has is. absurd (let active = first-state g n first s d b in cc);
      listed = λ class has. All-nil (λ d. IsPartlyUsed s d class);
      available = λ k d has. inl (first-state g n first s (slice_index_or (indexes n (descriptor_count g - n)) k d) b);
      retired = at-opening g first s (λ e. All (IsWithout s) e.retired) o (λ caller. All-nil (IsWithout s));
      errand =
          at-opening g first s (λ e. All (λ k. IsKeptAs s k.status k.desc k.class) (holds_of e.point).kept) o
          (λ caller. All-nil (λ k. IsKeptAs s k.status k.desc k.class));
    }

-- all superblocks have their blocks in order before the first step, where those of the first n descriptors have
pub first-chained :
    (g : Geometry) (n : ℕ) (first : WordName → ℕ) (s : State) → IsBegun g n first s
    → ((d : ℕ) → d < n → IsChained (superblock_of g s d)) → AreChained g s (first_lists g n)
first-chained g n first s b chained = record {
  infos = λ d has.
      subst (λ w. IsSome (info_in g w)) (sym (first-word g first s (name.Info d) b.opening (lt-ltb d (descriptor_count g) has))) (b.rule.infos d has);
  chained = λ d has bound.
      elim (cases_lt d n) [
        | inl below ↦ chained d below
        | inr least ↦ absurd (true≢false (sym bound ∙ first-unbound g n first s d b least has))
      ];
}

-- a descriptor from n on fills no frame
pub first-fills :
    (g : Geometry) (n : ℕ) (first : WordName → ℕ) (s : State) (f d : ℕ) → IsBegun g n first s → n ≤ d → d < descriptor_count g
    → fills_frame g s (first_lists g n) f d ≡ 0
first-fills g n first s f d b least has = let unbound = first-unbound g n first s d b least has in grind (arith, unbound)

-- each frame is in one place before the first step, where superblocks fill the frames that aren't on the stack
pub first-framed :
    (g : Geometry) (n : ℕ) (first : WordName → ℕ) (s : State) → IsBegun g n first s
    → ((f : ℕ) → f < g.frames
    → occurs f (indexes n (g.frames - n)) + sum_below (descriptor_count g) (fills_frame g s (first_lists g n) f) ≡ 1)
    → IsFramed g s (first_lists g n)
unfolding holds_of
first-framed g n first s b once = record {
  once = λ f has. omega (arith, once f has, opened-weighs g first s (errand_frames f) b.opening (λ caller. refl));
}

pub first-remembered : (g : Geometry) (n : ℕ) (first : WordName → ℕ) (s : State) → IsBegun g n first s → IsRemembered g s (first_lists g n)
unfolding recalls_of
first-remembered g n first s b = grind (arith, b, at-opening, recalls_of)

pub first-guarded : (g : Geometry) (n : ℕ) (first : WordName → ℕ) (s : State) → IsBegun g n first s → IsGuarded g s
unfolding holds_of
first-guarded g n first s b = grind (arith, b, at-opening, held_by, holds_of, spare_of, zero-word)

-- few descriptors are out before the first step, where the words keep one at most of each class
pub first-stocked :
    (g : Geometry) (n : ℕ) (first : WordName → ℕ) (s : State) → IsBegun g n first s
    → ((class : ℕ) → words_sum g (word_stock class) s.word ≤ 1) → IsStocked g s (first_lists g n)
unfolding holds_of
first-stocked g n first s b words =
    let none-full : (class d : ℕ) → full_stock s class d ≡ 0 = λ class d.
    cond_both ((info_for s d).class == class) (full_keeps (anchor_for s d).state) 0 (λ m. m ≡ 0)
    (λ e. ap full_keeps (first-state g n first s d b)) (λ e. refl) in
    record {
      most = λ class has.
          let callers : callers_sum g (errand_stock class) s.errand ≡ 0 = opened-weighs g first s (errand_stock class) b.opening (λ caller. refl) in
          let full : sum_below (descriptor_count g) (full_stock s class) ≡ 0 =
          sum-none (descriptor_count g) (full_stock s class) (λ d lt. none-full class d) in
          omega (arith, words class, callers, full, b.checked.frames.0);
    }

-- no descriptor of the first state is EMPTY
none-emptied : (g : Geometry) (n : ℕ) (first : WordName → ℕ) (s : State) (d : ℕ) → IsBegun g n first s → emptied_out g s (first_lists g n) d ≡ 0
none-emptied g n first s d b = let active = first-state g n first s d b in grind (arith, active)

pub first-turned : (g : Geometry) (n : ℕ) (first : WordName → ℕ) (s : State) → IsBegun g n first s → IsTurned g s (first_lists g n)
first-turned g n first s b =
    let o = b.opening in
    let head : (head_of (s.word name.FrameHead)).tag ≡ 0 = ap (λ h. h.tag) (frame-head g n first s b) in
    record {
      own_turns = λ caller has.
          let given : count_by (gives_small caller) s.history ≡ 0 = ap (count_by (gives_small caller)) o.history in
          at-opening g first s (λ e. count_by (gives_small caller) s.history + turn_open e ≤ e.turns) o (λ other. omega (arith, given)) caller has;
      own_lost = λ caller has.
          at-opening g first s
          (λ e. e.turns + errand_discards e
          ≤ count_by (gives_small caller) s.history + count_by (refuses_small caller) s.history + e.lost + turn_unanswered e) o
          (λ other. omega arith) caller has;
      own_answers = λ caller has.
          let given : count_by (gives_small caller) s.history ≡ 0 = ap (count_by (gives_small caller)) o.history in
          let refused : count_by (refuses_small caller) s.history ≡ 0 = ap (count_by (refuses_small caller)) o.history in
          at-opening g first s
          (λ e. count_by (gives_small caller) s.history + count_by (refuses_small caller) s.history + turn_unanswered e ≤ e.turns) o
          (λ other. omega (arith, given, refused)) caller has;
      anchor_tags = λ d has. omega (arith, first-tag g n first s d b);
      frame_tag = omega (arith, head, opened-weighs g first s turn_unframed o (λ caller. refl));
      emptied =
          omega (
            arith,
            opened-weighs g first s cleared_of o (λ caller. refl),
            sum-none (descriptor_count g) (emptied_out g s (first_lists g n)) (λ d has. none-emptied g n first s d b),
          );
      list_tags = λ class has.
          omega (
            arith,
            ap (λ w. (head_of w).tag) (zero-word g first s (name.ListHead class) o (b.rule.list_heads class)) ∙ zero-tag,
            opened-weighs g first s errand_pops o (λ caller. refl),
            opened-weighs g first s turn_unlisted o (λ caller. refl),
          );
    }

zero-bit : (i : ℕ) → bit_at 0 i ≡ 0
zero-bit i = omega (arith, pow_pos i)

-- no block of the first state is live
pub first-live : (g : Geometry) (first : WordName → ℕ) (s : State) (place : ℕ) → IsOpening g first s → block_at place (pool_of s.history) ≡ None
first-live g first s place o = ap (λ h. block_at place (pool_of h)) o.history

none-live-first : (g : Geometry) (first : WordName → ℕ) (s : State) (place : ℕ) (b : Block) → IsOpening g first s → IsLive s place b → ⊥
none-live-first g first s place b o live = none-some b (sym (first-live g first s place o) ∙ live)

pub first-tied : (g : Geometry) (n : ℕ) (first : WordName → ℕ) (s : State) → IsBegun g n first s → IsTied g s (first_lists g n)
unfolding holds_of
first-tied g n first s begun = grind (arith, begun, at-opening, bit_at, holds_of, none-live-first, pow_pos, shelf-nothing, unit_place, zero-bit, zero-word)

-- the words of the first state are words
first-words : (g : Geometry) (n : ℕ) (first : WordName → ℕ) (s : State) → IsBegun g n first s → (m : WordName) → s.word m < 2 ^ 64
first-words g n first s b m = opening-word g first s m (λ w. w < 2 ^ 64) b.opening (b.rule.words m) (omega arith)

-- an opening errand keeps its rule
open-own : (g : Geometry) (caller : ℕ) → IsChecked g → caller < g.callers → IsOwnErrand g caller (open_errand caller g)
open-own g caller checked has = grind (arith, checked, has, descriptor_count)

-- no event has happened in the beginning, so all that have are as any rule wants
pub first-history :
    (g : Geometry) (first : WordName → ℕ) (s : State) (R : List Event → Event → Type 0) → IsOpening g first s → EachAfter R s.history
first-history g first s R o =
    subst (EachAfter R) (sym o.history)
    (λ before rest event is. absurd (let no : ⊥ = omega (arith, ap length is, length-append before (event ∷ rest)) in no))

pub first-formed : (g : Geometry) (n : ℕ) (first : WordName → ℕ) (s : State) → IsBegun g n first s → IsFormed g s
first-formed g n first s b = record {
  words = first-words g n first s b;
  errands = λ caller has. subst (IsOwnErrand g caller) (sym (b.opening.errand caller has)) (open-own g caller b.checked has);
}
