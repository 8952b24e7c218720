-- Which descriptors have a superblock, where all callers are idle.
use Rattle.std.proofs.Common.{ℕ, true, false, Option, Some, None, ◌≡◌, ◌≢◌, ◌<◌, ◌+◌, refl, arith, ap, sym, inl, inr, ◌∙◌}
use Rattle.std.specs.Prelude.{◌==◌, ◌⊎◌, ◌↔◌, not, if◌then◌else◌, IsTrue}
use Rattle.std.proofs.lemmas.Bool.{cases_eq, cases_Bool, cond-true, cond-false, and_from, eq-eqb, ne_eqb, true≢false}
use Rattle.heap_geometry.specs.declared.geometry.Geometry.{Geometry}
use Rattle.heap_geometry.specs.declared.limits.TheConstants.{CLASSES}
use Rattle.packed_words.specs.declared.active.ActiveWord.{ActiveWord}
use Rattle.packed_words.specs.declared.active.ActiveWord.TheVariants.{Null, Held}
use Rattle.packed_words.specs.declared.anchor.AnchorState.{AnchorState as Phase}
use Rattle.packed_words.specs.declared.anchor.AnchorState.TheVariants as phase
use Rattle.word_table.specs.declared.name.WordName.{WordName}
use Rattle.word_table.specs.declared.name.WordName.TheVariants as name
use Rattle.word_table.specs.Counts.{descriptor_count, word_count}
use Rattle.word_table.specs.Table.{Exists, word_name}
use Rattle.word_table.proofs.TableLemmas.{word_name-Exists}
use Rattle.word_table.specs.Occurs.{occurs}
use Rattle.step_parts.specs.partial.Grants.{is_empty}
use Rattle.errand_steps.specs.Steps.{State}
use Rattle.sound_state.specs.Keepers.{active_keeps, word_keeps, full_keeps, in_words, in_lists, IsWithout, IsActive, IsPartlyUsed}
use Rattle.sound_state.specs.Lists.{Lists}
use Rattle.sound_state.specs.Sums.{words_sum, callers_sum}
use Rattle.sound_state.specs.Superblocks.{anchor_for, errand_away, away_of, is_bound}
use Rattle.sound_state.proofs.shared.CreditLemmas.{word-sum}
use Rattle.sound_state.proofs.shared.HasLemmas.{bound-away, bound-stands}
use Rattle.sound_state.proofs.shared.ListFacts.{occurring-all}
use Rattle.sound_state.proofs.shared.SumLemmas.{some-term}
use Rattle.heap_census.specs.Census.{IsActiveOf, IsSeen, active_in}
use Rattle.heap_census.specs.Tallies.{is_anchored}
use Rattle.heap_census.proofs.IdleLemmas.{Rests, away-retired, callers-away}

-- what the state of an anchor says of a superblock
anchored-cases : (x : Phase) → is_anchored x ≡ true → (x ≡ phase.Full) ⊎ (x ≡ phase.Partial)
anchored-cases phase.Active is = absurd (true≢false (sym is))
anchored-cases phase.Full is = inl refl
anchored-cases phase.Partial is = inr refl
anchored-cases phase.Empty is = absurd (true≢false (sym is))

pub active-unanchored : (x : Phase) → x ≡ phase.Active → is_anchored x ≡ false
active-unanchored x is = ap is_anchored is

anchored-with : (x : Phase) → is_anchored x ≡ true → (x ≡ phase.Active) ⊎ (x ≡ phase.Empty) → ⊥
anchored-with phase.Active is without = true≢false (sym is)
anchored-with phase.Full is (inl same) = let bad : phase.Full ≡ phase.Active = same in cc
anchored-with phase.Full is (inr same) = let bad : phase.Full ≡ phase.Empty = same in cc
anchored-with phase.Partial is (inl same) = let bad : phase.Partial ≡ phase.Active = same in cc
anchored-with phase.Partial is (inr same) = let bad : phase.Partial ≡ phase.Empty = same in cc
anchored-with phase.Empty is without = true≢false (sym is)

anchored-some : (x : Phase) → is_anchored x ≡ true → not (is_empty x) ≡ true
anchored-some phase.Active is = refl
anchored-some phase.Full is = refl
anchored-some phase.Partial is = refl
anchored-some phase.Empty is = is

unanchored-active : (x : Phase) → is_anchored x ≡ false → is_empty x ≡ false → x ≡ phase.Active
unanchored-active phase.Active unanchored some = refl
unanchored-active phase.Full unanchored some = absurd (true≢false unanchored)
unanchored-active phase.Partial unanchored some = absurd (true≢false unanchored)
unanchored-active phase.Empty unanchored some = absurd (true≢false some)

-- a descriptor that is away says that it is without a superblock
away-without : (g : Geometry) (s : State) (l : Lists) (d : ℕ) → Rests g s l → away_of g s l d ≢ 0 → IsWithout s d
unfolding callers_sum
away-without g s l d rests some =
    elim (cases_eq (occurs d l.available) 0) [
      | inl none ↦
          let (i, has, on) = some-term g.callers (λ i. errand_away d (s.errand i)) (omega (arith, some, none)) in
          occurring-all (IsWithout s) d (s.errand i).retired (rests.parts.kept.retired i has)
          (omega (arith, on, away-retired d (s.errand i) (rests.idle i has)))
      | inr listed ↦ occurring-all (IsWithout s) d l.available rests.parts.kept.available (omega (arith, listed))
    ]

bound-from :
    (g : Geometry) (s : State) (l : Lists) (d : ℕ) → away_of g s l d ≡ 0 → not (is_empty (anchor_for s d).state) ≡ true
    → IsTrue (is_bound g s l d)
bound-from g s l d none some =
    and_from (away_of g s l d == 0) (not (is_empty (anchor_for s d).state)) (eq-eqb (away_of g s l d) 0 none) some

-- a FULL or PARTIAL descriptor has a superblock
pub anchored-bound :
    (g : Geometry) (s : State) (l : Lists) (d : ℕ) → Rests g s l → is_anchored (anchor_for s d).state ≡ true → IsTrue (is_bound g s l d)
anchored-bound g s l d rests anchored =
    elim (cases_eq (away_of g s l d) 0) [
      | inl none ↦ bound-from g s l d none (anchored-some (anchor_for s d).state anchored)
      | inr some ↦ absurd (anchored-with (anchor_for s d).state anchored (away-without g s l d rests some))
    ]

-- a descriptor that an active word names has a superblock, and is ACTIVE, and of the word's class
pub named-active : (g : Geometry) (s : State) (l : Lists) (d : ℕ) → Rests g s l → (a : IsActiveOf g s d) → (d < descriptor_count g) × IsActive s d a.class
named-active g s l d rests a = rests.parts.kept.active a.heap a.class d a.credits a.in_heap a.in_class a.holds

pub keeps-itself : (d credits : ℕ) → active_keeps d (Some (Held d credits)) ≡ 1
keeps-itself d credits = cond-true {A = ℕ} (d == d) 1 0 (eq-eqb d d refl)

pub named-bound : (g : Geometry) (s : State) (l : Lists) (d : ℕ) → Rests g s l → IsActiveOf g s d → IsTrue (is_bound g s l d)
named-bound g s l d rests a =
    let (has, active) = named-active g s l d rests a in
    let n : WordName = name.Active a.heap a.class in
    let keeps : word_keeps d n (s.word n) ≡ 1 = ap (active_keeps d) a.holds ∙ keeps-itself d a.credits in
    let some = word-sum g (word_keeps d) s.word n (a.in_heap, a.in_class) in
    let none : away_of g s l d ≡ 0 = omega (arith, rests.parts.kept.once d has, keeps, some, callers-away g s l d rests) in
    bound-from g s l d none (ap (λ x. not (is_empty x)) active.state)

-- an active word that keeps a descriptor names it
pub kept-held : (d : ℕ) (o : Option ActiveWord) → 0 < active_keeps d o → (credits : ℕ) × (o ≡ Some (Held d credits))
kept-held d None on = absurd (omega (arith, on))
kept-held d (Some Null) on = absurd (omega (arith, on))
kept-held d (Some (Held e credits)) on =
    elim (cases_eq e d) [
      | inl same ↦ (credits, ap (λ k. Some (Held k credits)) same)
      | inr differ ↦ absurd (omega (arith, on, cond-false {A = ℕ} (e == d) 1 0 (ne_eqb e d differ)))
    ]

pub keeps-named :
    (g : Geometry) (s : State) (d heap class : ℕ) → heap < g.heaps → class < CLASSES → 0 < active_keeps d (active_in s heap class)
    → IsActiveOf g s d
keeps-named g s d heap class has_heap has_class on =
    let (credits, is) = kept-held d (active_in s heap class) on in
    record { heap = heap; class = class; credits = credits; in_heap = has_heap; in_class = has_class; holds = is }

-- a word that keeps a descriptor is an active word that names it, or a slot in which it stands
slot-held : (word d : ℕ) → 0 < (if word == d + 1 then 1 else 0) → word ≡ d + 1
slot-held word d on =
    elim (cases_eq word (d + 1)) [
      | inl same ↦ same
      | inr differ ↦ absurd (omega (arith, on, cond-false {A = ℕ} (word == d + 1) 1 0 (ne_eqb word (d + 1) differ)))
    ]

named-or-slot :
    (g : Geometry) (s : State) (l : Lists) (d : ℕ) → Rests g s l → (n : WordName) → Exists g n → 0 < word_keeps d n (s.word n)
    → IsActiveOf g s d ⊎ ((class : ℕ) × IsPartlyUsed s d class)
named-or-slot g s l d rests (name.Active heap class) exists on = inl (keeps-named g s d heap class exists.0 exists.1 on)
named-or-slot g s l d rests (name.Slot heap class) exists on =
    inr (class, (rests.parts.kept.slot heap class d exists.0 exists.1 (slot-held (s.word (name.Slot heap class)) d on)).1)
named-or-slot g s l d rests n exists on = absurd (omega (arith, on))

partly-inactive : (s : State) (d class : ℕ) → IsPartlyUsed s d class → (anchor_for s d).state ≡ phase.Active → ⊥
partly-inactive s d class partly active =
    elim partly.state [
      | inl p ↦ let bad : phase.Active ≡ phase.Partial = sym active ∙ p.0 in cc
      | inr e ↦ let bad : phase.Active ≡ phase.Empty = sym active ∙ e in cc
    ]

-- an ACTIVE descriptor with a superblock stands in a word, and so in an active one
active-named :
    (g : Geometry) (s : State) (l : Lists) (d : ℕ) → Rests g s l → d < descriptor_count g → IsTrue (is_bound g s l d)
    → (anchor_for s d).state ≡ phase.Active → IsActiveOf g s d
unfolding words_sum
active-named g s l d rests has bound active =
    let full : full_keeps (anchor_for s d).state ≡ 0 = ap full_keeps active in
    let away = bound-away g s l d bound in
    let once = rests.parts.kept.once d has in
    let stands : in_words g s d + in_lists l d ≡ 1 = omega (arith, once, full, away, callers-away g s l d rests) in
    elim (cases_eq (in_lists l d) 0) [
      | inr listed ↦
          let (class, in_class, on) = some-term CLASSES (λ class. occurs d (l.partials class)) (omega (arith, listed)) in
          absurd (partly-inactive s d class
          (occurring-all (λ k. IsPartlyUsed s k class) d (l.partials class) (rests.parts.kept.listed class in_class) (omega (arith, on))) active)
      | inl none ↦
          let (k, below, on) = some-term (word_count g) (λ k. word_keeps d (word_name g k) (s.word (word_name g k))) (omega (arith, stands, none)) in
          elim (named-or-slot g s l d rests (word_name g k) (word_name-Exists g k below) on) [
            | inl named ↦ named
            | inr slot ↦ absurd (partly-inactive s d slot.0 slot.1 active)
          ]
    ]

pub bound-seen :
    (g : Geometry) (s : State) (l : Lists) (d : ℕ) → Rests g s l → d < descriptor_count g → IsTrue (is_bound g s l d)
    → is_anchored (anchor_for s d).state ≡ false → IsActiveOf g s d
bound-seen g s l d rests has bound unanchored =
    active-named g s l d rests has bound
    (unanchored-active (anchor_for s d).state unanchored (bound-stands (away_of g s l d == 0) (is_empty (anchor_for s d).state) bound))

-- a descriptor has a superblock exactly where it is seen to
pub seen-is : (g : Geometry) (s : State) (l : Lists) (d : ℕ) → Rests g s l → d < descriptor_count g → IsTrue (is_bound g s l d) ↔ IsSeen g s d
seen-is g s l d rests has = (
  λ bound. elim (cases_Bool (is_anchored (anchor_for s d).state)) [
    | inl anchored ↦ elim (anchored-cases (anchor_for s d).state anchored) [ inl full ↦ inl full | inr partial ↦ inr (inl partial) ]
    | inr unanchored ↦ inr (inr (bound-seen g s l d rests has bound unanchored))
  ],
  λ seen. elim seen [
    | inl full ↦ anchored-bound g s l d rests (ap is_anchored full)
    | inr rest ↦ elim rest [
      | inl partial ↦ anchored-bound g s l d rests (ap is_anchored partial)
      | inr named ↦ named-bound g s l d rests named
    ]
  ],
)
