-- A piece that nobody uses stays so, but where the step's caller is about to use it first.
use Rattle.std.proofs.Common.{ℕ, Bool, true, false, Option, Some, None, ◌≡◌, ◌<◌, ◌≤◌, ◌+◌, ◌-◌, ◌^◌, ◌⊎◌, ◌==◌, List, [], ◌∷◌, refl, arith, ap, sym, subst, inl, inr, ◌∙◌, eq-eqb, ne_eqb, mod-eq_of_lt}
use Rattle.std.specs.Prelude.{bit_and, if◌then◌else◌}
use Rattle.std.specs.Int.{bit_at}
use Rattle.std.proofs.lemmas.Bool.{cases_eq, cases_lt, cond-true, cond-false}
use Rattle.sound_state.proofs.Common.{Geometry, HeadFields, head_of, head_word, head_of-head_word, IsHead, WordName, Writes, occurs, Frames, Partials, Stacked, next_in}
use Rattle.sound_state.proofs.Common.{At, Continuation, Point, Idle, Block, Stack, Desc, Partial, Large, next_of, plan_point_of, name_of, after_action, found_by, found_at}
use Rattle.sound_state.proofs.Common.{State, Step, Lists, IsSoundWith, IsSoundWithoutCounts, holds_of, recalls_of, errand_frames, callers_sum, ErrandFields, first_wanted, WantFields}
use Rattle.sound_state.proofs.Common.{BlockPoint, DescPoint, PartialPoint, StackPoint, LargePoint, unit_place}
use Rattle.packed_words.specs.declared.widths.TheConstants.{TOP_BITS}
use Rattle.word_table.specs.declared.action.Action.{Action}
use Rattle.word_table.specs.declared.name.WordName.TheVariants as name
use Rattle.step_parts.specs.superblock.Points.{plan_block_of}
use Rattle.step_parts.specs.declared.superblock.point.BlockPoint.TheVariants as block
use Rattle.step_parts.specs.hazard.Points.{plan_desc_of}
use Rattle.step_parts.specs.partial.Points.{plan_partial_of}
use Rattle.step_parts.specs.stack.Piles.{popped_head, pushed_head}
use Rattle.step_parts.specs.stack.Points.{plan_stack_of}
use Rattle.step_parts.specs.declared.stack.point.StackPoint.TheVariants as stack
use Rattle.step_parts.specs.large.Points.{plan_large_of, units_taken}
use Rattle.step_parts.specs.large.Units.{IsInRun, other_bits}
use Rattle.step_parts.specs.declared.large.point.LargePoint.TheVariants as large
use Rattle.step_parts.proofs.large_lemmas.UnitLemmas.{with_run-outside, without_run-inside, without_run-outside}
use Rattle.errand_steps.specs.Continuations.{pops}
use Rattle.errand_steps.specs.Points.{site_of}
use Rattle.errand_steps.specs.declared.continuation.Continuation.TheVariants as continuation
use Rattle.sound_state.proofs.shared.ListFacts.{occurs-past}
use Rattle.sound_state.proofs.shared.PointLemmas.{fits-at, recalled-at}
use Rattle.sound_state.proofs.shared.StackedLemmas.{stacked-agrees, stacked-same}
use Rattle.sound_state.proofs.shared.StepLemmas.{settle-at, words-stay}
use Rattle.sound_state.proofs.shared.SumLemmas.{term-sum}
use Rattle.sound_state.proofs.stacks.StackSteps.{holds-true}
use Rattle.errand_steps.specs.Openers.{Opens}
use Rattle.sound_laws.specs.uses.Uses.{IsFreeFrame, IsUnused}

-- whether a word is one of the stack of frames; whether it is the word of the units
abbrev is_frame_word : WordName → Bool
is_frame_word name.FrameHead = true
is_frame_word (name.FrameNext f) = true
is_frame_word n = false

abbrev is_units_word : WordName → Bool
is_units_word name.Units = true
is_units_word n = false

-- a step as its caller's point has it
abbrev StepsFrom : State → Point → (WordName → ℕ) → Type 0
StepsFrom s p words' = Writes s.word (name_of (plan_point_of p)) (after_action (plan_point_of p) (s.word (name_of (plan_point_of p)))) words'

steps-from : (s : State) (caller : ℕ) (s' : State) (p : Point) → (s.errand caller).point ≡ p → Step s caller s' → StepsFrom s p s'.word
steps-from s caller s' p stands step =
    subst (λ (a : Action). Writes s.word (name_of a) (after_action a (s.word (name_of a))) s'.word) (ap plan_point_of stands) step.word

-- the point to which a step leads
leads-to :
    (s : State) (caller : ℕ) (s' : State) (p q : Point) → (s.errand caller).point ≡ p → Step s caller s'
    → next_of p (found_by (plan_point_of p) (s.word (name_of (plan_point_of p)))) ≡ At q → (s'.errand caller).point ≡ q
leads-to s caller s' p q stands step is =
    let at : next_of (s.errand caller).point (found_at s caller) ≡ At q =
    subst (λ r. next_of r (found_by (plan_point_of r) (s.word (name_of (plan_point_of r)))) ≡ At q) (sym stands) is in
    ap (λ (e : ErrandFields). e.point) (step.errand.here ∙ settle-at (s.errand caller) (found_at s caller) q at)

-- words whose stack of frames is the same have the same free frames
same-stack : (w w' : WordName → ℕ) (f : ℕ) → w' name.FrameHead ≡ w name.FrameHead → ((i : ℕ) → w' (name.FrameNext i) ≡ w (name.FrameNext i)) → IsFreeFrame w f → IsFreeFrame w' f
same-stack w w' f head nexts (xs, stacked, on) =
    (xs, subst (λ h. Stacked (next_in w' Frames) (head_of h).top xs) (sym head) (stacked-agrees (next_in w Frames) (next_in w' Frames) (head_of (w name.FrameHead)).top xs (λ j here. nexts j) stacked), on)

stack-apart : (w w' : WordName → ℕ) (n : WordName) (new f : ℕ) → Writes w n new w' → is_frame_word n ≡ false → IsFreeFrame w f → IsFreeFrame w' f
stack-apart w w' n new f writes apart free =
    same-stack w w' f (writes.elsewhere name.FrameHead (λ same. apart-head n same apart)) (λ i. writes.elsewhere (name.FrameNext i) (λ same. apart-next n i same apart)) free
  where
    apart-head : (m : WordName) → name.FrameHead ≡ m → is_frame_word m ≡ false → ⊥
    apart-head m same off = let bad : true ≡ false = ap is_frame_word same ∙ off in cc

    apart-next : (m : WordName) (i : ℕ) → name.FrameNext i ≡ m → is_frame_word m ≡ false → ⊥
    apart-next m i same off = let bad : true ≡ false = ap is_frame_word same ∙ off in cc

stack-stays : (w w' : WordName → ℕ) (n : WordName) (new f : ℕ) → Writes w n new w' → new ≡ w n → IsFreeFrame w f → IsFreeFrame w' f
stack-stays w w' n new f writes same free =
    let all = words-stay w n new w' writes same in same-stack w w' f (all name.FrameHead) (λ i. all (name.FrameNext i)) free

-- no step but one of a stack of frames is on a word of that stack
block-apart : (p : BlockPoint) → is_frame_word (name_of (plan_block_of p)) ≡ false
block-apart p = grind (arith)

desc-apart : (p : DescPoint) → is_frame_word (name_of (plan_desc_of p)) ≡ false
desc-apart p = grind (arith)

partial-apart : (p : PartialPoint) → is_frame_word (name_of (plan_partial_of p)) ≡ false
partial-apart p = grind (arith)

large-apart : (p : LargePoint) → is_frame_word (name_of (plan_large_of p)) ≡ false
large-apart p = grind (arith)

-- a push of a frame
pushed-stack :
    (g : Geometry) (s : State) (w' : WordName → ℕ) (h : HeadFields) (i f : ℕ) → g.frames < 2 ^ TOP_BITS → i < g.frames → IsHead h
    → s.word name.FrameHead ≡ head_word h → s.word (name.FrameNext i) ≡ h.top → Writes s.word name.FrameHead (head_word (pushed_head h i)) w'
    → IsFreeFrame s.word f → IsFreeFrame w' f
pushed-stack g s w' h i f room has fits head below writes (xs, stacked, on) =
    let before : head_of (s.word name.FrameHead) ≡ h = ap head_of head ∙ head_of-head_word h fits in
    let uncut : pushed_head h i ≡ record { top = i + 1; tag = h.tag } = ap (λ t. record { top = t; tag = h.tag }) (mod-eq_of_lt {n = i + 1} {m = 2 ^ TOP_BITS} (omega (arith, has, room))) in
    let after : head_of (w' name.FrameHead) ≡ record { top = i + 1; tag = h.tag } =
    ap head_of (writes.here ∙ ap head_word uncut) ∙ head_of-head_word (record { top = i + 1; tag = h.tag }) (record { top = omega (arith, has, room); tag = fits.tag }) in
    let nexts : (j : ℕ) → next_in w' Frames j ≡ next_in s.word Frames j = λ j. writes.elsewhere (name.FrameNext j) (λ same. cc) in
    let rest : Stacked (next_in w' Frames) h.top xs =
    stacked-agrees (next_in s.word Frames) (next_in w' Frames) h.top xs (λ j here. nexts j) (subst (λ (x : HeadFields). Stacked (next_in s.word Frames) x.top xs) before stacked) in
    let under : Stacked (next_in w' Frames) (next_in w' Frames i) xs = subst (λ t. Stacked (next_in w' Frames) t xs) (sym (nexts i ∙ below)) rest in
    (i ∷ xs, (ap (λ (x : HeadFields). x.top) after, under), omega (arith, on))

-- a pop of a frame: the one on top goes, and the others stay
popped-stack :
    (g : Geometry) (s : State) (w' : WordName → ℕ) (h : HeadFields) (below f : ℕ) → g.frames < 2 ^ TOP_BITS → below ≤ g.frames → IsHead h → 1 ≤ h.top
    → s.word name.FrameHead ≡ head_word h → s.word (name.FrameNext (h.top - 1)) ≡ below → Writes s.word name.FrameHead (head_word (popped_head h below)) w'
    → IsFreeFrame s.word f → IsFreeFrame w' f ⊎ (f ≡ h.top - 1)
popped-stack g s w' h below f room within fits some head under writes (xs, stacked, on) =
    let before : head_of (s.word name.FrameHead) ≡ h = ap head_of head ∙ head_of-head_word h fits in
    let new : HeadFields = popped_head h below in
    let whole : IsHead new = record { top = omega (arith, within, room); tag = omega arith } in
    let after : head_of (w' name.FrameHead) ≡ new = ap head_of writes.here ∙ head_of-head_word new whole in
    let nexts : (j : ℕ) → next_in w' Frames j ≡ next_in s.word Frames j = λ j. writes.elsewhere (name.FrameNext j) (λ same. cc) in
    go xs (subst (λ (x : HeadFields). Stacked (next_in s.word Frames) x.top xs) before stacked) on after nexts
  where
    go :
        (ys : List ℕ) → Stacked (next_in s.word Frames) h.top ys → 0 < occurs f ys → head_of (w' name.FrameHead) ≡ popped_head h below
        → ((j : ℕ) → next_in w' Frames j ≡ next_in s.word Frames j) → IsFreeFrame w' f ⊎ (f ≡ h.top - 1)
    go [] stack here after nexts = absurd (omega (arith, here))
    go (y ∷ ys) stack here after nexts =
        let top : y ≡ h.top - 1 = omega (arith, stack.0) in
        let rest : Stacked (next_in s.word Frames) below ys =
        subst (λ t. Stacked (next_in s.word Frames) t ys) (ap (next_in s.word Frames) top ∙ under) stack.1 in
        elim (cases_eq y f) [
          | inl same ↦ inr (sym same ∙ top)
          | inr differ ↦
              inl (
                ys,
                subst (λ (x : HeadFields). Stacked (next_in w' Frames) x.top ys) (sym after)
                    (stacked-agrees (next_in s.word Frames) (next_in w' Frames) below ys (λ j on. nexts j) rest),
                omega (arith, here, occurs-past f y ys differ),
              )
        ]

abbrev next_number : WordName → ℕ
next_number (name.FrameNext k) = k
next_number n = 0

-- the next word of a frame that isn't on the stack is written
off-stack :
    (g : Geometry) (s : State) (l : Lists) (caller : ℕ) (w' : WordName → ℕ) (i new f : ℕ) → IsSoundWith g s l → caller < g.callers → i < g.frames
    → 1 ≤ errand_frames i (s.errand caller) → Writes s.word (name.FrameNext i) new w' → IsFreeFrame s.word f → IsFreeFrame w' f
unfolding callers_sum
off-stack g s l caller w' i new f old has has_i held writes (xs, stacked, on) =
    let none : occurs i l.frames ≡ 0 = omega (arith, old.framed.once i has_i, held, term-sum g.callers (λ c. errand_frames i (s.errand c)) caller has) in
    let same : xs ≡ l.frames = stacked-same _ _ xs l.frames stacked old.listed.frames in
    let off : occurs i xs ≡ 0 = ap (occurs i) same ∙ none in (
      xs,
      subst (λ h. Stacked (next_in w' Frames) (head_of h).top xs) (sym (writes.elsewhere name.FrameHead (λ is. cc)))
          (stacked-agrees (next_in s.word Frames) (next_in w' Frames) (head_of (s.word name.FrameHead)).top xs
          (λ j here. writes.elsewhere (name.FrameNext j) (λ is. let bad : ⊥ = apart i j xs off here (ap next_number is) in bad)) stacked),
      on,
    )
  where
    apart : (i j : ℕ) (xs : List ℕ) → occurs i xs ≡ 0 → 0 < occurs j xs → j ≡ i → ⊥
    apart i j xs off here same = omega (arith, off, here, ap (λ k. occurs k xs) same)

occurs-front : (i : ℕ) (xs : List ℕ) → 1 ≤ occurs i (i ∷ xs)
occurs-front i xs = grind (arith)

-- a frame that is free
abbrev Stays : Geometry → State → ℕ → State → ℕ → Type 0
Stays g s caller s' f = IsFreeFrame s'.word f ⊎ Opens g (s'.errand caller).point f

exchanged-word : (word old new : ℕ) → (word ≡ old → ⊥) → (if word == old then new else word) ≡ word
exchanged-word word old new differ = cond-false {A = ℕ} (word == old) new word (ne_eqb word old differ)

won-word : (word old new : ℕ) → word ≡ old → (if word == old then new else word) ≡ new
won-word word old new same = cond-true {A = ℕ} (word == old) new word (eq-eqb word old same)

pub frame-stays :
    (g : Geometry) (s : State) (caller : ℕ) (s' : State) (f : ℕ) (p : Point) → IsSoundWithoutCounts g s → caller < g.callers
    → (s.errand caller).point ≡ p → Step s caller s' → IsFreeFrame s.word f → Stays g s caller s' f
unfolding plan_point_of next_of holds_of recalls_of
frame-stays g s caller s' f Idle sound has stands step free = inl (stack-stays s.word s'.word _ _ f (steps-from s caller s' Idle stands step) refl free)
frame-stays g s caller s' f (Block p o) sound has stands step free = inl (stack-apart s.word s'.word _ _ f (steps-from s caller s' (Block p o) stands step) (block-apart p) free)
frame-stays g s caller s' f (Desc p o) sound has stands step free = inl (stack-apart s.word s'.word _ _ f (steps-from s caller s' (Desc p o) stands step) (desc-apart p) free)
frame-stays g s caller s' f (Partial p o) sound has stands step free = inl (stack-apart s.word s'.word _ _ f (steps-from s caller s' (Partial p o) stands step) (partial-apart p) free)
frame-stays g s caller s' f (Large p o) sound has stands step free = inl (stack-apart s.word s'.word _ _ f (steps-from s caller s' (Large p o) stands step) (large-apart p) free)
frame-stays g s caller s' f (Stack (stack.LoadTop seat Frames) o) sound has stands step free =
    inl (stack-stays s.word s'.word _ _ f (steps-from s caller s' (Stack (stack.LoadTop seat Frames) o) stands step) refl free)
frame-stays g s caller s' f (Stack (stack.LoadTop seat Partials) o) sound has stands step free =
    inl (stack-apart s.word s'.word _ _ f (steps-from s caller s' (Stack (stack.LoadTop seat Partials) o) stands step) refl free)
frame-stays g s caller s' f (Stack (stack.LoadBelow seat Frames h) o) sound has stands step free =
    inl (stack-stays s.word s'.word _ _ f (steps-from s caller s' (Stack (stack.LoadBelow seat Frames h) o) stands step) refl free)
frame-stays g s caller s' f (Stack (stack.LoadBelow seat Partials h) o) sound has stands step free =
    inl (stack-apart s.word s'.word _ _ f (steps-from s caller s' (Stack (stack.LoadBelow seat Partials h) o) stands step) refl free)
frame-stays g s caller s' f (Stack (stack.LoadTopToPush seat Frames i) o) sound has stands step free =
    inl (stack-stays s.word s'.word _ _ f (steps-from s caller s' (Stack (stack.LoadTopToPush seat Frames i) o) stands step) refl free)
frame-stays g s caller s' f (Stack (stack.LoadTopToPush seat Partials i) o) sound has stands step free =
    inl (stack-apart s.word s'.word _ _ f (steps-from s caller s' (Stack (stack.LoadTopToPush seat Partials i) o) stands step) refl free)
frame-stays g s caller s' f (Stack (stack.ConfirmEmpty seat Frames h) o) sound has stands step free =
    let word = s.word name.FrameHead in
    let same : (if word == head_word h then head_word h else word) ≡ word =
    elim (cases_eq word (head_word h)) [ inl is ↦ won-word word (head_word h) (head_word h) is ∙ sym is | inr other ↦ exchanged-word word (head_word h) (head_word h) other ] in
    inl (stack-stays s.word s'.word _ _ f (steps-from s caller s' (Stack (stack.ConfirmEmpty seat Frames h) o) stands step) same free)
frame-stays g s caller s' f (Stack (stack.ConfirmEmpty seat Partials h) o) sound has stands step free =
    inl (stack-apart s.word s'.word _ _ f (steps-from s caller s' (Stack (stack.ConfirmEmpty seat Partials h) o) stands step) refl free)
frame-stays g s caller s' f (Stack (stack.StoreBelow seat Frames i h) o) sound has stands step free =
    let p : Point = Stack (stack.StoreBelow seat Frames i h) o in
    let fit = fits-at g s sound.parts.0 caller p sound.parts.1 has stands in
    let held : 1 ≤ errand_frames i (s.errand caller) = subst (λ q. 1 ≤ occurs i (holds_of q).frames) (sym stands) (occurs-front i _) in
    inl (off-stack g s sound.parts.0 caller s'.word i h.top f sound.parts.1 has fit.point.0.index held (steps-from s caller s' p stands step) free)
frame-stays g s caller s' f (Stack (stack.StoreBelow seat Partials i h) o) sound has stands step free =
    inl (stack-apart s.word s'.word _ _ f (steps-from s caller s' (Stack (stack.StoreBelow seat Partials i h) o) stands step) refl free)
frame-stays g s caller s' f (Stack (stack.PushTop seat Frames i h) o) sound has stands step free =
    let p : Point = Stack (stack.PushTop seat Frames i h) o in
    let word = s.word name.FrameHead in
    let writes = steps-from s caller s' p stands step in
    let fit = fits-at g s sound.parts.0 caller p sound.parts.1 has stands in
    let so = recalled-at g s sound.parts.0 caller p sound.parts.1 has stands in
    let room : g.frames < 2 ^ TOP_BITS = omega (arith, sound.checked.frames.1) in
    elim (cases_eq word (head_word h)) [
      | inl won ↦
          inl
          (pushed-stack g s s'.word h i f room fit.point.0.index fit.point.1 won so.0.1
          (subst (λ x. Writes s.word name.FrameHead x s'.word) (won-word word (head_word h) (head_word (pushed_head h i)) won) writes) free)
      | inr lost ↦ inl (stack-stays s.word s'.word _ _ f writes (exchanged-word word (head_word h) (head_word (pushed_head h i)) lost) free)
    ]
frame-stays g s caller s' f (Stack (stack.PushTop seat Partials i h) o) sound has stands step free =
    inl (stack-apart s.word s'.word _ _ f (steps-from s caller s' (Stack (stack.PushTop seat Partials i h) o) stands step) refl free)
frame-stays g s caller s' f (Stack (stack.PopTop seat Partials h below) o) sound has stands step free =
    inl (stack-apart s.word s'.word _ _ f (steps-from s caller s' (Stack (stack.PopTop seat Partials h below) o) stands step) refl free)
frame-stays g s caller s' f (Stack (stack.PopTop seat Frames h below) (continuation.TakeFrame words d)) sound has stands step free =
    let p : Point = Stack (stack.PopTop seat Frames h below) (continuation.TakeFrame words d) in
    let word = s.word name.FrameHead in
    let writes = steps-from s caller s' p stands step in
    let fit = fits-at g s sound.parts.0 caller p sound.parts.1 has stands in
    let so = recalled-at g s sound.parts.0 caller p sound.parts.1 has stands in
    let room : g.frames < 2 ^ TOP_BITS = omega (arith, sound.checked.frames.1) in
    elim (cases_eq word (head_word h)) [
      | inl won ↦
          let before : head_of word ≡ h = ap head_of won ∙ head_of-head_word h fit.point.0.head in
          let under : s.word (name.FrameNext (h.top - 1)) ≡ below = so.0 (sym (ap (λ (x : HeadFields). x.tag) before)) in
          let q : Point = Block (block.LinkBlock (site_of seat d (h.top - 1)) 0) (continuation.Alloc words) in
          let at : (s'.errand caller).point ≡ q = leads-to s caller s' p q stands step (rw (eq-eqb word (head_word h) won) refl) in
          elim (popped-stack g s s'.word h below f room fit.point.1 fit.point.0.head fit.point.0.top.0 won under
          (subst (λ x. Writes s.word name.FrameHead x s'.word) (won-word word (head_word h) (head_word (popped_head h below)) won) writes) free) [
            | inl still ↦ inl still
            | inr top ↦ inr (subst (λ r. Opens g r f) (sym at) (refl, top))
          ]
      | inr lost ↦ inl (stack-stays s.word s'.word _ _ f writes (exchanged-word word (head_word h) (head_word (popped_head h below)) lost) free)
    ]
frame-stays g s caller s' f (Stack (stack.PopTop seat Frames h below) o) sound has stands step free =
    let fit = fits-at g s sound.parts.0 caller (Stack (stack.PopTop seat Frames h below) o) sound.parts.1 has stands in
    let is : pops Frames o ≡ true = holds-true (pops Frames o) fit.goes in absurd (let no : ⊥ = cc in no)

-- units
unit-apart : (w w' : WordName → ℕ) (n : WordName) (new : ℕ) → Writes w n new w' → is_units_word n ≡ false → w' name.Units ≡ w name.Units
unit-apart w w' n new writes apart = writes.elsewhere name.Units (λ same. let bad : true ≡ false = ap is_units_word same ∙ apart in cc)

block-unitless : (p : BlockPoint) → is_units_word (name_of (plan_block_of p)) ≡ false
block-unitless p = grind (arith)

desc-unitless : (p : DescPoint) → is_units_word (name_of (plan_desc_of p)) ≡ false
desc-unitless p = grind (arith)

partial-unitless : (p : PartialPoint) → is_units_word (name_of (plan_partial_of p)) ≡ false
partial-unitless p = grind (arith)

stack-unitless : (p : StackPoint) → is_units_word (name_of (plan_stack_of p)) ≡ false
stack-unitless p = grind (arith)

-- a unit that is free
abbrev UnitStays : Geometry → ℕ → State → ℕ → Type 0
UnitStays g caller s' unit = (bit_at (s'.word name.Units) unit ≡ 0) ⊎ Opens g (s'.errand caller).point (g.frames + unit)

same-unit : (g : Geometry) (caller : ℕ) (s s' : State) (unit : ℕ) → s'.word name.Units ≡ s.word name.Units → bit_at (s.word name.Units) unit ≡ 0 → UnitStays g caller s' unit
same-unit g caller s s' unit same free = inl (ap (λ w. bit_at w unit) same ∙ free)

cases-in : (first units i : ℕ) → IsInRun first units i ⊎ ¬ IsInRun first units i
cases-in first units i =
    elim (cases_lt i first) [
      | inl before ↦ inr (λ h. omega (arith, before, h.from))
      | inr from ↦ elim (cases_lt i (first + units)) [
        | inl below ↦ inl (record { from = from; below = below })
        | inr behind ↦ inr (λ h. omega (arith, behind, h.below))
      ]
    ]

taken-run :
    (g : Geometry) (s : State) (caller : ℕ) (s' : State) (unit : ℕ) (w : WantFields) (bits : ℕ) (o : Continuation) (found : Option ℕ) → (s.errand caller).point ≡ Large (large.TakeRun w bits) o
    → w.geometry ≡ g → s.word name.Units ≡ bits → first_wanted w bits ≡ found → Step s caller s' → s'.word name.Units ≡ units_taken bits w.units found
    → bit_at bits unit ≡ 0 → UnitStays g caller s' unit
unfolding next_of plan_point_of
taken-run g s caller s' unit w bits o None stands of won is step after free = inl (ap (λ x. bit_at x unit) after ∙ free)
taken-run g s caller s' unit w bits o (Some first) stands of won is step after free =
    elim (cases-in first w.units unit) [
      | inr out ↦ inl (ap (λ x. bit_at x unit) after ∙ with_run-outside bits first w.units unit out ∙ free)
      | inl inside ↦
          let q : Point = Large (large.StoreRunPrefix (unit_place w.geometry.frames first) (record { first = first; units = w.units })) o in
          let at : (s'.errand caller).point ≡ q =
          leads-to s caller s' (Large (large.TakeRun w bits) o) q stands step (rw (eq-eqb (s.word name.Units) bits won, is) refl) in
          inr (subst (λ r. Opens g r (g.frames + unit)) (sym at) (omega (arith, inside.from), omega (arith, inside.below)))
    ]

pub unit-stays :
    (g : Geometry) (s : State) (caller : ℕ) (s' : State) (unit : ℕ) (p : Point) → IsSoundWithoutCounts g s → caller < g.callers
    → (s.errand caller).point ≡ p → Step s caller s' → bit_at (s.word name.Units) unit ≡ 0 → UnitStays g caller s' unit
unfolding plan_point_of
unit-stays g s caller s' unit (Block p o) sound has stands step free = same-unit g caller s s' unit (unit-apart s.word s'.word _ _ (steps-from s caller s' (Block p o) stands step) (block-unitless p)) free
unit-stays g s caller s' unit (Stack p o) sound has stands step free = same-unit g caller s s' unit (unit-apart s.word s'.word _ _ (steps-from s caller s' (Stack p o) stands step) (stack-unitless p)) free
unit-stays g s caller s' unit (Desc p o) sound has stands step free = same-unit g caller s s' unit (unit-apart s.word s'.word _ _ (steps-from s caller s' (Desc p o) stands step) (desc-unitless p)) free
unit-stays g s caller s' unit (Partial p o) sound has stands step free = same-unit g caller s s' unit (unit-apart s.word s'.word _ _ (steps-from s caller s' (Partial p o) stands step) (partial-unitless p)) free
unit-stays g s caller s' unit (Large (large.LoadUnits w) o) sound has stands step free =
    same-unit g caller s s' unit (words-stay s.word _ _ s'.word (steps-from s caller s' (Large (large.LoadUnits w) o) stands step) refl name.Units) free
unit-stays g s caller s' unit (Large (large.TakeRun w bits) o) sound has stands step free =
    let writes = steps-from s caller s' (Large (large.TakeRun w bits) o) stands step in
    let word = s.word name.Units in
    let fit = fits-at g s sound.parts.0 caller (Large (large.TakeRun w bits) o) sound.parts.1 has stands in
    let new = units_taken bits w.units (first_wanted w bits) in
    elim (cases_eq word bits) [
      | inr lost ↦ same-unit g caller s s' unit (writes.here ∙ exchanged-word word bits new lost) free
      | inl won ↦
          taken-run g s caller s' unit w bits o (first_wanted w bits) stands fit.point.geometry won refl step (writes.here ∙ won-word word bits new won)
          (ap (λ x. bit_at x unit) (sym won) ∙ free)
    ]
unit-stays g s caller s' unit (Large (large.FreeRun place run) o) sound has stands step free =
    let writes = steps-from s caller s' (Large (large.FreeRun place run) o) stands step in
    let word = s.word name.Units in
    let fit = fits-at g s sound.parts.0 caller (Large (large.FreeRun place run) o) sound.parts.1 has stands in
    let small = sound.parts.1.formed.words name.Units in
    let without : bit_at (bit_and word (other_bits run.first run.units)) unit ≡ 0 =
    elim (cases-in run.first run.units unit) [
      | inl inside ↦ without_run-inside word run.first run.units unit fit.point.run.within small inside
      | inr past ↦ without_run-outside word run.first run.units unit fit.point.run.within small past ∙ free
    ] in inl (ap (λ x. bit_at x unit) writes.here ∙ without)
unit-stays g s caller s' unit p sound has stands step free = same-unit g caller s s' unit (unit-apart s.word s'.word _ _ (steps-from s caller s' p stands step) refl) free

pub unused-stays :
    (g : Geometry) (s : State) (caller : ℕ) (s' : State) (k : ℕ) → IsSoundWithoutCounts g s → caller < g.callers → Step s caller s' → IsUnused g s.word k
    → IsUnused g s'.word k ⊎ Opens g (s'.errand caller).point k
unused-stays g s caller s' k sound has step (inl (frame, free)) =
    elim (frame-stays g s caller s' k (s.errand caller).point sound has refl step free) [ inl still ↦ inl (inl (frame, still)) | inr opens ↦ inr opens ]
unused-stays g s caller s' k sound has step (inr (unit, free)) =
    let number : g.frames + (k - g.frames) ≡ k = omega (arith, unit) in
    elim (unit-stays g s caller s' (k - g.frames) (s.errand caller).point sound has refl step free) [
      | inl still ↦ inl (inr (unit, still))
      | inr opens ↦ inr (subst (Opens g (s'.errand caller).point) number opens)
    ]
