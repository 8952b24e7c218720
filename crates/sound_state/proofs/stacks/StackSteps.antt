-- The steps of a won pop from a stack and of a won push onto one.
use Rattle.std.proofs.Common.{ℕ, Bool, true, false, ◌≡◌, ◌≢◌, ◌<◌, ◌≤◌, ◌+◌, ◌-◌, ◌^◌, List, [], ◌∷◌, refl, arith, ap, sym, subst, inl, ◌∙◌, ◌==◌, All, IsTrue}
use Rattle.std.proofs.Common.{eq-eqb, ne_eqb, mod-eq_of_lt}
use Rattle.std.proofs.lemmas.Bool.{cases_eq, cond-true, cond-false}
use Rattle.std.proofs.lemmas.List.Elements.{All-cons, All-head, All-tail, All-from_recursion}
use Rattle.std.proofs.Math.Path.{fun_ext}
use Rattle.std.specs.List.{AllByRecursion}
use Rattle.sound_state.proofs.Common.{Geometry, CLASSES, IsChecked, HeadFields, head_of, WordName, descriptor_count, SeatFields, Writes, occurs, Pile, Frames, Partials}
use Rattle.sound_state.proofs.Common.{head_name, next_name, Stacked, next_in, At, Continuation, Point, Idle, Block, Stack, Desc, Partial, event_of, next_of, plan_point_of}
use Rattle.sound_state.proofs.Common.{State, Step, Holding, holds_of, partly_used, IsKeptAs, IsPartlyUsed, Lists, IsListed, IsSo, recalls_of, IsSoundWithoutCounts}
use Rattle.sound_state.proofs.Common.{IsSoundWith, waits_in, IsHead, head_word, head_of-head_word, descriptor_count_within, pile_limit, put_away, pushes, list_of}
use Rattle.sound_state.proofs.Common.{continuation_recalls}
use Rattle.packed_words.specs.declared.widths.TheConstants.{TOP_BITS, HEAD_TAG_BITS}
use Rattle.word_table.specs.declared.name.WordName.TheVariants as name
use Rattle.step_parts.specs.declared.superblock.point.BlockPoint.TheVariants as block
use Rattle.step_parts.specs.declared.stack.point.StackPoint.TheVariants as stack
use Rattle.step_parts.specs.stack.Piles.{popped_head, pushed_head}
use Rattle.step_parts.specs.declared.hazard.point.DescPoint.TheVariants as desc
use Rattle.step_parts.specs.declared.partial.point.PartialPoint.TheVariants as partial
use Rattle.errand_steps.specs.declared.continuation.Continuation.TheVariants as continuation
use Rattle.errand_steps.specs.Nexts.{popped}
use Rattle.errand_steps.specs.Continuations.{pops}
use Rattle.errand_steps.specs.Points.{site_of}
use Rattle.sound_state.proofs.shared.PointLemmas.{HoldsAlike, alike-goes, fits-at, kept-at, recalled-at}
use Rattle.sound_state.proofs.quiet.QuietStacks.{pop_top_lost-sound}
use Rattle.sound_state.proofs.shared.StackedLemmas.{pile-stacked, pile-exists}
use Rattle.sound_state.proofs.shared.WonEffects.{LeadsTo}
use Rattle.sound_state.proofs.stacks.StackEffects.{IsNoHead}
use Rattle.sound_state.proofs.stacks.StackShifts.{NewList, HoldsMore, OneMore, PaysForTag, with_list, more-popped, more-pushed, more-balanced, balance-back, shifts-sound}
use Rattle.sound_state.proofs.stacks.StackShifts.{list_class, no-head-apart, list-elsewhere}
use Rattle.sound_state.proofs.shared.StepLemmas.{TurnGoes}
use Rattle.sound_state.proofs.shared.TagLemmas.{frame-tag-below, list-tags-below}
use Rattle.sound_state.proofs.shared.KeepsSound.{KeepsSound, KeepsSoundWhere, either-sound}
use Rattle.sound_state.proofs.shared.SuperblocksStay.{AreKept}

-- the tag of a stack's head has room
pub tag-room :
    (g : Geometry) (s : State) (seat : SeatFields) (pile : Pile) → IsSoundWithoutCounts g s → seat.class < CLASSES
    → (head_of (s.word (head_name seat pile))).tag + 1 < 2 ^ HEAD_TAG_BITS
tag-room g s seat Frames sound has = omega (arith, frame-tag-below g s sound)
tag-room g s seat Partials sound has = omega (arith, list-tags-below g s sound seat.class has)

-- an index and the number above it fit a top
limit-room : (g : Geometry) (pile : Pile) → IsChecked g → pile_limit g pile < 2 ^ TOP_BITS
limit-room g Frames checked = omega (arith, checked.frames.1)
limit-room g Partials checked = omega (arith, descriptor_count_within g checked)

-- what holds of the new list of partial superblocks and of those of other classes holds of each
partials-with :
    (P : ℕ → List ℕ → Type 0) (l : Lists) (seat : SeatFields) (xs : List ℕ) (class : ℕ) → P seat.class xs
    → (class ≢ seat.class → P class (l.partials class)) → P class ((with_list l seat Partials xs).partials class)
partials-with P l seat xs class here others = grind (arith, here, others, cases_eq, cond-false, cond-true, eq-eqb, ne_eqb)

-- the words with another head for a stack make the lists with another list for it
listed-with :
    (g : Geometry) (s : State) (l : Lists) (seat : SeatFields) (pile : Pile) (new : HeadFields) (xs : List ℕ) (words' : WordName → ℕ)
    → IsListed g s.word l → IsHead new → Writes s.word (head_name seat pile) (head_word new) words'
    → Stacked (next_in s.word pile) new.top xs → All (λ i. i < pile_limit g pile) xs → IsListed g words' (with_list l seat pile xs)
listed-with g s l seat Frames new xs words' listed fits w stacked exist =
    let plain : (n : WordName) → IsNoHead n → words' n ≡ s.word n = λ n is. w.elsewhere n (no-head-apart seat Frames n is) in
    let frames : next_in words' Frames ≡ next_in s.word Frames = fun_ext (λ i. plain (name.FrameNext i) tt) in
    let partials : next_in words' Partials ≡ next_in s.word Partials = fun_ext (λ i. plain (name.Next i) tt) in
    let top : head_of (words' name.FrameHead) ≡ new = ap head_of w.here ∙ head_of-head_word new fits in
    record {
      nexts = λ d has. subst (λ w. w ≤ descriptor_count g) (sym (plain (name.Next d) tt)) (listed.nexts d has);
      frame_nexts = λ f has. subst (λ w. w ≤ g.frames) (sym (plain (name.FrameNext f) tt)) (listed.frame_nexts f has);
      frames = rw (frames, top) stacked;
      frames_exist = exist;
      available = rw (partials, plain name.DescHead tt) listed.available;
      available_exist = listed.available_exist;
      partials = λ class has. rw (partials, w.elsewhere (name.ListHead class) (λ same. cc)) (listed.partials class has);
      partials_exist = listed.partials_exist;
    }
listed-with g s l seat Partials new xs words' listed fits w stacked exist =
    let plain : (n : WordName) → IsNoHead n → words' n ≡ s.word n = λ n is. w.elsewhere n (no-head-apart seat Partials n is) in
    let frames : next_in words' Frames ≡ next_in s.word Frames = fun_ext (λ i. plain (name.FrameNext i) tt) in
    let partials : next_in words' Partials ≡ next_in s.word Partials = fun_ext (λ i. plain (name.Next i) tt) in
    let top : head_of (words' (name.ListHead seat.class)) ≡ new = ap head_of w.here ∙ head_of-head_word new fits in
    record {
      nexts = λ d has. subst (λ w. w ≤ descriptor_count g) (sym (plain (name.Next d) tt)) (listed.nexts d has);
      frame_nexts = λ f has. subst (λ w. w ≤ g.frames) (sym (plain (name.FrameNext f) tt)) (listed.frame_nexts f has);
      frames = rw (frames, w.elsewhere name.FrameHead (λ same. cc)) listed.frames;
      frames_exist = listed.frames_exist;
      available = rw (partials, plain name.DescHead tt) listed.available;
      available_exist = listed.available_exist;
      partials = λ class has.
          partials-with (λ c ys. Stacked (next_in words' Partials) (head_of (words' (name.ListHead c))).top ys) l seat xs class
          (rw (partials, top) stacked)
          (λ differ. rw (partials, w.elsewhere (name.ListHead class) (λ e. differ (ap list_class e))) (listed.partials class has));
      partials_exist = λ class has.
          partials-with (λ c. All (λ d. d < descriptor_count g)) l seat xs class exist (λ differ. listed.partials_exist class has);
    }

-- the superblocks of all lists are partly used, where those of the new list are
partly-with :
    (s : State) (l : Lists) (seat : SeatFields) (pile : Pile) (xs : List ℕ)
    → ((class : ℕ) → class < CLASSES → All (λ d. IsPartlyUsed s d class) (l.partials class))
    → (pile ≡ Partials → All (λ d. IsPartlyUsed s d seat.class) xs) → (class : ℕ) → class < CLASSES
    → All (λ d. IsPartlyUsed s d class) ((with_list l seat pile xs).partials class)
partly-with s l seat Frames xs old these class has = old class has
partly-with s l seat Partials xs old these class has =
    partials-with (λ c. All (λ d. IsPartlyUsed s d c)) l seat xs class (these refl) (λ differ. old class has)

-- a stack that has an index on top is that index and the rest
record IsTopOf (next : ℕ → ℕ) (top : ℕ) (xs : List ℕ) : Type 0 where
  rest : List ℕ
  whole : xs ≡ (top - 1) ∷ rest
  stacked : Stacked next (next (top - 1)) rest

top-of : (next : ℕ → ℕ) (top : ℕ) (xs : List ℕ) → Stacked next top xs → 1 ≤ top → IsTopOf next top xs
top-of next top [] stacked some = absurd (omega (arith, stacked, some))
top-of next top (x ∷ xs) stacked some =
    let here : x ≡ top - 1 = omega (arith, stacked.0) in
    record { rest = xs; whole = ap (λ y. y ∷ xs) here; stacked = subst (λ y. Stacked next (next y) xs) here stacked.1 }

-- the partial superblocks of a list are partly used
list-partly :
    (g : Geometry) (s : State) (l : Lists) (seat : SeatFields) (pile : Pile) → IsSoundWith g s l → seat.class < CLASSES → pile ≡ Partials
    → All (λ d. IsPartlyUsed s d seat.class) (list_of l seat pile)
list-partly g s l seat Frames old has is = absurd (cc)
list-partly g s l seat Partials old has is = old.kept.listed seat.class has

keeps-more :
    (s : State) (seat : SeatFields) (pile : Pile) (x : ℕ) (a b : Holding) → HoldsMore seat pile x a b
    → (pile ≡ Partials → IsPartlyUsed s x seat.class) → AreKept s a.kept → AreKept s b.kept
keeps-more s seat Frames x a b more is kept = subst (AreKept s) (sym more.0) kept
keeps-more s seat Partials x a b more is kept =
    subst (AreKept s) (sym more.0)
    (All-cons (λ k. IsKeptAs s k.status k.desc k.class) (record { desc = x; class = seat.class; status = partly_used }) a.kept (is refl) kept)

pub keeps-less :
    (s : State) (seat : SeatFields) (pile : Pile) (x : ℕ) (a b : Holding) → HoldsMore seat pile x a b → AreKept s b.kept → AreKept s a.kept
keeps-less s seat Frames x a b more kept = subst (AreKept s) more.0 kept
keeps-less s seat Partials x a b more kept =
    All-tail (λ k. IsKeptAs s k.status k.desc k.class) (record { desc = x; class = seat.class; status = partly_used }) a.kept
    (subst (AreKept s) more.0 kept)

pub in-hand :
    (s : State) (seat : SeatFields) (pile : Pile) (x : ℕ) (a b : Holding) → HoldsMore seat pile x a b → AreKept s b.kept → pile ≡ Partials
    → IsPartlyUsed s x seat.class
in-hand s seat Frames x a b more kept is = absurd (cc)
in-hand s seat Partials x a b more kept is =
    All-head (λ k. IsKeptAs s k.status k.desc k.class) (record { desc = x; class = seat.class; status = partly_used }) a.kept
    (subst (AreKept s) more.0 kept)

-- the point to which a won pop leads, what the caller holds there, and that what it remembers is so: no link is stored yet
record PopLeads (seat : SeatFields) (pile : Pile) (h : HeadFields) (below : ℕ) (o : Continuation) (q : Point) : Type 0 where
  next : popped seat (h.top - 1) o ≡ At q
  holds : HoldsAlike (Stack (stack.PopTop seat pile h below) o) q
  more : HoldsMore seat pile (h.top - 1) (holds_of (Stack (stack.PopTop seat pile h below) o)) (holds_of q)
  credits : (holds_of q).credits ≡ (holds_of (Stack (stack.PopTop seat pile h below) o)).credits
  waits : (class : ℕ) → waits_in class q ≡ 0
  recalls :
      (g : Geometry) (s : State) (l : Lists) (caller : ℕ) → AllByRecursion (IsSo g s l caller) (recalls_of (Stack (stack.PopTop seat pile h below) o))
      → AllByRecursion (IsSo g s l caller) (recalls_of q)
  spends : PaysForTag pile h.tag (h.tag + 1) (Stack (stack.PopTop seat pile h below) o) q

-- a won pop from a stack that leads to q keeps the state sound
pop-leads-sound :
    (g : Geometry) (s : State) (caller : ℕ) (s' : State) (seat : SeatFields) (pile : Pile) (h : HeadFields) (below : ℕ) (o : Continuation) (q : Point)
    → PopLeads seat pile h below o q → IsSoundWithoutCounts g s → caller < g.callers → (s.errand caller).point ≡ Stack (stack.PopTop seat pile h below) o
    → s.word (head_name seat pile) ≡ head_word h → Step s caller s' → IsSoundWithoutCounts g s'
unfolding plan_point_of next_of event_of recalls_of
pop-leads-sound g s caller s' seat pile h below o q to sound has stands word step =
    let p : Point = Stack (stack.PopTop seat pile h below) o in
    let new : HeadFields = record { top = below; tag = h.tag + 1 } in
    let won : (s.word (head_name seat pile) == head_word h) ≡ true = eq-eqb (s.word (head_name seat pile)) (head_word h) word in
    shifts-sound g s caller s' p q seat pile new sound has stands
    (λ l old.
    let fit = fits-at g s l caller p old has stands in
    let class : seat.class < CLASSES = fit.point.0.seat.class in
    let before : head_of (s.word (head_name seat pile)) ≡ h = ap head_of word ∙ head_of-head_word h fit.point.0.head in
    let (next, rest) = recalled-at g s l caller p old has stands in
    let below_is : s.word (next_name pile (h.top - 1)) ≡ below = next (sym (ap (λ x. x.tag) before)) in
    let stacked : Stacked (next_in s.word pile) h.top (list_of l seat pile) =
    subst (λ x. Stacked (next_in s.word pile) x.top (list_of l seat pile)) before (pile-stacked g s l seat pile old.listed class) in
    let top : IsTopOf (next_in s.word pile) h.top (list_of l seat pile) =
    top-of (next_in s.word pile) h.top (list_of l seat pile) stacked fit.point.0.top.0 in
    let room : h.tag + 1 < 2 ^ HEAD_TAG_BITS = subst (λ x. x.tag + 1 < 2 ^ HEAD_TAG_BITS) before (tag-room g s seat pile sound class) in
    let fits : IsHead new = record { top = omega (arith, fit.point.1, limit-room g pile sound.checked); tag = room } in
    let uncut : popped_head h below ≡ new =
    ap (λ t. record { top = below; tag = t }) (mod-eq_of_lt {n = h.tag + 1} {m = 2 ^ HEAD_TAG_BITS} room) in
    let one : OneMore seat pile (h.top - 1) l (with_list l seat pile top.rest) = more-popped l seat pile (h.top - 1) top.rest top.whole in
    let exist : All (λ i. i < pile_limit g pile) ((h.top - 1) ∷ top.rest) =
    subst (All (λ i. i < pile_limit g pile)) top.whole (pile-exists g s l seat pile old.listed class) in
    let partly : pile ≡ Partials → All (λ d. IsPartlyUsed s d seat.class) ((h.top - 1) ∷ top.rest) =
    λ is. subst (All (λ d. IsPartlyUsed s d seat.class)) top.whole (list-partly g s l seat pile old class is) in (
      with_list l seat pile top.rest,
      record {
        leads = inl (rw won to.next);
        event = rw won refl;
        cleared = refl;
        head = refl;
        after = rw won (ap head_word uncut);
        goes =
            alike-goes g s l caller p q old has stands to.holds
            (keeps-more s seat pile (h.top - 1) (holds_of p) (holds_of q) to.more
            (λ is. All-head (λ d. IsPartlyUsed s d seat.class) (h.top - 1) top.rest (partly is)) (kept-at g s l caller p old has stands))
            (All-from_recursion (IsSo g s l caller) (recalls_of q) (to.recalls g s l caller (recalled-at g s l caller p old has stands)));
        list = record {
          fits = fits;
          listed = λ words' writes.
              listed-with g s l seat pile new top.rest words' old.listed fits writes
              (subst (λ b. Stacked (next_in s.word pile) b top.rest) below_is top.stacked)
              (All-tail (λ i. i < pile_limit g pile) (h.top - 1) top.rest exist);
          partly =
              partly-with s l seat pile top.rest old.kept.listed
              (λ is. All-tail (λ d. IsPartlyUsed s d seat.class) (h.top - 1) top.rest (partly is));
          tag = omega (arith, ap (λ (x : HeadFields). x.tag) before);
          still = λ same i. let bad : ⊥ = omega (arith, same, ap (λ (x : HeadFields). x.tag) before) in absurd bad;
          others = one.others;
        };
        balanced =
            more-balanced seat pile (h.top - 1) l (with_list l seat pile top.rest) (holds_of p) (holds_of q) class one to.more;
        credits = to.credits;
        waits = to.waits;
        spends = subst (λ (x : HeadFields). PaysForTag pile x.tag (h.tag + 1) p q) (sym before) to.spends;
      },
    )) step

-- the point to which a won pop leads: for a frame to a new superblock, for a partial superblock to its take or its look
abbrev popped_to : SeatFields → HeadFields → Continuation → Point
popped_to seat h (continuation.TakeFrame words d) =
    Block (block.LinkBlock (record { seat = seat; desc = d; frame = h.top - 1 }) 0) (continuation.Alloc words)
popped_to seat h (continuation.Alloc words) = Partial (partial.LoadTakenInfo seat (h.top - 1)) (continuation.Alloc words)
popped_to seat h o = Partial (partial.LoadListedAnchor seat (h.top - 1)) o

pop-leads :
    (seat : SeatFields) (pile : Pile) (h : HeadFields) (below : ℕ) (o : Continuation) → pops pile o ≡ true
    → PopLeads seat pile h below o (popped_to seat h o)
unfolding holds_of recalls_of
pop-leads seat Frames h below (continuation.TakeFrame words d) is = record {
  next = refl;
  holds = grind (arith);
  more = (refl, refl);
  credits = refl;
  waits = λ class. refl;
  recalls = λ g s l caller so. (λ i below. let bad : ⊥ = omega (arith, below) in absurd bad, tt);
  spends = omega arith;
}
pop-leads seat Partials h below (continuation.Alloc words) is = grind (arith)
pop-leads seat Partials h below continuation.Clear is = grind (arith)
pop-leads seat Partials h below (continuation.ClearSecond first) is = grind (arith)
pop-leads seat pile h below o is = absurd (cc)

-- a condition that holds is true
pub holds-true : (b : Bool) → IsTrue b → b ≡ true
holds-true b is = grind (arith, is)

-- a won pop from a stack keeps the state sound
pub pop_top_won-sound :
    (seat : SeatFields) (pile : Pile) (h : HeadFields) (below : ℕ) (o : Continuation)
    → KeepsSoundWhere (Stack (stack.PopTop seat pile h below) o) (λ s. s.word (head_name seat pile) ≡ head_word h)
pop_top_won-sound seat pile h below o g s caller s' sound has stands word step =
    let fit = fits-at g s sound.parts.0 caller (Stack (stack.PopTop seat pile h below) o) sound.parts.1 has stands in
    pop-leads-sound g s caller s' seat pile h below o (popped_to seat h o) (pop-leads seat pile h below o (holds-true (pops pile o) fit.goes))
    sound has stands word step

-- a pop from a stack, won or lost, keeps the state sound
pub pop_top-sound :
    (seat : SeatFields) (pile : Pile) (h : HeadFields) (below : ℕ) (o : Continuation) → KeepsSound (Stack (stack.PopTop seat pile h below) o)
pop_top-sound seat pile h below o =
    either-sound _ (head_name seat pile) (head_word h) (pop_top_won-sound seat pile h below o)
    (pop_top_lost-sound seat pile h below o)

-- the point to which a won push leads, and what the caller holds and remembers there
record PushLeads (seat : SeatFields) (pile : Pile) (i : ℕ) (h : HeadFields) (o : Continuation) (q : Point) : Type 0 where
  next : LeadsTo (put_away seat o) q
  holds : HoldsAlike (Stack (stack.PushTop seat pile i h) o) q
  more : HoldsMore seat pile i (holds_of q) (holds_of (Stack (stack.PushTop seat pile i h) o))
  credits : (holds_of q).credits ≡ (holds_of (Stack (stack.PushTop seat pile i h) o)).credits
  waits : (class : ℕ) → waits_in class q ≡ 0
  recalls :
      (g : Geometry) (s : State) (l : Lists) (caller : ℕ) → AllByRecursion (IsSo g s l caller) (continuation_recalls seat o)
      → AllByRecursion (IsSo g s l caller) (recalls_of q)

-- a turn that is no further back pays for a tag that stays
push-spends : (pile : Pile) (t : ℕ) (p q : Point) → TurnGoes p q → PaysForTag pile t t p q
push-spends Frames t p q goes = omega (arith, goes.unframed)
push-spends Partials t p q goes = omega (arith, goes.pops)

-- the head after a push of an index
abbrev pub head_pushed : ℕ → HeadFields → HeadFields
head_pushed i h = record { top = i + 1; tag = h.tag }

-- what a won push finds and leaves: its index in front of the list, which is one of the heap's
pub record PushesOn (g : Geometry) (s : State) (l : Lists) (caller : ℕ) (seat : SeatFields) (pile : Pile) (i : ℕ) (h : HeadFields)
    (o : Continuation) : Type 0 where
  pub won : (s.word (head_name seat pile) == head_word h) ≡ true
  pub class : seat.class < CLASSES
  pub before : head_of (s.word (head_name seat pile)) ≡ h
  pub uncut : pushed_head h i ≡ head_pushed i h
  pub one : OneMore seat pile i (with_list l seat pile (i ∷ list_of l seat pile)) l
  pub list :
      (pile ≡ Partials → IsPartlyUsed s i seat.class)
      → NewList g s l seat pile (head_pushed i h) (with_list l seat pile (i ∷ list_of l seat pile))
  pub so : AllByRecursion (IsSo g s l caller) (continuation_recalls seat o)

pub pushes-on :
    (g : Geometry) (s : State) (l : Lists) (caller : ℕ) (seat : SeatFields) (pile : Pile) (i : ℕ) (h : HeadFields) (o : Continuation)
    → IsSoundWithoutCounts g s → IsSoundWith g s l → caller < g.callers → (s.errand caller).point ≡ Stack (stack.PushTop seat pile i h) o
    → s.word (head_name seat pile) ≡ head_word h → PushesOn g s l caller seat pile i h o
unfolding recalls_of
pushes-on g s l caller seat pile i h o sound old has stands word =
    let p : Point = Stack (stack.PushTop seat pile i h) o in
    let new : HeadFields = head_pushed i h in
    let fit = fits-at g s l caller p old has stands in
    let class : seat.class < CLASSES = fit.point.0.seat.class in
    let before : head_of (s.word (head_name seat pile)) ≡ h = ap head_of word ∙ head_of-head_word h fit.point.1 in
    let (said, (exists, rest)) = recalled-at g s l caller p old has stands in
    let xs : List ℕ = list_of l seat pile in
    let stacked : Stacked (next_in s.word pile) h.top xs =
    subst (λ x. Stacked (next_in s.word pile) x.top xs) before (pile-stacked g s l seat pile old.listed class) in
    let longer : Stacked (next_in s.word pile) (i + 1) (i ∷ xs) =
    (refl, subst (λ t. Stacked (next_in s.word pile) t xs) (sym said.1) stacked) in
    let room : i + 1 < 2 ^ TOP_BITS = omega (arith, fit.point.0.index, limit-room g pile sound.checked) in
    let fits : IsHead new = record { top = room; tag = fit.point.1.tag } in
    record {
      won = eq-eqb (s.word (head_name seat pile)) (head_word h) word;
      class = class;
      before = before;
      uncut = ap (λ t. record { top = t; tag = h.tag }) (mod-eq_of_lt {n = i + 1} {m = 2 ^ TOP_BITS} room);
      one = more-pushed l seat pile i;
      list = λ its. record {
        fits = fits;
        listed = λ words' writes.
            listed-with g s l seat pile new (i ∷ xs) words' old.listed fits writes longer
            (All-cons (λ j. j < pile_limit g pile) i xs fit.point.0.index (pile-exists g s l seat pile old.listed class));
        partly =
            partly-with s l seat pile (i ∷ xs) old.kept.listed
            (λ is. All-cons (λ d. IsPartlyUsed s d seat.class) i xs (its is) (list-partly g s l seat pile old class is));
        tag = omega (arith, ap (λ (x : HeadFields). x.tag) before);
        still = λ same j. omega (arith, ap (occurs j) (more-pushed l seat pile i).here);
        others = list-elsewhere l seat pile (i ∷ xs);
      };
      so = rest;
    }

-- a won push onto a stack that leads to q keeps the state sound
push-leads-sound :
    (g : Geometry) (s : State) (caller : ℕ) (s' : State) (seat : SeatFields) (pile : Pile) (i : ℕ) (h : HeadFields) (o : Continuation) (q : Point)
    → PushLeads seat pile i h o q → IsSoundWithoutCounts g s → caller < g.callers → (s.errand caller).point ≡ Stack (stack.PushTop seat pile i h) o
    → s.word (head_name seat pile) ≡ head_word h → Step s caller s' → IsSoundWithoutCounts g s'
unfolding plan_point_of next_of event_of
push-leads-sound g s caller s' seat pile i h o q to sound has stands word step =
    let p : Point = Stack (stack.PushTop seat pile i h) o in
    shifts-sound g s caller s' p q seat pile (head_pushed i h) sound has stands
    (λ l old.
    let on = pushes-on g s l caller seat pile i h o sound old has stands word in
    let l' : Lists = with_list l seat pile (i ∷ list_of l seat pile) in
    let kept = kept-at g s l caller p old has stands in (
      l',
      record {
        leads = rw on.won to.next;
        event = rw on.won refl;
        cleared = refl;
        head = refl;
        after = rw on.won (ap head_word on.uncut);
        goes =
            alike-goes g s l caller p q old has stands to.holds (keeps-less s seat pile i (holds_of q) (holds_of p) to.more kept)
            (All-from_recursion (IsSo g s l caller) (recalls_of q) (to.recalls g s l caller on.so));
        list = on.list (in-hand s seat pile i (holds_of q) (holds_of p) to.more kept);
        balanced =
            balance-back l' l (holds_of q) (holds_of p) (more-balanced seat pile i l' l (holds_of q) (holds_of p) on.class on.one to.more);
        credits = to.credits;
        waits = to.waits;
        spends = subst (λ (x : HeadFields). PaysForTag pile x.tag h.tag p q) (sym on.before) (push-spends pile h.tag p q to.holds.blocks.turn);
      },
    )) step

-- the point to which a won push leads: by what waits behind, a block, a hazard word, the first of two, a slot or the end
abbrev pushed_to : SeatFields → Continuation → Point
pushed_to seat (continuation.GiveBlock words d frame k) = Block (block.StorePrefix (site_of seat d frame) k) (continuation.Alloc words)
pushed_to seat (continuation.Finish true) = Desc (desc.ClearHazard seat) continuation.EndFree
pushed_to seat (continuation.PushFirst first) = Stack (stack.LoadTopToPush seat Partials first) continuation.EndFree
pushed_to seat (continuation.Remove d heap) = Partial (partial.LoadHeldSlot seat d heap) continuation.Free
pushed_to seat o = Idle

-- whether nothing is retired after a push with this continuation
abbrev pub keeps_list : Continuation → Bool
keeps_list (continuation.Discard words d) = false
keeps_list (continuation.Retire d) = false
keeps_list o = true

push-leads :
    (seat : SeatFields) (pile : Pile) (i : ℕ) (h : HeadFields) (o : Continuation) → pushes pile o ≡ true → keeps_list o ≡ true
    → PushLeads seat pile i h o (pushed_to seat o)
unfolding holds_of recalls_of
push-leads seat Partials i h (continuation.GiveBlock words d frame k) is goes = grind (arith)
push-leads seat Partials i h (continuation.Finish true) is goes = grind (arith)
push-leads seat Partials i h (continuation.Finish false) is goes = grind (arith)
push-leads seat Partials i h continuation.EndFree is goes = grind (arith)
push-leads seat Partials i h (continuation.PushFirst first) is goes = grind (arith)
push-leads seat Frames i h (continuation.Remove d heap) is goes = grind (arith)
push-leads seat pile i h o is goes = absurd (cc)

-- a won push onto a stack, after which nothing is retired, keeps the state sound
pub push_going_on-sound :
    (g : Geometry) (s : State) (caller : ℕ) (s' : State) (seat : SeatFields) (pile : Pile) (i : ℕ) (h : HeadFields) (o : Continuation)
    → IsSoundWithoutCounts g s → caller < g.callers → (s.errand caller).point ≡ Stack (stack.PushTop seat pile i h) o → keeps_list o ≡ true
    → s.word (head_name seat pile) ≡ head_word h → Step s caller s' → IsSoundWithoutCounts g s'
push_going_on-sound g s caller s' seat pile i h o sound has stands goes word step =
    let fit = fits-at g s sound.parts.0 caller (Stack (stack.PushTop seat pile i h) o) sound.parts.1 has stands in
    push-leads-sound g s caller s' seat pile i h o (pushed_to seat o) (push-leads seat pile i h o (holds-true (pushes pile o) fit.goes) goes)
    sound has stands word step
