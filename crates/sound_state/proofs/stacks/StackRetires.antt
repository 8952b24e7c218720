-- A won push onto a stack after which a descriptor is retired.
use Rattle.std.proofs.Common.{ℕ, true, false, None, ◌≡◌, ◌<◌, ◌≤◌, ◌+◌, [], ◌∷◌, ◌++◌, length, refl, arith, ap, sym, subst, inl, inr, ◌∙◌, ◌==◌, ◌⊎◌, All, Any, IsTrue}
use Rattle.std.proofs.Common.{if◌then◌else◌, eq-eqb, leb-true, ne_eqb, length-append}
use Rattle.std.proofs.lemmas.Bool.{cases_eq, cond-false, cases_Bool}
use Rattle.std.proofs.lemmas.List.Elements.{All-append, All-nil, All-cons, All-head}
use Rattle.sound_state.proofs.Common.{Geometry, HeadFields, head_of, WordName, SeatFields, Writes, Pile, Frames, Partials, head_name, Retire, Continuation, Point, Idle}
use Rattle.sound_state.proofs.Common.{Block, Stack, Found, name_of, after_action, cases_name, occurs, ErrandFields, settle_of, course_of, raised, counts_lost}
use Rattle.sound_state.proofs.Common.{counts_cleared, spare_of, event_of, next_of, plan_point_of, State, Step, found_at, Status, holds_of, waiting, partly_used, on_its_way}
use Rattle.sound_state.proofs.Common.{IsHazard, anchor_for, kept_among, reserved_among, IsKeptAs, IsWithout, Lists, IsSo, recalls_of, IsSoundWithoutCounts, IsSoundWith}
use Rattle.sound_state.proofs.Common.{stock_among, IsHead, head_word, head_of-head_word, plan_of, one_more, is_full, is_spent, scan_begins, counts_won, pushes, clear, keep}
use Rattle.sound_state.proofs.Common.{continuation_holds, list_of}
use Rattle.word_table.specs.declared.name.WordName.TheVariants as name
use Rattle.step_parts.specs.declared.superblock.point.BlockPoint.TheVariants as block
use Rattle.step_parts.specs.declared.stack.point.StackPoint.TheVariants as stack
use Rattle.errand_steps.specs.declared.continuation.Continuation.TheVariants as continuation
use Rattle.packed_words.specs.declared.anchor.AnchorState.TheVariants as phase
use Rattle.sound_state.proofs.shared.ListFacts.{occurs-push}
use Rattle.sound_state.proofs.shared.PointLemmas.{kept_places, fits-at, kept-at, hazard-at}
use Rattle.sound_state.proofs.quiet.QuietStacks.{push_top_lost-sound}
use Rattle.sound_state.proofs.shared.SuperblocksStay.{AreKept}
use Rattle.sound_state.proofs.stacks.StackSteps.{head_pushed, pushes-on, keeps-less, in-hand, holds-true, push_going_on-sound}
use Rattle.sound_state.proofs.stacks.StackShifts.{Exchanges, ErrandsBalanced, exchanges-sound, HoldsMore, Balanced, with_list, more-balanced, balance-back}
use Rattle.sound_state.proofs.shared.StepLemmas.{raised-least, found_from}
use Rattle.sound_state.proofs.shared.KeepsSound.{KeepsSound, KeepsSoundWhere, either-sound}
use Rattle.sound_state.proofs.shared.NothingLemmas.{nothing-stands, resumes-counts, TurnResumes, active-nothing, idle-nothing, scan-nothing, nothing-guards, HoldsNothing}
use Rattle.sound_state.proofs.shared.TurnEffects.{own-counts}

-- the errand of a caller after a step that retires d, with so many turns
abbrev retired_in_turn : ErrandFields → Found → ℕ → Point → ℕ → ErrandFields
retired_in_turn e x d q t =
    record e {
      point = q;
      retired = e.retired ++ d ∷ [];
      turns = t;
      won = raised (counts_won (plan_of e) x) e.won;
      lost = raised (counts_lost e.point x) e.lost;
      cleared = raised (counts_cleared e.point x) e.cleared;
    }

-- a retirement begins a scan where the list is full; else the call ends, or goes on with a turn where the caller has one left
settle-full-in-turn :
    (e : ErrandFields) (x : Found) (seat : SeatFields) (d : ℕ) (o : Continuation) → next_of e.point x ≡ Retire seat d o → is_full e ≡ true
    → settle_of e x ≡ retired_in_turn e x d (scan_begins seat o) e.turns
unfolding settle_of course_of
settle-full-in-turn e x seat d o is full = rw (is, full) refl

settle-ends :
    (e : ErrandFields) (x : Found) (seat : SeatFields) (d : ℕ) → next_of e.point x ≡ Retire seat d continuation.EndFree → is_full e ≡ false
    → settle_of e x ≡ retired_in_turn e x d Idle e.turns
unfolding settle_of course_of
settle-ends e x seat d is full = rw (is, full) refl

settle-spent :
    (e : ErrandFields) (x : Found) (seat : SeatFields) (d words : ℕ) → next_of e.point x ≡ Retire seat d (continuation.Turn words)
    → is_full e ≡ false → is_spent e ≡ true → settle_of e x ≡ retired_in_turn e x d Idle e.turns
unfolding settle_of course_of
settle-spent e x seat d words is full spent = rw (is, full, spent) refl

settle-turns :
    (e : ErrandFields) (x : Found) (seat : SeatFields) (d words : ℕ) → next_of e.point x ≡ Retire seat d (continuation.Turn words)
    → is_full e ≡ false → is_spent e ≡ false
    → settle_of e x ≡ retired_in_turn e x d (Block (block.LoadActive seat) (continuation.Alloc words)) (one_more e.turns)
unfolding settle_of course_of
settle-turns e x seat d words is full left = rw (is, full, left) refl

-- a descriptor that may be retired: it was on its way, or kept as a partly used one that is EMPTY
abbrev MayRetire : State → Status → ℕ → Type 0
MayRetire s status d = (status ≡ on_its_way) ⊎ ((status ≡ partly_used) × ((anchor_for s d).state ≡ phase.Empty))

retire-places : (s : State) (status : Status) (d x class : ℕ) → MayRetire s status d → kept_places x (keep d class status) ≡ (if d == x then 1 else 0)
retire-places s status d x class (inl is) = rw is (grind (arith))
retire-places s status d x class (inr is) = rw (is.0) (grind (arith))

retire-waits : (s : State) (status : Status) (d x class : ℕ) → MayRetire s status d → kept_among waiting x (keep d class status) ≡ 0
retire-waits s status d x class (inl is) = rw is (grind (arith))
retire-waits s status d x class (inr is) = rw (is.0) (grind (arith))

way-one : (d x class : ℕ) → kept_among on_its_way x (keep d class on_its_way) ≡ (if d == x then 1 else 0)
way-one d x class = grind (arith)

way-none : (d x class : ℕ) → kept_among on_its_way x (keep d class partly_used) ≡ 0
way-none d x class = grind (arith)

-- what is away after a retirement, where the retired descriptor was on its way or its superblock is EMPTY
retire-away :
    (s : State) (status : Status) (d x class old new : ℕ) → MayRetire s status d
    → new ≡ old + (if d == x then 1 else 0)
    → (new ≡ old + kept_among on_its_way x (keep d class status))
    ⊎ (((anchor_for s x).state ≡ phase.Empty) × (old + kept_among on_its_way x (keep d class status) ≤ new))
retire-away s status d x class old new (inl is) added =
    inl (rw is (omega (arith, added, way-one d x class)))
retire-away s status d x class old new (inr is) added =
    elim (cases_eq d x) [
      | inl same ↦ inr (subst (λ y. (anchor_for s y).state ≡ phase.Empty) same is.1, rw (is.0) (omega (arith, added, way-none d x class)))
      | inr differ ↦
          inl (rw (is.0) (omega (arith, added, way-none d x class, cond-false {A = ℕ} (d == x) 1 0 (ne_eqb d x differ))))
    ]

without-retired : (s : State) (status : Status) (d class : ℕ) → MayRetire s status d → IsKeptAs s status d class → IsWithout s d
without-retired s status d class (inl is) kept = subst (λ x. IsKeptAs s x d class) is kept
without-retired s status d class (inr is) kept = inr is.1

-- each head's tag stays after a write of a head with the same tag
tag-stays :
    (words words' : WordName → ℕ) (n m : WordName) (new : HeadFields) → IsHead new → Writes words n (head_word new) words'
    → (head_of (words n)).tag ≡ new.tag → (head_of (words' m)).tag ≡ (head_of (words m)).tag
tag-stays words words' n m new fits writes same = grind (arith, fits, writes, same, cases_name, head_of, head_of-head_word)

-- a push that goes on with a retirement of d holds nothing but d, and the index that isn't on the stack yet
record RetiresOff (seat : SeatFields) (pile : Pile) (i : ℕ) (h : HeadFields) (o : Continuation) (d : ℕ) (status : Status) : Type 0 where
  more : HoldsMore seat pile i (continuation_holds seat o) (holds_of (Stack (stack.PushTop seat pile i h) o))
  kept : (continuation_holds seat o).kept ≡ keep d seat.class status
  frames : (continuation_holds seat o).frames ≡ []
  credits : (holds_of (Stack (stack.PushTop seat pile i h) o)).credits ≡ []
  hands : (holds_of (Stack (stack.PushTop seat pile i h) o)).hands ≡ []
  frees : (holds_of (Stack (stack.PushTop seat pile i h) o)).frees ≡ []
  hazard : (holds_of (Stack (stack.PushTop seat pile i h) o)).hazard ≡ clear

discard-off :
    (seat : SeatFields) (i : ℕ) (h : HeadFields) (words d : ℕ) → RetiresOff seat Frames i h (continuation.Discard words d) d on_its_way
unfolding holds_of
discard-off seat i h words d = grind (arith)

retire-off : (seat : SeatFields) (i : ℕ) (h : HeadFields) (d : ℕ) → RetiresOff seat Partials i h (continuation.Retire d) d partly_used
unfolding holds_of
retire-off seat i h d = grind (arith)

-- a caller that has retired d goes on at the point, with so many turns, and stands bare there
record RetiresBare (g : Geometry) (s : State) (caller : ℕ) (p : Point) (d : ℕ) (q : Point) (t : ℕ) : Type 0 where
  settles : settle_of (s.errand caller) (found_at s caller) ≡ retired_in_turn (s.errand caller) (found_at s caller) d q t
  bare : HoldsNothing q
  recalls : recalls_of q ≡ []
  full : spare_of q ≡ 1 → length (s.errand caller).retired ≡ g.callers
  turns : TurnResumes p q (s.errand caller).turns t

-- some lists, errand and exchange with which a won push retires a descriptor
abbrev Retired : Geometry → State → Lists → ℕ → SeatFields → Pile → ℕ → HeadFields → Type 0
Retired g s l caller seat pile i h =
    (e : ErrandFields) × Exchanges g s l caller seat pile (head_pushed i h) e (with_list l seat pile (i ∷ list_of l seat pile))

push-exchanges :
    (g : Geometry) (s : State) (l : Lists) (caller : ℕ) (seat : SeatFields) (pile : Pile) (i : ℕ) (h : HeadFields) (o : Continuation)
    (d : ℕ) (status : Status) → IsSoundWithoutCounts g s → IsSoundWith g s l → caller < g.callers
    → (s.errand caller).point ≡ Stack (stack.PushTop seat pile i h) o → s.word (head_name seat pile) ≡ head_word h
    → RetiresOff seat pile i h o d status → MayRetire s status d → (q : Point) (t : ℕ)
    → RetiresBare g s caller (Stack (stack.PushTop seat pile i h) o) d q t → Retired g s l caller seat pile i h
unfolding plan_point_of event_of
push-exchanges g s l caller seat pile i h o d status sound old has stands word off may q t r =
    let p : Point = Stack (stack.PushTop seat pile i h) o in
    let a : ErrandFields = s.errand caller in
    let x : Found = found_at s caller in
    let e : ErrandFields = retired_in_turn a x d q t in
    let on = pushes-on g s l caller seat pile i h o sound old has stands word in
    let l' : Lists = with_list l seat pile (i ∷ list_of l seat pile) in
    let b : Balanced l l' (holds_of p) (continuation_holds seat o) =
    balance-back l' l (continuation_holds seat o) (holds_of p)
    (more-balanced seat pile i l' l (continuation_holds seat o) (holds_of p) on.class on.one off.more) in
    let kept = kept-at g s l caller p old has stands in
    let keeps : IsKeptAs s status d seat.class =
    All-head (λ k. IsKeptAs s k.status k.desc k.class) (record { desc = d; class = seat.class; status = status }) []
    (subst (AreKept s) off.kept (keeps-less s seat pile i (continuation_holds seat o) (holds_of p) off.more kept)) in
    let own = old.formed.errands caller has in
    let lost : a.lost ≤ e.lost = raised-least (counts_lost a.point x) a.lost own.lost in
    let list = on.list (in-hand s seat pile i (continuation_holds seat o) (holds_of p) off.more kept) in
    let tag : (head_of (s.word (head_name seat pile))).tag ≡ h.tag = ap (λ (y : HeadFields). y.tag) on.before in
    let turns : TurnResumes a.point q a.turns t = subst (λ z. TurnResumes z q a.turns t) (sym stands) r.turns in
    let bare : s.word (name.Hazard caller) ≡ 0 =
    subst (λ z. IsHazard z (s.word (name.Hazard caller))) off.hazard (hazard-at g s l caller p old has stands) in
    let places = λ (y : ℕ). ap (kept_places y) off.kept ∙ retire-places s status d y seat.class may in
    let added = λ (y : ℕ). occurs-push y d a.retired in
    let old_kept : (holds_of a.point).kept ≡ (holds_of p).kept = ap (λ z. (holds_of z).kept) stands in
    let balanced : ErrandsBalanced g s l l' a e = record {
      available = b.available;
      reserves = λ y. ap (reserved_among y) (ap (λ z. z.credits) r.bare.holds ∙ sym (ap (λ z. (holds_of z).credits) stands ∙ off.credits));
      waits = λ y.
          ap (λ z. kept_among waiting y z.kept) r.bare.holds
          ∙ sym (ap (kept_among waiting y) old_kept ∙ sym (b.waits y) ∙ ap (kept_among waiting y) off.kept ∙ retire-waits s status d y seat.class may);
      ways = λ y. omega (arith, ap (λ z. kept_among on_its_way y z.kept) r.bare.holds);
      away = λ y.
          let was : kept_among on_its_way y (holds_of a.point).kept ≡ kept_among on_its_way y (keep d seat.class status) =
          ap (kept_among on_its_way y) old_kept ∙ sym (b.ways y) ∙ ap (kept_among on_its_way y) off.kept in
          let none = ap (λ z. kept_among on_its_way y z.kept) r.bare.holds in
          elim (retire-away s status d y seat.class (occurs y a.retired) (occurs y (a.retired ++ d ∷ [])) may (added y)) [
            | inl same ↦ inl (omega (arith, same, was, none))
            | inr grown ↦ inr (grown.0, omega (arith, grown.1, was, none))
          ];
      frames = λ f.
          omega (arith, b.frames f, ap (occurs f) off.frames, ap (λ z. occurs f z.frames) r.bare.holds, ap (λ z. occurs f (holds_of z).frames) stands);
      places = λ y. omega (arith, b.places y, places y, added y, ap (λ z. kept_places y z.kept) r.bare.holds, ap (kept_places y) old_kept);
      stock = λ c.
          omega (arith, b.stock c, ap (λ z. stock_among c z.kept) r.bare.holds, ap (stock_among c) old_kept, r.bare.waits c);
    } in (
      e,
      record {
        event = subst (λ z. event_of caller z (found_from s z) ≡ None) (sym stands) (rw on.won refl);
        head = ap (λ z. name_of (plan_point_of z)) stands;
        after =
            subst (λ z. after_action (plan_point_of z) (s.word (name_of (plan_point_of z))) ≡ head_word (head_pushed i h)) (sym stands)
            (rw on.won (ap head_word on.uncut));
        settles = r.settles;
        may =
            nothing-stands g s l caller e r.bare
            (All-append (IsWithout s) a.retired (d ∷ []) (old.kept.retired caller has)
            (All-cons (IsWithout s) d [] (without-retired s status d seat.class may keeps) (All-nil (IsWithout s))))
            (λ spare. omega (arith, length-append a.retired (d ∷ []), r.full spare)) (subst (All (IsSo g s l caller)) (sym r.recalls) (All-nil (IsSo g s l caller)));
        guards = nothing-guards g s caller q e.retired (s.word (name.Hazard caller)) r.bare bare;
        excepts = λ place excepted.
            elim excepted [
              | inl y ↦
                  inl
                  (subst (λ bs. Any (λ z. z.place ≡ place) bs) (ap (λ z. (holds_of z).hands) stands ∙ off.hands ∙ sym (ap (λ z. z.hands) r.bare.holds)) y)
              | inr y ↦
                  inr
                  (subst (λ bs. Any (λ z. (z.place ≡ place) × IsTrue z.overwritten) bs)
                  (ap (λ z. (holds_of z).frees) stands ∙ off.frees ∙ sym (ap (λ z. z.frees) r.bare.holds)) y)
            ];
        counts = resumes-counts caller s.history a e (own-counts g s l caller old.turned has) lost turns;
        cleared = ap (λ z. raised (counts_cleared z x) a.cleared) stands;
        list = list;
        balanced = balanced;
        frame_turns = λ words' writes.
            omega (arith, tag-stays s.word words' (head_name seat pile) name.FrameHead (head_pushed i h) list.fits writes tag, turns.unframed);
        list_turns = λ c words' writes.
            omega (arith, tag-stays s.word words' (head_name seat pile) (name.ListHead c) (head_pushed i h) list.fits writes tag, turns.pops);
      },
    )

-- a list with no room has as many entries as the heap has callers
full-list :
    (g : Geometry) (s : State) (l : Lists) (caller : ℕ) (p : Point) → IsSoundWith g s l → caller < g.callers → (s.errand caller).point ≡ p
    → spare_of p ≡ 0 → is_full (s.errand caller) ≡ true → length (s.errand caller).retired ≡ g.callers
full-list g s l caller p old has stands spare full = grind (arith, old, has, stands, spare, full, leb-true, spare_of)

-- a caller that has a turn left may count one more
one-more-turn :
    (g : Geometry) (s : State) (l : Lists) (caller : ℕ) → IsSoundWith g s l → caller < g.callers → is_spent (s.errand caller) ≡ false
    → one_more (s.errand caller).turns ≡ (s.errand caller).turns + 1
one-more-turn g s l caller old has left = grind (arith, old, has)

-- the won push of a frame, after which the descriptor of a superblock that wasn't needed is retired
discard-exchanges :
    (g : Geometry) (s : State) (l : Lists) (caller : ℕ) (seat : SeatFields) (i : ℕ) (h : HeadFields) (words d : ℕ) → IsSoundWithoutCounts g s
    → IsSoundWith g s l → caller < g.callers → (s.errand caller).point ≡ Stack (stack.PushTop seat Frames i h) (continuation.Discard words d)
    → s.word name.FrameHead ≡ head_word h
    → Retired g s l caller seat Frames i h
unfolding plan_point_of next_of holds_of recalls_of
discard-exchanges g s l caller seat i h words d sound old has stands word =
    let p : Point = Stack (stack.PushTop seat Frames i h) (continuation.Discard words d) in
    let a : ErrandFields = s.errand caller in
    let x : Found = found_at s caller in
    let won : (s.word name.FrameHead == head_word h) ≡ true = eq-eqb (s.word name.FrameHead) (head_word h) word in
    let next : next_of a.point x ≡ Retire seat d (continuation.Turn words) =
    subst (λ z. next_of z (found_from s z) ≡ Retire seat d (continuation.Turn words)) (sym stands) (rw won refl) in
    let retires =
    push-exchanges g s l caller seat Frames i h (continuation.Discard words d) d on_its_way sound old has stands word (discard-off seat i h words d) (inl refl) in
    elim (cases_Bool (is_full a)) [
      | inl full ↦
          retires (scan_begins seat (continuation.Turn words)) a.turns
          (record {
            settles = settle-full-in-turn a x seat d (continuation.Turn words) next full;
            bare = scan-nothing seat (continuation.Turn words);
            recalls = refl;
            full = λ spare. full-list g s l caller p old has stands refl full;
            turns = grind (arith);
          })
      | inr few ↦
          elim (cases_Bool (is_spent a)) [
            | inl spent ↦
                retires Idle a.turns
                (record {
                  settles = settle-spent a x seat d words next few spent;
                  bare = idle-nothing;
                  recalls = refl;
                  full = λ spare. absurd (omega (arith, spare));
                  turns = grind (arith);
                })
            | inr left ↦
                let more_turns : one_more a.turns ≡ a.turns + 1 = one-more-turn g s l caller old has left in
                retires (Block (block.LoadActive seat) (continuation.Alloc words)) (one_more a.turns)
                (record {
                  settles = settle-turns a x seat d words next few left;
                  bare = active-nothing seat (continuation.Alloc words);
                  recalls = refl;
                  full = λ spare. absurd (omega (arith, spare));
                  turns = grind (arith, more_turns);
                })
          ]
    ]

pub push_discard_won-sound :
    (seat : SeatFields) (i : ℕ) (h : HeadFields) (words d : ℕ)
    → KeepsSoundWhere (Stack (stack.PushTop seat Frames i h) (continuation.Discard words d)) (λ s. s.word name.FrameHead ≡ head_word h)
push_discard_won-sound seat i h words d g s caller s' sound has stands word step =
    exchanges-sound g s caller s' seat Frames (head_pushed i h) sound has
    (λ l old.
    let to = discard-exchanges g s l caller seat i h words d sound old has stands word in
    (with_list l seat Frames (i ∷ list_of l seat Frames), to.0, to.1)) step

-- the won push of a partial superblock, after which the one that was EMPTY is retired
retire-exchanges :
    (g : Geometry) (s : State) (l : Lists) (caller : ℕ) (seat : SeatFields) (i : ℕ) (h : HeadFields) (d : ℕ) → IsSoundWithoutCounts g s
    → IsSoundWith g s l → caller < g.callers → (s.errand caller).point ≡ Stack (stack.PushTop seat Partials i h) (continuation.Retire d)
    → s.word (name.ListHead seat.class) ≡ head_word h
    → Retired g s l caller seat Partials i h
unfolding plan_point_of next_of holds_of recalls_of
retire-exchanges g s l caller seat i h d sound old has stands word =
    let p : Point = Stack (stack.PushTop seat Partials i h) (continuation.Retire d) in
    let a : ErrandFields = s.errand caller in
    let x : Found = found_at s caller in
    let won : (s.word (name.ListHead seat.class) == head_word h) ≡ true = eq-eqb (s.word (name.ListHead seat.class)) (head_word h) word in
    let next : next_of a.point x ≡ Retire seat d continuation.EndFree =
    subst (λ z. next_of z (found_from s z) ≡ Retire seat d continuation.EndFree) (sym stands) (rw won refl) in
    let (is, none) = (pushes-on g s l caller seat Partials i h (continuation.Retire d) sound old has stands word).so in
    let retires =
    push-exchanges g s l caller seat Partials i h (continuation.Retire d) d partly_used sound old has stands word (retire-off seat i h d) (inr (refl, is.state)) in
    elim (cases_Bool (is_full a)) [
      | inl full ↦
          retires (scan_begins seat continuation.EndFree) a.turns
          (record {
            settles = settle-full-in-turn a x seat d continuation.EndFree next full;
            bare = scan-nothing seat continuation.EndFree;
            recalls = refl;
            full = λ spare. full-list g s l caller p old has stands refl full;
            turns = grind (arith);
          })
      | inr few ↦
          retires Idle a.turns
          (record {
            settles = settle-ends a x seat d next few;
            bare = idle-nothing;
            recalls = refl;
            full = λ spare. absurd (omega (arith, spare));
            turns = grind (arith);
          })
    ]

pub push_retire_won-sound :
    (seat : SeatFields) (i : ℕ) (h : HeadFields) (d : ℕ)
    → KeepsSoundWhere (Stack (stack.PushTop seat Partials i h) (continuation.Retire d)) (λ s. s.word (name.ListHead seat.class) ≡ head_word h)
push_retire_won-sound seat i h d g s caller s' sound has stands word step =
    exchanges-sound g s caller s' seat Partials (head_pushed i h) sound has
    (λ l old.
    let to = retire-exchanges g s l caller seat i h d sound old has stands word in
    (with_list l seat Partials (i ∷ list_of l seat Partials), to.0, to.1)) step

-- a won push of what is given back keeps the state sound: a frame's descriptor or an EMPTY superblock's is retired, or nothing
push-top-won :
    (g : Geometry) (s : State) (caller : ℕ) (s' : State) (seat : SeatFields) (pile : Pile) (i : ℕ) (h : HeadFields) (o : Continuation)
    → pushes pile o ≡ true → IsSoundWithoutCounts g s → caller < g.callers → (s.errand caller).point ≡ Stack (stack.PushTop seat pile i h) o
    → s.word (head_name seat pile) ≡ head_word h → Step s caller s' → IsSoundWithoutCounts g s'
push-top-won g s caller s' seat Frames i h (continuation.Discard words d) is sound has stands word step =
    push_discard_won-sound seat i h words d g s caller s' sound has stands word step
push-top-won g s caller s' seat Partials i h (continuation.Retire d) is sound has stands word step =
    push_retire_won-sound seat i h d g s caller s' sound has stands word step
push-top-won g s caller s' seat Partials i h (continuation.Discard words d) is sound has stands word step = absurd (cc)
push-top-won g s caller s' seat Frames i h (continuation.Retire d) is sound has stands word step = absurd (cc)
push-top-won g s caller s' seat pile i h o is sound has stands word step =
    push_going_on-sound g s caller s' seat pile i h o sound has stands refl word step

-- a won push onto a stack keeps the state sound
pub push_top_won-sound :
    (seat : SeatFields) (pile : Pile) (i : ℕ) (h : HeadFields) (o : Continuation)
    → KeepsSoundWhere (Stack (stack.PushTop seat pile i h) o) (λ s. s.word (head_name seat pile) ≡ head_word h)
push_top_won-sound seat pile i h o g s caller s' sound has stands word step =
    let fit = fits-at g s sound.parts.0 caller (Stack (stack.PushTop seat pile i h) o) sound.parts.1 has stands in
    push-top-won g s caller s' seat pile i h o (holds-true (pushes pile o) fit.goes) sound has stands word step

-- a push onto a stack, won or lost, keeps the state sound
pub push_top-sound :
    (seat : SeatFields) (pile : Pile) (i : ℕ) (h : HeadFields) (o : Continuation) → KeepsSound (Stack (stack.PushTop seat pile i h) o)
push_top-sound seat pile i h o =
    either-sound _ (head_name seat pile) (head_word h) (push_top_won-sound seat pile i h o)
    (push_top_lost-sound seat pile i h o)
