-- A won pop leaves each descriptor in one place, and as many out for each class.
use Rattle.std.proofs.Common.{ℕ, ◌≡◌, ◌<◌, ◌≤◌, ◌+◌, ◌-◌, List, [], arith, ap, sym, subst, inl, inr, ◌∙◌, ◌⊎◌, ◌==◌, if◌then◌else◌, nat_lt, lt-ltb}
use Rattle.std.proofs.lemmas.Bool.{cond-true, cases_Bool, ltb-true}
use Rattle.sound_state.proofs.Common.{Geometry, AnchorFields, Site, Share, Credit, LastCredit, Grant, ErrandFields, State, Kept, reserving, holds_before_pop, IsKept}
use Rattle.sound_state.proofs.Common.{full_keeps, Lists, IsSoundWith, stock_among, taken_off, popped_state, more_of, keep, IsActive, IsStocked}
use Rattle.packed_words.specs.declared.anchor.AnchorState.TheVariants as phase
use Rattle.sound_state.proofs.shared.KeptLemmas.{MovesAt, moved-kept, moved-stocked}
use Rattle.sound_state.proofs.shared.PointLemmas.{kept_places}
use Rattle.sound_state.proofs.pops.PopEffects.{Pops, popped_anchor, popped_holds}
use Rattle.sound_state.proofs.pops.PopFacts.{popped-info, popped-holds, popped-write}
use Rattle.sound_state.proofs.shared.SuperblocksStay.{StaysKept, state-goes, AreKept, keeps-none, keeps-one, kept-first}

-- a caller with this share keeps the descriptor: it takes the last credit, or is granted more than one block
abbrev IsReserving : Share → Type 0
IsReserving Credit = ⊥
IsReserving LastCredit = Unit {0}
IsReserving (Grant more) = 0 < more

-- a pop with this share makes the superblock FULL: it takes the last credit where no free block is left
abbrev IsFilled : Share → AnchorFields → Type 0
IsFilled Credit a = ⊥
IsFilled LastCredit a = a.count ≡ 0
IsFilled (Grant more) a = ⊥

state-stays : (share : Share) (a : AnchorFields) → IsFilled share a ⊎ (popped_state share a ≡ a.state)
state-stays share a = grind (arith)

-- a partial superblock's count stays at a pop, since nobody takes its last credit
count-stays :
    (share : Share) (a : AnchorFields) → (IsReserving share → a.state ≡ phase.Active) → a.state ≡ phase.Partial
    → a.count - taken_off share a ≡ a.count
count-stays share a active partial = grind (arith, active, partial)

-- a won pop leaves what the caller keeps, with what is FULL, in as many places, and out for as many classes
popped-kept-weighs :
    (at : Site) (share : Share) (a : AnchorFields) (d : ℕ) → (IsReserving share → a.state ≡ phase.Active)
    → kept_places d (popped_holds at a.avail (more_of share a)).kept + (if at.desc == d then full_keeps (popped_state share a) else 0)
    ≡ kept_places d (holds_before_pop at.desc at.seat.class share).kept + (if at.desc == d then full_keeps a.state else 0)
popped-kept-weighs at share a d active = grind (arith, active)

popped-stock-weighs :
    (at : Site) (share : Share) (a : AnchorFields) (c : ℕ) → (IsReserving share → a.state ≡ phase.Active)
    → stock_among c (popped_holds at a.avail (more_of share a)).kept + (if at.seat.class == c then full_keeps (popped_state share a) else 0)
    ≡ stock_among c (holds_before_pop at.desc at.seat.class share).kept + (if at.seat.class == c then full_keeps a.state else 0)
popped-stock-weighs at share a c active = grind (arith, active)

-- no more blocks are free after a pop than before, and none where it makes its superblock FULL
count-less : (share : Share) (a : AnchorFields) → a.count - taken_off share a ≤ a.count
count-less share a = omega arith

count-bare : (share : Share) (a : AnchorFields) → IsFilled share a → a.count - taken_off share a ≡ 0
count-bare share a filled = grind (arith, filled)

-- a caller that keeps the descriptor of its pop keeps it ACTIVE
reserving-active : (s : State) (d c : ℕ) (share : Share) → AreKept s (holds_before_pop d c share).kept → IsReserving share → IsActive s d c
reserving-active s d c Credit all is = elim is [ ]
reserving-active s d c LastCredit all is = kept-first s d c reserving all
reserving-active s d c (Grant more) all is =
    let kept : (holds_before_pop d c (Grant more)).kept ≡ keep d c reserving = cond-true {A = List Kept} (nat_lt 0 more) (keep d c reserving) [] (lt-ltb 0 more is) in
    kept-first s d c reserving (subst (AreKept s) kept all)

filled-keeps : (d c : ℕ) (share : Share) (a : AnchorFields) → IsFilled share a → 1 ≤ kept_places d (holds_before_pop d c share).kept
filled-keeps d c share a filled = grind (arith, filled)

-- what the caller keeps after its pop is ACTIVE
more-reserving : (share : Share) (a : AnchorFields) → 0 < more_of share a → IsReserving share
more-reserving share a more = grind (arith, more)

more-stays : (share : Share) (a : AnchorFields) → 0 < more_of share a → popped_state share a ≡ a.state
more-stays share a more = grind (arith, more)

popped-keeps : (s : State) (at : Site) (i more : ℕ) → (0 < more → IsActive s at.desc at.seat.class) → AreKept s (popped_holds at i more).kept
popped-keeps s at i more active =
    elim (cases_Bool (nat_lt 0 more)) [
      | inl some ↦ rw some (keeps-one s at.desc at.seat.class reserving (active (ltb-true 0 more some)))
      | inr none ↦ rw none (keeps-none s)
    ]

module _
    {g : Geometry} {s : State} {l : Lists} {caller : ℕ} {at : Site} {share : Share} {a : AnchorFields} {link words : ℕ} {e : ErrandFields}
    {s' : State} (h : Pops g s l caller at share a link words e s') where
  popped-active : IsKept g s l → IsReserving share → a.state ≡ phase.Active
  popped-active kept is =
      ap (λ x. x.state) (sym h.before)
      ∙ (reserving-active s at.desc at.seat.class share
      (subst (λ x. AreKept s x.kept) h.holds_before (kept.errand caller h.in_heap)) is).state

  popped-own : IsKept g s l → AreKept s' (popped_holds at a.avail (more_of share a)).kept
  popped-own kept =
      popped-keeps s' at a.avail (more_of share a)
      (λ more. record {
        class = ap (λ x. x.class) (popped-info h at.desc) ∙ h.located.class;
        state = ap (λ x. x.state) h.after ∙ more-stays share a more ∙ popped-active kept (more-reserving share a more);
      })

  -- a pop leaves the superblock in its state, or fills one that its caller alone keeps
  popped-goes :
      IsKept g s l
      → StaysKept s s' at.desc
      ⊎ ((1 ≤ kept_places at.desc (holds_before_pop at.desc at.seat.class share).kept)
      × ((popped_anchor share a link).state ≡ phase.Full → (popped_anchor share a link).count ≡ 0))
  popped-goes kept =
      elim (state-stays share a) [
        | inl filled ↦
            inr (filled-keeps at.desc at.seat.class share a filled, λ full. count-bare share a filled)
        | inr stays ↦
            inl
            (state-goes s s' at.desc (popped-info h at.desc)
            (ap (λ x. x.state) h.after ∙ stays ∙ ap (λ x. x.state) (sym h.before))
            (λ partial some.
            let same = count-stays share a (popped-active kept) (ap (λ x. x.state) (sym h.before) ∙ partial) in
            omega (arith, some, same, ap (λ x. x.count) h.after, ap (λ x. x.count) h.before))
            (λ full. omega (arith, ap (λ x. x.count) h.after, ap (λ x. x.count) h.before, count-less share a)))
      ]

  pops-move :
      IsKept g s l
      → MovesAt g s l caller at.desc at.seat.class (holds_before_pop at.desc at.seat.class share) (popped_holds at a.avail (more_of share a)) a
      (popped_anchor share a link) e s'
  pops-move kept = record {
    holds = popped-holds h;
    write = popped-write h;
    exists = h.site.desc;
    class = h.located.class;
    before = h.before;
    after = h.after;
    places = λ d. popped-kept-weighs at share a d (popped-active kept);
    goes = popped-goes kept;
  }

  pub popped-kept : IsSoundWith g s l → IsKept g s' l
  popped-kept sound = moved-kept (pops-move sound.kept) (popped-own sound.kept) sound.kept

  pub popped-stocked : IsSoundWith g s l → IsStocked g s' l
  popped-stocked sound =
      moved-stocked (pops-move sound.kept) (λ class. popped-stock-weighs at share a class (popped-active sound.kept)) h.stands_before.quiet.waits
      h.stands_after.quiet.waits sound.stocked
