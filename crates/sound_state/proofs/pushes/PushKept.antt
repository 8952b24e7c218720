-- A won push leaves each descriptor in one place, and as many out for each class.
use Rattle.std.proofs.Common.{ℕ, Bool, ◌≡◌, ◌≢◌, ◌+◌, arith, ap, sym, inl, inr, ◌∙◌, ◌==◌, if◌then◌else◌}
use Rattle.sound_state.proofs.Common.{Geometry, AnchorFields, Site, ErrandFields, State, IsKept, IsPartlyUsed, full_keeps, Lists, IsSoundWith, stock_among, anchor_for}
use Rattle.sound_state.proofs.Common.{block_count_of-least, IsStocked, if_stored}
use Rattle.packed_words.specs.declared.anchor.AnchorState.{AnchorState as Phase}
use Rattle.packed_words.specs.declared.anchor.AnchorState.TheVariants as phase
use Rattle.sound_state.proofs.shared.ActiveReserves.{active-reserves}
use Rattle.sound_state.proofs.shared.KeptLemmas.{MovesAt, moved-kept, moved-stocked}
use Rattle.sound_state.proofs.shared.PointLemmas.{kept_places}
use Rattle.sound_state.proofs.pushes.PushEffects.{Outcome, stays, unfills, empties, IsOutcome, Pushes, pushed_anchor, pushed_holds}
use Rattle.sound_state.proofs.pushes.PushFacts.{pushed-info, pushed-bare, pushed-holds, pushed-write}
use Rattle.sound_state.proofs.shared.SuperblocksStay.{StaysKept, state-goes, AreKept, keeps-none, keeps-one}
use Rattle.errand_steps.specs.tables.Blocks.{pushing}

module _
    {g : Geometry} {s : State} {l : Lists} {caller : ℕ} {at : Site} {i : ℕ} {stored : Bool} {a : AnchorFields} {e : ErrandFields} {s' : State} where
  -- a superblock that a push makes EMPTY was partial
  emptied-inactive : Pushes g s l caller at i stored a empties e s' → IsSoundWith g s l → (anchor_for s at.desc).state ≢ phase.Active
  emptied-inactive h old active = active-reserves g s l at.desc old h.site.desc h.bound active (pushed-bare h old).reserved

  emptied-unfull : Pushes g s l caller at i stored a empties e s' → IsSoundWith g s l → (anchor_for s at.desc).state ≢ phase.Full
  emptied-unfull h old full =
      let count = old.kept.full at.desc h.site.desc full in
      let bad : ⊥ = omega (arith, count, ap (λ x. x.count) h.before, h.goes.0, block_count_of-least at.seat.class h.site.seat.class) in bad

  -- the superblock of a won push is after it in the state that belongs to its place
  here-goes : (out : Outcome) → Pushes g s l caller at i stored a out e s' → IsSoundWith g s l → StaysKept s s' at.desc
  here-goes stays h old =
      let state : (anchor_for s' at.desc).state ≡ (anchor_for s at.desc).state = ap (λ x. x.state) h.after ∙ sym (ap (λ x. x.state) h.before) in
      let count : (anchor_for s' at.desc).count ≡ a.count + 1 = ap (λ x. x.count) h.after in
      state-goes s s' at.desc (pushed-info h at.desc) state (λ partial some. omega (arith, count))
      (λ is. let full : a.state ≡ phase.Full = sym (ap (λ x. x.state) h.before) ∙ is in elim h.goes.1 [ inl active ↦ absurd (cc) | inr partial ↦ absurd (cc) ])
  here-goes unfills h old =
      let was : (anchor_for s at.desc).state ≡ phase.Full = ap (λ x. x.state) h.before ∙ h.goes.1 in
      record {
        partly = λ c k. elim k.state [ inl some ↦ cc | inr empty ↦ cc ];
        active = λ c k. cc;
        without = λ k. elim k [ inl active ↦ cc | inr empty ↦ cc ];
        full = λ is. let bad : phase.Partial ≡ phase.Full = sym (ap (λ x. x.state) h.after) ∙ is in cc;
      }
  here-goes empties h old =
      let now : (anchor_for s' at.desc).state ≡ phase.Empty = ap (λ x. x.state) h.after in
      record {
        partly = λ c k. record { class = ap (λ x. x.class) (pushed-info h at.desc) ∙ k.class; state = inr now };
        active = λ c k. absurd (emptied-inactive h old k.state);
        without = λ k. inr now;
        full = λ is. cc;
      }

-- a push leaves what the caller keeps, with what is FULL, in as many places, and out for as many classes
unfull-none : (p : Phase) → p ≢ phase.Full → full_keeps p ≡ 0
unfull-none p ne = grind (arith, ne)

pushed-kept-weighs :
    (out : Outcome) (at : Site) (i : ℕ) (stored : Bool) (a : AnchorFields) (d : ℕ) → IsOutcome out at.seat.class stored a
    → (out ≡ empties → full_keeps a.state ≡ 0)
    → kept_places d (pushed_holds out at stored).kept + (if at.desc == d then full_keeps (pushed_anchor out i a).state else 0)
    ≡ (if at.desc == d then full_keeps a.state else 0)
pushed-kept-weighs out at i stored a d is none = grind (arith, is, none)

pushed-stock-weighs :
    (out : Outcome) (at : Site) (i : ℕ) (stored : Bool) (a : AnchorFields) (c : ℕ) → IsOutcome out at.seat.class stored a
    → (out ≡ empties → full_keeps a.state ≡ 0)
    → stock_among c (pushed_holds out at stored).kept + (if at.seat.class == c then full_keeps (pushed_anchor out i a).state else 0)
    ≡ (if at.seat.class == c then full_keeps a.state else 0)
pushed-stock-weighs out at i stored a c is none = grind (arith, is, none)

module _
    {g : Geometry} {s : State} {l : Lists} {caller : ℕ} {at : Site} {i : ℕ} {stored : Bool} {a : AnchorFields} {e : ErrandFields} {s' : State} where
  bare-full : (out : Outcome) → Pushes g s l caller at i stored a out e s' → IsSoundWith g s l → out ≡ empties → full_keeps a.state ≡ 0
  bare-full stays h old is = absurd (cc)
  bare-full unfills h old is = absurd (cc)
  bare-full empties h old is =
      ap (λ x. full_keeps x.state) (sym h.before) ∙ unfull-none (anchor_for s at.desc).state (emptied-unfull h old)

-- what the caller keeps after its push is partly used
holds-kept :
    (s : State) (out : Outcome) (at : Site) (stored : Bool) → (out ≡ unfills → IsPartlyUsed s at.desc at.seat.class)
    → AreKept s (pushed_holds out at stored).kept
holds-kept s out at stored is = grind (arith, is, keeps-none, keeps-one)

module _
    {g : Geometry} {s : State} {l : Lists} {caller : ℕ} {at : Site} {i : ℕ} {stored : Bool} {a : AnchorFields} {e : ErrandFields} {s' : State} where
  now-partly : (out : Outcome) → Pushes g s l caller at i stored a out e s' → out ≡ unfills → IsPartlyUsed s' at.desc at.seat.class
  now-partly stays h is = absurd (cc)
  now-partly empties h is = absurd (cc)
  now-partly unfills h is = record {
    class = ap (λ x. x.class) (pushed-info h at.desc) ∙ h.located.class;
    state = inl (ap (λ x. x.state) h.after, let count : (anchor_for s' at.desc).count ≡ a.count + 1 = ap (λ x. x.count) h.after in omega (arith, count));
  }

module _
    {g : Geometry} {s : State} {l : Lists} {caller : ℕ} {at : Site} {i : ℕ} {stored : Bool} {a : AnchorFields} {out : Outcome} {e : ErrandFields}
    {s' : State} (h : Pushes g s l caller at i stored a out e s') where
  -- each descriptor still stands in one place after a won push, and as many are out for each class
  pushes-move :
      IsSoundWith g s l
      → MovesAt g s l caller at.desc at.seat.class (pushing at i (if_stored stored at.desc)) (pushed_holds out at stored) a (pushed_anchor out i a) e s'
  pushes-move old = record {
    holds = pushed-holds h;
    write = pushed-write h;
    exists = h.site.desc;
    class = h.located.class;
    before = h.before;
    after = h.after;
    places = λ d. omega (arith, pushed-kept-weighs out at i stored a d h.goes (bare-full out h old));
    goes = inl (here-goes out h old);
  }

  pub pushed-kept : IsSoundWith g s l → IsKept g s' l
  pushed-kept old = moved-kept (pushes-move old) (holds-kept s' out at stored (now-partly out h)) old.kept

  pub pushed-stocked : IsSoundWith g s l → IsStocked g s' l
  pushed-stocked old =
      moved-stocked (pushes-move old) (λ class. omega (arith, pushed-stock-weighs out at i stored a class h.goes (bare-full out h old)))
      h.stands_before.quiet.waits h.stands_after.quiet.waits old.stocked
