-- What a step of a machine tells its lane.
use Rattle.std.proofs.Common.{ℕ, ◌≡◌, ◌≢◌, ◌<◌, Option, inl, inr, refl, sym, ap, subst, arith}
use Rattle.std.specs.Prelude.{slice_set}
use Rattle.std.proofs.lemmas.Bool.{cases_Bool}
use Rattle.heap_geometry.specs.declared.need.Need.{Need}
use Rattle.errand_steps.specs.declared.reply.Offer.{Offer}
use Rattle.errand_steps.specs.declared.reply.Progress.{Progress}
use Rattle.errand_steps.specs.declared.reply.Progress.TheVariants as progress
use Rattle.errand_steps.specs.declared.told.Stepped.{Stepped}
use Rattle.errand_steps.specs.Begins.{IsBusy, IsIdle}
use Rattle.errand_steps.specs.Calls.{Call, begun_by}
use Rattle.errand_steps.specs.Offers.{offered_at}
use Rattle.errand_steps.specs.Points.{is_idle}
use Rattle.errand_steps.specs.Told.{GivesBack, IsTellable, stepped_as}
use Rattle.sound_state.specs.Runs.{MayBegin, begins, steps}
use Rattle.step_machine.specs.Cores.{CoreFields, IsCore, errand_at, state_of, with_errand}
use Rattle.step_machine.specs.Moments.{HasSeenMore, IsMoment}
use Rattle.step_machine.specs.Steps.{IsStepped, stepped}
use Rattle.step_machine.proofs.CoreLemmas.{moves-set}
use Rattle.step_machine.proofs.MomentLemmas.{core-moment, core-beside, same-seen}
use Rattle.step_machine.proofs.TellLemmas.{moment-tellable}
use Rattle.lane_engine.specs.Told.{HasStepped}
use Rattle.lane_engine.specs.Machines.{MovesCore, ServesCaller}

-- what a step answers can be told
pub offer-tellable :
    (c after : CoreFields) (caller : ℕ) (offer : Option Offer) (answer : Progress) → IsCore c → caller < c.geometry.callers
    → (IsIdle (errand_at c.errands caller) → (answer ≡ progress.Idle) × (after ≡ c))
    → (IsBusy (errand_at c.errands caller) → IsStepped c caller answer after) → offer ≡ offered_at (errand_at c.errands caller).point
    → IsTellable offer answer
offer-tellable c after caller offer answer core has idle busy is =
    subst (λ o. IsTellable o answer) (sym is)
    (elim (cases_Bool (is_idle (errand_at c.errands caller).point)) [
      | inl rests ↦ subst (IsTellable (offered_at (errand_at c.errands caller).point)) (sym (idle rests).0) tt
      | inr moves ↦ moment-tellable _ _ _ _ answer (core-moment c after caller answer core has (busy moves))
    ])

-- a step of a caller that is in a call
module _ {B : Type 0} (place_of : B → ℕ) (need_of : B → Need) where
  pub core-steps :
      (c after : CoreFields) (caller : ℕ) (offer : Option Offer) (answer : Progress) (told : Stepped B) → IsCore c
      → caller < c.geometry.callers → IsStepped c caller answer after → offer ≡ offered_at (errand_at c.errands caller).point
      → stepped_as place_of need_of told ≡ answer → GivesBack place_of need_of offer told
      → HasStepped place_of need_of (errand_at c.errands caller) (errand_at after.errands caller) c.events after.events told
  core-steps c after caller offer answer told core has is_stepped is made back = record {
    moment =
        subst (IsMoment (errand_at c.errands caller) (errand_at after.errands caller) c.events after.events) (sym made)
        (core-moment c after caller answer core has is_stepped);
    back = subst (λ o. GivesBack place_of need_of o told) is back;
  }

-- a step of a caller that is in a call leads the machine on, and is counted
pub core-moves :
    (c after : CoreFields) (caller : ℕ) (answer : Progress) → caller < c.geometry.callers → IsStepped c caller answer after
    → MovesCore c (steps caller) after
unfolding stepped
core-moves c after caller answer has is_stepped = record {
  heap = ap (λ (v : CoreFields). v.geometry) is_stepped.exact;
  moved = (has, is_stepped.step);
  counted = ap (λ (v : CoreFields). v.steps) is_stepped.exact;
}

-- what a step leaves of the other callers, whether there was one or none
pub core-others :
    (c after : CoreFields) (caller other : ℕ) (answer : Progress)
    → (IsIdle (errand_at c.errands caller) → (answer ≡ progress.Idle) × (after ≡ c))
    → (IsBusy (errand_at c.errands caller) → IsStepped c caller answer after) → other ≢ caller
    → (errand_at after.errands other ≡ errand_at c.errands other) × HasSeenMore other c.events after.events
core-others c after caller other answer idle busy differ =
    elim (cases_Bool (is_idle (errand_at c.errands caller).point)) [
      | inl rests ↦ (
        ap (λ (v : CoreFields). errand_at v.errands other) (idle rests).1,
        same-seen other c.events after.events (ap (λ (v : CoreFields). v.events) (idle rests).1),
      )
      | inr moves ↦ core-beside c after caller other answer (busy moves) differ
    ]

-- a call that begins leads the machine on
pub core-begins :
    (c after : CoreFields) (caller : ℕ) (call : Call) → ServesCaller c caller → IsIdle (errand_at c.errands caller) → MayBegin (state_of c) caller call
    → after ≡ with_errand c caller (begun_by (errand_at c.errands caller) call) → MovesCore c (begins caller call) after
core-begins c after caller call serves idle may is =
    let e = begun_by (errand_at c.errands caller) call in
    subst (MovesCore c (begins caller call)) (sym is)
    (record {
      heap = refl;
      moved = (
        serves.1,
        record {
          idle = idle;
          may = may;
          errands = errand_at (slice_set c.errands caller e);
          moves = moves-set c.errands caller e (omega (arith, serves.0.errands, serves.1));
          after = refl;
        },
      );
      counted = refl;
    })
