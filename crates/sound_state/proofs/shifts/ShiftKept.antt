-- A step that moves blocks between the count and what is reserved leaves each descriptor in one place, and as many out for each class.
use Rattle.std.proofs.Common.{ℕ, inr}
use Rattle.sound_state.proofs.Common.{Geometry, AnchorFields, Site, ErrandFields, State, IsKept, Lists, IsSoundWith, IsStocked, holds_of}
use Rattle.sound_state.proofs.shared.KeptLemmas.{HasAlone, MovesAt, has-alone, moved-kept, moved-stocked}
use Rattle.sound_state.proofs.shifts.ShiftEffects.{Shifts}
use Rattle.sound_state.proofs.shifts.ShiftFacts.{shifted-holds, shifted-write}

module _
    {g : Geometry} {s : State} {l : Lists} {caller : ℕ} {at : Site} {a b : AnchorFields} {e : ErrandFields} {s' : State}
    (h : Shifts g s l caller at a b e s') where
  -- the caller of a shift alone has the descriptor
  pub shifted-alone : IsKept g s l → HasAlone g s l caller at.desc
  shifted-alone kept = has-alone g s l caller at.desc kept h.in_heap h.site.desc h.has

  shifts-move : MovesAt g s l caller at.desc at.seat.class (holds_of (s.errand caller).point) (holds_of e.point) a b e s'
  shifts-move = record {
    holds = shifted-holds h;
    write = shifted-write h;
    exists = h.site.desc;
    class = h.located.class;
    before = h.before;
    after = h.after;
    places = h.places;
    goes = inr (h.has, h.full);
  }

  pub shifted-kept : IsSoundWith g s l → IsKept g s' l
  shifted-kept old = moved-kept shifts-move h.kept_after old.kept

  pub shifted-stocked : IsSoundWith g s l → IsStocked g s' l
  shifted-stocked old = moved-stocked shifts-move h.stock h.stands_before.quiet.waits h.stands_after.quiet.waits old.stocked
