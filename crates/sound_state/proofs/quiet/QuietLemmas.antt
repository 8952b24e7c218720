-- Points at which a caller holds the same: with a word that stays it weighs the same, and it may stand there.
use Rattle.std.proofs.Common.{ℕ, refl, ◌≡◌, ◌<◌, ap, sym, subst, All, length}
use Rattle.sound_state.proofs.Common.{Geometry, WordName, Point, spare_of, pushed_by, State, passed_by, held_by, holds_of, IsKeptAs, Lists, IsSo}
use Rattle.sound_state.proofs.Common.{recalls_of, IsSoundWith, waits_in}
use Rattle.sound_state.proofs.shared.PointLemmas.{WeighFrom, weigh-stays, alike-goes}
use Rattle.sound_state.proofs.shared.StepLemmas.{PointGoes, TurnGoes}

-- at q a caller holds what it holds at p, and is no further back in its turn
pub record HoldsSame (p q : Point) : Type 0 where
  pub holds : holds_of q ≡ holds_of p
  pub waits : (class : ℕ) → waits_in class q ≡ waits_in class p
  pub pushed : pushed_by q ≡ pushed_by p
  pub passed : passed_by q ≡ 0
  pub unread : length (held_by q) ≡ 0
  pub spare : spare_of q ≡ spare_of p
  pub turn : TurnGoes p q

-- a word that stays, and points at which a caller holds the same, weigh the same
pub same-stays : (n : WordName) (w : ℕ) (p q : Point) → HoldsSame p q → WeighFrom n w w p q
same-stays n w p q h = weigh-stays n w p q (ap (λ x. x.credits) h.holds) (ap (λ x. x.kept) h.holds) (ap (λ x. x.frames) h.holds) h.waits

-- a caller that holds the same at another point may stand there, where what it remembers there is so
pub same-point-goes :
    (g : Geometry) (s : State) (l : Lists) (caller : ℕ) (q : Point) → IsSoundWith g s l → caller < g.callers → HoldsSame (s.errand caller).point q
    → All (IsSo g s l caller) (recalls_of q) → PointGoes g s l caller (s.errand caller).point q
same-point-goes g s l caller q sound has h so =
    alike-goes g s l caller (s.errand caller).point q sound has refl
    (record {
      hazard = ap (λ held. held.hazard) h.holds;
      blocks = record {
        hands = ap (λ held. held.hands) h.holds;
        frees = ap (λ held. held.frees) h.holds;
        pushed = h.pushed;
        passed = h.passed;
        unread = h.unread;
        spare = h.spare;
        turn = h.turn;
      };
    })
    (subst (λ held. All (λ k. IsKeptAs s k.status k.desc k.class) held.kept) (sym h.holds) (sound.kept.errand caller has)) so
