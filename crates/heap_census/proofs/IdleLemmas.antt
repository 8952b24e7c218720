-- Idle callers hold nothing but the descriptors that they retired.
use Rattle.std.proofs.Common.{ℕ, ◌≡◌, ◌<◌, ap, arith}
use Rattle.heap_geometry.specs.declared.geometry.Geometry.{Geometry}
use Rattle.word_table.specs.Occurs.{occurs}
use Rattle.errand_steps.specs.Begins.{IsIdle}
use Rattle.errand_steps.specs.Errands.{ErrandFields}
use Rattle.errand_steps.specs.Steps.{State}
use Rattle.sound_state.specs.Frames.{errand_frames}
use Rattle.errand_steps.specs.tables.Holding.{Holding, Status, reserving, waiting, partly_used, on_its_way, nothing}
use Rattle.sound_state.specs.Holdings.{holds_of}
use Rattle.sound_state.specs.Keepers.{errand_has, with_callers}
use Rattle.sound_state.specs.Lists.{Lists}
use Rattle.sound_state.specs.Sound.{IsSoundWith, IsSoundWithoutCounts}
use Rattle.sound_state.specs.Sums.{words_sum, callers_sum}
use Rattle.sound_state.specs.Superblocks.{word_reserves, reserved_among, errand_reserves, reserved_of, kept_among, errand_keeps, waiting_of, errand_away}
use Rattle.errand_steps.proofs.BegunErrands.{idle-is}
use Rattle.sound_state.proofs.shared.SumLemmas.{sum-same, callers-none}

-- a sound state, with the lists that show it, whose callers are all idle
pub record Rests (g : Geometry) (s : State) (l : Lists) : Type 0 where
  pub sound : IsSoundWithoutCounts g s
  pub parts : IsSoundWith g s l
  pub idle : (caller : ℕ) → caller < g.callers → IsIdle (s.errand caller)

-- an idle caller holds nothing
holds-nothing : (e : ErrandFields) → IsIdle e → holds_of e.point ≡ nothing
unfolding holds_of
holds-nothing e idle = ap holds_of (idle-is e.point idle)

pub keeps-nothing : (status : Status) (d : ℕ) (e : ErrandFields) → IsIdle e → errand_keeps status d e ≡ 0
keeps-nothing status d e idle = ap (λ (h : Holding). kept_among status d h.kept) (holds-nothing e idle)

reserves-nothing : (d : ℕ) (e : ErrandFields) → IsIdle e → errand_reserves d e ≡ 0
reserves-nothing d e idle = ap (λ (h : Holding). reserved_among d h.credits) (holds-nothing e idle)

frames-nothing : (f : ℕ) (e : ErrandFields) → IsIdle e → errand_frames f e ≡ 0
frames-nothing f e idle = ap (λ (h : Holding). occurs f h.frames) (holds-nothing e idle)

-- with all callers idle no superblock waits, no frame is in a hand, and only active words reserve blocks
pub none-waits : (g : Geometry) (s : State) (l : Lists) (d : ℕ) → Rests g s l → waiting_of g s d ≡ 0
none-waits g s l d rests =
    callers-none g (errand_keeps waiting d) s.errand (λ i has. keeps-nothing waiting d (s.errand i) (rests.idle i has))

pub none-in-hand : (g : Geometry) (s : State) (l : Lists) (f : ℕ) → Rests g s l → callers_sum g (errand_frames f) s.errand ≡ 0
none-in-hand g s l f rests = callers-none g (errand_frames f) s.errand (λ i has. frames-nothing f (s.errand i) (rests.idle i has))

pub words-reserve :
    (g : Geometry) (s : State) (l : Lists) (d : ℕ) → Rests g s l → reserved_of g s d ≡ words_sum g (word_reserves d) s.word
words-reserve g s l d rests =
    let none = callers-none g (errand_reserves d) s.errand (λ i has. reserves-nothing d (s.errand i) (rests.idle i has)) in
    omega (arith, none)

-- what an idle caller has is away
pub has-away : (d : ℕ) (e : ErrandFields) → IsIdle e → errand_has d e ≡ errand_away d e
has-away d e idle =
    omega (
      arith,
      keeps-nothing reserving d e idle,
      keeps-nothing waiting d e idle,
      keeps-nothing partly_used d e idle,
      keeps-nothing on_its_way d e idle,
    )

pub away-retired : (d : ℕ) (e : ErrandFields) → IsIdle e → errand_away d e ≡ occurs d e.retired
away-retired d e idle = omega (arith, keeps-nothing on_its_way d e idle)

pub callers-away :
    (g : Geometry) (s : State) (l : Lists) (d : ℕ) → Rests g s l → with_callers g s d ≡ callers_sum g (errand_away d) s.errand
unfolding callers_sum
callers-away g s l d rests =
    sum-same g.callers (λ i. errand_away d (s.errand i)) (λ i. errand_has d (s.errand i))
    (λ i has. has-away d (s.errand i) (rests.idle i has))
