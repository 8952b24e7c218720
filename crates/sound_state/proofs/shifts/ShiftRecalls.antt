-- A step that moves blocks between the count and what is reserved keeps what the callers remember, and so the state sound.
use Rattle.std.proofs.Common.{ℕ, ◌≡◌, ◌≢◌, ◌<◌, arith, ap, sym, subst, IsTrue}
use Rattle.sound_state.proofs.Common.{Geometry, AnchorFields, Site, own, ErrandFields, State, errand_has, Lists, occurs}
use Rattle.sound_state.proofs.Common.{IsSoundWith, IsRemembered, Part, bindings, chains, single}
use Rattle.sound_state.proofs.shared.RecallEffects.{IsSteadyWord, Leaves, IsLeft, chain-gains, lies-still, remembered-left}
use Rattle.sound_state.proofs.shared.RecallTables.{InstallsNone, IsSpared, spared-point}
use Rattle.sound_state.proofs.shared.WaitsAlone.{install-waits}
use Rattle.sound_state.proofs.shifts.ShiftEffects.{Shifts}
use Rattle.sound_state.proofs.shifts.ShiftFacts.{shifted-tag, shifted-empty, shifted-ways, shifted-bound, shifted-chain}
use Rattle.sound_state.proofs.shifts.ShiftKept.{shifted-alone}
use Rattle.sound_state.proofs.shifts.ShiftTurns.{shifted-owned}

-- a shift of blocks between the count and what is reserved, seen by the callers that remember
module _
    {g : Geometry} {s : State} {l : Lists} {caller : ℕ} {at : Site} {a b : AnchorFields} {e : ErrandFields} {s' : State}
    (h : Shifts g s l caller at a b e s') where
  -- nobody else waits to install the superblock of a shift
  shifted-installed : IsSoundWith g s l → (i : ℕ) → i < g.callers → i ≢ caller → InstallsNone (s.errand i).point at.desc
  shifted-installed old i has ne site o stands same =
      let none : errand_has site.desc (s.errand i) ≡ 0 =
      subst (λ k. errand_has k (s.errand i) ≡ 0) (sym same) ((shifted-alone h old.kept).others i has ne) in
      omega (arith, none, install-waits (s.errand i) site o stands)

  -- a shift leaves what the others remember
  shifted-leaves : (i : ℕ) → Leaves g s l s' i
  shifted-leaves i = record {
    steady = λ n is. h.elsewhere n (λ same. subst IsSteadyWord same is);
    events = ap (own i) h.history;
    owned = shifted-owned h i;
    empty = λ d so. shifted-empty h d;
    ways = λ d so. shifted-ways h d;
  }

  shifted-left : (p : Part) → IsSpared at.desc p → IsLeft g s l s' p
  shifted-left (bindings d) spared = subst IsTrue (sym (shifted-bound h d))
  shifted-left (chains d) spared =
      λ here. chain-gains g s l s' (shifted-leaves caller).steady d (shifted-tag h d) (λ k. subst (λ xs. 0 < occurs k xs) (sym (shifted-chain h d)))
  shifted-left (single n) spared = λ said. h.elsewhere n spared
  shifted-left p spared = tt

  pub shifted-remembered : IsSoundWith g s l → IsRemembered g s' l
  shifted-remembered old =
      remembered-left g s l caller e s' h.moves
      (h.recalls_after (lies-still g s l s' (shifted-leaves caller).steady at (subst IsTrue (sym (shifted-bound h at.desc)) h.bound) h.located))
      (λ i has ne. shifted-leaves i)
      (λ i has ne k d lt. shifted-left _ (spared-point at.desc (s.errand i).point (shifted-installed old i has ne) k d lt)) old
