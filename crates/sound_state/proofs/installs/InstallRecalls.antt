-- A won install keeps what the callers remember.
use Rattle.std.proofs.Common.{ℕ, ◌≢◌, ap, sym, subst, ◌∙◌, IsTrue}
use Rattle.sound_state.proofs.Common.{Geometry, Site, is_empty, own, ErrandFields, State, Lists, IsSoundWithoutCounts, IsSoundWith, IsRemembered}
use Rattle.sound_state.proofs.Common.{IsSaidWord, Part, bindings, chains, single}
use Rattle.pool_model.specs.declared.event.Event.TheVariants.{Alloc}
use Rattle.sound_state.proofs.installs.InstallEffects.{Installs, first_place}
use Rattle.sound_state.proofs.installs.InstallFacts.{installed-anchor, installed-bound, installed-reserved, installed-ways}
use Rattle.sound_state.proofs.installs.InstallTies.{installed-still-owned}
use Rattle.sound_state.proofs.shared.EventFacts.{told-own}
use Rattle.sound_state.proofs.shared.RecallEffects.{IsSteadyWord, AreSteady, Leaves, IsLeft, chain-steady, lies-still, remembered-left}

-- an install that was won, seen by the callers that remember
module _
    {g : Geometry} {s : State} {l : Lists} {caller : ℕ} {at : Site} {words : ℕ} {e : ErrandFields} {s' : State}
    (h : Installs g s l caller at words e s') where
  -- the words of stacks, of descriptors and of the arena stay at a won install
  installed-words-steady : AreSteady s s'
  installed-words-steady n is = h.writes.elsewhere n (λ same. subst IsSteadyWord same is)

  -- an install leaves what the others remember
  installed-leaves : IsSoundWithoutCounts g s → IsSoundWith g s l → (i : ℕ) → i ≢ caller → Leaves g s l s' i
  installed-leaves sound old i ne = record {
    steady = installed-words-steady;
    events = ap (own i) h.history ∙ told-own i s.history (Alloc caller words (first_place at)) (λ same. ne (sym same));
    owned = installed-still-owned h sound old i;
    empty = λ d so. ap (λ x. is_empty x.state) (installed-anchor h d);
    ways = λ d so. installed-ways h d;
  }

  installed-left : (p : Part) → IsLeft g s l s' p
  installed-left (bindings d) = subst IsTrue (sym (installed-bound h d))
  installed-left (chains d) = λ here. chain-steady g s l s' installed-words-steady d (installed-anchor h d) (installed-reserved h d)
  installed-left (single n) = λ said. h.writes.elsewhere n (λ same. subst IsSaidWord same said)
  installed-left p = tt

  pub installed-remembered : IsSoundWithoutCounts g s → IsSoundWith g s l → IsRemembered g s' l
  installed-remembered sound old =
      remembered-left g s l caller e s' h.moves
      (h.recalls_after (lies-still g s l s' installed-words-steady at (subst IsTrue (sym (installed-bound h at.desc)) h.bound) h.located))
      (λ i has ne. installed-leaves sound old i ne) (λ i has ne k d lt. installed-left _) old
