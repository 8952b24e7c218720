-- A step keeps what bounds its caller's turns by the installs.
use Rattle.std.proofs.Common.{ℕ, false, ◌≡◌, ◌<◌, ◌≤◌, ◌+◌, List, arith, ap, inl, inr, ◌∙◌, count_by}
use Rattle.std.proofs.lemmas.Bool.{cases_Bool}
use Rattle.sound_state.proofs.Common.{Geometry, ErrandFields, settle_of, FitsPoint, next_of, State, Step, word_at, found_at, turn_stage_of, is_unneeded, one_if}
use Rattle.sound_state.proofs.Common.{gives_small, refuses_small, after_list, begins_turn, event_at, turn_unanswered, errand_discards}
use Rattle.sound_laws.specs.bounds.Installs.{IsInstalled, HoldsSince, installs_by, installs_against, errand_offers, turns_allowed}
use Rattle.sound_laws.specs.bounds.Wins.{Win, Wins, win_at, win_list_after, is_between}
use Rattle.sound_laws.proofs.bounds_lemmas.ActiveChanges.{discards-seeks}
use Rattle.sound_laws.proofs.bounds_lemmas.InstallCounts.{count-gives, count-refuses, own-install, none-against}
use Rattle.sound_laws.proofs.bounds_lemmas.CountLemmas.{count-parts, count-win}
use Rattle.sound_laws.proofs.bounds_lemmas.TurnEnds.{next_ends}
use Rattle.sound_laws.proofs.bounds_lemmas.TurnPoints.{turns-on}
use Rattle.sound_laws.proofs.bounds_lemmas.TurnSettles.{TurnSettles, settles-turn}
use Rattle.sound_laws.proofs.bounds_lemmas.WinDefs.{TurnsOn, given_by, refused_by}

-- the errand of a caller after its next step
abbrev pub settled : State → ℕ → ErrandFields
settled s caller = settle_of (s.errand caller) (found_at s caller)

-- what a step does to its caller's turn, and to the counts of the events
pub record Turned (s : State) (caller : ℕ) (s' : State) : Type 0 where
  pub gives : (i : ℕ) → count_by (gives_small i) s'.history ≡ count_by (gives_small i) s.history + given_by i (event_at s caller)
  pub refuses : (i : ℕ) → count_by (refuses_small i) s'.history ≡ count_by (refuses_small i) s.history + refused_by i (event_at s caller)
  pub goes : TurnsOn caller (s.errand caller).point (word_at s caller)
  pub settles : TurnSettles (s.errand caller) (found_at s caller)

-- each step does so to its caller's turn and to the counts of the events
pub step-turned :
    (g : Geometry) (s : State) (caller : ℕ) (s' : State) → FitsPoint g caller (s.errand caller).point → Step s caller s' → Turned s caller s'
step-turned g s caller s' fits step = record {
  gives = λ i. ap (count_by (gives_small i)) step.history ∙ count-gives i s.history (event_at s caller);
  refuses = λ i. ap (count_by (refuses_small i)) step.history ∙ count-refuses i s.history (event_at s caller);
  goes = turns-on g caller (s.errand caller).point (word_at s caller) fits;
  settles = settles-turn g caller (s.errand caller) (found_at s caller) fits;
}

-- a caller's own installs, and what it offers, stay below the small blocks that it is given
pub own-after :
    (g : Geometry) (s : State) (w : Wins) (caller : ℕ) (s' : State) → caller < g.callers → Turned s caller s' → IsInstalled g s w
    → count_by (installs_by caller) (win_list_after s caller w.list) + errand_offers (settled s caller) ≤ count_by (gives_small caller) s'.history
own-after g s w caller s' has h old =
    omega (
      arith,
      old.own caller has,
      h.gives caller,
      count-win (installs_by caller) w.list (win_at s caller),
      own-install s caller,
      h.goes.offers,
      h.settles.to.offers,
    )

-- a caller's turns stay below those that installs allow, where its turn may end only as these allow it
turn-after :
    (s : State) (caller : ℕ) (s' : State) (installs : ℕ) → Turned s caller s'
    → (s.errand caller).turns + next_ends (next_of (s.errand caller).point (found_at s caller)) ≤ turns_allowed s caller installs
    → (settled s caller).turns ≤ count_by (gives_small caller) s'.history + count_by (refuses_small caller) s'.history + installs + turn_unanswered (settled s caller)
turn-after s caller s' installs h before =
    omega (arith, before, h.gives caller, h.refuses caller, h.goes.unanswered, h.settles.to.turn, h.settles.turns)

-- a caller's turns stay below those that installs allow, where no turn of its ends
pub stay-after :
    (s : State) (caller : ℕ) (s' : State) (installs : ℕ) → Turned s caller s' → is_between (settled s caller).point ≡ false
    → (s.errand caller).turns ≤ turns_allowed s caller installs
    → (settled s caller).turns ≤ count_by (gives_small caller) s'.history + count_by (refuses_small caller) s'.history + installs + turn_unanswered (settled s caller)
stay-after s caller s' installs h inside before =
    let none : one_if (begins_turn (s.errand caller) (after_list (s.errand caller) (next_of (s.errand caller).point (found_at s caller)))) ≡ 0 =
    ap one_if (h.settles.to.begins inside) in
    omega (arith, before, h.gives caller, h.refuses caller, h.goes.unanswered, h.settles.to.stays inside, h.settles.turns, none)

-- a turn ends only where a superblock wasn't needed: another has been installed since the caller found none active
ends-installed :
    (g : Geometry) (s : State) (w : Wins) (caller : ℕ) (s' : State) → caller < g.callers → Turned s caller s' → IsInstalled g s w
    → (s.errand caller).turns + next_ends (next_of (s.errand caller).point (found_at s caller)) ≤ turns_allowed s caller (count_by (installs_against caller) w.list)
ends-installed g s w caller s' has h old =
    let p = (s.errand caller).point in
    elim (cases_Bool (is_unneeded (turn_stage_of p))) [
      | inl discards ↦
          let noted = old.found caller has (discards-seeks p discards) in
          let since : HoldsSince s w caller noted.0 = old.since caller noted.0 has noted.1 in
          omega (arith, since.turns, since.discards, h.settles.ends, count-parts (installs_against caller) noted.0 w.list)
      | inr stays ↦
          let none : errand_discards (s.errand caller) ≡ 0 = ap one_if stays in
          omega (arith, old.turns caller has, none, h.settles.ends)
    ]

-- a caller's own step adds no install of others to the list
pub against-stays :
    (s : State) (caller : ℕ) (list : List Win) → count_by (installs_against caller) (win_list_after s caller list) ≡ count_by (installs_against caller) list
against-stays s caller list = omega (arith, count-win (installs_against caller) list (win_at s caller), none-against s caller)

-- a caller's turns after its step stay below what the installs of others allow
pub own-turns :
    (g : Geometry) (s : State) (w : Wins) (caller : ℕ) (s' : State) → caller < g.callers → Turned s caller s' → IsInstalled g s w
    → (settled s caller).turns
    ≤ count_by (gives_small caller) s'.history + count_by (refuses_small caller) s'.history + count_by (installs_against caller) (win_list_after s caller w.list)
    + turn_unanswered (settled s caller)
own-turns g s w caller s' has h old =
    omega (arith, turn-after s caller s' (count_by (installs_against caller) w.list) h (ends-installed g s w caller s' has h old), against-stays s caller w.list)
