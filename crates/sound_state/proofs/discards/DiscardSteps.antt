-- The step of a lost install, and what it changes.
use Rattle.std.proofs.Common.{ℕ, true, false, ◌≡◌, ◌≢◌, ◌<◌, ◌≤◌, ◌+◌, ◌^◌, refl, arith, ap, sym, subst, inl, inr, ◌⊎◌, ◌==◌, ne_eqb}
use Rattle.std.proofs.lemmas.Bool.{cases_lt, cond-false}
use Rattle.sound_state.proofs.Common.{Geometry, active_word, Null, Held, Found, Site, active_name, Writes, new_credits, Frames, Continuation, Point, Block, Stack}
use Rattle.sound_state.proofs.Common.{ErrandFields, counts_lost, raised, event_of, next_of, asked, plan_point_of, State, Step, holds_of, Lists, counts_cleared, recalls_of}
use Rattle.sound_state.proofs.Common.{IsSoundWithoutCounts, IsSoundWith, IsOwnErrand}
use Rattle.step_parts.specs.declared.superblock.point.BlockPoint.TheVariants as block
use Rattle.step_parts.specs.declared.stack.point.StackPoint.TheVariants as stack
use Rattle.errand_steps.specs.declared.continuation.Continuation.TheVariants as continuation
use Rattle.sound_state.proofs.discards.DiscardEffects.{Discards, StandsDiscarding}
use Rattle.sound_state.proofs.installs.InstallSteps.{about-to-install, install-stands, install_superblock-won}
use Rattle.sound_state.proofs.shared.CreditLemmas.{lost_with}
use Rattle.sound_state.proofs.shared.StepLemmas.{at_point, words-stay}
use Rattle.sound_state.proofs.shared.TurnEffects.{StandsFramed}
use Rattle.sound_state.proofs.shared.WonEffects.{StepEffects, step-effects}
use Rattle.sound_state.proofs.shared.KeepsSound.{KeepsSound, KeepsSoundWhere, silent-sound, either-sound}
use Rattle.sound_state.proofs.SoundAfter.{discarded-sound}

-- the point to which a lost install leads
abbrev pub discarded_point : Site → Continuation → Point
discarded_point at o = Stack (stack.LoadTopToPush at.seat Frames at.frame) (continuation.Discard (asked o) at.desc)

discard-stands : (at : Site) (o : Continuation) → StandsDiscarding (discarded_point at o)
discard-stands at o = grind (arith)

-- the count of lost exchanges rises, or is above all turns
lost-rises :
    (g : Geometry) (caller : ℕ) (e : ErrandFields) (lost : ℕ) → IsOwnErrand g caller e → lost ≡ raised true e.lost → (lost ≡ e.lost + 1) ⊎ (e.turns ≤ lost)
lost-rises g caller e lost own is =
    elim (cases_lt (e.lost + 1) (2 ^ 64)) [
      | inl room ↦ inl (omega (arith, is, room))
      | inr full ↦ inr (omega (arith, is, full, own.rule.turns, own.rule.geometry.turn_limit.1))
    ]

-- what the step of a lost install changes
pub install-discards :
    (g : Geometry) (s : State) (l : Lists) (caller : ℕ) (s' : State) (at : Site) (o : Continuation)
    → IsSoundWithoutCounts g s → IsSoundWith g s l → caller < g.callers → (s.errand caller).point ≡ Block (block.InstallSuperblock at) o
    → s.word (active_name at.seat) ≢ active_word Null → Step s caller s'
    → Discards g s l caller at (at_point (s.errand caller) (lost_with (s.word (active_name at.seat))) (discarded_point at o)) s'
unfolding event_of next_of plan_point_of holds_of recalls_of
install-discards g s l caller s' at o sound is has here other step =
    let p : Point = Block (block.InstallSuperblock at) o in
    let q : Point = discarded_point at o in
    let n = active_name at.seat in
    let x : Found = lost_with (s.word n) in
    let about = about-to-install g s l caller at o is has here in
    let is_lost : (s.word n == active_word Null) ≡ false = ne_eqb (s.word n) (active_word Null) other in
    let effects : StepEffects s caller p x q s' =
    step-effects s caller s' p x q here (ap (λ b. record { value = s.word n; won = b }) is_lost) (inl refl) step in
    let new = active_word (Held at.desc (new_credits at.seat.class)) in
    let writes : Writes s.word n (s.word n) s'.word =
    subst (λ v. Writes s.word n v s'.word) (cond-false {A = ℕ} (s.word n == active_word Null) new (s.word n) is_lost) effects.writes in
    let lost : counts_lost (s.errand caller).point x ≡ true = ap (λ r. counts_lost r x) here in
    record {
      in_heap = has;
      moves = effects.moves;
      site = about.site;
      bound = about.bound;
      located = about.located;
      anchor = about.anchor;
      words = words-stay s.word n (s.word n) s'.word writes refl;
      history = effects.history;
      retired = refl;
      turns = refl;
      lost =
          lost-rises g caller (s.errand caller) (raised (counts_lost (s.errand caller).point x) (s.errand caller).lost) (is.formed.errands caller has)
          (ap (λ b. raised b (s.errand caller).lost) lost);
      cleared = ap (λ r. raised (counts_cleared r x) (s.errand caller).cleared) here;
      holds_before = ap holds_of here;
      holds_after = refl;
      recalls_after = tt;
      stands_before = subst StandsFramed (sym here) (install-stands at o);
      stands_after = discard-stands at o;
    }

-- the state after a lost install is sound
pub install_superblock-lost :
    (at : Site) (o : Continuation) → KeepsSoundWhere (Block (block.InstallSuperblock at) o) (λ s. s.word (active_name at.seat) ≢ active_word Null)
install_superblock-lost at o g s caller s' sound has here other step =
    let l = sound.parts.0 in
    let is = sound.parts.1 in
    let h = install-discards g s l caller s' at o sound is has here other step in
    silent-sound g s caller s' l sound has step h.history (discarded-sound h sound is)

-- an install keeps the state sound, won or lost
pub install_superblock-sound : (at : Site) (o : Continuation) → KeepsSound (Block (block.InstallSuperblock at) o)
install_superblock-sound at o = either-sound _ (active_name at.seat) (active_word Null) (install_superblock-won at o) (install_superblock-lost at o)
