-- The step of a won install, and what it changes.
use Rattle.std.proofs.Common.{ℕ, false, ◌≡◌, ◌<◌, refl, arith, ap, sym, subst, ◌∙◌, inl, IsTrue}
use Rattle.sound_state.proofs.Common.{Geometry, active_word, anchor_of, Null, Held, Site, active_name, IsSiteOf, new_credits, Continuation, Point, Block, event_of, next_of}
use Rattle.sound_state.proofs.Common.{asked, plan_point_of, State, Step, holds_of, Lists, recalls_of, IsLocated, IsSoundWithoutCounts, IsSoundWith, anchor_for, is_bound}
use Rattle.sound_state.proofs.Common.{IsActiveWord, anchor_of-anchor_word, new_anchor}
use Rattle.step_parts.specs.declared.superblock.point.BlockPoint.TheVariants as block
use Rattle.sound_state.proofs.installs.InstallEffects.{Installs, installed_word}
use Rattle.sound_state.proofs.installs.InstallTies.{installed-legal}
use Rattle.sound_state.proofs.shared.PointLemmas.{fits-at, the-alloc, small-asked, recalled-at}
use Rattle.sound_state.proofs.shared.StepLemmas.{at_point, keeps-counts}
use Rattle.sound_state.proofs.shared.CreditLemmas.{won_with}
use Rattle.sound_state.proofs.shared.TurnEffects.{StandsIn, StandsFramed}
use Rattle.sound_state.proofs.shared.WonEffects.{WonEffects, won-effects}
use Rattle.sound_state.proofs.shared.WordFacts.{held-fits, seat-active}
use Rattle.sound_state.proofs.shared.KeepsSound.{KeepsSoundWhere, stepped-sound}
use Rattle.sound_state.proofs.SoundAfter.{installed-sound}
use Rattle.sound_state.proofs.shared.WrittenWords.{credits-few, new_anchor-fits}

pub install-stands : (at : Site) (o : Continuation) → StandsFramed (Block (block.InstallSuperblock at) o)
install-stands at o = grind (arith)

prefix-stands : (at : Site) (i : ℕ) (o : Continuation) → StandsIn false (Block (block.StorePrefix at i) o)
prefix-stands at i o = grind (arith)

-- a caller that is about to install a superblock: it is bound, lies there, and its anchor is a new one's
pub record IsAboutToInstall (g : Geometry) (s : State) (l : Lists) (caller : ℕ) (at : Site) : Type 0 where
  pub site : IsSiteOf g caller at
  pub bound : IsTrue (is_bound g s l at.desc)
  pub located : IsLocated s at.desc at.frame at.seat.class
  pub anchor : anchor_for s at.desc ≡ new_anchor at.seat.class

pub about-to-install :
    (g : Geometry) (s : State) (l : Lists) (caller : ℕ) (at : Site) (o : Continuation) → IsSoundWith g s l → caller < g.callers
    → (s.errand caller).point ≡ Block (block.InstallSuperblock at) o → IsAboutToInstall g s l caller at
unfolding recalls_of
about-to-install g s l caller at o is has here =
    let p : Point = Block (block.InstallSuperblock at) o in
    let (said, (so_bound, none)) = recalled-at g s l caller p is has here in
    record {
      site = (fits-at g s l caller p is has here).point;
      bound = so_bound.0;
      located = so_bound.1;
      anchor = ap anchor_of said.1 ∙ anchor_of-anchor_word (new_anchor at.seat.class) (new_anchor-fits at.seat.class);
    }

-- what the step of a won install changes
pub install-installs :
    (g : Geometry) (s : State) (l : Lists) (caller : ℕ) (s' : State) (at : Site) (o : Continuation)
    → IsSoundWithoutCounts g s → IsSoundWith g s l → caller < g.callers → (s.errand caller).point ≡ Block (block.InstallSuperblock at) o
    → s.word (active_name at.seat) ≡ active_word Null → Step s caller s'
    → Installs g s l caller at (asked o) (at_point (s.errand caller) (won_with (active_word Null)) (Block (block.StorePrefix at 0) o)) s'
unfolding event_of next_of plan_point_of holds_of recalls_of
install-installs g s l caller s' at o sound is has here word step =
    let p : Point = Block (block.InstallSuperblock at) o in
    let q : Point = Block (block.StorePrefix at 0) o in
    let n = active_name at.seat in
    let fit = fits-at g s l caller p is has here in
    let about = about-to-install g s l caller at o is has here in
    let fits : IsActiveWord (Held at.desc (new_credits at.seat.class)) =
    held-fits g at.desc (new_credits at.seat.class) sound.checked fit.point.desc (credits-few at.seat.class) in
    let won : WonEffects s caller p n (active_word Null) (installed_word at) q s' =
    won-effects s caller s' p n (active_word Null) (installed_word at) q here word refl (inl refl) step in
    record {
      in_heap = has;
      moves = won.step.moves;
      site = about.site;
      small = small-asked g caller at o (the-alloc o fit.goes) fit.continuation;
      bound = about.bound;
      located = about.located;
      anchor = about.anchor;
      exists = seat-active g caller at.seat sound.checked fit.point.seat;
      before = word;
      fits = fits;
      writes = won.writes;
      history = won.step.history;
      own = keeps-counts (s.errand caller) p (won_with (active_word Null)) q here refl refl;
      holds_before = ap holds_of here;
      holds_after = refl;
      recalls_after = λ lies. (lies, tt);
      stands_before = subst StandsFramed (sym here) (install-stands at o);
      stands_after = prefix-stands at 0 o;
    }

-- the state after a won install is sound
pub install_superblock-won :
    (at : Site) (o : Continuation) → KeepsSoundWhere (Block (block.InstallSuperblock at) o) (λ s. s.word (active_name at.seat) ≡ active_word Null)
install_superblock-won at o g s caller s' sound has here word step =
    let l = sound.parts.0 in
    let is = sound.parts.1 in
    let h = install-installs g s l caller s' at o sound is has here word step in
    stepped-sound g s caller s' l sound has step (installed-legal h sound is) (installed-sound h sound is)
