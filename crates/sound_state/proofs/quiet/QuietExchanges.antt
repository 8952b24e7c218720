-- Exchanges that are lost: the word stays, and the caller reads again.
use Rattle.std.proofs.Common.{ℕ, Bool, false, ◌≡◌, ◌≢◌, ◌<◌, refl, arith, ap, sym, subst, ◌∙◌, ne_eqb, ◌==◌}
use Rattle.std.proofs.lemmas.Bool.{cond-false}
use Rattle.sound_state.proofs.Common.{Geometry, AnchorFields, anchor_word, WordName, Site, name_of, Share, Continuation, Point, Block, counts_cleared, event_of, next_of}
use Rattle.sound_state.proofs.Common.{plan_point_of, State, Step, holds_of, recalls_of, IsSoundWithoutCounts, Cas, found_by}
use Rattle.word_table.specs.declared.name.WordName.TheVariants as name
use Rattle.step_parts.specs.declared.superblock.point.BlockPoint.TheVariants as block
use Rattle.sound_state.proofs.quiet.QuietSteps.{StepsSteadily, LeadsOn, LeadsQuietly, leads-on, quiet-steady, steady-at}
use Rattle.sound_state.proofs.shared.CreditLemmas.{lost_with}
use Rattle.sound_state.proofs.shared.StepLemmas.{found_from}
use Rattle.sound_state.proofs.shared.KeepsSound.{KeepsSoundWhere}

-- an exchange that is lost, and after which the caller weighs the same and may stand where it leads, keeps the state sound
pub lost-steady :
    (g : Geometry) (s : State) (caller : ℕ) (s' : State) (p : Point) (n : WordName) (expected new : ℕ) → IsSoundWithoutCounts g s → caller < g.callers
    → (s.errand caller).point ≡ p → plan_point_of p ≡ Cas n expected new → counts_cleared p (lost_with (s.word n)) ≡ false
    → StepsSteadily g s caller p (next_of p (lost_with (s.word n))) → s.word n ≢ expected → Step s caller s' → IsSoundWithoutCounts g s'
unfolding event_of
lost-steady g s caller s' p n expected new sound has stands plan cleared steady other step =
    let lost : (s.word n == expected) ≡ false = ne_eqb (s.word n) expected other in
    let found : found_from s p ≡ lost_with (s.word n) =
    ap (λ a. found_by a (s.word (name_of a))) plan ∙ ap (λ b. record { value = s.word n; won = b }) lost in
    steady-at g s caller s' p sound has stands
    (record {
      event = ap (event_of caller p) found;
      cleared = ap (counts_cleared p) found ∙ cleared;
      word = rw plan (cond-false {A = ℕ} (s.word n == expected) new (s.word n) lost);
    })
    (subst (λ x. StepsSteadily g s caller p (next_of p x)) (sym found) steady) step

-- an exchange that is lost and leads quietly on keeps the state sound
pub lost-at :
    (g : Geometry) (s : State) (caller : ℕ) (s' : State) (p : Point) (n : WordName) (expected new : ℕ) → IsSoundWithoutCounts g s → caller < g.callers
    → (s.errand caller).point ≡ p → plan_point_of p ≡ Cas n expected new → counts_cleared p (lost_with (s.word n)) ≡ false
    → LeadsQuietly g s caller p (next_of p (lost_with (s.word n))) → s.word n ≢ expected → Step s caller s' → IsSoundWithoutCounts g s'
lost-at g s caller s' p n expected new sound has stands plan cleared leads other step =
    lost-steady g s caller s' p n expected new sound has stands plan cleared (quiet-steady g s caller p _ has stands leads) other step

-- a lost exchange that leads on, whatever it finds, keeps the state sound
pub lost-onward :
    (p : Point) (n : WordName) (expected new : ℕ) → plan_point_of p ≡ Cas n expected new → ((w : ℕ) → counts_cleared p (lost_with w) ≡ false)
    → ((w : ℕ) → LeadsOn p (next_of p (lost_with w))) → KeepsSoundWhere p (λ s. s.word n ≢ expected)
lost-onward p n expected new plan cleared leads g s caller s' sound has stands other step =
    lost-at g s caller s' p n expected new sound has stands plan (cleared _) (leads-on g s caller p _ has stands (leads _)) other step

-- a lost pop of a block keeps the state sound
pub pop_block-lost :
    (site : Site) (share : Share) (a : AnchorFields) (prefix : ℕ) (o : Continuation)
    → KeepsSoundWhere (Block (block.PopBlock site share a prefix) o) (λ s. s.word (name.Anchor site.desc) ≢ anchor_word a)
unfolding plan_point_of next_of holds_of recalls_of
pop_block-lost site share a prefix o = lost-onward _ _ _ _ refl (λ w. refl) (λ w. grind (arith))

-- a lost return of reserved blocks keeps the state sound
pub return_credits-lost :
    (site : Site) (i more : ℕ) (a : AnchorFields) (o : Continuation)
    → KeepsSoundWhere (Block (block.ReturnCredits site i more a) o) (λ s. s.word (name.Anchor site.desc) ≢ anchor_word a)
unfolding plan_point_of next_of holds_of recalls_of
return_credits-lost site i more a o = lost-onward _ _ _ _ refl (λ w. refl) (λ w. grind (arith))

-- a lost push of a block keeps the state sound
pub push_block-lost :
    (site : Site) (i : ℕ) (a : AnchorFields) (stored : Bool) (heap : ℕ) (o : Continuation)
    → KeepsSoundWhere (Block (block.PushBlock site i a stored heap) o) (λ s. s.word (name.Anchor site.desc) ≢ anchor_word a)
unfolding plan_point_of next_of holds_of recalls_of
push_block-lost site i a stored heap o = lost-onward _ _ _ _ refl (λ w. refl) (λ w. grind (arith))
