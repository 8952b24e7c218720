-- No two superblocks lie in one frame, whether they wait to be installed or not.
use Rattle.std.proofs.Common.{ℕ, Option, Some, None, ◌≡◌, ◌≢◌, ◌<◌, ◌≤◌, refl, arith, ap, sym, subst, inl, inr, ◌∙◌, ◌==◌, if◌then◌else◌, All, IsTrue, ◌⊎◌, eq-eqb, ne_eqb}
use Rattle.std.proofs.lemmas.Bool.{cases_eq, cond-true}
use Rattle.std.proofs.lemmas.List.Elements.{recursion_from_All}
use Rattle.std.proofs.lemmas.Option.{none-some}
use Rattle.sound_state.proofs.Common.{Geometry, descriptor_count, Site, occurs, BlockPoint, Point, State, errand_frames, fills_frame, waiting, holds_of, Lists, IsSo}
use Rattle.sound_state.proofs.Common.{IsLocated, recalls_of, IsSoundWith, callers_sum, kept_among, errand_keeps, waiting_of, is_bound, info_for}
use Rattle.step_parts.specs.declared.superblock.point.BlockPoint.TheVariants as block
use Rattle.errand_steps.specs.declared.point.Point.TheVariants as point
use Rattle.sound_state.proofs.shared.SumLemmas.{some-term, term-sum, two-terms}

-- the superblock that a caller is about to install
abbrev installing_block : BlockPoint → Option Site
installing_block (block.InstallSuperblock at) = Some at
installing_block p = None

abbrev installing : Point → Option Site
installing (point.Block p o) = installing_block p
installing p = None

-- 1 where it is that of d, or fills the frame
abbrev is_desc : ℕ → Option Site → ℕ
is_desc d None = 0
is_desc d (Some at) = if at.desc == d then 1 else 0

abbrev is_frame : ℕ → Option Site → ℕ
is_frame f None = 0
is_frame f (Some at) = if at.frame == f then 1 else 0

-- at a point only the superblock that is installed there waits
waits-is : (d : ℕ) (p : Point) → kept_among waiting d (holds_of p).kept ≡ is_desc d (installing p)
unfolding holds_of
waits-is d p = grind (arith)

-- the frame of a superblock that is about to be installed is in the caller's hand
frames-held : (f : ℕ) (p : Point) → is_frame f (installing p) ≤ occurs f (holds_of p).frames
unfolding holds_of
frames-held f p = grind (arith)

-- a caller with which d waits is about to install it
site-is : (d : ℕ) (o : Option Site) → 1 ≤ is_desc d o → (at : Site) × (o ≡ Some at) × (at.desc ≡ d)
site-is d None has = absurd (omega (arith, has))
site-is d (Some at) has =
    elim (cases_eq at.desc d) [ inl same ↦ (at, refl, same) | inr differ ↦ absurd (let bad : ⊥ = grind (arith, has, ne_eqb at.desc d differ) in bad) ]

-- a caller that is about to install a superblock remembers where it lies
located-site :
    (g : Geometry) (s : State) (l : Lists) (caller : ℕ) (p : Point) (at : Site) → All (IsSo g s l caller) (recalls_of p)
    → installing p ≡ Some at → IsLocated s at.desc at.frame at.seat.class
unfolding recalls_of
located-site g s l caller (point.Block (block.InstallSuperblock site) o) at so is =
    let same : site ≡ at = grind (arith, is) in
    let each = recursion_from_All (IsSo g s l caller) (recalls_of (point.Block (block.InstallSuperblock site) o)) so in
    subst (λ x. IsLocated s x.desc x.frame x.seat.class) same each.1.0.1
located-site g s l caller p at so is = absurd (none-some at is)

waiting-framed :
    (g : Geometry) (s : State) (l : Lists) (caller d f : ℕ) → IsSoundWith g s l → caller < g.callers → 1 ≤ errand_keeps waiting d (s.errand caller)
    → (info_for s d).frame ≡ f → 1 ≤ errand_frames f (s.errand caller)
waiting-framed g s l caller d f old has waits lies =
    let p = (s.errand caller).point in
    let (at, is, same) = site-is d (installing p) (omega (arith, waits, waits-is d p)) in
    let there : at.frame ≡ f =
    sym (located-site g s l caller p at (old.remembered.so caller has) is).frame ∙ ap (λ k. (info_for s k).frame) same ∙ lies in
    let one : is_frame f (installing p) ≡ 1 = ap (is_frame f) is ∙ cond-true {A = ℕ} (at.frame == f) 1 0 (eq-eqb at.frame f there) in
    omega (arith, one, frames-held f p)

-- a caller has one superblock that waits or is to be installed at most
one-desc : (d e : ℕ) (o : Option Site) → d ≢ e → 1 ≤ is_desc d o → is_desc e o ≡ 0
one-desc d e o differ has = grind (arith, differ, has)

-- a superblock that doesn't wait fills its frame
pub bound-fills :
    (g : Geometry) (s : State) (l : Lists) (d f : ℕ) → IsTrue (is_bound g s l d) → waiting_of g s d ≡ 0 → (info_for s d).frame ≡ f
    → fills_frame g s l f d ≡ 1
bound-fills g s l d f bound none lies = rw (bound, none, lies, eq-eqb f f refl) refl

-- some caller is about to install the superblock of d
abbrev WaitsToInstall : Geometry → State → ℕ → Type 0
WaitsToInstall g s d = (caller : ℕ) × (caller < g.callers) × (1 ≤ errand_keeps waiting d (s.errand caller))

some-installs : (g : Geometry) (s : State) (d : ℕ) → waiting_of g s d ≢ 0 → WaitsToInstall g s d
unfolding callers_sum
some-installs g s d some = some-term g.callers (λ caller. errand_keeps waiting d (s.errand caller)) (omega (arith, some))

installs-framed :
    (g : Geometry) (s : State) (l : Lists) (d f : ℕ) → IsSoundWith g s l → WaitsToInstall g s d → (info_for s d).frame ≡ f
    → 1 ≤ callers_sum g (errand_frames f) s.errand
unfolding callers_sum
installs-framed g s l d f old (caller, has, waits) lies =
    omega (arith, term-sum g.callers (λ i. errand_frames f (s.errand i)) caller has, waiting-framed g s l caller d f old has waits lies)

both-install :
    (g : Geometry) (s : State) (l : Lists) (d e f : ℕ) → IsSoundWith g s l → d ≢ e → WaitsToInstall g s d → WaitsToInstall g s e
    → (info_for s d).frame ≡ f → (info_for s e).frame ≡ f → 2 ≤ callers_sum g (errand_frames f) s.errand
unfolding callers_sum
both-install g s l d e f old differ (i, has_i, waits_i) (j, has_j, waits_j) lies_d lies_e =
    let apart : i ≢ j = λ same.
    let moved : 1 ≤ errand_keeps waiting d (s.errand j) = subst (λ k. 1 ≤ errand_keeps waiting d (s.errand k)) same waits_i in
    let first : 1 ≤ is_desc d (installing (s.errand j).point) = omega (arith, moved, waits-is d (s.errand j).point) in
    let bad : ⊥ = omega (arith, waits_j, waits-is e (s.errand j).point, one-desc d e (installing (s.errand j).point) differ first) in bad in
    omega (
      arith,
      two-terms g.callers (λ k. errand_frames f (s.errand k)) i j has_i has_j apart,
      waiting-framed g s l i d f old has_i waits_i lies_d,
      waiting-framed g s l j e f old has_j waits_j lies_e,
    )

-- two bound superblocks lie in two frames
pub bound-apart :
    (g : Geometry) (s : State) (l : Lists) (d e f : ℕ) → IsSoundWith g s l → d < descriptor_count g → e < descriptor_count g
    → f < g.frames → IsTrue (is_bound g s l d) → IsTrue (is_bound g s l e) → (info_for s d).frame ≡ f → (info_for s e).frame ≡ f → d ≢ e → ⊥
bound-apart g s l d e f old has_d has_e has_f bound_d bound_e lies_d lies_e differ =
    let once = old.framed.once f has_f in
    elim (cases_eq (waiting_of g s d) 0) [
      | inl none_d ↦
          let first = bound-fills g s l d f bound_d none_d lies_d in
          elim (cases_eq (waiting_of g s e) 0) [
            | inl none_e ↦
                let second = bound-fills g s l e f bound_e none_e lies_e in
                let both = two-terms (descriptor_count g) (fills_frame g s l f) d e has_d has_e differ in
                omega (arith, once, first, second, both)
            | inr some_e ↦
                let held = installs-framed g s l e f old (some-installs g s e some_e) lies_e in
                omega (arith, once, first, term-sum (descriptor_count g) (fills_frame g s l f) d has_d, held)
          ]
      | inr some_d ↦
          elim (cases_eq (waiting_of g s e) 0) [
            | inl none_e ↦
                let second = bound-fills g s l e f bound_e none_e lies_e in
                let held = installs-framed g s l d f old (some-installs g s d some_d) lies_d in
                omega (arith, once, second, term-sum (descriptor_count g) (fills_frame g s l f) e has_e, held)
            | inr some_e ↦
                let both = both-install g s l d e f old differ (some-installs g s d some_d) (some-installs g s e some_e) lies_d lies_e in
                omega (arith, once, both)
          ]
    ]

-- bound superblocks in one frame are one
pub one-in-frame :
    (g : Geometry) (s : State) (l : Lists) (f d k : ℕ) → IsSoundWith g s l → f < g.frames → d < descriptor_count g → k < descriptor_count g
    → IsTrue (is_bound g s l d) → IsTrue (is_bound g s l k) → (info_for s d).frame ≡ f → (info_for s k).frame ≡ f → d ≡ k
one-in-frame g s l f d k is has has_d has_k bound_d bound_k at_d at_k =
    elim (cases_eq d k) [
      | inl same ↦ same
      | inr differ ↦ absurd (bound-apart g s l d k f is has_d has_k has bound_d bound_k at_d at_k differ)
    ]

-- the frame of a bound superblock is in the hand of the caller with which it waits, or filled
pub held-or-filled :
    (g : Geometry) (s : State) (l : Lists) (f d : ℕ) → IsSoundWith g s l → IsTrue (is_bound g s l d) → (info_for s d).frame ≡ f
    → ((i : ℕ) × (i < g.callers) × (0 < errand_keeps waiting d (s.errand i)) × (0 < errand_frames f (s.errand i))) ⊎ (fills_frame g s l f d ≡ 1)
held-or-filled g s l f d is bound stands =
    elim (cases_eq (waiting_of g s d) 0) [
      | inl none ↦ inr (bound-fills g s l d f bound none stands)
      | inr some ↦
          let (i, has, waits) = some-installs g s d some in inl (i, has, waits, waiting-framed g s l i d f is has waits stands)
    ]

-- a caller in whose hand the frame of a bound superblock is waits with that superblock
pub in-hand-waits :
    (g : Geometry) (s : State) (l : Lists) (f d i : ℕ) → IsSoundWith g s l → f < g.frames → d < descriptor_count g → IsTrue (is_bound g s l d)
    → (info_for s d).frame ≡ f → i < g.callers → 0 < errand_frames f (s.errand i) → 0 < errand_keeps waiting d (s.errand i)
unfolding callers_sum
in-hand-waits g s l f d i is has has_d bound stands has_i hand =
    let once = is.framed.once f has in
    let hands = λ (j : ℕ). errand_frames f (s.errand j) in
    elim (held-or-filled g s l f d is bound stands) [
      | inl one ↦
          elim (cases_eq one.0 i) [
            | inl same ↦ subst (λ j. 0 < errand_keeps waiting d (s.errand j)) same one.2
            | inr ne ↦ absurd (omega (arith, once, one.3, hand, two-terms g.callers hands one.0 i one.1 has_i ne))
          ]
      | inr filled ↦
          absurd
          (omega (arith, once, filled, hand, term-sum g.callers hands i has_i, term-sum (descriptor_count g) (fills_frame g s l f) d has_d))
    ]

-- a superblock that waits fills nothing
pub waiting-fills : (g : Geometry) (s : State) (l : Lists) (d f : ℕ) → waiting_of g s d ≡ 1 → fills_frame g s l f d ≡ 0
waiting-fills g s l d f one = rw one (grind (arith))
