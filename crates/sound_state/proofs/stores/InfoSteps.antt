-- Steps that store what a descriptor says.
use Rattle.std.proofs.Common.{ℕ, Some, ◌≡◌, ◌<◌, ◌≤◌, refl, arith, ap, sym, subst, inl, inr, ◌∙◌, IsSome, lt-ltb}
use Rattle.std.specs.List.{AllByRecursion}
use Rattle.std.proofs.lemmas.Bool.{cases_eq}
use Rattle.std.proofs.lemmas.List.Elements.{All-cons, All-from_recursion}
use Rattle.sound_state.proofs.Common.{Geometry, IsChecked, info_of, Site, descriptor_count, info_in, IsSiteOf, Writes, Continuation, Point, Block, Partial}
use Rattle.sound_state.proofs.Common.{event_of, next_of, plan_point_of, State, partly_used, on_its_way, holds_of, errand_has, Lists, IsSo, recalls_of, IsSoundWith}
use Rattle.sound_state.proofs.Common.{ErrandFields, Holding, Part, part_of, places, single, info_or_zero, errand_keeps}
use Rattle.sound_state.proofs.Common.{InfoFields, info_word, info-exact, info_within, info_at}
use Rattle.word_table.specs.declared.name.WordName.TheVariants as name
use Rattle.step_parts.specs.declared.superblock.point.BlockPoint.TheVariants as block
use Rattle.step_parts.specs.declared.partial.point.PartialPoint.TheVariants as partial
use Rattle.sound_state.proofs.shared.UnplacedLemmas.{way-unplaced, IsUnplaced}
use Rattle.sound_state.proofs.shared.WordFacts.{site-heap, site-info}
use Rattle.sound_state.proofs.stores.StoreFields.{between}
use Rattle.sound_state.proofs.stores.StoreReads.{IsBlindTo, unread-stands}
use Rattle.sound_state.proofs.shared.BackedRecalls.{AllRead, for-each}
use Rattle.sound_state.proofs.shared.RecallFrame.{Reads}
use Rattle.sound_state.proofs.stores.StoreSteps.{store-sound}
use Rattle.sound_state.proofs.stores.InfoPlaces.{IsOfOther, other-off, placed-kept, unplaced-kept}
use Rattle.sound_state.proofs.shared.PointLemmas.{fits-at, kept_places, so-at, recalled-at, goes-on}
use Rattle.sound_state.proofs.quiet.QuietLinks.{desc-alone, written-at}
use Rattle.sound_state.proofs.shared.HasLemmas.{kept-itself, keeps-at, has-at}
use Rattle.sound_state.proofs.shared.KeepsSound.{KeepsSound}

within-some : (g : Geometry) (i : InfoFields) → i.frame < g.frames → i.heap < g.heaps → IsSome (info_within g (Some i))
within-some g i in_frames in_heaps = grind (arith, in_frames, in_heaps, lt-ltb)

site-some : (g : Geometry) (caller : ℕ) (at : Site) → IsChecked g → IsSiteOf g caller at → IsSome (info_in g (info_word (info_at at)))
site-some g caller at checked site =
    subst (λ i. IsSome (info_within g i)) (sym (info-exact.back (info_at at) (site-info g caller at checked site)))
    (within-some g (info_at at) site.frame (site-heap g caller at checked site))

-- what is read of what a descriptor says is read of one that is kept
abbrev IsOfKept : Holding → Part → Type 0
IsOfKept h (single (name.Info d)) = 1 ≤ kept_places d h.kept
IsOfKept h (places d) = 1 ≤ kept_places d h.kept
IsOfKept h q = Unit {0}

kept-read : (p : Point) → AllByRecursion (Reads (IsOfKept (holds_of p))) (recalls_of p)
unfolding holds_of recalls_of
kept-read p = grind (arith, kept-itself)

kept-other : (d : ℕ) (e : ErrandFields) → errand_has d e ≡ 0 → (q : Part) → IsOfKept (holds_of e.point) q → IsOfOther d q
kept-other d e none q keeps = grind (arith, none, keeps)

-- a caller that has a descriptor reads alone what that says
others-read :
    (g : Geometry) (s : State) (l : Lists) (caller d : ℕ) → IsSoundWith g s l → caller < g.callers → d < descriptor_count g
    → 1 ≤ errand_has d (s.errand caller) → (P : Part → Type 0) → ((q : Part) → IsOfOther d q → P q) → AllRead P (s.errand caller).point
    → (i : ℕ) → i < g.callers → AllRead P (s.errand i).point
others-read g s l caller d old has exists mine P goes own i has_i =
    let e = s.errand i in
    elim (cases_eq i caller) [
      | inl is ↦ subst (λ j. AllRead P (s.errand j).point) (sym is) own
      | inr differ ↦
          for-each (Reads (IsOfKept (holds_of e.point))) (Reads P)
          (λ r keeps. goes (part_of r) (kept-other d e ((desc-alone g s l caller d old has exists mine).others i has_i differ) (part_of r) keeps))
          (recalls_of e.point) (kept-read e.point)
    ]

-- the store of a taken superblock's processor heap keeps the state sound
pub store_owner-sound : (site : Site) (o : Continuation) → KeepsSound (Partial (partial.StoreOwner site) o)
unfolding plan_point_of next_of event_of holds_of recalls_of
store_owner-sound site o g s caller s' sound has at step =
    let p = Partial (partial.StoreOwner site) o in
    let q = Partial (partial.LoadGrantAnchor site) o in
    let d = site.desc in
    let new = info_word (info_at site) in
    let w : Writes s.word (name.Info d) new s'.word = written-at s caller s' p at step in
    let fit : IsSiteOf g caller site = (fits-at g s sound.parts.0 caller p sound.parts.1 has at).point in
    let is_info = site-info g caller site sound.checked fit in
    let back : info_of (s'.word (name.Info d)) ≡ Some (info_at site) =
    ap info_of w.here ∙ info-exact.back (info_at site) is_info in
    store-sound g s caller s' p q (name.Info d) new sound has at
    (record {
      stores = record { plan = refl; next = λ v. refl; event = λ v. refl; lost = λ v. refl; cleared = λ v. refl };
      lone = tt;
      holds = grind (arith);
      kept = λ l old.
          let (lies, none) = recalled-at g s l caller p old has at in
          placed-kept g s l d new s'.word old (site-some g caller site sound.checked fit) w
          (ap (λ i. (info_or_zero i).frame) back ∙ sym lies.frame, ap (λ i. (info_or_zero i).class) back ∙ sym lies.class)
          (others-read g s l caller d old has fit.desc (has-at (s.errand caller) p partly_used d at (kept-itself partly_used d site.seat.class))
          (IsBlindTo (name.Info d)) (other-off d)
          (unread-stands s caller (name.Info d) p at (grind (arith))));
      so = λ l old. goes-on g (between s s'.word) l caller p (recalls_of q) old has at (λ so. grind (arith, so));
    })
    step

-- the store of what the descriptor of a new superblock says keeps the state sound
pub store_info-sound : (site : Site) (o : Continuation) → KeepsSound (Block (block.StoreInfo site) o)
unfolding plan_point_of next_of event_of holds_of recalls_of
store_info-sound site o g s caller s' sound has at step =
    let p = Block (block.StoreInfo site) o in
    let q = Block (block.StoreAnchor site) o in
    let d = site.desc in
    let new = info_word (info_at site) in
    let w : Writes s.word (name.Info d) new s'.word = written-at s caller s' p at step in
    let fit : IsSiteOf g caller site = (fits-at g s sound.parts.0 caller p sound.parts.1 has at).point in
    let is_info = site-info g caller site sound.checked fit in
    let way : 1 ≤ errand_keeps on_its_way d (s.errand caller) =
    keeps-at (s.errand caller) p on_its_way d at (kept-itself on_its_way d site.seat.class) in
    store-sound g s caller s' p q (name.Info d) new sound has at
    (record {
      stores = record { plan = refl; next = λ v. refl; event = λ v. refl; lost = λ v. refl; cleared = λ v. refl };
      lone = tt;
      holds = grind (arith);
      kept = λ l old.
          let free : IsUnplaced g s l d = way-unplaced g s l caller d old has fit.desc way in
          unplaced-kept g s l d new s'.word old (site-some g caller site sound.checked fit) w free
          (others-read g s l caller d old has fit.desc (omega (arith, way)) (IsOfOther d) (λ q other. other)
          (subst (AllRead (IsOfOther d)) (sym at) (All-from_recursion (Reads (IsOfOther d)) (recalls_of p) (grind (arith)))));
      so = λ l old.
          All-cons (IsSo g (between s s'.word) l caller) _ (recalls_of p)
          (tt, w.here) (so-at g (between s s'.word) l caller p old has at);
    })
    step
