-- Who alone may store what a descriptor says: the caller that keeps it, partly used or on its way.
use Rattle.std.proofs.Common.{ℕ, Some, ◌≡◌, ◌≢◌, ◌<◌, ◌≤◌, ◌+◌, List, [], ◌∷◌, arith, ap, sym, subst, inl, inr, ◌∙◌, ◌==◌, ◌&&◌, if◌then◌else◌, IsTrue, IsSome, eq-eqb}
use Rattle.std.specs.List.{AllByRecursion}
use Rattle.std.proofs.lemmas.Bool.{cases_eq, cond-true}
use Rattle.std.proofs.lemmas.List.Elements.{All-from_recursion}
use Rattle.sound_state.proofs.Common.{Geometry, Held, active_of, WordName, descriptor_count, info_in, Writes, occurs, State, Kept, Status, reserving}
use Rattle.sound_state.proofs.Common.{waiting, partly_used, on_its_way, holds_of, word_keeps, full_keeps, Lists, IsSoundWith, anchor_for, is_bound, kept_among}
use Rattle.sound_state.proofs.Common.{Part, active_keeps, places, same_status, single}
use Rattle.word_table.specs.declared.name.WordName.TheVariants as name
use Rattle.sound_state.proofs.shared.ListFacts.{all-occurring}
use Rattle.sound_state.proofs.shared.UnplacedLemmas.{IsUnplaced}
use Rattle.sound_state.proofs.stores.StoreFields.{IsPlaceKept, IsKeptStill, IsStillSaid, PlacesKept, LoneKept}
use Rattle.sound_state.proofs.shared.BackedRecalls.{AllRead}
use Rattle.sound_state.proofs.stores.StoreReads.{IsBlindTo, IsUnread, off-said, links-stay, blocks-kept, place-same, all-places-kept}

abbrev pub info_number : WordName → ℕ
info_number (name.Info d) = d
info_number n = 0

-- the other descriptors say what they said after a write of one info word
pub infos-elsewhere :
    (s : State) (d new : ℕ) (words' : WordName → ℕ) → Writes s.word (name.Info d) new words' → (e : ℕ) → e ≢ d
    → words' (name.Info e) ≡ s.word (name.Info e)
infos-elsewhere s d new words' w e differ = w.elsewhere (name.Info e) (λ is. differ (ap info_number is))

pub places-elsewhere :
    (s : State) (d new : ℕ) (words' : WordName → ℕ) → Writes s.word (name.Info d) new words' → (e : ℕ) → e ≢ d → IsPlaceKept s words' e
places-elsewhere s d new words' w e differ = place-same s words' e (infos-elsewhere s d new words' w e differ)

-- each descriptor says where a superblock may lie after a write of such an info word
infos-some :
    (g : Geometry) (s : State) (l : Lists) (d new : ℕ) (words' : WordName → ℕ) → IsSoundWith g s l → IsSome (info_in g new)
    → Writes s.word (name.Info d) new words' → (e : ℕ) → e < descriptor_count g → IsSome (info_in g (words' (name.Info e)))
infos-some g s l d new words' old some w e has = grind (arith, old, some, w, has, infos-elsewhere)

-- the part reads what other descriptors say
abbrev pub IsOfOther : ℕ → Part → Type 0
IsOfOther d (single n) = n ≢ name.Info d
IsOfOther d (places e) = e ≢ d
IsOfOther d q = Unit {0}

pub other-off : (d : ℕ) (q : Part) → IsOfOther d q → IsBlindTo (name.Info d) q
other-off d q other = grind (arith, other)

other-place : (d : ℕ) (q : Part) (e : ℕ) → IsOfOther d q → q ≡ places e → e ≢ d
other-place d q e other is = subst (IsOfOther d) is other

-- a store into an info word keeps what is read of words that are stored alone, where what is read of the descriptor is kept
infos-kept :
    (g : Geometry) (s : State) (l : Lists) (d new : ℕ) (words' : WordName → ℕ) → IsSoundWith g s l
    → Writes s.word (name.Info d) new words' → PlacesKept g s l words'
    → ((i : ℕ) → i < g.callers → AllRead (IsStillSaid s words') (s.errand i).point) → LoneKept g s l words'
infos-kept g s l d new words' old w named said = record {
  links = links-stay g s l (name.Info d) new words' old w (λ no. no);
  places = named;
  blocks = blocks-kept g s l (name.Info d) new words' w (λ no. no);
  recalls = said;
}

-- kept descriptors are kept still where all others' frames and classes stay, and d is kept only on its way
abbrev kept_once : Status → ℕ → ℕ → Status → ℕ
kept_once as_kept d e status = if (e == d) && same_status status as_kept then 1 else 0

still-one :
    (s : State) (w : WordName → ℕ) (d e : ℕ) (status : Status) → (e ≢ d → IsPlaceKept s w e)
    → kept_once reserving d e status ≡ 0 → kept_once waiting d e status ≡ 0 → kept_once partly_used d e status ≡ 0 → IsKeptStill s w status e
still-one s w d e reserving other r v p = other (λ is. let bad : ⊥ = grind (arith, r, eq-eqb e d is) in bad)
still-one s w d e waiting other r v p = other (λ is. let bad : ⊥ = grind (arith, v, eq-eqb e d is) in bad)
still-one s w d e partly_used other r v p = other (λ is. let bad : ⊥ = grind (arith, p, eq-eqb e d is) in bad)
still-one s w d e on_its_way other r v p = tt

still-kept :
    (s : State) (w : WordName → ℕ) (d : ℕ) (ks : List Kept) → ((e : ℕ) → e ≢ d → IsPlaceKept s w e) → kept_among reserving d ks ≡ 0
    → kept_among waiting d ks ≡ 0 → kept_among partly_used d ks ≡ 0 → AllByRecursion (λ k. IsKeptStill s w k.status k.desc) ks
still-kept s w d [] other r v p = tt
still-kept s w d (k ∷ ks) other r v p = (
  still-one s w d k.desc k.status (other k.desc) (omega (arith, r)) (omega (arith, v)) (omega (arith, p)),
  still-kept s w d ks other (omega (arith, r)) (omega (arith, v)) (omega (arith, p)),
)

-- a store that leaves the frame and the class of a descriptor keeps what is read of words that are stored alone
pub placed-kept :
    (g : Geometry) (s : State) (l : Lists) (d new : ℕ) (words' : WordName → ℕ) → IsSoundWith g s l
    → IsSome (info_in g new) → Writes s.word (name.Info d) new words' → IsPlaceKept s words' d
    → ((i : ℕ) → i < g.callers → IsUnread (name.Info d) (s.errand i).point)
    → LoneKept g s l words'
placed-kept g s l d new words' old some w here unread =
    let place : (e : ℕ) → IsPlaceKept s words' e =
    λ e.
    elim (cases_eq e d) [
      | inl is ↦ subst (IsPlaceKept s words') (sym is) here
      | inr differ ↦ places-elsewhere s d new words' w e differ
    ] in
    infos-kept g s l d new words' old w (all-places-kept g s l words' (infos-some g s l d new words' old some w) place)
    (λ i has k r lt. off-said s (name.Info d) new words' tt w _ (unread i has k r lt) (λ e is. place e))

pub holds-it : (d e credits : ℕ) → e ≡ d → 1 ≤ active_keeps d (Some (Held e credits))
holds-it d e credits is = omega (arith, cond-true {A = ℕ} (e == d) 1 0 (eq-eqb e d is))

-- a store of what a descriptor in no place says keeps what is read of the words that are stored alone
pub unplaced-kept :
    (g : Geometry) (s : State) (l : Lists) (d new : ℕ) (words' : WordName → ℕ) → IsSoundWith g s l
    → IsSome (info_in g new) → Writes s.word (name.Info d) new words' → IsUnplaced g s l d
    → ((i : ℕ) → i < g.callers → AllRead (IsOfOther d) (s.errand i).point) → LoneKept g s l words'
unplaced-kept g s l d new words' old some w free others =
    let other : (e : ℕ) → e ≢ d → IsPlaceKept s words' e = places-elsewhere s d new words' w in
    infos-kept g s l d new words' old w
    (record {
      infos = infos-some g s l d new words' old some w;
      bound = λ e bound. other e (λ is. free.bound (subst (λ k. IsTrue (is_bound g s l k)) is bound));
      active = λ heap class e credits has_heap has_class is.
          other e
          (λ same_desc.
          let none : active_keeps d (active_of (s.word (name.Active heap class))) ≡ 0 = free.words (name.Active heap class) (has_heap, has_class) in
          let bad : ⊥ = omega (arith, holds-it d e credits same_desc, ap (active_keeps d) is, none) in bad);
      slot = λ heap class e has_heap has_class is.
          other e
          (λ same_desc.
          let none : word_keeps d (name.Slot heap class) (s.word (name.Slot heap class)) ≡ 0 = free.words (name.Slot heap class) (has_heap, has_class) in
          let held : s.word (name.Slot heap class) ≡ d + 1 = is ∙ ap (λ k. k + 1) same_desc in
          let bad : ⊥ = omega (arith, none, cond-true {A = ℕ} (s.word (name.Slot heap class) == d + 1) 1 0 (eq-eqb (s.word (name.Slot heap class)) (d + 1) held)) in bad);
      listed = λ class has.
          All-from_recursion (IsPlaceKept s words') (l.partials class)
          (all-occurring (IsPlaceKept s words') (l.partials class)
          (λ e on.
          other e
          (λ is.
          let on_d : 0 < occurs d (l.partials class) = subst (λ k. 0 < occurs k (l.partials class)) is on in
          let bad : ⊥ = omega (arith, on_d, free.listed class has) in bad)));
      errand = λ i has.
          All-from_recursion (λ k. IsKeptStill s words' k.status k.desc) (holds_of (s.errand i).point).kept
          (still-kept s words' d (holds_of (s.errand i).point).kept other (free.reserving i has) (free.waiting i has) (free.partly i has));
      full = λ e has.
          elim (cases_eq e d) [
            | inl is ↦ inr (subst (λ k. full_keeps (anchor_for s k).state ≡ 0) (sym is) free.full)
            | inr differ ↦ inl (other e differ)
          ];
    })
    (λ i has k r lt.
    let read = others i has k r lt in off-said s (name.Info d) new words' tt w _ (other-off d _ read) (λ e is. other e (other-place d _ e read is)))
