-- A step after which a state shows the same superblocks and events, and the same lists but for the available descriptors, is sound if it was.
use Rattle.std.proofs.Common.{ℕ, Some, ◌≡◌, ◌≢◌, ◌<◌, ◌≤◌, ◌+◌, List, length, refl, arith, ap, sym, subst, inl, inr, ◌∙◌, ◌⊎◌, slice_index, All, Contains}
use Rattle.std.proofs.lemmas.Bool.{cases_eq}
use Rattle.sound_state.proofs.Common.{Geometry, WordName, descriptor_count, Pile, Frames, Partials, head_name, next_name, Stacked, next_in, SeatFields, occurs, own}
use Rattle.sound_state.proofs.Common.{pool_of, Point, ErrandFields, spare_of, pushed_by, State, Moves, errand_frames, IsGuarded, IsGuard, IsHazard, passed_by}
use Rattle.sound_state.proofs.Common.{held_by, on_its_way, holds_of, IsKept, IsWithout, IsKeptAs, Lists, IsListed, IsSo, IsOwned, recalls_of, IsFormed, sum_below}
use Rattle.sound_state.proofs.Common.{callers_sum, reserved_of, waiting_of, is_bound, errand_keeps, IsTurned, emptied_out, Guards, places_of, IsRemembered, list_of}
use Rattle.sound_state.proofs.Common.{IsStocked, IsSaidWord, Part, stacks, availables, events, single}
use Rattle.word_table.specs.declared.name.WordName.TheVariants as name
use Rattle.sound_state.proofs.shared.BackedRecalls.{AllRead, OthersRemember, fits-next, recalls-stay, remembered-stays}
use Rattle.sound_state.proofs.shared.CallerLemmas.{each-caller}
use Rattle.sound_state.proofs.shared.ListEffects.{IsListWord, listed-anew}
use Rattle.sound_state.proofs.shared.TurnEffects.{CountsGo, IsTurnedBut, OwnCounts, head-tag, no-event, turned-from}
use Rattle.sound_state.proofs.shared.RecallFrame.{stack-same}
use Rattle.sound_state.proofs.shared.TieLemmas.{Excepts, IsSaidAt}
use Rattle.sound_state.proofs.shared.SuperblocksStay.{ActivesKept, IsSuperblockWord, RestStays, ShowsSuperblocks, descs-kept, descs-show, shows-part}

-- a caller may stand at the point: what it keeps, remembers, hands out and frees there is so
pub record MayStandAt (g : Geometry) (s : State) (l : Lists) (caller : ℕ) (q : Point) : Type 0 where
  pub kept : All (λ k. IsKeptAs s k.status k.desc k.class) (holds_of q).kept
  pub so : All (IsSo g s l caller) (recalls_of q)
  pub hands : All (λ x. IsOwned s caller x.place x.need) (holds_of q).hands
  pub frees : All (λ x. IsOwned s caller x.place x.need) (holds_of q).frees

-- a caller may stand with this errand: at its point, and with what it has retired
pub record MayStand (g : Geometry) (s : State) (l : Lists) (caller : ℕ) (e : ErrandFields) : Type 0 where
  pub point : MayStandAt g s l caller e.point
  pub retired : All (IsWithout s) e.retired
  pub full : spare_of e.point ≡ 1 → length e.retired ≡ g.callers + 1

-- a caller may go on from one errand to another in a state
pub record MayGoOn (g : Geometry) (s : State) (l : Lists) (caller : ℕ) (a b : ErrandFields) : Type 0 where
  pub stands : MayStand g s l caller b
  pub excepts : (place : ℕ) → Excepts a place → Excepts b place ⊎ IsSaidAt g s l place
  pub counts : CountsGo caller s.history a b

-- the descriptor is free to be guarded anew: it is retired nowhere, and nobody pushes it
pub record IsUnretired (g : Geometry) (s : State) (d : ℕ) : Type 0 where
  pub pushed : (other : ℕ) → other < g.callers → pushed_by (s.errand other).point ≡ Some d → ⊥
  pub listed : (other : ℕ) → other < g.callers → Contains (s.errand other).retired d → ⊥

-- a caller may begin to guard the descriptor at a point at which it neither pushes it nor scans
pub record GuardsAnew (g : Geometry) (s : State) (q : Point) (d : ℕ) : Type 0 where
  pub unretired : IsUnretired g s d
  pub pushed : pushed_by q ≡ Some d → ⊥
  pub passed : passed_by q ≡ 0

-- a caller may stand at the point with this hazard word and this retired list, by the hazard words that were there
pub record MayGuard (g : Geometry) (s : State) (caller : ℕ) (q : Point) (retired : List ℕ) (word : ℕ) : Type 0 where
  pub hazard : IsHazard (holds_of q).hazard word
  pub guard : (d : ℕ) → word ≡ d + 1 → IsGuard (holds_of q).hazard → Guards s caller d ⊎ GuardsAnew g s q d
  pub pushed : (i d : ℕ) → i < g.callers → Guards s i d → pushed_by q ≡ Some d → ⊥
  pub passed :
      (i d : ℕ) → i < g.callers → Guards s i d → Contains retired d → i < passed_by q → slice_index (held_by q) i ≡ d + 1
  pub unread : (i : ℕ) → passed_by q ≤ i → i < length (held_by q) → slice_index (held_by q) i ≡ 0

-- guards stay in order where a caller goes on and may guard what it does then, and the others' hazard words stay
pub guarded-goes :
    (g : Geometry) (s : State) (caller : ℕ) (e : ErrandFields) (s' : State) → Moves s.errand caller e s'.errand
    → ((i : ℕ) → i ≢ caller → s'.word (name.Hazard i) ≡ s.word (name.Hazard i))
    → MayGuard g s caller e.point e.retired (s'.word (name.Hazard caller)) → (spare_of e.point ≡ 1 → length e.retired ≡ g.callers + 1) → IsGuarded g s
    → IsGuarded g s'
guarded-goes g s caller e s' moves others mine full guarded =
    let was : (i d : ℕ) → Guards s' i d → Guards s i d ⊎ ((i ≡ caller) × GuardsAnew g s e.point d) =
    λ i d guards.
    elim (cases_eq i caller) [
      | inl same ↦
          let here : Guards s' caller d = subst (λ j. Guards s' j d) same guards in
          elim (mine.guard d here.word (subst (λ f. IsGuard (holds_of f.point).hazard) moves.here here.guard)) [
            | inl old ↦ inl (subst (λ j. Guards s j d) (sym same) old)
            | inr anew ↦ inr (same, anew)
          ]
      | inr differ ↦
          inl (record {
            word = sym (others i differ) ∙ guards.word;
            guard = subst (λ f. IsGuard (holds_of f.point).hazard) (moves.elsewhere i differ) guards.guard;
          })
    ] in
    record {
      words = λ i has.
          elim (cases_eq i caller) [
            | inl same ↦
                let here : IsHazard (holds_of (s'.errand caller).point).hazard (s'.word (name.Hazard caller)) =
                subst (λ f. IsHazard (holds_of f.point).hazard (s'.word (name.Hazard caller))) (sym moves.here) mine.hazard in
                subst (λ j. IsHazard (holds_of (s'.errand j).point).hazard (s'.word (name.Hazard j))) (sym same) here
            | inr differ ↦
                subst (λ w. IsHazard (holds_of (s'.errand i).point).hazard w) (sym (others i differ))
                (subst (λ f. IsHazard (holds_of f.point).hazard (s.word (name.Hazard i))) (sym (moves.elsewhere i differ)) (guarded.words i has))
          ];
      pushed = λ i other d has has_other guards.
          elim (was i d guards) [
            | inl old ↦
                each-caller g (λ j f. pushed_by f.point ≡ Some d → ⊥) s.errand caller e s'.errand moves (mine.pushed i d has old)
                (λ j has_j. guarded.pushed i j d has has_j old) other has_other
            | inr anew ↦
                each-caller g (λ j f. pushed_by f.point ≡ Some d → ⊥) s.errand caller e s'.errand moves anew.1.pushed anew.1.unretired.pushed other
                has_other
          ];
      passed = λ i other d has has_other guards.
          elim (was i d guards) [
            | inl old ↦
                each-caller g (λ j f. Contains f.retired d → i < passed_by f.point → slice_index (held_by f.point) i ≡ d + 1) s.errand caller e s'.errand
                moves (mine.passed i d has old) (λ j has_j. guarded.passed i j d has has_j old) other has_other
            | inr anew ↦
                each-caller g (λ j f. Contains f.retired d → i < passed_by f.point → slice_index (held_by f.point) i ≡ d + 1) s.errand caller e s'.errand
                moves (λ listed below. let bad : ⊥ = omega (arith, below, anew.1.passed) in absurd bad)
                (λ j has_j listed below. absurd (anew.1.unretired.listed j has_j listed)) other has_other
          ];
      unread = λ i k has passed below.
          each-caller g (λ j e. passed_by e.point ≤ k → k < length (held_by e.point) → slice_index (held_by e.point) k ≡ 0) s.errand caller e s'.errand
          moves (mine.unread k) (λ j has_j passed below. guarded.unread j k has_j passed below) i has passed below;
      full =
          each-caller g (λ i e. spare_of e.point ≡ 1 → length e.retired ≡ g.callers + 1) s.errand caller e s'.errand moves full guarded.full;
    }

-- the word is no active word, no slot, no hazard word, and not the head of the available descriptors
abbrev pub IsShown : WordName → Type 0
IsShown (name.Active heap class) = ⊥
IsShown (name.Slot heap class) = ⊥
IsShown (name.Hazard caller) = ⊥
IsShown name.DescHead = ⊥
IsShown n = Unit {0}

-- a head or a next word is a shown word, but for the head of the available descriptors
list-shown : (n : WordName) → IsListWord n → n ≢ name.DescHead → IsShown n
list-shown name.DescHead is differ = differ refl
list-shown n is differ = grind (arith)

-- the lists with these available descriptors instead
abbrev pub with_available : Lists → List ℕ → Lists
with_available l ys = record l { available = ys }

pile-list-stays : (l : Lists) (ys : List ℕ) (seat : SeatFields) (p : Pile) → list_of (with_available l ys) seat p ≡ list_of l seat p
pile-list-stays l ys seat Frames = refl
pile-list-stays l ys seat Partials = refl

-- a word that recalls name is such a word
said-shown : (n : WordName) → IsSaidWord n → IsShown n
said-shown n said = grind (arith)

-- a word of a superblock is such a word
superblock-shown : (n : WordName) → IsSuperblockWord n → IsShown n
superblock-shown n is = grind (arith)

-- the part is of no descriptor that is available only now
abbrev pub IsListedPart : Lists → List ℕ → Part → Type 0
IsListedPart l ys (availables d) = occurs d ys ≤ occurs d l.available
IsListedPart l ys p = Unit {0}

-- a caller goes on, and the state shows the same superblocks, events and lists, but for the available descriptors
pub record ShowsSame (g : Geometry) (s : State) (l : Lists) (caller : ℕ) (e : ErrandFields) (s' : State) (ys : List ℕ) : Type 0 where
  pub in_heap : caller < g.callers
  pub moves : Moves s.errand caller e s'.errand
  pub may : MayGoOn g s l caller (s.errand caller) e
  pub others : (i : ℕ) → i ≢ caller → s'.word (name.Hazard i) ≡ s.word (name.Hazard i)
  pub guards : MayGuard g s caller e.point e.retired (s'.word (name.Hazard caller))
  pub actives : ActivesKept g s s'.word
  pub word : (n : WordName) → IsShown n → s'.word n ≡ s.word n
  pub history : s'.history ≡ s.history
  pub stacked : Stacked (next_in s.word Partials) (s'.word name.DescHead) ys
  pub exist : All (λ d. d < descriptor_count g) ys
  pub without : All (IsWithout s) ys
  pub reserved : (d : ℕ) → reserved_of g s' d ≡ reserved_of g s d
  pub waits : (d : ℕ) → waiting_of g s' d ≡ waiting_of g s d
  pub ways :
      (d : ℕ) → occurs d l.available ≡ 0 → callers_sum g (errand_keeps on_its_way d) s'.errand ≤ callers_sum g (errand_keeps on_its_way d) s.errand
  pub bound : (d : ℕ) → is_bound g s' (with_available l ys) d ≡ is_bound g s l d
  pub places : (d : ℕ) → places_of g s' (with_available l ys) d ≡ places_of g s l d
  pub frames : (f : ℕ) → callers_sum g (errand_frames f) s'.errand ≡ callers_sum g (errand_frames f) s.errand
  pub stock : IsStocked g s l → IsStocked g s' (with_available l ys)
  pub emptied :
      sum_below (descriptor_count g) (emptied_out g s' (with_available l ys)) + e.cleared
      ≤ sum_below (descriptor_count g) (emptied_out g s l) + (s.errand caller).cleared
  pub stays : (i : ℕ) → i < g.callers → AllRead (IsListedPart l ys) (s.errand i).point
  pub stays_here : AllRead (IsListedPart l ys) e.point

-- what such a step leaves of each field of the sound state
module _
    {g : Geometry} {s : State} {l : Lists} {caller : ℕ} {e : ErrandFields} {s' : State} {ys : List ℕ} (go : ShowsSame g s l caller e s' ys) where
  pub shown-superblocks : ShowsSuperblocks g s l s' (with_available l ys)
  shown-superblocks = grind (arith, pool_of, superblock-shown)

  head-shown : (seat : SeatFields) (p : Pile)
      → s'.word (head_name seat p) ≡ s.word (head_name seat p)
  head-shown seat Frames = go.word name.FrameHead tt
  head-shown seat Partials = go.word (name.ListHead seat.class) tt

  next-shown : (p : Pile) (i : ℕ)
      → s'.word (next_name p i) ≡ s.word (next_name p i)
  next-shown Frames i = go.word (name.FrameNext i) tt
  next-shown Partials i = go.word (name.Next i) tt

  -- the parts that may change stay
  shown-part : (i : ℕ) (p : Part) → IsListedPart l ys p → RestStays g s l s' (with_available l ys) i p
  shown-part i (stacks seat p) of =
      λ class. stack-same s l s' (with_available l ys) seat p (head-shown seat p) (pile-list-stays l ys seat p) (next-shown p)
  shown-part i (availables d) of = record {
    emptied = λ so. record {
      state = ap (λ a. a.state) ((descs-show shown-superblocks).anchor d) ∙ so.state;
      unavailable = omega (arith, so.unavailable, of);
      standing = omega (arith, go.ways d so.unavailable, so.standing);
    };
    next = λ on. (omega (arith, on, of), go.word (name.Next d) tt);
  }
  shown-part i events of = ap (own i) go.history
  shown-part i (single n) of = λ said. go.word n (said-shown n said)
  shown-part i p of = tt

  pub listed-shown : IsListed g s.word l → IsListed g s'.word (with_available l ys)
  listed-shown = listed-anew g s.word s'.word l ys (λ n is differ. go.word n (list-shown n is differ)) go.stacked go.exist

  pub kept-shown : IsKept g s l → IsKept g s' (with_available l ys)
  kept-shown kept =
      descs-kept g s caller e s' l (with_available l ys)
      (record {
        moves = go.moves;
        descs = descs-show shown-superblocks;
        places = go.places;
        actives = go.actives;
        listed = kept.listed;
        available = go.without;
        retired = go.may.stands.retired;
        own = go.may.stands.point.kept;
      })
      kept

  pub remembered-shown : IsFormed g s → OthersRemember g s l caller → IsFormed g s' → IsRemembered g s' (with_available l ys)
  remembered-shown old others formed =
      remembered-stays g s l caller e s' (with_available l ys) go.moves old.errands others
      (recalls-stay g s l caller s' (with_available l ys) e.point (fits-next g s caller e s' formed go.in_heap go.moves) go.may.stands.point.so
      (λ k d lt. shows-part shown-superblocks caller _ (shown-part caller _ (go.stays_here k d lt))))
      (λ i has ne k d lt. shows-part shown-superblocks i _ (shown-part i _ (go.stays i has k d lt)))

  pub turned-shown : IsTurnedBut g s l caller → IsTurned g s' (with_available l ys)
  turned-shown turned =
      let events = no-event g caller s.history s'.history go.history in
      turned-from g s l caller e s' (with_available l ys) 0 0
      (record {
        in_heap = go.in_heap;
        moves = go.moves;
        events = events;
        counts = subst (λ past. OwnCounts caller past e) (sym go.history) go.may.counts.own;
        anchor_tags = λ d has. omega (arith, ap (λ a. a.tag) ((descs-show shown-superblocks).anchor d));
        frame_turns = omega (arith, head-tag (go.word name.FrameHead tt), go.may.counts.frame_turns);
        emptied = omega (arith, go.emptied);
        list_turns = λ class has. omega (arith, head-tag (go.word (name.ListHead class) tt), go.may.counts.list_turns);
      })
      turned
