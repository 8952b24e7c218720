-- A step that takes the first index off a stack, or puts one in front: what it changes, and that everything else stays.
use Rattle.std.proofs.Common.{ℕ, ◌≡◌, ◌<◌, ◌≤◌, ◌+◌, ◌⊎◌, All}
use Rattle.sound_state.proofs.Common.{Geometry, CLASSES, head_of, WordName, SeatFields, occurs, Pile, head_name, ErrandFields, State, Moves, errand_frames, on_its_way}
use Rattle.sound_state.proofs.Common.{IsPartlyUsed, Lists, IsListed, callers_sum, anchor_for, reserved_of, waiting_of, errand_keeps, errand_away, places_of, list_of}
use Rattle.sound_state.proofs.Common.{stock_of, turn_unframed, turn_unlisted, errand_pops}
use Rattle.packed_words.specs.declared.anchor.AnchorState.TheVariants as phase
use Rattle.word_table.specs.declared.name.WordName.TheVariants as name
use Rattle.sound_state.proofs.shared.ShownLemmas.{MayGuard, MayStand}
use Rattle.sound_state.proofs.shared.TieLemmas.{Excepts}
use Rattle.sound_state.proofs.shared.TurnEffects.{OwnCounts}

-- the word is no head of frames or of a class's list
abbrev pub IsNoHead : WordName → Type 0
IsNoHead name.FrameHead = ⊥
IsNoHead (name.ListHead class) = ⊥
IsNoHead n = Unit {0}

-- a descriptor is away as often as before, or is EMPTY and no less away
abbrev pub IsAwayStill : Geometry → State → ℕ → State → Type 0
IsAwayStill g s d s' =
    (callers_sum g (errand_away d) s'.errand ≡ callers_sum g (errand_away d) s.errand)
    ⊎ (((anchor_for s d).state ≡ phase.Empty) × (callers_sum g (errand_away d) s.errand ≤ callers_sum g (errand_away d) s'.errand))

-- a caller goes on, one head changes, and the index that is off the stack after it or before it is in the caller's hand then; all else stays
pub record Restacks (g : Geometry) (s : State) (l : Lists) (caller : ℕ) (e : ErrandFields) (s' : State) (l' : Lists) : Type 0 where
  pub in_heap : caller < g.callers
  pub moves : Moves s.errand caller e s'.errand
  pub may : MayStand g s l caller e
  pub guards : MayGuard g s caller e.point e.retired (s.word (name.Hazard caller))
  pub excepts : (place : ℕ) → Excepts (s.errand caller) place → Excepts e place
  pub counts : OwnCounts caller s.history e
  pub cleared : e.cleared ≡ (s.errand caller).cleared
  pub word : (n : WordName) → IsNoHead n → s'.word n ≡ s.word n
  pub history : s'.history ≡ s.history
  pub listed : IsListed g s'.word l'
  pub available : l'.available ≡ l.available
  pub partly : (class : ℕ) → class < CLASSES → All (λ d. IsPartlyUsed s d class) (l'.partials class)
  pub reserved : (d : ℕ) → reserved_of g s' d ≡ reserved_of g s d
  pub waits : (d : ℕ) → waiting_of g s' d ≡ waiting_of g s d
  pub ways : (d : ℕ) → callers_sum g (errand_keeps on_its_way d) s'.errand ≤ callers_sum g (errand_keeps on_its_way d) s.errand
  pub away : (d : ℕ) → IsAwayStill g s d s'
  pub places : (d : ℕ) → places_of g s' l' d ≡ places_of g s l d
  pub frames :
      (f : ℕ)
      → occurs f l'.frames + callers_sum g (errand_frames f) s'.errand ≡ occurs f l.frames + callers_sum g (errand_frames f) s.errand
  pub stock : (class : ℕ) → stock_of g s' l' class ≤ stock_of g s l class
  pub tag :
      (seat : SeatFields) (pile : Pile)
      → (head_of (s.word (head_name seat pile))).tag ≤ (head_of (s'.word (head_name seat pile))).tag
  pub still :
      (seat : SeatFields) (pile : Pile)
      → (head_of (s.word (head_name seat pile))).tag ≡ (head_of (s'.word (head_name seat pile))).tag
      → (i : ℕ) → occurs i (list_of l seat pile) ≤ occurs i (list_of l' seat pile)
  pub frame_turns :
      (head_of (s'.word name.FrameHead)).tag + turn_unframed e + (s.errand caller).turns
      ≤ (head_of (s.word name.FrameHead)).tag + turn_unframed (s.errand caller) + e.turns
  pub list_turns :
      (class : ℕ)
      → (head_of (s'.word (name.ListHead class))).tag + errand_pops e + turn_unlisted e + (s.errand caller).turns
      ≤ (head_of (s.word (name.ListHead class))).tag + errand_pops (s.errand caller) + turn_unlisted (s.errand caller) + e.turns
