-- An event that leaves the pool and counts no block keeps the state sound, but for what its caller remembers and how often it was answered.
use Rattle.std.proofs.Common.{ℕ, false, ◌≡◌, ◌≢◌, ◌<◌, List, [], ◌∷◌, ◌++◌, refl, arith, sym, ◌∙◌, eq-eqb}
use Rattle.sound_state.proofs.Common.{Geometry, Moves, Event, own, pool_of, State, IsGuarded, IsKept, Lists, IsSoundWith, IsTurned, gives_small, refuses_small}
use Rattle.sound_state.proofs.Common.{caller_of, EndsWith, Pool, pool_after, pool_of-push, own-append, is_small_alloc, is_small_free, Part, stacks, availables}
use Rattle.sound_state.proofs.Common.{events, single}
use Rattle.sound_state.proofs.shared.EventFacts.{counted-not, told-own}
use Rattle.sound_state.proofs.shared.TurnEffects.{IsTurnedBut, own-counts, counts-stay}
use Rattle.sound_state.proofs.shared.BackedRecalls.{fits-own, recalls-stay, OthersRemember}
use Rattle.sound_state.proofs.shared.RecallFrame.{stack-same}
use Rattle.sound_state.proofs.shared.SuperblocksStay.{RestStays, ShowsSuperblocks, actives-same, descs-kept, descs-show, shows-part}

-- an event of the caller that leaves the pool; it gives no small block and frees none
pub record IsTold (g : Geometry) (caller : ℕ) (event : Event) : Type 0 where
  pub number : caller_of event ≡ caller
  pub pool : (pool : Pool) → pool_after pool event ≡ pool
  pub gives : (i : ℕ) → gives_small i event ≡ false
  pub refuses : (i : ℕ) → i ≢ caller → refuses_small i event ≡ false
  pub allocs : is_small_alloc event ≡ false
  pub frees : is_small_free g event ≡ false

-- the state after an event alone: its words and errands are the same
abbrev pub told_state : State → Event → State
told_state s event = record { word = s.word; errand = s.errand; history = s.history ++ event ∷ [] }

pub told-ends : (caller : ℕ) (history : List Event) (event : Event) → caller_of event ≡ caller → EndsWith (own caller (history ++ event ∷ [])) event
told-ends caller history event is =
    (own caller history, own-append caller history (event ∷ []) ∙ rw (eq-eqb (caller_of event) caller is) refl)

pub guarded-told : (g : Geometry) (s : State) (event : Event) → IsGuarded g s → IsGuarded g (told_state s event)
guarded-told g s event guarded = record {
  words = guarded.words;
  pushed = λ i other d has has_other k. guarded.pushed i other d has has_other (record { word = k.word; guard = k.guard });
  passed = λ i other d has has_other k. guarded.passed i other d has has_other (record { word = k.word; guard = k.guard });
  unread = guarded.unread;
  full = guarded.full;
}

module _ (g : Geometry) (s : State) (l : Lists) (caller : ℕ) (event : Event) (h : IsTold g caller event) where
  -- the state shows the same superblocks and blocks
  pub told-shows : ShowsSuperblocks g s l (told_state s event) l
  told-shows = grind (arith, pool_of, pool_of-push)

  -- each part of the state stays that another caller's recalls read
  told-part : (i : ℕ) → i ≢ caller → (p : Part) → RestStays g s l (told_state s event) l i p
  told-part i differ (stacks seat p) = λ class. stack-same s l (told_state s event) l seat p refl refl (λ k. refl)
  told-part i differ (availables d) = record {
    emptied = λ so. record { state = so.state; unavailable = so.unavailable; standing = so.standing };
    next = λ on. (on, refl);
  }
  told-part i differ events = told-own i s.history event (λ e. differ (sym e ∙ h.number))
  told-part i differ (single n) = λ said. refl
  told-part i differ p = tt

  -- no errand changes
  pub told-moves : Moves s.errand caller (s.errand caller) s.errand
  told-moves = record { here = refl; elsewhere = λ i differ. refl }

  pub kept-told : caller < g.callers → IsKept g s l → IsKept g (told_state s event) l
  kept-told has kept =
      descs-kept g s caller (s.errand caller) (told_state s event) l l
      (record {
        moves = told-moves;
        descs = descs-show told-shows;
        places = λ d. refl;
        actives = actives-same g s l s.word kept (λ heap class. refl) (λ heap class. refl);
        listed = kept.listed;
        available = kept.available;
        retired = kept.retired caller has;
        own = kept.errand caller has;
      })
      kept

  pub turned-told : IsTurned g s l → IsTurnedBut g (told_state s event) l caller
  turned-told turned = grind (arith, turned, counted-not, counts-stay, gives_small, is_small_alloc, is_small_free, own-counts, refuses_small)

  -- what the others remember stays so
  pub remembered-told : IsSoundWith g s l → OthersRemember g (told_state s event) l caller
  remembered-told old = λ i has differ.
      recalls-stay g s l i (told_state s event) l (s.errand i).point (fits-own g i (s.errand i) (old.formed.errands i has)) (old.remembered.so i has)
      (λ k d lt. shows-part told-shows i _ (told-part i differ _))
