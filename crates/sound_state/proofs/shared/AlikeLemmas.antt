-- A step that changes no superblock, no list and no event: a caller goes on, at most active words and slots change, and at most an EMPTY superblock's descriptor is retired.
use Rattle.std.proofs.Common.{ℕ, ◌≡◌, ◌≢◌, ◌<◌, ◌≤◌, ◌+◌}
use Rattle.sound_state.proofs.Common.{Geometry, WordName, descriptor_count, ErrandFields, State, Moves, errand_frames, on_its_way, Lists, sum_below}
use Rattle.sound_state.proofs.Common.{callers_sum, reserved_of, waiting_of, is_bound, errand_keeps, emptied_out, places_of, IsPlain, IsStocked}
use Rattle.word_table.specs.declared.name.WordName.TheVariants as name
use Rattle.sound_state.proofs.shared.ShownLemmas.{MayGoOn, MayGuard}
use Rattle.sound_state.proofs.shared.SuperblocksStay.{ActivesKept}

-- the state s' shows the same superblocks, lists and events as s
pub record Alike (g : Geometry) (s : State) (l : Lists) (s' : State) : Type 0 where
  pub word : (n : WordName) → IsPlain n → s'.word n ≡ s.word n
  pub history : s'.history ≡ s.history
  pub reserved : (d : ℕ) → reserved_of g s' d ≡ reserved_of g s d
  pub waits : (d : ℕ) → waiting_of g s' d ≡ waiting_of g s d
  pub ways : (d : ℕ) → callers_sum g (errand_keeps on_its_way d) s'.errand ≤ callers_sum g (errand_keeps on_its_way d) s.errand
  pub bound : (d : ℕ) → is_bound g s' l d ≡ is_bound g s l d
  pub places : (d : ℕ) → places_of g s' l d ≡ places_of g s l d
  pub frames : (f : ℕ) → callers_sum g (errand_frames f) s'.errand ≡ callers_sum g (errand_frames f) s.errand
  pub stock : IsStocked g s l → IsStocked g s' l

-- a caller goes on to the errand e, and the state after it shows the same superblocks, lists and events
pub record GoesAlike (g : Geometry) (s : State) (l : Lists) (caller : ℕ) (e : ErrandFields) (s' : State) : Type 0 where
  pub in_heap : caller < g.callers
  pub moves : Moves s.errand caller e s'.errand
  pub alike : Alike g s l s'
  pub may : MayGoOn g s l caller (s.errand caller) e
  pub others : (i : ℕ) → i ≢ caller → s'.word (name.Hazard i) ≡ s.word (name.Hazard i)
  pub guards : MayGuard g s caller e.point e.retired (s'.word (name.Hazard caller))
  pub actives : ActivesKept g s s'.word
  pub emptied :
      sum_below (descriptor_count g) (emptied_out g s' l) + e.cleared
      ≤ sum_below (descriptor_count g) (emptied_out g s l) + (s.errand caller).cleared
