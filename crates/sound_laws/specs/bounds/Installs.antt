-- How many turns callers take, by how often others make a superblock the active one.
use Rattle.std.specs.Prelude.{ℕ, Bool, ◌≡◌, ◌≢◌, ◌<◌, ◌≤◌, ◌+◌, ◌&&◌, not, Some, length, take, drop, count_by, List, All, IsTrue}
use Rattle.heap_geometry.specs.declared.geometry.Geometry.{Geometry}
use Rattle.packed_words.specs.declared.active.ActiveWord.TheVariants.{Null}
use Rattle.packed_words.specs.Active.{active_word}
use Rattle.word_table.specs.declared.name.WordName.{WordName}
use Rattle.word_table.specs.declared.name.WordName.TheVariants as name
use Rattle.errand_steps.specs.Errands.{ErrandFields}
use Rattle.errand_steps.specs.Steps.{State}
use Rattle.sound_laws.specs.bounds.Contention.{is_by, is_against}
use Rattle.errand_steps.specs.tables.Expected.{Expected}
use Rattle.sound_laws.specs.bounds.Expectations.{expects_of}
use Rattle.sound_state.specs.TurnStages.{turn_stage_of, is_seeking, is_offering}
use Rattle.sound_state.specs.Turns.{one_if, gives_small, refuses_small, errand_discards, turn_unanswered}
use Rattle.sound_laws.specs.bounds.Wins.{Win, Wins}

-- whether a win is an install of this caller; of another one; of another one on this word
abbrev pub installs_by : ℕ → Win → Bool
installs_by caller x = x.install && is_by caller x

abbrev pub installs_against : ℕ → Win → Bool
installs_against caller x = x.install && not (is_by caller x)

abbrev pub installs_on : ℕ → WordName → Win → Bool
installs_on caller word x = x.install && is_against caller word x

-- 1 where the caller has popped a block and offers what it reserved beside
abbrev pub errand_offers : ErrandFields → ℕ
errand_offers e = one_if (is_offering (turn_stage_of e.point))

-- the word is an active word
abbrev pub IsActiveName : WordName → Type 0
IsActiveName (name.Active heap class) = Unit {0}
IsActiveName n = ⊥

-- how many turns a caller may have taken, by its events, its turn that awaits an answer, and so many installs of others
abbrev pub turns_allowed : State → ℕ → ℕ → ℕ
turns_allowed s caller installs =
    count_by (gives_small caller) s.history + count_by (refuses_small caller) s.history + installs
    + turn_unanswered (s.errand caller)

-- another caller has installed on an active word since there were so many wins, where a caller expects it to be null and it isn't
abbrev pub IsInstalledSince : State → List Win → ℕ → ℕ → Expected → Type 0
IsInstalledSince s list caller wins e =
    IsActiveName e.word → e.value ≡ active_word Null → s.word e.word ≢ e.value → 0 < count_by (installs_on caller e.word) (drop wins list)

-- a caller found no superblock active when there were so many wins, in the turn that it is in: it takes no more turns than the installs before allow; what it expects of an active word is so, or another has installed since; and another has where it lost its own install
pub record HoldsSince (s : State) (w : Wins) (caller wins : ℕ) : Type 0 where
  pub past : wins ≤ length w.list
  pub turns : (s.errand caller).turns ≤ turns_allowed s caller (count_by (installs_against caller) (take wins w.list))
  pub installed : All (IsInstalledSince s w.list caller wins) (expects_of (s.errand caller).point)
  pub discards : errand_discards (s.errand caller) ≤ count_by (installs_against caller) (drop wins w.list)

-- a caller installs at most as often as it is given a small block, and takes a turn beyond what it is given or refused only where another installed
pub record IsInstalled (g : Geometry) (s : State) (w : Wins) : Type 0 where
  pub own :
      (caller : ℕ) → caller < g.callers
      → count_by (installs_by caller) w.list + errand_offers (s.errand caller) ≤ count_by (gives_small caller) s.history
  pub turns :
      (caller : ℕ) → caller < g.callers
      → (s.errand caller).turns ≤ turns_allowed s caller (count_by (installs_against caller) w.list)
  pub found :
      (caller : ℕ) → caller < g.callers → IsTrue (is_seeking (turn_stage_of (s.errand caller).point))
      → (wins : ℕ) × (w.found_none caller ≡ Some wins)
  pub since : (caller wins : ℕ) → caller < g.callers → w.found_none caller ≡ Some wins → HoldsSince s w caller wins
