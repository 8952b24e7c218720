-- How often callers lose, by how often others win.
use Rattle.std.specs.Prelude.{ℕ, Bool, false, ◌≡◌, ◌<◌, ◌≤◌, ◌+◌, ◌-◌, ◌*◌, ◌^◌, ◌==◌, ◌&&◌, ◌⊎◌, not, nat_lt, min, Option, Some, None, List, length, drop, count_by, All, IsTrue}
use Rattle.heap_geometry.specs.declared.geometry.Geometry.{Geometry}
use Rattle.word_table.specs.declared.name.WordName.{WordName}
use Rattle.word_table.specs.Counts.{word_count}
use Rattle.word_table.specs.Table.{word_name}
use Rattle.errand_steps.specs.Errands.{ErrandFields}
use Rattle.errand_steps.specs.Steps.{State}
use Rattle.errand_steps.specs.tables.Expected.{Expected}
use Rattle.sound_laws.specs.bounds.Expectations.{expects_of}
use Rattle.sound_state.specs.Sums.{sum_below, callers_sum}
use Rattle.sound_state.specs.Turns.{one_if}
use Rattle.sound_laws.specs.bounds.Wins.{Win, Wins, same_name}

-- whether a win is this caller's; whether it is another caller's, on this word
abbrev pub is_by : ℕ → Win → Bool
is_by caller x = x.caller == caller

abbrev pub is_against : ℕ → WordName → Win → Bool
is_against caller word x = not (is_by caller x) && same_name x.word word

-- another caller has won on the word since the note
abbrev pub dirty_since : List Win → ℕ → WordName → Option ℕ → Bool
dirty_since list caller word None = false
dirty_since list caller word (Some wins) = nat_lt 0 (count_by (is_against caller word) (drop wins list))

abbrev pub is_dirty : Wins → ℕ → WordName → Bool
is_dirty w caller word = dirty_since w.list caller word (w.noted caller word)

abbrev pub IsDirty : Wins → ℕ → WordName → Type 0
IsDirty w caller word = IsTrue (is_dirty w caller word)

-- how many callers are dirty on a word; how many pairs of a caller and a word of the table are dirty
abbrev pub dirty_on : Geometry → Wins → WordName → ℕ
dirty_on g w word = sum_below g.callers (λ caller. one_if (is_dirty w caller word))

abbrev pub dirty_pairs : Geometry → Wins → ℕ
dirty_pairs g w = sum_below (word_count g) (λ k. dirty_on g w (word_name g k))

abbrev pub lost_of : ErrandFields → ℕ
lost_of e = e.lost

abbrev pub won_of : ErrandFields → ℕ
won_of e = e.won

-- what a caller expects of a word: it has noted the word, which is as expected, or another caller has won there since
pub record IsExpected (s : State) (w : Wins) (caller : ℕ) (e : Expected) : Type 0 where
  pub wins : ℕ
  pub noted : w.noted caller e.word ≡ Some wins
  pub so : (s.word e.word ≡ e.value) ⊎ IsDirty w caller e.word

-- the wins are the callers', as they count them; no note is of wins to come; and what callers expect they have noted
pub record IsNoted (g : Geometry) (s : State) (w : Wins) : Type 0 where
  pub callers : All (λ x. x.caller < g.callers) w.list
  pub won : (caller : ℕ) → caller < g.callers → (s.errand caller).won ≡ min (count_by (is_by caller) w.list) (2 ^ 64 - 1)
  pub past : (caller : ℕ) (word : WordName) (wins : ℕ) → w.noted caller word ≡ Some wins → wins ≤ length w.list
  pub expected : (caller : ℕ) → caller < g.callers → All (IsExpected s w caller) (expects_of (s.errand caller).point)

-- the dirty pairs and the lost exchanges together are at most the wins times the callers but one
pub record IsContended (g : Geometry) (s : State) (w : Wins) : Type 0 where
  pub most : dirty_pairs g w + callers_sum g lost_of s.errand ≤ (g.callers - 1) * length w.list
