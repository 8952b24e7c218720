-- How far a caller that moves alone is from the end of its call.
use Rattle.std.specs.Prelude.{ℕ, zero, suc, Bool, ◌+◌, ◌-◌, ◌*◌, ◌==◌, ◌&&◌, not, if◌then◌else◌, List, [], ◌∷◌}
use Rattle.std.specs.List.{list_any}
use Rattle.heap_geometry.specs.declared.geometry.Geometry.{Geometry}
use Rattle.heap_geometry.specs.declared.limits.TheConstants.{CALL_STEPS}
use Rattle.word_table.specs.declared.name.WordName.{WordName}
use Rattle.word_table.specs.declared.name.WordName.TheVariants as name
use Rattle.word_table.specs.Counts.{word_count, descriptor_count}
use Rattle.word_table.specs.Table.{word_name}
use Rattle.word_table.specs.Occurs.{occurs}
use Rattle.step_parts.specs.superblock.Points.{seat_of_block}
use Rattle.step_parts.specs.declared.stack.point.Pile.TheVariants.{Partials}
use Rattle.step_parts.specs.stack.Points.{seat_of_stack}
use Rattle.step_parts.specs.stack.Stacks.{next_in}
use Rattle.step_parts.specs.hazard.Points.{seat_of_desc}
use Rattle.step_parts.specs.partial.Grants.{is_empty}
use Rattle.step_parts.specs.partial.Points.{seat_of_partial}
use Rattle.errand_steps.specs.declared.point.Point.{Point}
use Rattle.errand_steps.specs.declared.point.Point.TheVariants.{Idle, Block, Stack, Desc, Partial, Large}
use Rattle.errand_steps.specs.Steps.{State}
use Rattle.errand_steps.specs.tables.Expected.{Expected}
use Rattle.sound_laws.specs.bounds.Expectations.{expects_of}
use Rattle.sound_state.specs.TurnStages.{in_turn}
use Rattle.sound_laws.specs.bounds.StepsLeft.{steps_left}
use Rattle.sound_state.specs.Sums.{sum_below, callers_sum}
use Rattle.sound_state.specs.Superblocks.{anchor_for, info_for, errand_away}
use Rattle.sound_state.specs.Turns.{one_if}
use Rattle.sound_laws.specs.bounds.Wins.{same_name}

-- a word is stale for a caller: it expects another number there than the word says
abbrev pub is_stale_by : State → WordName → Expected → Bool
is_stale_by s word e = same_name e.word word && not (s.word word == e.value)

abbrev pub is_stale : State → ℕ → WordName → Bool
is_stale s caller word = list_any (is_stale_by s word) (expects_of (s.errand caller).point)

-- how many words of the table are stale for a caller
abbrev pub stale_words : Geometry → State → ℕ → ℕ
stale_words g s caller = sum_below (word_count g) (λ k. one_if (is_stale s caller (word_name g k)))

-- the indices that the next words lead through from a top on, at most so many: each is named by its index plus 1, and 0 ends them
abbrev pub led_from : (ℕ → ℕ) → ℕ → ℕ → List ℕ
led_from next zero top = []
led_from next (suc most) top = if top == 0 then [] else (top - 1) ∷ led_from next most (next (top - 1))

-- the available descriptors, from the top one on
abbrev pub available_in : Geometry → State → List ℕ
available_in g s = led_from (next_in s.word Partials) (descriptor_count g) (s.word name.DescHead)

-- how often descriptor d is available, retired, or on its way
abbrev pub away_in : Geometry → State → ℕ → ℕ
away_in g s d = occurs d (available_in g s) + callers_sum g (errand_away d) s.errand

-- 1 where descriptor d is not available, retired or on its way, and its superblock is EMPTY and of this class
abbrev pub empty_for : Geometry → State → ℕ → ℕ → ℕ
empty_for g s class d = one_if ((away_in g s d == 0) && (is_empty (anchor_for s d).state && ((info_for s d).class == class)))

-- how many EMPTY superblocks' descriptors are out for a class
abbrev pub emptied_for : Geometry → State → ℕ → ℕ
emptied_for g s class = sum_below (descriptor_count g) (empty_for g s class)

-- the class of the blocks that a caller is at work on
abbrev pub class_at : Point → ℕ
class_at Idle = 0
class_at (Block p o) = (seat_of_block p).class
class_at (Stack p o) = (seat_of_stack p).class
class_at (Desc p o) = (seat_of_desc p).class
class_at (Partial p o) = (seat_of_partial p).class
class_at (Large p o) = 0

-- how many empty superblocks a caller may still clear: in a turn those that are out for its class, else none
abbrev pub clearings : Geometry → State → ℕ → ℕ
clearings g s caller = if in_turn (s.errand caller).point then emptied_for g s (class_at (s.errand caller).point) else 0

-- how many steps a caller makes at most until its call ends, where no other caller moves
abbrev pub alone_left : Geometry → State → ℕ → ℕ
alone_left g s caller = (stale_words g s caller + clearings g s caller) * CALL_STEPS + steps_left g (s.errand caller).point
