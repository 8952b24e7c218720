-- Runs with the replies that end calls in them.
use Rattle.std.specs.Prelude.{ℕ, ◌≡◌, ◌<◌, ◌+◌, if◌then◌else◌, List, [], ◌∷◌, ◌++◌, length, take}
use Rattle.errand_steps.specs.declared.reply.Progress.{Progress}
use Rattle.errand_steps.specs.declared.reply.Progress.TheVariants.{Idle, More, Lost, Cleared, Done}
use Rattle.errand_steps.specs.declared.reply.Reply.{Reply}
use Rattle.errand_steps.specs.Errands.{answer_of}
use Rattle.errand_steps.specs.Points.{is_idle}
use Rattle.errand_steps.specs.Steps.{State, ScheduleSlot, found_at}

-- the reply with which a step ends its caller's call, with the caller, if it does
abbrev pub ended_by : ℕ → Progress → List (ℕ × Reply)
ended_by caller Idle = []
ended_by caller More = []
ended_by caller Lost = []
ended_by caller Cleared = []
ended_by caller (Done reply) = (caller, reply) ∷ []

-- the reply, with the caller, that ends the caller's call in its slot of a schedule, if one does
abbrev pub replied_in : State → ℕ → List (ℕ × Reply)
replied_in s caller = if is_idle (s.errand caller).point then [] else ended_by caller (answer_of (s.errand caller) (found_at s caller))

-- slots of these callers, one after the other, which make so many steps and end calls with these replies
abbrev pub RunReplies : State → List ℕ → ℕ → List (ℕ × Reply) → State → Type 0
RunReplies s [] n replies s' = (n ≡ 0) × (replies ≡ []) × (s' ≡ s)
RunReplies s (caller ∷ rest) n replies s' =
    (next : State) × (first : ℕ) × (others : ℕ) × (later : List (ℕ × Reply)) × ScheduleSlot s caller first next
    × RunReplies next rest others later s' × (n ≡ first + others) × (replies ≡ replied_in s caller ++ later)

-- the second list is the first one with the replies of a run of these callers behind it
abbrev pub Replies : State → List ℕ → ℕ → List (ℕ × Reply) → List (ℕ × Reply) → State → Type 0
Replies s callers n before after s' =
    (replies : List (ℕ × Reply)) × RunReplies s callers n replies s' × (after ≡ before ++ replies)

-- the second list adds the replies of a run of a beginning of these callers, but not of all of them
abbrev pub RepliesPart : State → List ℕ → ℕ → List (ℕ × Reply) → List (ℕ × Reply) → State → Type 0
RepliesPart s callers n before after s' =
    (turns : ℕ) × (turns < length callers) × Replies s (take turns callers) n before after s'
