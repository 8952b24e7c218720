-- What callers win from each other, and what each of them has noted of that.
use Rattle.std.specs.Prelude.{ℕ, Bool, true, false, ◌==◌, ◌&&◌, if◌then◌else◌, Option, Some, None, List, [], ◌++◌, length, option_to_list}
use Rattle.packed_words.specs.declared.active.ActiveWord.TheVariants.{Null}
use Rattle.packed_words.specs.Active.{active_word}
use Rattle.word_table.specs.declared.action.Action.{Action}
use Rattle.word_table.specs.declared.action.Action.TheVariants.{Cas}
use Rattle.word_table.specs.declared.action.Found.{Found}
use Rattle.word_table.specs.declared.name.WordName.{WordName}
use Rattle.word_table.specs.declared.name.WordName.TheVariants.{Arena, Anchor, Next, Info, Active, Slot, ListHead, FrameNext, FrameHead, DescHead, Hazard, Units, Shelf}
use Rattle.step_parts.specs.declared.superblock.point.BlockPoint.TheVariants as block
use Rattle.errand_steps.specs.declared.point.Point.{Point}
use Rattle.errand_steps.specs.declared.point.Point.TheVariants as point
use Rattle.errand_steps.specs.Errands.{settle_of, counts_won, is_lost_exchange}
use Rattle.errand_steps.specs.Steps.{State, action_at, name_at, found_at}
use Rattle.errand_steps.specs.tables.Blocks.{is_offer}

-- a change that a caller won: an exchange of two numbers that differ, a swap or an and; and whether it made a superblock the active one
pub record Win : Type 0 where
  pub caller : ℕ
  pub word : WordName
  pub install : Bool

-- the wins, and what each caller has noted of them: how many there were at a moment
pub record Wins : Type 0 where
  -- all wins so far, the oldest first
  pub list : List Win
  -- when a caller last saw or changed a word, unless its own exchange there was lost since
  pub noted : ℕ → WordName → Option ℕ
  -- when a caller found no superblock active, in the turn that it is in
  pub found_none : ℕ → Option ℕ

-- whether two names are the same
abbrev pub same_name : WordName → WordName → Bool
same_name (Arena i) (Arena j) = i == j
same_name (Anchor d) (Anchor e) = d == e
same_name (Next d) (Next e) = d == e
same_name (Info d) (Info e) = d == e
same_name (Active h c) (Active k b) = (h == k) && (c == b)
same_name (Slot h c) (Slot k b) = (h == k) && (c == b)
same_name (ListHead c) (ListHead b) = c == b
same_name (FrameNext f) (FrameNext e) = f == e
same_name FrameHead FrameHead = true
same_name DescHead DescHead = true
same_name (Hazard i) (Hazard j) = i == j
same_name Units Units = true
same_name (Shelf i) (Shelf j) = i == j
same_name m n = false

abbrev pub offers : Point → Bool
offers (point.Block p o) = is_offer p
offers p = false

-- what a caller wins by its next step, if anything; and the list of wins after it
abbrev pub win_at : State → ℕ → Option Win
win_at s caller =
    if counts_won (action_at s caller) (found_at s caller)
    then Some (record { caller = caller; word = name_at s caller; install = offers (s.errand caller).point })
    else None

abbrev pub win_list_after : State → ℕ → List Win → List Win
win_list_after s caller list = list ++ option_to_list (win_at s caller)

-- whether the action is an exchange of a number for itself, which changes nothing
abbrev pub is_self_exchange : Action → Bool
is_self_exchange (Cas word expected new) = expected == new
is_self_exchange action = false

-- what a caller notes of its step's word: nothing where it lost, nothing new by a self-exchange, else that it sees or changes it now
abbrev pub note_at : State → ℕ → ℕ → Option ℕ → Option ℕ
note_at s caller wins old =
    if is_lost_exchange (action_at s caller) (found_at s caller)
    then None
    else (if is_self_exchange (action_at s caller) then old else Some wins)

-- whether the point is between turns: the caller's turn has ended there, or begins there
abbrev pub is_between : Point → Bool
is_between point.Idle = true
is_between (point.Block (block.LoadActive s) o) = true
is_between p = false

-- what a caller notes of finding no superblock active: at a load of an active word whether it finds that now; else what it noted before
abbrev pub found_none_by : Point → Found → ℕ → Option ℕ → Option ℕ
found_none_by (point.Block (block.LoadActive s) o) x wins old = if x.value == active_word Null then Some wins else None
found_none_by p x wins old = old

abbrev pub found_none_after : State → ℕ → ℕ → Option ℕ → Option ℕ
found_none_after s caller wins old =
    if is_between (settle_of (s.errand caller) (found_at s caller)).point
    then None
    else found_none_by (s.errand caller).point (found_at s caller) wins old

-- the wins and the notes after a caller's next step
abbrev pub wins_after : State → ℕ → Wins → Wins
wins_after s caller w =
    let list = win_list_after s caller w.list in
    let now = length list in record {
      list = list;
      noted = λ other word. if (other == caller) && same_name word (name_at s caller) then note_at s caller now (w.noted caller word) else w.noted other word;
      found_none = λ other. if other == caller then found_none_after s caller now (w.found_none caller) else w.found_none other;
    }

-- nothing is won or noted yet
abbrev pub no_wins : Wins
no_wins = record { list = []; noted = λ caller word. None; found_none = λ caller. None }
