-- What the outcomes of lanes give and free, block by block.
use Rattle.std.specs.Prelude.{ℕ, ◌+◌, ◌-◌, ◌^◌, ◌<◌, ◌≡◌, ◌∷◌, List, [], Option, Some, None, length, min, replicate}
use Rattle.std.specs.List.{AllByRecursion}
use Rattle.trace_text.specs.declared.limits.TheConstants.{REGISTERS}
use Rattle.trace_text.specs.declared.trace.Op.{Op}
use Rattle.lane_outcomes.specs.declared.registers.HeldBlock.{HeldBlock}
use Rattle.lane_outcomes.specs.declared.outcome.Outcome.{Outcome}
use Rattle.lane_outcomes.specs.declared.live.Amount.{Amount}
use Rattle.trace_text.specs.Operations.{register_of}
use Rattle.lane_outcomes.specs.Deeds.{deed_of, freed_by, given_by}
use Rattle.lane_outcomes.specs.Lane.{held_in, registers_after}

-- the words of the block that an operation was given
abbrev pub words_given : Op → Outcome → Option ℕ
words_given operation result = given_by (deed_of operation result)

-- the words of the block that an operation freed
abbrev pub words_freed : List (Option HeldBlock) → Op → Outcome → Option ℕ
words_freed registers operation result = freed_by (held_in registers (register_of operation)) (deed_of operation result)

-- what a block counts, if there is one, where one of so many words counts as `f` says
abbrev pub count_with : (ℕ → ℕ) → Option ℕ → ℕ
count_with f None = 0
count_with f (Some words) = f words

-- each block counts as one, or as its words
abbrev pub as_one : ℕ → ℕ
as_one words = 1

abbrev pub as_words : ℕ → ℕ
as_words words = words

-- what a lane's blocks count that it was given
abbrev pub lane_given : (ℕ → ℕ) → List Op → List Outcome → ℕ
lane_given f [] results = 0
lane_given f (operation ∷ operations) [] = 0
lane_given f (operation ∷ operations) (result ∷ results) = count_with f (words_given operation result) + lane_given f operations results

-- what a lane's blocks count that it freed, from these registers on
abbrev pub lane_freed : (ℕ → ℕ) → List (Option HeldBlock) → List Op → List Outcome → ℕ
lane_freed f registers [] results = 0
lane_freed f registers (operation ∷ operations) [] = 0
lane_freed f registers (operation ∷ operations) (result ∷ results) =
    count_with f (words_freed registers operation result) + lane_freed f (registers_after registers operation result) operations results

-- what the blocks count that all lanes were given; what those count that they freed
abbrev pub lanes_given : (ℕ → ℕ) → List (List Op) → List (List Outcome) → ℕ
lanes_given f [] outcomes = 0
lanes_given f (operations ∷ lanes) [] = 0
lanes_given f (operations ∷ lanes) (results ∷ outcomes) = lane_given f operations results + lanes_given f lanes outcomes

abbrev pub lanes_freed : (ℕ → ℕ) → List (List Op) → List (List Outcome) → ℕ
lanes_freed f [] outcomes = 0
lanes_freed f (operations ∷ lanes) [] = 0
lanes_freed f (operations ∷ lanes) (results ∷ outcomes) =
    lane_freed f (replicate REGISTERS None) operations results + lanes_freed f lanes outcomes

-- what the blocks count that lanes were given, less what those count that they freed; each of the two is at most the greatest number of 128 bits,
-- and the difference at most `most`
abbrev pub live_of : (ℕ → ℕ) → ℕ → List (List Op) → List (List Outcome) → ℕ
live_of f most lanes outcomes = min (min (lanes_given f lanes outcomes) (2 ^ 128 - 1) - min (lanes_freed f lanes outcomes) (2 ^ 128 - 1)) most

-- the outcomes of each lane are as many as memory can hold
abbrev pub AreHeld : List (List Outcome) → Type 0
AreHeld outcomes = AllByRecursion (λ results. length results < 2 ^ 64) outcomes

-- a number has grown by so much, or both it and what it should be are past the most that is counted
abbrev pub Grows : ℕ → ℕ → ℕ → Type 0
Grows old new more = min new (2 ^ 128 - 1) ≡ min (old + more) (2 ^ 128 - 1)

-- the number of blocks and that of their words have grown by so much, or are past the most that is counted
pub record GrowsBy (old new : Amount) (blocks words : ℕ) : Type 0 where
  pub blocks_grow : Grows old.blocks new.blocks blocks
  pub words_grow : Grows old.words new.words words
