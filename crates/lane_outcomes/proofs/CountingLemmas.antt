-- Counting what outcomes give and free, one after another.
use Rattle.std.proofs.Common.{ℕ, ◌≡◌, ◌+◌, ◌-◌, ◌^◌, ◌<◌, ◌≤◌, List, [], ◌∷◌, Option, None, replicate, map, min, length, drop, get_or, refl, arith}
use Rattle.std.proofs.lemmas.List.{drop_more}
use Rattle.std.proofs.Math.ListN.{drop_of_length-le}
use Rattle.trace_text.specs.declared.limits.TheConstants.{REGISTERS}
use Rattle.trace_text.specs.declared.trace.Op.{Op}
use Rattle.lane_outcomes.specs.declared.registers.HeldBlock.{HeldBlock}
use Rattle.lane_outcomes.specs.declared.outcome.Outcome.{Outcome}
use Rattle.lane_outcomes.specs.declared.live.Amount.{Amount}
use Rattle.lane_outcomes.specs.LaneCounts.{lane_given, lane_freed, lanes_given, lanes_freed, GrowsBy}

-- what is counted so far, with what is left, makes the whole
pub record IsCounting (start now : Amount) (blocks_left words_left blocks words : ℕ) : Type 0 where
  pub blocks_remain : min (now.blocks + blocks_left) (2 ^ 128 - 1) ≡ min (start.blocks + blocks) (2 ^ 128 - 1)
  pub words_remain : min (now.words + words_left) (2 ^ 128 - 1) ≡ min (start.words + words) (2 ^ 128 - 1)

pub counting-start : (start : Amount) (blocks words : ℕ) → IsCounting start start blocks words blocks words
counting-start start blocks words = record { blocks_remain = refl; words_remain = refl }

pub counting-more :
    (start now next : Amount) (blocks_more words_more blocks_left words_left blocks_less words_less blocks words : ℕ)
    → IsCounting start now blocks_left words_left blocks words → GrowsBy now next blocks_more words_more
    → blocks_left ≡ blocks_more + blocks_less → words_left ≡ words_more + words_less
    → IsCounting start next blocks_less words_less blocks words
counting-more start now next blocks_more words_more blocks_left words_left blocks_less words_less blocks words so_far grown blocks_is words_is =
    record {
      blocks_remain = omega (arith, grown.blocks_grow, blocks_is, so_far.blocks_remain);
      words_remain = omega (arith, grown.words_grow, words_is, so_far.words_remain);
    }

pub counting-end :
    (start now : Amount) (blocks_left words_left blocks words : ℕ) → IsCounting start now blocks_left words_left blocks words
    → blocks_left ≡ 0 → words_left ≡ 0 → GrowsBy start now blocks words
counting-end start now blocks_left words_left blocks words so_far no_blocks no_words =
    record {
      blocks_grow = omega (arith, no_blocks, so_far.blocks_remain);
      words_grow = omega (arith, no_words, so_far.words_remain);
    }

-- nothing is given where the operations or the outcomes are at their end
lane_given-none : (f : ℕ → ℕ) (operations : List Op) → lane_given f operations [] ≡ 0
lane_given-none f [] = refl
lane_given-none f (operation ∷ operations) = refl

lane_freed-none : (f : ℕ → ℕ) (registers : List (Option HeldBlock)) (operations : List Op) → lane_freed f registers operations [] ≡ 0
lane_freed-none f registers [] = refl
lane_freed-none f registers (operation ∷ operations) = refl

pub lane_given-past : (f : ℕ → ℕ) (operations : List Op) (results : List Outcome) (k : ℕ) → length results ≤ k → lane_given f (drop k operations) (drop k results) ≡ 0
lane_given-past f operations results k past = rw (drop_of_length-le results past) (lane_given-none f (drop k operations))

pub lane_freed-past :
    (f : ℕ → ℕ) (registers : List (Option HeldBlock)) (operations : List Op) (results : List Outcome) (k : ℕ) → length results ≤ k
    → lane_freed f registers (drop k operations) (drop k results) ≡ 0
lane_freed-past f registers operations results k past = rw (drop_of_length-le results past) (lane_freed-none f registers (drop k operations))

-- what lanes are given from one on: what that one is given, and what the others are
pub lanes_given-drop :
    {X Y : Type 0} (f : ℕ → ℕ) (h : X → List Op) (e : Y → List Outcome) (lanes : List X) (outcomes : List Y) (k : ℕ) (lane : X) (ran : Y)
    (operations : List Op) (results : List Outcome) → k < length lanes → k < length outcomes → lane ≡ get_or lanes k lane → ran ≡ get_or outcomes k ran
    → operations ≡ h lane → results ≡ e ran
    → lanes_given f (map h (drop k lanes)) (map e (drop k outcomes))
    ≡ lane_given f operations results + lanes_given f (map h (drop (k + 1) lanes)) (map e (drop (k + 1) outcomes))
lanes_given-drop f h e lanes outcomes k lane ran operations results within inside lane_is ran_is ops_are results_are =
    rw (drop_more lanes k lane within, drop_more outcomes k ran inside, ← lane_is, ← ran_is, ops_are, results_are) refl

pub lanes_freed-drop :
    {X Y : Type 0} (f : ℕ → ℕ) (h : X → List Op) (e : Y → List Outcome) (lanes : List X) (outcomes : List Y) (k : ℕ) (lane : X) (ran : Y)
    (operations : List Op) (results : List Outcome) → k < length lanes → k < length outcomes → lane ≡ get_or lanes k lane → ran ≡ get_or outcomes k ran
    → operations ≡ h lane → results ≡ e ran
    → lanes_freed f (map h (drop k lanes)) (map e (drop k outcomes))
    ≡ lane_freed f (replicate REGISTERS None) operations results + lanes_freed f (map h (drop (k + 1) lanes)) (map e (drop (k + 1) outcomes))
lanes_freed-drop f h e lanes outcomes k lane ran operations results within inside lane_is ran_is ops_are results_are =
    rw (drop_more lanes k lane within, drop_more outcomes k ran inside, ← lane_is, ← ran_is, ops_are, results_are) refl

lanes_given-none : (f : ℕ → ℕ) (lanes : List (List Op)) → lanes_given f lanes [] ≡ 0
lanes_given-none f [] = refl
lanes_given-none f (operations ∷ lanes) = refl

lanes_freed-none : (f : ℕ → ℕ) (lanes : List (List Op)) → lanes_freed f lanes [] ≡ 0
lanes_freed-none f [] = refl
lanes_freed-none f (operations ∷ lanes) = refl

pub lanes_given-past :
    {Y : Type 0} (f : ℕ → ℕ) (e : Y → List Outcome) (lanes : List (List Op)) (outcomes : List Y) (k : ℕ) → length outcomes ≤ k
    → lanes_given f lanes (map e (drop k outcomes)) ≡ 0
lanes_given-past f e lanes outcomes k past = rw (drop_of_length-le outcomes past) (lanes_given-none f lanes)

pub lanes_freed-past :
    {Y : Type 0} (f : ℕ → ℕ) (e : Y → List Outcome) (lanes : List (List Op)) (outcomes : List Y) (k : ℕ) → length outcomes ≤ k
    → lanes_freed f lanes (map e (drop k outcomes)) ≡ 0
lanes_freed-past f e lanes outcomes k past = rw (drop_of_length-le outcomes past) (lanes_freed-none f lanes)
